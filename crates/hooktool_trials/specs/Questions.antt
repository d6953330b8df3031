-- The question that the options of a command ask.
use Rattle.std.specs.Prelude.{◌≡◌, ◌+◌, ◌^◌, ◌≤◌, ℕ, zero, suc, List, []}
use Rattle.std.specs.Prelude.{Option, Some, None, bit_or, codes}
use Rattle.clap.specs.Walk.{Row, Text, all_of, first_of}
use Rattle.words.specs.declared.route.TableRow.{TableRow}
use Rattle.hooktool_trials.specs.declared.asked.Asked.{Asked}
use Rattle.hooktool_trials.specs.Words.{AreRows, AreSettings, IsNoPacket, IsNumber}
use Rattle.hooktool_trials.specs.Words.{IsPacket, IsPrefix, OrElse}
use Rattle.hooktool_trials.specs.Words.{everything, kind_word, type_word}
use Rattle.hooktool_trials.specs.declared.numbers.Numbers.{Numbers}
use Rattle.hooktool_trials.specs.declared.places.Places.{Places}
use Rattle.hooktool_trials.specs.declared.requests.Question.{Question}
use Rattle.hooktool_trials.specs.declared.settings.Setting.{Setting}
use Rattle.words.specs.declared.route.ExternalType.TheVariants.{Type2}
use Rattle.words.specs.declared.route.RouteKind.TheVariants.{Intra}

-- the number of an option: the usual one if it isn't given
abbrev pub HasNumber : List Row → (name : Text) → (usual least most : ℕ) → ℕ → Type 0
HasNumber rows name usual least most n =
    OrElse (first_of name rows) (n ≡ usual) (λ word. IsNumber least most word n)

-- one of 32 bits, or 0
abbrev pub HasWide : List Row → (name : Text) → ℕ → Type 0
HasWide rows name n = HasNumber rows name 0 0 4294967295 n

-- A moment of the router's lies below 2^62, and an interface below 64, also the last next hop's.
pub record HasNumbers (rows : List Row) (numbers : Numbers) : Type 0 where
  pub metric : HasWide rows (codes "metric") numbers.metric
  pub tag : HasWide rows (codes "tag") numbers.tag
  pub cost : HasWide rows (codes "cost") numbers.cost
  pub distance : HasWide rows (codes "distance") numbers.distance
  pub moment : HasNumber rows (codes "moment") 0 0 4611686018427387903 numbers.moment
  pub interface : HasNumber rows (codes "interface") 0 0 63 numbers.interface
  pub next_hops : HasNumber rows (codes "next-hops") 1 1 64 numbers.next_hops
  pub room : numbers.interface + numbers.next_hops ≤ 64

pub record HasPlaces (rows : List Row) (places : Places) : Type 0 where
  pub prefix : OrElse (first_of (codes "prefix") rows) (places.prefix ≡ everything)
      (λ word. IsPrefix word places.prefix)
  pub external : OrElse (first_of (codes "type") rows) (places.external ≡ Type2)
      (λ word. word ≡ type_word places.external)
  pub kind : OrElse (first_of (codes "kind") rows) (places.kind ≡ Intra)
      (λ word. word ≡ kind_word places.kind)

-- the set of `count` interfaces from the first on
abbrev pub hops_from : (first count : ℕ) → ℕ
hops_from first zero = 0
hops_from first (suc n) = bit_or (hops_from first n) (2 ^ (first + n))

-- the question of both: the route leaves by the number of interfaces that is asked for, from the
-- named one on
abbrev pub asked_of : Places → Numbers → Asked
asked_of places numbers = record {
  prefix = places.prefix;
  metric = numbers.metric;
  tag = numbers.tag;
  external = places.external;
  kind = places.kind;
  cost = numbers.cost;
  distance = numbers.distance;
  hops = hops_from numbers.interface numbers.next_hops;
  interface = numbers.interface;
  moment = numbers.moment;
}

abbrev pub HasRows : Option (List Text) → List TableRow → Type 0
HasRows None rows = rows ≡ []
HasRows (Some words) rows = AreRows words rows

-- what is added to counters or stored in cells before
abbrev pub HasSettings : Option (List Text) → (places most : ℕ) → List Setting → Type 0
HasSettings None places most settings = settings ≡ []
HasSettings (Some words) places most settings = AreSettings places most words settings

-- what is asked, but for the packet, the rows and the settings, and how many times
pub record HasAsked (rows : List Row) (question : Asked) (runs : ℕ) : Type 0 where
  pub places : Places
  pub numbers : Numbers
  pub named : HasPlaces rows places
  pub counted : HasNumbers rows numbers
  pub asked : question ≡ asked_of places numbers
  pub times : HasNumber rows (codes "times") 1 1 1000 runs

pub record HasQuestion (rows : List Row) (question : Question) : Type 0 where
  pub asked : HasAsked rows question.asked question.times
  pub packet : OrElse (first_of (codes "packet") rows) (IsNoPacket question.packet)
      (λ word. IsPacket word question.packet)
  pub table : HasRows (all_of (codes "row") rows) question.rows.items
  pub counters : HasSettings (all_of (codes "counter") rows) 256 16777215 question.counters.items
  pub cells : HasSettings (all_of (codes "cell") rows) 64 18446744073709551615 question.cells.items
