-- The lines of a text, in turn.
use Rattle.std.proofs.Common.{◌≡◌, ◌≢◌, ℕ, ◌+◌, ◌<◌, ◌≤◌, zero, suc, List, [], ◌∷◌, ◌++◌, length}
use Rattle.std.proofs.Common.{take, Bool, true, false, not, ◌||◌, eqb, refl, sym, ap, ◌∙◌, subst}
use Rattle.std.proofs.Common.{arith}
use Rattle.std.specs.Prelude.{map, ◌==◌}
use Rattle.std.specs.List.{list_any}
use Rattle.std.proofs.lemmas.Bool.{ne_eqb, and_parts, not-true}
use Rattle.event_rules.specs.Routers.{are_distinct}
use Rattle.std.proofs.Common.{Some, get_or}
use Rattle.std.specs.Prelude.{slice_get, Result, Err}
use Rattle.console.specs.declared.configuration.ConfigurationError.{ConfigurationError}
use Rattle.console.specs.declared.configuration.ConfigurationError.TheVariants as errors
use Rattle.std.proofs.lemmas.List.{take_more}
use denote.Ref.{Bor}
use Rattle.words.specs.Constants.{max_interfaces}
use Rattle.words.specs.Text.{prefix_text}
use Rattle.console.specs.Configurations.{Line, SayInterfaces, SaysInterface, AreApart, IsFirstWrong}
use Rattle.console.specs.Configurations.{MayFollow, interface_of, without_last_feed}
use Rattle.console.specs.Words.{Word}
use Rattle.console.specs.Views.{views}
use Rattle.words.proofs.Addresses.{one_place}
use Rattle.console.proofs.Seen.{view_at}
use Rattle.console.specs.declared.configuration.ConfiguredInterface.{ConfiguredInterface}
use Rattle.adjacency.specs.declared.interface.Interface.{Interface}

-- ---- the last line feed

pub ended : (front : List ℕ) → without_last_feed (front ++ 10 ∷ []) ≡ front
ended [] = refl
ended (x ∷ []) = refl
ended (x ∷ y ∷ rest) = ap (λ (tail : List ℕ). x ∷ tail) (ended (y ∷ rest))

pub unended : (w : List ℕ) → ((front : List ℕ) → w ≢ front ++ 10 ∷ []) → without_last_feed w ≡ w
unended [] h = refl
unended (c ∷ []) h = rw (ne_eqb c 10 (λ e. h [] (ap (λ d. d ∷ []) e))) refl
unended (c ∷ d ∷ rest) h = ap (λ (tail : List ℕ). c ∷ tail)
    (unended (d ∷ rest) (λ front e. h (c ∷ front) (ap (λ (tail : List ℕ). c ∷ tail) e)))

-- ---- one more line

pub say_more : (n k : ℕ) (lines : List Line) (cs : List ConfiguredInterface) (line : Line)
    (c : ConfiguredInterface) → SayInterfaces n lines cs → n + length cs ≡ k
    → SaysInterface k line c → SayInterfaces n (lines ++ line ∷ []) (cs ++ c ∷ [])
say_more n k [] [] line c h e s = (
  let same : k ≡ n = omega arith in
      subst (λ (m : ℕ). SaysInterface m line c) same s,
  tt,
)
say_more n k [] (d ∷ cs) line c h e s = absurd h
say_more n k (l ∷ lines) [] line c h e s = absurd h
say_more n k (l ∷ lines) (d ∷ cs) line c h e s =
    (h.0, say_more (n + 1) k lines cs line c h.1 (omega arith) s)

-- ---- distinct addresses

abbrev has : ℕ → Interface → Bool
has address j = j.address == address

any_more : (address : ℕ) (cs : List ConfiguredInterface) (c : ConfiguredInterface)
    → list_any (has address) (map interface_of cs) ≡ false → c.interface.address ≢ address
    → list_any (has address) (map interface_of (cs ++ c ∷ [])) ≡ false
any_more address [] c h ne = rw (ne_eqb c.interface.address address ne) refl
any_more address (d ∷ cs) c h ne =
    let parts = or_parts (has address d.interface) (list_any (has address) (map interface_of cs)) h
    in
    rw (parts.0) (any_more address cs c parts.1 ne)
  where
    or_parts : (x y : Bool) → (x || y) ≡ false → (x ≡ false) × (y ≡ false)
    or_parts true y e = absurd (cc e)
    or_parts false y e = (refl, e)

abbrev is_at : ConfiguredInterface → ConfiguredInterface → Bool
is_at c other = other.interface.address == c.interface.address

not_equal : (m n : ℕ) → eqb m n ≡ false → n ≢ m
not_equal m n e f = grind arith

none_taken : (d c : ConfiguredInterface) (cs : List ConfiguredInterface)
    → list_any (is_at c) (d ∷ cs) ≡ false
    → (c.interface.address ≢ d.interface.address) × (list_any (is_at c) cs ≡ false)
none_taken d c cs e = parts (is_at c d) (list_any (is_at c) cs) e refl
  where
    parts : (x y : Bool) → (x || y) ≡ false → is_at c d ≡ x
        → (c.interface.address ≢ d.interface.address) × (y ≡ false)
    parts true y e q = absurd (cc e)
    parts false y e q = (not_equal d.interface.address c.interface.address q, e)

pub apart_more : (cs : List ConfiguredInterface) (c : ConfiguredInterface) → AreApart cs
    → list_any (λ other. other.interface.address == c.interface.address) cs ≡ false
    → AreApart (cs ++ c ∷ [])
apart_more [] c h e = refl
apart_more (d ∷ cs) c h e =
    let two = and_parts (not (list_any (has d.interface.address) (map interface_of cs)))
    (are_distinct (map interface_of cs)) h in
    let free = none_taken d c cs e in
    let front = any_more d.interface.address cs c (not-true _ two.0) free.0 in
    rw front (apart_more cs c two.1 free.1)

-- ---- a line that spells an interface

third : List Word → Word
third words = get_or words 2 []

-- a line spells one address
same_address : (number : ℕ) (line : Line) (c d : ConfiguredInterface) → SaysInterface number line c
    → SaysInterface number line d → c.interface.address ≡ d.interface.address
unfolding third
same_address number line c d s t =
    let e : prefix_text (record {
      address = c.interface.address;
      length = c.interface.length;
    }) ≡ prefix_text (record { address = d.interface.address; length = d.interface.length }) =
    ap third (sym s.written ∙ t.written) in
    (one_place (record {
      address = c.interface.address;
      length = c.interface.length;
    }) (record { address = d.interface.address; length = d.interface.length })
    s.lawful.address t.lawful.address s.lawful.length t.lawful.length e).0

pub taken : (number : ℕ) (line : Line) (before : List ConfiguredInterface)
    (c d : ConfiguredInterface) → SaysInterface number line d
    → list_any (λ other. other.interface.address == d.interface.address) before ≡ true
    → SaysInterface number line c → MayFollow before c → ⊥
taken number line before c d s any t may =
    let same = same_address number line d c s t in
    absurd (cc (
      any,
      may.apart,
      ap (λ (a : ℕ). list_any
          (λ (other : ConfiguredInterface). other.interface.address == a) before) same,
    ))

got : (ws : List (Bor Word)) (d : Bor Word) (i : ℕ) → i < length ws
    → slice_get (views ws) i ≡ Some (get_or ws i d).now
got [] d i lt = absurd (omega arith)
got (w ∷ ws) d zero lt = refl
got (w ∷ ws) d (suc i) lt = got ws d i (omega arith)

pub first_wrong : (ws : List (Bor Word)) (d : Bor Word) (i : ℕ) (before : List ConfiguredInterface)
    → i < length ws → SayInterfaces 1 (take i (views ws)) before → length before ≤ max_interfaces
    → AreApart before → length before ≡ i
    → ((c : ConfiguredInterface) → SaysInterface (length before + 1) (get_or ws i d).now c
    → MayFollow before c → ⊥) → IsFirstWrong (views ws) i
first_wrong ws d i before lt said few apart many wrong = record {
  before = before;
  said = said;
  few = few;
  apart = apart;
  line = (get_or ws i d).now;
  there = got ws d i lt;
  wrong = subst (λ (k : ℕ). (c : ConfiguredInterface) → SaysInterface (k + 1) (get_or ws i d).now c
      → MayFollow before c → ⊥) many wrong;
}

length_views : (ws : List (Bor Word)) → length (views ws) ≡ length ws
length_views [] = refl
length_views (w ∷ ws) = ap suc (length_views ws)

pub next_said : (ws : List (Bor Word)) (d : Bor Word) (i : ℕ) (cs : List ConfiguredInterface)
    (c : ConfiguredInterface) → i < length ws → SayInterfaces 1 (take i (views ws)) cs
    → SaysInterface (length cs + 1) (get_or ws i d).now c
    → SayInterfaces 1 (take (i + 1) (views ws)) (cs ++ c ∷ [])
next_said ws d i cs c lt said s =
    let within : i < length (views ws) = omega (arith, length_views ws) in
    let at : SaysInterface (length cs + 1) (get_or (views ws) i []) c =
    subst (λ (line : Line). SaysInterface (length cs + 1) line c) (view_at ws d i lt) s in
    subst (λ (lines : List Line). SayInterfaces 1 lines (cs ++ c ∷ []))
    (sym (take_more (views ws) i [] within))
    (say_more 1 (length cs + 1) (take i (views ws)) cs (get_or (views ws) i []) c said
    (omega arith) at)

-- the line number of a refusal
pub numbered : {A : Type 0} (m n : ℕ)
    → ◌≡◌ {A = Result A ConfigurationError} (Err (errors.Line m)) (Err (errors.Line n)) → m ≡ n
numbered m n e = cc
