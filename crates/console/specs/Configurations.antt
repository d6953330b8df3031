-- The text of a configuration: a line for the router, then one for each interface (RFC 2328,
-- sections C.1 and C.3).
use Rattle.std.specs.Prelude.{◌≡◌, ℕ, ◌+◌, ◌<◌, ◌≤◌, ◌^◌, ◌==◌, true, false, List, [], ◌∷◌, codes}
use Rattle.std.specs.Prelude.{decimal, length, map, slice_get, Some, take, ◌⊎◌, if◌then◌else◌}
use Rattle.std.specs.List.{list_any, slice_split}
use Rattle.words.specs.Constants.{max_age, max_interfaces}
use Rattle.words.specs.Numbers.{InterfaceNumber, RouterNumber}
use Rattle.words.specs.Text.{dotted_address, prefix_text}
use Rattle.adjacency.specs.declared.interface.Interface.{Interface}
use Rattle.event_rules.specs.Routers.{are_distinct}
use Rattle.console.specs.declared.configuration.Configured.{Configured}
use Rattle.console.specs.declared.configuration.ConfiguredInterface.{ConfiguredInterface}
use Rattle.console.specs.Words.{Word, words_in}

abbrev pub Line : Type 0
Line = List ℕ

-- the words of each line
abbrev pub router_words : RouterNumber → List Word
router_words router = codes "router" ∷ dotted_address router ∷ []

abbrev pub interface_words : InterfaceNumber → ConfiguredInterface → List Word
interface_words number c =
    codes "interface" ∷ decimal number
    ∷ prefix_text (record { address = c.interface.address; length = c.interface.length })
    ∷ codes "cost" ∷ decimal c.interface.cost
    ∷ codes "hello" ∷ decimal c.interface.hello_interval
    ∷ codes "dead" ∷ decimal c.interface.dead_interval
    ∷ codes "rxmt" ∷ decimal c.interface.retransmit_interval
    ∷ codes "delay" ∷ decimal c.interface.delay
    ∷ codes "port" ∷ decimal c.udp_port
    ∷ codes "peer" ∷ decimal c.peer ∷ []

-- a valid Router ID
abbrev pub IsRouter : RouterNumber → Type 0
IsRouter router = (1 ≤ router) × (router < 2 ^ 32)

-- a UDP port that datagrams can be sent from and to
abbrev pub IsUdpPort : ℕ → Type 0
IsUdpPort udp_port = (1 ≤ udp_port) × (udp_port < 2 ^ 16)

-- an interface whose numbers are valid and fit into the fields that packets have for them
pub record IsInterface (c : ConfiguredInterface) : Type 0 where
  pub address : c.interface.address < 2 ^ 32
  pub length : c.interface.length ≤ 32
  pub cost : (1 ≤ c.interface.cost) × (c.interface.cost < 2 ^ 16)
  pub hello_interval : (1 ≤ c.interface.hello_interval) × (c.interface.hello_interval < 2 ^ 16)
  pub dead_interval : (1 ≤ c.interface.dead_interval) × (c.interface.dead_interval < 2 ^ 32)
  pub retransmit_interval :
      (1 ≤ c.interface.retransmit_interval) × (c.interface.retransmit_interval < 2 ^ 16)
  pub delay : (1 ≤ c.interface.delay) × (c.interface.delay ≤ max_age)
  pub udp_port : IsUdpPort c.udp_port
  pub peer : IsUdpPort c.peer

-- the line spells the interface with this number
pub record SaysInterface (number : InterfaceNumber) (line : Line) (c : ConfiguredInterface)
    : Type 0 where
  pub written : words_in line ≡ interface_words number c
  pub lawful : IsInterface c

-- the line spells the router
pub record SaysRouter (line : Line) (router : RouterNumber) : Type 0 where
  pub written : words_in line ≡ router_words router
  pub lawful : IsRouter router

-- ---- all lines

-- the lines spell these interfaces in turn, from this number on
abbrev pub SayInterfaces : InterfaceNumber → List Line → List ConfiguredInterface → Type 0
SayInterfaces number [] [] = Unit {0}
SayInterfaces number [] (c ∷ cs) = ⊥
SayInterfaces number (line ∷ lines) [] = ⊥
SayInterfaces number (line ∷ lines) (c ∷ cs) =
    SaysInterface number line c × SayInterfaces (number + 1) lines cs

abbrev pub interface_of : ConfiguredInterface → Interface
interface_of c = c.interface

-- no two have the same address
abbrev pub AreApart : List ConfiguredInterface → Type 0
AreApart cs = are_distinct (map interface_of cs) ≡ true

-- the interface may follow these: there aren't too many, and none of them has its address
pub record MayFollow (before : List ConfiguredInterface) (c : ConfiguredInterface) : Type 0 where
  pub room : length before < max_interfaces
  pub apart : list_any (λ other. other.interface.address == c.interface.address) before ≡ false

-- the lines after the router's spell these interfaces, at least one
pub record AreInterfaces (lines : List Line) (cs : List ConfiguredInterface) : Type 0 where
  pub said : SayInterfaces 1 lines cs
  pub some : 1 ≤ length cs
  pub few : length cs ≤ max_interfaces
  pub apart : AreApart cs

-- Of the lines after the router's, the one at this index is the first wrong one: those before it
-- spell interfaces, and it spells none that may follow them.
pub record IsFirstWrong (lines : List Line) (index : ℕ) : Type 0 where
  pub before : List ConfiguredInterface
  pub said : SayInterfaces 1 (take index lines) before
  pub few : length before ≤ max_interfaces
  pub apart : AreApart before
  pub line : Line
  pub there : slice_get lines index ≡ Some line
  pub wrong : (c : ConfiguredInterface) → SaysInterface (index + 1) line c → MayFollow before c → ⊥

-- The number of the first wrong line, the router's line being 1; or, if there is no interface, that
-- of the missing line.
abbrev pub RefusesInterfaces : List Line → (number : ℕ) → Type 0
RefusesInterfaces lines number =
    ((lines ≡ []) × (number ≡ 2)) ⊎ ((index : ℕ) × (number ≡ index + 2) × IsFirstWrong lines index)

-- the lines of a configuration
pub record AreLines (lines : List Line) (c : Configured) : Type 0 where
  pub first : Line
  pub others : List Line
  pub all : lines ≡ first ∷ others
  pub router : SaysRouter first c.router
  pub interfaces : AreInterfaces others c.interfaces

-- the number of the first line that is wrong or missing
abbrev pub RefusesLines : List Line → (number : ℕ) → Type 0
RefusesLines [] number = number ≡ 1
RefusesLines (first ∷ others) number =
    ((number ≡ 1) × ((router : RouterNumber) → SaysRouter first router → ⊥))
    ⊎ ((router : RouterNumber) × SaysRouter first router × RefusesInterfaces others number)

-- ---- the text

-- a line feed (10) at the very end of a text ends its last line
abbrev pub without_last_feed : List ℕ → List ℕ
without_last_feed [] = []
without_last_feed (byte ∷ []) = if byte == 10 then [] else byte ∷ []
without_last_feed (byte ∷ next ∷ rest) = byte ∷ without_last_feed (next ∷ rest)

-- the lines of a text, which its line feeds separate
abbrev pub lines_in : List ℕ → List Line
lines_in text = slice_split (λ byte. byte == 10) (without_last_feed text)

-- the text spells the configuration
abbrev pub Says : List ℕ → Configured → Type 0
Says text c = AreLines (lines_in text) c

-- the line with this number is the first that is wrong or missing
abbrev pub Refuses : List ℕ → (number : ℕ) → Type 0
Refuses text number = RefusesLines (lines_in text) number
