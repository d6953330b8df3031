-- The configuration that a text spells is valid.
use Rattle.std.proofs.Common.{◌≡◌, ℕ, ◌+◌, ◌<◌, ◌≤◌, true, not, ◌&&◌, List, [], ◌∷◌, length, map}
use Rattle.std.proofs.Common.{refl, sym, subst, arith}
use Rattle.std.proofs.lemmas.Bool.{le-leb, lt-ltb, ne_eqb}
use Rattle.std.proofs.lemmas.List.{length-map}
use Rattle.std.specs.List.{list_all}
use Rattle.words.specs.Constants.{clock_end, max_age, max_interfaces}
use Rattle.words.specs.Numbers.{InterfaceNumber, Moment}
use Rattle.event_rules.specs.Routers.{in_profile, is_lawful}
use Rattle.console.specs.Configurations.{IsInterface, Line, SayInterfaces, Says, interface_of}
use Rattle.console.specs.Laws.{config_from}
use Rattle.console.specs.declared.configuration.Configured.{Configured}
use Rattle.console.specs.declared.configuration.ConfiguredInterface.{ConfiguredInterface}

lawful : (c : ConfiguredInterface) → IsInterface c → is_lawful c.interface ≡ true
lawful c is = λ i.
    le-leb c.interface.length 32 is.length i && le-leb 1 c.interface.cost is.cost.0 i
    && le-leb 1 c.interface.hello_interval is.hello_interval.0 i
    && le-leb 1 c.interface.dead_interval is.dead_interval.0 i
    && le-leb 1 c.interface.retransmit_interval is.retransmit_interval.0 i
    && le-leb 1 c.interface.delay is.delay.0 i && le-leb c.interface.delay max_age is.delay.1 i

all_lawful : (number : InterfaceNumber) (lines : List Line) (cs : List ConfiguredInterface)
    → SayInterfaces number lines cs → list_all is_lawful (map interface_of cs) ≡ true
all_lawful number [] [] said = refl
all_lawful number [] (c ∷ cs) said = absurd said
all_lawful number (line ∷ lines) [] said = absurd said
all_lawful number (line ∷ lines) (c ∷ cs) said = λ i.
    lawful c said.0.lawful i && all_lawful (number + 1) lines cs said.1 i

some : (n : ℕ) → 1 ≤ n → n ≡ 0 → ⊥
some n le is = grind arith

pub in_the_profile : (text : List ℕ) (c : Configured) (start : Moment) → start < clock_end
    → Says text c → in_profile (config_from start c) ≡ true
in_the_profile text c start before says =
    let cs = c.interfaces in
    let count = length (map interface_of cs) in
    let same : length cs ≡ count = sym (length-map cs interface_of) in
    let is = says.interfaces in λ i.
    not (ne_eqb c.router 0 (some c.router says.router.lawful.0) i) && lt-ltb start clock_end
    before i
    && le-leb 1 count (subst (λ n. 1 ≤ n) same is.some) i
    && le-leb count max_interfaces (subst (λ n. n ≤ max_interfaces) same is.few) i
    && all_lawful 1 says.others cs is.said i && is.apart i
