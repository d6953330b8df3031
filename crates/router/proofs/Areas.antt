-- Changes of links and database that don't depend on what was sent, and keep the interfaces.
use Rattle.std.proofs.Common.{◌≡◌, ℕ, ◌+◌, ◌==◌, Bool, true, false, cond, List, [], ◌∷◌, map}
use Rattle.std.proofs.Common.{refl, sym, ap, ◌∙◌, append_assoc}
use Rattle.std.specs.List.{enumerate_from}
use Rattle.received.specs.Links.{Link, change_link}
use Rattle.received.specs.AreaStates.{AreaState, Stepping, each_neighbor, on_links}
use Rattle.received.specs.AreaStates.{step_on}
use Rattle.area.specs.Links.{with_no_sends}
use Rattle.area.proofs.Sends.{append_none}
use Rattle.router.specs.Aging.{outcomes_in_turn}
use Rattle.router.specs.Making.{interfaces_of}
use Rattle.router.proofs.Making.{Appends, KeepsInterfaces}

-- ---- what is sent comes after what was sent before

pub appends_nothing : Appends (λ o. o)
appends_nothing o = λ i. record { area = o.area; sends = sym (append_none o.sends) i }

pub appends_links : (f : List Link → List Link) → Appends (on_links f)
appends_links f o = λ i. record {
  area = record o.area { links = f o.area.links };
  sends = sym (append_none o.sends) i;
}

pub appends_then : (F G : AreaState → AreaState) → Appends F → Appends G → Appends (λ o. G (F o))
appends_then F G first second o =
    let p : AreaState = F (with_no_sends o.area) in
    let q : AreaState = G (with_no_sends p.area) in
    ap G (first o) ∙ second (outcomes_in_turn o p)
    ∙ (λ i. record { area = q.area; sends = append_assoc o.sends p.sends q.sends i })
    ∙ ap (outcomes_in_turn o) (sym (second p))

-- ---- the interfaces stay the same

stepped_interfaces : (f : Stepping) (n : ℕ) (ls : List Link)
    → interfaces_of (map (λ (e : ℕ × Link). record e.1
    { neighbor = step_on (f e.0 e.1) e.1.neighbor }) (enumerate_from n ls)) ≡ interfaces_of ls
stepped_interfaces f n [] = refl
stepped_interfaces f n (l ∷ ls) = ap (λ xs. l.interface ∷ xs) (stepped_interfaces f (n + 1) ls)

pub keeps_neighbors : (moment : ℕ) (f : Stepping) → KeepsInterfaces (each_neighbor moment f)
keeps_neighbors moment f a = stepped_interfaces f 1 a.links

abbrev pub LeavesInterface : (Link → Link) → Type 0
LeavesInterface f = (l : Link) → (f l).interface ≡ l.interface

pub map_interfaces : (f : Link → Link) → LeavesInterface f → (ls : List Link)
    → interfaces_of (map f ls) ≡ interfaces_of ls
map_interfaces f leaves [] = refl
map_interfaces f leaves (l ∷ ls) = λ i. leaves l i ∷ map_interfaces f leaves ls i

by_number : (f : Link → Link) → LeavesInterface f → (l : Link) (b : Bool)
    → (cond b (f l) l).interface ≡ l.interface
by_number f leaves l true = leaves l
by_number f leaves l false = refl

change_from : (number : ℕ) (f : Link → Link) → LeavesInterface f → (n : ℕ) (ls : List Link)
    → interfaces_of (map (λ (e : ℕ × Link). cond (e.0 == number) (f e.1) e.1) (enumerate_from n ls))
    ≡ interfaces_of ls
change_from number f leaves n [] = refl
change_from number f leaves n (l ∷ ls) =
    λ i. by_number f leaves l (n == number) i ∷ change_from number f leaves (n + 1) ls i

pub change_interfaces : (number : ℕ) (f : Link → Link) → LeavesInterface f → (ls : List Link)
    → interfaces_of (change_link number f ls) ≡ interfaces_of ls
change_interfaces number f leaves ls = change_from number f leaves 1 ls
