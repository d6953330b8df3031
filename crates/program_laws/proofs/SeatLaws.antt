-- Consecutive steps of a seat.
use Rattle.std.proofs.Common.{◌≡◌, ℕ, zero, suc, ◌+◌, ◌<◌, ◌≤◌, List, [], ◌∷◌, ◌++◌, length}
use Rattle.std.proofs.Common.{sym, ap, subst, ◌∙◌, inl, inr, append_assoc, append-nil, arith}
use Rattle.std.specs.Prelude.{slice_index_or}
use Rattle.std.specs.List.{Contains}
use Rattle.machine.specs.Label.{Label, Silent, Add, Spent, Read, Cell, SetCell}
use Rattle.maps.specs.declared.access.Access.{Access}
use Rattle.maps.specs.declared.access.Access.TheVariants as access
use Rattle.maps.specs.Access.{adds_made, floor, last_stored, one_if_add}
use Rattle.maps.specs.Words.{SeatView}
use Rattle.maps.proofs.Accesses.{adds_made-snoc}
use Rattle.maps.proofs.Lists.{snoc_split}
use Rattle.helpers.specs.Seats.{Allows, AllowsAll, SeatMakes, acts}
use Rattle.helpers.proofs.Seats.{acts-append}
use Rattle.program_laws.specs.Seats.{Grows, IsLawfulList}

-- the list allows the access
IsDue : List Access → Access → Type 0
IsDue list (access.Add k a) = adds_made list < 2147483648
IsDue list (access.Read k w) = floor k list ≤ w
IsDue list (access.Cell j w) = w ≡ last_stored j list
IsDue list (access.SetCell j w) = Unit {0}

due_read : (list : List Access) (e : Access) (k w : ℕ) → IsDue list e → e ≡ access.Read k w
    → floor k list ≤ w
unfolding IsDue
due_read list e k w due is = let d : IsDue list (access.Read k w) =
    subst (λ (t : Access). IsDue list t) is due in d

due_cell : (list : List Access) (e : Access) (j w : ℕ) → IsDue list e → e ≡ access.Cell j w → w
    ≡ last_stored j list
unfolding IsDue
due_cell list e j w due is = let d : IsDue list (access.Cell j w) =
    subst (λ (t : Access). IsDue list t) is due in d

due_add : (list : List Access) (e : Access) → IsDue list e → adds_made list ≤ 2147483648
    → adds_made list + one_if_add e ≤ 2147483648
unfolding IsDue
due_add list (access.Add k a) due few = omega (arith, due)
due_add list (access.Read k w) due few = omega (arith, few)
due_add list (access.Cell j w) due few = omega (arith, few)
due_add list (access.SetCell j w) due few = omega (arith, few)

one_more : (list : List Access) (e : Access) → IsDue list e → IsLawfulList list
    → IsLawfulList (list ++ e ∷ [])
one_more list e due was = record {
  reads = λ before after k w at. elim (snoc_split list before after e (access.Read k w) at) [
    | inl p ↦ subst (λ l. floor k l ≤ w) p.0 (due_read list e k w due p.1)
    | inr p ↦ was.reads before p.0 k w p.1
  ];
  cells = λ before after j w at. elim (snoc_split list before after e (access.Cell j w) at) [
    | inl p ↦ subst (λ l. w ≡ last_stored j l) p.0 (due_cell list e j w due p.1)
    | inr p ↦ was.cells before p.0 j w p.1
  ];
  few = omega (arith, adds_made-snoc list e, due_add list e due was.few);
}

-- a label that makes no access
none_more : (list : List Access) → IsLawfulList list → IsLawfulList (list ++ [])
none_more list was = subst IsLawfulList (sym (append-nil list)) was

after_label : (list : List Access) (label : Label) → Allows list label → IsLawfulList list
    → IsLawfulList (list ++ acts (label ∷ []))
unfolding IsDue
after_label list Silent allowed was = none_more list was
after_label list (Add k a) allowed was = one_more list (access.Add k a) allowed was
after_label list Spent allowed was = none_more list was
after_label list (Read k w) allowed was = one_more list (access.Read k w) allowed was
after_label list (Cell j w) allowed was = one_more list (access.Cell j w) allowed was
after_label list (SetCell j w) allowed was = one_more list (access.SetCell j w) tt was

-- the list after one label and then the others
along : (list : List Access) (label : Label) (labels : List Label) → (list ++ acts (label ∷ []))
    ++ acts labels ≡ list ++ acts (label ∷ labels)
along list label labels = append_assoc list (acts (label ∷ [])) (acts labels)
    ∙ ap (λ l. list ++ l) (sym (acts-append (label ∷ []) labels))

lawful_along : (list : List Access) (labels : List Label) → AllowsAll list labels
    → IsLawfulList list → IsLawfulList (list ++ acts labels)
lawful_along list [] all was = none_more list was
lawful_along list (label ∷ labels) all was =
    subst IsLawfulList (along list label labels)
    (lawful_along (list ++ acts (label ∷ [])) labels all.1 (after_label list label all.0 was))

pub lawful_after : (old new : SeatView) (labels : List Label) → SeatMakes old labels new
    → IsLawfulList old.accesses → IsLawfulList new.accesses
lawful_after old new labels made was =
    subst (λ (s : SeatView). IsLawfulList s.accesses) (sym made.grown)
    (lawful_along old.accesses labels made.allowed was)

-- ---- refused additions

more_made : (list more : List Access) → adds_made list ≤ adds_made (list ++ more)
more_made list [] = let same = ap adds_made (append-nil list) in omega (arith, same)
more_made list (e ∷ more) =
    let step = more_made (list ++ e ∷ []) more in
    let same = ap adds_made (append_assoc list (e ∷ []) more) in
    omega (arith, step, same, adds_made-snoc list e)

spent_first : (list : List Access) (label : Label) → Allows list label → label ≡ Spent → 2147483648
    ≤ adds_made list
spent_first list label allowed is = let a : Allows list Spent =
    subst (λ (l : Label). Allows list l) is allowed in a

spent_along : (list : List Access) (labels : List Label) → AllowsAll list labels → (k : ℕ)
    → k < length labels → slice_index_or labels k Spent ≡ Spent → 2147483648
    ≤ adds_made (list ++ acts labels)
spent_along list [] all k inside is = absurd (omega (arith, inside))
spent_along list (label ∷ labels) all zero inside is =
    let here = spent_first list label all.0 is in
    omega (arith, here, more_made list (acts (label ∷ labels)))
spent_along list (label ∷ labels) all (suc k) inside is =
    let later = spent_along (list ++ acts (label ∷ [])) labels all.1 k (omega (arith, inside)) is in
    let same = ap adds_made (along list label labels) in
    omega (arith, later, same)

pub refused_last : (old new : SeatView) (labels : List Label) → SeatMakes old labels new
    → Contains labels Spent → 2147483648 ≤ adds_made new.accesses
refused_last old new labels made among =
    subst (λ (s : SeatView). 2147483648 ≤ adds_made s.accesses) (sym made.grown)
    (spent_along old.accesses labels made.allowed among.0 among.1 among.2)

-- ---- growth

pub grows : (old new : SeatView) (labels : List Label) → SeatMakes old labels new
    → Grows old labels new
grows old new labels made = record {
  table = ap (λ (s : SeatView). s.table) made.grown;
  number = ap (λ (s : SeatView). s.number) made.grown;
  list = ap (λ (s : SeatView). s.accesses) made.grown;
}
