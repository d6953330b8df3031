-- Statements looked at one by one.
use Rattle.std.proofs.Common.{◌≡◌, ℕ, ◌+◌, ◌≤◌, ◌<◌, List, [], ◌∷◌, length, drop, get_or, sym, ap}
use Rattle.std.proofs.Common.{subst, ◌∙◌, arith}
use Rattle.std.specs.Prelude.{◌⊎◌}
use Rattle.std.proofs.Common.{inl, inr}
use Rattle.std.proofs.lemmas.List.{drop_more, drop_all}
use Rattle.object.specs.Statements.{StatementParts, IsStatement}
use Rattle.std.proofs.Common.{◌++◌, refl}
use Rattle.object.specs.Objects.{AreStatements, IsObject, ObjectParts, next_slot, slots_of}

at_item : (xs : List StatementParts) (i : ℕ) (x : StatementParts) → i < length xs
    → x ≡ get_or xs i x → drop i xs ≡ x ∷ drop (i + 1) xs
at_item xs i x lt is = drop_more xs i x lt ∙ ap (λ y. y ∷ drop (i + 1) xs) (sym is)

-- All statements are in order if and only if those that are left are, from slot `least` on.
pub record Leaves (least slots : ℕ) (rest all : List StatementParts) : Type 0 where
  pub back : AreStatements least slots rest → AreStatements 0 slots all
  pub on : AreStatements 0 slots all → AreStatements least slots rest

pub leaves_all : (slots : ℕ) (all : List StatementParts) → Leaves 0 slots all all
leaves_all slots all = record { back = λ h. h; on = λ h. h }

pub leaves_more : (least slots i slot : ℕ) (s : StatementParts) (all : List StatementParts)
    → Leaves least slots (drop i all) all → i < length all → s ≡ get_or all i s → IsStatement s
    → slot ≡ s.slot → least ≤ slot → slot < slots
    → Leaves (slot + 1) slots (drop (i + 1) all) all
leaves_more least slots i slot s all h lt is statement slot_is le within =
    let e = at_item all i s lt is in
    let P : List StatementParts → Type 0 = λ t. AreStatements least slots t in
    let Q : ℕ → Type 0 = λ n. AreStatements (n + 1) slots (drop (i + 1) all) in
    record {
      back = λ rest. h.back (subst P (sym e)
          (statement, omega arith, omega arith, subst Q slot_is rest));
      on = λ whole. subst Q (sym slot_is) (subst P e (h.on whole)).3;
    }

pub leaves_wrong : (least slots i slot : ℕ) (s : StatementParts) (all : List StatementParts)
    → Leaves least slots (drop i all) all → i < length all → s ≡ get_or all i s → slot ≡ s.slot
    → (slot < least) ⊎ ((least ≤ slot) × (slots ≤ slot)) → AreStatements 0 slots all → ⊥
leaves_wrong least slots i slot s all h lt is slot_is wrong whole =
    let P : List StatementParts → Type 0 = λ t. AreStatements least slots t in
    let here = subst P (at_item all i s lt is) (h.on whole) in
    let above = here.1 in
    let below = here.2 in
    elim wrong [ inl w ↦ omega arith | inr w ↦ omega (arith, w.1) ]

pub leaves_none : (least slots i : ℕ) (all : List StatementParts)
    → Leaves least slots (drop i all) all → length all ≤ i → AreStatements 0 slots all
leaves_none least slots i all h past =
    let P : List StatementParts → Type 0 = λ t. AreStatements least slots t in
    h.back (subst P (sym (drop_all i all past)) tt)

-- Statements have distinct slots, so there are no more of them than slots.
pub count_within : (least slots : ℕ) (ss : List StatementParts) → AreStatements least slots ss
    → least ≤ slots → least + length ss ≤ slots
count_within least slots [] h le = omega arith
count_within least slots (s ∷ ss) h le =
    let above = h.1 in
    let below = h.2 in
    let rest = count_within (s.slot + 1) slots ss h.3 (omega arith) in omega arith

pub few_statements : (o : ObjectParts) → IsObject o → length o.statements ≤ 4096
few_statements o h = let most = h.most in let few =
    count_within 0 (slots_of o) o.statements h.statements (omega arith) in omega arith

-- one more at the end
pub ordered_more : (least slots : ℕ) (ss : List StatementParts) (s : StatementParts)
    → AreStatements least slots ss → IsStatement s → next_slot least ss ≤ s.slot → s.slot < slots
    → AreStatements least slots (ss ++ s ∷ [])
ordered_more least slots [] s h is le lt = (is, le, lt, tt)
ordered_more least slots (t ∷ ts) s h is le lt =
    (h.0, h.1, h.2, ordered_more (t.slot + 1) slots ts s h.3 is le lt)

pub next_slot-more : (least : ℕ) (ss : List StatementParts) (s : StatementParts)
    → next_slot least (ss ++ s ∷ []) ≡ s.slot + 1
next_slot-more least [] s = refl
next_slot-more least (t ∷ ts) s = next_slot-more (t.slot + 1) ts s
