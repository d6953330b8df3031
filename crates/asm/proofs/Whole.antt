-- Lines that are taken spell an object once there is an instruction.
use Rattle.std.proofs.Common.{◌≡◌, ℕ, ◌||◌, true, false, le-ltb, ne_eqb, ◌+◌, ◌≤◌, ◌<◌, ◌^◌, List}
use Rattle.std.proofs.Common.{[], ◌∷◌, length, Option, Some, None, refl, ◌∙◌, sym, subst, arith}
use Rattle.std.specs.Prelude.{if◌then◌else◌, nat_lt, ◌==◌, option_map}
use Rattle.std.proofs.lemmas.Bool.{cond-false, or_from}
use Rattle.isa.specs.declared.hook.Hook.{Hook}
use Rattle.isa.specs.declared.code.Slot.{Slot}
use Rattle.isa.specs.Spelling as spelling
use Rattle.isa.proofs.Fronts.{spells_long}
use Rattle.object.specs.Statements.{StatementParts}
use Rattle.object.specs.Objects.{ObjectParts, IsObject, AreStatements, slots_of}
use Rattle.asm.specs.declared.line.AssemblyLine.{AssemblyLine}
use Rattle.asm.specs.declared.error.AsmFault.TheVariants as faults
use Rattle.asm.specs.declared.statements.OpenStatement.{OpenStatement}
use Rattle.asm.specs.Views.{parts_of}
use Rattle.asm.specs.Assembling.{Sketch, all_of, has_slot, order_fault}
use Rattle.asm.specs.Lawful.{IsFront, AreInOrder, AreAscending, IsLawful}
use Rattle.asm.proofs.Keeping.{all_closed}

front_range : (h : Option Hook) (r : Option ℕ) (code : List Slot) (hook : Hook) (rank : ℕ)
    → h ≡ Some hook → r ≡ Some rank → IsFront h r code → rank < 2 ^ 32
front_range None r code hook rank eh er is = cc
front_range (Some h) None code hook rank eh er is = cc
front_range (Some h) (Some r) code hook rank eh er is =
    let same : r ≡ rank = cc in
    subst (λ (n : ℕ). n < 2 ^ 32) same is

-- without a hook there is no code
pub no_hook : (h : Option Hook) (r : Option ℕ) (code : List Slot) → h ≡ None → IsFront h r code
    → code ≡ []
no_hook None None code e is = is
no_hook None (Some r) code e is = absurd is
no_hook (Some h) r code e is = cc

-- nor without a rank
pub no_rank : (h : Option Hook) (r : Option ℕ) (code : List Slot) → r ≡ None → IsFront h r code
    → code ≡ []
no_rank None None code e is = is
no_rank (Some h) None code e is = is
no_rank h (Some r) code e is = cc

pub all_stand : (s : Sketch) → IsLawful [] s
    → AreStatements 0 (length s.code) (all_of s.before s.last)
all_stand s is = all_closed [] (length s.code) (length s.code) s.before s.last (λ r. refl) is.most
    is.statements (λ l. last_within s.before s.last l is.statements)
  where
    last_within : (before : List StatementParts) (last : Option StatementParts) (l : StatementParts)
        → AreInOrder (length s.code) [] before last → last ≡ Some l → l.slot < length s.code
    last_within before None l order e = cc
    last_within before (Some m) l order e =
        let same : m ≡ l = cc in
        subst (λ (x : StatementParts). x.slot < length s.code) same order.1

pub is_object : (s : Sketch) (o : ObjectParts) → IsLawful [] s → s.hook ≡ Some o.hook
    → s.rank ≡ Some o.entry_rank → spelling.Spells o.code s.code
    → o.statements ≡ all_of s.before s.last → IsObject o
is_object s o is hook rank code statements =
    let long = spells_long o.code s.code code in
    let slots : slots_of o ≡ length s.code = omega (arith, long) in
    let some = code.code_is.some in
    record {
      entry_rank = front_range s.hook s.rank s.code o.hook o.entry_rank hook rank is.front;
      whole = omega (arith, long);
      some = omega (arith, slots, some);
      most = omega (arith, slots, is.most);
      statements = subst (λ (n : ℕ). AreStatements 0 n o.statements) (sym slots)
          (subst (AreStatements 0 (length s.code)) (sym statements) (all_stand s is));
    }

pub ascending : (s : Sketch) (rest : List (Option AssemblyLine)) → IsLawful rest s
    → AreAscending s.before s.last
ascending s rest is = by s.before s.last is.statements
  where
    by : (before : List StatementParts) (last : Option StatementParts)
        → AreInOrder (length s.code) rest before last → AreAscending before last
    by before None order = tt
    by before (Some l) order = order.0

-- ---- a statement above the last one

has_none : (least n slot : ℕ) (ss : List StatementParts) → AreStatements least n ss → n ≤ slot
    → has_slot ss slot ≡ false
has_none least n slot [] are high = refl
has_none least n slot (s ∷ ss) are high =
    cond-false (s.slot == slot) true (has_slot ss slot)
    (ne_eqb s.slot slot (λ e. omega (arith, e, are.2, high)))
    ∙ has_none (s.slot + 1) n slot ss are.3 high

pub above_all : (before : List StatementParts) (last : Option OpenStatement) (l : OpenStatement)
    (slot : ℕ) → last ≡ Some l → AreAscending before (option_map parts_of last) → l.slot < slot
    → order_fault before (option_map parts_of last) slot ≡ None
above_all before None l slot e are above = cc
above_all before (Some m) l slot e are above =
    let same : m ≡ l = cc in
    let high : m.slot < slot = subst (λ (x : OpenStatement). x.slot < slot) (sym same) above in
    cond-false ((slot == m.slot) || has_slot before slot) (Some faults.Twice)
    (if nat_lt slot m.slot then Some faults.Range else None)
    (or_from (slot == m.slot) (has_slot before slot)
    (ne_eqb slot m.slot (λ e. omega (arith, e, high)))
    (has_none 0 m.slot slot before are (omega (arith, high))))
    ∙ cond-false (nat_lt slot m.slot) (Some faults.Range) None
    (le-ltb slot m.slot (omega (arith, high)))
