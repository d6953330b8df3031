-- Listings of statements.
use Rattle.std.proofs.Common.{◌≡◌, ℕ, ◌+◌, ◌≤◌, ◌<◌, ◌^◌, ◌||◌, Bool, true, false, List, [], ◌∷◌}
use Rattle.std.proofs.Common.{◌++◌, length, take, drop, get_or, Option, Some, None, refl, ap, ◌∙◌}
use Rattle.std.proofs.Common.{sym, subst, arith, le-ltb, ne_eqb, take-append-drop}
use Rattle.std.specs.Prelude.{Ok, Err, if◌then◌else◌, nat_le, nat_lt, ◌==◌}
use Rattle.std.proofs.lemmas.Bool.{cond-false, or_from, lt-leb}
use Rattle.std.proofs.lemmas.List.{take_more, drop_more}
use Rattle.isa.specs.declared.hook.Hook.{Hook}
use Rattle.isa.specs.declared.code.Slot.{Slot}
use Rattle.object.specs.declared.kind.StatedKind.{StatedKind}
use Rattle.object.specs.declared.rank.Rank.{Rank}
use Rattle.object.specs.Statements.{StatementParts, IsStatement}
use Rattle.object.specs.Objects.{AreStatements}
use Rattle.asm.specs.declared.numeral.Numeral.{Numeral}
use Rattle.asm.specs.declared.numeral.Numeral.TheVariants as numerals
use Rattle.asm.specs.declared.line.AssemblyLine.{AssemblyLine}
use Rattle.asm.specs.declared.line.AssemblyLine.TheVariants as lines
use Rattle.asm.specs.declared.line.LabelOrNumber.TheVariants as targets
use Rattle.asm.specs.declared.line.Terms.{Terms}
use Rattle.asm.specs.declared.error.AsmFault.{AsmFault}
use Rattle.asm.specs.declared.error.AsmFault.TheVariants as faults
use Rattle.asm.specs.declared.labels.Place.{Place}
use Rattle.asm.specs.Numbers.{natural_in}
use Rattle.asm.specs.Instructions.{◌>>=◌, or_range_fault}
use Rattle.asm.specs.Rules.{rank_of, number_slot}
use Rattle.asm.specs.Assembling.{line_step, state_at, open_statement, order_fault, has_slot, all_of}
use Rattle.asm.specs.Assembling.{bare}
use Rattle.asm.specs.Listed.{Listed, ListedAll, AddsLine, AddsKinds, AddsStack, AddsStatement, Any}
use Rattle.asm.specs.Listed.{Front, behind, sketch_of, code_sketch, AreStated, is_stated}
use Rattle.asm.proofs.Pushed.{listed_push, in_field}
use Rattle.asm.proofs.Registers.{stated_term}

state_steps : (f : Front) (last : Option StatementParts) (s : StatementParts) (n m : Numeral)
    (t : Terms) (place : Option Place) (at : ℕ) (rest : List (Option AssemblyLine))
    → n ≡ numerals.Natural s.slot → m ≡ numerals.Natural s.rank.constant → s.slot < 2 ^ 32
    → s.slot < length f.code → order_fault f.before last s.slot ≡ None
    → rank_of (numerals.Natural s.rank.constant) t rest ≡ Some s.rank
    → line_step (sketch_of f last) (lines.State (targets.Number n) m t) at place
    rest ≡ Ok (sketch_of (behind f last) (Some (bare s.slot s.rank)))
state_steps f last s n m t place at rest en em fits within order again =
    let sk = sketch_of f last in
    ap (λ (x : Numeral). number_slot (natural_in (2 ^ 64) x) >>= state_at sk (rank_of m t rest)) en
    ∙ ap (λ (o : Option ℕ). number_slot o >>= state_at sk (rank_of m t rest))
    (in_field (2 ^ 64) s.slot (omega (arith, fits)))
    ∙ cond-false (nat_le (length f.code) s.slot) (Err faults.Range)
    (or_range_fault (rank_of m t rest) >>= λ r. open_statement sk s.slot r
    (order_fault f.before last s.slot)) (lt-leb (length f.code) s.slot within)
    ∙ ap (λ (x : Numeral). or_range_fault (rank_of x t rest) >>= λ r. open_statement sk s.slot r
    (order_fault f.before last s.slot)) em
    ∙ ap (λ (o : Option Rank). or_range_fault o >>= λ r. open_statement sk s.slot r
    (order_fault f.before last s.slot)) again
    ∙ ap (λ (o : Option AsmFault). open_statement sk s.slot s.rank o) order

state_line : (old new : List ℕ) (f : Front) (last : Option StatementParts) (s : StatementParts)
    (n m : Numeral) (t : Terms) → n ≡ numerals.Natural s.slot → m ≡ numerals.Natural s.rank.constant
    → IsStatement s → s.slot < length f.code → order_fault f.before last s.slot ≡ None
    → ((rest : List (Option AssemblyLine)) → is_stated rest s.rank.first ≡ true
    → is_stated rest s.rank.second ≡ true
    → rank_of (numerals.Natural s.rank.constant) t rest ≡ Some s.rank)
    → AddsLine old new (lines.State (targets.Number n) m t)
    → Listed old (sketch_of f last) Any
    → Listed new (sketch_of (behind f last) (Some (bare s.slot s.rank)))
    (AreStated s.kinds 0)
state_line old new f last s n m t en em is within order again adds listed =
    listed_push old new (lines.State (targets.Number n) m t) (sketch_of f last)
    (sketch_of (behind f last) (Some (bare s.slot s.rank))) Any (AreStated s.kinds 0) adds
    listed (λ rest d. tt)
    (λ at place rest d. state_steps f last s n m t place at rest en em is.slot within order
    (again rest (stated_term s.kinds s.rank.first rest is.rank.first d)
    (stated_term s.kinds s.rank.second rest is.rank.second d)))

pub statement_listed : (a b c d : List ℕ) (f : Front) (last : Option StatementParts)
    (s : StatementParts) (n m : Numeral) (t : Terms) (rank : Rank) (ks : List StatedKind)
    (stack : List Bool) → rank ≡ s.rank → ks ≡ s.kinds → stack ≡ s.stack
    → n ≡ numerals.Natural s.slot → m ≡ numerals.Natural rank.constant → IsStatement s
    → s.slot < length f.code → order_fault f.before last s.slot ≡ None
    → ((rest : List (Option AssemblyLine)) → is_stated rest rank.first ≡ true
    → is_stated rest rank.second ≡ true
    → rank_of (numerals.Natural rank.constant) t rest ≡ Some rank)
    → AddsLine a b (lines.State (targets.Number n) m t)
    → AddsKinds b c ks → AddsStack c d stack
    → Listed a (sketch_of f last) Any
    → Listed d (sketch_of (behind f last) (Some s)) Any
statement_listed a b c d f last s n m t rank ks stack er ek es en em is within order again adds
    kinds_added stack_added listed =
    let p : StatementParts = record { slot = s.slot; rank = rank; kinds = ks; stack = stack } in
    let same : p ≡ s =
    ap (λ (r : Rank). record { slot = s.slot; rank = r; kinds = ks; stack = stack }) er
    ∙ ap (λ (xs : List StatedKind). record {
      slot = s.slot;
      rank = s.rank;
      kinds = xs;
      stack = stack;
    }) ek
    ∙ ap (λ (xs : List Bool). record {
      slot = s.slot;
      rank = s.rank;
      kinds = s.kinds;
      stack = xs;
    }) es in
    let lawful : IsStatement p = subst (λ (x : StatementParts). IsStatement x) (sym same) is in
    subst (λ (x : StatementParts). Listed d (sketch_of (behind f last) (Some x)) Any) same
    (stack_added (behind f last) s.slot rank ks
    (kinds_added (behind f last) s.slot rank
    (state_line a b f last p n m t en em lawful within order again adds listed)))

-- ---- statements in their order

abbrev AllBelow : ℕ → List StatementParts → Type 0
AllBelow n [] = Unit {0}
AllBelow n (s ∷ ss) = (s.slot < n) × AllBelow n ss

below_next : (done rest : List StatementParts) (s : StatementParts) (least slots : ℕ)
    → AreStatements least slots (done ++ s ∷ rest)
    → AllBelow s.slot done × (least ≤ s.slot) × (s.slot < slots)
below_next [] rest s least slots are = (tt, are.1, are.2)
below_next (x ∷ done) rest s least slots are =
    let later = below_next done rest s (x.slot + 1) slots are.3 in
    ((omega (arith, later.1), later.0), omega (arith, later.1, are.1), later.2)

has_none : (done more : List StatementParts) (n : ℕ) → AllBelow n (done ++ more)
    → has_slot done n ≡ false
has_none [] more n below = refl
has_none (x ∷ done) more n below =
    cond-false (x.slot == n) true (has_slot done n)
    (ne_eqb x.slot n (λ e. omega (arith, e, below.0))) ∙ has_none done more n below.1

last_below : (done : List StatementParts) (l : StatementParts) (n : ℕ) → AllBelow n (done ++ l ∷ [])
    → l.slot < n
last_below [] l n below = below.0
last_below (x ∷ done) l n below = last_below done l n below.1

in_order : (before : List StatementParts) (last : Option StatementParts) (n : ℕ)
    → AllBelow n (all_of before last) → order_fault before last n ≡ None
in_order before None n below = refl
in_order before (Some l) n below =
    let above = last_below before l n below in
    cond-false ((n == l.slot) || has_slot before n) (Some faults.Twice)
    (if nat_lt n l.slot then Some faults.Range else None)
    (or_from (n == l.slot) (has_slot before n) (ne_eqb n l.slot (λ e. omega (arith, e, above)))
    (has_none before (l ∷ []) n below))
    ∙ cond-false (nat_lt n l.slot) (Some faults.Range) None (le-ltb n l.slot (omega (arith, above)))

pub none_listed : (text : List ℕ) (hook : Hook) (rank : ℕ) (code : List Slot)
    → Listed text (code_sketch hook rank code) Any → ListedAll text hook rank code []
none_listed text hook rank code listed = record {
  before = [];
  last = None;
  same = refl;
  listed = listed;
}

pub one_more_listed : (old new : List ℕ) (hook : Hook) (rank : ℕ) (code : List Slot)
    (ss : List StatementParts) (at : ℕ) (s : StatementParts) → at < length ss → s ≡ get_or ss at s
    → AreStatements 0 (length code) ss → AddsStatement old new s
    → ListedAll old hook rank code (take at ss)
    → ListedAll new hook rank code (take (at + 1) ss)
one_more_listed old new hook rank code ss at s h is are adds c =
    let cut : ss ≡ take at ss ++ s ∷ drop (at + 1) ss =
    sym (take-append-drop at ss) ∙ ap (λ xs. take at ss ++ xs)
    (drop_more ss at s h ∙ ap (λ (x : StatementParts). x ∷ drop (at + 1) ss) (sym is)) in
    let order = below_next (take at ss) (drop (at + 1) ss) s 0 (length code)
    (subst (λ (xs : List StatementParts). AreStatements 0 (length code) xs) cut are) in
    let below : AllBelow s.slot (all_of c.before c.last) =
    subst (λ (xs : List StatementParts). AllBelow s.slot xs) c.same order.0 in
    record {
      before = all_of c.before c.last;
      last = Some s;
      same = take_more ss at s h ∙ ap (λ (x : StatementParts). take at ss ++ x ∷ []) (sym is)
          ∙ ap (λ (xs : List StatementParts). xs ++ s ∷ []) c.same;
      listed = adds (record {
        hook = hook;
        rank = rank;
        code = code;
        before = c.before;
      }) c.last order.2 (in_order c.before c.last s.slot below) c.listed;
    }
