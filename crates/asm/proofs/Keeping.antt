-- Each line that is taken preserves what an object needs.
use Rattle.std.proofs.Common.{◌≡◌, ◌≢◌, ℕ, zero, suc, ◌+◌, ◌≤◌, ◌<◌, ◌^◌, ◌||◌, Bool, true, false}
use Rattle.std.proofs.Common.{List, [], ◌∷◌, ◌++◌, length, get_or, set, replicate, take, drop}
use Rattle.std.proofs.Common.{Option, Some, None, is_some, refl, ap, ◌∙◌, sym, subst, arith, inl}
use Rattle.std.proofs.Common.{inr, ⊎_elim, length-append}
use Rattle.std.specs.Prelude.{◌⊎◌, Result, Ok, Err, if◌then◌else◌, nat_le, nat_lt, ◌==◌, is_none}
use Rattle.std.specs.Prelude.{◌-◌, ◌&&◌, bit_and}
use Rattle.std.proofs.lemmas.Bool.{false≢true, or_parts, and_parts, ltb-true, ltb-false, leb-true}
use Rattle.std.proofs.lemmas.Bool.{leb-false, eqb-true, eqb-false}
use Rattle.std.proofs.Math.ListN.{drop_of_length-le}
use Rattle.std.proofs.lemmas.List.{take_rest, drop_more, length-set, length-replicate}
use Rattle.std.proofs.lemmas.List.{length-take-le, length-drop, get_or-replicate, get_or-set_same}
use Rattle.std.proofs.lemmas.List.{get_or-set_other}
use Rattle.std.proofs.lemmas.List.Elements.{All-set}
use Rattle.std.proofs.lemmas.Option.{get_or_from_slice_get, slice_get-get_or, slice_get_within}
use Rattle.isa.specs.declared.hook.Hook.{Hook}
use Rattle.isa.specs.declared.code.Slot.{Slot}
use Rattle.isa.specs.Code.{slots_of}
use Rattle.object.specs.declared.kind.StatedKind.{StatedKind}
use Rattle.object.specs.declared.kind.StatedKind.TheVariants as kinds
use Rattle.object.specs.declared.rank.Rank.{Rank}
use Rattle.object.specs.Numbers.{Term, Numbers, IsNumbers}
use Rattle.object.specs.Statements.{StatementParts, IsStatement, IsKind, IsRank, IsTermOrNone}
use Rattle.object.specs.Statements.{IsNumberAt, IsTermOver}
use Rattle.object.specs.Objects.{AreStatements}
use Rattle.object.specs.Sets.{with_range}
use Rattle.asm.specs.declared.numeral.Numeral.{Numeral}
use Rattle.asm.specs.declared.numeral.Numeral.TheVariants as numerals
use Rattle.asm.specs.declared.line.AssemblyLine.{AssemblyLine}
use Rattle.asm.specs.declared.line.AssemblyLine.TheVariants as lines
use Rattle.asm.specs.declared.line.LabelOrNumber.{LabelOrNumber}
use Rattle.asm.specs.declared.line.Term.{Term as LineTerm}
use Rattle.asm.specs.declared.line.Terms.{Terms}
use Rattle.asm.specs.declared.line.Terms.TheVariants as terms
use Rattle.asm.specs.declared.line.Range.{Range}
use Rattle.asm.specs.declared.line.RegisterContent.{RegisterContent}
use Rattle.asm.specs.declared.line.RegisterContent.TheVariants as contents
use Rattle.asm.specs.declared.error.AsmFault.{AsmFault}
use Rattle.asm.specs.declared.error.AsmFault.TheVariants as faults
use Rattle.asm.specs.declared.labels.Place.{Place}
use Rattle.asm.specs.Numbers.{natural_in}
use Rattle.asm.specs.Instructions.{◌>>=◌, or_range_fault, code_step, instruction_of}
use Rattle.asm.specs.Instructions.{with_instruction}
use Rattle.asm.specs.Rules.{◌and_then◌, is_stated_number, term_in, term_of, rank_of, slot_of}
use Rattle.asm.specs.Rules.{numbers_of, map_of, at_most, kind_of, range_in, bytes_of}
use Rattle.asm.specs.Assembling.{Sketch, nothing, line_step, body_step, label_step, state_step}
use Rattle.asm.specs.Assembling.{state_at, open_statement, order_fault, has_slot, all_of, bare}
use Rattle.asm.specs.Assembling.{instruction_step, hook_step, rank_step, with_rank, with_code}
use Rattle.asm.specs.Assembling.{with_last, with_step, kind_step, bytes_step, with_bytes, last_of}
use Rattle.asm.specs.Assembling.{match_last, is_empty, slot_at}
use Rattle.asm.specs.Lawful.{IsFront, IsTermSoon, IsOpen, AreInOrder, IsLawful}

-- ---- what an answer came from

taken_else : {A : Type 0} (b : Bool) (fault : AsmFault) (x : Result A AsmFault) (a : A)
    → (if b then Err fault else x) ≡ Ok a → (b ≡ false) × (x ≡ Ok a)
taken_else true fault x a e = cc
taken_else false fault x a e = (refl, e)

taken_from : {A B : Type 0} (x : Result A AsmFault) (f : A → Result B AsmFault) (b : B)
    → (x >>= f) ≡ Ok b → (a : A) × (x ≡ Ok a) × (f a ≡ Ok b)
taken_from (Ok a) f b e = (a, refl, e)
taken_from (Err fault) f b e = cc

found_from : {A B : Type 0} (x : Option A) (f : A → Option B) (b : B) → (x and_then f) ≡ Some b
    → (a : A) × (x ≡ Some a) × (f a ≡ Some b)
found_from (Some a) f b e = (a, refl, e)
found_from None f b e = cc

in_range : {A : Type 0} (x : Option A) (a : A) → or_range_fault x ≡ Ok a → x ≡ Some a
in_range (Some a) b e = cc
in_range None b e = cc

abbrev done : {A : Type 0} → A → Result A AsmFault
done a = Ok a

ok_same : {A : Type 0} (a b : A) → done a ≡ done b → a ≡ b
ok_same a b e = cc

some_same : {A : Type 0} (a b : A) → Some a ≡ Some b → a ≡ b
some_same a b e = cc

chosen : {A : Type 0} (b : Bool) (x a : A) → (if b then Some x else None) ≡ Some a
    → (b ≡ true) × (x ≡ a)
chosen true x a e = (refl, some_same x a e)
chosen false x a e = cc

-- ---- fields

natural_below : (bound : ℕ) (n : Numeral) (m : ℕ) → natural_in bound n ≡ Some m → m < bound
natural_below bound (numerals.Natural n) m e =
    let c = chosen (nat_lt n bound) n m e in
    subst (λ (x : ℕ). x < bound) c.1 (ltb-true n bound c.0)
natural_below bound (numerals.Negative n) m e = cc
natural_below bound numerals.Huge m e = cc

are_numbers : (r : Range) (n : Numbers) → numbers_of r ≡ Some n → IsNumbers n
are_numbers r n e =
    let low = found_from (natural_in (2 ^ 64) r.low) _ n e in
    let high = found_from (natural_in (2 ^ 64) r.high) _ n low.2 in
    let mask = found_from (natural_in (2 ^ 64) r.mask) _ n high.2 in
    let value = found_from (natural_in (2 ^ 64) r.value) _ n mask.2 in
    let c = chosen (nat_le low.0 high.0 && (bit_and value.0 mask.0 == value.0)) (record {
      low = low.0;
      high = high.0;
      mask = mask.0;
      value = value.0;
    }) n value.2 in
    let t = and_parts (nat_le low.0 high.0) (bit_and value.0 mask.0 == value.0) c.0 in
    subst (λ (x : Numbers). IsNumbers x) c.1 (record {
      high = natural_below (2 ^ 64) r.high high.0 high.1;
      mask = natural_below (2 ^ 64) r.mask mask.0 mask.1;
      value = natural_below (2 ^ 64) r.value value.0 value.1;
      ordered = leb-true low.0 high.0 t.0;
      masked = eqb-true (bit_and value.0 mask.0) value.0 t.1;
    })

offset_within : (most n offset : ℕ) → at_most most n ≡ Some offset → offset ≤ most
offset_within most n offset e =
    let c = chosen (nat_le n most) n offset e in
    subst (λ (x : ℕ). x ≤ most) c.1 (leb-true n most c.0)

is_kind : (content : RegisterContent) (kind : StatedKind) → kind_of content ≡ Some kind
    → IsKind kind
is_kind (contents.Number range) kind e =
    let n = found_from (numbers_of range) _ kind e in
    subst (λ (k : StatedKind). IsKind k) (some_same (kinds.Number n.0) kind n.2)
    (are_numbers range n.0 n.1)
is_kind (contents.Context offset) kind e =
    let n = found_from (natural_in (2 ^ 32) offset) _ kind e in
    let o = found_from (at_most 64 n.0) _ kind n.2 in
    subst (λ (k : StatedKind). IsKind k) (some_same (kinds.Context o.0) kind o.2)
    (offset_within 64 n.0 o.0 o.1)
is_kind (contents.Stack offset) kind e =
    let n = found_from (natural_in (2 ^ 32) offset) _ kind e in
    let o = found_from (at_most 512 n.0) _ kind n.2 in
    subst (λ (k : StatedKind). IsKind k) (some_same (kinds.Stack o.0) kind o.2)
    (offset_within 512 n.0 o.0 o.1)
is_kind (contents.Map map range) kind e =
    let m = found_from (map_of map) _ kind e in
    let n = found_from (numbers_of range) _ kind m.2 in
    subst (λ (k : StatedKind). IsKind k) (some_same (kinds.MapValue m.0 n.0) kind n.2)
    (are_numbers range n.0 n.1)

-- ---- ranks

term_cases : (none first stated small : Bool) (t : Term) (o : Option Term)
    → (if none then (if first then Some None else None) else
    (if stated then (if small then Some (Some t) else None) else None)) ≡ Some o
    → (o ≡ None) ⊎ ((none ≡ false) × (stated ≡ true) × (small ≡ true) × (o ≡ Some t))
term_cases true true stated small t o e = inl (sym (some_same None o e))
term_cases true false stated small t o e = cc
term_cases false first true true t o e = inr (refl, refl, refl, sym (some_same (Some t) o e))
term_cases false first true false t o e = cc
term_cases false first false small t o e = cc

abbrev IsTermBehind : List StatedKind → List (Option AssemblyLine) → Option Term → Type 0
IsTermBehind ks rest o = IsTermOrNone o × IsTermSoon ks rest o

term_soon : (ks : List StatedKind) (rest : List (Option AssemblyLine)) (register coefficient : ℕ)
    (o : Option Term) → coefficient < 2 ^ 32 → term_in rest register coefficient ≡ Some o
    → IsTermBehind ks rest o
term_soon ks rest register coefficient o fits e =
    ⊎_elim
    (λ n. subst (IsTermBehind ks rest) (sym n) (tt, tt))
    (λ c. subst (IsTermBehind ks rest) (sym c.3) (
      record {
        register = leb-true register 9 c.2;
        some = above_none coefficient c.0;
        coefficient = fits;
      },
      inr c.1,
    ))
    (term_cases (coefficient == 0) (register == 0) (is_stated_number rest register)
    (nat_le register 9) (record { register = register; coefficient = coefficient }) o e)
  where
    above_none : (n : ℕ) → (n == 0) ≡ false → 1 ≤ n
    above_none zero e = absurd (false≢true (sym e))
    above_none (suc n) e = omega arith

term_of_soon : (ks : List StatedKind) (rest : List (Option AssemblyLine)) (t : LineTerm)
    (o : Option Term) → term_of rest t ≡ Some o → IsTermBehind ks rest o
term_of_soon ks rest t o e =
    let c = found_from (natural_in (2 ^ 32) t.coefficient) _ o e in
    term_soon ks rest t.register c.0 o (natural_below (2 ^ 32) t.coefficient c.0 c.1) c.2

abbrev IsRankBehind : List StatedKind → List (Option AssemblyLine) → Rank → Type 0
IsRankBehind ks rest r = IsRank r × IsTermSoon ks rest r.first × IsTermSoon ks rest r.second

rank_made : (ks : List StatedKind) (rest : List (Option AssemblyLine)) (c : ℕ) (a b : Option Term)
    (r : Rank) → c < 2 ^ 32 → IsTermBehind ks rest a → IsTermBehind ks rest b
    → Some (record { constant = c; first = a; second = b }) ≡ Some r → IsRankBehind ks rest r
rank_made ks rest c a b r fits first second e =
    subst (IsRankBehind ks rest) (some_same (record {
      constant = c;
      first = a;
      second = b;
    }) r e) (record { constant = fits; first = first.0; second = second.0 }, first.1, second.1)

rank_soon : (ks : List StatedKind) (rest : List (Option AssemblyLine)) (constant : Numeral)
    (found : Terms) (r : Rank) → rank_of constant found rest ≡ Some r → IsRankBehind ks rest r
rank_soon ks rest constant terms.None r e =
    let c = found_from (natural_in (2 ^ 32) constant) _ r e in
    rank_made ks rest c.0 None None r (natural_below (2 ^ 32) constant c.0 c.1) (tt, tt) (tt, tt)
    c.2
rank_soon ks rest constant (terms.One t) r e =
    let c = found_from (natural_in (2 ^ 32) constant) _ r e in
    let a = found_from (term_of rest t) _ r c.2 in
    rank_made ks rest c.0 a.0 None r (natural_below (2 ^ 32) constant c.0 c.1)
    (term_of_soon ks rest t a.0 a.1) (tt, tt) a.2
rank_soon ks rest constant (terms.Two t u) r e =
    let c = found_from (natural_in (2 ^ 32) constant) _ r e in
    let a = found_from (term_of rest t) _ r c.2 in
    let b = found_from (term_of rest u) _ r a.2 in
    rank_made ks rest c.0 a.0 b.0 r (natural_below (2 ^ 32) constant c.0 c.1)
    (term_of_soon ks rest t a.0 a.1) (term_of_soon ks rest u b.0 b.1) b.2

-- ---- statements

-- None of the lines says that a register is a number.
abbrev StateNone : List (Option AssemblyLine) → Type 0
StateNone xs = (register : ℕ) → is_stated_number xs register ≡ false

term_closed : (ks : List StatedKind) (xs : List (Option AssemblyLine)) (o : Option Term)
    → StateNone xs → IsTermSoon ks xs o → IsTermOver ks o
term_closed ks xs None none h = tt
term_closed ks xs (Some t) none h =
    ⊎_elim (λ x. x) (λ e. absurd (false≢true (sym (none t.register) ∙ e))) h

closed : (xs : List (Option AssemblyLine)) (s : StatementParts) → StateNone xs → s.slot < 4096
    → IsOpen xs s → IsStatement s
closed xs s none below is = record {
  slot = omega arith;
  rank = record {
    is_rank = is.rank;
    first = term_closed s.kinds xs s.rank.first none is.first;
    second = term_closed s.kinds xs s.rank.second none is.second;
  };
  count = is.count;
  kinds = is.kinds;
  stack = is.stack;
}

one_more : (ss : List StatementParts) (least slots : ℕ) (l : StatementParts)
    → AreStatements least l.slot ss → least ≤ l.slot → l.slot < slots → IsStatement l
    → AreStatements least slots (ss ++ l ∷ [])
one_more [] least slots l are low high is = (is, low, high, tt)
one_more (s ∷ ss) least slots l are low high is = (
  are.0,
  are.1,
  omega (arith, are.2, high),
  one_more ss (s.slot + 1) slots l are.3 (omega (arith, are.2)) high is,
)

-- with the last statement among them, if its slot is below this one
pub all_closed : (xs : List (Option AssemblyLine)) (slots next : ℕ) (before : List StatementParts)
    (last : Option StatementParts) → StateNone xs → slots ≤ 4096 → AreInOrder slots xs before last
    → ((l : StatementParts) → last ≡ Some l → l.slot < next)
    → AreStatements 0 next (all_of before last)
all_closed xs slots next before None none most order below =
    subst (AreStatements 0 next) (sym order) tt
all_closed xs slots next before (Some l) none most order below =
    one_more before 0 next l order.0 (omega arith) (below l refl)
    (closed xs l none (omega (arith, order.1)) order.2)

order_cases : (twice back : Bool) →
    (if twice then Some faults.Twice else (if back then Some faults.Range else None)) ≡ None
    → (twice ≡ false) × (back ≡ false)
order_cases true back e = cc
order_cases false true e = cc
order_cases false false e = (refl, refl)

above_last : (before : List StatementParts) (last : Option StatementParts) (slot : ℕ)
    (l : StatementParts) → order_fault before last slot ≡ None → last ≡ Some l → l.slot < slot
above_last before None slot l e is = cc
above_last before (Some m) slot l e is =
    let c = order_cases ((slot == m.slot) || has_slot before slot) (nat_lt slot m.slot) e in
    let other = eqb-false slot m.slot (or_parts (slot == m.slot) (has_slot before slot) c.0).0 in
    let high = ltb-false slot m.slot c.1 in
    let above : m.slot < slot = omega (arith, other, high) in
    subst (λ (x : StatementParts). x.slot < slot) (some_same m l is) above

all_empty : (k : ℕ) (d : StatedKind) → k < 10 → IsKind (get_or (replicate 10 kinds.Unstated) k d)
all_empty k d h = subst IsKind (sym (get_or-replicate 10 k kinds.Unstated d h)) tt

bare_open : (rest : List (Option AssemblyLine)) (slot : ℕ) (r : Rank)
    → IsRankBehind (replicate 10 kinds.Unstated) rest r → IsOpen rest (bare slot r)
bare_open rest slot r is = record {
  rank = is.0;
  first = is.1;
  second = is.2;
  count = length-replicate 10 kinds.Unstated;
  kinds = all_empty;
  stack = length-replicate 512 false;
}

opened_from : (s t : Sketch) (slot : ℕ) (r : Rank) (fault : Option AsmFault)
    → open_statement s slot r fault ≡ Ok t → (fault ≡ None) × (record s {
      before = all_of s.before s.last;
      last = Some (bare slot r);
    } ≡ t)
opened_from s t slot r (Some fault) e = cc
opened_from s t slot r None e = (refl, ok_same _ t e)

state_keeps : (s t : Sketch) (target : LabelOrNumber) (constant : Numeral) (found : Terms)
    (place : Option ℕ) (rest : List (Option AssemblyLine))
    → IsLawful (Some (lines.State target constant found) ∷ rest) s
    → state_step s target constant found place rest ≡ Ok t → IsLawful rest t
state_keeps s t target constant found place rest is e =
    let at = taken_from (slot_of target place) (state_at s (rank_of constant found rest)) t e in
    let slot = at.0 in
    let within = taken_else (nat_le (length s.code) slot) faults.Range
    (or_range_fault (rank_of constant found rest) >>= λ r. open_statement s slot r
    (order_fault s.before s.last slot)) t at.2 in
    let rank = taken_from (or_range_fault (rank_of constant found rest))
    (λ r. open_statement s slot r (order_fault s.before s.last slot)) t within.1 in
    let next = opened_from s t slot rank.0 (order_fault s.before s.last slot) rank.2 in
    let fits = leb-false (length s.code) slot within.0 in
    let soon = rank_soon (replicate 10 kinds.Unstated) rest constant found rank.0
    (in_range (rank_of constant found rest) rank.0 rank.1) in
    let whole = all_closed (Some (lines.State target constant found) ∷ rest) (length s.code) slot
    s.before s.last (λ register. refl) is.most is.statements
    (λ l. above_last s.before s.last slot l next.0) in
    subst (IsLawful rest) next.1 (record {
      front = is.front;
      most = is.most;
      statements = (whole, fits, bare_open rest slot rank.0 soon);
    })

-- ---- the other lines of a statement

soon_map : (ks ls : List StatedKind) (xs ys : List (Option AssemblyLine)) (o : Option Term)
    → ((r : ℕ) → IsNumberAt ks r → IsNumberAt ls r)
    → ((r : ℕ) → is_stated_number xs r ≡ true
    → IsNumberAt ls r ⊎ (is_stated_number ys r ≡ true)) → IsTermSoon ks xs o
    → IsTermSoon ls ys o
soon_map ks ls xs ys None keep now h = tt
soon_map ks ls xs ys (Some t) keep now h =
    ⊎_elim (λ n. inl (keep t.register n)) (λ e. now t.register e) h

-- a line that says nothing of registers
order_passed : (slots : ℕ) (xs ys : List (Option AssemblyLine)) (before : List StatementParts)
    (last : Option StatementParts) → ((r : ℕ) → is_stated_number xs r ≡ is_stated_number ys r)
    → AreInOrder slots xs before last → AreInOrder slots ys before last
order_passed slots xs ys before None same h = h
order_passed slots xs ys before (Some l) same h = (
  h.0,
  h.1,
  record {
    rank = h.2.rank;
    first = soon_map l.kinds l.kinds xs ys l.rank.first (λ r n. n) (λ r e. inr (sym (same r) ∙ e))
        h.2.first;
    second = soon_map l.kinds l.kinds xs ys l.rank.second (λ r n. n) (λ r e. inr (sym (same r) ∙ e))
        h.2.second;
    count = h.2.count;
    kinds = h.2.kinds;
    stack = h.2.stack;
  },
)

passed : (s : Sketch) (xs ys : List (Option AssemblyLine))
    → ((r : ℕ) → is_stated_number xs r ≡ is_stated_number ys r) → IsLawful xs s → IsLawful ys s
passed s xs ys same is = record {
  front = is.front;
  most = is.most;
  statements = order_passed (length s.code) xs ys s.before s.last same is.statements;
}

last_from : (o : Option StatementParts) (p : StatementParts) → match_last o ≡ Ok p → o ≡ Some p
last_from (Some q) p e = cc
last_from None p e = cc

-- the last statement and what it becomes
abbrev NextLast : Sketch → Sketch → (StatementParts → Result StatementParts AsmFault) → Type 0
NextLast s t step = (p q : StatementParts) × (s.last ≡ Some p) × (step p ≡ Ok q) × (record s {
  last = Some q;
} ≡ t)

next_last : (s t : Sketch) (step : StatementParts → Result StatementParts AsmFault)
    → (last_of s >>= λ p. step p >>= with_last s) ≡ Ok t → NextLast s t step
next_last s t step e =
    let p = taken_from (last_of s) (λ p. step p >>= with_last s) t e in
    let q = taken_from (step p.0) (with_last s) t p.2 in
    (p.0, q.0, last_from s.last p.0 p.1, q.1, ok_same (record s { last = Some q.0 }) t q.2)

-- the statements in order, after the last one became this one
order_next : (slots : ℕ) (xs ys : List (Option AssemblyLine)) (before : List StatementParts)
    (last : Option StatementParts) (p q : StatementParts) → last ≡ Some p → p.slot ≡ q.slot
    → (IsOpen xs p → IsOpen ys q) → AreInOrder slots xs before last
    → AreInOrder slots ys before (Some q)
order_next slots xs ys before last p q e same now h =
    let o : AreInOrder slots xs before (Some p) = subst (AreInOrder slots xs before) e h in (
      subst (λ (n : ℕ). AreStatements 0 n before) same o.0,
      subst (λ (n : ℕ). n < slots) same o.1,
      now o.2,
    )

next_keeps : (s t : Sketch) (xs ys : List (Option AssemblyLine))
    (step : StatementParts → Result StatementParts AsmFault) → NextLast s t step
    → ((p q : StatementParts) → step p ≡ Ok q → (p.slot ≡ q.slot) × (IsOpen xs p → IsOpen ys q))
    → IsLawful xs s → IsLawful ys t
next_keeps s t xs ys step n keeps is =
    let k = keeps n.0 n.1 n.3 in
    subst (IsLawful ys) n.4 (record {
      front = is.front;
      most = is.most;
      statements = order_next (length s.code) xs ys s.before s.last n.0 n.1 n.2 k.0 k.1
          is.statements;
    })

-- the line states its own register as a number, and no other
says_number : (register : ℕ) (content : RegisterContent) (kind : StatedKind)
    (rest : List (Option AssemblyLine)) (r : ℕ) → kind_of content ≡ Some kind
    → is_stated_number (Some (lines.With register content) ∷ rest) r
    ≡ true → ((register ≡ r) × ((numbers : Numbers) × (kind ≡ kinds.Number numbers)))
    ⊎ (is_stated_number rest r ≡ true)
says_number register (contents.Number range) kind rest r e h =
    let n = found_from (numbers_of range) _ kind e in
    either (register == r) refl h (n.0, sym (some_same (kinds.Number n.0) kind n.2))
  where
    either : (b : Bool) → (register == r) ≡ b → (if b then true else is_stated_number rest r) ≡ true
        → ((numbers : Numbers) × (kind ≡ kinds.Number numbers))
        → ((register ≡ r) × ((numbers : Numbers) × (kind ≡ kinds.Number numbers)))
        ⊎ (is_stated_number rest r ≡ true)
    either true same h n = inl (eqb-true register r same, n)
    either false other h n = inr h
says_number register (contents.Context offset) kind rest r e h = inr h
says_number register (contents.Stack offset) kind rest r e h = inr h
says_number register (contents.Map map range) kind rest r e h = inr h

number_put : (ks : List StatedKind) (register : ℕ) (kind : StatedKind) (r : ℕ)
    → register < length ks → (register ≡ r) × ((numbers : Numbers) × (kind ≡ kinds.Number numbers))
    → IsNumberAt (set ks register kind) r
number_put ks register kind r h n =
    let there : register < length (set ks register kind) =
    subst (λ (m : ℕ). register < m) (sym (length-set ks register kind)) h in
    subst (IsNumberAt (set ks register kind)) n.0 (
      n.1.0,
      slice_get-get_or (set ks register kind) register kind there
          ∙ ap (λ (k : StatedKind). Some k) (get_or-set_same ks register kind kind h ∙ n.1.1),
    )

number_kept : (ks : List StatedKind) (register : ℕ) (kind : StatedKind) (r : ℕ)
    → is_empty (get_or ks register kinds.Unstated) ≡ true → IsNumberAt ks r
    → IsNumberAt (set ks register kind) r
number_kept ks register kind r empty n =
    let h = slice_get_within ks r (kinds.Number n.0) n.1 in
    let was = get_or_from_slice_get ks r (kinds.Number n.0) kinds.Unstated n.1 in
    let other : r ≢ register = λ e. false≢true
    (ap is_empty (sym was ∙ ap (λ (i : ℕ). get_or ks i kinds.Unstated) e) ∙ empty) in
    let there : r < length (set ks register kind) =
    subst (λ (m : ℕ). r < m) (sym (length-set ks register kind)) h in (
      n.0,
      slice_get-get_or (set ks register kind) r kinds.Unstated there
          ∙ ap (λ (k : StatedKind). Some k)
          (get_or-set_other ks register r kind kinds.Unstated other ∙ was),
    )

kind_kept : (p q : StatementParts) (register : ℕ) (kind : StatedKind)
    → kind_step p register kind ≡ Ok q
    → (register < 10) × (is_empty (get_or p.kinds register kinds.Unstated) ≡ true) × (record p {
      kinds = set p.kinds register kind;
    } ≡ q)
kind_kept p q register kind e =
    let c = taken_else (nat_lt 9 register) faults.Range
    (if is_empty (get_or p.kinds register kinds.Unstated) then Ok (record p {
      kinds = set p.kinds register kind;
    }) else Err faults.Twice) q e in
    let d = ok_chosen (is_empty (get_or p.kinds register kinds.Unstated)) (record p {
      kinds = set p.kinds register kind;
    }) q faults.Twice c.1 in
    let low = ltb-false 9 register c.0 in
    (omega (arith, low), d.0, d.1)
  where
    ok_chosen : {A : Type 0} (b : Bool) (x a : A) (fault : AsmFault)
        → (if b then Ok x else Err fault) ≡ Ok a → (b ≡ true) × (x ≡ a)
    ok_chosen true x a fault e = (refl, ok_same x a e)
    ok_chosen false x a fault e = cc

with_open : (p q : StatementParts) (register : ℕ) (content : RegisterContent)
    (rest : List (Option AssemblyLine)) → with_step p register content ≡ Ok q
    → (p.slot ≡ q.slot) × (IsOpen (Some (lines.With register content) ∷ rest) p → IsOpen rest q)
with_open p q register content rest e =
    let k = taken_from (or_range_fault (kind_of content)) (kind_step p register) q e in
    let kind = k.0 in
    let found = in_range (kind_of content) kind k.1 in
    let c = kind_kept p q register kind k.2 in
    subst (λ (x : StatementParts). (p.slot ≡ x.slot)
    × (IsOpen (Some (lines.With register content) ∷ rest) p → IsOpen rest x)) c.2 (
      refl,
      λ is.
          let h : register < length p.kinds = omega (arith, c.0, is.count) in
          let now = λ (r : ℕ) (s : is_stated_number (Some (lines.With register content) ∷ rest) r
          ≡ true).
          ⊎_elim (λ n. inl (number_put p.kinds register kind r h n)) (λ later. inr later)
          (says_number register content kind rest r found s) in
          record {
            rank = is.rank;
            first = soon_map p.kinds (set p.kinds register kind)
                (Some (lines.With register content) ∷ rest) rest p.rank.first
                (λ r. number_kept p.kinds register kind r c.1) now is.first;
            second = soon_map p.kinds (set p.kinds register kind)
                (Some (lines.With register content) ∷ rest) rest p.rank.second
                (λ r. number_kept p.kinds register kind r c.1) now is.second;
            count = length-set p.kinds register kind ∙ is.count;
            kinds = All-set IsKind p.kinds register kind (is_kind content kind found) is.kinds;
            stack = is.stack;
          },
    )

range_within : (start end : ℕ) (a : ℕ × ℕ) → range_in start end ≡ Some a → (a.0 ≤ a.1) × (a.1 ≤ 512)
range_within start end a e =
    let c = chosen (nat_le start end && nat_le end 512) (start, end) a e in
    let t = and_parts (nat_le start end) (nat_le end 512) c.0 in
    subst (λ (x : ℕ × ℕ). (x.0 ≤ x.1) × (x.1 ≤ 512)) c.1
    (leb-true start end t.0, leb-true end 512 t.1)

length_with_range : (start end : ℕ) (stack : List Bool) → start ≤ end → end ≤ 512
    → length stack ≡ 512 → length (with_range start end stack) ≡ 512
length_with_range start end stack low high e =
    let parts : length (take start stack ++ replicate (end - start) true) + length (drop end stack)
    ≡ 512 =
    omega (
      arith,
      length-append (take start stack) (replicate (end - start) true),
      length-take-le start stack (omega arith),
      length-replicate (end - start) true,
      length-drop end stack,
    ) in
    length-append (take start stack ++ replicate (end - start) true) (drop end stack) ∙ parts

bytes_open : (p q : StatementParts) (m n : Numeral) (rest : List (Option AssemblyLine))
    → bytes_step p m n ≡ Ok q → (p.slot ≡ q.slot)
    × (IsOpen (Some (lines.Bytes m n) ∷ rest) p → IsOpen rest q)
bytes_open p q m n rest e =
    let a = taken_from (or_range_fault (bytes_of m n)) (with_bytes p) q e in
    let found = in_range (bytes_of m n) a.0 a.1 in
    let start = found_from (natural_in (2 ^ 32) m) _ a.0 found in
    let end = found_from (natural_in (2 ^ 32) n) _ a.0 start.2 in
    let within = range_within start.0 end.0 a.0 end.2 in
    subst (λ (x : StatementParts). (p.slot ≡ x.slot)
    × (IsOpen (Some (lines.Bytes m n) ∷ rest) p → IsOpen rest x)) (ok_same (record p {
      stack = with_range a.0.0 a.0.1 p.stack;
    }) q a.2) (
      refl,
      λ is. record {
        rank = is.rank;
        first = soon_map p.kinds p.kinds (Some (lines.Bytes m n) ∷ rest) rest p.rank.first
            (λ r k. k) (λ r s. inr s) is.first;
        second = soon_map p.kinds p.kinds (Some (lines.Bytes m n) ∷ rest) rest p.rank.second
            (λ r k. k) (λ r s. inr s) is.second;
        count = is.count;
        kinds = is.kinds;
        stack = length_with_range a.0.0 a.0.1 p.stack within.0 within.1 is.stack;
      },
    )

-- ---- lines before the statements

front_hook : (h : Option Hook) (r : Option ℕ) (code : List Slot) (hook : Hook) → is_some h ≡ false
    → IsFront h r code → IsFront (Some hook) r code
front_hook h None code hook e is = is
front_hook None (Some rank) code hook e is = absurd is
front_hook (Some old) (Some rank) code hook e is = absurd (false≢true (sym e))

hook_keeps : (s t : Sketch) (hook : Hook) (rest : List (Option AssemblyLine))
    → IsLawful (Some (lines.Hook hook) ∷ rest) s → hook_step s hook ≡ Ok t → IsLawful rest t
hook_keeps s t hook rest is e =
    let c = taken_else (is_some s.hook) faults.Syntax (Ok (record s { hook = Some hook })) t e in
    let same = passed s (Some (lines.Hook hook) ∷ rest) rest (λ r. refl) is in
    subst (IsLawful rest) (ok_same (record s {
      hook = Some hook;
    }) t c.1) (record {
      front = front_hook s.hook s.rank s.code hook c.0 is.front;
      most = is.most;
      statements = same.statements;
    })

front_rank : (h : Option Hook) (code : List Slot) (rank : ℕ) → is_none h ≡ false → rank < 2 ^ 32
    → IsFront h (Some rank) code
front_rank None code rank e fits = absurd (false≢true (sym e))
front_rank (Some hook) code rank e fits = fits

rank_keeps : (s t : Sketch) (n : Numeral) (rest : List (Option AssemblyLine))
    → IsLawful (Some (lines.Rank n) ∷ rest) s → rank_step s n ≡ Ok t → IsLawful rest t
rank_keeps s t n rest is e =
    let c = taken_else (is_none s.hook || is_some s.rank) faults.Syntax
    (or_range_fault (natural_in (2 ^ 32) n) >>= with_rank s) t e in
    let rank = taken_from (or_range_fault (natural_in (2 ^ 32) n)) (with_rank s) t c.1 in
    let fits = natural_below (2 ^ 32) n rank.0 (in_range (natural_in (2 ^ 32) n) rank.0 rank.1) in
    let same = passed s (Some (lines.Rank n) ∷ rest) rest (λ r. refl) is in
    subst (IsLawful rest) (ok_same (record s { rank = Some rank.0 }) t rank.2)
    (record {
      front = front_rank s.hook s.code rank.0 (or_parts (is_none s.hook) (is_some s.rank) c.0).0
          fits;
      most = is.most;
      statements = same.statements;
    })

front_code : (h : Option Hook) (r : Option ℕ) (old new : List Slot) → is_none r ≡ false
    → IsFront h r old → IsFront h r new
front_code h None old new e is = absurd (false≢true (sym e))
front_code None (Some rank) old new e is = absurd is
front_code (Some hook) (Some rank) old new e is = is

order_none : (slots more : ℕ) (xs ys : List (Option AssemblyLine)) (before : List StatementParts)
    (last : Option StatementParts) → is_some last ≡ false → AreInOrder slots xs before last
    → AreInOrder more ys before last
order_none slots more xs ys before None e h = h
order_none slots more xs ys before (Some l) e h = absurd (false≢true (sym e))

instruction_keeps : (s t : Sketch) (line : AssemblyLine) (place : Option ℕ)
    (xs rest : List (Option AssemblyLine)) → is_none s.rank ≡ false → IsLawful xs s
    → instruction_step s line place ≡ Ok t → IsLawful rest t
instruction_keeps s t line place xs rest behind is e =
    let c = taken_else (is_some s.last) faults.Syntax (code_step s.code line place >>= with_code s)
    t e in
    let code = taken_from (code_step s.code line place) (with_code s) t c.1 in
    let i = taken_from (instruction_of line (length s.code) place) (with_instruction s.code) code.0
    code.1 in
    let room = taken_else (nat_lt 4096 (length s.code + length (slots_of i.0))) faults.Range
    (Ok (s.code ++ slots_of i.0)) code.0 i.2 in
    let few = ltb-false 4096 (length s.code + length (slots_of i.0)) room.0 in
    let most : length (s.code ++ slots_of i.0) ≤ 4096 =
    omega (arith, length-append s.code (slots_of i.0), few) in
    subst (IsLawful rest) (ok_same (record s { code = code.0 }) t code.2) (record {
      front = front_code s.hook s.rank s.code code.0 behind is.front;
      most = subst (λ (x : List Slot). length x ≤ 4096)
          (ok_same (s.code ++ slots_of i.0) code.0 room.1) most;
      statements = order_none (length s.code) (length code.0) xs rest s.before s.last c.0
          is.statements;
    })

label_same : (s t : Sketch) (at : ℕ) (place : Option Place) → label_step s at place ≡ Ok t → s ≡ t
label_same s t at None e = ok_same s t e
label_same s t at (Some place) e =
    ok_same s t (taken_else (nat_lt place.line at) faults.Twice (Ok s) t e).1

-- ---- all lines

body_keeps : (s t : Sketch) (line : AssemblyLine) (at : ℕ) (place : Option Place)
    (rest : List (Option AssemblyLine)) → is_none s.rank ≡ false → IsLawful (Some line ∷ rest) s
    → body_step s line at place rest ≡ Ok t → IsLawful rest t
body_keeps s t lines.Label at place rest b is e =
    subst (IsLawful rest) (label_same s t at place e)
    (passed s (Some lines.Label ∷ rest) rest (λ r. refl) is)
body_keeps s t (lines.State slot constant found) at place rest b is e =
    state_keeps s t slot constant found (slot_at place) rest is e
body_keeps s t (lines.With register content) at place rest b is e =
    next_keeps s t (Some (lines.With register content) ∷ rest) rest
    (λ p. with_step p register content) (next_last s t (λ p. with_step p register content) e)
    (λ p q. with_open p q register content rest) is
body_keeps s t (lines.Bytes start end) at place rest b is e =
    next_keeps s t (Some (lines.Bytes start end) ∷ rest) rest (λ p. bytes_step p start end)
    (next_last s t (λ p. bytes_step p start end) e) (λ p q. bytes_open p q start end rest) is
body_keeps s t lines.Empty at place rest b is e =
    instruction_keeps s t lines.Empty (slot_at place) (Some lines.Empty ∷ rest) rest b is e
body_keeps s t (lines.Hook hook) at place rest b is e =
    instruction_keeps s t (lines.Hook hook) (slot_at place) (Some (lines.Hook hook) ∷ rest) rest b
    is e
body_keeps s t (lines.Rank n) at place rest b is e =
    instruction_keeps s t (lines.Rank n) (slot_at place) (Some (lines.Rank n) ∷ rest) rest b is e
body_keeps s t lines.Exit at place rest b is e =
    instruction_keeps s t lines.Exit (slot_at place) (Some lines.Exit ∷ rest) rest b is e
body_keeps s t (lines.Arithmetic width operation target source) at place rest b is e =
    instruction_keeps s t (lines.Arithmetic width operation target source) (slot_at place)
    (Some (lines.Arithmetic width operation target source) ∷ rest) rest b is e
body_keeps s t (lines.Negate width target) at place rest b is e =
    instruction_keeps s t (lines.Negate width target) (slot_at place)
    (Some (lines.Negate width target) ∷ rest) rest b is e
body_keeps s t (lines.SignExtend extension target source) at place rest b is e =
    instruction_keeps s t (lines.SignExtend extension target source) (slot_at place)
    (Some (lines.SignExtend extension target source) ∷ rest) rest b is e
body_keeps s t (lines.Reorder order width target) at place rest b is e =
    instruction_keeps s t (lines.Reorder order width target) (slot_at place)
    (Some (lines.Reorder order width target) ∷ rest) rest b is e
body_keeps s t (lines.Jump target) at place rest b is e =
    instruction_keeps s t (lines.Jump target) (slot_at place) (Some (lines.Jump target) ∷ rest) rest
    b is e
body_keeps s t (lines.LongJump target) at place rest b is e =
    instruction_keeps s t (lines.LongJump target) (slot_at place)
    (Some (lines.LongJump target) ∷ rest) rest b is e
body_keeps s t (lines.Branch width test left right target) at place rest b is e =
    instruction_keeps s t (lines.Branch width test left right target) (slot_at place)
    (Some (lines.Branch width test left right target) ∷ rest) rest b is e
body_keeps s t (lines.Call helper) at place rest b is e =
    instruction_keeps s t (lines.Call helper) (slot_at place) (Some (lines.Call helper) ∷ rest) rest
    b is e
body_keeps s t (lines.Load size target base offset) at place rest b is e =
    instruction_keeps s t (lines.Load size target base offset) (slot_at place)
    (Some (lines.Load size target base offset) ∷ rest) rest b is e
body_keeps s t (lines.Store size base offset source) at place rest b is e =
    instruction_keeps s t (lines.Store size base offset source) (slot_at place)
    (Some (lines.Store size base offset source) ∷ rest) rest b is e
body_keeps s t (lines.LoadNumber target number) at place rest b is e =
    instruction_keeps s t (lines.LoadNumber target number) (slot_at place)
    (Some (lines.LoadNumber target number) ∷ rest) rest b is e
body_keeps s t (lines.LoadMap target map offset) at place rest b is e =
    instruction_keeps s t (lines.LoadMap target map offset) (slot_at place)
    (Some (lines.LoadMap target map offset) ∷ rest) rest b is e

behind_front : (s t : Sketch) (line : AssemblyLine) (at : ℕ) (place : Option Place)
    (rest : List (Option AssemblyLine)) → IsLawful (Some line ∷ rest) s
    → (if is_none s.rank then Err faults.Syntax else body_step s line at place rest) ≡ Ok t
    → IsLawful rest t
behind_front s t line at place rest is e =
    let c = taken_else (is_none s.rank) faults.Syntax (body_step s line at place rest) t e in
    body_keeps s t line at place rest c.0 is c.1

line_keeps : (s t : Sketch) (line : AssemblyLine) (at : ℕ) (place : Option Place)
    (rest : List (Option AssemblyLine)) → IsLawful (Some line ∷ rest) s
    → line_step s line at place rest ≡ Ok t → IsLawful rest t
line_keeps s t lines.Empty at place rest is e =
    subst (IsLawful rest) (ok_same s t e) (passed s (Some lines.Empty ∷ rest) rest (λ r. refl) is)
line_keeps s t (lines.Hook hook) at place rest is e = hook_keeps s t hook rest is e
line_keeps s t (lines.Rank n) at place rest is e = rank_keeps s t n rest is e
line_keeps s t lines.Label at place rest is e = behind_front s t lines.Label at place rest is e
line_keeps s t (lines.State slot constant found) at place rest is e =
    behind_front s t (lines.State slot constant found) at place rest is e
line_keeps s t (lines.With register content) at place rest is e =
    behind_front s t (lines.With register content) at place rest is e
line_keeps s t (lines.Bytes start end) at place rest is e =
    behind_front s t (lines.Bytes start end) at place rest is e
line_keeps s t lines.Exit at place rest is e = behind_front s t lines.Exit at place rest is e
line_keeps s t (lines.Arithmetic width operation target source) at place rest is e =
    behind_front s t (lines.Arithmetic width operation target source) at place rest is e
line_keeps s t (lines.Negate width target) at place rest is e =
    behind_front s t (lines.Negate width target) at place rest is e
line_keeps s t (lines.SignExtend extension target source) at place rest is e =
    behind_front s t (lines.SignExtend extension target source) at place rest is e
line_keeps s t (lines.Reorder order width target) at place rest is e =
    behind_front s t (lines.Reorder order width target) at place rest is e
line_keeps s t (lines.Jump target) at place rest is e =
    behind_front s t (lines.Jump target) at place rest is e
line_keeps s t (lines.LongJump target) at place rest is e =
    behind_front s t (lines.LongJump target) at place rest is e
line_keeps s t (lines.Branch width test left right target) at place rest is e =
    behind_front s t (lines.Branch width test left right target) at place rest is e
line_keeps s t (lines.Call helper) at place rest is e =
    behind_front s t (lines.Call helper) at place rest is e
line_keeps s t (lines.Load size target base offset) at place rest is e =
    behind_front s t (lines.Load size target base offset) at place rest is e
line_keeps s t (lines.Store size base offset source) at place rest is e =
    behind_front s t (lines.Store size base offset source) at place rest is e
line_keeps s t (lines.LoadNumber target number) at place rest is e =
    behind_front s t (lines.LoadNumber target number) at place rest is e
line_keeps s t (lines.LoadMap target map offset) at place rest is e =
    behind_front s t (lines.LoadMap target map offset) at place rest is e

pub nothing_lawful : (xs : List (Option AssemblyLine)) → IsLawful xs nothing
nothing_lawful xs = record { front = refl; most = omega arith; statements = refl }

same_lines : (xs ys : List (Option AssemblyLine)) (s : Sketch) → xs ≡ ys → IsLawful xs s
    → IsLawful ys s
same_lines xs ys s e is = subst (λ (zs : List (Option AssemblyLine)). IsLawful zs s) e is

-- the line at this place preserves it
pub keeps_at : (lines xs : List (Option AssemblyLine)) (at : ℕ) (s t : Sketch)
    (l : Option AssemblyLine) (line : AssemblyLine) (place : Option Place) → at < length lines
    → l ≡ get_or lines at l → l ≡ Some line → xs ≡ lines → IsLawful (drop at lines) s
    → line_step s line at place (take (length xs - (at + 1)) (drop (at + 1) xs)) ≡ Ok t
    → IsLawful (drop (at + 1) lines) t
keeps_at lines xs at s t l line place h el e same is step =
    let rest : take (length xs - (at + 1)) (drop (at + 1) xs) ≡ drop (at + 1) lines =
    take_rest xs (at + 1) ∙ ap (λ (ys : List (Option AssemblyLine)). drop (at + 1) ys) same in
    let cut : drop at lines ≡ Some line ∷ drop (at + 1) lines =
    drop_more lines at l h ∙ ap (λ (x : Option AssemblyLine). x ∷ drop (at + 1) lines) (sym el ∙ e)
    in
    line_keeps s t line at place (drop (at + 1) lines)
    (same_lines (drop at lines) (Some line ∷ drop (at + 1) lines) s cut is)
    (subst (λ (ys : List (Option AssemblyLine)). line_step s line at place ys ≡ Ok t) rest step)

pub keeps_end : (lines : List (Option AssemblyLine)) (at : ℕ) (s : Sketch) → length lines ≤ at
    → IsLawful (drop at lines) s → IsLawful [] s
keeps_end lines at s h is = same_lines (drop at lines) [] s (drop_of_length-le lines h) is
