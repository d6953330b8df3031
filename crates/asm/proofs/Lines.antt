-- Texts of listings: what is written, and what is still to come.
use Rattle.std.proofs.Common.{◌≡◌, ◌∙◌, ⊎_elim, ℕ, zero, suc, ◌+◌, ◌-◌, ◌≤◌, ◌<◌, Bool, true, false}
use Rattle.std.proofs.Common.{List, [], ◌∷◌, ◌++◌, length, take, drop, get_or, map, Option, Some}
use Rattle.std.proofs.Common.{None, refl, ap, sym, subst, arith, append_assoc, append-nil, eq-eqb}
use Rattle.std.proofs.Common.{ne_eqb, take-append-drop}
use Rattle.std.specs.Prelude.{◌==◌, replicate}
use Rattle.std.specs.List.{flat_map}
use Rattle.std.proofs.lemmas.Bool.{cond-true, cond-false, cond_both, false≢true, cases_lt}
use Rattle.std.proofs.lemmas.List.{drop_more, drop_all, drop_at, length-take-le}
use Rattle.isa.specs.declared.hook.Hook.{Hook}
use Rattle.isa.specs.declared.code.Slot.{Slot}
use Rattle.isa.specs.declared.code.Slot.TheVariants.{Start, SecondHalf}
use Rattle.isa.specs.declared.instruction.Instruction.{Instruction}
use Rattle.object.specs.declared.kind.StatedKind.{StatedKind}
use Rattle.object.specs.declared.rank.Rank.{Rank}
use Rattle.object.specs.Statements.{StatementParts}
use Rattle.object.specs.Objects.{ObjectParts}
use Rattle.object.specs.Sets.{has_byte}
use Rattle.asm.specs.declared.numeral.Numeral.{Numeral}
use Rattle.asm.specs.declared.numeral.Numeral.TheVariants.{Natural}
use Rattle.asm.specs.declared.line.AssemblyLine.{AssemblyLine}
use Rattle.asm.specs.declared.line.AssemblyLine.TheVariants as lines
use Rattle.asm.specs.declared.line.LabelOrNumber.TheVariants as targets
use Rattle.asm.specs.declared.line.Terms.{Terms}
use Rattle.asm.specs.declared.line.RegisterContent.{RegisterContent}
use Rattle.asm.specs.Written.{line_text}
use Rattle.asm.specs.Listing.{AddsText, text_of, slot_lines, instruction_line, with_line}
use Rattle.asm.specs.Listing.{with_lines, the_content, the_terms, join_byte, longest_ranges}
use Rattle.asm.specs.Listing.{bytes_line, state_line, statement_lines, listing_lines}
use Rattle.asm.proofs.Ranges.{AllIn}

pub text-append : (a b : List AssemblyLine) → text_of (a ++ b) ≡ text_of a ++ text_of b
text-append [] b = refl
text-append (l ∷ a) b =
    ap (λ (t : List ℕ). line_text l [] ++ t) (text-append a b)
    ∙ sym (append_assoc (line_text l []) (text_of a) (text_of b))

-- one more line is written
pub line_written : (old new whole : List ℕ) (l : AssemblyLine) (rest : List AssemblyLine)
    → new ≡ old ++ line_text l [] → old ++ text_of (l ∷ rest) ≡ whole → new ++ text_of rest ≡ whole
line_written old new whole l rest e h =
    ap (λ (t : List ℕ). t ++ text_of rest) e ∙ append_assoc old (line_text l []) (text_of rest) ∙ h

-- or several
pub lines_written : (old new whole : List ℕ) (ls rest : List AssemblyLine) → AddsText old new ls
    → old ++ text_of (ls ++ rest) ≡ whole → new ++ text_of rest ≡ whole
lines_written old new whole ls rest e h =
    ap (λ (t : List ℕ). t ++ text_of rest) e ∙ append_assoc old (text_of ls) (text_of rest)
    ∙ ap (λ (t : List ℕ). old ++ t) (sym (text-append ls rest)) ∙ h

-- and nothing is still to come
pub all_written : (text whole : List ℕ) (rest : List AssemblyLine) → rest ≡ []
    → text ++ text_of rest ≡ whole → text ≡ whole
all_written text whole rest e h = sym (append-nil text)
    ∙ ap (λ (ls : List AssemblyLine). text ++ text_of ls) (sym e) ∙ h

-- ---- instructions

pub start_written : (old new whole : List ℕ) (slots : List Slot) (at : ℕ) (l : AssemblyLine)
    (i : Instruction) → at < length slots → get_or slots at (Start i) ≡ Start i
    → l ≡ instruction_line i → new ≡ old ++ line_text l []
    → old ++ text_of (flat_map slot_lines (drop at slots)) ≡ whole
    → new ++ text_of (flat_map slot_lines (drop (at + 1) slots)) ≡ whole
start_written old new whole slots at l i h g el e inv =
    let here : drop at slots ≡ Start i ∷ drop (at + 1) slots =
    drop_more slots at (Start i) h ∙ ap (λ (x : Slot). x ∷ drop (at + 1) slots) g in
    line_written old new whole l (flat_map slot_lines (drop (at + 1) slots)) e
    (ap (λ (x : AssemblyLine). old ++ text_of (x ∷ flat_map slot_lines (drop (at + 1) slots))) el
    ∙ ap (λ (xs : List Slot). old ++ text_of (flat_map slot_lines xs)) (sym here) ∙ inv)

pub second_written : (old whole : List ℕ) (slots : List Slot) (at : ℕ) → at < length slots
    → get_or slots at SecondHalf ≡ SecondHalf
    → old ++ text_of (flat_map slot_lines (drop at slots)) ≡ whole
    → old ++ text_of (flat_map slot_lines (drop (at + 1) slots)) ≡ whole
second_written old whole slots at h g inv =
    let here : drop at slots ≡ SecondHalf ∷ drop (at + 1) slots =
    drop_more slots at SecondHalf h ∙ ap (λ (x : Slot). x ∷ drop (at + 1) slots) g in
    ap (λ (xs : List Slot). old ++ text_of (flat_map slot_lines xs)) (sym here) ∙ inv

pub code_written : (text whole : List ℕ) (slots : List Slot) (at : ℕ) → length slots ≤ at
    → text ++ text_of (flat_map slot_lines (drop at slots)) ≡ whole → text ≡ whole
code_written text whole slots at h inv =
    all_written text whole (flat_map slot_lines (drop at slots))
    (ap (λ (xs : List Slot). flat_map slot_lines xs) (drop_all at slots h)) inv

-- ---- registers

pub kind_written : (old new whole : List ℕ) (ks : List StatedKind) (at : ℕ) (k : StatedKind)
    (content : RegisterContent) → at < length ks → get_or ks at k ≡ k → the_content k ≡ Some content
    → new ≡ old ++ line_text (lines.With at content) []
    → old ++ text_of (with_lines at (drop at ks)) ≡ whole
    → new ++ text_of (with_lines (at + 1) (drop (at + 1) ks)) ≡ whole
kind_written old new whole ks at k content h g ec e inv =
    let here : drop at ks ≡ k ∷ drop (at + 1) ks =
    drop_more ks at k h ∙ ap (λ (x : StatedKind). x ∷ drop (at + 1) ks) g in
    line_written old new whole (lines.With at content) (with_lines (at + 1) (drop (at + 1) ks)) e
    (ap (λ (o : Option RegisterContent). old ++ text_of
    (with_line at o ++ with_lines (at + 1) (drop (at + 1) ks))) (sym ec)
    ∙ ap (λ (xs : List StatedKind). old ++ text_of (with_lines at xs)) (sym here) ∙ inv)

pub empty_written : (old whole : List ℕ) (ks : List StatedKind) (at : ℕ) (k : StatedKind)
    → at < length ks → get_or ks at k ≡ k → the_content k ≡ None
    → old ++ text_of (with_lines at (drop at ks)) ≡ whole
    → old ++ text_of (with_lines (at + 1) (drop (at + 1) ks)) ≡ whole
empty_written old whole ks at k h g ec inv =
    let here : drop at ks ≡ k ∷ drop (at + 1) ks =
    drop_more ks at k h ∙ ap (λ (x : StatedKind). x ∷ drop (at + 1) ks) g in
    ap (λ (o : Option RegisterContent). old ++ text_of
    (with_line at o ++ with_lines (at + 1) (drop (at + 1) ks))) (sym ec)
    ∙ ap (λ (xs : List StatedKind). old ++ text_of (with_lines at xs)) (sym here) ∙ inv

pub kinds_written : (text whole : List ℕ) (ks : List StatedKind) (at : ℕ) → length ks ≤ at
    → text ++ text_of (with_lines at (drop at ks)) ≡ whole → text ≡ whole
kinds_written text whole ks at h inv =
    all_written text whole (with_lines at (drop at ks))
    (ap (λ (xs : List StatedKind). with_lines at xs) (drop_all at ks h)) inv

-- ---- ranges of stack bytes

-- a range that begins further on stays as it is
apart_one : (byte from end : ℕ) (ranges : List (ℕ × ℕ)) → byte + 1 < from
    → join_byte byte ((from, end) ∷ ranges) ≡ (byte, byte + 1) ∷ (from, end) ∷ ranges
apart_one byte from end ranges h =
    cond-false (from == byte + 1) ((byte, end) ∷ ranges) ((byte, byte + 1) ∷ (from, end) ∷ ranges)
    (ne_eqb from (byte + 1) (λ e. omega (arith, e, h)))

apart_joined : (byte from : ℕ) (ranges : List (ℕ × ℕ)) → byte + 1 < from
    → join_byte byte (join_byte from ranges) ≡ (byte, byte + 1) ∷ join_byte from ranges
apart_joined byte from [] h = apart_one byte from (from + 1) [] h
apart_joined byte from (range ∷ ranges) h =
    cond_both (range.0 == from + 1) ((from, range.1) ∷ ranges) ((from, from + 1) ∷ range ∷ ranges)
    (λ (x : List (ℕ × ℕ)). join_byte byte x ≡ (byte, byte + 1) ∷ x)
    (λ e. apart_one byte from range.1 ranges h)
    (λ e. apart_one byte from (from + 1) (range ∷ ranges) h)

apart : (bytes : List Bool) (byte from : ℕ) → byte + 1 < from
    → join_byte byte (longest_ranges from bytes) ≡ (byte, byte + 1) ∷ longest_ranges from bytes
apart [] byte from h = refl
apart (true ∷ bytes) byte from h = apart_joined byte from (longest_ranges (from + 1) bytes) h
apart (false ∷ bytes) byte from h = apart bytes byte (from + 1) (omega (arith, h))

abbrev FirstOut : List Bool → Type 0
FirstOut [] = Unit {0}
FirstOut (b ∷ bytes) = b ≡ false

one_range : (byte : ℕ) (rest : List Bool) → FirstOut rest
    → join_byte byte (longest_ranges (byte + 1) rest) ≡ (byte, byte + 1)
    ∷ longest_ranges (byte + 1) rest
one_range byte [] out = refl
one_range byte (true ∷ rest) out = absurd (false≢true (sym out))
one_range byte (false ∷ rest) out = apart rest byte (byte + 1 + 1) (omega arith)

one_run : (n byte : ℕ) (rest : List Bool) → FirstOut rest
    → longest_ranges byte (replicate (suc n) true ++ rest) ≡ (byte, byte + suc n)
    ∷ longest_ranges (byte + suc n) rest
one_run zero byte rest out = one_range byte rest out
one_run (suc n) byte rest out =
    let end : byte + 1 + suc n ≡ byte + suc (suc n) = omega arith in
    let later = longest_ranges (byte + 1 + suc n) rest in
    ap (λ (rs : List (ℕ × ℕ)). join_byte byte rs) (one_run n (byte + 1) rest out)
    ∙ cond-true (byte + 1 == byte + 1) ((byte, byte + 1 + suc n) ∷ later)
    ((byte, byte + 1) ∷ (byte + 1, byte + 1 + suc n) ∷ later)
    (eq-eqb (byte + 1) (byte + 1) refl)
    ∙ ap (λ (m : ℕ). (byte, m) ∷ longest_ranges m rest) end

first_out : (stack : List Bool) (end : ℕ) → length stack ≡ 512
    → (end < 512 → has_byte stack end ≡ false) → FirstOut (drop end stack)
first_out stack end long out = ⊎_elim
    (λ l. subst (λ (xs : List Bool). FirstOut xs)
    (sym (drop_more stack end false (omega (arith, l, long)))) (out l))
    (λ l. subst (λ (xs : List Bool). FirstOut xs)
    (sym (drop_all end stack (omega (arith, l, long)))) tt) (cases_lt end 512)

range_cut : (stack : List Bool) (start end : ℕ) → length stack ≡ 512 → start < end → end ≤ 512
    → AllIn stack start end → (end < 512 → has_byte stack end ≡ false)
    → longest_ranges start (drop start stack) ≡ (start, end)
    ∷ longest_ranges end (drop end stack)
range_cut stack start end long lt le all out =
    let front : length (take start stack) ≡ start =
    length-take-le start stack (omega (arith, long, lt, le)) in
    let many : end - start ≡ suc (end - start - 1) = omega (arith, lt) in
    let ends : start + suc (end - start - 1) ≡ end = omega (arith, lt) in
    let cut : stack ≡ take start stack ++ (replicate (end - start) true ++ drop end stack) =
    sym (take-append-drop end stack) ∙ ap (λ (xs : List Bool). xs ++ drop end stack) all
    ∙ append_assoc (take start stack) (replicate (end - start) true) (drop end stack) in
    ap (λ (xs : List Bool). longest_ranges start xs)
    (ap (λ (xs : List Bool). drop start xs) cut
    ∙ drop_at (take start stack) (replicate (end - start) true ++ drop end stack) start front
    ∙ ap (λ (n : ℕ). replicate n true ++ drop end stack) many)
    ∙ one_run (end - start - 1) start (drop end stack) (first_out stack end long out)
    ∙ ap (λ (n : ℕ). (start, n) ∷ longest_ranges n (drop end stack)) ends

pub range_written : (old new whole : List ℕ) (stack : List Bool) (start end : ℕ)
    → length stack ≡ 512 → start < end → end ≤ 512 → AllIn stack start end
    → (end < 512 → has_byte stack end ≡ false)
    → new ≡ old ++ line_text (lines.Bytes (Natural start) (Natural end)) []
    → old ++ text_of (map bytes_line (longest_ranges start (drop start stack))) ≡ whole
    → new ++ text_of (map bytes_line (longest_ranges end (drop end stack))) ≡ whole
range_written old new whole stack start end long lt le all out e inv =
    line_written old new whole (bytes_line (start, end))
    (map bytes_line (longest_ranges end (drop end stack))) e
    (ap (λ (rs : List (ℕ × ℕ)). old ++ text_of (map bytes_line rs))
    (sym (range_cut stack start end long lt le all out)) ∙ inv)

pub skip_written : (old whole : List ℕ) (stack : List Bool) (at : ℕ) → length stack ≡ 512 → at < 512
    → has_byte stack at ≡ false → old
    ++ text_of (map bytes_line (longest_ranges at (drop at stack))) ≡ whole
    → old ++ text_of (map bytes_line (longest_ranges (at + 1) (drop (at + 1) stack)))
    ≡ whole
skip_written old whole stack at long h e inv =
    let here : drop at stack ≡ false ∷ drop (at + 1) stack =
    drop_more stack at false (omega (arith, long, h))
    ∙ ap (λ (b : Bool). b ∷ drop (at + 1) stack) e in
    ap (λ (xs : List Bool). old ++ text_of (map bytes_line (longest_ranges at xs))) (sym here) ∙ inv

pub stack_written : (text whole : List ℕ) (stack : List Bool) (at : ℕ) → length stack ≤ at
    → text ++ text_of (map bytes_line (longest_ranges at (drop at stack))) ≡ whole → text ≡ whole
stack_written text whole stack at h inv =
    all_written text whole (map bytes_line (longest_ranges at (drop at stack)))
    (ap (λ (xs : List Bool). map bytes_line (longest_ranges at xs)) (drop_all at stack h)) inv

-- ---- statements

parts_written : (a b c d : List ℕ) (l : AssemblyLine) (ks ss : List AssemblyLine)
    → b ≡ a ++ line_text l [] → AddsText b c ks → AddsText c d ss → AddsText a d (l ∷ (ks ++ ss))
parts_written a b c d l ks ss eb ec ed =
    ed ∙ ap (λ (t : List ℕ). t ++ text_of ss) ec ∙ append_assoc b (text_of ks) (text_of ss)
    ∙ ap (λ (t : List ℕ). b ++ t) (sym (text-append ks ss))
    ∙ ap (λ (t : List ℕ). t ++ text_of (ks ++ ss)) eb
    ∙ append_assoc a (line_text l []) (text_of (ks ++ ss))

pub statement_written : (a b c d : List ℕ) (s : StatementParts) (n m : Numeral) (t : Terms)
    (rank : Rank) (ks : List StatedKind) (stack : List Bool) → rank ≡ s.rank → ks ≡ s.kinds
    → stack ≡ s.stack → n ≡ Natural s.slot → m ≡ Natural rank.constant
    → t ≡ the_terms rank.first rank.second
    → b ≡ a ++ line_text (lines.State (targets.Number n) m t) []
    → AddsText b c (with_lines 0 ks)
    → AddsText c d (map bytes_line (longest_ranges 0 stack))
    → AddsText a d (statement_lines s)
statement_written a b c d s n m t rank ks stack er ek es en em et eb ec ed =
    let line : lines.State (targets.Number n) m t ≡ state_line s =
    ap (λ (x : Numeral). lines.State (targets.Number x) m t) en
    ∙ ap (λ (x : Numeral). lines.State (targets.Number (Natural s.slot)) x t) em
    ∙ ap (λ (x : Terms). lines.State (targets.Number (Natural s.slot))
    (Natural rank.constant) x) et
    ∙ ap (λ (r : Rank). lines.State (targets.Number (Natural s.slot)) (Natural r.constant)
    (the_terms r.first r.second)) er in
    parts_written a b c d (state_line s) (with_lines 0 s.kinds)
    (map bytes_line (longest_ranges 0 s.stack))
    (eb ∙ ap (λ (l : AssemblyLine). a ++ line_text l []) line)
    (ec ∙ ap (λ (xs : List StatedKind). b ++ text_of (with_lines 0 xs)) ek)
    (ed ∙ ap (λ (xs : List Bool). c ++ text_of (map bytes_line (longest_ranges 0 xs))) es)

pub one_more_written : (old new whole : List ℕ) (ss : List StatementParts) (at : ℕ)
    (s : StatementParts) → at < length ss → s ≡ get_or ss at s
    → AddsText old new (statement_lines s)
    → old ++ text_of (flat_map statement_lines (drop at ss)) ≡ whole
    → new ++ text_of (flat_map statement_lines (drop (at + 1) ss)) ≡ whole
one_more_written old new whole ss at s h is e inv =
    let here : drop at ss ≡ s ∷ drop (at + 1) ss =
    drop_more ss at s h ∙ ap (λ (x : StatementParts). x ∷ drop (at + 1) ss) (sym is) in
    lines_written old new whole (statement_lines s) (flat_map statement_lines (drop (at + 1) ss)) e
    (ap (λ (xs : List StatementParts). old ++ text_of (flat_map statement_lines xs)) (sym here)
    ∙ inv)

pub statements_written : (text whole : List ℕ) (ss : List StatementParts) (at : ℕ) → length ss ≤ at
    → text ++ text_of (flat_map statement_lines (drop at ss)) ≡ whole → text ≡ whole
statements_written text whole ss at h inv =
    all_written text whole (flat_map statement_lines (drop at ss))
    (ap (λ (xs : List StatementParts). flat_map statement_lines xs) (drop_all at ss h)) inv

-- ---- objects

pub head_written : (a b c : List ℕ) (hook : Hook) (rank : ℕ) (n : Numeral) → a ≡ []
    → n ≡ Natural rank → b ≡ a ++ line_text (lines.Hook hook) []
    → c ≡ b ++ line_text (lines.Rank n) []
    → c ≡ text_of (lines.Hook hook ∷ lines.Rank (Natural rank) ∷ [])
head_written a b c hook rank n ea en eb ec =
    parts_written a b c c (lines.Hook hook) (lines.Rank (Natural rank) ∷ []) [] eb
    (ec ∙ ap (λ (x : Numeral). b ++ line_text (lines.Rank x) []) en
    ∙ ap (λ (t : List ℕ). b ++ t) (sym (append-nil (line_text (lines.Rank (Natural rank)) []))))
    (sym (append-nil c))
    ∙ ap (λ (t : List ℕ). t ++ text_of (lines.Hook hook ∷ lines.Rank (Natural rank) ∷ [])) ea

pub object_written : (a b c : List ℕ) (o : ObjectParts) (code : List Slot) (hook : Hook) (rank : ℕ)
    (ss : List StatementParts) → hook ≡ o.hook → rank ≡ o.entry_rank → ss ≡ o.statements
    → a ≡ text_of (lines.Hook hook ∷ lines.Rank (Natural rank) ∷ [])
    → AddsText a b (flat_map slot_lines code) → AddsText b c (flat_map statement_lines ss)
    → c ≡ text_of (listing_lines o code)
object_written a b c o code hook rank ss eh er es ea eb ec =
    let head = lines.Hook o.hook ∷ lines.Rank (Natural o.entry_rank) ∷ [] in
    let first : a ≡ text_of head = ea
    ∙ ap (λ (h : Hook). text_of (lines.Hook h ∷ lines.Rank (Natural rank) ∷ [])) eh
    ∙ ap (λ (r : ℕ). text_of (lines.Hook o.hook ∷ lines.Rank (Natural r) ∷ [])) er in
    let middle = flat_map slot_lines code in
    let last = flat_map statement_lines o.statements in
    ec ∙ ap (λ (xs : List StatementParts). b ++ text_of (flat_map statement_lines xs)) es
    ∙ ap (λ (t : List ℕ). t ++ text_of last)
    (eb ∙ ap (λ (t : List ℕ). t ++ text_of middle) first)
    ∙ append_assoc (text_of head) (text_of middle) (text_of last)
    ∙ ap (λ (t : List ℕ). text_of head ++ t) (sym (text-append middle last))
    ∙ sym (text-append head (middle ++ last))
