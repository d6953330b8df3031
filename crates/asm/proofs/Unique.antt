-- A text spells at most one object.
use Rattle.std.proofs.Common.{◌≡◌, ℕ, ◌+◌, Bool, true, false, List, [], ◌∷◌, length, Option, Some}
use Rattle.std.proofs.Common.{None, refl, ap, ◌∙◌, sym, subst, arith, ⊎_elim}
use Rattle.std.specs.Prelude.{Result, Ok, Err}
use Rattle.std.proofs.lemmas.Bool.{false≢true}
use denote.Ref.{Bor}
use Rattle.isa.specs.declared.hook.Hook.{Hook}
use Rattle.isa.specs.declared.code.Slot.{Slot}
use Rattle.isa.specs.Spelling as spelling
use Rattle.object.specs.Statements.{StatementParts}
use Rattle.object.specs.Objects.{ObjectParts}
use Rattle.asm.specs.declared.line.AssemblyLine.{AssemblyLine}
use Rattle.asm.specs.Forms.{Spells}
use Rattle.asm.specs.Words.{Word}
use Rattle.asm.specs.Text.{lines_in, words_in, Reads, Readings}
use Rattle.asm.specs.LineViews.{views, items}
use Rattle.asm.specs.declared.error.AsmFault.{AsmFault}
use Rattle.asm.specs.declared.labels.Place.{Place}
use Rattle.asm.specs.Assembling.{Sketch, Verdict, take_lines, taken_all, blame_line, line_step}
use Rattle.asm.specs.Assembling.{IsMade, TextSpells, Refuses, Says}

abbrev pub OneReading : Type 0
OneReading = (words : List Word) (line other : AssemblyLine) (name another : Word)
    → Spells words line name
    → Spells words other another → (line ≡ other) × (name ≡ another)

abbrev pub OneCode : Type 0
OneCode = (a b : List ℕ) (code : List Slot) → spelling.Spells a code → spelling.Spells b code
    → a ≡ b

abbrev Item : Type 0
Item = Option (AssemblyLine × Word)

reads_one : OneReading → (words : List Word) (x y : Item) → Reads words x → Reads words y → x ≡ y
reads_one one words None None p q = refl
reads_one one words None (Some y) p q = absurd (p y.0 y.1 q)
reads_one one words (Some x) None p q = absurd (q x.0 x.1 p)
reads_one one words (Some x) (Some y) p q =
    let e = one words x.0 y.0 x.1 y.1 p q in
    ap (λ (l : AssemblyLine). Some (l, x.1)) e.0 ∙ ap (λ (w : Word). Some (y.0, w)) e.1

readings_one : OneReading → (ls : List (List ℕ)) (xs ys : List Item) → Readings ls xs
    → Readings ls ys → xs ≡ ys
readings_one one [] [] [] p q = refl
readings_one one [] [] (y ∷ ys) p q = absurd q
readings_one one [] (x ∷ xs) ys p q = absurd p
readings_one one (l ∷ ls) [] ys p q = absurd p
readings_one one (l ∷ ls) (x ∷ xs) [] p q = absurd q
readings_one one (l ∷ ls) (x ∷ xs) (y ∷ ys) p q =
    ap (λ (a : Item). a ∷ xs) (reads_one one (words_in l) x y p.0 q.0)
    ∙ ap (λ (more : List Item). y ∷ more) (readings_one one ls xs ys p.1 q.1)

-- ---- a text without a bad line has no line that says nothing

abbrev line_in : Item → Option AssemblyLine
line_in None = None
line_in (Some x) = Some x.0

abbrev name_in : Item → Word
name_in None = []
name_in (Some x) = x.1

abbrev lines_of : List Item → List (Option AssemblyLine)
lines_of [] = []
lines_of (x ∷ xs) = line_in x ∷ lines_of xs

abbrev names_in : List Item → List Word
names_in [] = []
names_in (x ∷ xs) = name_in x ∷ names_in xs

abbrev all_some : List Item → Bool
all_some [] = true
all_some (None ∷ xs) = false
all_some (Some x ∷ xs) = all_some xs

lines_again : (found : List (Option AssemblyLine)) (names : List (Bor Word))
    → length found ≡ length names → found ≡ lines_of (items found names)
lines_again [] [] e = refl
lines_again [] (n ∷ names) e = absurd (omega (arith, e))
lines_again (l ∷ found) [] e = absurd (omega (arith, e))
lines_again (None ∷ found) (n ∷ names) e =
    ap (λ (xs : List (Option AssemblyLine)). None ∷ xs) (lines_again found names (omega (arith, e)))
lines_again (Some l ∷ found) (n ∷ names) e =
    ap (λ (xs : List (Option AssemblyLine)). Some l ∷ xs)
    (lines_again found names (omega (arith, e)))

names_again : (found : List (Option AssemblyLine)) (names : List (Bor Word))
    → length found ≡ length names → all_some (items found names) ≡ true
    → views names ≡ names_in (items found names)
names_again [] [] e s = refl
names_again [] (n ∷ names) e s = absurd (omega (arith, e))
names_again (l ∷ found) [] e s = absurd (omega (arith, e))
names_again (None ∷ found) (n ∷ names) e s = absurd (false≢true s)
names_again (Some l ∷ found) (n ∷ names) e s =
    ap (λ (xs : List Word). n.now ∷ xs) (names_again found names (omega (arith, e)) s)

abbrev is_ok : Verdict → Bool
is_ok (Ok s) = true
is_ok (Err fault) = false

step_some : (at : ℕ) (r : Result Sketch AsmFault) (next : Sketch → Verdict) (xs : List Item)
    → ((t : Sketch) → is_ok (next t) ≡ true → all_some xs ≡ true)
    → is_ok (blame_line at r next) ≡ true → all_some xs ≡ true
step_some at (Ok t) next xs all h = all t h
step_some at (Err fault) next xs all h = absurd (false≢true h)

taken_some : (places : Word → Option Place) (at : ℕ) (found : List (Option AssemblyLine))
    (names : List (Bor Word)) (s : Sketch) → length found ≡ length names
    → is_ok (take_lines places at found (views names) s) ≡ true
    → all_some (items found names) ≡ true
taken_some places at [] [] s e h = refl
taken_some places at [] (n ∷ names) s e h = absurd (omega (arith, e))
taken_some places at (l ∷ found) [] s e h = absurd (omega (arith, e))
taken_some places at (None ∷ found) (n ∷ names) s e h = absurd (false≢true h)
taken_some places at (Some l ∷ found) (n ∷ names) s e h =
    step_some at (line_step s l at (places n.now) found)
    (take_lines places (at + 1) found (views names)) (items found names)
    (λ t k. taken_some places (at + 1) found names t (omega (arith, e)) k) h

verdict_of : (text : List ℕ) (found : List (Option AssemblyLine)) (names : List (Bor Word))
    → Says text found names → all_some (items found names) ≡ true
    → taken_all found (views names)
    ≡ taken_all (lines_of (items found names)) (names_in (items found names))
verdict_of text found names says s =
    ap (λ (xs : List (Option AssemblyLine)). taken_all xs (views names))
    (lines_again found names says.same)
    ∙ ap (λ (ws : List Word). taken_all (lines_of (items found names)) ws)
    (names_again found names says.same s)

-- two readings of a text, of which the first has no bad line
same_verdict : OneReading → (text : List ℕ) (found other : List (Option AssemblyLine))
    (names others : List (Bor Word)) (made : Sketch) → Says text found names
    → Says text other others → taken_all found (views names) ≡ Ok made
    → taken_all other (views others) ≡ Ok made
same_verdict one text found other names others made p q e =
    let same : items found names ≡ items other others =
    readings_one one (lines_in text) (items found names) (items other others) p.read q.read in
    let some : all_some (items found names) ≡ true =
    taken_some _ 0 found names _ p.same (ap is_ok e) in
    verdict_of text other others q (ap all_some (sym same) ∙ some)
    ∙ ap (λ (xs : List Item). taken_all (lines_of xs) (names_in xs)) (sym same)
    ∙ sym (verdict_of text found names p some) ∙ e

-- ---- what is made

abbrev sketch_in : Sketch → Verdict → Sketch
sketch_in d (Ok s) = s
sketch_in d (Err fault) = d

abbrev hook_in : Hook → Option Hook → Hook
hook_in d (Some h) = h
hook_in d None = d

abbrev rank_in : Option ℕ → ℕ
rank_in (Some r) = r
rank_in None = 0

made_one : OneCode → (s : Sketch) (a b : ObjectParts) → IsMade s a → IsMade s b → a ≡ b
made_one code s a b p q =
    ap (λ (h : Hook). record {
      hook = h;
      entry_rank = a.entry_rank;
      code = a.code;
      statements = a.statements;
    }) (ap (hook_in a.hook) (sym p.hook ∙ q.hook))
    ∙ ap (λ (r : ℕ). record {
      hook = b.hook;
      entry_rank = r;
      code = a.code;
      statements = a.statements;
    }) (ap rank_in (sym p.rank ∙ q.rank))
    ∙ ap (λ (c : List ℕ). record {
      hook = b.hook;
      entry_rank = b.entry_rank;
      code = c;
      statements = a.statements;
    }) (code a.code b.code s.code p.code q.code)
    ∙ ap (λ (ss : List StatementParts). record {
      hook = b.hook;
      entry_rank = b.entry_rank;
      code = b.code;
      statements = ss;
    }) (p.statements ∙ sym q.statements)

pub one_object : OneReading → OneCode → (text : List ℕ) (a b : ObjectParts) → TextSpells text a
    → TextSpells text b → a ≡ b
one_object one code text a b p q =
    let same : p.made ≡ q.made = ap (sketch_in p.made)
    (sym (same_verdict one text p.found q.found p.names q.names p.made p.says q.says p.taken)
    ∙ q.taken) in
    made_one code q.made a b (subst (λ (s : Sketch). IsMade s a) same p.is_made) q.is_made

-- if there is no instruction
none_made : (s : Sketch) (o : ObjectParts) → s.code ≡ [] → IsMade s o → ⊥
none_made s o e m = omega (arith, m.code.code_is.some, ap length e)

pub none_spelled : OneReading → (text : List ℕ) (line : ℕ) (fault : AsmFault) (o : ObjectParts)
    → Refuses text line fault → TextSpells text o → ⊥
none_spelled one text line fault o r p =
    let here = same_verdict one text p.found r.found p.names r.names p.made p.says r.says p.taken in
    ⊎_elim (λ e. false≢true (ap is_ok (sym e ∙ here)))
    (λ x. none_made x.2.0 o x.2.2 (subst (λ (s : Sketch). IsMade s o)
    (ap (sketch_in p.made) (sym here ∙ x.2.1)) p.is_made)) r.blames
