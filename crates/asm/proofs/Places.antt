-- Looking up a label line by line.
use Rattle.std.proofs.Common.{⊎_elim, Bool, true, false, take, ◌-◌, ◌∙◌, sym, subst, inl, inr, ◌≡◌}
use Rattle.std.proofs.Common.{ℕ, zero, suc, ◌+◌, ◌<◌, List, [], ◌∷◌, ◌&&◌, length, get_or, drop}
use Rattle.std.proofs.Common.{Option, Some, None, refl, ap, arith}
use Rattle.std.specs.Prelude.{if◌then◌else◌, Result, Ok, Err, IsOk, ◌⊎◌}
use Rattle.std.specs.Str.{bytes_eq}
use Rattle.std.proofs.lemmas.Bool.{false≢true}
use Rattle.std.proofs.lemmas.List.{get_or_default, take_rest}
use denote.Ref.{Bor}
use Rattle.asm.specs.declared.line.AssemblyLine.{AssemblyLine}
use Rattle.asm.specs.Words.{Word}
use Rattle.asm.specs.LineViews.{views}
use Rattle.asm.specs.declared.error.AsmFault.TheVariants as faults
use Rattle.asm.specs.declared.labels.Place.{Place}
use Rattle.asm.specs.declared.error.AsmFault.{AsmFault}
use Rattle.asm.specs.declared.error.AsmError.{AsmError}
use Rattle.asm.specs.Labels.{◌or_else◌}
use Rattle.asm.specs.Faults.{error_at, IsWantOfMemory}
use Rattle.asm.specs.Assembling.{taken_all, Says, Declines, Refuses, gives_label, slots_in}
use Rattle.asm.specs.Assembling.{place_from, Sketch, take_lines, line_step, blame_line}

-- the line `n` of those that are left
pub place_here : (n at slot : ℕ) (lines : List (Option AssemblyLine)) (names : List (Bor Word))
    (word : Word) (d : Option AssemblyLine) (e : Bor Word) → n < length lines
    → length lines ≡ length names → place_from at slot (drop n lines) (views (drop n names))
    word
    ≡ (if gives_label (get_or lines n d) && bytes_eq (get_or names n e).now word then Some (record {
      line = at;
      slot = slot;
    })
    else place_from (at + 1) (slot + slots_in (get_or lines n d)) (drop (suc n) lines)
    (views (drop (suc n) names)) word)
place_here n at slot [] names word d e h same = absurd (omega arith)
place_here n at slot (l ∷ ls) [] word d e h same = absurd (omega arith)
place_here zero at slot (l ∷ ls) (m ∷ ms) word d e h same = refl
place_here (suc n) at slot (l ∷ ls) (m ∷ ms) word d e h same =
    place_here n at slot ls ms word d e (omega arith) (omega arith)

-- nothing is left
pub taken_end : (places : Word → Option Place) (n at : ℕ) (lines : List (Option AssemblyLine))
    (names : List Word) (s : Sketch) → n ≡ length lines
    → take_lines places at (drop n lines) names s ≡ Ok s
taken_end places n at [] names s h = rw h refl
taken_end places zero at (l ∷ ls) names s h = absurd (omega arith)
taken_end places (suc n) at (l ∷ ls) names s h = taken_end places n at ls names s (omega arith)

-- the line `n` of those that are left spells nothing
pub taken_bad : (places : Word → Option Place) (n at : ℕ) (lines : List (Option AssemblyLine))
    (names : List (Bor Word)) (s : Sketch) (d : Option AssemblyLine) → n < length lines
    → length lines ≡ length names → get_or lines n d ≡ None
    → take_lines places at (drop n lines) (views (drop n names)) s
    ≡ Err (at + 1, faults.Syntax)
taken_bad places n at [] names s d h same e = absurd (omega arith)
taken_bad places n at (l ∷ ls) [] s d h same e = absurd (omega arith)
taken_bad places zero at (l ∷ ls) (m ∷ ms) s d h same e = rw e refl
taken_bad places (suc n) at (l ∷ ls) (m ∷ ms) s d h same e =
    taken_bad places n at ls ms s d (omega arith) (omega arith) e

-- or it spells a line
pub taken_here : (places : Word → Option Place) (n at : ℕ) (lines : List (Option AssemblyLine))
    (names : List (Bor Word)) (s : Sketch) (line : AssemblyLine) (d : Option AssemblyLine)
    (b : Bor Word) → n < length lines → length lines ≡ length names
    → get_or lines n d ≡ Some line
    → take_lines places at (drop n lines) (views (drop n names)) s
    ≡ blame_line at (line_step s line at (places (get_or names n b).now) (drop (suc n) lines))
    (take_lines places (at + 1) (drop (suc n) lines) (views (drop (suc n) names)))
taken_here places n at [] names s line d b h same e = absurd (omega arith)
taken_here places n at (l ∷ ls) [] s line d b h same e = absurd (omega arith)
taken_here places zero at (l ∷ ls) (m ∷ ms) s line d b h same e = rw e refl
taken_here places (suc n) at (l ∷ ls) (m ∷ ms) s line d b h same e =
    taken_here places n at ls ms s line d b (omega arith) (omega arith) e

-- what a line adds to the table
abbrev pub here_if : Bool → ℕ → ℕ → Option Place
here_if given at slot = if given then Some (record { line = at; slot = slot }) else None

chosen_here : (given : Bool) (at slot : ℕ) (later : Option Place) → (if given then Some (record {
  line = at;
  slot = slot;
}) else later) ≡ here_if given at slot or_else later
chosen_here true at slot later = refl
chosen_here false at slot later = refl

-- one line of the table: what it defines, before what the lines after it define
pub looks_on : (at slot more : ℕ) (lines : List (Option AssemblyLine)) (names : List (Bor Word))
    (word : Word) (m : Option AssemblyLine) → at < length lines → length lines ≡ length names
    → m ≡ get_or lines at m → more ≡ slots_in m
    → place_from at slot (drop at lines) (views (drop at names)) word
    ≡ here_if (gives_label m && bytes_eq (get_or names at (record {
      ref_ptr = (0, 0);
      now = [];
    })).now word) at slot or_else place_from (at + 1) (slot + more) (drop (at + 1) lines)
    (views (drop (at + 1) names)) word
looks_on at slot more lines names word m h same em e =
    let n : Bor Word = record { ref_ptr = (0, 0); now = [] } in
    let next : suc at ≡ at + 1 = omega arith in
    let slots : slots_in (get_or lines at m) ≡ more = ap slots_in (sym em) ∙ sym e in
    place_here at at slot lines names word m n h same
    ∙ ap (λ k. if gives_label (get_or lines at m) && bytes_eq (get_or names at n).now word then
    Some (record {
      line = at;
      slot = slot;
    }) else place_from (at + 1) (slot + slots_in (get_or lines at m)) (drop k lines)
    (views (drop k names)) word) next
    ∙ ap (λ k. if gives_label (get_or lines at m) && bytes_eq (get_or names at n).now word then
    Some (record {
      line = at;
      slot = slot;
    }) else place_from (at + 1) (slot + k) (drop (at + 1) lines) (views (drop (at + 1) names)) word)
    slots
    ∙ ap (λ (x : Option AssemblyLine). if gives_label x && bytes_eq (get_or names at n).now word
    then
    Some (record {
      line = at;
      slot = slot;
    }) else place_from (at + 1) (slot + more) (drop (at + 1) lines) (views (drop (at + 1) names))
    word) (sym em)
    ∙ chosen_here (gives_label m && bytes_eq (get_or names at n).now word) at slot
    (place_from (at + 1) (slot + more) (drop (at + 1) lines) (views (drop (at + 1) names)) word)

or_else_assoc : (x y z : Option Place) → x or_else (y or_else z) ≡ (x or_else y) or_else z
or_else_assoc None y z = refl
or_else_assoc (Some p) y z = refl

joined : (whole old new here ahead later : Option Place) → whole ≡ old or_else ahead
    → ahead ≡ here or_else later → new ≡ old or_else here → whole ≡ new or_else later
joined whole old new here ahead later e f g =
    e ∙ ap (λ (x : Option Place). old or_else x) f ∙ or_else_assoc old here later
    ∙ ap (λ (x : Option Place). x or_else later) (sym g)

given_here : (g b : Bool) (at slot : ℕ) (later : Option Place) → g ≡ true
    → here_if (g && b) at slot or_else later ≡ (if b then Some (record {
      line = at;
      slot = slot;
    }) else None) or_else later
given_here true b at slot later e = refl
given_here false b at slot later e = absurd (false≢true e)

none_here : (g b : Bool) (at slot : ℕ) (later : Option Place) → g ≡ false
    → here_if (g && b) at slot or_else later ≡ None or_else later
none_here true b at slot later e = absurd (false≢true (sym e))
none_here false b at slot later e = refl

-- a line that defines a label puts it into the table
pub label_noted : (whole old new : Option Place) (at slot more : ℕ)
    (lines : List (Option AssemblyLine)) (names : List (Bor Word)) (word : Word)
    (l m : Option AssemblyLine) → at < length lines → length lines ≡ length names
    → l ≡ get_or lines at l → m ≡ get_or lines at m → more ≡ slots_in m
    → gives_label l ≡ true → whole
    ≡ old or_else place_from at slot (drop at lines) (views (drop at names))
    word
    → new ≡ old or_else (if bytes_eq (get_or names at (record {
      ref_ptr = (0, 0);
      now = [];
    })).now word then Some (record { line = at; slot = slot }) else None)
    → whole ≡ new or_else place_from (at + 1) (slot + more) (drop (at + 1) lines)
    (views (drop (at + 1) names)) word
label_noted whole old new at slot more lines names word l m h same el em e given so_far put =
    let later = place_from (at + 1) (slot + more) (drop (at + 1) lines)
    (views (drop (at + 1) names)) word in
    let b = bytes_eq (get_or names at (record { ref_ptr = (0, 0); now = [] })).now word in
    joined whole old new (if b then Some (record {
      line = at;
      slot = slot;
    }) else None) (place_from at slot (drop at lines) (views (drop at names)) word) later so_far
    (looks_on at slot more lines names word m h same em e
    ∙ given_here (gives_label m) b at slot later
    (ap gives_label (sym (el ∙ get_or_default lines at l m h ∙ sym em)) ∙ given)) put

-- and another doesn't change it
pub no_label_noted : (whole old new : Option Place) (at slot more : ℕ)
    (lines : List (Option AssemblyLine)) (names : List (Bor Word)) (word : Word)
    (l m : Option AssemblyLine) → at < length lines → length lines ≡ length names
    → l ≡ get_or lines at l → m ≡ get_or lines at m → more ≡ slots_in m
    → gives_label l ≡ false → whole
    ≡ old or_else place_from at slot (drop at lines) (views (drop at names))
    word → new ≡ old → whole ≡ new or_else place_from (at + 1) (slot + more)
    (drop (at + 1) lines) (views (drop (at + 1) names)) word
no_label_noted whole old new at slot more lines names word l m h same el em e given so_far put =
    let later = place_from (at + 1) (slot + more) (drop (at + 1) lines)
    (views (drop (at + 1) names)) word in
    let b = bytes_eq (get_or names at (record { ref_ptr = (0, 0); now = [] })).now word in
    so_far ∙ ap (λ (x : Option Place). old or_else x)
    (looks_on at slot more lines names word m h same em e
    ∙ none_here (gives_label m) b at slot later
    (ap gives_label (sym (el ∙ get_or_default lines at l m h ∙ sym em)) ∙ given))
    ∙ ap (λ (x : Option Place). x or_else later) (sym put)

-- ---- all lines

rest_all : (xs : List (Option AssemblyLine)) (k : ℕ) → take (length xs - k) (drop k xs) ≡ drop k xs
rest_all xs k = take_rest xs k

same_place : (lines la : List (Option AssemblyLine)) (names na : List (Bor Word)) (n m : Bor Word)
    → la ≡ lines → na ≡ names → n ≡ m
    → place_from 0 0 la (views na) n.now ≡ place_from 0 0 lines (views names) m.now
same_place lines la names na n m el en e =
    ap (λ x. place_from 0 0 x (views na) n.now) el
    ∙ ap (λ (x : List (Bor Word)). place_from 0 0 lines (views x) n.now) en
    ∙ ap (λ (x : Bor Word). place_from 0 0 lines (views names) x.now) e

same_step : (s : Sketch) (line : AssemblyLine) (at : ℕ) (p q : Option Place)
    (r r2 : List (Option AssemblyLine)) (x : Result Sketch AsmFault) → p ≡ q → r ≡ r2
    → line_step s line at p r ≡ x → line_step s line at q r2 ≡ x
same_step s line at p q r r2 x e f h =
    subst (λ (a : Option Place). line_step s line at a r2 ≡ x) e
    (subst (λ (b : List (Option AssemblyLine)). line_step s line at p b ≡ x) f h)

-- what the line at this place makes
pub stepped : (lines : List (Option AssemblyLine)) (names : List (Bor Word)) (at : ℕ) (s : Sketch)
    (l : Option AssemblyLine) (line : AssemblyLine) (n : Bor Word)
    (la lb : List (Option AssemblyLine)) (na : List (Bor Word)) (p : Option Place)
    (x : Result Sketch AsmFault) → at < length lines → length lines ≡ length names
    → l ≡ get_or lines at l → l ≡ Some line → n ≡ get_or names at n → la ≡ lines
    → na ≡ names → lb ≡ lines → p ≡ place_from 0 0 la (views na) n.now
    → taken_all lines (views names)
    ≡ take_lines (place_from 0 0 lines (views names)) at (drop at lines)
    (views (drop at names)) s
    → line_step s line at p
    (take (length lb - (at + 1)) (drop (at + 1) lb)) ≡ x
    → taken_all lines (views names)
    ≡ blame_line at x (take_lines
    (place_from 0 0 lines (views names)) (at + 1)
    (drop (at + 1) lines)
    (views (drop (at + 1) names)))
stepped lines names at s l line n la lb na p x h same el e en ela ena elb ep inv given =
    let next : at + 1 ≡ suc at = omega arith in
    let places = place_from 0 0 lines (views names) in
    let here = same_step s line at p (places (get_or names at n).now)
    (take (length lb - (at + 1)) (drop (at + 1) lb)) (drop (suc at) lines) x
    (ep ∙ same_place lines la names na n (get_or names at n) ela ena en)
    (rest_all lb (at + 1) ∙ ap (λ (ys : List (Option AssemblyLine)). drop (at + 1) ys) elb
    ∙ ap (λ k. drop k lines) next) given in
    inv ∙ taken_here places at at lines names s line l n h same (sym el ∙ e)
    ∙ ap (λ (r : Result Sketch AsmFault). blame_line at r
    (take_lines places (at + 1) (drop (suc at) lines) (views (drop (suc at) names)))) here
    ∙ ap (λ k. blame_line at x (take_lines places (at + 1) (drop k lines) (views (drop k names))))
    (sym next)

-- ---- refusals

abbrev pub Told : List ℕ → AsmError → Type 0
Told text r = IsWantOfMemory r ⊎ Refuses text r.line r.kind

-- a refused allocation is reported at line 0, another fault at its line
error_told : (line : ℕ) (fault : AsmFault)
    → IsWantOfMemory (error_at line fault) ⊎ (error_at line fault ≡ record {
      line = line;
      kind = fault;
    })
error_told line faults.Syntax = inr refl
error_told line faults.Label = inr refl
error_told line faults.Range = inr refl
error_told line faults.Twice = inr refl
error_told line faults.Memory = inl (refl, refl)

out_of_memory : (text : List ℕ) (r : AsmError) (line : ℕ) (fault : AsmFault)
    → r ≡ error_at line fault → fault ≡ faults.Memory → Told text r
out_of_memory text r line fault is m =
    let same : r ≡ error_at line faults.Memory = is ∙ ap (λ (f : AsmFault). error_at line f) m in
    inl (ap (λ (x : AsmError). x.kind) same, ap (λ (x : AsmError). x.line) same)

refuses_as : (text : List ℕ) (r : AsmError) (line : ℕ) (fault : AsmFault) → r ≡ error_at line fault
    → Refuses text line fault → Told text r
refuses_as text r line fault is refuses = subst (λ (x : AsmError). Told text x) (sym is)
    (⊎_elim (λ m. inl m) (λ e. inr (subst (λ (x : AsmError). Refuses text x.line x.kind) (sym e)
    refuses)) (error_told line fault))

refuses_at : (text : List ℕ) (lines : List (Option AssemblyLine)) (names : List (Bor Word))
    (r : AsmError) (line : ℕ) (fault : AsmFault) → Says text lines names → r ≡ error_at line fault
    → taken_all lines (views names) ≡ Err (line, fault) → Told text r
refuses_at text lines names r line fault says is e = refuses_as text r line fault is (record {
  found = lines;
  names = names;
  says = says;
  blames = inl e;
})

-- a line that spells nothing
pub refused_bad : (text : List ℕ) (lines : List (Option AssemblyLine)) (names : List (Bor Word))
    (r : AsmError) (at : ℕ) (s : Sketch) (l : Option AssemblyLine) → Says text lines names
    → at < length lines → l ≡ get_or lines at l → l ≡ None
    → taken_all lines (views names)
    ≡ take_lines (place_from 0 0 lines (views names)) at (drop at lines)
    (views (drop at names)) s → r ≡ error_at (at + 1) faults.Syntax → Told text r
refused_bad text lines names r at s l says h el e inv is =
    refuses_at text lines names r (at + 1) faults.Syntax says is
    (inv ∙ taken_bad (place_from 0 0 lines (views names)) at at lines names s l h says.same
    (sym el ∙ e))

-- a line that is refused
pub refused_line : (text : List ℕ) (lines : List (Option AssemblyLine)) (names : List (Bor Word))
    (r : AsmError) (at : ℕ) (fault : AsmFault) (step : Result Sketch AsmFault)
    → Says text lines names → r ≡ error_at (at + 1) fault
    → ((fault ≡ faults.Memory) × IsOk step) ⊎ (step ≡ Err fault)
    → (step ≡ Err fault → taken_all lines (views names) ≡ Err (at + 1, fault))
    → Told text r
refused_line text lines names r at fault step says is (inl m) f =
    out_of_memory text r (at + 1) fault is m.0
refused_line text lines names r at fault step says is (inr e) f =
    refuses_at text lines names r (at + 1) fault says is (f e)

-- no instruction
pub refused_whole : (text : List ℕ) (lines : List (Option AssemblyLine)) (names : List (Bor Word))
    (r : AsmError) (fault : AsmFault) (s : Sketch) → Says text lines names → r ≡ error_at 1 fault
    → Declines s fault → taken_all lines (views names) ≡ Ok s → Told text r
refused_whole text lines names r fault s says is (inl m) e = out_of_memory text r 1 fault is m.0
refused_whole text lines names r fault s says is (inr n) e =
    refuses_as text r 1 fault is (record {
      found = lines;
      names = names;
      says = says;
      blames = inr (refl, n.0, (s, e, n.1));
    })
