-- Listings with one more line.
use Rattle.std.proofs.Common.{◌≡◌, ℕ, ◌+◌, ◌^◌, ◌<◌, List, [], ◌∷◌, ◌++◌, length, map, Option, Some}
use Rattle.std.proofs.Common.{None, refl, ap, ◌∙◌, sym, subst, append_assoc, lt-ltb}
use Rattle.std.specs.Prelude.{Result, Ok}
use Rattle.std.proofs.lemmas.Bool.{cond-true}
use Rattle.std.proofs.lemmas.List.{map-append, length_push}
use Rattle.isa.specs.declared.hook.Hook.{Hook}
use Rattle.asm.specs.declared.numeral.Numeral.{Numeral}
use Rattle.asm.specs.declared.numeral.Numeral.TheVariants as numerals
use Rattle.asm.specs.declared.line.AssemblyLine.{AssemblyLine}
use Rattle.asm.specs.declared.line.AssemblyLine.TheVariants as lines
use Rattle.asm.specs.Words.{Word}
use Rattle.asm.specs.Written.{AreLines}
use Rattle.asm.specs.declared.error.AsmFault.{AsmFault}
use Rattle.asm.specs.declared.labels.Place.{Place}
use Rattle.asm.specs.Numbers.{natural_in}
use Rattle.asm.specs.Instructions.{◌>>=◌, or_range_fault}
use Rattle.asm.specs.Assembling.{Sketch, nothing, take_lines, blame_line, line_step, with_rank}
use Rattle.asm.specs.Listed.{Listed, AddsLine, Any, code_sketch, without_label, no_name, some_line}

push_split : {B : Type 0} (f : AssemblyLine → B) (ls : List AssemblyLine) (l : AssemblyLine)
    (rest : List B) → map f (ls ++ l ∷ []) ++ rest ≡ map f ls ++ f l ∷ rest
push_split f ls l rest = ap (λ xs. xs ++ rest) (map-append f ls (l ∷ []))
    ∙ append_assoc (map f ls) (f l ∷ []) rest

pub listed_push : (old new : List ℕ) (l : AssemblyLine) (s t : Sketch)
    (C D : List (Option AssemblyLine) → Type 0) → AddsLine old new l → Listed old s C
    → ((rest : List (Option AssemblyLine)) → D rest → C (Some l ∷ rest))
    → ((at : ℕ) (place : Option Place) (rest : List (Option AssemblyLine)) → D rest
    → line_step s l at place rest ≡ Ok t) → Listed new t D
listed_push old new l s t C D adds h next step = record {
  lines = h.lines ++ l ∷ [];
  are = subst (λ (items : List (AssemblyLine × Word)). AreLines new items)
      (sym (map-append without_label h.lines (l ∷ []))) (adds (map without_label h.lines) h.are);
  leads = λ places rest names d.
      ap (λ (x : List (Option AssemblyLine)). take_lines places 0 x
      (map no_name (h.lines ++ l ∷ []) ++ names) nothing) (push_split some_line h.lines l rest)
      ∙ ap (λ (x : List Word). take_lines places 0 (map some_line h.lines ++ Some l ∷ rest) x
      nothing) (push_split no_name h.lines l names)
      ∙ h.leads places (Some l ∷ rest) ([] ∷ names) (next rest d)
      ∙ ap (λ (r : Result Sketch AsmFault). blame_line (length h.lines) r
      (take_lines places (length h.lines + 1) rest names))
      (step (length h.lines) (places []) rest d)
      ∙ ap (λ (n : ℕ). take_lines places n rest names t) (sym (length_push h.lines l));
}

-- the same lines with a weaker requirement, and the same sketch by another name
pub listed_same : (text : List ℕ) (s t : Sketch) (C D : List (Option AssemblyLine) → Type 0) → s ≡ t
    → ((rest : List (Option AssemblyLine)) → D rest → C rest) → Listed text s C → Listed text t D
listed_same text s t C D e less h = record {
  lines = h.lines;
  are = h.are;
  leads = λ places rest names d. h.leads places rest names (less rest d)
      ∙ ap (λ (x : Sketch). take_lines places (length h.lines) rest names x) e;
}

listed_none : Listed [] nothing Any
listed_none = record {
  lines = [];
  are = record { front = []; lines = refl; read = tt };
  leads = λ places rest names d. refl;
}

pub in_field : (bound n : ℕ) → n < bound → natural_in bound (numerals.Natural n) ≡ Some n
in_field bound n h = cond-true _ (Some n) None (lt-ltb n bound h)

pub head : (a b c : List ℕ) (hook : Hook) (rank : ℕ) (n : Numeral) → a ≡ []
    → n ≡ numerals.Natural rank → rank < 2 ^ 32 → AddsLine a b (lines.Hook hook)
    → AddsLine b c (lines.Rank n) → Listed c (code_sketch hook rank []) Any
head a b c hook rank n e en fits first second =
    let s : Sketch = record {
      hook = Some hook;
      rank = None;
      code = [];
      before = [];
      last = None;
    } in
    let one : Listed b s Any = listed_push a b (lines.Hook hook) nothing s Any Any first
    (subst (λ (t : List ℕ). Listed t nothing Any) (sym e) listed_none) (λ rest d. tt)
    (λ at place rest d. refl) in
    listed_push b c (lines.Rank n) s (code_sketch hook rank []) Any Any second one (λ rest d. tt)
    (λ at place rest d. ap (λ (m : Numeral). line_step s (lines.Rank m) at place rest) en
    ∙ ap (λ (o : Option ℕ). or_range_fault o >>= with_rank s) (in_field (2 ^ 32) rank fits))
