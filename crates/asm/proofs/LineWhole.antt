-- Lines appended to a text of whole lines.
use Rattle.std.proofs.Common.{◌≡◌, ℕ, List, [], ◌∷◌, ◌++◌, length, Bool, true, false, not, eqb}
use Rattle.std.proofs.Common.{refl, sym, ap, ◌∙◌, subst, arith, Some, Option, append_assoc}
use Rattle.std.specs.Prelude.{map, filter}
use Rattle.std.specs.List.{list_all, slice_split, onto_first, All, AllPass}
use Rattle.std.proofs.lemmas.List.Splits.{slice_split_none, slice_split_at, slice_split-cons_yes}
use Rattle.std.proofs.lemmas.List.Splits.{slice_split-cons_no, length-slice_split}
use Rattle.std.proofs.lemmas.List.Sums.{AllPass-from_list_all}
use Rattle.std.proofs.lemmas.Bool.{ne_eqb}
use Rattle.std.proofs.lemmas.List.Folds.{list_all-append}
use Rattle.std.proofs.lemmas.List.{append-nil, length-append}
use Rattle.asm.specs.declared.line.AssemblyLine.{AssemblyLine}
use Rattle.asm.specs.Forms.{Part, Fits, form_of, Spells, IsLine}
use Rattle.asm.specs.Words.{Word, is_inner, is_word}
use Rattle.asm.specs.Text.{words_in, has_bytes, lines_in, Readings}
use Rattle.asm.specs.Written.{part_word, each_after_a_space, between_spaces, line_text}
use Rattle.asm.specs.Written.{AreWritten, AreLines, some_reading, IsNamed}
use Rattle.asm.proofs.NoNumber.{both}
use Rattle.asm.proofs.Items.{readings_more, map_more}

abbrev is_space : ℕ → Bool
is_space c = eqb c 32

abbrev is_feed : ℕ → Bool
is_feed c = eqb c 10

abbrev no : (ℕ → Bool) → List ℕ → Type 0
no p xs = All (λ x. p x ≡ false) xs

not_false : (b : Bool) → not b ≡ true → b ≡ false
not_false true e = absurd (cc e)
not_false false e = refl

not_a_space : (c : ℕ) → is_inner c ≡ true → is_space c ≡ false
not_a_space c e = not_false (is_space c) (both (not (is_space c)) (not (is_feed c)) e).0

not_a_feed : (c : ℕ) → is_inner c ≡ true → is_feed c ≡ false
not_a_feed c e = not_false (is_feed c) (both (not (is_space c)) (not (is_feed c)) e).1

inner_all : (w : Word) → list_all is_inner w ≡ true → AllPass is_inner w
inner_all w e = AllPass-from_list_all is_inner w e

no_spaces : (w : Word) → list_all is_inner w ≡ true → no is_space w
no_spaces w e k d h = not_a_space _ (inner_all w e k d h)

word_inner : (w : Word) → is_word w ≡ true → list_all is_inner w ≡ true
word_inner [] e = absurd (cc e)
word_inner (c ∷ cs) e = e

-- ---- the words of a line

pieces : (w : Word) (ps : List Part) → is_word w ≡ true → AreWritten ps
    → slice_split is_space (w ++ each_after_a_space ps) ≡ w ∷ map part_word ps
pieces w [] e f = rw append-nil (slice_split_none is_space w (no_spaces w (word_inner w e)))
pieces w (p ∷ ps) e f =
    slice_split_at is_space w 32 (part_word p ++ each_after_a_space ps)
    (no_spaces w (word_inner w e)) refl
    ∙ ap (λ rest. w ∷ rest) (pieces (part_word p) ps f.0.one_word f.1)

has_bytes_word : (w : Word) → is_word w ≡ true → has_bytes w ≡ true
has_bytes_word [] e = absurd (cc e)
has_bytes_word (c ∷ cs) e = rw (ne_eqb (length (c ∷ cs)) 0 (λ q. absurd (omega arith))) refl

kept : (ps : List Part) → AreWritten ps → filter has_bytes (map part_word ps) ≡ map part_word ps
kept [] f = refl
kept (p ∷ ps) f = rw (has_bytes_word (part_word p) f.0.one_word)
    (ap (λ rest. part_word p ∷ rest) (kept ps f.1))

pub words_again : (ps : List Part) → AreWritten ps → words_in (between_spaces ps) ≡ map part_word ps
words_again [] f = refl
words_again (p ∷ ps) f = ap (filter has_bytes) (pieces (part_word p) ps f.0.one_word f.1)
    ∙ kept (p ∷ ps) f

fits_again : (ps : List Part) → AreWritten ps → Fits (map part_word ps) ps
fits_again [] f = tt
fits_again (p ∷ ps) f = (f.0.matches, fits_again ps f.1)

-- ---- one line

abbrev is_kept : ℕ → Bool
is_kept c = not (is_feed c)

inner_kept : (c : ℕ) → is_inner c ≡ true → is_kept c ≡ true
inner_kept c e = (both (not (is_space c)) (not (is_feed c)) e).1

all_kept : (w : Word) → list_all is_inner w ≡ true → list_all is_kept w ≡ true
all_kept [] e = refl
all_kept (c ∷ cs) e = let parts = both (is_inner c) (list_all is_inner cs) e in
    rw (inner_kept c parts.0) (all_kept cs parts.1)

append_kept : (v w : Word) → list_all is_kept v ≡ true → list_all is_kept w ≡ true
    → list_all is_kept (v ++ w) ≡ true
append_kept v w e f = rw (list_all-append is_kept v w, e, f) refl

followed_kept : (ps : List Part) → AreWritten ps → list_all is_kept (each_after_a_space ps) ≡ true
followed_kept [] f = refl
followed_kept (p ∷ ps) f = append_kept (part_word p) (each_after_a_space ps)
    (all_kept (part_word p) (word_inner (part_word p) f.0.one_word)) (followed_kept ps f.1)

spaced_kept : (ps : List Part) → AreWritten ps → list_all is_kept (between_spaces ps) ≡ true
spaced_kept [] f = refl
spaced_kept (p ∷ ps) f = append_kept (part_word p) (each_after_a_space ps)
    (all_kept (part_word p) (word_inner (part_word p) f.0.one_word)) (followed_kept ps f.1)

no_feeds : (w : Word) → list_all is_kept w ≡ true → no is_feed w
no_feeds w e k d h = not_false _ (AllPass-from_list_all is_kept w e k d h)

-- ---- after whole lines

cut_step : (zs tail all : List (List ℕ)) (front : List (List ℕ)) → (zs ≡ [] → ⊥)
    → ((before : List (List ℕ)) → zs ≡ before ++ [] ∷ [] → all ≡ before ++ tail)
    → [] ∷ zs ≡ front ++ [] ∷ [] → [] ∷ all ≡ front ++ tail
cut_step zs tail all [] some ih e = absurd (some (cc))
cut_step zs tail all (f ∷ fs) some ih e =
    let rest : zs ≡ fs ++ [] ∷ [] = cc in
    let here = ih fs rest in
    cc

kept_step : (x : ℕ) (zs tail all : List (List ℕ)) (front : List (List ℕ))
    → ((before : List (List ℕ)) → zs ≡ before ++ [] ∷ [] → all ≡ before ++ tail)
    → onto_first x zs ≡ front ++ [] ∷ [] → onto_first x all ≡ front ++ tail
kept_step x [] tail all [] ih e = absurd (cc)
kept_step x [] tail all (f ∷ fs) ih e =
    absurd (omega (arith, ap length e, length-append fs ([] ∷ [])))
kept_step x (y ∷ ys) tail all [] ih e = absurd (cc)
kept_step x (y ∷ ys) tail all (f ∷ fs) ih e =
    let rest : ys ≡ fs ++ [] ∷ [] = cc in
    let here = ih (y ∷ fs) (ap (λ r. y ∷ r) rest) in
    let first : x ∷ y ≡ f = cc in
    rw (here, ← first) refl

split_some : (p : ℕ → Bool) (xs : List ℕ) → slice_split p xs ≡ [] → ⊥
split_some p xs e = absurd (omega (arith, length-slice_split p xs, ap length e))

split_more : (p : ℕ → Bool) (xs ys : List ℕ) (front : List (List ℕ))
    → slice_split p xs ≡ front ++ [] ∷ [] → slice_split p (xs ++ ys) ≡ front ++ slice_split p ys
split_more p [] ys [] e = refl
split_more p [] ys (f ∷ fs) e = absurd (omega (arith, ap length e, length-append fs ([] ∷ [])))
split_more p (x ∷ xs) ys front e =
    elim (p x) as (λ b. p x ≡ b → slice_split p (x ∷ (xs ++ ys)) ≡ front ++ slice_split p ys) [
      | true ↦ λ q. slice_split-cons_yes p x (xs ++ ys) q
          ∙ cut_step (slice_split p xs) (slice_split p ys) (slice_split p (xs ++ ys)) front
          (split_some p xs) (split_more p xs ys) (sym (slice_split-cons_yes p x xs q) ∙ e)
      | false ↦ λ q. slice_split-cons_no p x (xs ++ ys) q
          ∙ kept_step x (slice_split p xs) (slice_split p ys) (slice_split p (xs ++ ys)) front
          (split_more p xs ys) (sym (slice_split-cons_no p x xs q) ∙ e)
    ] refl

line_split : (ps : List Part) → AreWritten ps
    → slice_split is_feed (between_spaces ps ++ 10 ∷ []) ≡ between_spaces ps ∷ [] ∷ []
line_split ps f = slice_split_at is_feed (between_spaces ps) 10 []
    (no_feeds (between_spaces ps) (spaced_kept ps f)) refl

pub line_again : (line : AssemblyLine) (name : Word) → AreWritten (form_of line name) → IsLine line
    → IsNamed line name → Spells (words_in (between_spaces (form_of line name))) line name
line_again line name f ranges named = record {
  fits = subst (λ (ws : List Word). Fits ws (form_of line name))
      (sym (words_again (form_of line name) f)) (fits_again (form_of line name) f);
  ranges = ranges;
  unnamed = named.1;
}

-- The text with the line appended has its lines and then this one.
pub text_again : (old new : List ℕ) (line : AssemblyLine) (name : Word)
    (items : List (AssemblyLine × Word)) → AreWritten (form_of line name) → IsLine line
    → IsNamed line name → new ≡ old ++ line_text line name → AreLines old items
    → AreLines new (items ++ (line, name) ∷ [])
text_again old new line name items f ranges named e are = record {
  front = are.front ++ between_spaces (form_of line name) ∷ [];
  lines = rw append_assoc (ap lines_in e
      ∙ split_more is_feed old (line_text line name) are.front are.lines
      ∙ ap (λ (rest : List (List ℕ)). are.front ++ rest) (line_split (form_of line name) f));
  read = subst (λ (rs : List (Option (AssemblyLine × Word))). Readings
      (are.front ++ between_spaces (form_of line name) ∷ []) rs)
      (sym (map_more some_reading items (line, name)))
      (readings_more are.front (map some_reading items) (between_spaces (form_of line name))
      (Some (line, name)) are.read (line_again line name f ranges named));
}
