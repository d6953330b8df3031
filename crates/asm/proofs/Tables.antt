-- A table of labels, as one more line is put into it.
use Rattle.std.proofs.Common.{◌≡◌, Bool, true, false, cond, Option, Some, None, refl, ap, ◌∙◌, sym}
use Rattle.std.proofs.Common.{is_some}
use Rattle.std.specs.Prelude.{if◌then◌else◌}
use Rattle.std.specs.Cmp.Lexicographic.{bytes_decides}
use Rattle.std.specs.Str.{bytes_eq}
use Rattle.std.proofs.lemmas.Bool.{false≢true}
use Rattle.asm.specs.Words.{Word}
use Rattle.asm.specs.declared.labels.Place.{Place}
use Rattle.asm.specs.Labels.{◌or_else◌}

put_new : (b : Bool) (p : Place) (here : Option Place) → (b ≡ true → is_some here ≡ false)
    → cond b (Some p) here ≡ here or_else (if b then Some p else None)
put_new true p None first = refl
put_new true p (Some q) first = absurd (false≢true (sym (first refl)))
put_new false p None first = refl
put_new false p (Some q) first = refl

-- a label that the table doesn't have yet is put there
pub put_first : (places : Word → Option Place) (name word : Word) (p : Place)
    → is_some (places name) ≡ false → cond (bytes_eq name word) (Some p) (places word)
    ≡ places word or_else (if bytes_eq name word then Some p else None)
put_first places name word p none =
    put_new (bytes_eq name word) p (places word)
    (λ same. ap (λ (w : Word). is_some (places w)) (sym ((bytes_decides name word).0 same))
    ∙ none)

stays : (b : Bool) (p : Place) (here : Option Place) → (b ≡ true → is_some here ≡ true)
    → here ≡ here or_else (if b then Some p else None)
stays true p None some = absurd (false≢true (some refl))
stays false p None some = refl
stays b p (Some q) some = refl

-- one that it has is kept
pub keep_first : (places : Word → Option Place) (name word : Word) (p : Place)
    → is_some (places name) ≡ true → places word
    ≡ places word or_else (if bytes_eq name word then Some p else None)
keep_first places name word p some =
    stays (bytes_eq name word) p (places word)
    (λ same. ap (λ (w : Word). is_some (places w)) (sym ((bytes_decides name word).0 same))
    ∙ some)
