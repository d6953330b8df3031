-- Names of sections, and the hooks that they are for.
use Rattle.std.proofs.Common.{◌≡◌, ◌<◌, ℕ, zero, suc, List, [], ◌∷◌, inl, inr, Option, None, Some}
use Rattle.std.proofs.Common.{codes, subst, sym}
use Rattle.std.proofs.Common.{◌∙◌, ap, arith, get_or}
use Rattle.std.specs.Prelude.{IfNone, IsAscii}
use Rattle.std.specs.Str.{IsUtf8}
use Rattle.std.proofs.lemmas.Str.{IsUtf8-from_ascii}
use Rattle.isa.specs.declared.hook.Hook.{Hook}
use Rattle.isa.specs.declared.hook.Hook.TheVariants as hooks
use Rattle.isa.specs.Hooks.{hook_name}
use Rattle.hooktool.specs.Builds.{IsForNoHook}

first_of : {a b : List ℕ} → a ≡ b → get_or a 0 0 ≡ get_or b 0 0
first_of e = ap (λ (l : List ℕ). get_or l 0 0) e

-- no hook has the name of the section of all other functions
never_text : (hook : Hook) → codes ".text" ≡ hook_name hook → ⊥
never_text hooks.Count e = let first : 46 ≡ 99 = first_of e in omega (arith, first)
never_text hooks.Tag e = let first : 46 ≡ 116 = first_of e in omega (arith, first)
never_text hooks.Price e = let first : 46 ≡ 112 = first_of e in omega (arith, first)
never_text hooks.Veto e = let first : 46 ≡ 118 = first_of e in omega (arith, first)

never_some : (hook : Hook) → None ≡ Some hook → ⊥
never_some hook e = cc

no_hook_of_text : (section : List ℕ) → section ≡ codes ".text" → IsForNoHook None section
no_hook_of_text section is hook (inl named) = never_text hook (sym is ∙ named)
no_hook_of_text section is hook (inr other) = never_some hook other.1

-- that section is for none, if none was asked for
pub unasked : (asked : Option Hook) (section : List ℕ) → section ≡ codes ".text"
    → IfNone asked (IsForNoHook asked section)
unasked (Some asked) section is = tt
unasked None section is = no_hook_of_text section is

no_hook_of_other : (asked : Option Hook) (section : List ℕ) → (section ≡ codes ".text" → ⊥)
    → ((hook : Hook) → section ≡ hook_name hook → None ≡ Some hook) → IsForNoHook asked section
no_hook_of_other asked section other only hook (inl named) = never_some hook (only hook named)
no_hook_of_other asked section other only hook (inr text) = other text.0

-- so is another one that no hook has as its name
pub unnamed : (asked found : Option Hook) (section : List ℕ) → (section ≡ codes ".text" → ⊥)
    → ((hook : Hook) → section ≡ hook_name hook → found ≡ Some hook)
    → IfNone found (IsForNoHook asked section)
unnamed asked (Some found) section other only = tt
unnamed asked None section other only = no_hook_of_other asked section other only

no_letter : IsAscii []
no_letter i = let small : 0 < 128 = omega (arith) in small

letter : (b : ℕ) (others : List ℕ) → b < 128 → IsAscii others → IsAscii (b ∷ others)
letter b others small are zero = small
letter b others small are (suc i) = are i

readable : (hook : Hook) → IsUtf8 (hook_name hook)
readable hooks.Count = IsUtf8-from_ascii (codes "count")
    (letter 99 (codes "ount") (omega (arith))
    (letter 111 (codes "unt") (omega (arith))
    (letter 117 (codes "nt") (omega (arith))
    (letter 110 (codes "t") (omega (arith))
    (letter 116 [] (omega (arith)) no_letter)))))
readable hooks.Tag = IsUtf8-from_ascii (codes "tag")
    (letter 116 (codes "ag") (omega (arith))
    (letter 97 (codes "g") (omega (arith)) (letter 103 [] (omega (arith)) no_letter)))
readable hooks.Price = IsUtf8-from_ascii (codes "price")
    (letter 112 (codes "rice") (omega (arith))
    (letter 114 (codes "ice") (omega (arith))
    (letter 105 (codes "ce") (omega (arith))
    (letter 99 (codes "e") (omega (arith)) (letter 101 [] (omega (arith)) no_letter)))))
readable hooks.Veto = IsUtf8-from_ascii (codes "veto")
    (letter 118 (codes "eto") (omega (arith))
    (letter 101 (codes "to") (omega (arith))
    (letter 116 (codes "o") (omega (arith)) (letter 111 [] (omega (arith)) no_letter))))

readable_text : IsUtf8 (codes ".text")
readable_text = IsUtf8-from_ascii (codes ".text")
    (letter 46 (codes "text") (omega (arith))
    (letter 116 (codes "ext") (omega (arith))
    (letter 101 (codes "xt") (omega (arith))
    (letter 120 (codes "t") (omega (arith))
    (letter 116 [] (omega (arith)) no_letter)))))

-- and so is one whose name is no text
pub unread : (asked : Option Hook) (section : List ℕ) → (IsUtf8 section → ⊥)
    → IsForNoHook asked section
unread asked section not hook (inl named) = not (subst IsUtf8 (sym named) (readable hook))
unread asked section not hook (inr text) =
    not (subst IsUtf8 (sym text.0) readable_text)
