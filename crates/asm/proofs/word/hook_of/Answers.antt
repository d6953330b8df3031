use Rattle.std.proofs.Common.{◌≡◌, Bool, true, false, Option, Some, None, IfSome, refl}
use Rattle.std.specs.Prelude.{List, ℕ, if◌then◌else◌}
use Rattle.std.specs.Str.{bytes_eq}
use Rattle.std.proofs.lemmas.Option.{none-some}
use Rattle.std.proofs.lemmas.Slice.Eq.{bytes_eq-Decides}
use Rattle.isa.specs.declared.hook.Hook.{Hook}
use Rattle.isa.specs.declared.hook.Hook.TheVariants as hooks
use Rattle.isa.specs.Hooks.{hook_name}
use Rattle.asm.specs.Words.{hook_of}
use Rattle.asm.proofs.word.hook_of.Goals as goal

names_are_found : (hook : Hook) → Some hook ≡ hook_of (hook_name hook)
names_are_found hooks.Count = refl
names_are_found hooks.Tag = refl
names_are_found hooks.Price = refl
names_are_found hooks.Veto = refl

none_of : (b c d e : Bool) → (b ≡ true → ⊥) → (c ≡ true → ⊥) → (d ≡ true → ⊥) → (e ≡ true → ⊥)
    → None ≡ (if b then Some hooks.Count
    else (if c then Some hooks.Tag
    else (if d then Some hooks.Price else (if e then Some hooks.Veto else None))))
none_of true c d e not_b not_c not_d not_e = absurd (not_b refl)
none_of false true d e not_b not_c not_d not_e = absurd (not_c refl)
none_of false false true e not_b not_c not_d not_e = absurd (not_d refl)
none_of false false false true not_b not_c not_d not_e = absurd (not_e refl)
none_of false false false false not_b not_c not_d not_e = refl

same : (word : List ℕ) (found : Option Hook) → IfSome found (λ hook. word ≡ hook_name hook)
    → ((hook : Hook) → word ≡ hook_name hook → found ≡ Some hook) → found ≡ hook_of word
same word (Some hook) is only = rw is (names_are_found hook)
same word None is only =
    let differs : (hook : Hook) → bytes_eq word (hook_name hook) ≡ true → ⊥ =
    λ hook e. none-some hook (only hook ((bytes_eq-Decides word (hook_name hook)).0 e)) in
    none_of (bytes_eq word (hook_name hooks.Count)) (bytes_eq word (hook_name hooks.Tag))
    (bytes_eq word (hook_name hooks.Price)) (bytes_eq word (hook_name hooks.Veto))
    (differs hooks.Count) (differs hooks.Tag) (differs hooks.Price) (differs hooks.Veto)

pub returns-clause-value : goal.returns-clause-value
returns-clause-value c =
    same c.args.word.now c.from_name.result c.from_name.ensures.found c.from_name.ensures.only
