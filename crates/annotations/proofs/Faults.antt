-- Why there is no object: shortfalls that are no verdicts say nothing of the code.
use Rattle.std.proofs.Common.{◌≡◌, ◌<◌, ◌≤◌, ◌⊎◌, ℕ, List, Result, Err, IfErr, inl, inr}
use Rattle.std.proofs.Common.{subst, sym}
use Rattle.isa.specs.declared.code.Slot.{Slot}
use Rattle.isa.specs.declared.hook.Hook.{Hook}
use Rattle.annotations.specs.declared.shortfall.Shortfall.{Shortfall}
use Rattle.annotations.specs.declared.shortfall.Shortfall.TheVariants as shortfalls
use Rattle.verifier.specs.Verdicts.{Refuses}
use Rattle.verifier.specs.declared.error.VerifyError.{VerifyError}
use Rattle.verifier.specs.Programs.{Program}
use Rattle.annotations.specs.Annotated.{IsProgram}
use Rattle.annotations.specs.CountedCode.{IsUncounted, IsUnnamed, NamesAll}
use Rattle.annotations.specs.declared.count_error.CountError.{CountError}
use Rattle.annotations.specs.declared.count_error.CountError.TheVariants as errors
use Rattle.annotations.specs.Verdict.{IsShortfall, IsUnjudged}

pub unjudged : (hook : Hook) (text : List ℕ) (s : Shortfall) → IsProgram text → IsUnjudged s
    → IsShortfall hook text s
unjudged hook text (shortfalls.Code error) is h = absurd h
unjudged hook text (shortfalls.Object error) is h = absurd h
unjudged hook text (shortfalls.OtherHook other) is h = absurd h
unjudged hook text (shortfalls.Uncounted error) is h = absurd h
unjudged hook text (shortfalls.Refused r endless) is h = absurd h
unjudged hook text shortfalls.Statements is h = is
unjudged hook text shortfalls.Memory is h = tt

-- a register that isn't named
pub not_all : (code : List Slot) (register : ℕ) → 6 ≤ register → register ≤ 9
    → IsUnnamed code register → NamesAll code → ⊥
not_all code register least most unnamed all = all register least most unnamed

-- if the code couldn't be built
pub unbuilt : (answer turns : ℕ) (code : List Slot) (error : CountError) → (NamesAll code → ⊥)
    → turns < 1000000 → answer ≤ 2147483647 → (error ≡ errors.TooLong) ⊎ (error ≡ errors.Memory)
    → IsUncounted answer turns code error
unbuilt answer turns code error some few small is = elim is [
  | inl long ↦ subst (λ (e : CountError). IsUncounted answer turns code e) (sym long)
      (some, few, small)
  | inr memory ↦ subst (λ (e : CountError). IsUncounted answer turns code e) (sym memory) tt
]

-- what the verifier said of the bytes, if it gave this error
pub why : (given bytes : List ℕ) (said : Result Program VerifyError) (error same : VerifyError)
    → given ≡ bytes → said ≡ Err error → error ≡ same → IfErr said (Refuses given)
    → Refuses bytes same
why given bytes said error same here is names h =
    let of_error : Refuses given error =
    subst (λ (it : Result Program VerifyError). IfErr it (Refuses given)) is h in
    subst (λ (it : List ℕ). Refuses it same) here
    (subst (λ (it : VerifyError). Refuses given it) names of_error)
