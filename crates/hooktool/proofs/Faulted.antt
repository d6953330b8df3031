-- Which fault a request has, of what went wrong below it.
use Rattle.std.proofs.Common.{◌≡◌, ℕ, List, Ok, Err, take, true, inl, inr}
use Rattle.std.specs.Prelude.{◌⊎◌, IfErr, IfOk, Result}
use Rattle.annotations.specs.Verdict.{IsFileShortfall}
use Rattle.annotations.specs.declared.shortfall.Shortfall.{Shortfall}
use Rattle.annotations.specs.declared.shortfall.Shortfall.TheVariants as shortfalls
use Rattle.isa.specs.declared.hook.Hook.{Hook}
use Rattle.hooktool_trials.specs.declared.requests.FuelAsked.{FuelAsked}
use Rattle.hooktool_trials.specs.Stops.{KnownFiles}
use Rattle.hooktool.specs.Annotations.{IsAnnotated, IsRefusedFile, elf_magic, fuel_for}
use Rattle.hooktool.specs.Faults.{IsAnnotationFault, IsBuildFault, IsByVerifier}
use Rattle.hooktool.specs.Faults.{IsFaultOfShortfall, IsObjectFault}
use Rattle.hooktool.specs.declared.building.Purpose.{Purpose}
use Rattle.hooktool.specs.declared.building.Purpose.TheVariants as purposes
use Rattle.hooktool.specs.declared.fault.HooktoolFault.{HooktoolFault}
use Rattle.hooktool.specs.declared.fault.HooktoolFault.TheVariants as faults
use Rattle.hooktool.specs.declared.report.CommandReport.{CommandReport}

-- want of memory, whatever the bytes are
pub memory_at_object : {T : Type 0} (bytes : List ℕ) (r : Result T HooktoolFault)
    → IfErr r (λ fault. fault ≡ faults.Memory) → IfErr r (IsObjectFault bytes)
memory_at_object {T} bytes (Ok value) memory = tt
memory_at_object {T} bytes (Err fault) memory = inl memory

-- a fault of one kind, or of another
pub one_fault : {T : Type 0} (one other : HooktoolFault → Type 0) (r : Result T HooktoolFault)
    → IfErr r one → IfErr r (λ fault. one fault ⊎ other fault)
one_fault {T} one other (Ok value) is = tt
one_fault {T} one other (Err fault) is = inl is

-- why no object was found
pub unfound : {T : Type 0} (hook : Hook) (fuel : FuelAsked) (file : List ℕ)
    (written : HooktoolFault → Type 0) (shortfall : Shortfall) (r : Result T HooktoolFault)
    → IsFileShortfall hook (fuel_for hook fuel) file shortfall
    → IfErr r (IsFaultOfShortfall shortfall)
    → IfErr r (λ fault. written fault ⊎ IsAnnotationFault hook fuel file fault)
unfound {T} hook fuel file written shortfall (Ok value) is_so told = tt
unfound {T} hook fuel file written shortfall (Err fault) is_so told = inr (inr (record {
  shortfall = shortfall;
  is_so = is_so;
  told = told;
}))

-- the verifier's refusal of what was found
pub refused_file : (hook : Hook) (fuel : FuelAsked) (file : List ℕ) (shortfall : Shortfall)
    → IsFileShortfall hook (fuel_for hook fuel) file shortfall → IsByVerifier shortfall
    → IsRefusedFile hook fuel file
refused_file hook fuel file (shortfalls.Refused rejected endless) is_so by_verifier =
    record {
      object = rejected.object;
      bytes = rejected.bytes.items;
      refusal = rejected.refusal;
      rejection = is_so.0;
    }
refused_file hook fuel file (shortfalls.Code error) is_so by_verifier = absurd by_verifier
refused_file hook fuel file (shortfalls.Object error) is_so by_verifier = absurd by_verifier
refused_file hook fuel file (shortfalls.OtherHook other) is_so by_verifier = absurd by_verifier
refused_file hook fuel file (shortfalls.Uncounted error) is_so by_verifier = absurd by_verifier
refused_file hook fuel file shortfalls.Statements is_so by_verifier = absurd by_verifier
refused_file hook fuel file shortfalls.Memory is_so by_verifier = absurd by_verifier

pub refused : {E : Type 0} (are_written : List ℕ → Type 0) (hook : Hook) (fuel : FuelAsked)
    (file : List ℕ) (shortfall : Shortfall) (r : Result CommandReport E)
    → IsFileShortfall hook (fuel_for hook fuel) file shortfall
    → IfOk r (λ report. (report.is_refused ≡ true) × IsByVerifier shortfall)
    → IfOk r (IsAnnotated are_written hook fuel file)
refused {E} are_written hook fuel file shortfall (Ok report) is_so told =
    inr (told.0, inl (refused_file hook fuel file shortfall is_so told.1))
refused {E} are_written hook fuel file shortfall (Err e) is_so told = tt

-- an ELF file in the place of code
pub elf_told : {E : Type 0} (are_written : List ℕ → Type 0) (hook : Hook) (fuel : FuelAsked)
    (file : List ℕ) (r : Result CommandReport E)
    → take 4 file ≡ elf_magic → IfOk r (λ report. report.is_refused ≡ true)
    → IfOk r (IsAnnotated are_written hook fuel file)
elf_told {E} are_written hook fuel file (Ok report) elf is = inr (is, inr elf)
elf_told {E} are_written hook fuel file (Err e) elf is = tt

pub elf_fault : {T : Type 0} (hook : Hook) (fuel : FuelAsked) (file : List ℕ)
    (written : HooktoolFault → Type 0) (r : Result T HooktoolFault)
    → IfErr r (λ fault. fault ≡ faults.Memory)
    → IfErr r (λ fault. written fault ⊎ IsAnnotationFault hook fuel file fault)
elf_fault {T} hook fuel file written (Ok value) memory = tt
elf_fault {T} hook fuel file written (Err fault) memory = inr (inl memory)

-- explanations write nothing
pub explaining_fault : {T : Type 0} (known : KnownFiles) (purpose : Purpose) (bytes : List ℕ)
    (r : Result T HooktoolFault) → purpose ≡ purposes.Explanation
    → IfErr r (IsBuildFault known purpose) → IfErr r (IsObjectFault bytes)
explaining_fault {T} known purposes.Explanation bytes (Err fault) purpose_is is =
    elim is [ inl memory ↦ inl memory | inr impossible ↦ absurd impossible ]
explaining_fault {T} known (purposes.Object folder) bytes (Err fault) purpose_is is = absurd cc
explaining_fault {T} known purpose bytes (Ok value) purpose_is is = tt
