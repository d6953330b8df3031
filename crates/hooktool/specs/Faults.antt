-- Which fault a request may end with, of the files that it names.
use Rattle.std.specs.Prelude.{◌≡◌, ℕ, ◌⊎◌, ◌++◌, List, [], codes}
use Rattle.std.specs.Borrow.{Bor}
use Rattle.std.specs.Str.{IsUtf8}
use Rattle.isa.specs.declared.decoding.DecodeError.{DecodeError}
use Rattle.isa.specs.declared.hook.Hook.{Hook}
use Rattle.isa.specs.Hooks.{hook_name}
use Rattle.isa.specs.Refusals as code
use Rattle.object.specs.declared.error.ObjectError.{ObjectError}
use Rattle.object.specs.Objects.{ObjectParts}
use Rattle.object.specs.Spelling.{Spells}
use Rattle.object.specs.Refusals as objects
use Rattle.annotations.specs.Verdict.{IsFileShortfall}
use Rattle.annotations.specs.declared.count_error.CountError.{CountError}
use Rattle.annotations.specs.declared.count_error.CountError.TheVariants as counts
use Rattle.annotations.specs.declared.shortfall.Shortfall.{Shortfall}
use Rattle.annotations.specs.declared.shortfall.Shortfall.TheVariants as shortfalls
use Rattle.hooktool_trials.specs.declared.requests.FuelAsked.{FuelAsked}
use Rattle.hooktool_trials.specs.declared.requests.PacketSource.{PacketSource}
use Rattle.hooktool_trials.specs.declared.requests.PacketSource.TheVariants as packets
use Rattle.hooktool_trials.specs.Stops.{KnownFiles}
use Rattle.hooktool.specs.Annotations.{fuel_for}
use Rattle.hooktool.specs.Builds.{object_path}
use Rattle.hooktool.specs.Statuses.{fault_of_object, fault_of_refusal}
use Rattle.hooktool.specs.declared.building.Purpose.{Purpose}
use Rattle.hooktool.specs.declared.building.Purpose.TheVariants as purposes
use Rattle.hooktool.specs.declared.fault.HooktoolFault.{HooktoolFault}
use Rattle.hooktool.specs.declared.fault.HooktoolFault.TheVariants as faults

-- The file at this path can't be read, or memory was refused.
abbrev pub IsUnread : KnownFiles → Bor (List ℕ) → HooktoolFault → Type 0
IsUnread known path fault = (fault ≡ faults.Memory)
    ⊎ ((fault ≡ faults.Read path) × known.unreadable path.now)

-- It can't be written, or memory was refused.
abbrev pub IsUnwritten : KnownFiles → Bor (List ℕ) → HooktoolFault → Type 0
IsUnwritten known path fault = (fault ≡ faults.Memory)
    ⊎ ((fault ≡ faults.Write path) × known.unwritable path.now)

-- the file of a packet
abbrev pub IsPacketFault : KnownFiles → PacketSource → HooktoolFault → Type 0
IsPacketFault known (packets.File path) fault = IsUnread known path fault
IsPacketFault known other fault = ⊥

-- The file of a test can't be read, or isn't UTF-8.
abbrev pub IsTestFault : KnownFiles → Bor (List ℕ) → HooktoolFault → Type 0
IsTestFault known path fault = IsUnread known path fault
    ⊎ ((fault ≡ faults.Read path)
    × (file : List ℕ) × known.holds path.now file × (IsUtf8 file → ⊥))

-- the refusal of bytes that are no object file
pub record IsObjectRefused (bytes : List ℕ) (fault : HooktoolFault) : Type 0 where
  pub error : ObjectError
  pub refuses : objects.Refuses bytes error
  pub told : fault ≡ fault_of_object error

-- the refusal of an object file's code
pub record IsCodeRefused (bytes : List ℕ) (fault : HooktoolFault) : Type 0 where
  pub object : ObjectParts
  pub spells : Spells bytes object
  pub error : DecodeError
  pub refuses : code.Refuses object.code error.slot error.kind
  pub told : fault ≡ fault_of_refusal error

-- Memory was refused, or the bytes hold no program.
abbrev pub IsObjectFault : List ℕ → HooktoolFault → Type 0
IsObjectFault bytes fault = (fault ≡ faults.Memory) ⊎ IsObjectRefused bytes fault
    ⊎ IsCodeRefused bytes fault

-- the line about an object for another hook
abbrev pub NamesHook : Hook → HooktoolFault → Type 0
NamesHook hook (faults.OtherHook name) = name.now ≡ hook_name hook
NamesHook hook other = ⊥

-- why turns can't be counted, as it is told
abbrev pub reason_of : CountError → List ℕ
reason_of counts.NoRegister = codes "no turns can be counted: the program uses each of r6 to r9"
reason_of counts.TooMany = codes "no turns can be counted: --fuel is 1000000 or more"
reason_of counts.TooGreat = codes "no turns can be counted: --fuel-answer is 2147483648 or more"
reason_of counts.TooLong =
    codes "no turns can be counted: the code would have more than 4096 slots, or a jump would go "
    ++ codes "too far"
reason_of counts.Memory = []

abbrev pub TellsReason : CountError → HooktoolFault → Type 0
TellsReason error (faults.Uncounted reason) = reason.now ≡ reason_of error
TellsReason error other = ⊥

abbrev pub IsFaultOfCount : CountError → HooktoolFault → Type 0
IsFaultOfCount counts.Memory fault = fault ≡ faults.Memory
IsFaultOfCount error fault = TellsReason error fault

-- the verifier refuses what was found
abbrev pub IsByVerifier : Shortfall → Type 0
IsByVerifier (shortfalls.Refused rejected endless) = Unit {0}
IsByVerifier other = ⊥

-- What is told if no object was found for a file, for this reason. A refusal by the verifier is
-- reported, unless memory is refused.
abbrev pub IsFaultOfShortfall : Shortfall → HooktoolFault → Type 0
IsFaultOfShortfall (shortfalls.Code error) fault = fault ≡ fault_of_refusal error
IsFaultOfShortfall (shortfalls.Object error) fault = fault ≡ fault_of_object error
IsFaultOfShortfall (shortfalls.OtherHook hook) fault = NamesHook hook fault
IsFaultOfShortfall (shortfalls.Uncounted error) fault = IsFaultOfCount error fault
IsFaultOfShortfall other fault = fault ≡ faults.Memory

-- Memory was refused, or there is such a reason.
pub record IsUnfound (hook : Hook) (fuel : FuelAsked) (file : List ℕ) (fault : HooktoolFault)
    : Type 0 where
  pub shortfall : Shortfall
  pub is_so : IsFileShortfall hook (fuel_for hook fuel) file shortfall
  pub told : IsFaultOfShortfall shortfall fault

abbrev pub IsAnnotationFault : Hook → FuelAsked → List ℕ → HooktoolFault → Type 0
IsAnnotationFault hook fuel file fault = (fault ≡ faults.Memory) ⊎ IsUnfound hook fuel file fault

-- An object in the folder can't be written.
abbrev pub IsFolderFault : KnownFiles → Bor (List ℕ) → HooktoolFault → Type 0
IsFolderFault known folder fault = (fault ≡ faults.Write folder)
    × (function : List ℕ) × known.unwritable (object_path folder.now function)

abbrev pub IsUnplaced : KnownFiles → Bor (List ℕ) → HooktoolFault → Type 0
IsUnplaced known folder fault = (fault ≡ faults.Memory) ⊎ IsFolderFault known folder fault

-- The same, if objects are asked for.
abbrev pub IsUnwritable : KnownFiles → Purpose → HooktoolFault → Type 0
IsUnwritable known (purposes.Object folder) fault = IsFolderFault known folder fault
IsUnwritable known purposes.Explanation fault = ⊥

abbrev pub IsBuildFault : KnownFiles → Purpose → HooktoolFault → Type 0
IsBuildFault known purpose fault = (fault ≡ faults.Memory) ⊎ IsUnwritable known purpose fault
