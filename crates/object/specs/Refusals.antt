-- Why bytes are not an object file: the first test that fails.
use Rattle.std.specs.Prelude.{◌≡◌, ◌≢◌, ℕ, ◌+◌, ◌*◌, ◌≤◌, ◌<◌, ◌⊎◌, List, ◌++◌, length, take, drop}
use Rattle.std.specs.Prelude.{slice_index}
use Rattle.std.specs.List.{flat_map}
use Rattle.std.specs.Int.{w16, w32, from_le_bytes}
use Rattle.isa.specs.declared.hook.Hook.{Hook}
use Rattle.isa.specs.Hooks.{hook_number}
use Rattle.object.specs.declared.error.ObjectError.{ObjectError}
use Rattle.object.specs.declared.error.ObjectError.TheVariants as errors
use Rattle.object.specs.Statements.{StatementParts, IsStatement}
use Rattle.object.specs.Objects.{ObjectParts, AreStatements, next_slot}
use Rattle.object.specs.declared.fields.HeaderFields.{HeaderFields}
use Rattle.object.specs.Fields.{AreHeader}
use Rattle.object.specs.Spelling.{Spells, magic, header_bytes, statement_text}

-- the numbers that users see
abbrev pub error_number : ObjectError → ℕ
error_number errors.Short = 1
error_number errors.Magic = 2
error_number errors.Version = 3
error_number errors.Hook = 4
error_number errors.Order = 5
error_number errors.Field = 6
error_number errors.Trailing = 7
error_number errors.Memory = 8

-- ---- what the header announces

abbrev pub count_in : List ℕ → ℕ
count_in bytes = from_le_bytes w16 (take 2 (drop 6 bytes))

abbrev pub slots_in : List ℕ → ℕ
slots_in bytes = from_le_bytes w32 (take 4 (drop 12 bytes))

abbrev pub announced_size : List ℕ → ℕ
announced_size bytes = 16 + 8 * slots_in bytes + 484 * count_in bytes

-- ---- the tests that come before, each with those before it

pub record HasMagic (bytes : List ℕ) : Type 0 where
  pub long : 16 ≤ length bytes
  pub magic_is : take 4 bytes ≡ magic

pub record HasVersion (bytes : List ℕ) : Type 0 where
  pub begins : HasMagic bytes
  pub version_is : slice_index bytes 4 ≡ 1

pub record HasHook (bytes : List ℕ) : Type 0 where
  pub begins : HasVersion bytes
  pub hook : Hook
  pub hook_is : hook_number hook ≡ slice_index bytes 5

pub record HasSlots (bytes : List ℕ) : Type 0 where
  pub begins : HasHook bytes
  pub some : 1 ≤ slots_in bytes
  pub most : slots_in bytes ≤ 4096

pub record HasSize (bytes : List ℕ) : Type 0 where
  pub begins : HasSlots bytes
  pub size : length bytes ≡ announced_size bytes

-- what the fields after the first four bytes say
pub record AreFieldsOf (bytes : List ℕ) (f : HeaderFields) : Type 0 where
  pub begins : HasSlots bytes
  pub bytes_are : header_bytes f ≡ take 12 (drop 4 bytes)
  pub version_is : f.version ≡ 1
  pub count_is : f.statements ≡ count_in bytes
  pub slots_are : f.slots ≡ slots_in bytes
  pub ranges : AreHeader f

-- ---- the first statement that fails

-- The slot at the front of these bytes is below `least`, or not in the code.
abbrev pub IsOutOfOrder : ℕ → ℕ → List ℕ → Type 0
IsOutOfOrder least slots bytes = (from_le_bytes w32 (take 4 bytes) < least)
    ⊎ (slots ≤ from_le_bytes w32 (take 4 bytes))

-- No statement is spelled by the first 484 bytes.
abbrev pub IsNoStatement : List ℕ → Type 0
IsNoStatement bytes = (s : StatementParts) → IsStatement s → statement_text s ≡ take 484 bytes → ⊥

-- why the bytes do not begin with a statement
abbrev pub Fails : ℕ → ℕ → List ℕ → ObjectError → Type 0
Fails least slots bytes errors.Order = IsOutOfOrder least slots bytes
Fails least slots bytes errors.Field = (IsOutOfOrder least slots bytes → ⊥) × IsNoStatement bytes
Fails least slots bytes other = ⊥

-- The bytes spell some statements, and the next of the `count` fails.
pub record FailsBehind (bytes : List ℕ) (slots count : ℕ) (error : ObjectError) : Type 0 where
  pub statements : List StatementParts
  pub rest : List ℕ
  pub parts : bytes ≡ flat_map statement_text statements ++ rest
  pub are : AreStatements 0 slots statements
  pub few : length statements < count
  pub fails : Fails (next_slot 0 statements) slots rest error

-- The bytes spell `count` statements.
pub record AreSpelled (bytes : List ℕ) (slots count : ℕ)
    (statements : List StatementParts) : Type 0 where
  pub are : AreStatements 0 slots statements
  pub text : flat_map statement_text statements ≡ bytes
  pub count_is : length statements ≡ count

-- Why `count` statements aren't read from the bytes: one fails, or memory ran out although all of
-- them are spelled.
abbrev pub StatementsFail : List ℕ → ℕ → ℕ → ObjectError → Type 0
StatementsFail bytes slots count errors.Memory = (statements : List StatementParts)
    × AreSpelled bytes slots count statements
StatementsFail bytes slots count error = FailsBehind bytes slots count error

pub record FailsAt (bytes : List ℕ) (error : ObjectError) : Type 0 where
  pub begins : HasSize bytes
  pub behind : FailsBehind (drop (16 + 8 * slots_in bytes) bytes) (slots_in bytes)
      (count_in bytes) error

-- Why no object is read from the bytes. `Memory` is reported only for bytes that spell an object.
abbrev pub Refuses : List ℕ → ObjectError → Type 0
Refuses bytes errors.Short = (length bytes < 16)
    ⊎ (HasSlots bytes × (length bytes < announced_size bytes))
Refuses bytes errors.Magic = (16 ≤ length bytes) × (take 4 bytes ≢ magic)
Refuses bytes errors.Version = HasMagic bytes × (slice_index bytes 4 ≢ 1)
Refuses bytes errors.Hook = HasVersion bytes
    × ((hook : Hook) → hook_number hook ≢ slice_index bytes 5)
Refuses bytes errors.Order = FailsAt bytes errors.Order
Refuses bytes errors.Field = (HasHook bytes × ((slots_in bytes ≡ 0) ⊎ (4096 < slots_in bytes)))
    ⊎ FailsAt bytes errors.Field
Refuses bytes errors.Trailing = HasSlots bytes × (announced_size bytes < length bytes)
Refuses bytes errors.Memory = (object : ObjectParts) × Spells bytes object
