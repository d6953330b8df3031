-- The bytes of an object file. Each object has one spelling; numbers have their lowest byte first.
use Rattle.std.specs.Prelude.{◌≡◌, ℕ, List, [], ◌∷◌, ◌++◌, length, Option, Some, None}
use Rattle.std.specs.List.{flat_map}
use Rattle.std.specs.Int.{w16, w32, w64, to_le_bytes}
use Rattle.isa.specs.Hooks.{hook_number}
use Rattle.isa.specs.Maps.{map_number}
use Rattle.object.specs.declared.kind.StatedKind.{StatedKind}
use Rattle.object.specs.declared.kind.StatedKind.TheVariants as kinds
use Rattle.object.specs.declared.rank.Rank.{Rank}
use Rattle.object.specs.declared.fields.RegisterFields.{RegisterFields}
use Rattle.object.specs.declared.fields.RankFields.{RankFields}
use Rattle.object.specs.declared.fields.HeaderFields.{HeaderFields}
use Rattle.object.specs.Numbers.{Numbers, Term}
use Rattle.object.specs.Statements.{StatementParts}
use Rattle.object.specs.Packing.{packed_bits}
use Rattle.object.specs.Objects.{ObjectParts, IsObject, slots_of}

-- ---- a register: 40 bytes

abbrev pub register_front : RegisterFields → List ℕ
register_front f = f.kind ∷ f.map ∷ to_le_bytes w16 f.unused ++ to_le_bytes w32 f.offset

abbrev pub register_numbers : RegisterFields → List ℕ
register_numbers f = to_le_bytes w64 f.low ++ to_le_bytes w64 f.high ++ to_le_bytes w64 f.mask
    ++ to_le_bytes w64 f.value

abbrev pub register_bytes : RegisterFields → List ℕ
register_bytes f = register_front f ++ register_numbers f

abbrev pub register_fields : ℕ → ℕ → ℕ → Numbers → RegisterFields
register_fields kind map offset n =
    record {
      kind = kind;
      map = map;
      unused = 0;
      offset = offset;
      low = n.low;
      high = n.high;
      mask = n.mask;
      value = n.value;
    }

abbrev pub no_numbers : Numbers
no_numbers = record { low = 0; high = 0; mask = 0; value = 0 }

-- A field that a kind doesn't use is zero.
abbrev pub fields_of_kind : StatedKind → RegisterFields
fields_of_kind kinds.Unstated = register_fields 0 0 0 no_numbers
fields_of_kind (kinds.Number numbers) = register_fields 1 0 0 numbers
fields_of_kind (kinds.Context offset) = register_fields 2 0 offset no_numbers
fields_of_kind (kinds.Stack offset) = register_fields 3 0 offset no_numbers
fields_of_kind (kinds.MapValue map numbers) = register_fields 4 (map_number map) 0 numbers

abbrev pub kind_text : StatedKind → List ℕ
kind_text kind = register_bytes (fields_of_kind kind)

-- ---- the front of a statement: 20 bytes

abbrev pub rank_bytes : RankFields → List ℕ
rank_bytes f = to_le_bytes w32 f.slot ++ to_le_bytes w32 f.constant ++ f.first_register
    ∷ f.second_register ∷ to_le_bytes w16 f.unused
    ++ to_le_bytes w32 f.first_coefficient ++ to_le_bytes w32 f.second_coefficient

-- Without a term, its register and its coefficient are zero.
abbrev pub term_register : Option Term → ℕ
term_register None = 0
term_register (Some term) = term.register

abbrev pub term_coefficient : Option Term → ℕ
term_coefficient None = 0
term_coefficient (Some term) = term.coefficient

abbrev pub fields_of_rank : ℕ → Rank → RankFields
fields_of_rank slot rank = record {
  slot = slot;
  constant = rank.constant;
  first_register = term_register rank.first;
  second_register = term_register rank.second;
  unused = 0;
  first_coefficient = term_coefficient rank.first;
  second_coefficient = term_coefficient rank.second;
}

-- ---- a statement: 484 bytes

abbrev pub statement_text : StatementParts → List ℕ
statement_text s = rank_bytes (fields_of_rank s.slot s.rank) ++ packed_bits s.stack
    ++ flat_map kind_text s.kinds

-- ---- the header: 16 bytes

-- BPFH
abbrev pub magic : List ℕ
magic = 0x42 ∷ 0x50 ∷ 0x46 ∷ 0x48 ∷ []

-- what stands after the first four bytes
abbrev pub header_bytes : HeaderFields → List ℕ
header_bytes f = f.version ∷ f.hook ∷ to_le_bytes w16 f.statements ++ to_le_bytes w32 f.entry_rank
    ++ to_le_bytes w32 f.slots

abbrev pub fields_of_header : ObjectParts → HeaderFields
fields_of_header o =
    record {
      version = 1;
      hook = hook_number o.hook;
      statements = length o.statements;
      entry_rank = o.entry_rank;
      slots = slots_of o;
    }

-- ---- an object

abbrev pub text : ObjectParts → List ℕ
text o = magic ++ header_bytes (fields_of_header o) ++ o.code
    ++ flat_map statement_text o.statements

-- The bytes spell the object.
pub record Spells (bytes : List ℕ) (o : ObjectParts) : Type 0 where
  pub is_object : IsObject o
  pub spelled : bytes ≡ text o
