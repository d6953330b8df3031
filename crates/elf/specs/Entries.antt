-- Section headers, symbols and relocations as they lie in a file: Elf64_Shdr, Elf64_Sym, Elf64_Rel.
use Rattle.std.specs.Prelude.{ℕ, ◌/◌, ◌+◌, ◌*◌, ◌%◌, ◌==◌, Bool, true, false, List, [], slice_index}
use Rattle.std.specs.Prelude.{if◌then◌else◌, slice_range}
use Rattle.elf.specs.declared.section.Section.{Section}
use Rattle.elf.specs.declared.section.SectionKind.{SectionKind}
use Rattle.elf.specs.declared.section.SectionKind.TheVariants as kinds
use Rattle.elf.specs.declared.symbol.Symbol.{Symbol}
use Rattle.elf.specs.declared.symbol.SymbolKind.{SymbolKind}
use Rattle.elf.specs.declared.symbol.SymbolKind.TheVariants as symbols
use Rattle.elf.specs.declared.relocation.Relocation.{Relocation}
use Rattle.elf.specs.Numbers.{half, word, xword}

-- sh_type: SHT_NULL, SHT_PROGBITS, SHT_SYMTAB, SHT_STRTAB, SHT_RELA, SHT_NOBITS, SHT_REL, SHT_RELR
abbrev pub section_kind : ℕ → SectionKind
section_kind n = if n == 0 then kinds.Null else
    if n == 1 then kinds.ProgramBits else
    if n == 2 then kinds.SymbolTable else
    if n == 3 then kinds.StringTable else
    if n == 4 then kinds.OtherRelocations else
    if n == 8 then kinds.NoBits else
    if n == 9 then kinds.Relocations else
    if n == 19 then kinds.OtherRelocations else kinds.Other

-- A section header's 64 bytes at a place.
unfoldable pub section_header : List ℕ → ℕ → Section
section_header bytes at = record {
  name = word bytes at;
  kind = section_kind (word bytes (at + 4));
  flags = xword bytes (at + 8);
  offset = xword bytes (at + 24);
  size = xword bytes (at + 32);
  link = word bytes (at + 40);
  info = word bytes (at + 44);
  entry_size = xword bytes (at + 56);
}

-- SHF_EXECINSTR, bit 2 of sh_flags: the section has instructions
abbrev pub is_code : Section → Bool
is_code s = s.flags / 4 % 2 == 1

-- the sections that have bytes in the file: all but SHT_NULL and SHT_NOBITS
abbrev pub has_bytes : SectionKind → Bool
has_bytes kinds.Null = false
has_bytes kinds.NoBits = false
has_bytes kind = true

-- a section's bytes
unfoldable pub contents : List ℕ → Section → List ℕ
contents bytes s = if has_bytes s.kind then slice_range bytes s.offset (s.offset + s.size) else []

-- ELF64_ST_TYPE of st_info: STT_NOTYPE, STT_OBJECT, STT_FUNC, STT_SECTION, STT_FILE
abbrev pub symbol_kind : ℕ → SymbolKind
symbol_kind n = if n == 0 then symbols.NoType else
    if n == 1 then symbols.Object else
    if n == 2 then symbols.Function else
    if n == 3 then symbols.Section else
    if n == 4 then symbols.File else symbols.Other

-- Symbol k of a symbol table: 24 bytes each.
unfoldable pub symbol_at : List ℕ → ℕ → Symbol
symbol_at table k = record {
  name = word table (24 * k);
  kind = symbol_kind (slice_index table (24 * k + 4) % 16);
  section = half table (24 * k + 6);
  value = xword table (24 * k + 8);
  size = xword table (24 * k + 16);
}

-- Relocation k of a section of relocations: 16 bytes each. The lower half of r_info is the type,
-- the upper one the symbol (ELF64_R_TYPE, ELF64_R_SYM).
unfoldable pub relocation_at : List ℕ → ℕ → Relocation
relocation_at table k = record {
  offset = xword table (16 * k);
  kind = word table (16 * k + 8);
  symbol = word table (16 * k + 12);
}
