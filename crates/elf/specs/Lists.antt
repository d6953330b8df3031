-- What a relocatable BPF object says of its sections: symbols, functions and relocations, in the
-- order of the file.
use Rattle.std.specs.Prelude.{◌+◌, ◌≤◌, slice_range, ℕ, zero, suc, ◌/◌, ◌<◌, ◌==◌, ◌&&◌, Bool, true}
use Rattle.std.specs.Prelude.{false, List, [], ◌∷◌, ◌++◌, length, if◌then◌else◌}
use Rattle.elf.specs.declared.section.Section.{Section}
use Rattle.elf.specs.declared.section.SectionKind.{SectionKind}
use Rattle.elf.specs.declared.section.SectionKind.TheVariants as kinds
use Rattle.elf.specs.declared.symbol.Symbol.{Symbol}
use Rattle.elf.specs.declared.symbol.SymbolKind.{SymbolKind}
use Rattle.elf.specs.declared.symbol.SymbolKind.TheVariants as symbols
use Rattle.elf.specs.declared.lists.LinkedRelocation.{LinkedRelocation}
use Rattle.elf.specs.declared.lists.LinkedSymbol.{LinkedSymbol}
use Rattle.elf.specs.Numbers.{string_at}
use Rattle.elf.specs.Entries.{symbol_at, relocation_at}
use Rattle.elf.specs.Files.{section_count, section_at, contents_of}

-- ---- symbols

abbrev pub is_symbol_table : SectionKind → Bool
is_symbol_table kinds.SymbolTable = true
is_symbol_table _ = false

-- how many symbols section i has
abbrev pub symbol_count : List ℕ → ℕ → ℕ
symbol_count bytes i = if is_symbol_table (section_at bytes i).kind
    then length (contents_of bytes i) / 24 else 0

-- Section i has a symbol k.
abbrev pub HasSymbol : List ℕ → ℕ → ℕ → Type 0
HasSymbol bytes i k = (i < section_count bytes) × (k < symbol_count bytes i)

abbrev pub symbol_of : List ℕ → ℕ → ℕ → Symbol
symbol_of bytes i k = symbol_at (contents_of bytes i) k

abbrev pub symbol_name : List ℕ → ℕ → ℕ → List ℕ
symbol_name bytes i k = string_at (contents_of bytes (section_at bytes i).link)
    (symbol_of bytes i k).name

-- The symbol is in a section, with all the bytes that it has.
abbrev pub HasBytes : List ℕ → Symbol → Type 0
HasBytes bytes symbol = (symbol.section < section_count bytes)
    × (symbol.value + symbol.size ≤ length (contents_of bytes symbol.section))

abbrev pub symbol_bytes : List ℕ → Symbol → List ℕ
symbol_bytes bytes symbol =
    slice_range (contents_of bytes symbol.section) symbol.value (symbol.value + symbol.size)

-- ---- the functions of a section: the symbols STT_FUNC that are in it

abbrev pub is_function : SymbolKind → Bool
is_function symbols.Function = true
is_function _ = false

abbrev pub is_function_of : Symbol → ℕ → Bool
is_function_of symbol section = is_function symbol.kind && (symbol.section == section)

-- those among the first k symbols of a table, which is section i
abbrev pub functions_among : List ℕ → ℕ → ℕ → ℕ → List LinkedSymbol
functions_among table i section zero = []
functions_among table i section (suc k) = functions_among table i section k
    ++ (if is_function_of (symbol_at table k) section
    then record { table = i; index = k; symbol = symbol_at table k } ∷ [] else [])

-- those of the first n sections
abbrev pub functions_below : List ℕ → ℕ → ℕ → List LinkedSymbol
functions_below bytes section zero = []
functions_below bytes section (suc i) = functions_below bytes section i
    ++ functions_among (contents_of bytes i) i section (symbol_count bytes i)

abbrev pub functions_of : List ℕ → ℕ → List LinkedSymbol
functions_of bytes section = functions_below bytes section (section_count bytes)

-- ---- the relocations of a section: those of each SHT_REL whose sh_info it is

abbrev pub has_relocations : SectionKind → Bool
has_relocations kinds.Relocations = true
has_relocations _ = false

abbrev pub changes : Section → ℕ → Bool
changes s section = has_relocations s.kind && (s.info == section)

-- the first k relocations of a table, whose symbols are those of section i
abbrev pub relocations_among : List ℕ → ℕ → ℕ → List LinkedRelocation
relocations_among table i zero = []
relocations_among table i (suc k) = relocations_among table i k
    ++ (record { table = i; relocation = relocation_at table k } ∷ [])

-- all relocations of section i, if it changes this section
abbrev pub relocations_from : List ℕ → ℕ → ℕ → List LinkedRelocation
relocations_from bytes section i = if changes (section_at bytes i) section
    then relocations_among (contents_of bytes i) (section_at bytes i).link
    (length (contents_of bytes i) / 16)
    else []

-- those of the first n sections
abbrev pub relocations_below : List ℕ → ℕ → ℕ → List LinkedRelocation
relocations_below bytes section zero = []
relocations_below bytes section (suc i) = relocations_below bytes section i
    ++ relocations_from bytes section i

abbrev pub relocations_of : List ℕ → ℕ → List LinkedRelocation
relocations_of bytes section = relocations_below bytes section (section_count bytes)
