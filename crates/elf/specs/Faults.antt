-- What each fault says of the bytes. None of them can be said of a relocatable BPF object.
use Rattle.std.specs.Prelude.{◌≡◌, ◌≢◌, ℕ, ◌/◌, ◌<◌, List, length}
use Rattle.elf.specs.declared.section.SectionKind.{SectionKind}
use Rattle.elf.specs.declared.section.SectionKind.TheVariants as kinds
use Rattle.elf.specs.declared.fault.ElfFault.{ElfFault}
use Rattle.elf.specs.declared.fault.ElfFault.TheVariants as faults
use Rattle.elf.specs.Numbers.{half}
use Rattle.elf.specs.Files.{IsElf, IsLittleEndian64, HasSectionTable, section_count, names_section}
use Rattle.elf.specs.Files.{section_at, contents_of, section_names, InFile, IsStringTable, IsTable}
use Rattle.elf.specs.Files.{IsSymbol, IsRelocation}

-- Section i is of this kind.
abbrev pub IsOfKind : List ℕ → ℕ → SectionKind → Type 0
IsOfKind bytes i kind = (i < section_count bytes) × ((section_at bytes i).kind ≡ kind)

abbrev pub Breaks : List ℕ → ElfFault → Type 0
Breaks bytes faults.NotElf = ¬ IsElf bytes
Breaks bytes faults.Form = ¬ IsLittleEndian64 bytes
Breaks bytes (faults.Type found) = (half bytes 16 ≡ found) × (found ≢ 1)
Breaks bytes (faults.Machine found) = (half bytes 18 ≡ found) × (found ≢ 247)
Breaks bytes faults.SectionTable = ¬ HasSectionTable bytes
Breaks bytes faults.SectionNames = (section_at bytes (names_section bytes)).kind ≢ kinds.StringTable
Breaks bytes (faults.Contents i) = (i < section_count bytes) × (¬ InFile bytes (section_at bytes i))
Breaks bytes (faults.SectionName i) = (i < section_count bytes)
    × (¬ ((section_at bytes i).name < length (section_names bytes)))
Breaks bytes (faults.Strings i) = IsOfKind bytes i kinds.StringTable
    × (¬ IsStringTable (contents_of bytes i))
Breaks bytes (faults.Symbols i) = IsOfKind bytes i kinds.SymbolTable
    × (¬ IsTable bytes (section_at bytes i) 24 kinds.StringTable)
Breaks bytes (faults.Symbol i k) = IsOfKind bytes i kinds.SymbolTable
    × (k < length (contents_of bytes i) / 24) × (¬ IsSymbol bytes (section_at bytes i) k)
Breaks bytes (faults.Relocations i) = IsOfKind bytes i kinds.Relocations
    × (¬ (IsTable bytes (section_at bytes i) 16 kinds.SymbolTable
    × ((section_at bytes i).info < section_count bytes)))
Breaks bytes (faults.Relocation i k) = IsOfKind bytes i kinds.Relocations
    × (k < length (contents_of bytes i) / 16) × (¬ IsRelocation bytes (section_at bytes i) k)
Breaks bytes (faults.OtherRelocations i) = IsOfKind bytes i kinds.OtherRelocations
