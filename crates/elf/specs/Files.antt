-- Which bytes are a relocatable BPF object (gABI, chapter 4).
use Rattle.std.specs.Prelude.{◌≡◌, ◌≢◌, ℕ, ◌+◌, ◌-◌, ◌*◌, ◌/◌, ◌%◌, ◌<◌, ◌≤◌, ◌⊎◌, true, List}
use Rattle.std.specs.Prelude.{length, slice_index}
use Rattle.elf.specs.declared.section.Section.{Section}
use Rattle.elf.specs.declared.section.SectionKind.{SectionKind}
use Rattle.elf.specs.declared.section.SectionKind.TheVariants as kinds
use Rattle.elf.specs.Numbers.{half, word, xword, string_at}
use Rattle.elf.specs.Entries.{section_header, contents, has_bytes, symbol_at, relocation_at}

-- ---- the file header: Elf64_Ehdr

-- 64 bytes at least, of which the first are 7f 'E' 'L' 'F'
pub record IsElf (bytes : List ℕ) : Type 0 where
  pub long : 64 ≤ length bytes
  pub magic : word bytes 0 ≡ 0x464c457f

-- ELFCLASS64, ELFDATA2LSB, EV_CURRENT in e_ident and in e_version
pub record IsLittleEndian64 (bytes : List ℕ) : Type 0 where
  pub class : slice_index bytes 4 ≡ 2
  pub order : slice_index bytes 5 ≡ 1
  pub version : slice_index bytes 6 ≡ 1
  pub current : word bytes 20 ≡ 1

-- e_shoff, e_shnum, e_shstrndx
abbrev pub section_table : List ℕ → ℕ
section_table bytes = xword bytes 40

abbrev pub section_count : List ℕ → ℕ
section_count bytes = half bytes 60

abbrev pub names_section : List ℕ → ℕ
names_section bytes = half bytes 62

-- headers of 64 bytes each (e_shentsize), which lie in the file
pub record HasSectionTable (bytes : List ℕ) : Type 0 where
  pub entry_size : half bytes 58 ≡ 64
  pub in_file : section_table bytes + 64 * section_count bytes ≤ length bytes
  pub names : names_section bytes < section_count bytes

-- ET_REL, EM_BPF
pub record IsHeader (bytes : List ℕ) : Type 0 where
  pub elf : IsElf bytes
  pub form : IsLittleEndian64 bytes
  pub relocatable : half bytes 16 ≡ 1
  pub machine : half bytes 18 ≡ 247
  pub table : HasSectionTable bytes

-- ---- sections

-- header i
abbrev pub section_at : List ℕ → ℕ → Section
section_at bytes i = section_header bytes (section_table bytes + 64 * i)

abbrev pub InFile : List ℕ → Section → Type 0
InFile bytes s = has_bytes s.kind ≡ true → s.offset + s.size ≤ length bytes

-- A file whose sections' bytes are there.
pub record HasSections (bytes : List ℕ) : Type 0 where
  pub header : IsHeader bytes
  pub in_file : (i : ℕ) → i < section_count bytes → InFile bytes (section_at bytes i)

-- the contents of section i
abbrev pub contents_of : List ℕ → ℕ → List ℕ
contents_of bytes i = contents bytes (section_at bytes i)

-- the table that has the sections' names
abbrev pub section_names : List ℕ → List ℕ
section_names bytes = contents_of bytes (names_section bytes)

abbrev pub section_name : List ℕ → ℕ → List ℕ
section_name bytes i = string_at (section_names bytes) (section_at bytes i).name

-- Whole entries of this size, and sh_link is a section of this kind.
pub record IsTable (bytes : List ℕ) (s : Section) (size : ℕ) (linked : SectionKind) : Type 0 where
  pub entry_size : s.entry_size ≡ size
  pub whole : length (contents bytes s) % size ≡ 0
  pub link : s.link < section_count bytes
  pub kind : (section_at bytes s.link).kind ≡ linked

-- Each string ends: an empty table, or one whose last byte is null.
abbrev pub IsStringTable : List ℕ → Type 0
IsStringTable table = (length table ≡ 0) ⊎ (slice_index table (length table - 1) ≡ 0)

-- ---- symbols

-- The name is in the table's strings; st_shndx is a section, or from SHN_LORESERVE on.
pub record IsSymbol (bytes : List ℕ) (s : Section) (k : ℕ) : Type 0 where
  pub named : (symbol_at (contents bytes s) k).name < length (contents_of bytes s.link)
  pub placed : ((symbol_at (contents bytes s) k).section < section_count bytes)
      ⊎ (0xff00 ≤ (symbol_at (contents bytes s) k).section)

pub record IsSymbolTable (bytes : List ℕ) (s : Section) : Type 0 where
  pub table : IsTable bytes s 24 kinds.StringTable
  pub symbols : (k : ℕ) → k < length (contents bytes s) / 24 → IsSymbol bytes s k

-- ---- relocations

-- The symbol is one of the linked table, and the place is in the section that is changed.
pub record IsRelocation (bytes : List ℕ) (s : Section) (k : ℕ) : Type 0 where
  pub symbol : (relocation_at (contents bytes s) k).symbol < length (contents_of bytes s.link) / 24
  pub inside : (relocation_at (contents bytes s) k).offset < (section_at bytes s.info).size

-- sh_link is the symbol table, sh_info the section that is changed
pub record IsRelocationTable (bytes : List ℕ) (s : Section) : Type 0 where
  pub table : IsTable bytes s 16 kinds.SymbolTable
  pub target : s.info < section_count bytes
  pub relocations : (k : ℕ) → k < length (contents bytes s) / 16 → IsRelocation bytes s k

-- ---- the whole

-- A section is what its kind says. Relocations are of the form SHT_REL, the only one that clang
-- writes for BPF: a section of another form would change bytes unseen.
pub record IsSection (bytes : List ℕ) (s : Section) : Type 0 where
  pub named : s.name < length (section_names bytes)
  pub strings : s.kind ≡ kinds.StringTable → IsStringTable (contents bytes s)
  pub symbols : s.kind ≡ kinds.SymbolTable → IsSymbolTable bytes s
  pub relocations : s.kind ≡ kinds.Relocations → IsRelocationTable bytes s
  pub others : s.kind ≢ kinds.OtherRelocations

pub record IsObjectFile (bytes : List ℕ) : Type 0 where
  pub outline : HasSections bytes
  pub names : (section_at bytes (names_section bytes)).kind ≡ kinds.StringTable
  pub sections : (i : ℕ) → i < section_count bytes → IsSection bytes (section_at bytes i)
