-- Numbers and strings of an ELF file, by their names in the System V ABI (gABI, chapter 4). The
-- least significant byte comes first (ELFDATA2LSB).
use Rattle.std.specs.Prelude.{ℕ, ◌+◌, ◌*◌, ◌==◌, List, drop, slice_index}
use Rattle.std.specs.List.{before_first}

-- Elf64_Half: two bytes
unfoldable pub half : List ℕ → ℕ → ℕ
half bytes at = slice_index bytes at + 256 * slice_index bytes (at + 1)

-- Elf64_Word: four bytes
unfoldable pub word : List ℕ → ℕ → ℕ
word bytes at = half bytes at + 65536 * half bytes (at + 2)

-- Elf64_Xword, Elf64_Addr, Elf64_Off: eight bytes
unfoldable pub xword : List ℕ → ℕ → ℕ
xword bytes at = word bytes at + 4294967296 * word bytes (at + 4)

-- the string at a place of a string table: the bytes in front of the next null byte
unfoldable pub string_at : List ℕ → ℕ → List ℕ
string_at table at = before_first (λ byte. byte == 0) (drop at table)
