-- Sections, by what their kinds say.
use Rattle.std.proofs.Common.{◌≡◌, ◌∙◌, ℕ, List, Ok, Err, length, sym}
use Rattle.std.specs.Prelude.{◌<◌, MatchResult, Result}
use Rattle.elf.specs.Faults.{Breaks}
use Rattle.elf.specs.Files.{IsRelocationTable, IsSection, IsSymbolTable, section_names}
use Rattle.elf.specs.declared.fault.ElfFault.{ElfFault}
use Rattle.elf.specs.declared.section.Section.{Section}
use Rattle.elf.specs.declared.section.SectionKind.TheVariants as kinds

strings≢symbols : kinds.StringTable ≡ kinds.SymbolTable → ⊥
strings≢symbols e = cc

strings≢relocations : kinds.StringTable ≡ kinds.Relocations → ⊥
strings≢relocations e = cc

symbols≢relocations : kinds.SymbolTable ≡ kinds.Relocations → ⊥
symbols≢relocations e = cc

others≢symbols : kinds.OtherRelocations ≡ kinds.SymbolTable → ⊥
others≢symbols e = cc

others≢relocations : kinds.OtherRelocations ≡ kinds.Relocations → ⊥
others≢relocations e = cc

-- a symbol table whose symbols were checked
pub of_symbols : {T : Type 0} (bytes : List ℕ) (s : Section) (r : Result T ElfFault)
    → s.name < length (section_names bytes) → s.kind ≡ kinds.SymbolTable
    → MatchResult r (λ _. IsSymbolTable bytes s) (λ fault. Breaks bytes fault)
    → MatchResult r (λ _. IsSection bytes s) (λ fault. Breaks bytes fault)
of_symbols {T} bytes s (Ok value) named is checked = record {
  named = named;
  strings = λ other. absurd (strings≢symbols (sym other ∙ is));
  symbols = λ _. checked;
  relocations = λ other. absurd (symbols≢relocations (sym is ∙ other));
  others = λ other. others≢symbols (sym other ∙ is);
}
of_symbols {T} bytes s (Err fault) named is checked = checked

-- a section of relocations that were checked
pub of_relocations : {T : Type 0} (bytes : List ℕ) (s : Section) (r : Result T ElfFault)
    → s.name < length (section_names bytes) → s.kind ≡ kinds.Relocations
    → MatchResult r (λ _. IsRelocationTable bytes s) (λ fault. Breaks bytes fault)
    → MatchResult r (λ _. IsSection bytes s) (λ fault. Breaks bytes fault)
of_relocations {T} bytes s (Ok value) named is checked = record {
  named = named;
  strings = λ other. absurd (strings≢relocations (sym other ∙ is));
  symbols = λ other. absurd (symbols≢relocations (sym other ∙ is));
  relocations = λ _. checked;
  others = λ other. others≢relocations (sym other ∙ is);
}
of_relocations {T} bytes s (Err fault) named is checked = checked
