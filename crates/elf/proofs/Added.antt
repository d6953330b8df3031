-- Relocations and functions that are added, one after the other.
use Rattle.std.proofs.Common.{◌≡◌, ◌∙◌, ◌+◌, ◌++◌, ◌∷◌, [], ℕ, Bool, List, add-one, ap}
use Rattle.std.proofs.Common.{append_assoc}
use Rattle.std.proofs.Common.{false, sym, true}
use Rattle.std.proofs.lemmas.List.{append-nil}
use Rattle.std.specs.Prelude.{if◌then◌else◌}
use Rattle.elf.specs.Entries.{relocation_at, symbol_at}
use Rattle.elf.specs.Lists.{functions_among, is_function_of, relocations_among}
use Rattle.elf.specs.declared.lists.LinkedRelocation.{LinkedRelocation}
use Rattle.elf.specs.declared.lists.LinkedSymbol.{LinkedSymbol}
use Rattle.elf.specs.declared.relocation.Relocation.{Relocation}
use Rattle.elf.specs.declared.symbol.Symbol.{Symbol}

pub among_more : (table : List ℕ) (symbols k : ℕ) (first old new : List LinkedRelocation)
    (relocation : Relocation) → old ≡ first ++ relocations_among table symbols k
    → relocation ≡ relocation_at table k
    → new ≡ old ++ record { table = symbols; relocation = relocation } ∷ []
    → new ≡ first ++ relocations_among table symbols (k + 1)
among_more table symbols k first old new relocation before is added =
    let one : List LinkedRelocation = record {
      table = symbols;
      relocation = relocation_at table k;
    } ∷ [] in
    added
    ∙ ap (λ (r : Relocation). old ++ record { table = symbols; relocation = r } ∷ []) is
    ∙ ap (λ (xs : List LinkedRelocation). xs ++ one) before
    ∙ append_assoc first (relocations_among table symbols k) one
    ∙ ap (λ (n : ℕ). first ++ relocations_among table symbols n) (sym (add-one k))

-- symbol k of a table, which is section i
abbrev linked : List ℕ → (i k : ℕ) → LinkedSymbol
linked table i k = record { table = i; index = k; symbol = symbol_at table k }

-- the functions among the first k symbols, and what is added of the next one
abbrev among_with : (table : List ℕ) (i section k : ℕ) (first : List LinkedSymbol) → Bool
    → List LinkedSymbol
among_with table i section k first is_one = first ++ (functions_among table i section k
    ++ (if is_one then linked table i k ∷ [] else []))

-- that is added exactly if it is a function of the section
among_next : (table : List ℕ) (i section k : ℕ) (first : List LinkedSymbol) (symbol : Symbol)
    (is_one : Bool) → symbol ≡ symbol_at table k → is_one ≡ is_function_of symbol section
    → among_with table i section k first is_one
    ≡ first ++ functions_among table i section (k + 1)
among_next table i section k first symbol is_one is is_so =
    ap (among_with table i section k first)
    (is_so ∙ ap (λ (s : Symbol). is_function_of s section) is)
    ∙ ap (λ (n : ℕ). first ++ functions_among table i section n) (sym (add-one k))

pub function_more : (table : List ℕ) (i section k : ℕ) (first old new : List LinkedSymbol)
    (symbol : Symbol) → old ≡ first ++ functions_among table i section k
    → symbol ≡ symbol_at table k → true ≡ is_function_of symbol section
    → new ≡ old ++ record { table = i; index = k; symbol = symbol } ∷ []
    → new ≡ first ++ functions_among table i section (k + 1)
function_more table i section k first old new symbol before is is_so added =
    added
    ∙ ap (λ (s : Symbol). old ++ record { table = i; index = k; symbol = s } ∷ []) is
    ∙ ap (λ (xs : List LinkedSymbol). xs ++ linked table i k ∷ []) before
    ∙ append_assoc first (functions_among table i section k) (linked table i k ∷ [])
    ∙ among_next table i section k first symbol true is is_so

pub function_less : (table : List ℕ) (i section k : ℕ) (first old : List LinkedSymbol)
    (symbol : Symbol) → old ≡ first ++ functions_among table i section k
    → symbol ≡ symbol_at table k → false ≡ is_function_of symbol section
    → old ≡ first ++ functions_among table i section (k + 1)
function_less table i section k first old symbol before is is_so =
    before
    ∙ ap (λ (xs : List LinkedSymbol). first ++ xs)
    (sym (append-nil (functions_among table i section k)))
    ∙ among_next table i section k first symbol false is is_so
