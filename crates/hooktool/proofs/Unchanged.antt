-- Functions that no linker would change.
use Rattle.std.proofs.Common.{◌≡◌, ◌∙◌, ◌++◌, ◌∷◌, [], Bool, List, arith, false, refl, subst, sym}
use Rattle.std.proofs.Common.{true}
use Rattle.std.proofs.lemmas.Bool.{eqb-true}
use Rattle.std.proofs.lemmas.List.{nil_from_length}
use Rattle.std.proofs.lemmas.List.Elements.{All-push}
use Rattle.std.specs.Global.{Vec}
use Rattle.std.specs.List.{All}
use Rattle.std.specs.Prelude.{◌==◌, vec_len}
use Rattle.elf.specs.declared.lists.LinkedRelocation.{LinkedRelocation}
use Rattle.elf.specs.declared.lists.LinkedSymbol.{LinkedSymbol}
use Rattle.hooktool.specs.Linked.{is_changed}

-- by the relocations that were read
pub by_all : (read all : List LinkedRelocation) (functions : List LinkedSymbol) → read ≡ all
    → All (λ (function : LinkedSymbol). is_changed read function ≡ false) functions
    → All (λ (function : LinkedSymbol). is_changed all function ≡ false) functions
by_all read all functions is unchanged =
    subst (λ (these : List LinkedRelocation).
    All (λ (function : LinkedSymbol). is_changed these function ≡ false) functions) is unchanged

-- if there are none
pub by_none : (all : List LinkedRelocation) (functions : List LinkedSymbol) → all ≡ []
    → All (λ (function : LinkedSymbol). is_changed all function ≡ false) functions
by_none all functions none =
    subst (λ (these : List LinkedRelocation).
    All (λ (function : LinkedSymbol). is_changed these function ≡ false) functions) (sym none)
    (λ k d less. refl)

-- there are none if none was read
pub none_read : (read : Vec LinkedRelocation) (all : List LinkedRelocation) (is_none : Bool)
    → read.items ≡ all → is_none ≡ (vec_len read == 0) → is_none ≡ true → all ≡ []
none_read read all is_none are empty is =
    let none : vec_len read ≡ 0 = eqb-true (vec_len read) 0 (sym empty ∙ is) in
    sym are ∙ nil_from_length read.items (omega (arith, none, read.ok.0))

-- one more
pub one_more : (relocations : List LinkedRelocation) (old new : List LinkedSymbol)
    (function : LinkedSymbol) → new ≡ old ++ function ∷ []
    → is_changed relocations function ≡ false
    → All (λ (other : LinkedSymbol). is_changed relocations other ≡ false) old
    → All (λ (other : LinkedSymbol). is_changed relocations other ≡ false) new
one_more relocations old new function added is are =
    subst (λ (functions : List LinkedSymbol).
    All (λ (other : LinkedSymbol). is_changed relocations other ≡ false) functions) (sym added)
    (All-push (λ (other : LinkedSymbol). is_changed relocations other ≡ false) old function are is)

-- the same ones
pub same : (relocations : List LinkedRelocation) (old new : List LinkedSymbol) → new ≡ old
    → All (λ (other : LinkedSymbol). is_changed relocations other ≡ false) old
    → All (λ (other : LinkedSymbol). is_changed relocations other ≡ false) new
same relocations old new are unchanged =
    subst (λ (functions : List LinkedSymbol).
    All (λ (other : LinkedSymbol). is_changed relocations other ≡ false) functions) (sym are)
    unchanged
