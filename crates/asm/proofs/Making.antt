-- Statements and objects that can't be made.
use Rattle.std.proofs.Common.{◌+◌, ◌≡◌, ℕ, zero, suc, ◌<◌, List, [], ◌∷◌, ◌++◌, length, get_or, map}
use Rattle.std.proofs.Common.{Option, Some, None, sym, subst, arith}
use Rattle.std.specs.Prelude.{option_map}
use Rattle.std.proofs.lemmas.List.{append-nil}
use Rattle.isa.specs.declared.hook.Hook.{Hook}
use Rattle.object.specs.Statements.{StatementParts, IsRankOver}
use Rattle.object.specs.Objects.{ObjectParts, IsObject, AreStatements}
use Rattle.asm.specs.declared.statements.OpenStatement.{OpenStatement}
use Rattle.asm.specs.Assembling.{all_of}
use Rattle.asm.specs.Views.{parts_of}

-- one of those before has a rank that it can't have
unlawful_before : (os : List OpenStatement) (rest : List StatementParts) (n : ℕ)
    (d o : OpenStatement) → n < length os → o ≡ get_or os n d → (IsRankOver o.kinds o.rank → ⊥)
    → (least slots : ℕ) → AreStatements least slots (map parts_of os ++ rest) → ⊥
unlawful_before [] rest n d o h e never least slots are = absurd (omega arith)
unlawful_before (p ∷ os) rest zero d o h e never least slots are =
    never (subst (λ (x : OpenStatement). IsRankOver x.kinds x.rank) (sym e) are.0.rank)
unlawful_before (p ∷ os) rest (suc n) d o h e never least slots are =
    unlawful_before os rest n d o (omega arith) e never (p.slot + 1) slots are.3

pub unlawful_all : (os : List OpenStatement) (last : Option OpenStatement) (n : ℕ)
    (d o : OpenStatement) → n < length os → o ≡ get_or os n d → (IsRankOver o.kinds o.rank → ⊥)
    → (least slots : ℕ) → AreStatements least slots
    (all_of (map parts_of os) (option_map parts_of last)) → ⊥
unlawful_all os None n d o h e never least slots are =
    unlawful_before os [] n d o h e never least slots
    (subst (λ (ss : List StatementParts). AreStatements least slots ss)
    (sym (append-nil (map parts_of os))) are)
unlawful_all os (Some l) n d o h e never least slots are =
    unlawful_before os (parts_of l ∷ []) n d o h e never least slots are

unlawful_end : (os : List OpenStatement) (l : OpenStatement) → (IsRankOver l.kinds l.rank → ⊥)
    → (least slots : ℕ) → AreStatements least slots (map parts_of os ++ parts_of l ∷ []) → ⊥
unlawful_end [] l never least slots are = never are.0.rank
unlawful_end (p ∷ os) l never least slots are = unlawful_end os l never (p.slot + 1) slots are.3

pub unlawful_last : (os : List OpenStatement) (last : Option OpenStatement) (l : OpenStatement)
    → last ≡ Some l → (IsRankOver l.kinds l.rank → ⊥) → (least slots : ℕ)
    → AreStatements least slots (all_of (map parts_of os) (option_map parts_of last)) → ⊥
unlawful_last os last l e never least slots are =
    unlawful_end os l never least slots
    (subst (λ (x : Option OpenStatement). AreStatements least slots
    (all_of (map parts_of os) (option_map parts_of x))) e are)

pub same_object : (o : ObjectParts) (hook : Hook) (rank : ℕ) (code : List ℕ)
    (statements : List StatementParts) → o.hook ≡ hook → o.entry_rank ≡ rank → o.code ≡ code
    → o.statements ≡ statements
    → IsObject o → IsObject (record {
      hook = hook;
      entry_rank = rank;
      code = code;
      statements = statements;
    })
same_object o hook rank code statements eh er ec es l =
    subst (λ (h : Hook). IsObject (record {
      hook = h;
      entry_rank = rank;
      code = code;
      statements = statements;
    })) eh
    (subst (λ (r : ℕ). IsObject (record {
      hook = o.hook;
      entry_rank = r;
      code = code;
      statements = statements;
    })) er
    (subst (λ (c : List ℕ). IsObject (record {
      hook = o.hook;
      entry_rank = o.entry_rank;
      code = c;
      statements = statements;
    })) ec
    (subst (λ (s : List StatementParts). IsObject (record {
      hook = o.hook;
      entry_rank = o.entry_rank;
      code = o.code;
      statements = s;
    })) es l)))
