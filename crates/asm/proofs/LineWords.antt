-- Words that are added one after the other.
use Rattle.std.proofs.Common.{◌≡◌, ℕ, ◌+◌, ◌<◌, zero, suc, List, [], ◌∷◌, ◌++◌, length, take}
use Rattle.std.proofs.Common.{get_or}
use Rattle.std.proofs.Common.{refl, sym, ap, ◌∙◌, subst, arith}
use Rattle.std.proofs.lemmas.List.{take_more, append-nil}
use Rattle.asm.specs.declared.line_text.LineWord.{LineWord}
use Rattle.asm.specs.Forms.{Part}
use Rattle.asm.specs.LineWords.{part, parts, IsWhole, AreWhole}
use Rattle.asm.specs.Written.{Adds}
use Rattle.asm.proofs.Spaced.{more}

pub whole_at : (ws : List LineWord) (i : ℕ) (d : LineWord) → i < length ws → AreWhole ws
    → IsWhole (get_or ws i d)
whole_at [] i d lt all = absurd (omega arith)
whole_at (w ∷ ws) zero d lt all = all.0
whole_at (w ∷ ws) (suc i) d lt all = whole_at ws i d (omega arith) all.1

parts_more : (vs : List LineWord) (w : LineWord) → parts (vs ++ w ∷ []) ≡ parts vs ++ part w ∷ []
parts_more [] w = refl
parts_more (v ∷ vs) w = ap (λ rest. part v ∷ rest) (parts_more vs w)

pub nothing_added : (old : List ℕ) → Adds old old []
nothing_added old = record { bytes = sym (append-nil old); written = tt }

pub one_more : {a b c : List ℕ} (ws : List LineWord) (i : ℕ) (d : LineWord) → i < length ws
    → Adds a b (parts (take i ws)) → Adds b c (part (get_or ws i d) ∷ [])
    → Adds a c (parts (take (i + 1) ws))
one_more {a} {b} {c} ws i d lt before here =
    subst (λ (ps : List Part). Adds a c ps)
    (sym (ap parts (take_more ws i d lt) ∙ parts_more (take i ws) (get_or ws i d)))
    (more before here)
