-- The words of a slice that was taken apart.
use Rattle.std.proofs.Common.{◌≡◌, ◌<◌, ℕ, zero, suc, List, [], ◌∷◌, length, get_or, Option, None}
use Rattle.std.proofs.Common.{Some, sym, ap, ◌∙◌, subst, arith, refl}
use Rattle.std.specs.Prelude.{MatchOption}
use denote.Ref.{Bor}
use Rattle.console.specs.Words.{Word}
use Rattle.console.specs.Views.{views}

-- what is after a slice's end
abbrev pub none : Bor Word
none = record { ref_ptr = (0, 0); now = [] }

-- the given number of words of a slice, from this index on
abbrev pub words_at : List (Bor Word) → Bor Word → ℕ → ℕ → List Word
words_at ws d i zero = []
words_at ws d i (suc k) = (get_or ws i d).now ∷ words_at ws d (suc i) k

words_behind : (w d : Bor Word) (ws : List (Bor Word)) (i k : ℕ)
    → words_at (w ∷ ws) d (suc i) k ≡ words_at ws d i k
words_behind w d ws i zero = refl
words_behind w d ws i (suc k) = ap (λ rest. (get_or ws i d).now ∷ rest)
    (words_behind w d ws (suc i) k)

-- a slice with the given number of words is seen as these
pub seen : (ws : List (Bor Word)) (d : Bor Word) (k : ℕ) → length ws ≡ k
    → views ws ≡ words_at ws d 0 k
seen [] d zero e = refl
seen [] d (suc k) e = absurd (omega arith)
seen (w ∷ ws) d zero e = absurd (omega arith)
seen (w ∷ ws) d (suc k) e =
    let same : length ws ≡ k = omega arith in
    ap (λ rest. w.now ∷ rest) (seen ws d k same ∙ sym (words_behind w d ws 0 k))

pub as_seen : {A : Type 0} (r : Option A) (Asks : List Word → A → Type 0) (words parts : List Word)
    → words ≡ parts → MatchOption r ((x : A) → Asks parts x → ⊥) (Asks parts)
    → MatchOption r ((x : A) → Asks words x → ⊥) (Asks words)
as_seen {A} r Asks words parts e h =
    subst (λ (ws : List Word). MatchOption r ((x : A) → Asks ws x → ⊥) (Asks ws)) (sym e) h

pub view_at : (ws : List (Bor Word)) (d : Bor Word) (k : ℕ) → k < length ws
    → (get_or ws k d).now ≡ get_or (views ws) k []
view_at [] d k lt = absurd (omega arith)
view_at (w ∷ ws) d zero lt = refl
view_at (w ∷ ws) d (suc k) lt = view_at ws d k (omega arith)

-- the word at an index, if all of them are known
pub word_at : (ws : List (Bor Word)) (d : Bor Word) (k : ℕ) (words : List Word) → k < length ws
    → views ws ≡ words → (get_or ws k d).now ≡ get_or words k []
word_at ws d k words lt e = view_at ws d k lt ∙ ap (λ (ls : List Word). get_or ls k []) e

pub both : {A : Type 0} {x y : A} {xs ys : List A} → x ≡ y → xs ≡ ys → x ∷ xs ≡ y ∷ ys
both {A} {x} {y} {xs} {ys} e f = ap (λ (z : A). z ∷ xs) e ∙ ap (λ (zs : List A). y ∷ zs) f

-- nothing is returned if nothing may be
pub told_nothing : {X : Type 0} (r : Option X) (N : Type 0) (S : X → Type 0) → r ≡ None → N
    → MatchOption r N S
told_nothing None N S is n = n
told_nothing (Some x) N S is n = absurd cc
