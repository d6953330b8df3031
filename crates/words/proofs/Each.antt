-- What holds of each item that a loop has seen.
use Rattle.std.proofs.Common.{◌≡◌, ℕ, ◌+◌, ◌<◌, List, [], ◌∷◌, ◌++◌, length, get_or, take, sym}
use Rattle.std.proofs.Common.{subst}
use Rattle.std.specs.List.{AllByRecursion}
use Rattle.std.proofs.lemmas.List.{take_more}

one_behind : {X : Type 0} (P : X → Type 0) (xs : List X) (x : X) → AllByRecursion P xs → P x
    → AllByRecursion P (xs ++ x ∷ [])
one_behind P [] x all p = (p, tt)
one_behind P (y ∷ ys) x all p = (all.0, one_behind P ys x all.1 p)

-- one more item
pub each_one_more : {X : Type 0} (P : X → Type 0) (xs : List X) (i : ℕ) (x : X) → i < length xs
    → x ≡ get_or xs i x → P x → AllByRecursion P (take i xs) → AllByRecursion P (take (i + 1) xs)
each_one_more P xs i x lt is p all =
    subst (AllByRecursion P) (sym (take_more xs i x lt))
    (one_behind P (take i xs) (get_or xs i x) all (subst P is p))

-- the same for an item that is read with a default for an index past the end
pub each_next : {X : Type 0} (P : X → Type 0) (xs : List X) (i : ℕ) (d : X) → i < length xs
    → P (get_or xs i d) → AllByRecursion P (take i xs) → AllByRecursion P (take (i + 1) xs)
each_next P xs i d lt p all = subst (AllByRecursion P) (sym (take_more xs i d lt))
    (one_behind P (take i xs) (get_or xs i d) all p)

-- what follows of each item from two facts about it
pub each_both : {X : Type 0} (P Q R : X → Type 0) → ((x : X) → P x → Q x → R x) → (xs : List X)
    → AllByRecursion P xs → AllByRecursion Q xs → AllByRecursion R xs
each_both P Q R both [] p q = tt
each_both P Q R both (x ∷ xs) p q = (both x p.0 q.0, each_both P Q R both xs p.1 q.1)
