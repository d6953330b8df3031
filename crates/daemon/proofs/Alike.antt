-- Two lists whose numbers are alike, and their last elements.
use Rattle.std.proofs.Common.{◌≡◌, ℕ, ◌+◌, List, [], ◌∷◌, ◌++◌, drop, map, length, slice_index_or}
use Rattle.std.proofs.Common.{refl, sym, subst, ap, ◌∙◌, arith}
use Rattle.std.proofs.lemmas.List.{map-append, length-append, length-map}
use Rattle.worker.specs.Descending.{CountDownTo}
use Rattle.worker.proofs.Counted.{counted_off, counted_same}

-- the last ones and those before them
alike : (ns ms : List ℕ) (n m : ℕ) → ns ++ n ∷ [] ≡ ms ++ m ∷ [] → (n ≡ m) × (ns ≡ ms)
alike [] [] n m e = (ap (λ l. slice_index_or l 0 0) e, refl)
alike [] (m' ∷ ms) n m e = absurd (omega (arith, ap length e, length-append ms (m ∷ [])))
alike (n' ∷ ns) [] n m e = absurd (omega (arith, ap length e, length-append ns (n ∷ [])))
alike (n' ∷ ns) (m' ∷ ms) n m e =
    let rest = alike ns ms n m (ap (λ l. drop 1 l) e) in
    let first : n' ≡ m' = ap (λ l. slice_index_or l 0 0) e in
    (rest.0, ap (λ i. i ∷ ns) first ∙ ap (λ is. m' ∷ is) rest.1)

both : {A B : Type 0} (f : A → ℕ) (g : B → ℕ) (ps xs : List A) (qs ys : List B) (x : A) (y : B)
    → ps ≡ xs ++ x ∷ [] → qs ≡ ys ++ y ∷ [] → map f ps ≡ map g qs
    → (f x ≡ g y) × (map f xs ≡ map g ys)
both f g ps xs qs ys x y is_ps is_qs e =
    let same : map f (xs ++ x ∷ []) ≡ map g (ys ++ y ∷ []) =
    sym (ap (λ l. map f l) is_ps) ∙ e ∙ ap (λ l. map g l) is_qs in
    alike (map f xs) (map g ys) (f x) (g y)
    (sym (map-append f xs (x ∷ [])) ∙ same ∙ map-append g ys (y ∷ []))

pub last_alike : {A B : Type 0} (f : A → ℕ) (g : B → ℕ) (ps xs : List A) (qs ys : List B) (x : A)
    (y : B) → ps ≡ xs ++ x ∷ [] → qs ≡ ys ++ y ∷ [] → map f ps ≡ map g qs → f x ≡ g y
last_alike f g ps xs qs ys x y is_ps is_qs e = (both f g ps xs qs ys x y is_ps is_qs e).0

pub rest_alike : {A B : Type 0} (f : A → ℕ) (g : B → ℕ) (ps xs : List A) (qs ys : List B) (x : A)
    (y : B) → ps ≡ xs ++ x ∷ [] → qs ≡ ys ++ y ∷ [] → map f ps ≡ map g qs → map f xs ≡ map g ys
rest_alike f g ps xs qs ys x y is_ps is_qs e = (both f g ps xs qs ys x y is_ps is_qs e).1

-- ports that count down to 0, without the last one, have the numbers of transports that count down
-- to 1
pub paired : {A B : Type 0} (f : A → ℕ) (g : B → ℕ) (every ports : List A) (first : A)
    (transports : List B) → every ≡ ports ++ first ∷ [] → CountDownTo 0 (map f every)
    → CountDownTo 1 (map g transports) → length every ≡ length transports + 1
    → map f ports ≡ map g transports
paired f g every ports first transports is h k e =
    let numbers : CountDownTo 0 (map f (ports ++ first ∷ [])) =
    subst (λ l. CountDownTo 0 (map f l)) is h in
    let many : length every ≡ length ports + 1 = ap length is ∙ length-append ports (first ∷ []) in
    let as_many : length ports ≡ length transports = omega (arith, many, e) in
    counted_same 1 (map f ports) (map g transports)
    (length-map ports f ∙ as_many ∙ sym (length-map transports g))
    (counted_off f 0 ports first numbers).1 k
