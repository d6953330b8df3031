-- Items that are copied in turn.
use Rattle.std.proofs.Common.{◌≡◌, ℕ, ◌+◌, ◌<◌, List, [], ◌∷◌, ◌++◌, length, get_or, map, take}
use Rattle.std.proofs.Common.{refl, sym, ap, ◌∙◌, arith}
use Rattle.std.proofs.lemmas.List.{get_or-map, length-map, take_more}

map_behind : {N L : Type 0} (g : N → L) (xs : List N) (y : N)
    → map g (xs ++ y ∷ []) ≡ map g xs ++ g y ∷ []
map_behind g [] y = refl
map_behind g (x ∷ xs) y = ap (λ ls. g x ∷ ls) (map_behind g xs y)

-- each item before this index is copied, and g of the copy is f of the item
pub copied_next : {N L : Type 0} (f g : N → L) (xs made longer : List N) (i : ℕ) (x y : N)
    → i < length xs → x ≡ get_or xs i x → longer ≡ made ++ y ∷ [] → g y ≡ f x
    → map g made ≡ take i (map f xs) → map g longer ≡ take (i + 1) (map f xs)
copied_next f g xs made longer i x y lt read put shows so_far =
    ap (map g) put
    ∙ map_behind g made y
    ∙ (λ k. so_far k ++ (shows ∙ ap f read ∙ sym (get_or-map f xs i x (f x) lt)) k ∷ [])
    ∙ sym (take_more (map f xs) i (f x) (omega (arith, lt, length-map xs f)))
