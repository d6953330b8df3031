-- Parts of an encoding.
use Rattle.std.proofs.Common.{◌≡◌, ℕ, ◌+◌, ◌<◌, ◌≤◌, List, [], ◌∷◌, ◌++◌, length, get_or, take}
use Rattle.std.proofs.Common.{drop, sym, ap, ◌∙◌, append_assoc, arith}
use Rattle.std.specs.List.{flat_map}
use Rattle.std.proofs.lemmas.List.{flat_map_more, length-drop, take_more}

pub two_parts : (out a b : List ℕ) → (out ++ a) ++ b ≡ out ++ (a ++ b)
two_parts out a b = append_assoc out a b

-- the bytes after the header have room for what a packet has after it
pub room_behind : (bytes rest : List ℕ) (least : ℕ) → least ≤ length bytes → rest ≡ drop 24 bytes
    → least ≤ 24 + length rest
room_behind bytes rest least room is = omega (arith, ap length is, length-drop 24 bytes)

-- one more part, appended to those that were written
pub part_more : {X : Type 0} (text : X → List ℕ) (xs : List X) (i : ℕ) (x : X)
    (base so_far after : List ℕ) → i < length xs → x ≡ get_or xs i x
    → so_far ≡ base ++ flat_map text (take i xs) → after ≡ so_far ++ text x
    → after ≡ base ++ flat_map text (take (i + 1) xs)
part_more text xs i x base so_far after lt is before now =
    let longer : take (i + 1) xs ≡ take i xs ++ x ∷ [] =
    take_more xs i x lt ∙ ap (λ y. take i xs ++ y ∷ []) (sym is) in
    now ∙ ap (λ b. b ++ text x) before ∙ flat_map_more text base (take i xs) x
    ∙ ap (λ ys. base ++ flat_map text ys) (sym longer)
