-- Bytes put together again from the numbers that were read from them.
use Rattle.std.proofs.Common.{◌≡◌, ℕ, ◌+◌, ◌≤◌, ◌<◌, List, ◌∷◌, ◌++◌, length, take, drop, get_or}
use Rattle.std.proofs.Common.{refl, sym, ap, ◌∙◌, arith, length-drop}
use Rattle.std.specs.Int.{w16, w32, w64, to_le_bytes}
use Rattle.std.proofs.lemmas.List.{take_all, take-append-drop, drop-drop, drop_more}
use Rattle.object.specs.declared.fields.RegisterFields.{RegisterFields}
use Rattle.object.specs.declared.fields.RankFields.{RankFields}
use Rattle.object.specs.Spelling.{register_bytes, rank_bytes}

-- what stands from a place on, cut at another
cut : (n m k : ℕ) (bytes front rest : List ℕ) → front ≡ take n (drop m bytes) → rest ≡ drop k bytes
    → k ≡ m + n → front ++ rest ≡ drop m bytes
cut n m k bytes front rest f r e =
    ap (λ t. t ++ rest) f
    ∙ ap (λ t. take n (drop m bytes) ++ t)
    (r ∙ ap (λ j. drop j bytes) e ∙ sym (drop-drop n m bytes))
    ∙ take-append-drop n (drop m bytes)

-- the last part
last : (n m : ℕ) (bytes front : List ℕ) → front ≡ take n (drop m bytes) → length bytes ≤ m + n
    → front ≡ drop m bytes
last n m bytes front f le = f ∙ take_all n (drop m bytes) (omega (arith, length-drop m bytes))

-- one more byte in front
one : (m k : ℕ) (bytes rest : List ℕ) → rest ≡ drop k bytes → k ≡ m + 1 → m < length bytes
    → get_or bytes m 0 ∷ rest ≡ drop m bytes
one m k bytes rest r e lt = ap (λ t. get_or bytes m 0 ∷ t) (r ∙ ap (λ j. drop j bytes) e)
    ∙ sym (drop_more bytes m 0 lt)

pub rank_cut : (bytes : List ℕ) (f : RankFields) → length bytes ≡ 20
    → to_le_bytes w32 f.slot ≡ take 4 (drop 0 bytes)
    → to_le_bytes w32 f.constant ≡ take 4 (drop 4 bytes) → f.first_register ≡ get_or bytes 8 0
    → f.second_register ≡ get_or bytes 9 0
    → to_le_bytes w16 f.unused ≡ take 2 (drop 10 bytes)
    → to_le_bytes w32 f.first_coefficient ≡ take 4 (drop 12 bytes)
    → to_le_bytes w32 f.second_coefficient ≡ take 4 (drop 16 bytes)
    → rank_bytes f ≡ bytes
rank_cut bytes f long slot constant a b unused first second =
    let from_16 = last 4 16 bytes _ second (omega arith) in
    let from_12 = cut 4 12 16 bytes _ _ first from_16 refl in
    let from_10 = cut 2 10 12 bytes _ _ unused from_12 refl in
    let from_9 = one 9 10 bytes _ from_10 refl (omega arith) in
    let from_8 = one 8 9 bytes _ from_9 refl (omega arith) in
    let from_4 = cut 4 4 8 bytes _ _ constant from_8 refl in
    rw (a, b) (cut 4 0 4 bytes _ _ slot from_4 refl)

pub register_cut : (bytes : List ℕ) (f : RegisterFields) → length bytes ≡ 40
    → f.kind ≡ get_or bytes 0 0 → f.map ≡ get_or bytes 1 0
    → to_le_bytes w16 f.unused ≡ take 2 (drop 2 bytes)
    → to_le_bytes w32 f.offset ≡ take 4 (drop 4 bytes)
    → to_le_bytes w64 f.low ≡ take 8 (drop 8 bytes)
    → to_le_bytes w64 f.high ≡ take 8 (drop 16 bytes)
    → to_le_bytes w64 f.mask ≡ take 8 (drop 24 bytes)
    → to_le_bytes w64 f.value ≡ take 8 (drop 32 bytes)
    → register_bytes f ≡ bytes
register_cut bytes f long a b unused offset low high mask value =
    let from_32 = last 8 32 bytes _ value (omega arith) in
    let from_24 = cut 8 24 32 bytes _ _ mask from_32 refl in
    let from_16 = cut 8 16 24 bytes _ _ high from_24 refl in
    let from_8 = cut 8 8 16 bytes _ _ low from_16 refl in
    let from_4 = cut 4 4 8 bytes _ _ offset from_8 refl in
    let from_2 = cut 2 2 4 bytes _ _ unused from_4 refl in
    let from_1 = one 1 2 bytes _ from_2 refl (omega arith) in
    rw (a, b) (one 0 1 bytes _ from_1 refl (omega arith))
