-- The seats of a new table are `count`, and of that table.
use Rattle.std.proofs.Common.{◌≡◌, ℕ, zero, suc, ◌<◌, List, [], ◌∷◌, length, map, slice_index_or}
use Rattle.std.proofs.Common.{refl, ap, sym, subst, ◌∙◌, arith}
use Rattle.std.specs.List.{All, range_with_len}
use Rattle.std.proofs.lemmas.List.FromFn.{length-map-range_with_len}
use Rattle.atomic_table.specs.Seated.{TableId}
use Rattle.maps.specs.Words.{IsSeatOf, SeatView, SharedWords, fresh}

fresh_seated : (table : TableId) (numbers : List ℕ) (k : ℕ) (d : SeatView)
    → k < length (map (fresh table) numbers)
    → (slice_index_or (map (fresh table) numbers) k d).table ≡ table
fresh_seated table [] k d lt = absurd (omega arith)
fresh_seated table (n ∷ numbers) zero d lt = refl
fresh_seated table (n ∷ numbers) (suc k) d lt = fresh_seated table numbers k d (omega arith)

pub are_seated : (words : SharedWords) (count : ℕ) (seats : List SeatView)
    → seats ≡ map (fresh words.table) (range_with_len 0 count) → All (IsSeatOf words) seats
are_seated words count seats e =
    let P : List SeatView → Type 0 = λ l. All (IsSeatOf words) l in
    subst P (sym e) (fresh_seated words.table (range_with_len 0 count))

pub are_so_many : (words : SharedWords) (count : ℕ) (seats : List SeatView)
    → seats ≡ map (fresh words.table) (range_with_len 0 count) → length seats ≡ count
are_so_many words count seats e = ap length e
    ∙ length-map-range_with_len (fresh words.table) 0 count
