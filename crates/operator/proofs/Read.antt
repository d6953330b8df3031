-- Counters that were read one after the other, and one more.
use Rattle.std.proofs.Common.{◌≡◌, ℕ, suc, ◌+◌, ◌<◌, ◌≤◌, List, [], ◌∷◌, ◌++◌, length, refl, sym}
use Rattle.std.proofs.Common.{ap, ◌∙◌, arith, length-append}
use Rattle.std.specs.Prelude.{OnErr, Result, Ok, Err}
use Rattle.maps.specs.Words.{SeatView, seat_after}
use Rattle.maps.specs.declared.access.Access.TheVariants.{Read}
use Rattle.operator.specs.Shown.{HasReadSome, after_reads}

one_more : (seat : SeatView) (first : ℕ) (sums : List ℕ) (sum : ℕ)
    → after_reads seat first (sums ++ sum ∷ [])
    ≡ seat_after (after_reads seat first sums) (Read (first + length sums) sum)
one_more seat first [] sum =
    let here : first ≡ first + 0 = omega arith in
    ap (λ n. seat_after seat (Read n sum)) here
one_more seat first (s ∷ sums) sum =
    let here : suc first + length sums ≡ first + length (s ∷ sums) = omega arith in
    let rest = after_reads (seat_after seat (Read first s)) (suc first) sums in
    one_more (seat_after seat (Read first s)) (suc first) sums sum
    ∙ ap (λ n. seat_after rest (Read n sum)) here

pub read_more : (before now after : SeatView) (sums items : List ℕ) (index sum : ℕ)
    → now ≡ after_reads before 0 sums → index ≡ length sums → items ≡ sums ++ sum ∷ []
    → after ≡ seat_after now (Read index sum) → after ≡ after_reads before 0 items
read_more before now after sums items index sum same many grown last =
    let here : index ≡ 0 + length sums = omega (arith, many) in
    last ∙ ap (λ s. seat_after s (Read index sum)) same
    ∙ ap (λ n. seat_after (after_reads before 0 sums) (Read n sum)) here
    ∙ sym (one_more before 0 sums sum) ∙ ap (λ l. after_reads before 0 l) (sym grown)

-- what is so is so if the outcome is an error
pub if_refused : {X E P : Type 0} (outcome : Result X E) → P → OnErr outcome P
if_refused (Ok x) h = tt
if_refused (Err error) h = h

-- they are some of the 256
pub read_some : (before now : SeatView) (sums : List ℕ) (index : ℕ)
    → now ≡ after_reads before 0 sums → index ≡ length sums → index ≤ 256
    → HasReadSome before now
read_some before now sums index same many few = (sums, omega (arith, many, few), same)

-- and with one more
pub read_one_more : (before now after : SeatView) (sums : List ℕ) (index sum : ℕ)
    → now ≡ after_reads before 0 sums → index ≡ length sums → index < 256
    → after ≡ seat_after now (Read index sum) → HasReadSome before after
read_one_more before now after sums index sum same many few last = (
  sums ++ sum ∷ [],
  omega (arith, length-append sums (sum ∷ []), many, few),
  read_more before now after sums (sums ++ sum ∷ []) index sum same many refl last,
)
