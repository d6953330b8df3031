-- A set of stack bytes that a loop fills.
use Rattle.std.proofs.Common.{◌≡◌, ℕ, ◌+◌, ◌-◌, ◌≤◌, ◌<◌, Bool, true, false, List, [], ◌∷◌, ◌++◌}
use Rattle.std.proofs.Common.{length, take, drop, set, get_or, sym, ap, ◌∙◌, arith, length-append}
use Rattle.std.proofs.Common.{length-drop, append_assoc}
use Rattle.std.proofs.Math.ListN.{replicate}
use Rattle.std.proofs.lemmas.List.{append-nil, take-append-drop, drop_more, set_at, length-take-le}
use Rattle.std.proofs.lemmas.List.{length-replicate}
use Rattle.std.proofs.lemmas.Grind.{replicate_next}
use Rattle.object.specs.Sets.{with_range}

pub with_range-none : (start : ℕ) (bytes : List Bool) → bytes ≡ with_range start start bytes
with_range-none start bytes =
    let none : start - start ≡ 0 = omega arith in
    sym (ap (λ n. take start bytes ++ replicate n true ++ drop start bytes) none
    ∙ ap (λ t. t ++ drop start bytes) (append-nil (take start bytes))
    ∙ take-append-drop start bytes)

pub with_range-more : (start end : ℕ) (bytes : List Bool) → start ≤ end → end < length bytes
    → set (with_range start end bytes) end true ≡ with_range start (end + 1) bytes
with_range-more start end bytes le lt =
    let front : List Bool = take start bytes ++ replicate (end - start) true in
    let long : length front ≡ end = omega (
      arith,
      length-append (take start bytes) (replicate (end - start) true),
      length-take-le start bytes (omega arith),
      length-replicate (end - start) true,
    ) in
    let step : end + 1 - start ≡ end - start + 1 = omega arith in
    ap (λ t. set (front ++ t) end true) (drop_more bytes end false lt)
    ∙ set_at front (get_or bytes end false) (drop (end + 1) bytes) true end long
    ∙ sym (append_assoc front (true ∷ []) (drop (end + 1) bytes))
    ∙ ap (λ t. t ++ drop (end + 1) bytes)
    (append_assoc (take start bytes) (replicate (end - start) true) (true ∷ []))
    ∙ ap (λ t. (take start bytes ++ t) ++ drop (end + 1) bytes)
    (sym (replicate_next (end - start) true))
    ∙ ap (λ n. (take start bytes ++ replicate n true) ++ drop (end + 1) bytes) (sym step)

pub length-with_range : (start end : ℕ) (bytes : List Bool) → start ≤ end → end ≤ length bytes
    → length (with_range start end bytes) ≡ length bytes
length-with_range start end bytes le lt =
    omega (
      arith,
      length-append (take start bytes ++ replicate (end - start) true) (drop end bytes),
      length-append (take start bytes) (replicate (end - start) true),
      length-take-le start bytes (omega arith),
      length-replicate (end - start) true,
      length-drop end bytes,
    )
