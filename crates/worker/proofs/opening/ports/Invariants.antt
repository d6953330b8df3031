use Rattle.std.specs.Prelude.{◌≡◌, ◌+◌, map, vec_len}
use Rattle.worker.specs.Descending.{CountDownTo}
use Rattle.worker.proofs.opening.ports.Given as goal

abbrev pub invariant-loop-place : goal.invariant-loop-place
invariant-loop-place g l =
    (l.all.parts ≡ vec_len l.places) × (l.all.amount ≡ 0)
    × (vec_len l.ports + vec_len l.places ≡ vec_len l.initial.places)
    × CountDownTo (vec_len l.places) (map (λ p. p.number) l.ports.items)

abbrev pub decreases-loop-place : goal.decreases-loop-place
decreases-loop-place g l = vec_len l.places
