use Rattle.std.proofs.Common.{rules, ◌≡◌, ◌+◌, map, sym, subst, vec_len}
use Rattle.worker.specs.Descending.{CountDownTo}
use Rattle.worker.proofs.Counted.{counted_more}
use Rattle.worker.proofs.opening.ports.Goals as goal

pub loop-place-preserved : goal.loop-place-preserved
loop-place-preserved g c =
    let left = vec_len c.pop.new.self in
    let number : c.new.result.number ≡ left = search rules in
    let one_less : vec_len c.loop-place.places ≡ left + 1 = search rules in
    let before = c.loop-place.invariant.3 in
    let more = counted_more (λ p. p.number) left c.loop-place.ports.items c.new.result number
    (subst (λ n. CountDownTo n (map (λ p. p.number) c.loop-place.ports.items)) one_less before)
    in (
      search rules,
      search rules,
      search rules,
      subst (λ items. CountDownTo left (map (λ p. p.number) items)) (sym c.in_ok-push.ensures.items)
          more,
    )
