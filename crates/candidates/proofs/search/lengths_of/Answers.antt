use Rattle.std.proofs.Common.{◌≡◌, ◌<◌, ◌+◌, ℕ, length, take, set, true, arith, rules, subst, sym}
use Rattle.std.proofs.Common.{◌∙◌}
use Rattle.std.proofs.lemmas.List.{length-set}
use Rattle.candidates.specs.Borders.{HasLengths}
use Rattle.candidates.proofs.Ordered.{marked_more}
use Rattle.candidates.proofs.search.lengths_of.Goals as goal

pub loop-route-preserved : goal.loop-route-preserved
loop-route-preserved c =
    let route = c.route-item.result in
    let at : c.from.result ≡ route.prefix.length = search rules in
    let size : length c.loop-route.lengths ≡ 33 = c.loop-route.invariant.1 in
    let within : route.prefix.length < length c.loop-route.lengths =
    omega (arith, size, c.length.ensures.within, c.length.ensures.length) in
    let P : ℕ → Type 0 = λ n. HasLengths (take (c.loop-route.route-index + 1) c.args.routes.now)
    (set c.loop-route.lengths n true) in (
      subst P (sym at) (marked_more c.args.routes.now c.loop-route.route-index route c.route-item.is
          c.loop-route-test.true c.loop-route.lengths within c.loop-route.invariant.0),
      length-set c.loop-route.lengths c.from.result true ∙ size,
    )
