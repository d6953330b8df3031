use Rattle.std.proofs.Common.{◌∙◌, ℕ, ◌+◌, ◌-◌, ◌/◌, ◌<◌, get_or, length, arith, sym}
use Rattle.kept_routes.proofs.Networks.{less_is, more_is}
use Rattle.kept_routes.proofs.Paged.{from_it_on, is_gap_between, up_to_it}
use Rattle.kept_routes.proofs.placing.index_of.Goals as goal

pub loop-low-preserved-in-Less : goal.loop-low-preserved-in-Less
loop-low-preserved-in-Less c =
    let routes = c.args.routes.now in
    let prefix = c.args.prefix in
    let at = c.loop-low.invariant in
    let inside = at.inside in
    let test = c.loop-low-test.true in
    let middle : ℕ = c.loop-low.low + (c.loop-low.high - c.loop-low.low) / 2 in
    let within : middle < length routes = omega (arith, test, inside) in record {
      order = omega (arith, test);
      inside = inside;
      earlier = up_to_it routes c.requires prefix middle within
          (λ d. less_is (get_or routes middle d).prefix prefix
          (sym (c.order_at.ensures d) ∙ c.in-Less.is));
      later = at.later;
    }

pub loop-low-preserved : goal.loop-low-preserved
loop-low-preserved c =
    let routes = c.args.routes.now in
    let prefix = c.args.prefix in
    let at = c.loop-low.invariant in
    let inside = at.inside in
    let test = c.loop-low-test.true in
    let middle : ℕ = c.loop-low.low + (c.loop-low.high - c.loop-low.low) / 2 in
    let within : middle < length routes = omega (arith, test, inside) in record {
      order = omega (arith, test);
      inside = omega (arith, test, inside);
      earlier = at.earlier;
      later = from_it_on routes c.requires prefix middle within
          (λ d. more_is (get_or routes middle d).prefix prefix
          (sym (c.order_at.ensures d) ∙ c.in-Greater.is));
    }

pub returns : goal.returns
returns c =
    let at = c.loop-low.invariant in
    is_gap_between c.args.routes.now c.args.prefix c.loop-low.low c.loop-low.high at.inside
    c.loop-low-test.false at.order at.earlier at.later
