use Rattle.std.proofs.Common.{◌≡◌, ◌+◌, ◌-◌, take, arith, sym, subst, ◌∙◌, ap}
use Rattle.std.specs.Prelude.{Some, slice_get}
use Rattle.std.specs.FinMap as finite
use Rattle.keyed_map.specs.Slots.{keys_from}
use Rattle.kept_routes.specs.Destinations.{first_key}
use Rattle.kept_routes.proofs.Under.{all_under}
use Rattle.kept_routes.proofs.keys.first_under.Goals as goal

pub returns : goal.returns
returns c =
    let db = c.args.db.now.present in
    let keys = c.in_ok-keys.keys.items in
    let same = c.deref.ensures.value in
    let size : c.args.count ≡ c.args.count - 1 + 1 = omega (arith, c.requires) in
    let are = c.in_ok-keys.ensures ∙ ap (λ k. take c.args.count (keys_from k (finite.keys db)))
    c.first_key.ensures
    ∙ ap (λ n. take n (keys_from (first_key c.args.prefix) (finite.keys db))) size in
    all_under db c.args.prefix (c.args.count - 1) keys are
    (λ last at lies. c.may_lack.ensures c.if-may_lack.false last
    (subst (λ ks. slice_get ks (c.args.count - 1) ≡ Some last) (sym same) at) lies)
