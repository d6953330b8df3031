use Rattle.std.proofs.Common.{◌++◌, ap, sym, ◌∙◌}
use Rattle.std.proofs.lemmas.List.{append-nil}
use Rattle.std.specs.FinMap as finite
use Rattle.keyed_map.specs.Slots.{kept, keys_where}
use Rattle.keyed_map.proofs.Orders.{live_entries}
use Rattle.keyed_map.proofs.map.KeyedMap.keys_where.Goals as goal

pub returns : goal.returns
returns g c =
    let test = g.T.KeyTest.accepts c.args.test.now in
    let keys = c.loop-key.keys.items in
    sym (append-nil keys) ∙ ap (λ es. keys ++ keys_where test (kept es))
    (sym c.in-None.ensures.steps.0) ∙ c.loop-key.invariant
    ∙ ap (λ es. keys_where test (kept es))
    (c.into_iter-key-iterator.ensures.into_iter_gives ∙ c.iter-key-items.ensures.rest)
    ∙ ap (keys_where test) (sym (live_entries c.self.inside.slots.entries
    c.iter-key-items.ensures.ordered) ∙ ap (λ h. finite.entries h.present) c.self.view_is)
