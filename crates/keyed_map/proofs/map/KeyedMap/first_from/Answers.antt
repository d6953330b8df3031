use Rattle.std.proofs.Common.{◌++◌, map, take, ap, sym, ◌∙◌, arith}
use Rattle.std.proofs.lemmas.List.{take_at}
use Rattle.std.specs.FinMap as finite
use Rattle.keyed_map.specs.Slots.{kept, keys_from}
use Rattle.keyed_map.proofs.Orders.{cut_all, kept_from, live_entries}
use Rattle.keyed_map.proofs.map.KeyedMap.first_from.Goals.{in-None, in-Some+then-len-count}
use Rattle.keyed_map.proofs.map.KeyedMap.first_from.Goals as goal

pub returns : goal.returns
returns g c =
    let keys = c.loop-found.keys.items in
    let entries = c.self.inside.slots.entries in
    let shown = ap (map (λ e. e.0)) (live_entries entries c.range-found-items.ensures.ordered) in
    let whole = c.loop-found.invariant.keys
    ∙ ap (λ es. map (λ e. e.0) (kept es))
    (c.into_iter-found-iterator.ensures.into_iter_gives
    ∙ c.range-found-items.ensures.between tt)
    ∙ kept_from c.args.key.now entries
    ∙ ap (keys_from c.args.key.now) (sym shown ∙ ap (λ h. finite.keys h.present) c.self.view_is)
    in
    elim c.match-next.branch [
      | in-None w ↦
          sym (cut_all keys c.args.count (omega
          (arith, c.loop-found.invariant.short, c.loop-found.keys.ok.0)))
          ∙ ap (take c.args.count) (ap (λ es. keys ++ map (λ e. e.0) (kept es))
          (sym w.in-None.ensures.steps.0) ∙ whole)
      | in-Some+then-len-count w ↦
          sym (take_at keys (map (λ e. e.0) (kept c.loop-found.found-iterator)) c.args.count
          (omega (
            arith,
            c.loop-found.invariant.short,
            c.loop-found.keys.ok.0,
            w.len.ensures,
            w.if-len-count.true,
          ))) ∙ ap (take c.args.count) whole
    ]
