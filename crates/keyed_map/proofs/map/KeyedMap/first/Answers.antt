use Rattle.std.proofs.Common.{◌++◌, map, take, ap, sym, ◌∙◌, arith}
use Rattle.std.proofs.lemmas.List.{take_at}
use Rattle.std.specs.FinMap as finite
use Rattle.keyed_map.specs.Slots.{kept}
use Rattle.keyed_map.proofs.Orders.{cut_all, live_entries}
use Rattle.keyed_map.proofs.map.KeyedMap.first.Goals.{in-None, in-Some+then-len-count}
use Rattle.keyed_map.proofs.map.KeyedMap.first.Goals as goal

pub returns : goal.returns
returns g c =
    let keys = c.loop-key.keys.items in
    let shown = ap (map (λ e. e.0)) (live_entries c.self.inside.slots.entries
    c.iter-key-items.ensures.ordered) in
    let whole = c.loop-key.invariant.keys
    ∙ ap (λ es. map (λ e. e.0) (kept es))
    (c.into_iter-key-iterator.ensures.into_iter_gives ∙ c.iter-key-items.ensures.rest)
    ∙ sym shown ∙ ap (λ h. finite.keys h.present) c.self.view_is in
    elim c.match-next.branch [
      | in-None w ↦
          sym (cut_all keys c.args.count (omega
          (arith, c.loop-key.invariant.short, c.loop-key.keys.ok.0)))
          ∙ ap (take c.args.count) (ap (λ es. keys ++ map (λ e. e.0) (kept es))
          (sym w.in-None.ensures.steps.0) ∙ whole)
      | in-Some+then-len-count w ↦
          sym (take_at keys (map (λ e. e.0) (kept c.loop-key.key-iterator)) c.args.count
          (omega (
            arith,
            c.loop-key.invariant.short,
            c.loop-key.keys.ok.0,
            w.len.ensures,
            w.if-len-count.true,
          ))) ∙ ap (take c.args.count) whole
    ]
