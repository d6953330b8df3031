use Rattle.std.proofs.Common.{ap, ◌∙◌}
use Rattle.std.specs.FinMap as finite
use Rattle.std.specs.List.{fold}
use Rattle.keyed_map.proofs.Helds.{on_ok}
use Rattle.adjacency.proofs.Lists.{left_none}
use Rattle.adjacency.proofs.neighbor.negotiation.clear.Goals as goal

pub returns : goal.returns
returns c =
    let m = c.args.list.now.present in
    record {
      ok = on_ok c.remove_keys.result (λ is. is
          ∙ ap (fold finite.remove m) (c.deref.ensures.value ∙ c.in_ok-keys.ensures)
          ∙ left_none c.len.result m c.len.ensures) c.remove_keys.ensures.ok;
      committed = c.remove_keys.ensures.committed;
    }
