use Rattle.std.proofs.Common.{[], ◌∙◌}
use Rattle.event_rules.specs.Originations.{originate_or_postpone}
use Rattle.flood.proofs.Made.{on_ok}
use Rattle.flood.proofs.Starting.{started}
use Rattle.flood.proofs.start.originate_first_router_lsa.Goals as goal

pub returns : goal.returns
returns c =
    let config = c.args.config.now in
    on_ok c.originate_or_postpone.result
    (λ makes. started (originate_or_postpone config.start c.router_key.result) c.args.router.now
    c.originate_or_postpone.new.router makes
    ∙ (λ i. (originate_or_postpone config.start (c.router_key.ensures i) (record {
      router = c.requires i;
      sends = [];
    })).router))
    c.originate_or_postpone.ensures.makes
