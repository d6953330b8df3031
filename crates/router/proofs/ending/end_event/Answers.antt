use Rattle.std.proofs.Common.{sym, ◌∙◌}
use Rattle.router.specs.Parts.{request_and_remove_aged}
use Rattle.router.proofs.Making.{makes_then, refused, then_does}
use Rattle.router.specs.EndingParts.{loading_done_then_originate, loading_done_then_postpone}
use Rattle.router.proofs.ending.end_event.Goals as goal

pub returns-in_err-loading_done_then_originate : goal.returns-in_err-loading_done_then_originate
returns-in_err-loading_done_then_originate c =
    refused c.from_residual.result c.from_residual.ensures.0
    (c.in_err-loading_done_then_originate.ensures c.args.router.now.committed.area.links
    (sym c.requires.interfaces)
    (sym c.requires.before)).committed

pub returns-in_err-loading_done_then_postpone : goal.returns-in_err-loading_done_then_postpone
returns-in_err-loading_done_then_postpone c =
    refused c.from_residual-in_err-loading_done_then_postpone.result
    c.from_residual-in_err-loading_done_then_postpone.ensures.0
    (c.in_err-loading_done_then_postpone.ensures.committed
    ∙ (c.in_ok-loading_done_then_originate.ensures c.args.router.now.committed.area.links
    (sym c.requires.interfaces)
    (sym c.requires.before)).committed)

pub returns : goal.returns
returns c =
    let m = c.args.moment in
    let before = c.args.router.now.committed.area.links in
    let filled = (c.in_ok-loading_done_then_originate.ensures before (sym c.requires.interfaces)
    (sym c.requires.before)).makes in
    then_does {f = λ p. loading_done_then_postpone (loading_done_then_originate before m p)}
    {g = request_and_remove_aged m} c.request_and_remove_aged.result
    (makes_then {f = loading_done_then_originate before m} {g = loading_done_then_postpone} filled
    c.in_ok-loading_done_then_postpone.ensures.makes)
    c.request_and_remove_aged.ensures
