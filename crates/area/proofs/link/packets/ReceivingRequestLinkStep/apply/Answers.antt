use Rattle.std.proofs.Common.{ap, ◌∙◌}
use Rattle.keyed_map.proofs.Helds.{on_ok}
use Rattle.adjacency.specs.Contents.{sent_on, step_on}
use Rattle.adjacency.specs.Drafts.{drafting}
use Rattle.adjacency.specs.Steps.{after_request}
use Rattle.area.specs.Kept.{KeptLink}
use Rattle.area.proofs.Shown.{place_becomes}
use Rattle.area.proofs.link.packets.ReceivingRequestLinkStep.apply.Goals as goal

pub returns : goal.returns
returns c =
    let a = c.args.self.now in
    let F = after_request a.moment c.args.database.now.present a.keys.now in
    place_becomes (step_on F) (sent_on F) _ c.args.link.now c.receive_request.new.self.present
    c.receive_request.new.self.committed c.receive_request.new.draft c.receive_request.result
    c.link.view_is
    (on_ok c.receive_request.result
    (λ is. is ∙ ap (λ (k : KeptLink). step_on F k.present.neighbor) c.link.view_is)
    c.receive_request.ensures.ok)
    (on_ok c.receive_request.result
    (λ is. is
    ∙ ap (λ (k : KeptLink). drafting k.present.interface.delay (sent_on F k.present.neighbor)
    k.drafted) c.link.view_is)
    c.receive_request.ensures.draft)
    (c.receive_request.ensures.committed
    ∙ ap (λ (k : KeptLink). k.committed.neighbor) c.link.view_is)
