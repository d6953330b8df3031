use Rattle.std.proofs.Common.{ap, ◌∙◌}
use Rattle.keyed_map.proofs.Helds.{on_ok}
use Rattle.adjacency.specs.Contents.{sent_on, step_on}
use Rattle.adjacency.specs.Descriptions.{after_description}
use Rattle.adjacency.specs.Drafts.{drafting}
use Rattle.area.specs.Kept.{KeptLink}
use Rattle.area.proofs.Shown.{place_becomes}
use Rattle.area.proofs.link.packets.ReceivingDescriptionLinkStep.apply.Goals as goal

pub returns : goal.returns
returns c =
    let a = c.args.self.now in
    let F = after_description a.own a.moment c.args.database.now.present a.description.now in
    place_becomes (step_on F) (sent_on F) _ c.args.link.now c.receive_description.new.self.present
    c.receive_description.new.self.committed c.receive_description.new.draft
    c.receive_description.result c.link.view_is
    (on_ok c.receive_description.result
    (λ is. is ∙ ap (λ (k : KeptLink). step_on F k.present.neighbor) c.link.view_is)
    c.receive_description.ensures.ok)
    (on_ok c.receive_description.result
    (λ is. is c.link.inside.interface.delay
    ∙ ap (λ (k : KeptLink). drafting k.present.interface.delay (sent_on F k.present.neighbor)
    k.drafted) c.link.view_is)
    c.receive_description.ensures.draft)
    (c.receive_description.ensures.committed
    ∙ ap (λ (k : KeptLink). k.committed.neighbor) c.link.view_is)
