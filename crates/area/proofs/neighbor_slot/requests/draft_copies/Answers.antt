use Rattle.std.proofs.Common.{[], ◌∷◌, map, ◌∙◌}
use Rattle.adjacency.specs.Contents.{Updates}
use Rattle.adjacency.specs.Drafts.{drafting}
use Rattle.adjacency.specs.Steps.{lsas_of}
use Rattle.adjacency.proofs.Floods.{drafting-none}
use Rattle.adjacency.proofs.Sends.{sent_more}
use Rattle.area.proofs.neighbor_slot.requests.draft_copies.Goals as goal

pub loop-key-init : goal.loop-key-init
loop-key-init c = drafting-none c.args.delay c.args.draft.now

pub loop-key-preserved : goal.loop-key-preserved
loop-key-preserved c =
    c.in_ok-draft_copy.ensures
    ∙ (λ i. drafting c.args.delay (map Updates
    (lsas_of c.args.moment c.args.database.now.present ((c.key-item.is i) ∷ [])))
    (c.loop-key.invariant i))
    ∙ sent_more c.args.delay c.args.moment c.args.database.now.present c.args.keys.now
    c.loop-key.key-index c.key-item.result c.args.draft.now c.loop-key-test.true
