use Rattle.std.proofs.Common.{[], map, ap, ◌∙◌}
use Rattle.std.specs.List.{cons_option}
use Rattle.adjacency.specs.Contents.{Updates}
use Rattle.adjacency.specs.Drafts.{drafting}
use Rattle.adjacency.specs.Retransmissions.{lsa_of}
use Rattle.adjacency.proofs.Floods.{drafting-none}
use Rattle.area.proofs.neighbor_slot.requests.draft_copy.Goals as goal

pub returns-in-None : goal.returns-in-None
returns-in-None c =
    drafting-none c.args.delay c.args.draft.now
    ∙ ap (λ o. drafting c.args.delay (map Updates (cons_option (lsa_of c.args.moment o) []))
    c.args.draft.now) c.in-None.ensures
