use Rattle.std.proofs.Common.{map, sym, ap, ◌∙◌}
use Rattle.adjacency.specs.Contents.{Updates}
use Rattle.adjacency.specs.Drafts.{drafting}
use Rattle.adjacency.specs.Retransmissions.{that_fit}
use Rattle.adjacency.specs.Steps.{lsas_of}
use Rattle.adjacency.specs.Timers.{that_fit_after}
use Rattle.adjacency.proofs.Floods.{drafting-none}
use Rattle.adjacency.proofs.neighbor.timers.draft_that_fit.Goals as goal

pub returns-in_default : goal.returns-in_default
returns-in_default c =
    let moment = c.args.moment in
    let db = c.args.database.now.present in
    let drafted = c.draft_key_if_it_fits.new.draft in
    drafting-none c.args.delay drafted
    ∙ ap (λ o. drafting c.args.delay (map Updates
    (that_fit_after o (lsas_of moment db c.next.new.self))) drafted) (sym c.in_default.is)
    ∙ c.in_ok-next.ensures c.next.new.self
    ∙ ap (λ ks. drafting c.args.delay
    (map Updates (that_fit c.loop-key.used (lsas_of moment db ks))) c.loop-key.draft)
    (sym c.in-Some.ensures.steps)
    ∙ c.loop-key.invariant

pub returns : goal.returns
returns c =
    let moment = c.args.moment in
    let db = c.args.database.now.present in
    drafting-none c.args.delay c.loop-key.draft
    ∙ ap (λ ks. drafting c.args.delay
    (map Updates (that_fit c.loop-key.used (lsas_of moment db ks))) c.loop-key.draft)
    (sym c.in-None.ensures.steps.0)
    ∙ c.loop-key.invariant
