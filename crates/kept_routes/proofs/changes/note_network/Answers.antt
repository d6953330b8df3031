use Rattle.std.proofs.Common.{◌≡◌, sym, subst, ◌∙◌}
use Rattle.lsa.specs.declared.body.ExternalLsa.{ExternalLsa}
use Rattle.routes.specs.Offers.{IsPrefix}
use Rattle.kept_routes.proofs.Told.{just_is, same_body}
use Rattle.kept_routes.proofs.changes.note_network.Goals as goal

pub returns-in-None-clause-noted : goal.returns-in-None-clause-noted
returns-in-None-clause-noted c lsa prefix is p = absurd (c.in-None.ensures lsa is)

pub returns-in_ok-note-in-Some-clause-kept : goal.returns-in_ok-note-in-Some-clause-kept
returns-in_ok-note-in-Some-clause-kept c prefix among =
    c.in_ok-note-in-Some.ensures.kept prefix among

pub returns-in_ok-note-in-Some-clause-noted : goal.returns-in_ok-note-in-Some-clause-noted
returns-in_ok-note-in-Some-clause-noted c lsa prefix is p =
    let id = c.args.key.now.link_state_id in
    let here = c.in-Some.lsa.now in
    let same : lsa ≡ here = same_body lsa here (sym is ∙ c.in-Some.ensures) in
    c.in_ok-note-in-Some.ensures.noted prefix
    (just_is (IsPrefix id here.mask) c.network_of.result prefix c.network_of.ensures
    (subst (λ (l : ExternalLsa). IsPrefix id l.mask prefix) same p))
