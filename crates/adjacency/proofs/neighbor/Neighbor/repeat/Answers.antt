use Rattle.std.proofs.Common.{[], ◌∷◌, refl, ap, sym, ◌∙◌}
use Rattle.keyed_map.proofs.Helds.{on_ok}
use Rattle.adjacency.specs.Contents.{Describes, no_sends}
use Rattle.adjacency.specs.Descriptions.{repeat}
use Rattle.adjacency.specs.Drafts.{drafting}
use Rattle.adjacency.proofs.Doing.{sends_nothing}
use Rattle.adjacency.proofs.Exchanges.{repeated, repeats_nothing}
use Rattle.adjacency.proofs.neighbor.Neighbor.repeat.Goals as goal

pub returns-in_default : goal.returns-in_default
returns-in_default c =
    sends_nothing _ refl (ap (λ h. no_sends h.present) (sym c.self.view_is)
    ∙ repeats_nothing c.self.inside.standing c.self.inside.summary.present
    c.self.inside.requests.present c.self.inside.outstanding.present
    c.self.inside.retransmissions.present c.args.moment c.self.inside.described.present
    (sym c.get.ensures ∙ c.in_default.is)
    ∙ ap (λ h. repeat c.args.moment h.present) c.self.view_is)

pub returns : goal.returns
returns c =
    let is = repeated c.self.inside.standing c.self.inside.summary.present
    c.self.inside.requests.present c.self.inside.outstanding.present
    c.self.inside.retransmissions.present c.args.moment c.self.inside.described.present
    c.in-Some.kept (sym c.get.ensures ∙ c.in-Some.is)
    ∙ ap (λ h. repeat c.args.moment h.present) c.self.view_is in
    record {
      ok = on_ok c.add_description.result (λ _. ap (λ s. s.neighbor) is) c.add_description.ensures;
      draft = on_ok c.add_description.result (λ sent delay. sent delay
          ∙ ap (λ d. drafting delay (Describes d ∷ []) c.args.draft.now) c.in_ok-again.ensures
          ∙ ap (λ s. drafting delay s.sends c.args.draft.now) is) c.add_description.ensures;
      committed = ap (λ h. h.committed) c.self.view_is;
    }
