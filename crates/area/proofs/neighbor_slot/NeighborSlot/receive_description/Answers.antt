use Rattle.std.proofs.Common.{refl, ap, sym, ◌∙◌}
use Rattle.keyed_map.proofs.Helds.{on_ok}
use Rattle.adjacency.specs.Contents.{sent_on, step_on}
use Rattle.adjacency.specs.Drafts.{drafting}
use Rattle.adjacency.specs.Exchanges.{process_description}
use Rattle.adjacency.proofs.Doing.{nothing_sent}
use Rattle.area.proofs.Processing.{discarded_on, discarded_sent, judged_after, sent_after}
use Rattle.area.proofs.neighbor_slot.NeighborSlot.receive_description.Goals as goal

pub returns-then-too_large : goal.returns-then-too_large
returns-then-too_large c =
    let is = sym c.is_too_large-too_large.ensures ∙ c.if-too_large.true in
    nothing_sent _ refl
    (discarded_on c.args.own c.args.moment c.args.database.now.present c.args.description.now
    c.args.self.now.present is)
    (discarded_sent c.args.own c.args.moment c.args.database.now.present c.args.description.now
    c.args.self.now.present is)

pub returns : goal.returns
returns c =
    let F = process_description c.args.own c.args.moment c.args.database.now.present
    c.args.description.now in
    let is = sym c.is_too_large-too_large.ensures ∙ c.if-too_large.false in
    record {
      ok = on_ok c.process_description.result (λ made.
          made ∙ ap (step_on F) c.in_ok-two_way.ensures.ok
          ∙ judged_after c.args.own c.args.moment c.args.database.now.present
          c.args.description.now c.args.self.now.present is) c.process_description.ensures.ok;
      draft = on_ok c.process_description.result (λ made delay.
          made delay
          ∙ (λ i. drafting delay (sent_on F (c.in_ok-two_way.ensures.ok i))
          (c.in_ok-two_way.ensures.draft delay i))
          ∙ sent_after c.args.own c.args.moment c.args.database.now.present
          c.args.description.now c.args.self.now.present delay c.args.draft.now is)
          c.process_description.ensures.draft;
      committed = c.process_description.ensures.committed ∙ c.two_way.ensures.committed;
    }
