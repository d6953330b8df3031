use Rattle.std.proofs.Common.{Some, [], ◌∷◌, ap, ◌∙◌}
use Rattle.adjacency.specs.Adjacencies.{initial_description}
use Rattle.adjacency.specs.Contents.{Describes}
use Rattle.adjacency.specs.Drafts.{drafting}
use Rattle.adjacency.proofs.Neighbors.{restarted_if_listed, restarted_if_not_listed}
use Rattle.adjacency.proofs.Doing.{nothing_sent}
use Rattle.area.proofs.neighbor_slot.NeighborSlot.restart.Goals as goal

pub returns-then-lists_us : goal.returns-then-lists_us
returns-then-lists_us c =
    let is = restarted_if_listed c.args.moment c.args.router c.args.dd_sequence_start
    c.args.lists_us
    c.if-lists_us.true in
    record {
      ok =
          ap (λ h. h.present) c.replace.ensures ∙ ap (λ n. Some n) c.started-neighbor.ensures
          ∙ ap (λ s. Some s.neighbor) is;
      draft = λ delay. c.in_ok-add_description.ensures delay
          ∙ ap (λ d. drafting delay (Describes d ∷ []) c.args.draft.now)
          (c.initial_description-opened.ensures
          ∙ ap initial_description c.next_dd_sequence_start-dd_sequence.ensures)
          ∙ ap (λ s. drafting delay s.sends c.args.draft.now) is;
      committed = ap (λ h. h.committed) c.replace.ensures;
    }

pub returns : goal.returns
returns c =
    let is = restarted_if_not_listed c.args.moment c.args.router c.args.dd_sequence_start
    c.args.lists_us
    c.if-lists_us.false in
    nothing_sent _ (ap (λ h. h.committed) c.replace-2.ensures)
    (ap (λ h. h.present) c.replace-2.ensures ∙ ap (λ n. Some n) c.fresh-neighbor.ensures
    ∙ ap (λ s. Some s.neighbor) is)
    (ap (λ s. s.sends) is)
