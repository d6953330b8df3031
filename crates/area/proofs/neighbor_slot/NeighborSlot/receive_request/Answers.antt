use Rattle.std.proofs.Common.{refl, ap, sym, ◌∙◌}
use Rattle.keyed_map.proofs.Helds.{on_ok}
use Rattle.adjacency.specs.Drafts.{drafting}
use Rattle.adjacency.proofs.Doing.{nothing_updated}
use Rattle.area.proofs.Answered.{answers_on, answers_sent, fails_on, fails_sent}
use Rattle.area.proofs.Answered.{rests_on, rests_sent}
use Rattle.area.proofs.neighbor_slot.NeighborSlot.receive_request.Goals as goal

pub returns-then-there : goal.returns-then-there
returns-then-there c =
    let is = sym c.is_exchange_or_later-exchange_or_later.ensures ∙ c.if-exchange_or_later.true in
    let all = sym c.are_there-there.ensures ∙ c.if-there.true in
    record {
      ok = on_ok c.draft_copies.result (λ sent. answers_on c.args.moment
          c.args.database.now.present c.args.keys.now c.args.self.now.present is all)
          c.draft_copies.ensures;
      draft = on_ok c.draft_copies.result (λ sent. sent
          ∙ ap (λ cs. drafting c.args.delay cs c.args.draft.now)
          (answers_sent c.args.moment c.args.database.now.present c.args.keys.now
          c.args.self.now.present is all)) c.draft_copies.ensures;
      committed = refl;
    }

pub returns-then-exchange_or_later : goal.returns-then-exchange_or_later
returns-then-exchange_or_later c =
    let is = sym c.is_exchange_or_later-exchange_or_later.ensures ∙ c.if-exchange_or_later.true in
    let some = sym c.are_there-there.ensures ∙ c.if-there.false in
    record {
      ok = on_ok c.enter_exstart.result (λ made. made
          ∙ fails_on c.args.moment c.args.database.now.present c.args.keys.now
          c.args.self.now.present is some) c.enter_exstart.ensures.ok;
      draft = on_ok c.enter_exstart.result (λ sent. sent c.args.delay
          ∙ ap (λ cs. drafting c.args.delay cs c.args.draft.now)
          (fails_sent c.args.moment c.args.database.now.present c.args.keys.now
          c.args.self.now.present is some)) c.enter_exstart.ensures.draft;
      committed = c.enter_exstart.ensures.committed;
    }

pub returns : goal.returns
returns c =
    let is = sym c.is_exchange_or_later-exchange_or_later.ensures ∙ c.if-exchange_or_later.false in
    nothing_updated _ refl
    (rests_on c.args.moment c.args.database.now.present c.args.keys.now c.args.self.now.present is)
    (rests_sent c.args.moment c.args.database.now.present c.args.keys.now c.args.self.now.present
    is)
