use Rattle.std.proofs.Common.{cond, not, ◌&&◌, [], ◌∷◌, ap, sym, ◌∙◌}
use Rattle.lsdb.specs.Copies.{lsa_now}
use Rattle.lsdb.specs.Headers.{key_of, lsa_key}
use Rattle.adjacency.specs.Contents.{Step, Updates, no_sends}
use Rattle.adjacency.specs.Retransmissions.{add_retransmission, remove_retransmission}
use Rattle.adjacency.specs.Floods.{without_satisfied_request}
use Rattle.adjacency.specs.Drafts.{drafting}
use Rattle.adjacency.specs.Floods.{is_any}
use Rattle.adjacency.proofs.Floods.{drafting-none}
use Rattle.adjacency.proofs.neighbor.Neighbor.flood_in_exchange.Goals as goal

pub returns-then-is_sent-clause-does : goal.returns-then-is_sent-clause-does
returns-then-is_sent-clause-does c =
    let n = c.args.self.now.present in
    let lsa = lsa_now c.args.moment c.args.copy.now in
    let m = without_satisfied_request c.args.moment lsa n in
    let A : Step = record {
      neighbor = add_retransmission c.args.moment lsa.header m;
      sends = Updates lsa ∷ [];
    } in
    let B : Step = no_sends (remove_retransmission (lsa_key lsa) m) in
    let is = ap (λ b. cond b A B) (sym c.if-is_sent.true ∙ c.is_to_be_sent-is_sent.ensures
    ∙ ap (λ b. not c.args.came_in && b) c.in_ok-exceeds.ensures.exceeds) in
    record {
      ok = c.in_ok-add_retransmission.ensures.ok
          ∙ ap (λ h. add_retransmission c.args.moment h c.satisfy_request.new.self.present)
          c.header-header.ensures ∙ ap (add_retransmission c.args.moment lsa.header)
          c.in_ok-exceeds.ensures.does.ok ∙ ap (λ s. s.neighbor) is;
      draft = c.in_ok-add_update.ensures
          ∙ ap (λ s. drafting c.args.delay s.sends c.args.draft.now) is;
      committed = c.add_retransmission.ensures.committed ∙ c.satisfy_request.ensures.does.committed;
    }

pub returns-then-is_sent-clause-sent : goal.returns-then-is_sent-clause-sent
returns-then-is_sent-clause-sent c =
    let n = c.args.self.now.present in
    let lsa = lsa_now c.args.moment c.args.copy.now in
    let m = without_satisfied_request c.args.moment lsa n in
    let A : Step = record {
      neighbor = add_retransmission c.args.moment lsa.header m;
      sends = Updates lsa ∷ [];
    } in
    let B : Step = no_sends (remove_retransmission (lsa_key lsa) m) in
    ap (λ b. is_any (cond b A B).sends) (sym c.if-is_sent.true ∙ c.is_to_be_sent-is_sent.ensures
    ∙ ap (λ b. not c.args.came_in && b) c.in_ok-exceeds.ensures.exceeds)

pub returns-clause-does : goal.returns-clause-does
returns-clause-does c =
    let n = c.args.self.now.present in
    let lsa = lsa_now c.args.moment c.args.copy.now in
    let m = without_satisfied_request c.args.moment lsa n in
    let A : Step = record {
      neighbor = add_retransmission c.args.moment lsa.header m;
      sends = Updates lsa ∷ [];
    } in
    let B : Step = no_sends (remove_retransmission (lsa_key lsa) m) in
    let is = ap (λ b. cond b A B) (sym c.if-is_sent.false ∙ c.is_to_be_sent-is_sent.ensures
    ∙ ap (λ b. not c.args.came_in && b) c.in_ok-exceeds.ensures.exceeds) in
    record {
      ok = c.in_ok-remove_retransmission.ensures.ok
          ∙ ap (λ h. remove_retransmission (key_of h) c.satisfy_request.new.self.present)
          c.header-header.ensures ∙ ap (remove_retransmission (lsa_key lsa))
          c.in_ok-exceeds.ensures.does.ok ∙ ap (λ s. s.neighbor) is;
      draft = drafting-none c.args.delay c.args.draft.now
          ∙ ap (λ s. drafting c.args.delay s.sends c.args.draft.now) is;
      committed = c.remove_retransmission.ensures.committed
          ∙ c.satisfy_request.ensures.does.committed;
    }

pub returns-clause-sent : goal.returns-clause-sent
returns-clause-sent c =
    let n = c.args.self.now.present in
    let lsa = lsa_now c.args.moment c.args.copy.now in
    let m = without_satisfied_request c.args.moment lsa n in
    let A : Step = record {
      neighbor = add_retransmission c.args.moment lsa.header m;
      sends = Updates lsa ∷ [];
    } in
    let B : Step = no_sends (remove_retransmission (lsa_key lsa) m) in
    ap (λ b. is_any (cond b A B).sends) (sym c.if-is_sent.false ∙ c.is_to_be_sent-is_sent.ensures
    ∙ ap (λ b. not c.args.came_in && b) c.in_ok-exceeds.ensures.exceeds)
