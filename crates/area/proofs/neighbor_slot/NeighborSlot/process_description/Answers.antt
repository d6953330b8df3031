use Rattle.std.proofs.Common.{Some, rules, arith, ap, sym, ◌∙◌}
use Rattle.std.proofs.lemmas.Grind.{common_steps}
use Rattle.keyed_map.proofs.Helds.{on_ok}
use Rattle.adjacency.specs.Contents.{sent_on, step_on}
use Rattle.adjacency.specs.Drafts.{drafting}
use Rattle.adjacency.specs.Exchanges.{process_description, verdict_of}
use Rattle.adjacency.specs.Views.{present_of}
use Rattle.adjacency.proofs.Doing.{nothing_sent, sent_after}
use Rattle.area.proofs.Processing.{goes_on_on, goes_on_sent, over_on, over_sent}
use Rattle.area.proofs.neighbor_slot.NeighborSlot.process_description.Goals as goal

pub returns-in_default : goal.returns-in_default
returns-in_default c =
    let F = process_description c.args.own c.args.moment c.args.database.now.present
    c.args.description.now in
    let none = ap present_of (sym c.in_default.is) ∙ ap (λ h. h.present) c.self.view_is in
    nothing_sent _ (ap (λ h. h.committed) c.self.view_is)
    (ap present_of c.in_default.is ∙ ap (step_on F) none) (ap (sent_on F) none)

pub returns-then-over : goal.returns-then-over
returns-then-over c =
    let db = c.args.database.now.present in
    let d = c.args.description.now in
    let F = process_description c.args.own c.args.moment db d in
    let v = verdict_of c.verdict-verdict.result in
    let n = c.in-Some.neighbor.present in
    let shown = ap present_of (sym c.in-Some.is) ∙ ap (λ h. h.present) c.self.view_is in
    let is = sym c.starts_over-over.ensures ∙ c.if-over.true in
    sent_after c.enter_exstart.result (first_of (search rules, grind (arith, common_steps)))
    (over_on c.args.own c.args.moment db d v (Some n) c.verdict-verdict.ensures is
    ∙ ap (step_on F) shown)
    (over_sent c.args.own c.args.moment db d v (Some n) c.verdict-verdict.ensures is
    ∙ ap (sent_on F) shown) c.enter_exstart.ensures

pub returns : goal.returns
returns c =
    let db = c.args.database.now.present in
    let d = c.args.description.now in
    let F = process_description c.args.own c.args.moment db d in
    let v = verdict_of c.verdict-verdict.result in
    let n = c.in-Some.neighbor.present in
    let shown = ap present_of (sym c.in-Some.is) ∙ ap (λ h. h.present) c.self.view_is in
    let is = sym c.starts_over-over.ensures ∙ c.if-over.false in
    record {
      ok = on_ok c.proceed.result (λ made.
          ap (λ m. Some m) made
          ∙ goes_on_on c.args.own c.args.moment db d v (Some n) c.verdict-verdict.ensures is
          ∙ ap (step_on F) shown) c.proceed.ensures.ok;
      draft = on_ok c.proceed.result (λ made delay.
          made delay
          ∙ ap (λ cs. drafting delay cs c.args.draft.now)
          (goes_on_sent c.args.own c.args.moment db d v (Some n) c.verdict-verdict.ensures is
          ∙ ap (sent_on F) shown)) c.proceed.ensures.draft;
      committed = first_of (search rules, grind (arith, common_steps));
    }
