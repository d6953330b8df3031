use Rattle.std.proofs.Common.{◌≡◌, rules, arith, sym, ap, ◌∙◌}
use Rattle.std.proofs.lemmas.Grind.{common_steps}
use Rattle.std.specs.Prelude.{None, Some}
use Rattle.keyed_map.proofs.Helds.{on_ok}
use Rattle.adjacency.specs.Contents.{sent_on}
use Rattle.adjacency.specs.Drafts.{drafting}
use Rattle.adjacency.specs.Requests.{request_next}
use Rattle.area.specs.Kept.{KeptLink}
use Rattle.area.proofs.Silent.{none_sent}
use Rattle.area.proofs.link.timers.NextRequestLinkStep.apply.Goals as goal

pub returns-in_default : goal.returns-in_default
returns-in_default c =
    let l = c.args.link.now in
    let none : l.present.neighbor ≡ None = search rules in
    let same = ap (λ (k : KeptLink). k.drafted) c.link.view_is in
    let sent = none_sent (request_next c.args.self.now.moment) l.present.neighbor
    l.present.interface.delay l.drafted none in
    record {
      link = first_of (search rules, grind (arith, common_steps));
      draft = ap (λ v. v.draft) c.link-inside.view_is ∙ same ∙ sent;
      committed = first_of (search rules, grind (arith, common_steps));
    }

pub returns : goal.returns
returns c =
    let F = request_next c.args.self.now.moment in
    let l = c.args.link.now in
    let some : l.present.neighbor ≡ Some c.in-Some.neighbor.present = search rules in
    record {
      link = first_of (search rules, grind (arith, common_steps));
      draft = on_ok c.request.result
          (λ is. is l.present.interface.delay
          ∙ (λ i. drafting l.present.interface.delay (sent_on F (sym some i))
          ((ap (λ v. v.draft) c.link-inside.view_is
          ∙ ap (λ (k : KeptLink). k.drafted) c.link.view_is) i)))
          c.request.ensures.draft;
      committed = first_of (search rules, grind (arith, common_steps));
    }
