use Rattle.std.proofs.Common.{◌≡◌, rules, arith, ap, ◌∙◌}
use Rattle.std.proofs.lemmas.Grind.{common_steps}
use Rattle.std.specs.Prelude.{None}
use Rattle.adjacency.specs.Retransmissions.{send_again}
use Rattle.area.specs.Kept.{KeptLink}
use Rattle.area.proofs.Silent.{none_sent}
use Rattle.area.proofs.link.timers.SendingAgainLinkStep.apply.Goals as goal

pub returns-in_default : goal.returns-in_default
returns-in_default c =
    let l = c.args.link.now in
    let none : l.present.neighbor ≡ None = search rules in
    let same = ap (λ (k : KeptLink). k.drafted) c.link.view_is in
    let sent = none_sent (send_again c.args.self.now.moment l.present.interface.retransmit_interval
    c.args.database.now.present) l.present.neighbor l.present.interface.delay l.drafted none in
    record {
      link = first_of (search rules, grind (arith, common_steps));
      draft = ap (λ v. v.draft) c.link-inside.view_is ∙ same ∙ sent;
      committed = first_of (search rules, grind (arith, common_steps));
    }
