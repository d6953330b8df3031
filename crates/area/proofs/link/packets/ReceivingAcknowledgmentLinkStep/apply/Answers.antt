use Rattle.std.proofs.Common.{rules, arith, ap, ◌∙◌}
use Rattle.std.proofs.lemmas.Grind.{common_steps}
use Rattle.keyed_map.proofs.Helds.{on_ok}
use Rattle.adjacency.specs.Retransmissions.{after_acknowledgment}
use Rattle.area.specs.Kept.{KeptLink}
use Rattle.area.proofs.Silent.{silent}
use Rattle.area.proofs.link.packets.ReceivingAcknowledgmentLinkStep.apply.Goals as goal

pub returns-in_default : goal.returns-in_default
returns-in_default c =
    let a = c.args.self.now in
    let l = c.args.link.now in
    let same = ap (λ (k : KeptLink). k.drafted) c.link.view_is in
    let sent = silent (after_acknowledgment a.moment a.headers.now) l.present.neighbor
    l.present.interface.delay l.drafted in
    record {
      link = first_of (search rules, grind (arith, common_steps));
      draft = ap (λ v. v.draft) c.link-inside.view_is ∙ same ∙ sent;
      committed = first_of (search rules, grind (arith, common_steps));
    }

pub returns : goal.returns
returns c =
    let a = c.args.self.now in
    let l = c.args.link.now in
    record {
      link = first_of (search rules, grind (arith, common_steps));
      draft = on_ok c.receive_acknowledgment.result
          (λ _. ap (λ v. v.draft) c.link-inside.view_is
          ∙ ap (λ (k : KeptLink). k.drafted) c.link.view_is
          ∙ silent (after_acknowledgment a.moment a.headers.now) l.present.neighbor
          l.present.interface.delay l.drafted)
          c.receive_acknowledgment.ensures.ok;
      committed = first_of (search rules, grind (arith, common_steps));
    }
