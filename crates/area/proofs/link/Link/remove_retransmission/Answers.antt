use Rattle.std.proofs.Common.{rules, arith, ap, ◌∙◌}
use Rattle.std.proofs.lemmas.Grind.{common_steps}
use Rattle.keyed_map.proofs.Helds.{on_ok}
use Rattle.adjacency.proofs.Floods.{drafting-none}
use Rattle.area.specs.Kept.{KeptLink}
use Rattle.area.proofs.Shown.{shown, stays_drafted}
use Rattle.area.proofs.link.Link.remove_retransmission.Goals as goal

pub returns-in-None : goal.returns-in-None
returns-in-None c =
    let l = c.args.self.now in
    let same = ap (λ (k : KeptLink). k.drafted) c.self.view_is in
    let sent = drafting-none l.present.interface.delay l.drafted in
    record {
      link = first_of (search rules, grind (arith, common_steps));
      draft = ap (λ v. v.draft) c.self-inside.view_is ∙ same ∙ sent;
      committed = first_of (search rules, grind (arith, common_steps));
    }

pub returns-in-Some : goal.returns-in-Some
returns-in-Some c = record {
  link = first_of (search rules, grind (arith, common_steps));
  draft = on_ok c.remove_retransmission.result
      (λ _. stays_drafted _ c.args.self.now (ap shown c.self-inside.view_is ∙ c.self.view_is))
      c.remove_retransmission.ensures.ok;
  committed = first_of (search rules, grind (arith, common_steps));
}
