use Rattle.std.proofs.Common.{◌≡◌, rules, arith, ap, ◌∙◌}
use Rattle.std.proofs.lemmas.Grind.{common_steps}
use Rattle.std.specs.Prelude.{None}
use Rattle.lsdb.specs.Copies.{lsa_now}
use Rattle.adjacency.specs.Floods.{flood_step}
use Rattle.area.specs.Kept.{KeptLink}
use Rattle.area.proofs.Silent.{none_sent}
use Rattle.area.proofs.link.Link.flood.Goals as goal

pub returns-in_default-clause-does : goal.returns-in_default-clause-does
returns-in_default-clause-does c =
    let l = c.args.self.now in
    let none : l.present.neighbor ≡ None = search rules in
    let same = ap (λ (k : KeptLink). k.drafted) c.self.view_is in
    let sent =
    none_sent (flood_step c.args.moment c.args.came_in (lsa_now c.args.moment c.args.copy.now))
    l.present.neighbor l.present.interface.delay l.drafted none in
    record {
      link = first_of (search rules, grind (arith, common_steps));
      draft = ap (λ v. v.draft) c.self-inside.view_is ∙ same ∙ sent;
      committed = first_of (search rules, grind (arith, common_steps));
    }
