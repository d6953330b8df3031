use Rattle.std.proofs.Common.{[], ◌∷◌, ap, ◌∙◌}
use Rattle.keyed_map.proofs.Helds.{on_ok}
use Rattle.lsdb.specs.Copies.{lsa_now}
use Rattle.adjacency.specs.Contents.{Updates}
use Rattle.adjacency.specs.Drafts.{drafting}
use Rattle.area.specs.Kept.{KeptLink}
use Rattle.area.proofs.link.Link.draft_copy.Goals as goal

pub returns : goal.returns
returns c =
    let cs = Updates (lsa_now c.args.moment c.args.copy.now) ∷ [] in
    record {
      link = on_ok c.add_update.result
          (λ _. ap (λ (k : KeptLink). k.present) c.self.view_is) c.add_update.ensures;
      draft = on_ok c.add_update.result
          (λ sent. sent ∙ ap (λ (k : KeptLink). drafting k.present.interface.delay cs k.drafted)
          c.self.view_is)
          c.add_update.ensures;
      committed = ap (λ (k : KeptLink). k.committed) c.self.view_is;
    }
