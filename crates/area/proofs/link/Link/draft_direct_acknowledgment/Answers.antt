use Rattle.std.proofs.Common.{[], ◌∷◌, ap, ◌∙◌}
use Rattle.keyed_map.proofs.Helds.{on_ok}
use Rattle.adjacency.specs.Contents.{Acknowledges}
use Rattle.adjacency.specs.Drafts.{drafting}
use Rattle.area.specs.Kept.{KeptLink}
use Rattle.area.proofs.link.Link.draft_direct_acknowledgment.Goals as goal

pub returns : goal.returns
returns c = record {
  link = on_ok c.add_acknowledgment.result
      (λ _. ap (λ (k : KeptLink). k.present) c.self.view_is) c.add_acknowledgment.ensures;
  draft = on_ok c.add_acknowledgment.result
      (λ sent. sent c.self.inside.interface.delay
      ∙ ap (λ (k : KeptLink). drafting k.present.interface.delay
      (Acknowledges c.args.header ∷ []) k.drafted) c.self.view_is)
      c.add_acknowledgment.ensures;
  committed = ap (λ (k : KeptLink). k.committed) c.self.view_is;
}
