use Rattle.std.proofs.Common.{ℕ, [], ◌∷◌, Option, Some, ap, ◌∙◌}
use Rattle.keyed_map.proofs.Helds.{on_ok}
use Rattle.adjacency.specs.Contents.{SendsHello}
use Rattle.adjacency.specs.Drafts.{drafting}
use Rattle.adjacency.specs.Kept.{Kept}
use Rattle.received.specs.Links.{Link}
use Rattle.area.specs.Kept.{KeptLink}
use Rattle.area.proofs.link.Link.draft_hello.Goals as goal

pub returns : goal.returns
returns c =
    let inside = c.self.inside in
    let base : Link = record {
      interface = inside.interface;
      neighbor = inside.slot.present;
      acknowledgments = inside.acknowledgments.present;
      last_hello_sent = inside.last_hello_sent.present;
    } in
    let before : Link = record {
      interface = inside.interface;
      neighbor = inside.slot.committed;
      acknowledgments = inside.acknowledgments.committed;
      last_hello_sent = inside.last_hello_sent.committed;
    } in
    record {
      link = on_ok c.add_hello.result
          (λ _. ap (λ (s : Kept (Option ℕ)). record base { last_hello_sent = s.present })
          c.set.ensures
          ∙ ap (λ (k : KeptLink). record k.present { last_hello_sent = Some c.args.moment })
          c.self.view_is)
          c.add_hello.ensures;
      draft = on_ok c.add_hello.result
          (λ sent. sent inside.interface.delay
          ∙ ap (λ (k : KeptLink). drafting k.present.interface.delay
          (SendsHello c.args.hello ∷ []) k.drafted) c.self.view_is)
          c.add_hello.ensures;
      committed =
          ap (λ (s : Kept (Option ℕ)). record before {
            last_hello_sent = s.committed;
          }) c.set.ensures
          ∙ ap (λ (k : KeptLink). k.committed) c.self.view_is;
    }
