use Rattle.std.proofs.Common.{map, ap, ◌∙◌}
use Rattle.std.specs.FinMap as finite
use Rattle.keyed_map.proofs.Helds.{on_ok}
use Rattle.adjacency.specs.Contents.{Acknowledges}
use Rattle.adjacency.specs.Drafts.{drafting}
use Rattle.received.specs.Links.{Link}
use Rattle.area.specs.Kept.{KeptLink}
use Rattle.area.proofs.Acknowledged.{all_left}
use Rattle.area.proofs.link.Link.draft_delayed_acknowledgments.Goals as goal

pub returns : goal.returns
returns c =
    let inside = c.self.inside in
    let m = inside.acknowledgments.present in
    let base : Link = record {
      interface = inside.interface;
      neighbor = inside.slot.present;
      acknowledgments = m;
      last_hello_sent = inside.last_hello_sent.present;
    } in
    let before : Link = record {
      interface = inside.interface;
      neighbor = inside.slot.committed;
      acknowledgments = inside.acknowledgments.committed;
      last_hello_sent = inside.last_hello_sent.committed;
    } in
    let none = all_left m c.deref.result.now c.len-count.result c.len-count.ensures
    (c.deref.ensures.value ∙ c.in_ok-keys.ensures) in
    record {
      link = on_ok c.remove_headers.result
          (λ is. ap (λ a. record base { acknowledgments = a }) (is ∙ none)
          ∙ ap (λ (k : KeptLink). record k.present { acknowledgments = finite.empty })
          c.self.view_is)
          c.remove_headers.ensures.ok;
      draft = on_ok c.remove_headers.result
          (λ _. c.in_ok-draft_headers.ensures inside.interface.delay
          ∙ ap (λ (k : KeptLink). drafting k.present.interface.delay
          (map Acknowledges (finite.values k.present.acknowledgments)) k.drafted) c.self.view_is)
          c.remove_headers.ensures.ok;
      committed = ap (λ a. record before { acknowledgments = a }) c.remove_headers.ensures.committed
          ∙ ap (λ (k : KeptLink). k.committed) c.self.view_is;
    }
