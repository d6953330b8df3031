use Rattle.std.proofs.Common.{ap, ◌∙◌}
use Rattle.std.specs.FinMap as finite
use Rattle.keyed_map.proofs.Helds.{on_ok}
use Rattle.words.specs.declared.key.Key.{Key}
use Rattle.received.specs.Links.{Link, delay_acknowledgment}
use Rattle.area.specs.Kept.{KeptLink}
use Rattle.area.proofs.Shown.{stays_drafted}
use Rattle.area.proofs.link.Link.delay_acknowledgment.Goals as goal

pub returns : goal.returns
returns c =
    let h = c.args.header in
    let inside = c.self.inside in
    let base : Link = record {
      interface = inside.interface;
      neighbor = inside.slot.present;
      acknowledgments = inside.acknowledgments.present;
      last_hello_sent = inside.last_hello_sent.present;
    } in
    let before : Link = record {
      interface = inside.interface;
      neighbor = inside.slot.committed;
      acknowledgments = inside.acknowledgments.committed;
      last_hello_sent = inside.last_hello_sent.committed;
    } in
    record {
      link = on_ok c.insert.result
          (λ is. ap (λ a. record base { acknowledgments = a })
          (is ∙ ap (λ (k : Key). finite.insert inside.acknowledgments.present k h) c.key.ensures)
          ∙ ap (λ (k : KeptLink). delay_acknowledgment h k.present) c.self.view_is)
          c.insert.ensures.ok;
      draft = on_ok c.insert.result
          (λ _. stays_drafted _ c.args.self.now c.self.view_is) c.insert.ensures.ok;
      committed = ap (λ a. record before { acknowledgments = a }) c.insert.ensures.committed
          ∙ ap (λ (k : KeptLink). k.committed) c.self.view_is;
    }
