use Rattle.std.proofs.Common.{Bool, refl, sym, ap, ◌∙◌}
use Rattle.std.specs.Prelude.{Some}
use Rattle.keyed_map.proofs.Helds.{on_ok}
use Rattle.adjacency.specs.Adjacencies.{after_hello}
use Rattle.adjacency.specs.Drafts.{drafting}
use Rattle.area.specs.Links.{with_neighbor}
use Rattle.router.proofs.ReceivedHellos.{accepted, accepted_sends, ignored, ignored_sends}
use Rattle.router.proofs.received_hellos.ReceivingHelloLinkStep.apply.Goals as goal

pub returns-then-accepted : goal.returns-then-accepted
returns-then-accepted c =
    let a = c.args.self.now in
    let l = c.args.link.now.present in
    let delay = l.interface.delay in
    let d = c.args.link.now.drafted in
    let accepts = sym c.accepts-accepted.ensures ∙ c.if-accepted.true in
    record {
      link = on_ok c.receive_hello.result
          (λ is. is ∙ ap (λ (b : Bool). with_neighbor
          (Some (after_hello a.moment a.from b l.neighbor).neighbor) l) c.names-lists_us.ensures
          ∙ accepted a.own a.moment a.from a.hello.now l accepts)
          c.receive_hello.ensures.link;
      draft = on_ok c.receive_hello.result
          (λ is. is ∙ ap (λ (b : Bool). drafting delay
          (after_hello a.moment a.from b l.neighbor).sends d) c.names-lists_us.ensures
          ∙ accepted_sends a.own a.moment a.from a.hello.now l delay d accepts)
          c.receive_hello.ensures.draft;
      committed = c.receive_hello.ensures.committed;
    }

pub returns : goal.returns
returns c =
    let a = c.args.self.now in
    let l = c.args.link.now.present in
    let ignores = sym c.accepts-accepted.ensures ∙ c.if-accepted.false in
    record {
      link = ignored a.own a.moment a.from a.hello.now l ignores;
      draft = ignored_sends a.own a.moment a.from a.hello.now l l.interface.delay
          c.args.link.now.drafted ignores;
      committed = refl;
    }
