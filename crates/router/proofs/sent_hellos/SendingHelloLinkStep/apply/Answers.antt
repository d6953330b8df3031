use Rattle.std.proofs.Common.{[], ◌∷◌, refl, sym, ap, ◌∙◌}
use Rattle.adjacency.specs.Contents.{SendsHello}
use Rattle.adjacency.specs.Drafts.{drafting}
use Rattle.keyed_map.proofs.Helds.{on_ok}
use Rattle.router.proofs.SentHellos.{greeted, greeting_sent, nothing_sent, silent}
use Rattle.router.proofs.sent_hellos.SendingHelloLinkStep.apply.Goals as goal

pub returns-then-due : goal.returns-then-due
returns-then-due c =
    let m = c.args.self.now.moment in
    let l = c.args.link.now.present in
    let delay = l.interface.delay in
    let d = c.args.link.now.drafted in
    let due = sym c.hello_is_due-due.ensures ∙ c.if-due.true in
    record {
      link = on_ok c.draft_hello.result (λ is. is ∙ greeted m l due) c.draft_hello.ensures.link;
      draft = on_ok c.draft_hello.result (λ sent.
          sent ∙ ap (λ h. drafting delay (SendsHello h ∷ []) d) c.in_ok-hello.ensures
          ∙ greeting_sent m l delay d due) c.draft_hello.ensures.draft;
      committed = c.draft_hello.ensures.committed;
    }

pub returns : goal.returns
returns c =
    let m = c.args.self.now.moment in
    let l = c.args.link.now.present in
    let early = sym c.hello_is_due-due.ensures ∙ c.if-due.false in
    record {
      link = silent m l early;
      draft = nothing_sent m l l.interface.delay c.args.link.now.drafted early;
      committed = refl;
    }
