use Rattle.std.proofs.Common.{refl, sym, ap, ◌∙◌}
use Rattle.keyed_map.proofs.Helds.{on_ok}
use Rattle.adjacency.specs.Adjacencies.{mismatch_step}
use Rattle.adjacency.specs.Contents.{sent_on, step_on}
use Rattle.adjacency.specs.Drafts.{drafting}
use Rattle.received.specs.Links.{Link}
use Rattle.adjacency.proofs.Floods.{drafting-none}
use Rattle.adjacency.proofs.Timers.{begins_anew, rests_there, rests_unsent, sends_anew}
use Rattle.area.specs.Kept.{KeptLink}
use Rattle.area.specs.Links.{neighbor_step}
use Rattle.area.proofs.Shown.{place_becomes}
use Rattle.area.proofs.link.Link.bad_request.Goals as goal

pub returns-then-exchange_or_later : goal.returns-then-exchange_or_later
returns-then-exchange_or_later c =
    let m = c.args.moment in
    let F = mismatch_step m in
    let o = c.self.inside.slot.present in
    let delay = c.self.inside.interface.delay in
    let is = sym c.is_exchange_or_later-exchange_or_later.ensures ∙ c.if-exchange_or_later.true in
    place_becomes (step_on F) (sent_on F) _ c.args.self.now c.enter_exstart.new.self.present
    c.enter_exstart.new.self.committed c.enter_exstart.new.draft c.enter_exstart.result
    c.self.view_is
    (on_ok c.enter_exstart.result
    (λ made. made ∙ begins_anew m o is
    ∙ ap (λ (k : KeptLink). step_on F k.present.neighbor) c.self.view_is)
    c.enter_exstart.ensures.ok)
    (on_ok c.enter_exstart.result
    (λ sent. sent delay ∙ ap (λ cs. drafting delay cs c.self.inside.draft) (sends_anew m o is)
    ∙ ap (λ (k : KeptLink). drafting k.present.interface.delay (sent_on F k.present.neighbor)
    k.drafted) c.self.view_is)
    c.enter_exstart.ensures.draft)
    (c.enter_exstart.ensures.committed ∙ ap (λ (k : KeptLink). k.committed.neighbor) c.self.view_is)

pub returns : goal.returns
returns c =
    let m = c.args.moment in
    let F = mismatch_step m in
    let o = c.self.inside.slot.present in
    let base : Link = record {
      interface = c.self.inside.interface;
      neighbor = o;
      acknowledgments = c.self.inside.acknowledgments.present;
      last_hello_sent = c.self.inside.last_hello_sent.present;
    } in
    let l = c.args.self.now in
    let is = sym c.is_exchange_or_later-exchange_or_later.ensures ∙ c.if-exchange_or_later.false in
    record {
      link =
          ap (λ (k : KeptLink). k.present) (sym c.self.view_is)
          ∙ ap (λ p. record base { neighbor = p }) (rests_there m o is)
          ∙ ap (λ (k : KeptLink). neighbor_step F k.present) c.self.view_is;
      draft =
          drafting-none l.present.interface.delay l.drafted
          ∙ ap (λ cs. drafting l.present.interface.delay cs l.drafted) (rests_unsent m o is)
          ∙ ap (λ (k : KeptLink). drafting l.present.interface.delay
          (sent_on F k.present.neighbor) l.drafted) c.self.view_is;
      committed = refl;
    }
