use Rattle.std.proofs.Common.{◌≡◌, rules, arith, sym, ap, ◌∙◌}
use Rattle.std.proofs.lemmas.Grind.{common_steps}
use Rattle.std.specs.Prelude.{Option, None, Some}
use Rattle.keyed_map.proofs.Helds.{on_ok}
use Rattle.adjacency.specs.Adjacencies.{after_hello}
use Rattle.adjacency.specs.Contents.{Step}
use Rattle.adjacency.specs.Drafts.{drafting}
use Rattle.adjacency.specs.Neighbors.{Neighbor}
use Rattle.adjacency.specs.Views.{restarted, restarts, committed_among}
use Rattle.adjacency.proofs.Floods.{drafting-none}
use Rattle.adjacency.proofs.Neighbors.{none_restarts, some_restarts, some_rests}
use Rattle.area.specs.Kept.{KeptLink}
use Rattle.area.proofs.Shown.{place_becomes, shown}
use Rattle.area.proofs.link.Link.receive_hello.Goals as goal

pub returns-in_default : goal.returns-in_default
returns-in_default c =
    let old = c.args.self.now in
    let l = old.present in
    let delay = l.interface.delay in
    let none : l.neighbor ≡ None = search rules in
    let after = after_hello c.args.moment c.args.from c.args.lists_us in
    let starts = none_restarts c.args.moment c.args.from c.args.lists_us ∙ ap after (sym none) in
    place_becomes (λ (o : Option Neighbor). Some (after o).neighbor)
    (λ (o : Option Neighbor). (after o).sends) _ old c.restart.new.self.present
    c.restart.new.self.committed c.restart.new.draft c.restart.result
    (ap shown c.self-inside.view_is ∙ c.self.view_is)
    (on_ok c.restart.result (λ is. is ∙ ap (λ (s : Step). Some s.neighbor) starts)
    c.restart.ensures.ok)
    (on_ok c.restart.result
    (λ is. is delay
    ∙ (λ i. drafting delay (starts i).sends
    ((ap (λ v. v.draft) c.self-inside.view_is ∙ ap (λ (k : KeptLink). k.drafted) c.self.view_is)
    i)))
    c.restart.ensures.draft)
    (c.restart.ensures.committed ∙ ap (λ v. v.slot.committed) c.self-inside.view_is
    ∙ ap (λ (k : KeptLink). k.committed.neighbor) c.self.view_is)

pub returns-then-restarts : goal.returns-then-restarts
returns-then-restarts c =
    let old = c.args.self.now in
    let l = old.present in
    let delay = l.interface.delay in
    let n = c.in-Some.neighbor.present in
    let some : l.neighbor ≡ Some n = search rules in
    let after = after_hello c.args.moment c.args.from c.args.lists_us in
    let stands = c.standing-standing.ensures in
    let starts = some_restarts c.args.moment c.args.from n c.args.lists_us
    (sym (ap (λ s. restarts s.state c.args.lists_us) stands) ∙ sym c.restarts-restarts.ensures
    ∙ c.if-restarts.true) ∙ ap after (sym some) in
    place_becomes (λ (o : Option Neighbor). Some (after o).neighbor)
    (λ (o : Option Neighbor). (after o).sends) _ old c.restart-then-restarts.new.self.present
    c.restart-then-restarts.new.self.committed c.restart-then-restarts.new.draft
    c.restart-then-restarts.result
    (ap shown c.self-inside.view_is ∙ c.self.view_is)
    (on_ok c.restart-then-restarts.result
    (λ is. is
    ∙ (λ i. Some (restarted c.args.moment (stands i).router (stands i).dd_sequence_start
    c.args.lists_us).neighbor)
    ∙ ap (λ (s : Step). Some s.neighbor) starts)
    c.restart-then-restarts.ensures.ok)
    (on_ok c.restart-then-restarts.result
    (λ is. is delay
    ∙ (λ i. drafting delay (restarted c.args.moment (stands i).router (stands i).dd_sequence_start
    c.args.lists_us).sends
    ((ap (λ v. v.draft) c.self-inside.view_is ∙ ap (λ (k : KeptLink). k.drafted) c.self.view_is)
    i))
    ∙ ap (λ (s : Step). drafting delay s.sends old.drafted) starts)
    c.restart-then-restarts.ensures.draft)
    (c.restart-then-restarts.ensures.committed
    ∙ ap (committed_among c.self-inside.inside.0.1.0.before) (sym c.in-Some.is)
    ∙ ap (λ v. v.slot.committed) c.self-inside.view_is
    ∙ ap (λ (k : KeptLink). k.committed.neighbor) c.self.view_is)

pub returns : goal.returns
returns c =
    let old = c.args.self.now in
    let l = old.present in
    let delay = l.interface.delay in
    let n = c.in-Some.neighbor.present in
    let some : l.neighbor ≡ Some n = search rules in
    let after = after_hello c.args.moment c.args.from c.args.lists_us in
    let stands = c.standing-standing.ensures in
    let rests = some_rests c.args.moment c.args.from n c.args.lists_us
    (sym (ap (λ s. restarts s.state c.args.lists_us) stands) ∙ sym c.restarts-restarts.ensures
    ∙ c.if-restarts.false) ∙ ap after (sym some) in
    let now = ap (λ k. Some k.present) c.restart_inactivity_timer.ensures
    ∙ ap (λ (s : Step). Some s.neighbor) rests in
    record {
      link =
          (λ i. record l {
            interface = (c.self-inside.view_is i).interface;
            neighbor = now i;
            acknowledgments = (c.self-inside.view_is i).acknowledgments.present;
            last_hello_sent = (c.self-inside.view_is i).last_hello_sent.present;
          })
          ∙ ap (λ (k : KeptLink). record k.present { neighbor = Some (after l.neighbor).neighbor })
          c.self.view_is;
      draft =
          ap (λ v. v.draft) c.self-inside.view_is ∙ ap (λ (k : KeptLink). k.drafted) c.self.view_is
          ∙ drafting-none delay old.drafted
          ∙ ap (λ (s : Step). drafting delay s.sends old.drafted) rests;
      committed = first_of (search rules, grind (arith, common_steps));
    }
