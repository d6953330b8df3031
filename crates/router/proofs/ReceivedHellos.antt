-- A Hello on one link.
use Rattle.std.proofs.Common.{◌≡◌, ℕ, ◌≤◌, Bool, true, false, cond, List, [], length, sym, ap, ◌∙◌}
use Rattle.std.specs.Prelude.{Option, Some}
use Rattle.lsdb.specs.Copies.{Database}
use Rattle.packet.specs.declared.model.Hello.{Hello}
use Rattle.adjacency.specs.Contents.{Content, Step}
use Rattle.adjacency.specs.Drafts.{Drafted, drafting}
use Rattle.adjacency.proofs.Floods.{drafting-none}
use Rattle.received.specs.Links.{Area, Link}
use Rattle.event_rules.specs.Hellos.{accepts}
use Rattle.event_rules.specs.Packets.{accept_hello, receive_hello, receive_hello_on}
use Rattle.area.specs.Links.{with_no_sends, with_neighbor}
use Rattle.area.specs.Steps.{one_link}
use Rattle.router.specs.ReceivedHellos.{after_received_hello, hello_step}
use Rattle.router.specs.ReceivedHellos.{sent_at_received_hello}
use Rattle.router.proofs.OneLink.{changes_one, leaves, link, link_is, one_link_is, stays}

module _ (own moment from : ℕ) (h : Hello) (l : Link) where
  abbrev pub after_by : Bool → Link
  after_by b = cond b (with_neighbor (Some (hello_step own moment from h l).neighbor) l) l

  abbrev pub sent_by : Bool → List Content
  sent_by b = cond b (hello_step own moment from h l).sends []

  pub accepted : accepts own from h l ≡ true
      → with_neighbor (Some (hello_step own moment from h l).neighbor) l
      ≡ after_received_hello own moment from h l
  accepted is = ap after_by (sym is)

  pub ignored : accepts own from h l ≡ false → l ≡ after_received_hello own moment from h l
  ignored is = ap after_by (sym is)

  pub accepted_sends : (delay : ℕ) (d : Drafted) → accepts own from h l ≡ true
      → drafting delay (hello_step own moment from h l).sends d
      ≡ drafting delay (sent_at_received_hello own moment from h l) d
  accepted_sends delay d is = ap (λ b. drafting delay (sent_by b) d) (sym is)

  pub ignored_sends : (delay : ℕ) (d : Drafted) → accepts own from h l ≡ false
      → d ≡ drafting delay (sent_at_received_hello own moment from h l) d
  ignored_sends delay d is = drafting-none delay d ∙ ap (λ b. drafting delay (sent_by b) d) (sym is)

-- at the interface with this number
module _ (own moment k from : ℕ) (h : Hello) (a : Area) (first : 1 ≤ k) (last : k ≤ length a.links)
  where
    here : Link
    here = link moment k a first last

    by_test : (b : Bool) → leaves moment k a first last
        (sent_by own moment from h (link moment k a first last) b)
        (after_by own moment from h (link moment k a first last) b)
        ≡ cond b (accept_hello moment k (hello_step own moment from h (link moment k a first last))
        (with_no_sends a))
        (with_no_sends a)
    by_test true =
        let s : Step = hello_step own moment from h (link moment k a first last) in
        changes_one moment k a first last (with_neighbor (Some s.neighbor)) s.sends
    by_test false = stays moment k a first last []

    pub hears : one_link moment k (λ (db : Database) (l : Link). after_received_hello own moment
        from h l) (λ (db : Database) (l : Link). sent_at_received_hello own moment from h l)
        (with_no_sends a)
        ≡ receive_hello own moment k from h (with_no_sends a)
    hears =
        one_link_is moment k a first last
        (λ (db : Database) (l : Link). after_received_hello own moment from h l)
        (λ (db : Database) (l : Link). sent_at_received_hello own moment from h l)
        ∙ by_test (accepts own from h (link moment k a first last))
        ∙ ap (λ (o : Option Link). receive_hello_on own moment k from h o (with_no_sends a))
        (sym (link_is moment k a first last))
