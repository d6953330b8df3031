-- A link from its fields, and what happens to the neighbor in its place.
use Rattle.std.proofs.Common.{◌≡◌, List, [], Option, Result, OnOk, ap, ◌∙◌}
use Rattle.keyed_map.proofs.Helds.{on_ok}
use Rattle.adjacency.specs.Contents.{Content}
use Rattle.adjacency.specs.Drafts.{Drafted, drafting}
use Rattle.adjacency.specs.Neighbors.{Neighbor}
use Rattle.adjacency.proofs.Floods.{drafting-none}
use Rattle.received.specs.Links.{Link}
use Rattle.area.specs.declared.link.Link.TheInside.{Inside}
use Rattle.area.specs.Doing.{LinkDoes}
use Rattle.area.specs.Kept.{KeptLink}
use Rattle.area.specs.Links.{with_neighbor}

abbrev pub shown : Inside → KeptLink
shown a = record {
  present = record {
    interface = a.interface;
    neighbor = a.slot.present;
    acknowledgments = a.acknowledgments.present;
    last_hello_sent = a.last_hello_sent.present;
  };
  committed = record {
    interface = a.interface;
    neighbor = a.slot.committed;
    acknowledgments = a.acknowledgments.committed;
    last_hello_sent = a.last_hello_sent.committed;
  };
  drafted = a.draft;
}

-- nothing is sent
pub stays_drafted : (k old : KeptLink) → k ≡ old
    → k.drafted ≡ drafting old.present.interface.delay [] old.drafted
stays_drafted k old is = ap (λ (l : KeptLink). l.drafted) is
    ∙ drafting-none old.present.interface.delay old.drafted

-- `now` is the neighbor afterwards, `before` the one that is committed, and d the draft
pub place_becomes : {X E : Type 0} (g : Option Neighbor → Option Neighbor)
    (s : Option Neighbor → List Content) (k old : KeptLink) (now before : Option Neighbor)
    (d : Drafted) (r : Result X E) → k ≡ old → OnOk r (now ≡ g old.present.neighbor)
    → OnOk r (d ≡ drafting old.present.interface.delay (s old.present.neighbor) old.drafted)
    → before ≡ old.committed.neighbor
    → LinkDoes (λ (l : Link). with_neighbor (g l.neighbor) l) (λ (l : Link). s l.neighbor) old
    (record {
      present = with_neighbor now k.present;
      committed = with_neighbor before k.committed;
      drafted = d;
    }) r
place_becomes g s k old now before d r is to sent stays = record {
  link = on_ok r (λ e. (λ j. with_neighbor (e j) (is j).present)) to;
  draft = sent;
  committed = λ j. with_neighbor (stays j) (is j).committed;
}
