-- What a call does to one link, as a part of all links: x is the link before, the one at this
-- index, and y the link afterwards.
use Rattle.std.proofs.Common.{◌≡◌, ℕ, ◌+◌, ◌<◌, List, [], length, map, get_or, set, Result, ap}
use Rattle.std.proofs.Common.{◌∙◌}
use Rattle.keyed_map.proofs.Helds.{on_ok}
use Rattle.adjacency.specs.Contents.{Content, Step}
use Rattle.adjacency.specs.Neighbors.{Neighbor}
use Rattle.adjacency.specs.Drafts.{drafting}
use Rattle.received.specs.Links.{Link, change_link}
use Rattle.received.specs.AreaStates.{Send, only_at, sends_at, stepped_links, stepping_sends}
use Rattle.area.specs.Doing.{LinkDoes, LinksDo}
use Rattle.area.specs.Drafted.{drafts_with}
use Rattle.area.specs.Kept.{KeptLink}
use Rattle.area.specs.Links.{committed_link, draft_of, neighbor_sends, neighbor_step, present}
use Rattle.area.proofs.Kept.{shows_kept}
use Rattle.area.proofs.Only.{drafts_sent, links_changed, links_stepped, sends_stepped}

module _ (ls : List KeptLink) (i k : ℕ) (d y : KeptLink) (lt : i < length ls) (at : k ≡ 1 + i)
    (read : d ≡ get_or ls i d) where
  abbrev pub x : KeptLink
  x = get_or ls i d

  committed_there : y.committed ≡ x.committed
      → map committed_link (set ls i y) ≡ map committed_link ls
  committed_there is = shows_kept committed_link ls i d y read is

  drafted_there : (cs : List Content)
      → y.drafted ≡ drafting x.present.interface.delay cs x.drafted
      → map draft_of (set ls i y) ≡ drafts_with (sends_at k cs) (map present ls) (map draft_of ls)
  drafted_there cs is = drafts_sent ls i k y d lt at cs is

  changed_there : (change : Link → Link) → y.present ≡ change x.present
      → map present (set ls i y) ≡ change_link k change (map present ls)
  changed_there change is = links_changed ls i k y d lt at change is

  stepped_there : (f : Neighbor → Step) → y.present ≡ neighbor_step f x.present
      → map present (set ls i y) ≡ stepped_links (only_at k f) (map present ls)
  stepped_there f is = links_stepped ls i k y d lt at f is

  sent_there : (f : Neighbor → Step) → sends_at k (neighbor_sends f x.present)
      ≡ stepping_sends (only_at k f) (map present ls)
  sent_there f = sends_stepped ls i k y d lt at f

  module _ {X E : Type 0} (r : Result X E) where
    -- it sends this, and stays as it is
    pub one_sends : (cs : List Content) → LinkDoes (λ (l : Link). l) (λ (l : Link). cs) x y r
        → LinksDo (λ (ms : List Link). ms) (λ (ms : List Link). sends_at k cs) ls (set ls i y) r
    one_sends cs does = record {
      links = on_ok r (λ is. shows_kept present ls i d y read is) does.link;
      drafts = on_ok r (λ is. drafted_there cs is) does.draft;
      committed = committed_there does.committed;
    }

    -- it is changed, and sends nothing
    pub one_changes : (change : Link → Link) → LinkDoes change (λ (l : Link). []) x y r
        → LinksDo (change_link k change) (λ (ms : List Link). []) ls (set ls i y) r
    one_changes change does = record {
      links = on_ok r (λ is. changed_there change is) does.link;
      drafts = on_ok r (λ is. drafted_there [] is) does.draft;
      committed = committed_there does.committed;
    }

    -- its neighbor takes a step
    pub one_steps : (f : Neighbor → Step)
        → LinkDoes (neighbor_step f) (neighbor_sends f) x y r
        → LinksDo (stepped_links (only_at k f)) (stepping_sends (only_at k f)) ls (set ls i y) r
    one_steps f does = record {
      links = on_ok r (λ is. stepped_there f is) does.link;
      drafts = on_ok r (λ is.
          drafted_there (neighbor_sends f x.present) is
          ∙ ap (λ (ss : List Send). drafts_with ss (map present ls) (map draft_of ls))
          (sent_there f)) does.draft;
      committed = committed_there does.committed;
    }

    -- its neighbor takes a step, and nothing is sent
    pub one_steps_silently : (f : Neighbor → Step)
        → LinkDoes (neighbor_step f) (λ (l : Link). []) x y r
        → LinksDo (stepped_links (only_at k f)) (λ (ms : List Link). []) ls (set ls i y) r
    one_steps_silently f does = record {
      links = on_ok r (λ is. stepped_there f is) does.link;
      drafts = on_ok r (λ is. drafted_there [] is) does.draft;
      committed = committed_there does.committed;
    }
