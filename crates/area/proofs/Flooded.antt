-- The flooding loop over the links.
use Rattle.std.proofs.Common.{◌≡◌, ℕ, ◌+◌, Bool, true, false, cond, not, ◌&&◌, ◌||◌, List, [], ◌∷◌}
use Rattle.std.proofs.Common.{map, refl, sym, ap, ◌∙◌}
use Rattle.std.specs.Prelude.{Option, None, Some}
use Rattle.std.specs.List.{fold}
use Rattle.lsdb.specs.Copies.{Database, mark_sent}
use Rattle.lsdb.specs.Headers.{Lsa, lsa_key}
use Rattle.adjacency.specs.Contents.{Content, Step, Updates, no_sends}
use Rattle.adjacency.specs.Contents as neighbor
use Rattle.adjacency.specs.Drafts.{Drafted, drafting}
use Rattle.adjacency.specs.Floods.{flood_step, is_any}
use Rattle.adjacency.specs.Neighbors.{Neighbor, is_exchange_or_later}
use Rattle.adjacency.specs.Retransmissions.{add_retransmission, remove_retransmission}
use Rattle.received.specs.Flooding.{flood_to, is_incoming, exceeds_request, request_of}
use Rattle.received.specs.Flooding.{without_satisfied_request}
use Rattle.received.specs.Links.{Link}
use Rattle.received.specs.AreaStates.{Send, Stepping, marked_database, sent_on, step_on}
use Rattle.received.specs.AreaStates.{stepped_links, stepping_sends}
use Rattle.area.specs.Drafted.{drafted_from}
use Rattle.area.specs.Kept.{KeptLink}
use Rattle.area.specs.Links.{draft_of, present, with_neighbor}
use Rattle.area.proofs.Finish.{Finishes, finish_counts, finish_drafts, items_all}
use Rattle.area.proofs.Sends.{any_from, any_is, draft_from, drafts_are}
use Rattle.area.proofs.Marks.{marks_all}

-- ---- a neighbor's step is that of the definition, by whether the link is the sender's

pub flooded_to : (moment : ℕ) (sender : Option ℕ) (lsa : Lsa) (number : ℕ) (link : Link)
    (n : Neighbor) → flood_to moment sender lsa number link n
    ≡ flood_step moment (is_incoming sender number) lsa n
unfolding flood_step
flooded_to moment sender lsa number link n = refl

pub step_is : (moment : ℕ) (sender : Option ℕ) (lsa : Lsa) (number : ℕ) (link : Link)
    (o : Option Neighbor) → neighbor.step_on (flood_step moment (is_incoming sender number) lsa)
    o
    ≡ step_on (flood_to moment sender lsa number link) o
step_is moment sender lsa number link None = refl
step_is moment sender lsa number link (Some n) =
    ap (λ (s : Step). Some s.neighbor) (sym (flooded_to moment sender lsa number link n))

pub sent_is : (moment : ℕ) (sender : Option ℕ) (lsa : Lsa) (number : ℕ) (link : Link)
    (o : Option Neighbor) → neighbor.sent_on (flood_step moment (is_incoming sender number) lsa)
    o
    ≡ sent_on (flood_to moment sender lsa number link) o
sent_is moment sender lsa number link None = refl
sent_is moment sender lsa number link (Some n) =
    ap (λ (s : Step). s.sends) (sym (flooded_to moment sender lsa number link n))

-- ---- a Link State Update to each neighbor, or nothing

one_by : (lsa : Lsa) (n m r : Neighbor) (part gets : Bool)
    → (cond part (cond gets (record {
      neighbor = m;
      sends = Updates lsa ∷ [];
    }) (no_sends r)) (no_sends n)).sends
    ≡ cond (is_any (cond part (cond gets (record {
      neighbor = m;
      sends = Updates lsa ∷ [];
    }) (no_sends r)) (no_sends n)).sends) (Updates lsa ∷ []) []
one_by lsa n m r true true = refl
one_by lsa n m r true false = refl
one_by lsa n m r false gets = refl

module _ (moment : ℕ) (sender : Option ℕ) (lsa : Lsa) where
  abbrev pub step : Stepping
  step = flood_to moment sender lsa

  abbrev pub sent_at : ℕ → Link → List Content
  sent_at n l = sent_on (step n l) l.neighbor

  abbrev pub after_step : ℕ → Link → Link
  after_step n l = with_neighbor (step_on (step n l) l.neighbor) l

  abbrev pub after_draft : ℕ → Link → Drafted → Drafted
  after_draft n l d = drafting l.interface.delay (sent_at n l) d

  abbrev pub counts : ℕ → Link → Bool
  counts n l = is_any (sent_at n l)

  one_on : (number : ℕ) (link : Link) (o : Option Neighbor)
      → sent_on (step number link) o ≡ cond (is_any (sent_on (step number link) o))
      (Updates lsa ∷ []) []
  one_on number link None = refl
  one_on number link (Some n) =
      let m = without_satisfied_request moment lsa n in
      one_by lsa n (add_retransmission moment lsa.header m) (remove_retransmission (lsa_key lsa) m)
      (is_exchange_or_later n.state) (not (is_incoming sender number)
      && exceeds_request moment lsa
      (request_of n lsa))

  -- a Link State Update to each neighbor, or nothing
  pub one : (number : ℕ) (link : Link)
      → sent_at number link ≡ cond (is_any (sent_at number link)) (Updates lsa ∷ []) []
  one number link = one_on number link link.neighbor

  drafts_all : (n : ℕ) (xs : List KeptLink)
      → finish_drafts present draft_of after_step after_draft counts 0 n xs
      ≡ draft_from sent_at n (map present xs) (map draft_of xs)
  drafts_all n [] = refl
  drafts_all n (x ∷ xs) = ap (λ zs. after_draft n (present x) (draft_of x) ∷ zs)
      (drafts_all (n + 1) xs)

  counts_all : (n : ℕ) (xs : List KeptLink)
      → finish_counts present draft_of after_step after_draft counts 0 n xs
      ≡ any_from sent_at n (map present xs)
  counts_all n [] = refl
  counts_all n (x ∷ xs) = ap (λ b. counts n (present x) || b) (counts_all (n + 1) xs)

  -- before the first step
  abbrev pub Floods : ℕ → List KeptLink → Bool → List Link → List Drafted → Type 0
  Floods i xs sent olds drafts =
      Finishes present draft_of after_step after_draft counts i xs sent (stepped_links step olds)
      (drafted_from 1 (stepping_sends step olds) olds drafts)
      (is_any (stepping_sends step olds))

  pub begins : (xs : List KeptLink) → Floods 0 xs false (map present xs) (map draft_of xs)
  begins xs = record {
    items_is = items_all present draft_of after_step after_draft counts 1 xs;
    drafts_is = drafts_all 1 xs ∙ sym (drafts_are sent_at (map present xs) (map draft_of xs));
    counts_is = counts_all 1 xs ∙ any_is sent_at 1 (map present xs);
  }

  -- the marks of all Link State Updates are one mark
  pub marks_once : (links : List Link) (d : Database)
      → fold (λ (db : Database) (s : Send). marked_database moment db s.content) d
      (stepping_sends step links) ≡ cond (is_any (stepping_sends step links))
      (mark_sent moment (lsa_key lsa) d) d
  marks_once links d = marks_all sent_at moment lsa one 1 links d
