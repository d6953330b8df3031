-- What a Tick does to a neighbor, by the tests.
use Rattle.std.proofs.Common.{◌≡◌, ℕ, ◌+◌, ◌==◌, Bool, true, false, cond, not, ◌&&◌, List, [], ◌∷◌}
use Rattle.std.proofs.Common.{◌++◌, map, refl, sym, ap, ◌∙◌}
use Rattle.std.specs.Prelude.{Option, None, Some, nat_le}
use Rattle.std.specs.List.{filter}
use Rattle.std.specs.FinMap as finite
use Rattle.std.specs.FinSet as set
use Rattle.lsdb.specs.Headers.{Lsa}
use Rattle.lsdb.specs.Instances.{ListEntry}
use Rattle.lsdb.specs.Keys.{ByKey}
use Rattle.packet.specs.declared.model.Description.{Description}
use Rattle.adjacency.specs.declared.standing.Standing.{Standing}
use Rattle.adjacency.specs.declared.state.NeighborState.{NeighborState}
use Rattle.adjacency.specs.declared.state.NeighborState.TheVariants.{Init, ExStart, Exchange}
use Rattle.adjacency.specs.declared.state.NeighborState.TheVariants.{Loading, Full}
use Rattle.adjacency.specs.Adjacencies.{enter_exstart, has_passed, loading_done, loading_done_in}
use Rattle.adjacency.specs.Adjacencies.{mismatch_step, requests_nothing}
use Rattle.adjacency.specs.Contents.{Step, Updates, no_sends, sent_on, step_on, then_}
use Rattle.adjacency.specs.Descriptions.{without_old_description}
use Rattle.adjacency.specs.Drafts.{Drafted, drafting}
use Rattle.adjacency.specs.Neighbors.{Neighbor}
use Rattle.adjacency.specs.Retransmissions.{repeats_description, that_fit}
use Rattle.adjacency.specs.Requests.{still_outstanding}
use Rattle.adjacency.specs.Steps.{neighbor_is_exchange_or_later}
use Rattle.adjacency.specs.Timers.{description_is_due, full_where, is_any_inactive, request_is_due}
use Rattle.adjacency.specs.Timers.{expire_neighbor_timers, retransmission_is_due}
use Rattle.adjacency.specs.Views.{keys_of, neighbor_of}
use Rattle.adjacency.proofs.Sends.{drafting-append}
use Rattle.adjacency.proofs.Sets.{empty_keys}

-- ---- Loading

full_by : (b : Bool) (n : Neighbor) → record n {
  state = cond b Full Loading;
} ≡ cond b (record n { state = Full }) (record n { state = Loading })
full_by true n = refl
full_by false n = refl

done_in : (s : NeighborState) (n : Neighbor) → record n {
  state = full_where s (requests_nothing n);
} ≡ loading_done_in s (record n { state = s })
done_in Init n = refl
done_in ExStart n = refl
done_in Exchange n = refl
done_in Loading n = full_by (requests_nothing n) n
done_in Full n = refl

pub loading_is_done : (n : Neighbor) → record n {
  state = full_where n.state (requests_nothing n);
} ≡ loading_done n
loading_is_done n = done_in n.state n

-- ---- the fields

module _ {X : Type 0} (s : Standing) (des : Option Description) (sum req : ByKey ListEntry)
    (out : ByKey X) (retr : ByKey ListEntry) where
  pub exchanged_now : s.exchanged ≡ (neighbor_of s des sum req out retr).exchanged
  unfolding neighbor_of
  exchanged_now = refl

  pub outstanding_there : filter (set.contains (keys_of out)) (finite.keys req)
      ≡ still_outstanding (neighbor_of s des sum req out retr)
  unfolding neighbor_of
  outstanding_there = refl

  pub requests_now : req ≡ (neighbor_of s des sum req out retr).requests
  unfolding neighbor_of
  requests_now = refl

  pub retransmissions_now : retr ≡ (neighbor_of s des sum req out retr).retransmissions
  unfolding neighbor_of
  retransmissions_now = refl

  pub forgets : neighbor_of s None sum req out retr
      ≡ record (neighbor_of s des sum req out retr) { described = None }
  unfolding neighbor_of
  forgets = refl

  pub requests_at : (moment : ℕ) → neighbor_of (record s {
    requested_at = moment;
  }) des sum req out retr ≡ record (neighbor_of s des sum req out retr) { requested_at = moment }
  unfolding neighbor_of
  requests_at moment = refl

  pub retransmits_at : (moment : ℕ) → neighbor_of (record s {
    retransmitted_at = moment;
  }) des sum req out retr ≡ record (neighbor_of s des sum req out retr)
      { retransmitted_at = moment }
  unfolding neighbor_of
  retransmits_at moment = refl

  pub ends_loading : neighbor_of (record s {
    state = full_where s.state (finite.len req == 0);
  }) des sum req out retr ≡ loading_done (neighbor_of s des sum req out retr)
  unfolding neighbor_of
  ends_loading = loading_is_done (neighbor_of s des sum req out retr)

  pub describes_due : (moment interval : ℕ)
      → (repeats_description s.state s.is_master && has_passed s.described_at interval moment)
      ≡ description_is_due moment interval (neighbor_of s des sum req out retr)
  unfolding neighbor_of
  describes_due moment interval = refl

  pub retransmits_due : (moment interval : ℕ)
      → (not (finite.len retr == 0) && has_passed s.retransmitted_at interval moment)
      ≡ retransmission_is_due moment interval (neighbor_of s des sum req out retr)
  unfolding neighbor_of
  retransmits_due moment interval = refl

  pub asks_again : (moment interval : ℕ)
      → (not (finite.len out == 0) && has_passed s.requested_at interval moment)
      ≡ request_is_due moment interval (neighbor_of s des sum req out retr)
  unfolding neighbor_of
  asks_again moment interval = ap (λ b. not b && has_passed s.requested_at interval moment)
      (empty_keys out)

-- ---- the LSAs that fit

-- one that fits
pub fits_one : (delay used : ℕ) (l : Lsa) (rest : List Lsa) (d : Drafted)
    → nat_le (used + l.header.length) 8192 ≡ true
    → drafting delay (map Updates (that_fit (used + l.header.length) rest))
    (drafting delay (Updates l ∷ []) d)
    ≡ drafting delay (map Updates (that_fit used (l ∷ rest))) d
fits_one delay used l rest d is =
    drafting-append delay (Updates l ∷ []) (map Updates (that_fit (used + l.header.length) rest)) d
    ∙ ap (λ b. drafting delay (map Updates (cond b (l ∷ that_fit (used + l.header.length) rest) []))
    d) (sym is)

-- one that doesn't fit
pub fits_none : (delay used : ℕ) (l : Lsa) (rest : List Lsa) (d : Drafted)
    → nat_le (used + l.header.length) 8192 ≡ false
    → drafting delay [] d ≡ drafting delay (map Updates (that_fit used (l ∷ rest))) d
fits_none delay used l rest d is =
    ap (λ b. drafting delay (map Updates (cond b (l ∷ that_fit (used + l.header.length) rest) []))
    d) (sym is)

-- ---- three steps

pub drafting-three : (delay : ℕ) (s : Step) (f g : Neighbor → Step) (d : Drafted)
    → drafting delay (g (f s.neighbor).neighbor).sends
    (drafting delay (f s.neighbor).sends (drafting delay s.sends d))
    ≡ drafting delay (then_ (then_ s f) g).sends d
drafting-three delay s f g d =
    ap (drafting delay (g (f s.neighbor).neighbor).sends)
    (drafting-append delay s.sends (f s.neighbor).sends d)
    ∙ drafting-append delay (s.sends ++ (f s.neighbor).sends) (g (f s.neighbor).neighbor).sends d

-- ---- one index

module _ (moment dead : ℕ) where
  abbrev without : Neighbor → Step
  without n = no_sends (without_old_description moment dead n)

  pub goes_down : (o : Option Neighbor) → is_any_inactive moment dead o ≡ true
      → None ≡ expire_neighbor_timers moment dead o
  goes_down None is = refl
  goes_down (Some n) is = ap (λ b. step_on without (cond b None (Some n))) (sym is)

  pub stays_up : (o : Option Neighbor) → is_any_inactive moment dead o ≡ false
      → step_on without o ≡ expire_neighbor_timers moment dead o
  stays_up None is = refl
  stays_up (Some n) is = ap (λ b. step_on without (cond b None (Some n))) (sym is)

-- ---- a bad request

module _ (moment : ℕ) where
  pub begins_anew : (o : Option Neighbor) → neighbor_is_exchange_or_later o ≡ true
      → step_on (enter_exstart moment) o ≡ step_on (mismatch_step moment) o
  begins_anew None is = refl
  begins_anew (Some n) is = ap (λ b. Some (cond b (enter_exstart moment n) (no_sends n)).neighbor)
      (sym is)

  pub sends_anew : (o : Option Neighbor) → neighbor_is_exchange_or_later o ≡ true
      → sent_on (enter_exstart moment) o ≡ sent_on (mismatch_step moment) o
  sends_anew None is = refl
  sends_anew (Some n) is = ap (λ b. (cond b (enter_exstart moment n) (no_sends n)).sends) (sym is)

  pub rests_there : (o : Option Neighbor) → neighbor_is_exchange_or_later o ≡ false
      → o ≡ step_on (mismatch_step moment) o
  rests_there None is = refl
  rests_there (Some n) is = ap (λ b. Some (cond b (enter_exstart moment n) (no_sends n)).neighbor)
      (sym is)

  pub rests_unsent : (o : Option Neighbor) → neighbor_is_exchange_or_later o ≡ false
      → [] ≡ sent_on (mismatch_step moment) o
  rests_unsent None is = refl
  rests_unsent (Some n) is = ap (λ b. (cond b (enter_exstart moment n) (no_sends n)).sends) (sym is)
