-- The result of a Database Description, by its verdict.
use Rattle.std.proofs.Common.{◌≡◌, ℕ, Bool, true, false, cond, not, nat_lt, List, [], ◌++◌, Option}
use Rattle.std.proofs.Common.{None, Some, refl, sym, ap, ◌∙◌}
use mathlib.Core.Bool.{false≢true}
use Rattle.lsdb.specs.Copies.{Database}
use Rattle.packet.specs.declared.model.Description.{Description}
use Rattle.adjacency.specs.declared.state.NeighborState.{NeighborState}
use Rattle.adjacency.specs.declared.state.NeighborState.TheVariants.{Init, ExStart, Exchange}
use Rattle.adjacency.specs.declared.state.NeighborState.TheVariants.{Loading, Full}
use Rattle.adjacency.specs.Adjacencies.{enter_exstart, mismatch_step, two_way_received}
use Rattle.adjacency.specs.Adjacencies.{two_way_received_in}
use Rattle.adjacency.specs.Contents.{Content, Step, no_sends, sent_on, step_on, then_}
use Rattle.adjacency.specs.Descriptions.{Verdict, accept, act, after_description, as_received}
use Rattle.adjacency.specs.Descriptions.{in_state, knows_types, master_goes_on, process}
use Rattle.adjacency.specs.Descriptions.{negotiated_neighbor, slave_replies, verdict_in}
use Rattle.adjacency.specs.Descriptions.{with_requests}
use Rattle.adjacency.specs.Drafts.{Drafted, drafting}
use Rattle.adjacency.specs.Exchanges.{accept_description, any_init, is_init, verdict_of_description}
use Rattle.adjacency.specs.Exchanges.{judged_on, proceeding, process_description, starts_over}
use Rattle.adjacency.specs.Neighbors.{Neighbor, is_exchange_or_later}
use Rattle.area.proofs.Answered.{same_sent, same_step, sends_nothing, stays}
use Rattle.adjacency.proofs.Sends.{drafting-append}

known : (b : Bool) → not b ≡ false → b ≡ true
known true is = refl
known false is = absurd (false≢true (sym is))

unknown : (b : Bool) → not b ≡ true → b ≡ false
unknown true is = absurd (false≢true is)
unknown false is = refl

-- ---- verdicts that are possible from Exchange on

is_late : Verdict → Bool
is_late Verdict.Discarded = false
is_late Verdict.NegotiatedAsSlave = false
is_late Verdict.NegotiatedAsMaster = false
is_late Verdict.Repeated = false
is_late Verdict.Accepted = true
is_late Verdict.Mismatch = true

none_late : (a b : Bool) → is_late
    (cond a Verdict.NegotiatedAsSlave (cond b Verdict.NegotiatedAsMaster Verdict.Discarded)) ≡ false
unfolding is_late
none_late true b = refl
none_late false true = refl
none_late false false = refl

late_in : (own : ℕ) (n : Neighbor) (d : Description) (s : NeighborState)
    → is_late (verdict_in s own n d) ≡ true → is_exchange_or_later s ≡ true
unfolding is_late
late_in own n d Init is = is
late_in own n d ExStart is = absurd (false≢true (sym (none_late _ _) ∙ is))
late_in own n d Exchange is = refl
late_in own n d Loading is = refl
late_in own n d Full is = refl

-- ---- the step by the verdict

module _ (own moment : ℕ) (db : Database) (d : Description) (n : Neighbor) where
  abbrev goes_on : Neighbor → Step
  goes_on m =
      let w : Neighbor = with_requests moment db d.headers (record m {
        received = Some (as_received d);
      }) in
      cond w.is_master (master_goes_on moment d w) (slave_replies moment d w)

  accepts : (m : Neighbor) → knows_types d ≡ true → goes_on m ≡ accept moment db d m
  accepts m is = sym (ap (λ b. cond b (goes_on m) (mismatch_step moment m)) is)

  refuses : (m : Neighbor) → knows_types d ≡ false → mismatch_step moment m ≡ accept moment db d m
  refuses m is = sym (ap (λ b. cond b (goes_on m) (mismatch_step moment m)) is)

  mismatches : is_exchange_or_later n.state ≡ true → enter_exstart moment n ≡ mismatch_step moment n
  mismatches is = sym (ap (λ b. cond b (enter_exstart moment n) (no_sends n)) is)

  over : (v : Verdict) → (is_late v ≡ true → is_exchange_or_later n.state ≡ true)
      → starts_over v d ≡ true → enter_exstart moment n ≡ act v moment db d n
  unfolding is_late
  over Verdict.Discarded late is = absurd (false≢true is)
  over Verdict.NegotiatedAsSlave late is =
      refuses (negotiated_neighbor false d.sequence moment db n) (unknown (knows_types d) is)
  over Verdict.NegotiatedAsMaster late is =
      refuses (negotiated_neighbor true n.sequence moment db n) (unknown (knows_types d) is)
  over Verdict.Repeated late is = absurd (false≢true is)
  over Verdict.Accepted late is = mismatches (late refl) ∙ refuses n (unknown (knows_types d) is)
  over Verdict.Mismatch late is = mismatches (late refl)

  on : (v : Verdict) → starts_over v d ≡ false → proceeding v moment db d n ≡ act v moment db d n
  unfolding proceeding accept_description
  on Verdict.Discarded is = refl
  on Verdict.NegotiatedAsSlave is =
      accepts (negotiated_neighbor false d.sequence moment db n) (known (knows_types d) is)
  on Verdict.NegotiatedAsMaster is =
      accepts (negotiated_neighbor true n.sequence moment db n) (known (knows_types d) is)
  on Verdict.Repeated is = refl
  on Verdict.Accepted is = accepts n (known (knows_types d) is)
  on Verdict.Mismatch is = absurd (false≢true (sym is))

  goes_over : (v : Verdict) → v ≡ verdict_of_description own n d → starts_over v d ≡ true
      → enter_exstart moment n ≡ process_description own moment db d n
  unfolding verdict_of_description process_description
  goes_over v said is = over v (λ late. late_in own n d n.state (sym (ap is_late said) ∙ late)) is
      ∙ ap (λ w. act w moment db d n) said

  goes : (v : Verdict) → v ≡ verdict_of_description own n d → starts_over v d ≡ false
      → proceeding v moment db d n ≡ process_description own moment db d n
  unfolding verdict_of_description process_description
  goes v said is = on v is ∙ ap (λ w. act w moment db d n) said

module _ (own moment : ℕ) (db : Database) (d : Description) (v : Verdict) (o : Option Neighbor)
    (said : v ≡ judged_on own o d) where
  pub over_on : starts_over v d ≡ true
      → step_on (enter_exstart moment) o ≡ step_on (process_description own moment db d) o
  over_on is = same_step (enter_exstart moment) (process_description own moment db d) o
      (λ n there. goes_over own moment db d n v (said ∙ ap (λ p. judged_on own p d) there) is)

  pub over_sent : starts_over v d ≡ true
      → sent_on (enter_exstart moment) o ≡ sent_on (process_description own moment db d) o
  over_sent is = same_sent (enter_exstart moment) (process_description own moment db d) o
      (λ n there. goes_over own moment db d n v (said ∙ ap (λ p. judged_on own p d) there) is)

  pub goes_on_on : starts_over v d ≡ false
      → step_on (proceeding v moment db d) o ≡ step_on (process_description own moment db d) o
  goes_on_on is = same_step (proceeding v moment db d) (process_description own moment db d) o
      (λ n there. goes own moment db d n v (said ∙ ap (λ p. judged_on own p d) there) is)

  pub goes_on_sent : starts_over v d ≡ false
      → sent_on (proceeding v moment db d) o ≡ sent_on (process_description own moment db d) o
  goes_on_sent is = same_sent (proceeding v moment db d) (process_description own moment db d) o
      (λ n there. goes own moment db d n v (said ∙ ap (λ p. judged_on own p d) there) is)

-- ---- like a Hello that lists this router

two_way_init : (moment : ℕ) (n : Neighbor) (s : NeighborState) → is_init s ≡ true
    → enter_exstart moment n ≡ two_way_received_in s moment n
two_way_init moment n Init is = refl
two_way_init moment n ExStart is = absurd (false≢true is)
two_way_init moment n Exchange is = absurd (false≢true is)
two_way_init moment n Loading is = absurd (false≢true is)
two_way_init moment n Full is = absurd (false≢true is)

two_way_rests : (moment : ℕ) (n : Neighbor) (s : NeighborState) → is_init s ≡ false
    → no_sends n ≡ two_way_received_in s moment n
two_way_rests moment n Init is = absurd (false≢true (sym is))
two_way_rests moment n ExStart is = refl
two_way_rests moment n Exchange is = refl
two_way_rests moment n Loading is = refl
two_way_rests moment n Full is = refl

module _ (moment : ℕ) (o : Option Neighbor) where
  pub begins_on : any_init o ≡ true
      → step_on (enter_exstart moment) o ≡ step_on (two_way_received moment) o
  begins_on is = same_step (enter_exstart moment) (two_way_received moment) o
      (λ n there. two_way_init moment n n.state (sym (ap any_init there) ∙ is))

  pub begins_sent : any_init o ≡ true
      → sent_on (enter_exstart moment) o ≡ sent_on (two_way_received moment) o
  begins_sent is = same_sent (enter_exstart moment) (two_way_received moment) o
      (λ n there. two_way_init moment n n.state (sym (ap any_init there) ∙ is))

  pub rests_on : any_init o ≡ false → o ≡ step_on (two_way_received moment) o
  rests_on is = stays o ∙ same_step no_sends (two_way_received moment) o
      (λ n there. two_way_rests moment n n.state (sym (ap any_init there) ∙ is))

  pub rests_sent : any_init o ≡ false → [] ≡ sent_on (two_way_received moment) o
  rests_sent is = sends_nothing o ∙ same_sent no_sends (two_way_received moment) o
      (λ n there. two_way_rests moment n n.state (sym (ap any_init there) ∙ is))

-- ---- the complete step

module _ (own moment : ℕ) (db : Database) (d : Description) where
  abbrev whole : Neighbor → Step
  whole n = then_ (two_way_received moment n) (process_description own moment db d)

  in_its_state : (n : Neighbor) (s : NeighborState) → n.state ≡ s
      → whole n ≡ in_state s own moment db d n
  unfolding process_description
  in_its_state n Init is = refl
  in_its_state n ExStart is = ap (λ t. then_ (two_way_received_in t moment n)
      (process own moment db d)) is
  in_its_state n Exchange is = ap (λ t. then_ (two_way_received_in t moment n)
      (process own moment db d)) is
  in_its_state n Loading is = ap (λ t. then_ (two_way_received_in t moment n)
      (process own moment db d)) is
  in_its_state n Full is = ap (λ t. then_ (two_way_received_in t moment n)
      (process own moment db d))
      is

  fits : (n : Neighbor) → nat_lt 8192 d.mtu ≡ false → whole n ≡ after_description own moment db d n
  fits n is = in_its_state n n.state refl
      ∙ sym (ap (λ b. cond b (no_sends n) (in_state n.state own moment db d n)) is)

  is_discarded : (n : Neighbor) → nat_lt 8192 d.mtu ≡ true
      → no_sends n ≡ after_description own moment db d n
  is_discarded n is = sym (ap (λ b. cond b (no_sends n) (in_state n.state own moment db d n)) is)

  joined_on : (o : Option Neighbor)
      → step_on (process_description own moment db d) (step_on (two_way_received moment) o)
      ≡ step_on whole o
  joined_on None = refl
  joined_on (Some n) = refl

  joined_sent : (o : Option Neighbor)
      → (sent_on (two_way_received moment) o
      ++ sent_on (process_description own moment db d) (step_on (two_way_received moment) o))
      ≡ sent_on whole o
  joined_sent None = refl
  joined_sent (Some n) = refl

  module _ (o : Option Neighbor) where
    pub discarded_on : nat_lt 8192 d.mtu ≡ true → o ≡ step_on (after_description own moment db d) o
    discarded_on is = stays o ∙ same_step no_sends (after_description own moment db d) o
        (λ n there. is_discarded n is)

    pub discarded_sent : nat_lt 8192 d.mtu ≡ true
        → [] ≡ sent_on (after_description own moment db d) o
    discarded_sent is = sends_nothing o
        ∙ same_sent no_sends (after_description own moment db d) o (λ n there. is_discarded n is)

    pub judged_after : nat_lt 8192 d.mtu ≡ false
        → step_on (process_description own moment db d) (step_on (two_way_received moment) o)
        ≡ step_on (after_description own moment db d) o
    judged_after is = joined_on o ∙ same_step whole (after_description own moment db d) o
        (λ n there. fits n is)

    pub sent_after : (delay : ℕ) (draft : Drafted) → nat_lt 8192 d.mtu ≡ false
        → drafting delay (sent_on (process_description own moment db d)
        (step_on (two_way_received moment) o))
        (drafting delay (sent_on (two_way_received moment) o) draft)
        ≡ drafting delay (sent_on (after_description own moment db d) o) draft
    sent_after delay draft is =
        drafting-append delay (sent_on (two_way_received moment) o)
        (sent_on (process_description own moment db d) (step_on (two_way_received moment) o)) draft
        ∙ ap (λ (cs : List Content). drafting delay cs draft)
        (joined_sent o ∙ same_sent whole (after_description own moment db d) o
        (λ n there. fits n is))
