-- A neighbor's fields after the steps of an exchange.
use Rattle.std.proofs.Common.{◌≡◌, Result, Ok, Err, OnOk, ℕ, ◌==◌, Bool, true, false, cond, nat_lt}
use Rattle.std.proofs.Common.{List, [], ◌∷◌, map, take, drop, Option, None, Some, refl, sym, ap}
use Rattle.std.proofs.Common.{◌∙◌}
use Rattle.std.specs.FinMap as finite
use Rattle.std.specs.List.{fold}
use Rattle.words.specs.declared.key.Key.{Key}
use Rattle.lsdb.specs.Copies.{Database}
use Rattle.lsdb.specs.Headers.{Header}
use Rattle.lsdb.specs.Instances.{ListEntry, listed_header_now}
use Rattle.lsdb.specs.Keys.{ByKey}
use Rattle.packet.specs.declared.model.Description.{Description}
use Rattle.adjacency.specs.declared.standing.Standing.{Standing}
use Rattle.adjacency.specs.declared.state.NeighborState.{NeighborState}
use Rattle.adjacency.specs.declared.state.NeighborState.TheVariants.{Exchange, Loading, Full}
use Rattle.adjacency.specs.Contents.{Describes, Step, no_sends}
use Rattle.adjacency.specs.Descriptions.{as_received, exchange_done, left_to_describe}
use Rattle.adjacency.specs.Descriptions.{master_goes_on, next_description, repeat, slave_replies}
use Rattle.adjacency.specs.Descriptions.{with_request, with_requests}
use Rattle.adjacency.specs.Exchanges.{accept_description}
use Rattle.adjacency.specs.Neighbors.{Neighbor, ReceivedDescription}
use Rattle.adjacency.specs.Views.{neighbor_of}

-- what follows from two facts about a call that succeeded
pub both_ok : {A E P Q S : Type 0} (r : Result A E) → (P → Q → S) → OnOk r P → OnOk r Q → OnOk r S
both_ok (Ok a) f p q = f p q
both_ok (Err e) f p q = tt

module _ {X : Type 0} (s : Standing) (sum req : ByKey ListEntry) (out : ByKey X)
    (retr : ByKey ListEntry) where
  -- without a Database Description nothing is sent again
  pub repeats_nothing : (moment : ℕ) (des : Option Description) → des ≡ None
      → no_sends (neighbor_of s des sum req out retr)
      ≡ repeat moment (neighbor_of s des sum req out retr)
  unfolding neighbor_of
  repeats_nothing moment des is = ap (λ o. no_sends (neighbor_of s o sum req out retr)) is
      ∙ sym (ap (λ o. repeat moment (neighbor_of s o sum req out retr)) is)

  pub repeated : (moment : ℕ) (des : Option Description) (d : Description) → des ≡ Some d
      → ◌≡◌ {A = Step} (record {
        neighbor = neighbor_of (record s { described_at = moment }) des sum req out retr;
        sends = Describes d ∷ [];
      }) (repeat moment (neighbor_of s des sum req out retr))
  unfolding neighbor_of
  repeated moment des d is =
      (λ i. record {
        neighbor = neighbor_of (record s { described_at = moment }) (is i) sum req out retr;
        sends = Describes d ∷ [];
      }) ∙ sym (ap (λ o. repeat moment (neighbor_of s o sum req out retr)) is)

module _ {X : Type 0} (s : Standing) (des : Option Description) (sum req : ByKey ListEntry)
    (out : ByKey X) (retr : ByKey ListEntry) where
  pub receives : (r : Option ReceivedDescription) → neighbor_of (record s {
    received = r;
  }) des sum req out retr ≡ record (neighbor_of s des sum req out retr) { received = r }
  unfolding neighbor_of
  receives r = refl

  pub counts_on : (sequence : ℕ) → neighbor_of (record s {
    sequence = sequence;
  }) des sum req out retr ≡ record (neighbor_of s des sum req out retr) { sequence = sequence }
  unfolding neighbor_of
  counts_on sequence = refl

  pub sequence_now : s.sequence ≡ (neighbor_of s des sum req out retr).sequence
  unfolding neighbor_of
  sequence_now = refl

  pub is_master_now : s.is_master ≡ (neighbor_of s des sum req out retr).is_master
  unfolding neighbor_of
  is_master_now = refl

  pub summary_now : sum ≡ (neighbor_of s des sum req out retr).summary
  unfolding neighbor_of
  summary_now = refl

  pub finishes : (moment : ℕ) (state : NeighborState)
      → state ≡ cond (finite.len req == 0) Full Loading → neighbor_of (record s {
        state = state;
        exchanged = Some moment;
      }) des sum req out retr ≡ exchange_done moment (neighbor_of s des sum req out retr)
  unfolding neighbor_of
  finishes moment state is = ap (λ t. record (neighbor_of s des sum req out retr)
      { state = t; exchanged = Some moment }) is

  pub enters_exchange : (moment : ℕ) (is_master : Bool) (sequence : ℕ)
      → neighbor_of (record s {
        state = Exchange;
        is_master = is_master;
        sequence = sequence;
        retransmitted_at = moment;
      }) des sum req out retr
      ≡ record (neighbor_of s des sum req out retr) {
        state = Exchange;
        is_master = is_master;
        sequence = sequence;
        retransmitted_at =
            moment;
      }
  unfolding neighbor_of
  enters_exchange moment is_master sequence = refl

  pub wants : (moment : ℕ) (db : Database) (headers : List Header)
      → neighbor_of s des sum (fold (with_request moment db) req headers) out retr
      ≡ with_requests moment db headers (neighbor_of s des sum req out retr)
  unfolding neighbor_of
  wants moment db headers = refl

  pub shortens : neighbor_of s des (finite.from_entries (drop 408 (finite.entries sum))) req out
      retr ≡ record (neighbor_of s des sum req out retr)
      { summary = left_to_describe (neighbor_of s des sum req out retr) }
  unfolding neighbor_of
  shortens = refl

  pub keeps : (moment : ℕ) (d : Description) → neighbor_of (record s {
    described_at = moment;
  }) (Some d) sum req out retr ≡ record (neighbor_of s des sum req out retr)
      { described = Some d; described_at = moment }
  unfolding neighbor_of
  keeps moment d = refl

  pub lists_database : (summary retransmissions : ByKey ListEntry)
      → neighbor_of s des summary req out retransmissions
      ≡ record (neighbor_of s des sum req out retr)
      { summary = summary; retransmissions = retransmissions }
  unfolding neighbor_of
  lists_database summary retransmissions = refl

  -- the next Database Description, from its headers
  pub described_next : (moment : ℕ) (headers : List Header)
      → headers ≡ map (λ (e : Key × ListEntry). listed_header_now moment e.1)
      (take 408 (finite.entries sum))
      → ◌≡◌ {A = Description} (record {
        mtu = 8192;
        options = 2;
        init = false;
        more = nat_lt 408 (finite.len sum);
        master = s.is_master;
        sequence = s.sequence;
        headers = headers;
      }) (next_description moment (neighbor_of s des sum req out retr))
  unfolding neighbor_of
  described_next moment headers are =
      λ i. record (next_description moment (neighbor_of s des sum req out retr)) { headers = are i }

-- ---- an accepted Database Description

module _ (moment : ℕ) (db : Database) (d : Description) (n : Neighbor) where
  abbrev with_wanted : Neighbor
  with_wanted = with_requests moment db d.headers (record n { received = Some (as_received d) })

  pub accepts_leading : n.is_master ≡ true
      → master_goes_on moment d (with_requests moment db d.headers (record n {
        received = Some (as_received d);
      })) ≡ accept_description moment db d n
  unfolding accept_description
  accepts_leading is = sym (ap (λ b. cond b (master_goes_on moment d with_wanted)
      (slave_replies moment d with_wanted)) is)

  pub accepts_following : n.is_master ≡ false
      → slave_replies moment d (with_requests moment db d.headers (record n {
        received = Some (as_received d);
      })) ≡ accept_description moment db d n
  unfolding accept_description
  accepts_following is = sym (ap (λ b. cond b (master_goes_on moment d with_wanted)
      (slave_replies moment d with_wanted)) is)
