-- Instances for which a Link State Acknowledgment or an LSA removes entries are those of the
-- entries.
use Rattle.std.proofs.Common.{◌≡◌, ℕ, Bool, true, false, not, ◌&&◌, List, [], ◌∷◌, Option, refl}
use Rattle.std.proofs.Common.{◌∙◌, arith}
use Rattle.std.specs.Prelude.{is_none, is_some}
use Rattle.std.specs.declared.cmp.Ordering.{Ordering}
use Rattle.std.specs.declared.cmp.Ordering.TheVariants.{Less, Equal, Greater}
use Rattle.std.specs.FinMap.{int_cmp-IsAntisymmetric, nat_cmp-IsAntisymmetric}
use Rattle.std.specs.List.{Contains}
use Rattle.std.specs.Ordering.{int_cmp, is_eq, nat_cmp, ordering_then}
use Rattle.lsdb.specs.Copies.{DatabaseCopy, received_just_now, newer_than_copy, same_as_copy}
use Rattle.lsdb.specs.Copies.{sent_just_now}
use Rattle.lsdb.specs.Headers.{Header, Lsa, key_of, lsa_key}
use Rattle.lsdb.specs.Instances.{ListEntry, listed_now, same_as_listed}
use Rattle.lsdb.specs.Order.{compare_ages, is_max_age}
use Rattle.adjacency.specs.Neighbors.{Neighbor}
use Rattle.received.specs.Cases.{Case, case_of_readable, first_case, is_wrapping}
use Rattle.adjacency.specs.Asked.{is_on_request_list, has_retransmission_of}
use Rattle.event_rules.specs.InstanceIdentities.{InstanceIdentity, identity_of_header}

-- ---- one entry

equal_parts : (r s t : Ordering) → is_eq (ordering_then r (ordering_then s t)) ≡ true
    → (r ≡ Equal) × (s ≡ Equal)
equal_parts Less s t e = absurd (cc)
equal_parts Equal Less t e = absurd (cc)
equal_parts Equal Equal t e = (refl, refl)
equal_parts Equal Greater t e = absurd (cc)
equal_parts Greater s t e = absurd (cc)

-- the same instance, with this key
pub same_name : (moment : ℕ) (h : Header) (l : ListEntry) (name : InstanceIdentity)
    → same_as_listed moment h l ≡ true
    → record {
      key = key_of h;
      sequence = l.header.sequence;
      checksum = l.header.checksum;
    } ≡ name → identity_of_header h ≡ name
same_name moment h l name e is =
    let parts = equal_parts (int_cmp h.sequence l.header.sequence)
    (nat_cmp h.checksum l.header.checksum) (compare_ages h.age (listed_now moment l).age) e in
    let sequence : h.sequence ≡ l.header.sequence =
    int_cmp-IsAntisymmetric h.sequence l.header.sequence parts.0 in
    let checksum : h.checksum ≡ l.header.checksum =
    nat_cmp-IsAntisymmetric h.checksum l.header.checksum parts.1 in
    (λ i. record { key = key_of h; sequence = sequence i; checksum = checksum i }) ∙ is

pub named_first : {X : Type 0} (y : X) (xs : List X) (x : X) → y ≡ x → Contains (y ∷ xs) x
named_first y xs x is = (0, omega arith, is)

-- ---- an implied acknowledgment

implied : (a b c d e f g h : Bool)
    → first_case ((a, Case.NothingToFlush) ∷ (b, Case.TooSoon) ∷ (c, Case.Newer)
    ∷ (d, Case.BadRequest) ∷ (e, Case.ImpliedAcknowledgment) ∷ (f, Case.Duplicate)
    ∷ (g, Case.SequenceWraps) ∷ (h, Case.SentJustNow) ∷ []) Case.Older
    ≡ Case.ImpliedAcknowledgment → e ≡ true
implied true b c d e f g h is = absurd (cc)
implied false true c d e f g h is = absurd (cc)
implied false false true d e f g h is = absurd (cc)
implied false false false true e f g h is = absurd (cc)
implied false false false false true f g h is = refl
implied false false false false false true g h is = absurd (cc)
implied false false false false false false true h is = absurd (cc)
implied false false false false false false false true is = absurd (cc)
implied false false false false false false false false is = absurd (cc)

second : (a b : Bool) → (a && b) ≡ true → b ≡ true
second true b e = e
second false b e = absurd (cc)

pub owed_where_implied : (moment : ℕ) (copy : Option DatabaseCopy) (sender : Option Neighbor)
    (synchronizing : Bool) (lsa : Lsa)
    → case_of_readable moment copy sender synchronizing lsa ≡ Case.ImpliedAcknowledgment
    → has_retransmission_of moment lsa.header sender ≡ true
owed_where_implied moment copy sender synchronizing lsa is =
    second (same_as_copy moment lsa.header copy) (has_retransmission_of moment lsa.header sender)
    (implied
    (is_max_age lsa.header.age && is_none copy && not synchronizing)
    (is_some copy && newer_than_copy moment lsa.header copy && received_just_now moment copy)
    (newer_than_copy moment lsa.header copy)
    (is_on_request_list (lsa_key lsa) sender)
    (same_as_copy moment lsa.header copy && has_retransmission_of moment lsa.header sender)
    (same_as_copy moment lsa.header copy)
    (is_wrapping moment copy)
    (sent_just_now moment copy)
    is)
