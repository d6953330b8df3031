-- Flooding and the request list.
use Rattle.std.proofs.Common.{◌≡◌, ℤ, pos, Bool, true, false, None, Some, refl}
use Rattle.std.specs.FinMap as finite
use Rattle.std.specs.FinSet as set
use Rattle.lsdb.proofs.Keys.{keys_total}
use Rattle.lsa.specs.declared.body.LsaBody.{LsaBody}
use Rattle.adjacency.specs.Neighbors.{Neighbor, is_exchange_or_loading, is_exchange_or_later}
use Rattle.adjacency.specs.declared.state.NeighborState.{NeighborState}
use Rattle.adjacency.specs.declared.state.NeighborState.TheVariants.{Exchange, Full, Loading}
use Rattle.received.specs.Links.{Link}
use Rattle.agreement_laws.specs.RequestsMet.{IsSentOn, RequestsAreMetByFlooding, RequestsCountIn}
use Rattle.agreement_laws.specs.RequestsMet.{flooded_on, instance, its_key}
use Rattle.agreement_laws.proofs.WorkedUpdates.{inserted, taken_off}

on_list : (b : LsaBody) (sequence : ℤ) (n : Neighbor)
    → finite.get (finite.insert (finite.remove n.retransmissions (its_key b)) (its_key b) (record {
      header = (instance b sequence).header;
      at = 100;
    })) (its_key b)
    ≡ Some (record { header = (instance b sequence).header; at = 100 })
on_list b sequence n = inserted (finite.remove n.retransmissions (its_key b)) (its_key b) (record {
  header = (instance b sequence).header;
  at = 100;
})

counts : (state : NeighborState) → is_exchange_or_later state ≡ true
    → is_exchange_or_loading state ≡ true → RequestsCountIn state
counts state part busy = record {
  less_recent = λ b link n is. (
    rw (is.is_in, part, busy, is.is_requested) is.is_requested,
    (
      rw (is.is_in, part, busy, is.is_requested) refl,
      rw (is.is_in, part, busy, is.is_requested) (taken_off n.retransmissions (its_key b)),
    ),
  );
  the_same = λ b link n is. (
    (
      rw (is.is_in, part, busy, is.is_requested) (taken_off n.requests (its_key b)),
      rw (is.is_in, part, busy, is.is_requested)
          (set.contains-remove keys_total n.outstanding (its_key b) (its_key b)),
    ),
    (
      rw (is.is_in, part, busy, is.is_requested) refl,
      rw (is.is_in, part, busy, is.is_requested) (taken_off n.retransmissions (its_key b)),
    ),
  );
  more_recent = λ b link n is. (
    (
      rw (is.is_in, part, busy, is.is_requested) (taken_off n.requests (its_key b)),
      rw (is.is_in, part, busy, is.is_requested)
          (set.contains-remove keys_total n.outstanding (its_key b) (its_key b)),
    ),
    (
      rw (is.is_in, part, busy, is.is_requested) refl,
      rw (is.is_in, part, busy, is.is_requested) (on_list b (pos 6) n),
    ),
  );
  from_it = λ b link n is. (
    (
      rw (is.is_in, part, busy, is.is_requested) (taken_off n.requests (its_key b)),
      rw (is.is_in, part, busy, is.is_requested)
          (set.contains-remove keys_total n.outstanding (its_key b) (its_key b)),
    ),
    (
      rw (is.is_in, part) refl,
      rw (is.is_in, part, busy, is.is_requested)
          (taken_off n.retransmissions (its_key b)),
    ),
  );
}

not_asked_by : (b : LsaBody) (sequence : ℤ) (link : Link) (n : Neighbor)
    → is_exchange_or_later n.state
    ≡ true → finite.get n.requests (its_key b) ≡ None → (busy : Bool)
    → is_exchange_or_loading n.state ≡ busy
    → IsSentOn b (instance b sequence) (flooded_on b sequence link n)
not_asked_by b sequence link n part none true is = (
  rw (part, is, none) refl,
  rw (part, is, none) (on_list b sequence n),
)
not_asked_by b sequence link n part none false is =
    (rw (part, is) refl, rw (part, is) (on_list b sequence n))

full_gets_it : (b : LsaBody) (sequence : ℤ) (link : Link) (n : Neighbor) → n.state ≡ Full
    → IsSentOn b (instance b sequence) (flooded_on b sequence link n)
full_gets_it b sequence link n is = (rw is refl, rw is (on_list b sequence n))

pub requests_met : RequestsAreMetByFlooding
requests_met = record {
  in_exchange = counts Exchange refl refl;
  in_loading = counts Loading refl refl;
  full = full_gets_it;
  not_asked = λ b sequence link n part none. not_asked_by b sequence link n part none
      (is_exchange_or_loading n.state) refl;
}
