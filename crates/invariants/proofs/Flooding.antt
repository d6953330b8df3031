-- What an LSA that is flooded leaves of a neighbor, by its cases.
use Rattle.std.proofs.Common.{ℕ, Bool, not, ◌&&◌, [], ◌∷◌}
use Rattle.lsdb.specs.Headers.{Lsa, lsa_key}
use Rattle.adjacency.specs.Contents.{Step, Updates, no_sends}
use Rattle.adjacency.specs.Floods.{flooded_in_exchange, flooding, exceeds_request, request_of}
use Rattle.adjacency.specs.Floods.{without_satisfied_request}
use Rattle.adjacency.specs.Neighbors.{Neighbor, is_exchange_or_later}
use Rattle.adjacency.specs.Retransmissions.{add_retransmission, remove_retransmission}
use Rattle.adjacency.proofs.Kept.{chosen}

module _ (Q : Step → Type 0) (moment : ℕ) (m : Neighbor) where
  pub flooding_so : (from : Bool) (lsa : Lsa)
      → Q (record {
        neighbor = add_retransmission moment lsa.header (without_satisfied_request moment lsa m);
        sends = Updates lsa ∷ [];
      })
      → Q (no_sends (remove_retransmission (lsa_key lsa) (without_satisfied_request moment lsa m)))
      → Q (no_sends m) → Q (flooding moment from lsa m)
  flooding_so from lsa added removed h =
      let w : Neighbor = without_satisfied_request moment lsa m in
      let got : Step = record {
        neighbor = add_retransmission moment lsa.header w;
        sends = Updates lsa ∷ [];
      } in
      let not_got : Step = no_sends (remove_retransmission (lsa_key lsa) w) in
      chosen Q (is_exchange_or_later m.state) (flooded_in_exchange moment from lsa m) (no_sends m)
      (λ part. chosen Q (not from && exceeds_request moment lsa (request_of m lsa)) got not_got
      (λ e. added) (λ e. removed)) (λ before. h)
