-- A retransmission list after flooding.
use Rattle.std.proofs.Common.{◌≡◌, ℕ, Bool, true, false, cond, [], ◌∷◌, None, Some, ap, ◌∙◌}
use Rattle.std.specs.Cmp.{tied_itself}
use Rattle.std.specs.FinMap as finite
use Rattle.std.specs.Ordering.{is_eq}
use Rattle.std.specs.declared.cmp.Ordering.{Ordering}
use Rattle.words.specs.declared.key.Key.{Key}
use Rattle.lsdb.specs.Headers.{Lsa, lsa_key}
use Rattle.lsdb.specs.Instances.{ListEntry}
use Rattle.lsdb.specs.Keys.{ByKey}
use Rattle.lsdb.proofs.Keys.{keys_total}
use Rattle.adjacency.specs.Contents.{Step, Updates, no_sends}
use Rattle.adjacency.specs.Neighbors.{Neighbor}
use Rattle.adjacency.specs.Retransmissions.{add_retransmission, remove_retransmission}
use Rattle.received.specs.Flooding.{is_to_be_sent, without_satisfied_request}
use Rattle.received.specs.Laws.{FloodingReplacesOlderInstances}

inserted : (m : ByKey ListEntry) (k : Key) (x : ListEntry)
    → finite.get (finite.insert m k x) k ≡ Some x
inserted m k x = finite.get-insert keys_total m k x k
    ∙ ap (λ (o : Ordering). cond (is_eq o) (Some x) (finite.get m k)) (tied_itself keys_total k)

pub removed : (m : ByKey ListEntry) (k : Key) → finite.get (finite.remove m k) k ≡ None
removed m k = finite.get-remove keys_total m k k
    ∙ ap (λ (o : Ordering). cond (is_eq o) None (finite.get m k)) (tied_itself keys_total k)

by_gets : (moment : ℕ) (lsa : Lsa) (m : Neighbor) (sends : Step) (b : Bool)
    → finite.get (cond b (record {
      neighbor = add_retransmission moment lsa.header m;
      sends = sends.sends;
    }) (no_sends (remove_retransmission (lsa_key lsa) m))).neighbor.retransmissions (lsa_key lsa)
    ≡ cond b (Some (record { header = lsa.header; at = moment })) None
by_gets moment lsa m sends true = inserted (finite.remove m.retransmissions (lsa_key lsa))
    (lsa_key lsa) (record { header = lsa.header; at = moment })
by_gets moment lsa m sends false = removed m.retransmissions (lsa_key lsa)

pub replaces_older : FloodingReplacesOlderInstances
replaces_older moment sender lsa number link n part =
    let m = without_satisfied_request moment lsa n in
    let sent : Step = record { neighbor = m; sends = Updates lsa ∷ [] } in
    ap (λ (b : Bool). finite.get (cond b (cond (is_to_be_sent moment sender number lsa n) (record {
      neighbor = add_retransmission moment lsa.header m;
      sends = sent.sends;
    }) (no_sends (remove_retransmission (lsa_key lsa) m))) (no_sends n)).neighbor.retransmissions
    (lsa_key lsa)) part
    ∙ by_gets moment lsa m sent (is_to_be_sent moment sender number lsa n)
