-- A Link State Request from a neighbor in Exchange or later.
use Rattle.std.proofs.Common.{◌≡◌, ℕ, ◌≤◌, Bool, true, false, cond, List, [], length, map, refl}
use Rattle.std.proofs.Common.{sym, ap, ◌∙◌}
use Rattle.std.specs.List.{list_all}
use Rattle.std.specs.Prelude.{Option, None, Some}
use Rattle.words.specs.declared.key.Key.{Key}
use Rattle.lsdb.specs.Copies.{Database}
use Rattle.adjacency.specs.Adjacencies.{mismatch_step}
use Rattle.adjacency.specs.Contents.{Step, Updates}
use Rattle.adjacency.specs.Contents as neighbor
use Rattle.adjacency.specs.Neighbors.{Neighbor, is_exchange_or_later}
use Rattle.adjacency.specs.Steps.{after_request, answer_to_request, lsas_of}
use Rattle.received.specs.Links.{Area, Link, neighbor_at, neighbor_on}
use Rattle.received.specs.AreaStates.{sends_at, one_neighbor, sending}
use Rattle.event_rules.specs.Packets.{neighbor_is_exchange_or_later, is_there, receive_request}
use Rattle.area.specs.Links.{with_no_sends, with_neighbor}
use Rattle.router.proofs.OneLink.{leaves, link, link_is, one_neighbor_is, stays}
use mathlib.Core.Bool.{false≢true}

-- from Exchange on a Link State Request is answered
counts : (moment : ℕ) (db : Database) (keys : List Key) (n : Neighbor)
    → is_exchange_or_later n.state ≡ true
    → after_request moment db keys n ≡ answer_to_request moment db keys n
unfolding after_request
counts moment db keys n is = ap (λ b. cond b (answer_to_request moment db keys n) (record {
  neighbor = n;
  sends = [];
})) is

module _ (moment k : ℕ) (a : Area) (keys : List Key) (first : 1 ≤ k) (last : k ≤ length a.links)
  where
    -- whether all copies exist decides the answer to the neighbor n
    answers_by : (n : Neighbor) (l : Link) → l ≡ link moment k a first last → l.neighbor ≡ Some n
        → (b : Bool) → leaves moment k a first last
        (cond b (record {
          neighbor = n;
          sends = map Updates (lsas_of moment a.database keys);
        }) (mismatch_step moment n)).sends
        (with_neighbor (Some (cond b (record {
          neighbor = n;
          sends = map Updates (lsas_of moment a.database keys);
        }) (mismatch_step moment n)).neighbor) l)
        ≡ cond b (sending moment (sends_at k (map Updates (lsas_of moment a.database keys)))
        (with_no_sends a)) (one_neighbor moment k (mismatch_step moment) (with_no_sends a))
    answers_by n l same is true =
        ap (λ (o : Option Neighbor). leaves moment k a first last
        (map Updates (lsas_of moment a.database keys)) (with_neighbor o l)) (sym is)
        ∙ ap (leaves moment k a first last (map Updates (lsas_of moment a.database keys))) same
        ∙ stays moment k a first last (map Updates (lsas_of moment a.database keys))
    answers_by n l same is false =
        ap (λ (o : Option Neighbor). leaves moment k a first last
        (neighbor.sent_on (mismatch_step moment) o)
        (with_neighbor (neighbor.step_on (mismatch_step moment) o) l)) (sym is)
        ∙ ap (λ (m : Link). leaves moment k a first last
        (neighbor.sent_on (mismatch_step moment) m.neighbor)
        (with_neighbor (neighbor.step_on (mismatch_step moment) m.neighbor) m)) same
        ∙ sym (one_neighbor_is moment k a first last (mismatch_step moment))

    by_neighbor : (o : Option Neighbor) (l : Link) → l ≡ link moment k a first last → l.neighbor ≡ o
        → neighbor_is_exchange_or_later o ≡ true → leaves moment k a first last
        (neighbor.sent_on (after_request moment a.database keys) o)
        (with_neighbor (neighbor.step_on (after_request moment a.database keys) o) l)
        ≡ receive_request moment k keys (with_no_sends a)
    by_neighbor None l same is exchanges = absurd (false≢true exchanges)
    by_neighbor (Some n) l same is exchanges =
        ap (λ (s : Step). leaves moment k a first last s.sends (with_neighbor (Some s.neighbor) l))
        (counts moment a.database keys n exchanges)
        ∙ answers_by n l same is (list_all (is_there a.database) keys)

    pub answers : neighbor_is_exchange_or_later (neighbor_at k a.links) ≡ true
        → one_neighbor moment k (after_request moment a.database keys) (with_no_sends a)
        ≡ receive_request moment k keys (with_no_sends a)
    answers exchanges =
        one_neighbor_is moment k a first last (after_request moment a.database keys)
        ∙ by_neighbor (link moment k a first last).neighbor (link moment k a first last) refl refl
        (sym (ap (λ (o : Option Link). neighbor_is_exchange_or_later (neighbor_on o))
        (link_is moment k a first last)) ∙ exchanges)
