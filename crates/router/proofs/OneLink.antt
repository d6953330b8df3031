-- A step of one link by itself is a step of one neighbor.
use Rattle.std.proofs.Common.{◌≡◌, ℕ, zero, suc, ◌-◌, ◌<◌, ◌≤◌, ◌==◌, cond, List, [], ◌∷◌}
use Rattle.std.proofs.Common.{length, get_or, set, refl, sym, ap, ◌∙◌, arith}
use Rattle.std.proofs.lemmas.List.{set-get_or}
use Rattle.std.specs.List.{slice_get}
use Rattle.std.specs.Prelude.{Some}
use Rattle.lsdb.specs.Copies.{Database}
use Rattle.adjacency.specs.Contents.{Content, Step}
use Rattle.adjacency.specs.Contents as neighbor
use Rattle.adjacency.specs.Neighbors.{Neighbor}
use Rattle.received.specs.Links.{Area, Link, change_link, link_at}
use Rattle.received.specs.AreaStates.{AreaState, sends_at, one_neighbor, only_at, sending}
use Rattle.received.specs.AreaStates.{sent_on, step_on, stepped_links, stepping_sends}
use Rattle.area.specs.Links.{with_no_sends, with_neighbor}
use Rattle.area.specs.Steps.{one_link, sent_by}
use Rattle.area.proofs.Only.{sends_only, sent_acts, sent_rests, set_only, step_acts, step_rests}
use Rattle.area.proofs.Sends.{other_number, same_number}

-- ---- the link with a number

pub first_of : (ls : List Link) → 0 < length ls → Link
first_of [] some = absurd (omega (arith, some))
first_of (l ∷ ls) some = l

found : (ls : List Link) (i : ℕ) (d : Link) → i < length ls → slice_get ls i ≡ Some (get_or ls i d)
found [] i d lt = absurd (omega (arith, lt))
found (l ∷ ls) zero d lt = refl
found (l ∷ ls) (suc i) d lt = found ls i d (omega (arith, lt))

module _ (moment k : ℕ) (a : Area) (first : 1 ≤ k) (last : k ≤ length a.links) where
  abbrev some : 0 < length a.links
  some = omega (arith, first, last)

  abbrev pub link : Link
  link = get_or a.links (k - 1) (first_of a.links some)

  pub link_is : link_at k a.links ≡ Some link
  link_is =
      let next : k ≡ suc (k - 1) = omega (arith, first) in
      ap (λ m. link_at m a.links) next
      ∙ found a.links (k - 1) (first_of a.links some) (omega (arith, first, last))

  -- this is sent at the interface, and this is the link afterwards
  abbrev pub leaves : List Content → Link → AreaState
  leaves cs l = sending moment (sends_at k cs) (record {
    area = record { links = set a.links (k - 1) l; database = a.database };
    sends = [];
  })

  pub stays : (cs : List Content) → leaves cs link
      ≡ sending moment (sends_at k cs) (with_no_sends a)
  stays cs =
      ap (λ (ls : List Link). sending moment (sends_at k cs) (record {
        area = record { links = ls; database = a.database };
        sends = [];
      }))
      (set-get_or a.links (k - 1) (first_of a.links some))

  changed : (change : Link → Link) → change_link k change a.links
      ≡ set a.links (k - 1) (change link)
  changed change =
      let g : ℕ → Link → Link = λ p l. cond (p == k) (change l) l in
      sym (set_only g k (λ p l ne. ap (λ b. cond b (change l) l) (other_number p k ne)) (k - 1) 1
      a.links (change link) (first_of a.links some)
      (omega (arith, first, last)) (omega (arith, first))
      (sym (ap (λ b. cond b (change link) link) (same_number k))))

  pub one_link_is : (A : Database → Link → Link) (S : Database → Link → List Content)
      → one_link moment k A S (with_no_sends a) ≡ leaves (S a.database link) (A a.database link)
  one_link_is A S = λ i.
      sending moment (sends_at k (sent_by (S a.database) (link_is i))) (record {
        area = record { links = changed (A a.database) i; database = a.database };
        sends = [];
      })

  step_links : (f : Neighbor → Step)
      → stepped_links (only_at k f) a.links
      ≡ set a.links (k - 1) (with_neighbor (neighbor.step_on f link.neighbor) link)
  step_links f =
      let g : ℕ → Link → Link = λ p l. with_neighbor (step_on (only_at k f p l) l.neighbor) l in
      sym (set_only g k (λ p l ne. ap (λ o. with_neighbor o l) (step_rests f k p l l.neighbor ne))
      (k - 1) 1 a.links (with_neighbor (neighbor.step_on f link.neighbor) link)
      (first_of a.links some)
      (omega (arith, first, last)) (omega (arith, first))
      (ap (λ o. with_neighbor o link) (step_acts f k link link.neighbor)))

  step_sends : (f : Neighbor → Step)
      → stepping_sends (only_at k f) a.links ≡ sends_at k (neighbor.sent_on f link.neighbor)
  step_sends f =
      let S : ℕ → Link → List Content = λ p l. sent_on (only_at k f p l) l.neighbor in
      sends_only S k (λ p l ne. sent_rests f k p l l.neighbor ne) (k - 1) 1 a.links
      (first_of a.links some) (omega (arith, first, last)) (omega (arith, first))
      ∙ ap (sends_at k) (sym (sent_acts f k link link.neighbor))

  pub one_neighbor_is : (f : Neighbor → Step)
      → one_neighbor moment k f (with_no_sends a)
      ≡ leaves (neighbor.sent_on f link.neighbor)
      (with_neighbor (neighbor.step_on f link.neighbor) link)
  one_neighbor_is f = λ i.
      sending moment (step_sends f i) (record {
        area = record { links = step_links f i; database = a.database };
        sends = [];
      })

  -- a step of the neighbor that may read the database
  pub steps : (f : Database → Neighbor → Step)
      → one_link moment k (λ db l. with_neighbor (neighbor.step_on (f db) l.neighbor) l)
      (λ db l. neighbor.sent_on (f db) l.neighbor) (with_no_sends a)
      ≡ one_neighbor moment k (f a.database) (with_no_sends a)
  steps f =
      one_link_is (λ db l. with_neighbor (neighbor.step_on (f db) l.neighbor) l)
      (λ db l. neighbor.sent_on (f db) l.neighbor) ∙ sym (one_neighbor_is (f a.database))

  -- the changes of this one link
  pub changes_one : (change : Link → Link) (cs : List Content)
      → leaves cs (change link) ≡ sending moment (sends_at k cs) (record {
        area = record { links = change_link k change a.links; database = a.database };
        sends = [];
      })
  changes_one change cs =
      ap (λ (ls : List Link). sending moment (sends_at k cs) (record {
        area = record { links = ls; database = a.database };
        sends = [];
      })) (sym (changed change))
