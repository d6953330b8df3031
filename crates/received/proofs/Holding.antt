-- A property of every neighbor still holds after a step of each of them, after a change of a link,
-- after flooding and after a received LSA.
use Rattle.std.proofs.Common.{◌≡◌, ℕ, zero, suc, ◌+◌, ◌==◌, true, cond, List, [], ◌∷◌, map, Option}
use Rattle.std.proofs.Common.{None, Some}
use Rattle.std.specs.Prelude.{slice_get}
use Rattle.std.specs.List.{enumerate_from}
use Rattle.lsdb.specs.Headers.{Lsa, lsa_key}
use Rattle.lsdb.specs.Copies.{DatabaseCopy, install_flooded}
use Rattle.adjacency.specs.Adjacencies.{mismatch_step}
use Rattle.adjacency.specs.Contents.{Step, Updates, no_sends}
use Rattle.adjacency.specs.Neighbors.{Neighbor, is_exchange_or_later}
use Rattle.adjacency.specs.Requests.{without_request}
use Rattle.adjacency.specs.Retransmissions.{add_retransmission, remove_retransmission}
use Rattle.adjacency.proofs.Kept.{Fact, IsKept, Of, chosen, met_kept, mismatched_kept, owed_kept}
use Rattle.adjacency.proofs.Kept.{released_kept}
use Rattle.received.specs.Cases.{Case}
use Rattle.received.specs.Flooding.{flood, flood_to, is_to_be_sent, satisfies_request, request_of}
use Rattle.received.specs.Flooding.{without_satisfied_request}
use Rattle.received.specs.Holds.{Holds, HoldsOfEach}
use Rattle.received.specs.Links.{Link, change_link, delay_acknowledgment, link_at, neighbor_on}
use Rattle.received.specs.AreaStates.{AreaState, Stepping, each_neighbor, on_database, one_neighbor}
use Rattle.received.specs.AreaStates.{only_at, step_on}
use Rattle.received.specs.Updates.{after_case, database_copy, flood_and_install, send_copy}

module _ (P : Neighbor → Type 0) where
  -- ---- links

  -- a change of every link, by its number
  pub links_keep : (g : (ℕ × Link) → Link)
      → ((number : ℕ) (link : Link) → Holds P link.neighbor → Holds P (g (number, link)).neighbor)
      → (k : ℕ) (xs : List Link) → HoldsOfEach P xs
      → HoldsOfEach P (map g (enumerate_from k xs))
  links_keep g keeps k [] h = tt
  links_keep g keeps k (x ∷ xs) h = (keeps k x h.0, links_keep g keeps (k + 1) xs h.1)

  pub each_link_keeps : (g : Link → Link)
      → ((link : Link) → Holds P link.neighbor → Holds P (g link).neighbor) → (xs : List Link)
      → HoldsOfEach P xs → HoldsOfEach P (map g xs)
  each_link_keeps g keeps [] h = tt
  each_link_keeps g keeps (x ∷ xs) h = (keeps x h.0, each_link_keeps g keeps xs h.1)

  pub changed_keeps : (number : ℕ) (change : Link → Link)
      → ((link : Link) → Holds P link.neighbor → Holds P (change link).neighbor) → (xs : List Link)
      → HoldsOfEach P xs → HoldsOfEach P (change_link number change xs)
  changed_keeps number change keeps xs h =
      links_keep (λ (e : ℕ × Link). cond (e.0 == number) (change e.1) e.1)
      (λ k link at. chosen (λ (l : Link). Holds P l.neighbor) (k == number) (change link) link
      (λ e. keeps link at) (λ e. at)) 1 xs h

  place_holds : (xs : List Link) (i : ℕ) → HoldsOfEach P xs → Holds P (neighbor_on (slice_get xs i))
  place_holds [] i h = tt
  place_holds (x ∷ xs) zero h = h.0
  place_holds (x ∷ xs) (suc i) h = place_holds xs i h.1

  -- the neighbor at one interface has the property
  pub one_holds : (number : ℕ) (xs : List Link) → HoldsOfEach P xs
      → Holds P (neighbor_on (link_at number xs))
  one_holds zero xs h = tt
  one_holds (suc i) xs h = place_holds xs i h

  -- ---- steps of the neighbors

  step_holds : (f : Neighbor → Step) → ((n : Neighbor) → P n → P (f n).neighbor)
      → (o : Option Neighbor) → Holds P o → Holds P (step_on f o)
  step_holds f keeps None h = tt
  step_holds f keeps (Some n) h = keeps n h

  pub each_keeps : (moment : ℕ) (f : Stepping)
      → ((number : ℕ) (link : Link) (n : Neighbor) → P n → P (f number link n).neighbor)
      → (o : AreaState) → HoldsOfEach P o.area.links
      → HoldsOfEach P (each_neighbor moment f o).area.links
  each_keeps moment f keeps o h =
      links_keep (λ (e : ℕ × Link). record e.1 { neighbor = step_on (f e.0 e.1) e.1.neighbor })
      (λ k link at. step_holds (f k link) (keeps k link) link.neighbor at) 1 o.area.links h

  pub one_keeps : (moment number : ℕ) (f : Neighbor → Step)
      → ((n : Neighbor) → P n → P (f n).neighbor) → (o : AreaState) → HoldsOfEach P o.area.links
      → HoldsOfEach P (one_neighbor moment number f o).area.links
  one_keeps moment number f keeps o h =
      each_keeps moment (only_at number f)
      (λ place link n at. chosen (λ (s : Step). P s.neighbor) (place == number) (f n) (record {
        neighbor = n;
        sends = [];
      }) (λ e. keeps n at) (λ e. at)) o h

-- ---- flooding and received LSAs

module _ (Q : Fact) (kept : IsKept Q) where
  pub flood_to_kept : (moment : ℕ) (sender : Option ℕ) (lsa : Lsa) (number : ℕ) (link : Link)
      (n : Neighbor) → Of Q n → Of Q (flood_to moment sender lsa number link n).neighbor
  flood_to_kept moment sender lsa number link n h =
      let m : Neighbor = without_satisfied_request moment lsa n in
      let got : Step = record {
        neighbor = add_retransmission moment lsa.header m;
        sends = Updates lsa ∷ [];
      } in
      let not_got : Step = no_sends (remove_retransmission (lsa_key lsa) m) in
      chosen (λ (s : Step). Of Q s.neighbor) (is_exchange_or_later n.state)
      (cond (is_to_be_sent moment sender number lsa n) got not_got) (no_sends n)
      (λ part.
      let both : Of Q m × (is_exchange_or_later m.state ≡ true) =
      chosen (λ (l : Neighbor). Of Q l × (is_exchange_or_later l.state ≡ true))
      (satisfies_request moment lsa (request_of n lsa)) (without_request (lsa_key lsa) n) n
      (λ e. (met_kept Q kept (lsa_key lsa) n h, part)) (λ e. (h, part)) in
      chosen (λ (s : Step). Of Q s.neighbor) (is_to_be_sent moment sender number lsa n) got not_got
      (λ e. owed_kept Q kept moment lsa.header m tt both.1 both.0)
      (λ e. released_kept Q kept (lsa_key lsa) m both.0))
      (λ e. h)

  pub flood_kept : (moment : ℕ) (sender : Option ℕ) (lsa : Lsa) (o : AreaState)
      → HoldsOfEach (Of Q) o.area.links → HoldsOfEach (Of Q) (flood moment sender lsa o).area.links
  flood_kept moment sender lsa o h =
      each_keeps (Of Q) moment (flood_to moment sender lsa) (flood_to_kept moment sender lsa) o h

  install_kept : (moment number : ℕ) (lsa : Lsa) (o : AreaState) → HoldsOfEach (Of Q) o.area.links
      → HoldsOfEach (Of Q) (flood_and_install moment number lsa o).area.links
  install_kept moment number lsa o h =
      let p : AreaState = on_database (install_flooded moment lsa) o in
      changed_keeps (Of Q) number (delay_acknowledgment lsa.header) (λ link at. at)
      (flood moment (Some number) lsa p).area.links (flood_kept moment (Some number) lsa p h)

  copy_kept : (moment number : ℕ) (c : Option DatabaseCopy) (o : AreaState)
      → HoldsOfEach (Of Q) o.area.links
      → HoldsOfEach (Of Q) (send_copy moment number c o).area.links
  copy_kept moment number None o h = h
  copy_kept moment number (Some c) o h = h

  pub case_kept : (case : Case) (moment number : ℕ) (lsa : Lsa) (o : AreaState)
      → HoldsOfEach (Of Q) o.area.links
      → HoldsOfEach (Of Q) (after_case case moment number lsa o).area.links
  case_kept Case.Unreadable moment number lsa o h = h
  case_kept Case.NothingToFlush moment number lsa o h = h
  case_kept Case.TooSoon moment number lsa o h = h
  case_kept Case.Newer moment number lsa o h = install_kept moment number lsa o h
  case_kept Case.BadRequest moment number lsa o h =
      one_keeps (Of Q) moment number (mismatch_step moment) (mismatched_kept Q kept moment) o h
  case_kept Case.ImpliedAcknowledgment moment number lsa o h =
      one_keeps (Of Q) moment number (λ n. no_sends (remove_retransmission (lsa_key lsa) n))
      (λ n at. released_kept Q kept (lsa_key lsa) n at) o h
  case_kept Case.Duplicate moment number lsa o h = h
  case_kept Case.SequenceWraps moment number lsa o h = h
  case_kept Case.SentJustNow moment number lsa o h = h
  case_kept Case.Older moment number lsa o h =
      copy_kept moment number (database_copy lsa o.area) o h
