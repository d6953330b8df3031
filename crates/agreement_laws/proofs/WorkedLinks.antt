-- What changes of the links don't change: which neighbors there are, their states, and so the
-- router-LSA.
use Rattle.std.proofs.Common.{◌≡◌, ℕ, zero, suc, ◌+◌, ◌==◌, Bool, true, false, cond, ◌||◌, List, []}
use Rattle.std.proofs.Common.{◌∷◌, ◌++◌, map, Option, None, Some, refl, sym, ap, ◌∙◌, slice_get}
use Rattle.std.proofs.Common.{true≢false, arith}
use Rattle.std.specs.List.{enumerate_from, flat_map, fold, list_any}
use Rattle.std.proofs.lemmas.List.{append-nil}
use Rattle.std.proofs.lemmas.Option.{none-some}
use Rattle.lsa.specs.declared.body.LsaBody.TheVariants as body
use Rattle.lsa.specs.declared.body.RouterLink.{RouterLink}
use Rattle.lsa.specs.declared.body.LinkKind.TheVariants.{PointToPoint}
use Rattle.lsdb.specs.Copies.{Database}
use Rattle.lsdb.specs.Headers.{Header, Lsa, lsa_key}
use Rattle.adjacency.specs.Contents.{Step, Updates, no_sends}
use Rattle.adjacency.specs.Neighbors.{Neighbor, is_full, is_exchange_or_loading}
use Rattle.adjacency.specs.Neighbors.{is_exchange_or_later}
use Rattle.adjacency.specs.Requests.{without_request}
use Rattle.adjacency.specs.Retransmissions.{add_retransmission, remove_retransmission}
use Rattle.adjacency.specs.declared.interface.Interface.{Interface}
use Rattle.adjacency.specs.declared.state.NeighborState.{NeighborState}
use Rattle.received.specs.Flooding.{flood_to, is_to_be_sent, satisfies_request, request_of}
use Rattle.received.specs.Flooding.{without_satisfied_request}
use Rattle.received.specs.Links.{Link, any_exchange_or_loading, change_link, delay_acknowledgment}
use Rattle.received.specs.Links.{link_at, neighbor_is_exchange_or_loading}
use Rattle.received.specs.AreaStates.{AreaState, Stepping, each_neighbor, marked_database, sends_at}
use Rattle.received.specs.AreaStates.{sent_on, step_on, stepped_links}
use Rattle.adjacency.specs.Steps.{named_neighbor}
use Rattle.event_rules.specs.Originations.{links_of, point_to_point, router_body, stub}

pub left_false : (a b : Bool) → (a || b) ≡ false → a ≡ false
left_false true b e = absurd (true≢false e)
left_false false b e = refl

pub right_false : (a b : Bool) → (a || b) ≡ false → b ≡ false
right_false true b e = absurd (true≢false e)
right_false false b e = e

-- ---- the neighbors

abbrev pub seen : Link → Interface × Option (ℕ × NeighborState)
seen link = (link.interface, named_neighbor link.neighbor)

abbrev pub told_of : Interface → Option (ℕ × NeighborState) → List RouterLink
told_of i None = []
told_of i (Some n) = cond (is_full n.1) (record {
  link_id = n.0;
  link_data = i.address;
  kind = PointToPoint;
  metric = i.cost;
  tos = [];
} ∷ []) []

abbrev pub told : Interface × Option (ℕ × NeighborState) → List RouterLink
told x = told_of x.0 x.1 ++ stub x.0 ∷ []

told_on : (i : Interface) (o : Option Neighbor) → point_to_point i o ≡ told_of i (named_neighbor o)
told_on i None = refl
told_on i (Some n) = refl

all_told : (xs : List Link) → flat_map links_of xs ≡ flat_map told (map seen xs)
all_told [] = refl
all_told (x ∷ xs) = λ i. (told_on x.interface x.neighbor i ++ stub x.interface ∷ [])
    ++ all_told xs i

pub same_router : (xs ys : List Link) → map seen xs ≡ map seen ys → router_body xs ≡ router_body ys
same_router xs ys e =
    let links : flat_map links_of xs ≡ flat_map links_of ys = all_told xs ∙ ap (flat_map told) e
    ∙ sym (all_told ys) in
    λ i. body.Router (record { flags = 2; links = links i })

abbrev pub is_busy_of : Option (ℕ × NeighborState) → Bool
is_busy_of None = false
is_busy_of (Some n) = is_exchange_or_loading n.1

abbrev pub is_busy : Interface × Option (ℕ × NeighborState) → Bool
is_busy x = is_busy_of x.1

busy_on : (o : Option Neighbor) → neighbor_is_exchange_or_loading o ≡ is_busy_of (named_neighbor o)
busy_on None = refl
busy_on (Some n) = refl

any_busy : (xs : List Link) → any_exchange_or_loading xs ≡ list_any is_busy (map seen xs)
any_busy [] = refl
any_busy (x ∷ xs) = λ i. busy_on x.neighbor i || any_busy xs i

pub same_rest : (xs ys : List Link) → map seen xs ≡ map seen ys → any_exchange_or_loading xs
    ≡ any_exchange_or_loading ys
same_rest xs ys e = any_busy xs ∙ ap (list_any is_busy) e ∙ sym (any_busy ys)

-- ---- steps that don't change the neighbors

abbrev pub who : Neighbor → ℕ × NeighborState
who n = (n.router, n.state)

abbrev pub Keeps : Stepping → Type 0
Keeps f = (number : ℕ) (link : Link) (n : Neighbor) → who (f number link n).neighbor ≡ who n

pub chosen_step : (b : Bool) (s t : Step) (w : ℕ × NeighborState) → who s.neighbor ≡ w
    → who t.neighbor ≡ w → who (cond b s t).neighbor ≡ w
chosen_step true s t w p q = p
chosen_step false s t w p q = q

chosen_who : (b : Bool) (m n : Neighbor) (w : ℕ × NeighborState) → who m ≡ w → who n ≡ w
    → who (cond b m n)
    ≡ w
chosen_who true m n w p q = p
chosen_who false m n w p q = q

pub flooding_keeps : (moment : ℕ) (sender : Option ℕ) (lsa : Lsa)
    → Keeps (flood_to moment sender lsa)
flooding_keeps moment sender lsa number link n =
    let m : Neighbor = without_satisfied_request moment lsa n in
    let same : who m ≡ who n = chosen_who (satisfies_request moment lsa (request_of n lsa))
    (without_request (lsa_key lsa) n) n (who n) refl refl in
    let got : Step = record {
      neighbor = add_retransmission moment lsa.header m;
      sends = Updates lsa ∷ [];
    } in
    let not_got : Step = no_sends (remove_retransmission (lsa_key lsa) m) in
    chosen_step (is_exchange_or_later n.state)
    (cond (is_to_be_sent moment sender number lsa n) got not_got)
    (no_sends n) (who n)
    (chosen_step (is_to_be_sent moment sender number lsa n) got not_got (who n) same same) refl

shown_kept : (f : Neighbor → Step) (o : Option Neighbor)
    → ((n : Neighbor) → who (f n).neighbor ≡ who n)
    → named_neighbor (step_on f o) ≡ named_neighbor o
shown_kept f None keeps = refl
shown_kept f (Some n) keeps = ap Some (keeps n)

stepped_from : (f : Stepping) → Keeps f → (k : ℕ) (xs : List Link)
    → map seen (map (λ (e : ℕ × Link). record e.1 { neighbor = step_on (f e.0 e.1) e.1.neighbor })
    (enumerate_from k xs)) ≡ map seen xs
stepped_from f keeps k [] = refl
stepped_from f keeps k (x ∷ xs) = λ i. (x.interface, shown_kept (f k x) x.neighbor (keeps k x) i)
    ∷ stepped_from f keeps (k + 1) xs i

pub stepped_seen : (f : Stepping) → Keeps f → (xs : List Link) → map seen (stepped_links f xs)
    ≡ map seen xs
stepped_seen f keeps xs = stepped_from f keeps 1 xs

chosen_seen : (b : Bool) (h : Header) (x : Link)
    → seen (cond b (delay_acknowledgment h x) x) ≡ seen x
chosen_seen true h x = refl
chosen_seen false h x = refl

changed_from : (number : ℕ) (h : Header) (k : ℕ) (xs : List Link)
    → map seen (map (λ (e : ℕ × Link). cond (e.0 == number) (delay_acknowledgment h e.1) e.1)
    (enumerate_from k xs)) ≡ map seen xs
changed_from number h k [] = refl
changed_from number h k (x ∷ xs) = λ i. chosen_seen (k == number) h x i
    ∷ changed_from number h (k + 1) xs i

pub acknowledged_seen : (number : ℕ) (h : Header) (xs : List Link)
    → map seen (change_link number (delay_acknowledgment h) xs) ≡ map seen xs
acknowledged_seen number h xs = changed_from number h 1 xs

-- ---- steps that change nothing

module _ (f : Neighbor → Step) (does_nothing : (n : Neighbor) → is_exchange_or_loading n.state
    ≡ false → f n ≡ no_sends n) where
  step_rest : (o : Option Neighbor) → neighbor_is_exchange_or_loading o ≡ false → step_on f o ≡ o
  step_rest None e = refl
  step_rest (Some n) e = ap (λ (s : Step). Some s.neighbor) (does_nothing n e)

  sent_rest : (o : Option Neighbor) → neighbor_is_exchange_or_loading o ≡ false → sent_on f o ≡ []
  sent_rest None e = refl
  sent_rest (Some n) e = ap (λ (s : Step). s.sends) (does_nothing n e)

  stepped_rest : (k : ℕ) (xs : List Link) → any_exchange_or_loading xs ≡ false
      → map (λ (e : ℕ × Link). record e.1 { neighbor = step_on f e.1.neighbor })
      (enumerate_from k xs) ≡ xs
  stepped_rest k [] e = refl
  stepped_rest k (x ∷ xs) e =
      λ i. record x {
        neighbor = step_rest x.neighbor (left_false _ _ e) i;
      }
      ∷ stepped_rest (k + 1) xs (right_false (neighbor_is_exchange_or_loading x.neighbor) _
      e) i

  sends_rest : (k : ℕ) (xs : List Link) → any_exchange_or_loading xs ≡ false
      → flat_map (λ (e : ℕ × Link). sends_at e.0 (sent_on f e.1.neighbor)) (enumerate_from k xs)
      ≡ []
  sends_rest k [] e = refl
  sends_rest k (x ∷ xs) e = λ i. sends_at k (sent_rest x.neighbor (left_false _ _ e) i)
      ++ sends_rest (k + 1) xs (right_false (neighbor_is_exchange_or_loading x.neighbor) _ e) i

  pub each_rest : (moment : ℕ) (o : AreaState) → any_exchange_or_loading o.area.links ≡ false
      → each_neighbor moment (λ number link n. f n) o ≡ o
  each_rest moment o e =
      (λ i. record {
        area = record {
          links = stepped_rest 1 o.area.links e i;
          database = fold (λ (db : Database) s. marked_database moment db s.content) o.area.database
              (sends_rest 1 o.area.links e i);
        };
        sends = o.sends ++ sends_rest 1 o.area.links e i;
      })
      ∙ ap (λ s. record o { sends = s }) (append-nil o.sends)

-- ---- one link

at_from : (g : (ℕ × Link) → Link) (k : ℕ) (xs : List Link) (i : ℕ) (x : Link) → slice_get xs i
    ≡ Some x → slice_get (map g (enumerate_from k xs)) i ≡ Some (g (k + i, x))
at_from g k [] i x e = absurd (none-some x e)
at_from g k (y ∷ xs) zero x e =
    let place : k ≡ k + 0 = omega arith in
    ap (λ (o : Option Link). map_some o) e ∙ ap (λ n. Some (g (n, x))) place
  where
    map_some : Option Link → Option Link
    map_some None = None
    map_some (Some z) = Some (g (k, z))
at_from g k (y ∷ xs) (suc i) x e =
    let place : k + 1 + i ≡ k + suc i = omega arith in
    at_from g (k + 1) xs i x e ∙ ap (λ n. Some (g (n, x))) place

pub link_changed : (g : (ℕ × Link) → Link) (number : ℕ) (xs : List Link) (x : Link)
    → link_at number xs ≡ Some x → link_at number (map g (enumerate_from 1 xs))
    ≡ Some (g (number, x))
link_changed g zero xs x e = absurd (none-some x e)
link_changed g (suc n) xs x e =
    let place : 1 + n ≡ suc n = omega arith in
    at_from g 1 xs n x e ∙ ap (λ m. Some (g (m, x))) place
