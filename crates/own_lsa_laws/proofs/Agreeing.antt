-- Two router-LSAs with the same bytes have Full neighbors on the same links. So if the bytes after
-- a Tick are those before the event, no neighbor was lost.
use Rattle.std.proofs.Common.{◌≡◌, ◌<◌, ℕ, zero, suc, Bool, true, false, cond, not, ◌⊎◌, inl, inr}
use Rattle.std.proofs.Common.{List, [], ◌∷◌, ◌++◌, map, Option, None, Some, is_some, refl, sym, ap}
use Rattle.std.proofs.Common.{subst, ◌∙◌, arith}
use Rattle.std.specs.List.{flat_map}
use Rattle.std.specs.Cmp.{tied_itself}
use Rattle.std.specs.Cmp.Lexicographic.{nat_list_cmp_total, slice_cmp}
use Rattle.std.specs.FinMap.{nat_cmp-IsAntisymmetric, slice_cmp-IsAntisymmetric}
use Rattle.std.specs.Ordering.{is_eq, nat_cmp}
use Rattle.std.proofs.lemmas.Bool.{not-false}
use Rattle.lsa.specs.Text.{body_text, link_text}
use Rattle.lsa.specs.declared.body.LsaBody.{LsaBody}
use Rattle.lsa.specs.declared.body.LsaBody.TheVariants as body
use Rattle.lsa.specs.declared.body.RouterLink.{RouterLink}
use Rattle.adjacency.specs.declared.interface.Interface.{Interface}
use Rattle.adjacency.specs.declared.state.NeighborState.{NeighborState}
use Rattle.adjacency.specs.declared.state.NeighborState.TheVariants.{Init, ExStart, Exchange}
use Rattle.adjacency.specs.declared.state.NeighborState.TheVariants.{Loading, Full}
use Rattle.adjacency.specs.Adjacencies.{after_inactivity_timer, has_passed, loading_done}
use Rattle.adjacency.specs.Adjacencies.{loading_done_in, requests_nothing}
use Rattle.adjacency.specs.Descriptions.{is_over_for, without_old_description}
use Rattle.adjacency.specs.Neighbors.{Neighbor}
use Rattle.adjacency.proofs.Kept.{chosen}
use Rattle.received.specs.Links.{Link}
use Rattle.received.proofs.Marks.{tied}
use Rattle.event_rules.specs.Endings.{link_loading_done, links_differ, loading_done_on, same_body}
use Rattle.event_rules.specs.Originations.{router_body, stub}
use Rattle.event_rules.specs.Ticks.{expire_timers, settled_exchange}
use Rattle.own_lsa_laws.proofs.Faces.{Face, body_by_faces, face_links, faces, faces_body}
use Rattle.own_lsa_laws.proofs.Faces.{full_router, told_to}

-- ---- bytes

pub text_of_same : (a b : LsaBody) → same_body a b ≡ true → body_text a ≡ body_text b
text_of_same a b e = slice_cmp-IsAntisymmetric nat_cmp-IsAntisymmetric (body_text a) (body_text b)
    (tied (slice_cmp nat_cmp (body_text a) (body_text b)) e)

pub same_of_text : (a b : LsaBody) → body_text a ≡ body_text b → same_body a b ≡ true
same_of_text a b e = subst (λ (t : List ℕ). is_eq (slice_cmp nat_cmp (body_text a) t) ≡ true) e
    (ap is_eq (tied_itself nat_list_cmp_total (body_text a)))

-- router-LSAs that don't differ have the same bytes
pub undiffering : (xs ys : List Link) → links_differ xs ys ≡ false → body_text (router_body xs)
    ≡ body_text (router_body ys)
undiffering xs ys e = text_of_same (router_body xs) (router_body ys)
    (not-false (same_body (router_body xs) (router_body ys)) e)

pub never_differs : (xs ys : List Link) → ys ≡ xs → links_differ xs ys ≡ false
never_differs xs ys e = ap not (same_of_text (router_body xs) (router_body ys)
    (ap (λ (l : List Link). body_text (router_body l)) (sym e)))

-- ---- from the bytes to the links

abbrev behind : ℕ → List ℕ → List ℕ
behind zero xs = xs
behind (suc k) [] = []
behind (suc k) (x ∷ xs) = behind k xs

abbrev at_place : ℕ → List ℕ → ℕ
at_place k [] = 0
at_place zero (x ∷ xs) = x
at_place (suc k) (x ∷ xs) = at_place k xs

abbrev links_text : List RouterLink → List ℕ
links_text ls = flat_map link_text ls

abbrev shown : Interface → Option ℕ → List RouterLink → List ℕ
shown i full ls = links_text ((told_to i full ++ stub i ∷ []) ++ ls)

not_one : (n : ℕ) → 1 < n → n ≡ 1 → ⊥
not_one n above is = omega arith

-- the ninth byte of a link is its type: to a router or to a stub network
same_start : (i : Interface) (a b : Option ℕ) (xs ys : List RouterLink) → shown i a xs
    ≡ shown i b ys → (is_some a ≡ is_some b) × (links_text xs ≡ links_text ys)
same_start i None None xs ys e = (refl, ap (behind 12) e)
same_start i None (Some b) xs ys e = absurd (not_one 3 (omega arith) (ap (at_place 8) e))
same_start i (Some a) None xs ys e = absurd (not_one 3 (omega arith) (sym (ap (at_place 8) e)))
same_start i (Some a) (Some b) xs ys e = (refl, ap (behind 24) e)

-- ---- neighbors that are lost, and neighbors that become Full

abbrev gone : Face → Face
gone f = record { interface = f.interface; is_there = false; full = None }

abbrev Loses : Face → Face → Type 0
Loses f g = (g ≡ f) ⊎ (g ≡ gone f)

abbrev Lose : List Face → List Face → Type 0
Lose [] [] = Unit {0}
Lose [] (g ∷ gs) = ⊥
Lose (f ∷ fs) [] = ⊥
Lose (f ∷ fs) (g ∷ gs) = Loses f g × Lose fs gs

abbrev Gains : Face → Face → Type 0
Gains g h = (h.interface ≡ g.interface) × (g.is_there ≡ false → h.full ≡ None)

abbrev Gain : List Face → List Face → Type 0
Gain [] [] = Unit {0}
Gain [] (h ∷ hs) = ⊥
Gain (g ∷ gs) [] = ⊥
Gain (g ∷ gs) (h ∷ hs) = Gains g h × Gain gs hs

none_of : (o : Option ℕ) → is_some o ≡ false → o ≡ None
none_of None e = refl
none_of (Some x) e = absurd cc

first_lost : (f g h : Face) → Loses f g → Gains g h → is_some f.full ≡ is_some h.full → face_links g
    ≡ face_links f
first_lost f g h (inl is) gains same = ap face_links is
first_lost f g h (inr is) gains same =
    let h_none : h.full ≡ None = gains.1 (ap (λ (x : Face). x.is_there) is) in
    let none : f.full ≡ None = none_of f.full (same ∙ ap is_some h_none) in
    ap face_links is ∙ ap (λ (o : Option ℕ). told_to f.interface o ++ stub f.interface ∷ [])
    (sym none)

lost_interface : (f g : Face) → Loses f g → g.interface ≡ f.interface
lost_interface f g (inl is) = ap (λ (x : Face). x.interface) is
lost_interface f g (inr is) = ap (λ (x : Face). x.interface) is

nothing_lost : (fs gs hs : List Face) → Lose fs gs → Gain gs hs
    → links_text (flat_map face_links fs) ≡ links_text (flat_map face_links hs)
    → flat_map face_links gs ≡ flat_map face_links fs
nothing_lost [] [] hs lose gain e = refl
nothing_lost [] (g ∷ gs) hs lose gain e = absurd lose
nothing_lost (f ∷ fs) [] hs lose gain e = absurd lose
nothing_lost (f ∷ fs) (g ∷ gs) [] lose gain e = absurd gain
nothing_lost (f ∷ fs) (g ∷ gs) (h ∷ hs) lose gain e =
    let xs : List RouterLink = flat_map face_links fs in
    let ys : List RouterLink = flat_map face_links hs in
    let here : shown f.interface f.full xs ≡ shown f.interface h.full ys =
    subst (λ (i : Interface). shown f.interface f.full xs ≡ shown i h.full ys)
    (gain.0.0 ∙ lost_interface f g lose.0) e in
    let both = same_start f.interface f.full h.full xs ys here in
    let one : face_links g ≡ face_links f = first_lost f g h lose.0 gain.0 both.0 in
    let rest : flat_map face_links gs ≡ xs = nothing_lost fs gs hs lose.1 gain.1 both.1 in
    λ i. one i ++ rest i

-- ---- a Tick loses neighbors, LoadingDone makes them Full

abbrev seen : Interface → Option Neighbor → Face
seen i o = record { interface = i; is_there = is_some o; full = full_router o }

kept_face : (moment dead : ℕ) (i : Interface) (n : Neighbor)
    → seen i (Some (without_old_description moment dead n)) ≡ seen i (Some n)
kept_face moment dead i n =
    chosen (λ (m : Neighbor). seen i (Some m) ≡ seen i (Some n))
    (is_over_for moment dead n.exchanged) (record n {
      described = None;
    }) n (λ e. refl) (λ e. refl)

ran_out : (moment dead : ℕ) (i : Interface) (o : Option Neighbor)
    → Loses (seen i o) (seen i (settled_exchange moment dead
    (after_inactivity_timer moment dead o)))
ran_out moment dead i None = inl refl
ran_out moment dead i (Some n) =
    chosen (λ (q : Option Neighbor). Loses (seen i (Some n))
    (seen i (settled_exchange moment dead q))) (has_passed n.last_heard dead moment) None
    (Some n)
    (λ e. inr refl) (λ e. inl (kept_face moment dead i n))

losing : (moment : ℕ) (xs : List Link) → Lose (faces xs) (faces (map (expire_timers moment) xs))
losing moment [] = tt
losing moment (x ∷ xs) = (
  ran_out moment x.interface.dead_interval x.interface x.neighbor,
  losing moment xs,
)

filled : (i : Interface) (o : Option Neighbor) → Gains (seen i o) (seen i (loading_done_on o))
filled i None = (refl, λ e. refl)
filled i (Some n) = (refl, λ e. absurd cc)

gaining : (xs : List Link) → Gain (faces xs) (faces (map link_loading_done xs))
gaining [] = tt
gaining (x ∷ xs) = (filled x.interface x.neighbor, gaining xs)

-- if the bytes after a Tick are those before it, they were the same in between
pub tick_agrees : (moment : ℕ) (old xs : List Link)
    → faces xs ≡ faces (map (expire_timers moment) old)
    → body_text (router_body old) ≡ body_text (router_body (map link_loading_done xs))
    → router_body (map (expire_timers moment) old) ≡ router_body old
tick_agrees moment old xs same e =
    let ys : List Link = map link_loading_done xs in
    let texts : body_text (faces_body (faces old)) ≡ body_text (faces_body (faces ys)) =
    ap body_text (sym (body_by_faces old)) ∙ e ∙ ap body_text (body_by_faces ys) in
    let links : flat_map face_links (faces xs) ≡ flat_map face_links (faces old) =
    nothing_lost (faces old) (faces xs) (faces ys)
    (subst (Lose (faces old)) (sym same) (losing moment old)) (gaining xs) (ap (behind 4) texts)
    in
    body_by_faces (map (expire_timers moment) old) ∙ ap faces_body (sym same)
    ∙ ap (λ (ls : List RouterLink). body.Router (record {
      flags = 2;
      links = ls;
    })) links ∙ sym (body_by_faces old)

-- ---- LoadingDone twice

once_in : (s : NeighborState) (n : Neighbor) → n.state ≡ s → loading_done (loading_done_in s n)
    ≡ loading_done_in s n
once_in Init n is = ap (λ (s : NeighborState). loading_done_in s n) is
once_in ExStart n is = ap (λ (s : NeighborState). loading_done_in s n) is
once_in Exchange n is = ap (λ (s : NeighborState). loading_done_in s n) is
once_in Loading n is =
    chosen (λ (m : Neighbor). loading_done m ≡ m) (requests_nothing n) (record n {
      state = Full;
    }) n (λ e. refl)
    (λ none. ap (λ (s : NeighborState). loading_done_in s n) is
    ∙ ap (λ (b : Bool). cond b (record n {
      state = Full;
    }) n) none)
once_in Full n is = ap (λ (s : NeighborState). loading_done_in s n) is

once_on : (o : Option Neighbor) → loading_done_on (loading_done_on o) ≡ loading_done_on o
once_on None = refl
once_on (Some n) = ap (λ (m : Neighbor). Some m) (once_in n.state n refl)

pub once : (xs : List Link) → map link_loading_done (map link_loading_done xs)
    ≡ map link_loading_done xs
once [] = refl
once (x ∷ xs) = let here = once_on x.neighbor in λ i. record x { neighbor = here i } ∷ once xs i
