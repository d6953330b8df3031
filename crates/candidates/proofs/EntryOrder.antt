-- The order of entries is total, and entries with one router, kind and ID are contiguous.
use Rattle.std.proofs.Common.{◌≡◌, ℕ, zero, suc, ◌+◌, ◌<◌, ◌≤◌, ◌⊎◌, inl, inr, true, false, List}
use Rattle.std.proofs.Common.{length, get_or, None, Some, slice_get, Ordering, refl, sym, ◌∙◌, ap}
use Rattle.std.proofs.Common.{subst, arith}
use Rattle.std.proofs.lemmas.Bool.{cases_lt, false≢true}
use Rattle.std.proofs.lemmas.Cmp.{on_total, ranked, then_total}
use Rattle.std.proofs.lemmas.List.Sorted.{ranks_by, searchable_from_sorted, sorted_far}
use Rattle.std.proofs.lemmas.Option.{get_or_from_slice_get, slice_get_within}
use Rattle.std.specs.Cmp.{IsTotalOrder, nat_cmp_total}
use Rattle.std.specs.FinMap.{nat_cmp-IsAntisymmetric}
use Rattle.std.specs.List.{Contains}
use Rattle.std.specs.List.Sorted.{IsPartitionPoint, IsPartitionedBy, IsSorted}
use Rattle.std.specs.Ordering.{is_lt, nat_cmp, ordering_index, ordering_then}
use Rattle.std.specs.declared.cmp.Ordering.TheVariants.{Equal, Greater, Less}
use Rattle.candidates.specs.Entries.{HasEntry, HasMetric, IsBeside, IsLeastMetric, entry_cmp, rank}
use Rattle.candidates.specs.declared.entry.AdvertisedLink.{AdvertisedLink}
use Rattle.candidates.specs.declared.entry.EntryKind.{EntryKind}
use Rattle.candidates.specs.declared.entry.EntryKind.TheVariants.{Attached, PointToPoint, Transit}
use Rattle.candidates.proofs.KeyNodes.{lt_false, lt_true}
use Rattle.candidates.proofs.GraphWhole.{contained, placed}

pub entries_total : IsTotalOrder entry_cmp
entries_total =
    then_total (on_total (λ (e : AdvertisedLink). e.router) nat_cmp_total)
    (then_total (on_total (λ (e : AdvertisedLink). rank e.kind) nat_cmp_total)
    (then_total (on_total (λ (e : AdvertisedLink). e.id) nat_cmp_total)
    (then_total (on_total (λ (e : AdvertisedLink). e.metric) nat_cmp_total)
    (on_total (λ (e : AdvertisedLink). e.place) nat_cmp_total))))

-- a later entry isn't before an earlier one
pub in_order : (entries : List AdvertisedLink) → IsSorted entry_cmp entries
    → (i j : ℕ) (a b : AdvertisedLink) → slice_get entries i ≡ Some a → slice_get entries j ≡ Some b
    → i ≤ j → entry_cmp b a ≡ Less → ⊥
in_order entries sorted i j a b here there le less =
    let far : is_lt (entry_cmp (get_or entries j a) (get_or entries i a)) ≡ false =
    sorted_far (λ (x : AdvertisedLink) (y : AdvertisedLink). is_lt (entry_cmp x y))
    (ranks_by entries_total (λ (x : AdvertisedLink). x)) entries sorted i j a le
    (slice_get_within entries j b there) in
    let P : AdvertisedLink → Type 0 = λ x. is_lt (entry_cmp x (get_or entries i a)) ≡ false in
    let Q : AdvertisedLink → Type 0 = λ x. is_lt (entry_cmp b x) ≡ false in
    lt_false (entry_cmp b a) (subst Q (get_or_from_slice_get entries i a a here)
    (subst P (get_or_from_slice_get entries j b a there) far)) less

-- ---- binary search

low_index : (r s : Ordering) → ordering_index r ≤ ordering_index s → is_lt s ≡ true → is_lt r ≡ true
low_index Less s le t = refl
low_index Equal Less le t = absurd (omega (arith, le))
low_index Equal Equal le t = absurd (false≢true t)
low_index Equal Greater le t = absurd (false≢true t)
low_index Greater Less le t = absurd (omega (arith, le))
low_index Greater Equal le t = absurd (false≢true t)
low_index Greater Greater le t = absurd (false≢true t)

pub parted : (entries : List AdvertisedLink) (entry : AdvertisedLink) → IsSorted entry_cmp entries
    → IsPartitionedBy (λ (y : AdvertisedLink). is_lt (entry_cmp y entry)) entries
parted entries entry sorted i j d le lt t =
    low_index (entry_cmp (get_or entries i d) entry) (entry_cmp (get_or entries j d) entry)
    (searchable_from_sorted entries_total (λ (e : AdvertisedLink). e) entries entry sorted i j d le
    lt) t

abbrev pub IsPoint : List AdvertisedLink → AdvertisedLink → ℕ → Type 0
IsPoint entries entry at = IsPartitionPoint
    (λ (y : AdvertisedLink). is_lt (entry_cmp y entry) ≡ true)
    (λ (y : AdvertisedLink). is_lt (entry_cmp y entry) ≡ false) entries at

pub before : (entries : List AdvertisedLink) (entry : AdvertisedLink) (at : ℕ)
    → IsPoint entries entry at → (k : ℕ) (other : AdvertisedLink) → slice_get entries k ≡ Some other
    → k < at → entry_cmp other entry ≡ Less
before entries entry at point k other here low =
    let P : AdvertisedLink → Type 0 = λ y. is_lt (entry_cmp y entry) ≡ true in
    lt_true (entry_cmp other entry) (subst P (get_or_from_slice_get entries k other other here)
    (point.0 k other (omega arith) low))

pub beyond : (entries : List AdvertisedLink) (entry : AdvertisedLink) (at : ℕ)
    → IsPoint entries entry at → (k : ℕ) (other : AdvertisedLink) → slice_get entries k ≡ Some other
    → at ≤ k → entry_cmp other entry ≡ Less → ⊥
beyond entries entry at point k other here high =
    let P : AdvertisedLink → Type 0 = λ y. is_lt (entry_cmp y entry) ≡ false in
    lt_false (entry_cmp other entry) (subst P (get_or_from_slice_get entries k other other here)
    (point.1 k other high (slice_get_within entries k other here)))

-- ---- an index that is tried first

before_at : (entries : List AdvertisedLink) (entry : AdvertisedLink) → IsSorted entry_cmp entries
    → (i j : ℕ) (a b : AdvertisedLink) → slice_get entries i ≡ Some a → slice_get entries j ≡ Some b
    → i ≤ j → entry_cmp b entry ≡ Less → entry_cmp a entry ≡ Less
before_at entries entry sorted i j a b here there le less =
    let P : AdvertisedLink → Type 0 = λ x. is_lt (entry_cmp x entry) ≡ true in
    let later = subst P (sym (get_or_from_slice_get entries j b a there)) (ap is_lt less) in
    lt_true (entry_cmp a entry) (subst P (get_or_from_slice_get entries i a a here)
    (parted entries entry sorted i j a le (slice_get_within entries j b there) later))

-- all below an index are before the entry if the last of them is
pub lower_ones : (entries : List AdvertisedLink) (entry : AdvertisedLink)
    → IsSorted entry_cmp entries → (at : ℕ) (last : AdvertisedLink)
    → slice_get entries at ≡ Some last → entry_cmp last entry ≡ Less
    → (k : ℕ) (other : AdvertisedLink) → slice_get entries k ≡ Some other → k < at + 1
    → entry_cmp other entry ≡ Less
lower_ones entries entry sorted at last there less k other here low =
    before_at entries entry sorted k at other last here there (omega (arith, low)) less

-- none from an index on is before the entry if the first of them isn't
pub higher_ones : (entries : List AdvertisedLink) (entry : AdvertisedLink)
    → IsSorted entry_cmp entries → (at : ℕ) (first : AdvertisedLink)
    → slice_get entries at ≡ Some first → (entry_cmp first entry ≡ Less → ⊥)
    → (k : ℕ) (other : AdvertisedLink) → slice_get entries k ≡ Some other → at ≤ k
    → entry_cmp other entry ≡ Less → ⊥
higher_ones entries entry sorted at first here never k other there le less =
    never (before_at entries entry sorted at k first other here there le less)

-- the entry at some index has the router, kind and ID
pub has_found : (entries : List AdvertisedLink) (at : ℕ) (found : AdvertisedLink) (router : ℕ)
    (kind : EntryKind) (id : ℕ) → slice_get entries at ≡ Some found → found.router ≡ router
    → found.kind ≡ kind → found.id ≡ id → HasEntry entries router kind id
has_found entries at found router kind id here same_router same_kind same_id =
    let P : AdvertisedLink → Type 0 = λ e. Contains entries e in
    let same : found ≡ record {
      router = router;
      kind = kind;
      id = id;
      metric = found.metric;
      place = found.place;
    } =
    λ i. record {
      router = same_router i;
      kind = same_kind i;
      id = same_id i;
      metric = found.metric;
      place = found.place;
    } in
    (found.metric, (found.place, subst P same (contained entries at found here)))

-- ---- what is between entries with one router, kind and ID

not_less : (a b : ℕ) (r : Ordering) → (ordering_then (nat_cmp a b) r ≡ Less → ⊥)
    → (b < a) ⊎ ((a ≡ b) × (r ≡ Less → ⊥))
not_less a b r never =
    elim (nat_cmp a b) as (λ o. nat_cmp a b ≡ o → (ordering_then o r ≡ Less → ⊥)
    → (b < a) ⊎ ((a ≡ b) × (r ≡ Less → ⊥))) [
      | Less ↦ λ _ f. absurd (f refl)
      | Equal ↦ λ is f. inr (nat_cmp-IsAntisymmetric a b is, f)
      | Greater ↦ λ is _. inl (ranked a b Greater (sym is))
    ] refl never

at_least : (a b : ℕ) (r : Ordering) → (ordering_then (nat_cmp a b) r ≡ Less → ⊥) → b ≤ a
at_least a b r never = elim (not_less a b r never)
    [ inl lt ↦ omega (arith, lt) | inr e ↦ omega (arith, e.0) ]

level : (low x high : ℕ) (r s : Ordering) → high ≡ low
    → (ordering_then (nat_cmp x low) r ≡ Less → ⊥) → (ordering_then (nat_cmp high x) s ≡ Less → ⊥)
    → (x ≡ low) × (r ≡ Less → ⊥) × (s ≡ Less → ⊥)
level low x high r s same up down =
    elim (not_less x low r up) [
      | inl above ↦
          elim (not_less high x s down) [
            | inl below ↦ absurd (omega (arith, above, below, same))
            | inr q ↦ absurd (omega (arith, above, q.0, same))
          ]
      | inr p ↦ elim (not_less high x s down)
          [ inl below ↦ absurd (omega (arith, p.0, below, same)) | inr q ↦ (p.0, p.1, q.1) ]
    ]

kind_at : ℕ → EntryKind
kind_at zero = PointToPoint
kind_at (suc zero) = Transit
kind_at (suc (suc n)) = Attached

at_rank : (k : EntryKind) → k ≡ kind_at (rank k)
unfolding kind_at
at_rank PointToPoint = refl
at_rank Transit = refl
at_rank Attached = refl

pub same_kind : (a b : EntryKind) → rank a ≡ rank b → a ≡ b
same_kind a b e = at_rank a ∙ ap kind_at e ∙ sym (at_rank b)

abbrev by_metric : AdvertisedLink → AdvertisedLink → Ordering
by_metric a b = ordering_then (nat_cmp a.metric b.metric) (nat_cmp a.place b.place)

abbrev by_id : AdvertisedLink → AdvertisedLink → Ordering
by_id a b = ordering_then (nat_cmp a.id b.id) (by_metric a b)

abbrev by_kind : AdvertisedLink → AdvertisedLink → Ordering
by_kind a b = ordering_then (nat_cmp (rank a.kind) (rank b.kind)) (by_id a b)

pub record OfKind (low x high : AdvertisedLink) : Type 0 where
  pub router : x.router ≡ low.router
  pub kind : x.kind ≡ low.kind
  up : by_id x low ≡ Less → ⊥
  down : by_id high x ≡ Less → ⊥

pub of_kind : (low x high : AdvertisedLink) → high.router ≡ low.router → high.kind ≡ low.kind
    → (entry_cmp x low ≡ Less → ⊥) → (entry_cmp high x ≡ Less → ⊥) → OfKind low x high
of_kind low x high router kind up down =
    let first = level low.router x.router high.router (by_kind x low) (by_kind high x) router up
    down in
    let second = level (rank low.kind) (rank x.kind) (rank high.kind) (by_id x low) (by_id high x)
    (ap rank kind) first.1 first.2 in
    record {
      router = first.0;
      kind = same_kind x.kind low.kind second.0;
      up = second.1;
      down = second.2;
    }

record OfId (low x high : AdvertisedLink) : Type 0 where
  beside : IsBeside x low
  up : low.metric ≤ x.metric
  down : x.metric ≤ high.metric

of_id : (low x high : AdvertisedLink) → IsBeside high low → (entry_cmp x low ≡ Less → ⊥)
    → (entry_cmp high x ≡ Less → ⊥) → OfId low x high
of_id low x high beside up down =
    let first = of_kind low x high beside.router beside.kind up down in
    let second = level low.id x.id high.id (by_metric x low) (by_metric high x) beside.id first.up
    first.down in
    record {
      beside = record { router = first.router; kind = first.kind; id = second.0 };
      up = at_least x.metric low.metric (nat_cmp x.place low.place) second.1;
      down = at_least high.metric x.metric (nat_cmp high.place x.place) second.2;
    }

-- ---- what is before an entry

never_less : Greater ≡ Less → ⊥
never_less e = cc

tied : (a b : ℕ) (r : Ordering) → b ≤ a → ordering_then (nat_cmp a b) r ≡ Less → r ≡ Less
tied a b r le less =
    elim (nat_cmp a b) as (λ o. nat_cmp a b ≡ o → ordering_then o r ≡ Less → r ≡ Less) [
      | Less ↦ λ is _. absurd (omega (arith, ranked a b Less (sym is), le))
      | Equal ↦ λ _ f. f
      | Greater ↦ λ _ f. absurd (never_less f)
    ] refl less

no_less : (a b : ℕ) → b ≤ a → nat_cmp a b ≡ Less → ⊥
no_less a b le less = omega (arith, ranked a b Less (sym less), le)

-- no entry with its router and kind and no lower ID and metric is before an entry with place 0
pub not_before : (low x : AdvertisedLink) → x.router ≡ low.router → x.kind ≡ low.kind
    → low.id ≤ x.id → low.metric ≤ x.metric → low.place ≤ x.place → entry_cmp x low ≡ Less → ⊥
not_before low x router kind id metric place less =
    let first : by_kind x low ≡ Less =
    tied x.router low.router (by_kind x low) (omega (arith, router)) less in
    let second : by_id x low ≡ Less =
    tied (rank x.kind) (rank low.kind) (by_id x low) (omega (arith, ap rank kind)) first in
    let third : by_metric x low ≡ Less = tied x.id low.id (by_metric x low) id second in
    no_less x.place low.place place (tied x.metric low.metric (nat_cmp x.place low.place) metric
    third)

-- ---- the least metric

module _ (entries : List AdvertisedLink) (sorted : IsSorted entry_cmp entries)
    (low : AdvertisedLink) (at : ℕ)
    (lower : (k : ℕ) (other : AdvertisedLink) → slice_get entries k ≡ Some other → k < at
    → entry_cmp other low ≡ Less) (higher : (k : ℕ) (other : AdvertisedLink)
    → slice_get entries k ≡ Some other → at ≤ k → entry_cmp other low ≡ Less → ⊥)
    (first : low.place ≡ 0) where
  record Seen (metric : ℕ) : Type 0 where
    entry : AdvertisedLink
    is : entry.metric ≡ metric
    beside : IsBeside entry low
    place : ℕ
    here : slice_get entries place ≡ Some entry
    past : at ≤ place

  seen : (metric : ℕ) → low.metric ≤ metric → HasMetric entries low.router low.kind low.id metric
      → Seen metric
  seen metric le (place, among) =
      let entry : AdvertisedLink = record {
        router = low.router;
        kind = low.kind;
        id = low.id;
        metric = metric;
        place = place;
      } in
      let stands = placed entries entry among in
      elim (cases_lt stands.0 at) [
        | inl lt ↦ absurd (not_before low entry refl refl (omega arith) le (omega (arith, first))
            (lower stands.0 entry stands.1 lt))
        | inr past ↦ record {
          entry = entry;
          is = refl;
          beside = record { router = refl; kind = refl; id = refl };
          place = stands.0;
          here = stands.1;
          past = past;
        }
      ]

  pub none_left : length entries ≤ at
      → IsLeastMetric entries low.router low.kind low.id low.metric None
  none_left end metric le has =
      let s = seen metric le has in
      omega (arith, s.past, slice_get_within entries s.place s.entry s.here, end)

  pub none_beside : (found : AdvertisedLink) → slice_get entries at ≡ Some found
      → (IsBeside found low → ⊥) → IsLeastMetric entries low.router low.kind low.id low.metric None
  none_beside found here apart metric le has =
      let s = seen metric le has in
      apart (of_id low found s.entry s.beside (higher at found here (omega arith))
      (in_order entries sorted at s.place found s.entry here s.here s.past)).beside

  pub least_beside : (found : AdvertisedLink) → slice_get entries at ≡ Some found
      → IsBeside found low → IsLeastMetric entries low.router low.kind low.id low.metric
      (Some found.metric)
  least_beside found here beside =
      let P : AdvertisedLink → Type 0 = λ e. Contains entries e in
      let router = beside.router in
      let kind = beside.kind in
      let id = beside.id in
      let same : found ≡ record {
        router = low.router;
        kind = low.kind;
        id = low.id;
        metric = found.metric;
        place = found.place;
      } =
      λ i. record {
        router = router i;
        kind = kind i;
        id = id i;
        metric = found.metric;
        place = found.place;
      } in (
        (of_id low found found beside (higher at found here (omega arith))
            (in_order entries sorted at at found found here here (omega arith))).up,
        (found.place, subst P same (contained entries at found here)),
        (λ metric le has.
            let s = seen metric le has in
            let o = of_id low found s.entry s.beside (higher at found here (omega arith))
            (in_order entries sorted at s.place found s.entry here s.here s.past) in
            omega (arith, o.down, s.is)),
      )
