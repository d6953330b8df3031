-- Facts about a neighbor's lists that every step keeps.
use Rattle.std.proofs.Common.{◌≡◌, ℕ, Bool, true, false, cond, not, ◌&&◌, ◌||◌, List, take, drop}
use Rattle.std.proofs.Common.{is_some, Option, None, Some, refl, sym, ap, ◌∙◌, true≢false}
use Rattle.std.specs.Prelude.{◌==◌}
use Rattle.std.specs.List.{list_any}
use Rattle.std.specs.FinMap as finite
use Rattle.std.specs.FinSet as set
use Rattle.std.proofs.lemmas.Bool.{eqb-true}
use Rattle.std.proofs.lemmas.List.{take-append-drop}
use Rattle.std.proofs.lemmas.List.Folds.{list_any-append}
use Rattle.words.specs.declared.key.Key.{Key}
use Rattle.lsdb.specs.Instances.{ListEntry}
use Rattle.lsdb.specs.Keys.{ByKey, KeySet, key_cmp, same_key}
use Rattle.lsdb.proofs.Keys.{keys_exact, keys_total}
use Rattle.adjacency.specs.declared.state.NeighborState.{NeighborState}
use Rattle.adjacency.specs.declared.state.NeighborState.TheVariants.{Init, ExStart, Exchange}
use Rattle.adjacency.specs.declared.state.NeighborState.TheVariants.{Loading, Full}
use Rattle.adjacency.specs.Lists.{HasSoundLists, IsDoneWhereFull, IsOutstandingRequested}
use Rattle.adjacency.specs.Neighbors.{Neighbor, is_full, is_exchange_or_loading}
use Rattle.adjacency.specs.Neighbors.{is_exchange_or_later}
use Rattle.adjacency.proofs.Kept.{Fact, IsKept, Of}

-- ---- empty maps and sets

not_both : {A : Type 0} → true ≡ false → A
not_both e = absurd (true≢false e)

none : (m : ByKey ListEntry) → (finite.len m == 0) ≡ true → m ≡ finite.empty
none m e = finite.empty_of_len m (eqb-true (finite.len m) 0 e)

chosen_none : (b : Bool) (o : Option ListEntry) → o ≡ None → cond b None o ≡ None
chosen_none true o e = refl
chosen_none false o e = e

removed : (m : ByKey ListEntry) (key : Key) → m ≡ finite.empty → finite.remove m key ≡ finite.empty
removed m key e =
    ap (λ (l : ByKey ListEntry). finite.remove l key) e
    ∙ finite.same_map keys_total keys_exact _ _ (λ q.
    finite.get-remove keys_total (finite.empty {X = ListEntry} {R = key_cmp}) key q
    ∙ chosen_none (same_key q key) _ (finite.get-empty key_cmp q)
    ∙ sym (finite.get-empty key_cmp q))

and_false : (b c : Bool) → c ≡ false → (b && c) ≡ false
and_false true c e = e
and_false false c e = refl

left_out : (o : KeySet) (key : Key) → o ≡ set.empty → set.remove o key ≡ set.empty
left_out o key e =
    ap (λ (l : KeySet). set.remove l key) e
    ∙ set.same_set keys_total keys_exact _ _ (λ q.
    set.contains-remove keys_total (set.empty {R = key_cmp}) key q
    ∙ and_false (not (same_key q key)) _ (set.contains-empty key_cmp q)
    ∙ sym (set.contains-empty key_cmp q))

-- ---- every outstanding key is on the request list

abbrev pub Requested : Fact
Requested state s r t o = (key : Key) → set.contains o key ≡ true → finite.contains_key r key ≡ true

nothing_asked : (r : ByKey ListEntry) (key : Key)
    → set.contains (set.empty {R = key_cmp}) key ≡ true → finite.contains_key r key ≡ true
nothing_asked r key e = not_both (sym e ∙ set.contains-empty key_cmp key)

still_there : (b : Bool) (x : ListEntry) (y : Option ListEntry) → is_some y ≡ true
    → is_some (cond b (Some x) y) ≡ true
still_there true x y e = refl
still_there false x y e = e

among_more : (p : Key → Bool) (n : ℕ) (keys : List Key) → list_any p (take n keys) ≡ true
    → list_any p keys ≡ true
among_more p n keys e =
    sym (ap (list_any p) (take-append-drop n keys)) ∙ list_any-append p (take n keys) (drop n keys)
    ∙ ap (λ b. b || list_any p (drop n keys)) e

both_left : (b c : Bool) (x : Option ListEntry) → (c ≡ true → is_some x ≡ true)
    → (not b && c) ≡ true → is_some (cond b None x) ≡ true
both_left true c x f e = e
both_left false c x f e = f e

pub requested_kept : IsKept Requested
requested_kept = record {
  begins = λ key e. nothing_asked finite.empty key e;
  restarts = λ key e. nothing_asked finite.empty key e;
  negotiates = λ s r t s' t' o begun h. h;
  wants = λ s r t o key x h q e. ap is_some (finite.get-insert keys_total r key x q)
      ∙ still_there (same_key q key) x (finite.get r q) (h q e);
  describes = λ s r t s' o h. h;
  loads = λ s r t o h. h;
  ends = λ s r t o h e. h;
  fills = λ s r t o h e. h;
  asks = λ state s r t o busy h q e.
      finite.contains_key-keys r q ∙ among_more (same_key q) 680 (finite.keys r)
      (sym (set.contains-from_list keys_total (take 680 (finite.keys r)) q) ∙ e);
  meets = λ state s r t o key h q e.
      ap is_some (finite.get-remove keys_total r key q)
      ∙ both_left (same_key q key) (set.contains o q) (finite.get r q) (h q)
      (sym (set.contains-remove keys_total o key q) ∙ e);
  releases = λ state s r t o key h. h;
  has_retransmission = λ state s r t o key x adds part h. h;
}

-- ---- before Exchange the lists are empty

abbrev pub Listless : Fact
Listless state s r t o = is_exchange_or_later state ≡ false
    → (s ≡ finite.empty) × (r ≡ finite.empty) × (t ≡ finite.empty) × (o ≡ set.empty)

synchronizing_part : (state : NeighborState) → is_exchange_or_loading state ≡ true
    → is_exchange_or_later state ≡ false → true ≡ false
synchronizing_part Init e p = sym e
synchronizing_part ExStart e p = sym e
synchronizing_part Exchange e p = p
synchronizing_part Loading e p = p
synchronizing_part Full e p = p

pub listless_kept : IsKept Listless
listless_kept = record {
  begins = λ e. (refl, refl, refl, refl);
  restarts = λ e. (refl, refl, refl, refl);
  negotiates = λ s r t s' t' o begun h e. not_both e;
  wants = λ s r t o key x h e. not_both e;
  describes = λ s r t s' o h e. not_both e;
  loads = λ s r t o h e. not_both e;
  ends = λ s r t o h e p. not_both p;
  fills = λ s r t o h e p. not_both p;
  asks = λ state s r t o busy h e. not_both (synchronizing_part state busy e);
  meets = λ state s r t o key h e. let l = h e in (l.0, removed r key l.1, l.2, left_out o key l.3);
  releases = λ state s r t o key h e. let l = h e in (l.0, l.1, removed t key l.2, l.3);
  has_retransmission = λ state s r t o key x adds part h e. not_both (sym part ∙ e);
}

-- ---- a Full neighbor requests nothing

abbrev pub Bare : Fact
Bare state s r t o = state ≡ Full → (finite.len r == 0) ≡ true

other_state : {A : Type 0} (state : NeighborState) → is_full state ≡ false → state ≡ Full → A
other_state state not_full e = not_both (sym (ap is_full e) ∙ not_full)

pub bare_kept : IsKept Bare
bare_kept = record {
  begins = λ e. other_state Init refl e;
  restarts = λ e. other_state ExStart refl e;
  negotiates = λ s r t s' t' o begun h e. other_state Exchange refl e;
  wants = λ s r t o key x h e. other_state Exchange refl e;
  describes = λ s r t s' o h e. other_state Exchange refl e;
  loads = λ s r t o h e. other_state Loading refl e;
  ends = λ s r t o h is e. is;
  fills = λ s r t o h is e. is;
  asks = λ state s r t o busy h e. h e;
  meets = λ state s r t o key h e.
      ap (λ (m : ByKey ListEntry). finite.len m == 0) (removed r key (none r (h e)))
      ∙ ap (λ n. n == 0) (finite.len-empty key_cmp ListEntry);
  releases = λ state s r t o key h. h;
  has_retransmission = λ state s r t o key x adds part h. h;
}

-- ---- all facts

nothing_left : (o : KeySet) (r : ByKey ListEntry)
    → ((key : Key) → set.contains o key ≡ true → finite.contains_key r key ≡ true)
    → r ≡ finite.empty → o ≡ set.empty
nothing_left o r asked e =
    set.same_set keys_total keys_exact o set.empty
    (λ q. is_out q (set.contains o q) refl ∙ sym (set.contains-empty key_cmp q))
  where
    is_out : (q : Key) (b : Bool) → set.contains o q ≡ b → b ≡ false
    is_out q true is = sym (asked q is) ∙ ap (λ (m : ByKey ListEntry). is_some (finite.get m q)) e
        ∙ ap is_some (finite.get-empty key_cmp q)
    is_out q false is = refl

done_where_full : (n : Neighbor) → (n.state ≡ Full → (finite.len n.requests == 0) ≡ true)
    → IsOutstandingRequested n → IsDoneWhereFull n
done_where_full n bare asked full =
    let empty : n.requests ≡ finite.empty = none n.requests (bare full) in
    (empty, nothing_left n.outstanding n.requests asked empty)

abbrev Both : Fact → Fact → Fact
Both A B state s r t o = A state s r t o × B state s r t o

both_kept : (A B : Fact) → IsKept A → IsKept B → IsKept (Both A B)
both_kept A B a b = record {
  begins = (a.begins, b.begins);
  restarts = (a.restarts, b.restarts);
  negotiates = λ s r t s' t' o begun h.
      (a.negotiates s r t s' t' o tt h.0, b.negotiates s r t s' t' o tt h.1);
  wants = λ s r t o key x h. (a.wants s r t o key x h.0, b.wants s r t o key x h.1);
  describes = λ s r t s' o h. (a.describes s r t s' o h.0, b.describes s r t s' o h.1);
  loads = λ s r t o h. (a.loads s r t o h.0, b.loads s r t o h.1);
  ends = λ s r t o h e. (a.ends s r t o h.0 e, b.ends s r t o h.1 e);
  fills = λ s r t o h e. (a.fills s r t o h.0 e, b.fills s r t o h.1 e);
  asks = λ state s r t o busy h. (a.asks state s r t o busy h.0, b.asks state s r t o busy h.1);
  meets = λ state s r t o key h. (a.meets state s r t o key h.0, b.meets state s r t o key h.1);
  releases = λ state s r t o key h.
      (a.releases state s r t o key h.0, b.releases state s r t o key h.1);
  has_retransmission = λ state s r t o key x adds part h. (
    a.has_retransmission state s r t o key x tt part h.0,
    b.has_retransmission state s r t o key x tt part h.1,
  );
}

abbrev pub Sound : Fact
Sound = Both Listless (Both Requested Bare)

pub sound_kept : IsKept Sound
sound_kept = both_kept Listless (Both Requested Bare) listless_kept
    (both_kept Requested Bare requested_kept bare_kept)

pub sound_lists : (n : Neighbor) → Of Sound n → HasSoundLists n
sound_lists n h = record {
  before_exchange = h.0;
  outstanding = h.1.0;
  full = done_where_full n h.1.1 h.1.0;
}

pub sound_of : (n : Neighbor) → HasSoundLists n → Of Sound n
sound_of n h =
    let bare : n.state ≡ Full → (finite.len n.requests == 0) ≡ true =
    λ full. ap (λ (m : ByKey ListEntry). finite.len m == 0) (h.full full).0
    ∙ ap (λ k. k == 0) (finite.len-empty key_cmp ListEntry) in
    (h.before_exchange, (h.outstanding, bare))
