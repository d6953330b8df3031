-- The routes of the offers so far, when the last one is extended or another one added.
use Rattle.std.proofs.Common.{◌≡◌, ℕ, zero, suc, ◌+◌, ◌<◌, ◌≤◌, ◌⊎◌, inl, inr, false, List, [], ◌∷◌}
use Rattle.std.proofs.Common.{◌++◌, length, get_or, take, arith, refl, sym, ◌∙◌, ap, subst}
use Rattle.std.proofs.Common.{length-append}
use Rattle.std.specs.List.{AllPairs, Contains}
use Rattle.std.specs.List.Sorted.{IsSorted}
use Rattle.std.specs.Ordering.{is_lt}
use Rattle.std.proofs.lemmas.List.{get_or-append-add, get_or-take, get_or_append_left}
use Rattle.std.proofs.lemmas.List.{length-take-le, take_all, take_more}
use Rattle.std.proofs.lemmas.List.Elements.{Contains-append_left, Contains-push}
use Rattle.std.proofs.lemmas.List.Elements.{Contains-push_cases}
use Rattle.std.proofs.lemmas.List.Quantifiers.{all_pairs_push}
use Rattle.std.proofs.lemmas.List.Sorted.{ranks_by, sorted_far}
use Rattle.words.specs.Prefixes.{Network}
use Rattle.words.specs.declared.route.Route.{Route}
use Rattle.routes.specs.Best.{AsGood, joined_route, offer_cmp, route_of}
use Rattle.routes.specs.Routes.{AreRoutesAmong, IsBefore, IsRouteAmong}
use Rattle.routes.specs.declared.offer.Offer.{Offer}
use Rattle.routes.proofs.OneMore.{UpTo, never_itself, of_as_good, of_first, of_other, of_worse}
use Rattle.routes.proofs.OneMore.{offers_total, same_offers, up_to}
use Rattle.routes.proofs.OneMore.UpTo.{Before, Same}
use Rattle.routes.proofs.Determined.{never_both, one_route}
use Rattle.routes.proofs.Lists.{of_empty}

abbrev HasRoute : List Route → Network → Type 0
HasRoute routes prefix = (r : Route) × Contains routes r × (r.prefix ≡ prefix)

abbrev Ascend : Route → Route → Type 0
Ascend a b = IsBefore a.prefix b.prefix

-- a route for each prefix of what is offered
pub record Listed (P : Offer → Type 0) (routes : List Route) : Type 0 where
  pub each : (r : Route) → Contains routes r → IsRouteAmong P r
  pub every : (o : Offer) → P o → HasRoute routes o.prefix
  pub ascending : AllPairs Ascend routes

pub listed : (P : Offer → Type 0) (routes : List Route) → Listed P routes → AreRoutesAmong P routes
listed P routes l = record {
  each = λ r. (
    l.each r,
    (λ k.
        let s = l.every k.first k.is_best.offered in
        let same : s.0 ≡ r = one_route P s.0 r (l.each s.0 s.1) k (s.2 ∙ k.is_best.is_for) in
        let In : Route → Type 0 = λ x. Contains routes x in
        subst In same s.1),
  );
  ascending = l.ascending;
}

-- the same offers, described otherwise
pub reworded : (P Q : Offer → Type 0) (routes : List Route) → ((o : Offer) → P o → Q o)
    → ((o : Offer) → Q o → P o) → Listed P routes → Listed Q routes
reworded P Q routes forth back l = record {
  each = λ r t. same_offers P Q r (λ o e. forth o) (λ o e. back o) (l.each r t);
  every = λ o q. l.every o (back o q);
  ascending = l.ascending;
}

pub nothing : (P : Offer → Type 0) → ((o : Offer) → P o → ⊥) → Listed P []
nothing P none = record {
  each = λ r t. absurd (of_empty r t);
  every = λ o p. absurd (none o p);
  ascending = λ i j d before within. absurd (omega (arith, before, within));
}

front_pairs : (xs : List Route) (x : Route) → AllPairs Ascend (xs ++ x ∷ []) → AllPairs Ascend xs
front_pairs xs x all i j d before within =
    let size : length (xs ++ x ∷ []) ≡ length xs + 1 = length-append xs (x ∷ []) in
    let low : i < length xs = omega (arith, before, within) in
    let there : j < length (xs ++ x ∷ []) = omega (arith, within, size) in
    let left : get_or (xs ++ x ∷ []) i d ≡ get_or xs i d = get_or_append_left xs (x ∷ []) d i low in
    let right : get_or (xs ++ x ∷ []) j d ≡ get_or xs j d =
    get_or_append_left xs (x ∷ []) d j within in
    subst (λ a. Ascend a (get_or xs j d)) left
    (subst (λ b. Ascend (get_or (xs ++ x ∷ []) i d) b) right (all i j d before there))

front_below : (xs : List Route) (x : Route) → AllPairs Ascend (xs ++ x ∷ []) → (k : ℕ) (d : Route)
    → k < length xs → Ascend (get_or xs k d) x
front_below xs x all k d low =
    let size : length (xs ++ x ∷ []) ≡ length xs + 1 = length-append xs (x ∷ []) in
    let before : k < length xs + 0 = omega (arith, low) in
    let there : length xs + 0 < length (xs ++ x ∷ []) = omega (arith, size) in
    let left : get_or (xs ++ x ∷ []) k d ≡ get_or xs k d = get_or_append_left xs (x ∷ []) d k low in
    let right : get_or (xs ++ x ∷ []) (length xs + 0) d ≡ x = get_or-append-add xs (x ∷ []) 0 d in
    subst (λ a. Ascend a x) left (subst (λ b. Ascend (get_or (xs ++ x ∷ []) k d) b) right
    (all k (length xs + 0) d before there))

below : (xs : List Route) (x r : Route) → AllPairs Ascend (xs ++ x ∷ []) → Contains xs r
    → Ascend r x
below xs x r all (k, within, is) = subst (λ a. Ascend a x) is (front_below xs x all k r within)

-- an element of a list doesn't depend on the default for what is past its end
pub other_default : {X : Type 0} (xs : List X) (k : ℕ) (d e : X) → k < length xs
    → get_or xs k d ≡ get_or xs k e
other_default [] k d e low = absurd (omega (arith, low))
other_default (x ∷ xs) zero d e low = refl
other_default (x ∷ xs) (suc k) d e low = other_default xs k d e (omega (arith, low))

at_any : (xs : List Route) (k : ℕ) (d e : Route) → k < length xs → get_or xs k e ≡ get_or xs k d
at_any xs k d e low = other_default xs k e d low

module _ (P : Offer → Type 0) (n : Offer) (up : (o : Offer) → P o → UpTo o n) where
  abbrev WithIt : Offer → Type 0
  WithIt o = P o ⊎ (n ≡ o)

  has : (routes : List Route) (r : Route) → Contains routes r → r.prefix ≡ n.prefix → (o : Offer)
      → n ≡ o → HasRoute routes o.prefix
  has routes r t e o is = (r, t, e ∙ ap (λ (x : Offer). x.prefix) is)

  -- the first route
  pub on_none : Listed P [] → Listed WithIt (route_of n ∷ [])
  on_none l =
      let none : (o : Offer) → P o → ⊥ = λ o p. let r = l.every o p in of_empty r.0 r.1 in
      let new : IsRouteAmong WithIt (route_of n) = of_first P n up (λ o p e. none o p) in
      record {
        each = λ r t.
            elim (Contains-push_cases [] (route_of n) r t) [
              | inl old ↦ absurd (of_empty r old)
              | inr is ↦ subst (IsRouteAmong WithIt) is new
            ];
        every = λ o q.
            elim q [
              | inl p ↦ absurd (none o p)
              | inr is ↦ has (route_of n ∷ []) (route_of n) (Contains-push [] (route_of n)) refl o
                  is
            ];
        ascending = all_pairs_push Ascend [] (route_of n)
            (λ i j d before within. absurd (omega (arith, before, within)))
            (λ k d low. absurd (omega (arith, low)));
      }

  -- an offer for the prefix of the last route
  module _ (front : List Route) (last : Route) (l : Listed P (front ++ last ∷ [])) where
    abbrev all : List Route
    all = front ++ last ∷ []

    was_last : IsRouteAmong P last
    was_last = l.each last (Contains-push front last)

    replaced : last.prefix ≡ n.prefix → (now : Route) → now.prefix ≡ last.prefix
        → IsRouteAmong WithIt now → Listed WithIt (front ++ now ∷ [])
    replaced same now keeps is_route = record {
      each = λ r t.
          elim (Contains-push_cases front now r t) [
            | inl old ↦
                of_other P n up r (λ e. never_itself r.prefix last.prefix (e ∙ sym same)
                (below front last r l.ascending old))
                (l.each r (Contains-append_left front (last ∷ []) r old))
            | inr is ↦ subst (IsRouteAmong WithIt) is is_route
          ];
      every = λ o q.
          elim q [
            | inl p ↦
                let s = l.every o p in
                elim (Contains-push_cases front last s.0 s.1) [
                  | inl old ↦ (s.0, Contains-append_left front (now ∷ []) s.0 old, s.2)
                  | inr is ↦ (
                    now,
                    Contains-push front now,
                    keeps ∙ ap (λ (x : Route). x.prefix) is ∙ s.2,
                  )
                ]
            | inr is ↦ has (front ++ now ∷ []) now (Contains-push front now) (keeps ∙ same) o is
          ];
      ascending = all_pairs_push Ascend front now (front_pairs front last l.ascending)
          (λ k d low. subst (λ p. IsBefore (get_or front k d).prefix p) (sym keeps)
          (front_below front last l.ascending k d low));
    }

    pub on_as_good : last.prefix ≡ n.prefix → AsGood last n
        → Listed WithIt (front ++ joined_route last n ∷ [])
    on_as_good same good = replaced same (joined_route last n) refl
        (of_as_good P n up last same was_last good)

    pub on_worse : last.prefix ≡ n.prefix → (AsGood last n → ⊥) → Listed WithIt (front ++ last ∷ [])
    on_worse same other = replaced same last refl (of_worse P n up last same was_last other)

    -- no route is for a prefix after that of the new offer
    up_to_it : (r : Route) → IsRouteAmong P r → IsBefore r.prefix n.prefix ⊎ (r.prefix ≡ n.prefix)
    up_to_it r k = by_first (up k.first k.is_best.offered)
      where
        by_first : UpTo k.first n → IsBefore r.prefix n.prefix ⊎ (r.prefix ≡ n.prefix)
        by_first (Before b) = inl (subst (λ p. IsBefore p n.prefix) k.is_best.is_for b)
        by_first (Same e w x) = inr (sym k.is_best.is_for ∙ e)

    last_before : (last.prefix ≡ n.prefix → ⊥) → IsBefore last.prefix n.prefix
    last_before other =
        elim (up_to_it last was_last) [
          | inl b ↦ b
          | inr e ↦ absurd (other e)
        ]

    all_before : (last.prefix ≡ n.prefix → ⊥) → (r : Route) → Contains all r
        → IsBefore r.prefix n.prefix
    all_before other r t =
        elim (Contains-push_cases front last r t) [
          | inl old ↦
              elim (up_to_it r (l.each r t)) [
                | inl b ↦ b
                | inr e ↦
                    let under : IsBefore n.prefix last.prefix =
                    subst (λ p. IsBefore p last.prefix) e (below front last r l.ascending old)
                    in
                    absurd (never_both n.prefix last.prefix under (last_before other))
              ]
          | inr is ↦ subst (λ (x : Route). IsBefore x.prefix n.prefix) is (last_before other)
        ]

    pub on_next : (last.prefix ≡ n.prefix → ⊥)
        → Listed WithIt ((front ++ last ∷ []) ++ route_of n ∷ [])
    on_next other =
        let first : (o : Offer) → P o → o.prefix ≡ n.prefix → ⊥ = λ o p e.
        let s = l.every o p in
        never_itself s.0.prefix n.prefix (s.2 ∙ e) (all_before other s.0 s.1) in
        record {
          each = λ r t.
              elim (Contains-push_cases all (route_of n) r t) [
                | inl old ↦ of_other P n up r
                    (λ e. never_itself r.prefix n.prefix e (all_before other r old)) (l.each r old)
                | inr is ↦ subst (IsRouteAmong WithIt) is (of_first P n up first)
              ];
          every = λ o q.
              elim q [
                | inl p ↦ let s = l.every o p in
                    (s.0, Contains-append_left all (route_of n ∷ []) s.0 s.1, s.2)
                | inr is ↦ has (all ++ route_of n ∷ []) (route_of n)
                    (Contains-push all (route_of n)) refl o is
              ];
          ascending = all_pairs_push Ascend all (route_of n) l.ascending
              (λ k d low. all_before other (get_or all k d)
              (k, low, at_any all k d (get_or all k d) low));
        }

-- ---- along a list of offers in order

abbrev pub Among : List Offer → Offer → Type 0
Among offers o = Contains offers o

-- the offers before one come up to it
pub before_it : (offers : List Offer) (i : ℕ) (d : Offer) → IsSorted offer_cmp offers
    → i < length offers → (o : Offer) → Among (take i offers) o → UpTo o (get_or offers i d)
before_it offers i d sorted lt o (k, within, is) =
    let size : length (take i offers) ≡ i = length-take-le i offers (omega (arith, lt)) in
    let less : k < i = omega (arith, within, size) in
    let here : get_or offers k o ≡ o = sym (get_or-take i offers k o less) ∙ is in
    let there : get_or offers i o ≡ get_or offers i d = other_default offers i o d lt in
    let far : is_lt (offer_cmp (get_or offers i o) (get_or offers k o)) ≡ false =
    sorted_far (λ x y. is_lt (offer_cmp x y)) (ranks_by offers_total (λ (x : Offer). x)) offers
    sorted k i o (omega (arith, less)) lt in
    up_to o (get_or offers i d) (subst (λ x. is_lt (offer_cmp x o) ≡ false) there
    (subst (λ x. is_lt (offer_cmp (get_or offers i o) x) ≡ false) here far))

-- with one more offer taken
pub taken : (offers : List Offer) (i : ℕ) (d : Offer) (routes : List Route) → i < length offers
    → Listed (λ o. Among (take i offers) o ⊎ (get_or offers i d ≡ o)) routes
    → Listed (Among (take (i + 1) offers)) routes
taken offers i d routes lt l =
    let n : Offer = get_or offers i d in
    let more : take (i + 1) offers ≡ take i offers ++ n ∷ [] = take_more offers i d lt in
    let Is : List Offer → Type 0 = λ xs. Listed (Among xs) routes in
    subst Is (sym more)
    (reworded (λ o. Among (take i offers) o ⊎ (get_or offers i d ≡ o))
    (Among (take i offers ++ get_or offers i d ∷ [])) routes
    (λ o q.
    elim q [
      | inl p ↦ Contains-append_left (take i offers) (get_or offers i d ∷ []) o p
      | inr is ↦ subst (Contains (take i offers ++ get_or offers i d ∷ [])) is
          (Contains-push (take i offers) (get_or offers i d))
    ])
    (λ o t. Contains-push_cases (take i offers) (get_or offers i d) o t)
    l)

pub routes_among : (P Q : Offer → Type 0) (routes : List Route) → ((o : Offer) → P o → Q o)
    → ((o : Offer) → Q o → P o) → AreRoutesAmong P routes → AreRoutesAmong Q routes
routes_among P Q routes forth back a = record {
  each = λ r. (
    (λ t. same_offers P Q r (λ o e. forth o) (λ o e. back o) ((a.each r).0 t)),
    (λ k. (a.each r).1 (same_offers Q P r (λ o e. back o) (λ o e. forth o) k)),
  );
  ascending = a.ascending;
}

-- ---- the loop's steps

none_at : (offers : List Offer) (i : ℕ) (d : Offer) → IsSorted offer_cmp offers → i < length offers
    → (front : List Route) → length front ≡ 0 → Listed (Among (take i offers)) front
    → Listed (Among (take (i + 1) offers)) (front ++ route_of (get_or offers i d) ∷ [])
none_at offers i d sorted lt [] e l =
    taken offers i d (route_of (get_or offers i d) ∷ []) lt
    (on_none (Among (take i offers)) (get_or offers i d) (before_it offers i d sorted lt) l)
none_at offers i d sorted lt (r ∷ rest) e l = absurd (omega (arith, e))

same_at : (offers : List Offer) (i : ℕ) (d : Offer) → IsSorted offer_cmp offers → i < length offers
    → (front : List Route) (last : Route) → Listed (Among (take i offers)) (front ++ last ∷ [])
    → last.prefix ≡ (get_or offers i d).prefix → (now : Route)
    → (AsGood last (get_or offers i d) × (now ≡ joined_route last (get_or offers i d)))
    ⊎ ((AsGood last (get_or offers i d) → ⊥) × (now ≡ last))
    → Listed (Among (take (i + 1) offers)) (front ++ now ∷ [])
same_at offers i d sorted lt front last l same now which =
    let n : Offer = get_or offers i d in
    let Is : Route → Type 0 = λ r. Listed (Among (take (i + 1) offers)) (front ++ r ∷ []) in
    elim which [
      | inl good ↦
          subst Is (sym good.1)
          (taken offers i d (front ++ joined_route last (get_or offers i d) ∷ []) lt
          (on_as_good (Among (take i offers)) (get_or offers i d)
          (before_it offers i d sorted lt) front last l same good.0))
      | inr other ↦
          subst Is (sym other.1) (taken offers i d (front ++ last ∷ []) lt
          (on_worse (Among (take i offers)) (get_or offers i d) (before_it offers i d sorted lt)
          front last l same other.0))
    ]

next_at : (offers : List Offer) (i : ℕ) (d : Offer) → IsSorted offer_cmp offers → i < length offers
    → (front : List Route) (last : Route) → Listed (Among (take i offers)) (front ++ last ∷ [])
    → (last.prefix ≡ (get_or offers i d).prefix → ⊥)
    → Listed (Among (take (i + 1) offers))
    ((front ++ last ∷ []) ++ route_of (get_or offers i d) ∷ [])
next_at offers i d sorted lt front last l other =
    taken offers i d ((front ++ last ∷ []) ++ route_of (get_or offers i d) ∷ []) lt
    (on_next (Among (take i offers)) (get_or offers i d) (before_it offers i d sorted lt) front
    last l other)

-- the same, with a name for the offer
pub step_none : (offers : List Offer) (i : ℕ) (n : Offer) → n ≡ get_or offers i n
    → IsSorted offer_cmp offers → i < length offers → (front : List Route) → length front ≡ 0
    → Listed (Among (take i offers)) front
    → Listed (Among (take (i + 1) offers)) (front ++ route_of n ∷ [])
step_none offers i n is sorted lt front e l =
    let Is : Offer → Type 0 = λ x. Listed (Among (take (i + 1) offers)) (front ++ route_of x ∷ [])
    in
    subst Is (sym is) (none_at offers i n sorted lt front e l)

pub step_same : (offers : List Offer) (i : ℕ) (n : Offer) → n ≡ get_or offers i n
    → IsSorted offer_cmp offers → i < length offers → (front : List Route) (last : Route)
    → Listed (Among (take i offers)) (front ++ last ∷ []) → last.prefix ≡ n.prefix
    → (now : Route) → (AsGood last n × (now ≡ joined_route last n))
    ⊎ ((AsGood last n → ⊥) × (now ≡ last))
    → Listed (Among (take (i + 1) offers)) (front ++ now ∷ [])
step_same offers i n is sorted lt front last l same now which =
    let Which : Offer → Type 0 = λ x. (AsGood last x × (now ≡ joined_route last x))
    ⊎ ((AsGood last x → ⊥) × (now ≡ last)) in
    same_at offers i n sorted lt front last l (same ∙ ap (λ (x : Offer). x.prefix) is) now
    (subst Which is which)

pub step_next : (offers : List Offer) (i : ℕ) (n : Offer) → n ≡ get_or offers i n
    → IsSorted offer_cmp offers → i < length offers → (front : List Route) (last : Route)
    → Listed (Among (take i offers)) (front ++ last ∷ []) → (last.prefix ≡ n.prefix → ⊥)
    → Listed (Among (take (i + 1) offers)) ((front ++ last ∷ []) ++ route_of n ∷ [])
step_next offers i n is sorted lt front last l other =
    let Is : Offer → Type 0 = λ x. Listed (Among (take (i + 1) offers))
    ((front ++ last ∷ []) ++ route_of x ∷ []) in
    subst Is (sym is) (next_at offers i n sorted lt front last l
    (λ e. other (e ∙ sym (ap (λ (x : Offer). x.prefix) is))))

-- after the last one
pub all_taken : (offers : List Offer) (i : ℕ) (routes : List Route) → length offers ≤ i
    → Listed (Among (take i offers)) routes → AreRoutesAmong (λ o. Contains offers o) routes
all_taken offers i routes past l =
    let Is : List Offer → Type 0 = λ xs. Listed (Among xs) routes in
    listed (Among offers) routes (subst Is (take_all i offers past) l)
