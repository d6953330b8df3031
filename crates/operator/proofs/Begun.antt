-- The routes of a table's beginning, as far as the candidates were gone through.
use Rattle.std.proofs.Common.{◌≡◌, ℕ, Bool, true, false, ◌&&◌, ◌==◌, eqb-true, eq-eqb, ◌<◌, ◌≤◌}
use Rattle.std.proofs.Common.{◌+◌, ◌⊎◌, inl, inr, List, [], ◌∷◌, ◌++◌, length, get_or, arith, sym}
use Rattle.std.proofs.Common.{◌∙◌, ap, subst, length-append}
use Rattle.std.proofs.lemmas.Bool.{and_parts, cases_eq}
use Rattle.std.proofs.lemmas.List.{get_or_append_left, get_or_push, length-map, get_or-map}
use Rattle.std.proofs.lemmas.List.{same_lists}
use Rattle.words.specs.Prefixes.{Network}
use Rattle.words.specs.declared.route.Route.{Route}
use Rattle.words.specs.declared.route.TableRow.{TableRow}
use Rattle.routes.specs.Rows.{row_of, rows_of}
use Rattle.routes.specs.Routes.{IsBefore}
use Rattle.routes.proofs.Determined.{never_both}
use Rattle.routes.proofs.Listed.{other_default}
use Rattle.routes.proofs.OneMore.{never_itself}
use Rattle.event_rules.specs.Routers.{Router}
use Rattle.flood.specs.Offers.{AreCandidatesNow, IsTableNow}
use Rattle.operator.specs.Shown.{IsPartOf}

-- a table stands among its candidates
pub part_of : (r : Router) (candidates table : List Route) → AreCandidatesNow r candidates
    → IsTableNow r table → IsPartOf candidates table
part_of r candidates table are is = record {
  all = are.ascending;
  each = λ x t. (are.each x).1 ((is.each x).0 t).0;
  ascending = is.ascending;
}

-- the routes are the table's first ones, and what comes later in it
-- comes later among the candidates
pub record IsBegun (candidates table routes : List Route) (n : ℕ) : Type 0 where
  pub fits : length routes ≤ length table
  pub same : (k : ℕ) (d : Route) → k < length routes → get_or routes k d ≡ get_or table k d
  pub later : (k : ℕ) (d : Route) → length routes ≤ k → k < length table
      → (m : ℕ) × (n ≤ m) × (m < length candidates) × (get_or candidates m d ≡ get_or table k d)

pub begun : (candidates table : List Route) → IsPartOf candidates table
    → IsBegun candidates table [] 0
begun candidates table of = record {
  fits = omega arith;
  same = λ k d low. absurd (omega (arith, low));
  later = λ k d from low.
      let t = get_or table k d in
      let c = of.each t (k, low, other_default table k t d low) in
      (c.0, omega arith, c.1, other_default candidates c.0 d t c.1 ∙ c.2);
}

pub finished : (candidates table routes : List Route) (n : ℕ) → n ≡ length candidates
    → IsBegun candidates table routes n → routes ≡ table
finished candidates [] routes n end before =
    same_lists routes [] (omega (arith, before.fits)) before.same
finished candidates (t ∷ ts) routes n end before =
    elim (cases_eq (length routes) (length (t ∷ ts))) [
      | inl e ↦ same_lists routes (t ∷ ts) e before.same
      | inr apart ↦
          let l = before.later (length routes) t (omega arith) (omega (arith, apart, before.fits))
          in
          absurd (omega (arith, l.1, l.2, end))
    ]

module _ (candidates table : List Route) (of : IsPartOf candidates table) (routes : List Route)
    (n : ℕ) (route : Route) (within : n < length candidates)
    (here : route ≡ get_or candidates n route) (before : IsBegun candidates table routes n)
  where
    at_here : (d : Route) → get_or candidates n d ≡ route
    at_here d = other_default candidates n d route within ∙ sym here

    -- a later route of the table is this one, or comes after it
    follows : (k : ℕ) (d : Route) → length routes ≤ k → k < length table
        → (get_or table k d ≡ route) ⊎ IsBefore route.prefix (get_or table k d).prefix
    follows k d from low =
        let l = before.later k d from low in
        elim (cases_eq l.0 n) [
          | inl e ↦ inl (sym l.3 ∙ ap (λ m. get_or candidates m d) e ∙ at_here d)
          | inr other ↦
              let R : Route → Route → Type 0 = λ a b. IsBefore a.prefix b.prefix in
              inr (subst (λ a. R a (get_or table k d)) (at_here d)
              (subst (R (get_or candidates n d)) l.3
              (of.all n l.0 d (omega (arith, l.1, other)) l.2)))
        ]

    moved : (k : ℕ) (d : Route) → length routes ≤ k → k < length table
        → (get_or table k d ≡ route → ⊥)
        → (m : ℕ) × (n + 1 ≤ m) × (m < length candidates)
        × (get_or candidates m d ≡ get_or table k d)
    moved k d from low not =
        let l = before.later k d from low in
        elim (cases_eq l.0 n) [
          | inl e ↦ absurd (not (sym l.3 ∙ ap (λ m. get_or candidates m d) e ∙ at_here d))
          | inr other ↦ (l.0, omega (arith, l.1, other), l.2, l.3)
        ]

    -- before the next of the table
    not_yet : (length routes < length table
        → (get_or table (length routes) route).prefix ≡ route.prefix → ⊥) → (k : ℕ) (d : Route)
        → length routes ≤ k → k < length table → get_or table k d ≡ route → ⊥
    not_yet not k d from low e =
        let p = length routes in
        let inside : p < length table = omega (arith, from, low) in
        let this : get_or table k route ≡ route = other_default table k route d low ∙ e in
        elim (follows p route (omega arith) inside) [
          | inl same ↦ not inside (ap (λ (r : Route). r.prefix) same)
          | inr after ↦
              elim (cases_eq k p) [
                | inl is ↦ not inside (ap (λ (r : Route). r.prefix)
                    (ap (λ i. get_or table i route) (sym is) ∙ this))
                | inr apart ↦
                    let R : Route → Route → Type 0 = λ a b. IsBefore a.prefix b.prefix in
                    never_both route.prefix (get_or table p route).prefix after
                    (subst (R (get_or table p route)) this
                    (of.ascending p k route (omega (arith, from, apart)) low))
              ]
        ]

    pub skipped : (length routes < length table
        → (get_or table (length routes) route).prefix ≡ route.prefix → ⊥)
        → IsBegun candidates table routes (n + 1)
    skipped not = record {
      fits = before.fits;
      same = before.same;
      later = λ k d from low. moved k d from low (not_yet not k d from low);
    }

    pub added : length routes < length table
        → (get_or table (length routes) route).prefix ≡ route.prefix
        → IsBegun candidates table (routes ++ route ∷ []) (n + 1)
    added less prefix =
        let p = length routes in
        let longer : length (routes ++ route ∷ []) ≡ p + 1 = length-append routes (route ∷ []) in
        let next : get_or table p route ≡ route = elim (follows p route (omega arith) less) [
          | inl same ↦ same
          | inr after ↦ absurd (never_itself route.prefix (get_or table p route).prefix (sym prefix)
              after)
        ] in
        record {
          fits = omega (arith, longer, less);
          same = λ k d small. elim (cases_eq k p) [
            | inl e ↦ get_or_push routes route d k (sym e) ∙ sym next
                ∙ other_default table p route d less ∙ ap (λ i. get_or table i d) (sym e)
            | inr other ↦ let low : k < p = omega (arith, small, longer, other) in
                get_or_append_left routes (route ∷ []) d k low ∙ before.same k d low
          ];
          later = λ k d from low. moved k d (omega (arith, from, longer)) low (λ e.
              let this : get_or table k route ≡ route = other_default table k route d low ∙ e in
              never_itself (get_or table p route).prefix (get_or table k route).prefix
              (ap (λ (r : Route). r.prefix) (next ∙ sym this))
              (of.ascending p k route (omega (arith, from, longer)) low));
        }

-- ---- as the code tests it

abbrev pub is_same : Network → Network → Bool
is_same a b = (a.address == b.address) && (a.length == b.length)

pub same_prefix : (a b : Network) → is_same a b ≡ true → a ≡ b
same_prefix a b e =
    let t = and_parts (a.address == b.address) (a.length == b.length) e in
    λ i. record {
      address = eqb-true a.address b.address t.0 i;
      length = eqb-true a.length b.length t.1 i;
    }

pub other_prefix : (a b : Network) → is_same a b ≡ false → a ≡ b → ⊥
other_prefix a b e same =
    let address : (a.address == b.address) ≡ true =
    eq-eqb a.address b.address (ap (λ (n : Network). n.address) same) in
    let length : (a.length == b.length) ≡ true =
    eq-eqb a.length b.length (ap (λ (n : Network). n.length) same) in
    let no : true ≡ false = sym (λ i. address i && length i) ∙ e in
    cc

-- the row at a place is that of the route there
pub row_at : (table : List Route) (rows : List TableRow) (k : ℕ) (d : Route) (e : TableRow)
    → rows ≡ rows_of table → k < length rows → (get_or rows k e).prefix ≡ (get_or table k d).prefix
row_at table rows k d e is low =
    let small : k < length table = omega (arith, low, ap length is, length-map table row_of) in
    ap (λ (r : TableRow). r.prefix) (ap (λ (l : List TableRow). get_or l k e) is
    ∙ get_or-map row_of table k d e small)
