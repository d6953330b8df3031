-- If some entry has a metric, one has the least.
use Rattle.std.proofs.Common.{◌≡◌, ℕ, ◌≤◌, ◌⊎◌, inl, inr, List, [], ◌∷◌, Some, refl, sym, ap, subst}
use Rattle.std.proofs.Common.{arith}
use Rattle.std.proofs.lemmas.Bool.{cases_eq, cases_lt}
use Rattle.std.specs.List.{Contains}
use Rattle.routes.proofs.Lists.{first_is, later_is, of_cons, of_empty}
use Rattle.candidates.specs.Entries.{HasMetric, IsLeastMetric, rank}
use Rattle.candidates.specs.declared.entry.AdvertisedLink.{AdvertisedLink}
use Rattle.candidates.specs.declared.entry.EntryKind.{EntryKind}
use Rattle.candidates.proofs.EntryOrder.{same_kind}

module _ (router : ℕ) (kind : EntryKind) (id from : ℕ) where
  abbrev Suits : AdvertisedLink → Type 0
  Suits e = (e.router ≡ router) × (e.kind ≡ kind) × (e.id ≡ id) × (from ≤ e.metric)

  suits : (e : AdvertisedLink) → Suits e ⊎ (Suits e → ⊥)
  suits e =
      elim (cases_eq e.router router) [
        | inr apart ↦ inr (λ s. apart s.0)
        | inl r ↦
            elim (cases_eq (rank e.kind) (rank kind)) [
              | inr apart ↦ inr (λ s. apart (ap rank s.1))
              | inl k ↦
                  elim (cases_eq e.id id) [
                    | inr apart ↦ inr (λ s. apart s.2)
                    | inl i ↦ elim (cases_lt e.metric from) [
                      | inl lt ↦ inr (λ s. omega (arith, s.3, lt))
                      | inr le ↦ inl
                          (r, same_kind e.kind kind k, i, le)
                    ]
                  ]
            ]
      ]

  record Least (es : List AdvertisedLink) : Type 0 where
    entry : AdvertisedLink
    among : Contains es entry
    suited : Suits entry
    least : (other : AdvertisedLink) → Contains es other → Suits other → entry.metric ≤ other.metric

  abbrev NoneOf : List AdvertisedLink → Type 0
  NoneOf es = (e : AdvertisedLink) → Contains es e → Suits e → ⊥

  longer : (x : AdvertisedLink) (xs : List AdvertisedLink) → Suits x ⊎ (Suits x → ⊥)
      → Least xs ⊎ NoneOf xs → Least (x ∷ xs) ⊎ NoneOf (x ∷ xs)
  longer x xs (inl s) (inl l) =
      elim (cases_lt x.metric l.entry.metric) [
        | inl lt ↦
            inl (record {
              entry = x;
              among = first_is x xs;
              suited = s;
              least = λ o p t. elim (of_cons x xs o p) [
                | inl e ↦ omega (arith, ap (λ (y : AdvertisedLink). y.metric) e)
                | inr later ↦ omega
                    (arith, lt, l.least o later t)
              ];
            })
        | inr le ↦
            inl (record {
              entry = l.entry;
              among = later_is x xs l.entry l.among;
              suited = l.suited;
              least = λ o p t. elim (of_cons x xs o p) [
                | inl e ↦ omega (arith, le, ap (λ (y : AdvertisedLink). y.metric) e)
                | inr later ↦ l.least
                    o later t
              ];
            })
      ]
  longer x xs (inl s) (inr none) =
      inl (record {
        entry = x;
        among = first_is x xs;
        suited = s;
        least = λ o p t. elim (of_cons x xs o p) [
          | inl e ↦ omega (arith, ap (λ (y : AdvertisedLink). y.metric) e)
          | inr later ↦ absurd
              (none o later t)
        ];
      })
  longer x xs (inr never) (inl l) =
      let P : AdvertisedLink → Type 0 = λ y. Suits y in
      inl (record {
        entry = l.entry;
        among = later_is x xs l.entry l.among;
        suited = l.suited;
        least = λ o p t. elim (of_cons x xs o p)
            [ inl e ↦ absurd (never (subst P (sym e) t)) | inr later ↦ l.least o later t ];
      })
  longer x xs (inr never) (inr none) =
      let P : AdvertisedLink → Type 0 = λ y. Suits y in
      inr (λ o p t. elim (of_cons x xs o p)
      [ inl e ↦ never (subst P (sym e) t) | inr later ↦ none o later t ])

  least_of : (es : List AdvertisedLink) → Least es ⊎ NoneOf es
  least_of [] = inr (λ e p s. of_empty e p)
  least_of (x ∷ xs) = longer x xs (suits x) (least_of xs)

  pub least_exists : (entries : List AdvertisedLink) (metric : ℕ) → from ≤ metric
      → HasMetric entries router kind id metric
      → (least : ℕ) × IsLeastMetric entries router kind id from (Some least) × (least ≤ metric)
  least_exists entries metric le (place, among) =
      elim (least_of entries) [
        | inl l ↦
            let P : AdvertisedLink → Type 0 = λ e. Contains entries e in
            let r = l.suited.0 in
            let k = l.suited.1 in
            let n = l.suited.2 in
            let same : l.entry ≡ record {
              router = router;
              kind = kind;
              id = id;
              metric = l.entry.metric;
              place = l.entry.place;
            } = λ i. record {
              router = r i;
              kind = k i;
              id = n i;
              metric = l.entry.metric;
              place = l.entry.place;
            } in (
              l.entry.metric,
              (
                l.suited.3,
                (l.entry.place, subst P same l.among),
                (λ other low has. l.least (record {
                  router = router;
                  kind = kind;
                  id = id;
                  metric = other;
                  place = has.0;
                }) has.1 (refl, refl, refl, low)),
              ),
              l.least (record {
                router = router;
                kind = kind;
                id = id;
                metric = metric;
                place = place;
              }) among (refl, refl, refl, le),
            )
        | inr none ↦ absurd (none (record {
          router = router;
          kind = kind;
          id = id;
          metric = metric;
          place = place;
        }) among (refl, refl, refl, le))
      ]
