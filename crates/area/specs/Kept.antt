-- A link, and links and database of a router, within an event.
use Rattle.std.specs.Prelude.{ℕ, List, refl}
use Rattle.std.specs.Coded.{Coded, code_by, coded×, coded_list, coded_ℕ}
use Rattle.words.specs.Numbers.{RouterNumber}
use Rattle.adjacency.specs.Drafts.{Drafted}
use Rattle.received.specs.Links.{Area, Link}

-- a link, what it was when it was last committed, and what was drafted for its interface since
pub record KeptLink : Type 0 where
  pub present : Link
  pub committed : Link
  pub drafted : Drafted

-- the same of all links, interface n at index n - 1, and of the database
pub record RouterArea : Type 0 where
  -- the router's own Router ID
  pub router : RouterNumber
  pub present : Area
  pub committed : Area
  pub drafted : List Drafted

abbrev pub coded_link : Coded Link → Coded Drafted → Coded KeptLink
coded_link x d =
    code_by (Link × (Link × Drafted)) (coded× x (coded× x d))
    (λ k. (k.present, (k.committed, k.drafted)))
    (λ p. record { present = p.0; committed = p.1.0; drafted = p.1.1 }) (λ _. refl)

abbrev pub coded_area : Coded Area → Coded Drafted → Coded RouterArea
coded_area x d =
    code_by (ℕ × (Area × (Area × List Drafted)))
    (coded× coded_ℕ (coded× x (coded× x (coded_list d))))
    (λ a. (a.router, (a.present, (a.committed, a.drafted))))
    (λ p. record { router = p.0; present = p.1.0; committed = p.1.1.0; drafted = p.1.1.1 })
    (λ _. refl)
