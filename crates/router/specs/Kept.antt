-- A router within an event.
use Rattle.std.specs.Prelude.{List, refl}
use Rattle.std.specs.Coded.{Coded, code_by, coded×, coded_list}
use Rattle.adjacency.specs.Drafts.{Drafted}
use Rattle.event_rules.specs.Routers.{Router}

-- the router, what it was when it was last committed, and what was drafted since, one draft for
-- each of its interfaces
pub record KeptRouter : Type 0 where
  pub present : Router
  pub committed : Router
  pub drafted : List Drafted

abbrev pub coded_router : Coded Router → Coded Drafted → Coded KeptRouter
coded_router x d =
    code_by (Router × (Router × List Drafted)) (coded× x (coded× x (coded_list d)))
    (λ r. (r.present, (r.committed, r.drafted)))
    (λ p. record { present = p.0; committed = p.1.0; drafted = p.1.1 }) (λ _. refl)
