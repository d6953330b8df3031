-- Walks over any relation of links, least-cost walks, and their first hops (RFC 2328, section
-- 16.1).
use Rattle.std.specs.Prelude.{◌≡◌, ℕ, ◌+◌, ◌≤◌, ◌↔◌, IsTrue, List, [], ◌∷◌}
use Rattle.words.specs.Interfaces.{has_interface}

-- where a link leads, its cost, and the interface by which the root sends along it (0 for other
-- vertices)
pub record Step (V : Type 0) : Type 0 where
  pub target : V
  pub cost : ℕ
  pub exit : ℕ

-- the links lead from one vertex to the other, each from where the one before it ends
abbrev pub IsWalk : {V : Type 0} → (V → Step V → Type 0) → V → List (Step V) → V → Type 0
IsWalk leads from [] to = from ≡ to
IsWalk leads from (step ∷ rest) to = leads from step × IsWalk leads step.target rest to

abbrev pub cost_of : {V : Type 0} → List (Step V) → ℕ
cost_of [] = 0
cost_of (step ∷ rest) = step.cost + cost_of rest

-- a walk that costs no more than any other between its ends
pub record IsLeastWalk {V : Type 0} (leads : V → Step V → Type 0) (from : V) (walk : List (Step V))
    (to : V) : Type 0 where
  pub is_walk : IsWalk leads from walk to
  pub least : (other : List (Step V)) → IsWalk leads from other to → cost_of walk ≤ cost_of other

-- the least cost, and the interfaces of the first links of all least-cost walks as a set
pub record Way : Type 0 where
  pub distance : ℕ
  pub hops : ℕ

-- the way to a vertex: its distance, and exactly the next hops
pub record IsWay {V : Type 0} (leads : V → Step V → Type 0) (from to : V) (way : Way) : Type 0 where
  pub distance : (walk : List (Step V)) × IsLeastWalk leads from walk to
      × (cost_of walk ≡ way.distance)
  pub hops : (interface : ℕ)
      → IsTrue (has_interface way.hops interface)
      ↔ ((first : Step V) × (rest : List (Step V)) × IsLeastWalk leads from (first ∷ rest) to
      × (first.exit ≡ interface))
