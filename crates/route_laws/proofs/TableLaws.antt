-- The table is determined, and is part of the candidates; after answers to all of them it isn't
-- stale.
use Rattle.std.proofs.Common.{◌≡◌, List, [], ◌∷◌, refl}
use Rattle.std.specs.List.{Contains}
use Rattle.words.specs.declared.route.Route.{Route}
use Rattle.route_laws.specs.Laws.{AnswersToAllAreNotStale, TablesAreDetermined}
use Rattle.route_laws.specs.Laws.{TablesArePartsOfCandidates}
use Rattle.routes.proofs.Determined.{same_routes}
use Rattle.routes.proofs.Lists.{first_is, of_empty}

pub tables : TablesAreDetermined
tables contents root answers left right p q =
    same_routes left right p.ascending q.ascending (λ r t. (q.each r).1 ((p.each r).0 t))
    (λ r t. (p.each r).1 ((q.each r).0 t))

without : (table : List Route) → ((r : Route) → Contains table r → ⊥) → table ≡ []
without [] none = refl
without (r ∷ table) none = absurd (none r (first_is r table))

pub parts : TablesArePartsOfCandidates
parts = record {
  part = λ contents root answers routes table are is r. (
    (λ t. let k = (is.each r).0 t in ((are.each r).1 k.0, k.1)),
    (λ t. (is.each r).1 ((are.each r).0 t.0, t.1)),
  );
  empty = λ contents root table is. without table (λ r t. of_empty (r, 0) ((is.each r).0 t).1);
  whole = λ contents root answers routes table are is all.
      same_routes table routes is.ascending are.ascending
      (λ r t. (are.each r).1 ((is.each r).0 t).0)
      (λ r t. let k = (are.each r).0 t in (is.each r).1 (k, all r k));
}

pub not_stale : AnswersToAllAreNotStale
not_stale contents root answers routes are all stale =
    stale.2 (all stale.0 ((are.each stale.0).1 stale.1))
