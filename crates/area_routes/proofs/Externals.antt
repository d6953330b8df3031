-- What AS-external-LSAs advertise, kept over an event.
use Rattle.std.proofs.Common.{◌≡◌, ◌∙◌, Bool, true, false, List, Option, None, Some, ap, refl, sym}
use Rattle.std.proofs.Common.{subst}
use Rattle.std.specs.Prelude.{IfSome, IsTrue}
use Rattle.std.specs.Global.{Vec}
use Rattle.words.specs.Numbers.{Moment, RouterNumber}
use Rattle.received.specs.Links.{Area}
use Rattle.candidates.specs.Externals.{AreExternals}
use Rattle.candidates.specs.declared.externals.ExternalAdvertisement.{ExternalAdvertisement}
use Rattle.routes.specs.Contents.{Contents}
use Rattle.candidates.specs.declared.graph.AreaGraph.{AreaGraph}
use Rattle.area_routes.specs.Kept.{AreWalkAndCandidatesOf, ExternalsHaveSameContents, KeptRoutes}
use Rattle.area_routes.specs.Kept.{KnowsExternals}

-- it is unchanged while they say the same
externals_stay : (old new : Contents) (advertised : List ExternalAdvertisement)
    → ExternalsHaveSameContents old new → AreExternals old advertised → AreExternals new advertised
externals_stay old new advertised same are e = (
  (λ t. let p = (are e).0 t in (p.0, sym (same p.0.0 p.2.is_type) ∙ p.1, p.2)),
  (λ p. (are e).1 (p.0, same p.0.0 p.2.is_type ∙ p.1, p.2)),
)

carried : (old new : Contents) (kept : Option (Vec ExternalAdvertisement))
    → ExternalsHaveSameContents old new
    → IfSome kept (λ advertised. AreExternals old advertised.items)
    → IfSome kept (λ advertised. AreExternals new advertised.items)
carried old new None same are = are
carried old new (Some advertised) same are = externals_stay old new advertised.items same are

-- what is kept after an event, if they say the same
pub externals_after : (old new : Contents) (stay : Bool) (kept next last : KeptRoutes)
    → (IsTrue stay → ExternalsHaveSameContents old new) → next.externals ≡ kept.externals
    → (IsTrue stay → last.externals ≡ next.externals) → (stay ≡ false → last.externals ≡ None)
    → KnowsExternals old kept → KnowsExternals new last
externals_after old new true kept next last same followed stays forgotten knows =
    let is : last.externals ≡ kept.externals = stays refl ∙ followed in
    subst (λ (o : Option (Vec ExternalAdvertisement)). IfSome o
    (λ advertised. AreExternals new advertised.items)) (sym is)
    (carried old new kept.externals (same refl) knows)
externals_after old new false kept next last same followed stays forgotten knows =
    subst (λ (o : Option (Vec ExternalAdvertisement)). IfSome o
    (λ advertised. AreExternals new advertised.items))
    (sym (forgotten refl)) tt

-- candidates and walk don't depend on what is kept of them, nor on the graph
pub same_but : (router : RouterNumber) (area : Area) (moment : Moment) (kept : KeptRoutes)
    (externals : Option (Vec ExternalAdvertisement)) (graph : Option AreaGraph)
    → AreWalkAndCandidatesOf router area moment kept
    → AreWalkAndCandidatesOf router area moment (record kept {
      externals = externals;
      graph = graph;
    })
same_but router area moment kept externals graph are = record {
  walk = record { walk = are.walk.walk; root = are.walk.root };
  candidates = are.candidates;
  inner = are.inner;
}

-- changing one of both and then the other leaves the rest unchanged
pub both_else : (kept next last : KeptRoutes) → next ≡ record kept {
  externals = next.externals;
} → last ≡ record next { graph = last.graph }
    → last ≡ record kept { externals = last.externals; graph = last.graph }
both_else kept next last one other =
    other ∙ ap (λ (k : KeptRoutes). record k { graph = last.graph }) one
    ∙ ap (λ (e : Option (Vec ExternalAdvertisement)). record kept {
      externals = e;
      graph = last.graph;
    }) (sym (ap (λ (k : KeptRoutes). k.externals) other))
