use Rattle.std.proofs.Common.{subst}
use Rattle.area_routes.specs.Kept.{KnowsMatching}
use Rattle.area_routes.specs.declared.matching.Matching.{Matching}
use Rattle.area_routes.proofs.Matches.{another_lacks}
use Rattle.area_routes.proofs.matching.matching_after.Goals as goal

pub returns-in-OnlyCandidates-clause-matches : goal.returns-in-OnlyCandidates-clause-matches
returns-in-OnlyCandidates-clause-matches c answers kept now another knows =
    another_lacks answers kept now (another c.if-none_new.false)
    (subst (λ (m : Matching). KnowsMatching answers kept m) c.in-OnlyCandidates.is knows)
