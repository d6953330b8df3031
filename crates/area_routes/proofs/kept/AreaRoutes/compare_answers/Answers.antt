use Rattle.std.proofs.Common.{◌≡◌, ◌∙◌, Option, Some, ap, subst, sym}
use Rattle.std.specs.Prelude.{IfSome, List}
use Rattle.std.specs.Global.{Vec}
use Rattle.words.specs.declared.route.Route.{Route}
use Rattle.area_routes.specs.Kept.{AreInnerBy, KeptRoutes, KnowsExternals, KnowsMatching}
use Rattle.area_routes.specs.Offers.{root_by}
use Rattle.kept_routes.specs.Kept.{IsWalkOf}
use Rattle.candidates.specs.Externals.{AreExternals}
use Rattle.candidates.specs.declared.externals.ExternalAdvertisement.{ExternalAdvertisement}
use Rattle.routes.specs.Candidates.{AreCandidates}
use Rattle.routes.specs.Contents.{contents_at}
use Rattle.routes.specs.declared.root.Root.{Root}
use Rattle.area_routes.proofs.Matches.{found_lacking}
use Rattle.area_routes.proofs.kept.AreaRoutes.compare_answers.Goals as goal

pub returns-in-Some-clause-lacks : goal.returns-in-Some-clause-lacks
returns-in-Some-clause-lacks c =
    let contents = contents_at c.args.moment c.args.area.now.present.database in
    let root = root_by c.args.router c.args.area.now.present.links in
    let is : c.args.self.now.candidates ≡ Some c.in-Some.candidates =
    ap (λ (k : KeptRoutes). k.candidates) (sym c.self.view_is) ∙ c.in-Some.is in
    let kept = subst (λ (o : Option (List Route)). IfSome o (AreCandidates contents root)) is
    c.requires.routes.candidates in
    c.in_ok-found.ensures.lacks contents root kept

pub returns-in-Some-clause-matching : goal.returns-in-Some-clause-matching
returns-in-Some-clause-matching c =
    let contents = contents_at c.args.moment c.args.area.now.present.database in
    let root = root_by c.args.router c.args.area.now.present.links in
    let answers = c.args.answers.now in
    let candidates = c.in-Some.candidates in
    let is : c.args.self.now.candidates ≡ Some candidates =
    ap (λ (k : KeptRoutes). k.candidates) (sym c.self.view_is) ∙ c.in-Some.is in
    let kept = subst (λ (o : Option (List Route)). IfSome o (AreCandidates contents root)) is
    c.requires.routes.candidates in
    let found = c.in_ok-found.ensures in
    subst (λ (o : Option (List Route)). KnowsMatching answers o c.matching_by-self-inside.result)
    (sym c.in-Some.is)
    (c.matching_by-self-inside.ensures.matches answers candidates
    (found_lacking contents root answers candidates c.in_ok-found.found kept found)
    found.only_candidates)

pub calculated-requires-clause-walk : goal.calculated-requires-clause-walk
calculated-requires-clause-walk c =
    let contents = contents_at c.args.moment c.args.area.now.present.database in
    subst (λ (k : KeptRoutes). IsWalkOf contents k.walk) (sym c.self.view_is)
    (c.requires.routes.walk.walk c.requires.behind)

pub calculated-requires-clause-externals : goal.calculated-requires-clause-externals
calculated-requires-clause-externals c =
    let contents = contents_at c.args.moment c.args.area.now.present.database in
    subst (λ (k : KeptRoutes). KnowsExternals contents k) (sym c.self.view_is)
    c.requires.routes.externals

pub returns-clause-lacks : goal.returns-clause-lacks
returns-clause-lacks c =
    let contents = contents_at c.args.moment c.args.area.now.present.database in
    let root = root_by c.args.router c.args.area.now.present.links in
    let items = c.in_ok-made.made.calculated.routes.items in
    let begins : c.self.inside.walk.root ≡ root =
    ap (λ (k : KeptRoutes). k.walk.root) c.self.view_is
    ∙ c.requires.routes.walk.root c.requires.behind in
    let are =
    subst (λ (xs : List Route). AreCandidates contents root xs)
    (sym (c.in_ok-pages.ensures ∙ c.deref.ensures.value))
    (subst (λ (r : Root). AreCandidates contents r items) begins c.in_ok-made.ensures.routes) in
    c.in_ok-found-2.ensures.lacks contents root are

pub returns-clause-matching : goal.returns-clause-matching
returns-clause-matching c =
    let contents = contents_at c.args.moment c.args.area.now.present.database in
    let root = root_by c.args.router c.args.area.now.present.links in
    let answers = c.args.answers.now in
    let candidates = c.in_ok-pages.pages in
    let items = c.in_ok-made.made.calculated.routes.items in
    let begins : c.self.inside.walk.root ≡ root =
    ap (λ (k : KeptRoutes). k.walk.root) c.self.view_is
    ∙ c.requires.routes.walk.root c.requires.behind in
    let are =
    subst (λ (xs : List Route). AreCandidates contents root xs)
    (sym (c.in_ok-pages.ensures ∙ c.deref.ensures.value))
    (subst (λ (r : Root). AreCandidates contents r items) begins c.in_ok-made.ensures.routes) in
    let found = c.in_ok-found-2.ensures in
    c.matching_by-self-inside-2.ensures.matches answers candidates
    (found_lacking contents root answers candidates c.in_ok-found-2.found are found)
    found.only_candidates

pub returns-clause-inner : goal.returns-clause-inner
returns-clause-inner c =
    let contents = contents_at c.args.moment c.args.area.now.present.database in
    let root = root_by c.args.router c.args.area.now.present.links in
    let inner = c.in_ok-made.made.calculated.inner in
    let begins : c.self.inside.walk.root ≡ root =
    ap (λ (k : KeptRoutes). k.walk.root) c.self.view_is
    ∙ c.requires.routes.walk.root c.requires.behind in
    subst (λ (r : Root). AreInnerBy contents r c.self.inside.walk inner) begins
    c.in_ok-made.ensures.inner

pub returns-clause-externals : goal.returns-clause-externals
returns-clause-externals c =
    let contents = contents_at c.args.moment c.args.area.now.present.database in
    let knew = subst (λ (k : KeptRoutes). KnowsExternals contents k) (sym c.self.view_is)
    c.requires.routes.externals in
    c.kept_or.ensures contents
    (subst (λ (o : Option (Vec ExternalAdvertisement)). IfSome o
    (λ advertised. AreExternals contents advertised.items))
    (sym c.take-kept.ensures.value) knew)
    c.in_ok-made.ensures.externals
