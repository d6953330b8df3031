use Rattle.std.proofs.Common.{◌≡◌, true, false, List, Option, Some, ap, subst, sym, ◌∙◌}
use mathlib.Core.Bool.{false≢true}
use Rattle.std.specs.Prelude.{IfSome}
use Rattle.std.proofs.lemmas.Bool.{and_parts}
use Rattle.std.proofs.lemmas.Option.{same_Some}
use Rattle.words.specs.declared.route.Route.{Route}
use Rattle.area_routes.specs.Kept.{AreAmongKept, AreInnerBy, HaveAnother, KeptRoutes}
use Rattle.area_routes.specs.Kept.{KnowsCandidates, KnowsInner, KnowsMatching, StayAnswered}
use Rattle.area_routes.specs.declared.matching.Matching.{Matching}
use Rattle.area_routes.specs.declared.following.Next.{Next}
use Rattle.area_routes.proofs.Candidates.{and_true, none_another}
use Rattle.area_routes.proofs.Matches.{another_is_new}
use Rattle.kept_routes.specs.Placing.{AreAllAmong, HasAnother}
use Rattle.kept_routes.specs.Kept.{IsWalkOf}
use Rattle.routes.specs.Candidates.{AreCandidates}
use Rattle.routes.specs.Contents.{contents_at}
use Rattle.routes.specs.declared.root.Root.{Root}
use Rattle.area_routes.proofs.kept.AreaRoutes.follow_externals.Goals as goal

pub followed-next-requires-clause-walk : goal.followed-next-requires-clause-walk
followed-next-requires-clause-walk c =
    subst (λ (k : KeptRoutes). IsWalkOf (contents_at c.args.moment c.args.area.now.present.database)
    k.walk) (sym c.self.view_is) c.requires.walk

pub followed-next-requires-clause-inner : goal.followed-next-requires-clause-inner
followed-next-requires-clause-inner c =
    subst (λ (k : KeptRoutes). KnowsInner
    (contents_at c.args.moment c.args.area.now.present.database)
    k.walk.root k) (sym c.self.view_is) c.requires.inner

pub followed-next-requires-clause-routes : goal.followed-next-requires-clause-routes
followed-next-requires-clause-routes c =
    let old = contents_at c.args.before c.args.area.now.committed.database in
    let knew = subst (λ (k : KeptRoutes). KnowsCandidates old k.walk.root k) (sym c.self.view_is)
    c.requires.candidates in
    subst (λ (o : Option (List Route)). IfSome o
    (λ routes. AreCandidates old c.self.inside.walk.root routes))
    (sym c.take-kept.ensures.value) knew

pub returns-clause-candidates : goal.returns-clause-candidates
returns-clause-candidates c =
    let new = contents_at c.args.moment c.args.area.now.present.database in
    let items = c.in-Some.next.candidates in
    let all = subst (λ (o : Option Next). IfSome o
    (λ next. AreCandidates new c.self.inside.walk.root next.candidates)) c.in-Some.is
    c.followed-next.ensures.candidates in
    subst (λ (r : Root). AreCandidates new r items)
    (ap (λ (k : KeptRoutes). k.walk.root) c.self.view_is) all

pub returns-clause-inner : goal.returns-clause-inner
returns-clause-inner c =
    let new = contents_at c.args.moment c.args.area.now.present.database in
    subst (λ (k : KeptRoutes). IfSome k.inner (AreInnerBy new c.args.self.now.walk.root k.walk))
    (sym c.self.view_is) c.requires.inner

pub returns-clause-answered : goal.returns-clause-answered
returns-clause-answered c answers knew on stale =
    let old = contents_at c.args.before c.args.area.now.committed.database in
    let new = contents_at c.args.moment c.args.area.now.present.database in
    let root = c.self.inside.walk.root in
    let same = ap (λ (k : KeptRoutes). k.walk.root) c.self.view_is in
    let were = and_parts _ _ (on) in
    let none = subst (λ (o : Option Next). IfSome o
    (λ next. next.none_new ≡ true → StayAnswered old new root)) c.in-Some.is
    c.followed-next.ensures.none_new in
    let stays = subst (StayAnswered old new) same (none were.1) in
    knew (sym (ap (λ (k : KeptRoutes). k.answered) c.self.view_is) ∙ were.0) (stays answers stale)

pub returns-clause-none_new : goal.returns-clause-none_new
returns-clause-none_new c brings =
    let next = c.in-Some.next in
    let kept : Option (List Route) = c.take-kept.result in
    let were : kept ≡ Some brings.before =
    c.take-kept.ensures.value ∙ ap (λ (k : KeptRoutes). k.candidates) c.self.view_is
    ∙ brings.were in
    let are : next.candidates ≡ brings.now = same_Some _ _ brings.are in
    let told = subst (λ (o : Option Next). IfSome o
    (λ n. n.none_new ≡ false → HaveAnother kept n.candidates)) c.in-Some.is
    c.followed-next.ensures.another in
    let another : next.none_new ≡ false → HasAnother brings.before brings.now = λ off.
    subst (λ (v : List Route). HasAnother brings.before v) are
    (subst (λ (o : Option (List Route)). HaveAnother o next.candidates) were (told off)) in
    and_true c.self.inside.answered next.none_new
    (none_another next.none_new brings.before brings.now another brings.among)
    ∙ ap (λ (k : KeptRoutes). k.answered) c.self.view_is

pub returns-clause-matching : goal.returns-clause-matching
returns-clause-matching c answers knew =
    let next = c.in-Some.next in
    let kept : Option (List Route) = c.take-kept.result in
    let was : kept ≡ c.args.self.now.candidates =
    c.take-kept.ensures.value ∙ ap (λ (k : KeptRoutes). k.candidates) c.self.view_is in
    let told = subst (λ (o : Option Next). IfSome o
    (λ n. n.none_new ≡ false → HaveAnother kept n.candidates)) c.in-Some.is
    c.followed-next.ensures.another in
    let still = subst (λ (m : Matching). KnowsMatching answers c.args.self.now.candidates m)
    (sym (ap (λ (k : KeptRoutes). k.matching) c.self.view_is)) knew in
    c.matching_after-self-inside.ensures.matches answers kept next.candidates told
    (subst (λ (o : Option (List Route)). KnowsMatching answers o c.self.inside.matching) (sym was)
    still)

pub returns-clause-lacking : goal.returns-clause-lacking
returns-clause-lacking c brings exact =
    let next = c.in-Some.next in
    let kept : Option (List Route) = c.take-kept.result in
    let were : kept ≡ Some brings.before =
    c.take-kept.ensures.value ∙ ap (λ (k : KeptRoutes). k.candidates) c.self.view_is
    ∙ brings.were in
    let are : next.candidates ≡ brings.now = same_Some _ _ brings.are in
    let told = subst (λ (o : Option Next). IfSome o
    (λ n. n.none_new ≡ true → AreAmongKept kept n.candidates)) c.in-Some.is
    c.followed-next.ensures.among in
    let among : next.none_new ≡ true → AreAllAmong brings.before brings.now = λ on.
    subst (λ (v : List Route). AreAllAmong brings.before v) are
    (subst (λ (o : Option (List Route)). AreAmongKept o next.candidates) were (told on)) in
    c.matching_after-self-inside.ensures.lacking
    (ap (λ (k : KeptRoutes). k.matching) c.self.view_is ∙ exact)
    (another_is_new next.none_new brings.before brings.now among brings.another)

pub returns-in_default-clause-inner : goal.returns-in_default-clause-inner
returns-in_default-clause-inner c =
    let new = contents_at c.args.moment c.args.area.now.present.database in
    subst (λ (k : KeptRoutes). IfSome k.inner (AreInnerBy new c.args.self.now.walk.root k.walk))
    (sym c.self.view_is) c.requires.inner

pub returns-in_default-clause-answered : goal.returns-in_default-clause-answered
returns-in_default-clause-answered c answers knew on stale = absurd (false≢true on)

pub returns-in_default-clause-none_new : goal.returns-in_default-clause-none_new
returns-in_default-clause-none_new c brings = absurd (let no = brings.are in cc)

pub returns-in_default-clause-matching : goal.returns-in_default-clause-matching
returns-in_default-clause-matching c answers knew = tt

pub returns-in_default-clause-lacking : goal.returns-in_default-clause-lacking
returns-in_default-clause-lacking c brings exact = absurd (let no = brings.are in cc)
