use Rattle.std.proofs.Common.{Option, ap, subst, sym, ◌∙◌}
use Rattle.std.specs.Prelude.{IfSome}
use Rattle.std.specs.Global.{Vec}
use Rattle.candidates.specs.Externals.{AreExternals}
use Rattle.candidates.specs.declared.externals.ExternalAdvertisement.{ExternalAdvertisement}
use Rattle.area_routes.specs.Kept.{AreWalkAndCandidatesOf, KeptRoutes, KeepsWalkUnlessChanged}
use Rattle.area_routes.specs.Kept.{KnowsAnswered}
use Rattle.area_routes.specs.Kept.{KnowsMatching}
use Rattle.area_routes.specs.Offers.{root_by}
use Rattle.area_routes.proofs.Externals.{both_else, externals_after, same_but}
use Rattle.routes.specs.Contents.{contents_at}
use Rattle.area_routes.proofs.kept.AreaRoutes.update.Goals as goal

pub update_routes-requires-clause-routes : goal.update_routes-requires-clause-routes
update_routes-requires-clause-routes c = record {
  walk = c.requires.routes.walk;
  candidates = c.requires.routes.candidates;
  inner = c.requires.routes.inner;
}

pub returns-clause-routes : goal.returns-clause-routes
returns-clause-routes c =
    let old = contents_at c.args.before c.args.area.now.committed.database in
    let new = contents_at c.args.moment c.args.area.now.present.database in
    let router = c.args.router in
    let area = c.args.area.now.present in
    let next = c.update_routes.new.self in
    let middle = c.keep_externals.new.self in
    let last = c.update_graph.new.self in
    let same = both_else next middle last c.keep_externals.ensures.others
    c.update_graph.ensures.others in
    let offers : AreWalkAndCandidatesOf router area c.args.moment last =
    subst (λ (k : KeptRoutes). AreWalkAndCandidatesOf router area c.args.moment k) (sym same)
    (same_but router area c.args.moment next last.externals last.graph
    c.in_ok-update_routes.ensures.routes) in
    let advertised = externals_after old new c.externals_stay-stay.result c.args.self.now next
    middle
    c.externals_stay-stay.ensures c.update_routes.ensures.externals
    c.keep_externals.ensures.kept c.keep_externals.ensures.forgotten
    c.requires.routes.externals in
    record {
      walk = offers.walk;
      candidates = offers.candidates;
      inner = offers.inner;
      externals = subst (λ (o : Option (Vec ExternalAdvertisement)). IfSome o
          (λ e. AreExternals new e.items))
          (sym (ap (λ (k : KeptRoutes). k.externals) c.update_graph.ensures.others)) advertised;
      graph = c.update_graph.ensures.graph;
    }

pub returns-clause-answered : goal.returns-clause-answered
returns-clause-answered c answers knows =
    let new = contents_at c.args.moment c.args.area.now.present.database in
    let root = root_by c.args.router c.args.area.now.present.links in
    let same = both_else c.update_routes.new.self c.keep_externals.new.self c.update_graph.new.self
    c.keep_externals.ensures.others c.update_graph.ensures.others in
    record {
      routes = returns-clause-routes c;
      answered = subst (λ (k : KeptRoutes). KnowsAnswered new root answers k) (sym same)
          (c.in_ok-update_routes.ensures.answered answers knows.answered);
      matching = subst (λ (k : KeptRoutes). KnowsMatching answers k.candidates k.matching)
          (sym same) (c.in_ok-update_routes.ensures.matching answers knows.matching);
    }

pub returns-clause-walks : goal.returns-clause-walks
returns-clause-walks c =
    let served = c.in_ok-update_routes.ensures.walks in
    let same = both_else c.update_routes.new.self c.keep_externals.new.self c.update_graph.new.self
    c.keep_externals.ensures.others c.update_graph.ensures.others in
    subst (λ (k : KeptRoutes). KeepsWalkUnlessChanged c.args.before c.args.moment c.args.router
    c.args.area.now.committed c.args.area.now.present c.args.self.now k) (sym same)
    (record {
      walk = served.walk;
      serves = served.serves;
      falls = served.falls;
      lags = served.lags;
    })

pub returns-clause-candidates : goal.returns-clause-candidates
returns-clause-candidates c on stayed =
    let last = c.update_graph.new.self in
    let same = both_else c.update_routes.new.self c.keep_externals.new.self last
    c.keep_externals.ensures.others c.update_graph.ensures.others in
    same ∙ ap (λ (k : KeptRoutes). record k {
      externals = last.externals;
      graph = last.graph;
    }) (c.in_ok-update_routes.ensures.candidates on stayed)

pub returns-clause-none_new : goal.returns-clause-none_new
returns-clause-none_new c brings =
    let same = both_else c.update_routes.new.self c.keep_externals.new.self c.update_graph.new.self
    c.keep_externals.ensures.others c.update_graph.ensures.others in
    ap (λ (k : KeptRoutes). k.answered) same
    ∙ c.in_ok-update_routes.ensures.none_new (record {
      before = brings.before;
      now = brings.now;
      were = brings.were;
      are = ap (λ (k : KeptRoutes). k.candidates) (sym same) ∙ brings.are;
      among = brings.among;
    })

pub returns-clause-lacking : goal.returns-clause-lacking
returns-clause-lacking c brings exact =
    let same = both_else c.update_routes.new.self c.keep_externals.new.self c.update_graph.new.self
    c.keep_externals.ensures.others c.update_graph.ensures.others in
    ap (λ (k : KeptRoutes). k.matching) same
    ∙ c.in_ok-update_routes.ensures.lacking (record {
      before = brings.before;
      now = brings.now;
      were = brings.were;
      are = ap (λ (k : KeptRoutes). k.candidates) (sym same) ∙ brings.are;
      another = brings.another;
    }) exact
