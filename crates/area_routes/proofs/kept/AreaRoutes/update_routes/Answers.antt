use Rattle.std.proofs.Common.{◌≡◌, false, refl, ap, subst, sym, ◌∙◌}
use mathlib.Core.Bool.{false≢true}
use Rattle.area_routes.specs.Kept.{KeptRoutes, KnowsAnswered, KnowsCandidates, KnowsInner}
use Rattle.area_routes.specs.Offers.{root_by}
use Rattle.area_routes.proofs.AfterExternals.{still_answered, still_inner, still_offers}
use Rattle.area_routes.proofs.AfterExternals.{still_walks}
use Rattle.area_routes.proofs.Matches.{none_beside}
use Rattle.kept_routes.specs.Externals.{AreOfferingLsasUnchanged, OfferTheSame}
use Rattle.kept_routes.specs.Kept.{IsWalkOf, KeptWalk}
use Rattle.routes.specs.Contents.{contents_at}
use Rattle.routes.specs.declared.root.Root.{Root}
use Rattle.area_routes.proofs.kept.AreaRoutes.update_routes.Goals as goal

pub candidates_stay-requires-clause-walk : goal.candidates_stay-requires-clause-walk
candidates_stay-requires-clause-walk c =
    let old = contents_at c.args.before c.args.area.now.committed.database in
    let on = ap (λ (k : KeptRoutes). k.behind) (sym c.self.view_is) ∙ c.if-self.false in
    subst (λ (k : KeptRoutes). IsWalkOf old k.walk) (sym c.self.view_is)
    (c.requires.routes.walk.walk on)

pub returns-then-branch-2-clause-routes : goal.returns-then-branch-2-clause-routes
returns-then-branch-2-clause-routes c =
    let old = contents_at c.args.before c.args.area.now.committed.database in
    let new = contents_at c.args.moment c.args.area.now.present.database in
    let was = root_by c.args.router c.args.area.now.committed.links in
    let is = root_by c.args.router c.args.area.now.present.links in
    let kept = c.args.self.now in
    let serves : kept.behind ≡ false =
    ap (λ (k : KeptRoutes). k.behind) (sym c.self.view_is) ∙ c.if-self.false in
    let begins : kept.walk.root ≡ is =
    ap (λ (k : KeptRoutes). k.walk.root) (sym c.self.view_is) ∙ sym c.root.ensures
    ∙ c.is_root_of.ensures.0 c.if-is_root_of.true in
    let began = ap (λ (k : KeptRoutes). k.walk.root) c.self.view_is
    ∙ c.requires.routes.walk.root serves in
    let same : OfferTheSame old new was =
    subst (OfferTheSame old new) began
    (c.in_ok-candidates_stay.ensures.same c.if-branch-2.true) in
    record {
      walk = still_walks old new was is kept serves begins c.requires.routes.walk
          (c.walks_are_kept.ensures old new kept.walk
          (c.in_ok-area_lsas_are_unchanged.ensures.same c.if-branch.true));
      candidates = still_offers old new was is kept serves begins c.requires.routes.walk
          (λ routes. c.candidates_are_kept.ensures.candidates old new was routes same)
          c.requires.routes.candidates;
      inner = still_inner old new was is kept serves begins c.requires.routes.walk
          c.inner_routes_are_kept.ensures same.inner c.requires.routes.inner;
    }

pub returns-then-branch-2-clause-answered : goal.returns-then-branch-2-clause-answered
returns-then-branch-2-clause-answered c answers knows =
    let old = contents_at c.args.before c.args.area.now.committed.database in
    let new = contents_at c.args.moment c.args.area.now.present.database in
    let was = root_by c.args.router c.args.area.now.committed.links in
    let is = root_by c.args.router c.args.area.now.present.links in
    let kept = c.args.self.now in
    let serves : kept.behind ≡ false =
    ap (λ (k : KeptRoutes). k.behind) (sym c.self.view_is) ∙ c.if-self.false in
    let begins : kept.walk.root ≡ is =
    ap (λ (k : KeptRoutes). k.walk.root) (sym c.self.view_is) ∙ sym c.root.ensures
    ∙ c.is_root_of.ensures.0 c.if-is_root_of.true in
    let began = ap (λ (k : KeptRoutes). k.walk.root) c.self.view_is
    ∙ c.requires.routes.walk.root serves in
    let same : OfferTheSame old new was =
    subst (OfferTheSame old new) began
    (c.in_ok-candidates_stay.ensures.same c.if-branch-2.true) in
    still_answered old new was is kept serves begins c.requires.routes.walk answers
    (λ stale. (c.candidates_are_kept.ensures.stale old new was answers same).1 stale) knows

pub returns-then-branch-2-clause-walks : goal.returns-then-branch-2-clause-walks
returns-then-branch-2-clause-walks c = record {
  walk = refl;
  serves = λ on stayed. on;
  falls = λ not. absurd (not (record {
    root = ap (λ (k : KeptRoutes). k.walk.root) (sym c.self.view_is) ∙ sym c.root.ensures
        ∙ c.is_root_of.ensures.0 c.if-is_root_of.true;
    lsas = c.in_ok-area_lsas_are_unchanged.ensures.left.0 c.if-branch.true;
  }));
  lags = λ on. on;
}

pub update_candidates-requires-clause-walk : goal.update_candidates-requires-clause-walk
update_candidates-requires-clause-walk c =
    let old = contents_at c.args.before c.args.area.now.committed.database in
    let new = contents_at c.args.moment c.args.area.now.present.database in
    let on = ap (λ (k : KeptRoutes). k.behind) (sym c.self.view_is) ∙ c.if-self.false in
    c.walks_are_kept.ensures old new c.args.self.now.walk
    (c.in_ok-area_lsas_are_unchanged.ensures.same c.if-branch.true) (c.requires.routes.walk.walk on)

pub update_candidates-requires-clause-candidates : goal.update_candidates-requires-clause-candidates
update_candidates-requires-clause-candidates c =
    let old = contents_at c.args.before c.args.area.now.committed.database in
    let on = ap (λ (k : KeptRoutes). k.behind) (sym c.self.view_is) ∙ c.if-self.false in
    subst (λ (r : Root). KnowsCandidates old r c.args.self.now)
    (sym (c.requires.routes.walk.root on)) c.requires.routes.candidates

pub update_candidates-requires-clause-inner : goal.update_candidates-requires-clause-inner
update_candidates-requires-clause-inner c =
    let old = contents_at c.args.before c.args.area.now.committed.database in
    let on = ap (λ (k : KeptRoutes). k.behind) (sym c.self.view_is) ∙ c.if-self.false in
    subst (λ (r : Root). KnowsInner old r c.args.self.now) (sym (c.requires.routes.walk.root on))
    c.requires.routes.inner

pub returns-then-branch-clause-routes : goal.returns-then-branch-clause-routes
returns-then-branch-clause-routes c =
    let old = contents_at c.args.before c.args.area.now.committed.database in
    let new = contents_at c.args.moment c.args.area.now.present.database in
    let is = root_by c.args.router c.args.area.now.present.links in
    let on = ap (λ (k : KeptRoutes). k.behind) (sym c.self.view_is) ∙ c.if-self.false in
    let walks = c.walks_are_kept.ensures old new c.args.self.now.walk
    (c.in_ok-area_lsas_are_unchanged.ensures.same c.if-branch.true) (c.requires.routes.walk.walk on)
    in
    let next = c.update_candidates.new.self in
    let same : next.walk ≡ c.args.self.now.walk = c.update_candidates.ensures.walk in
    let begins : c.args.self.now.walk.root ≡ is =
    ap (λ (k : KeptRoutes). k.walk.root) (sym c.self.view_is) ∙ sym c.root.ensures
    ∙ c.is_root_of.ensures.0 c.if-is_root_of.true in
    record {
      walk = record {
        walk = λ off. subst (IsWalkOf new) (sym same) walks;
        root = λ off. ap (λ (w : KeptWalk). w.root) same ∙ begins;
      };
      candidates = subst (λ (r : Root). KnowsCandidates new r next) begins
          c.update_candidates.ensures.candidates;
      inner = subst (λ (r : Root). KnowsInner new r next) begins c.update_candidates.ensures.inner;
    }

pub returns-then-branch-clause-answered : goal.returns-then-branch-clause-answered
returns-then-branch-clause-answered c answers knows =
    let old = contents_at c.args.before c.args.area.now.committed.database in
    let new = contents_at c.args.moment c.args.area.now.present.database in
    let is = root_by c.args.router c.args.area.now.present.links in
    let kept = c.args.self.now in
    let on = ap (λ (k : KeptRoutes). k.behind) (sym c.self.view_is) ∙ c.if-self.false in
    let begins : kept.walk.root ≡ is =
    ap (λ (k : KeptRoutes). k.walk.root) (sym c.self.view_is) ∙ sym c.root.ensures
    ∙ c.is_root_of.ensures.0 c.if-is_root_of.true in
    let knew = subst (λ (r : Root). KnowsAnswered old r answers kept)
    (sym (c.requires.routes.walk.root on)) knows in
    subst (λ (r : Root). KnowsAnswered new r answers c.update_candidates.new.self) begins
    (c.update_candidates.ensures.answered answers knew)

pub returns-then-branch-clause-none_new : goal.returns-then-branch-clause-none_new
returns-then-branch-clause-none_new c brings = c.update_candidates.ensures.none_new brings

pub returns-then-branch-2-clause-none_new : goal.returns-then-branch-2-clause-none_new
returns-then-branch-2-clause-none_new c brings = refl

pub returns-then-self-clause-none_new : goal.returns-then-self-clause-none_new
returns-then-self-clause-none_new c brings = absurd (let no = brings.are in cc)

pub returns-clause-none_new : goal.returns-clause-none_new
returns-clause-none_new c brings = absurd (let no = brings.are in cc)

pub returns-then-branch-clause-matching : goal.returns-then-branch-clause-matching
returns-then-branch-clause-matching c answers knows =
    c.update_candidates.ensures.matching answers knows

pub returns-then-branch-2-clause-matching : goal.returns-then-branch-2-clause-matching
returns-then-branch-2-clause-matching c answers knows = knows

pub returns-then-self-clause-matching : goal.returns-then-self-clause-matching
returns-then-self-clause-matching c answers knows = tt

pub returns-clause-matching : goal.returns-clause-matching
returns-clause-matching c answers knows = tt

pub returns-then-branch-clause-lacking : goal.returns-then-branch-clause-lacking
returns-then-branch-clause-lacking c brings exact = c.update_candidates.ensures.lacking brings exact

pub returns-then-branch-2-clause-lacking : goal.returns-then-branch-2-clause-lacking
returns-then-branch-2-clause-lacking c brings exact =
    absurd (none_beside c.args.self.now.candidates brings.before brings.now brings.were brings.are
    brings.another)

pub returns-then-self-clause-lacking : goal.returns-then-self-clause-lacking
returns-then-self-clause-lacking c brings exact = absurd (let no = brings.are in cc)

pub returns-clause-lacking : goal.returns-clause-lacking
returns-clause-lacking c brings exact = absurd (let no = brings.are in cc)

pub returns-then-branch-clause-walks : goal.returns-then-branch-clause-walks
returns-then-branch-clause-walks c = record {
  walk = c.update_candidates.ensures.walk;
  serves = λ on stayed. c.update_candidates.ensures.behind ∙ on;
  falls = λ not. absurd (not (record {
    root = ap (λ (k : KeptRoutes). k.walk.root) (sym c.self.view_is) ∙ sym c.root.ensures
        ∙ c.is_root_of.ensures.0 c.if-is_root_of.true;
    lsas = c.in_ok-area_lsas_are_unchanged.ensures.left.0 c.if-branch.true;
  }));
  lags = λ on. c.update_candidates.ensures.behind ∙ on;
}

pub returns-then-branch-clause-candidates : goal.returns-then-branch-clause-candidates
returns-then-branch-clause-candidates c on stayed =
    let before = c.args.before in
    let moment = c.args.moment in
    let area = c.args.area.now in
    let left = subst (λ (k : KeptRoutes). AreOfferingLsasUnchanged before moment
    area.committed.database
    area.present.database k.walk) (sym c.self.view_is) stayed.lsas in
    absurd (false≢true (sym c.if-branch-2.false ∙ c.in_ok-candidates_stay.ensures.left left))
