use Rattle.std.proofs.Common.{Bool, List, Some, is_some, ap, subst, sym, ◌∙◌}
use Rattle.words.specs.Prefixes.{Network}
use Rattle.words.specs.declared.key.Key.{Key}
use Rattle.routes.specs.Contents.{contents_at}
use Rattle.kept_routes.specs.Changes.{AreAllAdvertised, OthersHaveSameContents}
use Rattle.kept_routes.proofs.Halfway.{all_done}
use Rattle.kept_routes.proofs.follow.follow_externals.Goals as goal

pub renew_all-requires-clause-ascend : goal.renew_all-requires-clause-ascend
renew_all-requires-clause-ascend c = c.requires.routes.ascending

pub returns-then-none_new : goal.returns-then-none_new
returns-then-none_new c =
    let old = contents_at c.args.before c.args.db.now.committed in
    let new = contents_at c.args.moment c.args.db.now.present in
    let root = c.args.root.now in
    let keys = c.deref.result.now in
    let prefixes = c.deref-2.result.now in
    let others = subst (λ (ks : List Key). OthersHaveSameContents ks old new)
    (sym c.deref.ensures.value)
    c.in_ok-keys.ensures in
    let advertised = subst (λ (ps : List Network). AreAllAdvertised old new keys ps)
    (sym c.deref-2.ensures.value) c.in_ok-prefixes.ensures in (
      all_done old new root c.requires.same keys prefixes others advertised c.renew_all.new.routes
          (c.in_ok-done.ensures.halfway (ap is_some c.in-Some.is) old c.requires.routes),
      c.in_ok-done.ensures.among (c.in-Some.is ∙ ap (λ (b : Bool). Some b) c.if-none_new.true),
    )

pub returns : goal.returns
returns c =
    let old = contents_at c.args.before c.args.db.now.committed in
    let new = contents_at c.args.moment c.args.db.now.present in
    let root = c.args.root.now in
    let keys = c.deref.result.now in
    let prefixes = c.deref-2.result.now in
    let others = subst (λ (ks : List Key). OthersHaveSameContents ks old new)
    (sym c.deref.ensures.value)
    c.in_ok-keys.ensures in
    let advertised = subst (λ (ps : List Network). AreAllAdvertised old new keys ps)
    (sym c.deref-2.ensures.value) c.in_ok-prefixes.ensures in (
      all_done old new root c.requires.same keys prefixes others advertised c.renew_all.new.routes
          (c.in_ok-done.ensures.halfway (ap is_some c.in-Some.is) old c.requires.routes),
      c.in_ok-done.ensures.another (c.in-Some.is ∙ ap (λ (b : Bool). Some b) c.if-none_new.false)
          old c.requires.routes,
    )
