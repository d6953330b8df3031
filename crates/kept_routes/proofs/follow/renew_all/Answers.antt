use Rattle.std.proofs.Common.{◌≡◌, Bool, true, false, Some, is_some, ◌∷◌, [], ◌++◌, inl, inr, List}
use Rattle.std.proofs.Common.{take, sym, subst, ◌∙◌, ap, arith}
use Rattle.std.proofs.lemmas.Bool.{and_cases, and_parts}
use Rattle.std.proofs.lemmas.List.{take_all, take_more}
use Rattle.std.proofs.lemmas.Option.{same_Some}
use Rattle.words.specs.Prefixes.{Network}
use Rattle.routes.specs.Contents.{contents_at}
use Rattle.kept_routes.specs.Placing.{AreHalfway}
use Rattle.kept_routes.proofs.Halfway.{HasAnotherOf, all_another, first_another, none_yet}
use Rattle.kept_routes.proofs.Halfway.{one_more, still_another}
use Rattle.kept_routes.proofs.follow.renew_all.Goals as goal

pub loop-prefix-init : goal.loop-prefix-init
loop-prefix-init c = record {
  ascend = c.requires.ascend;
  halfway = λ old are. none_yet old (contents_at c.args.moment c.args.db.now.present)
      c.args.root.now
      c.args.routes.now are;
  among = λ on r t. t;
  another = λ off old are. absurd (let no : true ≡ false = off in cc);
}

pub loop-prefix-preserved : goal.loop-prefix-preserved
loop-prefix-preserved c =
    let new = contents_at c.args.moment c.args.db.now.present in
    let root = c.args.root.now in
    let xs = c.args.prefixes.now in
    let i = c.loop-prefix.prefix-index in
    let x = c.prefix-item.result in
    let before = c.args.routes.now in
    let routes = c.loop-prefix.routes in
    let split = take_more xs i x c.loop-prefix-test.true
    ∙ ap (λ (y : Network). take i xs ++ y ∷ []) (sym c.prefix-item.is) in
    let renewed = c.in_ok-done.ensures.renewed (ap is_some c.in-Some.is) in
    record {
      ascend = renewed.ascending;
      halfway = λ old are. subst (λ (ps : List Network). AreHalfway old new root ps
          c.renew.new.routes) (sym split)
          (one_more old new root (take i xs) x routes c.renew.new.routes
          (c.loop-prefix.invariant.halfway old are) renewed);
      among = λ on r t.
          let each = and_parts _ _ (on) in
          c.loop-prefix.invariant.among each.0 r
          (c.in_ok-done.ensures.among (c.in-Some.is ∙ ap (λ (b : Bool). Some b) each.1) r t);
      another = λ off old are.
          subst (λ (ps : List Network). HasAnotherOf new root ps before) (sym split)
          (elim (and_cases _ _ (off)) [
            | inl was ↦ still_another old new root (take i xs) x before
                (c.loop-prefix.invariant.another was old are)
            | inr is ↦
                first_another old new root (take i xs) x before routes are
                (c.loop-prefix.invariant.halfway old are)
                (c.in_ok-done.ensures.another (c.in-Some.is ∙ ap (λ (b : Bool). Some b) is))
          ]);
    }

pub returns-clause-halfway : goal.returns-clause-halfway
returns-clause-halfway c t old are =
    subst (λ (ps : List Network). AreHalfway old (contents_at c.args.moment c.args.db.now.present)
    c.args.root.now ps c.loop-prefix.routes)
    (take_all c.loop-prefix.prefix-index c.args.prefixes.now
    (omega (arith, c.loop-prefix-test.false))) (c.loop-prefix.invariant.halfway old are)

pub returns-clause-among : goal.returns-clause-among
returns-clause-among c is = c.loop-prefix.invariant.among (same_Some _ _ is)

pub returns-clause-another : goal.returns-clause-another
returns-clause-another c is old are =
    let new = contents_at c.args.moment c.args.db.now.present in
    let root = c.args.root.now in
    let i = c.loop-prefix.prefix-index in
    let xs = c.args.prefixes.now in
    all_another old new root (take i xs) c.args.routes.now c.loop-prefix.routes
    (c.loop-prefix.invariant.halfway old are)
    (c.loop-prefix.invariant.another (same_Some _ _ is) old are)

pub returns-in_default-clause-halfway : goal.returns-in_default-clause-halfway
returns-in_default-clause-halfway c t old are = absurd cc

pub returns-in_default-clause-among : goal.returns-in_default-clause-among
returns-in_default-clause-among c is = absurd cc

pub returns-in_default-clause-another : goal.returns-in_default-clause-another
returns-in_default-clause-another c is old are = absurd cc
