use Rattle.std.proofs.Common.{inl, inr}
use Rattle.routes.specs.Contents.{contents_at}
use Rattle.kept_routes.proofs.Best.{best_is_for}
use Rattle.kept_routes.proofs.follow.renew_by.Goals as goal

pub place-requires-clause-its : goal.place-requires-clause-its
place-requires-clause-its c = best_is_for (contents_at c.args.moment c.args.db.now.present)
    c.args.root.now c.args.prefix c.in_ok-best.best c.in_ok-best.ensures

pub returns-clause-renewed : goal.returns-clause-renewed
returns-clause-renewed c = record {
  each = λ r. (
    (λ t.
        elim ((c.in_ok-stood.ensures.placed.each r).0 t) [
          | inl p ↦ inl p
          | inr e ↦ inr ((c.in_ok-best.ensures r).0 e)
        ]),
    (λ k.
        elim k [
          | inl p ↦ (c.in_ok-stood.ensures.placed.each r).1 (inl p)
          | inr p ↦ (c.in_ok-stood.ensures.placed.each r).1 (inr ((c.in_ok-best.ensures r).1 p))
        ]),
  );
  ascending = c.in_ok-stood.ensures.placed.ascending;
}

pub returns-clause-among : goal.returns-clause-among
returns-clause-among c on r t =
    elim ((c.in_ok-stood.ensures.placed.each r).0 t) [
      | inl p ↦ p.0
      | inr e ↦ c.in_ok-stood.ensures.stood on r e
    ]

pub returns-clause-another : goal.returns-clause-another
returns-clause-another c off =
    let it = c.in_ok-stood.ensures.another off in
    let its = (c.in_ok-best.ensures it.0).0 it.1 in
    (it.0, its.0, its.1, it.2)
