use Rattle.std.proofs.Common.{◌≡◌, true, false, sym, ◌∙◌}
use Rattle.kept_routes.proofs.Best.{just_its, lies}
use Rattle.kept_routes.proofs.destination.external_to.Goals as goal

pub returns-then-not-lies_under : goal.returns-then-not-lies_under
returns-then-not-lies_under c x k =
    let under = c.lies_under.ensures.1
    (lies c.args.root.now c.args.inner.now c.args.prefix (c.args.key.now, k.says) x k.offers) in
    let no : true ≡ false = sym under ∙ c.if-not-lies_under.true in
    absurd cc

pub returns-in-None : goal.returns-in-None
returns-in-None c x k = absurd (let no = c.in-None.ensures ∙ k.its in cc)

pub returns-in-Some : goal.returns-in-Some
returns-in-Some c =
    just_its c.args.moment c.args.db.now.present c.args.root.now c.args.inner.now c.args.prefix
    c.args.key.now c.in-Some.lsa_body.now c.offer_to.result (sym c.in-Some.ensures)
    c.offer_to.ensures
