use Rattle.std.proofs.Common.{◌≡◌, ℕ, rules, refl, sym, ◌∙◌, ap, true, false}
use Rattle.std.specs.Prelude.{is_ok}
use Rattle.std.proofs.lemmas.Fn.{always_returns_same}
use Rattle.words.specs.declared.route.Route.{Route}
use Rattle.routes.specs.Orders.{answer_cmp}
use Rattle.routes.proofs.Halving.{lets_in}
use Rattle.routes.proofs.lookups.is_let_in.Goals as goal

pub returns-in-Ok : goal.returns-in-Ok
returns-in-Ok c =
    let at = c.binary_search_by.ensures.position
    (λ (y : Route × ℕ). answer_cmp y (c.args.route.now, 0))
    (always_returns_same _ (λ a r. r ≡ answer_cmp a.0.now (c.args.route.now, 0)) _
    (λ a r q k. search rules)) in
    let both = lets_in c.args.answers.now c.args.route.now c.requires c.binary_search_by.result
    c.binary_search_by.ensures.bound at in
    (λ t. both.0 (ap is_ok c.in-Ok.is), λ h. refl)

pub returns-in-Err : goal.returns-in-Err
returns-in-Err c =
    let at = c.binary_search_by.ensures.position
    (λ (y : Route × ℕ). answer_cmp y (c.args.route.now, 0))
    (always_returns_same _ (λ a r. r ≡ answer_cmp a.0.now (c.args.route.now, 0)) _
    (λ a r q k. search rules)) in
    let both = lets_in c.args.answers.now c.args.route.now c.requires c.binary_search_by.result
    c.binary_search_by.ensures.bound at in
    (λ t. absurd (let no : false ≡ true = t in cc), λ h. sym (ap is_ok c.in-Err.is) ∙ both.1 h)
