use Rattle.std.proofs.Common.{◌≡◌, ℕ, rules, refl, sym, ◌∙◌, ap, true, false}
use Rattle.std.specs.Prelude.{is_ok}
use Rattle.std.proofs.lemmas.Fn.{always_returns_same}
use Rattle.words.specs.declared.route.Route.{Route}
use Rattle.routes.proofs.Listed.{other_default}
use Rattle.routes.specs.Orders.{route_cmp}
use Rattle.routes.proofs.Halving.{tells_answered}
use Rattle.routes.proofs.lookups.is_answered.Goals as goal

pub returns-in-Ok : goal.returns-in-Ok
returns-in-Ok c =
    let at = c.binary_search_by.ensures.position (λ (y : Route × ℕ). route_cmp y.0 c.args.route.now)
    (always_returns_same _ (λ a r. r ≡ route_cmp a.0.now.0 c.args.route.now) _
    (λ a r q k. search rules)) in
    let both = tells_answered c.args.answers.now c.args.route.now c.requires
    c.binary_search_by.result c.binary_search_by.ensures.bound at in
    (λ t. both.0 (ap is_ok c.in-Ok.is), λ h. refl)

pub returns-in-Err : goal.returns-in-Err
returns-in-Err c =
    let at = c.binary_search_by.ensures.position (λ (y : Route × ℕ). route_cmp y.0 c.args.route.now)
    (always_returns_same _ (λ a r. r ≡ route_cmp a.0.now.0 c.args.route.now) _
    (λ a r q k. search rules)) in
    let both = tells_answered c.args.answers.now c.args.route.now c.requires
    c.binary_search_by.result c.binary_search_by.ensures.bound at in
    (λ t. absurd (let no : false ≡ true = t in cc), λ h. sym (ap is_ok c.in-Err.is) ∙ both.1 h)

pub returns-then-is_of : goal.returns-then-is_of
returns-then-is_of c =
    let answers = c.args.answers.now in
    let at = c.args.next in
    let answer = c.index-answers-next.result in
    let within = c.if-next-answers.true in
    let same : answer.0 ≡ c.args.route.now = c.is_of.ensures.0 c.if-is_of.true in
    let here = other_default answers at (c.args.route.now, answer.1) answer within
    ∙ sym c.index-answers-next.is in
    (λ t. (answer.1, (at, within, here ∙ ap (λ (r : Route). (r, answer.1)) same)), λ h. refl)
