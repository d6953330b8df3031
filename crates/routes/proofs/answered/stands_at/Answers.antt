use Rattle.std.proofs.Common.{◌≡◌, ℕ, Some, length, refl, ap, true, false, ◌∙◌}
use Rattle.std.proofs.lemmas.Option.{slice_get_read}
use Rattle.words.specs.declared.route.Route.{Route}
use Rattle.routes.proofs.answered.stands_at.Goals as goal

pub returns-then-is_of : goal.returns-then-is_of
returns-then-is_of c t =
    let answers = c.args.answers.now in
    let at = c.args.at in
    let answer : Route × ℕ = c.index-answers-at.result in
    let same : answer.0 ≡ c.args.route.now = c.is_of.ensures.0 c.if-is_of.true in (
      answer.1,
      slice_get_read answers (length answers) at answer refl c.if-at-answers.true
          c.index-answers-at.is ∙ ap (λ (r : Route). Some (r, answer.1)) same,
    )

pub returns : goal.returns
returns c t = absurd (let no : false ≡ true = t in cc)
