use Rattle.std.proofs.Common.{List, sym, ◌∙◌, ap, subst}
use Rattle.words.specs.declared.route.Route.{Route}
use Rattle.console.specs.Answers.{table_text}
use Rattle.operator.specs.Shown.{IsPartOf}
use Rattle.operator.proofs.lists.table.Goals as goal

pub returns : goal.returns
returns g c = (
  c.in_ok-offered.offered.candidates.items,
  c.in_ok-offered.offered.rows.items,
  c.in_ok-offered.ensures.offered,
  λ table part rows.
      let same = subst (λ (l : List Route). IsPartOf l table) (sym c.as_slice.ensures.value) part in
      let routes = c.in_ok-routes.ensures table same (c.as_slice-2.ensures.value ∙ rows) in
      c.in_ok-text.ensures ∙ ap table_text (c.deref.ensures.value ∙ routes),
)
