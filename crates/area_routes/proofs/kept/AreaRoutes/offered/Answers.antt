use Rattle.std.proofs.Common.{◌∙◌, ap, subst, sym}
use Rattle.std.specs.Prelude.{List}
use Rattle.words.specs.declared.route.Route.{Route}
use Rattle.area_routes.specs.Offers.{root_by}
use Rattle.routes.specs.Candidates.{AreCandidates}
use Rattle.routes.specs.Contents.{contents_at}
use Rattle.routes.specs.Rows.{rows_of}
use Rattle.area_routes.proofs.kept.AreaRoutes.offered.Goals as goal

pub returns : goal.returns
returns c =
    let contents = contents_at c.args.moment c.args.area.now.present.database in
    let root = root_by c.args.router c.args.area.now.present.links in
    let whole = c.in_ok-candidates.ensures in
    record {
      are_candidates = subst (λ (xs : List Route). AreCandidates contents root xs)
          (sym whole) c.in_ok-shared.ensures;
      table = c.in_ok-table.table.items;
      is_table = c.in_ok-table.ensures contents root
          (subst (λ (xs : List Route). AreCandidates contents root xs)
          (sym (c.deref.ensures.value ∙ whole)) c.in_ok-shared.ensures);
      are_rows = c.in_ok-rows.ensures ∙ ap rows_of c.deref-2.ensures.value;
    }
