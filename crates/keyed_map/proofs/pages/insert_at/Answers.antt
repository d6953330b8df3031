use Rattle.std.proofs.Common.{◌≡◌, ◌∙◌, List, ap, subst}
use Rattle.std.specs.Prelude.{slice_set}
use Rattle.std.specs.List.{insert}
use Rattle.std.proofs.lemmas.Result.{on_ok_weaker}
use Rattle.keyed_map.specs.Places.{IsPlace, joined}
use Rattle.keyed_map.proofs.Joined.{inserted}
use Rattle.keyed_map.proofs.pages.insert_at.Goals as goal

pub returns-clause-ok : goal.returns-clause-ok
returns-clause-ok g c =
    let X = g.row.T.Denot in
    let pages : List (List X) = c.args.pages.now.items in
    let at = c.args.at in
    let index = c.gap_of-index.result.0 in
    let within = c.gap_of-index.result.1 in
    let place = subst (λ (ps : List (List X)). IsPlace ps at index within) c.deref.ensures.value
    c.gap_of-index.ensures in
    let items : c.in_ok-items-2.items.items ≡ insert c.index.result.now within c.args.item =
    c.in_ok-items-2.ensures ∙ ap (λ (p : List X). insert p within c.args.item) c.as_slice.ensures in
    on_ok_weaker c.put_page.result
    (λ put. put ∙ ap (λ (p : List X). joined (slice_set pages index p)) items
    ∙ inserted pages at index within place c.index.result.now c.index.ensures c.args.item)
    c.put_page.ensures.ok
