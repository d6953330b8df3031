use Rattle.std.proofs.Common.{◌≡◌, ◌∙◌, List, ap, subst}
use Rattle.std.specs.Prelude.{slice_set}
use Rattle.std.proofs.lemmas.Result.{on_ok_weaker}
use Rattle.keyed_map.specs.Places.{IsThere, joined}
use Rattle.keyed_map.proofs.Joined.{replaced}
use Rattle.keyed_map.proofs.pages.replace_at.Goals as goal

pub returns-clause-ok : goal.returns-clause-ok
returns-clause-ok g c =
    let X = g.row.T.Denot in
    let pages : List (List X) = c.args.pages.now.items in
    let at = c.args.at in
    let index = c.in-Some.index in
    let within = c.in-Some.within in
    let there = subst (λ (ps : List (List X)). IsThere ps at index within) c.deref.ensures.value
    c.in-Some.ensures in
    let items : c.in_ok-items.items.items ≡ slice_set c.index.result.now within c.args.item =
    c.in_ok-items.ensures ∙ ap (λ (p : List X). slice_set p within c.args.item) c.as_slice.ensures
    in
    on_ok_weaker c.set_page.result
    (λ put. ap (λ (t : List (List X)). joined t) put
    ∙ ap (λ (p : List X). joined (slice_set pages index p)) items
    ∙ replaced pages at index within there c.index.result.now c.index.ensures c.args.item)
    c.set_page.ensures.ok
