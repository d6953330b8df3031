use Rattle.std.proofs.Common.{◌≡◌, ◌∙◌, List, length, ap, sym, subst}
use Rattle.std.specs.Prelude.{slice_set}
use Rattle.std.specs.List.{remove}
use Rattle.std.proofs.lemmas.Result.{on_ok_weaker}
use Rattle.keyed_map.specs.Places.{IsThere, joined}
use Rattle.keyed_map.proofs.Joined.{removed, removed_page}
use Rattle.keyed_map.proofs.pages.remove_at.Goals as goal

pub returns-then-page-eq1-clause-ok : goal.returns-then-page-eq1-clause-ok
returns-then-page-eq1-clause-ok g c =
    let X = g.row.T.Denot in
    let pages : List (List X) = c.args.pages.now.items in
    let at = c.args.at in
    let index = c.in-Some.index in
    let within = c.in-Some.within in
    let there = subst (λ (ps : List (List X)). IsThere ps at index within) c.deref.ensures.value
    c.in-Some.ensures in
    let one : length c.index.result.now ≡ 1 =
    ap length (sym c.as_slice-page.ensures) ∙ c.if-page-eq1.true in
    ap (λ (t : List (List X)). joined t) c.remove-gone.ensures.items
    ∙ removed_page pages at index within there c.index.result.now c.index.ensures one

pub returns-clause-ok : goal.returns-clause-ok
returns-clause-ok g c =
    let X = g.row.T.Denot in
    let pages : List (List X) = c.args.pages.now.items in
    let at = c.args.at in
    let index = c.in-Some.index in
    let within = c.in-Some.within in
    let there = subst (λ (ps : List (List X)). IsThere ps at index within) c.deref.ensures.value
    c.in-Some.ensures in
    let items : c.in_ok-items.items.items ≡ remove c.index.result.now within =
    c.in_ok-items.ensures ∙ ap (λ (p : List X). remove p within) c.as_slice-page.ensures in
    on_ok_weaker c.set_page.result
    (λ put. ap (λ (t : List (List X)). joined t) put
    ∙ ap (λ (p : List X). joined (slice_set pages index p)) items
    ∙ removed pages at index within there c.index.result.now c.index.ensures)
    c.set_page.ensures.ok
