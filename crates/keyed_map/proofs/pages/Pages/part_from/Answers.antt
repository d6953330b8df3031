use Rattle.std.proofs.Common.{◌∙◌, ◌-◌, List, ap, drop, length, subst, sym, take}
use Rattle.std.proofs.lemmas.List.{take_rest}
use Rattle.keyed_map.specs.Places.{IsPartFrom, IsThere, joined}
use Rattle.keyed_map.proofs.Joined.{part_there}
use Rattle.keyed_map.proofs.pages.Pages.part_from.Goals as goal

pub returns-in-Some : goal.returns-in-Some
returns-in-Some g c =
    let X = g.row.T.Denot in
    let pages : List (List X) = c.self.inside.pages.items in
    let page : List X = c.index.result.now in
    let at = c.args.at in
    let index = c.in-Some.index in
    let within = c.in-Some.within in
    let there = subst (λ (ps : List (List X)). IsThere ps at index within) c.deref.ensures.value
    c.in-Some.ensures in
    let part = part_there pages at index within there page c.index.ensures in
    let now : List X = c.as_slice.result.now in
    subst (λ (items : List X). IsPartFrom items at (take (length now - within) (drop within now)))
    c.self.view_is
    (subst (λ (p : List X). IsPartFrom (joined pages) at p)
    (ap (λ (p : List X). drop within p) (sym c.as_slice.ensures)
    ∙ sym (take_rest now within)) part)
