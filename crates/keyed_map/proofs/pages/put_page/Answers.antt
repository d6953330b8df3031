use Rattle.std.proofs.Common.{◌≡◌, ◌∙◌, ◌/◌, ◌++◌, List, ap, drop, take}
use Rattle.std.specs.Prelude.{slice_set}
use Rattle.std.proofs.lemmas.List.{take-append-drop, take_rest}
use Rattle.keyed_map.specs.Places.{joined}
use Rattle.keyed_map.proofs.Joined.{two_there}
use Rattle.keyed_map.proofs.pages.put_page.Goals as goal

pub returns-clause-ok : goal.returns-clause-ok
returns-clause-ok g c =
    let X = g.row.T.Denot in
    let pages : List (List X) = c.args.pages.now.items in
    let index = c.args.index in
    let items : List X = c.args.items.items in
    let half = c.len-half.result / 2 in
    let first : List X = c.in_ok-first.first in
    let second : List X = c.in_ok-second.second in
    let is_first : first ≡ take half items =
    c.in_ok-first.ensures ∙ c.in_ok-from_slice.ensures.items
    ∙ ap (λ (t : List X). take half t) c.deref.ensures.value in
    let is_second : second ≡ drop half items =
    c.in_ok-second.ensures ∙ c.in_ok-from_slice-2.ensures.items
    ∙ take_rest c.deref-2.result.now half
    ∙ ap (λ (t : List X). drop half t) c.deref-2.ensures.value in
    ap (λ (t : List (List X)). joined (slice_set t index first)) c.in_ok-insert.ensures.items
    ∙ two_there pages index first second c.requires
    ∙ ap (λ (t : List X). joined (slice_set pages index t))
    ((λ i. is_first i ++ is_second i) ∙ take-append-drop half items)
