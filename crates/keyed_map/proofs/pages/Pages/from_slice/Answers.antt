use Rattle.std.proofs.Common.{◌≡◌, ◌∙◌, ◌+◌, ◌-◌, List, ap, take, drop, arith}
use Rattle.keyed_map.specs.Places.{joined}
use Rattle.keyed_map.proofs.Joined.{joined_next}
use Rattle.keyed_map.proofs.pages.Pages.from_slice.Goals as goal

pub loop-done-preserved : goal.loop-done-preserved
loop-done-preserved g c =
    let items : List g.row.T.Denot = c.args.items.now in
    let page : List g.row.T.Denot = c.in_ok-page.page.items in
    let done = c.loop-done.done in
    let count = c.min-count.result in
    let few : done + count - done ≡ count = omega arith in record {
      within = omega (arith, c.min-count.ensures, c.loop-done.invariant.within);
      made =
          ap (λ (t : List (List g.row.T.Denot)). joined t) c.in_ok-push_page.ensures.ok
          ∙ joined_next c.loop-done.pages.items page items done count c.loop-done.invariant.made
          (c.in_ok-page.ensures.items ∙ ap (λ n. take n (drop done items)) few);
    }
