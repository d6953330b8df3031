use Rattle.std.proofs.Common.{◌≡◌, ◌∙◌, ◌++◌, List, length, sym, ap, take, arith}
use Rattle.std.proofs.Math.Seq.{take-length}
use Rattle.keyed_map.specs.Places.{joined}
use Rattle.keyed_map.proofs.Joined.{joined_more}
use Rattle.keyed_map.proofs.pages.Pages.to_vec.Goals as goal

pub loop-page-init : goal.loop-page-init
loop-page-init g c = c.in_ok-items.ensures.items

pub loop-page-preserved : goal.loop-page-preserved
loop-page-preserved g c =
    let pages = c.deref-page-items.result.now in
    let page : List g.row.T.Denot = c.page-item.result in
    c.in_ok-extend_from_slice.ensures.items
    ∙ (λ i. c.loop-page.invariant i ++ c.as_slice.ensures i)
    ∙ ap (λ p. joined (take c.loop-page.page-index pages) ++ p) c.page-item.is
    ∙ sym (joined_more pages c.loop-page.page-index page c.loop-page-test.true)

pub returns : goal.returns
returns g c =
    let pages : List (List g.row.T.Denot) = c.deref-page-items.result.now in
    let all : c.loop-page.page-index ≡ length pages =
    omega (arith, c.loop-page-test.false, c.loop-page.auto.page-index-end) in
    c.loop-page.invariant ∙ ap (λ n. joined (take n pages)) all
    ∙ ap (λ (t : List (List g.row.T.Denot)). joined t)
    (take-length pages ∙ c.deref-page-items.ensures.value) ∙ c.self.view_is
