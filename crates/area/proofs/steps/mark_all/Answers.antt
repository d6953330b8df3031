use Rattle.std.proofs.Common.{◌≡◌, ◌+◌, drop, get_or, map, sym, ap, ◌∙◌, arith}
use Rattle.std.proofs.lemmas.List.{get_or-map, length-map}
use Rattle.adjacency.specs.Drafts.{Drafted}
use Rattle.area.specs.Links.{draft_of}
use Rattle.area.specs.Steps.{key_of_update, keys_behind, mark_each}
use Rattle.area.proofs.Marked.{behind_end, behind_next, mark_each-append}
use Rattle.area.proofs.steps.mark_all.Goals as goal

pub loop-i-preserved : goal.loop-i-preserved
loop-i-preserved c =
    let cs = c.args.counts.now in
    let ls = c.args.links.now in
    let ds = map draft_of ls in
    let i = c.loop-i.i in
    let d = c.loop-i.database.present in
    let link = c.index-links-i.result in
    let moment = c.args.moment in
    let rest = keys_behind (drop (i + 1) cs) (drop (i + 1) ds) in
    let count = get_or cs i 0 in
    let here = map key_of_update (drop count (get_or ds i link.drafted).updates) in
    let there : link.drafted ≡ get_or ds i link.drafted =
    ap draft_of c.index-links-i.is
    ∙ sym (get_or-map draft_of ls i link link.drafted (omega (arith, c.loop-i-test.true))) in
    record {
      marks =
          ap (λ e. mark_each moment e rest)
          (c.in_ok-mark_behind.ensures.ok
          ∙ (λ j. mark_each moment d (map key_of_update (drop count (c.updates.ensures j))))
          ∙ ap (λ (e : Drafted). mark_each moment d (map key_of_update (drop count e.updates)))
          there)
          ∙ sym (mark_each-append moment here rest d)
          ∙ ap (mark_each moment d) (sym (behind_next cs ds i 0 link.drafted
          (omega (arith, c.loop-i-test.true, c.requires))
          (omega (arith, c.loop-i-test.true, length-map ls draft_of))))
          ∙ c.loop-i.invariant.marks;
      committed = c.in_ok-mark_behind.ensures.committed ∙ c.loop-i.invariant.committed;
      router = c.in_ok-mark_behind.ensures.router ∙ c.loop-i.invariant.router;
    }

pub returns : goal.returns
returns c = record {
  ok =
      ap (mark_each c.args.moment c.loop-i.database.present)
      (sym (behind_end c.args.counts.now (map draft_of c.args.links.now) c.loop-i.i
      (omega (arith, c.loop-i-test.false, c.loop-i.auto.i-end, c.requires))))
      ∙ c.loop-i.invariant.marks;
  committed = c.loop-i.invariant.committed;
  router = c.loop-i.invariant.router;
}
