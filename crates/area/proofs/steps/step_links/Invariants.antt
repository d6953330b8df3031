use Rattle.std.proofs.Common.{◌≡◌, map}
use Rattle.area.specs.Links.{committed_link, draft_of, present}
use Rattle.area.proofs.Changes.{Steps}
use Rattle.area.proofs.steps.step_links.Given as goal

abbrev pub invariant-loop-i : goal.invariant-loop-i
invariant-loop-i g l = record {
  steps : Steps (g.S.LinkStep.after l.step l.database.present)
      (g.S.LinkStep.sends l.step l.database.present) l.i l.links (map present l.fn.links)
      (map draft_of l.fn.links);
  committed : map committed_link l.links ≡ map committed_link l.fn.links;
}
