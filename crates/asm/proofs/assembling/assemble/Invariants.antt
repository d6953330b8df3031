use Rattle.std.proofs.Common.{◌≡◌, drop}
use Rattle.asm.specs.LineViews.{views}
use Rattle.asm.specs.Assembling.{taken_all, take_lines, place_from}
use Rattle.asm.specs.Lawful.{IsLawful}
use Rattle.asm.specs.Views.{sketch}
use Rattle.asm.proofs.assembling.assemble.Given as goal

-- no line so far is bad, and those that follow may make an object of them
abbrev pub invariant-loop-at : goal.invariant-loop-at
invariant-loop-at l = record {
  so_far : taken_all l.lines.items (views l.names.items)
      ≡ take_lines (place_from 0 0 l.lines.items (views l.names.items)) l.at
      (drop l.at l.lines.items) (views (drop l.at l.names.items)) (sketch l.draft);
  lawful : IsLawful (drop l.at l.lines.items) (sketch l.draft);
}
