use Rattle.std.proofs.Common.{◌≡◌, ◌≤◌, ◌*◌, drop}
use Rattle.asm.specs.Words.{Word}
use Rattle.asm.specs.LineViews.{views}
use Rattle.asm.specs.Assembling.{place_from}
use Rattle.asm.specs.Labels.{place_in, ◌or_else◌}
use Rattle.asm.proofs.labels.places_of.Given as goal

-- the table has the labels of the lines so far
abbrev pub invariant-loop-at : goal.invariant-loop-at
invariant-loop-at l = record {
  looks_on : (word : Word) → place_from 0 0 l.lines (views l.names) word
      ≡ place_in l.places word or_else place_from l.at l.slot (drop l.at l.lines)
      (views (drop l.at l.names)) word;
  few : l.slot ≤ 2 * l.at;
}
