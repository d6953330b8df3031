use Rattle.std.proofs.Common.{◌≡◌, ◌++◌, ℕ, List, length, map, drop, ◌≤◌, ◌-◌, string_bytes}
use Rattle.object.specs.declared.kind.StatedKind.{StatedKind}
use Rattle.object.specs.declared.rank.Rank.{Rank}
use Rattle.object.specs.Sets.{no_bytes}
use Rattle.asm.specs.Listed.{Listed, Any, Front}
use Rattle.asm.specs.Listing.{text_of, bytes_line, longest_ranges}
use Rattle.asm.proofs.Ranges.{filling, bytes_up_to}
use Rattle.asm.proofs.writing.write_stack.Given as goal

-- the ranges so far are listed; with those still to come they make the whole
abbrev pub invariant-loop-start : goal.invariant-loop-start
invariant-loop-start l = record {
  within : l.start ≤ 512;
  long : 1 ≤ l.start → length l.stack ≡ 512;
  listed : (f : Front) (slot : ℕ) (rank : Rank) (kinds : List StatedKind)
      → Listed (string_bytes l.fn.text) (filling f slot rank kinds no_bytes) Any
      → Listed (string_bytes l.text) (filling f slot rank kinds (bytes_up_to l.stack l.start))
      Any;
  text : string_bytes l.text ++ text_of
      (map bytes_line (longest_ranges l.start (drop l.start l.stack))) ≡ string_bytes l.fn.text
      ++ text_of (map bytes_line (longest_ranges 0 l.stack));
}

abbrev pub decreases-loop-start : goal.decreases-loop-start
decreases-loop-start l = 512 - l.start
