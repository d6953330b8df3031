use Rattle.std.proofs.Common.{◌≡◌, ◌++◌, ℕ, Some, drop, string_bytes}
use Rattle.object.specs.declared.rank.Rank.{Rank}
use Rattle.asm.specs.Assembling.{bare}
use Rattle.asm.specs.Listed.{Listed, Front, sketch_of, AreStated}
use Rattle.asm.specs.Listing.{text_of, with_lines}
use Rattle.asm.proofs.Registers.{stating, kinds_up_to}
use Rattle.asm.proofs.writing.write_kinds.Given as goal

-- what the registers so far hold is listed; with what is still to come it makes the whole
abbrev pub invariant-loop-index : goal.invariant-loop-index
invariant-loop-index l = record {
  says : (f : Front) (slot : ℕ) (rank : Rank)
      → Listed (string_bytes l.fn.text) (sketch_of f (Some (bare slot rank))) (AreStated l.kinds 0)
      → Listed (string_bytes l.text) (stating f slot rank (kinds_up_to l.kinds l.index))
      (AreStated l.kinds l.index);
  text : string_bytes l.text ++ text_of (with_lines l.index (drop l.index l.kinds))
      ≡ string_bytes l.fn.text ++ text_of (with_lines 0 l.kinds);
}
