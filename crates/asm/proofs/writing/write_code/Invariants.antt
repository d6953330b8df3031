use Rattle.std.proofs.Common.{◌≡◌, ◌++◌, ℕ, [], drop, string_bytes}
use Rattle.std.specs.List.{flat_map}
use Rattle.isa.specs.declared.hook.Hook.{Hook}
use Rattle.asm.specs.Listed.{Listed, Any, code_sketch}
use Rattle.asm.specs.Listing.{text_of, slot_lines}
use Rattle.asm.proofs.Codes.{CodeSoFar}
use Rattle.asm.proofs.writing.write_code.Given as goal

-- the instructions so far are listed; with those still to come they make the whole
abbrev pub invariant-loop-slot : goal.invariant-loop-slot
invariant-loop-slot l = record {
  says : (hook : Hook) (rank : ℕ) → Listed (string_bytes l.fn.text) (code_sketch hook rank []) Any
      → CodeSoFar (string_bytes l.text) hook rank l.code l.slot-index;
  text : string_bytes l.text ++ text_of (flat_map slot_lines (drop l.slot-index l.code))
      ≡ string_bytes l.fn.text ++ text_of (flat_map slot_lines l.code);
}
