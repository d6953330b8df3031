use Rattle.std.proofs.Common.{◌≡◌, ◌++◌, ℕ, List, length, take, drop, string_bytes}
use Rattle.std.specs.List.{flat_map}
use Rattle.isa.specs.declared.hook.Hook.{Hook}
use Rattle.isa.specs.declared.code.Slot.{Slot}
use Rattle.object.specs.Objects.{AreStatements}
use Rattle.asm.specs.Listed.{Listed, ListedAll, Any, code_sketch}
use Rattle.asm.specs.Listing.{text_of, statement_lines}
use Rattle.asm.proofs.writing.write_statements.Given as goal

-- the statements so far are listed; with those still to come they make the whole
abbrev pub invariant-loop-statement : goal.invariant-loop-statement
invariant-loop-statement l = record {
  says : (hook : Hook) (rank : ℕ) (code : List Slot) → AreStatements 0 (length code) l.statements
      → Listed (string_bytes l.fn.text) (code_sketch hook rank code) Any
      → ListedAll (string_bytes l.text) hook rank code (take l.statement-index l.statements);
  text : string_bytes l.text ++ text_of
      (flat_map statement_lines (drop l.statement-index l.statements)) ≡ string_bytes l.fn.text
      ++ text_of (flat_map statement_lines l.statements);
}
