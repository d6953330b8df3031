-- What contracts see of the assembler's values.
use Rattle.std.specs.Prelude.{map, option_map}
use Rattle.object.specs.Statements.{StatementParts}
use Rattle.asm.specs.declared.statements.OpenStatement.{OpenStatement}
use Rattle.asm.specs.declared.assembling.Draft.{Draft}
use Rattle.asm.specs.Assembling.{Sketch}

abbrev pub parts_of : OpenStatement → StatementParts
parts_of o = record { slot = o.slot; rank = o.rank; kinds = o.kinds; stack = o.stack }

abbrev pub sketch : Draft → Sketch
sketch d =
    record {
      hook = d.hook;
      rank = d.rank;
      code = d.code;
      before = map parts_of d.before.items;
      last = option_map parts_of d.open;
    }
