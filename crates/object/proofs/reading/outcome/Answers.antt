use Rattle.std.proofs.Common.{refl, sym, subst}
use Rattle.object.specs.Objects.{ObjectParts}
use Rattle.object.specs.Spelling.{Spells}
use Rattle.object.proofs.Whole.{read_of, read_object, read_spells, cut_fails}
use Rattle.object.proofs.reading.outcome.Goals as goal

pub from_parts-requires : goal.from_parts-requires
from_parts-requires c =
    let made : ObjectParts = record {
      hook = c.in-Ok.found.0;
      entry_rank = c.in-Ok.found.1.entry_rank;
      code = c.in-Ok-from_slice.code.items;
      statements = c.in-Ok-statements.statements.items;
    } in
    read_object c.args.bytes.now c.in-Ok.found.1 made
    (read_of c.args.bytes.now c.in-Ok.found.1 made c.from-count.result c.in-Ok.ensures.found
    c.from-count.ensures
    c.if-bytes-start.false c.if-bytes-start-2.false refl c.in-Ok-from_slice.ensures.items
    c.in-Ok-statements.ensures.found)

pub returns-in-Ok-statements-clause-found : goal.returns-in-Ok-statements-clause-found
returns-in-Ok-statements-clause-found c =
    let made : ObjectParts = record {
      hook = c.in-Ok.found.0;
      entry_rank = c.in-Ok.found.1.entry_rank;
      code = c.in-Ok-from_slice.code.items;
      statements = c.in-Ok-statements.statements.items;
    } in
    let P : ObjectParts → Type 0 = λ o. Spells c.args.bytes.now o in
    subst P (sym c.from_parts.ensures)
    (read_spells c.args.bytes.now c.in-Ok.found.1 made
    (read_of c.args.bytes.now c.in-Ok.found.1 made c.from-count.result c.in-Ok.ensures.found
    c.from-count.ensures
    c.if-bytes-start.false c.if-bytes-start-2.false refl c.in-Ok-from_slice.ensures.items
    c.in-Ok-statements.ensures.found))

pub returns-in-Err-statements-clause-why : goal.returns-in-Err-statements-clause-why
returns-in-Err-statements-clause-why c =
    cut_fails c.args.bytes.now c.in-Ok.found.1 c.in-Ok.found.0 c.from-count.result
    c.in-Err-statements.e c.in-Ok.ensures.found c.from-count.ensures c.if-bytes-start.false
    c.if-bytes-start-2.false c.in-Err-statements.ensures.why

pub returns-in_default-clause-why : goal.returns-in_default-clause-why
returns-in_default-clause-why c =
    cut_fails c.args.bytes.now c.in-Ok.found.1 c.in-Ok.found.0 c.from-count.result
    c.want_of_memory.result c.in-Ok.ensures.found c.from-count.ensures c.if-bytes-start.false
    c.if-bytes-start-2.false c.want_of_memory.ensures
