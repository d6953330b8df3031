use Rattle.std.proofs.Common.{◌∙◌, arith}
use Rattle.std.specs.Prelude.{Ok, Err}
use Rattle.asm.specs.Views.{sketch}
use Rattle.asm.proofs.Keeping.{keeps_at, keeps_end}
use Rattle.asm.proofs.Whole.{ascending}
use Rattle.asm.proofs.Places.{stepped, taken_end, refused_bad, refused_line, refused_whole}
use Rattle.asm.proofs.assembling.assemble.Goals as goal

pub returns-in_default-clause-spells : goal.returns-in_default-clause-spells
returns-in_default-clause-spells c =
    refused_bad c.args.text.now c.read_lines.new.lines.items c.read_lines.new.names.items
    c.at_line.result c.loop-at.at (sketch c.loop-at.draft) c.index.result.now
    (record {
      same = c.in_ok-read_lines.ensures.same;
      read = c.in_ok-read_lines.ensures.read;
    }) (omega arith) c.index.ensures c.in_default.is c.loop-at.invariant.so_far c.at_line.ensures

pub returns-in-Err-clause-spells : goal.returns-in-Err-clause-spells
returns-in-Err-clause-spells c = refused_line c.args.text.now c.read_lines.new.lines.items
    c.read_lines.new.names.items c.at_line-in-Err.result c.loop-at.at c.in-Err.kind _
    (record {
      same = c.in_ok-read_lines.ensures.same;
      read = c.in_ok-read_lines.ensures.read;
    }) c.at_line-in-Err.ensures c.in-Err.ensures
    (stepped c.read_lines.new.lines.items c.read_lines.new.names.items c.loop-at.at
    (sketch c.loop-at.draft) c.index.result.now c.in-Some.line c.index-in-loop-at.result.now
    c.deref.result.now c.deref-in-loop-at.result.now c.deref-2.result.now
    c.place_of-place.result (Err c.in-Err.kind) (omega arith) c.in_ok-read_lines.ensures.same
    c.index.ensures c.in-Some.is c.index-in-loop-at.ensures c.deref.ensures.value
    c.deref-2.ensures.value c.deref-in-loop-at.ensures.value
    (c.place_of-place.ensures ∙ c.in_ok-places.ensures c.index-in-loop-at.result.now.now)
    c.loop-at.invariant.so_far)

pub loop-at-preserved : goal.loop-at-preserved
loop-at-preserved c = record {
  so_far = stepped c.read_lines.new.lines.items c.read_lines.new.names.items c.loop-at.at
      (sketch c.loop-at.draft) c.index.result.now c.in-Some.line c.index-in-loop-at.result.now
      c.deref.result.now c.deref-in-loop-at.result.now c.deref-2.result.now
      c.place_of-place.result (Ok (sketch c.line.new.self)) (omega arith)
      c.in_ok-read_lines.ensures.same c.index.ensures c.in-Some.is c.index-in-loop-at.ensures
      c.deref.ensures.value c.deref-2.ensures.value c.deref-in-loop-at.ensures.value
      (c.place_of-place.ensures ∙ c.in_ok-places.ensures c.index-in-loop-at.result.now.now)
      c.loop-at.invariant.so_far c.in_default-line.ensures;
  lawful = keeps_at c.read_lines.new.lines.items c.deref-in-loop-at.result.now c.loop-at.at
      (sketch c.loop-at.draft) (sketch c.line.new.self) c.index.result.now c.in-Some.line
      c.place_of-place.result
      (omega arith) c.index.ensures c.in-Some.is c.deref-in-loop-at.ensures.value
      c.loop-at.invariant.lawful c.in_default-line.ensures;
}

pub returns-clause-spells : goal.returns-clause-spells
returns-clause-spells c = refused_whole c.args.text.now c.read_lines.new.lines.items
    c.read_lines.new.names.items c.at_line-in-Err-finish.result c.in-Err-finish.kind
    (sketch c.loop-at.draft)
    (record {
      same = c.in_ok-read_lines.ensures.same;
      read = c.in_ok-read_lines.ensures.read;
    }) c.at_line-in-Err-finish.ensures c.in-Err-finish.ensures
    (c.loop-at.invariant.so_far ∙ taken_end _ c.loop-at.at c.loop-at.at c.read_lines.new.lines.items
    _ (sketch c.loop-at.draft) (omega arith))

pub line-requires : goal.line-requires
line-requires c = ascending (sketch c.loop-at.draft) _ c.loop-at.invariant.lawful

pub finish-requires : goal.finish-requires
finish-requires c = keeps_end c.read_lines.new.lines.items c.loop-at.at (sketch c.loop-at.draft)
    (omega arith) c.loop-at.invariant.lawful
