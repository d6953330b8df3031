use Rattle.std.proofs.Common.{◌≡◌, ℕ, sym, subst, string_bytes, arith}
use Rattle.asm.specs.Listed.{Listed, Any}
use Rattle.asm.proofs.Ranges.{skip_step, bytes_line, bytes_end, filling, bytes_up_to}
use Rattle.asm.proofs.Lines.{range_written, skip_written, stack_written}
use Rattle.asm.proofs.writing.write_stack.Goals as goal

pub loop-start-preserved-then-contains : goal.loop-start-preserved-then-contains
loop-start-preserved-then-contains c = record {
  within = c.end_of_range-end.ensures.within;
  long = λ h. c.if-contains.ensures.are;
  listed = λ f slot rank kinds h. bytes_line (string_bytes c.loop-start.text)
      (string_bytes c.put.new.text) f slot rank kinds c.args.stack.now c.loop-start.start
      c.end_of_range-end.result c.if-contains.ensures.are
      c.end_of_range-end.ensures.further c.end_of_range-end.ensures.within
      (c.end_of_range-end.ensures.bytes (sym c.if-contains.ensures.value))
      c.in_ok-put.ensures.says (c.loop-start.invariant.listed f slot rank kinds h);
  text = range_written (string_bytes c.loop-start.text) (string_bytes c.put.new.text) _
      c.args.stack.now c.loop-start.start c.end_of_range-end.result c.if-contains.ensures.are
      c.end_of_range-end.ensures.further
      c.end_of_range-end.ensures.within
      (c.end_of_range-end.ensures.bytes (sym c.if-contains.ensures.value))
      c.end_of_range-end.ensures.longest c.in_ok-put.ensures.text
      c.loop-start.invariant.text;
}

pub loop-start-preserved : goal.loop-start-preserved
loop-start-preserved c = record {
  within = omega (arith, c.loop-start-test.true);
  long = λ h. c.if-contains.ensures.are;
  listed = λ f slot rank kinds h. skip_step (string_bytes c.loop-start.text) f slot rank kinds
      c.args.stack.now c.loop-start.start c.if-contains.ensures.are
      (omega (arith, c.loop-start-test.true))
      (sym c.if-contains.ensures.value) (c.loop-start.invariant.listed f slot rank kinds h);
  text = skip_written (string_bytes c.loop-start.text) _ c.args.stack.now c.loop-start.start
      c.if-contains.ensures.are (omega (arith, c.loop-start-test.true))
      (sym c.if-contains.ensures.value) c.loop-start.invariant.text;
}

pub returns-clause-says : goal.returns-clause-says
returns-clause-says c = λ f slot rank kinds h.
    let all : c.loop-start.start ≡ 512 =
    omega (arith, c.loop-start-test.false, c.loop-start.invariant.within) in
    bytes_end (string_bytes c.loop-start.text) f slot rank kinds c.args.stack.now
    (c.loop-start.invariant.long (omega (arith, all)))
    (subst (λ (n : ℕ). Listed (string_bytes c.loop-start.text)
    (filling f slot rank kinds (bytes_up_to c.args.stack.now n)) Any) all
    (c.loop-start.invariant.listed f slot rank kinds h))

pub returns-clause-text : goal.returns-clause-text
returns-clause-text c =
    let long = c.loop-start.invariant.long (omega (arith, c.loop-start-test.false)) in
    stack_written (string_bytes c.loop-start.text) _ c.args.stack.now c.loop-start.start
    (omega (arith, c.loop-start-test.false, long)) c.loop-start.invariant.text
