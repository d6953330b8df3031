use Rattle.std.proofs.Common.{ℕ, string_bytes, ap, ◌∙◌}
use Rattle.asm.specs.declared.numeral.Numeral.TheVariants as numerals
use Rattle.asm.proofs.States.{statement_listed}
use Rattle.asm.proofs.Lines.{statement_written}
use Rattle.asm.proofs.writing.write_statement.Goals as goal

pub returns-clause-says : goal.returns-clause-says
returns-clause-says c = λ f last within order h.
    statement_listed (string_bytes c.args.text.now) (string_bytes c.put.new.text)
    (string_bytes c.write_kinds.new.text) (string_bytes c.write_stack.new.text) f last
    c.args.statement.now
    c.number.result c.number-2.result c.terms_of.result c.rank-rank.result c.kinds.result.now
    c.stack.result.now c.rank-rank.ensures.value c.kinds.ensures.value c.stack.ensures.value
    (c.number.ensures ∙ ap (λ (n : ℕ). numerals.Natural n) c.slot.ensures.value) c.number-2.ensures
    c.rank-rank.ensures.is_statement within order c.terms_of.ensures.again
    c.in_ok-put.ensures.says c.in_ok-write_kinds.ensures.says c.in_ok-write_stack.ensures.says h

pub returns-clause-text : goal.returns-clause-text
returns-clause-text c = statement_written (string_bytes c.args.text.now)
    (string_bytes c.put.new.text) (string_bytes c.write_kinds.new.text)
    (string_bytes c.write_stack.new.text) c.args.statement.now
    c.number.result c.number-2.result c.terms_of.result c.rank-rank.result c.kinds.result.now
    c.stack.result.now c.rank-rank.ensures.value c.kinds.ensures.value c.stack.ensures.value
    (c.number.ensures ∙ ap (λ (n : ℕ). numerals.Natural n) c.slot.ensures.value) c.number-2.ensures
    c.terms_of.ensures.line
    c.in_ok-put.ensures.text c.in_ok-write_kinds.ensures.text c.in_ok-write_stack.ensures.text
