use Rattle.std.proofs.Common.{string_bytes}
use Rattle.asm.proofs.Texts.{listed_object}
use Rattle.asm.proofs.Lines.{object_written}
use Rattle.asm.proofs.writing.write_object.Goals as goal

pub returns-clause-spells : goal.returns-clause-spells
returns-clause-spells c = listed_object (string_bytes c.write_statements.new.text) c.args.object.now
    c.args.code.now c.hook.result c.entry_rank.result c.statements.result.now c.hook.ensures.value
    c.entry_rank.ensures.value c.statements.ensures.value
    c.requires c.hook.ensures.is_object
    (λ are. c.in_ok-write_statements.ensures.says c.hook.result c.entry_rank.result c.args.code.now
    are (c.in_ok-write_code.ensures.says c.hook.result c.entry_rank.result
    c.in_ok-text.ensures.says))

pub returns-clause-lines : goal.returns-clause-lines
returns-clause-lines c = object_written (string_bytes c.in_ok-text.text)
    (string_bytes c.write_code.new.text) (string_bytes c.write_statements.new.text)
    c.args.object.now c.args.code.now
    c.hook.result c.entry_rank.result c.statements.result.now c.hook.ensures.value
    c.entry_rank.ensures.value c.statements.ensures.value
    c.in_ok-text.ensures.text c.in_ok-write_code.ensures.text c.in_ok-write_statements.ensures.text
