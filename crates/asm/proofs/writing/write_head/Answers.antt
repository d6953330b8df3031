use Rattle.asm.proofs.Pushed.{head}
use Rattle.asm.proofs.Lines.{head_written}
use Rattle.asm.proofs.writing.write_head.Goals as goal

pub returns-clause-says : goal.returns-clause-says
returns-clause-says c = head _ _ _ c.args.hook c.args.entry_rank c.number.result
    c.new-text.ensures.bytes c.number.ensures c.ranges.entry_rank.fits c.in_ok-put.ensures.says
    c.in_ok-put-2.ensures.says

pub returns-clause-text : goal.returns-clause-text
returns-clause-text c = head_written _ _ _ c.args.hook c.args.entry_rank c.number.result
    c.new-text.ensures.bytes c.number.ensures c.in_ok-put.ensures.text c.in_ok-put-2.ensures.text
