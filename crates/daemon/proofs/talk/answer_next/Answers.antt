use Rattle.daemon.specs.declared.lines.Given.TheVariants.{Line}
use Rattle.daemon.proofs.talk.answer_next.Goals as goal

pub returns-in-Line-clause-replied : goal.returns-in-Line-clause-replied
returns-in-Line-clause-replied g c = record {
  gave = Line c.in-Line.line;
  is_given = c.in-Line.ensures;
  is_reply = (c.obey.result, rw c.as_str.ensures.value at c.obey.ensures.told, c.reply_of.ensures);
}
