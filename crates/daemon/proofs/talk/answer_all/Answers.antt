use Rattle.std.proofs.Common.{◌∙◌}
use Rattle.daemon.proofs.Talked.{talked, talked_on}
use Rattle.daemon.proofs.talk.answer_all.Goals as goal

pub loop-preserved : goal.loop-preserved
loop-preserved g c = record {
  interfaces = c.obey_next.ensures.interfaces ∙ c.loop.invariant.interfaces;
  talking = talked_on _ _ _ _ _ c.loop.desk.interfaces _ _ _ _ c.in-Ok.ensures.answered.0 _ _
      c.loop.invariant.talking
      c.loop.invariant.interfaces c.in-Ok.ensures.answered.1 c.in-Ok.ensures.answered.2;
}

pub returns-in-Err : goal.returns-in-Err
returns-in-Err g c =
    talked _ _ _ _ _ _ c.loop.desk.interfaces _ _ _ _ _ _ _ c.loop.invariant.talking
    c.loop.invariant.interfaces c.in-Err.ensures.over
