use Rattle.clap.specs.Matches.{found_of}
use Rattle.clap.specs.Walk.{Text, rows_of}
use Rattle.std.proofs.Common.{Option, subst}
use Rattle.hooktool_trials.proofs.Questioned.{HasPacket, no_lists}
use Rattle.hooktool_trials.proofs.requests.question_of.Goals as goal

pub returns-in-Err : goal.returns-in-Err
returns-in-Err c = λ question q. c.in-Err.ensures (question.asked, question.times) q.asked

pub returns-in-Ok-packet_in : goal.returns-in-Ok-packet_in
returns-in-Ok-packet_in c = no_lists (rows_of (found_of c.args.matches.now)) c.in-Err-lists_in.lack
    c.in-Err-lists_in.ensures

pub returns-in-Ok-lists_in : goal.returns-in-Ok-lists_in
returns-in-Ok-lists_in c = record {
  asked = c.in-Ok.ensures;
  packet = subst (λ (w : Option Text). HasPacket w c.in-Ok-packet_in.packet)
      c.word_of.ensures c.in-Ok-packet_in.ensures;
  table = c.in-Ok-lists_in.ensures.table;
  counters = c.in-Ok-lists_in.ensures.counters;
  cells = c.in-Ok-lists_in.ensures.cells;
}
