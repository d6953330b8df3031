use Rattle.std.proofs.Common.{[], refl, ap}
use Rattle.machine.specs.Given.{Given}
use Rattle.hooks.specs.Questions.{count_input}
use Rattle.hooks.proofs.Answered.{same_answer}
use Rattle.hooks.proofs.asker.Asker.count.Goals as goal

pub returns-clause-answered : goal.returns-clause-answered
returns-clause-answered c =
    let packet = c.args.packet.now in
    let same = ap (λ b. let i : Given = record {
      context = b;
      packet = packet;
      rows = [];
    } in i) c.count_context.ensures in
    same_answer _ _ _ _ _ (count_input c.args.interface c.args.moment packet) _ _ same refl
    c.in_ok-answer.ensures.answered
