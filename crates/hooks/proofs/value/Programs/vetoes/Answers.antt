use Rattle.std.proofs.Common.{◌≡◌, ◌<◌, [], ◌∷◌, ◌++◌, length, sym, arith, rules}
use Rattle.hooks.specs.Shown.{published_operations}
use Rattle.hooks.proofs.InTurn.{one_more}
use Rattle.hooks.proofs.value.Programs.vetoes.Goals as goal

pub loop-at-preserved : goal.loop-at-preserved
loop-at-preserved c =
    let before = c.loop-at.invariant in
    let all = published_operations c.args.self.now in
    let answer = c.veto_answer-answer.result in
    let grown : c.push_reserved.new.self.items ≡ c.loop-at.answers.items ++ answer ∷ [] =
    c.push_reserved.ensures.items in
    let there : c.loop-at.at < length c.args.routes.now = omega arith in
    record {
      table = c.veto_answer-answer.ensures.table;
      room = search rules;
      many = search rules;
      answered = λ known first all_before.
          one_more known all all first c.loop-at.seat c.veto_answer-answer.new.seat c.args.moment
          c.args.rows.now c.args.routes.now c.loop-at.at _ _ c.loop-at.answers.items
          c.push_reserved.new.self.items c.index-routes-at.result answer there
          c.index-routes-at.is (sym before.many) (search rules) grown
          (before.answered known first all_before) c.veto_answer-answer.ensures.answered;
    }
