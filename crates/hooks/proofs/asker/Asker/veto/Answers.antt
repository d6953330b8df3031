use Rattle.std.proofs.Common.{[], refl, ap, sym, subst}
use Rattle.isa.specs.declared.hook.Hook.TheVariants.{Veto}
use Rattle.machine.specs.Given.{Given}
use Rattle.hooks.specs.Known.{known_to}
use Rattle.hooks.specs.Operations.{OperationsAnswer}
use Rattle.hooks.specs.Questions.{RouteAnswer, veto_input}
use Rattle.hooks.proofs.Answered.{answered, same_answer}
use Rattle.hooks.proofs.asker.Asker.veto.Goals as goal

pub new-requires : goal.new-requires
new-requires c =
    let a = c.in_ok-answer.ensures.answered in
    let all = known_to c.ask.new.self in
    let rows = c.args.rows.now in
    let given : Given = veto_input c.args.route.now c.args.moment rows in
    let same = ap (λ b. let i : Given = record {
      context = b;
      packet = [];
      rows = rows;
    } in i) c.veto_context.ensures in (
      rows,
      answered Veto all given a.labels _ refl
          (subst (λ (i : Given). OperationsAnswer all i a.labels c.in_ok-answer.answer.word) same
          a.answers),
    )

pub returns-clause-answered : goal.returns-clause-answered
returns-clause-answered c =
    let rows = c.args.rows.now in
    let same = ap (λ b. let i : Given = record {
      context = b;
      packet = [];
      rows = rows;
    } in i) c.veto_context.ensures in
    let word = sym (ap (λ (a : RouteAnswer). a.word) c.new.ensures) in
    same_answer _ _ _ _ _ (veto_input c.args.route.now c.args.moment rows) _ _ same word
    c.in_ok-answer.ensures.answered
