use Rattle.std.proofs.Common.{[], refl, ap, sym, subst, slice_range}
use Rattle.isa.specs.declared.hook.Hook.TheVariants.{Veto}
use Rattle.machine.specs.Given.{Given}
use Rattle.machine.specs.Memory.{number_of}
use Rattle.hooks.specs.Operations.{OperationsAnswer}
use Rattle.hooks.specs.Questions.{RouteAnswer, veto_input}
use Rattle.hooks.specs.Shown.{published_operations}
use Rattle.hooks.proofs.Answered.{answered}
use Rattle.hooks.proofs.Fronts.{prefix_self}
use Rattle.hooks.proofs.value.Programs.veto_answer.Goals as goal

pub at_veto-word-requires-clause-asked : goal.at_veto-word-requires-clause-asked
at_veto-word-requires-clause-asked c =
    ap (λ b. number_of (slice_range b 0 4)) c.veto_context.ensures

pub new-requires : goal.new-requires
new-requires c =
    let all = published_operations c.args.self.now in
    let a = c.at_veto-word.ensures.answered in
    let rows = c.args.rows.now in
    let given : Given = veto_input c.args.route.now c.args.moment rows in
    let same = ap (λ b. let i : Given = record {
      context = b;
      packet = [];
      rows = rows;
    } in i) c.veto_context.ensures in (
      rows,
      answered Veto all given a.0 _ refl
          (subst (λ (i : Given). OperationsAnswer all i a.0 c.at_veto-word.result) same a.2),
    )

pub returns-clause-answered : goal.returns-clause-answered
returns-clause-answered c =
    let all = published_operations c.args.self.now in
    let a = c.at_veto-word.ensures.answered in
    let rows = c.args.rows.now in
    let given : Given = veto_input c.args.route.now c.args.moment rows in
    let same = ap (λ b. let i : Given = record {
      context = b;
      packet = [];
      rows = rows;
    } in i) c.veto_context.ensures in
    let word = sym (ap (λ (r : RouteAnswer). r.word) c.new.ensures) in
    record {
      on = ap (λ (r : RouteAnswer). r.route) c.new.ensures;
      at = ap (λ (r : RouteAnswer). r.moment) c.new.ensures;
      answered = record {
        labels = a.0;
        begins = prefix_self all;
        made = a.1;
        answers =
            subst (λ w. OperationsAnswer all given a.0 w) word
            (subst (λ (i : Given). OperationsAnswer all i a.0 c.at_veto-word.result) same a.2);
      };
    }
