use Rattle.std.proofs.Common.{◌∙◌, sym, ap, Some}
use Rattle.std.specs.Int.{w32}
use Rattle.std.proofs.lemmas.Int.{to_z-of_z}
use Rattle.std.proofs.lemmas.Result.{IfOk-weaker}
use Rattle.machine.specs.declared.helper.Helper.TheVariants.{CounterAdd, CounterRead}
use Rattle.machine.specs.Given.{given_by}
use Rattle.helpers.proofs.calls.call.Goals as goal

pub returns-in-CounterAdd-clause-ok : goal.returns-in-CounterAdd-clause-ok
returns-in-CounterAdd-clause-ok c =
    let known = sym (rw (to_z-of_z w32 c.args.number c.ranges.number) at c.at.ensures)
    ∙ c.in-Some.is ∙ ap Some c.in-CounterAdd.is in
    IfOk-weaker c.call_counter_add.result _ _
    (λ answer did. (
      did.0,
      did.1,
      record {
        helper = CounterAdd;
        known = known;
        answers = did.2 (given_by c.args.input.now);
      },
    ))
    c.call_counter_add.ensures.ok

pub returns-in-CounterRead-clause-ok : goal.returns-in-CounterRead-clause-ok
returns-in-CounterRead-clause-ok c =
    let known = sym (rw (to_z-of_z w32 c.args.number c.ranges.number) at c.at.ensures)
    ∙ c.in-Some.is ∙ ap Some c.in-CounterRead.is in
    IfOk-weaker c.call_counter_read.result _ _
    (λ answer did. (
      did.0,
      did.1,
      record {
        helper = CounterRead;
        known = known;
        answers = did.2 (given_by c.args.input.now);
      },
    ))
    c.call_counter_read.ensures.ok
