use Rattle.std.proofs.Common.{rules, tests, sym}
use Rattle.annotations.proofs.Outcomes.{of_the_object}
use Rattle.annotations.proofs.file.annotate_object.Goals as goal

pub returns-in-Ok-clause-outcome : goal.returns-in-Ok-clause-outcome
returns-in-Ok-clause-outcome c =
    of_the_object _ _ _ _ _ _ c.in-Ok.ensures.found (search (rules, tests))
    (sym c.code.ensures.value) c.annotate_code.ensures.outcome

pub returns-then-ne-clause-outcome : goal.returns-then-ne-clause-outcome
returns-then-ne-clause-outcome c = record {
  object = c.in-Ok.object;
  spells = c.in-Ok.ensures.found;
  its_hook = sym c.hook-object_hook.ensures.value;
  differs = search rules;
}

pub returns-clause-outcome : goal.returns-clause-outcome
returns-clause-outcome c = c.in-Err.ensures.why
