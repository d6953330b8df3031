use Rattle.hooktool_trials.proofs.StepWords.{asked}
use Rattle.hooktool_trials.proofs.steps.asked_by.Goals as goal
use Rattle.hooktool_trials.specs.Steps.{views}

pub returns-in-Ok-question_of : goal.returns-in-Ok-question_of
returns-in-Ok-question_of c =
    asked (views c.args.words.now) c.in-Ok.matches c.in-Ok-question_of.question c.requires
    c.in-Ok.ensures c.in-Ok-question_of.ensures
