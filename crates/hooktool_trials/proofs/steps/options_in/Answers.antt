use Rattle.std.proofs.Common.{map}
use Rattle.clap.specs.Simple.{app_of}
use Rattle.hooktool_trials.proofs.StepWords.{free, taken}
use Rattle.hooktool_trials.proofs.steps.options_in.Goals as goal

pub returns-in-Ok-try_get_matches_from : goal.returns-in-Ok-try_get_matches_from
returns-in-Ok-try_get_matches_from c =
    let words = map (λ w. w.now) c.args.words.now in
    let own = c.in-Ok.ensures.app in
    let app = app_of c.in-Ok.command in
    let kept = c.in-Ok-try_get_matches_from.ensures in
    taken app words c.in-Ok-try_get_matches_from.matches own (kept.kinds (free app own))
    kept.matches
