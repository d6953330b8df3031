use Rattle.std.proofs.Common.{inl, map}
use Rattle.clap.specs.Simple.{app_of}
use Rattle.hooktool_trials.proofs.Read.{free, own_taken}
use Rattle.hooktool_trials.proofs.reading.taken.Goals as goal

pub returns-in-Ok : goal.returns-in-Ok
returns-in-Ok c =
    let words = map (λ w. w.now) c.args.words.now in
    let app = app_of c.in-Ok.line in
    let own = c.in-Ok.ensures in
    let found = c.try_get_matches_from.ensures in
    own_taken app words c.try_get_matches_from.result own (found.kinds (free app own)) found.matches

pub returns-in-Err : goal.returns-in-Err
returns-in-Err c = inl c.from.ensures
