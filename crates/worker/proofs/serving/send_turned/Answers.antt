use Rattle.std.proofs.Common.{◌≡◌, Result, refl, subst, sym}
use Rattle.std.specs.Prelude.{MatchResult}
use Rattle.turns.specs.declared.turned.TurnOutcome.{TurnOutcome}
use Rattle.turns.specs.declared.turned.TurnError.{TurnError}
use Rattle.worker.specs.Lives.{IsSent}
use Rattle.worker.proofs.Living.{on_ok}
use Rattle.worker.proofs.serving.send_turned.Goals as goal

pub returns-in-Ok-clause-sent : goal.returns-in-Ok-clause-sent
returns-in-Ok-clause-sent g c =
    on_ok c.send_all.result
    (λ each. subst
    (λ (o : Result TurnOutcome TurnError). MatchResult o
    (λ (t : TurnOutcome). IsSent g.K.Transport.gives c.args.transport.now t
    c.send_all.new.transport)
    (λ _. c.send_all.new.transport ≡ c.args.transport.now))
    (sym c.in-Ok.is) each)
    c.send_all.ensures.each

pub returns-in-Err-clause-sent : goal.returns-in-Err-clause-sent
returns-in-Err-clause-sent g c =
    subst
    (λ (o : Result TurnOutcome TurnError). MatchResult o
    (λ (t : TurnOutcome). IsSent g.K.Transport.gives c.args.transport.now t c.args.transport.now)
    (λ _. c.args.transport.now ≡ c.args.transport.now))
    (sym c.in-Err.is) refl
