use Rattle.std.proofs.Common.{inl, subst, sym}
use Rattle.hooktool_trials.specs.declared.requests.HooktoolRequest.{HooktoolRequest}
use Rattle.hooktool.specs.Endings.{EndsRequest}
use Rattle.hooktool.proofs.program.carry_out.Goals as goal

pub returns-in-Plain : goal.returns-in-Plain
returns-in-Plain g c = subst (λ (request : HooktoolRequest).
    EndsRequest g.R.WholeFiles.known request (g.O.Stream.state c.args.output.now)
    (g.O.Stream.state c.carry_out_plain.new.output) c.carry_out_plain.result) (sym c.in-Plain.is)
    c.carry_out_plain.ensures

pub returns-in-Try : goal.returns-in-Try
returns-in-Try g c = subst (λ (request : HooktoolRequest). EndsRequest g.R.WholeFiles.known request
    (g.O.Stream.state c.args.output.now) (g.O.Stream.state c.end.new.output)
    c.end.result) (sym c.in-Try.is)
    (inl (
      c.try_question.result,
      (c.try_question.ensures.tried, c.try_question.ensures.fault),
      c.end.ensures,
    ))
