use Rattle.std.proofs.Common.{inl, inr, subst, sym}
use Rattle.hooktool_trials.specs.declared.requests.HooktoolRequest.TheVariants as requests
use Rattle.hooktool_trials.specs.declared.requests.PlainRequest.{PlainRequest}
use Rattle.hooktool.specs.Endings.{EndsRequest}
use Rattle.hooktool.proofs.program.carry_out_plain.Goals as goal

pub returns-in-Annotate : goal.returns-in-Annotate
returns-in-Annotate g c = subst (λ (request : PlainRequest).
    EndsRequest g.R.WholeFiles.known (requests.Plain request) (g.O.Stream.state c.args.output.now)
    (g.O.Stream.state c.end.new.output) c.end.result) (sym c.in-Annotate.is)
    (inl (
      c.annotate.result,
      (c.annotate.ensures.made, c.annotate.ensures.fault),
      c.end.ensures,
    ))

pub returns-in-Build : goal.returns-in-Build
returns-in-Build g c = subst (λ (request : PlainRequest).
    EndsRequest g.R.WholeFiles.known (requests.Plain request) (g.O.Stream.state c.args.output.now)
    (g.O.Stream.state c.end-in-Build.new.output) c.end-in-Build.result) (sym c.in-Build.is)
    (inl (
      c.build.result,
      (c.build.ensures.made, c.build.ensures.fault),
      c.end-in-Build.ensures,
    ))

pub returns-in-Explain : goal.returns-in-Explain
returns-in-Explain g c = subst (λ (request : PlainRequest).
    EndsRequest g.R.WholeFiles.known (requests.Plain request) (g.O.Stream.state c.args.output.now)
    (g.O.Stream.state c.end-in-Explain.new.output) c.end-in-Explain.result) (sym c.in-Explain.is)
    (inl (
      c.explain.result,
      (c.explain.ensures.explained, c.explain.ensures.fault),
      c.end-in-Explain.ensures,
    ))

pub returns-in-Test : goal.returns-in-Test
returns-in-Test g c = subst (λ (request : PlainRequest).
    EndsRequest g.R.WholeFiles.known (requests.Plain request) (g.O.Stream.state c.args.output.now)
    (g.O.Stream.state c.end_test.new.output) c.end_test.result) (sym c.in-Test.is)
    (inr (c.test.result, c.test.ensures.played, c.test.ensures.fault, c.end_test.ensures))
