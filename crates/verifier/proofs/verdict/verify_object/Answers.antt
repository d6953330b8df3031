use Rattle.std.proofs.Common.{refl}
use Rattle.std.specs.Prelude.{Err}
use Rattle.verifier.proofs.Held.{accepts_of, refused_so, stated_in}
use Rattle.verifier.proofs.verdict.verify_object.Goals as goal

pub verify-requires : goal.verify-requires
verify-requires c =
    stated_in c.in_ok-object.object c.code.result.now c.in_ok-code.code c.statements.result.now
    c.code.ensures.is_object c.code.ensures.value
    c.in_ok-code.ensures.found c.statements.ensures.value

pub returns-clause-accepts : goal.returns-clause-accepts
returns-clause-accepts c =
    let program = c.in_ok-accepted.ensures in
    accepts_of c.args.bytes.now c.in_ok-object.object c.code.result.now c.in_ok-code.code
    c.hook.result c.entry_rank.result c.in_ok-accepted.accepted
    c.in_ok-object.ensures.found c.code.ensures.value c.in_ok-code.ensures.found
    c.hook.ensures.value c.entry_rank.ensures.value
    program.same.0 program.same.1 program.bound.0 program.bound.1 program.safe

pub returns-in_err-accepted-clause-refuses : goal.returns-in_err-accepted-clause-refuses
returns-in_err-accepted-clause-refuses c =
    let refusal = c.in_err-accepted.field-0.0 in
    let verdict = c.in_err-accepted.ensures in
    refused_so (Err refusal) c.from_residual-in_err-accepted.result c.args.bytes.now
    c.in_ok-object.object c.code.result.now c.in_ok-code.code
    c.hook.result c.entry_rank.result c.statements.result.now refusal
    c.from_residual-in_err-accepted.ensures.1 refl
    c.in_ok-object.ensures.found c.code.ensures.value c.in_ok-code.ensures.found
    c.hook.ensures.value c.entry_rank.ensures.value
    c.statements.ensures.value verdict.named verdict.first verdict.plain verdict.over
