use Rattle.std.proofs.Common.{◌≡◌, true, rules}
use Rattle.verifier.proofs.Plain.{kept_live}
use Rattle.verifier.proofs.pass.pass.Goals as goal

pub returns-clause-keeps : goal.returns-clause-keeps
returns-clause-keeps g c = λ plain ten.
    let live : c.args.known.is_live ≡ true = search rules in
    kept_live c.args.instruction c.args.known c.in_ok-after.after live
    (c.in_ok-after.ensures.keeps (plain live))
