use Rattle.std.proofs.Common.{arith}
use Rattle.candidates.proofs.Flags.{another_flag, is_close, its_way, no_way}
use Rattle.candidates.proofs.flagged.flagged_way.Goals as goal

pub returns-in_err-listed-clause-only : goal.returns-in_err-listed-clause-only
returns-in_err-listed-clause-only c =
    rw c.from_residual.ensures (no_way c.args.routers.now c.args.router c.args.flag
    c.in_err-listed.ensures)

pub returns-then-listed-flag-clause-only : goal.returns-then-listed-flag-clause-only
returns-then-listed-flag-clause-only c =
    another_flag c.args.routers.now c.args.router c.args.flag c.in_ok-listed.listed
    c.in_ok-listed.ensures (λ e. omega (arith, c.if-listed-flag.true, e))

pub returns-clause-only : goal.returns-clause-only
returns-clause-only c =
    its_way c.args.routers.now c.args.router c.args.flag c.in_ok-listed.listed
    c.in_ok-listed.ensures (omega (arith, c.if-listed-flag.false))

pub returns-clause-near : goal.returns-clause-near
returns-clause-near c = is_close c.args.routers.now c.args.router c.in_ok-listed.listed
    c.requires.close c.in_ok-listed.ensures
