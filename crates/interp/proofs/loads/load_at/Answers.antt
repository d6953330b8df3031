use Rattle.std.proofs.Common.{sym, subst}
use Rattle.machine.specs.declared.state.Pointer.{Pointer}
use Rattle.machine.specs.Label.{Silent}
use Rattle.helpers.proofs.Seats.{makes_one, grown_by-nil}
use Rattle.interp.specs.Classes.{LoadsInto}
use Rattle.interp.proofs.Classes.{on_ok}
use Rattle.machine.specs.Given.{given_by}
use Rattle.interp.proofs.loads.load_at.Goals as goal

pub returns-in-Stack-clause-ok : goal.returns-in-Stack-clause-ok
returns-in-Stack-clause-ok c =
    let P : Pointer → Type 0 = λ p. LoadsInto c.args.size p (given_by c.args.input.now)
    c.args.target c.args.state.now Silent c.load_stack.new.state in
    on_ok c.load_stack.result (λ h. (
      Silent,
      subst P (sym c.in-Stack.is) (h (given_by c.args.input.now)),
      makes_one _ _ Silent tt (sym (grown_by-nil c.args.seat.now)),
    )) c.load_stack.ensures.ok

pub returns-in-Map-clause-ok : goal.returns-in-Map-clause-ok
returns-in-Map-clause-ok c =
    on_ok c.load_map.result (λ h. let P : Pointer → Type 0 =
    λ p. LoadsInto c.args.size p (given_by c.args.input.now) c.args.target c.args.state.now h.0
    c.load_map.new.state in
    (h.0, subst P (sym c.in-Map.is) (h.1 (given_by c.args.input.now)), h.2)) c.load_map.ensures.ok
