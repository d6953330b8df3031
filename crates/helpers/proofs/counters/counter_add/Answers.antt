use Rattle.std.proofs.Common.{sym, refl, ◌∙◌, arith, inl, inr}
use mathlib.Core.Logic.{dite}
use native.Mathlib.Decide.{dec_lt}
use Rattle.machine.specs.Label.{Add, Spent}
use Rattle.maps.specs.Access.{adds_made}
use Rattle.helpers.proofs.Seats.{grown_by-nil, makes_one}
use Rattle.helpers.proofs.counters.counter_add.Goals as goal

pub returns : goal.returns
returns c = dite (dec_lt (adds_made c.args.seat.now.accesses) 2147483648)
    (λ few. let did = c.add.ensures.added few in (
      Add c.args.counter c.args.amount,
      makes_one c.args.seat.now _ (Add c.args.counter c.args.amount) few did.1,
      λ input. (c.requires.counter, c.requires.amount, inl (refl, did.0)),
    ))
    (λ many. let did = c.add.ensures.spent (omega (arith, many)) in (
      Spent,
      makes_one c.args.seat.now _ Spent (omega (arith, many))
          (did.1 ∙ sym (grown_by-nil c.args.seat.now)),
      λ input. (c.requires.counter, c.requires.amount, inr (refl, did.0)),
    ))
