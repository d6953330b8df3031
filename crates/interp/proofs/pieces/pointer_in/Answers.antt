use Rattle.std.proofs.Common.{rules, ◌≡◌, get_or, arith, false}
use Rattle.machine.specs.declared.state.StackByte.TheVariants.{Nothing}
use Rattle.interp.specs.Classes.{is_piece}
use Rattle.interp.proofs.Lists.{whole, not_whole}
use Rattle.interp.proofs.pieces.pointer_in.Goals as goal

pub returns-then-not-is_piece-clause-none : goal.returns-then-not-is_piece-clause-none
returns-then-not-is_piece-clause-none c e =
    let here = c.loop-at-test.true in
    let other : is_piece (get_or c.args.found.now c.loop-at.at Nothing) c.in-Piece.pointer
    c.loop-at.at ≡ false = search rules in
    not_whole c.args.found.now c.in-Piece.pointer c.in-Piece.field-1 c.loop-at.at c.in-Piece.is
    (omega (arith, c.requires)) other

pub returns-clause-some : goal.returns-clause-some
returns-clause-some c =
    let done = c.loop-at-test.false in
    whole c.args.found.now c.in-Piece.pointer c.requires
    (λ i l. c.loop-at.invariant i (omega arith))
