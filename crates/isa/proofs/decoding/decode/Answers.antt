use Rattle.std.proofs.Common.{sym, arith}
use Rattle.std.proofs.lemmas.Bool.{eqb-false, eqb-true}
use Rattle.isa.proofs.Fronts.{code_of, spells_long}
use Rattle.isa.proofs.decoding.decode.Goals as goal
use Rattle.isa.proofs.decoding.decode.Goals.{then-is_empty-via-then-is_empty}
use Rattle.isa.proofs.decoding.decode.Goals.{then-is_empty-via-else-is_empty+then-bytes-ne0}

pub new-requires : goal.new-requires
new-requires c =
    let some = eqb-false _ 0 (sym c.if-is_empty.ensures) in
    code_of _ _ c.in_ok-slots_of.ensures.found (omega arith) (omega arith) (omega arith)

pub returns-then-is_empty-clause-only : goal.returns-then-is_empty-clause-only
returns-then-is_empty-clause-only c code h =
    let long = spells_long c.args.bytes.now code h in let some = h.code_is.some in
    elim c.then-is_empty.branch [
      | then-is_empty-via-then-is_empty w ↦ let none = eqb-true _ 0 (sym w.if-is_empty.ensures) in
          absurd (omega (arith, long, some, none))
      | then-is_empty-via-else-is_empty+then-bytes-ne0 w ↦ absurd
          (omega (arith, long, w.if-bytes-ne0.true))
    ]

pub returns-then-bytes-gt-MAX_SLOTS-clause-only : goal.returns-then-bytes-gt-MAX_SLOTS-clause-only
returns-then-bytes-gt-MAX_SLOTS-clause-only c code h =
    let long = spells_long c.args.bytes.now code h in let most = h.code_is.most in
    absurd (omega (arith, long, most, c.if-bytes-gt-MAX_SLOTS.true))
