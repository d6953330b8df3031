use Rattle.std.proofs.Common.{string_bytes, arith}
use Rattle.asm.specs.Forms.{Number, Distance}
use Rattle.asm.specs.declared.numeral.Numeral.TheVariants.{Negative}
use Rattle.asm.proofs.Spaced.{added, negative_number, negative_distance}
use Rattle.asm.proofs.line_text.next_negative.Goals as goal

pub returns-clause-number : goal.returns-clause-number
returns-clause-number c = added c.write.result (string_bytes c.args.text.now)
    (string_bytes c.write.new.self) (Number (Negative c.args.n))
    (negative_number c.args.n (omega arith))
    (rw c.from.ensures at c.write.ensures.bytes)

pub returns-clause-distance : goal.returns-clause-distance
returns-clause-distance c = added c.write.result (string_bytes c.args.text.now)
    (string_bytes c.write.new.self) (Distance (Negative c.args.n))
    (negative_distance c.args.n (omega arith))
    (rw c.from.ensures at c.write.ensures.bytes)
