use Rattle.std.proofs.Common.{string_bytes, arith}
use Rattle.asm.specs.Forms.{Distance}
use Rattle.asm.specs.declared.numeral.Numeral.TheVariants.{Natural}
use Rattle.asm.proofs.Spaced.{added, natural_distance}
use Rattle.asm.proofs.line_text.next_forward.Goals as goal

pub returns : goal.returns
returns c = added c.write.result (string_bytes c.args.text.now) (string_bytes c.write.new.self)
    (Distance (Natural c.args.n)) (natural_distance c.args.n (omega arith)) c.write.ensures.bytes
