use Rattle.std.proofs.Common.{string_bytes, arith}
use Rattle.asm.specs.Forms.{Number}
use Rattle.asm.specs.declared.numeral.Numeral.TheVariants.{Natural}
use Rattle.asm.proofs.Spaced.{added, natural_number}
use Rattle.asm.proofs.line_text.next_natural.Goals as goal

pub returns : goal.returns
returns c = added c.write.result (string_bytes c.args.text.now) (string_bytes c.write.new.self)
    (Number (Natural c.args.n)) (natural_number c.args.n (omega arith)) c.write.ensures.bytes
