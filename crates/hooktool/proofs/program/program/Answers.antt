use Rattle.std.proofs.Common.{inl, inr, refl}
use Rattle.hooktool.proofs.program.program.Goals as goal

pub returns-in-Ok : goal.returns-in-Ok
returns-in-Ok g c = record {
  ended = inl (c.in-Ok.request, c.in-Ok.ensures, c.carry_out.ensures, refl);
}

pub returns-in-Err : goal.returns-in-Err
returns-in-Err g c = record { ended = inr (c.in-Err.error, c.in-Err.ensures, c.tell_words.ensures) }
