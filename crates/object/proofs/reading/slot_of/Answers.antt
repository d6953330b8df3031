use Rattle.std.proofs.Common.{sym, ap, ◌∙◌}
use Rattle.std.specs.Int.{w32, from_le_bytes}
use Rattle.std.proofs.lemmas.Nat.{from_le_bytes-to_le_bytes_4}
use Rattle.object.proofs.reading.slot_of.Goals as goal

pub returns : goal.returns
returns c = sym (from_le_bytes-to_le_bytes_4 c.u32_le_at.result c.u32_le_at.type_inv)
    ∙ ap (λ t. from_le_bytes w32 t) c.u32_le_at.ensures
