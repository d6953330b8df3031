use Rattle.std.proofs.Common.{refl}
use Rattle.object.proofs.Cuts.{rank_cut}
use Rattle.object.proofs.fields.RankFields.read.Goals as goal

pub returns-clause-bytes : goal.returns-clause-bytes
returns-clause-bytes c =
    let long = c.requires in
    rank_cut c.args.bytes.now (record {
      slot = c.u32_le_at.result;
      constant = c.u32_le_at-2.result;
      first_register = _;
      second_register = _;
      unused = c.u16_le_at.result;
      first_coefficient = c.u32_le_at-3.result;
      second_coefficient = c.u32_le_at-4.result;
    })
    long c.u32_le_at.ensures c.u32_le_at-2.ensures refl refl c.u16_le_at.ensures
    c.u32_le_at-3.ensures
    c.u32_le_at-4.ensures
