use Rattle.std.proofs.Common.{refl}
use Rattle.object.proofs.Cuts.{register_cut}
use Rattle.object.proofs.fields.RegisterFields.read.Goals as goal

pub returns-clause-bytes : goal.returns-clause-bytes
returns-clause-bytes c =
    let long = c.requires in
    register_cut c.args.bytes.now (record {
      kind = _;
      map = _;
      unused = c.u16_le_at.result;
      offset = c.u32_le_at.result;
      low = c.u64_le_at.result;
      high = c.u64_le_at-2.result;
      mask = c.u64_le_at-3.result;
      value = c.u64_le_at-4.result;
    })
    long refl refl c.u16_le_at.ensures c.u32_le_at.ensures c.u64_le_at.ensures c.u64_le_at-2.ensures
    c.u64_le_at-3.ensures c.u64_le_at-4.ensures
