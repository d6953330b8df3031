-- The ranges of the numbers in an object file. Those of one byte need none but the byte's.
use Rattle.std.specs.Prelude.{◌<◌, ◌^◌}
use Rattle.object.specs.declared.fields.RegisterFields.{RegisterFields}
use Rattle.object.specs.declared.fields.RankFields.{RankFields}
use Rattle.object.specs.declared.fields.HeaderFields.{HeaderFields}

pub record AreRegister (f : RegisterFields) : Type 0 where
  pub unused : f.unused < 2 ^ 16
  pub offset : f.offset < 2 ^ 32
  pub low : f.low < 2 ^ 64
  pub high : f.high < 2 ^ 64
  pub mask : f.mask < 2 ^ 64
  pub value : f.value < 2 ^ 64

pub record AreRank (f : RankFields) : Type 0 where
  pub slot : f.slot < 2 ^ 32
  pub constant : f.constant < 2 ^ 32
  pub unused : f.unused < 2 ^ 16
  pub first_coefficient : f.first_coefficient < 2 ^ 32
  pub second_coefficient : f.second_coefficient < 2 ^ 32

pub record AreHeader (f : HeaderFields) : Type 0 where
  pub statements : f.statements < 2 ^ 16
  pub entry_rank : f.entry_rank < 2 ^ 32
  pub slots : f.slots < 2 ^ 32
