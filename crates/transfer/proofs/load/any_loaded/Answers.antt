use Rattle.std.proofs.Common.{arith}
use Rattle.transfer.proofs.Zeros as zeros
use Rattle.transfer.proofs.load.any_loaded.Goals as goal

pub returns-in-Unsigned8 : goal.returns-in-Unsigned8
returns-in-Unsigned8 g c = record {
  holds = rw c.in-Unsigned8.is (λ n low. c.stated.ensures.holds n (omega arith) (zeros.most 8 n low)
      (zeros.above_byte n low));
}

pub returns-in-Unsigned16 : goal.returns-in-Unsigned16
returns-in-Unsigned16 g c = record {
  holds = rw c.in-Unsigned16.is (λ n low. c.stated-in-Unsigned16.ensures.holds n (omega arith)
      (zeros.most 16 n low) (zeros.above_half n low));
}

pub returns-in-Unsigned32 : goal.returns-in-Unsigned32
returns-in-Unsigned32 g c = record {
  holds = rw c.in-Unsigned32.is (λ n low. c.stated-in-Unsigned32.ensures.holds n (omega arith)
      (zeros.most 32 n low) (zeros.above_word n low));
}
