-- The verdicts on Database Descriptions, by the tests that lead to them.
use Rattle.std.proofs.Common.{Bool, true, false, cond}
use Rattle.adjacency.specs.Descriptions.{Verdict}

module _ (V : Verdict → Type 0) where
  pub first_two : (a b : Bool) (v : Verdict) → V Verdict.Discarded → V Verdict.Repeated → V v
      → V (cond a Verdict.Discarded (cond b Verdict.Repeated v))
  first_two true b v discards repeats rest = discards
  first_two false true v discards repeats rest = repeats
  first_two false false v discards repeats rest = rest

  pub mismatch_or_accepted : V Verdict.Mismatch → V Verdict.Accepted → (a b c e : Bool)
      → V (cond a Verdict.Mismatch (cond b Verdict.Mismatch
      (cond c Verdict.Mismatch (cond e Verdict.Mismatch Verdict.Accepted))))
  mismatch_or_accepted mismatch accepts true b c e = mismatch
  mismatch_or_accepted mismatch accepts false true c e = mismatch
  mismatch_or_accepted mismatch accepts false false true e = mismatch
  mismatch_or_accepted mismatch accepts false false false true = mismatch
  mismatch_or_accepted mismatch accepts false false false false = accepts

  pub as_slave_or_master : V Verdict.NegotiatedAsSlave → V Verdict.NegotiatedAsMaster
      → V Verdict.Discarded → (a b : Bool)
      → V (cond a Verdict.NegotiatedAsSlave
      (cond b Verdict.NegotiatedAsMaster Verdict.Discarded))
  as_slave_or_master follows leads discards true b = follows
  as_slave_or_master follows leads discards false true = leads
  as_slave_or_master follows leads discards false false = discards
