use Rattle.std.proofs.Common.{sym, ◌∙◌}
use Rattle.object.specs.Spelling.{fields_of_kind}
use Rattle.object.proofs.Same.{same_register, small_kind}
use Rattle.object.proofs.Parts.{kind_found}
use Rattle.object.proofs.reading.kind.Goals as goal

pub returns : goal.returns
returns c = record {
  found = kind_found _ _ _ c.read.ensures.bytes c.kind_of.ensures.found;
  only = λ k is e. c.kind_of.ensures.only k is
      (same_register (fields_of_kind k) _ (small_kind k is) c.read.ensures.ranges
      (e ∙ sym c.read.ensures.bytes));
}
