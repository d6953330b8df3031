use Rattle.std.proofs.Common.{inr, refl}
use Rattle.std.proofs.lemmas.Bool.{false≢true}
use Rattle.annotations.proofs.Outcomes.{accepted, of_the_file, refused}
use Rattle.annotations.proofs.file.annotate_file.Goals as goal

pub returns-then-is_object : goal.returns-then-is_object
returns-then-is_object c = record {
  accepted = accepted _ _ _ _ c.annotate_object.ensures.outcome;
  found = c.annotate_object.ensures.found;
  refused = refused _ _ _ _ c.annotate_object.ensures.outcome;
}

pub returns-else-is_object : goal.returns-else-is_object
returns-else-is_object c =
    let outcome = of_the_file c.args.hook c.args.fuel c.args.file.now c.args.file.now
    c.annotate_code.result (inr (λ is. false≢true (c.if-is_object.ensures.1 is), refl))
    c.annotate_code.ensures.outcome in
    record {
      accepted = accepted _ _ _ _ outcome;
      found = c.annotate_code.ensures.found;
      refused = refused _ _ _ _ outcome;
    }
