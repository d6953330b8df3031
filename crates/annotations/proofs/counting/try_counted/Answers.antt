use Rattle.std.proofs.Common.{List, inr, subst, sym, ℕ}
use Rattle.isa.specs.Spelling.{Spells}
use Rattle.annotations.proofs.Outcomes.{with_turns}
use Rattle.annotations.proofs.counting.try_counted.Goals as goal

pub annotate-requires : goal.annotate-requires
annotate-requires c = (
  c.in-Ok.counted,
  subst (λ (text : List ℕ). Spells text c.in-Ok.counted) (sym c.deref.ensures.value)
      c.in-Ok-encode.ensures,
)

pub returns : goal.returns
returns c = with_turns _ _ _ _ _
    (inr (record {
      heads = c.args.heads.now;
      slots = c.args.code.now;
      counted_slots = c.in-Ok.counted;
      code_is = c.requires.code;
      inside = c.requires.inside;
      is_counted = c.in-Ok.ensures.counted;
      counted_is = subst (λ (text : List ℕ). Spells text c.in-Ok.counted)
          (sym c.deref.ensures.value)
          c.in-Ok-encode.ensures;
    }))
    c.annotate.ensures
