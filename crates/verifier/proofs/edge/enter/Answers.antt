use Rattle.std.proofs.Common.{◌≡◌, refl}
use Rattle.std.proofs.lemmas.Option.{same_Some}
use Rattle.verifier.specs.Lines.{IsConstant, flat}
use Rattle.verifier.proofs.edge.enter.Goals as goal

pub returns-then-falls-clause-enters : goal.returns-then-falls-clause-enters
returns-then-falls-clause-enters g c = λ start now known.
    let held = known.holds in
    let line = c.in-Some.ensures.holds start now held in
    record {
      holds = record {
        eleven = held.eleven;
        whole = held.whole;
        frame = held.frame;
        registers = λ r small. rw (← c.deref-2.ensures.value)
            (c.if-not-kinds_within.ensures.holds refl r _
            (rw c.deref.ensures.value (held.registers r small)));
        stack = rw (← c.stack.ensures.value)
            (c.if-not-bytes_within.ensures.holds refl _ (rw c.deref-3.ensures.value held.stack));
      };
      rank = rw (← c.rank.ensures.value) (c.if-falls.ensures.holds refl start _ known.begins line);
    }

pub returns-else-falls-clause-plain : goal.returns-else-falls-clause-plain
returns-else-falls-clause-plain g c = λ edge.
    let constant : IsConstant c.rank.result = rw c.rank.ensures.value edge.constant in
    let line : c.in-Some.line ≡ flat c.rank.result.constant =
    same_Some c.in-Some.line (flat c.rank.result.constant) (c.in-Some.ensures.plain constant) in
    c.if-falls.ensures.plain edge.own c.rank.result.constant line
    (rw c.rank.ensures.value edge.falls)
