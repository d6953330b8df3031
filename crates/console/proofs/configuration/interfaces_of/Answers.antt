use Rattle.std.proofs.Common.{◌≡◌, ◌+◌, List, [], ◌∷◌, ◌++◌, ap, arith, get_or, inr, length}
use Rattle.std.proofs.Common.{length-append, subst}
use Rattle.console.specs.Configurations.{MayFollow, SaysInterface}
use Rattle.console.specs.Words.{Word}
use Rattle.console.specs.declared.configuration.ConfiguredInterface.{ConfiguredInterface}
use Rattle.console.proofs.Lines.{apart_more, first_wrong, next_said, numbered}
use Rattle.console.proofs.Seen.{none}
use Rattle.console.proofs.configuration.interfaces_of.Goals as goal

pub returns-in-None-clause-refused : goal.returns-in-None-clause-refused
returns-in-None-clause-refused c = λ number e.
    let wrong = rw c.in-None.is at c.in_ok-interface.ensures in
    let line : Word = (get_or c.args.lines.now c.loop-line.line-index none).now in
    let all : (i : ConfiguredInterface)
    → SaysInterface (length c.loop-line.interfaces.items + 1) line i
    → MayFollow c.loop-line.interfaces.items i → ⊥ =
    subst (λ (before : List ConfiguredInterface). (i : ConfiguredInterface)
    → SaysInterface (length before + 1) line i → MayFollow before i → ⊥) c.deref.ensures.value
    wrong in
    inr (
      c.loop-line.line-index,
      omega (
        arith,
        numbered _ _ e,
        c.len.ensures,
        c.deref.ensures.len,
        ap length c.deref.ensures.value,
        c.loop-line.invariant.many,
      ),
      first_wrong c.args.lines.now none c.loop-line.line-index c.loop-line.interfaces.items
          (omega arith) c.loop-line.invariant.said c.loop-line.invariant.few
          c.loop-line.invariant.apart c.loop-line.invariant.many all,
    )

pub loop-line-preserved : goal.loop-line-preserved
loop-line-preserved c =
    let found = rw c.in-Some.is at c.in_ok-interface.ensures in
    let line : Word = (get_or c.args.lines.now c.loop-line.line-index none).now in
    let here : SaysInterface (length c.loop-line.interfaces.items + 1) line c.in-Some.interface
    × MayFollow c.loop-line.interfaces.items c.in-Some.interface =
    subst (λ (before : List ConfiguredInterface). SaysInterface (length before + 1) line
    c.in-Some.interface × MayFollow before c.in-Some.interface) c.deref.ensures.value found in
    let more : c.push.new.self.items ≡ c.loop-line.interfaces.items ++ c.in-Some.interface ∷ [] =
    c.in_ok-push-in-Some.ensures.items in
    let many : length c.push.new.self.items ≡ length c.loop-line.interfaces.items + 1 =
    omega (
      arith,
      ap length more,
      length-append c.loop-line.interfaces.items
          (c.in-Some.interface ∷ []),
    ) in
    record {
      said = rw more (next_said c.args.lines.now none c.loop-line.line-index
          c.loop-line.interfaces.items c.in-Some.interface (omega arith) c.loop-line.invariant.said
          here.0);
      apart = rw more (apart_more c.loop-line.interfaces.items c.in-Some.interface
          c.loop-line.invariant.apart here.1.apart);
      many = omega (arith, many, c.loop-line.invariant.many);
      few = omega (arith, many, here.1.room);
    }
