use Rattle.std.proofs.Common.{◌≡◌, get_or, Some, None, subst, arith}
use Rattle.machine.specs.State.{held}
use Rattle.kinds.specs.declared.state.Kind.TheVariants.{Unknown}
use Rattle.kinds.specs.Meaning.{FactHolds, KindHolds, number_in}
use Rattle.verifier.proofs.Terms.{follows_number}
use Rattle.verifier.proofs.bound.plus_term.Goals as goal

pub returns-in-Some-followed-clause-holds : goal.returns-in-Some-followed-clause-holds
returns-in-Some-followed-clause-holds g c = λ start now value known bound.
    let at : get_or c.args.state.now.facts.items c.in-Some.term.register None
    ≡ Some c.in-Some-followed.fact =
    cc (
      c.in-Some-followed.is,
      c.followed.ensures.value,
      c.deref.ensures.value,
      c.from-register.ensures,
      c.register.ensures.value,
    ) in
    let fact = subst (λ f. FactHolds f start (held now c.in-Some.term.register)) at
    (known.facts c.in-Some.term.register (omega (arith, c.register.ensures.is_term.register)))
    in
    let made = c.in_ok-after.ensures.holds start value (number_in now c.in-Some.term.register) bound
    (follows_number c.in-Some-followed.fact start (held now c.in-Some.term.register) fact) in
    rw c.in-Some.is (rw c.coefficient-coefficient.ensures.value at made)

pub returns-clause-holds : goal.returns-clause-holds
returns-clause-holds g c = λ start now value known bound.
    let at : get_or c.args.state.now.kinds.items c.in-Some.term.register Unknown ≡ c.listed.result =
    cc (
      c.listed.ensures.value,
      c.deref-2.ensures.value,
      c.from-register.ensures,
      c.register.ensures.value,
    ) in
    let kind = subst (λ k. KindHolds g.D.Domain.contains k (held now c.in-Some.term.register)) at
    (known.registers c.in-Some.term.register
    (omega (arith, c.register.ensures.is_term.register))) in
    let made = c.in_ok-above.ensures.holds start value (number_in now c.in-Some.term.register) bound
    (c.in_ok-most.ensures.holds (held now c.in-Some.term.register) kind) in
    rw c.in-Some.is (rw c.coefficient-coefficient.ensures.value at made)
