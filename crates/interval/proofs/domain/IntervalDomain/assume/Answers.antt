use Rattle.interval.specs.Signs.{biased_number}
use Rattle.interval.proofs.SignLemmas.{meets_biased}
use Rattle.interval.proofs.domain.IntervalDomain.assume.Goals as goal

pub returns-in_err-signed_left-clause-holds : goal.returns-in_err-signed_left-clause-holds
returns-in_err-signed_left-clause-holds c = λ a b left right meets.
    let biased_meets = meets_biased c.args.width c.args.test a b left.unsigned.small
    right.unsigned.small meets in
    absurd (c.in_err-signed_left.ensures.holds (biased_number a) (biased_number b) left.signed
    right.signed biased_meets)

pub returns-in_err-left-clause-holds : goal.returns-in_err-left-clause-holds
returns-in_err-left-clause-holds c = λ a b left right meets.
    let biased_meets = meets_biased c.args.width c.args.test a b left.unsigned.small
    right.unsigned.small meets in
    let plain = c.in_ok-low_left.ensures.holds a b left.unsigned right.unsigned meets in
    let signed = c.in_ok-signed_left.ensures.holds (biased_number a) (biased_number b) left.signed
    right.signed biased_meets in
    absurd (c.in_err-left.ensures.holds a plain.0 signed.0)

pub returns-in_err-right-clause-holds : goal.returns-in_err-right-clause-holds
returns-in_err-right-clause-holds c = λ a b left right meets.
    let biased_meets = meets_biased c.args.width c.args.test a b left.unsigned.small
    right.unsigned.small meets in
    let plain = c.in_ok-low_left.ensures.holds a b left.unsigned right.unsigned meets in
    let signed = c.in_ok-signed_left.ensures.holds (biased_number a) (biased_number b) left.signed
    right.signed biased_meets in
    absurd (c.in_err-right.ensures.holds b plain.1 signed.1)

pub returns-clause-holds : goal.returns-clause-holds
returns-clause-holds c = λ a b left right meets.
    let biased_meets = meets_biased c.args.width c.args.test a b left.unsigned.small
    right.unsigned.small meets in
    let plain = c.in_ok-low_left.ensures.holds a b left.unsigned right.unsigned meets in
    let signed = c.in_ok-signed_left.ensures.holds (biased_number a) (biased_number b) left.signed
    right.signed biased_meets in
    (c.in_ok-left.ensures.holds a plain.0 signed.0, c.in_ok-right.ensures.holds b plain.1 signed.1)

pub returns-clause-gives : goal.returns-clause-gives
returns-clause-gives c = record {
  unsigned = (
    (c.in_ok-low_left.low_left, c.in_ok-low_left.low_right),
    c.in_ok-low_left.ensures.trimmed,
    c.in_ok-left.ensures.unsigned,
    c.in_ok-right.ensures.unsigned,
  );
  signed = (
    (c.in_ok-signed_left.signed_left, c.in_ok-signed_left.signed_right),
    c.in_ok-signed_left.ensures.trimmed,
    c.in_ok-left.ensures.signed,
    c.in_ok-right.ensures.signed,
  );
}
