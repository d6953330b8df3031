use Rattle.std.proofs.Common.{◌∙◌, sym, arith, rules, codes}
use Rattle.std.specs.Str.Parse.{ParsesUnsigned, ExplainsUnsignedError, HasUnsignedDigitsIfOk}
use Rattle.clap.proofs.WalkLemmas.{one_text-rows}
use Rattle.clap.specs.Matches.{found_of, one_text}
use Rattle.commands.proofs.Seats.{far_from_seats, read_number, unread_seats}
use Rattle.commands.proofs.requests.seats_of.Goals as goal

pub returns-in-Some-clause-some : goal.returns-in-Some-clause-some
returns-in-Some-clause-some c =
    let f = found_of c.args.matches.now in
    let read = read_number _ (λ bs r. ParsesUnsigned 8 10 bs r × ExplainsUnsignedError 10 bs r
    × HasUnsignedDigitsIfOk bs r) (λ t x g. g.0)
    (one_text f (codes "SEATS")) c.get_one.result c.in-Some.seats c.in-Some.is
    c.get_one.ensures.none c.get_one.ensures.value in (
      read.0,
      sym (one_text-rows f (codes "SEATS")) ∙ read.1,
      (read.2, c.from.ensures ∙ read.3, omega arith, omega arith),
    )

pub returns-in_default-clause-none : goal.returns-in_default-clause-none
returns-in_default-clause-none c _ seats has =
    let f = found_of c.args.matches.now in
    far_from_seats _ (λ bs r. ParsesUnsigned 8 10 bs r × ExplainsUnsignedError 10 bs r
    × HasUnsignedDigitsIfOk bs r) (λ t x g. g.0)
    (one_text f (codes "SEATS")) c.get_one.result c.in-Some.seats c.in-Some.is
    c.get_one.ensures.none c.get_one.ensures.value
    (λ low high. absurd (omega arith)) has.0 seats (one_text-rows f (codes "SEATS") ∙ has.1) has.2

pub returns-in_default-2-clause-none : goal.returns-in_default-2-clause-none
returns-in_default-2-clause-none c _ seats has =
    let f = found_of c.args.matches.now in
    far_from_seats _ (λ bs r. ParsesUnsigned 8 10 bs r × ExplainsUnsignedError 10 bs r
    × HasUnsignedDigitsIfOk bs r) (λ t x g. g.0)
    (one_text f (codes "SEATS")) c.get_one.result c.in-Some.seats c.in-Some.is
    c.get_one.ensures.none c.get_one.ensures.value
    (λ low high. absurd (omega arith)) has.0 seats (one_text-rows f (codes "SEATS") ∙ has.1) has.2

pub returns-in_default-3-clause-none : goal.returns-in_default-3-clause-none
returns-in_default-3-clause-none c _ seats has =
    let f = found_of c.args.matches.now in
    unread_seats _ (λ bs r. ParsesUnsigned 8 10 bs r × ExplainsUnsignedError 10 bs r
    × HasUnsignedDigitsIfOk bs r) (λ t x g. g.0)
    (one_text f (codes "SEATS")) c.get_one.result (search rules) c.get_one.ensures.value
    has.0 seats (one_text-rows f (codes "SEATS") ∙ has.1) has.2
