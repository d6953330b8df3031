use Rattle.std.proofs.Common.{arith, codes, lit<}
use Rattle.clap.specs.Matches.{found_of}
use Rattle.clap.specs.Walk.{rows_of}
use Rattle.hooktool_trials.proofs.StepWords.{same_number}
use Rattle.hooktool_trials.proofs.numbers.numbers_of.Goals as goal

pub returns-in_default : goal.returns-in_default
returns-in_default c =
    λ numbers has. c.in_default.ensures.read numbers.metric has.metric

pub returns-in_default-number_of : goal.returns-in_default-number_of
returns-in_default-number_of c =
    λ numbers has. c.in_default-number_of.ensures.read numbers.tag has.tag

pub returns-in_default-number_of-2 : goal.returns-in_default-number_of-2
returns-in_default-number_of-2 c =
    λ numbers has. c.in_default-number_of-2.ensures.read numbers.cost has.cost

pub returns-in_default-number_of-3 : goal.returns-in_default-number_of-3
returns-in_default-number_of-3 c =
    λ numbers has. c.in_default-number_of-3.ensures.read numbers.distance has.distance

pub returns-in_default-number_of-4 : goal.returns-in_default-number_of-4
returns-in_default-number_of-4 c =
    λ numbers has. c.in_default-number_of-4.ensures.read numbers.moment has.moment

pub returns-in_default-number_of-5 : goal.returns-in_default-number_of-5
returns-in_default-number_of-5 c =
    λ numbers has. c.in_default-number_of-5.ensures.read numbers.interface has.interface

pub returns-in_default-number_of-6 : goal.returns-in_default-number_of-6
returns-in_default-number_of-6 c =
    λ numbers has. c.in_default-number_of-6.ensures.read numbers.next_hops has.next_hops

-- no other numbers have room
pub returns-then-interface-next_hops-gt64 :
    goal.returns-then-interface-next_hops-gt64
returns-then-interface-next_hops-gt64 c = λ numbers has.
    let rows = rows_of (found_of c.args.matches.now) in
    let first = same_number rows (codes "interface") 0 0 63 c.in-Some-number_of-5.interface
    numbers.interface (lit< tt) c.in-Some-number_of-5.ensures.read has.interface in
    let count = same_number rows (codes "next-hops") 1 1 64 c.in-Some-number_of-6.next_hops
    numbers.next_hops (lit< tt) c.in-Some-number_of-6.ensures.read has.next_hops in
    omega (arith, first, count, has.room, c.if-interface-next_hops-gt64.true)

pub returns : goal.returns
returns c = record {
  metric = c.in-Some.ensures.read;
  tag = c.in-Some-number_of.ensures.read;
  cost = c.in-Some-number_of-2.ensures.read;
  distance = c.in-Some-number_of-3.ensures.read;
  moment = c.in-Some-number_of-4.ensures.read;
  interface = c.in-Some-number_of-5.ensures.read;
  next_hops = c.in-Some-number_of-6.ensures.read;
  room = omega (arith, c.if-interface-next_hops-gt64.false);
}
