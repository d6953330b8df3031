use Rattle.hooktool_trials.proofs.requests.asked_in.Goals as goal

pub asked_of-requires : goal.asked_of-requires
asked_of-requires c = c.in-Ok-numbers_of.ensures.room

pub returns-in-Err : goal.returns-in-Err
returns-in-Err c = λ p has. c.in-Err.ensures has.places has.named

pub returns-in-Err-numbers_of : goal.returns-in-Err-numbers_of
returns-in-Err-numbers_of c = λ p has. c.in-Err-numbers_of.ensures has.numbers has.counted

pub returns-in-None : goal.returns-in-None
returns-in-None c = λ p has. c.in-None.ensures.read p.1 has.times

pub returns-in-Some : goal.returns-in-Some
returns-in-Some c = record {
  places = c.in-Ok.places;
  numbers = c.in-Ok-numbers_of.numbers;
  named = c.in-Ok.ensures;
  counted = c.in-Ok-numbers_of.ensures;
  asked = c.asked_of.ensures;
  times = c.in-Some.ensures.read;
}
