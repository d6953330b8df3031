use Rattle.verifier.proofs.follow.end.Goals as goal

pub returns-clause-free : goal.returns-clause-free
returns-clause-free g c = c.an_answer_is_never_stuck.ensures.free
    c.in_ok-check_answer.ensures.answers
