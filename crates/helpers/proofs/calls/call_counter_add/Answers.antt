use Rattle.helpers.proofs.calls.call_counter_add.Goals as goal

pub returns-clause-ok : goal.returns-clause-ok
returns-clause-ok c =
    let did = c.counter_add.ensures in
    let are = c.in_ok-counter.ensures.ok in
    (did.0, did.1, λ input. rw (are.0, are.1) (did.2 input))
