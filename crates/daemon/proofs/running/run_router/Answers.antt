use Rattle.daemon.proofs.AsMany.{bound_still, ran_for}
use Rattle.daemon.proofs.running.run_router.Goals as goal

pub returns-clause-ran : goal.returns-clause-ran
returns-clause-ran g c =
    ran_for c.args.text.now _ c.in_ok-configured.configured c.as_slice.result.now
    c.in_ok-wires.wires.items c.deref.result.now c.in_ok-ended.ended
    c.in_ok-configured.ensures.said c.as_slice.ensures c.in_ok-wires.ensures.bound
    c.deref.ensures.value c.in_ok-ended.ensures.ran

pub run_over-requires-after_bounds : goal.run_over-requires-after_bounds
run_over-requires-after_bounds g c κs within =
    bound_still _ c.as_slice.result.now c.in_ok-configured.configured.interfaces
    c.in_ok-wires.wires.items c.deref.result.now c.as_slice.ensures c.deref.ensures.value
    c.in_ok-wires.ensures.bound
