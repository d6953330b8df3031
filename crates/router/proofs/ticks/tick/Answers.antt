use Rattle.router.proofs.Making.{makes_then, then_does}
use Rattle.router.specs.Parts.{send_what_is_due}
use Rattle.router.specs.TickParts.{originate_what_is_due, expire_timers_and_forget}
use Rattle.router.proofs.ticks.tick.Goals as goal

pub returns : goal.returns
returns c =
    let m = c.args.moment in
    then_does {f = λ p. originate_what_is_due m (expire_timers_and_forget m p)}
    {g = send_what_is_due m}
    c.send_what_is_due.result
    (makes_then c.in_ok-expire_timers.ensures.makes c.in_ok-originate_what_is_due.ensures.makes)
    c.send_what_is_due.ensures
