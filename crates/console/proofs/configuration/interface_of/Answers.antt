use Rattle.std.proofs.Common.{◌∙◌, arith, refl}
use Rattle.console.proofs.Seen.{both, none, seen, told_nothing, word_at}
use Rattle.console.proofs.configuration.interface_of.Goals as goal

pub returns-in_err-address : goal.returns-in_err-address
returns-in_err-address c = told_nothing c.from_residual.result _ _ c.from_residual.ensures
    (λ i is e.
    c.in_err-address.ensures (record {
      address = i.interface.address;
      length = i.interface.length;
    }) is.address is.length
    (word_at c.args.words.now none 0 _ (omega arith) e)
    (word_at c.args.words.now none 1 _ (omega arith) e)
    (word_at c.args.words.now none 2 _ (omega arith) e))

pub returns-in_err-cost : goal.returns-in_err-cost
returns-in_err-cost c = told_nothing c.from_residual-in_err-cost.result _ _
    c.from_residual-in_err-cost.ensures (λ i is e.
    c.in_err-cost.ensures i.interface.cost is.cost.0 (omega (arith, is.cost.1))
    (word_at c.args.words.now none 3 _ (omega arith) e)
    (word_at c.args.words.now none 4 _ (omega arith) e))

pub returns-in_err-hello_interval : goal.returns-in_err-hello_interval
returns-in_err-hello_interval c = told_nothing c.from_residual-in_err-hello_interval.result _ _
    c.from_residual-in_err-hello_interval.ensures (λ i is e.
    c.in_err-hello_interval.ensures i.interface.hello_interval is.hello_interval.0
    (omega (arith, is.hello_interval.1)) (word_at c.args.words.now none 5 _ (omega arith) e)
    (word_at c.args.words.now none 6 _ (omega arith) e))

pub returns-in_err-dead_interval : goal.returns-in_err-dead_interval
returns-in_err-dead_interval c = told_nothing c.from_residual-in_err-dead_interval.result _ _
    c.from_residual-in_err-dead_interval.ensures (λ i is e.
    c.in_err-dead_interval.ensures i.interface.dead_interval is.dead_interval.0
    (omega (arith, is.dead_interval.1)) (word_at c.args.words.now none 7 _ (omega arith) e)
    (word_at c.args.words.now none 8 _ (omega arith) e))

pub returns-in_err-retransmit_interval : goal.returns-in_err-retransmit_interval
returns-in_err-retransmit_interval c =
    told_nothing c.from_residual-in_err-retransmit_interval.result _ _
    c.from_residual-in_err-retransmit_interval.ensures (λ i is e.
    c.in_err-retransmit_interval.ensures i.interface.retransmit_interval is.retransmit_interval.0
    (omega (arith, is.retransmit_interval.1))
    (word_at c.args.words.now none 9 _ (omega arith) e)
    (word_at c.args.words.now none 10 _ (omega arith) e))

pub returns-in_err-delay : goal.returns-in_err-delay
returns-in_err-delay c = told_nothing c.from_residual-in_err-delay.result _ _
    c.from_residual-in_err-delay.ensures (λ i is e.
    c.in_err-delay.ensures i.interface.delay is.delay.0 (omega (arith, is.delay.1))
    (word_at c.args.words.now none 11 _ (omega arith) e)
    (word_at c.args.words.now none 12 _ (omega arith) e))

pub returns-in_err-udp_port : goal.returns-in_err-udp_port
returns-in_err-udp_port c = told_nothing c.from_residual-in_err-udp_port.result _ _
    c.from_residual-in_err-udp_port.ensures (λ i is e.
    c.in_err-udp_port.ensures i.udp_port is.udp_port.0 (omega (arith, is.udp_port.1))
    (word_at c.args.words.now none 13 _ (omega arith) e)
    (word_at c.args.words.now none 14 _ (omega arith) e))

pub returns-in_err-peer : goal.returns-in_err-peer
returns-in_err-peer c = told_nothing c.from_residual-in_err-peer.result _ _
    c.from_residual-in_err-peer.ensures (λ i is e.
    c.in_err-peer.ensures i.peer is.peer.0 (omega (arith, is.peer.1))
    (word_at c.args.words.now none 15 _ (omega arith) e)
    (word_at c.args.words.now none 16 _ (omega arith) e))

pub returns : goal.returns
returns c =
    let s = seen c.args.words.now none 17 (omega arith) in (
      s ∙ both c.in_ok-address.ensures.0
          (both c.in_ok-address.ensures.1
          (both c.in_ok-address.ensures.2
          (both c.in_ok-cost.ensures.0
          (both c.in_ok-cost.ensures.1
          (both c.in_ok-hello_interval.ensures.0
          (both c.in_ok-hello_interval.ensures.1
          (both c.in_ok-dead_interval.ensures.0
          (both c.in_ok-dead_interval.ensures.1
          (both c.in_ok-retransmit_interval.ensures.0
          (both c.in_ok-retransmit_interval.ensures.1
          (both c.in_ok-delay.ensures.0
          (both c.in_ok-delay.ensures.1
          (both c.in_ok-udp_port.ensures.0
          (both c.in_ok-udp_port.ensures.1
          (both c.in_ok-peer.ensures.0
          (both c.in_ok-peer.ensures.1
          (refl))))))))))))))))),
      record {
        address = c.in_ok-address.ensures.3;
        length = c.in_ok-address.ensures.4;
        cost = (c.in_ok-cost.ensures.2, omega (arith, c.in_ok-cost.ensures.3));
        hello_interval = (
          c.in_ok-hello_interval.ensures.2,
          omega (arith, c.in_ok-hello_interval.ensures.3),
        );
        dead_interval = (
          c.in_ok-dead_interval.ensures.2,
          omega (arith, c.in_ok-dead_interval.ensures.3),
        );
        retransmit_interval = (
          c.in_ok-retransmit_interval.ensures.2,
          omega (arith, c.in_ok-retransmit_interval.ensures.3),
        );
        delay = (c.in_ok-delay.ensures.2, omega (arith, c.in_ok-delay.ensures.3));
        udp_port = (c.in_ok-udp_port.ensures.2, omega (arith, c.in_ok-udp_port.ensures.3));
        peer = (c.in_ok-peer.ensures.2, omega (arith, c.in_ok-peer.ensures.3));
      },
    )
