use Rattle.std.proofs.Common.{rules, ◌≡◌, ◌+◌, ◌-◌, All, length, map, sym, subst, arith}
use Rattle.std.proofs.lemmas.List.Elements.{All-push}
use Rattle.worker.specs.Descending.{CountDownTo}
use Rattle.worker.proofs.Counted.{counted_more}
use Rattle.worker.specs.Wires.{IsListening}
use Rattle.worker.proofs.sockets.socket_transports.listening_with.Goals as goal

pub loop-before-preserved : goal.loop-before-preserved
loop-before-preserved g c =
    let interface = length c.args.wires.now - c.loop-before.before in
    let same : c.in_ok-transport.transport.own ≡ interface = search rules in
    let more = counted_more (λ transport. transport.own) interface c.loop-before.transports.items
    c.in_ok-transport.transport
    same c.loop-before.invariant.interfaces in
    let next : length c.args.wires.now - (c.loop-before.before + 1) + 1 ≡ interface =
    omega (arith, c.loop-before-test) in
    let listens = g.P.ListensAt.listens in
    let there : IsListening listens c.args.wires.now c.in_ok-transport.transport.own
    c.in_ok-transport.transport.ear =
    subst (λ n. IsListening listens c.args.wires.now n c.in_ok-transport.transport.ear)
    (sym c.in_ok-transport.ensures.own) c.in_ok-transport.ensures.ear in
    record {
      each = search rules;
      interfaces = subst (λ n. CountDownTo n
          (map (λ transport. transport.own) c.push.new.self.items))
          (sym next)
          (subst (λ items. CountDownTo interface (map (λ transport. transport.own) items))
          (sym c.in_ok-push.ensures.items) more);
      wires = subst (λ items. All (λ transport. (transport.wires.now ≡ c.args.wires.now)
          × (transport.faults ≡ 0)) items) (sym c.in_ok-push.ensures.items)
          (All-push (λ transport. (transport.wires.now ≡ c.args.wires.now) × (transport.faults ≡ 0))
          c.loop-before.transports.items c.in_ok-transport.transport
          c.loop-before.invariant.wires c.in_ok-transport.ensures.wires);
      ears = subst (λ items. All (λ transport. IsListening listens c.args.wires.now transport.own
          transport.ear)
          items) (sym c.in_ok-push.ensures.items)
          (All-push (λ transport. IsListening listens c.args.wires.now transport.own transport.ear)
          c.loop-before.transports.items c.in_ok-transport.transport
          c.loop-before.invariant.ears there);
    }
