use Rattle.std.proofs.Common.{◌≡◌, ◌++◌, length, map}
use Rattle.std.specs.List.{AllByRecursion}
use Rattle.std.specs.Vec.Iter.{into_iter_items, into_iter_len}
use Rattle.event_rules.specs.Packing.{out_of}
use Rattle.router.specs.Texts.{CanBeSent, IsSentText}
use Rattle.router.proofs.writing.push_packets.Given as goal

-- sending the rest gives the whole result
abbrev pub invariant-loop-body : goal.invariant-loop-body
invariant-loop-body l =
    (l.outs.items ++ map (out_of l.own l.interface) (into_iter_items l.body-iterator)
    ≡ l.fn.outs.items ++ map (out_of l.own l.interface)
    (into_iter_items l.initial.body-iterator))
    × AllByRecursion CanBeSent (into_iter_items l.body-iterator)
    × (into_iter_len l.body-iterator ≡ length (into_iter_items l.body-iterator))
    × (AllByRecursion (IsSentText l.own) (into_iter_items l.body-iterator)
    → AllByRecursion (IsSentText l.own) (into_iter_items l.initial.body-iterator))
