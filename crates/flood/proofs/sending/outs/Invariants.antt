use Rattle.std.proofs.Common.{◌≡◌, ◌≤◌, ◌+◌, length}
use Rattle.std.specs.Vec.Iter.{into_iter_items, into_iter_len}
use Rattle.flood.proofs.Drafting.{IsSending}
use Rattle.flood.proofs.sending.outs.Given as goal

abbrev pub invariant-loop-draft : goal.invariant-loop-draft
invariant-loop-draft l =
    IsSending l.own (into_iter_items l.initial.draft-iterator) l.interface l.outs.items
    (into_iter_items l.draft-iterator)
    × (into_iter_len l.draft-iterator ≡ length (into_iter_items l.draft-iterator))
    × (l.interface + length (into_iter_items l.draft-iterator) ≤ 64)
