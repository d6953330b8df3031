use Rattle.std.proofs.Common.{◌≡◌}
use Rattle.candidates.specs.Graphs.{Adds}
use Rattle.candidates.specs.declared.entry.AdvertisedLink.{AdvertisedLink}
use Rattle.candidates.proofs.Lists.{OfFront}
use Rattle.candidates.proofs.entries.push_all.Given as goal

abbrev pub invariant-loop-entry : goal.invariant-loop-entry
invariant-loop-entry l = Adds (OfFront
    (λ (one : AdvertisedLink) (entry : AdvertisedLink). entry ≡ one) l.own
    l.entry-index) l.fn.entries.items l.entries.items
