use Rattle.std.proofs.Common.{◌≡◌, ℕ}
use Rattle.candidates.specs.Entries.{attached_entry}
use Rattle.candidates.specs.Graphs.{Adds}
use Rattle.candidates.specs.declared.entry.AdvertisedLink.{AdvertisedLink}
use Rattle.candidates.proofs.Lists.{OfFront}
use Rattle.candidates.proofs.entries.add_list.Given as goal

abbrev pub invariant-loop-router : goal.invariant-loop-router
invariant-loop-router l = Adds (OfFront
    (λ (router : ℕ) (entry : AdvertisedLink). entry ≡ attached_entry l.id l.place router)
    l.router-items
    l.router-index) l.fn.entries.items l.entries.items
