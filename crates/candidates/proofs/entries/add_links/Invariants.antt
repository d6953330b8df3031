use Rattle.std.proofs.Common.{◌≡◌, Some}
use Rattle.lsa.specs.declared.body.RouterLink.{RouterLink}
use Rattle.candidates.specs.Entries.{entry_of}
use Rattle.candidates.specs.Graphs.{Adds}
use Rattle.candidates.specs.declared.entry.AdvertisedLink.{AdvertisedLink}
use Rattle.candidates.proofs.Lists.{OfFront}
use Rattle.candidates.proofs.entries.add_links.Given as goal

abbrev pub invariant-loop-link : goal.invariant-loop-link
invariant-loop-link l = Adds (OfFront
    (λ (link : RouterLink) (entry : AdvertisedLink). entry_of l.router link ≡ Some entry)
    l.link-items
    l.link-index) l.fn.entries.items l.entries.items
