use Rattle.std.proofs.Common.{◌≡◌, take}
use Rattle.keyed_map.specs.Places.{joined}
use Rattle.keyed_map.proofs.pages.Pages.to_vec.Given as goal

abbrev pub invariant-loop-page : goal.invariant-loop-page
invariant-loop-page g l = l.items.items ≡ joined (take l.page-index l.page-items)
