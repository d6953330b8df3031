use Rattle.std.proofs.Common.{◌≡◌, take}
use Rattle.keyed_map.proofs.pages.Pages.copy.Given as goal

abbrev pub invariant-loop-page : goal.invariant-loop-page
invariant-loop-page g l = l.pages.items ≡ take l.page-index l.self-inside.pages.items
