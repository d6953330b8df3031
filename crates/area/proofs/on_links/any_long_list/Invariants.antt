use Rattle.std.proofs.Common.{◌≡◌, map}
use Rattle.received.specs.Links.{any_long_list, has_long_list}
use Rattle.area.specs.Links.{present}
use Rattle.area.proofs.AnyLink.{any_from}
use Rattle.area.proofs.on_links.any_long_list.Given as goal

abbrev pub invariant-loop-i : goal.invariant-loop-i
invariant-loop-i l = any_long_list (map present l.links)
    ≡ any_from present has_long_list l.i l.links
