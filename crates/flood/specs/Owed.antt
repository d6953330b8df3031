-- How much the neighbor at an interface owes this router.
use Rattle.std.specs.Prelude.{ℕ}
use Rattle.words.specs.Numbers.{InterfaceNumber}
use Rattle.area.specs.Owed.{owed_on}
use Rattle.received.specs.Links.{neighbor_at}
use Rattle.event_rules.specs.Routers.{Router}

-- what the one at the interface with this number owes; nothing if there is none
abbrev pub owed_at : Router → InterfaceNumber → ℕ
owed_at r interface = owed_on (neighbor_at interface r.area.links)
