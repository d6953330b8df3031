-- A router within its limits has a database within its own.
use Rattle.std.proofs.Common.{◌≡◌, false}
use Rattle.std.proofs.lemmas.Bool.{or_parts}
use Rattle.lsdb.specs.Limits.{exceeds as database_exceeds}
use Rattle.received.specs.Links.{any_long_list}
use Rattle.event_rules.specs.Refusals.{exceeds}
use Rattle.event_rules.specs.Routers.{Router}

pub database_within : (r : Router) → exceeds r ≡ false
    → database_exceeds r.id r.area.database ≡ false
database_within r e =
    (or_parts (database_exceeds r.id r.area.database) (any_long_list r.area.links) e).0
