-- Links at the start.
use Rattle.adjacency.specs.Drafts.{nothing_drafted}
use Rattle.adjacency.specs.declared.interface.Interface.{Interface}
use Rattle.event_rules.specs.Routers.{fresh_link}
use Rattle.area.specs.Kept.{KeptLink}

-- a link on which nothing was received, sent or drafted, committed
abbrev pub fresh_kept : Interface → KeptLink
fresh_kept i = record {
  present = fresh_link i;
  committed = fresh_link i;
  drafted = nothing_drafted;
}
