-- What a router sends in an event, as the laws on two neighbors suppose it of both.
use Rattle.std.specs.Prelude.{List}
use Rattle.std.specs.List.{AllByRecursion}
use Rattle.words.specs.Numbers.{Moment}
use Rattle.event_rules.specs.declared.model.Out.{Out}
use Rattle.event_rules.specs.Endings.{end_event}
use Rattle.event_rules.specs.Events.{Happens}
use Rattle.event_rules.specs.Routers.{Occurrence, Router}
use Rattle.invariants.specs.Keeping.{AreTexts, IsIdentityInRange}
use Rattle.invariants.specs.Known.{instances_in_sends}

-- The event happens; the instances that it sends have their numbers in their ranges, and what is
-- sent at each interface is encoded as the texts of its packets.
pub record SendsLawfully (old : Router) (moment : Moment) (event : Occurrence)
    (outs : List Out) (new : Router) : Type 0 where
  pub happens : Happens old moment event outs new
  pub in_range : AllByRecursion IsIdentityInRange
      (instances_in_sends (end_event old moment happens.after).sends)
  pub texts : AreTexts old.id old.area.links (end_event old moment happens.after).sends
