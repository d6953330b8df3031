-- The context of a question that is put in named fields: as the router makes it of the same values.
use Rattle.std.specs.Prelude.{ℕ, List}
use Rattle.isa.specs.declared.hook.Hook.{Hook}
use Rattle.isa.specs.declared.hook.Hook.TheVariants as hooks
use Rattle.words.specs.declared.route.External.{External}
use Rattle.words.specs.declared.route.Route.{Route}
use Rattle.machine.specs.Contexts.{count_context, tag_context, price_context, veto_context}
use Rattle.hooktool_trials.specs.declared.asked.Asked.{Asked}

-- the external destination that is asked of
abbrev pub destination_of : Asked → External
destination_of asked = record {
  prefix = asked.prefix;
  metric = asked.metric;
  kind = asked.external;
  tag = asked.tag;
}

-- the route that is asked of
abbrev pub route_of : Asked → Route
route_of asked = record {
  prefix = asked.prefix;
  kind = asked.kind;
  cost = asked.cost;
  distance =
      asked.distance;
  hops = asked.hops;
  tag = asked.tag;
}

abbrev pub asked_context : Hook → Asked → (packet : List ℕ) → List ℕ
asked_context hooks.Count asked packet = count_context asked.interface asked.moment packet
asked_context hooks.Tag asked packet = tag_context (destination_of asked) asked.moment
asked_context hooks.Price asked packet = price_context (destination_of asked) asked.moment
asked_context hooks.Veto asked packet = veto_context (route_of asked) asked.moment
