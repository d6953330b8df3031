-- The configuration that a text spells is valid for a router.
use Rattle.std.specs.Prelude.{◌≡◌, ℕ, ◌<◌, true, List, map}
use Rattle.words.specs.Constants.{clock_end}
use Rattle.words.specs.Numbers.{Moment}
use Rattle.event_rules.specs.Routers.{in_profile}
use Rattle.event_rules.specs.declared.model.Config.{Config}
use Rattle.console.specs.Configurations.{Says, interface_of}
use Rattle.console.specs.declared.configuration.Configured.{Configured}

-- the router's configuration from what was read, with a moment of start
abbrev pub config_from : Moment → Configured → Config
config_from start c = record {
  router = c.router;
  start = start;
  interfaces = map interface_of c.interfaces;
}

-- whatever a text spells is valid for a router, with any moment of the clock as its start
abbrev pub ConfigurationsAreInProfile : Type 0
ConfigurationsAreInProfile =
    (text : List ℕ) → (c : Configured) → (start : Moment) → start < clock_end
    → Says text c → in_profile (config_from start c) ≡ true
