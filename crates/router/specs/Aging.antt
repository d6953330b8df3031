-- Copies that have reached MaxAge are flooded, and removed from the database once every neighbor
-- has acknowledged them.
use Rattle.std.specs.Prelude.{List, [], ◌∷◌, ◌++◌}
use Rattle.std.specs.List.{fold}
use Rattle.words.specs.Numbers.{Moment}
use Rattle.words.specs.declared.key.Key.{Key}
use Rattle.lsdb.specs.Copies.{Database}
use Rattle.received.specs.Links.{Area, Link}
use Rattle.received.specs.AreaStates.{AreaState}
use Rattle.area.specs.Links.{flood_new_max_age, with_no_sends, without_acknowledged}

abbrev pub without_each : List Link → Database → List Key → Database
without_each links db keys = fold (without_acknowledged links) db keys

-- what was sent first, and what was sent after it
abbrev pub outcomes_in_turn : AreaState → AreaState → AreaState
outcomes_in_turn p q = record { area = q.area; sends = p.sends ++ q.sends }

-- the copies of these keys that have reached MaxAge since the moment `before` are flooded in turn
abbrev pub flood_each_new_max_age : (before : Moment) → (moment : Moment) → List Key → Area
    → AreaState
flood_each_new_max_age before moment [] a = with_no_sends a
flood_each_new_max_age before moment (key ∷ keys) a =
    outcomes_in_turn (flood_new_max_age before moment key a)
    (flood_each_new_max_age before moment keys (flood_new_max_age before moment key a).area)
