-- Worked events: answers of the programs that don't change the database.
use Rattle.std.specs.Prelude.{◌≡◌, ℕ, false, List, [], None, Some}
use Rattle.std.specs.FinMap as finite
use Rattle.words.specs.declared.key.Key.{Key}
use Rattle.words.specs.declared.route.Route.{Route}
use Rattle.lsdb.specs.Copies.{DatabaseCopy, is_aged_out}
use Rattle.event_rules.specs.declared.model.Out.{Out}
use Rattle.event_rules.specs.Events.{Happens}
use Rattle.event_rules.specs.Routers.{Occurrence, Router}
use Rattle.agreement_laws.specs.WorkedUpdates.{IsAtRest}

-- a copy that hasn't reached MaxAge stays the same, and none is added
pub record KeepsTheYoung (old : Router) (moment : ℕ) (new : Router) : Type 0 where
  pub young : (key : Key) (c : DatabaseCopy) → finite.get old.area.database key ≡ Some c
      → is_aged_out moment c ≡ false → finite.get new.area.database key ≡ Some c
  pub none : (key : Key) → finite.get old.area.database key ≡ None
      → finite.get new.area.database key ≡ None

-- the answers of the programs, vetoes included, change only the routing table: nothing is sent, and
-- database and adjacencies stay the same
abbrev pub AnswersChangeNoDatabase : Type 0
AnswersChangeNoDatabase =
    (old new : Router) (moment : ℕ) (answers : List (Route × ℕ)) (outs : List Out)
    → IsAtRest old moment → Happens old moment (Occurrence.Install answers) outs new
    → (outs ≡ []) × (new.answers ≡ answers) × (new.area.links ≡ old.area.links)
    × KeepsTheYoung old moment new
