-- Worked events: an answer with LSInfinity, 16,777,215, as the metric withholds a destination, and
-- one with the largest metric below it announces it (RFC 2328, section 12.4.4 and appendix B).
use Rattle.std.specs.Prelude.{◌≡◌, ℕ, true, List, Option, None, Some}
use Rattle.std.specs.FinMap as finite
use Rattle.words.specs.Numbers.{Moment}
use Rattle.words.specs.declared.route.External.{External}
use Rattle.lsdb.specs.Headers.{Lsa}
use Rattle.event_rules.specs.declared.model.Out.{Out}
use Rattle.event_rules.specs.Commands.{answered_external}
use Rattle.event_rules.specs.Events.{Happens}
use Rattle.event_rules.specs.Originations.{external_body, external_key, interval_is_over}
use Rattle.event_rules.specs.Originations.{new_instance}
use Rattle.event_rules.specs.Routers.{Occurrence, Router}
use Rattle.agreement_laws.specs.WorkedUpdates.{IsAtRest}

-- nothing is announced and there is no copy with the destination's key, and MinLSInterval has
-- passed
pub record MayAnnounce (r : Router) (moment : Moment) (e : External) : Type 0 where
  pub unannounced : finite.get r.announced (external_key r.id e.prefix) ≡ None
  pub no_copy : finite.get r.area.database (external_key r.id e.prefix) ≡ None
  pub is_over : interval_is_over moment
      (finite.get r.originated (external_key r.id e.prefix)) ≡ true

-- the first AS-external-LSA for the destination, with the metric and the tag from the answers
abbrev pub first_external : Router → External → (tag : ℕ) → (metric : ℕ) → Lsa
first_external r e tag metric =
    new_instance (external_key r.id e.prefix) None (external_body (answered_external e tag metric))

pub record MetricsAnnounceOrWithhold : Type 0 where
  -- 16,777,214: the destination is announced with it, and its LSA is in the database
  pub announces : (old new : Router) (moment tag : ℕ) (e : External) (outs : List Out)
      → IsAtRest old moment → MayAnnounce old moment e
      → Happens old moment (Occurrence.Redistribute e tag e 16777214) outs new
      → (finite.get new.announced (external_key old.id e.prefix)
      ≡ Some (answered_external e tag 16777214))
      × ((sent : Option ℕ) × (finite.get new.area.database (external_key old.id e.prefix)
      ≡ Some (record {
        lsa = first_external old e tag 16777214;
        stored = moment;
        received = None;
        sent = sent;
      })))
  -- 16,777,215: it isn't announced, and the database has no LSA for it
  pub withholds : (old new : Router) (moment tag : ℕ) (e : External) (outs : List Out)
      → IsAtRest old moment → MayAnnounce old moment e
      → Happens old moment (Occurrence.Redistribute e tag e 16777215) outs new
      → (finite.get new.announced (external_key old.id e.prefix) ≡ None)
      × (finite.get new.area.database (external_key old.id e.prefix) ≡ None)
