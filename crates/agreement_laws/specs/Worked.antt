-- Worked parts of events.
use Rattle.std.specs.Prelude.{◌≡◌, ◌%◌, ◌^◌, ℕ, pos, Bool, true, false, List, [], None, Some}
use Rattle.std.specs.FinMap as finite
use Rattle.words.specs.Prefixes.{Network}
use Rattle.words.specs.declared.key.Key.{Key}
use Rattle.words.specs.declared.route.External.{External}
use Rattle.words.specs.declared.route.ExternalType.TheVariants.{Type2}
use Rattle.words.specs.declared.route.Route.{Route}
use Rattle.lsa.specs.declared.body.LsaBody.{LsaBody}
use Rattle.lsdb.specs.Copies.{DatabaseCopy}
use Rattle.lsdb.specs.Headers.{Lsa, lsa_with_age}
use Rattle.event_rules.specs.declared.model.CoreError.TheVariants as error
use Rattle.event_rules.specs.Commands.{after_install, after_redistribute, after_withdraw}
use Rattle.event_rules.specs.Commands.{announce_as}
use Rattle.event_rules.specs.Commands.{end_want}
use Rattle.event_rules.specs.Refusals.{is_clock_back}
use Rattle.event_rules.specs.Originations.{external_key, flush, interval_is_over}
use Rattle.event_rules.specs.Originations.{refresh_time_is_over}
use Rattle.event_rules.specs.Originations.{originate_body}
use Rattle.event_rules.specs.Packing.{sent_lsa}
use Rattle.event_rules.specs.EventState.{EventState}
use Rattle.agreement_laws.specs.WorkedUpdates.{IsAtRest}
use Rattle.event_rules.specs.Events.{Happens}
use Rattle.event_rules.specs.declared.model.Out.{Out}
use Rattle.event_rules.specs.Refusals.{refusal_before_limits}
use Rattle.event_rules.specs.Routers.{Occurrence, Router}

-- the network of 10.0.0.0 with the given length, and it as an external destination with metric 20
abbrev pub ten : ℕ → Network
ten length = record { address = 167772160; length = length }

abbrev pub destination : Network → External
destination prefix = record { prefix = prefix; metric = 20; kind = Type2; tag = 0 }

-- a copy that was installed by flooding at this moment
abbrev pub flooded_copy : Lsa → ℕ → DatabaseCopy
flooded_copy lsa at = record { lsa = lsa; stored = at; received = Some at; sent = None }

pub record WorkedEvents : Type 0 where
  -- 10.0.0.0/16 can't be announced together with 10.0.0.0/8, and withdrawing what isn't announced
  -- changes nothing
  pub clashes : (old : Router) (moment tag price : ℕ) → is_clock_back moment old ≡ false
      → finite.get old.announced (external_key old.id (ten 16)) ≡ Some (destination (ten 8))
      → refusal_before_limits old moment
      (Occurrence.Redistribute (destination (ten 16)) tag (destination (ten 16)) price) ≡
      Some error.Clash
  pub unknown : (moment : ℕ) (prefix : Network) (p : EventState)
      → finite.get p.router.announced (external_key p.router.id prefix) ≡ None
      → after_withdraw moment prefix p ≡ p
  -- the complete event of such a withdrawal sends nothing, if no neighbor is in Exchange or Loading
  -- and no copy reaches MaxAge
  pub unknown_event : (old new : Router) (moment : ℕ) (prefix : Network) (outs : List Out)
      → IsAtRest old moment
      → finite.get old.announced (external_key old.id prefix) ≡ None
      → Happens old moment (Occurrence.Withdraw prefix) outs new → outs ≡ []
  -- the answers for the offered routes are kept, and nothing else is changed or sent
  pub vetoed : (answers : List (Route × ℕ)) (p : EventState) → after_install answers p
      ≡ record p { router = record p.router { answers = answers } }
  -- a metric of 16,777,215 withholds the destination, 16,777,214 announces it
  pub withheld : (moment tag : ℕ) (e : External) (p : EventState)
      → after_redistribute moment e tag 16777215 p
      ≡ end_want moment (external_key p.router.id e.prefix) p
  pub announced : (moment tag : ℕ) (e : External) (p : EventState)
      → after_redistribute moment e tag 16777214 p
      ≡ announce_as moment (external_key p.router.id e.prefix)
      (record e { metric = 16777214; tag = tag % 2 ^ 32 }) p
  -- after an instance at moment 0 the next one is originated at 5 and not before; a copy is
  -- refreshed at 1800
  pub too_early : interval_is_over 4 (Some 0) ≡ false
  pub in_time : interval_is_over 5 (Some 0) ≡ true
  pub young : (lsa : Lsa) → refresh_time_is_over 1799 (Some (flooded_copy (lsa_with_age 0 lsa) 0))
      ≡ false
  pub renewed : (lsa : Lsa) → refresh_time_is_over 1800 (Some (flooded_copy (lsa_with_age 0 lsa) 0))
      ≡ true
  -- a copy with MaxSequenceNumber is flushed before its LSA is originated again
  pub wraps : (may_now : Bool) (moment : ℕ) (key : Key) (contents : LsaBody) (c : DatabaseCopy)
      (p : EventState) → finite.get p.router.area.database key ≡ Some c
      → c.lsa.header.sequence ≡ pos 2147483647 → originate_body may_now moment key (Some contents) p
      ≡ flush moment key p
  -- the age in a packet is incremented up to MaxAge
  pub grows : (lsa : Lsa) → (sent_lsa 1 (lsa_with_age 3598 lsa)).header.age ≡ 3599
  pub grows_no_more : (lsa : Lsa) → (sent_lsa 5 (lsa_with_age 3598 lsa)).header.age ≡ 3600
