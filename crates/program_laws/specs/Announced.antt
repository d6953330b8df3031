-- What programs at `tag` and `price` can't do: a router announces no destination that its operator
-- didn't ask for, and none with a metric of LSInfinity.
use Rattle.std.specs.Prelude.{◌≡◌, ℕ, ◌<◌, List, Some}
use Rattle.std.specs.List.{Contains}
use Rattle.std.specs.FinMap as finite
use Rattle.words.specs.Constants.{ls_infinity}
use Rattle.words.specs.declared.key.Key.{Key}
use Rattle.words.specs.declared.route.External.{External}
use Rattle.lsa.specs.declared.body.LsaBody.TheVariants as body
use Rattle.lsa.specs.declared.body.ExternalLsa.{ExternalLsa}
use Rattle.event_rules.specs.Commands.{answered_external}
use Rattle.event_rules.specs.Events.{Run, Step, initial}
use Rattle.event_rules.specs.Originations.{external_body, external_key, wanted_body}
use Rattle.event_rules.specs.Routers.{Occurrence, Router}
use Rattle.event_rules.specs.declared.model.Config.{Config}

-- One of the events asked to announce the destination: it is the operator's, with the metric and
-- the tag that programs answered, and that metric is below LSInfinity.
pub record IsAskedFor (steps : List Step) (e : External) : Type 0 where
  pub step : Step
  pub among : Contains steps step
  pub tagged : External
  pub tag : ℕ
  pub asked : External
  pub price : ℕ
  pub is : step.event ≡ Occurrence.Redistribute tagged tag asked price
  pub answers : e ≡ answered_external asked tag price
  pub below : price < ls_infinity

-- in a run from the start
pub record WhatIsAnnouncedWasAskedFor : Type 0 where
  -- each destination that is announced
  pub announced : (c : Config) (steps : List Step) (r : Router) → Run (initial c) steps r
      → (key : Key) (e : External) → finite.get r.announced key ≡ Some e
      → (key ≡ external_key r.id e.prefix) × IsAskedFor steps e
  -- the wanted body of each self-originated AS-external-LSA
  pub told : (c : Config) (steps : List Step) (r : Router) → Run (initial c) steps r
      → (key : Key) (lsa : ExternalLsa) → wanted_body r key ≡ Some (body.External lsa)
      → (e : External) × IsAskedFor steps e × (body.External lsa ≡ external_body e)
