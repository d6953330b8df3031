-- A worked history of two neighbors: all premises of the law that Full neighbors agree on what was
-- refreshed can be met at once, and its exception for what was described is needed.
use Rattle.std.specs.Prelude.{◌≡◌, List, Some}
use Rattle.std.specs.FinMap as finite
use Rattle.words.specs.declared.key.Key.{Key}
use Rattle.lsdb.specs.Copies.{DatabaseCopy}
use Rattle.agreement_laws.specs.NeighborHistories.{Ends, IsHistory, Pair, Side, interface_of}
use Rattle.agreement_laws.specs.NeighborHistories.{other_side, party}
use Rattle.agreement_laws.specs.NeighborsAgree.{HoldsAsNew, IsFullAndAcknowledged}
use Rattle.event_rules.specs.InstanceIdentities.{identity_of_lsa}

-- a history after which a router is Full with the other one, holds a copy, and doesn't have it on
-- the retransmission list
pub record AHistoryMeetsThePremises : Type 0 where
  pub ends : Ends
  pub now : Pair
  pub earlier : List Pair
  pub history : IsHistory ends now earlier
  pub side : Side
  pub key : Key
  pub at_rest : IsFullAndAcknowledged (interface_of side ends) key (party side now).router
  pub copy : DatabaseCopy
  pub there : finite.get (party side now).router.area.database key ≡ Some copy
  -- the other one doesn't have it: it was described to it, and is requested now
  pub lacks : HoldsAsNew (party (other_side side) now).router (identity_of_lsa copy.lsa) → ⊥
