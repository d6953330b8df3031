-- What is offered to one destination (RFC 2328, section 16.4).
use Rattle.std.specs.Prelude.{◌≡◌, ◌↔◌, true, List, Option, Some}
use Rattle.std.specs.FinMap as finite
use Rattle.std.specs.List.{Contains}
use Rattle.candidates.specs.Inner.{AreInner, AreSearchable}
use Rattle.candidates.specs.declared.inner.InnerRoutes.{InnerRoutes}
use Rattle.lsa.specs.declared.body.LsaBody.{LsaBody}
use Rattle.lsdb.specs.Copies.{Database}
use Rattle.candidates.specs.Sources.{OfExternal}
use Rattle.candidates.specs.Ways.{AreWays, Ways}
use Rattle.routes.specs.Candidates.{IsCandidate}
use Rattle.routes.specs.Contents.{Contents}
use Rattle.routes.specs.declared.offer.Offer.{Offer}
use Rattle.routes.specs.declared.root.Root.{Root}
use Rattle.words.specs.Prefixes.{IsUnder, Network}
use Rattle.words.specs.declared.key.Key.{Key}
use Rattle.words.specs.declared.route.Route.{Route}

-- they are the results from the LSAs of types 1 to 4, and can be searched
pub record Knows (contents : Contents) (root : Root) (inner : InnerRoutes) : Type 0 where
  pub ways : Ways
  pub are_ways : AreWays contents root ways
  pub are_inner : AreInner contents root ways inner
  pub searchable : AreSearchable inner

-- ---- the keys of AS-external-LSAs

-- the key of an AS-external-LSA whose Link State ID is in the network
abbrev pub LiesUnder : Network → Key → Type 0
LiesUnder prefix key = (key.ls_type ≡ 5) × IsUnder key.link_state_id prefix

-- the least such key
abbrev pub first_key : Network → Key
first_key prefix =
    record { ls_type = 5; link_state_id = prefix.address; advertising_router = 0 }

-- those keys of the database are among these
abbrev pub HaveAllUnder : Database → Network → List Key → Type 0
HaveAllUnder db prefix keys =
    (key : Key) → finite.contains_key db key ≡ true → LiesUnder prefix key → Contains keys key

-- ---- offers

-- the offer is this one, and is to the destination
abbrev pub IsTo : Network → Offer → Offer → Type 0
IsTo prefix one o = (o ≡ one) × (o.prefix ≡ prefix)

-- an AS-external-LSA with this body makes the offer, to the destination
abbrev pub SaysTo : Root → InnerRoutes → Network → Key × LsaBody → Offer → Type 0
SaysTo root inner prefix one o =
    OfExternal root inner.flagged.items inner.boundary_routes.items inner.networks.items one o
    × (o.prefix ≡ prefix)

-- the AS-external-LSA with this key does
pub record OffersTo (contents : Contents) (root : Root) (inner : InnerRoutes) (prefix : Network)
    (key : Key) (o : Offer) : Type 0 where
  pub says : LsaBody
  pub its : contents key ≡ Some says
  pub offers : SaysTo root inner prefix (key, says) o

-- ---- routes

-- the one candidate for the destination, or None
abbrev pub IsBestTo : Contents → Root → Network → Option Route → Type 0
IsBestTo contents root prefix best =
    (r : Route) → (best ≡ Some r) ↔ (IsCandidate contents root r × (r.prefix ≡ prefix))
