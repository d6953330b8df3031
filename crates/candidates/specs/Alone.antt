-- When the root alone is reached: no link of its router-LSA leads to a node (RFC 2328, A.4.2). Then
-- its own LSA alone offers something.
use Rattle.std.specs.Prelude.{◌≡◌, ℕ, Bool, true, false, List, [], ◌∷◌, Option, None, Some}
use Rattle.std.specs.List.{list_all}
use Rattle.words.specs.declared.key.Key.{Key}
use Rattle.lsa.specs.declared.body.LsaBody.{LsaBody}
use Rattle.lsa.specs.declared.body.RouterLink.{RouterLink}
use Rattle.lsa.specs.declared.body.LinkKind.{LinkKind}
use Rattle.lsa.specs.declared.body.LinkKind.TheVariants.{PointToPoint, Stub, Transit, Virtual}
use Rattle.lsa.specs.declared.body.RouterLsa.{RouterLsa}
use Rattle.routes.specs.Links.{IsRouterLsa}
use Rattle.routes.specs.Contents.{Contents}

-- a link of this kind leads to no router and no transit network of the area
abbrev pub leads_nowhere : LinkKind → Bool
leads_nowhere PointToPoint = false
leads_nowhere Transit = false
leads_nowhere Stub = true
leads_nowhere Virtual = true

abbrev pub HasNoWayOut : Contents → (router : ℕ) → Type 0
HasNoWayOut contents router = (lsa : RouterLsa) → IsRouterLsa contents router lsa
    → list_all (λ (link : RouterLink). leads_nowhere link.kind) lsa.links ≡ true

-- what the LSA with this key tells, if there is one
abbrev pub OfOne : {R : Type 0} → (Key × LsaBody → R → Type 0) → Key → Option LsaBody → R → Type 0
OfOne {R} Q key body r = (its_body : LsaBody) × (body ≡ Some its_body) × Q (key, its_body) r

abbrev pub list_of : {R : Type 0} → Option R → List R
list_of {R} None = []
list_of {R} (Some r) = r ∷ []
