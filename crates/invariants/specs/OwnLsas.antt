-- Which LSAs a router of one area originates (RFC 2328, section 12.4).
use Rattle.std.specs.Prelude.{◌≡◌, ℕ, ◌==◌, Bool, true, ◌||◌, List, Some}
use Rattle.words.specs.declared.key.Key.{Key}
use Rattle.lsa.specs.Text.{type_of}
use Rattle.lsa.specs.declared.body.LsaBody.{LsaBody}
use Rattle.event_rules.specs.declared.model.Config.{Config}
use Rattle.event_rules.specs.Events.{Run, Step, initial}
use Rattle.event_rules.specs.Originations.{wanted_body}
use Rattle.event_rules.specs.Routers.{Router}

-- a router-LSA or an AS-external-LSA
abbrev pub is_router_or_external : ℕ → Bool
is_router_or_external ls_type = ls_type == 1 || ls_type == 5

-- at every point of a run, the wanted body of a self-originated LSA is of its key's LS type, which
-- isn't that of network-LSAs or summary-LSAs
abbrev pub OnlyRouterAndExternalLsasAreWanted : Type 0
OnlyRouterAndExternalLsasAreWanted =
    (c : Config) (steps : List Step) (new : Router) → Run (initial c) steps new
    → (key : Key) (contents : LsaBody) → wanted_body new key ≡ Some contents
    → (is_router_or_external key.ls_type ≡ true) × (type_of contents ≡ key.ls_type)
