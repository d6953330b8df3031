-- What a valid configuration means for the start.
use Rattle.std.proofs.Common.{◌≡◌, ◌≤◌, true, length, List, map, [], ◌∷◌, refl}
use Rattle.std.proofs.Common.{sym, ap, ◌∙◌, arith}
use Rattle.std.proofs.lemmas.Bool.{and_parts, leb-true}
use Rattle.std.proofs.lemmas.List.{length-map}
use Rattle.adjacency.specs.declared.interface.Interface.{Interface}
use Rattle.event_rules.specs.declared.model.Config.{Config}
use Rattle.event_rules.specs.EventState.{EventState}
use Rattle.event_rules.specs.Routers.{fresh_link, in_profile}
use Rattle.area.specs.Kept.{KeptLink}
use Rattle.area.specs.Links.{present}
use Rattle.router.specs.Kept.{KeptRouter}
use Rattle.router.specs.Making.{Makes}
use Rattle.router.proofs.Making.{making_starts}
use Rattle.flood.specs.Starts.{fresh_kept}

pub few_interfaces : (c : Config) → in_profile c ≡ true → length c.interfaces ≤ 63
few_interfaces c e =
    let a = and_parts _ _ e in
    let b = and_parts _ _ a.0 in
    let d = and_parts _ _ b.0 in
    leb-true (length c.interfaces) 63 d.1

pub few_links : (c : Config) (links : List KeptLink) → in_profile c ≡ true
    → map present links ≡ map fresh_link c.interfaces → length links ≤ 63
few_links c links e same =
    let count : length links ≡ length c.interfaces =
    sym (length-map links present) ∙ ap length same ∙ length-map c.interfaces fresh_link in
    omega (arith, count, few_interfaces c e)

pub fresh_links : (xs : List Interface) → map present (map fresh_kept xs) ≡ map fresh_link xs
fresh_links [] = refl
fresh_links (x ∷ xs) = ap (λ ls. fresh_link x ∷ ls) (fresh_links xs)

-- a part that is done first
pub started : (f : EventState → EventState) (old new : KeptRouter) → Makes f old new
    → new.present ≡ (f (record { router = old.present; sends = [] })).router
started f old new m = (m.part (record {
  router = old.present;
  sends = [];
}) old.drafted (making_starts old)).router
