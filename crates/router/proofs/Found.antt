-- The decision about a self-originated LSA, and carrying it out.
use Rattle.std.proofs.Common.{◌≡◌, ℕ, Bool, true, false, cond, List, Option, None, Some, sym, ap}
use Rattle.std.proofs.Common.{◌∙◌}
use Rattle.std.specs.FinMap as finite
use Rattle.words.specs.declared.key.Key.{Key}
use Rattle.words.specs.declared.route.External.{External}
use Rattle.keyed_map.specs.Keys.{same_key}
use Rattle.lsa.specs.declared.body.LsaBody.{LsaBody}
use Rattle.lsdb.specs.Copies.{Database}
use Rattle.received.specs.Links.{Link}
use Rattle.event_rules.specs.EventState.{EventState}
use Rattle.event_rules.specs.Originations.{announced_body, external_body, external_key}
use Rattle.event_rules.specs.Originations.{originate_body}
use Rattle.event_rules.specs.Originations.{router_body, router_key, wanted_body}
use Rattle.event_rules.specs.Routers.{Router}
use Rattle.router.proofs.Decided.{are_the_rules}
use Rattle.router.specs.Decisions.{after_origination, origination}
use Rattle.router.specs.declared.origination.Origination.{Origination}
use Rattle.router.specs.Owned.{AreOwn}
use Rattle.router.specs.Wanted.{originate_if_wanted, wanted_origination}
use Rattle.lsdb.proofs.Keys.{tied}

-- ---- which LSAs are wanted

abbrev wanted_by : Router → Key → Bool → Option LsaBody
wanted_by r key b = cond b (Some (router_body r.area.links))
    (announced_body (finite.get r.announced key))

by_own_id : (r : Router) (key : Key) (own : ℕ) (b : Bool) → own ≡ r.id
    → same_key key (router_key own) ≡ b → wanted_by r key b ≡ wanted_body r key
by_own_id r key own b id test = sym
    (ap (wanted_by r key) (ap (λ n. same_key key (router_key n)) (sym id) ∙ test))

pub found_router : (may_now : Bool) (moment : ℕ) (key : Key) (r : Router) (own : ℕ)
    (links : List Link) (d : Database) (last : Option ℕ) (found : Origination) → own ≡ r.id
    → same_key key (router_key own) ≡ true → links ≡ r.area.links → d ≡ r.area.database
    → last ≡ finite.get r.originated key
    → found ≡ origination may_now moment (router_key own) (router_body links)
    (finite.get d (router_key own)) last
    → Some found ≡ wanted_origination may_now moment key r (wanted_body r key)
found_router may_now moment key r own links d last found id test these there at is =
    let named = sym (tied key (router_key own) test) in
    let here = is ∙ (λ i. origination may_now moment (named i) (router_body (these i))
    (finite.get (there i) (named i)) (at i)) in
    ap (λ x. Some x) here ∙ ap (wanted_origination may_now moment key r)
    (by_own_id r key own true id test)

pub found_external : (may_now : Bool) (moment : ℕ) (key : Key) (r : Router) (own : ℕ) (e : External)
    (d : Database) (last : Option ℕ) (found : Origination) → own ≡ r.id
    → same_key key (router_key own) ≡ false → finite.get r.announced key ≡ Some e
    → AreOwn r.id r.announced → d ≡ r.area.database → last ≡ finite.get r.originated key
    → found ≡ origination may_now moment (external_key own e.prefix) (external_body e)
    (finite.get d (external_key own e.prefix)) last
    → Some found ≡ wanted_origination may_now moment key r (wanted_body r key)
found_external may_now moment key r own e d last found id test announced own_keys there at is =
    let named = ap (λ n. external_key n e.prefix) id ∙ sym (own_keys key e announced).key in
    let here = is ∙ (λ i. origination may_now moment (named i) (external_body e)
    (finite.get (there i) (named i)) (at i)) in
    ap (λ x. Some x) here
    ∙ ap (λ o. wanted_origination may_now moment key r (announced_body o)) (sym announced)
    ∙ ap (wanted_origination may_now moment key r) (by_own_id r key own false id test)

-- ---- carrying out the decision

same_found : (a b : Origination) → Some a ≡ Some b → a ≡ b
same_found a b e = cc

-- for a given router
at_router : (may_now : Bool) (moment : ℕ) (key : Key) (p : EventState) (found : Origination)
    (wanted : Option LsaBody) → Some found ≡ wanted_origination may_now moment key p.router wanted
    → after_origination moment key found p ≡ originate_body may_now moment key wanted p
at_router may_now moment key p found None is = absurd cc
at_router may_now moment key p found (Some says) is =
    let what = origination may_now moment key says (finite.get p.router.area.database key)
    (finite.get p.router.originated key) in
    ap (λ f. after_origination moment key f p) (same_found found what is)
    ∙ are_the_rules may_now moment key says p

pub done_as_found : (may_now : Bool) (moment : ℕ) (key : Key) (old : Router) (found : Origination)
    → Some found ≡ wanted_origination may_now moment key old (wanted_body old key)
    → (p : EventState) → p.router ≡ old
    → after_origination moment key found p ≡ originate_if_wanted may_now moment key p
done_as_found may_now moment key old found is p same =
    at_router may_now moment key p found (wanted_body p.router key)
    (is ∙ ap (λ (r : Router). wanted_origination may_now moment key r (wanted_body r key))
    (sym same))
