-- Links of a database that is given as a list of copies.
use Rattle.std.proofs.Common.{◌≡◌, ℕ, zero, suc, ◌+◌, ◌<◌, ◌⊎◌, inl, inr, IsTrue, List, Some}
use Rattle.std.proofs.Common.{slice_get, arith, refl, ◌∙◌, ap}
use Rattle.std.specs.FinMap as finite
use Rattle.std.specs.Int.{bit_at}
use Rattle.std.specs.List.{Contains}
use Rattle.std.proofs.lemmas.Nat.Bits.{bit_at-suc, bit_at-zero}
use Rattle.words.specs.Interfaces.{has_interface}
use Rattle.words.specs.declared.key.Key.{Key}
use Rattle.lsa.specs.declared.body.LsaBody.{LsaBody}
use Rattle.lsa.specs.declared.body.RouterLink.{RouterLink}
use Rattle.lsa.specs.declared.body.LinkKind.TheVariants.{PointToPoint}
use Rattle.lsdb.specs.Keys.{key_cmp}
use Rattle.lsdb.proofs.Keys.{keys_total}
use Rattle.routes.specs.Links.{Counts, HasLink, IsRouterLsa, LinksBack, Says}
use Rattle.route_laws.specs.Worked.{Entries, copy_of, database, point_to_point, router_lsa}
use Rattle.routes.specs.declared.root.Root.{Root}
use Rattle.routes.proofs.Determined.{bit_of_member}
use Rattle.routes.specs.Contents.{contents_at, contents_of}

pub says : (es : Entries) (k : Key) (b : LsaBody) → finite.find key_cmp k es ≡ Some (copy_of k b)
    → Says (contents_at 0 (database es)) k b
says es k b e = ap (contents_of 0) (finite.get-from_entries keys_total es k ∙ e)

pub linked : (es : Entries) (router : ℕ) (links : List RouterLink)
    → IsRouterLsa (contents_at 0 (database es)) router (router_lsa links) → (l : RouterLink)
    → Contains links l → HasLink (contents_at 0 (database es)) router l
linked es router links its l among = record { lsa = router_lsa links; its = its; among = among }

-- the root's link by its n-th interface
pub from_root : (es : Entries) (root : Root) (links : List RouterLink)
    → IsRouterLsa (contents_at 0 (database es)) root.router (router_lsa links)
    → (neighbor address cost n : ℕ) → Contains links (point_to_point neighbor address cost)
    → 0 < cost → slice_get root.addresses n ≡ Some address
    → Counts (contents_at 0 (database es)) root root.router PointToPoint neighbor cost
    (n + 1)
from_root es root links its neighbor address cost n among not_free at = record {
  link = point_to_point neighbor address cost;
  its = linked es root.router links its (point_to_point neighbor address cost) among;
  is_kind = refl;
  is_id = refl;
  costs = refl;
  not_free = not_free;
  by_interface = λ _. (n, refl, at);
  elsewhere = λ other. absurd (other refl);
}

pub from_other : (es : Entries) (root : Root) (router : ℕ) (links : List RouterLink)
    → IsRouterLsa (contents_at 0 (database es)) router (router_lsa links)
    → (router ≡ root.router → ⊥)
    → (neighbor address cost : ℕ) → Contains links (point_to_point neighbor address cost)
    → 0 < cost → Counts (contents_at 0 (database es)) root router PointToPoint neighbor cost 0
from_other es root router links its other neighbor address cost among not_free = record {
  link = point_to_point neighbor address cost;
  its = linked es router links its (point_to_point neighbor address cost) among;
  is_kind = refl;
  is_id = refl;
  costs = refl;
  not_free = not_free;
  by_interface = λ e. absurd (other e);
  elsewhere = λ _. refl;
}

pub back : (es : Entries) (router : ℕ) (links : List RouterLink)
    → IsRouterLsa (contents_at 0 (database es)) router (router_lsa links)
    → (neighbor address cost : ℕ)
    → Contains links (point_to_point neighbor address cost)
    → LinksBack (contents_at 0 (database es)) router PointToPoint neighbor
back es router links its neighbor address cost among = (
  point_to_point neighbor address cost,
  linked es router links its (point_to_point neighbor address cost) among,
  refl,
  refl,
)

-- ---- small sets of interfaces

pub no_hop : (i : ℕ) → IsTrue (has_interface 0 i) → ⊥
no_hop i t = omega (arith, bit_at-zero i, bit_of_member 0 i t)

pub only_one : (i : ℕ) → IsTrue (has_interface 2 i) → i ≡ 1
only_one zero t = absurd (cc)
only_one (suc zero) t = refl
only_one (suc (suc i)) t = absurd (let e : bit_at 2 (suc (suc i)) ≡ 0 = bit_at-suc 2 (suc i)
    ∙ bit_at-suc 1 i ∙ bit_at-zero i in omega (arith, e, bit_of_member 2 (suc (suc i)) t))

pub only_two : (i : ℕ) → IsTrue (has_interface 4 i) → i ≡ 2
only_two zero t = absurd (cc)
only_two (suc zero) t = absurd (cc)
only_two (suc (suc zero)) t = refl
only_two (suc (suc (suc i))) t = absurd
    (let e : bit_at 4 (suc (suc (suc i))) ≡ 0 = bit_at-suc 4 (suc (suc i)) ∙ bit_at-suc 2 (suc i)
    ∙ bit_at-suc 1 i ∙ bit_at-zero i in omega (arith, e, bit_of_member 4 (suc (suc (suc i))) t))

pub one_or_two : (i : ℕ) → IsTrue (has_interface 6 i) → (i ≡ 1) ⊎ (i ≡ 2)
one_or_two zero t = absurd (cc)
one_or_two (suc zero) t = inl refl
one_or_two (suc (suc zero)) t = inr refl
one_or_two (suc (suc (suc i))) t =
    absurd (let e : bit_at 6 (suc (suc (suc i))) ≡ 0 = bit_at-suc 6 (suc (suc i))
    ∙ bit_at-suc 3 (suc i) ∙ bit_at-suc 1 i ∙ bit_at-zero i in
    omega (arith, e, bit_of_member 6 (suc (suc (suc i))) t))
