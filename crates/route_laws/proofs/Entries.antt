-- The LSAs of a database that is given as a list of copies.
use Rattle.std.proofs.Common.{◌≡◌, ℕ, inl, inr, Bool, true, false, cond, ◌&&◌, List, [], ◌∷◌, ◌++◌}
use Rattle.std.proofs.Common.{map, filter, Option, None, Some, arith, refl, sym, ◌∙◌, ap, subst}
use Rattle.std.specs.Cmp.{Equal-is}
use Rattle.std.specs.FinMap as finite
use Rattle.std.specs.List.{Contains, list_all}
use Rattle.std.specs.Ordering.{eq_by_cmp}
use Rattle.std.proofs.lemmas.List.Elements.{Contains-append_left, Contains-append_right}
use Rattle.words.specs.declared.key.Key.{Key}
use Rattle.lsa.specs.declared.body.LsaBody.{LsaBody}
use Rattle.lsa.specs.declared.body.LsaBody.TheVariants as body
use Rattle.lsa.specs.declared.body.RouterLink.{RouterLink}
use Rattle.lsa.specs.declared.body.RouterLsa.{RouterLsa}
use Rattle.lsdb.specs.Copies.{DatabaseCopy, is_aged_out}
use Rattle.lsdb.specs.Keys.{key_cmp}
use Rattle.lsdb.proofs.Keys.{keys_exact, keys_total}
use Rattle.routes.specs.Links.{HasLink, Says}
use Rattle.route_laws.specs.Worked.{Entries, database}
use Rattle.routes.proofs.Lists.{first_is, later_is, of_cons, of_empty}
use Rattle.routes.specs.Contents.{contents_at, contents_of}

-- ---- lists

pub mapped : {X Y : Type 0} (f : X → Y) (xs : List X) (x : X) → Contains xs x
    → Contains (map f xs) (f x)
mapped f [] x t = absurd (of_empty x t)
mapped {Y = Y} f (y ∷ xs) x t =
    let P : Y → Type 0 = λ z. Contains (f y ∷ map f xs) z in
    elim (of_cons y xs x t) [
      | inl e ↦ subst P (ap f e) (first_is (f y) (map f xs))
      | inr later ↦ later_is (f y) (map f xs) (f x) (mapped f xs x later)
    ]

pub kept : {X : Type 0} (p : X → Bool) (xs : List X) (x : X) → Contains xs x → p x ≡ true
    → Contains (filter p xs) x
kept p [] x t h = t
kept {X} p (y ∷ xs) x t h =
    elim (of_cons y xs x t) [
      | inl e ↦
          let P : X → Type 0 = λ z. Contains (y ∷ filter p xs) z in
          let Q : Bool → Type 0 = λ b. Contains (cond b (y ∷ filter p xs) (filter p xs)) x in
          subst Q (sym (ap p e ∙ h)) (subst P e (first_is y (filter p xs)))
      | inr later ↦
          let rest : Contains (filter p xs) x = kept p xs x later h in
          elim (p y) as (λ b. Contains (cond b (y ∷ filter p xs) (filter p xs)) x)
          [ true ↦ later_is y (filter p xs) x rest | false ↦ rest ]
    ]

pub both_true : (a b : Bool) → (a && b) ≡ true → (a ≡ true) × (b ≡ true)
both_true true b e = (refl, e)
both_true false b e = absurd (cc)

pub all_pass : {X : Type 0} (p : X → Bool) (xs : List X) → list_all p xs ≡ true → (x : X)
    → Contains xs x → p x ≡ true
all_pass p [] e x t = absurd (of_empty x t)
all_pass p (y ∷ xs) e x t =
    let both = both_true (p y) (list_all p xs) e in
    elim (of_cons y xs x t) [
      | inl here ↦ sym (ap p here) ∙ both.0
      | inr later ↦ all_pass p xs both.1 x later
    ]

-- ---- copies

found : (q : Key) (es : Entries) (c : DatabaseCopy) → finite.find key_cmp q es ≡ Some c
    → Contains es (q, c)
found q [] c e = absurd (cc)
found q (x ∷ es) c e =
    elim (eq_by_cmp key_cmp q x.0) as
    (λ b. eq_by_cmp key_cmp q x.0 ≡ b → cond b (Some x.1) (finite.find key_cmp q es) ≡ Some c
    → Contains (x ∷ es) (q, c)) [
      | true ↦ λ t h.
          let same : q ≡ x.0 = keys_exact q x.0 ((Equal-is (key_cmp q x.0)).0 t) in
          let copy : x.1 ≡ c = cc in
          (0, omega arith, λ i. (sym same i, copy i))
      | false ↦ λ t h. later_is x es (q, c) (found q es c h)
    ] refl e

abbrev pub Sayings : Type 0
Sayings = List (Key × LsaBody)

abbrev pub sayings : Entries → Sayings
sayings es = map (λ (e : Key × DatabaseCopy). (e.0, e.1.lsa.body)) es

-- the copy with that body
pub record IsHeard (moment : ℕ) (o : Option DatabaseCopy) (says : LsaBody) : Type 0 where
  pub copy : DatabaseCopy
  pub stands : o ≡ Some copy
  pub young : is_aged_out moment copy ≡ false
  pub is_body : copy.lsa.body ≡ says

pub heard : (moment : ℕ) (o : Option DatabaseCopy) (says : LsaBody) → contents_of moment o
    ≡ Some says
    → IsHeard moment o says
heard moment None says e = absurd (cc)
heard moment (Some c) says e = by_age (is_aged_out moment c) refl e
  where
    by_age : (aged : Bool) → is_aged_out moment c ≡ aged → cond aged None (Some c.lsa.body)
        ≡ Some says → IsHeard moment (Some c) says
    by_age true is f = absurd (cc)
    by_age false is f = record { copy = c; stands = refl; young = is; is_body = cc }

pub is_said : (moment : ℕ) (es : Entries) (k : Key) (says : LsaBody)
    → Says (contents_at moment (database es)) k says → Contains (sayings es) (k, says)
is_said moment es k says e =
    let s = heard moment (finite.get (database es) k) says e in
    let among : Contains es (k, s.copy) =
    found k es s.copy (sym (finite.get-from_entries keys_total es k) ∙ s.stands) in
    let P : LsaBody → Type 0 = λ b. Contains (sayings es) (k, b) in
    subst P s.is_body (mapped (λ (e : Key × DatabaseCopy). (e.0, e.1.lsa.body)) es (k, s.copy)
    among)

-- ---- links

abbrev pub links_by : Key → LsaBody → List (ℕ × RouterLink)
links_by k (body.Router r) = map (λ (l : RouterLink). (k.link_state_id, l)) r.links
links_by k (body.Network n) = []
links_by k (body.NetworkSummary s) = []
links_by k (body.RouterSummary s) = []
links_by k (body.External e) = []

abbrev pub links_of : Sayings → List (ℕ × RouterLink)
links_of [] = []
links_of (s ∷ ss) = links_by s.0 s.1 ++ links_of ss

linked : (ss : Sayings) (k : Key) (r : RouterLsa) (l : RouterLink) → Contains ss (k, body.Router r)
    → Contains r.links l → Contains (links_of ss) (k.link_state_id, l)
linked [] k r l t among = absurd (of_empty (k, body.Router r) t)
linked (s ∷ ss) k r l t among =
    elim (of_cons s ss (k, body.Router r) t) [
      | inl e ↦
          let P : Key × LsaBody → Type 0 = λ x. Contains (links_by x.0 x.1 ++ links_of ss)
          (k.link_state_id, l) in
          subst P (sym e) (Contains-append_left (links_by k (body.Router r)) (links_of ss)
          (k.link_state_id, l) (mapped (λ (x : RouterLink). (k.link_state_id, x)) r.links l among))
      | inr later ↦ Contains-append_right (links_by s.0 s.1) (links_of ss) (k.link_state_id, l)
          (linked ss k r l later among)
    ]

pub has_link : (moment : ℕ) (es : Entries) (router : ℕ) (l : RouterLink)
    → HasLink (contents_at moment (database es)) router l → Contains (links_of (sayings es))
    (router, l)
has_link moment es router l h = linked (sayings es) (record {
  ls_type = 1;
  link_state_id = router;
  advertising_router = router;
}) h.lsa l
    (is_said moment es _ (body.Router h.lsa) h.its) h.among

-- no copy is a network-LSA
abbrev pub is_no_network : Key × LsaBody → Bool
is_no_network (k, body.Router r) = true
is_no_network (k, body.Network n) = false
is_no_network (k, body.NetworkSummary s) = true
is_no_network (k, body.RouterSummary s) = true
is_no_network (k, body.External e) = true
