-- The addresses of a router's links.
use Rattle.std.proofs.Common.{◌≡◌, ℕ, ◌+◌, ◌<◌, List, [], ◌∷◌, ◌++◌, length, get_or, take, map}
use Rattle.std.proofs.Common.{refl, sym, ◌∙◌, ap}
use Rattle.std.proofs.lemmas.List.{take_more}
use Rattle.area.specs.Kept.{KeptLink}
use Rattle.received.specs.Links.{Link}
use Rattle.area.specs.Links.{present}
use Rattle.routes.specs.declared.root.Root.{Root}
use Rattle.area_routes.specs.Offers.{root_by}

module _ {A B : Type 0} (f : A → B) where
  map_push : (xs : List A) (y : A) → map f (xs ++ y ∷ []) ≡ map f xs ++ f y ∷ []
  map_push [] y = refl
  map_push (x ∷ xs) y = ap (λ rest. f x ∷ rest) (map_push xs y)

  -- one more of the first elements
  pub mapped_more : (xs : List A) (n : ℕ) (x : A) → n < length xs → x ≡ get_or xs n x
      → map f (take (n + 1) xs) ≡ map f (take n xs) ++ f x ∷ []
  mapped_more xs n x within is =
      ap (map f) (take_more xs n x within ∙ ap (λ y. take n xs ++ y ∷ []) (sym is))
      ∙ map_push (take n xs) x

addresses_are : (links : List KeptLink)
    → map (λ (l : KeptLink). (present l).interface.address) links
    ≡ map (λ (l : Link). l.interface.address) (map present links)
addresses_are [] = refl
addresses_are (l ∷ links) = ap (λ rest. l.present.interface.address ∷ rest) (addresses_are links)

pub root_is : (router : ℕ) (kept : List KeptLink) (links : List Link) (addresses : List ℕ)
    → map present kept ≡ links → addresses
    ≡ map (λ (l : KeptLink). (present l).interface.address) kept
    → ◌≡◌ {A = Root} (record { router = router; addresses = addresses }) (root_by router links)
root_is router kept links addresses shown is =
    let same = is ∙ addresses_are kept ∙ ap (map (λ (l : Link). l.interface.address)) shown in
    λ i. record { router = router; addresses = same i }

-- and in the other direction
pub root_was : (router : ℕ) (kept : List KeptLink) (links : List Link) (root : Root)
    → map present kept ≡ links → root ≡ root_by router links
    → root.addresses ≡ map (λ (l : KeptLink). (present l).interface.address) kept
root_was router kept links root shown is =
    ap (λ (r : Root). r.addresses) is ∙ sym (ap (map (λ (l : Link). l.interface.address)) shown)
    ∙ sym (addresses_are kept)

-- a root whose router is this one
pub begins_here : (root : Root) (router : ℕ) → root.router ≡ router → root ≡ record {
  router = router;
  addresses = root.addresses;
}
begins_here root router is = λ i. record { router = is i; addresses = root.addresses }
