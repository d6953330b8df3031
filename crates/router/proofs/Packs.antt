-- Items are packed in turn.
use Rattle.std.proofs.Common.{◌≡◌, ◌≤◌, ℕ, ◌+◌, Bool, true, false, cond, List, [], ◌∷◌, ◌++◌, map}
use Rattle.std.proofs.Common.{refl, sym, ap, ◌∙◌, arith, append_assoc, append-nil, length, subst}
use Rattle.std.specs.Prelude.{nat_le}
use Rattle.std.specs.List.{AllByRecursion}
use Rattle.event_rules.specs.Packing.{fill_on, packed_groups}
use Rattle.router.specs.Fillings.{IsFilling, IsPackedSoFar, finished_packets}

-- ---- one item after another

module _ {X : Type 0} (size : X → ℕ) (begin : ℕ) (all : List X) where
  pub nothing_packed : (start used : ℕ) (packets : List (List X)) (taken rest : List X)
      → start ≡ begin → used ≡ begin → packets ≡ [] → taken ≡ [] → rest ≡ all → begin ≤ 8192
      → AllByRecursion (λ x. begin + size x ≤ 8192) all
      → IsPackedSoFar size begin all start used packets taken rest
  nothing_packed start used packets taken rest s u p t r low room = record {
    filling = record { room = omega (arith, u, low); fresh = λ e. u ∙ sym s };
    begins = s;
    room = subst (λ xs. AllByRecursion (λ x. begin + size x ≤ 8192) xs) (sym r) room;
    is = λ i. finished_packets size (s i) (u i) (p i) (t i) (r i);
  }

  pub more_packed : (start used : ℕ) (packets : List (List X)) (taken before rest : List X) (x : X)
      (start' used' : ℕ) (packets' : List (List X)) (taken' : List X)
      → IsPackedSoFar size begin all start used packets taken before → before ≡ x ∷ rest
      → IsFilling start' used' taken' → start' ≡ start
      → finished_packets size start' used' packets' taken' rest
      ≡ finished_packets size start used packets taken (x ∷ rest)
      → IsPackedSoFar size begin all start' used' packets' taken' rest
  more_packed start used packets taken before rest x start' used' packets' taken' h e filling s step
      = record {
        filling = filling;
        begins = s ∙ h.begins;
        room = (subst (λ xs. AllByRecursion (λ y. begin + size y ≤ 8192) xs) e h.room).1;
        is = step ∙ ap (λ xs. finished_packets size start used packets taken xs) (sym e) ∙ h.is;
      }

  pub next_room : (start used : ℕ) (packets : List (List X)) (taken before rest : List X) (x : X)
      → IsPackedSoFar size begin all start used packets taken before → before ≡ x ∷ rest
      → start + size x ≤ 8192
  next_room start used packets taken before rest x h e =
      let one : begin + size x ≤ 8192 =
      (subst (λ xs. AllByRecursion (λ y. begin + size y ≤ 8192) xs) e h.room).0 in
      let same : start ≡ begin = h.begins in
      omega (arith, one, same)

  pub all_packed : (start used : ℕ) (packets : List (List X)) (taken rest : List X)
      → IsPackedSoFar size begin all start used packets taken rest → rest ≡ []
      → finished_packets size start used packets taken [] ≡ packed_groups size begin all
  all_packed start used packets taken rest h e =
      ap (λ xs. finished_packets size start used packets taken xs) (sym e) ∙ h.is

-- ---- items that move from one list to another

module _ {X Y : Type 0} (f : X → Y) where
  pub one_moved : (moved moved' : List Y) (before rest : List X) (x : X) (y : Y) (all : List Y)
      → moved ++ map f before ≡ all → before ≡ x ∷ rest → y ≡ f x → moved' ≡ moved ++ y ∷ []
      → moved' ++ map f rest ≡ all
  one_moved moved moved' before rest x y all is e same added =
      ap (λ ys. ys ++ map f rest) (added ∙ ap (λ z. moved ++ z ∷ []) same)
      ∙ append_assoc moved (f x ∷ []) (map f rest) ∙ ap (λ xs. moved ++ map f xs) (sym e) ∙ is

  pub all_moved : (moved : List Y) (rest : List X) (all : List Y) → moved ++ map f rest ≡ all
      → rest ≡ [] → moved ≡ all
  all_moved moved rest all is none =
      sym (append-nil moved) ∙ ap (λ xs. moved ++ map f xs) (sym none) ∙ is

-- nothing is left
pub none_left : {X : Type 0} (xs : List X) (n : ℕ) → n ≡ length xs → n ≡ 0 → xs ≡ []
none_left [] n is none = refl
none_left (x ∷ xs) n is none = absurd (omega (arith, is, none))

-- ---- packed, and then mapped

module _ {X Y : Type 0} (f : X → Y) (size : X → ℕ) (other : Y → ℕ) (start : ℕ) where
  abbrev AreSized : List X → Type 0
  AreSized xs = AllByRecursion (λ x. other (f x) ≡ size x) xs

  map_more : (xs : List X) (x : X) → map f xs ++ f x ∷ [] ≡ map f (xs ++ x ∷ [])
  map_more [] x = refl
  map_more (y ∷ ys) x = ap (λ zs. f y ∷ zs) (map_more ys x)

  fill_map : (used : ℕ) (taken xs : List X) → AreSized xs
      → fill_on other start used (map f taken) (map f xs)
      ≡ map (λ p. map f p) (fill_on size start used taken xs)
  fill_map used taken [] sized = refl
  fill_map used taken (x ∷ xs) sized =
      ap (λ n. cond (nat_le (used + n) 8192)
      (fill_on other start (used + n) (map f taken ++ f x ∷ []) (map f xs))
      (map f taken ∷ fill_on other start (start + n) (f x ∷ []) (map f xs))) sized.0
      ∙ by_test (nat_le (used + size x) 8192)
      (ap (λ t. fill_on other start (used + size x) t (map f xs)) (map_more taken x)
      ∙ fill_map (used + size x) (taken ++ x ∷ []) xs sized.1)
      (fill_map (start + size x) (x ∷ []) xs sized.1)
    where
      by_test : (b : Bool) → fill_on other start (used + size x) (map f taken ++ f x ∷ [])
          (map f xs) ≡ map (λ p. map f p) (fill_on size start (used + size x) (taken ++ x ∷ []) xs)
          → fill_on other start (start + size x) (f x ∷ []) (map f xs)
          ≡ map (λ p. map f p) (fill_on size start (start + size x) (x ∷ []) xs)
          → cond b (fill_on other start (used + size x) (map f taken ++ f x ∷ [])
          (map f xs)) (map f taken ∷ fill_on other start (start + size x) (f x ∷ [])
          (map f xs))
          ≡ map (λ p. map f p) (cond b (fill_on size start (used + size x) (taken ++ x ∷ []) xs)
          (taken ∷ fill_on size start (start + size x) (x ∷ []) xs))
      by_test true one next = one
      by_test false one next = ap (λ ps. map f taken ∷ ps) next

  pub packed_map : (xs : List X) → AreSized xs
      → packed_groups other start (map f xs) ≡ map (λ p. map f p) (packed_groups size start xs)
  packed_map [] sized = refl
  packed_map (x ∷ xs) sized =
      ap (λ n. fill_on other start (start + n) (f x ∷ []) (map f xs)) sized.0
      ∙ fill_map (start + size x) (x ∷ []) xs sized.1
