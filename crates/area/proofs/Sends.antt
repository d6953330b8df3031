-- What flooding sends at each interface, and its drafts.
use Rattle.std.proofs.Common.{◌≡◌, ◌≢◌, ℕ, ◌+◌, ◌<◌, ◌≤◌, ◌==◌, Bool, true, false, cond, ◌||◌, List}
use Rattle.std.proofs.Common.{[], ◌∷◌, ◌++◌, refl, sym, ap, ◌∙◌, arith, append_assoc}
use Rattle.std.specs.List.{enumerate_from, filter_map, flat_map, cons_option}
use Rattle.std.specs.Prelude.{None, Some}
use Rattle.std.proofs.lemmas.Bool.Decides.{nat_tests}
use Rattle.adjacency.specs.Contents.{Content}
use Rattle.received.specs.Links.{Link}
use Rattle.received.specs.AreaStates.{Send, sends_at, at_interface}
use Rattle.adjacency.specs.Drafts.{Drafted, drafting}
use Rattle.adjacency.specs.Floods.{is_any}
use Rattle.adjacency.proofs.Floods.{drafting-none}
use Rattle.area.specs.Drafted.{drafted_from}

pub same_number : (n : ℕ) → (n == n) ≡ true
same_number n = grind (arith, nat_tests)

pub other_number : (n m : ℕ) → n ≢ m → (n == m) ≡ false
other_number n m ne = grind (arith, nat_tests)

by_number : (k : ℕ) (x : Send) (b : Bool) (whole front back : List Content) → whole ≡ front ++ back
    → cons_option (cond b (Some x.content) None) whole
    ≡ cons_option (cond b (Some x.content) None) front ++ back
by_number k x true whole front back is = ap (λ zs. x.content ∷ zs) is
by_number k x false whole front back is = is

pub picked_append : (k : ℕ) (xs ys : List Send)
    → filter_map (at_interface k) (xs ++ ys) ≡ filter_map (at_interface k) xs
    ++ filter_map (at_interface k) ys
picked_append k [] ys = refl
picked_append k (x ∷ xs) ys = by_number k x (x.interface == k)
    (filter_map (at_interface k) (xs ++ ys))
    (filter_map (at_interface k) xs) (filter_map (at_interface k) ys) (picked_append k xs ys)

pub picked_here : (k : ℕ) (cs : List Content) → filter_map (at_interface k) (sends_at k cs) ≡ cs
picked_here k [] = refl
picked_here k (c ∷ cs) = ap (λ b. cons_option (cond b (Some c) None)
    (filter_map (at_interface k) (sends_at k cs))) (same_number k)
    ∙ ap (λ zs. c ∷ zs) (picked_here k cs)

pub picked_elsewhere : (k n : ℕ) (cs : List Content) → n ≢ k
    → filter_map (at_interface k) (sends_at n cs) ≡ []
picked_elsewhere k n [] ne = refl
picked_elsewhere k n (c ∷ cs) ne =
    ap (λ b. cons_option (cond b (Some c) None) (filter_map (at_interface k) (sends_at n cs)))
    (other_number n k ne) ∙ picked_elsewhere k n cs ne

pub append_none : {A : Type 0} (xs : List A) → xs ++ [] ≡ xs
append_none [] = refl
append_none (x ∷ xs) = ap (λ zs. x ∷ zs) (append_none xs)

-- if nothing is sent, each draft stays the same
pub drafted_none : (n : ℕ) (links : List Link) (ds : List Drafted) → ds ≡ drafted_from n [] links ds
drafted_none n [] ds = refl
drafted_none n (l ∷ ls) [] = refl
drafted_none n (l ∷ ls) (d ∷ ds) =
    λ i. drafting-none l.interface.delay d i ∷ drafted_none (n + 1) ls ds i

-- S is what is sent on a link with this number
module _ (S : ℕ → Link → List Content) where
  abbrev pub sends_from : ℕ → List Link → List Send
  sends_from n links = flat_map (λ (e : ℕ × Link). sends_at e.0 (S e.0 e.1))
      (enumerate_from n links)

  picked_later : (k n : ℕ) (links : List Link) → k < n
      → filter_map (at_interface k) (sends_from n links) ≡ []
  picked_later k n [] lt = refl
  picked_later k n (l ∷ ls) lt =
      picked_append k (sends_at n (S n l)) (sends_from (n + 1) ls)
      ∙ ap (λ zs. zs ++ filter_map (at_interface k) (sends_from (n + 1) ls))
      (picked_elsewhere k n (S n l) (λ is. absurd (omega (arith, lt, is))))
      ∙ picked_later k (n + 1) ls (omega (arith, lt))

  -- each link's draft by itself
  abbrev pub draft_from : ℕ → List Link → List Drafted → List Drafted
  draft_from n [] ds = ds
  draft_from n (l ∷ ls) [] = []
  draft_from n (l ∷ ls) (d ∷ ds) = drafting l.interface.delay (S n l) d ∷ draft_from (n + 1) ls ds

  picked_all : (n : ℕ) (before : List Send) (l : Link) (ls : List Link)
      → ((k : ℕ) → n ≤ k → filter_map (at_interface k) before ≡ [])
      → filter_map (at_interface n) (before ++ (sends_at n (S n l) ++ sends_from (n + 1) ls))
      ≡ S n l
  picked_all n before l ls none =
      picked_append n before (sends_at n (S n l) ++ sends_from (n + 1) ls)
      ∙ ap (λ zs. zs ++ filter_map (at_interface n) (sends_at n (S n l) ++ sends_from (n + 1) ls))
      (none n (omega arith))
      ∙ picked_append n (sends_at n (S n l)) (sends_from (n + 1) ls)
      ∙ ap (λ zs. zs ++ filter_map (at_interface n) (sends_from (n + 1) ls)) (picked_here n (S n l))
      ∙ ap (λ zs. S n l ++ zs) (picked_later n (n + 1) ls (omega arith))
      ∙ append_none (S n l)

  drafts_behind : (n : ℕ) (before : List Send) (links : List Link) (ds : List Drafted)
      → ((k : ℕ) → n ≤ k → filter_map (at_interface k) before ≡ [])
      → drafted_from n (before ++ sends_from n links) links ds ≡ draft_from n links ds
  drafts_behind n before [] ds none = refl
  drafts_behind n before (l ∷ ls) [] none = refl
  drafts_behind n before (l ∷ ls) (d ∷ ds) none =
      let here = picked_all n before l ls none in
      let whole : before ++ (sends_at n (S n l) ++ sends_from (n + 1) ls)
      ≡ (before ++ sends_at n (S n l)) ++ sends_from (n + 1) ls =
      sym (append_assoc before (sends_at n (S n l)) (sends_from (n + 1) ls)) in
      let rest = drafts_behind (n + 1) (before ++ sends_at n (S n l)) ls ds (λ k le.
      picked_append k before (sends_at n (S n l))
      ∙ ap (λ zs. zs ++ filter_map (at_interface k) (sends_at n (S n l)))
      (none k (omega (arith, le)))
      ∙ picked_elsewhere k n (S n l) (λ is. absurd (omega (arith, le, is)))) in
      ap (λ cs. drafting l.interface.delay cs d
      ∷ drafted_from (n + 1) (before ++ (sends_at n (S n l) ++ sends_from (n + 1) ls)) ls ds)
      here
      ∙ ap (λ zs. drafting l.interface.delay (S n l) d ∷ drafted_from (n + 1) zs ls ds) whole
      ∙ ap (λ zs. drafting l.interface.delay (S n l) d ∷ zs) rest

  -- what is sent by all links in turn goes to the drafts of the links
  pub drafts_are : (links : List Link) (ds : List Drafted)
      → drafted_from 1 (sends_from 1 links) links ds ≡ draft_from 1 links ds
  drafts_are links ds = drafts_behind 1 [] links ds (λ k le. refl)

  is_any-numbered : (n : ℕ) (cs : List Content) (rest : List Send)
      → is_any (sends_at n cs ++ rest) ≡ (is_any cs || is_any rest)
  is_any-numbered n [] rest = refl
  is_any-numbered n (c ∷ cs) rest = refl

  abbrev pub any_from : ℕ → List Link → Bool
  any_from n [] = false
  any_from n (l ∷ ls) = is_any (S n l) || any_from (n + 1) ls

  pub any_is : (n : ℕ) (links : List Link) → any_from n links ≡ is_any (sends_from n links)
  any_is n [] = refl
  any_is n (l ∷ ls) = ap (λ b. is_any (S n l) || b) (any_is (n + 1) ls)
      ∙ sym (is_any-numbered n (S n l) (sends_from (n + 1) ls))
