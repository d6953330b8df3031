-- One more hop of a pass over all hops.
use Rattle.std.proofs.Common.{◌≡◌, ℕ, ◌+◌, ◌<◌, ◌⊎◌, List, Bool, true, false, not, cond, length}
use Rattle.std.proofs.Common.{get_or, set, sym, ◌∙◌, ap, subst, inl, inr, arith}
use Rattle.std.proofs.lemmas.Bool.{cases_eq}
use Rattle.std.proofs.lemmas.List.{get_or-set_other}
use Rattle.std.proofs.lemmas.List.Sums.{sum_by-set}
use Rattle.std.proofs.lemmas.List.Elements.{All-get_or, All-more, Contains-get_or}
use Rattle.std.specs.List.{All}
use Rattle.routes.specs.declared.hop.Hop.{Hop}
use Rattle.routes.specs.Loops.{AreReached, HandsTo, IsAmong, IsMarked, IsPassedOn}
use Rattle.routes.specs.Loops.{IsSpread, PassesOn, Place, Walk, count_unmarked}
use Rattle.routes.specs.Loops.Walk.{OneHop, OneMore}

-- the end of a hop from a reached router is reached
to_end : (hops : List Hop) (start from to : Place) (marks : List Bool) → AreReached hops start marks
    → HandsTo hops from to → (from ≡ start) ⊎ IsMarked marks from → Walk hops start to
to_end hops start from to marks sound hands (inl same) = let P : Place → Type 0 =
    λ p. HandsTo hops p to in OneHop (subst P same hands)
to_end hops start from to marks sound hands (inr marked) = OneMore (sound from marked) hands

-- with that end marked too, all that is marked is reached
still_sound : (hops : List Hop) (start to : Place) (marks : List Bool) → AreReached hops start marks
    → Walk hops start to → (place : Place) → (place ≡ to) ⊎ (place ≡ to → ⊥)
    → IsMarked (set marks to true) place → Walk hops start place
still_sound hops start to marks sound walk place (inl same) marked = let P : Place → Type 0 =
    λ p. Walk hops start p in subst P (sym same) walk
still_sound hops start to marks sound walk place (inr other) marked =
    sound place (sym (get_or-set_other marks to place true false other) ∙ marked)

-- one router fewer is unmarked
one_fewer : (marks : List Bool) (to : Place) → to < length marks → get_or marks to false ≡ false
    → count_unmarked (set marks to true) < count_unmarked marks
one_fewer marks to within before =
    let f : Bool → ℕ = λ x. cond (not x) 1 0 in
    let one : f (get_or marks to false) ≡ 1 = ap f before in
    omega (arith, sum_by-set f marks to true false within, one)

-- what holds after a hop that led to a new mark
pub passed_on : (hops : List Hop) (start : Place) (old marks new : List Bool) (some : Bool)
    (m n : ℕ) (d : Hop) → n < length hops → length marks ≡ m → All (IsAmong m) hops
    → IsSpread hops start old marks some n → PassesOn start (get_or hops n d) marks new
    → IsSpread hops start old new true (n + 1)
passed_on hops start old marks new some m n d within same all before passes =
    let hop = get_or hops n d in
    let inside : hop.to < length marks =
    omega (arith, same, (All-get_or (IsAmong m) hops n d within all).1) in
    let walk : Walk hops start hop.to =
    to_end hops start hop.from hop.to marks before.sound (Contains-get_or hops n d within)
    passes.leaves in
    let P : List Bool → Type 0 = λ m. IsSpread hops start old m true (n + 1) in
    subst P (sym passes.after) (record {
      sound = λ place marked. still_sound hops start hop.to marks before.sound walk place
          (cases_eq place hop.to) marked;
      fewer = λ _. omega (arith, one_fewer marks hop.to inside passes.before, before.no_more);
      no_more = omega (arith, one_fewer marks hop.to inside passes.before, before.no_more);
      closed = λ e. absurd (cc);
    })

-- the same for equal flags
pub with_some : (hops : List Hop) (start : Place) (old marks : List Bool) (a b : Bool) (n : ℕ)
    → a ≡ b → IsSpread hops start old marks b n → IsSpread hops start old marks a n
with_some hops start old marks a b n same spread = let P : Bool → Type 0 =
    λ x. IsSpread hops start old marks x n in subst P (sym same) spread

-- the same for equal marks
pub with_marks : (hops : List Hop) (start : Place) (old marks new : List Bool) (a : Bool) (n : ℕ)
    → new ≡ marks → IsSpread hops start old marks a n → IsSpread hops start old new a n
with_marks hops start old marks new a n same spread = let P : List Bool → Type 0 =
    λ x. IsSpread hops start old x a n in subst P (sym same) spread

-- what holds after a hop that didn't
pub left : (hops : List Hop) (start : Place) (old marks : List Bool) (some : Bool) (n : ℕ) (d : Hop)
    → n < length hops → IsSpread hops start old marks some n
    → IsPassedOn start marks (get_or hops n d) → IsSpread hops start old marks some (n + 1)
left hops start old marks some n d within before passed = record {
  sound = before.sound;
  fewer = before.fewer;
  no_more = before.no_more;
  closed = λ e. All-more (IsPassedOn start marks) hops n d within (before.closed e) passed;
}
