-- Walks concatenated and reversed, and the hop of a loop along which the cost doesn't decrease.
use Rattle.std.proofs.Common.{◌≡◌, ℕ, ◌<◌, ◌≤◌, ◌⊎◌, List, Bool, length, map, get_or, refl, sym}
use Rattle.std.proofs.Common.{◌∙◌, ap, subst, inl, inr, arith}
use Rattle.std.proofs.lemmas.List.{get_or-map, length-map}
use Rattle.std.specs.List.{All}
use Rattle.std.proofs.lemmas.Bool.{cases_lt}
use Rattle.std.proofs.lemmas.List.Elements.{All-contains}
use Rattle.routes.specs.declared.hop.Hop.{Hop}
use Rattle.routes.specs.Loops.{ComesBack, HandsTo, HoldsWholeLoops, IsMarked}
use Rattle.routes.specs.Loops.{IsMarkedBefore, IsPassedOn, Place, Walk, reversed_hop}
use Rattle.routes.specs.Loops.Walk.{OneHop, OneMore}

-- two consecutive walks
pub join : {hops : List Hop} {start place : Place} {end : Place} → Walk hops start place
    → Walk hops place end → Walk hops start end
join before (OneHop hop) = OneMore before hop
join before (OneMore walk hop) = OneMore (join before walk) hop

-- a reversed hop leads back
pub hands_back : (hops : List Hop) (from to : Place) → HandsTo (map reversed_hop hops) from to
    → HandsTo hops to from
hands_back hops from to (k, below, here) =
    let back : Hop = record { from = to; to = from } in
    let Below : ℕ → Type 0 = λ n. k < n in
    let within : k < length hops = subst Below (length-map hops reversed_hop) below in
    (k, within, ap reversed_hop (sym (get_or-map reversed_hop hops k back _ within) ∙ here))

-- and conversely
pub hands_turned : (hops : List Hop) (from to : Place) → HandsTo hops from to
    → HandsTo (map reversed_hop hops) to from
hands_turned hops from to (k, below, here) =
    let one : Hop = record { from = from; to = to } in
    let Below : ℕ → Type 0 = λ n. k < n in (
      k,
      subst Below (sym (length-map hops reversed_hop)) below,
      get_or-map reversed_hop hops k one _ below ∙ ap reversed_hop here,
    )

-- a walk over reversed hops leads back
pub turned_back : {hops : List Hop} {start : Place} {end : Place}
    → Walk (map reversed_hop hops) start end → Walk hops end start
turned_back {hops} (OneHop hop) = OneHop (hands_back hops _ _ hop)
turned_back {hops} (OneMore walk hop) = join (OneHop (hands_back hops _ _ hop)) (turned_back walk)

-- and conversely
pub turned_to : {hops : List Hop} {start : Place} {end : Place} → Walk hops start end
    → Walk (map reversed_hop hops) end start
turned_to {hops} (OneHop hop) = OneHop (hands_turned hops _ _ hop)
turned_to {hops} (OneMore walk hop) = join (OneHop (hands_turned hops _ _ hop)) (turned_to walk)

-- if each hop from a marked router has a marked end, all that a packet may reach is marked
pub all_marked : (hops : List Hop) (start : Place) (marks : List Bool)
    → All (IsPassedOn start marks) hops → {end : Place} → Walk hops start end → IsMarked marks end
all_marked hops start marks passed (OneHop hop) =
    All-contains (IsPassedOn start marks) hops _ passed hop (inl refl)
all_marked hops start marks passed (OneMore walk hop) =
    All-contains (IsPassedOn start marks) hops _ passed hop
    (inr (all_marked hops start marks passed walk))

-- a hop of the walk along which the cost doesn't decrease
pub record HasRise (hops : List Hop) (costs : List ℕ) (start end : Place) : Type 0 where
  pub place : Place
  pub next : Place
  pub hands : HandsTo hops place next
  pub rises : get_or costs place 0 ≤ get_or costs next 0
  pub ahead : (start ≡ place) ⊎ Walk hops start place
  pub behind : (next ≡ end) ⊎ Walk hops next end

-- in a walk of one hop
one_rises : {hops : List Hop} (costs : List ℕ) (start end : Place) → HandsTo hops start end
    → (get_or costs end 0 < get_or costs start 0) ⊎ (get_or costs start 0 ≤ get_or costs end 0)
    → (get_or costs end 0 < get_or costs start 0) ⊎ HasRise hops costs start end
one_rises costs start end hop (inl falls) = inl falls
one_rises costs start end hop (inr rises) = inr (record {
  place = start;
  next = end;
  hands = hop;
  rises = rises;
  ahead = inl refl;
  behind = inl refl;
})

-- one more hop after what leads to a place
longer : {hops : List Hop} {next place end : Place} → (next ≡ place) ⊎ Walk hops next place
    → HandsTo hops place end → Walk hops next end
longer {hops} {next} {place} {end} (inl same) hop = let P : Place → Type 0 = λ p. Walk hops p end in
    subst P (sym same) (OneHop hop)
longer (inr walk) hop = OneMore walk hop

-- in a walk with one more hop
one_more_rises : {hops : List Hop} (costs : List ℕ) (start place end : Place)
    → Walk hops start place → HandsTo hops place end
    → (get_or costs place 0 < get_or costs start 0) ⊎ HasRise hops costs start place
    → (get_or costs end 0 < get_or costs place 0)
    ⊎ (get_or costs place 0 ≤ get_or costs end 0)
    → (get_or costs end 0 < get_or costs start 0) ⊎ HasRise hops costs start end
one_more_rises costs start place end walk hop (inr before) last = inr (record {
  place = before.place;
  next = before.next;
  hands = before.hands;
  rises = before.rises;
  ahead = before.ahead;
  behind = inr (longer before.behind hop);
})
one_more_rises costs start place end walk hop (inl falls) (inl more) = inl (omega arith)
one_more_rises costs start place end walk hop (inl falls) (inr rises) = inr (record {
  place = place;
  next = end;
  hands = hop;
  rises = rises;
  ahead = inr walk;
  behind = inl refl;
})

-- each walk ends at a lower cost, or has a hop along which the cost doesn't decrease
pub falls_or_rises : {hops : List Hop} (costs : List ℕ) {start : Place} {end : Place}
    → Walk hops start end → (get_or costs end 0 < get_or costs start 0)
    ⊎ HasRise hops costs start end
falls_or_rises costs {start} {end} (OneHop hop) = one_rises costs _ _ hop (cases_lt _ _)
falls_or_rises costs {start} (OneMore walk hop) =
    one_more_rises costs _ _ _ walk hop (falls_or_rises costs walk) (cases_lt _ _)

-- the hop, and what leads on from its end
closes : {hops : List Hop} {a p n : Place} → HandsTo hops p n → (n ≡ a) ⊎ Walk hops n a
    → Walk hops p a
closes {hops} {a} {p} hop (inl same) = let P : Place → Type 0 = λ e. Walk hops p e in
    subst P same (OneHop hop)
closes hop (inr walk) = join (OneHop hop) walk

-- a router on a loop with a marked one is marked
of_rise : (hops : List Hop) (marks : List Bool) (a p : Place) → HoldsWholeLoops hops marks
    → (ComesBack hops p → IsMarked marks p) → Walk hops p a → (a ≡ p) ⊎ Walk hops a p
    → IsMarked marks a
of_rise hops marks a p whole at back (inl same) = let P : Place → Type 0 = λ e. IsMarked marks e in
    let Q : Place → Type 0 = λ e. Walk hops p e in subst P (sym same) (at (subst Q same back))
of_rise hops marks a p whole at back (inr there) = whole p a (at (join back there)) back there

-- a loop has a hop along which the cost doesn't decrease, and the router before it is marked
on_loop : (hops : List Hop) (costs : List ℕ) (marks : List Bool) (a : Place)
    → HoldsWholeLoops hops marks → All (IsMarkedBefore hops costs marks) hops
    → (get_or costs a 0 < get_or costs a 0) ⊎ HasRise hops costs a a → IsMarked marks a
on_loop hops costs marks a whole all (inl falls) = absurd (omega arith)
on_loop hops costs marks a whole all (inr rise) =
    of_rise hops marks a rise.place whole
    (All-contains (IsMarkedBefore hops costs marks) hops _ all rise.hands rise.rises)
    (closes rise.hands rise.behind) rise.ahead

-- all loops are marked
pub all_loops : (hops : List Hop) (costs : List ℕ) (marks : List Bool) → HoldsWholeLoops hops marks
    → All (IsMarkedBefore hops costs marks) hops → (a : Place) → ComesBack hops a → IsMarked marks a
all_loops hops costs marks whole all a loop =
    on_loop hops costs marks a whole all (falls_or_rises costs loop)
