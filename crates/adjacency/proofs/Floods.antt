-- The flooding step by its tests, and a draft with one more content.
use Rattle.std.proofs.Common.{◌≡◌, ℕ, Bool, true, false, cond, [], ◌∷◌, refl, sym, ap}
use Rattle.lsdb.specs.Headers.{Lsa}
use Rattle.adjacency.specs.Contents.{Content, no_sends}
use Rattle.adjacency.specs.Neighbors.{Neighbor, is_exchange_or_later}
use Rattle.adjacency.specs.Drafts.{Drafted, adds, drafting}
use Rattle.adjacency.specs.Floods.{flood_step, flooded_in_exchange}

pub drafting-none : (delay : ℕ) (d : Drafted) → d ≡ drafting delay [] d
unfolding drafting
drafting-none delay d = refl

pub drafting-one : (delay : ℕ) (c : Content) (d : Drafted)
    → adds delay d c ≡ drafting delay (c ∷ []) d
unfolding drafting
drafting-one delay c d = refl

pub floods : (moment : ℕ) (came_in : Bool) (lsa : Lsa) (n : Neighbor)
    → is_exchange_or_later n.state ≡ true
    → flooded_in_exchange moment came_in lsa n ≡ flood_step moment came_in lsa n
unfolding flood_step
floods moment came_in lsa n is = ap
    (λ b. cond b (flooded_in_exchange moment came_in lsa n) (no_sends n))
    (sym is)

pub rests : (moment : ℕ) (came_in : Bool) (lsa : Lsa) (n : Neighbor)
    → is_exchange_or_later n.state ≡ false → no_sends n ≡ flood_step moment came_in lsa n
unfolding flood_step
rests moment came_in lsa n is = ap
    (λ b. cond b (flooded_in_exchange moment came_in lsa n) (no_sends n))
    (sym is)
