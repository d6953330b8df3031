-- Delayed acknowledgments that are sent and cleared.
use Rattle.std.proofs.Common.{◌≡◌, ℕ, zero, suc, List, [], ◌∷◌, map, take, refl, ap, ◌∙◌}
use Rattle.std.specs.List.{fold}
use Rattle.std.specs.FinMap as finite
use Rattle.words.specs.declared.key.Key.{Key}
use Rattle.lsdb.specs.Headers.{Header}
use Rattle.lsdb.specs.Keys.{ByKey}
use Rattle.adjacency.specs.Contents.{Acknowledges, Content}
use Rattle.adjacency.specs.Drafts.{Drafted, drafting}
use Rattle.adjacency.proofs.Lists.{left_none}

-- the items from this index on
abbrev pub from : {X : Type 0} → ℕ → List X → List X
from zero xs = xs
from (suc i) [] = []
from (suc i) (x ∷ xs) = from i xs

-- one more acknowledgment
pub drafting-more : (delay : ℕ) (c : Content) (cs : List Content) (d : Drafted)
    → drafting delay (c ∷ cs) d ≡ drafting delay cs (drafting delay (c ∷ []) d)
unfolding drafting
drafting-more delay c cs d = refl

-- what these entries acknowledge
abbrev pub named : List (Key × Header) → List Content
named es = map Acknowledges (map (λ e. e.1) es)

-- without all keys nothing is left
pub all_left : (m : ByKey Header) (keys : List Key) (n : ℕ) → n ≡ finite.len m
    → keys ≡ take n (finite.keys m) → fold finite.remove m keys ≡ finite.empty
all_left m keys n count is = ap (fold finite.remove m) is ∙ left_none n m count
