-- The keys of a retransmitted Link State Request.
use Rattle.std.proofs.Common.{◌≡◌, Bool, true, false, ◌&&◌, refl, sym, ap, ◌∙◌}
use Rattle.std.specs.Cmp.{Equal-is}
use Rattle.std.specs.FinMap as finite
use Rattle.std.specs.FinSet as set
use Rattle.std.proofs.lemmas.Map.Views.{any-filter_same}
use Rattle.lsdb.specs.Keys.{KeySet, key_cmp, same_key}
use Rattle.lsdb.proofs.Keys.{keys_total}
use Rattle.adjacency.specs.Laws.{WhatIsOutstandingIsRequestedAgain}

both_there : (a b : Bool) → (a ≡ true → b ≡ true) → (a && b) ≡ a
both_there true b f = f refl
both_there false b f = refl

pub requested_again : WhatIsOutstandingIsRequestedAgain
requested_again n asked key =
    let s : KeySet = n.outstanding in
    any-filter_same (same_key key) (set.contains s) (set.contains s key)
    (λ k same. set.contains_tied keys_total s key k ((Equal-is (key_cmp key k)).0 same))
    (finite.keys n.requests)
    ∙ ap (λ (b : Bool). set.contains s key && b) (sym (finite.contains_key-keys n.requests key))
    ∙ both_there (set.contains s key) (finite.contains_key n.requests key) (asked key)
