-- The drafts of an event, one for each interface.
use Rattle.std.specs.Prelude.{ℕ, ◌+◌, List, [], ◌∷◌}
use Rattle.adjacency.specs.Drafts.{Drafted}
use Rattle.received.specs.Links.{Link}
use Rattle.received.specs.AreaStates.{Send}
use Rattle.router.specs.Drafts.{IsDraftAt}

-- what is sent on each link is in its draft; `n` is the number of the first link
abbrev pub AreDraftsFrom : ℕ → List Link → List Send → List Drafted → Type 0
AreDraftsFrom n [] sends [] = Unit {0}
AreDraftsFrom n [] sends (d ∷ ds) = ⊥
AreDraftsFrom n (link ∷ links) sends [] = ⊥
AreDraftsFrom n (link ∷ links) sends (d ∷ ds) =
    IsDraftAt n link sends d × AreDraftsFrom (n + 1) links sends ds

-- interface n is at index n - 1
pub record AreDrafts (links : List Link) (sends : List Send) (drafts : List Drafted)
    : Type 0 where
  pub from : AreDraftsFrom 1 links sends drafts
