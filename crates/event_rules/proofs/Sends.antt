-- The packets of an event that sends nothing.
use Rattle.std.proofs.Common.{◌≡◌, ℕ, ◌+◌, List, [], ◌∷◌, refl}
use Rattle.std.specs.List.{enumerate_from, flat_map}
use Rattle.received.specs.Links.{Link}
use Rattle.event_rules.specs.Packing.{outs_at}

pub no_outs_from : (own k : ℕ) (xs : List Link)
    → flat_map (λ (e : ℕ × Link). outs_at own [] e.0 e.1) (enumerate_from k xs) ≡ []
no_outs_from own k [] = refl
no_outs_from own k (x ∷ xs) = no_outs_from own (k + 1) xs
