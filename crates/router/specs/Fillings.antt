-- Packets while they are being filled.
use Rattle.std.specs.Prelude.{◌≡◌, ◌≤◌, ℕ, ◌+◌, List, [], ◌∷◌, ◌++◌}
use Rattle.std.specs.List.{AllByRecursion}
use Rattle.words.specs.Constants.{largest_packet}
use Rattle.event_rules.specs.Packing.{fill_on, packed_groups}

-- the packet that is being filled begins with `start` bytes and has `used` bytes so far; without an
-- item it has no more than it begins with
pub record IsFilling {X : Type 0} (start used : ℕ) (taken : List X) : Type 0 where
  pub room : used ≤ largest_packet
  pub fresh : taken ≡ [] → used ≡ start

-- the packets from the one that is being filled on, when the rest is packed too
abbrev pub filled_packets : {X : Type 0} → (X → ℕ) → ℕ → ℕ → List X → List X → List (List X)
filled_packets size start used [] rest = packed_groups size start rest
filled_packets size start used (t ∷ taken) rest = fill_on size start used (t ∷ taken) rest

-- all packets, when the rest is packed too
abbrev pub finished_packets : {X : Type 0} → (X → ℕ) → ℕ → ℕ → List (List X) → List X → List X
    → List (List X)
finished_packets size start used packets taken rest = packets
    ++ filled_packets size start used taken rest

-- the items so far are packed, or in the packet that is being filled; each of the rest fits into a
-- packet of its own
pub record IsPackedSoFar {X : Type 0} (size : X → ℕ) (begin : ℕ) (all : List X) (start used : ℕ)
    (packets : List (List X)) (taken rest : List X) : Type 0 where
  pub filling : IsFilling start used taken
  pub begins : start ≡ begin
  pub room : AllByRecursion (λ x. begin + size x ≤ largest_packet) rest
  pub is : finished_packets size start used packets taken rest ≡ packed_groups size begin all
