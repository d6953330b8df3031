-- Properties of the order and the packing of what is sent.
use Rattle.std.specs.Prelude.{◌≡◌, ◌≤◌, ◌<◌, ℕ, ◌+◌, false, List, [], ◌∷◌, length}
use Rattle.std.specs.List.{AllByRecursion, filter, flat_map}
use Rattle.words.specs.Constants.{largest_packet}
use Rattle.words.specs.declared.key.Key.{Key}
use Rattle.lsdb.specs.Headers.{Header, Lsa, key_of, lsa_key}
use Rattle.lsdb.specs.Keys.{same_key}
use Rattle.packet.specs.declared.model.PacketBody.{PacketBody}
use Rattle.packet.specs.Text.{body_text, closed_fields, lsa_count}
use Rattle.adjacency.specs.Contents.{Content}
pub use Rattle.adjacency.specs.Rooms.{HasRoom}
use Rattle.received.specs.Links.{Link}
use Rattle.received.specs.AreaStates.{Send}
use Rattle.event_rules.specs.declared.model.Out.{Out}
use Rattle.event_rules.specs.Packing.{bodies, header_size, in_key_order, is_after, lsa_size}
use Rattle.event_rules.specs.Packing.{outs_of}
use Rattle.event_rules.specs.Packing.{packed_groups}

-- ---- in the order of the keys

-- no item is before one with a lesser key
abbrev pub IsAscending : {X : Type 0} → (X → Key) → List X → Type 0
IsAscending key [] = Unit {0}
IsAscending key (x ∷ xs) =
    AllByRecursion (λ y. is_after (key x) (key y) ≡ false) xs × IsAscending key xs

-- the same items in the order of their keys; those with one key stay in their order
pub record IsInKeyOrder {X : Type 0} (key : X → Key) (xs sorted : List X) : Type 0 where
  pub ascending : IsAscending key sorted
  pub same : (k : Key) → filter (λ x. same_key k (key x)) sorted
      ≡ filter (λ x. same_key k (key x)) xs

-- ---- as many items as fit

abbrev pub sizes : {X : Type 0} → (X → ℕ) → List X → ℕ
sizes size [] = 0
sizes size (x ∷ xs) = size x + sizes size xs

abbrev pub total : {X : Type 0} → (X → ℕ) → ℕ → List X → ℕ
total size start xs = start + sizes size xs

abbrev pub first_size : {X : Type 0} → (X → ℕ) → List X → ℕ
first_size size [] = 0
first_size size (x ∷ xs) = size x

-- the first item of the next packet, if there is one, didn't fit into this one
abbrev pub IsFull : {X : Type 0} → (X → ℕ) → ℕ → List X → List (List X) → Type 0
IsFull size start xs [] = Unit {0}
IsFull size start xs (ys ∷ rest) = largest_packet < total size start xs + first_size size ys

abbrev pub AreFull : {X : Type 0} → (X → ℕ) → ℕ → List (List X) → Type 0
AreFull size start [] = Unit {0}
AreFull size start (xs ∷ rest) = IsFull size start xs rest × AreFull size start rest

-- the items in their order, in packets of at most 8,192 bytes, each with as many as fit
pub record IsPacking {X : Type 0} (size : X → ℕ) (start : ℕ) (xs : List X)
    (packets : List (List X)) : Type 0 where
  pub all : flat_map (λ p. p) packets ≡ xs
  pub within : AllByRecursion (λ p. total size start p ≤ largest_packet) packets
  pub full : AreFull size start packets

-- the body fits into a packet after the header of 24 bytes, and the number of LSAs into its field
pub record HasPacketRoom (says : PacketBody) : Type 0 where
  pub bytes : 24 + length (body_text closed_fields says) ≤ largest_packet
  pub count : lsa_count says ≤ 8192

-- ---- in the order of the interfaces

abbrev pub AreByInterface : List Out → Type 0
AreByInterface [] = Unit {0}
AreByInterface (o ∷ outs) =
    AllByRecursion (λ (p : Out). o.interface ≤ p.interface) outs × AreByInterface outs

-- ---- the law

pub record OutsAreOrderedAndPacked : Type 0 where
  pub interfaces : (own : ℕ) (links : List Link) (sends : List Send)
      → AreByInterface (outs_of own links sends)
  pub updates : (lsas : List Lsa) → IsInKeyOrder lsa_key lsas (in_key_order lsa_key lsas)
  pub acknowledgments : (headers : List Header)
      → IsInKeyOrder key_of headers (in_key_order key_of headers)
  -- a Link State Update has 28 bytes before its first LSA, and each LSA was received in one or is a
  -- short one of this router's own
  pub packed_updates : (lsas : List Lsa)
      → AllByRecursion (λ l. 28 + lsa_size l ≤ largest_packet) lsas
      → IsPacking lsa_size 28 lsas (packed_groups lsa_size 28 lsas)
  pub packed_acknowledgments : (headers : List Header)
      → IsPacking header_size 24 headers (packed_groups header_size 24 headers)
  -- the body of each packet fits
  pub bodies : (delay : ℕ) (contents : List Content) → AllByRecursion HasRoom contents
      → AllByRecursion HasPacketRoom (bodies delay contents)
  -- no packet has more than 8,192 bytes
  pub bytes : (own : ℕ) (links : List Link) (sends : List Send)
      → AllByRecursion (λ (s : Send). HasRoom s.content) sends
      → AllByRecursion (λ (o : Out). length o.bytes ≤ largest_packet) (outs_of own links sends)
