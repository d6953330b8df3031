-- Which canonical encodings are valid packets.
use Rattle.std.specs.Prelude.{◌≤◌, ◌<◌, ◌^◌, ℕ, List, length, map}
use Rattle.std.specs.List.{AllByRecursion}
use Rattle.words.specs.Constants.{largest_packet}
use Rattle.lsa.specs.Headers.{IsHeader}
use Rattle.lsa.specs.Text.{text}
use Rattle.lsdb.specs.Headers.{Header, Lsa}
use Rattle.packet.specs.declared.model.PacketBody.TheVariants as body
use Rattle.packet.specs.Text.{PacketText, canonical}
use Rattle.adjacency.specs.Rooms.{Fits}
use Rattle.event_rules.specs.Packing.{packet_of}

-- if there are at most 8,192 bytes, the header fields are in their ranges, and each LSA's length is
-- that of its bytes
pub record TextsAreLawful : Type 0 where
  pub update : (own : ℕ) (lsas : List Lsa) → own < 2 ^ 32
      → AllByRecursion (λ l. IsHeader l.header × Fits l) lsas
      → length (canonical (packet_of own (body.Update (map (λ l. text l) lsas)))) ≤ largest_packet
      → PacketText (canonical (packet_of own (body.Update (map (λ l. text l) lsas))))
      (packet_of own (body.Update (map (λ l. text l) lsas)))
  pub acknowledgment : (own : ℕ) (headers : List Header) → own < 2 ^ 32
      → AllByRecursion IsHeader headers
      → length (canonical (packet_of own (body.Acknowledgment headers))) ≤ largest_packet
      → PacketText (canonical (packet_of own (body.Acknowledgment headers)))
      (packet_of own (body.Acknowledgment headers))
