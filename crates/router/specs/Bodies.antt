-- The bodies of the packets of a draft: ordered and packed (RFC 2328, sections 13.3, 13.5).
use Rattle.std.specs.Prelude.{ℕ, List, ◌++◌, ◌+◌, ◌≤◌, length, map}
use Rattle.std.specs.List.{AllByRecursion}
use Rattle.words.specs.Constants.{largest_packet}
use Rattle.words.specs.declared.key.Key.{Key}
use Rattle.lsdb.specs.Headers.{Header, key_of}
use Rattle.packet.specs.declared.model.PacketBody.{PacketBody}
use Rattle.packet.specs.declared.model.PacketBody.TheVariants as body
use Rattle.adjacency.specs.Drafts.{Drafted}
use Rattle.adjacency.specs.declared.draft.Update.{Update}
use Rattle.event_rules.specs.Packing.{first_key, header_size, in_key_order, packed_groups}

abbrev pub update_key : Update → Key
update_key u = u.key

abbrev pub texts : List Update → List (List ℕ)
texts updates = map (λ (u : Update). u.text) updates

abbrev pub text_size : List ℕ → ℕ
text_size text = length text

-- each fits into a Link State Update, after the 28 bytes before its first LSA
abbrev pub IsShort : Update → Type 0
IsShort u = 28 + length u.text ≤ largest_packet

abbrev pub AllShort : List Update → Type 0
AllShort updates = AllByRecursion IsShort updates

abbrev pub update_bodies : List Update → List PacketBody
update_bodies updates =
    map body.Update (packed_groups text_size 28 (texts (in_key_order update_key updates)))

abbrev pub acknowledgment_bodies : List Header → List PacketBody
acknowledgment_bodies headers =
    map body.Acknowledgment (packed_groups header_size 24 (in_key_order key_of headers))

abbrev pub drafted_bodies : Drafted → List PacketBody
drafted_bodies d =
    map body.Hello d.hellos
    ++ map body.Description d.descriptions
    ++ map body.Request (in_key_order first_key d.requests)
    ++ update_bodies d.updates
    ++ acknowledgment_bodies d.acknowledgments
