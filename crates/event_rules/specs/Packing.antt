-- What is sent as packets: ordered, packed, and in canonical encoding (RFC 2328, sections 13.3,
-- 13.5 and appendix A.3).
use Rattle.std.specs.Prelude.{ℕ, ◌+◌, Bool, nat_le, if◌then◌else◌, List, [], ◌∷◌, ◌++◌}
use Rattle.std.specs.Prelude.{map, Option, None, Some}
use Rattle.std.specs.List.{enumerate_from, filter_map, flat_map}
use Rattle.std.specs.Ordering.{is_gt}
use Rattle.words.specs.Constants.{largest_packet}
use Rattle.words.specs.Numbers.{InterfaceNumber, RouterNumber, Seconds}
use Rattle.words.specs.declared.key.Key.{Key}
use Rattle.lsa.specs.Text.{text}
use Rattle.lsdb.specs.Headers.{Header, Lsa, key_of, lsa_key}
use Rattle.lsdb.specs.Keys.{key_cmp}
use Rattle.packet.specs.declared.model.PacketBody.{PacketBody}
use Rattle.packet.specs.declared.model.PacketBody.TheVariants as body
use Rattle.packet.specs.declared.model.Packet.{Packet}
use Rattle.packet.specs.Text.{PacketText, canonical}
use Rattle.adjacency.specs.Contents.{Content}
pub use Rattle.adjacency.specs.Drafts.{sent_lsa}
use Rattle.received.specs.Links.{Link}
use Rattle.received.specs.AreaStates.{Send, at_interface}
use Rattle.event_rules.specs.declared.model.Out.{Out}

-- ---- in the order of the keys; items with the same key stay in their order

abbrev pub is_after : Key → Key → Bool
is_after a b = is_gt (key_cmp a b)

abbrev pub insert_by_key : {X : Type 0} → (X → Key) → X → List X → List X
insert_by_key key x [] = x ∷ []
insert_by_key key x (y ∷ ys) = if is_after (key x) (key y) then y ∷ insert_by_key key x ys else x
    ∷ (y ∷ ys)

abbrev pub in_key_order : {X : Type 0} → (X → Key) → List X → List X
in_key_order key [] = []
in_key_order key (x ∷ xs) = insert_by_key key x (in_key_order key xs)

-- ---- as many items as fit into a packet

-- `taken` are the items of the packet that is being filled, which has `used` bytes so far; each
-- packet begins with `start` bytes
abbrev pub fill_on : {X : Type 0} → (X → ℕ) → ℕ → ℕ → List X → List X → List (List X)
fill_on size start used taken [] = taken ∷ []
fill_on size start used taken (x ∷ xs) =
    if nat_le (used + size x) largest_packet
    then fill_on size start (used + size x) (taken ++ (x ∷ [])) xs
    else taken ∷ fill_on size start (start + size x) (x ∷ []) xs

abbrev pub packed_groups : {X : Type 0} → (X → ℕ) → ℕ → List X → List (List X)
packed_groups size start [] = []
packed_groups size start (x ∷ xs) = fill_on size start (start + size x) (x ∷ []) xs

-- ---- the packets of one interface by their types

abbrev pub hellos : Content → Option PacketBody
hellos (Content.SendsHello h) = Some (body.Hello h)
hellos (Content.Describes d) = None
hellos (Content.Requests keys) = None
hellos (Content.Updates lsa) = None
hellos (Content.Acknowledges h) = None

abbrev pub descriptions : Content → Option PacketBody
descriptions (Content.SendsHello h) = None
descriptions (Content.Describes d) = Some (body.Description d)
descriptions (Content.Requests keys) = None
descriptions (Content.Updates lsa) = None
descriptions (Content.Acknowledges h) = None

abbrev pub requests : Content → Option (List Key)
requests (Content.SendsHello h) = None
requests (Content.Describes d) = None
requests (Content.Requests keys) = Some keys
requests (Content.Updates lsa) = None
requests (Content.Acknowledges h) = None

abbrev pub updates : Content → Option Lsa
updates (Content.SendsHello h) = None
updates (Content.Describes d) = None
updates (Content.Requests keys) = None
updates (Content.Updates lsa) = Some lsa
updates (Content.Acknowledges h) = None

abbrev pub acknowledgments : Content → Option Header
acknowledgments (Content.SendsHello h) = None
acknowledgments (Content.Describes d) = None
acknowledgments (Content.Requests keys) = None
acknowledgments (Content.Updates lsa) = None
acknowledgments (Content.Acknowledges h) = Some h

-- Link State Requests are ordered by their first keys
abbrev pub first_key : List Key → Key
first_key [] = record { ls_type = 0; link_state_id = 0; advertising_router = 0 }
first_key (key ∷ keys) = key

abbrev pub lsa_size : Lsa → ℕ
lsa_size lsa = lsa.header.length

abbrev pub header_size : Header → ℕ
header_size h = 20

-- the LSAs as one Link State Update
abbrev pub update_of : Seconds → List Lsa → PacketBody
update_of delay lsas = body.Update (map (λ (l : Lsa). text (sent_lsa delay l)) lsas)

-- the bodies of all packets, by packet type: a Link State Update has 28 bytes before its first LSA,
-- a Link State Acknowledgment 24 before its first header
abbrev pub bodies : Seconds → List Content → List PacketBody
bodies delay contents =
    filter_map hellos contents
    ++ filter_map descriptions contents
    ++ map body.Request (in_key_order first_key (filter_map requests contents))
    ++ map (update_of delay)
    (packed_groups lsa_size 28 (in_key_order lsa_key (filter_map updates contents)))
    ++ map body.Acknowledgment
    (packed_groups header_size 24 (in_key_order key_of (filter_map acknowledgments contents)))

-- ---- all interfaces in order

abbrev pub packet_of : RouterNumber → PacketBody → Packet
packet_of own says = record { router = own; body = says }

-- the bytes that are sent encode a packet from this router with this body
abbrev pub IsSentText : RouterNumber → PacketBody → Type 0
IsSentText own says = PacketText (canonical (packet_of own says)) (packet_of own says)

abbrev pub out_of : RouterNumber → InterfaceNumber → PacketBody → Out
out_of own interface says = record { interface = interface; bytes = canonical (packet_of own says) }

abbrev pub outs_at : RouterNumber → List Send → InterfaceNumber → Link → List Out
outs_at own sends interface link =
    map (out_of own interface) (bodies link.interface.delay
    (filter_map (at_interface interface) sends))

abbrev pub outs_of : RouterNumber → List Link → List Send → List Out
outs_of own links sends =
    flat_map (λ (e : ℕ × Link). outs_at own sends e.0 e.1) (enumerate_from 1 links)
