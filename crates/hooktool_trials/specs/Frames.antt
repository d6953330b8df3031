-- Frames, and the OSPF packets in them. Kinds of links are those of the list of LINKTYPE values.
use Rattle.std.specs.Prelude.{◌≡◌, ◌⊎◌, ℕ, ◌*◌, ◌/◌, ◌%◌, ◌<◌, ◌≤◌, List, drop, length, slice_index}
use Rattle.std.specs.Prelude.{slice_range}
use Rattle.hooktool_trials.specs.CaptureNumbers.{half}
use Rattle.hooktool_trials.specs.declared.captures.frame.FrameContent.{FrameContent}
use Rattle.hooktool_trials.specs.declared.captures.frame.FrameContent.TheVariants as contents
use Rattle.hooktool_trials.specs.declared.captures.frame.LinkType.{LinkType}
use Rattle.hooktool_trials.specs.declared.captures.frame.LinkType.TheVariants as links
use Rattle.hooktool_trials.specs.declared.captures.number.Order.TheVariants.{Big}

-- the numbers of a link: LINKTYPE_RAW and _IPV4, _ETHERNET, _LINUX_SLL, _LINUX_SLL2
abbrev pub HasNumber : LinkType → ℕ → Type 0
HasNumber links.Raw n = (n ≡ 101) ⊎ (n ≡ 228)
HasNumber links.Ethernet n = n ≡ 1
HasNumber links.LinuxCooked n = n ≡ 113
HasNumber links.LinuxCooked2 n = n ≡ 276

-- how many bytes stand in front of what a frame carries
abbrev pub header_length : LinkType → ℕ
header_length links.Raw = 0
header_length links.Ethernet = 14
header_length links.LinuxCooked = 16
header_length links.LinuxCooked2 = 20

-- where two of them name the protocol
abbrev pub protocol_place : LinkType → ℕ
protocol_place links.Raw = 0
protocol_place links.Ethernet = 12
protocol_place links.LinuxCooked = 14
protocol_place links.LinuxCooked2 = 0

-- The frame carries an IP packet: it is one, or names 0x0800.
abbrev pub CarriesIp : LinkType → List ℕ → Type 0
CarriesIp links.Raw frame = Unit {0}
CarriesIp link frame =
    (header_length link ≤ length frame) × (half Big frame (protocol_place link) ≡ 0x0800)

abbrev pub datagram_of : LinkType → List ℕ → List ℕ
datagram_of link frame = drop (header_length link) frame

-- Of an IP packet (RFC 791, 3.1): the header's length in bytes, and that of the whole packet.
abbrev pub header_of : List ℕ → ℕ
header_of datagram = 4 * (slice_index datagram 0 % 16)

abbrev pub total_of : List ℕ → ℕ
total_of datagram = half Big datagram 2

-- An IP packet of version 4, whole (no fragment), of protocol 89 (RFC 2328, A.1).
pub record IsOspf (datagram : List ℕ) : Type 0 where
  pub long : 20 ≤ length datagram
  pub version : slice_index datagram 0 / 16 ≡ 4
  pub header : 20 ≤ header_of datagram
  pub total : header_of datagram ≤ total_of datagram
  pub whole : half Big datagram 6 % 16384 ≡ 0
  pub protocol : slice_index datagram 9 ≡ 89

-- The frame has an OSPF packet in it.
abbrev pub HasOspf : LinkType → List ℕ → Type 0
HasOspf link frame = CarriesIp link frame × IsOspf (datagram_of link frame)

-- What an IP packet of OSPF's protocol has in it: what lies behind the header, up to the whole
-- packet's length, if that was captured.
abbrev pub IsPacketOf : List ℕ → FrameContent → Type 0
IsPacketOf datagram contents.Other = ⊥
IsPacketOf datagram contents.Cut = length datagram < total_of datagram
IsPacketOf datagram (contents.Packet packet) = (total_of datagram ≤ length datagram)
    × (packet.now ≡ slice_range datagram (header_of datagram) (total_of datagram))

-- What is in the frame.
abbrev pub Holds : LinkType → List ℕ → FrameContent → Type 0
Holds link frame contents.Other = HasOspf link frame → ⊥
Holds link frame contents.Cut =
    HasOspf link frame × IsPacketOf (datagram_of link frame) contents.Cut
Holds link frame (contents.Packet packet) =
    HasOspf link frame × IsPacketOf (datagram_of link frame) (contents.Packet packet)
