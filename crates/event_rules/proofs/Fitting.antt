-- LSAs that fit into a Link State Update: those that a packet contains, and this router's own.
use Rattle.std.proofs.Common.{◌≡◌, ◌≤◌, ℕ, zero, suc, ◌+◌, ◌-◌, ◌*◌, ◌/◌, ◌%◌, Bool, true, false}
use Rattle.std.proofs.Common.{cond, not, ◌&&◌, ◌||◌, eqb, List, [], ◌∷◌, ◌++◌, length, Option, None}
use Rattle.std.proofs.Common.{Some, refl, sym, ap, ◌∙◌, arith, length-append}
use Rattle.std.specs.Prelude.{nat_le}
use Rattle.std.specs.List.{AllByRecursion, flat_map}
use Rattle.std.specs.FinMap as finite
use Rattle.std.proofs.lemmas.Bool.{and_parts, eqb-true, leb-true}
use Rattle.words.specs.declared.key.Key.{Key}
use Rattle.words.specs.declared.route.External.{External}
use Rattle.words.specs.Fields.{field, fields}
use Rattle.words.specs.Records.{records}
use Rattle.words.proofs.Records.{IsWide, length-records_text}
use Rattle.lsa.specs.declared.body.LsaBody.{LsaBody}
use Rattle.lsa.specs.declared.body.LsaBody.TheVariants as body
use Rattle.lsa.specs.declared.body.RouterLink.{RouterLink}
use Rattle.lsa.specs.declared.body.LinkKind.TheVariants.{PointToPoint}
use Rattle.lsa.specs.declared.fault.LsaFault.{LsaFault}
use Rattle.lsa.specs.Headers.{header_at, header_text}
use Rattle.lsa.specs.Origination.{sealed_lsa}
use Rattle.lsa.specs.Reading.{router_id_at, body_fills, body_of, external_fills, external_of}
use Rattle.lsa.specs.Reading.{external_tos_at, fault_of, faults, first_of, is_external_bit}
use Rattle.lsa.specs.Reading.{is_link_kind, link_at, link_size, link_tos_at, links_at, links_fill}
use Rattle.lsa.specs.Reading.{lsa_in, lsa_of, network_fills, network_of, router_fills, router_of}
use Rattle.lsa.specs.Reading.{read_unless, summary_fills, summary_of, summary_tos_at}
use Rattle.lsa.specs.Text.{IsRouterId, IsExternalTos, IsLinkTos, IsSummaryTos, router_id_text}
use Rattle.lsa.specs.Text.{body_text, external_fields, external_tos_text, link_fields, link_text}
use Rattle.lsa.specs.Text.{link_tos_text, router_fields, summary_fields, summary_text}
use Rattle.lsa.specs.Text.{summary_tos_text, text}
use Rattle.lsdb.specs.Copies.{DatabaseCopy}
use Rattle.lsdb.specs.Headers.{Lsa}
use Rattle.lsdb.specs.Keys.{same_key}
use Rattle.packet.specs.declared.model.PacketBody.{PacketBody}
use Rattle.packet.specs.declared.model.PacketBody.TheVariants as packets
use Rattle.packet.specs.declared.model.Packet.{Packet}
use Rattle.packet.specs.Checksum.{packet_checksum}
use Rattle.packet.specs.Text as packet_text
use Rattle.packet.specs.Text.{Open, PacketText}
use Rattle.adjacency.specs.Neighbors.{Neighbor, is_full}
use Rattle.adjacency.specs.declared.interface.Interface.{Interface}
use Rattle.adjacency.specs.Rooms.{Fits}
use Rattle.adjacency.proofs.Kept.{chosen}
use Rattle.received.specs.Links.{Link}
use Rattle.event_rules.specs.Originations.{announced_body, links_of, new_instance, point_to_point}
use Rattle.event_rules.specs.Originations.{router_body, router_key, stub, wanted_body}
use Rattle.event_rules.specs.Routers.{Router}

-- ---- tests

not_false : (b : Bool) → not b ≡ false → b ≡ true
not_false true e = refl
not_false false e = absurd cc

all_fail : (ts : List (Bool × LsaFault)) → first_of ts ≡ None → AllByRecursion (λ t. t.0 ≡ false) ts
all_fail [] e = tt
all_fail (t ∷ ts) e = by_test t.0 refl e (all_fail ts)
  where
    by_test : (b : Bool) → t.0 ≡ b → cond b (Some t.1) (first_of ts) ≡ None
        → (first_of ts ≡ None → AllByRecursion (λ u. u.0 ≡ false) ts)
        → AllByRecursion (λ u. u.0 ≡ false) (t ∷ ts)
    by_test true is some rest = absurd cc
    by_test false is none rest = (is, rest none)

-- ---- LSAs as they are parsed

length-records : {X : Type 0} (read : List ℕ → ℕ → X) (width : ℕ) (bytes : List ℕ) (at n : ℕ)
    → length (records read width bytes at n) ≡ n
length-records read width bytes at zero = refl
length-records read width bytes at (suc n) =
    ap (λ k. suc k) (length-records read width bytes (at + width) n)

link_tos-wide : IsWide link_tos_text 4
link_tos-wide t = refl

router_id-wide : IsWide router_id_text 4
router_id-wide r = refl

summary_tos-wide : IsWide summary_tos_text 4
summary_tos-wide t = refl

external_tos-wide : IsWide external_tos_text 12
external_tos-wide t = refl

length-link : (bytes : List ℕ) (at : ℕ) → length (link_text (link_at bytes at)) ≡ link_size bytes at
length-link bytes at =
    let l : RouterLink = link_at bytes at in
    omega (
      arith,
      length-append (fields (link_fields l)) (flat_map link_tos_text l.tos),
      length-records_text link_tos_at link_tos_text IsLinkTos 4 link_tos-wide l.tos,
      length-records link_tos_at 4 bytes (at + 12) (field bytes (at + 9) 1),
    )

links_fill_all : (bytes : List ℕ) (n at : ℕ) → links_fill bytes n at ≡ true
    → at + length (flat_map link_text (links_at bytes n at)) ≡ length bytes
links_fill_all bytes zero at e = omega (arith, eqb-true at (length bytes) e)
links_fill_all bytes (suc n) at e =
    let rest = links_fill bytes n (at + link_size bytes at) in
    let known : links_fill bytes n (at + link_size bytes at) ≡ true =
    (and_parts (is_link_kind (field bytes (at + 8) 1)) rest
    (and_parts (nat_le (at + 12) (length bytes)) (is_link_kind (field bytes (at + 8) 1) && rest)
    e).1).1 in
    omega (
      arith,
      length-append (link_text (link_at bytes at))
          (flat_map link_text (links_at bytes n (at + link_size bytes at))),
      length-link bytes at,
      links_fill_all bytes n (at + link_size bytes at) known,
    )

router_filled : (bytes : List ℕ) → router_fills bytes ≡ true
    → 20 + length (body_text (body.Router (router_of bytes))) ≡ length bytes
router_filled bytes e =
    let link_loading_done : Bool = links_fill bytes (field bytes 22 2) 24 in
    let loading_done = (and_parts (eqb (field bytes 21 1) 0) link_loading_done
    (and_parts (nat_le 24 (length bytes)) (eqb (field bytes 21 1) 0 && link_loading_done)
    e).1).1 in
    omega (
      arith,
      length-append (fields (router_fields (router_of bytes)))
          (flat_map link_text (links_at bytes (field bytes 22 2) 24)),
      links_fill_all bytes (field bytes 22 2) 24 loading_done,
    )

network_filled : (bytes : List ℕ) → network_fills bytes ≡ true
    → 20 + length (body_text (body.Network (network_of bytes))) ≡ length bytes
network_filled bytes e =
    let a = and_parts (nat_le 24 (length bytes)) (eqb ((length bytes - 24) % 4) 0) e in
    let n : ℕ = (length bytes - 24) / 4 in
    let routers : List ℕ = records router_id_at 4 bytes 24 ((length bytes - 24) / 4) in
    omega (
      arith,
      leb-true 24 (length bytes) a.0,
      eqb-true ((length bytes - 24) % 4) 0 a.1,
      length-append (fields ((4, field bytes 20 4) ∷ [])) (flat_map router_id_text routers),
      length-records_text router_id_at router_id_text IsRouterId 4 router_id-wide routers,
      length-records router_id_at 4 bytes 24 ((length bytes - 24) / 4),
    )

summary_filled : (bytes : List ℕ) → summary_fills bytes ≡ true
    → 20 + length (summary_text (summary_of bytes)) ≡ length bytes
summary_filled bytes e =
    let a = and_parts (nat_le 28 (length bytes))
    (eqb ((length bytes - 28) % 4) 0 && eqb (field bytes 24 1) 0) e in
    let b = and_parts (eqb ((length bytes - 28) % 4) 0) (eqb (field bytes 24 1) 0) a.1 in
    let metrics = records summary_tos_at 4 bytes 28 ((length bytes - 28) / 4) in
    omega (
      arith,
      leb-true 28 (length bytes) a.0,
      eqb-true ((length bytes - 28) % 4) 0 b.0,
      length-append (fields (summary_fields (summary_of bytes)))
          (flat_map summary_tos_text metrics),
      length-records_text summary_tos_at summary_tos_text IsSummaryTos 4 summary_tos-wide metrics,
      length-records summary_tos_at 4 bytes 28 ((length bytes - 28) / 4),
    )

external_filled : (bytes : List ℕ) → external_fills bytes ≡ true
    → 20 + length (body_text (body.External (external_of bytes))) ≡ length bytes
external_filled bytes e =
    let a = and_parts (nat_le 36 (length bytes))
    (eqb ((length bytes - 36) % 12) 0 && is_external_bit (field bytes 24 1)) e in
    let b = and_parts (eqb ((length bytes - 36) % 12) 0) (is_external_bit (field bytes 24 1)) a.1 in
    let metrics = records external_tos_at 12 bytes 36 ((length bytes - 36) / 12) in
    omega (
      arith,
      leb-true 36 (length bytes) a.0,
      eqb-true ((length bytes - 36) % 12) 0 b.0,
      length-append (fields (external_fields (external_of bytes)))
          (flat_map external_tos_text metrics),
      length-records_text external_tos_at external_tos_text IsExternalTos 12 external_tos-wide
          metrics,
      length-records external_tos_at 12 bytes 36 ((length bytes - 36) / 12),
    )

body_filled : (one two three four : Bool) (bytes : List ℕ)
    → cond one (router_fills bytes) (cond two (network_fills bytes)
    (cond (three || four) (summary_fills bytes) (external_fills bytes))) ≡ true
    → 20 + length (body_text (cond one (body.Router (router_of bytes))
    (cond two (body.Network (network_of bytes))
    (cond three (body.NetworkSummary (summary_of bytes))
    (cond four (body.RouterSummary (summary_of bytes))
    (body.External (external_of bytes))))))) ≡ length bytes
body_filled true two three four bytes e = router_filled bytes e
body_filled false true three four bytes e = network_filled bytes e
body_filled false false true four bytes e = summary_filled bytes e
body_filled false false false true bytes e = summary_filled bytes e
body_filled false false false false bytes e = external_filled bytes e

-- bytes without a fault are as long as the encoding of what is parsed
read_length : (bytes : List ℕ) → fault_of bytes ≡ None
    → (length (text (lsa_of bytes)) ≡ length bytes) × (field bytes 18 2 ≡ length bytes)
unfolding fault_of
read_length bytes none =
    let h = all_fail (faults bytes) none in
    let filled : 20 + length (body_text (body_of (field bytes 3 1) bytes)) ≡ length bytes =
    body_filled (eqb (field bytes 3 1) 1) (eqb (field bytes 3 1) 2) (eqb (field bytes 3 1) 3)
    (eqb (field bytes 3 1) 4) bytes
    (not_false (body_fills (field bytes 3 1) bytes) h.1.1.1.1.1.1.0) in (
      length-append (header_text (header_at bytes 0)) (body_text (body_of (field bytes 3 1) bytes))
          ∙ filled,
      eqb-true (field bytes 18 2) (length bytes)
          (not_false (eqb (field bytes 18 2) (length bytes)) h.1.0),
    )

abbrev pub FitsIfRead : Option Lsa → Type 0
FitsIfRead None = Unit {0}
FitsIfRead (Some lsa) = Fits lsa

pub read_fits : (bytes : List ℕ) → 28 + length bytes ≤ 8192 → FitsIfRead (lsa_in bytes)
read_fits bytes short = by_fault (fault_of bytes) refl
  where
    by_fault : (o : Option LsaFault) → fault_of bytes ≡ o → FitsIfRead (read_unless bytes o)
    by_fault None e = let sizes = read_length bytes e in
        (sizes.0 ∙ sym sizes.1, omega (arith, short, sizes.1))
    by_fault (Some f) e = tt

-- ---- the LSAs in a packet

abbrev pub IsShort : List ℕ → Type 0
IsShort bytes = 28 + length bytes ≤ 8192

-- each LSA of a Link State Update fits after the bytes before it
abbrev pub BringsShort : PacketBody → Type 0
BringsShort (packets.Hello h) = Unit {0}
BringsShort (packets.Description d) = Unit {0}
BringsShort (packets.Request keys) = Unit {0}
BringsShort (packets.Update lsas) = AllByRecursion IsShort lsas
BringsShort (packets.Acknowledgment headers) = Unit {0}

each_short : (lsas : List (List ℕ)) → 28 + length (flat_map (λ (lsa : List ℕ). lsa) lsas) ≤ 8192
    → AllByRecursion IsShort lsas
each_short [] h = tt
each_short (l ∷ ls) h =
    let both = length-append l (flat_map (λ (lsa : List ℕ). lsa) ls) in
    (omega (arith, h, both), each_short ls (omega (arith, h, both)))

brings_short : (o : Open) (b : PacketBody) → 24 + length (packet_text.body_text o b) ≤ 8192
    → BringsShort b
brings_short o (packets.Hello h) few = tt
brings_short o (packets.Description d) few = tt
brings_short o (packets.Request keys) few = tt
brings_short o (packets.Update lsas) few =
    each_short lsas (omega (
      arith,
      few,
      length-append (packet_text.router_id_text (length lsas))
          (flat_map (λ (lsa : List ℕ). lsa) lsas),
    ))
brings_short o (packets.Acknowledgment headers) few = tt

pub packet_short : (bytes : List ℕ) (p : Packet) → PacketText bytes p → BringsShort p.body
packet_short bytes p is =
    let says : List ℕ = packet_text.body_text is.filler p.body in
    let size : length bytes ≡ 24 + length says =
    ap length is.spelled
    ∙ length-append (fields (packet_text.header (packet_text.type_of p.body) (24 + length says)
    p.router (packet_checksum bytes) is.filler.authentication)) says in
    brings_short is.filler p.body (omega (arith, size, is.size))

-- ---- self-originated LSAs

-- the body of a new instance fits
abbrev pub IsFewIfAny : Option LsaBody → Type 0
IsFewIfAny None = Unit {0}
IsFewIfAny (Some says) = length (body_text says) ≤ 8144

pub originated_fits : (key : Key) (copy : Option DatabaseCopy) (says : LsaBody)
    → length (body_text says) ≤ 8144 → Fits (new_instance key copy says)
unfolding sealed_lsa
originated_fits key copy says few = (
  length-append (header_text (new_instance key copy says).header) (body_text says),
  omega (arith, few),
)

length-links_text : (xs ys : List RouterLink)
    → length (flat_map link_text (xs ++ ys))
    ≡ length (flat_map link_text xs) + length (flat_map link_text ys)
length-links_text [] ys = omega arith
length-links_text (x ∷ xs) ys =
    omega (
      arith,
      length-append (link_text x) (flat_map link_text (xs ++ ys)),
      length-append (link_text x) (flat_map link_text xs),
      length-links_text xs ys,
    )

one_link : (i : Interface) (o : Option Neighbor)
    → length (flat_map link_text (point_to_point i o)) ≤ 12
one_link i None = omega arith
one_link i (Some n) = by_state (is_full n.state)
  where
    there : RouterLink
    there = record {
      link_id = n.router;
      link_data = i.address;
      kind = PointToPoint;
      metric = i.cost;
      tos = [];
    }

    by_state : (b : Bool) → length (flat_map link_text (cond b (there ∷ []) [])) ≤ 12
    by_state true = omega arith
    by_state false = omega arith

two_links : (link : Link) → length (flat_map link_text (links_of link)) ≤ 24
two_links link = omega (
  arith,
  one_link link.interface link.neighbor,
  length-links_text (point_to_point link.interface link.neighbor) (stub link.interface ∷ []),
)

all_links : (links : List Link) → length (flat_map link_text (flat_map links_of links))
    ≤ 24 * length links
all_links [] = omega arith
all_links (x ∷ xs) = omega (
  arith,
  two_links x,
  all_links xs,
  length-links_text (links_of x) (flat_map links_of xs),
)

pub router_few : (links : List Link) → length links ≤ 63
    → length (body_text (router_body links)) ≤ 8144
router_few links few =
    omega (
      arith,
      few,
      all_links links,
      length-append (fields (router_fields (record {
        flags = 2;
        links = flat_map links_of links;
      }))) (flat_map link_text (flat_map links_of links)),
    )

announced_few : (o : Option External) → IsFewIfAny (announced_body o)
announced_few None = tt
announced_few (Some e) = omega arith

-- the wanted body of a self-originated LSA
pub wanted_few : (r : Router) (key : Key) → length r.area.links ≤ 63
    → IsFewIfAny (wanted_body r key)
wanted_few r key few =
    chosen IsFewIfAny (same_key key (router_key r.id)) (Some (router_body r.area.links))
    (announced_body (finite.get r.announced key))
    (λ is. router_few r.area.links few) (λ is. announced_few (finite.get r.announced key))
