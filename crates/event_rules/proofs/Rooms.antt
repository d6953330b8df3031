-- The bytes of what is sent.
use Rattle.std.proofs.Common.{◌≡◌, ◌≤◌, ℕ, ◌+◌, ◌*◌, Bool, true, false, cond, List, [], ◌∷◌, ◌++◌}
use Rattle.std.proofs.Common.{map, length, Option, None, Some, refl, sym, ap, subst, ◌∙◌, arith}
use Rattle.std.proofs.Common.{length-append}
use Rattle.std.specs.Prelude.{◌==◌, nat_le}
use Rattle.std.specs.List.{AllByRecursion, cons_option, enumerate_from, filter_map, flat_map}
use Rattle.words.specs.Fields.{fields}
use Rattle.words.specs.declared.key.Key.{Key}
use Rattle.words.proofs.Records.{length-records_text}
use Rattle.lsa.specs.Headers.{IsHeader, header_at, header_text}
use Rattle.lsa.specs.Text as lsa_text
use Rattle.lsa.proofs.Headers.{header-wide}
use Rattle.lsdb.specs.Headers.{Header, Lsa, key_of, lsa_key}
use Rattle.packet.specs.declared.model.PacketBody.{PacketBody}
use Rattle.packet.specs.declared.model.PacketBody.TheVariants as body
use Rattle.packet.specs.declared.model.Packet.{Packet}
use Rattle.packet.specs.Checksum.{packet_checksum}
use Rattle.packet.specs.Reading.{key_at, router_id_at}
use Rattle.packet.specs.Text.{IsKey, IsRouterId, body_text, canonical, closed_fields, description}
use Rattle.packet.specs.Text.{header, hello, key_text, router_id_text, text, type_of}
use Rattle.packet.proofs.Records.{key-wide, router_id-wide}
use Rattle.adjacency.specs.Contents.{Content}
use Rattle.received.specs.Links.{Link}
use Rattle.received.specs.AreaStates.{Send, at_interface}
use Rattle.event_rules.specs.declared.model.Out.{Out}
use Rattle.event_rules.specs.Packing.{acknowledgments, bodies, descriptions, fill_on}
use Rattle.event_rules.specs.Packing.{first_key, header_size, hellos, in_key_order, lsa_size}
use Rattle.event_rules.specs.Packing.{out_of}
use Rattle.event_rules.specs.Packing.{outs_at, packed_groups, packet_of, requests, sent_lsa}
use Rattle.event_rules.specs.Packing.{update_of}
use Rattle.event_rules.specs.Packing.{updates}
use Rattle.event_rules.specs.PackingLaws.{HasPacketRoom, HasRoom, OutsAreOrderedAndPacked, sizes}
use Rattle.event_rules.specs.PackingLaws.{total}
use Rattle.event_rules.proofs.Packings.{by_interface, headers_fit, ordered, packs, put_all}

-- ---- lists

pub both : {X : Type 0} (P : X → Type 0) (xs ys : List X) → AllByRecursion P xs
    → AllByRecursion P ys → AllByRecursion P (xs ++ ys)
both P [] ys p q = q
both P (x ∷ xs) ys p q = (p.0, both P xs ys p.1 q)

pub order_all : {X : Type 0} (key : X → Key) (P : X → Type 0) (xs : List X) → AllByRecursion P xs
    → AllByRecursion P (in_key_order key xs)
order_all key P [] p = tt
order_all key P (x ∷ xs) p = put_all key P x (in_key_order key xs) p.0 (order_all key P xs p.1)

pub mapped_all : {X Y : Type 0} (f : X → Y) (P : X → Type 0) (Q : Y → Type 0)
    → ((x : X) → P x → Q (f x)) → (xs : List X) → AllByRecursion P xs → AllByRecursion Q (map f xs)
mapped_all f P Q each [] p = tt
mapped_all f P Q each (x ∷ xs) p = (each x p.0, mapped_all f P Q each xs p.1)

pub paired_all : {X : Type 0} (P Q : X → Type 0) (xs : List X) → AllByRecursion P xs
    → AllByRecursion Q xs → AllByRecursion (λ x. P x × Q x) xs
paired_all P Q [] p q = tt
paired_all P Q (x ∷ xs) p q = ((p.0, q.0), paired_all P Q xs p.1 q.1)

-- a property of all items is one of all items in each packet
filled_all : {X : Type 0} (size : X → ℕ) (start : ℕ) (P : X → Type 0) (xs taken : List X) (used : ℕ)
    → AllByRecursion P taken → AllByRecursion P xs
    → AllByRecursion (λ p. AllByRecursion P p) (fill_on size start used taken xs)
filled_all size start P [] taken used t p = (t, tt)
filled_all size start P (x ∷ xs) taken used t p =
    by_test (nat_le (used + size x) 8192)
    (filled_all size start P xs (taken ++ (x ∷ [])) (used + size x)
    (both P taken (x ∷ []) t (p.0, tt)) p.1)
    (filled_all size start P xs (x ∷ []) (start + size x) (p.0, tt) p.1)
  where
    by_test : (b : Bool) → AllByRecursion (λ q. AllByRecursion P q)
        (fill_on size start (used + size x) (taken ++ (x ∷ [])) xs)
        → AllByRecursion (λ q. AllByRecursion P q)
        (fill_on size start (start + size x) (x ∷ []) xs)
        → AllByRecursion (λ q. AllByRecursion P q)
        (cond b (fill_on size start (used + size x) (taken ++ (x ∷ [])) xs)
        (taken ∷ fill_on size start (start + size x) (x ∷ []) xs))
    by_test true one other = one
    by_test false one other = (t, other)

pub packed_all : {X : Type 0} (size : X → ℕ) (start : ℕ) (P : X → Type 0) (xs : List X)
    → AllByRecursion P xs → AllByRecursion (λ p. AllByRecursion P p) (packed_groups size start xs)
packed_all size start P [] p = tt
packed_all size start P (x ∷ xs) p =
    filled_all size start P xs (x ∷ []) (start + size x) (p.0, tt) p.1

-- what is chosen from each content
chosen_all : {Y : Type 0} (f : Content → Option Y) (P : Y → Type 0)
    → ((c : Content) → HasRoom c → AllByRecursion P (cons_option (f c) [])) → (cs : List Content)
    → AllByRecursion HasRoom cs → AllByRecursion P (filter_map f cs)
chosen_all {Y = Y} f P each [] p = tt
chosen_all {Y = Y} f P each (c ∷ cs) p =
    in_front (f c) (each c p.0) (filter_map f cs) (chosen_all f P each cs p.1)
  where
    in_front : (o : Option Y) → AllByRecursion P (cons_option o []) → (ys : List Y)
        → AllByRecursion P ys → AllByRecursion P (cons_option o ys)
    in_front None q ys r = r
    in_front (Some y) q ys r = (q.0, r)

-- ---- bytes

canonical_length : (p : Packet) → length (canonical p)
    ≡ 24 + length (body_text closed_fields p.body)
unfolding canonical
canonical_length p = length-append
    (fields (header (type_of p.body) (24 + length (body_text closed_fields p.body)) p.router
    (packet_checksum (text closed_fields 0 p)) 0)) (body_text closed_fields p.body)

hello_room : (c : Content) → HasRoom c → AllByRecursion HasPacketRoom (cons_option (hellos c) [])
hello_room (Content.SendsHello h) room =
    let wide : length (flat_map router_id_text h.neighbors) ≡ 4 * length h.neighbors =
    length-records_text router_id_at router_id_text IsRouterId 4 router_id-wide h.neighbors in
    let size : length (fields (hello closed_fields h) ++ flat_map router_id_text h.neighbors)
    ≡ 20 + length (flat_map router_id_text h.neighbors) =
    length-append (fields (hello closed_fields h)) (flat_map router_id_text h.neighbors) in
    let few : 24 + length (fields (hello closed_fields h) ++ flat_map router_id_text h.neighbors)
    ≤ 8192 = omega (arith, wide, size, room) in
    (record { bytes = few; count = omega arith }, tt)
hello_room (Content.Describes d) room = tt
hello_room (Content.Requests keys) room = tt
hello_room (Content.Updates lsa) room = tt
hello_room (Content.Acknowledges h) room = tt

description_room : (c : Content) → HasRoom c
    → AllByRecursion HasPacketRoom (cons_option (descriptions c) [])
description_room (Content.SendsHello h) room = tt
description_room (Content.Describes d) room =
    let wide : length (flat_map header_text d.headers) ≡ 20 * length d.headers =
    length-records_text header_at header_text IsHeader 20 header-wide d.headers in
    let size : length (fields (description d) ++ flat_map header_text d.headers)
    ≡ 8 + length (flat_map header_text d.headers) =
    length-append (fields (description d)) (flat_map header_text d.headers) in
    let few : 24 + length (fields (description d) ++ flat_map header_text d.headers) ≤ 8192 =
    omega (arith, wide, size, room) in
    (record { bytes = few; count = omega arith }, tt)
description_room (Content.Requests keys) room = tt
description_room (Content.Updates lsa) room = tt
description_room (Content.Acknowledges h) room = tt

IsShort : List Key → Type 0
IsShort keys = length keys ≤ 680

request_room : (c : Content) → HasRoom c → AllByRecursion IsShort (cons_option (requests c) [])
unfolding IsShort
request_room (Content.SendsHello h) room = tt
request_room (Content.Describes d) room = tt
request_room (Content.Requests keys) room = (room, tt)
request_room (Content.Updates lsa) room = tt
request_room (Content.Acknowledges h) room = tt

request_bytes : (keys : List Key) → IsShort keys → HasPacketRoom (body.Request keys)
unfolding IsShort
request_bytes keys short =
    let wide : length (flat_map key_text keys) ≡ 12 * length keys =
    length-records_text key_at key_text IsKey 12 key-wide keys in
    record { bytes = omega (arith, wide, short); count = omega arith }

IsSized : Lsa → Type 0
IsSized lsa = (length (lsa_text.text lsa) ≡ lsa_size lsa) × (28 + lsa_size lsa ≤ 8192)

update_room : (c : Content) → HasRoom c → AllByRecursion IsSized (cons_option (updates c) [])
unfolding IsSized
update_room (Content.SendsHello h) room = tt
update_room (Content.Describes d) room = tt
update_room (Content.Requests keys) room = tt
update_room (Content.Updates lsa) room = (room, tt)
update_room (Content.Acknowledges h) room = tt

-- an LSA at another age is as long
sent_length : (delay : ℕ) (lsa : Lsa)
    → length (lsa_text.text (sent_lsa delay lsa)) ≡ length (lsa_text.text lsa)
sent_length delay lsa =
    length-append (header_text (sent_lsa delay lsa).header) (lsa_text.body_text lsa.body)
    ∙ sym (length-append (header_text lsa.header) (lsa_text.body_text lsa.body))

texts_length : (delay : ℕ) (lsas : List Lsa) → AllByRecursion IsSized lsas
    → length (flat_map (λ (t : List ℕ). t)
    (map (λ (l : Lsa). lsa_text.text (sent_lsa delay l)) lsas)) ≡ sizes lsa_size lsas
unfolding IsSized
texts_length delay [] p = refl
texts_length delay (l ∷ ls) p =
    length-append (lsa_text.text (sent_lsa delay l))
    (flat_map (λ (t : List ℕ). t) (map (λ (m : Lsa). lsa_text.text (sent_lsa delay m)) ls))
    ∙ (λ i. (sent_length delay l ∙ p.0.0) i + texts_length delay ls p.1 i)

-- no more encodings than they have bytes
texts_count : (delay : ℕ) (lsas : List Lsa)
    → length (map (λ (l : Lsa). lsa_text.text (sent_lsa delay l)) lsas)
    ≤ length (flat_map (λ (t : List ℕ). t)
    (map (λ (l : Lsa). lsa_text.text (sent_lsa delay l)) lsas))
texts_count delay [] = omega arith
texts_count delay (l ∷ ls) =
    omega (
      arith,
      length-append (lsa_text.text (sent_lsa delay l))
          (flat_map (λ (t : List ℕ). t) (map (λ (m : Lsa). lsa_text.text (sent_lsa delay m)) ls)),
      length-append (header_text (sent_lsa delay l).header) (lsa_text.body_text l.body),
      texts_count delay ls,
    )

update_bytes : (delay : ℕ) (lsas : List Lsa)
    → AllByRecursion IsSized lsas × (total lsa_size 28 lsas ≤ 8192)
    → HasPacketRoom (update_of delay lsas)
update_bytes delay lsas p =
    let texts : List (List ℕ) = map (λ (l : Lsa). lsa_text.text (sent_lsa delay l)) lsas in
    let size : length (router_id_text (length texts) ++ flat_map (λ (t : List ℕ). t) texts)
    ≡ 4 + sizes lsa_size lsas =
    length-append (router_id_text (length texts)) (flat_map (λ (t : List ℕ). t) texts)
    ∙ ap (λ n. 4 + n) (texts_length delay lsas p.0) in
    record {
      bytes = omega (arith, size, p.1);
      count = omega (arith, texts_count delay lsas, texts_length delay lsas p.0, p.1);
    }

sized_fit : (lsas : List Lsa) → AllByRecursion IsSized lsas
    → AllByRecursion (λ l. 28 + lsa_size l ≤ 8192) lsas
unfolding IsSized
sized_fit [] p = tt
sized_fit (l ∷ ls) p = (p.0.1, sized_fit ls p.1)

headers_length : (hs : List Header) → length (flat_map header_text hs) ≡ sizes header_size hs
headers_length [] = refl
headers_length (h ∷ hs) = length-append (header_text h) (flat_map header_text hs)
    ∙ ap (λ n. 20 + n) (headers_length hs)

acknowledgment_bytes : (hs : List Header) → total header_size 24 hs ≤ 8192
    → HasPacketRoom (body.Acknowledgment hs)
acknowledgment_bytes hs p = record {
  bytes = omega (arith, p, headers_length hs);
  count = omega arith;
}

-- ---- all packets

bodies_few : (delay : ℕ) (cs : List Content) → AllByRecursion HasRoom cs
    → AllByRecursion HasPacketRoom (bodies delay cs)
bodies_few delay cs rooms =
    let hs : List PacketBody = filter_map hellos cs in
    let ds : List PacketBody = filter_map descriptions cs in
    let keys : List (List Key) = in_key_order first_key (filter_map requests cs) in
    let lsas : List Lsa = in_key_order lsa_key (filter_map updates cs) in
    let headers : List Header = in_key_order key_of (filter_map acknowledgments cs) in
    let sized : AllByRecursion IsSized lsas =
    order_all lsa_key IsSized (filter_map updates cs)
    (chosen_all updates IsSized update_room cs rooms) in
    let short : AllByRecursion IsShort keys =
    order_all first_key IsShort (filter_map requests cs)
    (chosen_all requests IsShort request_room cs rooms) in
    let parcels : AllByRecursion (λ p. AllByRecursion IsSized p × (total lsa_size 28 p ≤ 8192))
    (packed_groups lsa_size 28 lsas) =
    paired_all (λ p. AllByRecursion IsSized p) (λ p. total lsa_size 28 p ≤ 8192)
    (packed_groups lsa_size 28 lsas)
    (packed_all lsa_size 28 IsSized lsas sized)
    (packs lsa_size 28 lsas (sized_fit lsas sized)).within in
    both HasPacketRoom _ (map body.Acknowledgment (packed_groups header_size 24 headers))
    (both HasPacketRoom _ (map (update_of delay) (packed_groups lsa_size 28 lsas))
    (both HasPacketRoom _ (map body.Request keys)
    (both HasPacketRoom hs ds (chosen_all hellos HasPacketRoom hello_room cs rooms)
    (chosen_all descriptions HasPacketRoom description_room cs rooms))
    (mapped_all body.Request IsShort HasPacketRoom request_bytes keys short))
    (mapped_all (update_of delay) (λ p. AllByRecursion IsSized p × (total lsa_size 28 p ≤ 8192))
    HasPacketRoom (update_bytes delay) (packed_groups lsa_size 28 lsas) parcels))
    (mapped_all body.Acknowledgment (λ p. total header_size 24 p ≤ 8192) HasPacketRoom
    acknowledgment_bytes (packed_groups header_size 24 headers)
    (packs header_size 24 headers (headers_fit headers)).within)

pub there : (n : ℕ) (sends : List Send) → AllByRecursion (λ (s : Send). HasRoom s.content) sends
    → AllByRecursion HasRoom (filter_map (at_interface n) sends)
there n [] p = tt
there n (s ∷ sends) p = by_number (s.interface == n) (there n sends p.1)
  where
    by_number : (b : Bool) → AllByRecursion HasRoom (filter_map (at_interface n) sends)
        → AllByRecursion HasRoom (cons_option (cond b (Some s.content) None)
        (filter_map (at_interface n) sends))
    by_number true rest = (p.0, rest)
    by_number false rest = rest

out_few : (own n : ℕ) (b : PacketBody) → HasPacketRoom b → length (out_of own n b).bytes ≤ 8192
out_few own n b few = subst (λ k. k ≤ 8192) (sym (canonical_length (packet_of own b))) few.bytes

outs_few : (own : ℕ) (sends : List Send) → AllByRecursion (λ (s : Send). HasRoom s.content) sends
    → (n : ℕ) (links : List Link) → AllByRecursion (λ (o : Out). length o.bytes ≤ 8192)
    (flat_map (λ (e : ℕ × Link). outs_at own sends e.0 e.1) (enumerate_from n links))
outs_few own sends rooms n [] = tt
outs_few own sends rooms n (link ∷ links) =
    both (λ (o : Out). length o.bytes ≤ 8192) (outs_at own sends n link)
    (flat_map (λ (e : ℕ × Link). outs_at own sends e.0 e.1) (enumerate_from (n + 1) links))
    (mapped_all (out_of own n) HasPacketRoom (λ (o : Out). length o.bytes ≤ 8192) (out_few own n)
    (bodies link.interface.delay (filter_map (at_interface n) sends))
    (bodies_few link.interface.delay (filter_map (at_interface n) sends) (there n sends rooms)))
    (outs_few own sends rooms (n + 1) links)

-- ---- the law

pub ordered_and_packed : OutsAreOrderedAndPacked
ordered_and_packed = record {
  interfaces = by_interface;
  updates = λ lsas. ordered lsa_key lsas;
  acknowledgments = λ headers. ordered key_of headers;
  packed_updates = λ lsas fit. packs lsa_size 28 lsas fit;
  packed_acknowledgments = λ headers. packs header_size 24 headers (headers_fit headers);
  bodies = bodies_few;
  bytes = λ own links sends rooms. outs_few own sends rooms 1 links;
}
