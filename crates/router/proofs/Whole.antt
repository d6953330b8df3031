-- The LSAs that are sent have the length that they give.
use Rattle.std.proofs.Common.{◌≡◌, ◌<◌, ◌^◌, ℕ, List, [], ◌∷◌, map, sym, subst, ◌∙◌, arith}
use Rattle.std.proofs.Common.{length-append}
use Rattle.std.specs.List.{AllByRecursion, filter_map}
use Rattle.byteorder.specs.Numbers.{big_number-reads_back}
use Rattle.words.specs.Fields.{field}
use Rattle.words.specs.declared.key.Key.{Key}
use Rattle.lsa.specs.Headers.{header_text}
use Rattle.lsa.specs.Text as lsa_text
use Rattle.lsdb.specs.Headers.{Header, Lsa, key_of, lsa_key}
use Rattle.packet.specs.declared.model.PacketBody.{PacketBody}
use Rattle.packet.specs.declared.model.PacketBody.TheVariants as body
use Rattle.packet.specs.Ranges.{IsWhole, LsasAreWhole}
use Rattle.adjacency.specs.Contents.{Content}
use Rattle.adjacency.specs.Drafts.{Drafted}
use Rattle.adjacency.specs.Rooms.{HasRoom}
use Rattle.received.specs.Links.{Link}
use Rattle.received.specs.AreaStates.{Send, at_interface}
use Rattle.event_rules.specs.Packing.{acknowledgments, bodies, descriptions}
use Rattle.event_rules.specs.Packing.{first_key}
use Rattle.event_rules.specs.Packing.{header_size, hellos, in_key_order, lsa_size, packed_groups}
use Rattle.event_rules.specs.Packing.{requests, sent_lsa, update_of, updates}
use Rattle.event_rules.specs.PackingLaws.{HasPacketRoom}
use Rattle.event_rules.proofs.Rooms.{both, mapped_all, order_all, packed_all, there}
use Rattle.router.specs.Bodies.{drafted_bodies}
use Rattle.router.specs.Drafts.{IsDraftAt}
use Rattle.router.specs.Texts.{CanBeSent}
use Rattle.router.proofs.Drafted.{IsSized, draft_bodies_room, draft_says, sent_size, updates_sized}

-- ---- an LSA

said : (l : Lsa) → l.header.length < 256 ^ 2 → field (lsa_text.text l) 18 2 ≡ l.header.length
said l small = big_number-reads_back 2 l.header.length (lsa_text.body_text l.body) small

text_whole : (delay : ℕ) (l : Lsa) → IsSized l → IsWhole (lsa_text.text (sent_lsa delay l))
text_whole delay l is =
    let few : l.header.length < 256 ^ 2 = omega (arith, is.1) in
    record {
      room = omega (
        arith,
        length-append (header_text (sent_lsa delay l).header)
            (lsa_text.body_text l.body),
      );
      said = said (sent_lsa delay l) few ∙ sym (sent_size delay l is);
    }

texts_whole : (delay : ℕ) (lsas : List Lsa) → AllByRecursion IsSized lsas
    → AllByRecursion IsWhole (map (λ (l : Lsa). lsa_text.text (sent_lsa delay l)) lsas)
texts_whole delay [] is = tt
texts_whole delay (l ∷ ls) is = (text_whole delay l is.0, texts_whole delay ls is.1)

-- ---- the bodies

hellos_whole : (cs : List Content) → AllByRecursion LsasAreWhole (filter_map hellos cs)
hellos_whole [] = tt
hellos_whole (Content.SendsHello x ∷ cs) = (tt, hellos_whole cs)
hellos_whole (Content.Describes x ∷ cs) = hellos_whole cs
hellos_whole (Content.Requests x ∷ cs) = hellos_whole cs
hellos_whole (Content.Updates x ∷ cs) = hellos_whole cs
hellos_whole (Content.Acknowledges x ∷ cs) = hellos_whole cs

descriptions_whole : (cs : List Content) → AllByRecursion LsasAreWhole (filter_map descriptions cs)
descriptions_whole [] = tt
descriptions_whole (Content.SendsHello x ∷ cs) = descriptions_whole cs
descriptions_whole (Content.Describes x ∷ cs) = (tt, descriptions_whole cs)
descriptions_whole (Content.Requests x ∷ cs) = descriptions_whole cs
descriptions_whole (Content.Updates x ∷ cs) = descriptions_whole cs
descriptions_whole (Content.Acknowledges x ∷ cs) = descriptions_whole cs

requests_whole : (keys : List (List Key)) → AllByRecursion LsasAreWhole (map body.Request keys)
requests_whole [] = tt
requests_whole (k ∷ ks) = (tt, requests_whole ks)

acknowledgments_whole : (headers : List (List Header))
    → AllByRecursion LsasAreWhole (map body.Acknowledgment headers)
acknowledgments_whole [] = tt
acknowledgments_whole (h ∷ hs) = (tt, acknowledgments_whole hs)

bodies_whole : (delay : ℕ) (cs : List Content) → AllByRecursion HasRoom cs
    → AllByRecursion LsasAreWhole (bodies delay cs)
bodies_whole delay cs room =
    let keys : List (List Key) = in_key_order first_key (filter_map requests cs) in
    let lsas : List Lsa = in_key_order lsa_key (filter_map updates cs) in
    let headers : List Header = in_key_order key_of (filter_map acknowledgments cs) in
    let sized : AllByRecursion IsSized lsas =
    order_all lsa_key IsSized (filter_map updates cs) (updates_sized cs room) in
    both LsasAreWhole _ (map body.Acknowledgment (packed_groups header_size 24 headers))
    (both LsasAreWhole _ (map (update_of delay) (packed_groups lsa_size 28 lsas))
    (both LsasAreWhole _ (map body.Request keys)
    (both LsasAreWhole (filter_map hellos cs) (filter_map descriptions cs) (hellos_whole cs)
    (descriptions_whole cs)) (requests_whole keys))
    (mapped_all (update_of delay) (λ p. AllByRecursion IsSized p) LsasAreWhole (texts_whole delay)
    (packed_groups lsa_size 28 lsas) (packed_all lsa_size 28 IsSized lsas sized)))
    (acknowledgments_whole (packed_groups header_size 24 headers))

paired : (P Q : PacketBody → Type 0) (bs : List PacketBody) → AllByRecursion P bs
    → AllByRecursion Q bs → AllByRecursion (λ b. P b × Q b) bs
paired P Q [] p q = tt
paired P Q (b ∷ bs) p q = ((p.0, q.0), paired P Q bs p.1 q.1)

pub draft_can_be_sent : (number : ℕ) (link : Link) (sends : List Send) (d : Drafted)
    → IsDraftAt number link sends d → AllByRecursion CanBeSent (drafted_bodies d)
draft_can_be_sent number link sends d is =
    let whole : AllByRecursion LsasAreWhole (drafted_bodies d) =
    subst (λ bs. AllByRecursion LsasAreWhole bs) (sym (draft_says number link sends d is))
    (bodies_whole link.interface.delay (filter_map (at_interface number) sends)
    (there number sends is.room)) in
    paired HasPacketRoom LsasAreWhole (drafted_bodies d) (draft_bodies_room number link sends d is)
    whole
