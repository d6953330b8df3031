-- The bytes of LSAs are unparsed LSAs, and Link State Updates of them and Acknowledgments are
-- packets.
use Rattle.std.proofs.Common.{◌≡◌, ◌≤◌, ℕ, zero, suc, ◌<◌, ◌^◌, ◌/◌, ◌%◌, length, List, [], ◌∷◌}
use Rattle.std.proofs.Common.{◌++◌, map, refl, sym, subst, ◌∙◌, arith, length-append}
use Rattle.std.specs.Prelude.{slice_index}
use Rattle.std.specs.Int.{byte_at, bytes_high_first}
use Rattle.std.specs.List.{AllByRecursion, flat_map}
use Rattle.words.specs.Fields.{field, fields}
use Rattle.lsa.specs.declared.body.LsaBody.{LsaBody}
use Rattle.lsa.specs.declared.body.LsaBody.TheVariants as bodies
use Rattle.lsa.specs.declared.body.RouterLink.{RouterLink}
use Rattle.lsa.specs.declared.body.LinkTos.{LinkTos}
use Rattle.lsa.specs.declared.body.SummaryTos.{SummaryTos}
use Rattle.lsa.specs.declared.body.SummaryLsa.{SummaryLsa}
use Rattle.lsa.specs.declared.body.ExternalTos.{ExternalTos}
use Rattle.lsa.specs.Headers.{IsHeader, header_fields, header_text}
use Rattle.lsa.specs.Text.{router_id_text, body_text, external_fields, external_tos_text}
use Rattle.lsa.specs.Text.{link_fields, link_text, link_tos_text, router_fields, summary_fields}
use Rattle.lsa.specs.Text.{summary_text, summary_tos_text, text}
use Rattle.lsa.proofs.Headers.{header-reads_back}
use Rattle.lsdb.specs.Headers.{Lsa}
use Rattle.packet.specs.declared.model.PacketBody.{PacketBody}
use Rattle.packet.specs.declared.model.PacketBody.TheVariants as packets
use Rattle.packet.specs.declared.model.Packet.{Packet}
use Rattle.packet.specs.Text.{IsBody, IsUnparsedLsa, PacketText, canonical, closed_fields}
use Rattle.packet.specs.Text.{text as packet_text}
use Rattle.packet.proofs.Patch.{canonical_is_text}
use Rattle.adjacency.specs.Rooms.{Fits}
use Rattle.invariants.specs.Lawful.{TextsAreLawful}
use Rattle.event_rules.specs.Packing.{packet_of}

-- ---- bytes

Small : List ℕ → Type 0
Small bytes = AllByRecursion (λ b. b < 256) bytes

both_small : (xs ys : List ℕ) → Small xs → Small ys → Small (xs ++ ys)
unfolding Small
both_small [] ys p q = q
both_small (x ∷ xs) ys p q = (p.0, both_small xs ys p.1 q)

each_small : {X : Type 0} (f : X → List ℕ) → ((x : X) → Small (f x)) → (xs : List X)
    → Small (flat_map f xs)
unfolding Small both_small
each_small f each [] = tt
each_small f each (x ∷ xs) = both_small (f x) (flat_map f xs) (each x) (each_small f each xs)

byte_small : (i x : ℕ) → byte_at i x < 256
byte_small zero x = omega arith
byte_small (suc i) x = rest_small (x / 256 ^ suc i)
  where
    rest_small : (y : ℕ) → y % 256 < 256
    rest_small y = omega arith

high_small : (n x : ℕ) → Small (bytes_high_first n x)
unfolding Small
high_small zero x = tt
high_small (suc n) x = (byte_small n x, high_small n x)

fields_small : (fs : List (ℕ × ℕ)) → Small (fields fs)
fields_small fs = each_small (λ (f : ℕ × ℕ). bytes_high_first f.0 f.1) (λ f. high_small f.0 f.1) fs

at_small : (bytes : List ℕ) → Small bytes → (i : ℕ) → slice_index bytes i < 256
unfolding Small
at_small [] h i = omega arith
at_small (b ∷ bytes) h zero = h.0
at_small (b ∷ bytes) h (suc i) = at_small bytes h.1 i

link_small : (l : RouterLink) → Small (link_text l)
link_small l =
    both_small (fields (link_fields l)) (flat_map link_tos_text l.tos)
    (fields_small (link_fields l))
    (each_small link_tos_text (λ (t : LinkTos). fields_small
    ((1, t.tos) ∷ (1, t.unused) ∷ (2, t.metric) ∷ [])) l.tos)

summary_small : (s : SummaryLsa) → Small (summary_text s)
summary_small s =
    both_small (fields (summary_fields s)) (flat_map summary_tos_text s.tos)
    (fields_small (summary_fields s))
    (each_small summary_tos_text (λ (t : SummaryTos). fields_small
    ((1, t.tos) ∷ (3, t.metric) ∷ [])) s.tos)

body_small : (b : LsaBody) → Small (body_text b)
body_small (bodies.Router r) = both_small (fields (router_fields r)) (flat_map link_text r.links)
    (fields_small (router_fields r)) (each_small link_text link_small r.links)
body_small (bodies.Network n) =
    both_small (fields ((4, n.mask) ∷ [])) (flat_map router_id_text n.attached)
    (fields_small ((4, n.mask) ∷ []))
    (each_small router_id_text (λ r. fields_small ((4, r) ∷ [])) n.attached)
body_small (bodies.NetworkSummary s) = summary_small s
body_small (bodies.RouterSummary s) = summary_small s
body_small (bodies.External e) =
    both_small (fields (external_fields e)) (flat_map external_tos_text e.tos)
    (fields_small (external_fields e))
    (each_small external_tos_text (λ (t : ExternalTos). fields_small
    ((1, t.tos) ∷ (3, t.metric) ∷ (4, t.forwarding) ∷ (4, t.tag) ∷ [])) e.tos)

-- ---- LSAs

length_said : (l : Lsa) → IsHeader l.header → field (text l) 18 2 ≡ l.header.length
length_said l is = λ i. (header-reads_back l.header [] (body_text l.body) is i).length

unread : (l : Lsa) → IsHeader l.header → Fits l → IsUnparsedLsa (text l)
unread l is fits = record {
  room = omega (arith, length-append (header_text l.header) (body_text l.body));
  said = length_said l is ∙ sym fits.0;
  bytes = at_small (text l) (both_small (header_text l.header) (body_text l.body)
      (fields_small (header_fields l.header)) (body_small l.body));
}

all_unread : (lsas : List Lsa) → AllByRecursion (λ l. IsHeader l.header × Fits l) lsas
    → AllByRecursion IsUnparsedLsa (map (λ l. text l) lsas)
all_unread [] h = tt
all_unread (l ∷ ls) h = (unread l h.0.0 h.0.1, all_unread ls h.1)

-- ---- packets

same_long : (p : Packet) → length (canonical p) ≡ length (packet_text closed_fields 0 p)
unfolding canonical
same_long p = refl

lawful : (own : ℕ) (says : PacketBody) → own < 2 ^ 32 → IsBody says
    → length (canonical (packet_of own says)) ≤ 8192
    → PacketText (canonical (packet_of own says)) (packet_of own says)
lawful own says id is few =
    canonical_is_text (packet_of own says) (record {
      router = id;
      body = is;
    }) (subst (λ k. k ≤ 8192) (same_long (packet_of own says)) few)

pub texts_are_lawful : TextsAreLawful
texts_are_lawful = record {
  update = λ own lsas id is few. lawful own (packets.Update (map (λ l. text l) lsas)) id
      (all_unread lsas is) few;
  acknowledgment = λ own headers id is few. lawful own (packets.Acknowledgment headers) id is few;
}
