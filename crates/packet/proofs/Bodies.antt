-- The bytes after a packet's header: bytes that a body fills encode it, and the encoding of a body
-- is filled and read as that body.
use Rattle.std.proofs.Common.{◌≡◌, ℕ, zero, suc, ◌+◌, ◌-◌, ◌*◌, ◌/◌, ◌%◌, ◌<◌, ◌≤◌, true}
use Rattle.std.proofs.Common.{not, eqb, ltb, List, [], ◌∷◌, ◌++◌, length, get_or, take}
use Rattle.std.proofs.Common.{drop, Some, refl, sym, ap, ◌∙◌, arith}
use Rattle.std.specs.Prelude.{bit_and}
use Rattle.std.specs.List.{flat_map, AllByRecursion}
use Rattle.std.proofs.lemmas.Bool.{and_parts, eqb-true, ltb-true}
use Rattle.std.proofs.lemmas.List.{append-nil, drop-take, drop_all, length-take, take-append-drop}
use Rattle.byteorder.specs.Endian.{big_bytes, big_number}
use Rattle.byteorder.specs.Numbers.{big_from-take}
use Rattle.words.specs.Fields.{field, fields}
use Rattle.words.specs.Records.{records}
use Rattle.words.proofs.Bytes.{IsBytes, IsBytes-drop, big_bytes-big_number, fields-read_from}
use Rattle.words.proofs.Records.{records-fit, records-spell}
use Rattle.lsa.specs.Headers.{IsHeader, header_at, header_text}
use Rattle.lsa.proofs.Headers.{field-below, header-fits, header-spells}
use Rattle.packet.specs.declared.model.PacketType.{PacketType}
use Rattle.packet.specs.declared.model.PacketType.TheVariants as types
use Rattle.packet.specs.Reading.{are_lsas, body_of, hello_of, is_filled, key_at, least_length}
use Rattle.packet.specs.Reading.{lsas_of, router_id_at}
use Rattle.packet.specs.Text.{IsBody, IsKey, IsRouterId, IsUnparsedLsa, Open, body_text, flags}
use Rattle.packet.specs.Text.{hello}
use Rattle.packet.specs.Text.{key_text, router_id_text}
use Rattle.packet.proofs.Records.{key-fits, key-spells, router_id-fits, router_id-spells}
use Rattle.packet.proofs.Cuts.{lsas_first}

-- the bytes of the fields that a body leaves open
abbrev pub filler_of : ℕ → List ℕ → Open
filler_of authentication bytes = record {
  authentication = authentication;
  designated = field bytes 12 4;
  backup = field bytes 16 4;
}

-- a body of this type fills these bytes, which have room for it
pub record Fills (kind : PacketType) (bytes : List ℕ) : Type 0 where
  pub are_bytes : IsBytes bytes
  pub room : least_length (Some kind) ≤ 24 + length bytes
  pub filled : is_filled kind bytes ≡ true

abbrev hello_widths : List ℕ
hello_widths = 4 ∷ 2 ∷ 1 ∷ 1 ∷ 4 ∷ 4 ∷ 4 ∷ []

abbrev description_widths : List ℕ
description_widths = 2 ∷ 1 ∷ 1 ∷ 4 ∷ []

-- nothing is after the end
at_end : (bytes text : List ℕ) (n : ℕ) → n ≡ length bytes → text ++ drop n bytes ≡ text
at_end bytes text n e = ap (λ t. text ++ t)
    (ap (λ (k : ℕ). drop k bytes) e ∙ drop_all (length bytes) bytes (omega arith)) ∙ append-nil text

-- ---- flags

abbrev pub flags_of : ℕ → ℕ
flags_of n = flags (record {
  mtu = 0;
  options = 0;
  init = not (eqb (bit_and n 4) 0);
  more = not (eqb (bit_and n 2) 0);
  master = not (eqb (bit_and n 1) 0);
  sequence = 0;
  headers = [];
})

pub flags_again : (n : ℕ) → n < 8 → flags_of n ≡ n
flags_again zero lt = refl
flags_again (suc zero) lt = refl
flags_again (suc (suc zero)) lt = refl
flags_again (suc (suc (suc zero))) lt = refl
flags_again (suc (suc (suc (suc zero)))) lt = refl
flags_again (suc (suc (suc (suc (suc zero))))) lt = refl
flags_again (suc (suc (suc (suc (suc (suc zero)))))) lt = refl
flags_again (suc (suc (suc (suc (suc (suc (suc zero))))))) lt = refl
flags_again (suc (suc (suc (suc (suc (suc (suc (suc n)))))))) lt = absurd (omega arith)

-- ---- LSAs

pub length_lsas : (n : ℕ) (bytes : List ℕ) → length (lsas_of n bytes) ≡ n
length_lsas zero bytes = refl
length_lsas (suc n) bytes = ap suc (length_lsas n (drop (field bytes 18 2) bytes))

empty_of : (bytes : List ℕ) → eqb (length bytes) 0 ≡ true → bytes ≡ []
empty_of [] e = refl
empty_of (b ∷ bytes) e = let h = eqb-true (suc (length bytes)) 0 e in absurd (omega (arith, h))

lsas_text : (n : ℕ) (bytes : List ℕ) → are_lsas n bytes ≡ true
    → flat_map (λ (lsa : List ℕ). lsa) (lsas_of n bytes) ≡ bytes
lsas_text zero bytes e = sym (empty_of bytes e)
lsas_text (suc n) bytes e =
    ap (λ t. take (field bytes 18 2) bytes ++ t)
    (lsas_text n (drop (field bytes 18 2) bytes) (lsas_first n bytes e).after)
    ∙ take-append-drop (field bytes 18 2) bytes

take-bytes : (n : ℕ) (bytes : List ℕ) (i : ℕ) → IsBytes bytes → get_or (take n bytes) i 0 < 256
take-bytes zero bytes i fits = omega arith
take-bytes (suc n) [] i fits = omega arith
take-bytes (suc n) (b ∷ bytes) zero fits = fits zero
take-bytes (suc n) (b ∷ bytes) (suc i) fits = take-bytes n bytes i (λ k. fits (suc k))

-- the length field is in the bytes that are taken
pub take-size : (n : ℕ) (bytes : List ℕ) → 20 ≤ n → field (take n bytes) 18 2 ≡ field bytes 18 2
take-size n bytes le =
    let e : n ≡ 18 + (n - 18) = omega arith in
    ap (λ (k : ℕ). field (take k bytes) 18 2) e
    ∙ ap (big_number 2) (drop-take 18 (n - 18) bytes)
    ∙ big_from-take 0 2 (n - 18) (drop 18 bytes) (omega arith)

lsas_fit : (n : ℕ) (bytes : List ℕ) → IsBytes bytes → are_lsas n bytes ≡ true
    → AllByRecursion IsUnparsedLsa (lsas_of n bytes)
lsas_fit zero bytes fits e = tt
lsas_fit (suc n) bytes fits e =
    let next = lsas_first n bytes e in
    let long : length (take (field bytes 18 2) bytes) ≡ field bytes 18 2 =
    omega (arith, length-take (field bytes 18 2) bytes, next.fits) in (
      record {
        room = omega (arith, long, next.least);
        said = take-size (field bytes 18 2) bytes next.least ∙ sym long;
        bytes = λ i. take-bytes (field bytes 18 2) bytes i fits;
      },
      lsas_fit n (drop (field bytes 18 2) bytes) (IsBytes-drop (field bytes 18 2) bytes fits)
          next.after,
    )

-- ---- bytes that are filled encode the body

-- the records from an index on are all of the remaining bytes
records_all : {X : Type 0} (read : List ℕ → ℕ → X) (text : X → List ℕ) (P : X → Type 0)
    (width n at : ℕ) (bytes : List ℕ)
    → ((bytes : List ℕ) (at : ℕ) → IsBytes bytes → at + width ≤ length bytes
    → text (read bytes at) ++ drop (at + width) bytes ≡ drop at bytes) → IsBytes bytes
    → at + width * n ≡ length bytes
    → flat_map text (records read width bytes at n) ≡ drop at bytes
records_all read text P width n at bytes spells fits e =
    sym (at_end bytes (flat_map text (records read width bytes at n)) (at + width * n) e)
    ∙ records-spell read text P width spells bytes n at fits (omega (arith, e))

spelled : (authentication : ℕ) (kind : PacketType) (bytes : List ℕ) → Fills kind bytes
    → body_text (filler_of authentication bytes) (body_of kind bytes) ≡ bytes
spelled a types.Hello bytes f =
    let whole : (length bytes - 20) % 4 ≡ 0 = eqb-true ((length bytes - 20) % 4) 0 f.filled in
    let room : 44 ≤ 24 + length bytes = f.room in
    let count : 20 + 4 * ((length bytes - 20) / 4) ≡ length bytes = omega arith in
    ap (λ t. fields (hello (filler_of a bytes) (hello_of bytes)) ++ t)
    (records_all router_id_at router_id_text IsRouterId 4 ((length bytes - 20) / 4) 20 bytes
    router_id-spells f.are_bytes count)
    ∙ fields-read_from hello_widths bytes 0 f.are_bytes (omega (arith, room))
spelled a types.Description bytes f =
    let parts = and_parts (ltb (field bytes 3 1) 8) (eqb ((length bytes - 8) % 20) 0) f.filled in
    let lt : field bytes 3 1 < 8 = ltb-true (field bytes 3 1) 8 parts.0 in
    let whole : (length bytes - 8) % 20 ≡ 0 = eqb-true ((length bytes - 8) % 20) 0 parts.1 in
    let room : 32 ≤ 24 + length bytes = f.room in
    let count : 8 + 20 * ((length bytes - 8) / 20) ≡ length bytes = omega arith in
    (λ i. fields ((2, field bytes 0 2) ∷ (1, field bytes 2 1)
    ∷ (1, flags_again (field bytes 3 1) lt i) ∷ (4, field bytes 4 4) ∷ [])
    ++ records_all header_at header_text IsHeader 20 ((length bytes - 8) / 20) 8 bytes header-spells
    f.are_bytes count i)
    ∙ fields-read_from description_widths bytes 0 f.are_bytes (omega (arith, room))
spelled a types.Request bytes f =
    let whole : length bytes % 12 ≡ 0 = eqb-true (length bytes % 12) 0 f.filled in
    records_all key_at key_text IsKey 12 (length bytes / 12) 0 bytes key-spells f.are_bytes
    (omega arith)
spelled a types.Update bytes f =
    let room : 28 ≤ 24 + length bytes = f.room in
    (λ i. big_bytes 4 (length_lsas (field bytes 0 4) (drop 4 bytes) i)
    ++ lsas_text (field bytes 0 4) (drop 4 bytes) f.filled i)
    ∙ ap (λ t. t ++ drop 4 bytes) (big_bytes-big_number 4 bytes (omega (arith, room)) f.are_bytes)
    ∙ take-append-drop 4 bytes
spelled a types.Acknowledgment bytes f =
    let whole : length bytes % 20 ≡ 0 = eqb-true (length bytes % 20) 0 f.filled in
    records_all header_at header_text IsHeader 20 (length bytes / 20) 0 bytes header-spells
    f.are_bytes (omega arith)

-- what is read is in its ranges
body_fits : (kind : PacketType) (bytes : List ℕ) → Fills kind bytes → IsBody (body_of kind bytes)
body_fits types.Hello bytes f = record {
  mask = field-below bytes 0 4 f.are_bytes;
  hello_interval = field-below bytes 4 2 f.are_bytes;
  options = field-below bytes 6 1 f.are_bytes;
  priority = field-below bytes 7 1 f.are_bytes;
  dead_interval = field-below bytes 8 4 f.are_bytes;
  neighbors = records-fit router_id_at router_id_text IsRouterId 4 router_id-fits bytes
      ((length bytes - 20) / 4) 20 f.are_bytes;
}
body_fits types.Description bytes f = record {
  mtu = field-below bytes 0 2 f.are_bytes;
  options = field-below bytes 2 1 f.are_bytes;
  sequence = field-below bytes 4 4 f.are_bytes;
  headers = records-fit header_at header_text IsHeader 20 header-fits bytes
      ((length bytes - 8) / 20) 8 f.are_bytes;
}
body_fits types.Request bytes f = records-fit key_at key_text IsKey 12 key-fits bytes
    (length bytes / 12) 0 f.are_bytes
body_fits types.Update bytes f = lsas_fit (field bytes 0 4) (drop 4 bytes)
    (IsBytes-drop 4 bytes f.are_bytes) f.filled
body_fits types.Acknowledgment bytes f =
    records-fit header_at header_text IsHeader 20 header-fits bytes (length bytes / 20) 0
    f.are_bytes

pub body_spelled : (authentication : ℕ) (kind : PacketType) (bytes : List ℕ) → Fills kind bytes
    → (body_text (filler_of authentication bytes) (body_of kind bytes) ≡ bytes)
    × IsBody (body_of kind bytes)
body_spelled a kind bytes f = (spelled a kind bytes f, body_fits kind bytes f)
