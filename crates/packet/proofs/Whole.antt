-- Bytes without a fault encode what their fields say, and encoded bytes have no fault.
use Rattle.std.proofs.Common.{◌≡◌, ℕ, ◌+◌, ◌^◌, ◌<◌, ◌≤◌, ◌⊎◌, inl, inr, true, false, not, cond}
use Rattle.std.proofs.Common.{eqb, List, [], ◌∷◌, ◌++◌, length, drop, Option, None, Some, Result}
use Rattle.std.proofs.Common.{Ok, Err, refl, sym, ap, subst, ◌∙◌, arith}
use Rattle.std.specs.Prelude.{IfOk, is_none, nat_lt}
use Rattle.std.specs.List.{AllByRecursion}
use Rattle.std.proofs.lemmas.Bool.{eqb-true, ltb-false, le-ltb}
use Rattle.std.proofs.lemmas.List.{length-drop}
use Rattle.words.specs.Fields.{field, fields}
use Rattle.words.proofs.Bytes.{Fits, IsBytes, IsBytes-drop, fields-read_from, read_from}
use Rattle.words.proofs.Bytes.{read_from-fields}
use Rattle.lsa.proofs.Headers.{field-below}
use Rattle.packet.specs.declared.model.PacketType.{PacketType}
use Rattle.packet.specs.declared.model.PacketType.TheVariants as types
use Rattle.packet.specs.declared.model.Packet.{Packet}
use Rattle.packet.specs.declared.refusal.PacketError.{PacketError}
use Rattle.packet.specs.declared.refusal.PacketError.TheVariants as errors
use Rattle.packet.specs.Checksum.{packet_checksum}
use Rattle.packet.specs.Text.{PacketText, body_text, header, type_number, type_of}
use Rattle.packet.specs.Reading.{body_of, fault_of, faults, is_filled_as, least_length, packet_as}
use Rattle.packet.specs.Reading.{type_at, type_named}
use Rattle.packet.specs.Outcome.{IsSound, Reads}
use Rattle.packet.specs.Laws.{TextsAreFaultless, TextsAreOfOnePacket}
use Rattle.packet.proofs.Records.{value}
use Rattle.packet.proofs.Firsts.{Fails, all_fail, equal_from, from_equal, none_of, not_false}
use Rattle.packet.proofs.Bodies.{Fills, body_spelled, filler_of}
use Rattle.packet.proofs.Again.{body_again}

-- ---- types and their numbers

some_is : {X : Type 0} (x y : X) → Some x ≡ Some y → x ≡ y
some_is x y e = cc

by_test : (n m : ℕ) (k kind : PacketType) (rest : Option PacketType) → type_number k ≡ m
    → (rest ≡ Some kind → n ≡ type_number kind) → cond (eqb n m) (Some k) rest ≡ Some kind
    → n ≡ type_number kind
by_test n m k kind rest is later e =
    elim (eqb n m) as (λ b. eqb n m ≡ b → cond b (Some k) rest ≡ Some kind → n ≡ type_number kind) [
      | true ↦ λ t e. eqb-true n m t ∙ sym is ∙ ap type_number (some_is k kind e)
      | false ↦ λ t e. later e
    ] refl e

number_named : (n : ℕ) (kind : PacketType) → type_named n ≡ Some kind → n ≡ type_number kind
number_named n kind e =
    by_test n 1 types.Hello kind _ refl (λ e.
    by_test n 2 types.Description kind _ refl (λ e.
    by_test n 3 types.Request kind _ refl (λ e.
    by_test n 4 types.Update kind _ refl
    (λ e. by_test n 5 types.Acknowledgment kind _ refl (λ e. absurd cc) e) e) e) e) e

named_number : (kind : PacketType) → type_named (type_number kind) ≡ Some kind
named_number types.Hello = refl
named_number types.Description = refl
named_number types.Request = refl
named_number types.Update = refl
named_number types.Acknowledgment = refl

type_of-body_of : (kind : PacketType) (bytes : List ℕ) → type_of (body_of kind bytes) ≡ kind
type_of-body_of types.Hello bytes = refl
type_of-body_of types.Description bytes = refl
type_of-body_of types.Request bytes = refl
type_of-body_of types.Update bytes = refl
type_of-body_of types.Acknowledgment bytes = refl

least : (kind : PacketType) → 24 ≤ least_length (Some kind)
least types.Hello = omega arith
least types.Description = omega arith
least types.Request = omega arith
least types.Update = omega arith
least types.Acknowledgment = omega arith

number_lt : (kind : PacketType) → type_number kind < 256
number_lt types.Hello = omega arith
number_lt types.Description = omega arith
number_lt types.Request = omega arith
number_lt types.Update = omega arith
number_lt types.Acknowledgment = omega arith

-- ---- bytes without a fault encode a packet

abbrev header_widths : List ℕ
header_widths = 1 ∷ 1 ∷ 2 ∷ 4 ∷ 4 ∷ 2 ∷ 2 ∷ 8 ∷ []

pub found : (bytes : List ℕ) (kind : PacketType) → IsBytes bytes → IsSound bytes kind
    → PacketText bytes (packet_as kind bytes)
unfolding fault_of
found bytes kind fits sound =
    let h = all_fail (faults bytes) sound.faultless in
    let enough : 24 ≤ length bytes = ltb-false (length bytes) 24 h.0 in
    let version : field bytes 0 1 ≡ 2 = equal_from (field bytes 0 1) 2 h.1.1.0 in
    let number : field bytes 1 1 ≡ type_number (type_of (body_of kind (drop 24 bytes))) =
    number_named (field bytes 1 1) kind sound.named
    ∙ ap type_number (sym (type_of-body_of kind (drop 24 bytes))) in
    let said : field bytes 2 2 ≡ length bytes =
    equal_from (field bytes 2 2) (length bytes) h.1.1.1.1.0 in
    let short : length bytes ≤ 8192 = ltb-false 8192 (length bytes) h.1.1.1.1.1.0 in
    let sum : field bytes 12 2 ≡ packet_checksum bytes =
    equal_from (field bytes 12 2) (packet_checksum bytes) h.1.1.1.1.1.1.0 in
    let area : field bytes 8 4 ≡ 0 = equal_from (field bytes 8 4) 0 h.1.1.1.1.1.1.1.0 in
    let auth : field bytes 14 2 ≡ 0 = equal_from (field bytes 14 2) 0 h.1.1.1.1.1.1.1.1.0 in
    let fills : Fills kind (drop 24 bytes) = record {
      are_bytes = IsBytes-drop 24 bytes fits;
      room = omega (arith, length-drop 24 bytes, sound.room);
      filled = sound.filled;
    } in
    let body = body_spelled (field bytes 16 8) kind (drop 24 bytes) fills in
    let size : length bytes ≡ 24 + length
    (body_text (filler_of (field bytes 16 8) (drop 24 bytes)) (body_of kind (drop 24 bytes))) =
    omega (arith, length-drop 24 bytes, ap length body.0) in
    record {
      is_packet = record { router = field-below bytes 4 4 fits; body = body.1 };
      size = short;
      filler = filler_of (field bytes 16 8) (drop 24 bytes);
      authentication = field-below bytes 16 8 fits;
      designated = field-below (drop 24 bytes) 12 4 (IsBytes-drop 24 bytes fits);
      backup = field-below (drop 24 bytes) 16 4 (IsBytes-drop 24 bytes fits);
      spelled =
          sym (fields-read_from header_widths bytes 0 fits enough)
          ∙ (λ i. fields ((1, version i) ∷ (1, number i) ∷ (2, (said ∙ size) i)
          ∷ (4, field bytes 4 4) ∷ (4, area i) ∷ (2, sum i) ∷ (2, auth i)
          ∷ (8, field bytes 16 8) ∷ []) ++ sym body.0 i);
    }

-- ---- encoded bytes have no fault, and say their packet

pub only : (bytes : List ℕ) (p : Packet) → PacketText bytes p
    → IsSound bytes (type_of p.body) × (p ≡ packet_as (type_of p.body) bytes)
unfolding fault_of
only bytes p t =
    let kind = type_of p.body in
    let o = t.filler in
    let size = 24 + length (body_text t.filler p.body) in
    let head = header (type_of p.body) (24 + length (body_text t.filler p.body)) p.router
    (packet_checksum bytes) t.filler.authentication in
    let long : length bytes ≡ 24 + length (body_text t.filler p.body) =
    omega (arith, ap length t.spelled) in
    let short : length bytes ≤ 8192 = t.size in
    let router : p.router < 2 ^ 32 = t.is_packet.router in
    let head_fits : AllByRecursion Fits
    (header (type_of p.body) (24 + length (body_text t.filler p.body)) p.router
    (packet_checksum bytes) t.filler.authentication) = (
      omega arith,
      (
        number_lt (type_of p.body),
        (
          omega arith,
          (
            router,
            (
              omega arith,
              (omega arith, (omega arith, (t.authentication, tt))),
            ),
          ),
        ),
      ),
    ) in
    let front : read_from bytes 0 header_widths
    ≡ header (type_of p.body) (24 + length (body_text t.filler p.body)) p.router
    (packet_checksum bytes) t.filler.authentication =
    ap (λ b. read_from b 0 header_widths) t.spelled
    ∙ read_from-fields (header (type_of p.body) (24 + length (body_text t.filler p.body)) p.router
    (packet_checksum bytes) t.filler.authentication) [] (body_text t.filler p.body) head_fits in
    let rest : drop 24 bytes ≡ body_text t.filler p.body = ap (drop 24) t.spelled in
    let again = body_again t.filler p.body (drop 24 bytes) t.designated t.backup t.is_packet.body
    (omega (arith, length-drop 24 bytes)) rest in
    let version : field bytes 0 1 ≡ 2 = ap (value 0) front in
    let number : field bytes 1 1 ≡ type_number (type_of p.body) = ap (value 1) front in
    let said : field bytes 2 2 ≡ length bytes = ap (value 2) front ∙ sym long in
    let id : field bytes 4 4 ≡ p.router = ap (value 3) front in
    let area : field bytes 8 4 ≡ 0 = ap (value 4) front in
    let sum : field bytes 12 2 ≡ packet_checksum bytes = ap (value 5) front in
    let auth : field bytes 14 2 ≡ 0 = ap (value 6) front in
    let named : type_at bytes ≡ Some (type_of p.body) =
    ap type_named number ∙ named_number (type_of p.body) in
    let room : least_length (Some (type_of p.body)) ≤ length bytes =
    omega (arith, again.room, length-drop 24 bytes, long) in
    let no_fault : AllByRecursion Fails (faults bytes) = (
      le-ltb (length bytes) 24 (omega (arith, long)),
      (
        le-ltb (length bytes) (least_length (type_at bytes))
            (subst (λ k. least_length k ≤ length bytes) (sym named) room),
        (
          from_equal (field bytes 0 1) 2 version,
          (
            ap is_none named,
            (
              from_equal (field bytes 2 2) (length bytes) said,
              (
                le-ltb 8192 (length bytes) short,
                (
                  from_equal (field bytes 12 2) (packet_checksum bytes) sum,
                  (
                    from_equal (field bytes 8 4) 0 area,
                    (
                      from_equal (field bytes 14 2) 0 auth,
                      (ap not (ap (λ k. is_filled_as k (drop 24 bytes)) named ∙ again.filled), tt),
                    ),
                  ),
                ),
              ),
            ),
          ),
        ),
      ),
    ) in (
      record {
        faultless = none_of (faults bytes) no_fault;
        named = named;
        room = room;
        filled = again.filled;
      },
      λ i. record { router = sym id i; body = sym again.read i },
    )

-- ---- the result of parsing

pub is_found : (bytes : List ℕ) (r : Result Packet PacketError) → IsBytes bytes → Reads bytes r
    → IfOk r (λ p. PacketText bytes p)
is_found bytes (Ok p) fits (kind, e) =
    subst (PacketText bytes) (sym e.1) (found bytes kind fits e.0)
is_found bytes (Err e) fits h = tt

-- the bytes of a packet are parsed as that packet
read_as : (bytes : List ℕ) (p q : Packet) (kind : PacketType) → PacketText bytes p
    → IsSound bytes kind → q ≡ packet_as kind bytes → p ≡ q
read_as bytes p q kind t sound e =
    let o = only bytes p t in
    let same : type_of p.body ≡ kind =
    some_is (type_of p.body) kind (sym o.0.named ∙ sound.named) in
    o.1 ∙ ap (λ k. packet_as k bytes) same ∙ sym e

pub is_only : (bytes : List ℕ) (r : Result Packet PacketError) → Reads bytes r → (p : Packet)
    → PacketText bytes p → (r ≡ Ok p) ⊎ (r ≡ Err errors.Memory)
is_only bytes (Ok q) (kind, e) p t = inl (ap (λ x. Ok x) (sym (read_as bytes p q kind t e.0 e.1)))
is_only bytes (Err errors.Memory) e p t = inr refl
is_only bytes (Err (errors.Fault f)) e p t = absurd (let n = (only bytes p t).0.faultless in cc)

-- ---- laws

pub faultless : TextsAreFaultless
faultless bytes p t = (only bytes p t).0.faultless

pub one_packet : TextsAreOfOnePacket
one_packet bytes p q s t =
    let o = only bytes q t in
    read_as bytes p q (type_of q.body) s o.0 o.1

-- bytes without a fault have a known type, room for a body of it, and the body fills them
sound : (bytes : List ℕ) → fault_of bytes ≡ None → (kind : PacketType) × IsSound bytes kind
unfolding fault_of
sound bytes none =
    let h = all_fail (faults bytes) none in
    by_type (type_at bytes) refl h.1.0 h.1.1.1.0
    (not_false (is_filled_as (type_at bytes) (drop 24 bytes)) h.1.1.1.1.1.1.1.1.1.0)
  where
    by_type : (o : Option PacketType) → type_at bytes ≡ o
        → nat_lt (length bytes) (least_length o) ≡ false → is_none o ≡ false
        → is_filled_as o (drop 24 bytes) ≡ true → (kind : PacketType) × IsSound bytes kind
    by_type None named room known filled = absurd cc
    by_type (Some kind) named room known filled = (
      kind,
      record {
        faultless = none;
        named = named;
        room = ltb-false (length bytes) (least_length (Some kind)) room;
        filled = filled;
      },
    )

pub faultless_text : (bytes : List ℕ) → IsBytes bytes → fault_of bytes ≡ None
    → (p : Packet) × PacketText bytes p
faultless_text bytes fits none = let s = sound bytes none in
    (packet_as s.0 bytes, found bytes s.0 fits s.1)

pub one_of_a_text : (bytes : List ℕ) → (p : Packet) × PacketText bytes p → fault_of bytes ≡ None
one_of_a_text bytes t = faultless bytes t.0 t.1
