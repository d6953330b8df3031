-- The encoding of a body has its exact length, and is read as that body.
use Rattle.std.proofs.Common.{◌≡◌, ℕ, ◌+◌, ◌-◌, ◌*◌, ◌/◌, ◌%◌, ◌^◌, ◌<◌, ◌≤◌, Bool, true, false}
use Rattle.std.proofs.Common.{not, ◌&&◌, eqb, ltb, List, [], ◌∷◌, ◌++◌, length, take, drop, Some}
use Rattle.std.proofs.Common.{refl, sym, ap, ◌∙◌, arith}
use Rattle.std.specs.Prelude.{bit_and}
use Rattle.std.specs.List.{flat_map, AllByRecursion}
use Rattle.std.proofs.lemmas.Bool.{le-leb, lt-ltb}
use Rattle.std.proofs.lemmas.List.{append-nil, drop_at, length-append, take_at}
use Rattle.byteorder.specs.Endian.{big_bytes, big_number}
use Rattle.byteorder.specs.Numbers.{big_number-reads_back}
use Rattle.words.specs.declared.key.Key.{Key}
use Rattle.words.specs.Fields.{field, fields}
use Rattle.words.specs.Records.{records}
use Rattle.words.proofs.Bytes.{read_from, read_from-fields}
use Rattle.words.proofs.Records.{length-records_text, records-read_back}
use Rattle.lsa.specs.declared.header.Header.{Header}
use Rattle.lsa.specs.Headers.{IsHeader, header_at, header_text}
use Rattle.lsa.proofs.Headers.{header-reads_back, header-wide}
use Rattle.packet.specs.declared.model.Hello.{Hello}
use Rattle.packet.specs.declared.model.Description.{Description}
use Rattle.packet.specs.declared.model.PacketBody.{PacketBody}
use Rattle.packet.specs.declared.model.PacketBody.TheVariants as body
use Rattle.packet.specs.Reading.{are_lsas, body_of, is_filled, key_at, least_length, lsas_of}
use Rattle.packet.specs.Reading.{router_id_at}
use Rattle.packet.specs.Text.{IsBody, IsDescription, IsHello, IsKey, IsRouterId, IsUnparsedLsa}
use Rattle.packet.specs.Text.{Open}
use Rattle.packet.specs.Text.{bit}
use Rattle.packet.specs.Text.{body_text, description, flags, hello, key_text, router_id_text}
use Rattle.packet.specs.Text.{type_of}
use Rattle.packet.proofs.Records.{key-reads_back, key-wide, router_id-reads_back, router_id-wide}
use Rattle.packet.proofs.Records.{value}
use Rattle.packet.proofs.Bodies.{take-size}
use Rattle.packet.proofs.Firsts.{is_equal}

-- what the encoding of a body is read as
pub record IsAgain (b : PacketBody) (bytes : List ℕ) : Type 0 where
  pub room : least_length (Some (type_of b)) ≤ 24 + length bytes
  pub filled : is_filled (type_of b) bytes ≡ true
  pub read : body_of (type_of b) bytes ≡ b

-- ---- flags

bits : (i m s : Bool) → ℕ
bits i m s = 4 * bit i + 2 * bit m + bit s

-- the flags of a number, as in a Database Description
abbrev flag : ℕ → ℕ → Bool
flag n k = not (eqb (bit_and n k) 0)

flags_lt : (d : Description) → flags d < 8
flags_lt d = elim d.init as (λ i. 4 * bit i + 2 * bit d.more + bit d.master < 8) [
  | true ↦ elim d.more as (λ m. 4 * 1 + 2 * bit m + bit d.master < 8) [
    | true ↦ elim d.master as (λ s. 4 * 1 + 2 * 1 + bit s < 8)
        [ true ↦ omega arith | false ↦ omega arith ]
    | false ↦ elim d.master as (λ s. 4 * 1 + 2 * 0 + bit s < 8)
        [ true ↦ omega arith | false ↦ omega arith ]
  ]
  | false ↦ elim d.more as (λ m. 4 * 0 + 2 * bit m + bit d.master < 8) [
    | true ↦ elim d.master as (λ s. 4 * 0 + 2 * 1 + bit s < 8)
        [ true ↦ omega arith | false ↦ omega arith ]
    | false ↦ elim d.master as (λ s. 4 * 0 + 2 * 0 + bit s < 8)
        [ true ↦ omega arith | false ↦ omega arith ]
  ]
]

init_back : (i m s : Bool) → flag (4 * bit i + 2 * bit m + bit s) 4 ≡ i
init_back true true true = refl
init_back true true false = refl
init_back true false true = refl
init_back true false false = refl
init_back false true true = refl
init_back false true false = refl
init_back false false true = refl
init_back false false false = refl

more_back : (i m s : Bool) → flag (4 * bit i + 2 * bit m + bit s) 2 ≡ m
more_back true true true = refl
more_back true true false = refl
more_back true false true = refl
more_back true false false = refl
more_back false true true = refl
more_back false true false = refl
more_back false false true = refl
more_back false false false = refl

master_back : (i m s : Bool) → flag (4 * bit i + 2 * bit m + bit s) 1 ≡ s
master_back true true true = refl
master_back true true false = refl
master_back true false true = refl
master_back true false false = refl
master_back false true true = refl
master_back false true false = refl
master_back false false true = refl
master_back false false false = refl

-- ---- LSAs

-- consecutive LSAs are divided again
lsas_again : (lsas : List (List ℕ)) → AllByRecursion IsUnparsedLsa lsas
    → (are_lsas (length lsas) (flat_map (λ (lsa : List ℕ). lsa) lsas) ≡ true)
    × (lsas_of (length lsas) (flat_map (λ (lsa : List ℕ). lsa) lsas) ≡ lsas)
lsas_again [] all = (refl, refl)
lsas_again (lsa ∷ lsas) all =
    let rest = flat_map (λ (lsa : List ℕ). lsa) lsas in
    let bytes = lsa ++ flat_map (λ (lsa : List ℕ). lsa) lsas in
    let front : take (length lsa) (lsa ++ flat_map (λ (lsa : List ℕ). lsa) lsas) ≡ lsa =
    take_at lsa (flat_map (λ (lsa : List ℕ). lsa) lsas) (length lsa) refl in
    let behind : drop (length lsa) (lsa ++ flat_map (λ (lsa : List ℕ). lsa) lsas)
    ≡ flat_map (λ (lsa : List ℕ). lsa) lsas =
    drop_at lsa (flat_map (λ (lsa : List ℕ). lsa) lsas) (length lsa) refl in
    let long : length (lsa ++ flat_map (λ (lsa : List ℕ). lsa) lsas)
    ≡ length lsa + length (flat_map (λ (lsa : List ℕ). lsa) lsas) =
    length-append lsa (flat_map (λ (lsa : List ℕ). lsa) lsas) in
    let size : field (lsa ++ flat_map (λ (lsa : List ℕ). lsa) lsas) 18 2 ≡ length lsa =
    sym (take-size (length lsa) (lsa ++ flat_map (λ (lsa : List ℕ). lsa) lsas) all.0.room)
    ∙ ap (λ b. field b 18 2) front ∙ all.0.said in
    let next = lsas_again lsas all.1 in (
      (λ i.
          le-leb 20 (length (lsa ++ flat_map (λ (lsa : List ℕ). lsa) lsas))
          (omega (arith, long, all.0.room)) i
          && le-leb 20 (field (lsa ++ flat_map (λ (lsa : List ℕ). lsa) lsas) 18 2)
          (omega (arith, size, all.0.room)) i
          && le-leb (field (lsa ++ flat_map (λ (lsa : List ℕ). lsa) lsas) 18 2)
          (length (lsa ++ flat_map (λ (lsa : List ℕ). lsa) lsas)) (omega (arith, size, long)) i
          && (ap (λ k. are_lsas (length lsas)
          (drop k (lsa ++ flat_map (λ (lsa : List ℕ). lsa) lsas))) size
          ∙ ap (are_lsas (length lsas)) behind ∙ next.0) i),
      (λ i.
          (ap (λ k. take k (lsa ++ flat_map (λ (lsa : List ℕ). lsa) lsas)) size ∙ front) i
          ∷ (ap (λ k. lsas_of (length lsas) (drop k (lsa ++ flat_map (λ (lsa : List ℕ). lsa) lsas)))
          size ∙ ap (lsas_of (length lsas)) behind ∙ next.1) i),
    )

-- each LSA has room for its header
pub lsas_room : (lsas : List (List ℕ)) → AllByRecursion IsUnparsedLsa lsas
    → 20 * length lsas ≤ length (flat_map (λ (lsa : List ℕ). lsa) lsas)
lsas_room [] all = omega arith
lsas_room (lsa ∷ lsas) all = omega (
  arith,
  lsas_room lsas all.1,
  all.0.room,
  length-append lsa (flat_map (λ (lsa : List ℕ). lsa) lsas),
)

-- ---- bodies

hello_again : (o : Open) (h : Hello) (bytes : List ℕ) → o.designated < 2 ^ 32 → o.backup < 2 ^ 32
    → IsHello h → bytes ≡ body_text o (body.Hello h) → IsAgain (body.Hello h) bytes
hello_again o h bytes designated backup is e =
    let rest = flat_map router_id_text h.neighbors in
    let wide : length (flat_map router_id_text h.neighbors) ≡ 4 * length h.neighbors =
    length-records_text router_id_at router_id_text IsRouterId 4 router_id-wide h.neighbors in
    let size : length bytes ≡ 20 + 4 * length h.neighbors = omega (arith, ap length e, wide) in
    let whole : (length bytes - 20) % 4 ≡ 0 = omega arith in
    let many : (length bytes - 20) / 4 ≡ length h.neighbors = omega arith in
    let back : read_from bytes 0 (4 ∷ 2 ∷ 1 ∷ 1 ∷ 4 ∷ 4 ∷ 4 ∷ []) ≡ hello o h =
    ap (λ b. read_from b 0 (4 ∷ 2 ∷ 1 ∷ 1 ∷ 4 ∷ 4 ∷ 4 ∷ [])) e
    ∙ read_from-fields (hello o h) [] (flat_map router_id_text h.neighbors) (
      is.mask,
      (
        is.hello_interval,
        (
          is.options,
          (is.priority, (is.dead_interval, (designated, (backup, tt)))),
        ),
      ),
    ) in
    let regrouped : bytes ≡ fields (hello o h) ++ (flat_map router_id_text h.neighbors ++ []) =
    e ∙ ap (λ t. fields (hello o h) ++ t) (sym (append-nil (flat_map router_id_text h.neighbors)))
    in
    let neighbors : records router_id_at 4 bytes 20 ((length bytes - 20) / 4) ≡ h.neighbors =
    (λ i. records router_id_at 4 (regrouped i) 20 (many i))
    ∙ records-read_back router_id_at router_id_text IsRouterId 4 router_id-wide router_id-reads_back
    h.neighbors (fields (hello o h)) [] is.neighbors in
    record {
      room = omega (arith, size);
      filled = is_equal ((length bytes - 20) % 4) 0 whole;
      read = λ i. body.Hello (record {
        mask = ap (value 0) back i;
        hello_interval = ap (value 1) back i;
        options = ap (value 2) back i;
        priority = ap (value 3) back i;
        dead_interval = ap (value 4) back i;
        neighbors = neighbors i;
      });
    }

description_again : (o : Open) (d : Description) (bytes : List ℕ) → IsDescription d
    → bytes ≡ body_text o (body.Description d) → IsAgain (body.Description d) bytes
description_again o d bytes is e =
    let wide : length (flat_map header_text d.headers) ≡ 20 * length d.headers =
    length-records_text header_at header_text IsHeader 20 header-wide d.headers in
    let size : length bytes ≡ 8 + 20 * length d.headers = omega (arith, ap length e, wide) in
    let whole : (length bytes - 8) % 20 ≡ 0 = omega arith in
    let many : (length bytes - 8) / 20 ≡ length d.headers = omega arith in
    let lt : flags d < 8 = flags_lt d in
    let back : read_from bytes 0 (2 ∷ 1 ∷ 1 ∷ 4 ∷ []) ≡ description d =
    ap (λ b. read_from b 0 (2 ∷ 1 ∷ 1 ∷ 4 ∷ [])) e
    ∙ read_from-fields (description d) [] (flat_map header_text d.headers)
    (is.mtu, (is.options, (omega (arith, lt), (is.sequence, tt)))) in
    let byte : field bytes 3 1 ≡ flags d = ap (value 2) back in
    let regrouped : bytes ≡ fields (description d) ++ (flat_map header_text d.headers ++ []) =
    e ∙ ap (λ t. fields (description d) ++ t)
    (sym (append-nil (flat_map header_text d.headers))) in
    let headers : records header_at 20 bytes 8 ((length bytes - 8) / 20) ≡ d.headers =
    (λ i. records header_at 20 (regrouped i) 8 (many i))
    ∙ records-read_back header_at header_text IsHeader 20 header-wide header-reads_back
    d.headers (fields (description d)) [] is.headers in
    record {
      room = omega (arith, size);
      filled = λ i. (ap (λ (n : ℕ). ltb n 8) byte ∙ lt-ltb (flags d) 8 lt) i && is_equal
          ((length bytes - 8) % 20) 0 whole i;
      read = λ i. body.Description (record {
        mtu = ap (value 0) back i;
        options = ap (value 1) back i;
        init = (ap (λ (n : ℕ). flag n 4) byte ∙ init_back d.init d.more d.master) i;
        more = (ap (λ (n : ℕ). flag n 2) byte ∙ more_back d.init d.more d.master) i;
        master = (ap (λ (n : ℕ). flag n 1) byte ∙ master_back d.init d.more d.master) i;
        sequence = ap (value 3) back i;
        headers = headers i;
      });
    }

request_again : (keys : List Key) (bytes : List ℕ) → AllByRecursion IsKey keys
    → bytes ≡ flat_map key_text keys → IsAgain (body.Request keys) bytes
request_again keys bytes is e =
    let wide : length (flat_map key_text keys) ≡ 12 * length keys =
    length-records_text key_at key_text IsKey 12 key-wide keys in
    let size : length bytes ≡ 12 * length keys = ap length e ∙ wide in
    let whole : length bytes % 12 ≡ 0 = omega arith in
    let many : length bytes / 12 ≡ length keys = omega arith in
    let regrouped : bytes ≡ flat_map key_text keys ++ [] =
    e ∙ sym (append-nil (flat_map key_text keys)) in
    record {
      room = omega arith;
      filled = is_equal (length bytes % 12) 0 whole;
      read = ap (λ ks. body.Request ks)
          ((λ i. records key_at 12 (regrouped i) 0 (many i))
          ∙ records-read_back key_at key_text IsKey 12 key-wide key-reads_back keys [] [] is);
    }

update_again : (lsas : List (List ℕ)) (bytes : List ℕ) → AllByRecursion IsUnparsedLsa lsas
    → length bytes ≤ 8192 → bytes ≡ big_bytes 4 (length lsas)
    ++ flat_map (λ (lsa : List ℕ). lsa) lsas → IsAgain (body.Update lsas) bytes
update_again lsas bytes is short e =
    let size : length bytes ≡ 4 + length (flat_map (λ (lsa : List ℕ). lsa) lsas) =
    omega (arith, ap length e) in
    let few : length lsas < 2 ^ 32 = omega (arith, size, lsas_room lsas is) in
    let count : field bytes 0 4 ≡ length lsas =
    ap (big_number 4) e ∙ big_number-reads_back 4 (length lsas)
    (flat_map (λ (lsa : List ℕ). lsa) lsas) few in
    let rest : drop 4 bytes ≡ flat_map (λ (lsa : List ℕ). lsa) lsas = ap (drop 4) e in
    let again = lsas_again lsas is in
    record {
      room = omega (arith, size);
      filled = (λ i. are_lsas (count i) (rest i)) ∙ again.0;
      read = ap (λ ls. body.Update ls) ((λ i. lsas_of (count i) (rest i)) ∙ again.1);
    }

acknowledgment_again : (headers : List Header) (bytes : List ℕ) → AllByRecursion IsHeader headers
    → bytes ≡ flat_map header_text headers → IsAgain (body.Acknowledgment headers) bytes
acknowledgment_again headers bytes is e =
    let wide : length (flat_map header_text headers) ≡ 20 * length headers =
    length-records_text header_at header_text IsHeader 20 header-wide headers in
    let size : length bytes ≡ 20 * length headers = ap length e ∙ wide in
    let whole : length bytes % 20 ≡ 0 = omega arith in
    let many : length bytes / 20 ≡ length headers = omega arith in
    let regrouped : bytes ≡ flat_map header_text headers ++ [] =
    e ∙ sym (append-nil (flat_map header_text headers)) in
    record {
      room = omega arith;
      filled = is_equal (length bytes % 20) 0 whole;
      read =
          ap (λ hs. body.Acknowledgment hs)
          ((λ i. records header_at 20 (regrouped i) 0 (many i))
          ∙ records-read_back header_at header_text IsHeader 20 header-wide header-reads_back
          headers [] [] is);
    }

pub body_again : (o : Open) (b : PacketBody) (bytes : List ℕ) → o.designated < 2 ^ 32
    → o.backup < 2 ^ 32 → IsBody b → length bytes ≤ 8192 → bytes ≡ body_text o b → IsAgain b bytes
body_again o (body.Hello h) bytes designated backup is short e =
    hello_again o h bytes designated backup is e
body_again o (body.Description d) bytes designated backup is short e =
    description_again o d bytes is e
body_again o (body.Request keys) bytes designated backup is short e = request_again keys bytes is e
body_again o (body.Update lsas) bytes designated backup is short e =
    update_again lsas bytes is short e
body_again o (body.Acknowledgment headers) bytes designated backup is short e =
    acknowledgment_again headers bytes is e
