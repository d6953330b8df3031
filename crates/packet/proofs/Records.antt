-- Router IDs and keys that are read spell the bytes that they are read from, and what was written
-- is read back.
use Rattle.std.proofs.Common.{◌≡◌, ℕ, ◌+◌, List, [], ◌∷◌, ◌++◌, get_or, refl, ap}
use Rattle.words.specs.Fields.{field}
use Rattle.words.proofs.Bytes.{fields-read_from, read_from, read_from-fields}
use Rattle.words.proofs.Records.{IsLocal, IsWide, ReadsBack, ReadsFitting, Spells, field-local}
use Rattle.words.proofs.Records.{reads_back-in_front, spells-in_front}
use Rattle.lsa.proofs.Headers.{field-below}
use Rattle.packet.specs.Reading.{key_at, router_id_at}
use Rattle.packet.specs.Text.{IsKey, IsRouterId, key_fields, key_text, router_id_text}

-- the value at an index of a table
abbrev pub value : ℕ → List (ℕ × ℕ) → ℕ
value k fs = (get_or fs k (0, 0)).1

pub router_id-wide : IsWide router_id_text 4
router_id-wide r = refl

pub router_id-spells : Spells router_id_at router_id_text 4
router_id-spells bytes at fits le = fields-read_from (4 ∷ []) bytes at fits le

pub router_id-reads_back : ReadsBack router_id_at router_id_text IsRouterId
router_id-reads_back r before rest fits =
    ap (value 0) (read_from-fields ((4, r) ∷ []) before rest (fits, tt))

pub router_id-fits : ReadsFitting router_id_at IsRouterId
router_id-fits bytes at fits = field-below bytes at 4 fits

pub key-wide : IsWide key_text 12
key-wide k = refl

key-local : IsLocal key_at
key-local bytes at = λ i. record {
  ls_type = field bytes at 4;
  link_state_id = field-local bytes at 4 4 i;
  advertising_router = field-local bytes at 8 4 i;
}

pub key-spells : Spells key_at key_text 12
key-spells = spells-in_front key_at key_text 12 key-local
    (λ bytes fits le. fields-read_from (4 ∷ 4 ∷ 4 ∷ []) bytes 0 fits le)

pub key-reads_back : ReadsBack key_at key_text IsKey
key-reads_back = reads_back-in_front key_at key_text IsKey key-local (λ k rest is.
    let back : read_from (key_text k ++ rest) 0 (4 ∷ 4 ∷ 4 ∷ []) ≡ key_fields k =
    read_from-fields (key_fields k) [] rest
    (is.ls_type, (is.link_state_id, (is.advertising_router, tt))) in
    λ i. record {
      ls_type = ap (value 0) back i;
      link_state_id = ap (value 1) back i;
      advertising_router = ap (value 2) back i;
    })

pub key-fits : ReadsFitting key_at IsKey
key-fits bytes at fits = record {
  ls_type = field-below bytes at 4 fits;
  link_state_id = field-below bytes (at + 4) 4 fits;
  advertising_router = field-below bytes (at + 8) 4 fits;
}
