-- Bytes determine what they spell.
use Rattle.std.proofs.Common.{◌≡◌, ℕ, zero, suc, ◌^◌, ◌≤◌, ◌<◌, List, take, drop, get_or, refl, sym}
use Rattle.std.proofs.Common.{ap, ◌∙◌, arith, Option, Some, None}
use Rattle.std.specs.Prelude.{◌==◌, if◌then◌else◌}
use Rattle.std.specs.Int.{w16, w32, w64, from_le_bytes}
use Rattle.std.proofs.lemmas.Nat.{from_le_bytes-to_le_bytes_2, from_le_bytes-to_le_bytes_4}
use Rattle.std.proofs.lemmas.Nat.{from_le_bytes-to_le_bytes_8}
use Rattle.isa.specs.declared.map.Map.{Map}
use Rattle.isa.specs.declared.map.Map.TheVariants as maps
use Rattle.object.specs.declared.fields.RegisterFields.{RegisterFields}
use Rattle.object.specs.declared.fields.RankFields.{RankFields}
use Rattle.object.specs.declared.fields.HeaderFields.{HeaderFields}
use Rattle.object.specs.declared.kind.StatedKind.{StatedKind}
use Rattle.object.specs.declared.kind.StatedKind.TheVariants as kinds
use Rattle.object.specs.declared.rank.Rank.{Rank}
use Rattle.object.specs.Numbers.{Numbers, Term}
use Rattle.object.specs.Statements.{IsKind, IsRank, IsTermOrNone}
use Rattle.object.specs.Fields.{AreRegister, AreRank, AreHeader}
use Rattle.object.specs.Spelling.{register_bytes, rank_bytes, header_bytes, fields_of_kind}
use Rattle.object.specs.Spelling.{fields_of_rank, kind_text, term_register, term_coefficient}

-- ---- fields

word : (at : ℕ) (xs ys : List ℕ) → xs ≡ ys
    → from_le_bytes w32 (take 4 (drop at xs)) ≡ from_le_bytes w32 (take 4 (drop at ys))
word at xs ys e = ap (λ zs. from_le_bytes w32 (take 4 (drop at zs))) e

pub same_register : (f g : RegisterFields) → AreRegister f → AreRegister g
    → register_bytes f ≡ register_bytes g → f ≡ g
same_register f g small small' e =
    let kind : f.kind ≡ g.kind = ap (λ zs. get_or zs 0 0) e in
    let map : f.map ≡ g.map = ap (λ zs. get_or zs 1 0) e in
    let unused : f.unused ≡ g.unused =
    sym (from_le_bytes-to_le_bytes_2 f.unused small.unused)
    ∙ ap (λ zs. from_le_bytes w16 (take 2 (drop 2 zs))) e
    ∙ from_le_bytes-to_le_bytes_2 g.unused small'.unused in
    let offset : f.offset ≡ g.offset =
    sym (from_le_bytes-to_le_bytes_4 f.offset small.offset)
    ∙ ap (λ zs. from_le_bytes w32 (take 4 (drop 4 zs))) e
    ∙ from_le_bytes-to_le_bytes_4 g.offset small'.offset in
    let low : f.low ≡ g.low = sym (from_le_bytes-to_le_bytes_8 f.low small.low)
    ∙ ap (λ zs. from_le_bytes w64 (take 8 (drop 8 zs))) e
    ∙ from_le_bytes-to_le_bytes_8 g.low small'.low in
    let high : f.high ≡ g.high = sym (from_le_bytes-to_le_bytes_8 f.high small.high)
    ∙ ap (λ zs. from_le_bytes w64 (take 8 (drop 16 zs))) e
    ∙ from_le_bytes-to_le_bytes_8 g.high small'.high in
    let mask : f.mask ≡ g.mask = sym (from_le_bytes-to_le_bytes_8 f.mask small.mask)
    ∙ ap (λ zs. from_le_bytes w64 (take 8 (drop 24 zs))) e
    ∙ from_le_bytes-to_le_bytes_8 g.mask small'.mask in
    let value : f.value ≡ g.value = sym (from_le_bytes-to_le_bytes_8 f.value small.value)
    ∙ ap (λ zs. from_le_bytes w64 (take 8 (drop 32 zs))) e
    ∙ from_le_bytes-to_le_bytes_8 g.value small'.value in
    register_made f g kind map unused offset low high mask value
  where
    register_made : (f g : RegisterFields) → f.kind ≡ g.kind → f.map ≡ g.map → f.unused ≡ g.unused
        → f.offset ≡ g.offset → f.low ≡ g.low → f.high ≡ g.high → f.mask ≡ g.mask
        → f.value ≡ g.value → f ≡ g
    register_made f g a b c d e h i j =
        let made : ℕ → ℕ → ℕ → ℕ → ℕ → ℕ → ℕ → ℕ → RegisterFields = λ a b c d e h i j. record {
          kind = a;
          map = b;
          unused = c;
          offset = d;
          low = e;
          high = h;
          mask = i;
          value = j;
        } in
        let whole : made f.kind f.map f.unused f.offset f.low f.high f.mask f.value
        ≡ made g.kind g.map g.unused g.offset g.low g.high g.mask g.value = cc in whole

pub same_rank_fields : (f g : RankFields) → AreRank f → AreRank g → rank_bytes f ≡ rank_bytes g
    → f ≡ g
same_rank_fields f g small small' e =
    let slot : f.slot ≡ g.slot = sym (from_le_bytes-to_le_bytes_4 f.slot small.slot)
    ∙ ap (λ zs. from_le_bytes w32 (take 4 zs)) e
    ∙ from_le_bytes-to_le_bytes_4 g.slot small'.slot in
    let constant : f.constant ≡ g.constant =
    sym (from_le_bytes-to_le_bytes_4 f.constant small.constant)
    ∙ ap (λ zs. from_le_bytes w32 (take 4 (drop 4 zs))) e
    ∙ from_le_bytes-to_le_bytes_4 g.constant small'.constant in
    let a : f.first_register ≡ g.first_register = ap (λ zs. get_or zs 8 0) e in
    let b : f.second_register ≡ g.second_register = ap (λ zs. get_or zs 9 0) e in
    let unused : f.unused ≡ g.unused =
    sym (from_le_bytes-to_le_bytes_2 f.unused small.unused)
    ∙ ap (λ zs. from_le_bytes w16 (take 2 (drop 10 zs))) e
    ∙ from_le_bytes-to_le_bytes_2 g.unused small'.unused in
    let first : f.first_coefficient ≡ g.first_coefficient =
    sym (from_le_bytes-to_le_bytes_4 f.first_coefficient small.first_coefficient)
    ∙ ap (λ zs. from_le_bytes w32 (take 4 (drop 12 zs))) e
    ∙ from_le_bytes-to_le_bytes_4 g.first_coefficient small'.first_coefficient in
    let second : f.second_coefficient ≡ g.second_coefficient =
    sym (from_le_bytes-to_le_bytes_4 f.second_coefficient small.second_coefficient)
    ∙ ap (λ zs. from_le_bytes w32 (take 4 (drop 16 zs))) e
    ∙ from_le_bytes-to_le_bytes_4 g.second_coefficient small'.second_coefficient in
    let made : ℕ → ℕ → ℕ → ℕ → ℕ → ℕ → ℕ → RankFields = λ s c a b u k l. record {
      slot = s;
      constant = c;
      first_register = a;
      second_register = b;
      unused = u;
      first_coefficient = k;
      second_coefficient = l;
    } in
    let whole : made f.slot f.constant f.first_register f.second_register f.unused
    f.first_coefficient f.second_coefficient
    ≡ made g.slot g.constant g.first_register g.second_register g.unused g.first_coefficient
    g.second_coefficient = cc in whole

pub same_header_fields : (f g : HeaderFields) → AreHeader f → AreHeader g
    → header_bytes f ≡ header_bytes g → f ≡ g
same_header_fields f g small small' e =
    let version : f.version ≡ g.version = ap (λ zs. get_or zs 0 0) e in
    let hook : f.hook ≡ g.hook = ap (λ zs. get_or zs 1 0) e in
    let statements : f.statements ≡ g.statements =
    sym (from_le_bytes-to_le_bytes_2 f.statements small.statements)
    ∙ ap (λ zs. from_le_bytes w16 (take 2 (drop 2 zs))) e
    ∙ from_le_bytes-to_le_bytes_2 g.statements small'.statements in
    let entry_rank : f.entry_rank ≡ g.entry_rank =
    sym (from_le_bytes-to_le_bytes_4 f.entry_rank small.entry_rank)
    ∙ ap (λ zs. from_le_bytes w32 (take 4 (drop 4 zs))) e
    ∙ from_le_bytes-to_le_bytes_4 g.entry_rank small'.entry_rank in
    let slots : f.slots ≡ g.slots = sym (from_le_bytes-to_le_bytes_4 f.slots small.slots)
    ∙ ap (λ zs. from_le_bytes w32 (take 4 (drop 8 zs))) e
    ∙ from_le_bytes-to_le_bytes_4 g.slots small'.slots in
    let made : ℕ → ℕ → ℕ → ℕ → ℕ → HeaderFields = λ a b c d e. record {
      version = a;
      hook = b;
      statements = c;
      entry_rank = d;
      slots = e;
    } in
    let whole : made f.version f.hook f.statements f.entry_rank f.slots
    ≡ made g.version g.hook g.statements g.entry_rank g.slots = cc in whole

-- ---- a register

map_from : ℕ → Map
map_from n = if n == 0 then maps.Counters else maps.Cells

kind_from : RegisterFields → StatedKind
kind_from f =
    let n : Numbers = record { low = f.low; high = f.high; mask = f.mask; value = f.value } in
    if f.kind == 0 then kinds.Unstated else
    if f.kind == 1 then kinds.Number n else
    if f.kind == 2 then kinds.Context f.offset else
    if f.kind == 3 then kinds.Stack f.offset else kinds.MapValue (map_from f.map) n

kind_again : (k : StatedKind) → kind_from (fields_of_kind k) ≡ k
unfolding kind_from map_from
kind_again kinds.Unstated = refl
kind_again (kinds.Number n) = refl
kind_again (kinds.Context o) = refl
kind_again (kinds.Stack o) = refl
kind_again (kinds.MapValue maps.Counters n) = refl
kind_again (kinds.MapValue maps.Cells n) = refl

pub small_kind : (k : StatedKind) → IsKind k → AreRegister (fields_of_kind k)
small_kind kinds.Unstated h = record {
  unused = omega arith;
  offset = omega arith;
  low = omega arith;
  high = omega arith;
  mask = omega arith;
  value = omega arith;
}
small_kind (kinds.Number n) h = let a = h.ordered in let b = h.high in record {
  unused = omega arith;
  offset = omega arith;
  low = omega arith;
  high = h.high;
  mask = h.mask;
  value = h.value;
}
small_kind (kinds.Context o) h = record {
  unused = omega arith;
  offset = omega (arith, h);
  low = omega arith;
  high = omega arith;
  mask = omega arith;
  value = omega arith;
}
small_kind (kinds.Stack o) h = record {
  unused = omega arith;
  offset = omega (arith, h);
  low = omega arith;
  high = omega arith;
  mask = omega arith;
  value = omega arith;
}
small_kind (kinds.MapValue m n) h = let a = h.ordered in let b = h.high in record {
  unused = omega arith;
  offset = omega arith;
  low = omega arith;
  high = h.high;
  mask = h.mask;
  value = h.value;
}

pub same_kind : (a b : StatedKind) → IsKind a → IsKind b → kind_text a ≡ kind_text b → a ≡ b
same_kind a b p q e =
    sym (kind_again a) ∙ ap kind_from
    (same_register (fields_of_kind a) (fields_of_kind b) (small_kind a p) (small_kind b q) e)
    ∙ kind_again b

-- ---- a rank

term_from : ℕ → ℕ → Option Term
term_from register zero = None
term_from register (suc n) = Some (record { register = register; coefficient = suc n })

some_again : (register coefficient : ℕ) → 1 ≤ coefficient
    → term_from register coefficient ≡ Some (record {
      register = register;
      coefficient = coefficient;
    })
unfolding term_from
some_again register zero le = absurd (omega arith)
some_again register (suc n) le = refl

term_again : (t : Option Term) → IsTermOrNone t
    → term_from (term_register t) (term_coefficient t) ≡ t
unfolding term_from
term_again None h = refl
term_again (Some t) h = some_again t.register t.coefficient h.some

rank_from : RankFields → Rank
rank_from f = record {
  constant = f.constant;
  first = term_from f.first_register f.first_coefficient;
  second = term_from f.second_register f.second_coefficient;
}

rank_again : (slot : ℕ) (r : Rank) → IsRank r → rank_from (fields_of_rank slot r) ≡ r
unfolding rank_from
rank_again slot r h =
    let first = term_again r.first h.first in
    let second = term_again r.second h.second in
    let made : Option Term → Option Term → Rank = λ a b. record {
      constant = r.constant;
      first = a;
      second = b;
    } in
    let whole : made (term_from (term_register r.first) (term_coefficient r.first))
    (term_from (term_register r.second) (term_coefficient r.second)) ≡ made r.first r.second =
    cc in whole

small_register : (t : Option Term) → IsTermOrNone t → term_coefficient t < 2 ^ 32
small_register None h = omega arith
small_register (Some t) h = h.coefficient

pub small_rank : (slot : ℕ) (r : Rank) → slot < 2 ^ 32 → IsRank r → AreRank (fields_of_rank slot r)
small_rank slot r lt h = record {
  slot = lt;
  constant = h.constant;
  unused = omega arith;
  first_coefficient = small_register r.first h.first;
  second_coefficient = small_register r.second h.second;
}

pub same_rank : (s t : ℕ) (a b : Rank) → s < 2 ^ 32 → t < 2 ^ 32 → IsRank a → IsRank b
    → rank_bytes (fields_of_rank s a) ≡ rank_bytes (fields_of_rank t b) → (s ≡ t) × (a ≡ b)
same_rank s t a b ls lt p q e =
    let same = same_rank_fields (fields_of_rank s a) (fields_of_rank t b) (small_rank s a ls p)
    (small_rank t b lt q) e in
    (ap (λ f. f.slot) same, sym (rank_again s a p) ∙ ap rank_from same ∙ rank_again t b q)
