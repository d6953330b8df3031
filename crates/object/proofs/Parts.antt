-- Texts of one length, one after the other.
use Rattle.std.proofs.Common.{◌≡◌, ℕ, zero, suc, ◌+◌, ◌*◌, ◌≤◌, ◌<◌, List, [], ◌∷◌, ◌++◌, length}
use Rattle.std.proofs.Common.{take, drop, get_or, refl, sym, ap, ◌∙◌, arith, length-append}
use Rattle.std.specs.List.{flat_map}
use Rattle.std.proofs.Math.Seq.{take-append_seam, drop-append_seam}
use Rattle.std.proofs.lemmas.List.{take-append-drop, drop-drop, length-drop, append_assoc}
use Rattle.std.proofs.lemmas.List.{ext_get_or}
use Rattle.object.specs.declared.kind.StatedKind.{StatedKind}
use Rattle.object.specs.declared.kind.StatedKind.TheVariants.{Unstated}
use Rattle.std.specs.Prelude.{IfSome, ◌≢◌}
use Rattle.std.proofs.Common.{set, Option, Some, None, length-set, below_more, get_or-set_same}
use Rattle.std.proofs.Common.{get_or-set_other}
use Rattle.object.specs.declared.fields.RegisterFields.{RegisterFields}
use Rattle.std.proofs.Common.{Bool, subst}
use Rattle.std.specs.Int.{w32, from_le_bytes}
use Rattle.std.proofs.lemmas.Nat.{from_le_bytes-to_le_bytes_4}
use Rattle.std.proofs.lemmas.List.{take_at, drop_at}
use Rattle.object.specs.declared.rank.Rank.{Rank}
use Rattle.object.specs.Sets.{IsStackBytes}
use Rattle.object.specs.Packing.{packed_bits}
use Rattle.object.specs.declared.fields.RankFields.{RankFields}
use Rattle.object.specs.Fields.{AreRank}
use Rattle.object.specs.Statements.{StatementParts, IsStatement, IsRank, IsRankOver}
use Rattle.object.specs.Spelling.{register_bytes, rank_bytes, fields_of_kind, fields_of_rank}
use Rattle.object.specs.Spelling.{kind_text, statement_text}
use Rattle.object.proofs.Packing.{length-packed, same_packed}
use Rattle.object.proofs.Same.{same_rank, same_rank_fields, small_rank}
use Rattle.std.specs.List.{All}
use Rattle.std.proofs.lemmas.List.Elements.{All-get_or}
use Rattle.object.specs.Statements.{IsKind}
use Rattle.object.proofs.Same.{same_kind}

pub length-kinds : (ks : List StatedKind) → length (flat_map kind_text ks) ≡ 40 * length ks
length-kinds [] = refl
length-kinds (k ∷ ks) = length-append (kind_text k) (flat_map kind_text ks)
    ∙ ap (λ n. 40 + n) (length-kinds ks) ∙ omega arith

-- the text of one of them stands at its place
pub kind_at : (ks : List StatedKind) (i : ℕ) → i < length ks
    → take 40 (drop (40 * i) (flat_map kind_text ks)) ≡ kind_text (get_or ks i Unstated)
kind_at [] i lt = absurd (omega arith)
kind_at (k ∷ ks) zero lt = take-append_seam (kind_text k) (flat_map kind_text ks)
kind_at (k ∷ ks) (suc i) lt =
    let place : 40 * suc i ≡ 40 + 40 * i = omega arith in
    ap (λ n. take 40 (drop n (kind_text k ++ flat_map kind_text ks))) place
    ∙ ap (λ t. take 40 t) (sym (drop-drop (40 * i) 40 (kind_text k ++ flat_map kind_text ks)))
    ∙ ap (λ t. take 40 (drop (40 * i) t)) (drop-append_seam (kind_text k) (flat_map kind_text ks))
    ∙ kind_at ks i (omega arith)

-- If each text stands at its place, together they are the bytes.
pub kinds_join : (ks : List StatedKind) (bytes : List ℕ) → length bytes ≡ 40 * length ks
    → ((i : ℕ) → i < length ks → kind_text (get_or ks i Unstated) ≡ take 40 (drop (40 * i) bytes))
    → flat_map kind_text ks ≡ bytes
kinds_join [] [] l h = refl
kinds_join [] (b ∷ bs) l h = absurd (omega arith)
kinds_join (k ∷ ks) bytes l h =
    let rest = kinds_join ks (drop 40 bytes) (length-drop 40 bytes ∙ omega arith) (λ i lt.
    let place : 40 + 40 * i ≡ 40 * (1 + i) = omega arith in
    h (suc i) (omega arith) ∙ ap (λ n. take 40 (drop n bytes)) (omega arith)
    ∙ ap (λ t. take 40 t) (sym (drop-drop (40 * i) 40 bytes))) in
    ap (λ t. t ++ flat_map kind_text ks) (h 0 (omega arith)) ∙ ap (λ t. take 40 bytes ++ t) rest
    ∙ take-append-drop 40 bytes

-- the first ones of the bytes, whatever kinds they spell
pub record AreRead (read : List StatedKind) (bytes : List ℕ) (i : ℕ) : Type 0 where
  pub count : length read ≡ 10
  pub texts : (k : ℕ) → k < i → kind_text (get_or read k Unstated) ≡ take 40 (drop (40 * k) bytes)
  pub same : (ks : List StatedKind) → All IsKind ks → length ks ≡ 10 → flat_map kind_text ks ≡ bytes
      → (k : ℕ) → k < i → get_or read k Unstated ≡ get_or ks k Unstated

pub same_kinds : (as' bs : List StatedKind) → All IsKind as' → All IsKind bs
    → length as' ≡ length bs → flat_map kind_text as' ≡ flat_map kind_text bs → as' ≡ bs
same_kinds as' bs p q l e = ext_get_or Unstated as' bs l (λ i lt.
    same_kind (get_or as' i Unstated) (get_or bs i Unstated) (All-get_or IsKind as' i Unstated lt p)
    (All-get_or IsKind bs i Unstated (omega arith) q)
    (sym (kind_at as' i lt) ∙ ap (λ t. take 40 (drop (40 * i) t)) e ∙ kind_at bs i (omega arith)))

pub kind_found : (r : Option StatedKind) (f : RegisterFields) (bytes : List ℕ)
    → register_bytes f ≡ bytes → IfSome r (λ k. (fields_of_kind k ≡ f) × IsKind k)
    → IfSome r (λ k. kind_text k ≡ bytes)
kind_found None f bytes e h = h
kind_found (Some k) f bytes e h = ap register_bytes h.0 ∙ e

pub read_none : (read : List StatedKind) (bytes : List ℕ) → length read ≡ 10 → AreRead read bytes 0
read_none read bytes l = record {
  count = l;
  texts = λ k lt. absurd (omega (arith, lt));
  same = λ ks all count e k lt. absurd (omega (arith, lt));
}

-- one more kind is read, whatever kind is spelled there
pub read_more : (read : List StatedKind) (bytes part : List ℕ) (i : ℕ) (one : StatedKind)
    → AreRead read bytes i → i < 10 → part ≡ take 40 (drop (40 * i) bytes) → kind_text one ≡ part
    → ((k : StatedKind) → IsKind k → kind_text k ≡ part → one ≡ k)
    → AreRead (set read i one) bytes (i + 1)
read_more read bytes part i one h lt part_is found only =
    let count = h.count in
    let text : kind_text (get_or (set read i one) i Unstated) ≡ take 40 (drop (40 * i) bytes) =
    ap kind_text (get_or-set_same read i one Unstated (omega arith)) ∙ found ∙ part_is in
    record {
      count = length-set read i one ∙ h.count;
      texts = below_more (λ k. kind_text (get_or (set read i one) k Unstated)
          ≡ take 40 (drop (40 * k) bytes)) i
          (λ k less. let other : k ≢ i = omega (arith, less) in
          ap kind_text (get_or-set_other read i k one Unstated other) ∙ h.texts k less) text;
      same = λ ks all ten e. below_more (λ k. get_or (set read i one) k Unstated
          ≡ get_or ks k Unstated) i
          (λ k less. let other : k ≢ i = omega (arith, less) in
          get_or-set_other read i k one Unstated other ∙ h.same ks all ten e k less)
          (get_or-set_same read i one Unstated (omega arith)
          ∙ only (get_or ks i Unstated) (All-get_or IsKind ks i Unstated (omega (arith, ten)) all)
          (sym (kind_at ks i (omega (arith, ten))) ∙ ap (λ t. take 40 (drop (40 * i) t)) e
          ∙ sym part_is));
    }

pub read_text : (read : List StatedKind) (bytes : List ℕ) (i : ℕ) → AreRead read bytes i → 10 ≤ i
    → length bytes ≡ 400 → flat_map kind_text read ≡ bytes
read_text read bytes i h le l = let count = h.count in
    kinds_join read bytes (omega arith) (λ k lt. h.texts k (omega (arith, lt)))

pub read_same : (read : List StatedKind) (bytes : List ℕ) (i : ℕ) → AreRead read bytes i → 10 ≤ i
    → (ks : List StatedKind) → All IsKind ks → length ks ≡ 10 → flat_map kind_text ks ≡ bytes
    → read ≡ ks
read_same read bytes i h le ks all ten e =
    ext_get_or Unstated read ks (h.count ∙ sym ten)
    (λ k lt. let count = h.count in h.same ks all ten e k (omega (arith, lt)))

-- ---- a statement

-- what its 484 bytes are
pub record ArePartsOf (s : StatementParts) (bytes : List ℕ) : Type 0 where
  pub front : take 20 bytes ≡ rank_bytes (fields_of_rank s.slot s.rank)
  pub middle : take 64 (drop 20 bytes) ≡ packed_bits s.stack
  pub back : drop 84 bytes ≡ flat_map kind_text s.kinds

pub parts_of : (s : StatementParts) (bytes : List ℕ) → IsStackBytes s.stack
    → statement_text s ≡ bytes → ArePartsOf s bytes
parts_of s bytes set e =
    let front = rank_bytes (fields_of_rank s.slot s.rank) in
    let back = flat_map kind_text s.kinds in
    let long : length (packed_bits s.stack) ≡ 64 = length-packed 64 s.stack (set ∙ omega arith) in
    let behind : drop 20 bytes ≡ packed_bits s.stack ++ back =
    ap (λ t. drop 20 t) (sym e ∙ append_assoc front (packed_bits s.stack) back) in
    record {
      front = ap (λ t. take 20 t) (sym e ∙ append_assoc front (packed_bits s.stack) back);
      middle = ap (λ t. take 64 t) behind ∙ take_at (packed_bits s.stack) back 64 long;
      back = sym (drop-drop 64 20 bytes) ∙ ap (λ t. drop 64 t) behind
          ∙ drop_at (packed_bits s.stack) back 64 long;
    }

pub text_of : (s : StatementParts) (bytes : List ℕ) → length bytes ≡ 484
    → rank_bytes (fields_of_rank s.slot s.rank) ≡ take 20 bytes
    → packed_bits s.stack ≡ take 64 (drop 20 bytes) → flat_map kind_text s.kinds ≡ drop 84 bytes
    → statement_text s ≡ bytes
text_of s bytes l a b c =
    let front = rank_bytes (fields_of_rank s.slot s.rank) in
    append_assoc front (packed_bits s.stack) (flat_map kind_text s.kinds)
    ∙ ap (λ t. front ++ (packed_bits s.stack ++ t)) (c ∙ sym (drop-drop 64 20 bytes))
    ∙ ap (λ t. front ++ (t ++ drop 64 (drop 20 bytes))) b
    ∙ ap (λ t. front ++ t) (take-append-drop 64 (drop 20 bytes))
    ∙ ap (λ t. t ++ drop 20 bytes) a
    ∙ take-append-drop 20 bytes

pub length-statement : (s : StatementParts) → IsStatement s → length (statement_text s) ≡ 484
length-statement s h =
    let long : length (packed_bits s.stack) ≡ 64 =
    length-packed 64 s.stack (h.stack ∙ omega arith) in
    let count = h.count in
    let front = rank_bytes (fields_of_rank s.slot s.rank) in
    let twenty : length front ≡ 20 = refl in
    length-append (front ++ packed_bits s.stack) (flat_map kind_text s.kinds)
    ∙ omega (arith, length-append front (packed_bits s.stack), long, twenty, length-kinds s.kinds)

-- the slot stands in front
pub slot_in_front : (s : StatementParts) (bytes : List ℕ) → IsStatement s → statement_text s ≡ bytes
    → from_le_bytes w32 (take 4 bytes) ≡ s.slot
slot_in_front s bytes h e =
    sym (ap (λ t. from_le_bytes w32 (take 4 t))
    (sym (append_assoc (rank_bytes (fields_of_rank s.slot s.rank)) (packed_bits s.stack)
    (flat_map kind_text s.kinds)) ∙ e)) ∙ from_le_bytes-to_le_bytes_4 s.slot h.slot

pub same_statement : (s t : StatementParts) → IsStatement s → IsStatement t
    → statement_text s ≡ statement_text t → s ≡ t
same_statement s t h g e =
    let p = parts_of s (statement_text t) h.stack e in
    let q = parts_of t (statement_text t) g.stack refl in
    let ranks = same_rank s.slot t.slot s.rank t.rank h.slot g.slot h.rank.is_rank g.rank.is_rank
    (sym p.front ∙ q.front) in
    let kinds : s.kinds ≡ t.kinds = same_kinds s.kinds t.kinds h.kinds g.kinds
    (h.count ∙ sym g.count) (sym p.back ∙ q.back) in
    let stack : s.stack ≡ t.stack = same_packed 64 s.stack t.stack (h.stack ∙ omega arith)
    (g.stack ∙ omega arith) (sym p.middle ∙ q.middle) in
    let slot : s.slot ≡ t.slot = ranks.0 in
    let rank : s.rank ≡ t.rank = ranks.1 in
    let made : ℕ → Rank → List StatedKind → List Bool → StatementParts = λ a b c d. record {
      slot = a;
      rank = b;
      kinds = c;
      stack = d;
    } in
    let whole : made s.slot s.rank s.kinds s.stack ≡ made t.slot t.rank t.kinds t.stack = cc in
    whole

-- ---- what was read is the statement that the bytes spell

pub rank_told : (s : StatementParts) (bytes : List ℕ) (f : RankFields) → IsStatement s
    → statement_text s ≡ bytes → AreRank f → rank_bytes f ≡ take 20 bytes
    → fields_of_rank s.slot s.rank ≡ f
rank_told s bytes f h e small read =
    let p = parts_of s bytes h.stack e in
    same_rank_fields (fields_of_rank s.slot s.rank) f
    (small_rank s.slot s.rank h.slot h.rank.is_rank) small (sym p.front ∙ sym read)

pub rank_again : (s : StatementParts) (bytes : List ℕ) (f : RankFields) → IsStatement s
    → statement_text s ≡ bytes → AreRank f → rank_bytes f ≡ take 20 bytes
    → fields_of_rank f.slot s.rank ≡ f
rank_again s bytes f h e small read =
    let told = rank_told s bytes f h e small read in
    ap (λ n. fields_of_rank n s.rank) (sym (ap (λ g. g.slot) told)) ∙ told

pub statement_told : (s : StatementParts) (bytes : List ℕ) (f : RankFields) (rank : Rank)
    (kinds : List StatedKind) (stack : List Bool) → IsStatement s → statement_text s ≡ bytes
    → AreRank f → rank_bytes f ≡ take 20 bytes
    → ((r : Rank) → IsRank r → fields_of_rank f.slot r ≡ f → rank ≡ r)
    → ((ks : List StatedKind) → All IsKind ks → length ks ≡ 10
    → flat_map kind_text ks ≡ drop 84 bytes → kinds ≡ ks)
    → packed_bits stack ≡ take 64 (drop 20 bytes) → IsStackBytes stack
    → s ≡ record {
      slot = f.slot;
      rank = rank;
      kinds = kinds;
      stack = stack;
    }
statement_told s bytes f rank kinds stack h e small read only_rank only_kinds middle set =
    let p = parts_of s bytes h.stack e in
    let slot_is : s.slot ≡ f.slot = ap (λ g. g.slot) (rank_told s bytes f h e small read) in
    let rank_is : rank ≡ s.rank = only_rank s.rank h.rank.is_rank
    (rank_again s bytes f h e small read) in
    let kinds_are : kinds ≡ s.kinds = only_kinds s.kinds h.kinds h.count (sym p.back) in
    let stack_is : s.stack ≡ stack = same_packed 64 s.stack stack (h.stack ∙ omega arith)
    (set ∙ omega arith) (sym p.middle ∙ sym middle) in
    let made : ℕ → Rank → List StatedKind → List Bool → StatementParts = λ a b c d. record {
      slot = a;
      rank = b;
      kinds = c;
      stack = d;
    } in
    let whole : made s.slot s.rank s.kinds s.stack ≡ made f.slot rank kinds stack = cc in whole

pub rank_over : (s : StatementParts) (slot : ℕ) (rank : Rank) (kinds : List StatedKind)
    (stack : List Bool) → IsStatement s → s ≡ record {
      slot = slot;
      rank = rank;
      kinds = kinds;
      stack = stack;
    } → IsRankOver kinds rank
rank_over s slot rank kinds stack h e = let P : StatementParts → Type 0 = λ t. IsStatement t in
    let told = subst P e h in told.rank
