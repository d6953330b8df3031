-- Statements one after the other in the bytes.
use Rattle.std.proofs.Common.{◌≡◌, ℕ, ◌+◌, ◌*◌, ◌≤◌, ◌<◌, List, [], ◌∷◌, ◌++◌, length, take}
use Rattle.std.proofs.Common.{drop, refl, sym, ap, subst, ◌∙◌, arith, length-append, append_assoc}
use Rattle.std.proofs.Common.{inl, inr}
use Rattle.std.specs.List.{flat_map}
use Rattle.std.specs.Int.{w32, from_le_bytes}
use Rattle.std.proofs.lemmas.Grind.{flat_map-append}
use Rattle.std.proofs.lemmas.List.{append-nil, take-append-drop, drop-take, take-take, take_at}
use Rattle.std.proofs.lemmas.List.{drop_at, take_all, length_push}
use Rattle.object.specs.declared.error.ObjectError.{ObjectError}
use Rattle.object.specs.declared.error.ObjectError.TheVariants as errors
use Rattle.object.specs.Statements.{StatementParts, IsStatement}
use Rattle.object.specs.Objects.{AreStatements, next_slot}
use Rattle.object.specs.Spelling.{statement_text}
use Rattle.object.specs.Refusals.{AreSpelled, Fails, FailsBehind}
use Rattle.object.specs.Refusals.{StatementsFail}
use Rattle.object.proofs.Orders.{next_slot-more, ordered_more}
use Rattle.object.proofs.Parts.{length-statement, same_statement, slot_in_front}

-- the bytes begin with these statements
pub record SoFar (bytes : List ℕ) (slots : ℕ) (ss : List StatementParts) (least index : ℕ) : Type 0
  where
    pub are : AreStatements 0 slots ss
    pub text : flat_map statement_text ss ≡ take (484 * index) bytes
    pub next : least ≡ next_slot 0 ss
    pub count : length ss ≡ index

pub so_far_none : (bytes : List ℕ) (slots : ℕ) (ss : List StatementParts) → ss ≡ []
    → SoFar bytes slots ss 0 0
so_far_none bytes slots ss e =
    let P : List StatementParts → Type 0 = λ t. SoFar bytes slots t 0 0 in
    let none : SoFar bytes slots [] 0 0 = record {
      are = tt;
      text = refl;
      next = refl;
      count = refl;
    } in subst P (sym e) none

take_more : (n m : ℕ) (bytes : List ℕ) → take (n + m) bytes ≡ take n bytes ++ take m (drop n bytes)
take_more n m bytes = sym (take-append-drop n (take (n + m) bytes))
    ∙ ap (λ t. t ++ drop n (take (n + m) bytes)) (take-take n (n + m) bytes (omega arith))
    ∙ ap (λ t. take n bytes ++ t) (drop-take n m bytes)

pub so_far_more : (bytes : List ℕ) (slots : ℕ) (ss ss' : List StatementParts) (least index : ℕ)
    (s : StatementParts) → SoFar bytes slots ss least index
    → (statement_text s ≡ take 484 (drop (484 * index) bytes)) × IsStatement s
    → (least ≤ s.slot) × (s.slot < slots) → ss' ≡ ss ++ s ∷ []
    → SoFar bytes slots ss' (s.slot + 1) (index + 1)
so_far_more bytes slots ss ss' least index s h spelled ordered grown =
    let next = h.next in
    let count = h.count in
    let place : 484 * (index + 1) ≡ 484 * index + 484 = omega arith in
    let more : SoFar bytes slots (ss ++ s ∷ []) (s.slot + 1) (index + 1) = record {
      are = ordered_more 0 slots ss s h.are spelled.1 (omega (arith, ordered.0)) ordered.1;
      text = flat_map-append statement_text ss (s ∷ [])
          ∙ ap (λ t. flat_map statement_text ss ++ t) (append-nil (statement_text s) ∙ spelled.0)
          ∙ ap (λ t. t ++ take 484 (drop (484 * index) bytes)) h.text
          ∙ sym (take_more (484 * index) 484 bytes) ∙ ap (λ n. take n bytes) (sym place);
      next = sym (next_slot-more 0 ss s);
      count = length_push ss s ∙ ap (λ n. n + 1) h.count;
    } in
    let P : List StatementParts → Type 0 = λ t. SoFar bytes slots t (s.slot + 1) (index + 1) in
    subst P (sym grown) more

pub so_far_all : (bytes : List ℕ) (slots : ℕ) (ss : List StatementParts) (least index count : ℕ)
    → SoFar bytes slots ss least index → count ≤ index → index ≤ count → length bytes ≡ 484 * count
    → AreSpelled bytes slots count ss
so_far_all bytes slots ss least index count h le ge l =
    let n = h.count in record {
      are = h.are;
      text = h.text ∙ take_all (484 * index) bytes (omega arith);
      count_is = omega arith;
    }

fails_behind : (bytes : List ℕ) (slots count : ℕ) (ss : List StatementParts) (least index : ℕ)
    (error : ObjectError) → SoFar bytes slots ss least index → index < count
    → Fails least slots (drop (484 * index) bytes) error → FailsBehind bytes slots count error
fails_behind bytes slots count ss least index error h lt fails =
    let n = h.count in
    let P : ℕ → Type 0 = λ m. Fails m slots (drop (484 * index) bytes) error in
    record {
      statements = ss;
      rest = drop (484 * index) bytes;
      parts = sym (take-append-drop (484 * index) bytes)
          ∙ ap (λ t. t ++ drop (484 * index) bytes) (sym h.text);
      are = h.are;
      few = omega arith;
      fails = subst P h.next fails;
    }

pub one_fails : (bytes : List ℕ) (slots count : ℕ) (ss : List StatementParts) (least index : ℕ)
    (error : ObjectError) → SoFar bytes slots ss least index → index < count
    → Fails least slots (drop (484 * index) bytes) error
    → StatementsFail bytes slots count error
one_fails bytes slots count ss least index errors.Order h lt f =
    fails_behind bytes slots count ss least index errors.Order h lt f
one_fails bytes slots count ss least index errors.Field h lt f =
    fails_behind bytes slots count ss least index errors.Field h lt f
one_fails bytes slots count ss least index errors.Short h lt f = absurd f
one_fails bytes slots count ss least index errors.Magic h lt f = absurd f
one_fails bytes slots count ss least index errors.Version h lt f = absurd f
one_fails bytes slots count ss least index errors.Hook h lt f = absurd f
one_fails bytes slots count ss least index errors.Trailing h lt f = absurd f
one_fails bytes slots count ss least index errors.Memory h lt f = absurd f

-- ---- the bytes determine the statements

pub length-statements : (least slots : ℕ) (ss : List StatementParts) → AreStatements least slots ss
    → length (flat_map statement_text ss) ≡ 484 * length ss
length-statements least slots [] h = refl
length-statements least slots (s ∷ ss) h =
    length-append (statement_text s) (flat_map statement_text ss)
    ∙ omega (arith, length-statement s h.0, length-statements (s.slot + 1) slots ss h.3)

pub same_front : (s t : StatementParts) (xs ys : List ℕ) → IsStatement s → IsStatement t
    → statement_text s ++ xs ≡ statement_text t ++ ys → (s ≡ t) × (xs ≡ ys)
same_front s t xs ys h g e =
    let a = statement_text s in
    let b = statement_text t in
    let la : length a ≡ 484 = length-statement s h in
    let lb : length b ≡ 484 = length-statement t g in (
      same_statement s t h g (sym (take_at a xs 484 la) ∙ ap (λ z. take 484 z) e
          ∙ take_at b ys 484 lb),
      sym (drop_at a xs 484 la) ∙ ap (λ z. drop 484 z) e ∙ drop_at b ys 484 lb,
    )

pub same_statements : (least slots : ℕ) (ss ts : List StatementParts) → AreStatements least slots ss
    → AreStatements least slots ts → flat_map statement_text ss ≡ flat_map statement_text ts
    → ss ≡ ts
same_statements least slots [] [] h g e = refl
same_statements least slots [] (t ∷ ts) h g e =
    absurd (omega (
      arith,
      ap length e,
      length-append (statement_text t) (flat_map statement_text ts),
      length-statement t g.0,
    ))
same_statements least slots (s ∷ ss) [] h g e =
    absurd (omega (
      arith,
      ap length e,
      length-append (statement_text s) (flat_map statement_text ss),
      length-statement s h.0,
    ))
same_statements least slots (s ∷ ss) (t ∷ ts) h g e =
    let same = same_front s t (flat_map statement_text ss) (flat_map statement_text ts) h.0 g.0 e in
    let P : StatementParts → Type 0 = λ u. AreStatements (u.slot + 1) slots ts in
    let rest : ss ≡ ts = same_statements (s.slot + 1) slots ss ts h.3 (subst P (sym same.0) g.3)
    same.1 in
    ap (λ u. u ∷ ss) same.0 ∙ ap (λ us. t ∷ us) rest

-- If one fails after some, the bytes spell no more than those.
not_first : (least slots : ℕ) (s : StatementParts) (ss : List StatementParts) (rest : List ℕ)
    (error : ObjectError) → AreStatements least slots (s ∷ ss)
    → flat_map statement_text (s ∷ ss) ≡ rest → Fails least slots rest error → ⊥
not_first least slots s ss rest error h e fails = at error fails
  where
    front : take 484 rest ≡ statement_text s
    front = ap (λ t. take 484 t) (sym e)
        ∙ take_at (statement_text s) (flat_map statement_text ss) 484 (length-statement s h.0)

    slot_is : from_le_bytes w32 (take 4 rest) ≡ s.slot
    slot_is = ap (λ t. from_le_bytes w32 t)
        (sym (take-take 4 484 rest (omega arith)) ∙ ap (λ t. take 4 t) front)
        ∙ slot_in_front s (statement_text s) h.0 refl

    at : (error : ObjectError) → Fails least slots rest error → ⊥
    at errors.Order f = let above = h.1 in let below = h.2 in let is = slot_is in
        elim f [ inl w ↦ omega (arith, w) | inr w ↦ omega (arith, w) ]
    at errors.Field f = f.1 s h.0 (sym front)
    at errors.Short f = f
    at errors.Magic f = f
    at errors.Version f = f
    at errors.Hook f = f
    at errors.Trailing f = f
    at errors.Memory f = f

pub not_behind : (least slots : ℕ) (before ss : List StatementParts) (rest : List ℕ)
    (error : ObjectError) → AreStatements least slots before → AreStatements least slots ss
    → flat_map statement_text ss ≡ flat_map statement_text before ++ rest
    → length before < length ss → Fails (next_slot least before) slots rest error → ⊥
not_behind least slots [] [] rest error h g e lt fails = omega (arith, lt)
not_behind least slots (b ∷ bs) [] rest error h g e lt fails = omega (arith, lt)
not_behind least slots [] (s ∷ ss) rest error h g e lt fails =
    not_first least slots s ss rest error g e fails
not_behind least slots (b ∷ bs) (s ∷ ss) rest error h g e lt fails =
    let same = same_front s b (flat_map statement_text ss) (flat_map statement_text bs ++ rest) g.0
    h.0 (e ∙ append_assoc (statement_text b) (flat_map statement_text bs) rest) in
    let P : StatementParts → Type 0 = λ u. AreStatements (u.slot + 1) slots ss in
    not_behind (b.slot + 1) slots bs ss rest error h.3 (subst P same.0 g.3) same.1
    (omega (arith, lt)) fails
