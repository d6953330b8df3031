-- An object file as a whole.
use Rattle.std.proofs.Common.{◌≡◌, ℕ, ◌+◌, ◌-◌, ◌*◌, ◌≤◌, List, [], ◌++◌}
use Rattle.std.proofs.Common.{length, take, drop, refl, sym, ap, subst, ◌∙◌, arith}
use Rattle.std.proofs.Common.{length-append, length-take, length-drop, inl, inr}
use Rattle.std.specs.Prelude.{slice_index, Result, Ok, Err, IfOk, IfErr, MatchResult}
use Rattle.std.specs.List.{flat_map}
use Rattle.std.specs.Int.{w16, w32, from_le_bytes}
use Rattle.std.proofs.lemmas.Nat.{from_le_bytes-to_le_bytes_2, from_le_bytes-to_le_bytes_4}
use Rattle.std.proofs.lemmas.List.{take-append-drop, drop-drop, take_at, drop_at, take_rest}
use Rattle.isa.specs.declared.hook.Hook.{Hook}
use Rattle.isa.specs.declared.hook.Hook.TheVariants as hooks
use Rattle.isa.specs.Hooks.{hook_number}
use Rattle.object.specs.declared.error.ObjectError.{ObjectError}
use Rattle.object.specs.declared.error.ObjectError.TheVariants as errors
use Rattle.object.specs.declared.fields.HeaderFields.{HeaderFields}
use Rattle.object.specs.Fields.{AreHeader}
use Rattle.object.specs.Statements.{StatementParts}
use Rattle.object.specs.Objects.{AreStatements, IsObject, ObjectParts, slots_of}
use Rattle.object.specs.Spelling.{Spells, fields_of_header, header_bytes, magic, statement_text}
use Rattle.object.specs.Spelling.{text}
use Rattle.object.specs.Refusals.{AreFieldsOf, AreSpelled, FailsAt, FailsBehind, HasSize, Refuses}
use Rattle.object.specs.Refusals.{StatementsFail, count_in, slots_in}
use Rattle.object.proofs.Orders.{few_statements}
use Rattle.object.proofs.Behind.{length-statements, not_behind, same_statements}

-- ---- what the bytes of an object announce

pub record Announces (bytes : List ℕ) (o : ObjectParts) : Type 0 where
  pub long : 16 ≤ length bytes
  pub magic_is : take 4 bytes ≡ magic
  pub version_is : slice_index bytes 4 ≡ 1
  pub hook_is : slice_index bytes 5 ≡ hook_number o.hook
  pub count_is : count_in bytes ≡ length o.statements
  pub slots_are : slots_in bytes ≡ slots_of o
  pub size : length bytes ≡ 16 + 8 * slots_of o + 484 * length o.statements
  pub code_is : take (8 * slots_of o) (drop 16 bytes) ≡ o.code
  pub rest_is : drop (16 + 8 * slots_of o) bytes ≡ flat_map statement_text o.statements

small_header : (o : ObjectParts) → IsObject o → AreHeader (fields_of_header o)
small_header o h =
    let most = h.most in
    let few = few_statements o h in record {
      statements = omega arith;
      entry_rank = h.entry_rank;
      slots = omega arith;
    }

pub announces : (bytes : List ℕ) (o : ObjectParts) → Spells bytes o → Announces bytes o
announces bytes o h =
    let is = h.is_object in
    let e = h.spelled in
    let small = small_header o is in
    let rest : List ℕ = flat_map statement_text o.statements in
    let whole = is.whole in
    let code_long : length o.code ≡ 8 * slots_of o = omega arith in
    let behind : drop 16 bytes ≡ o.code ++ rest = ap (λ t. drop 16 t) e in
    let rest_long : length rest ≡ 484 * length o.statements =
    length-statements 0 (slots_of o) o.statements is.statements in
    let size : length bytes ≡ 16 + length (o.code ++ rest) = ap length e ∙ omega arith in
    let both = length-append o.code rest in
    record {
      long = omega arith;
      magic_is = ap (λ t. take 4 t) e;
      version_is = ap (λ t. slice_index t 4) e;
      hook_is = ap (λ t. slice_index t 5) e;
      count_is = ap (λ t. from_le_bytes w16 (take 2 (drop 6 t))) e
          ∙ from_le_bytes-to_le_bytes_2 (length o.statements) small.statements;
      slots_are = ap (λ t. from_le_bytes w32 (take 4 (drop 12 t))) e
          ∙ from_le_bytes-to_le_bytes_4 (slots_of o) small.slots;
      size = omega arith;
      code_is = ap (λ t. take (8 * slots_of o) t) behind
          ∙ take_at o.code rest (8 * slots_of o) code_long;
      rest_is = sym (drop-drop (8 * slots_of o) 16 bytes) ∙ ap (λ t. drop (8 * slots_of o) t) behind
          ∙ drop_at o.code rest (8 * slots_of o) code_long;
    }

-- ---- bytes spell one object

same_hook : (a b : Hook) → hook_number a ≡ hook_number b → a ≡ b
same_hook hooks.Count hooks.Count e = refl
same_hook hooks.Tag hooks.Tag e = refl
same_hook hooks.Price hooks.Price e = refl
same_hook hooks.Veto hooks.Veto e = refl
same_hook hooks.Count hooks.Tag e = absurd (omega arith)
same_hook hooks.Count hooks.Price e = absurd (omega arith)
same_hook hooks.Count hooks.Veto e = absurd (omega arith)
same_hook hooks.Tag hooks.Count e = absurd (omega arith)
same_hook hooks.Tag hooks.Price e = absurd (omega arith)
same_hook hooks.Tag hooks.Veto e = absurd (omega arith)
same_hook hooks.Price hooks.Count e = absurd (omega arith)
same_hook hooks.Price hooks.Tag e = absurd (omega arith)
same_hook hooks.Price hooks.Veto e = absurd (omega arith)
same_hook hooks.Veto hooks.Count e = absurd (omega arith)
same_hook hooks.Veto hooks.Tag e = absurd (omega arith)
same_hook hooks.Veto hooks.Price e = absurd (omega arith)

entry_in : List ℕ → ℕ
entry_in bytes = from_le_bytes w32 (take 4 (drop 8 bytes))

entry_told : (bytes : List ℕ) (o : ObjectParts) → Spells bytes o → entry_in bytes ≡ o.entry_rank
unfolding entry_in
entry_told bytes o h = ap (λ t. from_le_bytes w32 (take 4 (drop 8 t))) h.spelled
    ∙ from_le_bytes-to_le_bytes_4 o.entry_rank h.is_object.entry_rank

pub same_object : (bytes : List ℕ) (a b : ObjectParts) → Spells bytes a → Spells bytes b → a ≡ b
same_object bytes a b p q =
    let x = announces bytes a p in
    let y = announces bytes b q in
    let slots : slots_of a ≡ slots_of b = sym x.slots_are ∙ y.slots_are in
    let hook : a.hook ≡ b.hook = same_hook a.hook b.hook (sym x.hook_is ∙ y.hook_is) in
    let entry : a.entry_rank ≡ b.entry_rank = sym (entry_told bytes a p) ∙ entry_told bytes b q in
    let code : a.code ≡ b.code = sym x.code_is ∙ ap (λ n. take (8 * n) (drop 16 bytes)) slots
    ∙ y.code_is in
    let texts : flat_map statement_text a.statements ≡ flat_map statement_text b.statements =
    sym x.rest_is ∙ ap (λ n. drop (16 + 8 * n) bytes) slots ∙ y.rest_is in
    let P : ℕ → Type 0 = λ n. AreStatements 0 n b.statements in
    let statements : a.statements ≡ b.statements =
    same_statements 0 (slots_of a) a.statements b.statements p.is_object.statements
    (subst P (sym slots) q.is_object.statements) texts in
    let made : Hook → ℕ → List ℕ → List StatementParts → ObjectParts = λ h r c s. record {
      hook = h;
      entry_rank = r;
      code = c;
      statements = s;
    } in
    let whole : made a.hook a.entry_rank a.code a.statements
    ≡ made b.hook b.entry_rank b.code b.statements = cc in whole

-- ---- what is refused spells nothing

fails_at : (bytes : List ℕ) (o : ObjectParts) (error : ObjectError) → Spells bytes o
    → FailsAt bytes error → ⊥
fails_at bytes o error h f =
    let x = announces bytes o h in
    let slots = x.slots_are in
    let count = x.count_is in
    let b = f.behind in
    let P : ℕ → Type 0 = λ n. AreStatements 0 n o.statements in
    let few = b.few in
    not_behind 0 (slots_in bytes) b.statements o.statements b.rest error b.are
    (subst P (sym slots) h.is_object.statements)
    (sym x.rest_is ∙ ap (λ n. drop (16 + 8 * n) bytes) (sym slots) ∙ b.parts) (omega arith) b.fails

pub refused : (bytes : List ℕ) (o : ObjectParts) (error : ObjectError) → Spells bytes o
    → Refuses bytes error → error ≡ errors.Memory
refused bytes o errors.Memory h r = refl
refused bytes o errors.Short h r =
    let x = announces bytes o h in
    let long = x.long in
    let size = x.size in
    let slots = x.slots_are in
    let count = x.count_is in
    absurd (elim r [ inl w ↦ omega (arith, w) | inr w ↦ omega (arith, w.1) ])
refused bytes o errors.Magic h r = absurd (r.1 (announces bytes o h).magic_is)
refused bytes o errors.Version h r = absurd (r.1 (announces bytes o h).version_is)
refused bytes o errors.Hook h r = absurd (r.1 o.hook (sym (announces bytes o h).hook_is))
refused bytes o errors.Order h r = absurd (fails_at bytes o errors.Order h r)
refused bytes o errors.Field h r =
    let x = announces bytes o h in
    let slots = x.slots_are in
    let some = h.is_object.some in
    let most = h.is_object.most in
    absurd (elim r [
      | inl w ↦ elim w.1
          [ inl none ↦ omega (arith, none) | inr many ↦ omega (arith, many) ]
      | inr w ↦ fails_at bytes
          o errors.Field h w
    ])
refused bytes o errors.Trailing h r =
    let x = announces bytes o h in
    let size = x.size in
    let slots = x.slots_are in
    let count = x.count_is in
    let more = r.1 in
    absurd (omega arith)

-- ---- what is read

pub has_size : (bytes : List ℕ) (f : HeaderFields) → AreFieldsOf bytes f
    → length bytes ≡ 16 + 8 * f.slots + 484 * f.statements → HasSize bytes
has_size bytes f h size = let slots = h.slots_are in let count = h.count_is in record {
  begins = h.begins;
  size = omega arith;
}

-- the parts of what is read
pub record IsReadOf (bytes : List ℕ) (f : HeaderFields) (o : ObjectParts) : Type 0 where
  pub fields : AreFieldsOf bytes f
  pub size : length bytes ≡ 16 + 8 * f.slots + 484 * f.statements
  pub hook : hook_number o.hook ≡ f.hook
  pub entry_rank : o.entry_rank ≡ f.entry_rank
  pub code : o.code ≡ take (8 * f.slots) (drop 16 bytes)
  pub statements : AreSpelled (drop (16 + 8 * f.slots) bytes) f.slots f.statements o.statements

pub read_slots : (bytes : List ℕ) (f : HeaderFields) (o : ObjectParts) → IsReadOf bytes f o
    → length o.code ≡ 8 * f.slots
read_slots bytes f o h =
    let size = h.size in
    ap length h.code ∙ length-take (8 * f.slots) (drop 16 bytes)
    ∙ omega (arith, length-drop 16 bytes)

pub read_object : (bytes : List ℕ) (f : HeaderFields) (o : ObjectParts) → IsReadOf bytes f o
    → IsObject o
read_object bytes f o h =
    let long = read_slots bytes f o h in
    let slots : f.slots ≡ slots_of o = omega arith in
    let told = h.fields.slots_are in
    let some = h.fields.begins.some in
    let most = h.fields.begins.most in
    let P : ℕ → Type 0 = λ n. AreStatements 0 n o.statements in
    record {
      entry_rank = rw h.entry_rank h.fields.ranges.entry_rank;
      whole = omega arith;
      some = omega arith;
      most = omega arith;
      statements = subst P slots h.statements.are;
    }

pub read_spells : (bytes : List ℕ) (f : HeaderFields) (o : ObjectParts) → IsReadOf bytes f o
    → Spells bytes o
read_spells bytes f o h =
    let long = read_slots bytes f o h in
    let slots : slots_of o ≡ f.slots = omega arith in
    let version : 1 ≡ f.version = sym h.fields.version_is in
    let hook : hook_number o.hook ≡ f.hook = h.hook in
    let count : length o.statements ≡ f.statements = h.statements.count_is in
    let entry : o.entry_rank ≡ f.entry_rank = h.entry_rank in
    let made : ℕ → ℕ → ℕ → ℕ → ℕ → HeaderFields = λ a b c d e. record {
      version = a;
      hook = b;
      statements = c;
      entry_rank = d;
      slots = e;
    } in
    let fields : made 1 (hook_number o.hook) (length o.statements) o.entry_rank (slots_of o)
    ≡ made f.version f.hook f.statements f.entry_rank f.slots = cc in
    let rest : List ℕ = flat_map statement_text o.statements in
    let behind : drop 16 bytes ≡ o.code ++ rest =
    sym (take-append-drop (8 * f.slots) (drop 16 bytes))
    ∙ ap (λ t. t ++ drop (8 * f.slots) (drop 16 bytes)) (sym h.code)
    ∙ ap (λ t. o.code ++ t) (drop-drop (8 * f.slots) 16 bytes ∙ sym h.statements.text) in
    let head : take 12 (drop 4 bytes) ≡ header_bytes (fields_of_header o) =
    sym h.fields.bytes_are ∙ ap header_bytes (sym fields) in
    let front : drop 4 bytes ≡ header_bytes (fields_of_header o) ++ (o.code ++ rest) =
    sym (take-append-drop 12 (drop 4 bytes)) ∙ ap (λ t. t ++ drop 12 (drop 4 bytes)) head
    ∙ ap (λ t. header_bytes (fields_of_header o) ++ t) (drop-drop 12 4 bytes ∙ behind) in
    record {
      is_object = read_object bytes f o h;
      spelled = sym (take-append-drop 4 bytes)
          ∙ ap (λ t. t ++ drop 4 bytes) h.fields.begins.begins.begins.begins.magic_is
          ∙ ap (λ t. magic ++ t) front;
    }

pub statements_fail : (bytes rest : List ℕ) (f : HeaderFields) (hook : Hook) (error : ObjectError)
    → AreFieldsOf bytes f → hook_number hook ≡ f.hook
    → length bytes ≡ 16 + 8 * f.slots + 484 * f.statements
    → rest ≡ drop (16 + 8 * f.slots) bytes → StatementsFail rest f.slots f.statements error
    → Refuses bytes error
statements_fail bytes rest f hook error h hook_is size rest_is fails = at error fails
  where
    sized : HasSize bytes
    sized = has_size bytes f h size

    moved : (error : ObjectError) → FailsBehind rest f.slots f.statements error
        → FailsBehind (drop (16 + 8 * slots_in bytes) bytes) (slots_in bytes) (count_in bytes) error
    moved error b =
        let P : List ℕ → Type 0 = λ t. FailsBehind t f.slots f.statements error in
        let Q : ℕ → Type 0 = λ n. FailsBehind (drop (16 + 8 * n) bytes) n f.statements error in
        let R : ℕ → Type 0 = λ n. FailsBehind (drop (16 + 8 * slots_in bytes) bytes)
        (slots_in bytes) n error in
        subst R h.count_is (subst Q h.slots_are (subst P rest_is b))

    spelled : (ss : List StatementParts) × AreSpelled rest f.slots f.statements ss
        → (o : ObjectParts) × Spells bytes o
    spelled b =
        let P : List ℕ → Type 0 = λ t. AreSpelled t f.slots f.statements b.0 in
        let o : ObjectParts = record {
          hook = hook;
          entry_rank = f.entry_rank;
          code = take (8 * f.slots) (drop 16 bytes);
          statements = b.0;
        } in (
          o,
          read_spells bytes f o (record {
            fields = h;
            size = size;
            hook = hook_is;
            entry_rank = refl;
            code = refl;
            statements = subst P rest_is b.1;
          }),
        )

    at : (error : ObjectError) → StatementsFail rest f.slots f.statements error
        → Refuses bytes error
    at errors.Memory b = spelled b
    at errors.Order b = record { begins = sized; behind = moved errors.Order b }
    at errors.Field b = inr (record { begins = sized; behind = moved errors.Field b })
    at errors.Short b = absurd b.fails
    at errors.Magic b = absurd b.fails
    at errors.Version b = absurd b.fails
    at errors.Hook b = absurd b.fails
    at errors.Trailing b = absurd b.fails

pub only_one : (bytes : List ℕ) (r : Result ObjectParts ObjectError) → IfOk r (λ o. Spells bytes o)
    → IfErr r (λ e. Refuses bytes e) → (o : ObjectParts) → Spells bytes o
    → MatchResult r (λ found. found ≡ o) (λ e. e ≡ errors.Memory)
only_one bytes (Ok found) h g o s = same_object bytes found o h s
only_one bytes (Err e) h g o s = refused bytes o e s g

-- ---- what is written

pub written : (o : ObjectParts) (none front all : List ℕ) → IsObject o → none ≡ []
    → front ≡ none ++ (magic ++ header_bytes (fields_of_header o) ++ o.code)
    → all ≡ front ++ flat_map statement_text o.statements → Spells all o
written o none front all is n f a = record {
  is_object = is;
  spelled = a ∙ ap (λ t. t ++ flat_map statement_text o.statements)
      (f ∙ ap (λ t. t ++ (magic ++ header_bytes (fields_of_header o) ++ o.code)) n);
}

-- the parts as they were cut
pub read_of : (bytes : List ℕ) (f : HeaderFields) (o : ObjectParts) (count : ℕ)
    → AreFieldsOf bytes f × (hook_number o.hook ≡ f.hook) → count ≡ f.statements
    → 16 + 8 * f.slots + 484 * count ≤ length bytes
    → length bytes ≤ 16 + 8 * f.slots + 484 * count → o.entry_rank ≡ f.entry_rank
    → o.code ≡ take (16 + 8 * f.slots - 16) (drop 16 bytes)
    → AreSpelled (take (length bytes - (16 + 8 * f.slots))
    (drop (16 + 8 * f.slots) bytes)) f.slots count o.statements
    → IsReadOf bytes f o
read_of bytes f o count h count_is ge le entry code spelled =
    let long : 16 + 8 * f.slots - 16 ≡ 8 * f.slots = omega arith in
    let P : List ℕ → Type 0 = λ t. AreSpelled t f.slots count o.statements in
    let Q : ℕ → Type 0 = λ n. AreSpelled (drop (16 + 8 * f.slots) bytes) f.slots n o.statements in
    record {
      fields = h.0;
      size = omega arith;
      hook = h.1;
      entry_rank = entry;
      code = code ∙ ap (λ n. take n (drop 16 bytes)) long;
      statements = subst Q count_is (subst P (take_rest bytes (16 + 8 * f.slots)) spelled);
    }

pub cut_fails : (bytes : List ℕ) (f : HeaderFields) (hook : Hook) (count : ℕ) (error : ObjectError)
    → AreFieldsOf bytes f × (hook_number hook ≡ f.hook) → count ≡ f.statements
    → 16 + 8 * f.slots + 484 * count ≤ length bytes
    → length bytes ≤ 16 + 8 * f.slots + 484 * count
    → StatementsFail (take (length bytes - (16 + 8 * f.slots))
    (drop (16 + 8 * f.slots) bytes)) f.slots count error → Refuses bytes error
cut_fails bytes f hook count error h count_is ge le fails =
    let Q : ℕ → Type 0 = λ n. StatementsFail
    (take (length bytes - (16 + 8 * f.slots)) (drop (16 + 8 * f.slots) bytes)) f.slots n error
    in
    statements_fail bytes (take (length bytes - (16 + 8 * f.slots)) (drop (16 + 8 * f.slots) bytes))
    f hook error h.0 h.1 (omega arith) (take_rest bytes (16 + 8 * f.slots))
    (subst Q count_is fails)
