-- What the fields of a header are, byte by byte.
use Rattle.std.proofs.Common.{◌≡◌, ℕ, ◌+◌, ◌≤◌, List, [], ◌∷◌, length, take}
use Rattle.std.proofs.Common.{drop, get_or, refl, sym, ap, ◌∙◌, ◌-◌, arith}
use Rattle.std.specs.Prelude.{slice_index}
use Rattle.std.specs.Int.{w16, w32, from_le_bytes}
use Rattle.std.proofs.lemmas.Nat.{from_le_bytes-to_le_bytes_2, from_le_bytes-to_le_bytes_4}
use Rattle.std.proofs.lemmas.List.{get_or-take, get_or-drop, drop-take, take-take, drop-drop}
use Rattle.object.specs.declared.fields.HeaderFields.{HeaderFields}
use Rattle.object.specs.Fields.{AreHeader}
use Rattle.isa.specs.declared.hook.Hook.{Hook}
use Rattle.isa.specs.Hooks.{hook_number}
use Rattle.object.specs.Spelling.{header_bytes, magic}
use Rattle.object.specs.Refusals.{AreFieldsOf, HasHook, count_in, slots_in}

pub first_four : (bytes : List ℕ) → 16 ≤ length bytes
    → take 4 bytes ≡ get_or bytes 0 0 ∷ get_or bytes 1 0 ∷ get_or bytes 2 0 ∷ get_or bytes 3 0 ∷ []
first_four (a ∷ b ∷ c ∷ d ∷ rest) le = refl
first_four other le = absurd (omega arith)

pub record AreTold (bytes : List ℕ) (f : HeaderFields) : Type 0 where
  pub version : f.version ≡ slice_index bytes 4
  pub hook : f.hook ≡ slice_index bytes 5
  pub count : f.statements ≡ count_in bytes
  pub slots : f.slots ≡ slots_in bytes

within : (n k : ℕ) (bytes : List ℕ) → n + k ≤ 12
    → take k (drop n (take 12 (drop 4 bytes))) ≡ take k (drop (4 + n) bytes)
within n k bytes le =
    let m : ℕ = 12 - n in
    let whole : 12 ≡ n + m = omega arith in
    ap (λ j. take k (drop n (take j (drop 4 bytes)))) whole
    ∙ ap (λ t. take k t) (drop-take n m (drop 4 bytes))
    ∙ take-take k m (drop n (drop 4 bytes)) (omega arith)
    ∙ ap (λ t. take k t) (drop-drop n 4 bytes)

pub told : (bytes : List ℕ) (f : HeaderFields) → AreHeader f
    → header_bytes f ≡ take 12 (drop 4 bytes) → AreTold bytes f
told bytes f small e = record {
  version = ap (λ t. get_or t 0 0) e ∙ get_or-take 12 (drop 4 bytes) 0 0 (omega arith)
      ∙ get_or-drop 4 bytes 0 0;
  hook = ap (λ t. get_or t 1 0) e ∙ get_or-take 12 (drop 4 bytes) 1 0 (omega arith)
      ∙ get_or-drop 4 bytes 1 0;
  count = sym (from_le_bytes-to_le_bytes_2 f.statements small.statements)
      ∙ ap (λ t. from_le_bytes w16 (take 2 (drop 2 t))) e
      ∙ ap (λ t. from_le_bytes w16 t) (within 2 2 bytes (omega arith));
  slots = sym (from_le_bytes-to_le_bytes_4 f.slots small.slots)
      ∙ ap (λ t. from_le_bytes w32 (take 4 (drop 8 t))) e
      ∙ ap (λ t. from_le_bytes w32 t) (within 8 4 bytes (omega arith));
}

pub has_hook : (bytes : List ℕ) (f : HeaderFields) (hook : Hook) → 16 ≤ length bytes
    → take 4 bytes ≡ magic → AreHeader f → header_bytes f ≡ take 12 (drop 4 bytes) → f.version ≡ 1
    → hook_number hook ≡ f.hook → HasHook bytes
has_hook bytes f hook long magic_is small e version found =
    let t = told bytes f small e in
    record {
      begins = record {
        begins = record { long = long; magic_is = magic_is };
        version_is = sym t.version ∙ version;
      };
      hook = hook;
      hook_is = found ∙ t.hook;
    }

pub has_fields : (bytes : List ℕ) (f : HeaderFields) → HasHook bytes → AreHeader f
    → header_bytes f ≡ take 12 (drop 4 bytes) → f.version ≡ 1 → (f.slots ≡ 0 → ⊥) → f.slots ≤ 4096
    → AreFieldsOf bytes f
has_fields bytes f begins small e version some most =
    let t = told bytes f small e in
    let slots = t.slots in
    record {
      begins = record {
        begins = begins;
        some = rw (← slots) (omega (arith, some));
        most = rw (← slots) most;
      };
      bytes_are = e;
      version_is = version;
      count_is = t.count;
      slots_are = t.slots;
      ranges = small;
    }
