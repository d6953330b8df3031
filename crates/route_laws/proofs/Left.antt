-- Lemmas for the worked examples of unchanged copies.
use Rattle.std.proofs.Common.{◌≡◌, ◌≢◌, ◌⊎◌, inl, inr, refl, sym, ap, ◌∙◌, ℕ, ◌≤◌, ◌<◌, Bool, true}
use Rattle.std.proofs.Common.{false, cond, Option, None, Some, eqb-true, arith}
use Rattle.std.specs.Prelude.{◌==◌}
use mathlib.Core.Bool.{false≢true}
use Rattle.words.specs.declared.key.Key.{Key}
use Rattle.lsa.specs.declared.body.LsaBody.{LsaBody}
use Rattle.lsdb.specs.Copies.{DatabaseCopy, is_aged_out}
use Rattle.kept_routes.specs.Ages.{HasNotJustReachedMaxAge}
use Rattle.kept_routes.specs.Sameness.{IsLsaUnchanged}
use Rattle.route_laws.specs.WorkedCopies.{key, saying}

-- ---- one LSA

-- a copy that is below MaxAge now
pub young : (c : DatabaseCopy) → is_aged_out 110 c ≡ false → (n : DatabaseCopy) → Some c ≡ Some n
    → HasNotJustReachedMaxAge 100 110 n
young c is n same aged =
    let one : c ≡ n = cc in
    absurd (false≢true (sym is ∙ ap (is_aged_out 110) one ∙ aged))

-- one that had MaxAge before
pub old : (c : DatabaseCopy) → is_aged_out 100 c ≡ true → (n : DatabaseCopy) → Some c ≡ Some n
    → HasNotJustReachedMaxAge 100 110 n
old c is n same aged =
    let one : c ≡ n = cc in
    sym (ap (is_aged_out 100) one) ∙ is

pub neither : (A B : Type 0) → (A → ⊥) → (B → ⊥) → A ⊎ B → ⊥
neither A B no_a no_b (inl a) = no_a a
neither A B no_a no_b (inr b) = no_b b

-- there was none and there is none
pub nowhere : (was is : Option DatabaseCopy) → was ≡ None → is ≡ None
    → IsLsaUnchanged 100 110 was is
nowhere None None a b = record { same = tt; not_just_aged = λ c none. absurd (cc) }
nowhere (Some c) is a b = absurd (cc)
nowhere None (Some c) a b = absurd (cc)

-- one was added
pub came : (was is : Option DatabaseCopy) (c : DatabaseCopy) → was ≡ None → is ≡ Some c
    → IsLsaUnchanged 100 110 was is → ⊥
came None (Some d) c a b h = h.same
came None None c a b h = absurd (cc)
came (Some d) is c a b h = absurd (cc)

-- ---- types

pub none_some : (b : LsaBody) → None ≡ Some b → ⊥
none_some b is = absurd (cc)

pub some_none : (b : LsaBody) → Some b ≡ None → ⊥
some_none b is = absurd (cc)

pub some_some : (b c : LsaBody) → Some b ≡ Some c → b ≡ c
some_some b c is = cc

-- an LSA of another type says nothing
pub not_said : (ls_type : ℕ) (b : LsaBody) (k : Key) → k.ls_type ≢ ls_type
    → None ≡ saying ls_type b k
not_said ls_type b k other = by (k.ls_type == ls_type) refl
  where
    by : (is : Bool) → k.ls_type == ls_type ≡ is → None ≡ cond is (Some b) None
    by true is = absurd (other (eqb-true k.ls_type ls_type is))
    by false is = refl

-- a key of an earlier type is another one
pub before : (ls_type last : ℕ) (k : Key) → k.ls_type ≤ last → last < ls_type → k ≢ key ls_type
before ls_type last k low less same =
    let its : k.ls_type ≡ ls_type = ap (λ (x : Key). x.ls_type) same in
    omega (arith, low, less, its)
