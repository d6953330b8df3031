-- Ages and ranks: what is at least as new stays so while both age.
use Rattle.std.proofs.Common.{◌≡◌, ℕ, ◌≤◌, ◌<◌, Bool, true, false, not, ◌&&◌, refl, sym, ap, ◌∙◌}
use Rattle.std.proofs.Common.{arith}
use Rattle.std.specs.Prelude.{nat_lt}
use Rattle.std.specs.declared.cmp.Ordering.{Ordering}
use Rattle.std.specs.declared.cmp.Ordering.TheVariants.{Less, Equal, Greater}
use Rattle.std.specs.Ordering.{bool_cmp, int_cmp, is_ge, nat_cmp, ordering_then}
use Rattle.std.proofs.lemmas.Bool.{eq-eqb, eqb-true, ltb-false, ltb-true}
use Rattle.lsdb.specs.Copies.{DatabaseCopy, age_now, copy_header, copy_now, has_just_aged_out}
use Rattle.lsdb.specs.Copies.{is_aged_out}
use Rattle.lsdb.specs.Headers.{Header}
use Rattle.lsdb.specs.Instances.{ListEntry, listed_header_now, instance_of, listed_now}
use Rattle.lsdb.specs.Order.{age_at, is_max_age}
use Rattle.lsdb.specs.declared.order.Instance.{Instance}
use Rattle.agreement_laws.specs.Ranks.{is_at_least}
use Rattle.agreement_laws.proofs.Ranks.{itself_at_least}

-- ---- ages

-- at its own moment an age is unchanged
pub age_at_once : (age moment : ℕ) → age ≤ 3600 → age_at age moment moment ≡ age
age_at_once age moment most = omega (arith, most)

-- what was aged to a moment has that age there
pub age_twice : (age at moment : ℕ) → age_at (age_at age at moment) moment moment
    ≡ age_at age at moment
age_twice age at moment = omega arith

still_max : (age at now : ℕ) → age ≡ 3600 → age_at age at now ≡ 3600
still_max age at now is = omega (arith, is)

later_max : (age at before now : ℕ) → before ≤ now → age_at age at before ≡ 3600 → age_at age at now
    ≡ 3600
later_max age at before now later is = omega (arith, later, is)

-- MaxAge stays MaxAge
pub max_age_stays : (age at now : ℕ) → is_max_age age ≡ true → is_max_age (age_at age at now) ≡ true
max_age_stays age at now is = eq-eqb (age_at age at now) 3600
    (still_max age at now (eqb-true age 3600 is))

pub max_age_later : (age at before now : ℕ) → before ≤ now → is_max_age (age_at age at before)
    ≡ true → is_max_age (age_at age at now) ≡ true
max_age_later age at before now later is =
    eq-eqb (age_at age at now) 3600 (later_max age at before now later
    (eqb-true (age_at age at before) 3600 is))

-- ---- ranks

by_max_age : (r s : Ordering) (p q p' q' : Bool) → (p ≡ true → p' ≡ true) → (q' ≡ true → q ≡ true)
    → is_ge (ordering_then r (ordering_then s (bool_cmp p q))) ≡ true
    → is_ge (ordering_then r (ordering_then s (bool_cmp p' q'))) ≡ true
by_max_age Less s p q p' q' more less e = absurd cc
by_max_age Greater s p q p' q' more less e = refl
by_max_age Equal Less p q p' q' more less e = absurd cc
by_max_age Equal Greater p q p' q' more less e = refl
by_max_age Equal Equal p q true true more less e = refl
by_max_age Equal Equal p q true false more less e = refl
by_max_age Equal Equal p q false false more less e = refl
by_max_age Equal Equal true q false true more less e = let no : false ≡ true = more refl in
    absurd cc
by_max_age Equal Equal false true false true more less e = absurd cc
by_max_age Equal Equal false false false true more less e = let no : false ≡ true = less refl in
    absurd cc

-- at least as new as before, if the one side stays at MaxAge and the other doesn't reach it
pub still_at_least : (a b : Instance) (age other : ℕ)
    → (is_max_age a.age ≡ true → is_max_age age ≡ true)
    → (is_max_age other ≡ true → is_max_age b.age ≡ true)
    → is_at_least a b ≡ true → is_at_least (record a {
      age = age;
    }) (record b { age = other }) ≡ true
still_at_least a b age other more less e =
    by_max_age (int_cmp a.sequence b.sequence) (nat_cmp a.checksum b.checksum) (is_max_age a.age)
    (is_max_age b.age) (is_max_age age) (is_max_age other) more less e

-- a header with its present age, as an entry of this moment
pub noted_at_least : (h : Header) (moment : ℕ) (b : Instance) → is_at_least (instance_of h) b ≡ true
    → is_at_least (listed_now moment (record { header = h; at = moment })) b ≡ true
noted_at_least h moment b e = still_at_least (instance_of h) b (age_at h.age moment moment) b.age
    (max_age_stays h.age moment moment) (λ is. is) e

-- an entry that is described has its present age
pub described_at_least : (l : ListEntry) (moment : ℕ) (b : Instance)
    → is_at_least (listed_now moment l) b ≡ true
    → is_at_least (listed_now moment (record {
      header = record l.header { age = age_at l.header.age l.at moment };
      at = moment;
    })) b ≡ true
described_at_least l moment b e =
    still_at_least (listed_now moment l) b (age_at (age_at l.header.age l.at moment) moment moment)
    b.age (max_age_stays (age_at l.header.age l.at moment) moment moment) (λ is. is) e

-- a copy that hasn't just reached MaxAge
not_just : (a b : Bool) → (a && not b) ≡ false → a ≡ true → b ≡ true
not_just true true e is = refl
not_just true false e is = absurd cc
not_just false b e is = absurd cc

-- what was at least as new as a copy at the earlier moment still is, unless the copy has reached
-- MaxAge since
pub aged_at_least : (l : ListEntry) (c : DatabaseCopy) (before now : ℕ) → before ≤ now
    → has_just_aged_out before now c ≡ false → is_at_least (listed_now before l) (copy_now before c)
    ≡ true → is_at_least (listed_now now l) (copy_now now c) ≡ true
aged_at_least l c before now later young e =
    still_at_least (listed_now before l) (copy_now before c) (age_at l.header.age l.at now)
    (age_now now c)
    (max_age_later l.header.age l.at before now later)
    (not_just (is_aged_out now c) (is_aged_out before c) young) e

-- an entry that is the same as the copy since its moment is at least as new as the copy at any
-- moment
pub entry_at_least : (l : ListEntry) (c : DatabaseCopy) (now : ℕ)
    → ((moment : ℕ) → l.at ≤ moment → listed_header_now moment l ≡ copy_header moment c)
    → is_at_least (listed_now now l) (copy_now now c) ≡ true
entry_at_least l c now same = by_moment (nat_lt now l.at) refl
  where
    itself : (moment : ℕ) → l.at ≤ moment → is_at_least (listed_now moment l) (copy_now moment c)
        ≡ true
    itself moment later = ap (λ (h : Header). is_at_least (instance_of h) (copy_now moment c))
        (same moment later) ∙ itself_at_least (copy_now moment c)

    no_older : (age at moment : ℕ) → moment < at → age_at age at at ≡ age_at age at moment
    no_older age at moment before = omega (arith, before)

    by_moment : (b : Bool) → nat_lt now l.at ≡ b → is_at_least (listed_now now l) (copy_now now c)
        ≡ true
    by_moment false e = itself now (ltb-false now l.at e)
    by_moment true e =
        let before : now < l.at = ltb-true now l.at e in
        let now_before : now ≤ l.at = omega (arith, before) in
        let at_once : l.at ≤ l.at = omega arith in
        still_at_least (listed_now l.at l) (copy_now l.at c) (age_at l.header.age l.at now)
        (age_now now c)
        (λ is. ap is_max_age (sym (no_older l.header.age l.at now before)) ∙ is)
        (max_age_later c.lsa.header.age c.stored now l.at now_before) (itself l.at at_once)
