-- The copy that was just installed, and one that was just set to MaxAge.
use Rattle.std.proofs.Common.{◌≡◌, ℕ, ◌+◌, ◌-◌, ◌≤◌, cond, min, refl, sym, ap, ◌∙◌, arith}
use Rattle.std.specs.Prelude.{Option, None, Some}
use Rattle.std.specs.Ordering.{is_eq}
use Rattle.std.specs.declared.cmp.Ordering.{Ordering}
use Rattle.std.specs.Cmp.{tied_itself}
use Rattle.std.specs.FinMap as finite
use Rattle.words.specs.declared.key.Key.{Key}
use Rattle.lsdb.specs.Copies.{Database, DatabaseCopy, age_prematurely, lsa_now, put_copy}
use Rattle.lsdb.specs.Headers.{Lsa, lsa_with_age, lsa_key}
use Rattle.lsdb.proofs.Copies.{ages, ages_none}
use Rattle.lsdb.proofs.Keys.{keys_total}
use Rattle.received.specs.Flooding.{flood}
use Rattle.received.specs.Links.{Area}
use Rattle.area.specs.Links.{age_outcome, age_copy, flooded_copy, flooded_key, with_no_sends}

found : (d : Database) (k : Key) (c : DatabaseCopy) → finite.get (finite.insert d k c) k ≡ Some c
found d k c = finite.get-insert keys_total d k c k
    ∙ ap (λ (r : Ordering). cond (is_eq r) (Some c) (finite.get d k)) (tied_itself keys_total k)

pub just_installed : (moment : ℕ) (l : Lsa) (by : Option ℕ) (d : Database)
    → finite.get (put_copy moment l by d) (lsa_key l) ≡ Some (record {
      lsa = l;
      stored = moment;
      received = by;
      sent = None;
    })
just_installed moment l by d = found d (lsa_key l) (record {
  lsa = l;
  stored = moment;
  received = by;
  sent = None;
})

-- at the moment of its installation its age is that of the received LSA
pub at_once : (moment : ℕ) (l : Lsa) (by : Option ℕ) → l.header.age ≤ 3600
    → lsa_now moment (record { lsa = l; stored = moment; received = by; sent = None }) ≡ l
at_once moment l by most =
    let age : min 3600 (l.header.age + (moment - moment)) ≡ l.header.age = omega (arith, most) in
    ap (λ a. lsa_with_age a l) age

-- a copy that is set to MaxAge at the moment
abbrev pub aged : ℕ → DatabaseCopy → DatabaseCopy
aged moment c = record c { lsa = lsa_with_age 3600 c.lsa; stored = moment }

pub aged_out : (moment : ℕ) (k : Key) (d : Database) (c : DatabaseCopy) → finite.get d k ≡ Some c
    → finite.get (age_prematurely moment k d) k ≡ Some (aged moment c)
aged_out moment k d c there =
    ap (λ e. finite.get e k) (sym (ages moment k d c there)) ∙ found d k (aged moment c)

pub aged_now : (moment : ℕ) (c : DatabaseCopy)
    → lsa_now moment (aged moment c) ≡ lsa_with_age 3600 c.lsa
aged_now moment c =
    let age : min 3600 (3600 + (moment - moment)) ≡ 3600 = omega arith in
    ap (λ a. lsa_with_age a c.lsa) age

-- the copy of a key that was just set to MaxAge is flooded
aged_by : (moment : ℕ) (k : Key) (a : Area) (o : Option DatabaseCopy)
    → finite.get a.database k ≡ o
    → flooded_key moment None k (record a { database = age_prematurely moment k a.database })
    ≡ age_copy moment k o (with_no_sends a)
aged_by moment k a None is =
    ap (λ (d : Database). flooded_key moment None k (record a { database = d }))
    (sym (ages_none moment k a.database is))
    ∙ ap (λ q. flooded_copy moment None q (with_no_sends a)) is
aged_by moment k a (Some c) is =
    let after : Area = record a { database = age_prematurely moment k a.database } in
    ap (λ q. flooded_copy moment None q (with_no_sends after)) (aged_out moment k a.database c is)
    ∙ ap (λ l. flood moment None l (with_no_sends after)) (aged_now moment c)

pub aged_is : (moment : ℕ) (k : Key) (a : Area)
    → flooded_key moment None k (record a { database = age_prematurely moment k a.database })
    ≡ age_outcome moment k a
aged_is moment k a = aged_by moment k a (finite.get a.database k) refl
