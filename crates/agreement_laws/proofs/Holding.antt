-- What is held as new as an instance stays held as new, until it leaves the database at MaxAge.
use Rattle.std.proofs.Common.{◌≡◌, ℕ, ℤ, Bool, true, false, cond, not, ◌||◌, ◌⊎◌, inl, inr, List}
use Rattle.std.proofs.Common.{Option, None, Some, refl, sym, ap, subst, ◌∙◌, arith}
use Rattle.std.specs.Prelude.{pos, ◌+ℤ◌, ◌<ℤ◌}
use Rattle.std.specs.declared.cmp.Ordering.{Ordering}
use Rattle.std.specs.declared.cmp.Ordering.TheVariants.{Less, Equal, Greater}
use Rattle.std.specs.FinMap as finite
use Rattle.std.specs.List.{fold}
use Rattle.std.specs.Ordering.{MatchOrdering, bool_cmp, int_cmp, is_ge, nat_cmp, ordering_then}
use Rattle.std.proofs.lemmas.Bool.{eq-eqb}
use Rattle.std.proofs.lemmas.Cmp.{int_ranked}
use Rattle.std.proofs.lemmas.Int.{ints}
use Rattle.words.specs.declared.key.Key.{Key}
use Rattle.lsa.specs.Origination.{sealed_lsa}
use Rattle.lsa.specs.declared.body.LsaBody.{LsaBody}
use Rattle.lsdb.specs.Copies.{Database, DatabaseCopy, age_now, age_prematurely, copy_now}
use Rattle.lsdb.specs.Copies.{install_flooded}
use Rattle.lsdb.specs.Copies.{install_originated, is_aged_out, newer_than_copy}
use Rattle.lsdb.specs.Headers.{Lsa, lsa_key}
use Rattle.lsdb.specs.Instances.{ListEntry, instance_of, listed_now}
use Rattle.lsdb.specs.Keys.{same_key}
use Rattle.lsdb.specs.Order.{age_at, is_max_age}
use Rattle.lsdb.specs.declared.order.Instance.{Instance}
use Rattle.lsdb.proofs.Keys.{keys_exact}
use Rattle.received.specs.Links.{Area, any_has_retransmission}
use Rattle.received.specs.AreaStates.{Send, marked_database}
use Rattle.received.proofs.Marks.{mark_all}
use Rattle.event_rules.specs.Endings.{stays, stays_as}
use Rattle.event_rules.specs.Originations.{new_instance, next_sequence}
use Rattle.event_rules.specs.Routers.{Occurrence, Router}
use Rattle.invariants.proofs.Limits.{tied_key}
use Rattle.invariants.proofs.Owing.{put_other, put_same}
use Rattle.agreement_laws.specs.CopiesClimb.{BecameOf, HasHad}
use Rattle.agreement_laws.specs.Ranks.{RanksFollowTheComparison, is_at_least}
use Rattle.agreement_laws.proofs.Lists.{some_same}
use Rattle.agreement_laws.proofs.Ages.{max_age_stays, still_at_least}
use Rattle.agreement_laws.proofs.Databases.{aged_out, flushed_copy, installed_copy, originated_copy}
use Rattle.agreement_laws.proofs.Ranks.{at_least_on, itself_at_least}

-- ---- the next number is larger

greater_by : (x : ℤ) (o : Ordering)
    → MatchOrdering o ((x +ℤ pos 1) <ℤ x) ((x +ℤ pos 1) ≡ x) (x <ℤ (x +ℤ pos 1)) → o ≡ Greater
greater_by x Less h = absurd (omega (arith, ints, h))
greater_by x Equal h = absurd (omega (arith, ints, h))
greater_by x Greater h = refl

next_greater : (x : ℤ) → int_cmp (x +ℤ pos 1) x ≡ Greater
next_greater x = greater_by x (int_cmp (x +ℤ pos 1) x)
    (int_ranked (x +ℤ pos 1) x (int_cmp (x +ℤ pos 1) x) refl)

originated_sequence : (key : Key) (c : Option DatabaseCopy) (says : LsaBody)
    → (new_instance key c says).header.sequence ≡ next_sequence c
unfolding sealed_lsa
originated_sequence key c says = refl

-- ---- ranks

-- an entry is as new as its header
pub entry_as_new : (l : ListEntry) (now : ℕ) → is_at_least (listed_now now l) (instance_of l.header)
    ≡ true
entry_as_new l now =
    still_at_least (instance_of l.header) (instance_of l.header) (age_at l.header.age l.at now)
    l.header.age (max_age_stays l.header.age l.at now) (λ is. is)
    (itself_at_least (instance_of l.header))

module _ (ranks : RanksFollowTheComparison) where
  -- what is as new as the one became so of the other
  pub became_less : (old : Router) (moment : ℕ) (event : Occurrence) (a b : Instance) (key : Key)
      (new : Router) → is_at_least a b ≡ true → BecameOf old moment event a key new
      → BecameOf old moment event b key new
  became_less old moment event a b key new less (BecameOf.IsHeld copy there as_new) =
      BecameOf.IsHeld copy there (at_least_on ranks.total (copy_now moment copy) a b as_new less)
  became_less old moment event a b key new less (BecameOf.IsGone last had as_new aged none off) =
      BecameOf.IsGone last had (at_least_on ranks.total last a b as_new less) aged none off

  -- ---- one key

  module _ (key : Key) (moment : ℕ) (first : Instance) where
    -- what is held is as new
    abbrev pub IsHeldAsNew : Database → Type 0
    IsHeldAsNew db = (c : DatabaseCopy) × (finite.get db key ≡ Some c)
        × (is_at_least (copy_now moment c) first ≡ true)

    pub held_sent : (more : List Send) (db : Database) → IsHeldAsNew db
        → IsHeldAsNew (fold (λ (d : Database) (s : Send). marked_database moment d s.content) db
        more)
    held_sent more db h =
        let s = mark_all moment more key h.0 db h.1 in
        (record h.0 { sent = s.0 }, s.1, h.2)

    -- another key's copy is put there
    pub held_other : (k : Key) (c : DatabaseCopy) (db : Database) → same_key key k ≡ false
        → IsHeldAsNew db → IsHeldAsNew (finite.insert db k c)
    held_other k c db away h = (h.0, put_other db k key c away ∙ h.1, h.2)

    -- this key's, which is as new
    pub held_same : (k : Key) (c : DatabaseCopy) (db : Database) → same_key key k ≡ true
        → is_at_least (copy_now moment c) first ≡ true → IsHeldAsNew (finite.insert db k c)
    held_same k c db here new = (c, put_same db k key c here, new)

    -- if a copy is there, it is the one
    of_copy : (db : Database) (k : Key) (c : DatabaseCopy) → key ≡ k → finite.get db k ≡ Some c
        → IsHeldAsNew db → is_at_least (copy_now moment c) first ≡ true
    of_copy db k c same at h =
        let it : h.0 ≡ c = some_same (sym h.1
        ∙ subst (λ (q : Key). finite.get db q ≡ Some c) (sym same) at) in
        subst (λ (x : DatabaseCopy). is_at_least (copy_now moment x) first ≡ true) it h.2

    max_age : is_max_age (age_at 3600 moment moment) ≡ true
    max_age = let e : age_at 3600 moment moment ≡ 3600 = omega arith in
        eq-eqb (age_at 3600 moment moment) 3600 e

    pub held_flushed : (k : Key) (c : DatabaseCopy) (db : Database) → finite.get db k ≡ Some c
        → IsHeldAsNew db → IsHeldAsNew (age_prematurely moment k db)
    held_flushed k c db at h =
        subst IsHeldAsNew (sym (aged_out moment k c db at)) (by_key (same_key key k) refl)
      where
        by_key : (b : Bool) → same_key key k ≡ b
            → IsHeldAsNew (finite.insert db k (flushed_copy moment c))
        by_key true here =
            held_same k (flushed_copy moment c) db here
            (at_least_on ranks.total (copy_now moment (flushed_copy moment c)) (copy_now moment c)
            first
            (still_at_least (copy_now moment c) (copy_now moment c) (age_at 3600 moment moment)
            (age_now moment c) (λ is. max_age) (λ is. is) (itself_at_least (copy_now moment c)))
            (of_copy db k c (tied_key key k here) at h))
        by_key false away = held_other k (flushed_copy moment c) db away h

    -- a new instance is one past the number of the copy
    next_at_least : (lsa : Lsa) (c : DatabaseCopy) → lsa.header.sequence
        ≡ (c.lsa.header.sequence +ℤ pos 1)
        → is_at_least (copy_now moment (originated_copy moment lsa)) (copy_now moment c) ≡ true
    next_at_least lsa c is =
        (λ j. is_ge (ordering_then (larger j)
        (ordering_then (nat_cmp lsa.header.checksum c.lsa.header.checksum)
        (bool_cmp (is_max_age (age_at lsa.header.age moment moment))
        (is_max_age (age_now moment c))))))
      where
        larger : int_cmp lsa.header.sequence c.lsa.header.sequence ≡ Greater
        larger = ap (λ (s : ℤ). int_cmp s c.lsa.header.sequence) is
            ∙ next_greater c.lsa.header.sequence

    pub held_originated : (k : Key) (says : LsaBody) (db : Database)
        → lsa_key (new_instance k (finite.get db k) says) ≡ k → IsHeldAsNew db
        → IsHeldAsNew (install_originated moment (new_instance k (finite.get db k) says) db)
    held_originated k says db its_key h = by_key (same_key key (lsa_key lsa)) refl
      where
        lsa : Lsa
        lsa = new_instance k (finite.get db k) says

        copy : DatabaseCopy
        copy = originated_copy moment lsa

        by_copy : key ≡ k → (c : Option DatabaseCopy) → finite.get db k ≡ c
            → is_at_least (copy_now moment copy) first ≡ true
        by_copy here None at =
            let no : None ≡ Some h.0 = sym (ap (finite.get db) here ∙ at) ∙ h.1 in absurd cc
        by_copy here (Some c) at =
            at_least_on ranks.total (copy_now moment copy) (copy_now moment c) first
            (next_at_least lsa c (originated_sequence k (finite.get db k) says
            ∙ ap (λ (x : Option DatabaseCopy). next_sequence x) at))
            (of_copy db k c here at h)

        by_key : (b : Bool) → same_key key (lsa_key lsa) ≡ b
            → IsHeldAsNew (finite.insert db (lsa_key lsa) copy)
        by_key true here = held_same (lsa_key lsa) copy db here
            (by_copy (tied_key key (lsa_key lsa) here ∙ its_key) (finite.get db k) refl)
        by_key false away = held_other (lsa_key lsa) copy db away h

    -- a copy that is stored now is as new as its LSA
    pub stored_at_least : (lsa : Lsa) (c : DatabaseCopy) → c.lsa ≡ lsa
        → is_at_least (copy_now moment c) (instance_of lsa.header) ≡ true
    stored_at_least lsa c is =
        subst (λ (l : Lsa). is_at_least (copy_now moment c) (instance_of l.header) ≡ true) is
        (entry_as_new (record { header = c.lsa.header; at = c.stored }) moment)

    pub held_installed : (lsa : Lsa) (db : Database)
        → newer_than_copy moment lsa.header (finite.get db (lsa_key lsa)) ≡ true → IsHeldAsNew db
        → IsHeldAsNew (install_flooded moment lsa db)
    held_installed lsa db is h = by_key (same_key key (lsa_key lsa)) refl
      where
        copy : DatabaseCopy
        copy = installed_copy moment lsa

        by_copy : key ≡ lsa_key lsa → (c : Option DatabaseCopy) → finite.get db (lsa_key lsa) ≡ c
            → newer_than_copy moment lsa.header c ≡ true → is_at_least (copy_now moment copy) first
            ≡ true
        by_copy here None at new =
            let no : None ≡ Some h.0 = sym (ap (finite.get db) here ∙ at) ∙ h.1 in absurd cc
        by_copy here (Some c) at new =
            at_least_on ranks.total (copy_now moment copy) (instance_of lsa.header) first
            (stored_at_least lsa copy refl)
            (at_least_on ranks.total (instance_of lsa.header) (copy_now moment c) first
            (ranks.newer (instance_of lsa.header) (copy_now moment c) new)
            (of_copy db (lsa_key lsa) c here at h))

        by_key : (b : Bool) → same_key key (lsa_key lsa) ≡ b
            → IsHeldAsNew (finite.insert db (lsa_key lsa) copy)
        by_key true here = held_same (lsa_key lsa) copy db here
            (by_copy (tied_key key (lsa_key lsa) here) (finite.get db (lsa_key lsa)) refl is)
        by_key false away = held_other (lsa_key lsa) copy db away h

    -- ---- the end

    -- an area's database and links, as they are at the end of an event
    abbrev pub HasEnded : (Instance → Type 0) → Area → Type 0
    HasEnded Had a =
        IsHeldAsNew a.database
        ⊎ ((i : Instance) × Had i × (is_at_least i first ≡ true) × (is_max_age i.age ≡ true)
        × (finite.get a.database key ≡ None) × (any_has_retransmission key a.links ≡ false))

    pub held_removed : (Had : Instance → Type 0) (a : Area)
        → ((c : DatabaseCopy) → finite.get a.database key ≡ Some c → Had (copy_now moment c))
        → IsHeldAsNew a.database
        → HasEnded Had (record a { database = finite.retain_keys a.database (stays moment a) })
    held_removed Had a why h = by_test (stays moment a key) refl
      where
        goes : (p q : Bool) → (not p || q) ≡ false → (p ≡ true) × (q ≡ false)
        goes true false e = (refl, e)
        goes true true e = absurd cc
        goes false q e = absurd cc

        left : (b : Bool) → stays moment a key ≡ b
            → finite.get (finite.retain_keys a.database (stays moment a)) key
            ≡ cond b (finite.get a.database key) None
        left b is =
            finite.get-retain_keys a.database (stays moment a) key
            (λ y e. ap (stays moment a) (sym (keys_exact key y e)))
            ∙ ap (λ p. cond p (finite.get a.database key) None) is

        by_test : (b : Bool) → stays moment a key ≡ b → HasEnded Had (record a {
          database = finite.retain_keys a.database (stays moment a);
        })
        by_test true is = inl (h.0, left true is ∙ h.1, h.2)
        by_test false is =
            let both = goes (is_aged_out moment h.0) (any_has_retransmission key a.links)
            (sym (ap (stays_as moment (any_has_retransmission key a.links)) h.1) ∙ is) in
            inr (copy_now moment h.0, why h.0 h.1, h.2, both.0, left false is, both.1)

    pub in_words : (old : Router) (event : Occurrence) (new : Router)
        → HasEnded (HasHad old event key) new.area → BecameOf old moment event first key new
    in_words old event new (inl h) = BecameOf.IsHeld h.0 h.1 h.2
    in_words old event new (inr h) = BecameOf.IsGone h.0 h.1 h.2 h.3 h.4 h.5
