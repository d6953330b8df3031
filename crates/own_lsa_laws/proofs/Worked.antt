-- The worked routers that speak for themselves, and those that don't.
use Rattle.std.proofs.Common.{◌≡◌, ℕ, ◌+◌, ◌<◌, Bool, true, false, cond, ◌⊎◌, inl, inr, [], Option}
use Rattle.std.proofs.Common.{None, Some, refl, sym, ap, subst, ◌∙◌, arith, true≢false}
use Rattle.std.specs.FinMap as finite
use Rattle.std.specs.FinSet as set
use Rattle.std.proofs.lemmas.Bool.{both_ways}
use Rattle.words.specs.declared.key.Key.{Key}
use Rattle.lsa.specs.declared.body.LsaBody.{LsaBody}
use Rattle.lsdb.specs.Copies.{Database, DatabaseCopy, is_aged_out}
use Rattle.lsdb.specs.Headers.{Lsa, lsa_with_age}
use Rattle.lsdb.specs.Keys.{ByKey, key_cmp, same_key}
use Rattle.lsdb.proofs.Keys.{keys_total}
use Rattle.event_rules.specs.Endings.{same_body}
use Rattle.event_rules.specs.EventState.{EventState, on_area}
use Rattle.event_rules.specs.Originations.{announced_body, flush, flush_copy, router_body}
use Rattle.event_rules.specs.Originations.{router_key, wanted_body}
use Rattle.event_rules.specs.Routers.{Router}
use Rattle.invariants.proofs.Limits.{tied_key, body_or}
use Rattle.own_lsa_laws.specs.OwnCopies.{IsHeldBack, IsSelfOriginated, IsToBeReplaced}
use Rattle.own_lsa_laws.specs.OwnCopies.{HasWantedBody}
use Rattle.own_lsa_laws.specs.OwnCopies.{SpeaksForItself, SpeaksForItselfAfterTick}
use Rattle.own_lsa_laws.specs.Worked.{WorkedOwnCopies, holding, other_links, unwanted, unwanted_key}
use Rattle.own_lsa_laws.specs.Worked.{waiting_at}
use Rattle.own_lsa_laws.proofs.Parts.{at_same, originated_now, waits_there, time_or}
use Rattle.own_lsa_laws.proofs.Standing.{same_itself}

-- ---- a database with one copy

abbrev copied : ℕ → Lsa → DatabaseCopy
copied moment lsa = record { lsa = lsa; stored = moment; received = Some 20; sent = None }

abbrev no_copies : Database
no_copies = finite.empty

abbrev one_copy : Key → DatabaseCopy → Database
one_copy key c = finite.insert no_copies key c

only : (key : Key) (c : DatabaseCopy) → finite.get (one_copy key c) key ≡ Some c
only key c = finite.get-insert keys_total no_copies key c key
    ∙ at_same (same_key key key) (Some c) (finite.get no_copies key) (same_itself key)

abbrev copy_or : DatabaseCopy → Option DatabaseCopy → DatabaseCopy
copy_or other None = other
copy_or other (Some c) = c

-- each copy of that database is this one
is_only : (P : Key → DatabaseCopy → Type 0) (key : Key) (c : DatabaseCopy) → P key c
    → (q : Key) (d : DatabaseCopy) → finite.get (one_copy key c) q ≡ Some d → P q d
is_only P key c here q d there = by_key (same_key q key) refl
    (sym (finite.get-insert keys_total no_copies key c q) ∙ there)
  where
    by_key : (b : Bool) → same_key q key ≡ b → cond b (Some c) (finite.get no_copies q) ≡ Some d
        → P q d
    by_key true same found =
        subst (λ (k : Key). P k d) (sym (tied_key q key same))
        (subst (P key) (ap (copy_or c) found) here)
    by_key false other found = let nothing : None ≡ Some d = sym (finite.get-empty key_cmp q)
        ∙ found in absurd cc

-- ---- an unwanted LSA

wants_none : wanted_body (holding unwanted_key unwanted) unwanted_key ≡ None
wants_none = ap announced_body (finite.get-empty key_cmp unwanted_key)

none_some : (o : Option LsaBody) (says : LsaBody) → o ≡ None → o ≡ Some says → ⊥
none_some o says none some = let e : None ≡ Some says = sym none ∙ some in absurd cc

left_alone : SpeaksForItself (holding unwanted_key unwanted) → ⊥
left_alone speaks = by_case (speaks unwanted_key (copied 20 unwanted) (record {
  there = only unwanted_key (copied 20 unwanted);
  own = refl;
  young = refl;
}))
  where
    by_case : HasWantedBody (holding unwanted_key unwanted) unwanted_key (copied 20 unwanted)
        ⊎ IsToBeReplaced (holding unwanted_key unwanted) unwanted_key → ⊥
    by_case (inl says) = none_some _ says.says wants_none says.wanted
    by_case (inr waits) = none_some _ waits.says wants_none waits.wanted

abbrev its : EventState
its = record { router = holding unwanted_key unwanted; sends = [] }

abbrev flushed_by : Option DatabaseCopy → Router
flushed_by o = (on_area (flush_copy 20 unwanted_key o) its).router

-- as a copy of the database
abbrev aged_by : Option DatabaseCopy → ByKey DatabaseCopy
aged_by None = its.router.area.database
aged_by (Some c) = finite.insert its.router.area.database unwanted_key (record c {
  lsa = lsa_with_age 3600 c.lsa;
  stored = 20;
})

found_aged : (o : Option DatabaseCopy) → o ≡ Some (copied 20 unwanted)
    → (q : Key) (d : DatabaseCopy) → finite.get (aged_by o) q ≡ Some d → is_aged_out 20 d ≡ true
found_aged None is q d there = absurd cc
found_aged (Some c) is q d there =
    by_key (same_key q unwanted_key) refl
    (sym (finite.get-insert keys_total its.router.area.database unwanted_key (aged c) q)
    ∙ there)
  where
    aged : DatabaseCopy → DatabaseCopy
    aged e = record e { lsa = lsa_with_age 3600 e.lsa; stored = 20 }

    by_key : (b : Bool) → same_key q unwanted_key ≡ b → cond b (Some (record c {
      lsa = lsa_with_age 3600 c.lsa;
      stored = 20;
    })) (finite.get its.router.area.database q) ≡ Some d
        → is_aged_out 20 d ≡ true
    by_key true same found = ap (λ (o : Option DatabaseCopy). is_aged_out 20 (copy_or (record c {
      lsa = lsa_with_age 3600 c.lsa;
      stored = 20;
    }) o)) (sym found)
    by_key false other found = is_only
        (λ k e. same_key k unwanted_key ≡ false → is_aged_out 20 e ≡ true) unwanted_key
        (copied 20 unwanted) (λ away. absurd
        (both_ways (same_key unwanted_key unwanted_key) away (same_itself unwanted_key))) q d
        found other

flushed : SpeaksForItself (flush 20 unwanted_key its).router
flushed = subst (λ (o : Option DatabaseCopy). SpeaksForItself (flushed_by o))
    (sym (only unwanted_key (copied 20 unwanted))) by_copy
  where
    by_copy : SpeaksForItself (flushed_by (Some (copied 20 unwanted)))
    by_copy key copy own =
        absurd (both_ways (is_aged_out 20 copy) own.young
        (found_aged (finite.get its.router.area.database unwanted_key)
        (only unwanted_key (copied 20 unwanted)) key copy own.there))

-- ---- other links than the router has

abbrev links_key : Key
links_key = router_key 7

says_otherwise : (r : Router) → wanted_body r links_key ≡ Some (router_body [])
    → HasWantedBody r links_key (copied 20 other_links) → ⊥
says_otherwise r wanted says =
    let e : router_body [] ≡ says.says = ap (body_or (router_body [])) (sym wanted ∙ says.wanted) in
    let same : same_body other_links.body (router_body []) ≡ true =
    subst (λ (b : LsaBody). same_body other_links.body b ≡ true) (sym e) says.same in
    true≢false (sym same)

there_at : (moment : ℕ) → is_aged_out moment (copied 20 other_links) ≡ false
    → IsSelfOriginated (waiting_at moment) links_key (copied 20 other_links)
there_at moment young = record {
  there = only links_key (copied 20 other_links);
  own = refl;
  young = young;
}

not_waiting : SpeaksForItself (holding links_key other_links) → ⊥
not_waiting speaks = by_case (speaks links_key (copied 20 other_links) (record {
  there = only links_key (copied 20 other_links);
  own = refl;
  young = refl;
}))
  where
    by_case : HasWantedBody (holding links_key other_links) links_key (copied 20 other_links)
        ⊎ IsToBeReplaced (holding links_key other_links) links_key → ⊥
    by_case (inl says) = says_otherwise (holding links_key other_links) refl says
    by_case (inr waits) = true≢false (sym waits.waits ∙ set.contains-empty key_cmp links_key)

to_be_replaced : (moment : ℕ) → IsToBeReplaced (waiting_at moment) links_key
to_be_replaced moment = record {
  says = router_body [];
  wanted = refl;
  waits = waits_there set.empty links_key;
}

waiting : SpeaksForItself (waiting_at 20)
waiting key copy own =
    is_only (λ k c. HasWantedBody (waiting_at 20) k c ⊎ IsToBeReplaced (waiting_at 20) k)
    links_key (copied 20 other_links) (inr (to_be_replaced 20)) key copy own.there

in_time : SpeaksForItselfAfterTick (waiting_at 24)
in_time key copy own =
    is_only (λ k c. HasWantedBody (waiting_at 24) k c ⊎ IsHeldBack (waiting_at 24) k c) links_key
    (copied 20 other_links)
    (inr (record {
      replaced = to_be_replaced 24;
      originated = 20;
      last = originated_now 20 finite.empty links_key;
      before = omega arith;
      recent = omega arith;
    }))
    key copy own.there

too_late : SpeaksForItselfAfterTick (waiting_at 25) → ⊥
too_late speaks = by_case (speaks links_key (copied 20 other_links) (there_at 25 refl))
  where
    past : (at : ℕ) → 20 ≡ at → 25 < at + 5 → ⊥
    past at is recent = omega arith

    by_case : HasWantedBody (waiting_at 25) links_key (copied 20 other_links)
        ⊎ IsHeldBack (waiting_at 25) links_key (copied 20 other_links) → ⊥
    by_case (inl says) = says_otherwise (waiting_at 25) refl says
    by_case (inr held) = past held.originated
        (ap (time_or 20) (sym (originated_now 20 finite.empty links_key) ∙ held.last)) held.recent

pub worked : WorkedOwnCopies
worked = record {
  left_alone = left_alone;
  flushed = flushed;
  not_waiting = not_waiting;
  waiting = waiting;
  in_time = in_time;
  too_late = too_late;
}
