-- Each part of an event keeps the invariant of the router's own copies.
use Rattle.std.proofs.Common.{◌≡◌, ℕ, ◌+◌, ◌-◌, ◌<◌, ◌≤◌, Bool, true, false, cond, not, ◌&&◌, ◌||◌}
use Rattle.std.proofs.Common.{List, [], ◌∷◌, Option, None, Some, is_some, refl, sym, ap, subst, ◌∙◌}
use Rattle.std.proofs.Common.{arith, eq-eqb, leb-false}
use Rattle.std.specs.Prelude.{◌==◌}
use Rattle.std.specs.List.{fold}
use Rattle.std.specs.FinMap as finite
use Rattle.std.specs.FinSet as set
use Rattle.std.proofs.lemmas.Bool.{or_left, both_ways}
use Rattle.words.specs.declared.key.Key.{Key}
use Rattle.words.specs.declared.route.External.{External}
use Rattle.lsa.specs.Origination.{sealed_lsa}
use Rattle.lsa.specs.Reading.{lsa_in}
use Rattle.lsa.specs.Text.{body_text}
use Rattle.lsa.specs.declared.body.LsaBody.{LsaBody}
use Rattle.lsdb.specs.Copies.{Database, DatabaseCopy, age_prematurely, has_just_aged_out}
use Rattle.lsdb.specs.Copies.{is_aged_out}
use Rattle.lsdb.specs.Copies.{lsa_now}
use Rattle.lsdb.specs.Headers.{Lsa, lsa_with_age, lsa_key}
use Rattle.lsdb.specs.Keys.{ByKey, KeySet, same_key}
use Rattle.lsdb.proofs.Keys.{keys_total}
use Rattle.adjacency.specs.Adjacencies as adjacencies
use Rattle.adjacency.specs.Contents.{Content, no_sends}
use Rattle.adjacency.specs.Retransmissions.{remove_retransmission}
use Rattle.adjacency.proofs.Kept.{chosen}
use Rattle.adjacency.proofs.Maps.{AllIn}
use Rattle.received.specs.Cases.{Case}
use Rattle.received.specs.Flooding.{flood_to}
use Rattle.received.specs.AreaStates.{AreaState, Send, on_database, only_at, stepping_sends}
use Rattle.received.specs.Updates.{after_case, case_at, goes_on, send_copy}
use Rattle.event_rules.specs.Endings.{flood_if_aged}
use Rattle.event_rules.specs.EventState.{EventState, flood_from_nobody, on_area, on_router}
use Rattle.event_rules.specs.Originations.{flush, flush_copy, has_max_sequence, has_room}
use Rattle.event_rules.specs.Originations.{interval_is_over, may_originate, should_originate}
use Rattle.event_rules.specs.Originations.{new_instance}
use Rattle.event_rules.specs.Originations.{originate, originate_body, originate_or_flush}
use Rattle.event_rules.specs.Originations.{originate_or_postpone, receive_self_originated}
use Rattle.event_rules.specs.Originations.{router_body, postpone, router_key, wanted_body}
use Rattle.event_rules.specs.Packets.{after_lsa, after_lsas, after_self_originated, after_parsed}
use Rattle.event_rules.specs.Packets.{case_in}
use Rattle.event_rules.specs.Routers.{Router}
use Rattle.invariants.proofs.Limits.{AreExternal, new_key, wanted_type}
use Rattle.invariants.proofs.Retransmitted.{marks}
use Rattle.own_lsa_laws.proofs.Faces.{StaysFaced, body_faces, case_faces, flush_faces, same_faces}
use Rattle.own_lsa_laws.proofs.Standing.{Fits, Standing, Terms, Wants, aged_at, all_so, closed_at}
use Rattle.own_lsa_laws.proofs.Standing.{flushed_age, is_wanted_of, marked, put_at, recast}
use Rattle.own_lsa_laws.proofs.Standing.{same_itself, wanted_as}

-- ---- a point of an event

abbrev pub FitsAt : ℕ → Terms → Router → Key → DatabaseCopy → Type 0
FitsAt moment t r = Fits moment t r.id r.announced r.waiting r.originated

pub record InProgress (moment : ℕ) (t : Terms) (p : EventState) : Type 0 where
  pub externals : AreExternal p.router.announced
  -- nothing was originated later
  pub earlier : (key : Key) (at : ℕ) → finite.get p.router.originated key ≡ Some at → at ≤ moment
  pub copies : AllIn (FitsAt moment t p.router) p.router.area.database

-- no key is excepted; or this one is
abbrev pub full : Terms → Terms
full t = record t { excused = λ q. ⊥ }

abbrev pub excusing : Key → Terms → Terms
excusing key t = record t { excused = λ q. same_key q key ≡ true }

abbrev pub other_than : Key → Key → Type 0
other_than key q = same_key q key ≡ false

-- nothing changes except for a key
pub record StaysElsewhere (key : Key) (a b : ByKey External) (w v : KeySet) (o s : ByKey ℕ) : Type 0
  where
    pub announced : (q : Key) → other_than key q → finite.get b q ≡ finite.get a q
    pub waiting : (q : Key) → other_than key q → set.contains v q ≡ set.contains w q
    pub originated : (q : Key) → other_than key q → finite.get s q ≡ finite.get o q

pub nothing_changes : (key : Key) (a : ByKey External) (w : KeySet) (o : ByKey ℕ)
    → StaysElsewhere key a a w w o o
nothing_changes key a w o = record {
  announced = λ q other. refl;
  waiting = λ q other. refl;
  originated = λ q other. refl;
}

clashing : {P : Type 0} (b : Bool) → b ≡ false → b ≡ true → P
clashing b isnt is = absurd cc

-- the invariant still holds of the other copies
pub others_fit : (moment : ℕ) (t : Terms) (key : Key) (id : ℕ) (a b : ByKey External) (w v : KeySet)
    (o s : ByKey ℕ) → StaysElsewhere key a b w v o s → (q : Key) (c : DatabaseCopy)
    → other_than key q → Fits moment (excusing key t) id a w o q c
    → Fits moment (full t) id b v s q c
others_fit moment t key id a b w v o s same q c other fits = (
  λ at last. fits.0 at (sym (same.originated q other) ∙ last),
  λ own. recast moment (excusing key t) (full t) id a b w v o s q c.lsa c.stored (record {
    announced = λ e away there. same.announced q other ∙ there;
    waiting = λ there. same.waiting q other ∙ there;
    originated = λ at last. same.originated q other ∙ last;
    before = λ router is. Standing.SaidBefore router is;
    now = λ router is. Standing.SaysNow router is;
    may_wait = λ may wanted there. Standing.Waits may wanted there;
    excused = λ is. clashing (same_key q key) other is;
  }) (fits.1 own),
)

-- for now, nothing is required of the copy of this key
pub excused_fit : (moment : ℕ) (t : Terms) (key : Key) (id : ℕ) (a b : ByKey External)
    (w v : KeySet) (o : ByKey ℕ) → StaysElsewhere key a b w v o o → (q : Key) (c : DatabaseCopy)
    → Fits moment (full t) id a w o q c → Fits moment (excusing key t) id b v o q c
excused_fit moment t key id a b w v o same q c fits =
    (fits.0, λ own. by_key own (same_key q key) refl)
  where
    by_key : q.advertising_router ≡ id → (is : Bool) → same_key q key ≡ is
        → Standing moment (excusing key t) id b v o q c.lsa c.stored
    by_key own true is = Standing.Excused is
    by_key own false is =
        recast moment (full t) (excusing key t) id a b w v o o q c.lsa c.stored (record {
          announced = λ e away there. same.announced q is ∙ there;
          waiting = λ there. same.waiting q is ∙ there;
          originated = λ at last. last;
          before = λ router it. Standing.SaidBefore router it;
          now = λ router it. Standing.SaysNow router it;
          may_wait = λ may wanted there. Standing.Waits may wanted there;
          excused = λ no. absurd no;
        }) (fits.1 own)

pub excused : (moment : ℕ) (t : Terms) (key : Key) (p : EventState) → InProgress moment (full t) p
    → InProgress moment (excusing key t) p
excused moment t key p h =
    let r : Router = p.router in
    record {
      externals = h.externals;
      earlier = h.earlier;
      copies = all_so (FitsAt moment (full t) r) (FitsAt moment (excusing key t) r) r.area.database
          (λ q c there fits. excused_fit moment t key r.id r.announced r.announced r.waiting
          r.waiting r.originated (nothing_changes key r.announced r.waiting r.originated) q c
          fits) h.copies;
    }

-- ---- what is sent

pub sent_kept : (moment : ℕ) (t : Terms) (r : Router) (more : List Send) (db : Database)
    → AllIn (FitsAt moment t r) db → AllIn (FitsAt moment t r) (marks moment more db)
sent_kept moment t r more db all =
    marked (FitsAt moment t r) (λ key c sent fits. fits) moment more db all

-- ---- flushing

abbrev aged_of : ℕ → Option DatabaseCopy → Bool
aged_of moment None = false
aged_of moment (Some c) = is_aged_out moment c

flushed : (moment : ℕ) (t : Terms) (key : Key) (p : EventState) (found : Option DatabaseCopy)
    → finite.get p.router.area.database key ≡ found → InProgress moment (excusing key t) p
    → InProgress moment (full t) (on_area (flush_copy moment key found) p)
flushed moment t key p found is h = by_copy found is
  where
    others : (q : Key) (c : DatabaseCopy) → other_than key q
        → FitsAt moment (excusing key t) p.router q c → FitsAt moment (full t) p.router q c
    others = others_fit moment t key p.router.id p.router.announced p.router.announced
        p.router.waiting p.router.waiting p.router.originated p.router.originated
        (nothing_changes key p.router.announced p.router.waiting p.router.originated)

    by_copy : (o : Option DatabaseCopy) → finite.get p.router.area.database key ≡ o
        → InProgress moment (full t) (on_area (flush_copy moment key o) p)
    by_copy None none = record {
      externals = h.externals;
      earlier = h.earlier;
      copies = closed_at (FitsAt moment (excusing key t) p.router) (FitsAt moment (full t) p.router)
          p.router.area.database key others (λ c there fits. absurd cc) h.copies;
    }
    by_copy (Some c) there =
        let o : AreaState = record { area = p.router.area; sends = p.sends } in
        let lsa : Lsa = lsa_with_age 3600 c.lsa in
        chosen (λ (q : AreaState). InProgress moment (full t) (record {
          router = record p.router { area = q.area };
          sends = q.sends;
        })) (is_aged_out moment c) o
        (flood_from_nobody moment lsa (on_database (age_prematurely moment key) o))
        (λ aged. record {
          externals = h.externals;
          earlier = h.earlier;
          copies = closed_at (FitsAt moment (excusing key t) p.router)
              (FitsAt moment (full t) p.router) p.router.area.database key others
              (λ d at fits. (
                fits.0,
                λ own. Standing.Aged
                    (ap (aged_of moment) (sym at ∙ there) ∙ aged),
              )) h.copies;
        })
        (λ young. record {
          externals = h.externals;
          earlier = h.earlier;
          copies = sent_kept moment (full t) p.router
              (stepping_sends (flood_to moment None lsa) p.router.area.links)
              (age_prematurely moment key p.router.area.database)
              (aged_at (FitsAt moment (excusing key t) p.router) (FitsAt moment (full t) p.router)
              moment p.router.area.database key c (finite.get p.router.area.database key) refl
              there others
              (λ d. (λ at last. h.earlier key at last, λ own. Standing.Aged (flushed_age moment)))
              h.copies);
        })

pub flush_kept : (moment : ℕ) (t : Terms) (key : Key) (p : EventState)
    → InProgress moment (excusing key t) p → InProgress moment (full t) (flush moment key p)
flush_kept moment t key p h = flushed moment t key p (finite.get p.router.area.database key) refl h

-- ---- waiting

abbrev StandsAt : ℕ → Terms → Router → KeySet → Key → DatabaseCopy → Type 0
StandsAt moment t r waiting key c =
    Standing moment t r.id r.announced waiting r.originated key c.lsa c.stored

pub or_so : (a b : Bool) → a ≡ false → (a || b) ≡ b
or_so true b e = absurd cc
or_so false b e = refl

pub not_and_so : (a b : Bool) → a ≡ false → (not a && b) ≡ b
not_and_so true b e = absurd cc
not_and_so false b e = refl

pub waits_there : (w : KeySet) (key : Key) → set.contains (set.insert w key) key ≡ true
waits_there w key = set.contains-insert keys_total w key key
    ∙ or_left (same_key key key) (set.contains w key) (same_itself key)

pub wait_kept : (moment : ℕ) (t : Terms) (key : Key) (p : EventState)
    → ((c : DatabaseCopy) → finite.get p.router.area.database key ≡ Some c
    → StandsAt moment (full t) p.router (set.insert p.router.waiting key) key c)
    → InProgress moment (excusing key t) p
    → InProgress moment (full t) (on_router (postpone key) p)
wait_kept moment t key p stands h =
    let r : Router = p.router in
    let now : KeySet = set.insert r.waiting key in
    record {
      externals = h.externals;
      earlier = h.earlier;
      copies = closed_at (FitsAt moment (excusing key t) r)
          (Fits moment (full t) r.id r.announced now r.originated) r.area.database key
          (others_fit moment t key r.id r.announced r.announced r.waiting now r.originated
          r.originated (record {
            announced = λ q other. refl;
            waiting = λ q other. set.contains-insert keys_total r.waiting key q
                ∙ or_so (same_key q key) (set.contains r.waiting q) other;
            originated = λ q other. refl;
          }))
          (λ c there fits. (fits.0, λ own. stands c there)) h.copies;
    }

-- ---- a new instance

pub at_other : {X : Type 0} (b : Bool) (x y : X) → b ≡ false → cond b x y ≡ y
at_other true x y e = absurd cc
at_other false x y e = refl

pub at_same : {X : Type 0} (b : Bool) (x y : X) → b ≡ true → cond b x y ≡ x
at_same true x y e = refl
at_same false x y e = absurd cc

new_body : (key : Key) (copy : Option DatabaseCopy) (says : LsaBody)
    → (new_instance key copy says).body ≡ says
unfolding sealed_lsa
new_body key copy says = refl

-- the router-LSA that a part originates has the expected bytes
abbrev pub Tells : Terms → EventState → Type 0
Tells t p = body_text (router_body p.router.area.links) ≡ t.now

abbrev pub time_or : ℕ → Option ℕ → ℕ
time_or other None = other
time_or other (Some at) = at

pub originated_now : (moment : ℕ) (o : ByKey ℕ) (key : Key)
    → finite.get (finite.insert o key moment) key ≡ Some moment
originated_now moment o key = finite.get-insert keys_total o key moment key
    ∙ at_same (same_key key key) (Some moment) (finite.get o key) (same_itself key)

module _ (moment : ℕ) (t : Terms) (key : Key) (says : LsaBody) (p : EventState)
    (is : wanted_body p.router key ≡ Some says)
    (tells : same_key key (router_key p.router.id) ≡ true → Tells t p)
    (h : InProgress moment (excusing key t) p) where
  abbrev then_ : ByKey ℕ
  then_ = finite.insert p.router.originated key moment

  abbrev left : KeySet
  left = set.remove p.router.waiting key

  abbrev new : Lsa
  new = new_instance key (finite.get p.router.area.database key) says

  abbrev made : DatabaseCopy
  made = record { lsa = new; stored = moment; received = None; sent = None }

  abbrev Fit : Key → DatabaseCopy → Type 0
  Fit = Fits moment (full t) p.router.id p.router.announced left then_

  earlier_by : (q : Key) (at : ℕ) (b : Bool)
      → cond b (Some moment) (finite.get p.router.originated q) ≡ Some at → at ≤ moment
  earlier_by q at true found = let e : moment ≡ at = ap (time_or moment) found in omega arith
  earlier_by q at false found = h.earlier q at found

  earlier_so : (q : Key) (at : ℕ) → finite.get then_ q ≡ Some at → at ≤ moment
  earlier_so q at last = earlier_by q at (same_key q key)
      (sym (finite.get-insert keys_total p.router.originated key moment q) ∙ last)

  text : body_text new.body ≡ body_text says
  text = ap body_text (new_body key (finite.get p.router.area.database key) says)

  said : Wants p.router key says → Standing moment (full t) p.router.id p.router.announced left
      then_ key new moment
  said (Wants.RouterLsa same it) = Standing.SaysNow same (text ∙ ap body_text (sym it) ∙ tells same)
  said (Wants.Destination other e at it) = Standing.Says e other at (text ∙ ap body_text (sym it))

  others : (q : Key) (c : DatabaseCopy) → other_than key q
      → FitsAt moment (excusing key t) p.router q c → Fit q c
  others = others_fit moment t key p.router.id p.router.announced p.router.announced
      p.router.waiting left p.router.originated then_ (record {
        announced = λ q other. refl;
        waiting = λ q other. set.contains-remove keys_total p.router.waiting key q
            ∙ not_and_so (same_key q key) (set.contains p.router.waiting q) other;
        originated = λ q other. finite.get-insert keys_total p.router.originated key moment q
            ∙ at_other (same_key q key) (Some moment) (finite.get p.router.originated q) other;
      })

  put : AllIn Fit (finite.insert p.router.area.database key made)
  put = put_at (FitsAt moment (excusing key t) p.router) Fit p.router.area.database key made others
      (λ at last. earlier_so key at last, λ own. said (wanted_as p.router key says is)) h.copies

  its_key : lsa_key new ≡ key
  its_key = new_key key (finite.get p.router.area.database key) says
      (wanted_type p.router key says h.externals is)

  put_there : AllIn Fit (finite.insert p.router.area.database (lsa_key new) made)
  put_there = subst (λ (k : Key). AllIn Fit (finite.insert p.router.area.database k made))
      (sym its_key) put

  pub originate_kept : InProgress moment (full t) (originate moment key says p)
  originate_kept = record {
    externals = h.externals;
    earlier = earlier_so;
    copies = marked Fit (λ q c sent fits. fits) moment
        (stepping_sends (flood_to moment None new) p.router.area.links)
        (finite.insert p.router.area.database (lsa_key new) made) put_there;
  }

-- ---- at once, or at a Tick

pub not_yet : (moment : ℕ) (o : Option ℕ) → interval_is_over moment o ≡ false → (at : ℕ)
    × (o ≡ Some at) × (moment < at + 5)
not_yet moment None e = absurd cc
not_yet moment (Some at) e = (at, refl, after moment at (leb-false 5 (moment - at) e))
  where
    after : (moment at : ℕ) → moment - at < 5 → moment < at + 5
    after moment at less = omega arith

not_the_second : (a b : Bool) → (a && b) ≡ false → a ≡ true → b ≡ false
not_the_second true b e is = e
not_the_second false b e is = absurd cc

pub some_kept : (moment : ℕ) (t : Terms) (may_now : Bool) (key : Key) (says : LsaBody)
    (p : EventState) → wanted_body p.router key ≡ Some says
    → (same_key key (router_key p.router.id) ≡ true → Tells t p)
    → ((c : DatabaseCopy) → finite.get p.router.area.database key ≡ Some c → may_now ≡ true)
    → InProgress moment (excusing key t) p
    → InProgress moment (full t) (originate_body may_now moment key (Some says) p)
some_kept moment t may_now key says p is tells room h =
    let may : Bool = may_originate moment key p.router in
    chosen (InProgress moment (full t)) (has_max_sequence (finite.get p.router.area.database key))
    (flush moment key p)
    (cond (may_now && may) (originate moment key says p) (on_router (postpone key) p))
    (λ last. flush_kept moment t key p h)
    (λ more. chosen (InProgress moment (full t)) (may_now && may) (originate moment key says p)
    (on_router (postpone key) p)
    (λ goes. originate_kept moment t key says p is tells h)
    (λ waits. wait_kept moment t key p
    (λ c there.
    let since = not_yet moment (finite.get p.router.originated key)
    (not_the_second may_now may waits (room c there)) in
    Standing.HeldBack since.0 (is_wanted_of p.router key says is) (waits_there p.router.waiting key)
    since.1 since.2) h))

pub body_kept : (moment : ℕ) (t : Terms) (may_now : Bool) (key : Key) (wanted : Option LsaBody)
    (p : EventState) → wanted_body p.router key ≡ wanted
    → (wanted ≡ None → InProgress moment (full t) p)
    → (same_key key (router_key p.router.id) ≡ true → Tells t p)
    → ((c : DatabaseCopy) → finite.get p.router.area.database key ≡ Some c → may_now
    ≡ true) → InProgress moment (excusing key t) p
    → InProgress moment (full t) (originate_body may_now moment key wanted p)
body_kept moment t may_now key None p is none tells room h = none refl
body_kept moment t may_now key (Some says) p is none tells room h =
    some_kept moment t may_now key says p is tells room h

-- there is room to replace a copy
pub roomy : (key : Key) (r : Router) (c : DatabaseCopy) → finite.get r.area.database key ≡ Some c
    → has_room key r ≡ true
roomy key r c there = or_left (finite.contains_key r.area.database key) _ (ap is_some there)

pub or_wait_kept : (moment : ℕ) (t : Terms) (key : Key) (p : EventState)
    → (wanted_body p.router key ≡ None → InProgress moment (full t) p)
    → (same_key key (router_key p.router.id) ≡ true → Tells t p)
    → InProgress moment (excusing key t) p
    → InProgress moment (full t) (originate_or_postpone moment key p)
or_wait_kept moment t key p none tells h =
    body_kept moment t (has_room key p.router) key (wanted_body p.router key) p refl none tells
    (λ c there. roomy key p.router c there) h

-- ---- a received LSA

should_originate_none : (o : Option LsaBody) → should_originate o ≡ true → o ≡ None → ⊥
should_originate_none None is none = absurd cc
should_originate_none (Some says) is none = absurd cc

or_flush_kept : (moment : ℕ) (t : Terms) (b : Bool) (key : Key) (p : EventState)
    → should_originate (wanted_body p.router key) ≡ b → Tells t p
    → InProgress moment (excusing key t) p
    → InProgress moment (full t) (originate_or_flush b moment key p)
or_flush_kept moment t true key p is tells h =
    or_wait_kept moment t key p (λ none. absurd
    (should_originate_none (wanted_body p.router key) is none))
    (λ same. tells) h
or_flush_kept moment t false key p is tells h = flush_kept moment t key p h

-- nothing is required of an LSA of another router
not_own : (moment : ℕ) (t : Terms) (lsa : Lsa) (p : EventState)
    → (lsa.header.advertising_router == p.router.id) ≡ false
    → InProgress moment (excusing (lsa_key lsa) t) p → InProgress moment (full t) p
not_own moment t lsa p other h =
    let r : Router = p.router in
    record {
      externals = h.externals;
      earlier = h.earlier;
      copies = closed_at (FitsAt moment (excusing (lsa_key lsa) t) r) (FitsAt moment (full t) r)
          r.area.database (lsa_key lsa)
          (others_fit moment t (lsa_key lsa) r.id r.announced r.announced r.waiting r.waiting
          r.originated r.originated (nothing_changes (lsa_key lsa) r.announced r.waiting
          r.originated))
          (λ c there fits. (
            fits.0,
            λ own. absurd
                (differs lsa.header.advertising_router r.id other own),
          )) h.copies;
    }
  where
    differs : (x y : ℕ) → (x == y) ≡ false → x ≡ y → ⊥
    differs x y isnt is = absurd (both_ways (x == y) isnt
        (subst (λ (z : ℕ). (x == z) ≡ true) is (itself x)))
      where
        itself : (x : ℕ) → (x == x) ≡ true
        itself x = eq-eqb x x refl

received_kept : (moment : ℕ) (t : Terms) (lsa : Lsa) (p : EventState) → Tells t p
    → InProgress moment (excusing (lsa_key lsa) t) p
    → InProgress moment (full t) (receive_self_originated moment lsa p)
received_kept moment t lsa p tells h =
    let wanted : Bool = should_originate (wanted_body p.router (lsa_key lsa)) in
    chosen (InProgress moment (full t)) (lsa.header.advertising_router == p.router.id)
    (originate_or_flush wanted moment (lsa_key lsa) p) p
    (λ own. or_flush_kept moment t wanted (lsa_key lsa) p refl tells h)
    (λ other. not_own moment t lsa p other h)

received_faces : (moment : ℕ) (lsa : Lsa) (p : EventState)
    → StaysFaced p (receive_self_originated moment lsa p)
received_faces moment lsa p =
    let wanted : Bool = should_originate (wanted_body p.router (lsa_key lsa)) in
    chosen (StaysFaced p) (lsa.header.advertising_router == p.router.id)
    (originate_or_flush wanted moment (lsa_key lsa) p) p
    (λ own. by_wanted wanted) (λ other. refl)
  where
    by_wanted : (b : Bool) → StaysFaced p (originate_or_flush b moment (lsa_key lsa) p)
    by_wanted true = body_faces (has_room (lsa_key lsa) p.router) moment (lsa_key lsa)
        (wanted_body p.router (lsa_key lsa)) p
    by_wanted false = flush_faces moment (lsa_key lsa) p

pub still_tells : (t : Terms) (p q : EventState) → StaysFaced p q → Tells t p → Tells t q
still_tells t p q same tells = ap body_text
    (same_faces p.router.area.links q.router.area.links same) ∙ tells

-- the copy is that of the LSA
installed_kept : (moment number : ℕ) (t : Terms) (lsa : Lsa) (p : EventState)
    → InProgress moment (full t) p → InProgress moment (excusing (lsa_key lsa) t)
    (on_area (after_case Case.Newer moment number lsa) p)
installed_kept moment number t lsa p h =
    let r : Router = p.router in
    let key : Key = lsa_key lsa in
    let c : DatabaseCopy = record {
      lsa = lsa;
      stored = moment;
      received = Some moment;
      sent = None;
    } in
    let db : Database = finite.insert r.area.database key c in
    record {
      externals = h.externals;
      earlier = h.earlier;
      copies = sent_kept moment (excusing key t) r
          (stepping_sends (flood_to moment (Some number) lsa) r.area.links) db
          (put_at (FitsAt moment (full t) r) (FitsAt moment (excusing key t) r) r.area.database key
          c
          (λ q d other fits. excused_fit moment t key r.id r.announced r.announced r.waiting
          r.waiting r.originated (nothing_changes key r.announced r.waiting r.originated) q d
          fits)
          (λ at last. h.earlier key at last, λ own. Standing.Excused (same_itself key)) h.copies);
    }

copy_kept : (moment number : ℕ) (t : Terms) (o : Option DatabaseCopy) (p : EventState)
    → InProgress moment (full t) p → InProgress moment (full t)
    (on_area (send_copy moment number o) p)
copy_kept moment number t None p h = record {
  externals = h.externals;
  earlier = h.earlier;
  copies = h.copies;
}
copy_kept moment number t (Some c) p h = record {
  externals = h.externals;
  earlier = h.earlier;
  copies = sent_kept moment (full t) p.router (record {
    interface = number;
    content = Content.Updates (lsa_now moment c);
  } ∷ []) p.router.area.database
      h.copies;
}

lsa_kept : (case : Case) (moment number : ℕ) (t : Terms) (lsa : Lsa) (p : EventState) → Tells t p
    → InProgress moment (full t) p → InProgress moment (full t) (after_lsa case moment number lsa p)
lsa_kept Case.Unreadable moment number t lsa p tells h = record {
  externals = h.externals;
  earlier = h.earlier;
  copies = h.copies;
}
lsa_kept Case.NothingToFlush moment number t lsa p tells h = record {
  externals = h.externals;
  earlier = h.earlier;
  copies = h.copies;
}
lsa_kept Case.TooSoon moment number t lsa p tells h = record {
  externals = h.externals;
  earlier = h.earlier;
  copies = h.copies;
}
lsa_kept Case.Newer moment number t lsa p tells h =
    let q : EventState = on_area (after_case Case.Newer moment number lsa) p in
    received_kept moment t lsa q (still_tells t p q
    (case_faces Case.Newer moment number lsa (record {
      area = p.router.area;
      sends = p.sends;
    }) refl) tells)
    (installed_kept moment number t lsa p h)
lsa_kept Case.BadRequest moment number t lsa p tells h = record {
  externals = h.externals;
  earlier = h.earlier;
  copies = sent_kept moment (full t) p.router
      (stepping_sends (only_at number (adjacencies.mismatch_step moment)) p.router.area.links)
      p.router.area.database h.copies;
}
lsa_kept Case.ImpliedAcknowledgment moment number t lsa p tells h = record {
  externals = h.externals;
  earlier = h.earlier;
  copies = sent_kept moment (full t) p.router
      (stepping_sends (only_at number (λ n. no_sends (remove_retransmission (lsa_key lsa) n)))
      p.router.area.links) p.router.area.database h.copies;
}
lsa_kept Case.Duplicate moment number t lsa p tells h = record {
  externals = h.externals;
  earlier = h.earlier;
  copies = h.copies;
}
lsa_kept Case.SequenceWraps moment number t lsa p tells h = record {
  externals = h.externals;
  earlier = h.earlier;
  copies = h.copies;
}
lsa_kept Case.SentJustNow moment number t lsa p tells h = record {
  externals = h.externals;
  earlier = h.earlier;
  copies = h.copies;
}
lsa_kept Case.Older moment number t lsa p tells h =
    copy_kept moment number t (finite.get p.router.area.database (lsa_key lsa)) p h

settled_faces : (case : Case) (moment : ℕ) (lsa : Lsa) (p : EventState)
    → StaysFaced p (after_self_originated case moment lsa p)
settled_faces Case.Unreadable moment lsa p = refl
settled_faces Case.NothingToFlush moment lsa p = refl
settled_faces Case.TooSoon moment lsa p = refl
settled_faces Case.Newer moment lsa p = received_faces moment lsa p
settled_faces Case.BadRequest moment lsa p = refl
settled_faces Case.ImpliedAcknowledgment moment lsa p = refl
settled_faces Case.Duplicate moment lsa p = refl
settled_faces Case.SequenceWraps moment lsa p = refl
settled_faces Case.SentJustNow moment lsa p = refl
settled_faces Case.Older moment lsa p = refl

lsa_faces : (case : Case) (moment number : ℕ) (lsa : Lsa) (p : EventState) → goes_on case ≡ true
    → StaysFaced p (after_lsa case moment number lsa p)
lsa_faces case moment number lsa p on =
    settled_faces case moment lsa (on_area (after_case case moment number lsa) p)
    ∙ case_faces case moment number lsa (record { area = p.router.area; sends = p.sends }) on

unread_kept : (moment number : ℕ) (t : Terms) (o : Option Lsa) (p : EventState) → Tells t p
    → InProgress moment (full t) p → InProgress moment (full t) (after_parsed moment number o p)
unread_kept moment number t None p tells h = h
unread_kept moment number t (Some lsa) p tells h =
    lsa_kept (case_at moment number lsa p.router.area) moment number t lsa p tells h

unread_faces : (moment number : ℕ) (o : Option Lsa) (p : EventState)
    → goes_on (case_in moment number o p) ≡ true → StaysFaced p (after_parsed moment number o p)
unread_faces moment number None p on = refl
unread_faces moment number (Some lsa) p on =
    lsa_faces (case_at moment number lsa p.router.area) moment number lsa p on

pub lsas_kept : (moment number : ℕ) (t : Terms) (lsas : List (List ℕ)) (p : EventState) → Tells t p
    → InProgress moment (full t) p → InProgress moment (full t) (after_lsas moment number lsas p)
lsas_kept moment number t [] p tells h = h
lsas_kept moment number t (bytes ∷ rest) p tells h =
    let q : EventState = after_parsed moment number (lsa_in bytes) p in
    let so : InProgress moment (full t) q = unread_kept moment number t (lsa_in bytes) p tells h in
    chosen (InProgress moment (full t)) (goes_on (case_in moment number (lsa_in bytes) p))
    (after_lsas moment number rest q) q
    (λ on. lsas_kept moment number t rest q
    (still_tells t p q (unread_faces moment number (lsa_in bytes) p on) tells) so) (λ ends. so)

-- ---- aging

-- whatever the moment for the copies
pub ages_kept : (at before moment : ℕ) (t : Terms) (r : Router) (es : List (Key × DatabaseCopy))
    (o : AreaState) → AllIn (FitsAt at t r) o.area.database
    → AllIn (FitsAt at t r) (fold (flood_if_aged before moment) o es).area.database
ages_kept at before moment t r [] o all = all
ages_kept at before moment t r (e ∷ es) o all =
    let more : List Send = stepping_sends (flood_to moment None (lsa_now moment e.1)) o.area.links
    in
    ages_kept at before moment t r es (flood_if_aged before moment o e)
    (chosen (λ (q : AreaState). AllIn (FitsAt at t r) q.area.database)
    (has_just_aged_out before moment e.1) (flood_from_nobody moment (lsa_now moment e.1) o) o
    (λ is. marked (FitsAt at t r) (λ key c sent fits. fits) moment more o.area.database all)
    (λ is. all))
