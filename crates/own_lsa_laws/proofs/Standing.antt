-- The invariant of an own copy at a point of an event: it is at MaxAge, or has the wanted body, or
-- had it before, or waits, or only MinLSInterval prevents its replacement; and databases in which
-- it holds of all own copies.
use Rattle.std.proofs.Common.{◌≡◌, ℕ, ◌+◌, ◌-◌, ◌<◌, ◌≤◌, min, Bool, true, false, cond, ◌⊎◌, inl}
use Rattle.std.proofs.Common.{inr, List, [], ◌∷◌, Option, None, Some, refl, sym, ap, subst, ◌∙◌}
use Rattle.std.proofs.Common.{arith, eq-eqb, eqb-true}
use Rattle.std.specs.Cmp.{tied_itself}
use Rattle.std.specs.FinMap as finite
use Rattle.std.specs.FinSet as set
use Rattle.std.specs.Ordering.{is_eq}
use Rattle.words.specs.declared.key.Key.{Key}
use Rattle.words.specs.declared.route.External.{External}
use Rattle.lsa.specs.Text.{body_text}
use Rattle.lsa.specs.declared.body.LsaBody.{LsaBody}
use Rattle.lsdb.specs.Copies.{Database, DatabaseCopy}
use Rattle.lsdb.specs.Headers.{Lsa, lsa_key}
use Rattle.lsdb.specs.Keys.{ByKey, KeySet, same_key}
use Rattle.lsdb.specs.Order.{age_at, is_max_age}
use Rattle.lsdb.proofs.Keys.{keys_total}
use Rattle.adjacency.specs.Contents.{Content}
use Rattle.adjacency.proofs.Kept.{chosen}
use Rattle.adjacency.proofs.Maps.{AllIn, IfThere, inserted_in}
use Rattle.received.specs.AreaStates.{Send, marked_database}
use Rattle.received.proofs.Marks.{changed_by}
use Rattle.event_rules.specs.Originations.{announced_body, external_body, router_body, router_key}
use Rattle.event_rules.specs.Originations.{wanted_body}
use Rattle.event_rules.specs.Routers.{Router}
use Rattle.invariants.proofs.Limits.{tied_key, body_or}
use Rattle.invariants.proofs.Retransmitted.{marks}
use Rattle.invariants.proofs.Leaving.{flushed_copy}

pub same_itself : (key : Key) → same_key key key ≡ true
same_itself key = ap is_eq (tied_itself keys_total key)

-- ---- which LSAs are wanted

abbrev pub IsWanted : ℕ → ByKey External → Key → Type 0
IsWanted id announced key = (same_key key (router_key id) ≡ true)
    ⊎ ((same_key key (router_key id) ≡ false)
    × ((e : External) × (finite.get announced key ≡ Some e)))

abbrev wanted_by : Router → Key → Bool → Option LsaBody
wanted_by r key b = cond b (Some (router_body r.area.links))
    (announced_body (finite.get r.announced key))

pub wanted_router_lsa : (r : Router) (key : Key) → same_key key (router_key r.id) ≡ true
    → wanted_body r key ≡ Some (router_body r.area.links)
wanted_router_lsa r key same = ap (wanted_by r key) same

pub wanted_external : (r : Router) (key : Key) (e : External) → same_key key (router_key r.id)
    ≡ false → finite.get r.announced key ≡ Some e → wanted_body r key ≡ Some (external_body e)
wanted_external r key e other there = ap (wanted_by r key) other ∙ ap announced_body there

pub wants : (r : Router) (key : Key) → IsWanted r.id r.announced key → (says : LsaBody)
    × (wanted_body r key ≡ Some says)
wants r key (inl same) = (router_body r.area.links, wanted_router_lsa r key same)
wants r key (inr is) = (external_body is.1.0, wanted_external r key is.1.0 is.0 is.1.1)

-- the router-LSA, or the LSA of an announced destination
pub data Wants (r : Router) (key : Key) (says : LsaBody) : Type 0 where
  RouterLsa : same_key key (router_key r.id) ≡ true → router_body r.area.links ≡ says
      → Wants r key says
  Destination : same_key key (router_key r.id) ≡ false → (e : External) → finite.get r.announced key
      ≡ Some e → external_body e ≡ says → Wants r key says

pub wanted_as : (r : Router) (key : Key) (says : LsaBody) → wanted_body r key ≡ Some says
    → Wants r key says
wanted_as r key says is = by_key (same_key key (router_key r.id)) refl is
  where
    by_announced : same_key key (router_key r.id) ≡ false → (o : Option External)
        → finite.get r.announced key ≡ o → announced_body o ≡ Some says → Wants r key says
    by_announced other None there found = absurd cc
    by_announced other (Some e) there found =
        Wants.Destination other e there (ap (body_or says) found)

    by_key : (b : Bool) → same_key key (router_key r.id) ≡ b
        → cond b (Some (router_body r.area.links)) (announced_body (finite.get r.announced key))
        ≡ Some says → Wants r key says
    by_key true same found = Wants.RouterLsa same (ap (body_or says) found)
    by_key false same found = by_announced same (finite.get r.announced key) refl found

pub is_wanted_of : (r : Router) (key : Key) (says : LsaBody) → wanted_body r key ≡ Some says
    → IsWanted r.id r.announced key
is_wanted_of r key says is = by_case (wanted_as r key says is)
  where
    by_case : Wants r key says → IsWanted r.id r.announced key
    by_case (Wants.RouterLsa same it) = inl same
    by_case (Wants.Destination other e there it) = inr (other, (e, there))

-- ---- the invariant of a copy

-- the bytes of the router-LSA before the event and now; which keys may wait for a Tick; and for
-- which keys nothing is required
pub record Terms : Type 1 where
  pub before : List ℕ
  pub now : List ℕ
  pub may_wait : Key → Type 0
  pub excused : Key → Type 0

pub data Standing (moment : ℕ) (t : Terms) (id : ℕ) (announced : ByKey External) (waiting : KeySet)
    (originated : ByKey ℕ) (key : Key) (lsa : Lsa) (stored : ℕ) : Type 0 where
  Aged : is_max_age (age_at lsa.header.age stored moment) ≡ true
      → Standing moment t id announced waiting originated key lsa stored
  Says : (e : External) → same_key key (router_key id) ≡ false → finite.get announced key ≡ Some e
      → body_text lsa.body ≡ body_text (external_body e)
      → Standing moment t id announced waiting originated key lsa stored
  SaidBefore : same_key key (router_key id) ≡ true → body_text lsa.body ≡ t.before
      → Standing moment t id announced waiting originated key lsa stored
  SaysNow : same_key key (router_key id) ≡ true → body_text lsa.body ≡ t.now
      → Standing moment t id announced waiting originated key lsa stored
  Waits : t.may_wait key → IsWanted id announced key → set.contains waiting key ≡ true
      → Standing moment t id announced waiting originated key lsa stored
  HeldBack : (at : ℕ) → IsWanted id announced key → set.contains waiting key ≡ true
      → finite.get originated key ≡ Some at → moment < at + 5
      → Standing moment t id announced waiting originated key lsa stored
  Excused : t.excused key → Standing moment t id announced waiting originated key lsa stored

-- from one form of the invariant of a copy to another
pub record Recasts (moment : ℕ) (t u : Terms) (id : ℕ) (a b : ByKey External) (w v : KeySet)
    (o s : ByKey ℕ) (key : Key) (lsa : Lsa) (stored : ℕ) : Type 0 where
  pub announced : (e : External) → same_key key (router_key id) ≡ false → finite.get a key ≡ Some e
      → finite.get b key ≡ Some e
  pub waiting : set.contains w key ≡ true → set.contains v key ≡ true
  pub originated : (at : ℕ) → finite.get o key ≡ Some at → finite.get s key ≡ Some at
  pub before : same_key key (router_key id) ≡ true → body_text lsa.body ≡ t.before
      → Standing moment u id b v s key lsa stored
  pub now : same_key key (router_key id) ≡ true → body_text lsa.body ≡ t.now
      → Standing moment u id b v s key lsa stored
  pub may_wait : t.may_wait key → IsWanted id b key → set.contains v key ≡ true
      → Standing moment u id b v s key lsa stored
  pub excused : t.excused key → Standing moment u id b v s key lsa stored

module _ (moment : ℕ) (t u : Terms) (id : ℕ) (a b : ByKey External) (w v : KeySet) (o s : ByKey ℕ)
    (key : Key) (lsa : Lsa) (stored : ℕ)
    (by : Recasts moment t u id a b w v o s key lsa stored) where
  still_wanted : IsWanted id a key → IsWanted id b key
  still_wanted (inl is) = inl is
  still_wanted (inr is) = inr (is.0, (is.1.0, by.announced is.1.0 is.0 is.1.1))

  pub recast : Standing moment t id a w o key lsa stored → Standing moment u id b v s key lsa stored
  recast (Standing.Aged is) = Standing.Aged is
  recast (Standing.Says e other there is) = Standing.Says e other (by.announced e other there) is
  recast (Standing.SaidBefore same is) = by.before same is
  recast (Standing.SaysNow same is) = by.now same is
  recast (Standing.Waits may wanted there) =
      by.may_wait may (still_wanted wanted) (by.waiting there)
  recast (Standing.HeldBack at wanted there last recent) =
      Standing.HeldBack at (still_wanted wanted) (by.waiting there) (by.originated at last) recent
  recast (Standing.Excused is) = by.excused is

-- ---- no instance of its key was originated by this router after it was stored, and the invariant
-- holds of it if it is its own

abbrev pub Fits : ℕ → Terms → ℕ → ByKey External → KeySet → ByKey ℕ → Key → DatabaseCopy → Type 0
Fits moment t id announced waiting originated key c =
    ((at : ℕ) → finite.get originated key ≡ Some at → at ≤ c.stored)
    × (key.advertising_router ≡ id → Standing moment t id announced waiting originated key c.lsa
    c.stored)

-- ---- databases

pub if_there : (P R : Key → DatabaseCopy → Type 0) (key : Key) (o : Option DatabaseCopy)
    → ((c : DatabaseCopy) → o ≡ Some c → P key c → R key c) → IfThere P key o → IfThere R key o
if_there P R key None so h = tt
if_there P R key (Some c) so h = so c refl h

pub all_so : (P R : Key → DatabaseCopy → Type 0) (db : Database)
    → ((key : Key) (c : DatabaseCopy) → finite.get db key ≡ Some c → P key c → R key c) → AllIn P db
    → AllIn R db
all_so P R db so all key = if_there P R key (finite.get db key) (so key) (all key)

-- all copies except that of one key, and that one
pub closed_at : (P R : Key → DatabaseCopy → Type 0) (db : Database) (key : Key)
    → ((q : Key) (c : DatabaseCopy) → same_key q key ≡ false → P q c → R q c)
    → ((c : DatabaseCopy) → finite.get db key ≡ Some c → P key c → R key c) → AllIn P db
    → AllIn R db
closed_at P R db key others here = all_so P R db by_key
  where
    at : (q : Key) (c : DatabaseCopy) → q ≡ key → finite.get db q ≡ Some c → P q c → R q c
    at q c is there = subst (λ (k : Key). finite.get db k ≡ Some c → P k c → R k c) (sym is)
        (here c) there

    choose : (q : Key) (c : DatabaseCopy) (b : Bool) → same_key q key ≡ b → finite.get db q ≡ Some c
        → P q c → R q c
    choose q c true same there h = at q c (tied_key q key same) there h
    choose q c false other there h = others q c other h

    by_key : (q : Key) (c : DatabaseCopy) → finite.get db q ≡ Some c → P q c → R q c
    by_key q c there h = choose q c (same_key q key) refl there h

-- a copy replaces that of its key
pub put_at : (P R : Key → DatabaseCopy → Type 0) (db : Database) (key : Key) (c : DatabaseCopy)
    → ((q : Key) (d : DatabaseCopy) → same_key q key ≡ false → P q d → R q d) → R key c → AllIn P db
    → AllIn R (finite.insert db key c)
put_at P R db key c others here all q =
    subst (IfThere R q) (sym (finite.get-insert keys_total db key c q))
    (chosen (IfThere R q) (same_key q key) (Some c) (finite.get db q)
    (λ is. subst (λ (k : Key). R k c) (sym (tied_key q key is)) here)
    (λ other. if_there P R q (finite.get db q) (λ d there h. others q d other h) (all q)))

-- ---- what is sent marks copies, and changes nothing else

abbrev IsUnmarked : (Key → DatabaseCopy → Type 0) → Type 0
IsUnmarked P = (key : Key) (c : DatabaseCopy) (sent : Option ℕ) → P key c → P key (record c {
  sent = sent;
})

pub at_copy : (P : Key → DatabaseCopy → Type 0) (db : Database) (key : Key) (c : DatabaseCopy)
    → finite.get db key ≡ Some c → AllIn P db → P key c
at_copy P db key c there all = subst (IfThere P key) there (all key)

sent_by : (P : Key → DatabaseCopy → Type 0) → IsUnmarked P
    → (moment : ℕ) (key : Key) (db : Database) (o : Option DatabaseCopy) → finite.get db key ≡ o
    → AllIn P db
    → AllIn P (changed_by key (λ c. record c { sent = Some moment }) db o)
sent_by P same moment key db None there all = all
sent_by P same moment key db (Some c) there all = inserted_in P db key (record c {
  sent = Some moment;
}) all (same key c (Some moment) (at_copy P db key c there all))

marked_one : (P : Key → DatabaseCopy → Type 0) → IsUnmarked P
    → (moment : ℕ) (says : Content) (db : Database) → AllIn P db
    → AllIn P (marked_database moment db says)
marked_one P same moment (Content.SendsHello hello) db all = all
marked_one P same moment (Content.Describes d) db all = all
marked_one P same moment (Content.Requests keys) db all = all
marked_one P same moment (Content.Updates lsa) db all =
    sent_by P same moment (lsa_key lsa) db (finite.get db (lsa_key lsa)) refl all
marked_one P same moment (Content.Acknowledges header) db all = all

pub marked : (P : Key → DatabaseCopy → Type 0) → IsUnmarked P
    → (moment : ℕ) (more : List Send) (db : Database) → AllIn P db → AllIn P (marks moment more db)
marked P same moment [] db all = all
marked P same moment (s ∷ more) db all =
    marked P same moment more (marked_database moment db s.content)
    (marked_one P same moment s.content db all)

-- ---- premature aging

pub flushed_age : (moment : ℕ) → is_max_age (age_at 3600 moment moment) ≡ true
flushed_age moment = eq-eqb (min 3600 (3600 + (moment - moment))) 3600 (omega arith)

-- an age stays at MaxAge
pub stays_aged : (age stored before now : ℕ) → is_max_age (age_at age stored before) ≡ true → before
    ≤ now → is_max_age (age_at age stored now) ≡ true
stays_aged age stored before now is later =
    let at : min 3600 (age + (before - stored)) ≡ 3600 =
    eqb-true (min 3600 (age + (before - stored))) 3600 is in
    eq-eqb (min 3600 (age + (now - stored))) 3600 (omega arith)

pub aged_at : (P R : Key → DatabaseCopy → Type 0) (moment : ℕ) (db : Database) (key : Key)
    (c : DatabaseCopy) (o : Option DatabaseCopy) → finite.get db key ≡ o → o ≡ Some c
    → ((q : Key) (d : DatabaseCopy) → same_key q key ≡ false → P q d → R q d)
    → ((d : DatabaseCopy) → R key (flushed_copy moment d)) → AllIn P db
    → AllIn R (changed_by key (flushed_copy moment) db o)
aged_at P R moment db key c None there is others here all = absurd cc
aged_at P R moment db key c (Some d) there is others here all =
    put_at P R db key (flushed_copy moment d) others (here d) all
