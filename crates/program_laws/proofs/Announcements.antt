-- What is announced is the result of the operator's commands, each for its own key: so two runs
-- that differ in the answers for one key announce the same otherwise.
use Rattle.std.proofs.Common.{◌≡◌, ℕ, Bool, true, false, cond, List, [], ◌∷◌, Option, None, Some}
use Rattle.std.proofs.Common.{refl, sym, ◌∙◌, ap, subst}
use Rattle.std.specs.Prelude.{nat_le}
use Rattle.std.specs.List.{cons_option}
use Rattle.std.specs.FinMap as finite
use Rattle.words.specs.Constants.{ls_infinity}
use Rattle.words.specs.Numbers.{Moment, RouterNumber}
use Rattle.words.specs.Prefixes.{Network}
use Rattle.words.specs.declared.key.Key.{Key}
use Rattle.words.specs.declared.route.External.{External}
use Rattle.lsdb.specs.Keys.{ByKey, same_key}
use Rattle.event_rules.specs.Commands.{after_redistribute, announce, announce_as, answered_external}
use Rattle.event_rules.specs.Commands.{end_want, is_announced_as, is_for}
use Rattle.event_rules.specs.Endings.{end_event, start_event}
use Rattle.event_rules.specs.Events.{Happens, OwnPart, Run, Step}
use Rattle.event_rules.specs.EventState.{EventState, on_router}
use Rattle.event_rules.specs.Originations.{announced_body, external_key, originate_anyway}
use Rattle.event_rules.specs.Originations.{router_body}
use Rattle.event_rules.specs.Originations.{router_key, wanted_body}
use Rattle.event_rules.specs.Routers.{Occurrence, Router}
use Rattle.event_rules.specs.declared.model.Out.{Out}
use Rattle.program_laws.specs.Announcements.{OtherAnnouncementsStayTheSame, asked_but, asked_in}
use Rattle.program_laws.proofs.Announced.{Told, by_body, ended, received, redistributed_id, ticked}
use Rattle.program_laws.proofs.Announced.{told, withdrawn_id}
use Rattle.program_laws.proofs.Apart as apart

-- ---- the announced destinations after an event

abbrev redistributed : RouterNumber → External → ℕ → ℕ → ByKey External → ByKey External
redistributed own e tag price m =
    let k : Key = external_key own e.prefix in
    cond (nat_le ls_infinity price) (finite.remove m k)
    (cond (is_announced_as (answered_external e tag price) (finite.get m k)) m
    (finite.insert m k (answered_external e tag price)))

abbrev withdrawn : RouterNumber → Network → ByKey External → ByKey External
withdrawn own prefix m = cond (is_for prefix (finite.get m (external_key own prefix)))
    (finite.remove m (external_key own prefix)) m

abbrev made : RouterNumber → Occurrence → ByKey External → ByKey External
made own (Occurrence.Packet number bytes) m = m
made own Occurrence.Tick m = m
made own (Occurrence.Redistribute tagged tag priced price) m = redistributed own priced tag price m
made own (Occurrence.Withdraw prefix) m = withdrawn own prefix m
made own (Occurrence.Install answers) m = m
made own (Occurrence.LinkDown number) m = m

announced_by : (b : Bool) (x y : EventState) → (cond b x y).router.announced
    ≡ cond b x.router.announced y.router.announced
announced_by true x y = refl
announced_by false x y = refl

is_redistributed : (moment : Moment) (e : External) (tag price : ℕ) (p : EventState)
    → (after_redistribute moment e tag price p).router.announced
    ≡ redistributed p.router.id e tag price p.router.announced
is_redistributed moment e tag price p =
    let k : Key = external_key p.router.id e.prefix in
    let x : External = answered_external e tag price in
    let q : EventState = on_router (announce k x) p in
    let high : Bool = nat_le ls_infinity price in
    let same : Bool = is_announced_as x (finite.get p.router.announced k) in
    let anyway : (originate_anyway moment k q).router.announced
    ≡ finite.insert p.router.announced k x =
    ap (λ (t : Told). t.1) (by_body true moment k (wanted_body q.router k) q) in
    announced_by high (end_want moment k p) (announce_as moment k x p)
    ∙ ap (λ (m : ByKey External). cond high (finite.remove p.router.announced k) m)
    (announced_by same p (originate_anyway moment k q)
    ∙ ap (λ (m : ByKey External). cond same p.router.announced m) anyway)

part_made : (moment : Moment) (event : Occurrence) (p after : EventState)
    → OwnPart moment event p after → (after.router.id ≡ p.router.id)
    × (after.router.announced ≡ made p.router.id event p.router.announced)
part_made moment (Occurrence.Packet number bytes) p after part =
    let e : told after ≡ told p = ap told part.2 ∙ received moment number part.0 p in
    (ap (λ (t : Told). t.0) e, ap (λ (t : Told). t.1) e)
part_made moment Occurrence.Tick p after part =
    let e : told after ≡ told p = ap told part ∙ ticked moment p in
    (ap (λ (t : Told). t.0) e, ap (λ (t : Told). t.1) e)
part_made moment (Occurrence.Redistribute tagged tag priced price) p after part = (
  ap (λ (q : EventState). q.router.id) part ∙ redistributed_id moment priced tag price p,
  ap (λ (q : EventState). q.router.announced) part ∙ is_redistributed moment priced tag price p,
)
part_made moment (Occurrence.Withdraw prefix) p after part = (
  ap (λ (q : EventState). q.router.id) part ∙ withdrawn_id moment prefix p,
  ap (λ (q : EventState). q.router.announced) part
      ∙ announced_by (is_for prefix (finite.get p.router.announced
      (external_key p.router.id prefix))) (end_want moment (external_key p.router.id prefix) p)
      p,
)
part_made moment (Occurrence.Install answers) p after part =
    (ap (λ (q : EventState). q.router.id) part, ap (λ (q : EventState). q.router.announced) part)
part_made moment (Occurrence.LinkDown number) p after part =
    (ap (λ (q : EventState). q.router.id) part, ap (λ (q : EventState). q.router.announced) part)

event_made : (old : Router) (moment : Moment) (event : Occurrence) (outs : List Out) (new : Router)
    → Happens old moment event outs new → (new.id ≡ old.id)
    × (new.announced ≡ made old.id event old.announced)
event_made old moment event outs new it =
    let own = part_made moment event (start_event moment old) it.after it.own in
    let end : told (end_event old moment it.after) ≡ told it.after = ended old moment it.after in (
      ap (λ (r : Router). r.id) it.router ∙ ap (λ (t : Told). t.0) end ∙ own.0,
      ap (λ (r : Router). r.announced) it.router ∙ ap (λ (t : Told). t.1) end ∙ own.1,
    )

-- ---- other keys

module _ (own : RouterNumber) (key : Key) where
  abbrev Agree : ByKey External → ByKey External → Type 0
  Agree m n = apart.Agree key m n

  same : (m : ByKey External) → Agree m m
  same m q other = refl

  by_test : (b : Bool) (x y z w : ByKey External) → Agree x z → Agree y w
      → Agree (cond b x y) (cond b z w)
  by_test true x y z w one other = one
  by_test false x y z w one other = other

  by_either : (b : Bool) (x y z : ByKey External) → Agree x z → Agree y z → Agree (cond b x y) z
  by_either true x y z one other = one
  by_either false x y z one other = other

  -- for the key itself
  removed_at : (k : Key) → same_key k key ≡ true → (m : ByKey External)
      → Agree (finite.remove m k) m
  removed_at k is m = subst (λ (q : Key). Agree (finite.remove m q) m)
      (sym (apart.tied_key k key is)) (apart.removed_agrees key m)

  inserted_at : (k : Key) → same_key k key ≡ true → (m : ByKey External) (x : External)
      → Agree (finite.insert m k x) m
  inserted_at k is m x = subst (λ (q : Key). Agree (finite.insert m q x) m)
      (sym (apart.tied_key k key is)) (apart.inserted_agrees key m x)

  redistributed_at : (e : External) (tag price : ℕ) (m : ByKey External)
      → same_key (external_key own e.prefix) key ≡ true → Agree (redistributed own e tag price m) m
  redistributed_at e tag price m is =
      let k : Key = external_key own e.prefix in
      let x : External = answered_external e tag price in
      by_either (nat_le ls_infinity price) (finite.remove m k)
      (cond (is_announced_as x (finite.get m k)) m (finite.insert m k x)) m (removed_at k is m)
      (by_either (is_announced_as x (finite.get m k)) m (finite.insert m k x) m (same m)
      (inserted_at k is m x))

  withdrawn_at : (prefix : Network) (m : ByKey External) → same_key (external_key own prefix) key
      ≡ true → Agree (withdrawn own prefix m) m
  withdrawn_at prefix m is =
      let k : Key = external_key own prefix in
      by_either (is_for prefix (finite.get m k)) (finite.remove m k) m m (removed_at k is m)
      (same m)

  -- for another key
  redistributed_alike : (e : External) (tag price : ℕ) (m n : ByKey External) → Agree m n
      → same_key (external_key own e.prefix) key ≡ false
      → Agree (redistributed own e tag price m) (redistributed own e tag price n)
  redistributed_alike e tag price m n agree other =
      let k : Key = external_key own e.prefix in
      let x : External = answered_external e tag price in
      subst (λ (o : Option External). Agree (redistributed own e tag price m)
      (cond (nat_le ls_infinity price) (finite.remove n k)
      (cond (is_announced_as x o) n (finite.insert n k x)))) (agree k other)
      (by_test (nat_le ls_infinity price) (finite.remove m k)
      (cond (is_announced_as x (finite.get m k)) m (finite.insert m k x)) (finite.remove n k)
      (cond (is_announced_as x (finite.get m k)) n (finite.insert n k x))
      (apart.agree_removed key m n agree k)
      (by_test (is_announced_as x (finite.get m k)) m (finite.insert m k x) n (finite.insert n k x)
      agree (apart.agree_inserted key m n agree k x)))

  withdrawn_alike : (prefix : Network) (m n : ByKey External) → Agree m n
      → same_key (external_key own prefix) key ≡ false
      → Agree (withdrawn own prefix m) (withdrawn own prefix n)
  withdrawn_alike prefix m n agree other =
      let k : Key = external_key own prefix in
      subst (λ (o : Option External). Agree (withdrawn own prefix m)
      (cond (is_for prefix o) (finite.remove n k) n)) (agree k other)
      (by_test (is_for prefix (finite.get m k)) (finite.remove m k) m (finite.remove n k) n
      (apart.agree_removed key m n agree k) agree)

  -- ---- the commands, in turn

  abbrev made_of : Option Occurrence → ByKey External → ByKey External
  made_of None m = m
  made_of (Some event) m = made own event m

  abbrev all_made : List Occurrence → ByKey External → ByKey External
  all_made [] m = m
  all_made (event ∷ events) m = all_made events (made own event m)

  through : (l m n : ByKey External) → Agree l m → Agree m n → Agree l n
  through l m n one two = apart.joined key l m n one two

  asked_redistribute : (tagged : External) (tag : ℕ) (e : External) (price : ℕ)
      (m n : ByKey External) → Agree m n → (b : Bool) → same_key (external_key own e.prefix) key ≡ b
      → Agree (redistributed own e tag price m)
      (made own (cond b (Occurrence.Redistribute e 0 e 0)
      (Occurrence.Redistribute tagged tag e price)) n)
  asked_redistribute tagged tag e price m n agree true is =
      through (redistributed own e tag price m) m (redistributed own e 0 0 n)
      (redistributed_at e tag price m is)
      (through m n (redistributed own e 0 0 n) agree
      (apart.turned key (redistributed own e 0 0 n) n (redistributed_at e 0 0 n is)))
  asked_redistribute tagged tag e price m n agree false other =
      redistributed_alike e tag price m n agree other

  asked_withdraw : (prefix : Network) (m n : ByKey External) → Agree m n → (b : Bool)
      → same_key (external_key own prefix) key ≡ b
      → Agree (withdrawn own prefix m) (withdrawn own prefix n)
  asked_withdraw prefix m n agree true is =
      through (withdrawn own prefix m) m (withdrawn own prefix n) (withdrawn_at prefix m is)
      (through m n (withdrawn own prefix n) agree
      (apart.turned key (withdrawn own prefix n) n (withdrawn_at prefix n is)))
  asked_withdraw prefix m n agree false other = withdrawn_alike prefix m n agree other

  one_asked : (event : Occurrence) (m n : ByKey External) → Agree m n
      → Agree (made own event m) (made_of (asked_in own key event) n)
  one_asked (Occurrence.Packet number bytes) m n agree = agree
  one_asked Occurrence.Tick m n agree = agree
  one_asked (Occurrence.Redistribute tagged tag priced price) m n agree =
      asked_redistribute tagged tag priced price m n agree
      (same_key (external_key own priced.prefix) key) refl
  one_asked (Occurrence.Withdraw prefix) m n agree =
      asked_withdraw prefix m n agree (same_key (external_key own prefix) key) refl
  one_asked (Occurrence.Install answers) m n agree = agree
  one_asked (Occurrence.LinkDown number) m n agree = agree

  first_made : (o : Option Occurrence) (events : List Occurrence) (n : ByKey External)
      → all_made (cons_option o events) n ≡ all_made events (made_of o n)
  first_made None events n = refl
  first_made (Some event) events n = refl

  follows : (steps : List Step) (old new : Router) → old.id ≡ own → Run old steps new
      → (n : ByKey External) → Agree old.announced n → (new.id ≡ own)
      × Agree new.announced (all_made (asked_but own key steps) n)
  follows [] old new id is n agree = (
    ap (λ (r : Router). r.id) is ∙ id,
    subst (λ (r : Router). Agree r.announced n) (sym is) agree,
  )
  follows (s ∷ steps) old new id run n agree =
      let one = event_made old s.moment s.event s.outs run.0 run.1 in
      let next : ByKey External = made_of (asked_in own key s.event) n in
      let here : Agree (made own s.event old.announced) next =
      one_asked s.event old.announced n agree in
      let is : run.0.announced ≡ made own s.event old.announced = one.1
      ∙ ap (λ (i : RouterNumber). made i s.event old.announced) id in
      let rest = follows steps run.0 new (one.0 ∙ id) run.2 next
      (subst (λ (m : ByKey External). Agree m next) (sym is) here) in (
        rest.0,
        subst (λ (m : ByKey External). Agree new.announced m)
            (sym (first_made (asked_in own key s.event) (asked_but own key steps) n)) rest.1,
      )

wanted_elsewhere : (new next : Router) (own : RouterNumber) (other : Key) → new.id ≡ own → next.id
    ≡ own → same_key other (router_key own) ≡ false → finite.get new.announced other
    ≡ finite.get next.announced other → wanted_body new other ≡ wanted_body next other
wanted_elsewhere new next own other new_id next_id away there = of_announced new new_id
    ∙ ap announced_body there ∙ sym (of_announced next next_id)
  where
    of_announced : (r : Router) → r.id ≡ own → wanted_body r other
        ≡ announced_body (finite.get r.announced other)
    of_announced r id =
        ap (λ (b : Bool). cond b (Some (router_body r.area.links))
        (announced_body (finite.get r.announced other)))
        (ap (λ (i : RouterNumber). same_key other (router_key i)) id ∙ away)

pub other_announcements : OtherAnnouncementsStayTheSame
other_announcements old key steps others new next run another asked other away =
    let one = follows old.id key steps old new refl run old.announced
    (same old.id key old.announced) in
    let two = follows old.id key others old next refl another old.announced
    (same old.id key old.announced) in
    let there : finite.get new.announced other ≡ finite.get next.announced other =
    one.1 other away ∙ ap (λ (events : List Occurrence). finite.get
    (all_made old.id key events old.announced) other) asked ∙ sym (two.1 other away) in
    (there, λ apart_. wanted_elsewhere new next old.id other one.0 two.0 apart_ there)
