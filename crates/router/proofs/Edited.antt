-- Edits of a router's maps and sets: `shown` is the router from its fields.
use Rattle.std.proofs.Common.{◌≡◌, ℕ, List, Result, OnOk, refl, ap, ◌∙◌}
use Rattle.std.specs.FinMap as finite
use Rattle.std.specs.FinSet as set
use Rattle.words.specs.declared.key.Key.{Key}
use Rattle.words.specs.declared.route.External.{External}
use Rattle.words.specs.declared.route.Route.{Route}
use Rattle.keyed_map.proofs.Helds.{on_ok}
use Rattle.lsdb.specs.Keys.{ByKey, KeySet}
use Rattle.event_rules.specs.Commands.{after_install, announce, unannounce}
use Rattle.event_rules.specs.EventState.{on_router}
use Rattle.event_rules.specs.Originations.{as_originated, forget_originations, is_recent, postpone}
use Rattle.event_rules.specs.Routers.{Router}
use Rattle.router.specs.Kept.{KeptRouter}
use Rattle.router.specs.Making.{Makes, RouterDoes, interfaces_of}
use Rattle.router.proofs.Making.{makes_on_router}

abbrev KeepsLinks : (Router → Router) → Type 0
KeepsLinks f = (r : Router) → interfaces_of (f r).area.links ≡ interfaces_of r.area.links

pub edit_makes : (f : Router → Router) → KeepsLinks f → (shown old new : KeptRouter) → shown ≡ old
    → new.committed ≡ shown.committed → new.present ≡ f shown.present → new.drafted ≡ shown.drafted
    → Makes (on_router f) old new
edit_makes f keeps shown old new view committed is drafted =
    makes_on_router f old new (keeps old.present)
    (committed ∙ ap (λ (r : KeptRouter). r.committed) view)
    (is ∙ ap (λ (r : KeptRouter). f r.present) view)
    (drafted ∙ ap (λ (r : KeptRouter). r.drafted) view)

edit_does : {X E : Type 0} (f : Router → Router) → KeepsLinks f → (shown old new : KeptRouter)
    (r : Result X E) → shown ≡ old → new.committed ≡ shown.committed
    → OnOk r (new.present ≡ f shown.present) → new.drafted ≡ shown.drafted
    → RouterDoes (on_router f) old new r
edit_does f keeps shown old new r view committed is drafted = record {
  committed = committed ∙ ap (λ (k : KeptRouter). k.committed) view;
  makes = on_ok r (λ to. edit_makes f keeps shown old new view committed to drafted) is;
}

module _ {X E : Type 0} (shown old : KeptRouter) (r : Result X E) (view : shown ≡ old) where
  -- the destinations that are announced, and as they were when last committed
  module _ (m s : ByKey External) (stays : s ≡ shown.committed.announced) (key : Key) where
    pub announces : (e : External) → OnOk r (m ≡ finite.insert shown.present.announced key e)
        → RouterDoes (on_router (announce key e)) old (record {
          present = record shown.present { announced = m };
          committed = record shown.committed { announced = s };
          drafted = shown.drafted;
        }) r
    announces e is =
        edit_does (announce key e) (λ x. refl) shown old (record {
          present = record shown.present { announced = m };
          committed = record shown.committed { announced = s };
          drafted = shown.drafted;
        }) r view (λ i. record shown.committed { announced = stays i })
        (on_ok r (λ to i. record shown.present { announced = to i }) is) refl

    pub withdraws : (w v : KeySet) → v ≡ shown.committed.waiting
        → m ≡ finite.remove shown.present.announced key
        → OnOk r (w ≡ set.remove shown.present.waiting key)
        → RouterDoes (on_router (unannounce key)) old (record {
          present = record shown.present { announced = m; waiting = w };
          committed = record shown.committed { announced = s; waiting = v };
          drafted = shown.drafted;
        }) r
    withdraws w v rests gone is =
        edit_does (unannounce key) (λ x. refl) shown old (record {
          present = record shown.present { announced = m; waiting = w };
          committed = record shown.committed { announced = s; waiting = v };
          drafted = shown.drafted;
        }) r view (λ i. record shown.committed { announced = stays i; waiting = rests i })
        (on_ok r (λ to i. record shown.present { announced = gone i; waiting = to i }) is) refl

  -- the keys that wait, and as they were when last committed
  module _ (w v : KeySet) (rests : v ≡ shown.committed.waiting) (key : Key) where
    pub waits : OnOk r (w ≡ set.insert shown.present.waiting key)
        → RouterDoes (on_router (postpone key)) old (record {
          present = record shown.present { waiting = w };
          committed = record shown.committed { waiting = v };
          drafted = shown.drafted;
        }) r
    waits is =
        edit_does (postpone key) (λ x. refl) shown old (record {
          present = record shown.present { waiting = w };
          committed = record shown.committed { waiting = v };
          drafted = shown.drafted;
        }) r view (λ i. record shown.committed { waiting = rests i })
        (on_ok r (λ to i. record shown.present { waiting = to i }) is) refl

    pub notes : (moment : ℕ) (m s : ByKey ℕ) → s ≡ shown.committed.originated
        → w ≡ set.remove shown.present.waiting key
        → OnOk r (m ≡ finite.insert shown.present.originated key moment)
        → RouterDoes (on_router (as_originated moment key)) old (record {
          present = record shown.present { waiting = w; originated = m };
          committed = record shown.committed { waiting = v; originated = s };
          drafted = shown.drafted;
        }) r
    notes moment m s stays gone is =
        edit_does (as_originated moment key) (λ x. refl) shown old (record {
          present = record shown.present { waiting = w; originated = m };
          committed = record shown.committed { waiting = v; originated = s };
          drafted = shown.drafted;
        }) r view (λ i. record shown.committed { waiting = rests i; originated = stays i })
        (on_ok r (λ to i. record shown.present { waiting = gone i; originated = to i }) is) refl

  pub forgets : (moment : ℕ) (m s : ByKey ℕ) → s ≡ shown.committed.originated
      → OnOk r (m ≡ finite.retain_keys shown.present.originated
      (λ key. is_recent moment (finite.get shown.present.originated key)))
      → RouterDoes (on_router (forget_originations moment)) old (record {
        present = record shown.present { originated = m };
        committed = record shown.committed { originated = s };
        drafted = shown.drafted;
      }) r
  forgets moment m s stays is =
      edit_does (forget_originations moment) (λ x. refl) shown old (record {
        present = record shown.present { originated = m };
        committed = record shown.committed { originated = s };
        drafted = shown.drafted;
      }) r view (λ i. record shown.committed { originated = stays i })
      (on_ok r (λ to i. record shown.present { originated = to i }) is) refl

-- the answers of an Install
pub answers_are : (shown old : KeptRouter) (answers now before : List (Route × ℕ)) → shown ≡ old
    → now ≡ answers → before ≡ shown.committed.answers
    → Makes (after_install answers) old (record {
      present = record shown.present { answers = now };
      committed = record shown.committed { answers = before };
      drafted = shown.drafted;
    })
answers_are shown old answers now before view is stays =
    edit_makes (λ (r : Router). record r { answers = answers }) (λ x. refl) shown old (record {
      present = record shown.present { answers = now };
      committed = record shown.committed { answers = before };
      drafted = shown.drafted;
    }) view (λ i. record shown.committed { answers = stays i })
    (λ i. record shown.present { answers = is i }) refl
