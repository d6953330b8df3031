-- The result of a call on links and database, as a part of an event: `shown` is the router from its
-- fields.
use Rattle.std.proofs.Common.{◌≡◌, [], Result, Ok, Err, OnOk, sym, ap, ◌∙◌}
use Rattle.received.specs.Links.{Area}
use Rattle.received.specs.AreaStates.{AreaState}
use Rattle.event_rules.specs.EventState.{EventState, on_area}
use Rattle.area.specs.Doing.{AreaDoes}
use Rattle.area.specs.Drafted.{drafts_with, nothing_at}
use Rattle.area.specs.Kept.{RouterArea}
use Rattle.area.specs.Links.{with_no_sends}
use Rattle.area.proofs.Sends.{drafted_none}
use Rattle.router.specs.Kept.{KeptRouter}
use Rattle.router.specs.Making.{Makes, RouterDoes}
use Rattle.router.proofs.Making.{Appends, KeepsInterfaces, makes_on_area, then_does}

pub both : {A E P Q S : Type 0} (r : Result A E) → (P → Q → S) → OnOk r P → OnOk r Q → OnOk r S
both (Ok a) f p q = f p q
both (Err e) f p q = tt

-- with these links and this database
abbrev pub with_area : RouterArea → KeptRouter → KeptRouter
with_area a r = record {
  present = record r.present { area = a.present };
  committed = record r.committed { area = a.committed };
  drafted = a.drafted;
}

module _ (shown old : KeptRouter) (a b : RouterArea) (view : shown ≡ old)
    (whole : with_area a shown ≡ shown) where
  pub area_stays : b.committed ≡ a.committed → (with_area b shown).committed ≡ old.committed
  area_stays committed =
      (λ i. record shown.committed { area = committed i })
      ∙ ap (λ (r : KeptRouter). r.committed) (whole ∙ view)

  -- the drafts are taken away
  pub drafts_leave : b ≡ record a { drafted = nothing_at a.present.links }
      → with_area b shown ≡ record old { drafted = nothing_at old.present.area.links }
  drafts_leave is =
      (λ i. with_area (is i) shown)
      ∙ ap (λ (r : KeptRouter). record r { drafted = nothing_at r.present.area.links })
      (whole ∙ view)

module _ (F : AreaState → AreaState) (keeps : KeepsInterfaces F) (appends : Appends F)
    (shown old : KeptRouter) (a b : RouterArea) where
  area_makes : shown ≡ old → with_area a shown ≡ shown → b.committed ≡ a.committed
      → b.present ≡ (F (with_no_sends a.present)).area
      → b.drafted ≡ drafts_with (F (with_no_sends a.present)).sends a.present.links a.drafted
      → Makes (on_area F) old (with_area b shown)
  area_makes view whole committed is drafts =
      let same : with_area a shown ≡ old = whole ∙ view in
      makes_on_area F appends keeps old (with_area b shown)
      (area_stays shown old a b view whole committed)
      ((λ i. record shown.present { area = is i })
      ∙ ap (λ (r : KeptRouter). record r.present { area = (F (with_no_sends r.present.area)).area })
      same)
      (drafts
      ∙ ap (λ (r : KeptRouter). drafts_with (F (with_no_sends r.present.area)).sends
      r.present.area.links
      r.drafted) same)

  -- what the call does to these links and this database is F
  pub area_does : {X E : Type 0} {f : Area → AreaState} (r : Result X E) → shown ≡ old
      → with_area a shown ≡ shown → AreaDoes f a b r → f a.present ≡ F (with_no_sends a.present)
      → RouterDoes (on_area F) old (with_area b shown) r
  area_does r view whole does same = record {
    committed = area_stays shown old a b view whole does.committed;
    makes = both r (λ is drafts. area_makes view whole does.committed
        (is ∙ ap (λ (o : AreaState). o.area) same)
        (drafts ∙ ap (λ (o : AreaState). drafts_with o.sends a.present.links a.drafted) same))
        does.area does.drafts;
  }

  -- if nothing is sent, each draft stays the same
  pub makes_alone : shown ≡ old → with_area a shown ≡ shown
      → b ≡ record a {
        present = (F (with_no_sends a.present)).area;
      } → (F (with_no_sends a.present)).sends ≡ []
      → Makes (on_area F) old (with_area b shown)
  makes_alone view whole to none =
      area_makes view whole (ap (λ (x : RouterArea). x.committed) to)
      (ap (λ (x : RouterArea). x.present) to)
      (ap (λ (x : RouterArea). x.drafted) to ∙ drafted_none 1 a.present.links a.drafted
      ∙ ap (λ sends. drafts_with sends a.present.links a.drafted) (sym none))

  -- the call comes after a part that led to these links and this database
  pub area_then : {X E : Type 0} {f : Area → AreaState} {first : EventState → EventState}
      (r : Result X E) → shown ≡ old → Makes first old (with_area a shown) → AreaDoes f a b r
      → f a.present ≡ F (with_no_sends a.present)
      → RouterDoes (λ p. on_area F (first p)) old (with_area b shown) r
  area_then {X} {E} {f} {first} r view made does same =
      let middle : KeptRouter = with_area a shown in
      then_does r made
      (record {
        committed = λ i. record shown.committed { area = does.committed i };
        makes = both r (λ is drafts. makes_on_area F appends keeps middle (with_area b shown)
            (λ i. record shown.committed { area = does.committed i })
            (λ i. record shown.present { area = (is ∙ ap (λ (o : AreaState). o.area) same) i })
            (drafts ∙ ap (λ (o : AreaState). drafts_with o.sends a.present.links a.drafted) same))
            does.area does.drafts;
      })
