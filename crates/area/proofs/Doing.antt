-- What calls do to a link, to several links, and to links and database: from one form to another.
use Rattle.std.proofs.Common.{◌≡◌, Result, Ok, Err, OnOk, IfOk, IsErr, refl, sym, ap, ◌∙◌}
use mathlib.Core.Bool.{true≢false}
use Rattle.keyed_map.proofs.Helds.{on_ok}
use Rattle.received.specs.Links.{Area}
use Rattle.received.specs.AreaStates.{AreaState}
pub use Rattle.adjacency.proofs.Doing.{always}
use Rattle.area.specs.Doing.{AreaDoes}
use Rattle.area.specs.Drafted.{drafts_with}
use Rattle.area.specs.Kept.{RouterArea}
use Rattle.area.specs.Links.{with_no_sends}
use Rattle.area.proofs.Sends.{drafted_none}

-- nothing is said of a call that errs
pub on_err : {A E : Type 0} (r : Result A E) (P : Type 0) → IsErr r → OnOk r P
on_err (Ok a) P is = absurd (true≢false (sym is))
on_err (Err e) P is = tt

pub if_ok : {A E : Type 0} {P Q : A → Type 0} (r : Result A E) → ((x : A) → P x → Q x) → IfOk r P
    → IfOk r Q
if_ok (Ok a) f p = f a p
if_ok (Err e) f p = tt

-- nothing changes
pub area_rests : {X E : Type 0} (f : Area → AreaState) (a : RouterArea) (r : Result X E)
    → with_no_sends a.present ≡ f a.present → AreaDoes f a a r
area_rests f a r is = record {
  area = always r (ap (λ (o : AreaState). o.area) is);
  drafts = always r (drafted_none 1 a.present.links a.drafted
      ∙ ap (λ (o : AreaState). drafts_with o.sends a.present.links a.drafted) is);
  committed = refl;
  router = refl;
}

-- two definitions that agree for this area
pub area_same : {X E : Type 0} (f g : Area → AreaState) (a b : RouterArea) (r : Result X E)
    → f a.present ≡ g a.present → AreaDoes f a b r → AreaDoes g a b r
area_same f g a b r same does = record {
  area = on_ok r (λ is. is ∙ ap (λ (o : AreaState). o.area) same) does.area;
  drafts = on_ok r (λ is.
      is ∙ ap (λ (o : AreaState). drafts_with o.sends a.present.links a.drafted) same) does.drafts;
  committed = does.committed;
  router = does.router;
}
