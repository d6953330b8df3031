-- The result of a complete event: the router, and the drafts of what was sent.
use Rattle.std.proofs.Common.{◌≡◌, ℕ, suc, ◌+◌, ◌≤◌, false, List, [], ◌∷◌, length, Result, Ok, Err}
use Rattle.std.proofs.Common.{OnOk, IfOk, refl, sym, ap, subst, ◌∙◌}
use Rattle.std.specs.List.{AllByRecursion}
use Rattle.adjacency.specs.Drafts.{Drafted}
use Rattle.adjacency.specs.Rooms.{HasRoom}
use Rattle.received.specs.AreaStates.{Send}
use Rattle.event_rules.specs.declared.model.CoreError.{CoreError}
use Rattle.event_rules.specs.declared.model.CoreError.TheVariants as error
use Rattle.event_rules.specs.declared.model.Out.{Out}
use Rattle.event_rules.specs.Endings.{end_event, flood_aged}
use Rattle.event_rules.specs.EventState.{EventState, on_area}
use Rattle.event_rules.specs.Packing.{outs_of}
use Rattle.event_rules.specs.Refusals.{exceeds}
use Rattle.event_rules.specs.Routers.{Router}
use Rattle.received.specs.Links.{Link}
use Rattle.area.specs.Drafted.{nothing_at}
use Rattle.router.specs.Making.{IsMaking, Makes, interfaces_of}
use Rattle.router.proofs.Making.{makes_then, making_starts}
use Rattle.router.specs.Kept.{KeptRouter}
use Rattle.flood.specs.declared.part.Part.{Part}
use Rattle.flood.specs.Drafts.{AreDrafts, AreDraftsFrom}
use Rattle.flood.specs.Parts.{PartHappens, RefusesAtLimit, after_event, after_part, made_state}
use Rattle.flood.proofs.Drafting.{are_drafts}

pub on_ok : {A E P Q : Type 0} (r : Result A E) → (P → Q) → OnOk r P → OnOk r Q
on_ok (Ok a) f p = f p
on_ok (Err e) f p = tt

pub if_ok : {A E : Type 0} {P Q : A → Type 0} (r : Result A E) → ((x : A) → P x → Q x) → IfOk r P
    → IfOk r Q
if_ok (Ok a) f p = f a p
if_ok (Err e) f p = tt

-- together with a property of the result
pub if_ok_with : {A E : Type 0} {P R : A → Type 0} {Q : Type 0} (r : Result A E)
    → ((x : A) → P x → Q → R x) → IfOk r P → OnOk r Q → IfOk r R
if_ok_with (Ok a) f p q = f a p q
if_ok_with (Err e) f p q = tt

pub ok_if : {A E : Type 0} {P : A → Type 0} {Q : Type 0} (r : Result A E) → ((x : A) → P x → Q)
    → IfOk r P → OnOk r Q
ok_if (Ok a) f p = f a p
ok_if (Err e) f p = tt

-- no limit is exceeded if that isn't the refusal
pub stays_within : {X : Type 0} (r : Result X CoreError) (new : Router)
    → RefusesAtLimit {X = X} new r
    → OnOk r (exceeds new ≡ false)
stays_within (Ok x) new tells = tells
stays_within (Err error.Memory) new tells = tt
stays_within (Err (error.BadPacket f)) new tells = tt
stays_within (Err error.NoInterface) new tells = tt
stays_within (Err error.Clash) new tells = tt
stays_within (Err error.ClockBack) new tells = tt
stays_within (Err error.Full) new tells = tt

-- ---- aging, the own part, and the end

-- the complete event in its three parts
pub made_whole : (old aged parted new : KeptRouter) (moment : ℕ) (p : Part)
    → old.committed ≡ old.present
    → Makes (on_area (flood_aged old.present.moment moment)) old aged
    → Makes (after_part p moment) aged parted → Makes (end_event parted.committed moment) parted new
    → Makes (after_event old.present moment p) old new
made_whole old aged parted new moment p is ages part end =
    makes_then (makes_then ages part)
    (subst (λ (r : Router). Makes (end_event r moment) parted new)
    (part.committed ∙ ages.committed ∙ is) end)

-- ---- its result

few_from : (n : ℕ) (links : List Link) (sends : List Send) (ds : List Drafted)
    → AreDraftsFrom n links sends ds → length ds ≡ length links
few_from n [] sends [] are = refl
few_from n [] sends (d ∷ ds) are = absurd are
few_from n (link ∷ links) sends [] are = absurd are
few_from n (link ∷ links) sends (d ∷ ds) (one, others) =
    ap (λ (k : ℕ). suc k) (few_from (n + 1) links sends ds others)

-- at most 63 links have as few drafts
pub few_drafts : (links : List Link) (sends : List Send) (ds : List Drafted)
    → AreDrafts links sends ds → length links ≤ 63 → length ds ≤ 63
few_drafts links sends ds are few =
    subst (λ (n : ℕ). n ≤ 63) (sym (few_from 1 links sends ds are.from)) few

-- `made` is the router at the end, whose drafts are taken away then
module _ (old made : KeptRouter) (new : Router) (drafts : List Drafted) (moment : ℕ) (p : Part)
    (m : Makes (after_event old.present moment p) old made)
    (none : old.drafted ≡ nothing_at old.present.area.links) (is : new ≡ made.present)
    (taken : drafts ≡ made.drafted) where
  abbrev begun : EventState
  begun = record { router = old.present; sends = [] }

  ended : IsMaking (made_state old.present moment p) (nothing_at old.present.area.links) made
  ended = m.part begun (nothing_at old.present.area.links)
      (subst (λ ds. IsMaking begun ds old) none (making_starts old))

  pub made_router : new ≡ (made_state old.present moment p).router
  made_router = is ∙ ended.router

  pub made_drafts : AllByRecursion (λ (s : Send). HasRoom s.content)
      (made_state old.present moment p).sends
      → AreDrafts old.present.area.links (made_state old.present moment p).sends drafts
  made_drafts room =
      subst (AreDrafts old.present.area.links (made_state old.present moment p).sends)
      (sym (taken ∙ ended.drafts))
      (are_drafts (made_state old.present moment p).sends room old.present.area.links
      (made_state old.present moment p).router.area.links
      (ap (λ (r : Router). interfaces_of r.area.links) (sym ended.router) ∙ m.interfaces))

  -- what is sent
  pub made_sent : (own : ℕ) (sent : List Out) → own ≡ old.present.id
      → sent ≡ outs_of own old.present.area.links (made_state old.present moment p).sends
      → PartHappens old.present moment p sent new
  made_sent own sent same outs = record {
    router = made_router;
    outs = outs ∙ ap (λ id. outs_of id old.present.area.links
        (made_state old.present moment p).sends) same;
  }
