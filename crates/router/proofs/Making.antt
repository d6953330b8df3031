-- The parts of an event in turn, and one part at one router.
use Rattle.std.proofs.Common.{◌≡◌, Bool, true, false, cond, List, [], ◌++◌, length, Result}
use Rattle.std.proofs.Common.{IsErr, refl, sym, ap, subst, ◌∙◌}
use Rattle.std.proofs.lemmas.List.{length-map}
use Rattle.keyed_map.proofs.Helds.{on_ok}
use Rattle.adjacency.specs.Drafts.{Drafted}
use Rattle.received.specs.Links.{Area, Link}
use Rattle.received.specs.AreaStates.{AreaState}
use Rattle.event_rules.specs.EventState.{EventState, on_area, on_router}
use Rattle.event_rules.specs.Routers.{Router}
use Rattle.area.specs.Drafted.{drafts_with}
use Rattle.area.specs.Links.{with_no_sends}
use Rattle.area.proofs.Doing.{always, on_err}
use Rattle.area.proofs.Sends.{drafted_none}
use Rattle.router.specs.Aging.{outcomes_in_turn}
use Rattle.router.specs.Kept.{KeptRouter}
use Rattle.router.specs.Making.{IsMaking, Makes, RouterDoes, interfaces_of}
use Rattle.router.proofs.Drafts.{drafted_append, drafted_same}

-- ---- the with_no_sends of an event: nothing was sent yet

pub making_starts : (r : KeptRouter) → IsMaking (record {
  router = r.present;
  sends = [];
}) r.drafted r
making_starts r = record {
  router = refl;
  drafts = drafted_none 1 r.present.area.links r.drafted;
}

-- ---- one part after another

pub makes_nothing : (r : KeptRouter) → Makes (λ p. p) r r
makes_nothing r = record { committed = refl; interfaces = refl; part = λ p first is. is }

pub makes_then : {f g : EventState → EventState} {old middle new : KeptRouter}
    → Makes f old middle → Makes g middle new → Makes (λ p. g (f p)) old new
makes_then {f} {g} {old} {middle} {new} a b = record {
  committed = b.committed ∙ a.committed;
  interfaces = b.interfaces ∙ a.interfaces;
  part = λ p first is. b.part (f p) first (a.part p first is);
}

-- parts that agree for this router
pub makes_same : {f g : EventState → EventState} {old new : KeptRouter}
    → ((p : EventState) → p.router ≡ old.present → f p ≡ g p) → Makes f old new → Makes g old new
makes_same {f} {g} {old} {new} agree a = record {
  committed = a.committed;
  interfaces = a.interfaces;
  part = λ p first is. subst (λ q. IsMaking q first new) (agree p (sym is.router))
      (a.part p first is);
}

pub makes_if_true : (f g : EventState → EventState) {old new : KeptRouter} (test : Router → Bool)
    → test old.present ≡ true → Makes f old new
    → Makes (λ p. cond (test p.router) (f p) (g p)) old new
makes_if_true f g {old} {new} test holds a =
    makes_same (λ p is. ap (λ b. cond b (f p) (g p)) (sym (ap test is ∙ holds))) a

pub makes_if_false : (f g : EventState → EventState) {old new : KeptRouter} (test : Router → Bool)
    → test old.present ≡ false → Makes g old new
    → Makes (λ p. cond (test p.router) (f p) (g p)) old new
makes_if_false f g {old} {new} test fails a =
    makes_same (λ p is. ap (λ b. cond b (f p) (g p)) (sym (ap test is ∙ fails))) a

pub as_many_links : {f : EventState → EventState} {old new : KeptRouter} → Makes f old new
    → length new.present.area.links ≡ length old.present.area.links
as_many_links {f} {old} {new} a =
    sym (length-map new.present.area.links (λ (l : Link). l.interface))
    ∙ ap length a.interfaces ∙ length-map old.present.area.links (λ (l : Link). l.interface)

-- ---- calls that may be refused an allocation

-- nothing more is to be done
pub done : {X E : Type 0} {f : EventState → EventState} {old new : KeptRouter} (r : Result X E)
    → Makes f old new → RouterDoes f old new r
done r a = record { committed = a.committed; makes = always r a }

pub refused : {X E : Type 0} {f : EventState → EventState} {old new : KeptRouter} (r : Result X E)
    → IsErr r → new.committed ≡ old.committed → RouterDoes f old new r
refused r is stays = record { committed = stays; makes = on_err r _ is }

-- the call comes after a part
pub then_does : {X E : Type 0} {f g : EventState → EventState} {old middle new : KeptRouter}
    (r : Result X E) → Makes f old middle → RouterDoes g middle new r
    → RouterDoes (λ p. g (f p)) old new r
then_does r a b = record {
  committed = b.committed ∙ a.committed;
  makes = on_ok r (λ m. makes_then a m) b.makes;
}

pub does_same : {X E : Type 0} {f g : EventState → EventState} {old new : KeptRouter}
    (r : Result X E) → ((p : EventState) → p.router ≡ old.present → f p ≡ g p)
    → RouterDoes f old new r → RouterDoes g old new r
does_same r agree a = record {
  committed = a.committed;
  makes = on_ok r (λ m. makes_same agree m) a.makes;
}

pub does_if_true : {X E : Type 0} (f g : EventState → EventState) {old new : KeptRouter}
    (r : Result X E) (test : Router → Bool) → test old.present ≡ true → RouterDoes f old new r
    → RouterDoes (λ p. cond (test p.router) (f p) (g p)) old new r
does_if_true f g {old} {new} r test holds a = record {
  committed = a.committed;
  makes = on_ok r (λ m. makes_if_true f g test holds m) a.makes;
}

pub does_if_false : {X E : Type 0} (f g : EventState → EventState) {old new : KeptRouter}
    (r : Result X E) (test : Router → Bool) → test old.present ≡ false → RouterDoes g old new r
    → RouterDoes (λ p. cond (test p.router) (f p) (g p)) old new r
does_if_false f g {old} {new} r test fails a = record {
  committed = a.committed;
  makes = on_ok r (λ m. makes_if_false f g test fails m) a.makes;
}

-- ---- a change of the router that keeps the interfaces of its links

pub makes_on_router : (f : Router → Router) (old new : KeptRouter)
    → interfaces_of (f old.present).area.links ≡ interfaces_of old.present.area.links
    → new.committed ≡ old.committed → new.present ≡ f old.present → new.drafted ≡ old.drafted
    → Makes (on_router f) old new
makes_on_router f old new stays committed is drafted = record {
  committed = committed;
  interfaces = ap (λ (r : Router). interfaces_of r.area.links) is ∙ stays;
  part = λ p first made. record {
    router = is ∙ ap f made.router;
    drafts =
        drafted ∙ made.drafts
        ∙ drafted_same p.sends p.router.area.links (f p.router).area.links first
        (sym (subst (λ (r : Router). interfaces_of (f r).area.links ≡ interfaces_of r.area.links)
        made.router stays));
  };
}

-- ---- a change of links and database

-- what is sent comes after what was sent before, and doesn't depend on it
abbrev pub Appends : (AreaState → AreaState) → Type 0
Appends F = (o : AreaState) → F o ≡ outcomes_in_turn o (F (with_no_sends o.area))

abbrev pub KeepsInterfaces : (AreaState → AreaState) → Type 0
KeepsInterfaces F = (a : Area) → interfaces_of (F (with_no_sends a)).area.links
    ≡ interfaces_of a.links

module _ (F : AreaState → AreaState) (appends : Appends F) (keeps : KeepsInterfaces F) where
  drafts_on_area : (p : EventState) (first : List Drafted)
      → drafts_with (F (with_no_sends p.router.area)).sends p.router.area.links
      (drafts_with p.sends p.router.area.links first)
      ≡ drafts_with (on_area F p).sends (on_area F p).router.area.links first
  drafts_on_area p first =
      let o : AreaState = record { area = p.router.area; sends = p.sends } in
      let more : AreaState = F (with_no_sends p.router.area) in
      drafted_append 1 p.sends more.sends p.router.area.links first
      ∙ drafted_same (p.sends ++ more.sends) p.router.area.links more.area.links first
      (sym (keeps p.router.area))
      ∙ ap (λ (q : AreaState). drafts_with q.sends q.area.links first) (sym (appends o))

  router_on_area : (p : EventState)
      → ◌≡◌ {A = Router} (record p.router { area = (F (with_no_sends p.router.area)).area })
      (on_area F p).router
  router_on_area p =
      let o : AreaState = record { area = p.router.area; sends = p.sends } in
      ap (λ (q : AreaState). record p.router { area = q.area }) (sym (appends o))

  pub makes_on_area : (old new : KeptRouter) → new.committed ≡ old.committed
      → new.present ≡ record old.present { area = (F (with_no_sends old.present.area)).area }
      → new.drafted ≡ drafts_with (F (with_no_sends old.present.area)).sends old.present.area.links
      old.drafted
      → Makes (on_area F) old new
  makes_on_area old new committed is drafts = record {
    committed = committed;
    interfaces = ap (λ (r : Router). interfaces_of r.area.links) is ∙ keeps old.present.area;
    part = λ p first made. record {
      router = is ∙ ap (λ (r : Router). record r {
        area = (F (with_no_sends r.area)).area;
      }) made.router ∙ router_on_area p;
      drafts =
          drafts
          ∙ (λ i. drafts_with (F (with_no_sends (made.router i).area)).sends
          (made.router i).area.links
          (made.drafts i))
          ∙ drafts_on_area p first;
    };
  }
