-- What is acknowledged was received: each instance that a router holds or sends is one that it
-- received or originated.
use Rattle.std.proofs.Common.{◌≡◌, ℕ, zero, suc, ◌<◌, length, List, [], ◌∷◌, ◌++◌, map, set, Some}
use Rattle.std.proofs.Common.{inl, inr, ◌⊎◌, refl, sym, ap, subst, ◌∙◌, arith}
use Rattle.std.specs.Prelude.{slice_get, slice_index_or}
use Rattle.std.specs.List.{Contains}
use Rattle.std.proofs.lemmas.List.Elements.{Contains-append_cases, Contains-append_left}
use Rattle.std.proofs.lemmas.List.Elements.{Contains-append_right}
use Rattle.packet.specs.declared.model.Packet.{Packet}
use Rattle.packet.specs.Text.{PacketText}
use Rattle.words.specs.Numbers.{RouterNumber}
use Rattle.packet.proofs.Whole.{one_packet}
use Rattle.event_rules.specs.declared.model.Config.{Config}
use Rattle.event_rules.specs.Events.{initial}
use Rattle.event_rules.specs.Routers.{Occurrence, Router}
use Rattle.event_rules.specs.InstanceIdentities.{InstanceIdentity, instances_received}
use Rattle.event_rules.specs.InstanceIdentities.{instances_advertised}
use Rattle.invariants.specs.Worlds.{AcknowledgedWasReceived, Brings, Datagram, IsHistory, IsKnown}
use Rattle.invariants.specs.Worlds.{IsLawfulOut, Joins, Knowledge, Lives, Restarts, World}
use Rattle.invariants.specs.Worlds.{WorldStep, all_known, begun_with, known_as, knows}
use Rattle.invariants.specs.Worlds.{instances_stored, sent_from, MayHappen}
use Rattle.invariants.specs.TakenOff.{IsTold}
use Rattle.invariants.proofs.Lists.{later_is}

-- ---- lists

nowhere : {X : Type 0} (x : X) {A : Type 0} → Contains [] x → A
nowhere x c = absurd (omega (arith, c.1))

mapped_at : {X Y : Type 0} (f : X → Y) (xs : List X) (x : X) (k : ℕ) → k < length xs
    → slice_index_or xs k x ≡ x → Contains (map f xs) (f x)
mapped_at f [] x k lt e = absurd (omega (arith, lt))
mapped_at f (y ∷ ys) x zero lt e = let first : 0 < suc (length (map f ys)) = omega arith in
    (0, first, ap f e)
mapped_at f (y ∷ ys) x (suc k) lt e = let further : k < length ys = omega (arith, lt) in
    later_is (f y) (map f ys) (f x) (mapped_at f ys x k further e)

pub mapped : {X Y : Type 0} (f : X → Y) (xs : List X) (x : X) → Contains xs x
    → Contains (map f xs) (f x)
mapped f xs x c = mapped_at f xs x c.0 c.1 c.2

unmapped_at : {X Y : Type 0} (f : X → Y) (xs : List X) (y : Y) (k : ℕ) → k < length (map f xs)
    → slice_index_or (map f xs) k y ≡ y → (x : X) × Contains xs x × (f x ≡ y)
unmapped_at f [] y k lt e = absurd (omega (arith, lt))
unmapped_at f (x ∷ xs) y zero lt e = let first : 0 < suc (length xs) = omega arith in
    (x, (0, first, refl), e)
unmapped_at f (x ∷ xs) y (suc k) lt e =
    let further : k < length (map f xs) = omega (arith, lt) in
    let found = unmapped_at f xs y k further e in
    (found.0, later_is x xs found.0 found.1, found.2)

pub unmapped : {X Y : Type 0} (f : X → Y) (xs : List X) (y : Y) → Contains (map f xs) y
    → (x : X) × Contains xs x × (f x ≡ y)
unmapped f xs y c = unmapped_at f xs y c.0 c.1 c.2

changed_place : {X : Type 0} (xs : List X) (i j : ℕ) (x y : X) → slice_get (set xs i x) j ≡ Some y
    → (x ≡ y) ⊎ (slice_get xs j ≡ Some y)
changed_place [] i j x y e = inr e
changed_place (z ∷ zs) zero zero x y e = inl cc
changed_place (z ∷ zs) zero (suc j) x y e = inr e
changed_place (z ∷ zs) (suc i) zero x y e = inr e
changed_place (z ∷ zs) (suc i) (suc j) x y e = changed_place zs i j x y e

-- ---- an invariant of a world

record IsKnowing (w : World) : Type 0 where
  held : (place : ℕ) (r : Router) → slice_get w.routers place ≡ Some r → (name : InstanceIdentity)
      → Contains (instances_stored r) name → Contains w.known (knows r.id name)
  told : (d : Datagram) → Contains w.sent d → (packet : Packet) → PacketText d.bytes packet
      → (name : InstanceIdentity) → Contains (instances_advertised packet.body) name
      → Contains w.known (knows packet.router name)

-- at the beginning
known_at : (rs : List Router) (place : ℕ) (r : Router) → slice_get rs place ≡ Some r
    → (name : InstanceIdentity) → Contains (instances_stored r) name
    → Contains (all_known rs) (knows r.id name)
known_at [] place r e name c = absurd (cc)
known_at (s ∷ rs) zero r e name c =
    let it : r ≡ s = cc in
    subst (λ (t : Router). Contains (known_as t.id (instances_stored t) ++ all_known rs)
    (knows r.id name)) it
    (Contains-append_left (known_as r.id (instances_stored r)) (all_known rs) (knows r.id name)
    (mapped (knows r.id) (instances_stored r) name c))
known_at (s ∷ rs) (suc place) r e name c =
    Contains-append_right (known_as s.id (instances_stored s)) (all_known rs) (knows r.id name)
    (known_at rs place r e name c)

knows_first : (configs : List Config) → IsKnowing (begun_with configs)
knows_first configs = record {
  held = λ place r e name c. known_at (map initial configs) place r e name c;
  told = λ d c packet text name told. nowhere d c;
}

-- ---- a step

module _ (joins : Joins) (w : World) (knowing : IsKnowing w) where
  -- what an event makes known
  learnt : (place moment : ℕ) (event : Occurrence) (after : World)
      (l : Lives joins w place moment event after) (name : InstanceIdentity)
      → IsKnown l.old event l.originated name
      → Contains (w.known ++ known_as l.old.id (l.brought ++ l.originated))
      (knows l.old.id name)
  learnt place moment event after l name (IsKnown.Held c) =
      Contains-append_left w.known (known_as l.old.id (l.brought ++ l.originated))
      (knows l.old.id name) (knowing.held place l.old l.here name c)
  learnt place moment event after l name (IsKnown.Brought number bytes packet is text c) =
      let given : Brings (Occurrence.Packet number bytes) l.brought =
      subst (λ e. Brings e l.brought) is l.brings in
      let same : given.0 ≡ packet = one_packet bytes given.0 packet given.1 text in
      let there : Contains l.brought name =
      subst (λ names. Contains names name)
      (sym (given.2 ∙ ap (λ (p : Packet). instances_received p.body) same)) c in
      Contains-append_right w.known (known_as l.old.id (l.brought ++ l.originated))
      (knows l.old.id name)
      (mapped (knows l.old.id) (l.brought ++ l.originated) name
      (Contains-append_left l.brought l.originated name there))
  learnt place moment event after l name (IsKnown.Originated c) =
      Contains-append_right w.known (known_as l.old.id (l.brought ++ l.originated))
      (knows l.old.id name)
      (mapped (knows l.old.id) (l.brought ++ l.originated) name
      (Contains-append_right l.brought l.originated name c))

  lived : (place moment : ℕ) (event : Occurrence) (after : World)
      → Lives joins w place moment event after → IsKnowing after
  lived place moment event after l = subst IsKnowing (sym l.is) (record {
    held = held_after;
    told = told_after;
  })
    where
      more : List Knowledge
      more = known_as l.old.id (l.brought ++ l.originated)

      held_by : (p : ℕ) (r : Router) (name : InstanceIdentity) → Contains (instances_stored r) name
          → (l.new ≡ r) ⊎ (slice_get w.routers p ≡ Some r)
          → Contains (w.known ++ more) (knows r.id name)
      held_by p r name c (inl same) =
          subst (λ (t : Router). Contains (w.known ++ more) (knows t.id name)) same
          (subst (λ id. Contains (w.known ++ more) (knows id name)) (sym l.keeps.same_router)
          (learnt place moment event after l name
          (l.keeps.held name (subst (λ (t : Router). Contains (instances_stored t) name)
          (sym same) c))))
      held_by p r name c (inr there) =
          Contains-append_left w.known more (knows r.id name) (knowing.held p r there name c)

      held_after : (p : ℕ) (r : Router) → slice_get (set w.routers place l.new) p ≡ Some r
          → (name : InstanceIdentity) → Contains (instances_stored r) name
          → Contains (w.known ++ more) (knows r.id name)
      held_after p r e name c = held_by p r name c (changed_place w.routers place p l.new r e)

      told_by : (d : Datagram) (packet : Packet) → PacketText d.bytes packet
          → (name : InstanceIdentity) → Contains (instances_advertised packet.body) name
          → Contains w.sent d ⊎ Contains (map (sent_from place) l.outs) d
          → Contains (w.known ++ more) (knows packet.router name)
      told_by d packet text name c (inl before) =
          Contains-append_left w.known more (knows packet.router name)
          (knowing.told d before packet text name c)
      told_by d packet text name c (inr now) =
          let out = unmapped (sent_from place) l.outs d now in
          let lawful : IsLawfulOut l.old event l.originated out.0 = l.keeps.sent out.0 out.1 in
          let its : PacketText d.bytes lawful.packet =
          subst (λ (e : Datagram). PacketText e.bytes lawful.packet) out.2 lawful.text in
          let same : lawful.packet ≡ packet = one_packet d.bytes lawful.packet packet its text in
          subst (λ (p : Packet). Contains (w.known ++ more) (knows p.router name)) same
          (subst (λ id. Contains (w.known ++ more) (knows id name)) (sym lawful.own)
          (learnt place moment event after l name
          (lawful.known name (subst (λ (p : Packet). Contains (instances_advertised p.body)
          name) (sym same) c))))

      told_after : (d : Datagram) → Contains (w.sent ++ map (sent_from place) l.outs) d
          → (packet : Packet) → PacketText d.bytes packet → (name : InstanceIdentity)
          → Contains (instances_advertised packet.body) name
          → Contains (w.known ++ more) (knows packet.router name)
      told_after d c packet text name told =
          told_by d packet text name told
          (Contains-append_cases w.sent (map (sent_from place) l.outs) d c)

  restarted : (place : ℕ) (after : World) → Restarts w place after → IsKnowing after
  restarted place after s = subst IsKnowing (sym s.is) (record {
    held = held_after;
    told = told_after;
  })
    where
      again : Router
      again = initial s.config

      more : List Knowledge
      more = known_as (initial s.config).id (instances_stored (initial s.config))

      held_by : (p : ℕ) (r : Router) (name : InstanceIdentity) → Contains (instances_stored r) name
          → (initial s.config ≡ r) ⊎ (slice_get w.routers p ≡ Some r)
          → Contains (w.known ++ more) (knows r.id name)
      held_by p r name c (inl same) =
          subst (λ (t : Router). Contains (w.known ++ more) (knows t.id name)) same
          (Contains-append_right w.known more (knows (initial s.config).id name)
          (mapped (knows (initial s.config).id) (instances_stored (initial s.config)) name
          (subst (λ (t : Router). Contains (instances_stored t) name) (sym same) c)))
      held_by p r name c (inr there) =
          Contains-append_left w.known more (knows r.id name) (knowing.held p r there name c)

      held_after : (p : ℕ) (r : Router)
          → slice_get (set w.routers place (initial s.config)) p ≡ Some r
          → (name : InstanceIdentity) → Contains (instances_stored r) name
          → Contains (w.known ++ more) (knows r.id name)
      held_after p r e name c = held_by p r name c
          (changed_place w.routers place p (initial s.config) r e)

      told_after : (d : Datagram) → Contains w.sent d → (packet : Packet)
          → PacketText d.bytes packet → (name : InstanceIdentity)
          → Contains (instances_advertised packet.body) name
          → Contains (w.known ++ more) (knows packet.router name)
      told_after d c packet text name told =
          Contains-append_left w.known more (knows packet.router name)
          (knowing.told d c packet text name told)

-- ---- a history

step_knows : (joins : Joins) (before after : World) → WorldStep joins before after
    → IsKnowing before → IsKnowing after
step_knows joins before after (WorldStep.Life place moment event l) knowing =
    lived joins before knowing place moment event after l
step_knows joins before after (WorldStep.Restart place s) knowing =
    restarted joins before knowing place after s

history_knows : (joins : Joins) (steps : List World) (w last : World) → IsHistory joins w steps last
    → IsKnowing w → IsKnowing last
history_knows joins [] w last h knowing = subst IsKnowing h knowing
history_knows joins (next ∷ rest) w last h knowing =
    history_knows joins rest next last h.1 (step_knows joins w next h.0 knowing)

-- what was received was sent, and what was sent was known
heard_known : (joins : Joins) (w : World) → IsKnowing w
    → (place number : ℕ) (bytes : List ℕ) (packet : Packet)
    → MayHappen joins w place (Occurrence.Packet number bytes) → PacketText bytes packet
    → (name : InstanceIdentity) → Contains (instances_advertised packet.body) name
    → Contains w.known (knows packet.router name)
heard_known joins w knowing place number bytes packet may text name told =
    knowing.told may.0 may.1 packet (subst (λ bs. PacketText bs packet) may.3 text) name told

told_known : (joins : Joins) (configs : List Config) (steps : List World) (w after : World)
    → IsHistory joins (begun_with configs) steps w → (place moment : ℕ) (event : Occurrence)
    → Lives joins w place moment event after
    → (number : ℕ) (router : RouterNumber) (name : InstanceIdentity)
    → IsTold event number router name → Contains w.known (knows router name)
told_known joins configs steps w after history place moment event l number router name told =
    let knowing : IsKnowing w = history_knows joins steps (begun_with configs) w history
    (knows_first configs) in
    subst (λ (r : RouterNumber). Contains w.known (knows r name)) told.from
    (heard_known joins w knowing place number told.bytes told.packet
    (subst (MayHappen joins w place) told.is l.may) told.text name told.told)

pub acknowledged_was_received : AcknowledgedWasReceived
acknowledged_was_received = record {
  told = λ joins configs steps w after apart lawful history place moment event l number router name
      told.
      told_known joins configs steps w after history place moment event l number router name told;
  left = λ joins configs steps w after apart lawful history place moment event l number n name
      taken.
      told_known joins configs steps w after history place moment event l number n.router name
      (l.keeps.taken number n name taken);
}
