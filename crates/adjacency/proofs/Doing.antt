-- What calls do to a neighbor and to what is drafted for it: from one form to another.
use Rattle.std.proofs.Common.{◌≡◌, ℕ, List, [], Result, Ok, Err, OnOk, ap, ◌∙◌}
use Rattle.keyed_map.proofs.Helds.{on_ok}
use Rattle.adjacency.specs.Contents.{Content, Step, no_sends}
use Rattle.adjacency.specs.Drafts.{Drafted, drafting}
use Rattle.adjacency.specs.Kept.{Kept}
use Rattle.adjacency.specs.Neighbors.{Neighbor}
use Rattle.adjacency.proofs.Floods.{drafting-none}
use Rattle.adjacency.specs.Doing.{NeighborSends, NeighborUpdates, Sends, SendsUpdates}

pub always : {A E P : Type 0} (r : Result A E) → P → OnOk r P
always (Ok a) p = p
always (Err e) p = tt

-- ---- nothing is sent

pub nothing_sent : {A X E : Type 0} {after : A → A} {sends : A → List Content} {old new : Kept A}
    {draft : Drafted} (r : Result X E) → new.committed ≡ old.committed
    → new.present ≡ after old.present → [] ≡ sends old.present
    → Sends after sends old new draft draft r
nothing_sent {draft} r stays is none = record {
  ok = always r is;
  draft = always r (λ delay. drafting-none delay draft
      ∙ ap (λ cs. drafting delay cs draft) none);
  committed = stays;
}

pub nothing_updated : {A X E : Type 0} {delay : ℕ} {after : A → A} {sends : A → List Content}
    {old new : Kept A} {draft : Drafted} (r : Result X E) → new.committed ≡ old.committed
    → new.present ≡ after old.present → [] ≡ sends old.present
    → SendsUpdates delay after sends old new draft draft r
nothing_updated {delay} {draft} r stays is none = record {
  ok = always r is;
  draft = always r (drafting-none delay draft ∙ ap (λ cs. drafting delay cs draft) none);
  committed = stays;
}

pub sends_nothing : {X E : Type 0} {f : Neighbor → Step} {old new : Kept Neighbor}
    {draft : Drafted} (r : Result X E) → new.committed ≡ old.committed
    → no_sends new.present ≡ f old.present → NeighborSends f old new draft draft r
sends_nothing r stays is =
    nothing_sent r stays (ap (λ (s : Step). s.neighbor) is) (ap (λ (s : Step). s.sends) is)

pub updates_nothing : {X E : Type 0} {delay : ℕ} {f : Neighbor → Step} {old new : Kept Neighbor}
    {draft : Drafted} (r : Result X E) → new.committed ≡ old.committed
    → no_sends new.present ≡ f old.present → NeighborUpdates delay f old new draft draft r
updates_nothing r stays is =
    nothing_updated r stays (ap (λ (s : Step). s.neighbor) is) (ap (λ (s : Step). s.sends) is)

-- ---- all is sent by a call, after a change of the value or none

pub sent_after : {A X E : Type 0} {after f : A → A} {sends g : A → List Content}
    {old middle new : Kept A} {before drafted : Drafted} (r : Result X E)
    → middle.committed ≡ old.committed → after middle.present ≡ f old.present
    → sends middle.present ≡ g old.present → Sends after sends middle new before drafted r
    → Sends f g old new before drafted r
sent_after {before} r stays is same does = record {
  ok = on_ok r (λ made. made ∙ is) does.ok;
  draft = on_ok r (λ sent delay. sent delay ∙ ap (λ cs. drafting delay cs before) same) does.draft;
  committed = does.committed ∙ stays;
}

pub sends_after : {X E : Type 0} {after : Neighbor → Neighbor} {sends : Neighbor → List Content}
    {f : Neighbor → Step} {old middle new : Kept Neighbor} {before drafted : Drafted}
    (r : Result X E) → middle.committed ≡ old.committed
    → ◌≡◌ {A = Step} (record {
      neighbor = after middle.present;
      sends = sends middle.present;
    }) (f old.present)
    → Sends after sends middle new before drafted r → NeighborSends f old new before drafted r
sends_after r stays is does =
    sent_after r stays (ap (λ (s : Step). s.neighbor) is) (ap (λ (s : Step). s.sends) is) does

pub updates_after : {X E : Type 0} {delay : ℕ} {after : Neighbor → Neighbor}
    {sends : Neighbor → List Content} {f : Neighbor → Step} {old middle new : Kept Neighbor}
    {before drafted : Drafted} (r : Result X E) → middle.committed ≡ old.committed
    → ◌≡◌ {A = Step} (record {
      neighbor = after middle.present;
      sends = sends middle.present;
    }) (f old.present)
    → SendsUpdates delay after sends middle new before drafted r
    → NeighborUpdates delay f old new before drafted r
updates_after {delay} {before} r stays is does = record {
  ok = on_ok r (λ made. made ∙ ap (λ (s : Step). s.neighbor) is) does.ok;
  draft = on_ok r (λ sent. sent ∙ ap (λ (s : Step). drafting delay s.sends before) is) does.draft;
  committed = does.committed ∙ stays;
}
