-- A property of every neighbor at the start, after each event and so after every run.
use Rattle.std.proofs.Common.{List, [], ◌∷◌, Option, None, Some, sym, subst}
use Rattle.adjacency.specs.Laws.{IsBareWhereFull}
use Rattle.adjacency.specs.Lists.{HasSoundLists}
use Rattle.adjacency.specs.Neighbors.{Neighbor}
use Rattle.adjacency.proofs.Facts.{Bare, Sound, bare_kept, sound_kept, sound_lists, sound_of}
use Rattle.adjacency.proofs.Kept.{Fact, IsKept, Of}
use Rattle.received.specs.Holds.{Holds, HoldsOfEach}
use Rattle.received.specs.Links.{Link}
use Rattle.event_rules.specs.Events.{Run, Step, initial}
use Rattle.invariants.specs.NeighborLaws.{FullNeighborsRequestNothing, IsAlwaysSo, ListsAreSound}
use Rattle.event_rules.specs.Routers.{Router}
use Rattle.invariants.proofs.Invariants.{event_kept, initial_kept}

-- from one property to another
holds_so : (P R : Neighbor → Type 0) → ((n : Neighbor) → P n → R n) → (o : Option Neighbor)
    → Holds P o → Holds R o
holds_so P R so None h = tt
holds_so P R so (Some n) h = so n h

pub each_so : (P R : Neighbor → Type 0) → ((n : Neighbor) → P n → R n) → (xs : List Link)
    → HoldsOfEach P xs → HoldsOfEach R xs
each_so P R so [] h = tt
each_so P R so (x ∷ xs) h = (holds_so P R so x.neighbor h.0, each_so P R so xs h.1)

module _ (Q : Fact) (kept : IsKept Q) (P : Neighbor → Type 0)
    (of_it : (n : Neighbor) → P n → Of Q n) (is : (n : Neighbor) → Of Q n → P n) where
  run_kept : (steps : List Step) (old new : Router) → Run old steps new
      → HoldsOfEach (Of Q) old.area.links → HoldsOfEach (Of Q) new.area.links
  run_kept [] old new same h = subst (λ (r : Router). HoldsOfEach (Of Q) r.area.links) (sym same) h
  run_kept (s ∷ steps) old new run h =
      run_kept steps run.0 new run.2 (event_kept Q kept old s.moment s.event s.outs run.0 run.1 h)

  always : IsAlwaysSo P
  always = record {
    first = λ c. each_so (Of Q) P is (initial c).area.links (initial_kept Q kept c);
    event = λ old moment event outs new happens h.
        each_so (Of Q) P is new.area.links
        (event_kept Q kept old moment event outs new happens
        (each_so P (Of Q) of_it old.area.links h));
    run = λ c steps new run. each_so (Of Q) P is new.area.links
        (run_kept steps (initial c) new run (initial_kept Q kept c));
  }

pub full_request_nothing : FullNeighborsRequestNothing
full_request_nothing = always Bare bare_kept IsBareWhereFull (λ n h. h) (λ n h. h)

pub lists_are_sound : ListsAreSound
lists_are_sound = always Sound sound_kept HasSoundLists sound_of sound_lists
