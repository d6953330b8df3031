-- States of an asker, one after the other.
use Rattle.std.proofs.Common.{◌≡◌, zero, suc, List, [], ◌∷◌, Option, Some, None, refl, ap, sym}
use Rattle.std.proofs.Common.{subst, ◌∙◌}
use Rattle.std.specs.Prelude.{IfNone, IfSome, IfOk, OnErr, Result, Ok, Err, ℕ}
use mathlib.Core.List.{IsPrefix}
use Rattle.words.specs.Numbers.{Moment}
use Rattle.words.specs.declared.route.Route.{Route}
use Rattle.words.specs.declared.route.TableRow.{TableRow}
use Rattle.maps.specs.Words.{SeatView}
use Rattle.machine.specs.Given.{Given}
use Rattle.hooks.specs.declared.operation.LoaderOperation.{LoaderOperation}
use Rattle.hooks.specs.Answered.{AreAnsweredInPart, IsAnswered}
use Rattle.hooks.specs.Questions.{RouteAnswer}
use Rattle.hooks.proofs.Fronts.{prefix_self, prefix_trans}
use Rattle.turns.specs.Askers.{AreVetoes, AskerState, IsAfterRuns, IsAnsweredAt, IsLater}

abbrev with_parts : List LoaderOperation → SeatView → AskerState
with_parts known seat = record { known = known; seat = seat }

pub same_state : (old new : AskerState) → new.known ≡ old.known → new.seat ≡ old.seat → new ≡ old
same_state old new known seat =
    ap (λ k. with_parts k new.seat) known ∙ ap (λ s. with_parts old.known s) seat

pub later_self : (a : AskerState) → IsLater a a
later_self a = (0, (prefix_self a.known, refl))

-- at the same seat
pub later_there : (old new : AskerState) → IsPrefix old.known new.known → new.seat ≡ old.seat
    → IsLater old new
later_there old new known same = (0, (known, same))

-- the same state
pub later_same : (old new : AskerState) → new.known ≡ old.known → new.seat ≡ old.seat
    → IsLater old new
later_same old new known same =
    later_there old new
    (subst (λ l. IsPrefix old.known l) (sym known) (prefix_self old.known)) same

pub later_answered : (old new : AskerState) (input : Given) (word : ℕ)
    → IsAnsweredAt old new input word → IsLater old new
later_answered old new input word h = (1, (new, input, word, h, (prefix_self new.known, refl)))

-- what an asker answers, one that knew less at the same seat answers too
pub answered_from : (old then new : AskerState) (input : Given) (word : ℕ)
    → IsPrefix old.known then.known → then.seat ≡ old.seat → IsAnsweredAt then new input word
    → IsAnsweredAt old new input word
answered_from old then new input word known same h =
    let there : IsAnswered then.known new.known old.seat new.seat input word =
    subst (λ (s : SeatView). IsAnswered then.known new.known s new.seat input word) same h in
    record {
      labels = there.labels;
      begins = prefix_trans old.known then.known new.known known there.begins;
      made = there.made;
      answers = there.answers;
    }

runs_from : (runs : ℕ) (old then new : AskerState) → IsPrefix old.known then.known
    → then.seat ≡ old.seat → IsAfterRuns runs then new → IsAfterRuns runs old new
runs_from zero old then new known same h =
    (prefix_trans old.known then.known new.known known h.0, h.1 ∙ same)
runs_from (suc runs) old then new known same (between, input, word, h, rest) =
    (between, input, word, answered_from old then between input word known same h, rest)

runs_trans : (first second : ℕ) (a b c : AskerState) → IsAfterRuns first a b
    → IsAfterRuns second b c → (runs : ℕ) × IsAfterRuns runs a c
runs_trans zero second a b c h k = (second, runs_from second a b c h.0 h.1 k)
runs_trans (suc first) second a b c (between, input, word, h, rest) k =
    let all = runs_trans first second between b c rest k in
    (suc all.0, (between, input, word, h, all.1))

pub later_trans : (a b c : AskerState) → IsLater a b → IsLater b c → IsLater a c
later_trans a b c (first, h) (second, k) = runs_trans first second a b c h k

-- after a question that was answered, or got no reading
pub later_asked : {A : Type 0} (word : A → ℕ) (old new : AskerState) (input : Given)
    (answer : Option A) → IfNone answer ((new.known ≡ old.known) × (new.seat ≡ old.seat))
    → IfSome answer (λ a. IsAnsweredAt old new input (word a)) → IsLater old new
later_asked word old new input None unread answered = later_same old new unread.0 unread.1
later_asked word old new input (Some a) unread answered =
    later_answered old new input (word a) answered

pub later_vetoes : (old new : AskerState) (moment : Moment) (rows : List TableRow)
    (routes : List Route) (answers : List RouteAnswer)
    → AreVetoes old new moment rows routes answers → IsLater old new
later_vetoes old new moment rows [] [] h = later_there old new h.0 h.1
later_vetoes old new moment rows [] (a ∷ answers) h = absurd h
later_vetoes old new moment rows (route ∷ routes) [] h = absurd h
later_vetoes old new moment rows (route ∷ routes) (a ∷ answers) h =
    let between : AskerState = record { known = h.0; seat = h.1 } in
    later_trans old between new (later_answered old between _ a.word h.2.answered)
    (later_vetoes between new moment rows routes answers h.3)

-- after questions about routes of which all were answered, or some, or none for want of memory
pub later_asked_all : {V E : Type 0} (items : V → List RouteAnswer) (old new : AskerState)
    (moment : Moment) (rows : List TableRow) (routes : List Route) (r : Result (Option V) E)
    → IfOk r (λ o. IfNone o (AreAnsweredInPart old.known new.known old.seat new.seat moment rows
    routes)) → IfOk r (λ o. IfSome o (λ v. AreVetoes old new moment rows routes (items v)))
    → OnErr r ((new.known ≡ old.known) × (new.seat ≡ old.seat)) → IsLater old new
later_asked_all items old new moment rows routes (Ok None) part all short =
    later_vetoes old new moment rows _ part.1 part.3
later_asked_all items old new moment rows routes (Ok (Some v)) part all short =
    later_vetoes old new moment rows routes (items v) all
later_asked_all items old new moment rows routes (Err e) part all short =
    later_same old new short.0 short.1
