-- What is so of this router is so of some router.
use Rattle.std.proofs.Common.{◌≡◌, ◌≤◌, ℕ, Bool, List, Option, None, Some, IfErr, IfOk}
use Rattle.std.proofs.Common.{subst, sym}
use Rattle.std.specs.Prelude.{◌↔◌, Result, Ok, Err, IfSome, IsTrue, MatchResult}
use Rattle.words.specs.Numbers.{Moment}
use Rattle.words.specs.declared.route.Route.{Route}
use Rattle.words.specs.declared.route.TableRow.{TableRow}
use Rattle.event_rules.specs.declared.model.Out.{Out}
use Rattle.event_rules.specs.Events.{Happens}
use Rattle.event_rules.specs.Refusals.{IsAllowed}
use Rattle.event_rules.specs.Routers.{Router}
use Rattle.flood.specs.declared.event.Event.{Event}
use Rattle.flood.specs.Occurrences.{occurrence_of}
use Rattle.flood.specs.Refusals.{BookRefusesWithMarksByRules}
use Rattle.flood.specs.Replay.{BookView, IsAfterEvents}
use Rattle.flood.specs.declared.book.error.BookError.{BookError}
use Rattle.flood.specs.declared.book.error.BookError.TheVariants as refusing
use Rattle.flood.specs.Offers.{AreCandidatesNow, IsOffered, IsStaleNow}
use Rattle.turns.specs.Turns.{IsOfferedBySome, IsRefusedBySome, RefusesAt, IsTakenBySome, taken_at}
use Rattle.turns.proofs.Tables.{rows_beside}

pub sent_by_some : (origin : Router) (events taken : ℕ) (moment at : Moment) (e : Event)
    (old new : Router) (outs : List Out) (stale : Option Bool) → events ≤ taken
    → IsAfterEvents origin taken old → at ≡ taken_at e moment old.moment
    → IsAllowed old at (occurrence_of e) → Happens old at (occurrence_of e) outs new
    → IfSome stale (λ is. IsTrue is ↔ IsStaleNow new)
    → IsTakenBySome origin events moment e outs stale
sent_by_some origin events taken moment at e old new outs stale least leads is on h left = (
  taken,
  old,
  new,
  least,
  leads,
  subst (λ (m : Moment). IsAllowed old m (occurrence_of e)) is on,
  subst (λ (m : Moment). Happens old m (occurrence_of e) outs new) is h,
  left,
)

-- whether it is stale, if that was told
pub left_stale : {E : Type 0} (new : Router) (told : Result Bool E) (stale : Option Bool)
    → IfOk told (λ is. IsTrue is ↔ IsStaleNow new)
    → MatchResult told (λ is. stale ≡ Some is) (λ _. stale ≡ None)
    → IfSome stale (λ is. IsTrue is ↔ IsStaleNow new)
left_stale new (Ok is) stale h same =
    subst (λ (o : Option Bool). IfSome o (λ is. IsTrue is ↔ IsStaleNow new)) (sym same) h
left_stale new (Err e) stale h same =
    subst (λ (o : Option Bool). IfSome o (λ is. IsTrue is ↔ IsStaleNow new)) (sym same) tt

pub taken_then : (moment at : Moment) (e : Event) (old new : Router) (outs : List Out)
    → at ≡ taken_at e moment old.moment → Happens old at (occurrence_of e) outs new
    → Happens old (taken_at e moment old.moment) (occurrence_of e) outs new
taken_then moment at e old new outs is h =
    subst (λ (m : Moment). Happens old m (occurrence_of e) outs new) is h

pub offered_by_some : {V E : Type 0} (candidates : V → List Route) (rows : V → List TableRow)
    (origin : Router) (taken : ℕ) (now : Router) (r : Result V E) → IsAfterEvents origin taken now
    → IfOk r (λ o. IsOffered now (candidates o) (rows o))
    → IfOk r (λ o. IsOfferedBySome origin (candidates o) (rows o))
offered_by_some candidates rows origin taken now (Ok x) leads h = (taken, now, leads, h)
offered_by_some candidates rows origin taken now (Err x) leads h = h

pub candidates_of_some : {V E : Type 0} (candidates : V → List Route) (origin : Router) (taken : ℕ)
    (now : Router) (r : Result V E) → IsAfterEvents origin taken now
    → IfOk r (λ c. AreCandidatesNow now (candidates c))
    → IfOk r (λ c. (rows : List TableRow) × IsOfferedBySome origin (candidates c) rows)
candidates_of_some candidates origin taken now (Ok x) leads h =
    let beside = rows_beside now (candidates x) h in (beside.0, (taken, now, leads, beside.1))
candidates_of_some candidates origin taken now (Err x) leads h = h

-- an answer that is a refusal, without what it would have given
error_alone : (V : Type 0) (b : BookView) (moment : Moment) (e : Event) (why : BookError)
    → BookRefusesWithMarksByRules {X = V} b moment e (Err why)
    → BookRefusesWithMarksByRules {X = Unit {0}} b moment e (Err why)
error_alone V b moment e refusing.Journal h = h
error_alone V b moment e (refusing.Core x) h = h

pub refused_now : {V : Type 0} (moment at : Moment) (e : Event) (b : BookView)
    (r : Result V BookError) → at ≡ taken_at e moment b.current.moment
    → BookRefusesWithMarksByRules b at e r
    → IfErr r (λ error. RefusesAt b moment e error)
refused_now moment at e b (Ok x) is h = tt
refused_now {V = V} moment at e b (Err why) is h =
    subst (λ (m : Moment). BookRefusesWithMarksByRules {X = Unit {0}} b m e (Err why)) is
    (error_alone V b at e why h)

pub refused_by_some : {V : Type 0} (origin : Router) (events : ℕ) (moment at : Moment) (e : Event)
    (b : BookView) (r : Result V BookError) → events ≤ b.taken
    → IsAfterEvents origin b.taken b.current → at ≡ taken_at e moment b.current.moment
    → BookRefusesWithMarksByRules b at e r → IfErr r
    (λ error. IsRefusedBySome origin events moment e error)
refused_by_some origin events moment at e b (Ok x) least leads is h = tt
refused_by_some {V = V} origin events moment at e b (Err why) least leads is h =
    (b, least, leads, refused_now {V = V} moment at e b (Err why) is h)
