-- No event of a router depends on the answers of an `Install`, and an event has only one outcome.
-- So two runs of a router, or two histories of a network, that are the same except for these
-- answers send the same.
use Rattle.std.proofs.Common.{◌≡◌, ℕ, zero, suc, Bool, true, false, List, [], ◌∷◌, ◌++◌, map}
use Rattle.std.proofs.Common.{Option, None, Some, refl, sym, ◌∙◌, ap, subst}
use Rattle.std.specs.Prelude.{set, slice_get}
use Rattle.std.proofs.lemmas.Option.{same_Some}
use Rattle.words.specs.Numbers.{InterfaceNumber, Moment}
use Rattle.packet.proofs.Whole.{one_packet}
use Rattle.packet.specs.declared.model.Packet.{Packet}
use Rattle.event_rules.specs.Endings.{end_event, start_event}
use Rattle.event_rules.specs.Events.{Happens, OwnPart, Run, Step}
use Rattle.event_rules.specs.EventState.{EventState}
use Rattle.event_rules.specs.Packets.{after_packet}
use Rattle.event_rules.specs.Packing.{outs_of}
use Rattle.event_rules.specs.Routers.{Occurrence, Router}
use Rattle.event_rules.specs.declared.model.Out.{Out}
use Rattle.program_laws.specs.Vetoes.{without_answers}
use Rattle.program_laws.specs.Unheard.{Act, Acts, Cause, Datagram, History, Network}
use Rattle.program_laws.specs.Unheard.{VetoesAreNeverHeard, act_without_words, asked}
use Rattle.program_laws.specs.Unheard.{cause_without_words, event_of, network_without_answers}
use Rattle.program_laws.specs.Unheard.{incoming, sent, sent_at, without_words}
use Rattle.event_rules.proofs.Unheeded.{answered_alike, bringing}

-- ---- an event does the same without the answers

brings_none : (event : Occurrence) → bringing [] event ≡ without_words event
brings_none (Occurrence.Packet number bytes) = refl
brings_none Occurrence.Tick = refl
brings_none (Occurrence.Redistribute tagged tag priced price) = refl
brings_none (Occurrence.Withdraw prefix) = refl
brings_none (Occurrence.Install answers) = refl
brings_none (Occurrence.LinkDown number) = refl

happens_without : (old : Router) (moment : Moment) (event : Occurrence) (outs : List Out)
    (new : Router)
    → Happens old moment event outs new → Happens (without_answers old) moment
    (without_words event) outs (without_answers new)
happens_without old moment event outs new it =
    let P : Occurrence → Type 0 = λ o. Happens (without_answers old) moment o outs
    (without_answers new) in
    subst P (brings_none event) (answered_alike [] old moment event outs new it)

-- ---- an event has only one outcome

one_part : (moment : Moment) (event : Occurrence) (before after next : EventState)
    → OwnPart moment event before after → OwnPart moment event before next → after ≡ next
one_part moment (Occurrence.Packet number bytes) before after next part other =
    part.2 ∙ ap (λ (packet : Packet). after_packet moment number packet before)
    (one_packet bytes part.0 other.0 part.1 other.1) ∙ sym other.2
one_part moment Occurrence.Tick before after next part other = part ∙ sym other
one_part moment (Occurrence.Redistribute tagged tag priced price) before after next part other =
    part ∙ sym other
one_part moment (Occurrence.Withdraw prefix) before after next part other = part ∙ sym other
one_part moment (Occurrence.Install answers) before after next part other = part ∙ sym other
one_part moment (Occurrence.LinkDown number) before after next part other = part ∙ sym other

one_outcome : (old : Router) (moment : Moment) (event : Occurrence) (outs these : List Out)
    (new next : Router)
    → Happens old moment event outs new → Happens old moment event these next → (outs ≡ these) ×
    (new ≡ next)
one_outcome old moment event outs these new next it other =
    let same : end_event old moment it.after ≡ end_event old moment other.after = ap
    (end_event old moment)
    (one_part moment event
    (start_event moment old) it.after other.after it.own other.own) in (
      it.sent ∙ ap (λ (p : EventState). outs_of old.id old.area.links p.sends) same
          ∙ sym other.sent,
      it.router ∙ ap (λ (p : EventState). p.router) same ∙ sym other.router,
    )

-- two routers that are the same except for the answers, and two events that are the same except for
-- the answers in them
alike : (old before : Router) (moment : Moment) (at : Moment) (event other : Occurrence)
    (outs these : List Out) (new next : Router)
    → without_answers old ≡ without_answers before → moment ≡ at → without_words event
    ≡ without_words other
    → Happens old moment event outs new → Happens before at other these next
    → (outs ≡ these) × (without_answers new ≡ without_answers next)
alike old before moment at event other outs these new next routers moments events it that =
    let first : Happens (without_answers old) moment (without_words event) outs
    (without_answers new) = happens_without old moment event outs new it in
    let second : Happens (without_answers before) at (without_words other) these
    (without_answers next) = happens_without before at other these next that in
    let here : Happens (without_answers old) at (without_words other) these
    (without_answers next) = subst
    (λ (r : Router). Happens r at (without_words other) these (without_answers next))
    (sym routers) second in
    let now : Happens (without_answers old) moment (without_words other) these
    (without_answers next) = subst
    (λ (m : Moment). Happens (without_answers old) m (without_words other) these
    (without_answers next)) (sym moments) here in
    let of_it : Happens (without_answers old) moment (without_words event) these
    (without_answers next) = subst
    (λ (o : Occurrence). Happens (without_answers old) moment o these
    (without_answers next)) (sym events) now in
    one_outcome (without_answers old) moment (without_words event) outs these
    (without_answers new) (without_answers next) first of_it

-- ---- lists with a common beginning

abbrev head_or : {X : Type 0} → X → List X → X
head_or x [] = x
head_or x (y ∷ ys) = y

abbrev tail_of : {X : Type 0} → List X → List X
tail_of [] = []
tail_of (y ∷ ys) = ys

abbrev is_empty : {X : Type 0} → List X → Bool
is_empty [] = true
is_empty (y ∷ ys) = false

heads : {X : Type 0} (x y : X) (xs ys : List X) → x ∷ xs ≡ y ∷ ys → x ≡ y
heads x y xs ys e = ap (head_or x) e

tails : {X : Type 0} (x y : X) (xs ys : List X) → x ∷ xs ≡ y ∷ ys → xs ≡ ys
tails x y xs ys e = ap tail_of e

never : {X : Type 0} {A : Type 0} (y : X) (ys : List X) → [] ≡ y ∷ ys → A
never y ys e = absurd cc

-- ---- two runs of a router

lives : (old before : Router) (steps others : List Step) (new next : Router)
    → without_answers old ≡ without_answers before → Run old steps new → Run before others next
    → map asked steps ≡ map asked others
    → (map sent steps ≡ map sent others) × (without_answers new ≡ without_answers next)
lives old before [] [] new next routers run other same =
    (refl, ap without_answers run ∙ routers ∙ sym (ap without_answers other))
lives old before [] (t ∷ ts) new next routers run other same = never (asked t) (map asked ts) same
lives old before (s ∷ ss) [] new next routers run other same = never (asked s) (map asked ss)
    (sym same)
lives old before (s ∷ ss) (t ∷ ts) new next routers run other same =
    let first : asked s ≡ asked t = heads (asked s) (asked t) (map asked ss) (map asked ts) same in
    let one : (s.outs ≡ t.outs) × (without_answers run.0 ≡ without_answers other.0) =
    alike old before s.moment t.moment s.event t.event s.outs t.outs run.0 other.0 routers
    (ap (λ (a : Moment × Occurrence). a.0) first)
    (ap (λ (a : Moment × Occurrence). a.1) first) run.1 other.1 in
    let rest : (map sent ss ≡ map sent ts) × (without_answers new ≡ without_answers next) =
    lives run.0 other.0 ss ts new next one.1 run.2 other.2
    (tails (asked s) (asked t) (map asked ss) (map asked ts) same) in (
      ap (λ (outs : List Out). outs ∷ map sent ss) one.0 ∙ ap
          (λ (more : List (List Out)). t.outs ∷ more) rest.0,
      rest.1,
    )

-- ---- two histories of a network

abbrev on_option : {X Y : Type 0} → (X → Y) → Option X → Option Y
on_option f None = None
on_option f (Some x) = Some (f x)

abbrev value_or : {X : Type 0} → X → Option X → X
value_or x None = x
value_or x (Some y) = y

at_mapped : {X Y : Type 0} (f : X → Y) (xs : List X) (i : ℕ) → slice_get (map f xs) i
    ≡ on_option f (slice_get xs i)
at_mapped f [] i = refl
at_mapped f (x ∷ xs) zero = refl
at_mapped f (x ∷ xs) (suc i) = at_mapped f xs i

set_mapped : {X Y : Type 0} (f : X → Y) (xs : List X) (i : ℕ) (x : X) → map f (set xs i x) ≡ set
    (map f xs) i (f x)
set_mapped f [] i x = refl
set_mapped f (y ∷ ys) zero x = refl
set_mapped {Y = Y} f (y ∷ ys) (suc i) x = ap (λ (zs : List Y). f y ∷ zs) (set_mapped f ys i x)

delivered : (number : InterfaceNumber) (d : Option Datagram) → on_option without_words
    (incoming number d) ≡ incoming number d
delivered number None = refl
delivered number (Some d) = refl

-- the event of a cause, without its answers
caused : (all : List Datagram) (cause : Cause) → on_option without_words (event_of all cause)
    ≡ event_of all (cause_without_words cause)
caused all (Cause.Delivers datagram number) = delivered number (slice_get all datagram)
caused all (Cause.Other event) = refl

-- two acts that are the same except for their answers, in networks that are the same except for the
-- answers
acted : (w v : Network) (act other : Act) (next after : Network)
    → network_without_answers w ≡ network_without_answers v → act_without_words act
    ≡ act_without_words other
    → Acts w act next → Acts v other after → network_without_answers next
    ≡ network_without_answers after
acted w v act other next after same acts it that =
    let routers : map without_answers w.routers ≡ map without_answers v.routers = ap
    (λ (n : Network). n.routers) same in
    let all : w.sent ≡ v.sent = ap (λ (n : Network). n.sent) same in
    let places : act.place ≡ other.place = ap (λ (a : Act). a.place) acts in
    let causes : cause_without_words act.cause ≡ cause_without_words other.cause = ap
    (λ (a : Act). a.cause) acts in
    let actors : without_answers it.old ≡ without_answers that.old = same_Some
    (without_answers it.old) (without_answers that.old) (
    sym (ap (on_option without_answers) it.here) ∙ sym
    (at_mapped without_answers w.routers act.place)
    ∙ ap (λ (rs : List Router). slice_get rs act.place) routers ∙ ap
    (slice_get (map without_answers v.routers)) places
    ∙ at_mapped without_answers v.routers other.place ∙ ap (on_option without_answers) that.here
    ) in
    let events : without_words it.event ≡ without_words that.event = same_Some
    (without_words it.event) (without_words that.event) (
    sym (ap (on_option without_words) it.is) ∙ caused w.sent act.cause
    ∙ ap (λ (ds : List Datagram). event_of ds (cause_without_words act.cause)) all ∙ ap
    (event_of v.sent) causes
    ∙ sym (caused v.sent other.cause) ∙ ap (on_option without_words) that.is
    ) in
    let one : (it.outs ≡ that.outs) × (without_answers it.new ≡ without_answers that.new) =
    alike it.old that.old act.moment other.moment it.event that.event it.outs that.outs it.new
    that.new actors (ap (λ (a : Act). a.moment) acts) events it.happens that.happens in
    let routers_after : map without_answers (set w.routers act.place it.new) ≡ map without_answers
    (set v.routers other.place that.new) =
    set_mapped without_answers w.routers act.place it.new
    ∙ ap (λ (rs : List Router). set rs act.place (without_answers it.new)) routers
    ∙ ap (λ (i : ℕ). set (map without_answers v.routers) i (without_answers it.new)) places
    ∙ ap (set (map without_answers v.routers) other.place) one.1
    ∙ sym (set_mapped without_answers v.routers other.place that.new) in
    let sent_after : w.sent ++ map (sent_at act.place) it.outs ≡ v.sent ++ map
    (sent_at other.place) that.outs =
    ap (λ (ds : List Datagram). ds ++ map (sent_at act.place) it.outs) all
    ∙ ap (λ (i : ℕ). v.sent ++ map (sent_at i) it.outs) places
    ∙ ap (λ (os : List Out). v.sent ++ map (sent_at other.place) os) one.0 in
    ap network_without_answers it.leaves
    ∙ ap (λ (rs : List Router). record
    { routers = rs; sent = w.sent ++ map (sent_at act.place) it.outs }) routers_after
    ∙ ap (λ (ds : List Datagram). record {
      routers = map without_answers (set v.routers other.place that.new);
      sent =
          ds;
    }) sent_after
    ∙ sym (ap network_without_answers that.leaves)

histories : (w v : Network) (acts others : List Act) (last final : Network)
    → network_without_answers w ≡ network_without_answers v → History w acts last
    → History v others final
    → map act_without_words acts ≡ map act_without_words others → network_without_answers last
    ≡ network_without_answers final
histories w v [] [] last final same history other acts = ap network_without_answers history ∙ same
    ∙ sym (ap network_without_answers other)
histories w v [] (b ∷ bs) last final same history other acts = never (act_without_words b)
    (map act_without_words bs) acts
histories w v (a ∷ as_) [] last final same history other acts = never (act_without_words a)
    (map act_without_words as_) (sym acts)
histories w v (a ∷ as_) (b ∷ bs) last final same history other acts =
    histories history.0 other.0 as_ bs last final
    (acted w v a b history.0 other.0 same
    (heads (act_without_words a) (act_without_words b) (map act_without_words as_)
    (map act_without_words bs) acts) history.1 other.1)
    history.2 other.2
    (tails (act_without_words a) (act_without_words b) (map act_without_words as_)
    (map act_without_words bs) acts)

pub vetoes_are_never_heard : VetoesAreNeverHeard
vetoes_are_never_heard = record {
  by_a_router = λ old steps others new next. lives old old steps others new next refl;
  by_a_network =
      λ before acts others last final. histories before before acts others last final refl;
}
