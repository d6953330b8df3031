use Rattle.std.proofs.Common.{◌≡◌, ◌+◌, Global, Vec, Ok, Err, length, sym, subst, ap, ◌∙◌, arith}
use Rattle.std.proofs.Common.{None, Some, inl, inr, refl}
use Rattle.event_rules.specs.declared.model.CoreError.{CoreError}
use Rattle.event_rules.specs.declared.model.CoreError.TheVariants as error
use Rattle.event_rules.specs.declared.model.Out.{Out}
use Rattle.event_rules.specs.Events.{Happens}
use Rattle.event_rules.specs.Routers.{Router}
use Rattle.flood.specs.Early.{early_refusal}
use Rattle.flood.specs.Occurrences.{occurrence_of}
use Rattle.flood.specs.declared.event.Event.{Event}
use Rattle.flood.proofs.Early.{early_answers}
use Rattle.flood.specs.Replay.{BookView, IsNotedIn, MayBeMarked, entry, marked_book}
use Rattle.flood.proofs.Noted.{answered_anew, answered_at, answered_back, happens_at, marked_again}
use Rattle.flood.proofs.Noted.{never_short, not_early, noted_in, same_or_anew}
use Rattle.flood.proofs.book.Book.apply_with_marks.Goals as goal

-- ---- before any mark

pub returns-in-Some-clause-refused : goal.returns-in-Some-clause-refused
returns-in-Some-clause-refused g c =
    let event = occurrence_of c.args.event in
    let early : early_refusal c.args.self.now.current c.args.moment event ≡ Some c.in-Some.error =
    ap (λ (r : Router). early_refusal r c.args.moment event) (sym c.now.ensures.router)
    ∙ sym c.early_refusal.ensures ∙ c.in-Some.is in (
      (λ spent. omega (arith, spent, c.taken.ensures.taken)),
      early_answers (Unit {0}) c.args.self.now.current c.args.moment event c.in-Some.error early,
    )

pub returns-in-Some-clause-short : goal.returns-in-Some-clause-short
returns-in-Some-clause-short g c is =
    let event = occurrence_of c.args.event in
    let early : early_refusal c.args.self.now.current c.args.moment event ≡ Some c.in-Some.error =
    ap (λ (r : Router). early_refusal r c.args.moment event) (sym c.now.ensures.router)
    ∙ sym c.early_refusal.ensures ∙ c.in-Some.is in
    let short : c.in-Some.error ≡ error.Memory = cc in
    absurd (never_short c.args.self.now.current c.args.moment event
    (early ∙ ap (λ (e : CoreError). Some e) short))

pub returns-in-Some-clause-err : goal.returns-in-Some-clause-err
returns-in-Some-clause-err g c =
    let event = occurrence_of c.args.event in
    let early : early_refusal c.args.self.now.current c.args.moment event ≡ Some c.in-Some.error =
    ap (λ (r : Router). early_refusal r c.args.moment event) (sym c.now.ensures.router)
    ∙ sym c.early_refusal.ensures ∙ c.in-Some.is in
    (inl (inr (λ none. let no : Some c.in-Some.error ≡ None = sym early ∙ none in absurd cc)), refl)

-- ---- the first try

pub attempt-requires-clause-few : goal.attempt-requires-clause-few
attempt-requires-clause-few g c =
    omega (arith, c.make_room.ensures.taken, c.taken.ensures.taken, c.taken.ensures.few)

pub attempt-requires-clause-early : goal.attempt-requires-clause-early
attempt-requires-clause-early g c =
    ap (λ (r : Router). early_refusal r c.args.moment (occurrence_of c.args.event))
    (c.make_room.ensures.current ∙ sym c.now.ensures.router)
    ∙ sym c.early_refusal.ensures ∙ c.in_default.is

pub returns-in-Ok-clause-ok : goal.returns-in-Ok-clause-ok
returns-in-Ok-clause-ok g c =
    let event = occurrence_of c.args.event in
    subst (λ (r : Router). Happens r c.args.moment event c.in-Ok.outs.items
    c.lighten.new.self.current) c.make_room.ensures.current
    (subst (λ (r : Router). Happens c.make_room.new.self.current c.args.moment event
    c.in-Ok.outs.items r)
    (sym (ap (λ (b : BookView). b.current) c.lighten.ensures.book)) c.in-Ok.ensures.ok)

pub returns-in-Ok-clause-noted : goal.returns-in-Ok-clause-noted
returns-in-Ok-clause-noted g c = inl (
  c.make_room.new.self,
  same_or_anew c.args.self.now c.make_room.new.self c.make_room.ensures.book,
  noted_in c.make_room.new.self c.attempt.new.self c.lighten.new.self
      (entry c.args.moment c.args.event)
      c.in-Ok.ensures.book c.lighten.ensures.book c.lighten.ensures.journal,
)

pub returns-in-Ok-clause-taken : goal.returns-in-Ok-clause-taken
returns-in-Ok-clause-taken g c =
    ap (λ (b : BookView). b.taken) c.lighten.ensures.book
    ∙ ap (λ (b : BookView). b.taken) c.in-Ok.ensures.book
    ∙ ap (λ n. n + 1) c.make_room.ensures.taken

pub returns-in-Ok-clause-refused : goal.returns-in-Ok-clause-refused
returns-in-Ok-clause-refused g c =
    answered_at c.args.self.now c.make_room.new.self c.args.moment c.args.event (Ok c.in-Ok.outs)
    c.make_room.ensures.current c.make_room.ensures.taken
    (answered_anew c.make_room.new.self c.args.moment c.args.event (Ok c.in-Ok.outs)
    c.make_room.ensures.room c.in-Ok.ensures.refused)

pub returns-in-Ok-clause-early : goal.returns-in-Ok-clause-early
returns-in-Ok-clause-early g c refused =
    let event = occurrence_of c.args.event in
    let more : c.args.self.now.taken ≡ 9223372036854775808 → ⊥ =
    λ spent. omega (arith, spent, c.taken.ensures.taken) in
    absurd (not_early c.args.self.now c.args.moment c.args.event more
    (ap (λ (r : Router). early_refusal r c.args.moment event) (sym c.now.ensures.router)
    ∙ sym c.early_refusal.ensures ∙ c.in_default.is) refused)

-- ---- a refusal that isn't for want of memory

pub returns-then-not-is_short-clause-refused : goal.returns-then-not-is_short-clause-refused
returns-then-not-is_short-clause-refused g c =
    answered_at {X = Vec Out Global} c.args.self.now c.make_room.new.self c.args.moment
    c.args.event
    (Err c.in-Err.refused.error) c.make_room.ensures.current c.make_room.ensures.taken
    (answered_anew {X = Vec Out Global} c.make_room.new.self c.args.moment c.args.event
    (Err c.in-Err.refused.error)
    c.make_room.ensures.room c.in-Err.ensures.refused)

pub returns-then-not-is_short-clause-early : goal.returns-then-not-is_short-clause-early
returns-then-not-is_short-clause-early g c refused =
    let event = occurrence_of c.args.event in
    let more : c.args.self.now.taken ≡ 9223372036854775808 → ⊥ =
    λ spent. omega (arith, spent, c.taken.ensures.taken) in
    absurd (not_early c.args.self.now c.args.moment c.args.event more
    (ap (λ (r : Router). early_refusal r c.args.moment event) (sym c.now.ensures.router)
    ∙ sym c.early_refusal.ensures ∙ c.in_default.is) refused)

pub returns-then-not-is_short-clause-short : goal.returns-then-not-is_short-clause-short
returns-then-not-is_short-clause-short g c is =
    absurd (c.is_short.ensures.other c.if-not-is_short.true (cc))

pub returns-then-not-is_short-clause-err : goal.returns-then-not-is_short-clause-err
returns-then-not-is_short-clause-err g c = (
  inr (subst (λ (b : BookView). MayBeMarked c.args.self.now b) (sym c.in-Err.ensures.err.0)
      (same_or_anew c.args.self.now c.make_room.new.self c.make_room.ensures.book)),
  c.in-Err.ensures.err.1,
)
