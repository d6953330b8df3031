use Rattle.std.proofs.Common.{ap, sym, ◌∙◌}
use Rattle.event_rules.specs.Routers.{Router}
use Rattle.flood.specs.Early.{early_refusal}
use Rattle.flood.specs.Occurrences.{occurrence_of}
use Rattle.flood.proofs.Early.{early_answers}
use Rattle.flood.proofs.Noted.{not_full}
use Rattle.flood.proofs.book.Book.apply.Goals as goal

pub returns-then-is_full-clause-refused : goal.returns-then-is_full-clause-refused
returns-then-is_full-clause-refused g c = c.is_full.ensures.full c.if-is_full.true

pub returns-in-Some-clause-refused : goal.returns-in-Some-clause-refused
returns-in-Some-clause-refused g c =
    let book = c.args.self.now in
    let event = occurrence_of c.args.event in (
      not_full book (c.is_full.ensures.room c.if-is_full.false)
          (c.is_full.ensures.few c.if-is_full.false),
      early_answers (Unit {0}) book.current c.args.moment event c.in-Some.error
          (ap (λ (r : Router). early_refusal r c.args.moment event) (sym c.now.ensures.router)
          ∙ sym c.early_refusal-early.ensures ∙ c.in-Some.is),
    )

pub attempt-requires-clause-room : goal.attempt-requires-clause-room
attempt-requires-clause-room g c = c.is_full.ensures.room c.if-is_full.false

pub attempt-requires-clause-few : goal.attempt-requires-clause-few
attempt-requires-clause-few g c = c.is_full.ensures.few c.if-is_full.false

pub attempt-requires-clause-early : goal.attempt-requires-clause-early
attempt-requires-clause-early g c =
    ap (λ (r : Router). early_refusal r c.args.moment (occurrence_of c.args.event))
    (sym c.now.ensures.router)
    ∙ sym c.early_refusal-early.ensures ∙ c.in_default.is
