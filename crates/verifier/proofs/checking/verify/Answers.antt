use Rattle.std.proofs.Common.{◌≡◌, ◌+◌, ◌*◌, ◌∙◌, length, Err, refl, sym, ap, subst}
use Rattle.machine.specs.Runs.{Safe}
use Rattle.machine.specs.State.{start}
use Rattle.verifier.specs.Lines.{rank_value}
use Rattle.verifier.proofs.SegmentLemmas.{code_begins}
use Rattle.verifier.proofs.Soundness.{kept_regions, runs_as_stated, safe_program}
use Rattle.isa.specs.Flow.{Begins}
use Rattle.verifier.specs.Refusals.{IsFirst, MayRefuse}
use Rattle.verifier.proofs.Refused.{entry_refused, first_of_all, handed_on, is_err_of, within_bound}
use Rattle.verifier.proofs.SegmentsPlain.{never}
use Rattle.verifier.specs.Pass.{HasRank, IsPlainProgram}
use Rattle.verifier.proofs.Plain.{entry_edge}
use Rattle.verifier.proofs.checking.verify.Goals as goal

pub returns-clause-safe : goal.returns-clause-safe
returns-clause-safe g c =
    let rank_is : rank_value c.in_ok-entry.entry.statement.now.rank start ≡ c.args.entry_rank =
    rw c.in_ok-entry.ensures.statement (c.entry_statement-statement.ensures.rank start) in
    safe_program g.D.Domain.contains c.args.code c.args.hook
    c.in_ok-segment_starts.segment_starts.items
    c.in_ok-entry.entry c.args.entry_rank (code_begins c.args.code c.into_slots.ensures.code)
    c.in_ok-entry.ensures.holds rank_is
    (λ target stated. c.in_ok-known.ensures.edge target (rw c.deref.ensures.value stated) start
    c.in_ok-entry.ensures.holds)
    (rw (← c.deref-2.ensures.value) c.in_ok-regions.ensures.fine)

pub returns-clause-stated : goal.returns-clause-stated
returns-clause-stated g c =
    runs_as_stated g.D.Domain.contains g.D.Domain.stated_gives c.args.code c.args.hook
    c.in_ok-segment_starts.segment_starts.items c.in_ok-entry.entry
    (code_begins c.args.code c.into_slots.ensures.code) c.in_ok-entry.ensures.holds
    (λ target stated. c.in_ok-known.ensures.edge target (rw c.deref.ensures.value stated) start
    c.in_ok-entry.ensures.holds)
    (rw (← c.deref-2.ensures.value) c.in_ok-regions.ensures.fine) c.args.statements.now
    c.in_ok-segment_starts.ensures.are c.in_ok-segment_starts.ensures.meet

pub invariant_of-result : goal.invariant_of-result
invariant_of-result g c =
    let rank_is : rank_value c.in_ok-entry.entry.statement.now.rank start ≡ c.args.entry_rank =
    rw c.in_ok-entry.ensures.statement (c.entry_statement-statement.ensures.rank start) in
    let same : (c.args.entry_rank + 1) * length c.args.code ≡ c.in_ok-bound.bound =
    sym (c.in_ok-bound.ensures.value
    ∙ ap (λ n. (c.args.entry_rank + 1) * n) c.len.ensures.value) in
    let safe = safe_program g.D.Domain.contains c.args.code c.args.hook
    c.in_ok-segment_starts.segment_starts.items c.in_ok-entry.entry c.args.entry_rank
    (code_begins c.args.code c.into_slots.ensures.code) c.in_ok-entry.ensures.holds rank_is
    (λ target stated. c.in_ok-known.ensures.edge target (rw c.deref.ensures.value stated) start
    c.in_ok-entry.ensures.holds)
    (rw (← c.deref-2.ensures.value) c.in_ok-regions.ensures.fine) in
    let kept = kept_regions g.D.Domain.contains c.args.code c.args.hook
    c.in_ok-segment_starts.segment_starts.items c.in_ok-entry.entry
    (code_begins c.args.code c.into_slots.ensures.code) c.in_ok-entry.ensures.holds
    (λ target stated. c.in_ok-known.ensures.edge target (rw c.deref.ensures.value stated) start
    c.in_ok-entry.ensures.holds)
    (rw (← c.deref-2.ensures.value) c.in_ok-regions.ensures.fine) c.in_ok-regions.regions.items
    (rw (← c.deref-2.ensures.value) c.in_ok-regions.ensures.kept) in (
      record {
        is_code = rw c.into_slots.ensures.value c.into_slots.ensures.code;
        safe = rw c.into_slots.ensures.value
            (subst (λ bound. Safe c.args.code c.args.hook bound) same safe);
        small = c.in_ok-bound.ensures.most;
        long = rw c.into_slots.ensures.value c.in_ok-regions.ensures.long;
        kept = rw c.into_slots.ensures.value kept;
      },
      record {
        done = rw (c.into_slots.ensures.value, ← c.slots.ensures.value, ← c.deref-3.ensures.value)
            c.in_ok-actions.ensures.done;
        as_long = rw (c.into_slots.ensures.value, ← c.slots.ensures.value)
            c.in_ok-actions.ensures.long;
      },
    )

pub returns-in_err-known-clause-named : goal.returns-in_err-known-clause-named
returns-in_err-known-clause-named g c =
    let begins : Begins c.args.code c.in_err-known.field-0.0.slot =
    rw c.in_err-known.ensures.named.0 (code_begins c.args.code c.slots-is_code.ensures.code) in
    handed_on c.from_residual-in_err-known.result c.in_err-known.field-0.0
    (λ r. MayRefuse c.args.hook c.args.code c.args.entry_rank c.args.statements.now r.slot
    r.rule) c.from_residual-in_err-known.ensures.1
    (entry_refused c.args.hook c.args.code c.args.entry_rank c.args.statements.now
    c.in_err-known.field-0.0.slot c.in_err-known.field-0.0.rule c.in_err-known.ensures.named.0
    begins c.in_err-known.ensures.named.1).0

pub returns-in_err-regions-clause-named : goal.returns-in_err-regions-clause-named
returns-in_err-regions-clause-named g c =
    handed_on c.from_residual-in_err-regions.result c.in_err-regions.field-0.0
    (λ r. MayRefuse c.args.hook c.args.code c.args.entry_rank c.args.statements.now r.slot
    r.rule) c.from_residual-in_err-regions.ensures.1
    (c.in_err-regions.ensures.named c.args.statements.now c.args.entry_rank
    (rw c.deref-2.ensures.value c.in_ok-segment_starts.ensures.are))

pub returns-in_err-regions-clause-first : goal.returns-in_err-regions-clause-first
returns-in_err-regions-clause-first g c =
    handed_on c.from_residual-in_err-regions.result c.in_err-regions.field-0.0
    (λ r. IsFirst c.args.code c.args.statements.now r.slot r.rule)
    c.from_residual-in_err-regions.ensures.1
    (c.in_err-regions.ensures.first c.args.statements.now
    (rw c.deref-2.ensures.value c.in_ok-segment_starts.ensures.are))

pub returns-in_err-bound-clause-plain : goal.returns-in_err-bound-clause-plain
returns-in_err-bound-clause-plain g c = λ plain.
    absurd (plain.budget (record {
      first = refl;
      over = rw (← c.len.ensures.value) c.in_err-bound.ensures.over;
    }))

pub returns-in_err-known-clause-plain : goal.returns-in_err-known-clause-plain
returns-in_err-known-clause-plain g c = λ plain.
    let program : IsPlainProgram g.D.Domain.contains c.args.code c.args.entry_rank
    c.args.statements.now c.deref.result.now = record {
      are = rw c.deref.ensures.value c.in_ok-segment_starts.ensures.are;
      plain = plain;
    } in
    let has : HasRank c.in_ok-entry.entry c.args.entry_rank = record {
      constant = rw c.in_ok-entry.ensures.statement c.entry_statement-statement.ensures.flat;
      same = rw c.in_ok-entry.ensures.statement c.entry_statement-statement.ensures.constant;
    } in
    never (c.in_err-known.ensures.plain
    (entry_edge g.D.Domain.contains c.args.code c.args.entry_rank c.args.statements.now _
    program c.in_ok-entry.entry has))

pub returns-in_err-regions-clause-plain : goal.returns-in_err-regions-clause-plain
returns-in_err-regions-clause-plain g c = λ plain.
    let program : IsPlainProgram g.D.Domain.contains c.args.code c.args.entry_rank
    c.args.statements.now c.deref-2.result.now = record {
      are = rw c.deref-2.ensures.value c.in_ok-segment_starts.ensures.are;
      plain = plain;
    } in
    let has : HasRank c.in_ok-entry.entry c.args.entry_rank = record {
      constant = rw c.in_ok-entry.ensures.statement c.entry_statement-statement.ensures.flat;
      same = rw c.in_ok-entry.ensures.statement c.entry_statement-statement.ensures.constant;
    } in
    never (c.in_err-regions.ensures.plain c.args.statements.now c.args.entry_rank program has)

pub returns-in_err-known-clause-first : goal.returns-in_err-known-clause-first
returns-in_err-known-clause-first g c =
    let begins : Begins c.args.code c.in_err-known.field-0.0.slot =
    rw c.in_err-known.ensures.named.0 (code_begins c.args.code c.slots-is_code.ensures.code) in
    handed_on c.from_residual-in_err-known.result c.in_err-known.field-0.0
    (λ r. IsFirst c.args.code c.args.statements.now r.slot r.rule)
    c.from_residual-in_err-known.ensures.1
    (first_of_all c.args.code c.args.statements.now c.in_err-known.field-0.0.slot
    c.in_err-known.field-0.0.rule c.in_err-known.ensures.named.0
    (entry_refused c.args.hook c.args.code c.args.entry_rank c.args.statements.now
    c.in_err-known.field-0.0.slot c.in_err-known.field-0.0.rule c.in_err-known.ensures.named.0
    begins c.in_err-known.ensures.named.1).1)

pub returns-in_err-bound-clause-over : goal.returns-in_err-bound-clause-over
returns-in_err-bound-clause-over g c = λ over.
    is_err_of c.from_residual.result c.in_err-bound.field-0.0 c.from_residual.ensures.1
    ∙ ap Err c.in_err-bound.ensures.named

pub returns-in_err-entry-clause-over : goal.returns-in_err-entry-clause-over
returns-in_err-entry-clause-over g c = λ over.
    absurd (within_bound (c.args.entry_rank + 1) _ (length c.args.code) c.in_ok-bound.bound _
    c.in_ok-bound.ensures.value c.len.ensures.value c.in_ok-bound.ensures.most over)

pub returns-in_err-segment_starts-clause-over : goal.returns-in_err-segment_starts-clause-over
returns-in_err-segment_starts-clause-over g c = λ over.
    absurd (within_bound (c.args.entry_rank + 1) _ (length c.args.code) c.in_ok-bound.bound _
    c.in_ok-bound.ensures.value c.len.ensures.value c.in_ok-bound.ensures.most over)

pub returns-in_err-unknown-clause-over : goal.returns-in_err-unknown-clause-over
returns-in_err-unknown-clause-over g c = λ over.
    absurd (within_bound (c.args.entry_rank + 1) _ (length c.args.code) c.in_ok-bound.bound _
    c.in_ok-bound.ensures.value c.len.ensures.value c.in_ok-bound.ensures.most over)

pub returns-in_err-known-clause-over : goal.returns-in_err-known-clause-over
returns-in_err-known-clause-over g c = λ over.
    absurd (within_bound (c.args.entry_rank + 1) _ (length c.args.code) c.in_ok-bound.bound _
    c.in_ok-bound.ensures.value c.len.ensures.value c.in_ok-bound.ensures.most over)

pub returns-in_err-room-clause-over : goal.returns-in_err-room-clause-over
returns-in_err-room-clause-over g c = λ over.
    absurd (within_bound (c.args.entry_rank + 1) _ (length c.args.code) c.in_ok-bound.bound _
    c.in_ok-bound.ensures.value c.len.ensures.value c.in_ok-bound.ensures.most over)

pub returns-in_err-regions-clause-over : goal.returns-in_err-regions-clause-over
returns-in_err-regions-clause-over g c = λ over.
    absurd (within_bound (c.args.entry_rank + 1) _ (length c.args.code) c.in_ok-bound.bound _
    c.in_ok-bound.ensures.value c.len.ensures.value c.in_ok-bound.ensures.most over)

pub returns-clause-over : goal.returns-clause-over
returns-clause-over g c = λ over.
    absurd (within_bound (c.args.entry_rank + 1) _ (length c.args.code) c.in_ok-bound.bound _
    c.in_ok-bound.ensures.value c.len.ensures.value c.in_ok-bound.ensures.most over)

pub returns-in_err-actions-clause-over : goal.returns-in_err-actions-clause-over
returns-in_err-actions-clause-over g c = λ over.
    absurd (within_bound (c.args.entry_rank + 1) _ (length c.args.code) c.in_ok-bound.bound _
    c.in_ok-bound.ensures.value c.len.ensures.value c.in_ok-bound.ensures.most over)
