use Rattle.std.proofs.Common.{sym, ap, ◌∙◌, Some}
use Rattle.std.proofs.lemmas.List.{take_rest}
use Rattle.object.specs.Spelling.{rank_bytes, statement_text}
use Rattle.object.specs.Statements.{StatementParts}
use Rattle.object.proofs.Parts.{parts_of, text_of, rank_again, statement_told, rank_over}
use Rattle.object.proofs.reading.statement.Goals as goal

pub returns-in_default-clause-only : goal.returns-in_default-clause-only
returns-in_default-clause-only c s h e =
    absurd (c.in_default.not-Some _ (c.rank_of.ensures.only s.rank h.rank.is_rank
    (rank_again s _ _ h e c.read-fields.ensures.ranges c.read-fields.ensures.bytes)))

pub returns-in_default-kinds-clause-only : goal.returns-in_default-kinds-clause-only
returns-in_default-kinds-clause-only c s h e =
    let p = parts_of s _ h.stack e in
    absurd (c.in_default-kinds.not-Some _
    (c.kinds.ensures.only s.kinds h.kinds h.count
    (sym p.back ∙ sym (take_rest c.args.bytes.now 84))))

pub returns-in-Some-new-clause-found : goal.returns-in-Some-new-clause-found
returns-in-Some-new-clause-found c =
    let made : StatementParts = record {
      slot = c.read-fields.result.slot;
      rank = c.in-Some.rank;
      kinds = c.in-Some-kinds.kinds;
      stack = c.unpack-stack.result;
    } in (
      ap statement_text c.in-Some-new.ensures.value
          ∙ text_of made c.args.bytes.now c.requires
          (ap rank_bytes c.in-Some.ensures.found ∙ c.read-fields.ensures.bytes)
          c.unpack-stack.ensures.packed
          (c.in-Some-kinds.ensures.found ∙ take_rest c.args.bytes.now 84),
      c.slot-slot.ensures.is_statement,
    )

pub returns-in-Some-new-clause-only : goal.returns-in-Some-new-clause-only
returns-in-Some-new-clause-only c s h e =
    let told = statement_told s c.args.bytes.now c.read-fields.result c.in-Some.rank
    c.in-Some-kinds.kinds c.unpack-stack.result h e c.read-fields.ensures.ranges
    c.read-fields.ensures.bytes
    (λ r is same. let found = c.in-Some.ensures.only r is same in cc found)
    (λ ks all ten same. let found = c.in-Some-kinds.ensures.only ks all ten
    (same ∙ sym (take_rest c.args.bytes.now 84)) in cc found)
    c.unpack-stack.ensures.packed c.unpack-stack.ensures.are in
    ap Some (c.in-Some-new.ensures.value ∙ sym told)

pub returns-in-None-clause-only : goal.returns-in-None-clause-only
returns-in-None-clause-only c s h e =
    let told = statement_told s c.args.bytes.now c.read-fields.result c.in-Some.rank
    c.in-Some-kinds.kinds c.unpack-stack.result h e c.read-fields.ensures.ranges
    c.read-fields.ensures.bytes
    (λ r is same. let found = c.in-Some.ensures.only r is same in cc found)
    (λ ks all ten same. let found = c.in-Some-kinds.ensures.only ks all ten
    (same ∙ sym (take_rest c.args.bytes.now 84)) in cc found)
    c.unpack-stack.ensures.packed c.unpack-stack.ensures.are in
    let some = c.in-None.ensures.some.1 (rank_over s _ _ _ _ h told) in absurd (cc some)
