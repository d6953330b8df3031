use Rattle.std.proofs.Common.{◌≡◌, ◌∙◌, ℕ, ◌+◌, ◌<◌, ◌++◌, [], length, drop, subst, sym, ap}
use Rattle.std.proofs.Common.{get_or, string_bytes, arith}
use Rattle.object.specs.declared.kind.StatedKind.{StatedKind}
use Rattle.asm.specs.declared.line.AssemblyLine.TheVariants as lines
use Rattle.asm.specs.Written.{line_text}
use Rattle.asm.specs.Listed.{Listed, AddsLine, AreStated, gives_number}
use Rattle.asm.specs.Listing.{text_of, with_lines}
use Rattle.asm.proofs.Registers.{kinds_end, kind_line, empty_step, stating, kinds_up_to}
use Rattle.asm.proofs.Lines.{kind_written, empty_written, kinds_written}
use Rattle.asm.proofs.writing.write_kinds.Goals.{in-Some-content_of+in_ok-put}
use Rattle.asm.proofs.writing.write_kinds.Goals.{in_default-content_of}
use Rattle.asm.proofs.writing.write_kinds.Goals as goal

pub loop-index-preserved : goal.loop-index-preserved
loop-index-preserved c =
    let ks = c.args.kinds.now in
    let at : ℕ = c.loop-index.index in
    let within : at < 10 = omega (arith, c.loop-index-test.true) in
    let inside : at < length ks = omega (arith, within, c.requires) in
    let k : StatedKind = c.index-kinds-from.result in
    let here : get_or ks at k ≡ k = ap (λ n. get_or ks n k) (sym c.from.ensures)
    ∙ sym c.index-kinds-from.is in
    let old = string_bytes c.loop-index.text in
    let whole = string_bytes c.args.text.now ++ text_of (with_lines 0 ks) in
    record {
      says = λ f slot rank h. elim c.match-content_of.branch [
        | in-Some-content_of+in_ok-put w ↦ subst
            (λ t. Listed (string_bytes t) (stating f slot rank (kinds_up_to ks (at + 1)))
            (AreStated ks (at + 1))) (sym w.text-is)
            (kind_line old (string_bytes w.put.new.text) f slot rank ks at k
            w.in-Some-content_of.content c.requires within here
            w.in-Some-content_of.ensures.again
            (c.content_of.ensures.numbers ∙ ap gives_number w.in-Some-content_of.is)
            (subst (λ (r : ℕ). AddsLine old (string_bytes w.put.new.text)
            (lines.With r w.in-Some-content_of.content)) c.in-Some.ensures.value
            w.in_ok-put.ensures.says) (c.loop-index.invariant.says f slot rank h))
        | in_default-content_of w ↦ subst
            (λ t. Listed (string_bytes t) (stating f slot rank (kinds_up_to ks (at + 1)))
            (AreStated ks (at + 1))) (sym w.text-is)
            (empty_step old f slot rank ks at c.requires within
            (ap (λ (d : StatedKind). get_or ks at d) (sym w.in_default-content_of.ensures.again)
            ∙ here ∙ w.in_default-content_of.ensures.again)
            (c.loop-index.invariant.says f slot rank h))
      ];
      text = elim c.match-content_of.branch [
        | in-Some-content_of+in_ok-put w ↦ subst
            (λ t. string_bytes t ++ text_of (with_lines (at + 1) (drop (at + 1) ks)) ≡ whole)
            (sym w.text-is)
            (kind_written old (string_bytes w.put.new.text) whole ks at k
            w.in-Some-content_of.content inside here
            (sym c.content_of.ensures.line ∙ w.in-Some-content_of.is)
            (subst (λ (r : ℕ). string_bytes w.put.new.text ≡ old
            ++ line_text (lines.With r w.in-Some-content_of.content) []) c.in-Some.ensures.value
            w.in_ok-put.ensures.text) c.loop-index.invariant.text)
        | in_default-content_of w ↦ subst
            (λ t. string_bytes t ++ text_of (with_lines (at + 1) (drop (at + 1) ks)) ≡ whole)
            (sym w.text-is)
            (empty_written old whole ks at k inside here
            (sym c.content_of.ensures.line ∙ w.in_default-content_of.is)
            c.loop-index.invariant.text)
      ];
    }

pub returns-clause-says : goal.returns-clause-says
returns-clause-says c = λ f slot rank h.
    let ten : c.loop-index.index ≡ 10 =
    omega (arith, c.loop-index-test.false, c.loop-index.auto.index-end) in
    kinds_end (string_bytes c.loop-index.text) f slot rank c.args.kinds.now c.requires
    (subst (λ (n : ℕ). Listed (string_bytes c.loop-index.text)
    (stating f slot rank (kinds_up_to c.args.kinds.now n)) (AreStated c.args.kinds.now n)) ten
    (c.loop-index.invariant.says f slot rank h))

pub returns-clause-text : goal.returns-clause-text
returns-clause-text c = kinds_written (string_bytes c.loop-index.text) _ c.args.kinds.now
    c.loop-index.index (omega (arith, c.loop-index-test.false, c.requires))
    c.loop-index.invariant.text
