use Rattle.std.proofs.Common.{◌≡◌, ◌∙◌, ◌<◌, ◌+◌, ◌⊎◌, Some, inr, arith, subst, sym, length}
use Rattle.isa.specs.Flow.{Begins}
use Rattle.verifier.specs.Places.{segment_of}
use Rattle.verifier.specs.Segments.{IsCurrentUnlessStated}
use Rattle.verifier.proofs.Made.{inside_code}
use Rattle.std.specs.Prelude.{slice_get}
use Rattle.isa.specs.declared.code.Slot.TheVariants.{Start}
use Rattle.std.proofs.lemmas.List.{length-set}
use Rattle.verifier.proofs.Kept.{kept_more}
use Rattle.verifier.proofs.SegmentLemmas.{code_begins, entry_current, fine_more}
use Rattle.verifier.specs.Refusals.{IsPassedTo}
use Rattle.verifier.proofs.Refused.{made_more, passed_behind, passed_to_start, split_first}
use Rattle.verifier.proofs.Refused.{split_refused}
use Rattle.verifier.proofs.SegmentsPlain.{never}
use Rattle.verifier.specs.Pass.{ComesPlainly}
use Rattle.verifier.proofs.Plain.{comes_first}
use Rattle.verifier.proofs.pass.pass_all.Goals as goal

pub loop-slot-init : goal.loop-slot-init
loop-slot-init g c = record {
  fine = λ k none begins. absurd (omega (arith, none));
  kept = λ k none begins. absurd (omega (arith, none));
  long = c.requires.long;
  current = entry_current g.D.Domain.contains c.args.code.now c.args.hook c.args.segment_starts.now
      c.args.entry.now c.requires.live c.requires.own;
  place = inr (code_begins c.args.code.now c.slots-is_code.ensures.code);
  passed = passed_to_start c.args.code.now;
  plain = λ statements entry_rank program has. comes_first g.D.Domain.contains c.args.code.now
      entry_rank statements c.args.segment_starts.now program c.args.entry.now c.args.start has
      c.requires.ten;
  made = λ statements are k none. absurd (omega (arith, none));
}

pub loop-slot-preserved : goal.loop-slot-preserved
loop-slot-preserved g c =
    let code = c.args.code.now in
    let here : slice_get c.args.code.now c.loop-slot.slot
    ≡ Some (Start c.in-Some-Start.instruction) =
    cc (
      c.at.ensures.value,
      c.in-Some-Start.is,
      c.in-Some-Start.field-0-is,
      c.in-Some-Start.ensures.value,
    ) in
    let this = c.in-Ok.ensures.fine c.loop-slot.invariant.current in
    let into = c.in-Ok.ensures.kept c.loop-slot.invariant.current in
    let inside : c.loop-slot.slot < length c.loop-slot.regions.items =
    omega (
      arith,
      inside_code code c.loop-slot.slot (c.in-Some-Start.instruction, here),
      c.loop-slot.invariant.long,
    ) in
    record {
      fine = λ k below begins. fine_more g.D.Domain.contains code c.args.hook
          c.args.segment_starts.now
          c.args.entry.now c.a_wide_instruction_has_its_second_half.ensures
          c.slots-is_code.ensures.code c.loop-slot.slot c.in-Some-Start.instruction here
          c.loop-slot.invariant.fine this k
          (subst (λ n. k < c.loop-slot.slot + n) c.slots_of-slot.ensures.value below) begins;
      kept = λ k below begins. kept_more g.D.Domain.contains code c.args.hook
          c.args.segment_starts.now
          c.args.entry.now c.a_wide_instruction_has_its_second_half.ensures
          c.slots-is_code.ensures.code c.loop-slot.slot c.in-Some-Start.instruction here
          c.loop-slot.regions.items c.in-Ok.next.2 inside c.loop-slot.invariant.kept into k
          (subst (λ n. k < c.loop-slot.slot + n) c.slots_of-slot.ensures.value below) begins;
      long = length-set c.loop-slot.regions.items c.loop-slot.slot c.in-Ok.next.2
          ∙ c.loop-slot.invariant.long;
      current = subst (λ n. IsCurrentUnlessStated g.D.Domain.contains code c.args.hook
          c.args.segment_starts.now c.args.entry.now (c.loop-slot.slot + n)
          (segment_of c.args.segment_starts.now c.args.entry.now c.in-Ok.next.0) c.in-Ok.next.1)
          (sym c.slots_of-slot.ensures.value)
          (c.in-Ok.ensures.current c.loop-slot.invariant.current);
      place = subst (λ n. (c.loop-slot.slot + n ≡ length code) ⊎ Begins code (c.loop-slot.slot + n))
          (sym c.slots_of-slot.ensures.value)
          (c.an_instruction_is_followed.ensures code c.loop-slot.slot c.in-Some-Start.instruction
          c.slots-is_code.ensures.code here);
      passed = subst (λ n. IsPassedTo c.falls_through-is_passed_to.result code
          (c.loop-slot.slot + n)) (sym c.slots_of-slot.ensures.value)
          (passed_behind c.one_instruction_ends_at_a_slot.ensures code c.slots-is_code.ensures.code
          c.loop-slot.slot c.in-Some-Start.instruction here c.falls_through-is_passed_to.result
          (sym c.falls_through-is_passed_to.ensures));
      plain = λ statements entry_rank program has.
          subst (λ n. ComesPlainly code entry_rank statements (c.loop-slot.slot + n)
          (segment_of c.args.segment_starts.now c.args.entry.now c.in-Ok.next.0) c.in-Ok.next.1)
          (sym c.slots_of-slot.ensures.value)
          (c.in-Ok.ensures.keeps statements entry_rank program
          (c.loop-slot.invariant.plain statements entry_rank program has));
      made = λ statements are k below. made_more g.D.Domain.contains
          c.a_wide_instruction_has_its_second_half.ensures code c.slots-is_code.ensures.code
          statements c.args.segment_starts.now are c.loop-slot.slot c.in-Some-Start.instruction here
          (c.loop-slot.invariant.made statements are)
          (c.in-Ok.ensures.made statements are c.loop-slot.invariant.passed)
          (c.splits.ensures.whole c.if-splits.false) k
          (subst (λ n. k < c.loop-slot.slot + n) c.slots_of-slot.ensures.value below);
    }

pub returns-clause-fine : goal.returns-clause-fine
returns-clause-fine g c = λ slot begins. let inside = inside_code c.args.code.now slot begins in
    c.loop-slot.invariant.fine slot (omega (arith, inside)) begins

pub returns-clause-kept : goal.returns-clause-kept
returns-clause-kept g c = λ slot begins. let inside = inside_code c.args.code.now slot begins in
    c.loop-slot.invariant.kept slot (omega (arith, inside)) begins

pub returns-in-Err-clause-named : goal.returns-in-Err-clause-named
returns-in-Err-clause-named g c = λ statements entry_rank are.
    (c.in-Err.ensures.named statements entry_rank are c.loop-slot.invariant.passed).0

pub returns-in-Err-clause-first : goal.returns-in-Err-clause-first
returns-in-Err-clause-first g c = λ statements are. record {
  earlier = c.loop-slot.invariant.made statements are;
  here = (c.in-Err.ensures.named statements 0 are c.loop-slot.invariant.passed).1;
}

pub returns-then-splits-clause-named : goal.returns-then-splits-clause-named
returns-then-splits-clause-named g c = λ statements entry_rank are.
    let here : slice_get c.args.code.now c.loop-slot.slot
    ≡ Some (Start c.in-Some-Start.instruction) =
    cc (
      c.at.ensures.value,
      c.in-Some-Start.is,
      c.in-Some-Start.field-0-is,
      c.in-Some-Start.ensures.value,
    ) in
    split_refused g.D.Domain.contains c.a_wide_instruction_has_its_second_half.ensures
    c.args.code.now c.slots-is_code.ensures.code statements c.args.segment_starts.now are
    c.loop-slot.slot c.in-Some-Start.instruction here
    c.args.hook entry_rank (c.splits.ensures.split c.if-splits.true)

pub returns-then-splits-clause-first : goal.returns-then-splits-clause-first
returns-then-splits-clause-first g c = λ statements are.
    let here : slice_get c.args.code.now c.loop-slot.slot
    ≡ Some (Start c.in-Some-Start.instruction) =
    cc (
      c.at.ensures.value,
      c.in-Some-Start.is,
      c.in-Some-Start.field-0-is,
      c.in-Some-Start.ensures.value,
    ) in
    split_first g.D.Domain.contains c.a_wide_instruction_has_its_second_half.ensures c.args.code.now
    c.slots-is_code.ensures.code statements c.args.segment_starts.now are c.loop-slot.slot
    c.in-Some-Start.instruction here
    (c.loop-slot.invariant.made statements are)
    (c.in-Ok.ensures.made statements are c.loop-slot.invariant.passed)

pub returns-in-Err-clause-plain : goal.returns-in-Err-clause-plain
returns-in-Err-clause-plain g c = λ statements entry_rank program has.
    never (c.in-Err.ensures.plain statements entry_rank program c.loop-slot.invariant.passed
    (c.loop-slot.invariant.plain statements entry_rank program has))

pub returns-then-splits-clause-plain : goal.returns-then-splits-clause-plain
returns-then-splits-clause-plain g c = λ statements entry_rank program has.
    let here : slice_get c.args.code.now c.loop-slot.slot
    ≡ Some (Start c.in-Some-Start.instruction) =
    cc (
      c.at.ensures.value,
      c.in-Some-Start.is,
      c.in-Some-Start.field-0-is,
      c.in-Some-Start.ensures.value,
    ) in
    absurd ((program.plain.made (c.loop-slot.slot + 1)).target
    (split_refused g.D.Domain.contains c.a_wide_instruction_has_its_second_half.ensures
    c.args.code.now c.slots-is_code.ensures.code statements c.args.segment_starts.now program.are
    c.loop-slot.slot c.in-Some-Start.instruction here
    c.args.hook entry_rank (c.splits.ensures.split c.if-splits.true)))
