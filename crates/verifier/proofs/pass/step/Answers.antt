use Rattle.verifier.proofs.Kept.{current_into, no_base}
use Rattle.verifier.proofs.SegmentLemmas.{arrived, current_fine, next_current}
use Rattle.verifier.proofs.Refused.{IsRefusal, empty_refused, follow_refused, handed_on}
use Rattle.verifier.proofs.Refused.{place_refused}
use Rattle.verifier.specs.Places.{segment_of}
use Rattle.verifier.proofs.SegmentsPlain.{never}
use Rattle.verifier.proofs.Plain.{arrives, comes_behind, no_place, plain_here}
use Rattle.verifier.proofs.pass.step.Goals as goal

pub returns-clause-fine : goal.returns-clause-fine
returns-clause-fine g c = λ current.
    let found = arrived g.D.Domain.contains c.args.code.now c.args.hook c.args.segment_starts.now
    c.args.entry.now c.args.slot c.args.begun c.arrive-here.result.0 c.args.known
    c.arrive-here.result.1 current c.arrive-here.ensures.arrived in
    current_fine g.D.Domain.contains c.args.code.now c.args.hook c.args.segment_starts.now
    c.args.entry.now
    c.arrive-here.result.1 c.in_ok-after.after c.args.instruction.now c.requires.here found
    c.in_ok-after.ensures.passed

pub returns-clause-kept : goal.returns-clause-kept
returns-clause-kept g c = λ current.
    let found = arrived g.D.Domain.contains c.args.code.now c.args.hook c.args.segment_starts.now
    c.args.entry.now c.args.slot c.args.begun c.arrive-here.result.0 c.args.known
    c.arrive-here.result.1 current c.arrive-here.ensures.arrived in
    current_into g.D.Domain.contains c.args.code.now c.args.hook c.args.segment_starts.now
    c.args.entry.now
    c.arrive-here.result.1 c.args.instruction.now c.in_ok-region.region c.requires.here found
    c.in_ok-region.ensures.points

pub returns-clause-current : goal.returns-clause-current
returns-clause-current g c = λ current.
    let found = arrived g.D.Domain.contains c.args.code.now c.args.hook c.args.segment_starts.now
    c.args.entry.now c.args.slot c.args.begun c.arrive-here.result.0 c.args.known
    c.arrive-here.result.1 current c.arrive-here.ensures.arrived in
    next_current g.D.Domain.contains c.args.code.now c.args.hook c.args.segment_starts.now
    c.args.entry.now
    c.arrive-here.result.1 c.in_ok-after.after c.args.instruction.now
    c.one_instruction_ends_at_a_slot.ensures c.slots-is_code.ensures.code c.requires.here
    found c.in_ok-after.ensures.passed

pub returns-in_err-check_places-clause-named : goal.returns-in_err-check_places-clause-named
returns-in_err-check_places-clause-named g c = λ statements entry_rank are passed.
    handed_on c.from_residual.result c.in_err-check_places.field-0.0
    (IsRefusal c.args.hook c.args.code.now entry_rank statements c.args.slot)
    c.from_residual.ensures.1
    (place_refused c.args.hook c.args.code.now entry_rank statements c.args.slot
    c.in_err-check_places.field-0.0 (c.in_err-check_places.ensures.made statements are passed))

pub returns-in_err-region-clause-named : goal.returns-in_err-region-clause-named
returns-in_err-region-clause-named g c = λ statements entry_rank are passed.
    handed_on c.from_residual-in_err-region.result c.in_err-region.field-0.0
    (IsRefusal c.args.hook c.args.code.now entry_rank statements c.args.slot)
    c.from_residual-in_err-region.ensures.1
    (empty_refused c.args.hook c.args.code.now entry_rank statements c.args.slot
    c.args.instruction.now c.in_err-region.field-0.0 c.requires.here
    (c.in_ok-check_places.ensures.made statements are passed) c.in_err-region.ensures.named)

pub returns-in_err-region-clause-plain : goal.returns-in_err-region-clause-plain
returns-in_err-region-clause-plain g c = λ statements entry_rank program passed comes.
    never (c.in_err-region.ensures.plain
    (no_base c.args.instruction.now
    (program.plain.instructions c.args.slot c.args.instruction.now c.requires.here)))

pub returns-in_err-after-clause-named : goal.returns-in_err-after-clause-named
returns-in_err-after-clause-named g c = λ statements entry_rank are passed.
    handed_on c.from_residual-in_err-after.result c.in_err-after.field-0.0
    (IsRefusal c.args.hook c.args.code.now entry_rank statements c.args.slot)
    c.from_residual-in_err-after.ensures.1
    (follow_refused c.args.hook c.args.code.now entry_rank statements c.args.slot
    c.args.instruction.now c.in_err-after.field-0.0 c.requires.here
    (c.in_ok-check_places.ensures.made statements are passed) c.in_err-after.ensures.named)

pub returns-in_err-check_places-clause-plain : goal.returns-in_err-check_places-clause-plain
returns-in_err-check_places-clause-plain g c = λ statements entry_rank program passed comes.
    absurd (no_place c.args.code.now statements c.args.slot c.in_err-check_places.field-0.0
    (program.plain.made c.args.slot)
    (c.in_err-check_places.ensures.made statements program.are passed))

pub returns-in_err-after-clause-plain : goal.returns-in_err-after-clause-plain
returns-in_err-after-clause-plain g c = λ statements entry_rank program passed comes.
    let knows = arrives g.D.Domain.contains c.args.code.now entry_rank statements
    c.args.segment_starts.now
    program c.args.entry.now c.args.slot c.args.begun c.arrive-here.result.0 c.args.known
    c.arrive-here.result.1 comes c.arrive-here.ensures.arrived
    (c.arrive-here.ensures.kinds comes.ten) in
    let segment = segment_of c.args.segment_starts.now c.args.entry.now c.arrive-here.result.0 in
    let ten = c.arrive-here.ensures.ten comes.ten in
    let here = plain_here g.D.Domain.contains c.args.code.now entry_rank statements
    c.args.segment_starts.now program c.args.slot c.args.instruction.now c.requires.here segment
    c.arrive-here.result.1 ten knows in
    never (c.in_err-after.ensures.plain here)

pub returns-clause-keeps : goal.returns-clause-keeps
returns-clause-keeps g c = λ statements entry_rank program comes.
    let knows = arrives g.D.Domain.contains c.args.code.now entry_rank statements
    c.args.segment_starts.now
    program c.args.entry.now c.args.slot c.args.begun c.arrive-here.result.0 c.args.known
    c.arrive-here.result.1 comes c.arrive-here.ensures.arrived
    (c.arrive-here.ensures.kinds comes.ten) in
    let segment = segment_of c.args.segment_starts.now c.args.entry.now c.arrive-here.result.0 in
    let ten = c.arrive-here.ensures.ten comes.ten in
    let here = plain_here g.D.Domain.contains c.args.code.now entry_rank statements
    c.args.segment_starts.now program c.args.slot c.args.instruction.now c.requires.here segment
    c.arrive-here.result.1 ten knows in
    comes_behind g.D.Domain.contains c.args.code.now entry_rank statements c.args.segment_starts.now
    program c.one_instruction_ends_at_a_slot.ensures c.slots-is_code.ensures.code c.args.slot
    c.args.instruction.now c.requires.here segment c.arrive-here.result.1
    c.in_ok-after.after knows
    (c.in_ok-after.ensures.keeps here ten)
