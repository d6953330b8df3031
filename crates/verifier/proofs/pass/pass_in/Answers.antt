use Rattle.std.proofs.Common.{◌≡◌, refl, subst}
use Rattle.verifier.specs.Places.{segment_of}
use Rattle.verifier.specs.Pass.{IsPlainIfLive}
use Rattle.verifier.proofs.pass.pass_in.Goals as goal

pub returns-in_default-clause-keeps : goal.returns-in_default-clause-keeps
returns-in_default-clause-keeps g c = λ plain ten.
    let same : segment_of c.args.segment_starts.now c.args.entry.now c.args.begun
    ≡ c.args.entry.now =
    rw c.in_default.is refl in
    c.in_ok-first.ensures.keeps (subst
    (λ segment. IsPlainIfLive g.D.Domain.contains c.args.segment_starts.now segment c.args.slot
    c.args.instruction.now c.args.known) same plain) ten

pub returns-in_default-stated_at-clause-keeps : goal.returns-in_default-stated_at-clause-keeps
returns-in_default-stated_at-clause-keeps g c = λ plain ten.
    let same : segment_of c.args.segment_starts.now c.args.entry.now c.args.begun
    ≡ c.args.entry.now =
    rw (c.in-Some.is, c.in_default-stated_at.ensures) refl in
    c.in_ok-first-2.ensures.keeps (subst
    (λ segment. IsPlainIfLive g.D.Domain.contains c.args.segment_starts.now segment c.args.slot
    c.args.instruction.now c.args.known) same plain) ten

pub returns-clause-keeps : goal.returns-clause-keeps
returns-clause-keeps g c = λ plain ten.
    let same : segment_of c.args.segment_starts.now c.args.entry.now c.args.begun
    ≡ c.in-Some-stated_at.segment.now = rw (c.in-Some.is, c.in-Some-stated_at.ensures) refl in
    c.in_ok-after.ensures.keeps (subst
    (λ segment. IsPlainIfLive g.D.Domain.contains c.args.segment_starts.now segment c.args.slot
    c.args.instruction.now c.args.known) same plain) ten
