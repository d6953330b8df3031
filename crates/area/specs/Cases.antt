-- The cases of received LSAs with their names in the code, and the tests that distinguish them.
use Rattle.std.specs.Prelude.{Bool, true, false, List, [], ◌∷◌}
use Rattle.received.specs.Cases.{Case}
use Rattle.area.specs.declared.cases.Case.{Case as Named}
use Rattle.area.specs.declared.cases.Case.TheVariants as named
use Rattle.area.specs.declared.cases.Tests.{Tests}

-- bytes that encode no LSA are skipped before, so the code has no name for `Unreadable`
abbrev pub case_of : Named → Case
case_of named.NothingToFlush = Case.NothingToFlush
case_of named.TooSoon = Case.TooSoon
case_of named.Newer = Case.Newer
case_of named.BadRequest = Case.BadRequest
case_of named.ImpliedAcknowledgment = Case.ImpliedAcknowledgment
case_of named.Duplicate = Case.Duplicate
case_of named.SequenceWraps = Case.SequenceWraps
case_of named.SentJustNow = Case.SentJustNow
case_of named.Older = Case.Older

-- it is to be installed: newer than the copy, or there is none, and MinLSArrival doesn't forbid it
abbrev pub is_to_be_installed : Case → Bool
is_to_be_installed Case.Unreadable = false
is_to_be_installed Case.NothingToFlush = false
is_to_be_installed Case.TooSoon = false
is_to_be_installed Case.Newer = true
is_to_be_installed Case.BadRequest = false
is_to_be_installed Case.ImpliedAcknowledgment = false
is_to_be_installed Case.Duplicate = false
is_to_be_installed Case.SequenceWraps = false
is_to_be_installed Case.SentJustNow = false
is_to_be_installed Case.Older = false

-- the tests in order, each with its case
abbrev pub tests_of : Tests → List (Bool × Case)
tests_of t =
    (t.nothing_to_flush, Case.NothingToFlush)
    ∷ (t.too_soon, Case.TooSoon)
    ∷ (t.newer, Case.Newer)
    ∷ (t.requested, Case.BadRequest)
    ∷ (t.implied, Case.ImpliedAcknowledgment)
    ∷ (t.same, Case.Duplicate)
    ∷ (t.wraps, Case.SequenceWraps)
    ∷ (t.sent_just_now, Case.SentJustNow)
    ∷ []
