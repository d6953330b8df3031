-- Bytes of a Link State Update that encode no LSA change nothing, and the rest is processed.
use Rattle.std.proofs.Common.{◌≡◌, List, Option, None, refl, sym, subst}
use Rattle.std.specs.Prelude.{if◌then◌else◌}
use Rattle.lsa.specs.Reading.{lsa_in}
use Rattle.lsdb.specs.Headers.{Lsa}
use Rattle.received.specs.Updates.{goes_on}
use Rattle.words.specs.Numbers.{InterfaceNumber, Moment}
use Rattle.event_rules.specs.EventState.{EventState}
use Rattle.event_rules.specs.Laws.{WhatIsNoLsaIsSkipped}
use Rattle.event_rules.specs.Packets.{after_lsas, after_parsed, case_in}

-- what `after_lsas` does with the LSA that the first bytes encode, if any
abbrev with_first : Moment → InterfaceNumber → (rest : EventState → EventState) → EventState
    → Option Lsa → EventState
with_first moment interface rest p lsa =
    let q : EventState = after_parsed moment interface lsa p in
    if goes_on (case_in moment interface lsa p) then rest q else q

pub skipped : WhatIsNoLsaIsSkipped
skipped moment interface bytes rest before none =
    subst (λ (o : Option Lsa). with_first moment interface (after_lsas moment interface rest) before
    o ≡ after_lsas moment interface rest before) (sym none) refl
