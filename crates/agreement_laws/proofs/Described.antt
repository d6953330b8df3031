-- What one neighbor described the other holds, or it came there and was lost.
use Rattle.std.proofs.Common.{◌⊎◌, inl, inr, List, subst}
use Rattle.std.specs.List.{Contains}
use Rattle.lsdb.specs.Headers.{Header}
use Rattle.invariants.proofs.Lists.{of_empty}
use Rattle.agreement_laws.specs.Exchanged.{conversation_with}
use Rattle.agreement_laws.specs.NeighborHistories.{Side, other_side, party}
use Rattle.agreement_laws.specs.NeighborsAgree.{HoldsAsNew}
use Rattle.agreement_laws.specs.Answers.{IsAccepted, IsOf, IsOpening}
use Rattle.agreement_laws.specs.Described.{WhatWasDescribedIsHeld}
use Rattle.agreement_laws.specs.Held.{WasLost, WhatWasAcceptedIsHeld}
use Rattle.agreement_laws.specs.BothDone.{WhatWasDescribedWasAccepted}
use Rattle.agreement_laws.proofs.BothDone.{back}

pub described_is_held : WhatWasDescribedWasAccepted → WhatWasAcceptedIsHeld
    → WhatWasDescribedIsHeld
described_is_held described held ends side now earlier h both full once name as_new d sent g among
    of_key =
    by_taken (described.same ends side now earlier h both once d sent)
  where
    by_taken : IsOpening d ⊎ IsAccepted ends (other_side side) (conversation_with both.its.neighbor)
        d now earlier h → HoldsAsNew (party (other_side side) now).router name
        ⊎ WasLost ends (other_side side) (conversation_with both.its.neighbor) name.key now
        earlier h
    by_taken (inl o) =
        absurd (of_empty g (subst (λ (hs : List Header). Contains hs g) o.empty among))
    by_taken (inr taken) =
        held ends (other_side side) now earlier h both.its.neighbor both.its.there full name
        (λ e a. as_new e
        (subst (λ (s : Side). IsOf ends s (conversation_with both.mine.neighbor) e now earlier h)
        (back side) (both.none_mistaken_there e a)))
        (record {
          description = d;
          accepted = taken;
          header = g;
          among = among;
          of_key = of_key;
        })
