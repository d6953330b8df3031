-- Worked cases of which Descriptions are of a conversation, which are accepted in it, and who leads
-- (RFC 2328, sections 10.6 and 10.8).
use Rattle.std.specs.Prelude.{◌≡◌, ℕ, true, false, List, [], Some}
use Rattle.packet.specs.declared.model.Description.{Description}
use Rattle.adjacency.specs.Adjacencies.{initial_description}
use Rattle.agreement_laws.specs.Exchanged.{Conversation, Converses}
use Rattle.agreement_laws.specs.NeighborHistories.{Ends, IsHistory, Pair, Side, Turn, interface_of}
use Rattle.agreement_laws.specs.NeighborHistories.{is_same_side, party}
use Rattle.agreement_laws.specs.Answers.{HasRole, IsAccepted, IsOf, IsOpening, sends_of}

pub record WorkedAnswers : Type 0 where
  -- the larger Router ID leads
  pub leads : HasRole true 5 3
  pub follows : HasRole false 3 5
  pub smaller : HasRole true 3 5 → ⊥
  pub larger : HasRole false 5 3 → ⊥
  pub itself : HasRole true 3 3 → ⊥
  -- the opening Description of the attempt is of the conversation, and has no headers
  pub opens : (ends : Ends) (side : Side) (with_it : Conversation) (number : ℕ) (now : Pair)
      (earlier : List Pair) (h : IsHistory ends now earlier) → with_it.attempt ≡ Some number
      → IsOf ends side with_it (initial_description number) now earlier h
  pub opening : (number : ℕ) → IsOpening (initial_description number)
  -- without turns no other one is, and nothing is accepted
  pub none_sent : (ends : Ends) (side : Side) (with_it : Conversation) (d : Description)
      (now : Pair) (h : IsHistory ends now []) → IsOf ends side with_it d now [] h → IsOpening d
  pub none_accepted : (ends : Ends) (side : Side) (with_it : Conversation) (d : Description)
      (now : Pair) (h : IsHistory ends now []) → IsAccepted ends side with_it d now [] h → ⊥
  -- what was accepted counts only while the conversation stands
  pub stands : (ends : Ends) (side : Side) (with_it : Conversation) (d : Description)
      (now : Pair) (earlier : List Pair) (h : IsHistory ends now earlier)
      → IsAccepted ends side with_it d now earlier h
      → Converses (interface_of side ends) with_it (party side now).router
  -- in a turn of the other one this router sends nothing
  pub other : (ends : Ends) (side : Side) (before after : Pair) (t : Turn ends before after)
      → is_same_side t.side side ≡ false → sends_of ends side before after t ≡ []
