-- Worked cases of which Descriptions are of a conversation and are accepted in it, and who leads.
use Rattle.std.proofs.Common.{◌≡◌, ℕ, Bool, false, cond, List, [], ◌∷◌, refl, ap, subst, sym}
use Rattle.packet.specs.declared.model.Description.{Description}
use Rattle.adjacency.specs.Adjacencies.{initial_description}
use Rattle.agreement_laws.specs.Exchanged.{Conversation, Converses}
use Rattle.agreement_laws.specs.NeighborHistories.{Ends, IsHistory, Pair, Side, Turn, interface_of}
use Rattle.agreement_laws.specs.NeighborHistories.{is_same_side, other_side, party}
use Rattle.agreement_laws.specs.Answers.{IsAccepted, IsOf, IsOpening, sends_of, sends_taken}
use Rattle.agreement_laws.specs.WorkedAnswers.{WorkedAnswers}

opening : (number : ℕ) → IsOpening (initial_description number)
opening number = record { master = refl; empty = refl }

none_sent : (ends : Ends) (side : Side) (with_it : Conversation) (d : Description) (now : Pair)
    (h : IsHistory ends now []) → IsOf ends side with_it d now [] h → IsOpening d
none_sent ends side with_it d now h (IsOf.Opens number attempt is) =
    subst IsOpening (sym is) (opening number)
none_sent ends side with_it d now h (IsOf.Sent none) = absurd none

stands : (ends : Ends) (side : Side) (with_it : Conversation) (d : Description) (now : Pair)
    (earlier : List Pair) (h : IsHistory ends now earlier)
    → IsAccepted ends side with_it d now earlier h
    → Converses (interface_of side ends) with_it (party side now).router
stands ends side with_it d now [] h k = absurd k
stands ends side with_it d now (before ∷ earlier) h k = k.0

other : (ends : Ends) (side : Side) (before after : Pair) (t : Turn ends before after)
    → is_same_side t.side side ≡ false → sends_of ends side before after t ≡ []
other ends side before after t away =
    ap (λ (b : Bool). cond b (sends_taken (interface_of t.side ends)
    (party (other_side t.side) before).sent (party t.side before) (party t.side after) t.does) [])
    away

pub worked : WorkedAnswers
worked = record {
  leads = refl;
  follows = refl;
  smaller = λ e. absurd cc;
  larger = λ e. absurd cc;
  itself = λ e. absurd cc;
  opens = λ ends side with_it number now earlier h is. IsOf.Opens number is refl;
  opening = opening;
  none_sent = none_sent;
  none_accepted = λ ends side with_it d now h none. none;
  stands = stands;
  other = other;
}
