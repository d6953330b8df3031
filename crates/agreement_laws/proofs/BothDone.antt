-- What was described in an exchange that both are done with was accepted.
use Rattle.std.proofs.Common.{◌≡◌, ℕ, Bool, true, false, not, ◌⊎◌, inl, inr, List, refl, sym, ap}
use Rattle.std.proofs.Common.{subst, ◌∙◌, arith}
use Rattle.std.specs.Prelude.{nat_lt}
use Rattle.std.proofs.lemmas.Bool.{ltb-true}
use Rattle.packet.specs.declared.model.Description.{Description}
use Rattle.adjacency.specs.Neighbors.{Neighbor}
use Rattle.agreement_laws.specs.Exchanged.{conversation_with}
use Rattle.agreement_laws.specs.NeighborHistories.{Ends, IsHistory, Pair, Side, other_side, party}
use Rattle.agreement_laws.specs.Answers.{DescriptionsAreAnswered, HasRole, IsAccepted, IsAnswered}
use Rattle.agreement_laws.specs.Answers.{IsOf, IsOpening}
use Rattle.agreement_laws.specs.BothDone.{BothDone, NumbersServeOnce, WasAccepted}
use Rattle.agreement_laws.specs.BothDone.{WhatWasDescribedWasAccepted}
use Rattle.agreement_laws.proofs.Done.{exchange_then}

pub back : (side : Side) → other_side (other_side side) ≡ side
back Side.Left = refl
back Side.Right = refl

not_both : (a b : ℕ) → nat_lt a b ≡ true → nat_lt b a ≡ true → ⊥
not_both a b e f = let lt = ltb-true a b e in let gt = ltb-true b a f in omega (arith, lt, gt)

not_twice : (a b : Bool) → a ≡ not b → not a ≡ b
not_twice true true e = absurd cc
not_twice true false e = refl
not_twice false true e = refl
not_twice false false e = absurd cc

module _ (laws : DescriptionsAreAnswered) (ends : Ends) (side : Side) (now : Pair)
    (earlier : List Pair) (h : IsHistory ends now earlier)
    (both : BothDone ends side now earlier h) (d : Description)
    (sent : IsOf ends side (conversation_with both.mine.neighbor) d now earlier h) where
  abbrev n : Neighbor
  n = both.mine.neighbor

  abbrev m : Neighbor
  m = both.its.neighbor

  abbrev own : ℕ
  own = (party side now).router.id

  abbrev other : ℕ
  other = (party (other_side side) now).router.id

  abbrev Result : Type 0
  Result =
      IsOpening d
      ⊎ WasAccepted ends side (conversation_with n) (conversation_with m) d now earlier h

  my_role : HasRole n.is_master own other
  my_role =
      subst (HasRole n.is_master own) both.mine.other
      (laws.roles ends side now earlier h n both.mine.there (exchange_then n.state both.mine.done))

  its_role : HasRole m.is_master other own
  its_role =
      subst (HasRole m.is_master other)
      (both.its.other ∙ ap (λ (s : Side). (party s now).router.id) (back side))
      (laws.roles ends (other_side side) now earlier h m both.its.there
      (exchange_then m.state both.its.done))

  -- one of the two leads
  roles_differ : (a b : Bool) → HasRole a own other → HasRole b other own → b ≡ not a
  roles_differ true true e f = absurd (not_both other own e f)
  roles_differ true false e f = refl
  roles_differ false true e f = refl
  roles_differ false false e f = absurd (not_both own other e f)

  -- the other one's answer to an answer
  taken_by : (e : Description) → e.sequence ≡ d.sequence → e.master ≡ not d.master
      → IsAnswered ends (other_side side) (conversation_with m) e now earlier h → Result
  taken_by e number role a =
      inr (record {
        taken = a.answer;
        accepted = a.accepted;
        sent = subst (λ (s : Side). IsOf ends s (conversation_with n) a.answer now earlier h)
            (back side) (both.none_mistaken_there a.answer a.accepted);
        number = a.number ∙ number;
        role = a.role ∙ not_twice e.master d.master role;
      })

  -- this router leads
  as_master : n.is_master ≡ true → m.is_master ≡ false → Result
  as_master leads follows =
      by_answer (laws.master ends side now earlier h n both.mine.there both.mine.done leads d sent)
    where
      by_answer : (d.master ≡ true)
          × IsAnswered ends side (conversation_with n) d now earlier h → Result
      by_answer (first, a) =
          by_other (laws.slave ends (other_side side) now earlier h m both.its.there
          (exchange_then m.state both.its.done) follows a.answer
          (both.none_mistaken_here a.answer a.accepted))
        where
          by_other : IsOpening a.answer
              ⊎ IsAnswered ends (other_side side) (conversation_with m) a.answer now earlier h
              → Result
          by_other (inl o) =
              let no : true ≡ false = sym o.master ∙ a.role ∙ ap not first in absurd cc
          by_other (inr b) = taken_by a.answer a.number a.role b

  -- the other one does
  as_slave : n.is_master ≡ false → m.is_master ≡ true → Result
  as_slave follows leads =
      by_answer (laws.slave ends side now earlier h n both.mine.there
      (exchange_then n.state both.mine.done) follows d sent)
    where
      by_answer : IsOpening d ⊎ IsAnswered ends side (conversation_with n) d now earlier h → Result
      by_answer (inl o) = inl o
      by_answer (inr a) =
          taken_by a.answer a.number a.role
          (laws.master ends (other_side side) now earlier h m both.its.there both.its.done leads
          a.answer
          (both.none_mistaken_here a.answer a.accepted)).1

  pub result : Result
  result = by_role n.is_master refl
    where
      by_role : (b : Bool) → n.is_master ≡ b → Result
      by_role true is =
          as_master is (roles_differ n.is_master m.is_master my_role its_role ∙ ap not is)
      by_role false is =
          as_slave is (roles_differ n.is_master m.is_master my_role its_role ∙ ap not is)

  -- the very Description
  pub the_same : NumbersServeOnce ends side (conversation_with n) now earlier h
      → IsOpening d ⊎ IsAccepted ends (other_side side) (conversation_with m) d now earlier h
  the_same once = by_result result
    where
      by_result : Result
          → IsOpening d ⊎ IsAccepted ends (other_side side) (conversation_with m) d now earlier h
      by_result (inl o) = inl o
      by_result (inr w) =
          inr (subst (λ (e : Description).
          IsAccepted ends (other_side side) (conversation_with m) e now earlier h)
          (once w.taken d w.sent sent w.number w.role) w.accepted)

pub was_accepted : DescriptionsAreAnswered → WhatWasDescribedWasAccepted
was_accepted laws = record {
  accepted = λ ends side now earlier h both d sent.
      result laws ends side now earlier h both d sent;
  same = λ ends side now earlier h both once d sent.
      the_same laws ends side now earlier h both d sent once;
}
