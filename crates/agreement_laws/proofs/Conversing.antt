-- A conversation is with the neighbor that is at the interface.
use Rattle.std.proofs.Common.{◌≡◌, ℕ, true, None, Some, sym, ap, ◌∙◌}
use Rattle.adjacency.specs.Neighbors.{Neighbor, is_exchange_or_later}
use Rattle.received.specs.Links.{neighbor_at}
use Rattle.event_rules.specs.Routers.{Router}
use Rattle.agreement_laws.specs.Exchanged.{Conversation, Converses, conversation_with}
use Rattle.agreement_laws.proofs.Lists.{some_same}

module _ (number : ℕ) (with_it : Conversation) (r : Router) where
  pub with_nobody : neighbor_at number r.area.links ≡ None → Converses number with_it r → ⊥
  with_nobody at c = let no : None ≡ Some c.neighbor = sym at ∙ c.there in absurd cc

  module _ (m : Neighbor) (at : neighbor_at number r.area.links ≡ Some m) where
    same : (c : Converses number with_it r) → c.neighbor ≡ m
    same c = some_same (sym c.there ∙ at)

    pub its_conversation : Converses number with_it r → conversation_with m ≡ with_it
    its_conversation c = ap (λ (x : Neighbor). conversation_with x) (sym (same c)) ∙ c.is

    pub its_state : Converses number with_it r → is_exchange_or_later m.state ≡ true
    its_state c = ap (λ (x : Neighbor). is_exchange_or_later x.state) (sym (same c)) ∙ c.exchanging

    pub is_over : (is_exchange_or_later m.state ≡ true → conversation_with m ≡ with_it → ⊥)
        → Converses number with_it r → ⊥
    is_over over c = over (its_state c) (its_conversation c)
