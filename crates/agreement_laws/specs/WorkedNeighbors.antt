-- Worked examples of two neighbors: which instance is at least as new as another whatever their
-- ages, what is lost, and what counts in a conversation.
use Rattle.std.specs.Prelude.{◌≡◌, ℕ, ℤ, pos, ◌<◌, ◌≤◌, false, true, List, [], length, None, Some}
use Rattle.std.specs.FinMap as finite
use Rattle.words.specs.Numbers.{InterfaceNumber, RouterNumber}
use Rattle.lsdb.specs.Copies.{DatabaseCopy}
use Rattle.lsdb.specs.Headers.{Header}
use Rattle.event_rules.specs.Events.{Step}
use Rattle.event_rules.specs.InstanceIdentities.{InstanceIdentity}
use Rattle.agreement_laws.specs.Exchanged.{Conversation, Converses, Describes}
use Rattle.agreement_laws.specs.NeighborHistories.{BeginsAnew, Ends, IsHistory, Pair, Party, Side}
use Rattle.agreement_laws.specs.NeighborHistories.{Turn, event_of, interface_of, is_same_side}
use Rattle.agreement_laws.specs.NeighborHistories.{party}
use Rattle.agreement_laws.specs.NeighborsAgree.{Forgets, HasForgotten, InConversation}
use Rattle.agreement_laws.specs.NeighborsAgree.{is_as_new}

abbrev pub named : ℤ → ℕ → InstanceIdentity
named sequence checksum = record {
  key = record { ls_type = 5; link_state_id = 1; advertising_router = 2 };
  sequence = sequence;
  checksum = checksum;
}

pub record WorkedNeighbors : Type 0 where
  -- the sequence number decides, then the checksum
  pub number : is_as_new (named (pos 5) 1) (named (pos 4) 9) ≡ true
  pub lesser_number : is_as_new (named (pos 4) 9) (named (pos 5) 1) ≡ false
  pub checksum : is_as_new (named (pos 5) 8) (named (pos 5) 7) ≡ true
  pub lesser_checksum : is_as_new (named (pos 5) 7) (named (pos 5) 8) ≡ false
  pub same : is_as_new (named (pos 5) 7) (named (pos 5) 7) ≡ true
  -- a router that has restarted has lost what it sent before
  pub begun_anew : (interface : InterfaceNumber) (name : InstanceIdentity) (text : ℕ)
      (before after : Party) → BeginsAnew before after → text < length before.sent
      → Forgets interface name text before after
  -- a router that has a copy before and after a turn loses nothing in it that it sent since its
  -- start
  pub kept : (interface : InterfaceNumber) (name : InstanceIdentity) (text : ℕ)
      (before after : Party) (was is : DatabaseCopy)
      → finite.get before.router.area.database name.key ≡ Some was
      → finite.get after.router.area.database name.key ≡ Some is → after.began ≤ text
      → Forgets interface name text before after → ⊥
  -- without turns nothing is lost, and nothing was exchanged
  pub nothing_forgotten : (ends : Ends) (side : Side) (name : InstanceIdentity) (text : ℕ)
      (now : Pair) (h : IsHistory ends now []) → HasForgotten ends side name text now [] h → ⊥
  pub nothing_exchanged : (ends : Ends) (side : Side) (with_it : Conversation)
      (header : Header) (now : Pair) (h : IsHistory ends now [])
      → InConversation ends side with_it (λ (own : RouterNumber) (step : Step).
      Describes own step.outs (interface_of side ends) header) now [] h → ⊥
  -- what was exchanged counts only while the conversation continues
  pub stands : (ends : Ends) (side : Side) (with_it : Conversation)
      (header : Header) (now : Pair) (earlier : List Pair) (h : IsHistory ends now earlier)
      → InConversation ends side with_it (λ (own : RouterNumber) (step : Step).
      Describes own step.outs (interface_of side ends) header) now earlier h
      → Converses (interface_of side ends) with_it (party side now).router
  -- a turn of the other one is no event of this router
  pub other : (ends : Ends) (side : Side) (before after : Pair) (t : Turn ends before after)
      → is_same_side t.side side ≡ false → event_of ends side before after t ≡ None
