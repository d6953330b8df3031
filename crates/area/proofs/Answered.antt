-- The results of a Link State Request, a Database Description and a mismatch, by the tests.
use Rattle.std.proofs.Common.{◌≡◌, ℕ, Bool, true, false, cond, List, [], map, Option, None, Some}
use Rattle.std.proofs.Common.{refl, sym, ap, ◌∙◌}
use mathlib.Core.Bool.{false≢true}
use Rattle.std.specs.List.{list_all}
use Rattle.words.specs.declared.key.Key.{Key}
use Rattle.lsdb.specs.Copies.{Database}
use Rattle.adjacency.specs.Adjacencies.{enter_exstart, mismatch_step}
use Rattle.adjacency.specs.Contents.{Step, Updates, no_sends, sent_on, step_on}
use Rattle.adjacency.specs.Neighbors.{Neighbor, is_exchange_or_later}
use Rattle.adjacency.specs.Steps.{after_request, answer_to_request, neighbor_is_exchange_or_later}
use Rattle.adjacency.specs.Steps.{is_there}
use Rattle.adjacency.specs.Steps.{lsas_of}

-- without a neighbor nothing changes
pub same_step : (F G : Neighbor → Step) (o : Option Neighbor)
    → ((n : Neighbor) → o ≡ Some n → F n ≡ G n) → step_on F o ≡ step_on G o
same_step F G None is = refl
same_step F G (Some n) is = ap (λ (s : Step). Some s.neighbor) (is n refl)

pub same_sent : (F G : Neighbor → Step) (o : Option Neighbor)
    → ((n : Neighbor) → o ≡ Some n → F n ≡ G n) → sent_on F o ≡ sent_on G o
same_sent F G None is = refl
same_sent F G (Some n) is = ap (λ (s : Step). s.sends) (is n refl)

pub stays : (o : Option Neighbor) → o ≡ step_on no_sends o
stays None = refl
stays (Some n) = refl

pub sends_nothing : (o : Option Neighbor) → [] ≡ sent_on no_sends o
sends_nothing None = refl
sends_nothing (Some n) = refl

there_is : (o : Option Neighbor) (n : Neighbor) (b : Bool) → neighbor_is_exchange_or_later o ≡ b
    → o ≡ Some n → is_exchange_or_later n.state ≡ b
there_is o n b is there = sym (ap neighbor_is_exchange_or_later there) ∙ is

module _ (moment : ℕ) (db : Database) (keys : List Key) where
  abbrev pub sends_them : Neighbor → Step
  sends_them n = record { neighbor = n; sends = map Updates (lsas_of moment db keys) }

  rests : (n : Neighbor) → is_exchange_or_later n.state ≡ false
      → no_sends n ≡ after_request moment db keys n
  unfolding after_request
  rests n is = sym (ap (λ b. cond b (answer_to_request moment db keys n) (no_sends n)) is)

  answers : (n : Neighbor) → is_exchange_or_later n.state ≡ true
      → list_all (is_there db) keys ≡ true → sends_them n ≡ after_request moment db keys n
  unfolding after_request
  answers n is all = sym (ap (λ b. cond b (answer_to_request moment db keys n) (no_sends n)) is
      ∙ ap (λ b. cond b (sends_them n) (mismatch_step moment n)) all)

  fails : (n : Neighbor) → is_exchange_or_later n.state ≡ true → list_all (is_there db) keys ≡ false
      → enter_exstart moment n ≡ after_request moment db keys n
  unfolding after_request
  fails n is some = sym (ap (λ b. cond b (answer_to_request moment db keys n) (no_sends n)) is
      ∙ ap (λ b. cond b (sends_them n) (mismatch_step moment n)) some
      ∙ ap (λ b. cond b (enter_exstart moment n) (no_sends n)) is)

  module _ (o : Option Neighbor) where
    pub rests_on : neighbor_is_exchange_or_later o ≡ false → o ≡ step_on
        (after_request moment db keys) o
    rests_on is = stays o ∙ same_step no_sends (after_request moment db keys) o
        (λ n there. rests n (there_is o n false is there))

    pub rests_sent : neighbor_is_exchange_or_later o ≡ false → [] ≡ sent_on
        (after_request moment db keys) o
    rests_sent is = sends_nothing o ∙ same_sent no_sends (after_request moment db keys) o
        (λ n there. rests n (there_is o n false is there))

    stays_there : (p : Option Neighbor) → p ≡ step_on sends_them p
    stays_there None = refl
    stays_there (Some n) = refl

    pub answers_on : neighbor_is_exchange_or_later o ≡ true → list_all (is_there db) keys ≡ true
        → o ≡ step_on (after_request moment db keys) o
    answers_on is all = stays_there o
        ∙ same_step sends_them (after_request moment db keys) o
        (λ n there. answers n (there_is o n true is there) all)

    sends_all : (p : Option Neighbor) → neighbor_is_exchange_or_later p ≡ true
        → map Updates (lsas_of moment db keys) ≡ sent_on sends_them p
    sends_all None is = absurd (false≢true is)
    sends_all (Some n) is = refl

    pub answers_sent : neighbor_is_exchange_or_later o ≡ true → list_all (is_there db) keys ≡ true
        → map Updates (lsas_of moment db keys) ≡ sent_on (after_request moment db keys) o
    answers_sent is all = sends_all o is
        ∙ same_sent sends_them (after_request moment db keys) o
        (λ n there. answers n (there_is o n true is there) all)

    pub fails_on : neighbor_is_exchange_or_later o ≡ true → list_all (is_there db) keys ≡ false
        → step_on (enter_exstart moment) o ≡ step_on (after_request moment db keys) o
    fails_on is some = same_step (enter_exstart moment) (after_request moment db keys) o
        (λ n there. fails n (there_is o n true is there) some)

    pub fails_sent : neighbor_is_exchange_or_later o ≡ true → list_all (is_there db) keys ≡ false
        → sent_on (enter_exstart moment) o ≡ sent_on (after_request moment db keys) o
    fails_sent is some = same_sent (enter_exstart moment) (after_request moment db keys) o
        (λ n there. fails n (there_is o n true is there) some)
