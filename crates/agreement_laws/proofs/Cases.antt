-- Which test an LSA of each case has passed.
use Rattle.std.proofs.Common.{◌≡◌, ℕ, Bool, true, false, not, ◌&&◌, ◌∷◌, [], Option, None, Some}
use Rattle.std.proofs.Common.{is_some, refl, subst}
use Rattle.std.specs.Prelude.{is_none}
use Rattle.std.proofs.lemmas.Bool.{and_parts}
use Rattle.lsdb.specs.Copies.{DatabaseCopy, received_just_now, newer_than_copy, same_as_copy}
use Rattle.lsdb.specs.Copies.{sent_just_now}
use Rattle.lsdb.specs.Headers.{Lsa, lsa_key}
use Rattle.lsdb.specs.Order.{is_max_age}
use Rattle.received.specs.Cases.{Case, first_case, is_wrapping}
use Rattle.adjacency.specs.Asked.{is_on_request_list, has_retransmission_of}
use Rattle.received.specs.Links.{Area, any_exchange_or_loading, neighbor_at}
use Rattle.received.specs.Updates.{case_at, database_copy}

-- by whether there is nothing to flush, it is newer, was sent and is the same
abbrev Passed : (a c e f : Bool) → Case → Type 0
Passed a c e f Case.Unreadable = Unit {0}
Passed a c e f Case.NothingToFlush = a ≡ true
Passed a c e f Case.TooSoon = Unit {0}
Passed a c e f Case.Newer = c ≡ true
Passed a c e f Case.BadRequest = Unit {0}
Passed a c e f Case.ImpliedAcknowledgment = e ≡ true
Passed a c e f Case.Duplicate = f ≡ true
Passed a c e f Case.SequenceWraps = Unit {0}
Passed a c e f Case.SentJustNow = Unit {0}
Passed a c e f Case.Older = Unit {0}

by_tests : (a b c d e f g h : Bool) → Passed a c e f
    (first_case ((a, Case.NothingToFlush) ∷ (b, Case.TooSoon) ∷ (c, Case.Newer)
    ∷ (d, Case.BadRequest) ∷ (e, Case.ImpliedAcknowledgment) ∷ (f, Case.Duplicate)
    ∷ (g, Case.SequenceWraps) ∷ (h, Case.SentJustNow) ∷ []) Case.Older)
by_tests true b c d e f g h = refl
by_tests false true c d e f g h = tt
by_tests false false true d e f g h = refl
by_tests false false false true e f g h = tt
by_tests false false false false true f g h = refl
by_tests false false false false false true g h = refl
by_tests false false false false false false true h = tt
by_tests false false false false false false false true = tt
by_tests false false false false false false false false = tt

nothing_there : (o : Option DatabaseCopy) → is_none o ≡ true → o ≡ None
nothing_there None is = refl
nothing_there (Some c) is = absurd cc

module _ (moment place : ℕ) (lsa : Lsa) (a : Area) where
  abbrev has_nothing : Bool
  has_nothing =
      is_max_age lsa.header.age && is_none (database_copy lsa a)
      && not (any_exchange_or_loading a.links)

  abbrev is_listed : Bool
  is_listed = has_retransmission_of moment lsa.header (neighbor_at place a.links)

  abbrev is_newer : Bool
  is_newer = newer_than_copy moment lsa.header (database_copy lsa a)

  abbrev is_same : Bool
  is_same = same_as_copy moment lsa.header (database_copy lsa a)

  abbrev PassedHere : Case → Type 0
  PassedHere case = Passed has_nothing is_newer (is_same && is_listed) is_same case

  passed : (case : Case) → case_at moment place lsa a ≡ case → PassedHere case
  passed case is =
      subst PassedHere is
      (by_tests has_nothing
      (is_some (database_copy lsa a) && is_newer
      && received_just_now moment (database_copy lsa a)) is_newer
      (is_on_request_list (lsa_key lsa) (neighbor_at place a.links)) (is_same && is_listed) is_same
      (is_wrapping moment (database_copy lsa a)) (sent_just_now moment (database_copy lsa a)))

  pub is_newer_case : case_at moment place lsa a ≡ Case.Newer → is_newer ≡ true
  is_newer_case is = passed Case.Newer is

  -- exactly the copy is acknowledged
  pub same_where_implied : case_at moment place lsa a ≡ Case.ImpliedAcknowledgment
      → is_same ≡ true
  same_where_implied is = (and_parts is_same is_listed (passed Case.ImpliedAcknowledgment is)).0

  pub same_where_duplicate : case_at moment place lsa a ≡ Case.Duplicate → is_same ≡ true
  same_where_duplicate is = passed Case.Duplicate is

  -- at MaxAge, and without a copy
  pub nothing_to_flush : case_at moment place lsa a ≡ Case.NothingToFlush
      → (is_max_age lsa.header.age ≡ true) × (database_copy lsa a ≡ None)
  nothing_to_flush is =
      let all = and_parts (is_max_age lsa.header.age && is_none (database_copy lsa a))
      (not (any_exchange_or_loading a.links)) (passed Case.NothingToFlush is) in
      let both = and_parts (is_max_age lsa.header.age) (is_none (database_copy lsa a)) all.0 in
      (both.0, nothing_there (database_copy lsa a) both.1)
