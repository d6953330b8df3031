-- No rule refuses a plain program.
use Rattle.std.proofs.Common.{◌≡◌, ℕ, ◌+◌, ◌<◌, ◌≤◌, Bool, true, false, List, [], ◌∷◌, Option, Some}
use Rattle.std.proofs.Common.{None, ◌⊎◌, inl, inr, ⊎_elim, refl, sym, ap, subst, ◌∙◌, length}
use Rattle.std.proofs.Common.{get_or, arith}
use Rattle.std.specs.Prelude.{nat_le, MatchOption, unwrap_or}
use Rattle.std.specs.List.{AllByRecursion}
use Rattle.std.proofs.Math.ListN.{get_or-eq_default}
use Rattle.std.proofs.lemmas.Bool.{cases_lt}
use Rattle.std.proofs.lemmas.List.{get_or-replicate, length-replicate}
use Rattle.std.proofs.lemmas.Option.{none-some, same_Some}
use Rattle.isa.specs.declared.code.Slot.{Slot}
use Rattle.isa.specs.declared.instruction.Instruction.{Instruction}
use Rattle.isa.specs.Code.{IsCode}
use Rattle.isa.specs.Flow.{BeginsAt, register_written, registers_read, size}
use Rattle.isa.specs.Laws.{OneEndsAtASlot}
use Rattle.machine.specs.Faults.{writes_frame}
use Rattle.object.specs.Numbers.{Numbers}
use Rattle.object.specs.Sets.{has_byte, no_bytes}
use Rattle.object.specs.Statements.{StatementParts}
use Rattle.object.specs.declared.kind.StatedKind.{StatedKind as Stated}
use Rattle.object.specs.declared.kind.StatedKind.TheVariants as said
use Rattle.kinds.specs.declared.state.Kind.{Kind}
use Rattle.kinds.specs.declared.state.Kind.TheVariants as kinds
use Rattle.kinds.specs.declared.state.AbstractState.{AbstractState}
use Rattle.kinds.specs.declared.statement.SegmentStart.{SegmentStart}
use Rattle.machine.specs.declared.state.State.{State as Machine}
use Rattle.kinds.specs.Meaning.{StateHolds, SegmentStartHolds}
use Rattle.kinds.specs.Plain.{HoldsNumber, IsNumber, kind_in}
use Rattle.kinds.specs.Stated.{HasEveryNumber, IsRead, any_number}
use Rattle.transfer.specs.declared.rule.Rule.{Rule}
use Rattle.transfer.specs.declared.rule.Rule.TheVariants as rules
use Rattle.transfer.specs.Plain.{KeepsFilled}
use Rattle.verifier.specs.declared.known.Known.{Known}
use Rattle.verifier.specs.Places.{segment_of, segment_start_at}
use Rattle.verifier.specs.SegmentsPlain.{AsksAtMost, IsFilledBehind, IsPlainEdge, IsPlainEdgeIfStated}
use Rattle.verifier.specs.Refusals.{IsPlaceRefusal, IsWellMade}
use Rattle.verifier.specs.SegmentsStated.{IsSegmentStartOf, statement_at}
use Rattle.isa.proofs.Starts.{same_instruction}
use Rattle.verifier.proofs.SegmentStarts.{stated_of, statement_of_segment_start, unstated_of}
use Rattle.verifier.specs.Plain.{IsEdge, IsFilledAfter, IsFilledAt, is_stated, stays, is_written}
use Rattle.verifier.specs.Plain.{IsNumberIn, IsPlainStatement, at_entry, at_statement, goes_behind}
use Rattle.verifier.specs.Plain.{Falls, said_of}
use Rattle.verifier.specs.Pass.{ComesPlainly, HasRank, IsPlainIfLive, IsPlainProgram, KeepsPlain}
use Rattle.verifier.specs.Pass.{KnowsPlain}
use Rattle.verifier.proofs.SegmentLemmas.{size_some}

-- ---- small facts

all_map : {X : Type 0} (P Q : X → Type 0) → ((x : X) → P x → Q x) → (xs : List X)
    → AllByRecursion P xs → AllByRecursion Q xs
all_map P Q gives [] all = tt
all_map P Q gives (x ∷ xs) all = (gives x all.0, all_map P Q gives xs all.1)

not_true : (b : Bool) → (b ≡ true → ⊥) → b ≡ false
not_true true never_is = absurd (never_is refl)
not_true false never_is = refl

past_end : (xs : List Bool) (i : ℕ) → length xs ≤ i → get_or xs i false ≡ false
past_end xs i past = get_or-eq_default xs false past

none_stated : (at : ℕ) → has_byte no_bytes at ≡ false
none_stated at =
    ⊎_elim
    (λ (low : at < 512). get_or-replicate 512 at false false low)
    (λ (high : 512 ≤ at). past_end no_bytes at (omega (arith, high, length-replicate 512 false)))
    (cases_lt at 512)

-- ---- what is stated of a register

number_of_every : {D : Type 0} (contains : D → ℕ → Type 0) (kind : Kind D)
    → HasEveryNumber contains kind → IsNumber kind
number_of_every contains kinds.Unknown every = absurd every
number_of_every contains (kinds.Number value) every = tt
number_of_every contains (kinds.Pointer place) every = absurd every

asks_number : {D : Type 0} (contains : D → ℕ → Type 0) (kind : Kind D) (filled : Type 0)
    → HasEveryNumber contains kind → filled → AsksAtMost contains filled kind
asks_number contains kinds.Unknown filled every is = absurd every
asks_number contains (kinds.Number value) filled every is = (every, is)
asks_number contains (kinds.Pointer place) filled every is = absurd every

asks_nothing : {D : Type 0} (contains : D → ℕ → Type 0) (kind : Kind D) (filled : Type 0)
    → kind ≡ kinds.Unknown → AsksAtMost contains filled kind
asks_nothing contains kind filled empty = rw empty tt

asks_of : {D : Type 0} (contains : D → ℕ → Type 0) (says : Stated) (kind : Kind D) (filled : Type 0)
    → IsRead contains says kind → (says ≡ said.Unstated) ⊎ (says ≡ any_number)
    → ((numbers : Numbers) → says ≡ said.Number numbers → filled)
    → AsksAtMost contains filled kind
asks_of contains says kind filled read plain is =
    ⊎_elim
    (λ (empty : says ≡ said.Unstated). asks_nothing contains kind filled (read.empty empty))
    (λ (any : says ≡ any_number). asks_number contains kind filled (read.any any) (is _ any))
    plain

empty_is_number : (says : Stated) (numbers : Numbers) → says ≡ said.Unstated
    → says ≡ said.Number numbers → ⊥
empty_is_number says numbers empty number = cc

number_stated : {D : Type 0} (contains : D → ℕ → Type 0) (says : Stated) (kind : Kind D)
    (numbers : Numbers) → IsRead contains says kind → (says ≡ said.Unstated) ⊎ (says ≡ any_number)
    → says ≡ said.Number numbers → IsNumber kind
number_stated contains says kind numbers read plain number =
    ⊎_elim
    (λ (empty : says ≡ said.Unstated). absurd (empty_is_number says numbers empty number))
    (λ (any : says ≡ any_number). number_of_every contains kind (read.any any))
    plain

-- ---- rules on jumps, statements and the code's end

pub no_place : (code : List Slot) (statements : List StatementParts) (slot : ℕ) (rule : Rule)
    → IsWellMade code statements slot → IsPlaceRefusal code statements slot rule → ⊥
no_place code statements slot rules.Target made is = made.target is
no_place code statements slot rules.FallsOff made is = made.ends is.0
no_place code statements slot rules.Unreached made is = made.reached is.0
no_place code statements slot rules.Unstated made is = made.stated is.0
no_place code statements slot rules.Empty made is = is
no_place code statements slot rules.Kind made is = is
no_place code statements slot rules.Bounds made is = is
no_place code statements slot rules.Align made is = is
no_place code statements slot rules.Helper made is = is
no_place code statements slot rules.Argument made is = is
no_place code statements slot rules.NotWithin made is = is
no_place code statements slot rules.Rank made is = is
no_place code statements slot rules.Budget made is = is
no_place code statements slot rules.ExitKind made is = is
no_place code statements slot rules.Frame made is = is
no_place code statements slot rules.Memory made is = is

-- ---- what remains known

-- if the slot may be reached
pub kept_live : {D : Type 0} (i : Instruction) (known after : Known D) → known.is_live ≡ true
    → KeepsFilled i known.state after.state → KeepsPlain i known after
kept_live i known after live kept = record {
  ten = kept.ten;
  from = λ next. live;
  keeps = λ next. kept;
}

-- ---- the start

pub nothing_filled : (code : List Slot) (statements : List StatementParts)
    → statement_at statements 0 ≡ None → (slot r : ℕ) → slot ≡ 0 → IsFilledAt code statements slot r
    → ⊥
nothing_filled code statements none slot r zeroth (is_stated s is number) =
    none-some s (sym (rw zeroth none) ∙ is)
nothing_filled code statements none slot r zeroth (stays before i unstated at behind filled) =
    let some = size_some i in omega (arith, behind, zeroth, some)
nothing_filled code statements none slot r zeroth (is_written before i unstated at behind writes) =
    let some = size_some i in omega (arith, behind, zeroth, some)

-- ---- the pass

module _ {D : Type 0} (contains : D → ℕ → Type 0) (code : List Slot) (entry_rank : ℕ)
    (statements : List StatementParts) (segment_starts : List (Option (SegmentStart D)))
    (program : IsPlainProgram contains code entry_rank statements segment_starts) where
  -- what the target requires of a register
  asks_at : (s : StatementParts) (target : SegmentStart D) → IsSegmentStartOf contains s target
      → IsPlainStatement s → (filled : ℕ → Type 0) → ((r : ℕ) → IsNumberIn s r → filled r) → (r : ℕ)
      → AsksAtMost contains (filled r) (kind_in target.kinds.items r)
  asks_at s target is plain filled gives r =
      ⊎_elim
      (λ (low : r < 10).
      asks_of contains (said_of s r) (kind_in target.kinds.items r) (filled r) (is.read r low)
      (plain.registers r low)
      (λ numbers says. gives r (record { low = low; numbers = numbers; says = says })))
      (λ (high : 10 ≤ r). asks_nothing contains (kind_in target.kinds.items r) (filled r)
      (get_or-eq_default target.kinds.items kinds.Unknown (omega (arith, high, is.ten))))
      (cases_lt r 10)

  edge_of : (s : StatementParts) (segment target : SegmentStart D)
      → IsSegmentStartOf contains s target → IsPlainStatement s
      → (back : Bool) (filled : ℕ → Type 0) → ((r : ℕ) → IsNumberIn s r → filled r) → (rank : ℕ)
      → HasRank segment rank → Falls back s.rank.constant rank
      → IsPlainEdge contains back segment target filled
  edge_of s segment target is plain back filled gives rank own falls = record {
    asks = asks_at s target is plain filled gives;
    no_bytes = λ at. rw (is.same, plain.stack) (none_stated at);
    own = own.constant;
    constant = rw is.same plain.rank;
    falls = rw (is.same, own.same) falls;
  }

  -- at the start of a segment, the stated numbers are known
  filled_stated : (slot : ℕ) (segment : SegmentStart D) (state : AbstractState D)
      → segment_start_at segment_starts slot ≡ Some segment
      → ((r : ℕ) → r < 10 → kind_in state.kinds.items r ≡ kind_in segment.kinds.items r)
      → (r : ℕ) → IsFilledAt code statements slot r → HoldsNumber state r
  filled_stated slot segment state there same r (is_stated s is number) =
      let found = statement_of_segment_start contains statements segment_starts slot segment
      program.are there in
      let one : found.0 ≡ s = same_Some _ _ (sym found.1 ∙ is) in
      let read : IsSegmentStartOf contains s segment =
      subst (λ x. IsSegmentStartOf contains x segment) one found.2 in
      record {
        low = number.low;
        number = rw (same r number.low)
            (number_stated contains (said_of s r) (kind_in segment.kinds.items r) number.numbers
            (read.read r number.low) ((program.plain.states slot s is).registers r number.low)
            number.says);
      }
  filled_stated slot segment state there same r (stays before i none at behind filled) =
      absurd (stated_of contains statements segment_starts slot program.are (rw there refl) none)
  filled_stated slot segment state there same r (is_written before i none at behind writes) =
      absurd (stated_of contains statements segment_starts slot program.are (rw there refl) none)

  -- at a slot without a statement, what is filled is filled after the instruction before
  filled_after : OneEndsAtASlot → IsCode code → (slot : ℕ) (i : Instruction) → BeginsAt i code slot
      → (next : ℕ) → slot + size i ≡ next → statement_at statements next ≡ None → (r : ℕ)
      → IsFilledAt code statements next r → IsFilledAfter code statements slot i r
  filled_after one is_code slot i here next there none r (is_stated s is number) =
      absurd (none-some s (sym none ∙ is))
  filled_after one is_code slot i here next there none r
      (stays before j unstated at behind filled) =
      let same : before ≡ slot = one code before slot j i is_code at here (behind ∙ sym there) in
      inl (subst (λ k. IsFilledAt code statements k r) same filled)
  filled_after one is_code slot i here next there none r
      (is_written before j unstated at behind writes) =
      let same : before ≡ slot = one code before slot j i is_code at here (behind ∙ sym there) in
      let begins : BeginsAt j code slot = subst (λ k. BeginsAt j code k) same at in
      let one_instruction : j ≡ i = same_instruction j i begins here in
      inr (subst (λ k. register_written k ≡ Some r) one_instruction writes)

  filled_known : (slot : ℕ) (i : Instruction) (segment : SegmentStart D) (known : Known D)
      → KnowsPlain code entry_rank statements slot segment known → known.is_live ≡ true → (r : ℕ)
      → IsFilledAfter code statements slot i r → IsFilledBehind i known.state r
  filled_known slot i segment known knows live r =
      ⊎_elim (λ (filled : IsFilledAt code statements slot r). inl (knows.filled live r filled))
      (λ (writes : register_written i ≡ Some r). inr writes)

  -- the instruction at a slot that may be reached
  pub plain_here : (slot : ℕ) (i : Instruction) → BeginsAt i code slot
      → (segment : SegmentStart D) (known : Known D) → length known.state.kinds.items ≡ 10
      → KnowsPlain code entry_rank statements slot segment known
      → IsPlainIfLive contains segment_starts segment slot i known
  plain_here slot i here segment known ten knows live = record {
    plain = program.plain.instructions slot i here;
    frame = not_true (writes_frame i) (λ writes. program.plain.frame slot (record {
      instruction = i;
      at = here;
      writes = writes;
    }));
    reads = all_map (IsFilledAt code statements slot) (HoldsNumber known.state) (knows.filled live)
        (registers_read i) (program.plain.reads slot i here);
    ten = ten;
    edges = λ to leads target there.
        let found = statement_of_segment_start contains statements segment_starts to target
        program.are there in
        let edge : IsEdge code statements slot i to found.0 = record {
          at = here;
          leads = leads;
          stated = found.1;
        } in
        edge_of found.0 segment target found.2 (program.plain.states to found.0 found.1)
        (nat_le to slot) (IsFilledBehind i known.state)
        (λ r number. filled_known slot i segment known knows live r
        (program.plain.filled slot i to found.0 edge r number))
        segment.statement.now.rank.constant (record { constant = knows.constant; same = refl })
        (program.plain.falls slot i to found.0 edge segment.statement.now.rank.constant knows.rank);
  }

  -- the next slot
  pub comes_behind : OneEndsAtASlot → IsCode code → (slot : ℕ) (i : Instruction)
      → BeginsAt i code slot → (segment : SegmentStart D) (known after : Known D)
      → KnowsPlain code entry_rank statements slot segment known → KeepsPlain i known after
      → ComesPlainly code entry_rank statements (slot + size i) segment after
  comes_behind one is_code slot i here segment known after knows keeps = record {
    ten = keeps.ten;
    knows = λ none. record {
      filled = λ live r filled.
          let kept = keeps.keeps live in
          ⊎_elim
          (λ (before : IsFilledAt code statements slot r). kept.others r
          (knows.filled (keeps.from live) r before))
          (λ (writes : register_written i ≡ Some r). kept.written r writes)
          (filled_after one is_code slot i here (slot + size i) refl none r filled);
      constant = knows.constant;
      rank = goes_behind slot i none here refl knows.rank;
    };
  }

  pub comes_first : (entry : SegmentStart D) (known : Known D) → HasRank entry entry_rank
      → length known.state.kinds.items ≡ 10 → ComesPlainly code entry_rank statements 0 entry known
  comes_first entry known has ten = record {
    ten = ten;
    knows = λ none. record {
      filled = λ live r filled. absurd (nothing_filled code statements none 0 r refl filled);
      constant = has.constant;
      rank = at_entry none refl has.same;
    };
  }

  -- the entry leads to the statement at slot 0
  pub entry_edge : (entry : SegmentStart D) → HasRank entry entry_rank
      → IsPlainEdgeIfStated contains segment_starts entry false 0 (λ r. ⊥)
  entry_edge entry has target there =
      let found = statement_of_segment_start contains statements segment_starts 0 target program.are
      there in
      let falls : Falls false found.0.rank.constant entry_rank = let below =
      program.plain.entry_falls found.0 found.1 in omega (arith, below) in
      edge_of found.0 entry target found.2 (program.plain.states 0 found.0 found.1) false (λ r. ⊥)
      (program.plain.entry_filled found.0 found.1) entry_rank has falls

  -- ---- a slot

  knows_stated : (slot : ℕ) (segment : SegmentStart D) (known : Known D)
      → segment_start_at segment_starts slot ≡ Some segment
      → ((r : ℕ) → r < 10 → kind_in known.state.kinds.items r ≡ kind_in segment.kinds.items r)
      → KnowsPlain code entry_rank statements slot segment known
  knows_stated slot segment known there same =
      let found = statement_of_segment_start contains statements segment_starts slot segment
      program.are there in
      record {
        filled = λ live. filled_stated slot segment known.state there same;
        constant = rw found.2.same (program.plain.states slot found.0 found.1).rank;
        rank = at_statement found.0 found.1
            (ap (λ (s : StatementParts). s.rank.constant) found.2.same);
      }

  unstated_here : (slot : ℕ) → segment_start_at segment_starts slot ≡ None
      → statement_at statements slot ≡ None
  unstated_here slot none = unstated_of contains statements segment_starts slot program.are none

  arrived_at : (entry : SegmentStart D) (slot : ℕ) (begun here : Option ℕ) (known found : Known D)
      → ComesPlainly code entry_rank statements slot (segment_of segment_starts entry begun) known
      → (there : Option (SegmentStart D)) → segment_start_at segment_starts slot ≡ there
      → MatchOption there ((here ≡ begun) × (found ≡ known))
      (λ segment. (here ≡ Some slot) × (found.is_live ≡ true)
      × ((machine : Machine) → SegmentStartHolds contains segment machine
      → StateHolds contains found.state machine machine))
      → ((segment : SegmentStart D) → segment_start_at segment_starts slot ≡ Some segment
      → (r : ℕ) → r < 10 → kind_in found.state.kinds.items r
      ≡ kind_in segment.kinds.items r)
      → KnowsPlain code entry_rank statements slot
      (segment_of segment_starts entry here) found
  arrived_at entry slot begun here known found comes None none same kinds_are =
      subst (λ (b : Option ℕ). KnowsPlain code entry_rank statements slot
      (segment_of segment_starts entry b) found) (sym same.0)
      (subst (λ (k : Known D). KnowsPlain code entry_rank statements slot
      (segment_of segment_starts entry begun) k) (sym same.1)
      (comes.knows (unstated_here slot none)))
  arrived_at entry slot begun here known found comes (Some segment) there new kinds_are =
      let same : unwrap_or (segment_start_at segment_starts slot) entry ≡ segment = rw there refl in
      subst (λ (b : Option ℕ). KnowsPlain code entry_rank statements slot
      (segment_of segment_starts entry b) found) (sym new.0)
      (subst (λ (t : SegmentStart D). KnowsPlain code entry_rank statements slot t found) (sym same)
      (knows_stated slot segment found there (kinds_are segment there)))

  -- a statement, if the slot has one, else what comes from the slot before
  pub arrives : (entry : SegmentStart D) (slot : ℕ) (begun here : Option ℕ) (known found : Known D)
      → ComesPlainly code entry_rank statements slot (segment_of segment_starts entry begun) known
      → MatchOption (segment_start_at segment_starts slot) ((here ≡ begun) × (found ≡ known))
      (λ segment. (here ≡ Some slot) × (found.is_live ≡ true)
      × ((machine : Machine) → SegmentStartHolds contains segment machine
      → StateHolds contains found.state machine machine))
      → ((segment : SegmentStart D) → segment_start_at segment_starts slot ≡ Some segment → (r : ℕ)
      → r < 10 → kind_in found.state.kinds.items r
      ≡ kind_in segment.kinds.items r)
      → KnowsPlain code entry_rank statements slot
      (segment_of segment_starts entry here) found
  arrives entry slot begun here known found comes there kinds_are =
      arrived_at entry slot begun here known found comes (segment_start_at segment_starts slot) refl
      there
      kinds_are
