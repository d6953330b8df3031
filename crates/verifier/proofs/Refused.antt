-- If the pass refuses a program, the rule that it names is broken, and none that is checked before.
use Rattle.std.proofs.Common.{◌≡◌, ℕ, ◌+◌, ◌*◌, ◌∙◌, ◌<◌, ◌≤◌, Bool, true, false, List, Option}
use Rattle.std.proofs.Common.{Some, None, inr, ⊎_elim, refl, sym, ap, subst, arith}
use Rattle.std.specs.Prelude.{IfErr, IsSome, Result, Ok, Err, slice_get}
use Rattle.std.specs.Result.{IsErrAnd}
use Rattle.std.proofs.lemmas.Bool.{cases_lt, false≢true}
use Rattle.object.specs.Statements.{StatementParts}
use Rattle.isa.specs.declared.code.Slot.{Slot}
use Rattle.isa.specs.declared.code.Slot.TheVariants.{Start}
use Rattle.isa.specs.declared.hook.Hook.{Hook}
use Rattle.isa.specs.declared.instruction.Instruction.{Instruction}
use Rattle.isa.specs.declared.instruction.Instruction.TheVariants as instructions
use Rattle.isa.specs.Code.{IsCode, is_wide}
use Rattle.isa.specs.Flow.{Begins, BeginsAt, size}
use Rattle.isa.specs.Laws.{OneEndsAtASlot, WideHasSecondHalf}
use Rattle.kinds.specs.declared.statement.SegmentStart.{SegmentStart}
use Rattle.transfer.specs.declared.rule.Rule.{Rule}
use Rattle.transfer.specs.declared.rule.Rule.TheVariants as rules
use Rattle.transfer.specs.Rules.{LacksHelper}
use Rattle.verifier.specs.Places.{falls_through, segment_start_at}
use Rattle.verifier.specs.SegmentsStated.{statement_at, AreSegmentStarts}
use Rattle.verifier.specs.Refusals.{JumpsNowhere, IsStray, LacksHelperAt, IsWellMade, IsFirst}
use Rattle.verifier.specs.Refusals.{IsFirstHere, IsPassedTo, IsPlaceRefusal, IsOfEdge}
use Rattle.verifier.specs.Refusals.{MayRefuseInstruction}
use Rattle.verifier.specs.Refusals.{MayRefuse}
use Rattle.isa.proofs.Starts.{same_instruction}
use Rattle.verifier.proofs.SegmentStarts.{none_isn't_some, stated_of, unstated_of}
use Rattle.verifier.proofs.SegmentLemmas.{none_between, size_some, sizes}

-- what a `?` passes on
pub handed_on : {A T : Type 0} (result : Result A T) (error : T) (P : T → Type 0)
    → IsErrAnd result (λ e. e ≡ error) → P error → IfErr result P
handed_on (Ok value) error P is broken = absurd is
handed_on (Err other) error P is broken = subst P (sym is) broken

pub is_err_of : {A T : Type 0} (result : Result A T) (error : T) → IsErrAnd result (λ e. e ≡ error)
    → result ≡ Err error
is_err_of (Ok value) error is = absurd is
is_err_of (Err other) error is = ap Err is

-- what is within the bound isn't above it
pub within_bound : (turns size length bound most : ℕ) → bound ≡ turns * size → size ≡ length
    → bound ≤ most → most < turns * length → ⊥
within_bound turns size length bound most value same within over =
    absurd (omega (
      arith,
      within,
      subst (λ n. most < n) (sym (value ∙ ap (λ n. turns * n) same))
          over,
    ))

-- the refusal of one slot
abbrev pub IsRefusal : Hook → List Slot → ℕ → List StatementParts → ℕ → Rule → Type 0
IsRefusal hook code entry_rank statements slot rule =
    MayRefuse hook code entry_rank statements slot rule × IsFirstHere code statements slot rule

pub place_refused : (hook : Hook) (code : List Slot) (entry_rank : ℕ)
    (statements : List StatementParts) (slot : ℕ) (rule : Rule)
    → IsPlaceRefusal code statements slot rule
    → IsRefusal hook code entry_rank statements slot rule
place_refused hook code entry_rank statements slot rules.Target is = (is, tt)
place_refused hook code entry_rank statements slot rules.FallsOff is = is
place_refused hook code entry_rank statements slot rules.Unreached is = is
place_refused hook code entry_rank statements slot rules.Unstated is = is
place_refused hook code entry_rank statements slot rules.Empty is = absurd is
place_refused hook code entry_rank statements slot rules.Kind is = absurd is
place_refused hook code entry_rank statements slot rules.Bounds is = absurd is
place_refused hook code entry_rank statements slot rules.Align is = absurd is
place_refused hook code entry_rank statements slot rules.Helper is = absurd is
place_refused hook code entry_rank statements slot rules.Argument is = absurd is
place_refused hook code entry_rank statements slot rules.NotWithin is = absurd is
place_refused hook code entry_rank statements slot rules.Rank is = absurd is
place_refused hook code entry_rank statements slot rules.Budget is = absurd is
place_refused hook code entry_rank statements slot rules.ExitKind is = absurd is
place_refused hook code entry_rank statements slot rules.Frame is = absurd is
place_refused hook code entry_rank statements slot rules.Memory is = absurd is

lacks : (hook : Hook) (code : List Slot) (slot : ℕ) (i : Instruction) → BeginsAt i code slot
    → LacksHelper hook i → LacksHelperAt code hook slot
lacks hook code slot (instructions.Arithmetic width operation target source) here none = absurd none
lacks hook code slot (instructions.Negate width target) here none = absurd none
lacks hook code slot (instructions.SignExtend extension target source) here none = absurd none
lacks hook code slot (instructions.Reorder order width target) here none = absurd none
lacks hook code slot (instructions.Jump distance) here none = absurd none
lacks hook code slot (instructions.LongJump distance) here none = absurd none
lacks hook code slot (instructions.Branch width test left right distance) here none = absurd none
lacks hook code slot (instructions.Call number) here none = record {
  number = number;
  at = here;
  none = none;
}
lacks hook code slot instructions.Exit here none = absurd none
lacks hook code slot (instructions.Load size target base offset) here none = absurd none
lacks hook code slot (instructions.Store size base offset source) here none = absurd none
lacks hook code slot (instructions.LoadNumber target number) here none = absurd none
lacks hook code slot (instructions.LoadMap target map offset) here none = absurd none

pub follow_refused : (hook : Hook) (code : List Slot) (entry_rank : ℕ)
    (statements : List StatementParts) (slot : ℕ) (i : Instruction) (rule : Rule)
    → BeginsAt i code slot → IsWellMade code statements slot → MayRefuseInstruction hook i rule
    → IsRefusal hook code entry_rank statements slot rule
follow_refused hook code entry_rank statements slot i rules.Target here made may = absurd may
follow_refused hook code entry_rank statements slot i rules.FallsOff here made may = absurd may
follow_refused hook code entry_rank statements slot i rules.Unreached here made may = absurd may
follow_refused hook code entry_rank statements slot i rules.Unstated here made may = absurd may
follow_refused hook code entry_rank statements slot i rules.Empty here made may = ((i, here), made)
follow_refused hook code entry_rank statements slot i rules.Kind here made may = ((i, here), made)
follow_refused hook code entry_rank statements slot i rules.Bounds here made may = ((i, here), made)
follow_refused hook code entry_rank statements slot i rules.Align here made may = ((i, here), made)
follow_refused hook code entry_rank statements slot i rules.Helper here made may =
    (lacks hook code slot i here may, made)
follow_refused hook code entry_rank statements slot i rules.Argument here made may =
    ((i, here), made)
follow_refused hook code entry_rank statements slot i rules.NotWithin here made may =
    ((i, here), λ later. made)
follow_refused hook code entry_rank statements slot i rules.Rank here made may =
    ((i, here), λ later. made)
follow_refused hook code entry_rank statements slot i rules.Budget here made may = absurd may
follow_refused hook code entry_rank statements slot i rules.ExitKind here made may =
    ((i, here), made)
follow_refused hook code entry_rank statements slot i rules.Frame here made may = (
  record {
    instruction = i;
    at = here;
    writes = may;
  },
  made,
)
follow_refused hook code entry_rank statements slot i rules.Memory here made may = absurd may

-- a register that may be empty is used
pub empty_refused : (hook : Hook) (code : List Slot) (entry_rank : ℕ)
    (statements : List StatementParts) (slot : ℕ) (i : Instruction) (rule : Rule)
    → BeginsAt i code slot → IsWellMade code statements slot → rule ≡ rules.Empty
    → IsRefusal hook code entry_rank statements slot rule
empty_refused hook code entry_rank statements slot i rule here made is =
    subst (λ (r : Rule). IsRefusal hook code entry_rank statements slot r) (sym is)
    (follow_refused hook code entry_rank statements slot i rules.Empty here made tt)

-- an edge from the entry
pub entry_refused : (hook : Hook) (code : List Slot) (entry_rank : ℕ)
    (statements : List StatementParts) (slot : ℕ) (rule : Rule) → slot ≡ 0 → Begins code slot
    → IsOfEdge rule → IsRefusal hook code entry_rank statements slot rule
entry_refused hook code entry_rank statements slot rules.Target zeroth begins edge = absurd edge
entry_refused hook code entry_rank statements slot rules.FallsOff zeroth begins edge = absurd edge
entry_refused hook code entry_rank statements slot rules.Unreached zeroth begins edge = absurd edge
entry_refused hook code entry_rank statements slot rules.Unstated zeroth begins edge = absurd edge
entry_refused hook code entry_rank statements slot rules.Empty zeroth begins edge = absurd edge
entry_refused hook code entry_rank statements slot rules.Kind zeroth begins edge = absurd edge
entry_refused hook code entry_rank statements slot rules.Bounds zeroth begins edge = absurd edge
entry_refused hook code entry_rank statements slot rules.Align zeroth begins edge = absurd edge
entry_refused hook code entry_rank statements slot rules.Helper zeroth begins edge = absurd edge
entry_refused hook code entry_rank statements slot rules.Argument zeroth begins edge = absurd edge
entry_refused hook code entry_rank statements slot rules.NotWithin zeroth begins edge =
    (begins, λ later. absurd (omega (arith, zeroth, later)))
entry_refused hook code entry_rank statements slot rules.Rank zeroth begins edge =
    (begins, λ later. absurd (omega (arith, zeroth, later)))
entry_refused hook code entry_rank statements slot rules.Budget zeroth begins edge = absurd edge
entry_refused hook code entry_rank statements slot rules.ExitKind zeroth begins edge = absurd edge
entry_refused hook code entry_rank statements slot rules.Frame zeroth begins edge = absurd edge
entry_refused hook code entry_rank statements slot rules.Memory zeroth begins edge = absurd edge

-- nothing is before the first slot
pub first_of_all : (code : List Slot) (statements : List StatementParts) (slot : ℕ) (rule : Rule)
    → slot ≡ 0 → IsFirstHere code statements slot rule → IsFirst code statements slot rule
first_of_all code statements slot rule zeroth here = record {
  earlier = λ before less. absurd (omega (arith, less, zeroth));
  here = here;
}

-- ---- whether the instruction before goes on

pub passed_to_start : (code : List Slot) → IsPassedTo true code 0
passed_to_start code cut = let some = size_some cut.instruction in
    absurd (omega (arith, cut.behind, some))

pub passed_behind : OneEndsAtASlot → (code : List Slot) → IsCode code → (slot : ℕ) (i : Instruction)
    → BeginsAt i code slot → (on : Bool) → falls_through i ≡ on → IsPassedTo on code (slot + size i)
passed_behind one code is_code slot i here true is = λ cut.
    let at : cut.before ≡ slot = one code cut.before slot cut.instruction i is_code cut.at here
    cut.behind in
    let there : slice_get code slot ≡ Some (Start cut.instruction) =
    subst (λ k. slice_get code k ≡ Some (Start cut.instruction)) at cut.at in
    let same : cut.instruction ≡ i = same_instruction cut.instruction i there here in
    false≢true (sym (subst (λ j. falls_through j ≡ false) same cut.leaves) ∙ is)
passed_behind one code is_code slot i here false is = record {
  before = slot;
  instruction = i;
  at = here;
  behind = refl;
  leaves = is;
}

-- ---- the slots that were passed

is_some_or_none : {A : Type 0} (o : Option A) → (o ≡ None → ⊥) → IsSome o
is_some_or_none None some = absurd (some refl)
is_some_or_none (Some x) some = refl

-- a second half without a statement
made_inside : (code : List Slot) (statements : List StatementParts) (slot : ℕ)
    → (Begins code slot → ⊥) → statement_at statements slot ≡ None → IsWellMade code statements slot
made_inside code statements slot nothing none = record {
  target = ⊎_elim
      (λ (jump : JumpsNowhere code slot). nothing (jump.instruction, jump.at))
      (λ (stray : IsStray code statements slot). none_isn't_some (statement_at statements slot) none
      stray.stated);
  ends = λ off. nothing (off.instruction, off.at);
  reached = λ unreached. nothing unreached.begins;
  stated = λ unstated. nothing (unstated.instruction, unstated.at);
}

module _ {D : Type 0} (contains : D → ℕ → Type 0) (second : WideHasSecondHalf) (code : List Slot)
    (is_code : IsCode code) (statements : List StatementParts)
    (segment_starts : List (Option (SegmentStart D)))
    (are : AreSegmentStarts contains statements segment_starts)
    (slot : ℕ) (i : Instruction) (here : BeginsAt i code slot) where
  made_up_to : ((k : ℕ) → k < slot → IsWellMade code statements k) → IsWellMade code statements slot
      → (k : ℕ) → k < slot + 1 → IsWellMade code statements k
  made_up_to before this k below =
      ⊎_elim
      (λ (low : k < slot). before k low)
      (λ (high : slot ≤ k). let at : slot ≡ k = omega (arith, below, high) in
      subst (λ n. IsWellMade code statements n) at this)
      (cases_lt k slot)

  -- the slots up to the next instruction
  pub made_more : ((k : ℕ) → k < slot → IsWellMade code statements k)
      → IsWellMade code statements slot
      → (is_wide i ≡ true → segment_start_at segment_starts (slot + 1) ≡ None) → (k : ℕ)
      → k < slot + size i → IsWellMade code statements k
  made_more before this whole k below =
      ⊎_elim
      (λ (low : k < slot + 1). made_up_to before this k low)
      (λ (high : slot + 1 ≤ k).
      let size_two = sizes (is_wide i) i refl in
      ⊎_elim
      (λ (one : (size i ≡ 1) × (is_wide i ≡ false)). absurd (omega (arith, one.0, below, high)))
      (λ (two : (size i ≡ 2) × (is_wide i ≡ true)).
      let at : slot + 1 ≡ k = omega (arith, two.0, below, high) in
      subst (λ n. IsWellMade code statements n) at
      (made_inside code statements (slot + 1)
      (λ begins. none_between second code slot (slot + 1) i is_code here (omega arith)
      (omega (arith, two.0)) begins)
      (unstated_of contains statements segment_starts (slot + 1) are (whole two.1))))
      size_two)
      (cases_lt k (slot + 1))

  -- a statement at the second half
  pub split_refused : (hook : Hook) (entry_rank : ℕ)
      → (is_wide i ≡ true) × IsSome (segment_start_at segment_starts (slot + 1))
      → MayRefuse hook code entry_rank statements (slot + 1) rules.Target
  split_refused hook entry_rank split =
      ⊎_elim
      (λ (one : (size i ≡ 1) × (is_wide i ≡ false)). absurd
      (false≢true (sym one.1 ∙ split.0)))
      (λ (two : (size i ≡ 2) × (is_wide i ≡ true)).
      inr (record {
        stated = is_some_or_none (statement_at statements (slot + 1))
            (stated_of contains statements segment_starts (slot + 1) are split.1);
        nowhere = λ begins. none_between second code slot (slot + 1) i is_code here (omega arith)
            (omega (arith, two.0)) begins;
      }))
      (sizes (is_wide i) i refl)

  pub split_first : ((k : ℕ) → k < slot → IsWellMade code statements k)
      → IsWellMade code statements slot → IsFirst code statements (slot + 1) rules.Target
  split_first before this = record { earlier = made_up_to before this; here = tt }
