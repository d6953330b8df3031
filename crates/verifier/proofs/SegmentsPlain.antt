-- No rule refuses an instruction or edge of a plain program.
use Rattle.std.proofs.Common.{◌≡◌, ℕ, ◌<◌, Bool, true, false, List, Option, Some, None, inl, inr}
use Rattle.std.proofs.Common.{⊎_elim, refl, sym, subst, ◌∙◌, length, arith}
use Rattle.std.specs.Prelude.{IfErr, Result, Ok, Err, nat_le}
use Rattle.std.specs.Result.{IsErrAnd}
use Rattle.std.proofs.lemmas.Bool.{false≢true}
use Rattle.std.proofs.lemmas.Bool.Decides.{nat_tests}
use Rattle.std.proofs.lemmas.Option.{none-some}
use Rattle.isa.specs.declared.hook.Hook.{Hook}
use Rattle.isa.specs.declared.instruction.Instruction.{Instruction}
use Rattle.isa.specs.declared.instruction.Instruction.TheVariants as instructions
use Rattle.isa.specs.Flow.{jump_target, register_written, slot_after}
use Rattle.machine.specs.Faults.{writes_frame}
use Rattle.kinds.specs.declared.state.Kind.{Kind}
use Rattle.kinds.specs.declared.state.Kind.TheVariants as kinds
use Rattle.kinds.specs.declared.state.AbstractState.{AbstractState}
use Rattle.kinds.specs.declared.statement.SegmentStart.{SegmentStart}
use Rattle.kinds.specs.Plain.{HoldsNumber, IsNumber, kind_in}
use Rattle.kinds.specs.Stated.{Admits, HasEveryNumber}
use Rattle.transfer.specs.declared.rule.Rule.{Rule}
use Rattle.transfer.specs.declared.rule.Rule.TheVariants as rules
use Rattle.transfer.specs.Plain.{IsPlainInstruction, IsPlainStep, IsStraight, KeepsFilled}
use Rattle.transfer.specs.Rules.{MayName}
use Rattle.verifier.specs.Places.{falls_through}
use Rattle.verifier.specs.SegmentsPlain.{AsksAtMost, IsFilledBehind, IsPlainHere, KeepsNumbers}
use Rattle.verifier.specs.SegmentsPlain.{IsPlainEdgeIfStated}

-- ---- what is required of registers

admits_kind : {D : Type 0} (contains : D → ℕ → Type 0) (kind other : Kind D) → IsNumber kind
    → HasEveryNumber contains other → Admits contains kind other
admits_kind contains kinds.Unknown other number every = absurd number
admits_kind contains (kinds.Number value) kinds.Unknown number every = absurd every
admits_kind contains (kinds.Number value) (kinds.Number wider) number every = every
admits_kind contains (kinds.Number value) (kinds.Pointer place) number every = absurd every
admits_kind contains (kinds.Pointer place) other number every = absurd number

pub asks_admits : {D : Type 0} (contains : D → ℕ → Type 0) (state : AbstractState D) (r : ℕ)
    (other : Kind D) → AsksAtMost contains (HoldsNumber state r) other
    → Admits contains (kind_in state.kinds.items r) other
asks_admits contains state r kinds.Unknown asks = tt
asks_admits contains state r (kinds.Number wider) asks =
    admits_kind contains (kind_in state.kinds.items r) (kinds.Number wider) asks.1.number asks.0
asks_admits contains state r (kinds.Pointer place) asks = absurd asks

asks_more : {D : Type 0} (contains : D → ℕ → Type 0) (filled more : Type 0) (kind : Kind D)
    → (filled → more) → AsksAtMost contains filled kind → AsksAtMost contains more kind
asks_more contains filled more kinds.Unknown grows asks = tt
asks_more contains filled more (kinds.Number value) grows asks = (asks.0, grows asks.1)
asks_more contains filled more (kinds.Pointer place) grows asks = absurd asks

-- ---- refusals

-- a call that is refused, and yet isn't
pub never : {A : Type 0} → false ≡ true → A
never wrong = absurd (false≢true wrong)

-- what a `?` passes on
pub hands_on : {A T : Type 0} (result : Result A T) (error : T) (P : T → Type 0)
    → IsErrAnd result (λ e. e ≡ error) → P error → IfErr result P
hands_on (Ok value) error P is broken = absurd is
hands_on (Err other) error P is broken = subst P (sym is) broken

-- ---- edges

-- an instruction that writes no register fills none
pub beside : {D : Type 0} (i : Instruction) (state : AbstractState D) → register_written i ≡ None
    → (r : ℕ) → IsFilledBehind i state r → HoldsNumber state r
beside i state none r = ⊎_elim (λ (filled : HoldsNumber state r). filled)
    (λ (written : register_written i ≡ Some r). absurd
    (none-some r (sym none ∙ written)))

module _ {D : Type 0} (contains : D → ℕ → Type 0) (segment_starts : List (Option (SegmentStart D)))
    (segment : SegmentStart D) where
  -- if more is filled, the edge is plain too
  pub enter_more : (back : Bool) (to : ℕ) (filled more : ℕ → Type 0) → ((r : ℕ) → filled r → more r)
      → IsPlainEdgeIfStated contains segment_starts segment back to filled
      → IsPlainEdgeIfStated contains segment_starts segment back to more
  enter_more back to filled more grows may = λ target stated.
      let edge = may target stated in
      record {
        asks = λ r. asks_more contains (filled r) (more r) (kind_in target.kinds.items r) (grows r)
            (edge.asks r);
        no_bytes = edge.no_bytes;
        own = edge.own;
        constant = edge.constant;
        falls = edge.falls;
      }

  module _ (slot : ℕ) (i : Instruction) (state : AbstractState D)
      (here : IsPlainHere contains segment_starts segment slot i state) where
    pub jump_edge : (to : ℕ) → jump_target slot i ≡ Some to → register_written i ≡ None
        → IsPlainEdgeIfStated contains segment_starts segment (nat_le to slot) to
        (HoldsNumber state)
    jump_edge to jumps none =
        enter_more (nat_le to slot) to (IsFilledBehind i state) (HoldsNumber state)
        (beside i state none)
        (here.edges to (inl jumps))

    pub pass_edge : (after : AbstractState D) (next : ℕ) → slot < next → slot_after slot i ≡ next
        → falls_through i ≡ true → ((r : ℕ) → IsFilledBehind i state r → HoldsNumber after r)
        → IsPlainEdgeIfStated contains segment_starts segment false next (HoldsNumber after)
    pass_edge after next less behind on grows =
        let forward : nat_le next slot ≡ false = grind (arith, nat_tests) in
        enter_more false next (IsFilledBehind i state) (HoldsNumber after) grows
        (subst (λ back. IsPlainEdgeIfStated contains segment_starts segment back next
        (IsFilledBehind i state))
        forward (here.edges next (inr (on, behind))))

-- ---- what remains known

-- an instruction that writes no register
pub kept_beside : {D : Type 0} (i : Instruction) (state after : AbstractState D)
    → register_written i ≡ None → length state.kinds.items ≡ 10 → KeepsNumbers state after
    → KeepsFilled i state after
kept_beside i state after none ten kept = record {
  ten = kept.long ∙ ten;
  written = λ r written. absurd (none-some r (sym none ∙ written));
  others = kept.others;
}

pub same_kept : {D : Type 0} (state after : AbstractState D) → after ≡ state
    → KeepsNumbers state after
same_kept state after same = rw same (record { long = refl; others = λ r filled. filled })

pub kept_on : {D : Type 0} (state there after : AbstractState D) → KeepsNumbers state there
    → after ≡ there → KeepsNumbers state after
kept_on state there after kept same = rw same kept

pub kept_again : {D : Type 0} (state there after : AbstractState D) → KeepsNumbers state there
    → KeepsNumbers there after → KeepsNumbers state after
kept_again state there after first second = record {
  long = second.long ∙ first.long;
  others = λ r filled. second.others r (first.others r filled);
}

-- what was filled or is written
pub filled_behind : {D : Type 0} (i : Instruction) (state after : AbstractState D)
    → KeepsFilled i state after → (r : ℕ) → IsFilledBehind i state r → HoldsNumber after r
filled_behind i state after kept r =
    ⊎_elim (λ (filled : HoldsNumber state r). kept.others r filled)
    (λ (written : register_written i ≡ Some r). kept.written r written)

-- ---- rules

-- the rule on r10 is named only if it is broken
pub no_frame : (hook : Hook) (i : Instruction) (rule : Rule) → rule ≡ rules.Frame
    → MayName hook i rule → writes_frame i ≡ false → ⊥
no_frame hook i rule is named free =
    let writes : MayName hook i rules.Frame = subst (λ r. MayName hook i r) is named in
    false≢true (sym free ∙ writes)

pub plain_step : (i : Instruction) → IsPlainInstruction i → IsStraight i → IsPlainStep i
plain_step (instructions.Arithmetic width operation target source) plain on = tt
plain_step (instructions.Negate width target) plain on = tt
plain_step (instructions.SignExtend extension target source) plain on = tt
plain_step (instructions.Reorder order width target) plain on = tt
plain_step (instructions.Jump distance) plain on = absurd on
plain_step (instructions.LongJump distance) plain on = absurd on
plain_step (instructions.Branch width test left right distance) plain on = absurd on
plain_step (instructions.Call number) plain on = absurd plain
plain_step instructions.Exit plain on = absurd on
plain_step (instructions.Load size target base offset) plain on = absurd plain
plain_step (instructions.Store size base offset source) plain on = absurd plain
plain_step (instructions.LoadNumber target number) plain on = tt
plain_step (instructions.LoadMap target map offset) plain on = absurd plain
