-- The code that counts a turn: it continues at the head, or returns the answer.
use Rattle.std.proofs.Common.{◌≡◌, ℕ, zero, suc, ◌+◌, ◌-◌, ◌^◌, ◌%◌, ◌<◌, ◌≤◌, pos, negsuc, List}
use Rattle.std.proofs.Common.{[], ◌∷◌, length, refl, sym, ap, subst, ◌∙◌, Some, arith, true, false}
use Rattle.std.proofs.Common.{Bool, ◌⊎◌, inl, inr}
use Rattle.std.specs.Prelude.{slice_get, slice_set, position, ◌==◌, not, if◌then◌else◌}
use Rattle.std.proofs.lemmas.Bool.{eqb-true}
use Rattle.std.proofs.lemmas.List.{get_or-set_same, set-set}
use Rattle.std.proofs.Math.ListN.{length-set}
use Rattle.isa.specs.declared.instruction.Instruction.{Instruction}
use Rattle.isa.specs.declared.instruction.Instruction.TheVariants as instructions
use Rattle.isa.specs.declared.instruction.Operation.TheVariants as operations
use Rattle.isa.specs.declared.instruction.Source.TheVariants as sources
use Rattle.isa.specs.declared.instruction.Test.TheVariants as tests
use Rattle.isa.specs.declared.instruction.Width.TheVariants.{Bits64}
use Rattle.isa.specs.declared.code.Slot.{Slot}
use Rattle.isa.specs.declared.hook.Hook.{Hook}
use Rattle.isa.specs.Flow.{slot_at_distance}
use Rattle.machine.specs.declared.state.Content.{Content}
use Rattle.machine.specs.declared.state.Content.TheVariants.{Nothing, Number}
use Rattle.machine.specs.declared.state.State.{State}
use Rattle.machine.specs.Given.{Given}
use Rattle.machine.specs.Label.{Label, Silent}
use Rattle.machine.specs.State.{Setting, setting_of, held}
use Rattle.machine.specs.Steps.{Does, Step, Exits, IsAt, Branches}
use Rattle.machine.specs.Runs.{Leads}
use Rattle.annotations.specs.CountedCode.{detour_at, distance_between, with_number}
use Rattle.program_laws.specs.CountedRuns.{accesses}
use Rattle.program_laws.proofs.Codes.{Whole, all, detour_is, distance_leads}
use Rattle.program_laws.proofs.Frames.{later}

-- a step is one of the instruction that the machine is at
pub step_by : (setting : Setting) (s next : State) (label : Label) (i : Instruction)
    → IsAt setting s i → Step setting s label next → Does i setting s label next
step_by setting s next label i at step = let same : step.instruction ≡ i = cc (step.at, at) in
    rw same at step.does

-- if EXIT returns, the machine is at no other instruction
pub exit_only : (setting : Setting) (s : State) (word : ℕ) (i : Instruction) → IsAt setting s i
    → Exits setting s word → i ≡ instructions.Exit
exit_only setting s word i at exits = cc (exits.at, at)

pub filling_of : (a b : Content) → Some a ≡ Some b → b ≡ a
filling_of a b e = cc

word_of : (a b : ℕ) → Number a ≡ Number b → a ≡ b
word_of a b e = cc

some_left : (n : ℕ) → (n == 0) ≡ false → 1 ≤ n
some_left zero e = cc
some_left (suc n) e = omega arith

taken_of : (a b : Bool) → Some a ≡ Some b → b ≡ a
taken_of a b e = cc

-- the state while a turn is counted: that of the code, at another slot
abbrev pub counting : ℕ → ℕ → State → ℕ → State
counting counter left next slot = record {
  slot = slot;
  registers = slice_set next.registers counter (Number left);
  stack = next.stack;
}

module _ (answer counter turns : ℕ) (small : answer < 2 ^ 31) (heads : List ℕ) (code : List Slot)
    (whole : Whole code) (hook : Hook) (input : Given)
    (to place : ℕ) (found : position (λ head. head == to) heads ≡ Some place)
    (near : detour_at (length code) place + 4 < 2 ^ 62) (head_near : to + 1 < 2 ^ 62) where
  abbrev mine : Setting
  mine = setting_of (all answer counter turns heads code whole) hook input

  abbrev at : ℕ
  at = detour_at (length code) place

  -- the instructions of the detour
  pub at_first : (s : State) → s.slot ≡ at
      → IsAt mine s (with_number operations.Add counter (negsuc 0))
  at_first s e = ap (slice_get (all answer counter turns heads code whole)) (omega (arith, e))
      ∙ detour_is answer counter turns heads code whole to place 0 found (omega arith)

  pub at_second : (s : State) → s.slot ≡ at + 1
      → IsAt mine s (instructions.Branch Bits64 tests.NotEqual counter (sources.Immediate (pos 0))
      (distance_between (at + 1) (to + 1)))
  at_second s e = ap (slice_get (all answer counter turns heads code whole)) e
      ∙ detour_is answer counter turns heads code whole to place 1 found (omega arith)

  pub at_third : (s : State) → s.slot ≡ at + 2
      → IsAt mine s (with_number operations.Move 0 (pos answer))
  at_third s e = ap (slice_get (all answer counter turns heads code whole)) e
      ∙ detour_is answer counter turns heads code whole to place 2 found (omega arith)

  pub at_fourth : (s : State) → s.slot ≡ at + 3 → IsAt mine s instructions.Exit
  at_fourth s e = ap (slice_get (all answer counter turns heads code whole)) e
      ∙ detour_is answer counter turns heads code whole to place 3 found (omega arith)

  module _ (next : State) (there : next.slot ≡ to) (long : counter < length next.registers) where
    twice : (left : ℕ) (c : Content) → c ≡ Number left
        → record {
          slot = at + 1;
          registers = slice_set
              (slice_set next.registers counter (Number (left + 1))) counter c;
          stack = next.stack;
        } ≡ counting counter left next (at + 1)
    twice left c e =
        ap (λ (d : Content). record {
          slot = at + 1;
          registers = slice_set
              (slice_set next.registers counter (Number (left + 1))) counter d;
          stack = next.stack;
        }) e
        ∙ ap (λ (r : List Content). record {
          slot = at + 1;
          registers = r;
          stack = next.stack;
        })
        (set-set next.registers counter (Number (left + 1)) (Number left))

    -- one is subtracted
    pub first_step : (left : ℕ) (t : State) (label : Label) → left + 1 < 2 ^ 62
        → Step mine (counting counter (left + 1) next at) label t → (label ≡ Silent)
        × (t ≡ counting counter left next (at + 1))
    first_step left t label few step =
        let h = step_by mine (counting counter (left + 1) next at) t label _
        (at_first (counting counter (left + 1) next at) refl) step in
        let held_is : held (counting counter (left + 1) next at) counter ≡ Number (left + 1) =
        get_or-set_same next.registers counter (Number (left + 1)) Nothing long in
        let gives = rw held_is at h.gives in
        let less : ((left + 1) % 2 ^ 64 + (2 ^ 64 - 1) % 2 ^ 64) % 2 ^ 64 ≡ left = omega arith in
        let filling : h.filling ≡ Number left = rw less at (filling_of _ h.filling gives) in
        (h.silent, h.after ∙ twice left h.filling filling)

    -- the test of what is left
    second_by : (left : ℕ) (t : State) (label : Label) (none : Bool) → (left == 0) ≡ none
        → Branches (counting counter left next (at + 1)) (Some (not none))
        (distance_between (at + 1) (to + 1)) label t → (label ≡ Silent)
        × (t ≡ (if none then counting counter left next (at + 2) else
        later counter left next))
    second_by left t label true e h =
        let taken = taken_of false h.taken h.gives in
        let place : (at + 1) + 1 ≡ at + 2 = omega arith in
        (h.silent, rw taken at h.after ∙ ap (λ (slot : ℕ). counting counter left next slot) place)
    second_by left t label false e h =
        let taken = taken_of true h.taken h.gives in
        let place : slot_at_distance (at + 1) (distance_between (at + 1) (to + 1)) ≡ next.slot + 1 =
        distance_leads (at + 1) (to + 1) (omega (arith, near)) (omega (arith, head_near))
        ∙ ap (λ n. n + 1) (sym there) in
        (h.silent, rw taken at h.after ∙ ap (λ (slot : ℕ). counting counter left next slot) place)

    pub second_step : (left : ℕ) (t : State) (label : Label) → left < 2 ^ 62
        → Step mine (counting counter left next (at + 1)) label t → (label ≡ Silent)
        × (t ≡ (if left == 0 then counting counter left next (at + 2) else
        later counter left next))
    second_step left t label few step =
        let h = step_by mine (counting counter left next (at + 1)) t label _
        (at_second (counting counter left next (at + 1)) refl) step in
        let held_is : held (counting counter left next (at + 1)) counter ≡ Number left =
        get_or-set_same next.registers counter (Number left) Nothing long in
        let low_is : left % 2 ^ 64 ≡ left = omega arith in
        let known = rw held_is at h in
        let known2 = rw low_is at known in
        second_by left t label (left == 0) refl known2

    -- the answer
    pub third_step : (t : State) (label : Label)
        → Step mine (counting counter 0 next (at + 2)) label t → (label ≡ Silent)
        × (t.slot ≡ at + 3) × (held t 0 ≡ Number answer)
    third_step t label step =
        let h = step_by mine (counting counter 0 next (at + 2)) t label _
        (at_third (counting counter 0 next (at + 2)) refl) step in
        let low_is : answer % 2 ^ 64 ≡ answer = omega arith in
        let filling : h.filling ≡ Number answer = rw low_is at (filling_of _ h.filling h.gives) in
        let place : (at + 2) + 1 ≡ at + 3 = omega arith in
        let some : 0 < length (slice_set next.registers counter (Number 0)) =
        omega (arith, length-set next.registers counter (Number 0)) in (
          h.silent,
          ap (λ (s : State). s.slot) h.after ∙ place,
          ap (λ (s : State). held s 0) h.after
              ∙ get_or-set_same (slice_set next.registers counter (Number 0)) 0 h.filling Nothing
              some ∙ filling,
        )

    -- The rest of a run when a turn is counted: the answer, or the run from the head on.
    abbrev Over : ℕ → List Label → ℕ → Type 0
    Over left labels word = (left ≡ 0) × (accesses labels ≡ []) × (word ≡ answer)

    abbrev Again : ℕ → List Label → State → Type 0
    Again left labels last = (rest : List Label) × (accesses labels ≡ accesses rest)
        × (length rest < length labels) × (1 ≤ left)
        × Leads mine (later counter left next) rest last

    exits_at : (s t : State) (word : ℕ) → s ≡ t → Exits mine s word → Exits mine t word
    exits_at s t word e exits = subst (λ (x : State). Exits mine x word) e exits

    step_at : (s t u : State) (label : Label) → s ≡ t → Step mine s label u → Step mine t label u
    step_at s t u label e step = subst (λ (x : State). Step mine x label u) e step

    leads_at : (s t last : State) (labels : List Label) → s ≡ t → Leads mine s labels last
        → Leads mine t labels last
    leads_at s t last labels e leads = subst (λ (x : State). Leads mine x labels last) e leads

    all_silent : (a b c : Label) → a ≡ Silent → b ≡ Silent → c ≡ Silent → accesses (a ∷ b ∷ c ∷ [])
        ≡ []
    all_silent a b c e f g = rw (e, f, g) refl

    two_silent : (a b : Label) (rest : List Label) → a ≡ Silent → b ≡ Silent
        → accesses (a ∷ b ∷ rest) ≡ accesses rest
    two_silent a b rest e f = rw (e, f) refl

    ends : (t : State) (rest : List Label) (last : State) (word : ℕ) (a b : Label) → a ≡ Silent → b
        ≡ Silent → t ≡ counting counter 0 next (at + 2) → Leads mine t rest last
        → Exits mine last word → (accesses (a ∷ b ∷ rest) ≡ []) × (word ≡ answer)
    ends t [] last word a b e f is leads exits =
        let here = exits_at last (counting counter 0 next (at + 2)) word (sym leads ∙ is) exits in
        let no = exit_only mine (counting counter 0 next (at + 2)) word _
        (at_third (counting counter 0 next (at + 2)) refl) here in cc
    ends t (c ∷ []) last word a b e f is (u, step, end) exits =
        let third = third_step u c (step_at t (counting counter 0 next (at + 2)) u c is step) in
        let here = exits_at last u word (sym end) exits in
        (all_silent a b c e f third.0, word_of word answer (sym here.answers ∙ third.2))
    ends t (c ∷ d ∷ rest) last word a b e f is (u, step, (v, more, leads)) exits =
        let third = third_step u c (step_at t (counting counter 0 next (at + 2)) u c is step) in
        let no = step_by mine u v d instructions.Exit (at_fourth u third.1) more in elim no [ ]

    by_left : (left : ℕ) (none : Bool) → (left == 0) ≡ none
        → (t : State) (rest : List Label) (last : State) (word : ℕ) (a b : Label) → a ≡ Silent → b
        ≡ Silent → t ≡ (if none then counting counter left next (at + 2) else
        later counter left next) → Leads mine t rest last → Exits mine last word
        → Over left (a ∷ b ∷ rest) word ⊎ Again left (a ∷ b ∷ rest) last
    by_left left true none t rest last word a b e f is leads exits =
        let zero_is : left ≡ 0 = eqb-true left 0 none in
        let ended = ends t rest last word a b e f
        (is ∙ ap (λ (n : ℕ). counting counter n next (at + 2)) zero_is) leads exits in
        inl (zero_is, ended.0, ended.1)
    by_left left false none t rest last word a b e f is leads exits =
        inr (
          rest,
          two_silent a b rest e f,
          omega arith,
          some_left left none,
          leads_at t (later counter left next) last rest is leads,
        )

    pub counted_turn : (left : ℕ) (labels : List Label) (last : State) (word : ℕ)
        → left + 1 < 2 ^ 62 → Leads mine (counting counter (left + 1) next at) labels last
        → Exits mine last word → Over left labels word ⊎ Again left labels last
    counted_turn left [] last word few leads exits =
        let here = exits_at last (counting counter (left + 1) next at) word (sym leads) exits in
        let no = exit_only mine (counting counter (left + 1) next at) word _
        (at_first (counting counter (left + 1) next at) refl) here in cc
    counted_turn left (a ∷ []) last word few (t, step, end) exits =
        let first = first_step left t a few step in
        let here = exits_at last (counting counter left next (at + 1)) word (sym end ∙ first.1)
        exits in
        let no = exit_only mine (counting counter left next (at + 1)) word _
        (at_second (counting counter left next (at + 1)) refl) here in cc
    counted_turn left (a ∷ b ∷ rest) last word few (t, step, (u, more, leads)) exits =
        let first = first_step left t a few step in
        let second = second_step left u b (omega (arith, few))
        (step_at t (counting counter left next (at + 1)) u b first.1 more) in
        by_left left (left == 0) refl u rest last word a b first.0 second.0 second.1 leads exits
