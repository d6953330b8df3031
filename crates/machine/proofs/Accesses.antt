-- Loads, stores and calls that are allowed commit no fault.
use Rattle.std.proofs.Common.{◌≡◌, ℕ, ◌+◌, ◌%◌, List, [], ◌∷◌, refl, arith, true, false, ◌||◌, not}
use Rattle.std.proofs.Common.{Some, inl, inr}
use Rattle.std.proofs.lemmas.Bool.{le-leb, eq-eqb}
use Rattle.std.specs.Prelude.{nat_le, slice_range}
use Rattle.isa.specs.declared.instruction.LoadSize.{LoadSize}
use Rattle.isa.specs.declared.instruction.StoreSize.{StoreSize}
use Rattle.machine.specs.declared.helper.Helper.{Helper}
use Rattle.machine.specs.declared.helper.Helper.TheVariants as helpers
use Rattle.machine.specs.declared.state.Content.{Content}
use Rattle.machine.specs.declared.state.Content.TheVariants.{Nothing, Number, Address}
use Rattle.isa.specs.declared.map.Map.TheVariants.{Counters, Cells}
use Rattle.machine.specs.declared.state.Pointer.{Pointer}
use Rattle.machine.specs.declared.state.Pointer.TheVariants as pointers
use Rattle.machine.specs.declared.state.StackByte.{StackByte}
use Rattle.machine.specs.declared.state.State.{State}
use Rattle.machine.specs.Label.{Label}
use Rattle.machine.specs.Given.{Given}
use Rattle.machine.specs.Memory.{Loads, Stores, StackGives, is_within, load_length, store_length}
use Rattle.machine.specs.Helpers.{HelperAnswers, arguments}
use Rattle.machine.specs.Faults.{has, is_nothing, is_address, is_nothing_byte, is_word_load}
use Rattle.machine.specs.Faults.{is_word_store, is_readable, stack_bytes_found, is_misaligned}
use Rattle.machine.specs.Faults.{is_misplaced, passes_too_much, exceeds}
use Rattle.machine.proofs.Readings.{no_nothing_of_bytes, bytes_of_bytes, whole_pieces}

pub record Readable (s : State) (size : LoadSize) (q : Pointer) : Type 0 where
  pub full : has is_nothing_byte (stack_bytes_found s size q) ≡ false
  pub readable : not (is_readable size (stack_bytes_found s size q)) ≡ false
  pub within : not (is_within q (load_length size)) ≡ false
  pub aligned : is_misaligned (is_word_load size) q ≡ false

stack_full : (size : LoadSize) (bytes : List StackByte) (content : Content)
    → StackGives size bytes content → (has is_nothing_byte bytes ≡ false)
    × (not (is_readable size bytes) ≡ false)
stack_full size bytes content (inl (xs, e, _)) =
    (rw e (no_nothing_of_bytes xs), rw (e, bytes_of_bytes xs) refl)
stack_full size bytes content (inr (p, word, e, _)) = (rw e refl, rw (e, word, whole_pieces p) refl)

pub loads_clean : (size : LoadSize) (q : Pointer) (input : Given) (s : State) (label : Label)
    (content : Content) → Loads size q input s label content → Readable s size q
loads_clean size (pointers.Context a) input s label content h = record {
  full = refl;
  readable = refl;
  within = rw (le-leb (a + load_length size) 64 h.0) refl;
  aligned = refl;
}
loads_clean size (pointers.Stack a) input s label content h =
    let w : nat_le (a + load_length size) 512 ≡ true = le-leb (a + load_length size) 512 h.0 in
    let f = stack_full size (slice_range s.stack a (a + load_length size)) content h.2 in record {
      full = rw w f.0;
      readable = rw w f.1;
      within = rw w refl;
      aligned = refl;
    }
loads_clean size (pointers.Map Counters a) input s label content h = record {
  full = refl;
  readable = refl;
  within = rw (h.0, le-leb (a + 8) 2048 h.1) refl;
  aligned = rw (h.0, eq-eqb (a % 8) 0 h.2) refl;
}
loads_clean size (pointers.Map Cells a) input s label content h = record {
  full = refl;
  readable = refl;
  within = rw (h.0, le-leb (a + 8) 512 h.1) refl;
  aligned = rw (h.0, eq-eqb (a % 8) 0 h.2) refl;
}

pub record Writable (size : StoreSize) (content : Content) (q : Pointer) : Type 0 where
  pub full : is_nothing content ≡ false
  pub placed : is_misplaced size content q ≡ false
  pub within : not (is_within q (store_length size)) ≡ false
  pub aligned : is_misaligned (is_word_store size) q ≡ false

pub stores_clean : (size : StoreSize) (q : Pointer) (content : Content) (s : State) (label : Label)
    (stack : List StackByte) → Stores size q content s label stack → Writable size content q
stores_clean size (pointers.Stack a) (Number n) s label stack h = record {
  full = refl;
  placed = refl;
  within = rw (le-leb (a + store_length size) 512 h.0) refl;
  aligned = refl;
}
stores_clean size (pointers.Stack a) (Address p) s label stack h = record {
  full = refl;
  placed = rw h.0 refl;
  within = rw (h.0, le-leb (a + 8) 512 h.1) refl;
  aligned = refl;
}
stores_clean size (pointers.Map Cells a) (Number n) s label stack h = record {
  full = refl;
  placed = refl;
  within = rw (h.0, le-leb (a + 8) 512 h.1) refl;
  aligned = rw (h.0, eq-eqb (a % 8) 0 h.2) refl;
}
stores_clean size (pointers.Stack a) Nothing s label stack h = elim h [ ]
stores_clean size (pointers.Context a) content s label stack h = elim h [ ]
stores_clean size (pointers.Map Counters a) content s label stack h = elim h [ ]
stores_clean size (pointers.Map Cells a) Nothing s label stack h = elim h [ ]
stores_clean size (pointers.Map Cells a) (Address p) s label stack h = elim h [ ]

pub record Callable (helper : Helper) (first second : Content) : Type 0 where
  pub full : has is_nothing (arguments helper first second) ≡ false
  pub numbers : has is_address (arguments helper first second) ≡ false
  pub small : passes_too_much (Some helper) first second ≡ false

module _ (input : Given) (label : Label) (n : ℕ) where
  add_clean : (a b : Content) → HelperAnswers helpers.CounterAdd input (a ∷ b ∷ []) label n
      → (has is_nothing (a ∷ b ∷ []) ≡ false) × (has is_address (a ∷ b ∷ []) ≡ false)
      × ((exceeds 255 a || exceeds 16777215 b) ≡ false)
  add_clean (Number a) (Number b) h = (
    refl,
    refl,
    rw (le-leb a 255 (omega (arith, h.0)), le-leb b 16777215 (omega (arith, h.1)))
        refl,
  )
  add_clean Nothing b h = elim h [ ]
  add_clean (Address p) b h = elim h [ ]
  add_clean (Number a) Nothing h = elim h [ ]
  add_clean (Number a) (Address p) h = elim h [ ]

  read_clean : (a : Content) → HelperAnswers helpers.CounterRead input (a ∷ []) label n
      → (has is_nothing (a ∷ []) ≡ false) × (has is_address (a ∷ []) ≡ false)
      × (exceeds 255 a ≡ false)
  read_clean (Number a) h = (refl, refl, rw (le-leb a 255 (omega (arith, h.0))) refl)
  read_clean Nothing h = elim h [ ]
  read_clean (Address p) h = elim h [ ]

  packet_clean : (a : Content) → HelperAnswers helpers.PacketByte input (a ∷ []) label n
      → (has is_nothing (a ∷ []) ≡ false) × (has is_address (a ∷ []) ≡ false)
  packet_clean (Number a) h = (refl, refl)
  packet_clean Nothing h = elim h [ ]
  packet_clean (Address p) h = elim h [ ]

  cost_clean : (a b : Content) → HelperAnswers helpers.TableCost input (a ∷ b ∷ []) label n
      → (has is_nothing (a ∷ b ∷ []) ≡ false) × (has is_address (a ∷ b ∷ []) ≡ false)
  cost_clean (Number a) (Number b) h = (refl, refl)
  cost_clean Nothing b h = elim h [ ]
  cost_clean (Address p) b h = elim h [ ]
  cost_clean (Number a) Nothing h = elim h [ ]
  cost_clean (Number a) (Address p) h = elim h [ ]

pub answers_clean : (helper : Helper) (input : Given) (first second : Content) (label : Label)
    (n : ℕ) → HelperAnswers helper input (arguments helper first second) label n
    → Callable helper first second
answers_clean helpers.CounterAdd input a b label n h = let c = add_clean input label n a b h in
    record { full = c.0; numbers = c.1; small = c.2 }
answers_clean helpers.CounterRead input a b label n h = let c = read_clean input label n a h in
    record { full = c.0; numbers = c.1; small = c.2 }
answers_clean helpers.PacketByte input a b label n h = let c = packet_clean input label n a h in
    record { full = c.0; numbers = c.1; small = refl }
answers_clean helpers.TableCost input a b label n h = let c = cost_clean input label n a b h in
    record { full = c.0; numbers = c.1; small = refl }
