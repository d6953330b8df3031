-- Stack bytes that are known to be filled: with a byte of a number, or with a piece of a pointer.
use Rattle.std.specs.Prelude.{◌≡◌, ℕ, ◌<◌, ◌≤◌, List, length, slice_index_or}
use Rattle.kinds.specs.declared.state.StackEntry.{StackEntry}
use Rattle.kinds.specs.declared.state.StackEntry.TheVariants as entries

-- what is known of the stack from a byte on
abbrev pub entry_in : {D : Type 0} → List (StackEntry D) → ℕ → StackEntry D
entry_in known at = slice_index_or known at entries.Unknown

-- the byte is known not to be empty
abbrev pub IsKnownFilled : {D : Type 0} → StackEntry D → Type 0
IsKnownFilled entries.Unknown = ⊥
IsKnownFilled other = Unit {0}

-- the same of each byte from start to end
abbrev pub AreKnownFilled : {D : Type 0} → ℕ → ℕ → List (StackEntry D) → Type 0
AreKnownFilled start end known = (at : ℕ) → start ≤ at → at < end
    → IsKnownFilled (entry_in known at)

-- After the bytes from start to end are overwritten by bytes of which `inside` is known: if
-- `inside` says that a byte is filled, those bytes are known to be filled, and so are all that were
-- known to be before.
pub record StaysFilledAt {D : Type 0} (at start end : ℕ) (inside entry after : StackEntry D)
    : Type 0 where
  pub stays : IsKnownFilled inside → IsKnownFilled entry → IsKnownFilled after
  pub put : IsKnownFilled inside → start ≤ at → at < end → IsKnownFilled after

-- the same for each byte of which something may be known
pub record StaysFilled {D : Type 0} (start end : ℕ) (inside : StackEntry D)
    (known after : List (StackEntry D)) : Type 0 where
  pub long : length after ≡ length known
  pub each : (at : ℕ) → at < length known
      → StaysFilledAt at start end inside (entry_in known at) (entry_in after at)
