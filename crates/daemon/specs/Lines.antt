-- What the console's input gives: bytes, and the lines of which they are.
use Rattle.std.specs.Prelude.{◌≡◌, ◌≢◌, ◌⊎◌, ℕ, ◌<◌, ◌≤◌, Bool, true, false, List, [], ◌∷◌, length}
use Rattle.std.specs.Prelude.{Option, None, Some, string_bytes}
use Rattle.std.specs.List.{All}
use Rattle.std.specs.Str.{IsUtf8}
use Rattle.std.specs.Io.KnownBytes.{Consumes, IsAtEnd}
use Rattle.daemon.specs.declared.lines.Given.{Given}
use Rattle.daemon.specs.declared.lines.Given.TheVariants.{Line, Memory, End, Failed}

-- ---- bytes

-- input before it gave a byte, or none at its end, and after that
abbrev pub Gives : (Input : Type 0) → Type 1
Gives Input = (before : Input) → (byte : Option ℕ) → (after : Input) → Type 0

-- input before it couldn't be read, and after that
abbrev pub Fails : (Input : Type 0) → Type 1
Fails Input = (before after : Input) → Type 0

-- of the bytes that are left, if they are known, this is the first, or there is none
abbrev pub IsNext : (before : Option (List ℕ)) → (byte : Option ℕ) → (after : Option (List ℕ))
    → Type 0
IsNext before None after = IsAtEnd before
IsNext before (Some byte) after = Consumes before after (byte ∷ [])

-- the input gave each of these, in their order
abbrev pub GivesEach : {Input : Type 0} → Gives Input → (before : Input) → List ℕ → (after : Input)
    → Type 0
GivesEach gives before [] after = after ≡ before
GivesEach {Input = Input} gives before (byte ∷ bytes) after =
    (between : Input) × gives before (Some byte) between × GivesEach gives between bytes after

-- ---- lines

-- A line: bytes of which none is a line feed (10), up to a line feed; or up to the end, if there
-- are any.
pub record GivesLine {Input : Type 0} (gives : Gives Input) (before : Input) (line : List ℕ)
    (after : Input) : Type 0 where
  pub between : Input
  pub each : GivesEach gives before line between
  pub unbroken : All (λ byte. byte ≢ 10) line
  pub ended : gives between (Some 10) after ⊎ (gives between None after × (0 < length line))

-- its text: the line; or nothing, if it has more than 4,096 bytes or is no UTF-8
abbrev pub IsText : (line text : List ℕ) → Type 0
IsText line text =
    ((text ≡ line) × (length line ≤ 4096)) ⊎ ((text ≡ []) × (IsUtf8 line → 4096 < length line))

-- The input gave a line, for which there may have been no memory; or it gave no byte, since it is
-- at its end; or it couldn't be read, perhaps in the midst of a line.
abbrev pub IsGiven : {Input : Type 0} → Gives Input → Fails Input → (before : Input) → Given
    → (after : Input) → Type 0
IsGiven gives fails before (Line text) after =
    (line : List ℕ) × GivesLine gives before line after × IsText line (string_bytes text)
IsGiven gives fails before Memory after = (line : List ℕ) × GivesLine gives before line after
IsGiven gives fails before End after = gives before None after
IsGiven {Input = Input} gives fails before Failed after =
    (bytes : List ℕ) × (between : Input) × GivesEach gives before bytes between
    × fails between after

-- ---- what is kept of a line as it's read

-- these bytes are the line; or both are more than 4,096
abbrev pub IsKeptOf : (kept line : List ℕ) → Type 0
IsKeptOf kept line = (kept ≡ line) ⊎ ((4096 < length kept) × (4096 < length line))

-- what comes of a line, once it's read whole; and of one that the input's end ends
abbrev pub IsWhole : (kept : List ℕ) → (is_lost : Bool) → Given → Type 0
IsWhole kept is_lost (Line text) = (is_lost ≡ false) × IsText kept (string_bytes text)
IsWhole kept is_lost Memory = is_lost ≡ true
IsWhole kept is_lost End = ⊥
IsWhole kept is_lost Failed = ⊥

abbrev pub IsLast : (kept : List ℕ) → (is_lost : Bool) → Given → Type 0
IsLast kept is_lost (Line text) =
    IsWhole kept is_lost (Line text) × (0 < length kept)
IsLast kept is_lost Memory = is_lost ≡ true
IsLast kept is_lost End = (is_lost ≡ false) × (kept ≡ [])
IsLast kept is_lost Failed = ⊥
