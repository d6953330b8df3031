-- Files of packets in the classic form of libpcap, as pcap-savefile(5) has it.
use Rattle.std.specs.Prelude.{◌≡◌, ◌⊎◌, ℕ, ◌+◌, ◌<◌, ◌≤◌, List, [], ◌∷◌, length, slice_range}
use Rattle.hooktool_trials.specs.Frames.{HasNumber}
use Rattle.hooktool_trials.specs.CaptureNumbers.{half, word}
use Rattle.hooktool_trials.specs.declared.captures.fault.CaptureError.{CaptureError}
use Rattle.hooktool_trials.specs.declared.captures.fault.CaptureError.TheVariants as errors
use Rattle.hooktool_trials.specs.declared.captures.file.Capture.{Capture}
use Rattle.hooktool_trials.specs.declared.captures.file.Record.{Record}
use Rattle.hooktool_trials.specs.declared.captures.frame.LinkType.{LinkType}
use Rattle.hooktool_trials.specs.declared.captures.number.Order.{Order}

-- A header of 24 bytes: the magic number, of microseconds or nanoseconds, in this order of bytes,
-- and the major version 2.
pub record IsHeader (order : Order) (bytes : List ℕ) : Type 0 where
  pub long : 24 ≤ length bytes
  pub magic : (word order bytes 0 ≡ 0xa1b2c3d4) ⊎ (word order bytes 0 ≡ 0xa1b23c4d)
  pub version : half order bytes 4 ≡ 2

-- the number of the kind of link
abbrev pub link_number : Order → List ℕ → ℕ
link_number order bytes = word order bytes 20

-- A record begins at this place: the seconds, their parts, how many bytes were captured, how many
-- there were, and the bytes.
pub record IsRecordAt (order : Order) (bytes : List ℕ) (at : ℕ) (it : Record) : Type 0 where
  pub long : at + 16 ≤ length bytes
  pub in_file : at + 16 + word order bytes (at + 8) ≤ length bytes
  pub seconds : it.seconds ≡ word order bytes at
  pub frame : it.frame.now
      ≡ slice_range bytes (at + 16) (at + 16 + word order bytes (at + 8))

-- None does: its header, or what it says that was captured, goes on behind the end.
abbrev pub IsCutAt : Order → List ℕ → ℕ → Type 0
IsCutAt order bytes at = (length bytes < at + 16)
    ⊎ (length bytes < at + 16 + word order bytes (at + 8))

-- The records lie one behind the other, from one place to another.
abbrev pub AreRecords : Order → List ℕ → ℕ → List Record → ℕ → Type 0
AreRecords order bytes from [] to = from ≡ to
AreRecords order bytes from (first ∷ others) to =
    IsRecordAt order bytes from first
    × AreRecords order bytes (from + 16 + length first.frame.now) others to

-- the capture that the bytes are
pub record IsCapture (bytes : List ℕ) (capture : Capture) : Type 0 where
  pub order : Order
  pub header : IsHeader order bytes
  pub link : HasNumber capture.link (link_number order bytes)
  pub records : AreRecords order bytes 24 capture.records.items (length bytes)

-- Of the records the one at this index is the first that doesn't lie in the file.
pub record IsShort (bytes : List ℕ) (index : ℕ) : Type 0 where
  pub order : Order
  pub header : IsHeader order bytes
  pub before : List Record
  pub at : ℕ
  pub records : AreRecords order bytes 24 before at
  pub count : length before ≡ index
  pub more : at < length bytes
  pub cut : IsCutAt order bytes at

-- why the bytes are no capture
abbrev pub Refuses : List ℕ → CaptureError → Type 0
Refuses bytes errors.NotCapture = (order : Order) → IsHeader order bytes → ⊥
Refuses bytes (errors.Link number) = (order : Order) × IsHeader order bytes
    × (link_number order bytes ≡ number) × ((link : LinkType) → HasNumber link number → ⊥)
Refuses bytes (errors.Short number) = (index : ℕ) × (number ≡ index + 1) × IsShort bytes index
Refuses bytes errors.Memory = Unit {0}
