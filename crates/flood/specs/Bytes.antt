-- How many bytes a journal takes.
use Rattle.std.specs.Prelude.{ℕ, ◌+◌, ◌*◌, List, fold, length, min}
use Rattle.flood.specs.declared.event.Event.{Event}
use Rattle.flood.specs.declared.event.Event.TheVariants as event
use Rattle.flood.specs.declared.book.entry.JournalEntry.{JournalEntry}

-- what an event holds outside of its entry and keeps in the journal: the bytes of a packet. The
-- answers of an Install don't count: at the next Install they are dropped
abbrev pub held_by : Event → ℕ
held_by (event.Packet interface bytes) = length bytes
held_by event.Tick = 0
held_by (event.Redistribute tag price) = 0
held_by (event.Withdraw prefix) = 0
held_by (event.Install answers) = 0
held_by (event.LinkDown interface) = 0

-- these bytes, and those of one more event: what it holds, and 256 for its entry; at most 2^64 - 1
abbrev pub with_event : ℕ → Event → ℕ
with_event bytes e = min (bytes + held_by e + 256) 18446744073709551615

-- the bytes that a journal's events take
abbrev pub bytes_of : List JournalEntry → ℕ
bytes_of journal = fold (λ bytes (e : JournalEntry). with_event bytes e.event) 0 journal

-- the bytes that the journal of a router with this number of LSAs may take: 256 KiB, and 256 for
-- each
abbrev pub allowed_for : (lsas : ℕ) → ℕ
allowed_for lsas = min (min (lsas * 256) 18446744073709551615 + 262144) 18446744073709551615
