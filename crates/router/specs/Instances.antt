-- The next instances of self-originated LSAs (RFC 2328, section 12.1.6): none follows
-- MaxSequenceNumber.
use Rattle.std.specs.Prelude.{ℤ, pos, ◌+ℤ◌, if◌then◌else◌, Option, None, Some}
use Rattle.std.specs.Ordering.{int_cmp, is_eq}
use Rattle.words.specs.Constants.{max_sequence_number}
use Rattle.words.specs.declared.key.Key.{Key}
use Rattle.lsa.specs.declared.body.LsaBody.{LsaBody}
use Rattle.lsdb.specs.Copies.{DatabaseCopy}
use Rattle.lsdb.specs.Headers.{Lsa}
use Rattle.event_rules.specs.Originations.{has_max_sequence, new_instance, next_sequence}

abbrev pub number_after : ℤ → Option ℤ
number_after n = if is_eq (int_cmp n max_sequence_number) then None else Some (n +ℤ pos 1)

abbrev pub next_number : Option DatabaseCopy → Option ℤ
next_number copy = if has_max_sequence copy then None else Some (next_sequence copy)

abbrev pub next_instance : Key → Option DatabaseCopy → LsaBody → Option Lsa
next_instance key copy contents =
    if has_max_sequence copy then None else Some (new_instance key copy contents)
