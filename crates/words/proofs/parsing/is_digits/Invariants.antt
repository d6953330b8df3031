use Rattle.std.proofs.Common.{◌≡◌, drop}
use Rattle.std.specs.Str.{all_ascii_digits}
use Rattle.words.proofs.parsing.is_digits.Given as goal

-- the bytes before this one are digits
abbrev pub invariant-loop-byte : goal.invariant-loop-byte
invariant-loop-byte l = (l.byte-items ≡ l.word)
    × (all_ascii_digits l.word ≡ all_ascii_digits (drop l.byte-index l.word))
