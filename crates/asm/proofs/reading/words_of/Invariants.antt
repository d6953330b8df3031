use Rattle.std.proofs.Common.{◌≡◌}
use Rattle.std.specs.Prelude.{filter}
use Rattle.asm.specs.LineViews.{views}
use Rattle.asm.specs.Text.{has_bytes}
use Rattle.asm.proofs.reading.words_of.Given as goal

-- the words so far are the nonempty pieces so far
abbrev pub invariant-loop-word : goal.invariant-loop-word
invariant-loop-word l = views l.words.items ≡ filter has_bytes (views l.yielded)
