use Rattle.std.proofs.Common.{take, string_bytes}
use Rattle.asm.specs.LineWords.{parts}
use Rattle.asm.specs.Written.{Adds}
use Rattle.asm.proofs.line_text.next_words.Given as goal

-- the words before the index are added
abbrev pub invariant-loop-word : goal.invariant-loop-word
invariant-loop-word l =
    Adds (string_bytes l.fn.text) (string_bytes l.text) (parts (take l.word-index l.words))
