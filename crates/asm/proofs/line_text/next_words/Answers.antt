use Rattle.std.proofs.Common.{List, subst, arith, string_bytes}
use Rattle.std.proofs.lemmas.List.{take_all}
use Rattle.asm.specs.declared.line_text.LineWord.{LineWord}
use Rattle.asm.specs.LineWords.{parts}
use Rattle.asm.specs.Written.{Adds}
use Rattle.asm.proofs.LineWords.{nothing_added, one_more, whole_at}
use Rattle.asm.proofs.line_text.next_words.Goals as goal

pub loop-word-init : goal.loop-word-init
loop-word-init c = nothing_added (string_bytes c.args.text.now)

pub next_word-requires : goal.next_word-requires
next_word-requires c =
    whole_at c.args.words.now c.loop-word.word-index _
    (omega (arith, c.loop-word-test.true)) c.requires

pub loop-word-preserved : goal.loop-word-preserved
loop-word-preserved c =
    one_more c.args.words.now c.loop-word.word-index _
    (omega (arith, c.loop-word-test.true)) c.loop-word.invariant
    c.in_ok-next_word.ensures

pub returns : goal.returns
returns c =
    subst (λ (ws : List LineWord). Adds (string_bytes c.args.text.now)
    (string_bytes c.loop-word.text) (parts ws))
    (take_all c.loop-word.word-index c.args.words.now
    (omega (arith, c.loop-word-test.false))) c.loop-word.invariant
