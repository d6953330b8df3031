use Rattle.std.proofs.Common.{◌≡◌, ◌++◌, string_bytes}
use Rattle.console.specs.Answers.{interfaces_below, numbers_text}
use Rattle.console.proofs.Numbers.{is_empty}
use Rattle.console.proofs.answers.push_hops.Given as goal

-- the text so far, and whether it is empty
abbrev pub invariant-loop-interface : goal.invariant-loop-interface
invariant-loop-interface l =
    (string_bytes l.text ≡ string_bytes l.initial.text
    ++ numbers_text (interfaces_below l.interface l.hops))
    × (l.is_first ≡ is_empty (interfaces_below l.interface l.hops))
