-- What a program's answer means at its hook, as `try` tells it.
use Rattle.std.specs.Prelude.{ℕ, ◌==◌, ◌%◌, List, codes, if◌then◌else◌, nat_le}
use Rattle.isa.specs.declared.hook.Hook.{Hook}
use Rattle.isa.specs.declared.hook.Hook.TheVariants as hooks

-- At price LSInfinity, 16777215, and greater ones withhold the destination; at veto 0 alone
-- installs the route.
abbrev pub answer_words : Hook → (answer : ℕ) → List ℕ
answer_words hooks.Count answer = codes "answer {}, which isn't used"
answer_words hooks.Tag answer = codes "tag {}"
answer_words hooks.Price answer =
    (if nat_le 16777215 answer then codes "withheld" else codes "metric {}")
answer_words hooks.Veto answer =
    (if answer == 0 then codes "installed" else codes "not installed")

-- the number in the words; of a tag the low 32 bits
abbrev pub told_number : Hook → (answer : ℕ) → ℕ
told_number hooks.Tag answer = answer % 4294967296
told_number other answer = answer
