use Rattle.std.proofs.Common.{◌≡◌, true, refl}
use Rattle.isa.specs.declared.hook.Hook.{Hook}
use Rattle.isa.specs.declared.hook.Hook.TheVariants as hooks
use Rattle.isa.specs.Hooks.{hook_name}
use Rattle.asm.specs.Words.{is_word}
use Rattle.asm.proofs.word.hook_word.Goals as goal

names_are_words : (hook : Hook) → is_word (hook_name hook) ≡ true
names_are_words hooks.Count = refl
names_are_words hooks.Tag = refl
names_are_words hooks.Price = refl
names_are_words hooks.Veto = refl

pub returns-clause-word : goal.returns-clause-word
returns-clause-word c = rw c.name.ensures (names_are_words c.args.hook)
