use Rattle.std.proofs.Common.{subst, Option}
use Rattle.std.specs.Prelude.{option_map}
use Rattle.asm.specs.declared.line.Item.{Item}
use Rattle.asm.specs.Text.{words_in, Reads}
use Rattle.asm.specs.LineViews.{item_view}
use Rattle.asm.proofs.Items.{adds}
use Rattle.asm.proofs.reading.read_line.Goals as goal

pub returns-in_ok-push-in-Ok-Some-2-clause-added : goal.returns-in_ok-push-in-Ok-Some-2-clause-added
returns-in_ok-push-in-Ok-Some-2-clause-added c = adds _ _ _ _ (words_in c.args.line.now) _ _
    c.requires c.in_ok-push-in-Ok-Some.ensures.items c.in_ok-push-in-Ok-Some-2.ensures.items
    (subst (λ (found : Option Item). Reads (words_in c.args.line.now) (option_map item_view found))
    c.in-Ok-Some.field-0-is c.in-Ok-Some.ensures)

pub returns-in_ok-push-in-Ok-None-2-clause-added : goal.returns-in_ok-push-in-Ok-None-2-clause-added
returns-in_ok-push-in-Ok-None-2-clause-added c = adds _ _ _ _ (words_in c.args.line.now) _ _
    c.requires c.in_ok-push-in-Ok-None.ensures.items c.in_ok-push-in-Ok-None-2.ensures.items
    (subst (λ (found : Option Item). Reads (words_in c.args.line.now) (option_map item_view found))
    c.in-Ok-None.field-0-is c.in-Ok-None.ensures)
