use Rattle.std.proofs.Common.{◌≤◌, ◌+◌, length, ap, sym, ◌∙◌, subst}
use Rattle.std.specs.List.{AllByRecursion}
use Rattle.router.specs.Bodies.{texts}
use Rattle.router.proofs.Drafted.{sorted_texts_short}
use Rattle.router.proofs.bodies.put_updates.Goals as goal

pub packed-requires-clause-room : goal.packed-requires-clause-room
packed-requires-clause-room c =
    subst (λ ts. AllByRecursion (λ t. 28 + length t ≤ 8192) ts)
    (sym (c.in_ok-texts.ensures ∙ ap texts c.in_ok-sort_by_keys.ensures))
    (sorted_texts_short c.args.updates.items c.requires)
