use Rattle.std.proofs.Common.{rules}
use Rattle.std.proofs.lemmas.List.Sorted.{answers_always}
use Rattle.router.proofs.KeyOrder.{sorted_is}
use Rattle.router.proofs.order.sort_by_keys.Goals as goal

pub returns : goal.returns
returns g c =
    sorted_is g.X.HasKey.order_key c.args.items.now.items c.sort_by_key.new.self.items
    (c.in_ok-sort_by_key.ensures.sorted g.X.HasKey.order_key
    (answers_always _ _ _ (λ f a r f' h. search rules)))
    (c.sort_by_key.ensures.stable g.X.HasKey.order_key
    (answers_always _ _ _ (λ f a r f' h. search rules)))
