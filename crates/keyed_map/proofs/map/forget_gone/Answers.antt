use Rattle.std.proofs.Common.{rules, sym, ◌∙◌}
use Rattle.std.proofs.lemmas.Map.Made.{filter_same_pairs}
use Rattle.keyed_map.specs.Slots.{holds}
use Rattle.keyed_map.proofs.Orders.{live_held, live_none}
use Rattle.keyed_map.proofs.map.forget_gone.Goals as goal

pub returns-then-len-eq0 : goal.returns-then-len-eq0
returns-then-len-eq0 g c = live_none c.args.slots.now.entries c.clear.new.self.entries
    (sym c.requires ∙ c.if-len-eq0.true) c.clear.ensures.empty

pub returns-else-len-eq0 : goal.returns-else-len-eq0
returns-else-len-eq0 g c =
    live_held c.args.slots.now.entries c.retain.new.self.entries c.retain.ensures.was_ordered
    c.retain.ensures.ordered
    (filter_same_pairs _ (λ e. holds e.1) _ (λ k v b w f' t. search rules) c.args.slots.now.entries
    c.retain.new.self.entries c.retain.ensures.filtered)
