use Rattle.std.proofs.Common.{Some, ap, ◌∙◌}
use Rattle.std.specs.FinMap as finite
use Rattle.lsdb.proofs.Copies.{none_is}
use Rattle.lsdb.proofs.database.Lsdb.get.Goals as goal

pub returns-then-is_beyond : goal.returns-then-is_beyond
returns-then-is_beyond c =
    none_is (finite.get c.self.inside.copies.present c.args.key.now)
    (c.is_beyond.ensures c.if-is_beyond.true)
    ∙ ap (λ h. finite.get h.present c.args.key.now) c.self.view_is

pub returns-in-None : goal.returns-in-None
returns-in-None c = c.in-None.ensures ∙ ap (λ h. finite.get h.present c.args.key.now) c.self.view_is

pub returns-in-Some : goal.returns-in-Some
returns-in-Some c =
    ap (λ x. Some x) c.borrowed.ensures ∙ c.in-Some.ensures
    ∙ ap (λ h. finite.get h.present c.args.key.now) c.self.view_is
