use Rattle.std.proofs.Common.{ap, ◌∙◌}
use Rattle.std.specs.FinMap as finite
use Rattle.lsdb.specs.Copies.{contents_of}
use Rattle.lsdb.proofs.database.Lsdb.committed_body_at.Goals as goal

pub returns-in-None : goal.returns-in-None
returns-in-None c =
    ap (contents_of c.args.moment) c.in-None.ensures
    ∙ ap (λ h. contents_of c.args.moment (finite.get h.committed c.args.key.now)) c.self.view_is

pub returns-in-Some : goal.returns-in-Some
returns-in-Some c =
    c.body_at.ensures ∙ ap (contents_of c.args.moment) c.in-Some.ensures
    ∙ ap (λ h. contents_of c.args.moment (finite.get h.committed c.args.key.now)) c.self.view_is
