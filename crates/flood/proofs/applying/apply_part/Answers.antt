use Rattle.std.proofs.Common.{sym, subst}
use Rattle.router.specs.Making.{Makes}
use Rattle.router.proofs.Making.{done}
use Rattle.flood.specs.declared.part.Part.{Part}
use Rattle.flood.specs.Parts.{after_part}
use Rattle.flood.proofs.applying.apply_part.Goals as goal

pub returns-in-Install : goal.returns-in-Install
returns-in-Install c =
    done _ (subst (λ (p : Part). Makes (after_part p c.args.moment) c.args.router.now
    c.set_answers.new.self) (sym c.in-Install.is) c.set_answers.ensures)

pub returns-in-LinkDown : goal.returns-in-LinkDown
returns-in-LinkDown c =
    done _ (subst (λ (p : Part). Makes (after_part p c.args.moment) c.args.router.now
    c.take_down.new.self) (sym c.in-LinkDown.is) c.take_down.ensures)
