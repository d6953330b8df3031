use Rattle.hooks.specs.Known.{known_to}
use Rattle.hooks.proofs.Vacant.{veto_by_none}
use Rattle.hooks.proofs.asker.Asker.all_let_in.Goals as goal

pub returns-in-Some-clause-answered : goal.returns-in-Some-clause-answered
returns-in-Some-clause-answered c =
    veto_by_none (known_to c.args.self.now) (known_to c.vacancies.new.self) c.args.moment
    c.vacancies.ensures.known (c.in-Some.ensures.vacant.veto.0 c.if-vacancies.true)
