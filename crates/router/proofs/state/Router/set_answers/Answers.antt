use Rattle.std.proofs.Common.{ap}
use Rattle.router.proofs.Edited.{answers_are}
use Rattle.router.proofs.state.Router.set_answers.Goals as goal

pub returns : goal.returns
returns c =
    answers_are _ c.args.self.now c.args.answers c.set.new.self.present c.set.new.self.committed
    c.self.view_is (ap (λ k. k.present) c.set.ensures) (ap (λ k. k.committed) c.set.ensures)
