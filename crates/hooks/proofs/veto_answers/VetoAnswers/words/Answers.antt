use Rattle.std.proofs.Common.{sym, ap, ◌∙◌}
use Rattle.keyed_map.specs.Answers.{all_in}
use Rattle.hooks.specs.VetoAnswers.{vetoes_of, words_of}
use Rattle.hooks.proofs.LetInWords.{words_let_in}
use Rattle.hooks.proofs.veto_answers.VetoAnswers.words.Goals as goal

pub returns-in_ok-copy-in-AllIn : goal.returns-in_ok-copy-in-AllIn
returns-in_ok-copy-in-AllIn c =
    c.all_in.ensures ∙ ap all_in c.in_ok-copy-in-AllIn.ensures ∙ sym (words_let_in _ _)
    ∙ ap words_of (ap vetoes_of (sym c.in-AllIn.is) ∙ c.self.view_is)
