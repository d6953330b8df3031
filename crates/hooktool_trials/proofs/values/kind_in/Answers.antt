use Rattle.std.proofs.Common.{◌≡◌}
use Rattle.hooktool_trials.proofs.OrElse.{read_given}
use Rattle.hooktool_trials.proofs.values.kind_in.Goals as goal
use Rattle.hooktool_trials.specs.Words.{kind_word}
use Rattle.words.specs.declared.route.RouteKind.TheVariants.{Intra}

pub returns-in-Some : goal.returns-in-Some
returns-in-Some c =
    read_given _ _ c.in-Some.word (λ kind. kind ≡ Intra) (λ kind word. word ≡ kind_word kind)
    c.kind_named.result c.word_of.ensures c.in-Some.is c.kind_named.ensures
