use Rattle.std.proofs.Common.{◌<◌, ◌≤◌, List, arith, length, refl, subst, sym}
use Rattle.std.specs.Prelude.{IfSome}
use Rattle.clap.specs.Walk.{Text}
use Rattle.hooktool_trials.proofs.StepWords.{four_words, one_word, three_words, two_words}
use Rattle.hooktool_trials.proofs.steps.told_by.Goals as goal
use Rattle.hooktool_trials.specs.Steps.{SaysAnswer, SaysPlain}

pub returns-in-withheld : goal.returns-in-withheld
returns-in-withheld c =
    one_word _ _ _ c.in-withheld.len_at_least c.in-withheld.len_below c.in-withheld.is-withheld

pub returns-in-installed : goal.returns-in-installed
returns-in-installed c =
    one_word _ _ _ c.in-installed.len_at_least c.in-installed.len_below c.in-installed.is-installed

pub returns-in-program : goal.returns-in-program
returns-in-program c =
    two_words _ _ _ _ c.in-program.len_at_least c.in-program.len_below c.in-program.is-program refl

pub returns-in-not : goal.returns-in-not
returns-in-not c =
    two_words _ _ _ _ c.in-not.len_at_least c.in-not.len_below c.in-not.is-not c.in-not.is-installed

pub returns-in-Some : goal.returns-in-Some
returns-in-Some c =
    let ge : 2 ≤ length c.args.words.now = grind arith in
    let lt : length c.args.words.now < 3 = grind arith in
    subst (λ (ws : List Text). SaysAnswer ws c.in-Some.answer)
    (sym (two_words _ _ _ _ ge lt refl refl)) c.in-Some.ensures

pub returns-in-len3 : goal.returns-in-len3
returns-in-len3 c =
    subst (λ (ws : List Text). IfSome c.of_three.result (SaysPlain ws))
    (three_words _ _ c.in-len3.len_at_least c.in-len3.len_below) c.of_three.ensures

pub returns-in-packets : goal.returns-in-packets
returns-in-packets c =
    subst (λ (ws : List Text). IfSome c.packets_of.result (SaysPlain ws))
    (four_words _ _ _ _ c.in-packets.len_at_least c.in-packets.len_below c.in-packets.is-packets
    c.in-packets.is-interface) c.packets_of.ensures

pub returns-in_default : goal.returns-in_default
returns-in_default c = tt
