use Rattle.std.proofs.Common.{refl}
use Rattle.hooktool_trials.proofs.OrElse.{read_given, reads_number, usual}
use Rattle.hooktool_trials.proofs.values.number_of.Goals as goal
use Rattle.hooktool_trials.specs.Words.{IsNumber}

pub returns-in-None-clause-read : goal.returns-in-None-clause-read
returns-in-None-clause-read c = usual _ _ _
    (λ word. IsNumber c.args.least c.args.most word c.args.usual) c.word_of.ensures c.in-None.is
    refl

pub returns-in-Some-clause-read : goal.returns-in-Some-clause-read
returns-in-Some-clause-read c =
    read_given _ _ c.in-Some.word (λ n. _) (λ n word. IsNumber c.args.least c.args.most word n)
    c.read_within.result c.word_of.ensures c.in-Some.is
    (reads_number c.in-Some.word.now c.args.least c.args.most c.read_within.result
    c.read_within.ensures)
