use Rattle.std.proofs.Common.{◌∙◌, lit<, sym, ap}
use Rattle.std.proofs.lemmas.Str.Pattern.{strip_suffix_char}
use Rattle.console.specs.Configurations.{without_last_feed}
use Rattle.console.proofs.Lines.{ended, unended}
use Rattle.console.proofs.configuration.without_last_feed.Goals as goal

pub returns-in-Some : goal.returns-in-Some
returns-in-Some c =
    let k = strip_suffix_char 10 c.args.text.now c.strip_suffix.result c.strip_suffix.ensures.cases
    (lit< tt) in
    sym (ended c.in-Some.front.now) ∙ ap without_last_feed (sym (rw c.in-Some.is at k))

pub returns-in-None : goal.returns-in-None
returns-in-None c =
    let k = strip_suffix_char 10 c.args.text.now c.strip_suffix.result c.strip_suffix.ensures.cases
    (lit< tt) in
    sym (unended c.args.text.now (rw c.in-None.is at k))
