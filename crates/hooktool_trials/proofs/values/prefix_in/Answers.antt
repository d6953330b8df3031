use Rattle.std.proofs.Common.{◌≡◌, ◌∙◌, ℕ, ap, refl, sym, subst, Some, Option, codes}
use Rattle.clap.specs.Matches.{found_of}
use Rattle.clap.specs.Walk.{first_of, rows_of}
use Rattle.words.specs.Prefixes.{Network, network_address}
use Rattle.hooktool_trials.proofs.OrElse.{read_given, reads_prefix, usual}
use Rattle.hooktool_trials.proofs.values.prefix_in.Goals as goal
use Rattle.hooktool_trials.specs.Words.{IsPrefix, OrElse, Reads, everything}

pub returns-in-None : goal.returns-in-None
returns-in-None c =
    let found = first_of (codes "prefix") (rows_of (found_of c.args.matches.now)) in
    let P : Network → Type 0 = λ prefix. OrElse found (prefix ≡ everything)
    (λ word. IsPrefix word prefix) in
    let at : ℕ → Option Network = λ a. Some (record {
      address = network_address 0 a;
      length = 0;
    }) in
    let is : c.under.result ≡ Some everything = c.under.ensures ∙ ap at c.new.ensures in
    subst (λ (r : Option Network). Reads P r) (sym is)
    (usual found _ _ _ c.word_of.ensures c.in-None.is refl)

pub returns-in-Some : goal.returns-in-Some
returns-in-Some c =
    read_given _ _ c.in-Some.word (λ prefix. prefix ≡ everything)
    (λ prefix word. IsPrefix word prefix) c.read_prefix.result c.word_of.ensures c.in-Some.is
    (reads_prefix c.in-Some.word.now c.read_prefix.result c.read_prefix.ensures)
