-- Wherever the names of the hooks are in memory, a command line takes the same words and fails with
-- the same kinds of error.
use Rattle.std.proofs.Common.{◌≡◌, ap, ap₂, sym, subst₂, refl, ℕ, Bool, true, false, List, [], ◌∷◌}
use Rattle.std.proofs.Common.{Option, Some, None, codes, is_some, option_map}
use Rattle.std.specs.Prelude.{if◌then◌else◌, find, pos}
use Rattle.std.specs.Borrow.{Bor}
use Rattle.std.specs.Option.{option_map_or}
use Rattle.clap.specs.Faults.{entered_fault, fault_of, level_fault}
use Rattle.clap.specs.Kinds.{Kinds}
use Rattle.clap.specs.Simple.{App, Shape, argument_words, built, built_leaf, entered, help_shape}
use Rattle.clap.specs.Simple.{label_of, names_of, rows_at, subcommand_of}
use Rattle.clap.specs.Walk.{Row, Text, answers_to, nothing_held, stop_after}
use Rattle.clap.specs.declared.builder.value_parser.ValueParser.{ValueParser}
use Rattle.clap.specs.declared.builder.value_parser.ValueParser.TheVariants.{Names, Signed}
use Rattle.commands.proofs.Places.{rows_same}
use Rattle.commands.proofs.PlacesFaults.{by_rules, level_same}
use Rattle.commands.proofs.PlacesRaw.{SameParser, rules_by, same_faults}
use Rattle.commands.proofs.PlainRaw.{line_by}
use Rattle.commands.specs.CommandLine.{asm, command, hook_names, list, route, run, verify}
use Rattle.commands.specs.Laws.{WhereTheNamesLieChangesNothing}

-- the command line, by the parser of the hook
abbrev line_of : ValueParser → App
line_of parser = line_by parser (Signed (pos 1) (pos 64))

abbrev app_of : ValueParser → App
app_of parser = built (line_of parser)

-- `raw` as it is built
abbrev raw_by : ValueParser → Shape
raw_by p = by_rules (built_leaf (command (codes "raw") [])) (rules_by p)

-- the commands after it
abbrev others : List Shape
others = built_leaf run ∷ built_leaf asm ∷ built_leaf list ∷ built_leaf verify ∷ built_leaf route
    ∷ built_leaf help_shape ∷ []

entered_same : (p q : ValueParser) → SameParser p q → (stop : Option (Text × List Text))
    → entered (app_of p) stop ≡ entered (app_of q) stop
entered_same p q same None = refl
entered_same p q same (Some x) = go (answers_to x.0 (codes "raw", []))
    (find (λ s. answers_to x.0 (label_of s)) others)
  where
    go : (b : Bool) (o : Option Shape)
        → option_map (λ s. rows_at s x.1) (if b then Some (raw_by p) else o)
        ≡ option_map (λ s. rows_at s x.1) (if b then Some (raw_by q) else o)
    go true o = ap (λ (rows : List Row). Some (codes "raw", rows))
        (rows_same (rules_by p) (rules_by q) (same_faults p q same).rows [] x.1)
    go false o = refl

entered_fails_same : (p q : ValueParser) → SameParser p q → (stop : Option (Text × List Text))
    → entered_fault (app_of p) stop ≡ entered_fault (app_of q) stop
entered_fails_same p q same None = refl
entered_fails_same p q same (Some x) =
    go (answers_to x.0 (codes "raw", [])) (find (λ s. answers_to x.0 (label_of s)) others)
  where
    go : (b : Bool) (o : Option Shape)
        → option_map_or (λ s. level_fault s [] nothing_held x.1 false [])
        (if b then Some (raw_by p) else o) []
        ≡ option_map_or (λ s. level_fault s [] nothing_held x.1 false [])
        (if b then Some (raw_by q) else o) []
    go true o = level_same (raw_by p) (rules_by p) (rules_by q) (same_faults p q same) []
        nothing_held x.1 false []
    go false o = refl

abbrev SameAnswers : List Text → App → App → Type 0
SameAnswers words line other = (fault_of line words ≡ fault_of other words)
    × (subcommand_of line words ≡ subcommand_of other words)

answers_same : (p q : ValueParser) → SameParser p q → (words : List Text)
    → SameAnswers words (line_of p) (line_of q)
answers_same p q same words =
    let given : List Text = argument_words (app_of p) words in
    let stop : Option (Text × List Text) =
    stop_after (app_of p).top.rules (names_of (app_of p)) given in
    let named : entered (app_of p) stop ≡ entered (app_of q) stop = entered_same p q same stop in (
      ap₂ (λ (has_subcommand : Bool) (below : Kinds).
          level_fault (app_of p).top (names_of (app_of p)) nothing_held given has_subcommand below)
          (ap is_some named) (entered_fails_same p q same stop),
      named,
    )

-- the same names are read alike, wherever they are in memory
names_same : (hooks other : Bor (List (Bor Text))) (a b c d a_2 b_2 c_2 d_2 : ℕ × ℕ)
    → hooks.now ≡ hook_names a b c d → other.now ≡ hook_names a_2 b_2 c_2 d_2
    → SameParser (Names hooks) (Names other)
names_same hooks other a b c d a_2 b_2 c_2 d_2 first second =
    record { reading = refl; taken = λ text. rw (first, second) refl; refused = refl }

pub names_change_nothing : WhereTheNamesLieChangesNothing
names_change_nothing line other words own own_2 =
    let alike = names_same own.0 own_2.0 own.1 own.2 own.3 own.4 own_2.1 own_2.2 own_2.3 own_2.4
    own.5 own_2.5 in
    subst₂ (SameAnswers words) (sym own.6) (sym own_2.6)
    (answers_same (Names own.0) (Names own_2.0) alike words)
