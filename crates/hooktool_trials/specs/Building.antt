-- Commands that are built of tables, word by word.
use Rattle.std.specs.Prelude.{◌≡◌, false, true, List, [], ◌∷◌, codes}
use Rattle.std.specs.Borrow.{Bor}
use Rattle.clap.specs.Simple.{App, Shape, app_of, new_app, new_shape, with_rule}
use Rattle.clap.specs.Simple.{with_subcommand}
use Rattle.clap.specs.Walk.{Rule, Text, rule_of}
use Rattle.clap.specs.declared.builder.arg.Arg.{Arg}
use Rattle.clap.specs.declared.builder.command.Command.{Command}
use Rattle.clap.specs.declared.builder.command.Command.TheViews.{out-Command}
use Rattle.hooktool_trials.specs.CommandLine.{option, repeated_option, required_word}
use Rattle.hooktool_trials.specs.declared.arguments.Form.{Form}
use Rattle.hooktool_trials.specs.declared.arguments.Given.{Given}
use Rattle.hooktool_trials.specs.declared.arguments.Given.TheVariants as given
use Rattle.hooktool_trials.specs.declared.arguments.Word.{Word}

-- no argument of it is also one of its subcommands
abbrev pub IsLocal : Command → Type 0
IsLocal c = (out-Command c).has_globals ≡ false

-- the rule of a word of this name
abbrev pub rule_by : Given → Text → Rule
rule_by given.Required name = required_word name
rule_by given.Once name = option name
rule_by given.Repeated name = repeated_option name

abbrev pub rule_for : Word → Rule
rule_for word = rule_by word.given word.name.now

-- the argument of a word
pub record IsArgument (word : Word) (arg : Arg) : Type 0 where
  pub rule : rule_of arg ≡ rule_for word
  pub local : arg.global ≡ false

-- what has these words too, in their order
abbrev pub with_words : App → List Word → App
with_words app [] = app
with_words app (word ∷ words) = with_words (with_rule app (rule_for word)) words

-- the command of a form
abbrev pub app_for : Form → App
app_for form = with_words (new_app form.name.now) form.words.now

abbrev pub shape_for : Form → Shape
shape_for form = (app_for form).top

-- the command of this form, without commands of its own
pub record IsLeaf (form : Form) (c : Command) : Type 0 where
  pub app : app_of c ≡ app_for form
  pub local : IsLocal c

-- what has these commands too, in their order
abbrev pub with_forms : App → List (Bor Form) → App
with_forms app [] = app
with_forms app (form ∷ forms) = with_forms (with_subcommand app (shape_for form.now)) forms

-- the command line, without its commands
abbrev pub without_commands : App
without_commands = record (new_app (codes "hooktool")) {
  top =
      record (new_shape (codes "hooktool"))
      { subcommand_required = true; arg_required_else_help = true };
}
