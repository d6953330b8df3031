-- How commands are built, word by word.
use Rattle.std.proofs.Common.{◌≡◌, ◌∙◌, ◌||◌, ◌+◌, ◌<◌, ◌≤◌, ap, ap₂, refl, sym, false, ℕ}
use Rattle.std.proofs.Common.{List, [], ◌∷◌, ◌++◌, Err, Ok, get_or, length, take}
use Rattle.std.proofs.lemmas.List.{take_all, take_more}
use Rattle.std.specs.Borrow.{Bor}
use Rattle.std.specs.Prelude.{IfOk, Result}
use Rattle.clap.specs.Built.{AddsArg, AddsSubcommand}
use Rattle.clap.specs.Simple.{App, app_of, new_app, with_rule, with_subcommand}
use Rattle.clap.specs.Walk.{Text, rule_of}
use Rattle.clap.specs.declared.builder.arg.Arg.{Arg}
use Rattle.clap.specs.declared.builder.command.Command.{Command}
use Rattle.hooktool_trials.specs.Building.{IsLeaf, IsLocal, rule_for, shape_for, with_forms}
use Rattle.hooktool_trials.specs.Building.{with_words}
use Rattle.hooktool_trials.specs.declared.arguments.Form.{Form}
use Rattle.hooktool_trials.specs.declared.arguments.Word.{Word}

-- ---- a command with words

word_more : (words : List Word) (word : Word) (app : App)
    → with_words app (words ++ word ∷ []) ≡ with_rule (with_words app words) (rule_for word)
word_more [] word app = refl
word_more (first ∷ words) word app = word_more words word (with_rule app (rule_for first))

-- a command of this name that has these words, without commands of its own
pub record HasWords (name : Text) (words : List Word) (c : Command) : Type 0 where
  pub app : app_of c ≡ with_words (new_app name) words
  pub local : IsLocal c

-- an argument that isn't global was added
pub one_more : (name : Text) (between : Command) (arg : Arg) (after : Command) (words : List Word)
    (i : ℕ) (d : Word) → i < length words → arg.global ≡ false
    → rule_of arg ≡ rule_for (get_or words i d) → HasWords name (take i words) between
    → AddsArg between arg after → HasWords name (take (i + 1) words) after
one_more name between arg after words i d lt local is so_far adds = record {
  app = adds.shape local ∙ ap₂ with_rule so_far.app is
      ∙ sym (word_more (take i words) (get_or words i d) (new_app name))
      ∙ ap (λ (ws : List Word). with_words (new_app name) ws) (sym (take_more words i d lt));
  local = adds.globals ∙ ap₂ ◌||◌ so_far.local local;
}

-- a command with all of its words
pub leaf : (form : Form) (c : Command) (i : ℕ) → length form.words.now ≤ i
    → HasWords form.name.now (take i form.words.now) c → IsLeaf form c
leaf form c i le has = record {
  app = has.app ∙ ap (λ (ws : List Word). with_words (new_app form.name.now) ws)
      (take_all i form.words.now le);
  local = has.local;
}

-- ---- a command line with commands

form_more : (forms : List (Bor Form)) (form : Bor Form) (app : App)
    → with_forms app (forms ++ form ∷ []) ≡ with_subcommand (with_forms app forms)
    (shape_for form.now)
form_more [] form app = refl
form_more (first ∷ forms) form app =
    form_more forms form (with_subcommand app (shape_for first.now))

-- a command is added, if memory allows
pub each_added : {E : Type 0} (between command : Command) (form : Form) → IsLeaf form command
    → (r : Result Command E) → IfOk r (AddsSubcommand between command)
    → IfOk r (λ (c : Command). app_of c ≡ with_subcommand (app_of between) (shape_for form))
each_added {E} between command form leaf (Ok after) adds =
    adds.shape leaf.local ∙ ap (λ (a : App). with_subcommand (app_of between) a.top) leaf.app
each_added {E} between command form leaf (Err e) adds = tt

-- a command was added
pub command_more : (app : App) (between after : Command) (forms : List (Bor Form)) (i : ℕ)
    (d : Bor Form) → i < length forms → app_of between ≡ with_forms app (take i forms)
    → app_of after ≡ with_subcommand (app_of between) (shape_for (get_or forms i d).now)
    → app_of after ≡ with_forms app (take (i + 1) forms)
command_more app between after forms i d lt so_far adds =
    adds ∙ ap (λ (a : App). with_subcommand a (shape_for (get_or forms i d).now)) so_far
    ∙ sym (form_more (take i forms) (get_or forms i d) app)
    ∙ ap (λ (fs : List (Bor Form)). with_forms app fs) (sym (take_more forms i d lt))

-- the line with the commands of all forms
pub line_with : (app : App) (c : Command) (forms : List (Bor Form)) (i : ℕ) → length forms ≤ i
    → app_of c ≡ with_forms app (take i forms) → app_of c ≡ with_forms app forms
line_with app c forms i le is =
    is ∙ ap (λ (fs : List (Bor Form)). with_forms app fs) (take_all i forms le)
