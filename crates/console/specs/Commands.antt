-- The lines of the console: how each command is written.
use Rattle.std.specs.Prelude.{◌≡◌, ◌≢◌, ◌<◌, ◌^◌, List, ℕ, [], ◌∷◌, codes, decimal}
use Rattle.isa.specs.Hooks.{hook_name}
use Rattle.words.specs.Constants.{ls_infinity}
use Rattle.words.specs.Prefixes.{IsNetwork}
use Rattle.words.specs.Text.{prefix_text}
use Rattle.words.specs.declared.route.External.{External}
use Rattle.words.specs.declared.route.ExternalType.{ExternalType}
use Rattle.words.specs.declared.route.ExternalType.TheVariants.{Type1, Type2}
use Rattle.console.specs.declared.command.Command.{Command}
use Rattle.console.specs.declared.command.Command.TheVariants as commands
use Rattle.console.specs.Words.{Word, words_in}

-- the type of an external metric (RFC 2328, section 2.3)
abbrev pub type_word : ExternalType → Word
type_word Type1 = codes "1"
type_word Type2 = codes "2"

-- the words of each command
abbrev pub command_words : Command → List Word
command_words (commands.Attach path) = codes "attach" ∷ path.now ∷ []
command_words (commands.Detach hook) = codes "detach" ∷ hook_name hook ∷ []
command_words (commands.Add external) =
    codes "add" ∷ prefix_text external.prefix ∷ decimal external.metric ∷ type_word external.kind
    ∷ decimal external.tag ∷ []
command_words (commands.Withdraw prefix) = codes "withdraw" ∷ prefix_text prefix ∷ []
command_words commands.Table = codes "table" ∷ []
command_words commands.Neighbors = codes "neighbors" ∷ []
command_words commands.Counters = codes "counters" ∷ []
command_words commands.Quit = codes "quit" ∷ []

-- a destination that a router may announce: its host bits are 0, and its metric is below LSInfinity
pub record IsDestination (external : External) : Type 0 where
  pub network : IsNetwork external.prefix
  pub metric : external.metric < ls_infinity
  pub tag : external.tag < 2 ^ 32

-- the arguments of each command are valid: a path isn't empty, and host bits are 0
abbrev pub IsMeant : Command → Type 0
IsMeant (commands.Attach path) = path.now ≢ []
IsMeant (commands.Add external) = IsDestination external
IsMeant (commands.Withdraw prefix) = IsNetwork prefix
IsMeant other = Unit {0}

-- the words spell the command
pub record Asks (words : List Word) (command : Command) : Type 0 where
  pub written : words ≡ command_words command
  pub meant : IsMeant command

-- the line spells the command
abbrev pub LineAsks : List ℕ → Command → Type 0
LineAsks line command = Asks (words_in line) command
