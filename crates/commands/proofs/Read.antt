-- What is read from words.
use Rattle.std.proofs.Common.{◌≡◌, ◌∙◌, ap, refl, sym, subst, List, [], Option, Some, None, Ok, Err}
use Rattle.std.proofs.Common.{MatchResult, inl, inr, true}
use Rattle.std.specs.Prelude.{Result, IfSome, IsErrAnd, ◌⊎◌}
use Rattle.clap.specs.Faults.{fault_of, is_simple_and_free}
use Rattle.clap.specs.Kinds.{HasKind}
use Rattle.clap.specs.Simple.{App, HasMatchesOf, is_simple, subcommand_of, subcommand_rows_of}
use Rattle.clap.specs.Values.{kind_of}
use Rattle.clap.specs.Walk.{Row, Text}
use Rattle.clap.specs.declared.error.Error.{Error}
use Rattle.clap.specs.declared.error.kind.ErrorKind.TheVariants as kinds
use Rattle.clap.specs.declared.parser.matches.ArgMatches.{ArgMatches}
use Rattle.commands.specs.CommandLine.{IsCommandLine, hook_names, line_with}
use Rattle.commands.specs.Requests.{Asks, IsRefusal, IsWrongWord, Makes}
use Rattle.commands.specs.declared.requests.CommandRequest.{CommandRequest}
use Rattle.commands.proofs.Made.{none_makes_none}

abbrev pub Answers : App → List Text → Result CommandRequest Error → Type 0
Answers line words result = MatchResult result (Asks line words) (IsRefusal line words)

-- a command line, with the names of the hooks anywhere
abbrev pub some_line : App
some_line = line_with (record { ref_ptr = (0, 0); now = hook_names (0, 0) (0, 0) (0, 0) (0, 0) })

pub is_some_line : IsCommandLine some_line
is_some_line = (
  record {
    ref_ptr = (0, 0);
    now = hook_names (0, 0) (0, 0) (0, 0) (0, 0);
  },
  (0, 0),
  (0, 0),
  (0, 0),
  (0, 0),
  refl,
  refl,
)

-- an error of a kind that is a refusal
pub refused : (line : App) (words : List Text) (result : Result CommandRequest Error)
    (P : Error → Type 0) → IsErrAnd result P → ((e : Error) → P e → IsRefusal line words e)
    → Answers line words result
refused line words (Ok x) P is f = absurd is
refused line words (Err e) P is f = f e is

pub is_simple_line : (line : App) → IsCommandLine line → is_simple line ≡ true
is_simple_line line own = ap is_simple own.6

pub is_free_line : (line : App) → IsCommandLine line → is_simple_and_free line ≡ true
is_free_line line own = ap is_simple_and_free own.6

-- a mistake by the rules of command lines
pub mistaken : (line : App) (words : List Text) (e : Error) → HasKind (fault_of line words) e
    → IsRefusal line words e
mistaken line words e has = elim has [
  | inl memory ↦ inl memory
  | inr among ↦ inr (inl among)
]

-- the command that was entered is the subcommand of the words
pub entered : (line : App) (words : List Text) (m : ArgMatches) → IsCommandLine line
    → HasMatchesOf line words m → subcommand_rows_of m ≡ subcommand_of line words
entered line words m own has = (has (is_simple_line line own)).1

-- the request of the words of the command that was entered
pub made : (line : App) (words : List Text) (m : ArgMatches) (o : Option CommandRequest)
    (request : CommandRequest) → IsCommandLine line → HasMatchesOf line words m → o ≡ Some request
    → IfSome o (Makes (subcommand_rows_of m)) → Makes (subcommand_of line words) request
made line words m o request own has is makes =
    subst (λ (named : Option (Text × List Row)). Makes named request) (entered line words m own has)
    (rw is at makes)

-- a wrong word of the named command, or a refused allocation
pub wrong_word : (line : App) (words : List Text) (m : ArgMatches) (e : Error) → IsCommandLine line
    → HasMatchesOf line words m → fault_of line words ≡ []
    → (kind_of e ≡ kinds.OutOfMemory) ⊎ IsWrongWord (subcommand_rows_of m) e
    → IsRefusal line words e
wrong_word line words m e own has taken given = elim given [
  | inl memory ↦ inl memory
  | inr wrong ↦ inr (inr (
    taken,
    subst (λ (named : Option (Text × List Row)). IsWrongWord named e)
        (entered line words m own has) wrong,
  ))
]

-- no command is named
pub no_command : (line : App) (words : List Text) (m : ArgMatches) (e : Error) → IsCommandLine line
    → HasMatchesOf line words m → fault_of line words ≡ [] → subcommand_rows_of m ≡ None
    → kind_of e ≡ kinds.MissingSubcommand → IsRefusal line words e
no_command line words m e own has taken none kind =
    let unnamed : None ≡ subcommand_of line words = sym none ∙ entered line words m own has in
    inr (inr (
      taken,
      subst (λ (named : Option (Text × List Row)). IsWrongWord named e) unnamed
          (kind, none_makes_none),
    ))
