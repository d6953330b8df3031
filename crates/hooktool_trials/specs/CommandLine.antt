-- The command line: its commands, and the words that each has to have and may have.
use Rattle.std.specs.Prelude.{true, false, List, [], ◌∷◌, ◌++◌, Some, codes}
use Rattle.clap.specs.Simple.{App, Shape, new_rule, new_shape}
use Rattle.clap.specs.Walk.{Rule, Text}
use Rattle.clap.specs.declared.builder.action.ArgAction.TheVariants.{Append}

-- a word that has to be there
abbrev pub required_word : Text → Rule
required_word id = record (new_rule id) { value_names = 1; required = true }

-- one that stands behind its name, with two hyphens, if it is there
abbrev pub option : Text → Rule
option id = record (new_rule id) { long = Some id; value_names = 1 }

-- and may be there several times
abbrev pub repeated_option : Text → Rule
repeated_option id = record (option id) { action = Some Append }

abbrev pub command : Text → List Rule → Shape
command name rules = record (new_shape name) { rules = rules }

-- annotate HOOK CODE OBJECT [--fuel N] [--fuel-answer N]
abbrev pub annotate : Shape
annotate =
    command (codes "annotate")
    (required_word (codes "HOOK") ∷ required_word (codes "CODE") ∷ required_word (codes "OBJECT")
    ∷ option (codes "fuel") ∷ option (codes "fuel-answer") ∷ [])

-- build FILE FOLDER [--hook HOOK] [--fuel N] [--fuel-answer N]
abbrev pub build : Shape
build =
    command (codes "build")
    (required_word (codes "FILE") ∷ required_word (codes "FOLDER") ∷ option (codes "hook")
    ∷ option (codes "fuel") ∷ option (codes "fuel-answer") ∷ [])

-- explain OBJECT
abbrev pub explain : Shape
explain = command (codes "explain") (required_word (codes "OBJECT") ∷ [])

-- a destination and a route
abbrev pub route_options : List Rule
route_options =
    option (codes "prefix") ∷ option (codes "metric") ∷ option (codes "tag") ∷ option (codes "type")
    ∷ option (codes "cost") ∷ option (codes "distance") ∷ option (codes "kind") ∷ []

-- when and on what a program is run, on which counters and cells, and how many times
abbrev pub other_options : List Rule
other_options =
    option (codes "moment") ∷ option (codes "interface") ∷ option (codes "next-hops")
    ∷ option (codes "packet") ∷ repeated_option (codes "row") ∷ repeated_option (codes "counter")
    ∷ repeated_option (codes "cell") ∷ option (codes "times") ∷ []

-- try OBJECT, and the question
abbrev pub try : Shape
try =
    command (codes "try") (required_word (codes "OBJECT") ∷ route_options ++ other_options)

-- test FILE
abbrev pub test : Shape
test = command (codes "test") (required_word (codes "FILE") ∷ [])

-- A line of a test: ask, and the question.
abbrev pub ask : App
ask = record { top = command (codes "ask") (route_options ++ other_options); subs = [] }

-- One of these commands has to be named, and without any word the answer is help.
abbrev pub line : App
line = record {
  top =
      record (new_shape (codes "hooktool"))
      { is_leaf = false; subcommand_required = true; arg_required_else_help = true };
  subs = annotate ∷ build ∷ explain ∷ try ∷ test ∷ [];
}
