-- The command line: its commands, and the words that each requires.
use Rattle.std.specs.Prelude.{◌≡◌, ℕ, true, false, List, [], ◌∷◌, Some, codes, pos}
use Rattle.std.specs.Borrow.{Bor}
use Rattle.clap.specs.Simple.{App, Shape, new_rule, new_shape}
use Rattle.clap.specs.Walk.{Rule, Text}
use Rattle.clap.specs.declared.builder.value_parser.ValueParser.{ValueParser}
use Rattle.clap.specs.declared.builder.value_parser.ValueParser.TheVariants as parsers
use Rattle.isa.specs.Hooks.{hook_name}
use Rattle.isa.specs.declared.hook.Hook.TheVariants as hook

-- a required word
abbrev pub required_word : Text → Rule
required_word id = record (new_rule id) { value_names = 1; required = true }

-- that this parser has to accept
abbrev pub checked_word : Text → ValueParser → Rule
checked_word id parser = record (required_word id) { parser = Some parser }

abbrev pub command : Text → List Rule → Shape
command name rules = record (new_shape name) { rules = rules }

-- the names of the hooks, wherever they are in memory
abbrev pub hook_names : ℕ × ℕ → ℕ × ℕ → ℕ × ℕ → ℕ × ℕ → List (Bor Text)
hook_names a b c d =
    record { ref_ptr = a; now = hook_name hook.Count }
    ∷ record { ref_ptr = b; now = hook_name hook.Tag }
    ∷ record { ref_ptr = c; now = hook_name hook.Price }
    ∷ record { ref_ptr = d; now = hook_name hook.Veto } ∷ []

-- raw HOOK FILE SEATS
abbrev pub raw : Bor (List (Bor Text)) → Shape
raw hooks = command (codes "raw")
    (checked_word (codes "HOOK") (parsers.Names hooks) ∷ required_word (codes "FILE")
    ∷ checked_word (codes "SEATS") (parsers.Signed (pos 1) (pos 64)) ∷ [])

-- run OBJECT CONTEXT PACKET
abbrev pub run : Shape
run =
    command (codes "run")
    (required_word (codes "OBJECT") ∷ required_word (codes "CONTEXT")
    ∷ required_word (codes "PACKET") ∷ [])

-- asm SOURCE OBJECT
abbrev pub asm : Shape
asm = command (codes "asm") (required_word (codes "SOURCE") ∷ required_word (codes "OBJECT") ∷ [])

-- list OBJECT
abbrev pub list : Shape
list = command (codes "list") (required_word (codes "OBJECT") ∷ [])

-- verify OBJECT
abbrev pub verify : Shape
verify = command (codes "verify") (required_word (codes "OBJECT") ∷ [])

-- route CONFIG
abbrev pub route : Shape
route = command (codes "route") (required_word (codes "CONFIG") ∷ [])

-- One of these commands has to be named; without any word, help is shown.
abbrev pub line_with : Bor (List (Bor Text)) → App
line_with hooks = record {
  top =
      record (new_shape (codes "routerd"))
      { is_leaf = false; subcommand_required = true; arg_required_else_help = true };
  subs = raw hooks ∷ run ∷ asm ∷ list ∷ verify ∷ route ∷ [];
}

-- the command line, wherever the names of the hooks are in memory
abbrev pub IsCommandLine : App → Type 0
IsCommandLine line =
    (hooks : Bor (List (Bor Text))) × (a b c d : ℕ × ℕ) × (hooks.now ≡ hook_names a b c d)
    × (line ≡ line_with hooks)
