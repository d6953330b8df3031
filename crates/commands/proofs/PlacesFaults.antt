-- Two lists of rules that differ only where a parse doesn't look fail with the same kinds of error.
use Rattle.std.proofs.Common.{◌≡◌, ◌∙◌, ap, ap₂, refl, ℕ, zero, suc, List, [], ◌∷◌, Option, Some}
use Rattle.std.proofs.Common.{None, length, is_some}
use Rattle.std.specs.Prelude.{◌&&◌, Bool, not, if◌then◌else◌, drop, encode_utf8, slice_get}
use Rattle.std.specs.List.{list_any}
use Rattle.std.specs.Option.{option_map_or}
use Rattle.std.specs.Str.{bytes_eq, chars}
use Rattle.clap.specs.Facts.{explicit_source}
use Rattle.clap.specs.Faults.{bundle_fault, bundle_step_fault, check_fault, defaults_fault}
use Rattle.clap.specs.Faults.{flag_word_fault, flags_fault, level_fault, long_fault, option_fault}
use Rattle.clap.specs.Faults.{other_fault, positional_fault, react_fault, settle_fault, short_fault}
use Rattle.clap.specs.Faults.{step_fault, stray_fault, turn_fault, use_fault, walk_fault}
use Rattle.clap.specs.Faults.{word_fault}
use Rattle.clap.specs.Kinds.{Kinds, check_kinds, or_else}
use Rattle.clap.specs.Lexer.{long_of, short_of}
use Rattle.clap.specs.Simple.{Shape}
use Rattle.clap.specs.Takes.{is_given}
use Rattle.clap.specs.Walk.{Held, Names, Row, Rule, Step, Text, Waiting, Walk, arg_by_index}
use Rattle.clap.specs.Walk.{arg_by_long, arg_by_short, attached_value, finished}
use Rattle.clap.specs.Walk.{next, trailing, subcommand, value, reacted, settled, settled_rows}
use Rattle.clap.specs.Walk.{subcommand_met, takes_values, walk, walk_from, walked, word_met}
use Rattle.clap.specs.declared.error.kind.ErrorKind.TheVariants as kind
use Rattle.commands.proofs.Places.{SameRows, finished_same, reacted_same, walk_same}
use Rattle.commands.proofs.Places.{walked_same, word_same}

-- all that the search for faults reads of the rules
pub record SameFaults (rules other : List Rule) : Type 0 where
  pub rows : SameRows rules other
  pub settle : (again : Bool) (held : Held)
      → settle_fault rules again held ≡ settle_fault other again held
  pub place : (again : Bool) (position : ℕ) (held : Held) (stray : Kinds)
      → option_map_or (λ rule. positional_fault rules again rule held) (arg_by_index rules position)
      stray
      ≡ option_map_or (λ rule. positional_fault other again rule held) (arg_by_index other position)
      stray
  pub defaults : (rows : List Row) → defaults_fault rows rules ≡ defaults_fault rows other
  pub required : (rows : List Row) → list_any (λ rule. rule.required && not (is_given rule.id rows))
      rules ≡ list_any (λ rule. rule.required && not (is_given rule.id rows)) other

react_same : (rules other : List Rule) → SameFaults rules other
    → (again : Bool) (rule : Rule) (values : List Text) (held : Held)
    → react_fault rules again rule values held ≡ react_fault other again rule values held
react_same rules other same again rule values held =
    ap₂ (λ (kinds : Kinds) (rows : List Row). or_else kinds (use_fault again rule values rows))
    (same.settle again held) (same.rows.rows held.pending held.rows)

option_same : (rules other : List Rule) → SameFaults rules other
    → (again : Bool) (rule : Rule) (v : Option Text) (held : Held)
    → option_fault rules again rule v held ≡ option_fault other again rule v held
option_same rules other same again rule (Some v) held =
    react_same rules other same again rule (v ∷ []) held
option_same rules other same again rule None held = same.settle again held

long_same : (rules other : List Rule) → SameFaults rules other
    → (again : Bool) (o : Option Rule) (v : Option Text) (held : Held)
    → long_fault rules again o v held ≡ long_fault other again o v held
long_same rules other same again None v held = refl
long_same rules other same again (Some rule) v held =
    ap₂ (λ (x y : Kinds). if takes_values rule then x else
    (if is_some v then kind.TooManyValues ∷ [] else y))
    (option_same rules other same again rule v held)
    (react_same rules other same again rule [] held)

short_same : (rules other : List Rule) → SameFaults rules other
    → (again : Bool) (o : Option Rule) (rest : Text) (held : Held) (f g : Held → Kinds)
    → ((k : Held) → f k ≡ g k) → short_fault rules again o rest held f
    ≡ short_fault other again o rest held g
short_same rules other same again None rest held f g e = refl
short_same rules other same again (Some rule) rest held f g e =
    ap₂ (λ (x y : Kinds). if takes_values rule then x else y)
    (option_same rules other same again rule (attached_value rest) held)
    (ap₂ or_else (react_same rules other same again rule [] held)
    (e (reacted rules rule [] held) ∙ ap g (reacted_same rules other same.rows rule [] held)))

step_same : (rules other : List Rule) → SameFaults rules other
    → (again : Bool) (o : Option ℕ) (flags : Text) (skip : ℕ) (held : Held)
    (f g : Text → ℕ → Held → Kinds) → ((t : Text) (n : ℕ) (k : Held) → f t n k ≡ g t n k)
    → bundle_step_fault rules again o flags skip held f
    ≡ bundle_step_fault other again o flags skip held g
step_same rules other same again None flags skip held f g e = refl
step_same rules other same again (Some x) flags zero held f g e =
    let rest : Text = drop (length (encode_utf8 x)) flags in
    ap (λ (o : Option Rule). short_fault rules again o rest held (f rest 0)) (same.rows.short x)
    ∙ short_same rules other same again (arg_by_short other x) rest held (f rest 0) (g rest 0)
    (e rest 0)
step_same rules other same again (Some x) flags (suc skip) held f g e =
    e (drop (length (encode_utf8 x)) flags) skip held

flags_same : (rules other : List Rule) → SameFaults rules other
    → (again : Bool) (k : ℕ) (flags : Text) (skip : ℕ) (held : Held)
    → flags_fault rules again k flags skip held ≡ flags_fault other again k flags skip held
unfolding flags_fault
flags_same rules other same again zero flags skip held = refl
flags_same rules other same again (suc k) flags skip held =
    step_same rules other same again (slice_get (chars flags) 0) flags skip held
    (flags_fault rules again k) (flags_fault other again k)
    (flags_same rules other same again k)

bundle_same : (rules other : List Rule) → SameFaults rules other
    → (again : Bool) (flags : Option Text) (held : Held)
    → option_map_or (λ flags. bundle_fault rules again flags held) flags []
    ≡ option_map_or (λ flags. bundle_fault other again flags held) flags []
bundle_same rules other same again None held = refl
bundle_same rules other same again (Some flags) held =
    flags_same rules other same again (length flags) flags held.skip (record held { skip = 0 })

flag_word_same : (rules other : List Rule) → SameFaults rules other
    → (again : Bool) (p : Option (Text × Option Text)) (word : Text) (held : Held)
    → flag_word_fault rules again p word held ≡ flag_word_fault other again p word held
flag_word_same rules other same again (Some p) word held =
    ap (λ (o : Option Rule). long_fault rules again o p.1 held) (same.rows.long p.0)
    ∙ long_same rules other same again (arg_by_long other p.0) p.1 held
flag_word_same rules other same again None word held =
    bundle_same rules other same again (short_of word) held

-- a command with other rules
abbrev pub by_rules : Shape → List Rule → Shape
by_rules s rules = record s { rules = rules }

other_same : (s : Shape) (rules other : List Rule) → SameFaults rules other
    → (name : Option Text) (word : Text) (held : Held)
    → other_fault (by_rules s rules) name word held
    ≡ other_fault (by_rules s other) name word held
other_same s rules other same (Some name) word held = refl
other_same s rules other same None word held =
    ap (λ (x : Kinds). if bytes_eq word (45 ∷ 45 ∷ []) then [] else x)
    (flag_word_same rules other same s.args_override_self (long_of word) word held)

word_fault_same : (s : Shape) (rules other : List Rule) → SameFaults rules other
    → (names : Names) (is_trailing : Bool) (waiting : Waiting) (word : Text) (held : Held)
    → word_fault (by_rules s rules) names is_trailing waiting word held
    ≡ word_fault (by_rules s other) names is_trailing waiting word held
word_fault_same s rules other same names is_trailing waiting word held =
    ap (λ (x : Kinds). if is_trailing then [] else x)
    (other_same s rules other same (subcommand_met names waiting word) word held)

place_same : (s : Shape) (rules other : List Rule) → SameFaults rules other
    → (position : ℕ) (held : Held) (step : Step)
    → step_fault (by_rules s rules) position held step
    ≡ step_fault (by_rules s other) position held step
place_same s rules other same position held (next waiting) = refl
place_same s rules other same position held (trailing at) = refl
place_same s rules other same position held (subcommand name) = refl
place_same s rules other same position held value =
    same.place s.args_override_self position held (stray_fault s)

turn_same : (s : Shape) (rules other : List Rule) → SameFaults rules other
    → (names : Names) (w : Walk) (word : Text)
    → turn_fault (by_rules s rules) names w word ≡ turn_fault (by_rules s other) names w word
turn_same s rules other same names w word =
    let met : Held × Step = word_met other names w.is_trailing w.waiting w.position word w.held in
    ap₂ (λ (x y : Kinds). if is_some w.stopped then [] else or_else x y)
    (word_fault_same s rules other same names w.is_trailing w.waiting word w.held)
    (ap (λ (m : Held × Step). step_fault (by_rules s rules) w.position m.0 m.1)
    (word_same rules other same.rows names w.is_trailing w.waiting w.position word w.held)
    ∙ place_same s rules other same w.position met.0 met.1)

walk_fault_same : (s : Shape) (rules other : List Rule) → SameFaults rules other
    → (names : Names) (w : Walk) (words : List Text)
    → walk_fault (by_rules s rules) names w words ≡ walk_fault (by_rules s other) names w words
unfolding walk_fault
walk_fault_same s rules other same names w [] = refl
walk_fault_same s rules other same names w (word ∷ rest) =
    ap₂ or_else (turn_same s rules other same names w word) (
    ap (λ (v : Walk). walk_fault (by_rules s rules) names v rest)
    (walked_same rules other same.rows names w word)
    ∙ walk_fault_same s rules other same names (walked other names w word) rest
    )

check_same : (s : Shape) (rules other : List Rule) → SameFaults rules other
    → (rows : List Row) (has_subcommand : Bool)
    → check_fault (by_rules s rules) rows has_subcommand
    ≡ check_fault (by_rules s other) rows has_subcommand
check_same s rules other same rows has_subcommand = ap (λ (lacks : Bool). check_kinds
    (not has_subcommand && (s.arg_required_else_help && not
    (list_any (λ r. explicit_source r.source) rows)))
    (not has_subcommand && s.subcommand_required)
    (not (s.subcommand_negates_reqs && has_subcommand) && lacks)) (same.required rows)

-- what is wrong at the end of a parse
abbrev end_fault : Shape → Held → Bool → Kinds
end_fault s held has_subcommand = or_else (settle_fault s.rules s.args_override_self held)
    (or_else (defaults_fault (settled s.rules held).rows s.rules)
    (check_fault s (finished s.rules held) has_subcommand))

end_same : (s : Shape) (rules other : List Rule) → SameFaults rules other
    → (held : Held) (has_subcommand : Bool)
    → end_fault (by_rules s rules) held has_subcommand
    ≡ end_fault (by_rules s other) held has_subcommand
end_same s rules other same held has_subcommand =
    ap₂ or_else (same.settle s.args_override_self held) (ap₂ or_else
    (ap (λ (rows : List Row). defaults_fault rows rules) (same.rows.rows held.pending held.rows)
    ∙ same.defaults (settled_rows other held.pending held.rows))
    (ap (λ (rows : List Row). check_fault (by_rules s rules) rows has_subcommand)
    (finished_same rules other same.rows held)
    ∙ check_same s rules other same (finished other held) has_subcommand))

pub level_same : (s : Shape) (rules other : List Rule) → SameFaults rules other
    → (names : Names) (held : Held) (words : List Text) (has_subcommand : Bool) (below : Kinds)
    → level_fault (by_rules s rules) names held words has_subcommand below
    ≡ level_fault (by_rules s other) names held words has_subcommand below
level_same s rules other same names held words has_subcommand below =
    ap₂ or_else (walk_fault_same s rules other same names (walk_from held) words)
    (ap (or_else below)
    (ap (λ (w : Walk). end_fault (by_rules s rules) w.held has_subcommand)
    (walk_same rules other same.rows names held words)
    ∙ end_same s rules other same (walk other names held words).held has_subcommand))
