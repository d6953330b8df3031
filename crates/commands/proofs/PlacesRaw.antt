-- The rules of `raw` with two parsers of the hook that take and refuse the same texts: a parse
-- reads them alike.
use Rattle.std.proofs.Common.{◌≡◌, ◌∙◌, ap, ap₂, refl, ℕ, Bool, true, false, List, [], ◌∷◌, Option}
use Rattle.std.proofs.Common.{Some, None, codes, length}
use Rattle.std.specs.Prelude.{◌==◌, ◌&&◌, ◌||◌, if◌then◌else◌, pos}
use Rattle.std.specs.Option.{option_map_or}
use Rattle.std.specs.Str.{bytes_eq}
use Rattle.clap.proofs.OnLiterals.{clap_on_literals}
use Rattle.clap.specs.Faults.{positional_fault, repeat_fault, use_fault}
use Rattle.clap.specs.Kinds.{Kinds, or_else, range_kinds, values_kinds}
use Rattle.clap.specs.Simple.{filled, help_rule, with_index}
use Rattle.clap.specs.ValueTests.{accepts}
use Rattle.clap.specs.Values.{reading_of, refused_kind}
use Rattle.clap.specs.Walk.{Held, Row, Rule, Text, Walk, arg_by_id, arg_by_index, is_multiple}
use Rattle.clap.specs.Walk.{is_pending, next_position, option_word, positional, idle, pushed}
use Rattle.clap.specs.Walk.{settled_rows}
use Rattle.clap.specs.Walk.{takes_several, to_positional, used, used_as, used_by_id}
use Rattle.clap.specs.Walk.{values_or_missing}
use Rattle.clap.specs.declared.builder.action.ArgAction.TheVariants.{Set}
use Rattle.clap.specs.declared.builder.value_parser.Reading.{Reading}
use Rattle.clap.specs.declared.builder.value_parser.ValueParser.{ValueParser}
use Rattle.clap.specs.declared.builder.value_parser.ValueParser.TheVariants.{Signed}
use Rattle.clap.specs.declared.error.kind.ErrorKind.{ErrorKind}
use Rattle.commands.proofs.Places.{SameRows}
use Rattle.commands.proofs.PlacesFaults.{SameFaults}
use Rattle.commands.specs.CommandLine.{checked_word, required_word}

-- the parsers take the same texts, and read and refuse them alike
pub record SameParser (p q : ValueParser) : Type 0 where
  pub reading : reading_of p ≡ reading_of q
  pub taken : (text : Text) → accepts false p text ≡ accepts false q text
  pub refused : refused_kind p ≡ refused_kind q

abbrev hook_by : ValueParser → Rule
hook_by p = with_index 1 (filled (checked_word (codes "HOOK") p))

abbrev others : List Rule
others = with_index 2 (filled (required_word (codes "FILE")))
    ∷ with_index 3 (filled (checked_word (codes "SEATS") (Signed (pos 1) (pos 64))))
    ∷ filled help_rule ∷ []

-- the rules of `raw` as it is built
abbrev pub rules_by : ValueParser → List Rule
rules_by p = hook_by p ∷ others

hook_used : (p q : ValueParser) → SameParser p q → (values : List Text) (rows : List Row)
    → used (hook_by p) values rows ≡ used (hook_by q) values rows
hook_used p q same values rows =
    ap (λ (how : Reading). used_as Set (codes "HOOK") how (values_or_missing (hook_by p) values)
    rows) same.reading

settled_same : (p q : ValueParser) → SameParser p q
    → (pending : Option (Text × List Text)) (rows : List Row)
    → settled_rows (rules_by p) pending rows ≡ settled_rows (rules_by q) pending rows
settled_same p q same None rows = refl
settled_same p q same (Some x) rows = go (bytes_eq (codes "HOOK") x.0) (arg_by_id others x.0)
  where
    go : (b : Bool) (o : Option Rule)
        → used_by_id (if b then Some (hook_by p) else o) x.1 rows
        ≡ used_by_id (if b then Some (hook_by q) else o) x.1 rows
    go true o = hook_used p q same x.1 rows
    go false o = refl

word_same : (p q : ValueParser) (id word : Text) (h : Held)
    → option_word (arg_by_id (rules_by p) id) id word h
    ≡ option_word (arg_by_id (rules_by q) id) id word h
word_same p q id word h = go (bytes_eq (codes "HOOK") id) (arg_by_id others id)
  where
    go : (b : Bool) (o : Option Rule)
        → option_word (if b then Some (hook_by p) else o) id word h
        ≡ option_word (if b then Some (hook_by q) else o) id word h
    go true o = refl
    go false o = refl

taken_same : (p q : ValueParser) → SameParser p q
    → (o : Option Rule) (word : Text) (w : Walk) (h : Held)
    → to_positional (rules_by p) o word w h ≡ to_positional (rules_by q) o word w h
taken_same p q same None word w h = refl
taken_same p q same (Some a) word w h = ap (λ (rows : List Row). record {
  held = pushed a.id word (if is_pending a h.pending && takes_several a then h else record h {
    rows = rows;
    pending = None;
  });
  waiting = if is_multiple a then positional else idle;
  position = next_position a w.position;
  is_trailing = w.is_trailing || a.trailing_var_arg;
  stopped = None;
}) (settled_same p q same h.pending h.rows)

place_same : (p q : ValueParser) → SameParser p q → (word : Text) (w : Walk) (h : Held)
    → to_positional (rules_by p) (arg_by_index (rules_by p) w.position) word w h
    ≡ to_positional (rules_by q) (arg_by_index (rules_by q) w.position) word w h
place_same p q same word w h = go (1 == w.position) (arg_by_index others w.position)
    ∙ taken_same p q same (arg_by_index (rules_by q) w.position) word w h
  where
    go : (b : Bool) (o : Option Rule)
        → to_positional (rules_by p) (if b then Some (hook_by p) else o) word w h
        ≡ to_positional (rules_by p) (if b then Some (hook_by q) else o) word w h
    go true o = refl
    go false o = refl

same_rows : (p q : ValueParser) → SameParser p q → SameRows (rules_by p) (rules_by q)
same_rows p q same = record {
  rows = settled_same p q same;
  long = λ name. refl;
  short = λ x. refl;
  word = word_same p q;
  place = place_same p q same;
  defaults = λ rows. refl;
}

values_same : (p q : ValueParser) → SameParser p q → (values : List Text)
    → values_kinds false p values ≡ values_kinds false q values
values_same p q same [] = refl
values_same p q same (v ∷ vs) = ap₂ or_else
    (ap₂ (λ (b : Bool) (k : ErrorKind). if b then [] else k ∷ []) (same.taken v) same.refused)
    (values_same p q same vs)

hook_fault : (p q : ValueParser) → SameParser p q
    → (again : Bool) (values : List Text) (rows : List Row)
    → use_fault again (hook_by p) values rows ≡ use_fault again (hook_by q) values rows
hook_fault p q same again values rows =
    ap (λ (kinds : Kinds). or_else (range_kinds 1 1 (length values))
    (or_else (repeat_fault again (codes "HOOK") rows) kinds))
    (values_same p q same (values_or_missing (hook_by p) values))

abbrev settle_of : List Rule → Bool → Option (Text × List Text) → List Row → Kinds
settle_of c again pending rows = option_map_or
    (λ x. option_map_or (λ a. use_fault again a x.1 rows) (arg_by_id c x.0) []) pending []

settle_same : (p q : ValueParser) → SameParser p q
    → (again : Bool) (pending : Option (Text × List Text)) (rows : List Row)
    → settle_of (rules_by p) again pending rows ≡ settle_of (rules_by q) again pending rows
settle_same p q same again None rows = refl
settle_same p q same again (Some x) rows = go (bytes_eq (codes "HOOK") x.0) (arg_by_id others x.0)
  where
    go : (b : Bool) (o : Option Rule)
        → option_map_or (λ a. use_fault again a x.1 rows) (if b then Some (hook_by p) else o) []
        ≡ option_map_or (λ a. use_fault again a x.1 rows) (if b then Some (hook_by q) else o) []
    go true o = hook_fault p q same again x.1 rows
    go false o = refl

abbrev place_of : List Rule → Bool → Held → Option Rule → Kinds → Kinds
place_of c again h o stray = option_map_or (λ a. positional_fault c again a h) o stray

taken_fault : (p q : ValueParser) → SameParser p q
    → (again : Bool) (h : Held) (o : Option Rule) (stray : Kinds)
    → place_of (rules_by p) again h o stray ≡ place_of (rules_by q) again h o stray
taken_fault p q same again h None stray = refl
taken_fault p q same again h (Some a) stray =
    ap (λ (kinds : Kinds). if is_pending a h.pending && takes_several a then [] else kinds)
    (settle_same p q same again h.pending h.rows)

place_fault : (p q : ValueParser) → SameParser p q
    → (again : Bool) (position : ℕ) (h : Held) (stray : Kinds)
    → place_of (rules_by p) again h (arg_by_index (rules_by p) position) stray
    ≡ place_of (rules_by q) again h (arg_by_index (rules_by q) position) stray
place_fault p q same again position h stray = go (1 == position) (arg_by_index others position)
    ∙ taken_fault p q same again h (arg_by_index (rules_by q) position) stray
  where
    go : (b : Bool) (o : Option Rule)
        → place_of (rules_by p) again h (if b then Some (hook_by p) else o) stray
        ≡ place_of (rules_by p) again h (if b then Some (hook_by q) else o) stray
    go true o = refl
    go false o = refl

pub same_faults : (p q : ValueParser) → SameParser p q → SameFaults (rules_by p) (rules_by q)
unfolding clap_on_literals
same_faults p q same = record {
  rows = same_rows p q same;
  settle = λ again h. settle_same p q same again h.pending h.rows;
  place = place_fault p q same;
  defaults = λ rows. refl;
  required = λ rows. refl;
}
