-- Reading finds what a line's words spell.
use Rattle.std.proofs.Common.{◌≡◌, ℕ, ◌≤◌, List, [], ◌∷◌, ◌++◌, Bool, true, false, Option, Some}
use Rattle.std.proofs.Common.{None, refl, sym, ap, ◌∙◌, arith}
use Rattle.std.specs.Prelude.{is_some, codes}
use Rattle.std.specs.Str.{bytes_eq}
use Rattle.std.proofs.lemmas.Bool.{ne_eqb}
use Rattle.std.proofs.lemmas.Bool.Decides.{nat_tests}
use Rattle.isa.specs.declared.hook.Hook.{Hook}
use Rattle.isa.specs.declared.instruction.Width.{Width}
use Rattle.isa.specs.declared.instruction.Width.TheVariants.{Bits32, Bits64}
use Rattle.isa.specs.declared.instruction.Operation.{Operation}
use Rattle.isa.specs.declared.instruction.Test.{Test}
use Rattle.isa.specs.declared.instruction.Extension.{Extension}
use Rattle.isa.specs.declared.instruction.ByteOrder.{ByteOrder}
use Rattle.isa.specs.declared.instruction.ByteOrder.TheVariants as orders
use Rattle.isa.specs.declared.instruction.SwapWidth.{SwapWidth}
use Rattle.isa.specs.declared.instruction.SwapWidth.TheVariants as swaps
use Rattle.isa.specs.declared.instruction.LoadSize.{LoadSize}
use Rattle.isa.specs.declared.instruction.StoreSize.{StoreSize}
use Rattle.asm.specs.declared.numeral.Numeral.{Numeral}
use Rattle.asm.specs.declared.line.AssemblyLine.{AssemblyLine}
use Rattle.asm.specs.declared.line.AssemblyLine.TheVariants as lines
use Rattle.asm.specs.declared.line.Operand.{Operand}
use Rattle.asm.specs.declared.line.Operand.TheVariants as operands
use Rattle.asm.specs.declared.line.LabelOrNumber.{LabelOrNumber}
use Rattle.asm.specs.declared.line.LabelOrNumber.TheVariants as targets
use Rattle.asm.specs.declared.line.Term.{Term}
use Rattle.asm.specs.declared.line.Terms.{Terms}
use Rattle.asm.specs.declared.line.Terms.TheVariants as terms
use Rattle.asm.specs.declared.line.Range.{Range}
use Rattle.asm.specs.declared.line.RegisterContent.TheVariants as contents
use Rattle.asm.specs.WordNumbers.{number_of, distance_of}
use Rattle.asm.specs.Words.{hook_word, operation_word, test_word, load_word, store_word}
use Rattle.asm.specs.Words.{reorder_word, register_word, register_table, register_of}
use Rattle.asm.specs.Words.{extension_word, Word}
use Rattle.asm.specs.Forms.{Exactly, Number, Definition, Matches, Spells, the_register}
use Rattle.asm.specs.Forms.{the_operand, the_target, the_slot, is_label, IsOperand}
use Rattle.asm.specs.Names.{is_letter, is_name}
use Rattle.asm.specs.Reading.{line_of, plain, of_width, register_at, operand_at, target_at}
use Rattle.asm.specs.Reading.{slot_at, state_of, before_colon, label_at, one, two, three}
use Rattle.asm.specs.Reading.{four, five, six, seven, eight, ten, range_of, term_of}
use Rattle.std.specs.Char.{is_ascii_digit}
use Rattle.isa.specs.declared.instruction.Extension.TheVariants as extensions
use Rattle.isa.specs.declared.instruction.LoadSize.TheVariants as loads
use Rattle.isa.specs.Shapes.{extension_width}
use Rattle.asm.proofs.NoNumber.{both}
use Rattle.asm.proofs.Tokens.{hook_again, operation_again, test_again, load_again}
use Rattle.asm.proofs.Tokens.{store_again, register_again, not_equal, not_in_table}
use Rattle.asm.proofs.Fitting.{no_words, One, one_words, Two, two_words, Three, three_words}
use Rattle.asm.proofs.Fitting.{Four, four_words, Five, five_words, Six, six_words, Seven}
use Rattle.asm.proofs.Fitting.{seven_words, Eight, eight_words, Ten, ten_words}

-- ---- registers

pub register_known : (w : Width) (r : ℕ) (a : Word) → a ≡ register_word (w, r) → r ≤ 10
    → register_of a ≡ Some (w, r)
register_known w r a e h = ap register_of e ∙ register_again w r h

same_width : (w : Width) (r : ℕ) → of_width w (w, r) ≡ Some r
same_width Bits64 r = refl
same_width Bits32 r = refl

pub register_at_known : (w : Width) (r : ℕ) (a : Word) → a ≡ register_word (w, r) → r ≤ 10
    → register_at w a ≡ Some r
register_at_known w r a e h = rw (register_known w r a e h) (same_width w r)

abbrev is_number : Word → Bool
is_number w = is_some (number_of w)

abbrev is_register : Word → Bool
is_register w = is_some (register_of w)

number_no_register : (c : Word) (n : Numeral) → number_of c ≡ Some n → register_of c ≡ None
number_no_register c n e = not_in_table is_number register_table c (ap is_some e) refl

pub operand_known : (w : Width) (o : Operand) (c : Word) → Matches (the_operand w o) c → IsOperand o
    → operand_at w c ≡ Some o
operand_known w (operands.Register r) c m h = rw (register_known w r c m h, same_width w r) refl
operand_known w (operands.Number n) c m h = rw (number_no_register c n m, m) refl

-- ---- names

letter_above : (c : ℕ) → is_letter c ≡ true → 65 ≤ c
letter_above c e = grind (arith, nat_tests)

letter_no_digit : (c : ℕ) → 65 ≤ c → is_ascii_digit c ≡ false
letter_no_digit c h = grind (arith, nat_tests)

name_no_number : (w : Word) → is_name w ≡ true → number_of w ≡ None
name_no_number [] e = refl
name_no_number (c ∷ cs) e =
    let high = letter_above c (both _ _ e).0 in
    rw (ne_eqb c 45 (λ (q : c ≡ 45). absurd (omega arith)), letter_no_digit c high) refl

name_no_distance : (w : Word) → is_name w ≡ true → distance_of w ≡ None
name_no_distance [] e = refl
name_no_distance (c ∷ cs) e =
    let high = letter_above c (both _ _ e).0 in
    rw (
      ne_eqb c 43 (λ (q : c ≡ 43). absurd (omega arith)),
      ne_eqb c 45 (λ (q : c ≡ 45). absurd (omega arith)),
    ) refl

pub target_known : (t : LabelOrNumber) (name f : Word) → Matches (the_target t name) f
    → (is_label t ≡ false → name ≡ []) → target_at f ≡ Some (t, name)
target_known (targets.Number n) name f m h = rw (m, h refl) refl
target_known targets.Label name f m h = rw (m.0, name_no_distance name m.1, m.1) refl

pub slot_known : (t : LabelOrNumber) (name f : Word) → Matches (the_slot t name) f
    → (is_label t ≡ false → name ≡ []) → slot_at f ≡ Some (t, name)
slot_known (targets.Number n) name f m h = rw (m, h refl) refl
slot_known targets.Label name f m h = rw (m.0, name_no_number name m.1, m.1) refl

colon_known : (name : Word) → before_colon (name ++ 58 ∷ []) ≡ Some name
colon_known [] = refl
colon_known (c ∷ []) = refl
colon_known (c ∷ d ∷ cs) = rw (colon_known (d ∷ cs)) refl

-- ---- from the words of a form to the line

reads : (words ws : List Word) (line : AssemblyLine) (name : Word) → words ≡ ws
    → line_of ws ≡ Some (line, name) → line_of words ≡ Some (line, name)
reads words ws line name e f = ap line_of e ∙ f

reads_plain : (words ws : List Word) (line : AssemblyLine) (name : Word) → words ≡ ws
    → line_of ws ≡ Some (plain line) → name ≡ [] → line_of words ≡ Some (line, name)
reads_plain words ws line name e f g = ap line_of e ∙ f ∙ ap (λ (n : Word). Some (line, n)) (sym g)

no_colon : (w : Word) → ((front : Word) → w ≡ front ++ 58 ∷ [] → ⊥) → before_colon w ≡ None
no_colon [] h = refl
no_colon (c ∷ []) h = rw (ne_eqb c 58 (λ e. h [] (ap (λ (d : ℕ). d ∷ []) e))) refl
no_colon (c ∷ d ∷ cs) h = rw (no_colon (d ∷ cs)
    (λ front e. h (c ∷ front) (ap (λ (r : Word). c ∷ r) e))) refl

pub label_none : (w : Word) → ((front : Word) → w ≡ front ++ 58 ∷ [] → ⊥) → None ≡ label_at w
label_none w h = rw (no_colon w h) refl

pub label_bad : (w name : Word) → w ≡ name ++ 58 ∷ [] → is_name name ≡ false → None ≡ label_at w
label_bad w name e h = rw (e, colon_known name, h) refl

pub label_good : (w name : Word) → w ≡ name ++ 58 ∷ [] → is_name name ≡ true
    → Some (lines.Label, name) ≡ label_at w
label_good w name e h = rw (e, colon_known name, h) refl

label_line : (a name : Word) → a ≡ name ++ 58 ∷ [] → is_name name ≡ true
    → one a ≡ Some (lines.Label, name)
label_line a name e h =
    let no_exit = not_equal (λ (w : Word). is_some (before_colon w)) a (codes "exit")
    (ap (λ (w : Word). is_some (before_colon w)) e ∙ ap is_some (colon_known name)) refl in
    rw (no_exit, e, colon_known name, h) refl

hook_line : (a b : Word) (h : Hook) → a ≡ codes "hook" → b ≡ hook_word h
    → two a b ≡ Some (plain (lines.Hook h))
hook_line a b h p q = rw (p, q, hook_again h) refl

number_line : (a b : Word) (n : Numeral) → a ≡ codes "rank" → number_of b ≡ Some n
    → two a b ≡ Some (plain (lines.Rank n))
number_line a b n p q = rw (p, q) refl

call_line : (a b : Word) (n : Numeral) → a ≡ codes "call" → number_of b ≡ Some n
    → two a b ≡ Some (plain (lines.Call n))
call_line a b n p q = rw (p, q) refl

jump_line : (a b : Word) (t : LabelOrNumber) (name : Word) → a ≡ codes "goto"
    → target_at b ≡ Some (t, name) → two a b ≡ Some (lines.Jump t, name)
jump_line a b t name p q = rw (p, q) refl

long_jump_line : (a b : Word) (t : LabelOrNumber) (name : Word) → a ≡ codes "gotol"
    → target_at b ≡ Some (t, name) → two a b ≡ Some (lines.LongJump t, name)
long_jump_line a b t name p q = rw (p, q) refl

arithmetic_line : (a b c : Word) (w : Width) (o : Operation) (r : ℕ) (source : Operand)
    → register_of a ≡ Some (w, r) → b ≡ operation_word o → operand_at w c ≡ Some source
    → three a b c ≡ Some (plain (lines.Arithmetic w o r source))
arithmetic_line a b c w o r source p q e = rw (p, q, operation_again o, e) refl

negate_line : (a b c : Word) (w : Width) (r : ℕ) → register_of a ≡ Some (w, r) → b ≡ codes "="
    → c ≡ codes "neg" → three a b c ≡ Some (plain (lines.Negate w r))
negate_line a b c Bits64 r p q e = rw (p, q, e) refl
negate_line a b c Bits32 r p q e = rw (p, q, e) refl

reorder_line : (a b c : Word) (o : ByteOrder) (w : SwapWidth) (r : ℕ)
    → register_of a ≡ Some (Bits64, r) → b ≡ codes "=" → c ≡ reorder_word (o, w)
    → three a b c ≡ Some (plain (lines.Reorder o w r))
reorder_line a b c orders.Little swaps.Bits16 r p q e = rw (p, q, e) refl
reorder_line a b c orders.Little swaps.Bits32 r p q e = rw (p, q, e) refl
reorder_line a b c orders.Little swaps.Bits64 r p q e = rw (p, q, e) refl
reorder_line a b c orders.Big swaps.Bits16 r p q e = rw (p, q, e) refl
reorder_line a b c orders.Big swaps.Bits32 r p q e = rw (p, q, e) refl
reorder_line a b c orders.Big swaps.Bits64 r p q e = rw (p, q, e) refl
reorder_line a b c orders.Swap swaps.Bits16 r p q e = rw (p, q, e) refl
reorder_line a b c orders.Swap swaps.Bits32 r p q e = rw (p, q, e) refl
reorder_line a b c orders.Swap swaps.Bits64 r p q e = rw (p, q, e) refl

bytes_line : (a b c : Word) (m n : Numeral) → a ≡ codes "bytes" → number_of b ≡ Some m
    → number_of c ≡ Some n → three a b c ≡ Some (plain (lines.Bytes m n))
bytes_line a b c m n p q e = rw (p, q, e) refl

wide_line : (a b c d : Word) (r : ℕ) (n : Numeral) → register_of a ≡ Some (Bits64, r)
    → b ≡ codes "=" → c ≡ codes "wide" → number_of d ≡ Some n
    → four a b c d ≡ Some (plain (lines.LoadNumber r n))
wide_line a b c d r n p q e f = rw (q, p, e, f) refl

extend_line : (a b c d : Word) (x : Extension) (r s : ℕ)
    → register_of a ≡ Some (extension_width x, r) → b ≡ codes "=" → c ≡ extension_word x
    → register_at (extension_width x) d ≡ Some s
    → four a b c d ≡ Some (plain (lines.SignExtend x r s))
extend_line a b c d (extensions.Byte Bits64) r s p q e f = rw (q, p, e, f) refl
extend_line a b c d (extensions.Byte Bits32) r s p q e f = rw (q, p, e, f) refl
extend_line a b c d (extensions.Half Bits64) r s p q e f = rw (q, p, e, f) refl
extend_line a b c d (extensions.Half Bits32) r s p q e f = rw (q, p, e, f) refl
extend_line a b c d extensions.Word r s p q e f = rw (q, p, e, f) refl

-- the word of a slot isn't `=`
slot_no_assignment : (t : LabelOrNumber) (name b : Word) → Matches (the_slot t name) b
    → bytes_eq b (codes "=") ≡ false
slot_no_assignment (targets.Number n) name b m =
    not_equal is_number b (codes "=") (ap is_some m) refl
slot_no_assignment targets.Label name b m =
    not_equal is_name b (codes "=") (ap is_name m.0 ∙ m.1) refl

state_line : (a b c d : Word) (t : LabelOrNumber) (name : Word) (n : Numeral) (found : Terms)
    → a ≡ codes "state" → slot_at b ≡ Some (t, name) → c ≡ codes "rank" → number_of d ≡ Some n
    → state_of a b c d found ≡ Some (lines.State t n found, name)
state_line a b c d t name n found p q e f = rw (p, q, e, f) refl

-- the word of a register isn't `=`
register_no_assignment : (b : Word) (w : Width) (r : ℕ) → register_of b ≡ Some (w, r)
    → bytes_eq b (codes "=") ≡ false
register_no_assignment b w r e = not_equal is_register b (codes "=") (ap is_some e) refl

four_state : (a b c d : Word) (x : Option (AssemblyLine × Word)) → bytes_eq b (codes "=") ≡ false
    → a ≡ codes "state" → state_of a b c d terms.None ≡ x → four a b c d ≡ x
four_state a b c d x p q e = rw p (let f : state_of (codes "state") b c d terms.None ≡ x =
    rw q at e in rw q f)

context_line : (a b c d : Word) (r : ℕ) (n : Numeral) → a ≡ codes "with"
    → register_of b ≡ Some (Bits64, r) → c ≡ codes "context" → number_of d ≡ Some n
    → four a b c d ≡ Some (plain (lines.With r (contents.Context n)))
context_line a b c d r n p q e f = rw (register_no_assignment b Bits64 r q, p, q, e, f) refl

stack_line : (a b c d : Word) (r : ℕ) (n : Numeral) → a ≡ codes "with"
    → register_of b ≡ Some (Bits64, r) → c ≡ codes "stack" → number_of d ≡ Some n
    → four a b c d ≡ Some (plain (lines.With r (contents.Stack n)))
stack_line a b c d r n p q e f = rw (register_no_assignment b Bits64 r q, p, q, e, f) refl

load_no_map : (z : LoadSize) → bytes_eq (load_word z) (codes "map") ≡ false
load_no_map loads.Unsigned8 = refl
load_no_map loads.Unsigned16 = refl
load_no_map loads.Unsigned32 = refl
load_no_map loads.Unsigned64 = refl
load_no_map loads.Signed8 = refl
load_no_map loads.Signed16 = refl
load_no_map loads.Signed32 = refl

load_line : (a b c d e : Word) (z : LoadSize) (r s : ℕ) (n : Numeral)
    → register_of a ≡ Some (Bits64, r) → b ≡ codes "=" → c ≡ load_word z
    → register_of d ≡ Some (Bits64, s) → number_of e ≡ Some n
    → five a b c d e ≡ Some (plain (lines.Load z r s n))
load_line a b c d e z r s n p q f g h = rw (q, p, f, load_no_map z, load_again z, g, h) refl

map_line : (a b c d e : Word) (r : ℕ) (m n : Numeral) → register_of a ≡ Some (Bits64, r)
    → b ≡ codes "=" → c ≡ codes "map" → number_of d ≡ Some m → number_of e ≡ Some n
    → five a b c d e ≡ Some (plain (lines.LoadMap r m n))
map_line a b c d e r m n p q f g h = rw (q, p, f, g, h) refl

store_line : (a b c d e : Word) (z : StoreSize) (r : ℕ) (n : Numeral) (source : Operand)
    → a ≡ store_word z → register_of b ≡ Some (Bits64, r) → number_of c ≡ Some n → d ≡ codes "="
    → operand_at Bits64 e ≡ Some source
    → five a b c d e ≡ Some (plain (lines.Store z r n source))
store_line a b c d e z r n source p q f g h =
    rw (register_no_assignment b Bits64 r q, g, p, store_again z, q, f, h) refl

branch_line : (a b c d e f : Word) (w : Width) (t : Test) (r : ℕ) (o : Operand)
    (target : LabelOrNumber) (name : Word) → a ≡ codes "if" → register_of b ≡ Some (w, r)
    → c ≡ test_word t → operand_at w d ≡ Some o → e ≡ codes "goto"
    → target_at f ≡ Some (target, name)
    → six a b c d e f ≡ Some (lines.Branch w t r o target, name)
branch_line a b c d e f w t r o target name p q g h i j = rw (p, i, q, g, test_again t, h, j) refl

term_known : (a b c : Word) (t : Term) → a ≡ register_word (Bits64, t.register) → t.register ≤ 10
    → b ≡ codes "*" → number_of c ≡ Some t.coefficient → term_of a b c ≡ Some t
term_known a b c t p h q e = rw (q, register_known Bits64 t.register a p h, e) refl

number_with_line : (a b c d e f g : Word) (r : ℕ) (range : Range) → a ≡ codes "with"
    → register_of b ≡ Some (Bits64, r) → c ≡ codes "number" → range_of d e f g ≡ Some range
    → seven a b c d e f g ≡ Some (plain (lines.With r (contents.Number range)))
number_with_line a b c d e f g r range p q h i = rw (p, h, q, i) refl

range_known : (a b c d : Word) (r : Range) → number_of a ≡ Some r.low → number_of b ≡ Some r.high
    → number_of c ≡ Some r.mask → number_of d ≡ Some r.value → range_of a b c d ≡ Some r
range_known a b c d r p q e f = rw (p, q, e, f) refl

seven_state : (a b c d e f g : Word) (t : Term) (x : Option (AssemblyLine × Word))
    → a ≡ codes "state" → term_of e f g ≡ Some t → state_of a b c d (terms.One t) ≡ x
    → seven a b c d e f g ≡ x
seven_state a b c d e f g t x p q h =
    rw (p, q) (let k : state_of (codes "state") b c d (terms.One t) ≡ x = rw p at h in k)

ten_state : (a b c d e f g h i j : Word) (t u : Term) (x : Option (AssemblyLine × Word))
    → term_of e f g ≡ Some t → term_of h i j ≡ Some u → state_of a b c d (terms.Two t u) ≡ x
    → ten a b c d e f g h i j ≡ x
ten_state a b c d e f g h i j t u x p q k = rw (p, q) k

map_with_line : (a b c d e f g h : Word) (r : ℕ) (m : Numeral) (range : Range) → a ≡ codes "with"
    → register_of b ≡ Some (Bits64, r) → c ≡ codes "map" → number_of d ≡ Some m
    → range_of e f g h ≡ Some range
    → eight a b c d e f g h ≡ Some (plain (lines.With r (contents.Map m range)))
map_with_line a b c d e f g h r m range p q i j k = rw (p, i, q, j, k) refl

-- Reading finds what the words of a line spell.
pub complete : (words : List Word) (line : AssemblyLine) (name : Word) → Spells words line name
    → line_of words ≡ Some (line, name)
unfolding line_of
complete words lines.Empty name s =
    reads_plain words [] lines.Empty name (no_words words s.fits) refl (s.unnamed refl)
complete words (lines.Hook h) name s =
    let t : Two words (Exactly (codes "hook")) (Exactly (hook_word h)) =
    two_words words _ _ s.fits in
    reads_plain words (t.a ∷ t.b ∷ []) (lines.Hook h) name t.are (hook_line t.a t.b h t.is_a t.is_b)
    (s.unnamed refl)
complete words (lines.Rank n) name s =
    let t : Two words (Exactly (codes "rank")) (Number n) = two_words words _ _ s.fits in
    reads_plain words (t.a ∷ t.b ∷ []) (lines.Rank n) name t.are
    (number_line t.a t.b n t.is_a t.is_b) (s.unnamed refl)
complete words (lines.Call n) name s =
    let t : Two words (Exactly (codes "call")) (Number n) = two_words words _ _ s.fits in
    reads_plain words (t.a ∷ t.b ∷ []) (lines.Call n) name t.are (call_line t.a t.b n t.is_a t.is_b)
    (s.unnamed refl)
complete words lines.Exit name s =
    let t : One words (Exactly (codes "exit")) = one_words words _ s.fits in
    reads_plain words (t.a ∷ []) lines.Exit name t.are (rw t.is_a refl) (s.unnamed refl)
complete words lines.Label name s =
    let t : One words (Definition name) = one_words words _ s.fits in
    reads words (t.a ∷ []) lines.Label name t.are (label_line t.a name t.is_a.0 t.is_a.1)
complete words (lines.Jump target) name s =
    let t : Two words (Exactly (codes "goto")) (the_target target name) =
    two_words words _ _ s.fits in
    reads words (t.a ∷ t.b ∷ []) (lines.Jump target) name t.are
    (jump_line t.a t.b target name t.is_a (target_known target name t.b t.is_b s.unnamed))
complete words (lines.LongJump target) name s =
    let t : Two words (Exactly (codes "gotol")) (the_target target name) =
    two_words words _ _ s.fits in
    reads words (t.a ∷ t.b ∷ []) (lines.LongJump target) name t.are
    (long_jump_line t.a t.b target name t.is_a (target_known target name t.b t.is_b s.unnamed))
complete words (lines.Arithmetic w o r source) name s =
    let t : Three words (the_register w r) (Exactly (operation_word o)) (the_operand w source) =
    three_words words _ _ _ s.fits in
    reads_plain words (t.a ∷ t.b ∷ t.c ∷ []) (lines.Arithmetic w o r source) name t.are
    (arithmetic_line t.a t.b t.c w o r source (register_known w r t.a t.is_a s.ranges.0) t.is_b
    (operand_known w source t.c t.is_c s.ranges.1)) (s.unnamed refl)
complete words (lines.Negate w r) name s =
    let t : Three words (the_register w r) (Exactly (codes "=")) (Exactly (codes "neg")) =
    three_words words _ _ _ s.fits in
    reads_plain words (t.a ∷ t.b ∷ t.c ∷ []) (lines.Negate w r) name t.are
    (negate_line t.a t.b t.c w r (register_known w r t.a t.is_a s.ranges) t.is_b t.is_c)
    (s.unnamed refl)
complete words (lines.Reorder o w r) name s =
    let t : Three words (the_register Bits64 r) (Exactly (codes "="))
    (Exactly (reorder_word (o, w))) = three_words words _ _ _ s.fits in
    reads_plain words (t.a ∷ t.b ∷ t.c ∷ []) (lines.Reorder o w r) name t.are
    (reorder_line t.a t.b t.c o w r (register_known Bits64 r t.a t.is_a s.ranges) t.is_b t.is_c)
    (s.unnamed refl)
complete words (lines.Bytes m n) name s =
    let t : Three words (Exactly (codes "bytes")) (Number m) (Number n) =
    three_words words _ _ _ s.fits in
    reads_plain words (t.a ∷ t.b ∷ t.c ∷ []) (lines.Bytes m n) name t.are
    (bytes_line t.a t.b t.c m n t.is_a t.is_b t.is_c) (s.unnamed refl)
complete words (lines.SignExtend x r q) name s =
    let t : Four words (the_register (extension_width x) r) (Exactly (codes "="))
    (Exactly (extension_word x)) (the_register (extension_width x) q) =
    four_words words _ _ _ _ s.fits in
    reads_plain words (t.a ∷ t.b ∷ t.c ∷ t.d ∷ []) (lines.SignExtend x r q) name t.are
    (extend_line t.a t.b t.c t.d x r q (register_known (extension_width x) r t.a t.is_a s.ranges.0)
    t.is_b t.is_c (register_at_known (extension_width x) q t.d t.is_d s.ranges.1))
    (s.unnamed refl)
complete words (lines.LoadNumber r n) name s =
    let t : Four words (the_register Bits64 r) (Exactly (codes "=")) (Exactly (codes "wide"))
    (Number n) = four_words words _ _ _ _ s.fits in
    reads_plain words (t.a ∷ t.b ∷ t.c ∷ t.d ∷ []) (lines.LoadNumber r n) name t.are
    (wide_line t.a t.b t.c t.d r n (register_known Bits64 r t.a t.is_a s.ranges) t.is_b t.is_c
    t.is_d) (s.unnamed refl)
complete words (lines.Load z r q n) name s =
    let t : Five words (the_register Bits64 r) (Exactly (codes "=")) (Exactly (load_word z))
    (the_register Bits64 q) (Number n) = five_words words _ _ _ _ _ s.fits in
    reads_plain words (t.a ∷ t.b ∷ t.c ∷ t.d ∷ t.e ∷ []) (lines.Load z r q n) name t.are
    (load_line t.a t.b t.c t.d t.e z r q n (register_known Bits64 r t.a t.is_a s.ranges.0) t.is_b
    t.is_c (register_known Bits64 q t.d t.is_d s.ranges.1) t.is_e) (s.unnamed refl)
complete words (lines.Store z r n source) name s =
    let t : Five words (Exactly (store_word z)) (the_register Bits64 r) (Number n)
    (Exactly (codes "=")) (the_operand Bits64 source) = five_words words _ _ _ _ _ s.fits in
    reads_plain words (t.a ∷ t.b ∷ t.c ∷ t.d ∷ t.e ∷ []) (lines.Store z r n source) name t.are
    (store_line t.a t.b t.c t.d t.e z r n source t.is_a
    (register_known Bits64 r t.b t.is_b s.ranges.0) t.is_c t.is_d
    (operand_known Bits64 source t.e t.is_e s.ranges.1)) (s.unnamed refl)
complete words (lines.LoadMap r m n) name s =
    let t : Five words (the_register Bits64 r) (Exactly (codes "=")) (Exactly (codes "map"))
    (Number m) (Number n) = five_words words _ _ _ _ _ s.fits in
    reads_plain words (t.a ∷ t.b ∷ t.c ∷ t.d ∷ t.e ∷ []) (lines.LoadMap r m n) name t.are
    (map_line t.a t.b t.c t.d t.e r m n (register_known Bits64 r t.a t.is_a s.ranges) t.is_b
    t.is_c t.is_d t.is_e) (s.unnamed refl)
complete words (lines.Branch w x r o target) name s =
    let t : Six words (Exactly (codes "if")) (the_register w r) (Exactly (test_word x))
    (the_operand w o) (Exactly (codes "goto")) (the_target target name) =
    six_words words _ _ _ _ _ _ s.fits in
    reads words (t.a ∷ t.b ∷ t.c ∷ t.d ∷ t.e ∷ t.f ∷ []) (lines.Branch w x r o target) name t.are
    (branch_line t.a t.b t.c t.d t.e t.f w x r o target name t.is_a
    (register_known w r t.b t.is_b s.ranges.0) t.is_c (operand_known w o t.d t.is_d s.ranges.1)
    t.is_e (target_known target name t.f t.is_f s.unnamed))
complete words (lines.State slot n terms.None) name s =
    let t : Four words (Exactly (codes "state")) (the_slot slot name) (Exactly (codes "rank"))
    (Number n) = four_words words _ _ _ _ s.fits in
    reads words (t.a ∷ t.b ∷ t.c ∷ t.d ∷ []) (lines.State slot n terms.None) name t.are
    (four_state t.a t.b t.c t.d _ (slot_no_assignment slot name t.b t.is_b) t.is_a
    (state_line t.a t.b t.c t.d slot name n terms.None t.is_a
    (slot_known slot name t.b t.is_b s.unnamed) t.is_c t.is_d))
complete words (lines.State slot n (terms.One x)) name s =
    let t : Seven words (Exactly (codes "state")) (the_slot slot name) (Exactly (codes "rank"))
    (Number n) (the_register Bits64 x.register) (Exactly (codes "*")) (Number x.coefficient) =
    seven_words words _ _ _ _ _ _ _ s.fits in
    reads words (t.a ∷ t.b ∷ t.c ∷ t.d ∷ t.e ∷ t.f ∷ t.g ∷ []) (lines.State slot n (terms.One x))
    name t.are
    (seven_state t.a t.b t.c t.d t.e t.f t.g x _ t.is_a
    (term_known t.e t.f t.g x t.is_e s.ranges t.is_f t.is_g)
    (state_line t.a t.b t.c t.d slot name n (terms.One x) t.is_a
    (slot_known slot name t.b t.is_b s.unnamed) t.is_c t.is_d))
complete words (lines.State slot n (terms.Two x y)) name s =
    let t : Ten words (Exactly (codes "state")) (the_slot slot name) (Exactly (codes "rank"))
    (Number n) (the_register Bits64 x.register) (Exactly (codes "*")) (Number x.coefficient)
    (the_register Bits64 y.register) (Exactly (codes "*")) (Number y.coefficient)
    = ten_words words _ _ _ _ _ _ _ _ _ _ s.fits in
    reads words (t.a ∷ t.b ∷ t.c ∷ t.d ∷ t.e ∷ t.f ∷ t.g ∷ t.h ∷ t.i ∷ t.j ∷ [])
    (lines.State slot n (terms.Two x y)) name t.are
    (ten_state t.a t.b t.c t.d t.e t.f t.g t.h t.i t.j x y _
    (term_known t.e t.f t.g x t.is_e s.ranges.0 t.is_f t.is_g)
    (term_known t.h t.i t.j y t.is_h s.ranges.1 t.is_i t.is_j)
    (state_line t.a t.b t.c t.d slot name n (terms.Two x y) t.is_a
    (slot_known slot name t.b t.is_b s.unnamed) t.is_c t.is_d))
complete words (lines.With r (contents.Number range)) name s =
    let t : Seven words (Exactly (codes "with")) (the_register Bits64 r) (Exactly (codes "number"))
    (Number range.low) (Number range.high) (Number range.mask) (Number range.value) =
    seven_words words _ _ _ _ _ _ _ s.fits in
    reads_plain words (t.a ∷ t.b ∷ t.c ∷ t.d ∷ t.e ∷ t.f ∷ t.g ∷ [])
    (lines.With r (contents.Number range)) name t.are
    (number_with_line t.a t.b t.c t.d t.e t.f t.g r range t.is_a
    (register_known Bits64 r t.b t.is_b s.ranges) t.is_c
    (range_known t.d t.e t.f t.g range t.is_d t.is_e t.is_f t.is_g)) (s.unnamed refl)
complete words (lines.With r (contents.Context n)) name s =
    let t : Four words (Exactly (codes "with")) (the_register Bits64 r) (Exactly (codes "context"))
    (Number n) = four_words words _ _ _ _ s.fits in
    reads_plain words (t.a ∷ t.b ∷ t.c ∷ t.d ∷ []) (lines.With r (contents.Context n)) name t.are
    (context_line t.a t.b t.c t.d r n t.is_a (register_known Bits64 r t.b t.is_b s.ranges)
    t.is_c t.is_d) (s.unnamed refl)
complete words (lines.With r (contents.Stack n)) name s =
    let t : Four words (Exactly (codes "with")) (the_register Bits64 r) (Exactly (codes "stack"))
    (Number n) = four_words words _ _ _ _ s.fits in
    reads_plain words (t.a ∷ t.b ∷ t.c ∷ t.d ∷ []) (lines.With r (contents.Stack n)) name t.are
    (stack_line t.a t.b t.c t.d r n t.is_a (register_known Bits64 r t.b t.is_b s.ranges) t.is_c
    t.is_d) (s.unnamed refl)
complete words (lines.With r (contents.Map m range)) name s =
    let t : Eight words (Exactly (codes "with")) (the_register Bits64 r) (Exactly (codes "map"))
    (Number m) (Number range.low) (Number range.high) (Number range.mask) (Number range.value) =
    eight_words words _ _ _ _ _ _ _ _ s.fits in
    reads_plain words (t.a ∷ t.b ∷ t.c ∷ t.d ∷ t.e ∷ t.f ∷ t.g ∷ t.h ∷ [])
    (lines.With r (contents.Map m range)) name t.are
    (map_with_line t.a t.b t.c t.d t.e t.f t.g t.h r m range t.is_a
    (register_known Bits64 r t.b t.is_b s.ranges) t.is_c t.is_d
    (range_known t.e t.f t.g t.h range t.is_e t.is_f t.is_g t.is_h)) (s.unnamed refl)
