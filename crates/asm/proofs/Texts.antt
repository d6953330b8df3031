-- Whole listings.
use Rattle.std.proofs.Common.{◌≡◌, ℕ, suc, ◌+◌, ◌*◌, ◌/◌, List, [], ◌∷◌, ◌++◌, length, map, Option}
use Rattle.std.proofs.Common.{Some, refl, ap, ◌∙◌, sym, subst, arith, length-append}
use Rattle.std.specs.List.{flat_map}
use denote.Ref.{Bor}
use Rattle.isa.specs.declared.hook.Hook.{Hook}
use Rattle.isa.specs.declared.code.Slot.{Slot}
use Rattle.isa.specs.declared.fields.Fields.{Fields}
use Rattle.isa.specs.declared.instruction.Instruction.{Instruction}
use Rattle.isa.specs.declared.instruction.Instruction.TheVariants as instructions
use Rattle.isa.specs.Code.{slots_of}
use Rattle.isa.specs.Spelling.{Spells, bytes_of, bytes_of_fields, fields_of, second_half}
use Rattle.object.specs.Statements.{StatementParts}
use Rattle.object.specs.Objects.{ObjectParts, IsObject, AreStatements}
use Rattle.asm.specs.declared.line.AssemblyLine.{AssemblyLine}
use Rattle.asm.specs.declared.line.AssemblyLine.TheVariants as lines
use Rattle.asm.specs.Words.{Word}
use Rattle.asm.specs.Text.{words_in, Reads, Readings}
use Rattle.asm.specs.LineViews.{views, items}
use Rattle.asm.specs.Written.{some_reading}
use Rattle.asm.specs.Assembling.{take_lines, place_from, nothing, TextSpells}
use Rattle.asm.specs.Listed.{ListedAll, sketch_of, without_label, no_name, some_line}

-- ---- the code has a slot for eight bytes

fields_long : (f : Fields) → length (bytes_of_fields f) ≡ 8
fields_long f = refl

second_long : (i : Instruction) → length (second_half i) + 8 ≡ 8 * length (slots_of i)
second_long (instructions.Arithmetic width operation target source) = refl
second_long (instructions.Negate width target) = refl
second_long (instructions.SignExtend extension target source) = refl
second_long (instructions.Reorder order width target) = refl
second_long (instructions.Jump distance) = refl
second_long (instructions.LongJump distance) = refl
second_long (instructions.Branch width test left right distance) = refl
second_long (instructions.Call helper) = refl
second_long instructions.Exit = refl
second_long (instructions.Load size target base offset) = refl
second_long (instructions.Store size base offset source) = refl
second_long (instructions.LoadNumber target number) = refl
second_long (instructions.LoadMap target map offset) = refl

code_long : (is : List Instruction)
    → length (flat_map bytes_of is) ≡ 8 * length (flat_map slots_of is)
code_long [] = refl
code_long (i ∷ is) = omega (
  arith,
  length-append (bytes_of i) (flat_map bytes_of is),
  length-append (slots_of i) (flat_map slots_of is),
  length-append (bytes_of_fields (fields_of i)) (second_half i),
  fields_long (fields_of i),
  second_long i,
  code_long is,
)

pub slots_long : (bytes : List ℕ) (code : List Slot) → Spells bytes code
    → length bytes / 8 ≡ length code
slots_long bytes code spells =
    let long : length bytes ≡ 8 * length code =
    ap length spells.spelled.bytes_are ∙ code_long spells.spelled.instructions
    ∙ ap (λ (xs : List Slot). 8 * length xs) (sym spells.spelled.slots_are) in
    omega (arith, long)

pub code_statements : (o : ObjectParts) (code : List Slot) → Spells o.code code → IsObject o
    → AreStatements 0 (length code) o.statements
code_statements o code spells is =
    subst (λ (n : ℕ). AreStatements 0 n o.statements) (slots_long o.code code spells) is.statements

-- ---- the lines and the empty one after the last line feed

nowhere : Bor Word
nowhere = record { ref_ptr = (0, 0); now = [] }

abbrev found_of : List AssemblyLine → List (Option AssemblyLine)
found_of ls = map some_line ls ++ Some lines.Empty ∷ []

abbrev unnamed_at : AssemblyLine → Bor Word
unnamed_at line = record { ref_ptr = (0, 0); now = [] }

abbrev names_of : List AssemblyLine → List (Bor Word)
names_of ls = map unnamed_at ls ++ (record { ref_ptr = (0, 0); now = [] }) ∷ []

same_long : (ls : List AssemblyLine) → length (found_of ls) ≡ length (names_of ls)
same_long [] = refl
same_long (l ∷ ls) = ap (λ (n : ℕ). suc n) (same_long ls)

items_are : (ls : List AssemblyLine) → items (found_of ls) (names_of ls)
    ≡ map some_reading (map without_label ls) ++ Some (lines.Empty, []) ∷ []
items_are [] = refl
items_are (l ∷ ls) = ap (λ (xs : List (Option (AssemblyLine × Word))). Some (l, []) ∷ xs)
    (items_are ls)

views_are : (ls : List AssemblyLine) → views (names_of ls) ≡ map no_name ls ++ [] ∷ []
views_are [] = refl
views_are (l ∷ ls) = ap (λ (xs : List Word). [] ∷ xs) (views_are ls)

last_read : Reads (words_in []) (Some (lines.Empty, []))
last_read = record { fits = tt; ranges = tt; unnamed = λ e. refl }

readings_more : (front : List (List ℕ)) (found : List (Option (AssemblyLine × Word)))
    → Readings front found → Readings (front ++ [] ∷ []) (found ++ Some (lines.Empty, []) ∷ [])
readings_more [] [] r = (last_read, tt)
readings_more [] (x ∷ found) r = absurd r
readings_more (line ∷ front) [] r = absurd r
readings_more (line ∷ front) (x ∷ found) r = (r.0, readings_more front found r.1)

pub listed_spells : (text : List ℕ) (o : ObjectParts) (code : List Slot) → Spells o.code code
    → IsObject o → ListedAll text o.hook o.entry_rank code o.statements → TextSpells text o
listed_spells text o code spells is all =
    let h = all.listed in
    let found = found_of h.lines in
    let names = names_of h.lines in
    let made = sketch_of (record {
      hook = o.hook;
      rank = o.entry_rank;
      code = code;
      before = all.before;
    }) all.last in
    let places = place_from 0 0 found (views names) in
    record {
      found = found;
      names = names;
      says = record {
        same = same_long h.lines;
        read = subst (λ (ls : List (List ℕ)). Readings ls (items found names)) (sym h.are.lines)
            (subst (λ (xs : List (Option (AssemblyLine × Word))). Readings (h.are.front ++ [] ∷ [])
            xs)
            (sym (items_are h.lines)) (readings_more h.are.front
            (map some_reading (map without_label h.lines)) h.are.read));
      };
      made = made;
      taken = ap (λ (ws : List Word). take_lines places 0 found ws nothing) (views_are h.lines)
          ∙ h.leads places (Some lines.Empty ∷ []) ([] ∷ []) tt;
      is_made = record {
        hook = refl;
        rank = refl;
        code = spells;
        statements = all.same;
        lawful = is;
      };
    }

pub listed_object : (text : List ℕ) (o : ObjectParts) (code : List Slot) (hook : Hook) (rank : ℕ)
    (ss : List StatementParts) → hook ≡ o.hook → rank ≡ o.entry_rank → ss ≡ o.statements
    → Spells o.code code → IsObject o
    → (AreStatements 0 (length code) ss → ListedAll text hook rank code ss)
    → TextSpells text o
listed_object text o code hook rank ss eh er es spells is listed =
    let are : AreStatements 0 (length code) ss =
    subst (λ (xs : List StatementParts). AreStatements 0 (length code) xs) (sym es)
    (code_statements o code spells is) in
    listed_spells text o code spells is
    (subst (λ (h : Hook). ListedAll text h o.entry_rank code o.statements) eh
    (subst (λ (r : ℕ). ListedAll text hook r code o.statements) er
    (subst (λ (xs : List StatementParts). ListedAll text hook rank code xs) es (listed are))))
