-- Listings of stack bytes.
use Rattle.std.proofs.Common.{◌≡◌, ℕ, ◌+◌, ◌-◌, ◌≤◌, ◌<◌, ◌^◌, ◌&&◌, Bool, true, false, List, []}
use Rattle.std.proofs.Common.{◌∷◌, ◌++◌, length, take, drop, Option, Some, None, ap, ◌∙◌, sym}
use Rattle.std.proofs.Common.{arith, append_assoc, append-nil, le-leb, drop-drop}
use Rattle.std.specs.Prelude.{Ok, nat_le, replicate}
use Rattle.std.proofs.lemmas.Bool.{cond-true, and_from}
use Rattle.std.proofs.lemmas.List.{take_more, take_all, length-take-le, take_at, drop_at}
use Rattle.std.proofs.lemmas.List.{drop-replicate, replicate_more, replicate-append-replicate}
use Rattle.object.specs.declared.kind.StatedKind.{StatedKind}
use Rattle.object.specs.declared.rank.Rank.{Rank}
use Rattle.object.specs.Statements.{StatementParts}
use Rattle.object.specs.Sets.{has_byte, with_range}
use Rattle.asm.specs.declared.numeral.Numeral.TheVariants as numerals
use Rattle.asm.specs.declared.line.AssemblyLine.TheVariants as lines
use Rattle.asm.specs.Instructions.{◌>>=◌, or_range_fault}
use Rattle.asm.specs.Rules.{◌and_then◌, bytes_of, range_in}
use Rattle.asm.specs.Numbers.{natural_in}
use Rattle.asm.specs.Assembling.{Sketch, with_bytes, with_last}
use Rattle.asm.specs.Listed.{Listed, AddsLine, Any, Front, sketch_of}
use Rattle.asm.proofs.Pushed.{listed_push, listed_same, in_field}

-- each byte from `start` up to but excluding `end` is in the set
abbrev pub AllIn : List Bool → ℕ → ℕ → Type 0
AllIn stack start end = take end stack ≡ take start stack ++ replicate (end - start) true

pub range_begins : (stack : List Bool) (start : ℕ) → length stack ≡ 512 → start < 512
    → has_byte stack start ≡ true → AllIn stack start (start + 1)
range_begins stack start long h e =
    let one : 1 ≡ start + 1 - start = omega arith in
    take_more stack start false (omega (arith, long, h))
    ∙ ap (λ (b : Bool). take start stack ++ b ∷ []) e
    ∙ ap (λ (n : ℕ). take start stack ++ replicate n true) one

pub range_more : (stack : List Bool) (start end : ℕ) → length stack ≡ 512 → start < end → end < 512
    → has_byte stack end ≡ true → AllIn stack start end → AllIn stack start (end + 1)
range_more stack start end long lt h e all =
    let more : end - start + 1 ≡ end + 1 - start = omega (arith, lt) in
    take_more stack end false (omega (arith, long, h))
    ∙ ap (λ (b : Bool). take end stack ++ b ∷ []) e
    ∙ ap (λ (xs : List Bool). xs ++ true ∷ []) all
    ∙ append_assoc (take start stack) (replicate (end - start) true) (true ∷ [])
    ∙ ap (λ (xs : List Bool). take start stack ++ xs) (replicate_more (end - start) true)
    ∙ ap (λ (n : ℕ). take start stack ++ replicate n true) more

-- the first bytes of the set, and none after them
abbrev pub bytes_up_to : List Bool → ℕ → List Bool
bytes_up_to stack at = take at stack ++ replicate (512 - at) false

abbrev pub filling : Front → ℕ → Rank → List StatedKind → List Bool → Sketch
filling f slot rank ks stack = sketch_of f (Some (record {
  slot = slot;
  rank = rank;
  kinds = ks;
  stack = stack;
}))

pub skip_step : (text : List ℕ) (f : Front) (slot : ℕ) (rank : Rank) (ks : List StatedKind)
    (stack : List Bool) (at : ℕ) → length stack ≡ 512 → at < 512 → has_byte stack at ≡ false
    → Listed text (filling f slot rank ks (bytes_up_to stack at)) Any
    → Listed text (filling f slot rank ks (bytes_up_to stack (at + 1))) Any
skip_step text f slot rank ks stack at long h e listed =
    let more : 512 - at ≡ 1 + (512 - (at + 1)) = omega (arith, h) in
    let same : bytes_up_to stack at ≡ bytes_up_to stack (at + 1) =
    ap (λ (n : ℕ). take at stack ++ replicate n false) more
    ∙ ap (λ (xs : List Bool). take at stack ++ xs)
    (sym (replicate-append-replicate 1 (512 - (at + 1)) false))
    ∙ sym (append_assoc (take at stack) (false ∷ []) (replicate (512 - (at + 1)) false))
    ∙ ap (λ (b : Bool). (take at stack ++ b ∷ []) ++ replicate (512 - (at + 1)) false) (sym e)
    ∙ ap (λ (xs : List Bool). xs ++ replicate (512 - (at + 1)) false)
    (sym (take_more stack at false (omega (arith, long, h)))) in
    listed_same text (filling f slot rank ks (bytes_up_to stack at))
    (filling f slot rank ks (bytes_up_to stack (at + 1))) Any Any
    (ap (λ (b : List Bool). filling f slot rank ks b) same) (λ rest d. d) listed

range_taken : (stack : List Bool) (start end : ℕ) → length stack ≡ 512 → start < end → end ≤ 512
    → AllIn stack start end → with_range start end (bytes_up_to stack start) ≡ bytes_up_to stack end
range_taken stack start end long lt le all =
    let none = replicate (512 - start) false in
    let front : length (take start stack) ≡ start =
    length-take-le start stack (omega (arith, long, lt, le)) in
    let whole : start + (end - start) ≡ end = omega (arith, lt) in
    let left : 512 - start - (end - start) ≡ 512 - end = omega (arith, lt, le) in
    let behind : drop end (bytes_up_to stack start) ≡ replicate (512 - end) false =
    ap (λ (n : ℕ). drop n (bytes_up_to stack start)) (sym whole)
    ∙ sym (drop-drop (end - start) start (bytes_up_to stack start))
    ∙ ap (λ (xs : List Bool). drop (end - start) xs) (drop_at (take start stack) none start front)
    ∙ drop-replicate (end - start) (512 - start) false
    ∙ ap (λ (n : ℕ). replicate n false) left in
    ap (λ (xs : List Bool). (xs ++ replicate (end - start) true)
    ++ drop end (bytes_up_to stack start)) (take_at (take start stack) none start front)
    ∙ ap (λ (xs : List Bool). xs ++ drop end (bytes_up_to stack start)) (sym all)
    ∙ ap (λ (xs : List Bool). take end stack ++ xs) behind

bytes_are : (start end : ℕ) → start < end → end ≤ 512
    → bytes_of (numerals.Natural start) (numerals.Natural end) ≡ Some (start, end)
bytes_are start end lt le =
    ap (λ (o : Option ℕ). o and_then λ s. natural_in (2 ^ 32) (numerals.Natural end) and_then λ e.
    range_in s e) (in_field (2 ^ 32) start (omega (arith, lt, le)))
    ∙ ap (λ (o : Option ℕ). o and_then λ e. range_in start e)
    (in_field (2 ^ 32) end (omega (arith, le)))
    ∙ cond-true (nat_le start end && nat_le end 512) (Some (start, end)) None
    (and_from (nat_le start end) (nat_le end 512) (le-leb start end (omega (arith, lt)))
    (le-leb end 512 le))

pub bytes_line : (old new : List ℕ) (f : Front) (slot : ℕ) (rank : Rank) (ks : List StatedKind)
    (stack : List Bool) (start end : ℕ) → length stack ≡ 512 → start < end → end ≤ 512
    → AllIn stack start end → AddsLine old new
    (lines.Bytes (numerals.Natural start) (numerals.Natural end))
    → Listed old (filling f slot rank ks (bytes_up_to stack start)) Any
    → Listed new (filling f slot rank ks (bytes_up_to stack end)) Any
bytes_line old new f slot rank ks stack start end long lt le all adds listed =
    let s = filling f slot rank ks (bytes_up_to stack start) in
    let p : StatementParts = record {
      slot = slot;
      rank = rank;
      kinds = ks;
      stack = bytes_up_to stack start;
    } in
    listed_push old new (lines.Bytes (numerals.Natural start) (numerals.Natural end)) s
    (filling f slot rank ks (bytes_up_to stack end)) Any Any adds listed (λ rest d. d)
    (λ n place rest d. ap (λ (o : Option (ℕ × ℕ)). or_range_fault o >>= with_bytes p >>= with_last
    s) (bytes_are start end lt le)
    ∙ ap (λ (b : List Bool). Ok (filling f slot rank ks b))
    (range_taken stack start end long lt le all))

pub bytes_end : (text : List ℕ) (f : Front) (slot : ℕ) (rank : Rank) (ks : List StatedKind)
    (stack : List Bool) → length stack ≡ 512
    → Listed text (filling f slot rank ks (bytes_up_to stack 512)) Any
    → Listed text (filling f slot rank ks stack) Any
bytes_end text f slot rank ks stack long listed =
    listed_same text (filling f slot rank ks (bytes_up_to stack 512)) (filling f slot rank ks stack)
    Any Any
    (ap (λ (b : List Bool). filling f slot rank ks b)
    (append-nil (take 512 stack) ∙ take_all 512 stack (omega (arith, long)))) (λ rest d. d)
    listed
