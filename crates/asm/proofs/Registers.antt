-- Listings of what registers hold.
use Rattle.std.proofs.Common.{◌≡◌, ⊎_elim, ℕ, zero, suc, ◌+◌, ◌-◌, ◌≤◌, ◌<◌, Bool, true, false}
use Rattle.std.proofs.Common.{List, [], ◌∷◌, ◌++◌, length, take, get_or, Option, Some, None, refl}
use Rattle.std.proofs.Common.{ap, ◌∙◌, sym, subst, arith, append_assoc, append-nil, le-ltb, eq-eqb}
use Rattle.std.proofs.Common.{slice_get}
use Rattle.std.specs.Prelude.{Result, Ok, Err, nat_lt, ◌==◌, replicate, slice_set, slice_index_or}
use Rattle.std.proofs.lemmas.Bool.{cond-true, cond-false, cond_both, false≢true, cases_eq, cases_lt}
use Rattle.std.proofs.lemmas.List.{take_more, take_all, set_at, length-take-le}
use Rattle.std.proofs.lemmas.Option.{slice_get_within}
use Rattle.object.specs.declared.kind.StatedKind.{StatedKind}
use Rattle.object.specs.declared.kind.StatedKind.TheVariants as kinds
use Rattle.object.specs.declared.rank.Rank.{Rank}
use Rattle.object.specs.Numbers.{Term}
use Rattle.object.specs.Statements.{StatementParts, IsTermOver}
use Rattle.object.specs.Sets.{no_bytes}
use Rattle.asm.specs.declared.line.AssemblyLine.{AssemblyLine}
use Rattle.asm.specs.declared.line.AssemblyLine.TheVariants as lines
use Rattle.asm.specs.declared.line.RegisterContent.{RegisterContent}
use Rattle.asm.specs.declared.line.RegisterContent.TheVariants as contents
use Rattle.asm.specs.declared.error.AsmFault.{AsmFault}
use Rattle.asm.specs.declared.error.AsmFault.TheVariants as faults
use Rattle.asm.specs.declared.labels.Place.{Place}
use Rattle.asm.specs.Instructions.{◌>>=◌, or_range_fault}
use Rattle.asm.specs.Rules.{is_stated_number, kind_of}
use Rattle.asm.specs.Assembling.{Sketch, line_step, kind_step, with_last, is_empty}
use Rattle.asm.specs.Listed.{Listed, AddsLine, Any, Front, sketch_of, AreStated, is_stated}
use Rattle.asm.specs.Listed.{is_number, gives_number}
use Rattle.asm.proofs.Pushed.{listed_push, listed_same}

-- what the first registers hold, of those that are stated so far
abbrev pub kinds_up_to : List StatedKind → ℕ → List StatedKind
kinds_up_to ks at = take at ks ++ replicate (10 - at) kinds.Unstated

abbrev pub stating : Front → ℕ → Rank → List StatedKind → Sketch
stating f slot rank ks = sketch_of f (Some (record {
  slot = slot;
  rank = rank;
  kinds = ks;
  stack = no_bytes;
}))

-- ---- what follows says which registers are numbers

still_says : (content : RegisterContent) (register other : ℕ) (rest : List (Option AssemblyLine))
    → is_stated_number rest register ≡ true
    → is_stated_number (Some (lines.With other content) ∷ rest) register ≡ true
still_says (contents.Number range) register other rest e =
    cond_both (other == register) true (is_stated_number rest register) (λ x. x ≡ true) (λ h. refl)
    (λ h. e)
still_says (contents.Context offset) register other rest e = e
still_says (contents.Stack offset) register other rest e = e
still_says (contents.Map map offset) register other rest e = e

says_number : (content : RegisterContent) (register : ℕ) (rest : List (Option AssemblyLine))
    → gives_number (Some content) ≡ true
    → is_stated_number (Some (lines.With register content) ∷ rest) register ≡ true
says_number (contents.Number range) register rest e =
    cond-true (register == register) true (is_stated_number rest register)
    (eq-eqb register register refl)
says_number (contents.Context offset) register rest e = absurd (false≢true e)
says_number (contents.Stack offset) register rest e = absurd (false≢true e)
says_number (contents.Map map offset) register rest e = absurd (false≢true e)

abbrev is_there : Option StatedKind → Bool
is_there (Some k) = true
is_there None = false

abbrev the : StatedKind → Option StatedKind → StatedKind
the d (Some k) = k
the d None = d

above : (at register : ℕ) → at ≤ register → (at ≡ register → ⊥) → at + 1 ≤ register
above at register h ne = ⊎_elim (λ l. omega (arith, l)) (λ l. absurd (ne (omega (arith, l, h))))
    (cases_lt at register)

get_at : (p : List StatedKind) (k : StatedKind) (ks : List StatedKind) (d : StatedKind) (n : ℕ)
    → length p ≡ n → slice_index_or (p ++ k ∷ ks) n d ≡ k
get_at [] k ks d zero e = refl
get_at [] k ks d (suc n) e = absurd (omega (arith, e))
get_at (x ∷ p) k ks d zero e = absurd (omega (arith, e))
get_at (x ∷ p) k ks d (suc n) e = get_at p k ks d n (omega (arith, e))

got : (ks : List StatedKind) (at : ℕ) (k d : StatedKind) → slice_get ks at ≡ Some k
    → get_or ks at d ≡ k
got [] at k d e = absurd (false≢true (ap is_there e))
got (x ∷ ks) zero k d e = ap (the k) e
got (x ∷ ks) (suc at) k d e = got ks at k d e

-- a register that isn't a number needs no line
pub stated_past : (ks : List StatedKind) (at : ℕ) (d : StatedKind)
    → is_number (get_or ks at d) ≡ false → (rest : List (Option AssemblyLine))
    → AreStated ks (at + 1) rest → AreStated ks at rest
stated_past ks at d none rest later = λ register from is. ⊎_elim
    (λ e. absurd (false≢true (sym none
    ∙ ap is_number (ap (λ n. get_or ks n d) e ∙ got ks register (kinds.Number is.0) d is.1))))
    (λ ne. later register (above at register from ne) is) (cases_eq at register)

-- a line of the register comes first
pub stated_by : (ks : List StatedKind) (at : ℕ) (d : StatedKind) (content : RegisterContent)
    → is_number (get_or ks at d) ≡ gives_number (Some content) → (rest : List (Option AssemblyLine))
    → AreStated ks (at + 1) rest → AreStated ks at (Some (lines.With at content) ∷ rest)
stated_by ks at d content same rest later = λ register from is. ⊎_elim
    (λ e. subst (λ (n : ℕ). is_stated_number (Some (lines.With at content) ∷ rest) n ≡ true) e
    (says_number content at rest (sym same
    ∙ ap is_number (ap (λ n. get_or ks n d) e ∙ got ks register (kinds.Number is.0) d is.1))))
    (λ ne. still_says content register at rest (later register (above at register from ne) is))
    (cases_eq at register)

pub stated_all : (ks : List StatedKind) (rest : List (Option AssemblyLine)) → length ks ≡ 10
    → AreStated ks 10 rest
stated_all ks rest e = λ register from is. absurd
    (omega (arith, e, from, slice_get_within ks register (kinds.Number is.0) is.1))

-- the rank's registers
pub stated_term : (ks : List StatedKind) (term : Option Term) (rest : List (Option AssemblyLine))
    → IsTermOver ks term → AreStated ks 0 rest → is_stated rest term ≡ true
stated_term ks None rest over are = refl
stated_term ks (Some term) rest over are = are term.register (omega arith) over

-- ---- one more line

up_to_more : (ks : List StatedKind) (at : ℕ) (k : StatedKind) → length ks ≡ 10 → at < 10
    → get_or ks at k ≡ k → take at ks ++ k ∷ replicate (10 - (at + 1)) kinds.Unstated
    ≡ kinds_up_to ks (at + 1)
up_to_more ks at k long h g =
    sym (append_assoc (take at ks) (k ∷ []) (replicate (10 - (at + 1)) kinds.Unstated))
    ∙ ap (λ (xs : List StatedKind). xs ++ replicate (10 - (at + 1)) kinds.Unstated)
    (ap (λ (x : StatedKind). take at ks ++ x ∷ []) (sym g)
    ∙ sym (take_more ks at k (omega (arith, long, h))))

up_to_here : (ks : List StatedKind) (at : ℕ) → at < 10
    → kinds_up_to ks at ≡ take at ks ++ kinds.Unstated ∷ replicate (10 - (at + 1)) kinds.Unstated
up_to_here ks at h =
    let more : 10 - at ≡ suc (10 - (at + 1)) = omega (arith, h) in
    ap (λ (n : ℕ). take at ks ++ replicate n kinds.Unstated) more

pub empty_step : (text : List ℕ) (f : Front) (slot : ℕ) (rank : Rank) (ks : List StatedKind)
    (at : ℕ) → length ks ≡ 10 → at < 10 → get_or ks at kinds.Unstated ≡ kinds.Unstated
    → Listed text (stating f slot rank (kinds_up_to ks at)) (AreStated ks at)
    → Listed text (stating f slot rank (kinds_up_to ks (at + 1))) (AreStated ks (at + 1))
empty_step text f slot rank ks at long h g listed =
    listed_same text (stating f slot rank (kinds_up_to ks at))
    (stating f slot rank (kinds_up_to ks (at + 1))) (AreStated ks at) (AreStated ks (at + 1))
    (ap (λ (xs : List StatedKind). stating f slot rank xs)
    (up_to_here ks at h ∙ up_to_more ks at kinds.Unstated long h g))
    (stated_past ks at kinds.Unstated (ap is_number g)) listed

with_steps : (f : Front) (slot : ℕ) (rank : Rank) (ks : List StatedKind) (at : ℕ) (k : StatedKind)
    (content : RegisterContent) (n : ℕ) (place : Option Place) (rest : List (Option AssemblyLine))
    → length ks ≡ 10 → at < 10 → get_or ks at k ≡ k → kind_of content ≡ Some k
    → line_step (stating f slot rank (kinds_up_to ks at)) (lines.With at content) n place
    rest ≡ Ok (stating f slot rank (kinds_up_to ks (at + 1)))
with_steps f slot rank ks at k content n place rest long h g again =
    let now : List StatedKind = kinds_up_to ks at in
    let p : StatementParts = record { slot = slot; rank = rank; kinds = now; stack = no_bytes } in
    let front : length (take at ks) ≡ at = length-take-le at ks (omega (arith, long, h)) in
    let tail = replicate (10 - (at + 1)) kinds.Unstated in
    let empty : slice_index_or now at kinds.Unstated ≡ kinds.Unstated =
    ap (λ (xs : List StatedKind). slice_index_or xs at kinds.Unstated) (up_to_here ks at h)
    ∙ get_at (take at ks) kinds.Unstated tail kinds.Unstated at front in
    let set : slice_set now at k ≡ kinds_up_to ks (at + 1) =
    ap (λ (xs : List StatedKind). slice_set xs at k) (up_to_here ks at h)
    ∙ set_at (take at ks) kinds.Unstated tail k at front ∙ up_to_more ks at k long h g in
    ap (λ (o : Option StatedKind). or_range_fault o >>= kind_step p at >>= with_last
    (stating f slot rank now)) again
    ∙ ap (λ (r : Result StatementParts AsmFault). r >>= with_last (stating f slot rank now))
    (cond-false (nat_lt 9 at) (Err faults.Range) _ (le-ltb 9 at (omega (arith, h)))
    ∙ cond-true (is_empty (slice_index_or now at kinds.Unstated)) (Ok (record p {
      kinds = slice_set now at k;
    })) (Err faults.Twice) (ap is_empty empty)
    ∙ ap (λ (xs : List StatedKind). Ok (record {
      slot = slot;
      rank = rank;
      kinds = xs;
      stack = no_bytes;
    })) set)

pub kind_line : (old new : List ℕ) (f : Front) (slot : ℕ) (rank : Rank) (ks : List StatedKind)
    (at : ℕ) (k : StatedKind) (content : RegisterContent) → length ks ≡ 10 → at < 10
    → get_or ks at k ≡ k → kind_of content ≡ Some k → is_number k ≡ gives_number (Some content)
    → AddsLine old new (lines.With at content)
    → Listed old (stating f slot rank (kinds_up_to ks at)) (AreStated ks at)
    → Listed new (stating f slot rank (kinds_up_to ks (at + 1)))
    (AreStated ks (at + 1))
kind_line old new f slot rank ks at k content long h g again same adds listed =
    listed_push old new (lines.With at content) (stating f slot rank (kinds_up_to ks at))
    (stating f slot rank (kinds_up_to ks (at + 1))) (AreStated ks at) (AreStated ks (at + 1))
    adds listed
    (stated_by ks at k content (ap is_number g ∙ same))
    (λ n place rest d. with_steps f slot rank ks at k content n place rest long h g again)

pub kinds_end : (text : List ℕ) (f : Front) (slot : ℕ) (rank : Rank) (ks : List StatedKind)
    → length ks ≡ 10 → Listed text (stating f slot rank (kinds_up_to ks 10)) (AreStated ks 10)
    → Listed text (stating f slot rank ks) Any
kinds_end text f slot rank ks long listed =
    listed_same text (stating f slot rank (kinds_up_to ks 10)) (stating f slot rank ks)
    (AreStated ks 10) Any
    (ap (λ (xs : List StatedKind). stating f slot rank xs)
    (append-nil (take 10 ks) ∙ take_all 10 ks (omega (arith, long))))
    (λ rest d. stated_all ks rest long) listed
