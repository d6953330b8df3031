-- The list of segment starts says what the statements say.
use Rattle.std.proofs.Common.{◌≡◌, ◌≢◌, ℕ, zero, suc, ◌+◌, ◌<◌, ◌≤◌, true, false, List, [], ◌∷◌}
use Rattle.std.proofs.Common.{◌++◌, Option, Some, None, ⊎_elim, refl, sym, ◌∙◌, subst, get_or, set}
use Rattle.std.proofs.Common.{length, arith, get_or-set_other, get_or-set_same, length-set}
use Rattle.std.specs.Prelude.{IsSome, IsSomeAnd, nat_eq}
use Rattle.std.proofs.lemmas.Bool.{cases_eq}
use Rattle.std.proofs.lemmas.Bool.Decides.{nat_tests}
use Rattle.std.proofs.lemmas.Option.{none-some, same_Some}
use Rattle.object.specs.Statements.{StatementParts}
use Rattle.object.specs.Objects.{AreStatements}
use Rattle.machine.specs.declared.state.State.{State as Machine}
use Rattle.kinds.specs.declared.statement.SegmentStart.{SegmentStart}
use Rattle.kinds.specs.Meaning.{SegmentStartHolds}
use Rattle.kinds.specs.Stated.{GivesStated, MeetsStatement}
use Rattle.verifier.specs.Places.{segment_start_at}
use Rattle.verifier.specs.SegmentsStated.{statement_at, IsSegmentStartOf, Agrees, AreSegmentStarts}
use Rattle.verifier.specs.SegmentsStated.{MeetStatements}

-- appending the default changes no element
pub pushed_default : {A : Type 0} (xs : List A) (d : A) (r : ℕ)
    → get_or (xs ++ d ∷ []) r d ≡ get_or xs r d
pushed_default [] d zero = refl
pushed_default [] d (suc r) = refl
pushed_default (x ∷ xs) d zero = refl
pushed_default (x ∷ xs) d (suc r) = pushed_default xs d r

-- ---- what the list says at one slot

pub none_isn't_some : {A : Type 0} (o : Option A) → o ≡ None → IsSome o → ⊥
none_isn't_some None none some = cc
none_isn't_some (Some x) none some = cc

stated_agrees : {D : Type 0} (contains : D → ℕ → Type 0) (stated : Option StatementParts)
    (found : Option (SegmentStart D)) → Agrees contains stated found → found ≡ None → stated ≡ None
stated_agrees contains None found agrees none = refl
stated_agrees contains (Some s) None agrees none = absurd agrees
stated_agrees contains (Some s) (Some segment) agrees none = cc

found_agrees : {D : Type 0} (contains : D → ℕ → Type 0) (stated : Option StatementParts)
    (found : Option (SegmentStart D)) → Agrees contains stated found → stated ≡ None → found ≡ None
found_agrees contains None None agrees none = refl
found_agrees contains None (Some segment) agrees none = absurd agrees
found_agrees contains (Some s) found agrees none = cc

segment_start_agrees : {D : Type 0} (contains : D → ℕ → Type 0) (stated : Option StatementParts)
    (found : Option (SegmentStart D)) (segment : SegmentStart D) → Agrees contains stated found
    → found ≡ Some segment → (s : StatementParts) × (stated ≡ Some s)
    × IsSegmentStartOf contains s segment
segment_start_agrees contains None None segment agrees some = cc
segment_start_agrees contains None (Some other) segment agrees some = absurd agrees
segment_start_agrees contains (Some s) None segment agrees some = cc
segment_start_agrees contains (Some s) (Some other) segment agrees some =
    let same : other ≡ segment = cc in
    (s, refl, subst (λ t. IsSegmentStartOf contains s t) same agrees)

statement_agrees : {D : Type 0} (contains : D → ℕ → Type 0) (stated : Option StatementParts)
    (found : Option (SegmentStart D)) (s : StatementParts) → Agrees contains stated found
    → stated ≡ Some s → (segment : SegmentStart D) × (found ≡ Some segment)
    × IsSegmentStartOf contains s segment
statement_agrees contains None found s agrees some = cc
statement_agrees contains (Some other) None s agrees some = absurd agrees
statement_agrees contains (Some other) (Some segment) s agrees some =
    let same : other ≡ s = cc in
    (segment, refl, subst (λ x. IsSegmentStartOf contains x segment) same agrees)

-- the slot of a statement has its segment start
pub segment_start_of_stated : {D : Type 0} (contains : D → ℕ → Type 0)
    (statements : List StatementParts) (segment_starts : List (Option (SegmentStart D))) (slot : ℕ)
    (s : StatementParts) → AreSegmentStarts contains statements segment_starts
    → statement_at statements slot ≡ Some s
    → (segment : SegmentStart D) × (segment_start_at segment_starts slot ≡ Some segment)
    × IsSegmentStartOf contains s segment
segment_start_of_stated contains statements segment_starts slot s are some =
    statement_agrees contains (statement_at statements slot) (segment_start_at segment_starts slot)
    s (are slot)
    some

pub unstated_of : {D : Type 0} (contains : D → ℕ → Type 0) (statements : List StatementParts)
    (segment_starts : List (Option (SegmentStart D))) (slot : ℕ)
    → AreSegmentStarts contains statements segment_starts
    → segment_start_at segment_starts slot ≡ None → statement_at statements slot ≡ None
unstated_of contains statements segment_starts slot are none =
    stated_agrees contains (statement_at statements slot) (segment_start_at segment_starts slot)
    (are slot) none

pub no_segment_start_of : {D : Type 0} (contains : D → ℕ → Type 0)
    (statements : List StatementParts) (segment_starts : List (Option (SegmentStart D))) (slot : ℕ)
    → AreSegmentStarts contains statements segment_starts → statement_at statements slot ≡ None
    → segment_start_at segment_starts slot ≡ None
no_segment_start_of contains statements segment_starts slot are none =
    found_agrees contains (statement_at statements slot) (segment_start_at segment_starts slot)
    (are slot) none

pub stated_of : {D : Type 0} (contains : D → ℕ → Type 0) (statements : List StatementParts)
    (segment_starts : List (Option (SegmentStart D))) (slot : ℕ)
    → AreSegmentStarts contains statements segment_starts
    → IsSome (segment_start_at segment_starts slot) → statement_at statements slot ≡ None
    → ⊥
stated_of contains statements segment_starts slot are some none =
    none_isn't_some (segment_start_at segment_starts slot)
    (no_segment_start_of contains statements segment_starts slot are none) some

pub statement_of_segment_start : {D : Type 0} (contains : D → ℕ → Type 0)
    (statements : List StatementParts) (segment_starts : List (Option (SegmentStart D))) (slot : ℕ)
    (segment : SegmentStart D) → AreSegmentStarts contains statements segment_starts
    → segment_start_at segment_starts slot ≡ Some segment
    → (s : StatementParts) × (statement_at statements slot ≡ Some s)
    × IsSegmentStartOf contains s segment
statement_of_segment_start contains statements segment_starts slot segment are some =
    segment_start_agrees contains (statement_at statements slot)
    (segment_start_at segment_starts slot) segment (are slot)
    some

-- ---- the list as it grows

-- the slot of a statement has its segment start; without one, what is stated is among the rest
pub Found : {D : Type 0} → (D → ℕ → Type 0) → Option StatementParts → Option StatementParts
    → Option (SegmentStart D) → Type 0
Found contains whole rest None = whole ≡ rest
Found contains whole rest (Some segment) =
    IsSomeAnd whole (λ s. IsSegmentStartOf contains s segment)

pub record AreFoundSoFar {D : Type 0} (contains : D → ℕ → Type 0) (gives : GivesStated D)
    (statements rest : List StatementParts) (size : ℕ)
    (segment_starts : List (Option (SegmentStart D))) :
    Type 0
  where
    pub long : length segment_starts ≡ size
    pub found : (slot : ℕ) → Found contains (statement_at statements slot) (statement_at rest slot)
        (segment_start_at segment_starts slot)
    pub least : ℕ
    pub ordered : AreStatements least size rest
    pub unfilled : (slot : ℕ) → least ≤ slot → segment_start_at segment_starts slot ≡ None
    pub meet : MeetStatements contains gives segment_starts

found_none : {D : Type 0} (contains : D → ℕ → Type 0) (whole rest : Option StatementParts)
    (found : Option (SegmentStart D)) → found ≡ None → whole ≡ rest
    → Found contains whole rest found
unfolding Found
found_none contains whole rest None none same = same
found_none contains whole rest (Some segment) none same = cc

found_whole : {D : Type 0} (contains : D → ℕ → Type 0) (whole rest : Option StatementParts)
    (found : Option (SegmentStart D)) → found ≡ None → Found contains whole rest found
    → whole ≡ rest
unfolding Found
found_whole contains whole rest None none same = same
found_whole contains whole rest (Some segment) none same = cc

found_some : {D : Type 0} (contains : D → ℕ → Type 0) (whole rest : Option StatementParts)
    (s : StatementParts) (segment : SegmentStart D) → whole ≡ Some s
    → IsSegmentStartOf contains s segment → Found contains whole rest (Some segment)
unfolding Found
found_some contains whole rest s segment same is = rw same is

pub none_found : {D : Type 0} (contains : D → ℕ → Type 0) (gives : GivesStated D)
    (statements : List StatementParts) (size : ℕ) (segment_starts : List (Option (SegmentStart D)))
    → length segment_starts ≡ size → ((slot : ℕ) → segment_start_at segment_starts slot ≡ None)
    → AreStatements 0 size statements
    → AreFoundSoFar contains gives statements statements size segment_starts
none_found contains gives statements size segment_starts long none ordered = record {
  long = long;
  found = λ slot. found_none contains _ _ (segment_start_at segment_starts slot) (none slot) refl;
  least = 0;
  ordered = ordered;
  unfilled = λ slot _. none slot;
  meet = λ slot segment is. absurd (none-some segment (sym (none slot) ∙ is));
}

agrees_at_end : {D : Type 0} (contains : D → ℕ → Type 0) (whole : Option StatementParts)
    (found : Option (SegmentStart D)) → Found contains whole None found
    → Agrees contains whole found
unfolding Found
agrees_at_end contains None None is = tt
agrees_at_end contains (Some s) None is = cc
agrees_at_end contains None (Some segment) is = absurd is
agrees_at_end contains (Some s) (Some segment) is = is

pub all_found : {D : Type 0} (contains : D → ℕ → Type 0) (gives : GivesStated D)
    (statements rest : List StatementParts) (size : ℕ)
    (segment_starts : List (Option (SegmentStart D)))
    → AreFoundSoFar contains gives statements rest size segment_starts → rest ≡ []
    → AreSegmentStarts contains statements segment_starts
all_found contains gives statements rest size segment_starts so_far none slot =
    agrees_at_end contains (statement_at statements slot) (segment_start_at segment_starts slot)
    (subst (λ ss. Found contains (statement_at statements slot) (statement_at ss slot)
    (segment_start_at segment_starts slot)) none (so_far.found slot))

stated_here : (s : StatementParts) (ss : List StatementParts)
    → statement_at (s ∷ ss) s.slot ≡ Some s
stated_here s ss = let same : nat_eq s.slot s.slot ≡ true = grind (arith, nat_tests) in rw same refl

stated_later : (s : StatementParts) (ss : List StatementParts) (slot : ℕ) → s.slot ≢ slot
    → statement_at (s ∷ ss) slot ≡ statement_at ss slot
stated_later s ss slot other = let apart : nat_eq s.slot slot ≡ false = grind (arith, nat_tests) in
    rw apart refl

module _ {D : Type 0} (contains : D → ℕ → Type 0) (gives : GivesStated D)
    (statements : List StatementParts) (s : StatementParts) (ss : List StatementParts) (size : ℕ)
    (segment_starts : List (Option (SegmentStart D))) (segment : SegmentStart D) where
  put : List (Option (SegmentStart D))
  put = set segment_starts s.slot (Some segment)

  found_here : AreFoundSoFar contains gives statements (s ∷ ss) size segment_starts
      → IsSegmentStartOf contains s segment → (slot : ℕ) → s.slot ≡ slot
      → Found contains (statement_at statements slot) (statement_at ss slot)
      (segment_start_at put slot)
  unfolding put
  found_here so_far is slot same =
      let inside : s.slot < length segment_starts = omega (arith, so_far.long, so_far.ordered.2) in
      let before : statement_at statements s.slot ≡ Some s =
      found_whole contains _ _ (segment_start_at segment_starts s.slot)
      (so_far.unfilled s.slot so_far.ordered.1) (so_far.found s.slot) ∙ stated_here s ss in
      let now : segment_start_at (set segment_starts s.slot (Some segment)) s.slot ≡ Some segment =
      get_or-set_same segment_starts s.slot (Some segment) None inside in
      subst (λ at. Found contains (statement_at statements at) (statement_at ss at)
      (segment_start_at (set segment_starts s.slot (Some segment)) at)) same
      (subst (λ o. Found contains (statement_at statements s.slot) (statement_at ss s.slot) o)
      (sym now)
      (found_some contains _ _ s segment before is))

  found_elsewhere : AreFoundSoFar contains gives statements (s ∷ ss) size segment_starts
      → (slot : ℕ) → slot ≢ s.slot → Found contains (statement_at statements slot)
      (statement_at ss slot) (segment_start_at put slot)
  unfolding put
  found_elsewhere so_far slot other =
      let now : segment_start_at (set segment_starts s.slot (Some segment)) slot
      ≡ segment_start_at segment_starts slot =
      get_or-set_other segment_starts s.slot slot (Some segment) None other in
      subst (λ o. Found contains (statement_at statements slot) (statement_at ss slot) o) (sym now)
      (subst (λ o. Found contains (statement_at statements slot) o
      (segment_start_at segment_starts slot))
      (stated_later s ss slot (λ e. other (sym e))) (so_far.found slot))

  meet_more : AreFoundSoFar contains gives statements (s ∷ ss) size segment_starts
      → IsSegmentStartOf contains s segment →
      ((machine : Machine) → SegmentStartHolds contains segment machine
      → MeetsStatement contains gives s machine) → MeetStatements contains gives put
  unfolding put
  meet_more so_far is meets slot other stated =
      ⊎_elim
      (λ (same : slot ≡ s.slot).
      let inside : s.slot < length segment_starts = omega (arith, so_far.long, so_far.ordered.2) in
      let there : segment_start_at (set segment_starts s.slot (Some segment)) s.slot ≡ Some other =
      subst (λ at. segment_start_at (set segment_starts s.slot (Some segment)) at ≡ Some other) same
      stated in
      let one : segment ≡ other = same_Some _ _
      (sym (get_or-set_same segment_starts s.slot (Some segment) None inside) ∙ there) in
      subst (λ t. (machine : Machine) → SegmentStartHolds contains t machine
      → MeetsStatement contains gives t.statement.now machine) one
      (λ machine holds. rw is.same (meets machine holds)))
      (λ (apart : slot ≢ s.slot). so_far.meet slot other
      (sym (get_or-set_other segment_starts s.slot slot (Some segment) None apart) ∙ stated))
      (cases_eq slot s.slot)

  pub one_more_found : AreFoundSoFar contains gives statements (s ∷ ss) size segment_starts
      → IsSegmentStartOf contains s segment →
      ((machine : Machine) → SegmentStartHolds contains segment machine
      → MeetsStatement contains gives s machine)
      → AreFoundSoFar contains gives statements ss size
      (set segment_starts s.slot (Some segment))
  unfolding put
  one_more_found so_far is meets = record {
    long = simp length-set so_far.long;
    found = λ slot. ⊎_elim
        (λ (same : slot ≡ s.slot). found_here so_far is slot (sym same))
        (λ (other : slot ≢ s.slot). found_elsewhere so_far slot other)
        (cases_eq slot s.slot);
    least = s.slot + 1;
    ordered = so_far.ordered.3;
    unfilled = λ slot above.
        let other : slot ≢ s.slot = omega (arith, above) in
        let below : so_far.least ≤ slot = omega (arith, above, so_far.ordered.1) in
        get_or-set_other segment_starts s.slot slot (Some segment) None other
        ∙ so_far.unfilled slot below;
    meet = meet_more so_far is meets;
  }
