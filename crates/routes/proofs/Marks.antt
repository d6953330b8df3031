-- The marks after one more step.
use Rattle.std.proofs.Common.{◌≡◌, ℕ, ◌+◌, ◌<◌, ◌⊎◌, List, Bool, false, length, map, get_or, take}
use Rattle.std.proofs.Common.{subst, inl, inr}
use Rattle.std.specs.Prelude.{Result, Ok, Err, OnOk}
use Rattle.std.proofs.lemmas.List.Elements.{All-map, All-more, All-weaker}
use Rattle.std.specs.List.{All}
use Rattle.routes.specs.declared.hop.Hop.{Hop}
use Rattle.routes.specs.Loops.{AreLoops, AreLoopsSoFar, AreReached, ComesBack}
use Rattle.routes.specs.Loops.{GoesRoundOnly, HoldsWholeLoops, IsAmong, IsBoth, IsMarked}
use Rattle.routes.specs.Loops.{IsMarkedBefore, MarksBetween, MarksLoopsAt}
use Rattle.routes.specs.Loops.{MarksLoopsBefore, Place, Walk, reversed_hop}
use Rattle.routes.proofs.Walks.{all_loops, join, turned_back, turned_to}

-- what is marked in both lists leads to the place
after_both : (hops : List Hop) (place k : Place) (ahead behind old new : List Bool)
    → ((e : Place) → IsMarked behind e → Walk (map reversed_hop hops) place e)
    → IsMarked old k ⊎ (IsMarked ahead k × IsMarked behind k)
    → IsMarked old k ⊎ (IsMarked ahead k × Walk hops k place)
after_both hops place k ahead behind old new sound (inl kept) = inl kept
after_both hops place k ahead behind old new sound (inr both) =
    inr (both.0, turned_back (sound k both.1))

-- what leads to the place is marked in both lists
before_both : (hops : List Hop) (place k : Place) (ahead behind old new : List Bool)
    → ((e : Place) → Walk (map reversed_hop hops) place e → IsMarked behind e)
    → IsMarked old k ⊎ (IsMarked ahead k × Walk hops k place)
    → IsMarked old k ⊎ (IsMarked ahead k × IsMarked behind k)
before_both hops place k ahead behind old new complete (inl kept) = inl kept
before_both hops place k ahead behind old new complete (inr both) =
    inr (both.0, complete k (turned_to both.1))

-- what is marked in both lists, the second one being that of the reversed hops
pub between : (hops : List Hop) (place : Place) (ahead behind old new : List Bool)
    → AreReached (map reversed_hop hops) place behind
    → ((e : Place) → Walk (map reversed_hop hops) place e → IsMarked behind e)
    → ((k : Place) → IsBoth ahead behind old new k) → MarksBetween hops place ahead old new
between hops place ahead behind old new sound complete both = λ k. (
  λ marked. after_both hops place k ahead behind old new sound ((both k).0 marked),
  λ either. (both k).1 (before_both hops place k ahead behind old new complete either),
)

-- each marked router is on a loop
round_sound : (hops : List Hop) (place k : Place) (ahead old : List Bool) → GoesRoundOnly hops old
    → AreReached hops place ahead → IsMarked old k ⊎ (IsMarked ahead k × Walk hops k place)
    → ComesBack hops k
round_sound hops place k ahead old sound reached (inl kept) = sound k kept
round_sound hops place k ahead old sound reached (inr both) = join both.1 (reached k both.0)

-- whole loops are marked
round_whole : (hops : List Hop) (place one other : Place) (ahead old : List Bool)
    → HoldsWholeLoops hops old → AreReached hops place ahead
    → ((k : Place) → Walk hops place k → IsMarked ahead k) → Walk hops one other
    → Walk hops other one → IsMarked old one ⊎ (IsMarked ahead one × Walk hops one place)
    → IsMarked old other ⊎ (IsMarked ahead other × Walk hops other place)
round_whole hops place one other ahead old whole reached complete there back (inl kept) =
    inl (whole one other kept there back)
round_whole hops place one other ahead old whole reached complete there back (inr both) =
    inr (complete other (join (reached one both.0) there), join back both.1)

-- what is between the place and itself is marked
pub marks_round : (hops : List Hop) (place : Place) (ahead old new : List Bool)
    → GoesRoundOnly hops old → HoldsWholeLoops hops old → AreReached hops place ahead
    → ((k : Place) → Walk hops place k → IsMarked ahead k)
    → MarksBetween hops place ahead old new → MarksLoopsAt hops place old new
marks_round hops place ahead old new sound whole reached complete between = record {
  sound = λ k marked. round_sound hops place k ahead old sound reached ((between k).0 marked);
  whole = λ one other marked there back. (between other).1
      (round_whole hops place one other ahead old whole reached complete there back
      ((between one).0 marked));
  kept = λ k marked. (between k).1 (inl marked);
  marked = λ loop. (between place).1 (inr (complete place loop, loop));
}

-- no loop goes through the place
pub marks_none : (hops : List Hop) (place : Place) (ahead old : List Bool) → GoesRoundOnly hops old
    → HoldsWholeLoops hops old → ((k : Place) → Walk hops place k → IsMarked ahead k)
    → get_or ahead place false ≡ false → MarksLoopsAt hops place old old
marks_none hops place ahead old sound whole complete off = record {
  sound = sound;
  whole = whole;
  kept = λ k marked. marked;
  marked = λ loop. let on = complete place loop in absurd (cc);
}

-- if all loops through the router before a hop are marked, that router is too
pub before_from_at : (hops : List Hop) (costs : List ℕ) (hop : Hop) (old new : List Bool)
    → MarksLoopsAt hops hop.from old new → MarksLoopsBefore hops costs hop old new
before_from_at hops costs hop old new at = record {
  sound = at.sound;
  whole = at.whole;
  kept = at.kept;
  marked = λ rises loop. at.marked loop;
}

-- if the router before a hop needs no mark, nothing changes
pub before_none : (hops : List Hop) (costs : List ℕ) (hop : Hop) (old : List Bool)
    → GoesRoundOnly hops old → HoldsWholeLoops hops old → IsMarkedBefore hops costs old hop
    → MarksLoopsBefore hops costs hop old old
before_none hops costs hop old sound whole before = record {
  sound = sound;
  whole = whole;
  kept = λ k marked. marked;
  marked = before;
}

-- what holds after one more hop
pub one_more : (hops : List Hop) (costs : List ℕ) (old new : List Bool) (n : ℕ) (d : Hop)
    → n < length hops → AreLoopsSoFar hops costs old n
    → MarksLoopsBefore hops costs (get_or hops n d) old new
    → AreLoopsSoFar hops costs new (n + 1)
one_more hops costs old new n d within so_far more = record {
  sound = more.sound;
  whole = more.whole;
  before = All-more (IsMarkedBefore hops costs new) hops n d within
      (All-weaker (IsMarkedBefore hops costs old) (IsMarkedBefore hops costs new)
      (λ hop before rises loop. more.kept hop.from (before rises loop)) (take n hops)
      so_far.before) more.marked;
}

-- after all hops exactly the routers on loops are marked
pub all_of_them : (hops : List Hop) (costs : List ℕ) (marks : List Bool)
    → length marks ≡ length costs → GoesRoundOnly hops marks → HoldsWholeLoops hops marks
    → All (IsMarkedBefore hops costs marks) hops → AreLoops hops (length costs) marks
all_of_them hops costs marks count sound whole before = record {
  count = count;
  exact = λ place within. (sound place, all_loops hops costs marks whole before place);
}

-- reversed hops are between the same routers
pub turned_among : (n : ℕ) (hops : List Hop) → All (IsAmong n) hops
    → All (IsAmong n) (map reversed_hop hops)
turned_among n hops all = All-map (IsAmong n) reversed_hop hops
    (All-weaker (IsAmong n) (λ h. IsAmong n (reversed_hop h)) (λ h among. (among.1, among.0)) hops
    all)

-- `between`, for equal lists
pub between_at : (hops back : List Hop) (place : Place) (ahead behind seen old new : List Bool)
    → back ≡ map reversed_hop hops → seen ≡ behind → AreReached back place behind
    → ((k : Place) → Walk back place k → IsMarked behind k)
    → ((k : Place) → IsBoth ahead seen old new k) → MarksBetween hops place ahead old new
between_at hops back place ahead behind seen old new turns same sound complete both =
    let A : List Hop → Type 0 = λ xs. AreReached xs place behind in
    let B : List Hop → Type 0 = λ xs. (k : Place) → Walk xs place k → IsMarked behind k in
    let C : List Bool → Type 0 = λ xs. (k : Place) → IsBoth ahead xs old new k in
    between hops place ahead behind old new (subst A turns sound) (subst B turns complete)
    (subst C same both)

-- what follows from a fact about `Ok`
pub on_ok : {T E : Type 0} (P Q : Type 0) (r : Result T E) → (P → Q) → OnOk r P → OnOk r Q
on_ok P Q (Ok x) f p = f p
on_ok P Q (Err e) f p = p
