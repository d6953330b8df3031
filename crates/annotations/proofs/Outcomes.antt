-- What came of some code came of the code that it was made of, and of its file.
use Rattle.std.proofs.Common.{◌≡◌, ◌∙◌, ℕ, List, Option, Some, None, Result, Ok, Err, IfOk, IfErr}
use Rattle.std.proofs.Common.{IfSome, inl, subst, sym}
use Rattle.std.proofs.lemmas.Bool.{false≢true}
use Rattle.transfer.specs.declared.rule.Rule.{Rule}
use Rattle.annotations.specs.declared.verdict.EndlessLoop.{EndlessLoop}
use Rattle.isa.specs.declared.hook.Hook.{Hook}
use Rattle.annotations.specs.declared.verdict.Annotated.{Annotated}
use Rattle.annotations.specs.declared.verdict.AnnotatedObject.{AnnotatedObject}
use Rattle.annotations.specs.declared.fuel.Fuel.{Fuel}
use Rattle.annotations.specs.declared.shortfall.Shortfall.{Shortfall}
use Rattle.annotations.specs.declared.shortfall.Shortfall.TheVariants as shortfalls
use Rattle.object.specs.Objects.{ObjectParts}
use Rattle.object.specs.Spelling.{Spells}
use Rattle.annotations.specs.Annotated.{HasCode, IsAnnotation, IsCodeFor, with_found}
use Rattle.annotations.specs.Verdict.{IsFileOutcome, IsFileShortfall, IsFoundOutcome, IsOutcome}
use Rattle.annotations.specs.Verdict.{IsLoopFor, IsShortfall, IsTurnsOutcome, IsTurnsShortfall}
use Rattle.annotations.specs.Verdict.{IsUncountedLoop, IsUncountedLoopOf}

-- the same hook and code under other names
pub of_the_same : (own hook : Hook) (code text : List ℕ) (o : Result Annotated Shortfall)
    → own ≡ hook → code ≡ text → IsOutcome own code o → IsOutcome hook text o
of_the_same own hook code text o same_hook same_code h =
    subst (λ (it : Hook). IsOutcome it text o) same_hook
    (subst (λ (it : List ℕ). IsOutcome own it o) same_code h)

-- a loop that is named says no more of the code
uncounted_loop : (text : List ℕ) (rule : Rule) (endless : Option EndlessLoop)
    → IfSome endless (IsLoopFor rule) → IfSome endless (IsUncountedLoop text rule)
uncounted_loop text rule None h = tt
uncounted_loop text rule (Some loop) h = (h.0, λ lacks. absurd (false≢true (sym h.1 ∙ lacks)))

pub shortfall_with_turns : (hook : Hook) (fuel : Fuel) (text written : List ℕ) (s : Shortfall)
    → IsCodeFor fuel text written → IsShortfall hook written s → IsTurnsShortfall hook fuel text s
shortfall_with_turns hook fuel text written (shortfalls.Code error) is h = (written, is, h)
shortfall_with_turns hook fuel text written (shortfalls.Object error) is h = absurd h
shortfall_with_turns hook fuel text written (shortfalls.OtherHook other) is h = absurd h
shortfall_with_turns hook fuel text written (shortfalls.Uncounted error) is h = absurd h
shortfall_with_turns hook fuel text written (shortfalls.Refused r endless) is h = (
  record { written = written; code_is = is; rejected = h.0 },
  uncounted_loop text r.refusal.rule endless h.1,
)
shortfall_with_turns hook fuel text written shortfalls.Statements is h = (written, is, h)
shortfall_with_turns hook fuel text written shortfalls.Memory is h = tt

-- what came of code that was written for some code came of that
pub with_turns : (hook : Hook) (fuel : Fuel) (text written : List ℕ)
    (o : Result Annotated Shortfall) → IsCodeFor fuel text written → IsOutcome hook written o
    → IsTurnsOutcome hook fuel text o
with_turns hook fuel text written (Ok a) is h = record {
  written = written;
  code_is = is;
  annotated = h;
}
with_turns hook fuel text written (Err s) is h = shortfall_with_turns hook fuel text written s is h

-- the same in a file
loop_of_file : (hook : Hook) (file text : List ℕ) (rule : Rule) (endless : Option EndlessLoop)
    → HasCode hook file text → IfSome endless (IsUncountedLoop text rule)
    → IfSome endless (IsUncountedLoopOf hook file rule)
loop_of_file hook file text rule None has h = tt
loop_of_file hook file text rule (Some loop) has h = (text, has, h)

shortfall_of_file : (hook : Hook) (fuel : Fuel) (file text : List ℕ) (s : Shortfall)
    → HasCode hook file text → IsTurnsShortfall hook fuel text s → IsFileShortfall hook fuel file s
shortfall_of_file hook fuel file text (shortfalls.Code error) has h = (text, has, h)
shortfall_of_file hook fuel file text (shortfalls.Object error) has h = absurd h
shortfall_of_file hook fuel file text (shortfalls.OtherHook other) has h = absurd h
shortfall_of_file hook fuel file text (shortfalls.Uncounted error) has h = (text, has, h)
shortfall_of_file hook fuel file text (shortfalls.Refused r endless) has h = (
  record { text = text; has_code = has; rejection = h.0 },
  loop_of_file hook file text r.refusal.rule endless has h.1,
)
shortfall_of_file hook fuel file text shortfalls.Statements has h = (text, has, h)
shortfall_of_file hook fuel file text shortfalls.Memory has h = tt

-- what came of the code in a file came of the file
pub of_the_file : (hook : Hook) (fuel : Fuel) (file text : List ℕ)
    (o : Result AnnotatedObject Shortfall) → HasCode hook file text
    → IsFoundOutcome hook fuel text o → IsFileOutcome hook fuel file o
of_the_file hook fuel file text (Ok found) has h = record {
  text = text;
  has_code = has;
  annotation = h;
  accepts = h.annotated.accepts;
}
of_the_file hook fuel file text (Err s) has h = shortfall_of_file hook fuel file text s has h

-- the same of an object's file
pub of_the_object : (hook : Hook) (fuel : Fuel) (file text : List ℕ) (object : ObjectParts)
    (o : Result AnnotatedObject Shortfall) → Spells file object → object.hook ≡ hook
    → object.code ≡ text → IsFoundOutcome hook fuel text o → IsFileOutcome hook fuel file o
of_the_object hook fuel file text object o spells same_hook same_code h =
    of_the_file hook fuel file text o (inl (record {
      object = object;
      spells = spells;
      same_hook = same_hook;
      same_code = same_code;
    })) h

-- an outcome of a file in two clauses
pub accepted : (hook : Hook) (fuel : Fuel) (file : List ℕ) (o : Result AnnotatedObject Shortfall)
    → IsFileOutcome hook fuel file o → IfOk o
    (λ found. IsAnnotation hook (with_found fuel found.turns) file found.annotated.object
    found.annotated.bytes.items found.annotated.accepted)
accepted hook fuel file (Ok found) h = h
accepted hook fuel file (Err s) h = tt

pub refused : (hook : Hook) (fuel : Fuel) (file : List ℕ) (o : Result AnnotatedObject Shortfall)
    → IsFileOutcome hook fuel file o → IfErr o (IsFileShortfall hook fuel file)
refused hook fuel file (Ok found) h = tt
refused hook fuel file (Err s) h = h
