-- Lines of functions and sections that were built, one behind the other.
use Rattle.std.proofs.Common.{◌≡◌, ◌∙◌, ◌+◌, ◌||◌, ◌++◌, ap, subst, sym, refl, ℕ, List, [], Bool}
use Rattle.std.proofs.Common.{true, false, Option, Some, None, Ok, Err, inl, inr, length}
use Rattle.std.proofs.Common.{add-one}
use Rattle.std.specs.Prelude.{◌⊎◌, IfErr, IfOk, IfSome, IsSome, Result, is_err, slice_get}
use Rattle.std.specs.Prelude.{string_bytes}
use Rattle.annotations.specs.Annotated.{IsAnnotation, with_found}
use Rattle.annotations.specs.declared.fuel.Fuel.{Fuel}
use Rattle.elf.specs.Files.{IsObjectFile, section_count, section_name}
use Rattle.elf.specs.Lists.{HasBytes, HasSymbol, functions_of, relocations_of, symbol_bytes}
use Rattle.elf.specs.Lists.{symbol_name}
use Rattle.elf.specs.declared.lists.LinkedSymbol.{LinkedSymbol}
use Rattle.explanations.specs.Told.{TellsVerdict}
use Rattle.isa.specs.Hooks.{hook_name}
use Rattle.object.specs.Objects.{ObjectParts}
use Rattle.hooktool_trials.specs.Stops.{KnownFiles}
use Rattle.verifier.specs.Verdicts.{Accepts}
use Rattle.verifier.specs.declared.error.VerifyError.{VerifyError}
use Rattle.verifier.specs.Programs.{Program}
use Rattle.isa.specs.declared.hook.Hook.{Hook}
use Rattle.hooktool.specs.Annotations.{fuel_for}
use Rattle.hooktool.specs.Builds.{AreBuiltFunctions, AreBuiltSections, HasProgram}
use Rattle.hooktool.specs.Builds.{IsBuilt, IsBuiltAt}
use Rattle.hooktool.specs.Builds.{IsBuiltFunction, IsBuiltSection, IsHookOf, TellsFunction}
use Rattle.hooktool.specs.Builds.{IsPlaced, Wanted, built_text, is_file_name}
use Rattle.hooktool.specs.Builds.{is_program_section, object_path}
use Rattle.hooktool.specs.Explanations.{IsExplained}
use Rattle.hooktool.specs.Orders.{IsBuiltCode, IsHandedOut, IsJoined, folder_of}
use Rattle.hooktool.specs.declared.building.Purpose.{Purpose}
use Rattle.hooktool.specs.declared.building.Purpose.TheVariants as purposes
use Rattle.hooktool.specs.Faults.{IsBuildFault}
use Rattle.hooktool.specs.declared.fault.HooktoolFault.{HooktoolFault}
use Rattle.hooktool.specs.declared.fault.HooktoolFault.TheVariants as faults
use Rattle.hooktool.specs.declared.report.CommandReport.{CommandReport}

-- ---- of what a function hands on

-- what follows of each report
pub told_more : {E : Type 0} (P Q : CommandReport → Type 0) (r : Result CommandReport E)
    → ((report : CommandReport) → P report → Q report) → IfOk r P → IfOk r Q
told_more {E} P Q (Ok report) more is = more report is
told_more {E} P Q (Err e) more is = tt

-- both that is known of each report
pub told_both : {E : Type 0} (P Q : CommandReport → Type 0) (r : Result CommandReport E)
    → IfOk r P → IfOk r Q → IfOk r (λ report. P report × Q report)
told_both {E} P Q (Ok report) is also = (is, also)
told_both {E} P Q (Err e) is also = tt

-- a refusal, whatever else may be told
pub refused_or : {E : Type 0} (A : CommandReport → Type 0) (r : Result CommandReport E)
    → IfOk r (λ report. report.is_refused ≡ true)
    → IfOk r (λ report. (report.is_refused ≡ true) ⊎ A report)
refused_or {E} A (Ok report) is = inl is
refused_or {E} A (Err e) is = tt

-- want of memory, whatever is made
pub memory_built : {T : Type 0} (known : KnownFiles) (purpose : Purpose)
    (r : Result T HooktoolFault) → IfErr r (λ fault. fault ≡ faults.Memory)
    → IfErr r (IsBuildFault known purpose)
memory_built {T} known purpose (Ok value) is = tt
memory_built {T} known purpose (Err fault) is = inl is

-- ---- of what is added

-- a fault of what is added, or want of memory
pub added_fault : (known : KnownFiles) (purpose : Purpose)
    (more : Result CommandReport HooktoolFault) (fault : HooktoolFault)
    → (fault ≡ faults.Memory) ⊎ (more ≡ Err fault) → IfErr more (IsBuildFault known purpose)
    → IsBuildFault known purpose fault
added_fault known purpose more fault is own = elim is [
  | inl memory ↦ inl memory
  | inr same ↦ subst
      (λ (r : Result CommandReport HooktoolFault). IfErr r (IsBuildFault known purpose)) same own
]

ok≢err : (report : CommandReport) (fault : HooktoolFault)
    → ◌≡◌ {A = Result CommandReport HooktoolFault} (Ok report) (Err fault) → ⊥
ok≢err report fault e = cc

-- to add what there is lacks nothing but memory
pub added_lacks : (more : CommandReport) (r : Result CommandReport HooktoolFault)
    → IfErr r (λ fault. (fault ≡ faults.Memory)
    ⊎ ◌≡◌ {A = Result CommandReport HooktoolFault} (Ok more) (Err fault))
    → IfErr r (λ fault. fault ≡ faults.Memory)
added_lacks more (Ok report) is = tt
added_lacks more (Err fault) is = elim is [
  | inl memory ↦ memory
  | inr same ↦ absurd (ok≢err more fault same)
]

-- ---- functions

-- what is told of a function's code is told of the function
pub function_built : (file : List ℕ) (wanted : Wanted) (hook : Hook) (function : LinkedSymbol)
    (name code : List ℕ) (report : CommandReport) → HasSymbol file function.table function.index
    → name ≡ symbol_name file function.table function.index → HasBytes file function.symbol
    → code ≡ symbol_bytes file function.symbol → IsBuiltCode wanted hook name code report
    → (report.is_refused ≡ true) ⊎ IsBuiltFunction file wanted hook function
    (string_bytes report.text)
function_built file wanted hook function name code report named name_is has code_is built =
    elim built [
      | inl refused ↦ inl refused
      | inr found ↦ inr (record {
        named = named;
        plain = subst (λ (n : List ℕ). is_file_name n ≡ true) name_is found.plain;
        has_code = has;
        object = found.object;
        bytes = found.bytes;
        accepted = found.accepted;
        found = found.found;
        untold = found.untold;
        written = subst (λ (n : List ℕ). IsPlaced wanted n found.bytes) name_is found.written;
        annotation = subst (λ (c : List ℕ). IsAnnotation hook
            (with_found (fuel_for hook wanted.fuel) found.found) c found.object found.bytes
            found.accepted) code_is found.annotation;
        told = subst (λ (n : List ℕ). TellsFunction wanted.folder n (hook_name hook) found.accepted
            found.found (string_bytes report.text)) name_is found.told;
      })
    ]

true≢false : true ≡ false → ⊥
true≢false e = cc

first_true : (a b : Bool) → a ≡ true → (a || b) ≡ true
first_true true b h = refl
first_true false b h = absurd cc

second_true : (a b : Bool) → b ≡ true → (a || b) ≡ true
second_true true b h = refl
second_true false b h = h

-- a line more
pub functions_more : (file : List ℕ) (wanted : Wanted) (hook : Hook) (functions : List LinkedSymbol)
    (function : LinkedSymbol) (n : ℕ) (before : CommandReport)
    (more : Result CommandReport HooktoolFault) (after : CommandReport)
    → (before.is_refused ≡ true) ⊎ AreBuiltFunctions file wanted hook functions n
    (string_bytes before.text)
    → IfOk more (λ report. (report.is_refused ≡ true)
    ⊎ IsBuiltFunction file wanted hook function (string_bytes report.text))
    → slice_get functions n ≡ Some function → IsJoined before more after
    → (after.is_refused ≡ true)
    ⊎ AreBuiltFunctions file wanted hook functions (n + 1)
    (string_bytes after.text)
functions_more file wanted hook functions function n before (Ok more) after so_far built at joined
    = elim so_far [
      | inl was ↦ inl (joined.1 ∙ first_true before.is_refused more.is_refused was)
      | inr lines ↦ elim built [
        | inl is ↦ inl (joined.1 ∙ second_true before.is_refused more.is_refused is)
        | inr line ↦ inr (rw add-one (
          string_bytes before.text,
          string_bytes more.text,
          function,
          lines,
          at,
          line,
          joined.0,
        ))
      ]
    ]
functions_more file wanted hook functions function n before (Err fault) after so_far built at joined
    = absurd joined

-- the lines of a section more
pub sections_more : (file : List ℕ) (wanted : Wanted) (i : ℕ) (before : CommandReport)
    (more : Result CommandReport HooktoolFault) (after : CommandReport)
    → (before.is_refused ≡ true) ⊎ AreBuiltSections file wanted i (string_bytes before.text)
    → IfOk more (λ report. (report.is_refused ≡ true)
    ⊎ IsBuiltAt file wanted i (string_bytes report.text)) → IsJoined before more after
    → (after.is_refused ≡ true)
    ⊎ AreBuiltSections file wanted (i + 1) (string_bytes after.text)
sections_more file wanted i before (Ok more) after so_far built joined = elim so_far [
  | inl was ↦ inl (joined.1 ∙ first_true before.is_refused more.is_refused was)
  | inr lines ↦ elim built [
    | inl is ↦ inl (joined.1 ∙ second_true before.is_refused more.is_refused is)
    | inr section ↦ inr (rw add-one (
      string_bytes before.text,
      string_bytes more.text,
      lines,
      section,
      joined.0,
    ))
  ]
]
sections_more file wanted i before (Err fault) after so_far built joined = absurd joined

-- a section whose functions were built
pub section_built : (file : List ℕ) (wanted : Wanted) (i : ℕ) (hook : Hook)
    (functions : List LinkedSymbol) (report : CommandReport)
    → IsHookOf wanted.hook (section_name file i) hook → relocations_of file i ≡ []
    → functions ≡ functions_of file i
    → (report.is_refused ≡ true) ⊎ AreBuiltFunctions file wanted hook functions
    (length functions) (string_bytes report.text)
    → (report.is_refused ≡ true)
    ⊎ IsBuiltSection file wanted i (string_bytes report.text)
section_built file wanted i hook functions report hook_is none are built = elim built [
  | inl refused ↦ inl refused
  | inr lines ↦ inr (record {
    hook = hook;
    hook_is = hook_is;
    relocations = none;
    functions = subst (λ (fs : List LinkedSymbol). AreBuiltFunctions file wanted hook fs (length fs)
        (string_bytes report.text)) are lines;
  })
]

-- what is told of a file that has a program
pub program_built : (file : List ℕ) (wanted : Wanted) (report : CommandReport) → HasProgram file
    → (report.is_refused ≡ true)
    ⊎ AreBuiltSections file wanted (section_count file) (string_bytes report.text)
    → (report.is_refused ≡ true)
    ⊎ (HasProgram file
    × AreBuiltSections file wanted (section_count file) (string_bytes report.text))
program_built file wanted report has built = elim built [
  | inl refused ↦ inl refused
  | inr sections ↦ inr (has, sections)
]

-- what is told of a whole file
pub file_built : (file bytes : List ℕ) (wanted : Wanted) (report : CommandReport) → file ≡ bytes
    → IsObjectFile bytes → (report.is_refused ≡ true)
    ⊎ (HasProgram file
    × AreBuiltSections file wanted (section_count file) (string_bytes report.text))
    → IsBuilt bytes wanted report
file_built file bytes wanted report is object built = elim built [
  | inl refused ↦ inl refused
  | inr both ↦ inr (
    object,
    subst (λ (f : List ℕ). HasProgram f) is both.0,
    subst
        (λ (f : List ℕ). AreBuiltSections f wanted (section_count f) (string_bytes report.text)) is
        both.1,
  )
]

-- a section with instructions, and nothing of another one
pub built_at : {E : Type 0} (file : List ℕ) (wanted : Wanted) (i : ℕ) (r : Result CommandReport E)
    → is_program_section file i ≡ true
    → IfOk r (λ report. (report.is_refused ≡ true)
    ⊎ IsBuiltSection file wanted i (string_bytes report.text))
    → IfOk r (λ report. (report.is_refused ≡ true)
    ⊎ IsBuiltAt file wanted i (string_bytes report.text))
built_at {E} file wanted i (Ok report) has built = elim built [
  | inl refused ↦ inl refused
  | inr section ↦ inr ((λ _. section), (λ none. absurd (true≢false (sym has ∙ none))))
]
built_at {E} file wanted i (Err e) has built = tt

-- behind the last function
pub functions_all : (file : List ℕ) (wanted : Wanted) (hook : Hook) (functions : List LinkedSymbol)
    (n : ℕ) (report : CommandReport) → n ≡ length functions
    → (report.is_refused ≡ true) ⊎ AreBuiltFunctions file wanted hook functions n
    (string_bytes report.text) → (report.is_refused ≡ true)
    ⊎ AreBuiltFunctions file wanted hook functions (length functions)
    (string_bytes report.text)
functions_all file wanted hook functions n report all so_far =
    subst (λ (m : ℕ). (report.is_refused ≡ true)
    ⊎ AreBuiltFunctions file wanted hook functions m (string_bytes report.text)) all so_far

-- behind the last section
pub sections_all : (file : List ℕ) (wanted : Wanted) (n : ℕ) (report : CommandReport)
    → n ≡ section_count file → (report.is_refused ≡ true)
    ⊎ AreBuiltSections file wanted n (string_bytes report.text)
    → (report.is_refused ≡ true) ⊎ AreBuiltSections file wanted (section_count file)
    (string_bytes report.text)
sections_all file wanted n report all so_far =
    subst (λ (m : ℕ). (report.is_refused ≡ true)
    ⊎ AreBuiltSections file wanted m (string_bytes report.text)) all so_far

-- the code of a function whose object was written
pub code_built : (wanted : Wanted) (hook : Hook) (folder shown name code : List ℕ)
    (object : ObjectParts) (bytes : List ℕ) (accepted : Program) (fuel : Fuel) (turns : Option ℕ)
    (report : CommandReport) → wanted.folder ≡ Some folder → fuel ≡ fuel_for hook wanted.fuel
    → IsAnnotation hook (with_found fuel turns) code object bytes accepted → shown ≡ name
    → wanted.written (object_path folder shown) bytes
    → string_bytes report.text ≡ built_text folder shown (hook_name hook) accepted turns
    → is_file_name name ≡ true → (IsSome fuel.turns → turns ≡ None)
    → IsBuiltCode wanted hook name code report
code_built wanted hook folder shown name code object bytes accepted fuel turns report folder_is
    fuel_is annotation is written told plain untold = inr (record {
      plain = plain;
      object = object;
      bytes = bytes;
      accepted = accepted;
      found = turns;
      untold = subst (λ (f : Fuel). IsSome f.turns → turns ≡ None) fuel_is untold;
      written = subst (λ (f : Option (List ℕ)). IfSome f (λ folder. wanted.written
          (object_path folder name) bytes)) (sym folder_is)
          (subst (λ (n : List ℕ). wanted.written (object_path folder n) bytes) is written);
      annotation = subst (λ (f : Fuel). IsAnnotation hook (with_found f turns) code object bytes
          accepted) fuel_is annotation;
      told = subst (λ (f : Option (List ℕ)). TellsFunction f name (hook_name hook) accepted turns
          (string_bytes report.text)) (sym folder_is)
          (told ∙ ap (λ (n : List ℕ). built_text folder n (hook_name hook) accepted turns) is);
    })

-- another program that the verifier accepts in the same bytes
accepted_too : (hook : Hook) (fuel : Fuel) (code : List ℕ) (object : ObjectParts) (bytes : List ℕ)
    (one other : Program) → IsAnnotation hook fuel code object bytes one → Accepts bytes other
    → IsAnnotation hook fuel code object bytes other
accepted_too hook fuel code object bytes one other is accepts = record {
  text = is.text;
  has_code = is.has_code;
  annotation = record {
    written = is.annotation.written;
    code_is = is.annotation.code_is;
    annotated = record { is_for = is.annotation.annotated.is_for; accepts = accepts };
  };
  accepts = accepts;
}

-- the code of a function that is explained, whose verdict is told at the end
verdict_told : (wanted : Wanted) (hook : Hook) (name code : List ℕ) (object : ObjectParts)
    (bytes : List ℕ) (accepted : Program) (turns : Option ℕ) (report : CommandReport)
    (verdict : Result Program VerifyError) (before told : List ℕ) → wanted.folder ≡ None
    → IsAnnotation hook (with_found (fuel_for hook wanted.fuel) turns) code object bytes
    accepted → IfOk verdict (Accepts bytes) → TellsVerdict verdict told
    → string_bytes report.text ≡ before ++ told → report.is_refused ≡ is_err verdict
    → is_file_name name ≡ true → (IsSome wanted.fuel.turns → turns ≡ None)
    → IsBuiltCode wanted hook name code report
verdict_told wanted hook name code object bytes accepted turns report (Ok program) before told none
    annotation accepts tells text refused plain untold = inr (record {
      plain = plain;
      object = object;
      bytes = bytes;
      accepted = program;
      found = turns;
      untold = untold;
      written = subst (λ (f : Option (List ℕ)). IfSome f (λ folder. wanted.written
          (object_path folder name) bytes)) (sym none) tt;
      annotation = accepted_too hook (with_found (fuel_for hook wanted.fuel) turns) code object
          bytes
          accepted program annotation accepts;
      told = subst (λ (f : Option (List ℕ)). TellsFunction f name (hook_name hook) program turns
          (string_bytes report.text)) (sym none)
          (before, text ∙ ap (λ (t : List ℕ). before ++ t) tells);
    })
verdict_told wanted hook name code object bytes accepted turns report (Err error) before told none
    annotation accepts tells text refused plain untold = inl refused

pub code_explained : (wanted : Wanted) (hook : Hook) (name code : List ℕ) (object : ObjectParts)
    (bytes : List ℕ) (accepted : Program) (fuel : Fuel) (turns : Option ℕ) (report : CommandReport)
    → wanted.folder ≡ None → fuel ≡ fuel_for hook wanted.fuel
    → IsAnnotation hook (with_found fuel turns) code object bytes accepted
    → IsExplained bytes report → is_file_name name ≡ true
    → (IsSome fuel.turns → turns ≡ None) → IsBuiltCode wanted hook name code report
code_explained wanted hook name code object bytes accepted fuel turns report none fuel_is annotation
    is plain untold =
    verdict_told wanted hook name code object bytes accepted turns report is.verdict is.before
    is.told none
    (subst (λ (f : Fuel). IsAnnotation hook (with_found f turns) code object bytes accepted) fuel_is
    annotation) is.accepts is.tells is.text_is is.refused plain
    (subst (λ (f : Fuel). IsSome f.turns → turns ≡ None) fuel_is untold)

-- the code of a function whose object was handed out
pub code_handed_out : (wanted : Wanted) (purpose : Purpose) (hook : Hook)
    (shown name code : List ℕ) (object : ObjectParts) (bytes : List ℕ) (accepted : Program)
    (fuel : Fuel) (turns : Option ℕ) (report : CommandReport) → wanted.folder ≡ folder_of purpose
    → fuel ≡ fuel_for hook wanted.fuel
    → IsAnnotation hook (with_found fuel turns) code object bytes accepted → shown ≡ name
    → IsHandedOut wanted.written purpose shown (hook_name hook) bytes accepted turns report
    → is_file_name name ≡ true → (IsSome fuel.turns → turns ≡ None)
    → IsBuiltCode wanted hook name code report
code_handed_out wanted (purposes.Object folder) hook shown name code object bytes accepted fuel
    turns report folder_is fuel_is annotation is made plain untold =
    code_built wanted hook folder.now shown name code object bytes accepted fuel turns report
    folder_is fuel_is annotation is made.0 made.1 plain untold
code_handed_out wanted purposes.Explanation hook shown name code object bytes accepted fuel turns
    report folder_is fuel_is annotation is made plain untold =
    code_explained wanted hook name code object bytes accepted fuel turns report folder_is fuel_is
    annotation made plain untold
