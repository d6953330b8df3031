-- What the published value shows.
use Rattle.std.specs.Prelude.{◌≡◌, List, fold, None}
use Rattle.isa.specs.declared.hook.Hook.TheVariants.{Count, Tag, Price, Veto}
use Rattle.logbook.specs.Pages.{Book}
use Rattle.hooks.specs.declared.operation.LoaderOperation.{LoaderOperation}
use Rattle.hooks.specs.declared.history.HistoryPrefix.{HistoryPrefix}
use Rattle.hooks.specs.declared.value.Programs.{Programs}
use Rattle.hooks.specs.declared.value.HistoryEntry.{HistoryEntry}
use Rattle.hooks.specs.Operations.{after, leaves}

-- the published operations
abbrev pub published_operations : Programs → List LoaderOperation
published_operations p = p.prefix.seen.log

-- their history
abbrev pub history : Programs → Book
history p = p.prefix.seen.book

-- no program is attached at any hook
abbrev pub vacant : HistoryPrefix → Programs
vacant prefix = record { count = None; tag = None; price = None; veto = None; prefix = prefix }

-- each slot shows what the operations leave at its hook
abbrev pub ShowsOperations : Programs → Type 0
ShowsOperations p =
    (p.count ≡ leaves Count (published_operations p))
    × (p.tag ≡ leaves Tag (published_operations p))
    × (p.price ≡ leaves Price (published_operations p))
    × (p.veto ≡ leaves Veto (published_operations p))

-- the value after one more operation
abbrev pub after_operation : Programs → HistoryEntry → Programs
after_operation p e =
    record {
      count = after Count p.count e.operation;
      tag = after Tag p.tag e.operation;
      price = after Price p.price e.operation;
      veto = after Veto p.veto e.operation;
      prefix = e.prefix;
    }

-- the value with these entries remains valid, with the same history
abbrev pub Fits : Programs → List HistoryEntry → Type 0
Fits p entries =
    ShowsOperations p → ShowsOperations (fold after_operation p entries)
    × (history (fold after_operation p entries) ≡ history p)
