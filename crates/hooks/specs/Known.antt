-- What the loader has done, and what an asker or a notice knows of it.
use Rattle.std.specs.Prelude.{◌≡◌, List, []}
use Rattle.logbook.specs.Pages.{Book}
use Rattle.hooks.specs.declared.operation.LoaderOperation.{LoaderOperation}
use Rattle.hooks.specs.declared.loader.Loader.{Loader}
use Rattle.hooks.specs.declared.loader.Notice.{Notice}
use Rattle.hooks.specs.declared.asker.Asker.{Asker}
use Rattle.hooks.specs.Shown.{published_operations, history}

-- its operations, in order
abbrev pub operations_of : {R : Type 0} → Loader R → List LoaderOperation
operations_of l = published_operations l.writer.desk.shown.value

-- their history
abbrev pub loader_history : {R : Type 0} → Loader R → Book
loader_history l = history l.writer.desk.shown.value

-- the operations that the loader told, and their history
abbrev pub told_by : Notice → List LoaderOperation
told_by n = n.prefix.seen.log

abbrev pub notice_history : Notice → Book
notice_history n = n.prefix.seen.book

-- all operations that the asker saw or was told, and their history
abbrev pub known_to : Asker → List LoaderOperation
known_to a = a.prefix.seen.log

abbrev pub asker_history : Asker → Book
asker_history a = a.prefix.seen.book

-- it has seen nothing and was told nothing
abbrev pub IsNew : Book → Asker → Type 0
IsNew book a = (asker_history a ≡ book) × (known_to a ≡ [])
