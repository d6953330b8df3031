use Rattle.hooktool.proofs.Told.{memory_status, unread_status}
use Rattle.clap.specs.Values.{kind_of}
use Rattle.hooktool.proofs.program.end_without_words.Goals as goal

pub returns-clause-memory : goal.returns-clause-memory
returns-clause-memory g c = λ refused. memory_status _ _ (kind_of c.unreadable_words-error.result) _
    (c.unreadable_words-error.ensures.memory refused) c.tell_words.ensures.status_is

pub returns-clause-told : goal.returns-clause-told
returns-clause-told g c = unread_status _ _ (kind_of c.unreadable_words-error.result) _
    c.unreadable_words-error.ensures.value c.tell_words.ensures.status_is
