use Rattle.operator.proofs.Begun.{part_of}
use Rattle.operator.proofs.laws.a_book_shows_its_table.Goals as goal

pub returns : goal.returns
returns c origin text shown =
    let offered = shown.2 in
    let is = offered.3 in
    let part = part_of offered.1 shown.0 is.table is.are_candidates is.is_table in
    (offered.0, offered.1, is.table, offered.2, is.is_table, shown.3 is.table part is.are_rows)
