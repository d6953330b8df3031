-- The elements of a list with one more element at the front, and lists of which nothing is asked.
use Rattle.std.proofs.Common.{List, [], ◌∷◌}
use Rattle.std.specs.List.{AllByRecursion}
pub use Rattle.lsdb.proofs.Entries.{later_is, of_cons, of_empty}

pub none_asked : {X : Type 0} (xs : List X) → AllByRecursion (λ x. Unit {0}) xs
none_asked [] = tt
none_asked (x ∷ xs) = (tt, none_asked xs)
