-- What the LSAs of a database say at a moment, which determines the routes (RFC 2328, section 16).
use Rattle.std.specs.Prelude.{ℕ, Option}
use Rattle.std.specs.FinMap as finite
use Rattle.words.specs.declared.key.Key.{Key}
use Rattle.lsa.specs.declared.body.LsaBody.{LsaBody}
use Rattle.lsdb.specs.Copies.{Database}
pub use Rattle.lsdb.specs.Copies.{contents_of}

-- what the LSA of each key says, if there is one
abbrev pub Contents : Type 0
Contents = Key → Option LsaBody

abbrev pub contents_at : ℕ → Database → Contents
contents_at moment db key = contents_of moment (finite.get db key)
