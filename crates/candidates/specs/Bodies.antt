-- The LSAs whose offers are gathered, as a list of what they say.
use Rattle.std.specs.Prelude.{◌≡◌, ℕ, ◌≤◌, List, Some}
use Rattle.std.specs.List.{Contains}
use Rattle.words.specs.declared.key.Key.{Key}
use Rattle.lsa.specs.declared.body.LsaBody.{LsaBody}
use Rattle.routes.specs.Contents.{Contents}
use Rattle.routes.specs.declared.offer.Offer.{Offer}

-- each says what it says in the database, and all of the types up to `last` are among them
pub record HaveAll (last : ℕ) (contents : Contents) (bodies : List (Key × LsaBody)) : Type 0 where
  pub each : (key : Key) (its_body : LsaBody) → Contains bodies (key, its_body) → contents key
      ≡ Some its_body
  pub all : (key : Key) (its_body : LsaBody) → key.ls_type ≤ last → contents key ≡ Some its_body
      → Contains bodies (key, its_body)

-- one of the LSAs of the database offers it
abbrev pub OfContents : (Key × LsaBody → Offer → Type 0) → Contents → Offer → Type 0
OfContents Q contents o = (one : Key × LsaBody) × (contents one.0 ≡ Some one.1) × Q one o
