-- The bodies of all LSAs of a database (RFC 2328, section 16).
use Rattle.std.specs.Prelude.{◌≡◌, ℕ, ◌↔◌, List, Option, Some}
use Rattle.std.specs.List.{AllPairs, Contains}
use Rattle.std.specs.declared.cmp.Ordering.TheVariants.{Less}
use Rattle.words.specs.declared.key.Key.{Key}
use Rattle.lsa.specs.declared.body.LsaBody.{LsaBody}
use Rattle.lsdb.specs.Changes.{IsUpTo}
use Rattle.lsdb.specs.Keys.{key_cmp}

-- in the order of the keys, each once
abbrev pub InOrder : List (Key × LsaBody) → Type 0
InOrder bodies = AllPairs (λ (a : Key × LsaBody) (b : Key × LsaBody). key_cmp a.0 b.0 ≡ Less) bodies

-- exactly the keys of LS types up to this one, or of all types, whose LSAs have a body that counts,
-- each once and with that body, in the order of the keys
pub record AreBodies (last : Option ℕ) (contents : Key → Option LsaBody)
    (bodies : List (Key × LsaBody)) : Type 0 where
  pub each : (key : Key) (body : LsaBody) → Contains bodies (key, body)
      ↔ (IsUpTo last key × (contents key ≡ Some body))
  pub ascend : InOrder bodies
