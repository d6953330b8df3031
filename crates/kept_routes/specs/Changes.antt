-- The destinations that changed AS-external-LSAs advertise (RFC 2328, section 16.6).
use Rattle.std.specs.Prelude.{◌≡◌, ◌⊎◌, List, Some}
use Rattle.std.specs.List.{Contains}
use Rattle.lsa.specs.declared.body.LsaBody.TheVariants as body
use Rattle.lsa.specs.declared.body.ExternalLsa.{ExternalLsa}
use Rattle.routes.specs.Offers.{IsPrefix}
use Rattle.routes.specs.Contents.{Contents}
use Rattle.words.specs.Prefixes.{Network}
use Rattle.words.specs.declared.key.Key.{Key}

-- the LSAs with any other key say what they said
abbrev pub OthersHaveSameContents : List Key → Contents → Contents → Type 0
OthersHaveSameContents keys old new = (key : Key) → (Contains keys key → ⊥) → old key ≡ new key

-- the AS-external-LSA with the key advertised this network, or advertises it
pub record TellsOf (old : Contents) (new : Contents) (key : Key) (prefix : Network) : Type 0 where
  pub lsa : ExternalLsa
  pub says : (old key ≡ Some (body.External lsa)) ⊎ (new key ≡ Some (body.External lsa))
  pub is_prefix : IsPrefix key.link_state_id lsa.mask prefix

-- the networks that these keys' AS-external-LSAs advertise or advertised are among these
abbrev pub AreAllAdvertised : (old : Contents) → (new : Contents) → List Key → List Network → Type 0
AreAllAdvertised old new keys prefixes =
    (key : Key) (prefix : Network) → Contains keys key → TellsOf old new key prefix
    → Contains prefixes prefix

-- each LSA that advertises or advertised the network says what it said
abbrev pub IsUntouched : (old : Contents) → (new : Contents) → Network → Type 0
IsUntouched old new prefix = (key : Key) → TellsOf old new key prefix → old key ≡ new key
