-- The keys of LSAs (RFC 2328, section 12.1.4).
use Rattle.words.specs.Numbers.{RouterNumber}
use Rattle.words.specs.Prefixes.{Network}
use Rattle.words.specs.declared.key.Key.{Key}

abbrev pub router_key : RouterNumber → Key
router_key id = record { ls_type = 1; link_state_id = id; advertising_router = id }

-- of an AS-external-LSA: the Link State ID is the address of the destination
abbrev pub external_key : RouterNumber → Network → Key
external_key id prefix = record {
  ls_type = 5;
  link_state_id = prefix.address;
  advertising_router = id;
}
