-- Worked examples of ranks: which of two instances is at least as new as the other.
use Rattle.std.specs.Prelude.{◌≡◌, ℕ, ℤ, pos, negsuc, true, false}
use Rattle.lsdb.specs.Order.{is_newer, is_same}
use Rattle.lsdb.specs.declared.order.Instance.{Instance}
use Rattle.agreement_laws.specs.Ranks.{is_at_least}

abbrev pub instance : ℤ → ℕ → ℕ → Instance
instance sequence checksum age = record { sequence = sequence; checksum = checksum; age = age }

-- InitialSequenceNumber, -(2^31) + 1
abbrev pub initial_number : ℤ
initial_number = negsuc 0x7fff_fffe

pub record WorkedRanks : Type 0 where
  -- the greater sequence number is newer, whatever the checksums and ages; the numbers are signed
  pub number : is_at_least (instance (pos 5) 1 3600) (instance (pos 4) 9 0) ≡ true
  pub lesser_number : is_at_least (instance (pos 4) 9 3600) (instance (pos 5) 1 0) ≡ false
  pub signed : is_at_least (instance initial_number 9 0) (instance (pos 1) 1 0) ≡ false
  -- with the same sequence number, the greater checksum
  pub checksum : is_at_least (instance (pos 5) 8 0) (instance (pos 5) 7 3600) ≡ true
  pub lesser_checksum : is_at_least (instance (pos 5) 7 3600) (instance (pos 5) 8 0) ≡ false
  -- with the same checksum, the one at MaxAge, 3600 seconds
  pub max_age : is_at_least (instance (pos 5) 7 3600) (instance (pos 5) 7 3599) ≡ true
  pub below_max_age : is_at_least (instance (pos 5) 7 3599) (instance (pos 5) 7 3600) ≡ false
  -- other ages don't matter, although by section 13.1 an instance that is younger by more than
  -- MaxAgeDiff, 900 seconds, is newer
  pub younger : is_at_least (instance (pos 5) 7 0) (instance (pos 5) 7 901) ≡ true
  pub older : is_at_least (instance (pos 5) 7 901) (instance (pos 5) 7 0) ≡ true
  pub newer_by_age : is_newer (instance (pos 5) 7 0) (instance (pos 5) 7 901) ≡ true
  -- section 13.1 by itself is no order: instances with ages of 0, 900 and 1800 seconds are each the
  -- same as the next, and the first is newer than the last
  pub first_same : is_same (instance (pos 5) 7 0) (instance (pos 5) 7 900) ≡ true
  pub second_same : is_same (instance (pos 5) 7 900) (instance (pos 5) 7 1800) ≡ true
  pub not_same : is_newer (instance (pos 5) 7 0) (instance (pos 5) 7 1800) ≡ true
