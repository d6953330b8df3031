-- The constants of OSPF with their names in RFC 2328, appendix B, and this project's own limits.
use Rattle.std.specs.Prelude.{ℕ, ◌^◌, ℤ, pos, negsuc}

-- MaxAge: at this age an LSA is no longer used, in seconds
abbrev pub max_age : ℕ
max_age = 3600

-- MaxAgeDiff: if the ages of two instances differ by more, the younger is newer, in seconds
abbrev pub max_age_diff : ℕ
max_age_diff = 900

-- LSRefreshTime: a self-originated LSA of this age is originated again, in seconds
abbrev pub ls_refresh_time : ℕ
ls_refresh_time = 1800

-- MinLSInterval: the least time between two originations of one LSA, in seconds
abbrev pub min_ls_interval : ℕ
min_ls_interval = 5

-- the E-bit of Options: AS-external-LSAs are flooded into the area (RFC 2328, section A.2)
abbrev pub e_bit : ℕ
e_bit = 2

-- LSInfinity: a destination with this metric or more is not advertised
abbrev pub ls_infinity : ℕ
ls_infinity = 0xffffff

-- InitialSequenceNumber, 0x80000001 read as a signed number
abbrev pub initial_sequence_number : ℤ
initial_sequence_number = negsuc 2147483646

-- MaxSequenceNumber, 0x7fffffff
abbrev pub max_sequence_number : ℤ
max_sequence_number = pos 2147483647

-- the greatest length of a packet in bytes (own limit); the MTU of Database Descriptions
abbrev pub largest_packet : ℕ
largest_packet = 8192

-- the most LSA headers in one Database Description: 20 bytes each, after the packet header's 24
-- bytes and 8 of its own (RFC 2328, section A.3.3)
abbrev pub max_headers_described : ℕ
max_headers_described = 408

-- the most keys in one Link State Request: 12 bytes each, after the packet header's 24 bytes
-- (section A.3.4)
abbrev pub max_keys_requested : ℕ
max_keys_requested = 680

-- the most LSAs in a database (own limit)
abbrev pub max_lsas : ℕ
max_lsas = 16384

-- the most self-originated AS-external-LSAs among them (own limit)
abbrev pub max_own_externals : ℕ
max_own_externals = 4096

-- the most interfaces of a router (own limit)
abbrev pub max_interfaces : ℕ
max_interfaces = 63

-- every moment is below this (own limit)
abbrev pub clock_end : ℕ
clock_end = 2 ^ 62
