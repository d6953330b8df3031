-- The 64 bytes of context that a program is run on, hook by hook.
use Rattle.std.specs.Prelude.{ℕ, ◌+◌, nat_lt, if◌then◌else◌, List, [], ◌∷◌, ◌++◌, length, take}
use Rattle.std.specs.Prelude.{drop, replicate, fold, slice_index, count_ones, Option, Some, None}
use Rattle.std.specs.Int.{bytes_low_first}
use Rattle.std.specs.List.{find, range_with_len}
use Rattle.isa.specs.declared.hook.Hook.{Hook}
use Rattle.isa.specs.declared.hook.Hook.TheVariants.{Count, Tag, Price, Veto}
use Rattle.isa.specs.Hooks.{hook_number}
use Rattle.words.specs.declared.route.External.{External}
use Rattle.words.specs.declared.route.ExternalType.{ExternalType}
use Rattle.words.specs.declared.route.ExternalType.TheVariants.{Type1, Type2}
use Rattle.words.specs.declared.route.Route.{Route}
use Rattle.words.specs.declared.route.RouteKind.{RouteKind}
use Rattle.words.specs.declared.route.RouteKind.TheVariants.{Intra, Inter, External1, External2}
use Rattle.words.specs.Fields.{field}
use Rattle.words.specs.Interfaces.{has_interface}
use Rattle.words.specs.Numbers.{Moment, InterfaceNumber}

-- a field: its first byte, its size in bytes, and its number, which is little-endian
pub record Field : Type 0 where
  pub offset : ℕ
  pub width : ℕ
  pub number : ℕ

abbrev pub four_bytes : (offset number : ℕ) → Field
four_bytes offset number = record { offset = offset; width = 4; number = number }

abbrev pub eight_bytes : (offset number : ℕ) → Field
eight_bytes offset number = record { offset = offset; width = 8; number = number }

-- the bytes with this field written
abbrev pub with_field : List ℕ → Field → List ℕ
with_field bytes f =
    take f.offset bytes ++ bytes_low_first 0 f.width f.number ++ drop (f.offset + f.width) bytes

-- 64 bytes, 0 outside of all fields
abbrev pub context_of : List Field → List ℕ
context_of fields = fold with_field (replicate 64 0) fields

-- the second byte of a packet is its type, and bytes 4 to 7 are its Router ID (RFC 2328, A.3.1); 0
-- if the packet ends before
abbrev pub type_in : (packet : List ℕ) → ℕ
type_in packet = if nat_lt (length packet) 2 then 0 else slice_index packet 1

abbrev pub router_id_in : (packet : List ℕ) → ℕ
router_id_in packet = if nat_lt (length packet) 8 then 0 else field packet 4 4

-- the context of `count` for a packet that came in on an interface at a moment
abbrev pub count_context : InterfaceNumber → Moment → (packet : List ℕ) → List ℕ
count_context interface moment packet = context_of (
    four_bytes 0 (hook_number Count)
    ∷ four_bytes 4 interface
    ∷ eight_bytes 8 moment
    ∷ four_bytes 16 (length packet)
    ∷ four_bytes 20 (type_in packet)
    ∷ four_bytes 24 (router_id_in packet)
    ∷ [])

abbrev pub external_type_number : ExternalType → ℕ
external_type_number Type1 = 1
external_type_number Type2 = 2

-- the context of `tag` and `price` for an external route at a moment
abbrev pub external_context : Hook → External → Moment → List ℕ
external_context hook external moment = context_of (
    four_bytes 0 (hook_number hook)
    ∷ four_bytes 4 external.prefix.address
    ∷ four_bytes 8 external.prefix.length
    ∷ four_bytes 12 external.metric
    ∷ four_bytes 16 external.tag
    ∷ four_bytes 20 (external_type_number external.kind)
    ∷ eight_bytes 24 moment
    ∷ [])

abbrev pub tag_context : External → Moment → List ℕ
tag_context = external_context Tag

abbrev pub price_context : External → Moment → List ℕ
price_context = external_context Price

abbrev pub route_kind_number : RouteKind → ℕ
route_kind_number Intra = 1
route_kind_number Inter = 2
route_kind_number External1 = 3
route_kind_number External2 = 4

-- the number, or 0 if there is none
abbrev pub found_or_0 : Option ℕ → ℕ
found_or_0 (Some interface) = interface
found_or_0 None = 0

-- the number of the first interface in a set; 0 if there is none
abbrev pub first_hop : (hops : ℕ) → InterfaceNumber
first_hop hops = found_or_0 (find (has_interface hops) (range_with_len 0 64))

-- the type 2 distance of a type 2 external route; 0 for any other route
abbrev pub type_2_distance : RouteKind → (distance : ℕ) → ℕ
type_2_distance External2 distance = distance
type_2_distance other distance = 0

-- the context of `veto` for a route at a moment
abbrev pub veto_context : Route → Moment → List ℕ
veto_context route moment = context_of (
    four_bytes 0 (hook_number Veto)
    ∷ four_bytes 4 route.prefix.address
    ∷ four_bytes 8 route.prefix.length
    ∷ four_bytes 12 route.cost
    ∷ four_bytes 16 route.tag
    ∷ four_bytes 20 (route_kind_number route.kind)
    ∷ eight_bytes 24 moment
    ∷ four_bytes 32 (type_2_distance route.kind route.distance)
    ∷ four_bytes 36 (count_ones route.hops)
    ∷ four_bytes 40 (first_hop route.hops)
    ∷ [])
