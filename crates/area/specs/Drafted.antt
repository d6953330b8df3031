-- The drafts of the interfaces with what is sent there.
use Rattle.std.specs.Prelude.{◌+◌, List, [], ◌∷◌, map}
use Rattle.std.specs.List.{filter_map}
use Rattle.words.specs.Numbers.{InterfaceNumber}
use Rattle.adjacency.specs.Drafts.{Drafted, drafting, nothing_drafted}
use Rattle.received.specs.Links.{Link}
use Rattle.received.specs.AreaStates.{Send, at_interface}

-- nothing was sent so far on any of these links
abbrev pub nothing_at : List Link → List Drafted
nothing_at links = map (λ (link : Link). nothing_drafted) links

abbrev pub drafted_at : InterfaceNumber → List Send → Link → Drafted → Drafted
drafted_at interface sends link d =
    drafting link.interface.delay (filter_map (at_interface interface) sends) d

-- `n` is the number of the first link
abbrev pub drafted_from : InterfaceNumber → List Send → List Link → List Drafted → List Drafted
drafted_from n sends [] ds = ds
drafted_from n sends (l ∷ ls) [] = []
drafted_from n sends (l ∷ ls) (d ∷ ds) =
    drafted_at n sends l d ∷ drafted_from (n + 1) sends ls ds

-- interface n is at index n - 1
abbrev pub drafts_with : List Send → List Link → List Drafted → List Drafted
drafts_with sends links ds = drafted_from 1 sends links ds
