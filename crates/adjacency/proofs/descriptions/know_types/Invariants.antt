use Rattle.std.proofs.Common.{◌≡◌, take, true}
use Rattle.std.specs.List.{list_all}
use Rattle.lsa.specs.Reading.{is_known_type}
use Rattle.lsa.specs.declared.header.Header.{Header as AnyHeader}
use Rattle.adjacency.proofs.descriptions.know_types.Given as goal

abbrev pub invariant-loop-header : goal.invariant-loop-header
invariant-loop-header l = list_all (λ (h : AnyHeader). is_known_type h.ls_type)
    (take l.header-index l.headers) ≡ true
