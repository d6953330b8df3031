-- The bytes of an LSA are parsed with the header that was written, if they are parsed.
use Rattle.std.proofs.Common.{◌≡◌, suc, ◌<◌, length, List, [], ◌∷◌, map, Option, None, Some, sym}
use Rattle.std.proofs.Common.{ap, arith}
use Rattle.std.specs.List.{AllByRecursion, Contains, cons_option, filter_map}
use Rattle.lsa.specs.Headers.{IsHeader}
use Rattle.lsa.specs.Reading.{fault_of, lsa_in, read_unless}
use Rattle.lsa.specs.Text.{body_text, text}
use Rattle.lsa.specs.declared.fault.LsaFault.{LsaFault}
use Rattle.lsa.proofs.Headers.{header-reads_back}
use Rattle.lsdb.specs.Headers.{Header, Lsa}
use Rattle.invariants.specs.Known.{UpdatesTellWhatTheyBear}
use Rattle.event_rules.specs.InstanceIdentities.{InstanceIdentity, identity_of_lsa}
use Rattle.event_rules.specs.InstanceIdentities.{identity_of_header}
use Rattle.event_rules.specs.InstanceIdentities.{instances_in_update}
use Rattle.invariants.proofs.Known.{of_member}
use Rattle.invariants.proofs.Lists.{later_is}

abbrev NamedAs : Lsa → Option Lsa → Type 0
NamedAs l None = Unit {0}
NamedAs l (Some m) = identity_of_lsa l ≡ identity_of_lsa m

read_name : (l : Lsa) → IsHeader l.header → NamedAs l (lsa_in (text l))
read_name l is = by_fault (fault_of (text l))
  where
    by_fault : (o : Option LsaFault) → NamedAs l (read_unless (text l) o)
    by_fault None = ap (λ (h : Header). identity_of_header h)
        (sym (header-reads_back l.header [] (body_text l.body) is))
    by_fault (Some f) = tt

-- each instance that is received is among those that are sent
all_told : (lsas : List Lsa) → AllByRecursion (λ l. IsHeader l.header) lsas
    → AllByRecursion (Contains (map identity_of_lsa lsas))
    (instances_in_update (map (λ l. text l) lsas))
all_told [] h = tt
all_told (l ∷ ls) h = with_first (lsa_in (text l)) (read_name l h.0)
    (further (instances_in_update (map (λ m. text m) ls)) (all_told ls h.1))
  where
    further : (names : List InstanceIdentity)
        → AllByRecursion (Contains (map identity_of_lsa ls)) names
        → AllByRecursion (Contains (map identity_of_lsa (l ∷ ls))) names
    further [] c = tt
    further (name ∷ names) c = (
      later_is (identity_of_lsa l) (map identity_of_lsa ls) name c.0,
      further names c.1,
    )

    with_first : (o : Option Lsa) → NamedAs l o
        → AllByRecursion (Contains (map identity_of_lsa (l ∷ ls)))
        (instances_in_update (map (λ m. text m) ls))
        → AllByRecursion (Contains (map identity_of_lsa (l ∷ ls)))
        (map identity_of_lsa (cons_option o (filter_map lsa_in (map (λ m. text m) ls))))
    with_first None named rest = rest
    with_first (Some m) named rest =
        let first : 0 < suc (length (map identity_of_lsa ls)) = omega arith in
        ((0, first, named), rest)

pub told_is_borne : UpdatesTellWhatTheyBear
told_is_borne lsas is name c = of_member (Contains (map identity_of_lsa lsas))
    (instances_in_update (map (λ l. text l) lsas)) (all_told lsas is) name c
