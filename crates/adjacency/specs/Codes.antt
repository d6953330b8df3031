-- An injective coding of neighbors, which the value of a model needs.
use Rattle.std.specs.Prelude.{ℕ, ℤ, refl}
use Rattle.std.specs.Coded.{Coded, code_by, coded×, coded_ℕ, coded_ℤ}
use Rattle.std.specs.FinMap as map
use Rattle.std.specs.FinSet as set
use Rattle.lsdb.specs.Headers.{Header}
use Rattle.lsdb.specs.Instances.{ListEntry}
use Rattle.lsdb.specs.Keys.{ByKey, KeySet, coded_key}
use Rattle.adjacency.specs.Kept.{Kept}

abbrev pub coded_header : Coded Header
coded_header = code_by (ℕ × (ℕ × (ℕ × (ℕ × (ℕ × (ℤ × (ℕ × ℕ)))))))
    (coded× coded_ℕ (coded× coded_ℕ (coded× coded_ℕ (coded× coded_ℕ (coded× coded_ℕ
    (coded× coded_ℤ (coded× coded_ℕ coded_ℕ)))))))
    (λ h.
    let last : ℕ × (ℤ × (ℕ × ℕ)) = (h.advertising_router, (h.sequence, (h.checksum, h.length))) in
    (h.age, (h.options, (h.ls_type, (h.link_state_id, last)))))
    (λ p. record {
      age = p.0;
      options = p.1.0;
      ls_type = p.1.1.0;
      link_state_id = p.1.1.1.0;
      advertising_router = p.1.1.1.1.0;
      sequence = p.1.1.1.1.1.0;
      checksum = p.1.1.1.1.1.1.0;
      length = p.1.1.1.1.1.1.1;
    })
    (λ _. refl)

abbrev pub coded_listed : Coded ListEntry
coded_listed = code_by (Header × ℕ) (coded× coded_header coded_ℕ) (λ l. (l.header, l.at))
    (λ p. record { header = p.0; at = p.1 }) (λ _. refl)

abbrev pub coded_lists : Coded (ByKey ListEntry)
coded_lists = map.code coded_key coded_listed

abbrev pub coded_headers : Coded (ByKey Header)
coded_headers = map.code coded_key coded_header

abbrev pub coded_keys : Coded KeySet
coded_keys = set.code coded_key

abbrev pub coded_kept : {A : Type 0} → Coded A → Coded (Kept A)
coded_kept {A} a = code_by (A × A) (coded× a a) (λ k. (k.present, k.committed))
    (λ p. record { present = p.0; committed = p.1 }) (λ _. refl)
