-- The instance that is built is the next one.
use Rattle.std.proofs.Common.{◌≡◌, ℤ, Bool, true, false, cond, Option, None, Some, refl, ap, ◌∙◌}
use Rattle.words.specs.declared.key.Key.{Key}
use Rattle.lsa.specs.Origination.{sealed_lsa}
use Rattle.lsa.specs.declared.body.LsaBody.{LsaBody}
use Rattle.lsdb.specs.Copies.{DatabaseCopy}
use Rattle.lsdb.specs.Headers.{Lsa}
use Rattle.event_rules.specs.Originations.{has_max_sequence, new_instance, next_sequence}
use Rattle.router.specs.Instances.{next_instance, next_number}

made : Key → ℤ → LsaBody → Lsa
made key sequence says = sealed_lsa (record {
  header = record {
    age = 0;
    options = 2;
    ls_type = 0;
    link_state_id = key.link_state_id;
    advertising_router = key.advertising_router;
    sequence = sequence;
    checksum = 0;
    length = 0;
  };
  body = says;
})

-- the LS type is that of the body
made_is : (key : Key) (copy : Option DatabaseCopy) (says : LsaBody)
    → made key (next_sequence copy) says ≡ new_instance key copy says
unfolding made sealed_lsa
made_is key copy says = refl

pub instance_is : (key : Key) (copy : Option DatabaseCopy) (says : LsaBody) (sequence : ℤ)
    (lsa : Lsa) → Some sequence ≡ next_number copy → lsa ≡ sealed_lsa (record {
      header = record {
        age = 0;
        options = 2;
        ls_type = 0;
        link_state_id = key.link_state_id;
        advertising_router = key.advertising_router;
        sequence = sequence;
        checksum = 0;
        length = 0;
      };
      body = says;
    })
    → Some lsa ≡ next_instance key copy says
unfolding made
instance_is key copy says sequence lsa number is = by_number (has_max_sequence copy) number
  where
    the_same : (m n : ℤ) → Some m ≡ Some n → m ≡ n
    the_same m n e = cc

    by_number : (b : Bool) → Some sequence ≡ cond b None (Some (next_sequence copy))
        → Some lsa ≡ cond b None (Some (new_instance key copy says))
    by_number true e = absurd (cc)
    by_number false e =
        ap (λ l. Some l) (is ∙ ap (λ n. made key n says) (the_same sequence (next_sequence copy) e)
        ∙ made_is key copy says)
