-- What an AS-external-LSA advertises.
use Rattle.std.proofs.Common.{◌≡◌, Option, None, Some, ap, sym}
use Rattle.lsa.specs.declared.body.LsaBody.{LsaBody}
use Rattle.lsa.specs.declared.body.LsaBody.TheVariants as body
use Rattle.lsa.specs.declared.body.ExternalLsa.{ExternalLsa}
use Rattle.candidates.specs.Gathering.{IsOnly}

pub just_is : {X : Type 0} (P : X → Type 0) (o : Option X) (x : X) → IsOnly P o → P x → o ≡ Some x
just_is P None x none p = absurd (none x p)
just_is {X} P (Some it) x just p = ap (λ (y : X). Some y) (sym ((just x).0 p))

pub same_body : (a b : ExternalLsa)
    → ◌≡◌ {A = Option LsaBody} (Some (body.External a)) (Some (body.External b)) → a ≡ b
same_body a b e = cc
