-- What a packet brings to an invariant that asks nothing of LSAs.
use Rattle.std.proofs.Common.{ℕ, List, [], ◌∷◌, Option, None, Some}
use Rattle.std.specs.List.{AllByRecursion}
use Rattle.lsa.specs.Reading.{lsa_in}
use Rattle.lsdb.specs.Headers.{Lsa}
use Rattle.packet.specs.declared.model.PacketBody.{PacketBody}
use Rattle.packet.specs.declared.model.PacketBody.TheVariants as body
use Rattle.event_rules.proofs.Walk.{IfRead, OfBrought, OfBytes}

texts_any : (lsas : List (List ℕ)) → AllByRecursion (OfBytes (λ (lsa : Lsa). Unit {0})) lsas
texts_any [] = tt
texts_any (bytes ∷ rest) = (read_any (lsa_in bytes), texts_any rest)
  where
    read_any : (o : Option Lsa) → IfRead (λ (lsa : Lsa). Unit {0}) o
    read_any None = tt
    read_any (Some lsa) = tt

pub brought_any : (b : PacketBody) → OfBrought (λ (lsa : Lsa). Unit {0}) b
brought_any (body.Hello h) = tt
brought_any (body.Description d) = tt
brought_any (body.Request keys) = tt
brought_any (body.Update lsas) = texts_any lsas
brought_any (body.Acknowledgment headers) = tt
