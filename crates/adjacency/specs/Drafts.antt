-- What an event sends at an interface, by packet type, each in order.
use Rattle.std.specs.Prelude.{ℕ, ◌+◌, min, List, [], ◌∷◌, ◌++◌}
use Rattle.std.specs.List.{fold}
use Rattle.words.specs.Constants.{max_age}
use Rattle.words.specs.declared.key.Key.{Key}
use Rattle.lsa.specs.Text.{text}
use Rattle.lsdb.specs.Headers.{Header, Lsa, lsa_with_age, lsa_key}
use Rattle.packet.specs.declared.model.Description.{Description}
use Rattle.packet.specs.declared.model.Hello.{Hello}
use Rattle.adjacency.specs.Contents.{Content}
use Rattle.adjacency.specs.declared.draft.Update.{Update}

pub record Drafted : Type 0 where
  pub hellos : List Hello
  pub descriptions : List Description
  pub requests : List (List Key)
  pub updates : List Update
  pub acknowledgments : List Header

abbrev pub nothing_drafted : Drafted
nothing_drafted =
    record { hellos = []; descriptions = []; requests = []; updates = []; acknowledgments = [] }

-- the age of an LSA is incremented by InfTransDelay when it is sent, up to MaxAge (RFC 2328,
-- section 13.3)
abbrev pub sent_lsa : ℕ → Lsa → Lsa
sent_lsa delay lsa = lsa_with_age (min max_age (lsa.header.age + delay)) lsa

abbrev pub update_of : ℕ → Lsa → Update
update_of delay lsa = record { key = lsa_key lsa; text = text (sent_lsa delay lsa) }

-- one more content
abbrev pub adds : ℕ → Drafted → Content → Drafted
adds delay d (Content.SendsHello hello) = record d { hellos = d.hellos ++ hello ∷ [] }
adds delay d (Content.Describes description) =
    record d { descriptions = d.descriptions ++ description ∷ [] }
adds delay d (Content.Requests keys) = record d { requests = d.requests ++ keys ∷ [] }
adds delay d (Content.Updates lsa) = record d { updates = d.updates ++ update_of delay lsa ∷ [] }
adds delay d (Content.Acknowledges header) =
    record d { acknowledgments = d.acknowledgments ++ header ∷ [] }

unfoldable pub drafting : ℕ → List Content → Drafted → Drafted
drafting delay contents d = fold (adds delay) d contents
