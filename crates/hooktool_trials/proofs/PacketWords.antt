-- Packets that are read of words.
use Rattle.std.proofs.Common.{◌≡◌, ◌≢◌, ◌∙◌, ◌+◌, ℕ, List, ◌∷◌, Option, Some, None, Ok, Err, sym}
use Rattle.std.proofs.Common.{subst, lit<, length, drop, inl, inr, refl}
use Rattle.std.specs.Prelude.{◌⊎◌, MatchOption, Result}
use Rattle.std.specs.Str.Pattern.{FindsCharPrefix}
use Rattle.std.proofs.lemmas.Str.Pattern.{strip_prefix_char}
use Rattle.hex.specs.Hex.{decode_of}
use Rattle.hex.specs.declared.error.FromHexError.{FromHexError}
use Rattle.hex.specs.declared.error.FromHexError.TheVariants.{OutOfMemory}
use Rattle.clap.specs.Walk.{Text}
use Rattle.hooktool_trials.proofs.OrElse.{given_back, now_of}
use Rattle.hooktool_trials.specs.Words.{IsNoPacket, IsPacket, OrElse, ReadsOrLacks}
use Rattle.hooktool_trials.specs.declared.requests.PacketSource.{PacketSource}
use Rattle.hooktool_trials.specs.declared.requests.PacketSource.TheVariants as packets
use Rattle.hooktool_trials.specs.declared.values.NotRead.{NotRead}
use Rattle.hooktool_trials.specs.declared.values.NotRead.TheVariants as not_read
use Rattle.hooktool_trials.specs.declared.wrong_words.WrongWord.{WrongWord}
use denote.Ref.{Bor}

abbrev pub Strips : List ℕ → Option (Bor (List ℕ)) → Type 0
Strips w r = MatchOption r (FindsCharPrefix 64 w None)
    (λ x. (n : ℕ) × FindsCharPrefix 64 w (Some n) × (x.now ≡ drop n w)
    × (length x.now + n ≡ length w))

pub of_no_file : (w : List ℕ) (r : Option (Bor (List ℕ))) → Strips w r → r ≡ None → (rest : List ℕ)
    → w ≢ 64 ∷ rest
of_no_file w r strips none =
    subst (λ (q : Option (Bor (List ℕ))). MatchOption q ((rest : List ℕ) → w ≢ 64 ∷ rest)
    (λ x. w ≡ 64 ∷ x.now)) none (strip_prefix_char 64 w r strips (lit< tt))

err≢ok : {X E : Type 0} (x : X) (e : E) → ◌≡◌ {A = Result X E} (Err e) (Ok x) → ⊥
err≢ok x e h = cc

pub no_packet : (w : List ℕ) (e : FromHexError) → ((rest : List ℕ) → w ≢ 64 ∷ rest)
    → decode_of w ≡ Err e → (packet : PacketSource) → IsPacket w packet → ⊥
no_packet w e plain bad (packets.Bytes bytes) has = err≢ok bytes.items e (sym bad ∙ has.1)
no_packet w e plain bad (packets.File path) has = plain path.now has

memory≢meaningless : (wrong : WrongWord) → not_read.Meaningless wrong ≡ not_read.OutOfMemory → ⊥
memory≢meaningless wrong e = cc

pub lacks : (w : List ℕ) (e : FromHexError) (lack : NotRead) → ((rest : List ℕ) → w ≢ 64 ∷ rest)
    → (e ≡ OutOfMemory) ⊎ (decode_of w ≡ Err e)
    → (e ≡ OutOfMemory → lack ≡ not_read.OutOfMemory) → ReadsOrLacks (IsPacket w) (Err lack)
lacks w e (not_read.Meaningless wrong) plain bad other = elim bad [
  | inl memory ↦ absurd (memory≢meaningless wrong (other memory))
  | inr refused ↦ no_packet w e plain refused
]
lacks w e not_read.OutOfMemory plain bad other = tt

-- the same of an option's word
pub lacks_given : (word : Option (Bor Text)) (one : Bor Text) (lack : NotRead) → word ≡ Some one
    → ReadsOrLacks (IsPacket one.now) (Err lack)
    → ReadsOrLacks (λ packet. OrElse (now_of word) (IsNoPacket packet) (λ w. IsPacket w packet))
    (Err lack)
lacks_given word one (not_read.Meaningless wrong) is none = λ packet has.
    none packet (given_back _ word one (IsNoPacket packet) (λ w. IsPacket w packet) refl is has)
lacks_given word one not_read.OutOfMemory is none = tt
