use Rattle.std.proofs.Common.{◌≡◌, ℕ, suc, List, [], ◌∷◌, ◌++◌, drop, refl, sym, subst}
use Rattle.event_rules.specs.declared.model.Out.{Out}
use Rattle.worker.specs.Sending.{Gives, IsGivenEach}

-- first these, and then those
pub given_both : {Transport : Type 0} (gives : Gives Transport) (a b c : Transport)
    (xs ys : List Out) → IsGivenEach gives a xs b → IsGivenEach gives b ys c
    → IsGivenEach gives a (xs ++ ys) c
given_both gives a b c [] ys e h = subst (λ x. IsGivenEach gives x ys c) e h
given_both gives a b c (x ∷ xs) ys (m, g, h) k = (m, g, given_both gives m b c xs ys h k)

-- what was given so far, with all that is still to come, is the whole
abbrev pub GivenSoFar : {Transport : Type 0} → Gives Transport
    → (outs : List Out) (count : ℕ) (start now : Transport) → Type 0
GivenSoFar {Transport = Transport} gives outs count start now =
    (after : Transport) → IsGivenEach gives now (drop count outs) after
    → IsGivenEach gives start outs after

pub given_next : {Transport : Type 0} (gives : Gives Transport) (outs : List Out) (count : ℕ)
    (start now next : Transport) (out : Out) → drop count outs ≡ out ∷ drop (suc count) outs
    → gives now out.interface out.bytes next → GivenSoFar gives outs count start now
    → GivenSoFar gives outs (suc count) start next
given_next gives outs count start now next out e g h after k =
    h after (subst (λ rest. IsGivenEach gives now rest after) (sym e) (next, g, k))

pub given_all : {Transport : Type 0} (gives : Gives Transport) (outs : List Out) (count : ℕ)
    (start now : Transport) → drop count outs ≡ [] → GivenSoFar gives outs count start now
    → IsGivenEach gives start outs now
given_all gives outs count start now e h =
    h now (subst (λ rest. IsGivenEach gives now rest now) (sym e) refl)
