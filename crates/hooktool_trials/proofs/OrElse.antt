-- What is read of a word that may lack.
use Rattle.std.proofs.Common.{◌≡◌, ◌≢◌, ◌≤◌, sym, subst, ℕ, Option, Some}
use Rattle.std.proofs.Common.{None}
use Rattle.std.specs.Borrow.{Bor}
use Rattle.std.specs.Prelude.{MatchOption, decimal, option_map}
use Rattle.clap.specs.Walk.{Text}
use Rattle.words.specs.Prefixes.{IsNetwork, Network}
use Rattle.words.specs.Text.{prefix_text}
use Rattle.hooktool_trials.specs.Words.{IsNumber, IsPrefix, OrElse, Reads}

abbrev pub now_of : Option (Bor Text) → Option Text
now_of = option_map (λ (w : Bor Text). w.now)

-- no word
pub usual : (found : Option Text) (word : Option (Bor Text)) (U : Type 0) (M : Text → Type 0)
    → now_of word ≡ found → word ≡ None → U → OrElse found U M
usual found word U M e none u =
    subst (λ (f : Option Text). OrElse f U M) e
    (subst (λ (w : Option (Bor Text)). OrElse (now_of w) U M) (sym none) u)

-- a word
pub given : (found : Option Text) (word : Option (Bor Text)) (one : Bor Text) (U : Type 0)
    (M : Text → Type 0) → now_of word ≡ found → word ≡ Some one → M one.now → OrElse found U M
given found word one U M e some m =
    subst (λ (f : Option Text). OrElse f U M) e
    (subst (λ (w : Option (Bor Text)). OrElse (now_of w) U M) (sym some) m)

pub given_back : (found : Option Text) (word : Option (Bor Text)) (one : Bor Text) (U : Type 0)
    (M : Text → Type 0) → now_of word ≡ found → word ≡ Some one → OrElse found U M → M one.now
given_back found word one U M e some has =
    subst (λ (w : Option (Bor Text)). OrElse (now_of w) U M) some
    (subst (λ (f : Option Text). OrElse f U M) (sym e) has)

-- what is read of a word is read of the option
pub read_given : {A : Type 0} (found : Option Text) (word : Option (Bor Text)) (one : Bor Text)
    (U : A → Type 0) (M : A → Text → Type 0) (r : Option A) → now_of word ≡ found → word ≡ Some one
    → Reads (λ x. M x one.now) r → Reads (λ x. OrElse found (U x) (M x)) r
read_given found word one U M (Some x) e some reads = given found word one (U x) (M x) e some reads
read_given found word one U M None e some reads =
    λ x has. reads x (given_back found word one (U x) (M x) e some has)

pub reads_number : (word : Text) (least most : ℕ) (r : Option ℕ)
    → MatchOption r ((n : ℕ) → least ≤ n → n ≤ most → word ≢ decimal n)
    (λ n. (word ≡ decimal n) × (least ≤ n) × (n ≤ most)) → Reads (IsNumber least most word) r
reads_number word least most (Some n) read = read
reads_number word least most None read = λ n is. read n is.1 is.2 is.0

pub reads_prefix : (word : Text) (r : Option Network)
    → MatchOption r ((n : Network) → IsNetwork n → word ≢ prefix_text n)
    (λ n. (word ≡ prefix_text n) × IsNetwork n) → Reads (IsPrefix word) r
reads_prefix word (Some n) read = read
reads_prefix word None read = λ n is. read n is.1 is.0
