-- A list of things, read of words, each of its own.
use Rattle.std.proofs.Common.{◌+◌, ◌<◌, ◌≤◌, ℕ, List, [], ◌∷◌, ◌++◌, sym, subst, length}
use Rattle.std.proofs.Common.{get_or, drop, append_assoc}
use Rattle.std.specs.Prelude.{map}
use Rattle.std.proofs.lemmas.List.{append-nil, drop_all, drop_more}
use Rattle.clap.specs.Walk.{Text}
use Rattle.hooktool_trials.specs.Words.{Each}
use denote.Ref.{Bor}

abbrev pub texts : List (Bor Text) → List Text
texts words = map (λ w. w.now) words

-- What is read so far and what is still to be read are the things of the words.
pub record HasRead {A : Type 0} (Is : Text → A → Type 0) (words : List (Bor Text)) (index : ℕ)
    (read : List A) : Type 0 where
  pub ahead : (rest : List A) → Each Is (texts (drop index words)) rest
      → Each Is (texts words) (read ++ rest)
  pub back : (whole : List A) → Each Is (texts words) whole
      → (rest : List A) × Each Is (texts (drop index words)) rest

first_of_all : {A : Type 0} (Is : Text → A → Type 0) (word : Text) (words : List Text)
    (whole : List A) → Each Is (word ∷ words) whole
    → (one : A) × (rest : List A) × Is word one × Each Is words rest
first_of_all {A} Is word words [] are = absurd are
first_of_all {A} Is word words (one ∷ rest) are = (one, rest, are.0, are.1)

-- what is left before one more word
cut_here : {A : Type 0} (Is : Text → A → Type 0) (words : List (Bor Text)) (i : ℕ) (d : Bor Text)
    (rest : List A) → i < length words → Each Is (texts (drop i words)) rest
    → Each Is ((get_or words i d).now ∷ texts (drop (i + 1) words)) rest
cut_here {A} Is words i d rest lt are =
    subst (λ (xs : List (Bor Text)). Each Is (texts xs) rest) (drop_more words i d lt) are

pub read_more : {A : Type 0} (Is : Text → A → Type 0) (words : List (Bor Text)) (i : ℕ)
    (d : Bor Text) (read : List A) (one : A) → i < length words → Is (get_or words i d).now one
    → HasRead Is words i read → HasRead Is words (i + 1) (read ++ one ∷ [])
read_more {A} Is words i d read one lt is has = record {
  ahead = λ rest are.
      let step : Each Is (texts (get_or words i d ∷ drop (i + 1) words)) (one ∷ rest) = (is, are) in
      let more : Each Is (texts (drop i words)) (one ∷ rest) =
      subst (λ (xs : List (Bor Text)). Each Is (texts xs) (one ∷ rest))
      (sym (drop_more words i d lt)) step in
      subst (λ (xs : List A). Each Is (texts words) xs) (sym (append_assoc read (one ∷ []) rest))
      (has.ahead (one ∷ rest) more);
  back = λ whole are.
      let left = has.back whole are in
      let first = first_of_all Is _ _ left.0 (cut_here Is words i d left.0 lt left.1) in
      (first.1, first.3);
}

pub read_wrong : {A : Type 0} (Is : Text → A → Type 0) (words : List (Bor Text)) (i : ℕ)
    (d : Bor Text) (read : List A) → i < length words
    → ((one : A) → Is (get_or words i d).now one → ⊥) → HasRead Is words i read
    → (whole : List A) → Each Is (texts words) whole → ⊥
read_wrong {A} Is words i d read lt none has whole are =
    let left = has.back whole are in
    let first = first_of_all Is _ _ left.0 (cut_here Is words i d left.0 lt left.1) in
    none first.0 first.2

pub read_all : {A : Type 0} (Is : Text → A → Type 0) (words : List (Bor Text)) (i : ℕ)
    (read : List A) → length words ≤ i → HasRead Is words i read → Each Is (texts words) read
read_all {A} Is words i read le has =
    let none : Each Is (texts []) [] = tt in
    let left : Each Is (texts (drop i words)) [] =
    subst (λ (xs : List (Bor Text)). Each Is (texts xs) []) (sym (drop_all i words le)) none in
    subst (λ (xs : List A). Each Is (texts words) xs) (append-nil read) (has.ahead [] left)
