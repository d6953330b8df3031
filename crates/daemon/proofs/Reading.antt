-- Bytes that are read one after the other, and the line that they are.
use Rattle.std.proofs.Common.{◌≡◌, ◌≢◌, inl, inr, ℕ, ◌<◌, ◌≤◌, Bool, true, false, List}
use Rattle.std.proofs.Common.{[], ◌∷◌, ◌++◌, length, Option, Some, None, take, slice_index, refl}
use Rattle.std.proofs.Common.{sym, subst, ap, ◌∙◌, arith, length-append}
use Rattle.std.specs.Prelude.{MatchOption, string_bytes}
use Rattle.std.specs.List.{All}
use Rattle.std.specs.Str.{IsUtf8}
use Rattle.std.specs.Io.KnownBytes.{Consumes, IsAtEnd, Keeps}
use Rattle.std.proofs.lemmas.List.Elements.{All-nil, All-push}
use Rattle.daemon.specs.Lines.{Fails, Gives, GivesEach, IsGiven, IsKeptOf, IsLast}
use Rattle.daemon.specs.Lines.{IsNext, IsText, IsWhole}
use Rattle.daemon.specs.declared.lines.Given.{Given}
use Rattle.daemon.specs.declared.lines.Given.TheVariants.{Line, Memory, End, Failed}

-- ---- bytes that are known

pub keeps_self : (known : Option (List ℕ)) → Keeps known known
keeps_self None = tt
keeps_self (Some bytes) = refl

pub keeps_still : (before between after : Option (List ℕ)) → Keeps before between
    → Keeps between after → Keeps before after
keeps_still None between after h k = tt
keeps_still (Some xs) None after h k = absurd h
keeps_still (Some xs) (Some ys) None h k = absurd k
keeps_still (Some xs) (Some ys) (Some zs) h k = k ∙ h

consumes_then : (before between after : Option (List ℕ)) (bytes : List ℕ) → Keeps before between
    → Consumes between after bytes → Consumes before after bytes
consumes_then None between after bytes h k = tt
consumes_then (Some xs) None after bytes h k = absurd h
consumes_then (Some xs) (Some ys) None bytes h k = absurd k
consumes_then (Some xs) (Some ys) (Some zs) bytes h k = sym h ∙ k

ends_then : (before between after : Option (List ℕ)) → Keeps before between
    → Consumes between after [] → IsAtEnd after → IsAtEnd before
ends_then None between after h k end = tt
ends_then (Some xs) None after h k end = absurd h
ends_then (Some xs) (Some ys) None h k end = absurd k
ends_then (Some xs) (Some ys) (Some zs) h k end = sym h ∙ k ∙ end

-- one byte was read, or none
pub next_read : (before between after : Option (List ℕ)) (one : List ℕ) (n : ℕ) (byte : Option ℕ)
    → length one ≡ 1 → n ≤ length one → Keeps before between → Consumes between after (take n one)
    → (n ≡ 0 → 0 < length one → IsAtEnd after)
    → MatchOption byte (n ≡ 0) (λ b. (0 < n) × (b ≡ slice_index one 0))
    → IsNext before byte after
next_read before between after [] n byte long few kept took end is = absurd (omega (arith, long))
next_read before between after (b ∷ []) n None long few kept took end zero =
    let none : Consumes between after [] =
    subst (λ k. Consumes between after (take k (b ∷ []))) zero took in
    ends_then before between after kept none (end zero (omega arith))
next_read before between after (b ∷ []) n (Some x) long few kept took end is =
    let one : n ≡ 1 = omega (arith, is.0, few) in
    let same : x ≡ b = is.1 in
    let came : Consumes between after (b ∷ []) =
    subst (λ k. Consumes between after (take k (b ∷ []))) one took in
    subst (λ y. Consumes before after (y ∷ [])) (sym same)
    (consumes_then before between after (b ∷ []) kept came)
next_read before between after (b ∷ c ∷ rest) n byte long few kept took end is =
    absurd (omega (arith, long))

-- ---- a line as far as it's read

pub record IsBegun {Input : Type 0} (gives : Gives Input) (before now : Input) (kept : List ℕ)
    (is_lost : Bool) : Type 0 where
  pub line : List ℕ
  pub each : GivesEach gives before line now
  pub unbroken : All (λ byte. byte ≢ 10) line
  pub kept_of : is_lost ≡ false → IsKeptOf kept line
  pub some : is_lost ≡ true → 0 < length line

gave_more : {Input : Type 0} (gives : Gives Input) (before : Input) (bytes : List ℕ) (byte : ℕ)
    (now next : Input) → GivesEach gives before bytes now → gives now (Some byte) next
    → GivesEach gives before (bytes ++ byte ∷ []) next
gave_more gives before [] byte now next h more =
    (next, subst (λ i. gives i (Some byte) next) h more, refl)
gave_more gives before (first ∷ bytes) byte now next h more =
    (h.0, h.1, gave_more gives h.0 bytes byte now next h.2 more)

pub not_begun : {Input : Type 0} (gives : Gives Input) (before : Input)
    → IsBegun gives before before [] false
not_begun gives before = record {
  line = [];
  each = refl;
  unbroken = All-nil (λ byte. byte ≢ 10);
  kept_of = λ _. inl refl;
  some = λ h. absurd (let e : false ≡ true = h in cc);
}

-- one more byte that was kept, or lost
pub begun_on : {Input : Type 0} (gives : Gives Input) (before now next : Input) (kept more : List ℕ)
    (is_lost : Bool) (byte : ℕ) → IsBegun gives before now kept is_lost → gives now (Some byte) next
    → byte ≢ 10 → ((line : List ℕ) → IsKeptOf kept line → IsKeptOf more (line ++ byte ∷ []))
    → IsBegun gives before next more is_lost
begun_on gives before now next kept more is_lost byte h more_given other keeps = record {
  line = h.line ++ byte ∷ [];
  each = gave_more gives before h.line byte now next h.each more_given;
  unbroken = All-push (λ b. b ≢ 10) h.line byte h.unbroken other;
  kept_of = λ fine. keeps h.line (h.kept_of fine);
  some = λ lost. omega (arith, length-append h.line (byte ∷ []));
}

pub begun_lost : {Input : Type 0} (gives : Gives Input) (before now next : Input)
    (kept more : List ℕ) (is_lost : Bool) (byte : ℕ) → IsBegun gives before now kept is_lost
    → gives now (Some byte) next → byte ≢ 10 → IsBegun gives before next more true
begun_lost gives before now next kept more is_lost byte h more_given other = record {
  line = h.line ++ byte ∷ [];
  each = gave_more gives before h.line byte now next h.each more_given;
  unbroken = All-push (λ b. b ≢ 10) h.line byte h.unbroken other;
  kept_of = λ fine. absurd (let e : true ≡ false = fine in cc);
  some = λ lost. omega (arith, length-append h.line (byte ∷ []));
}

-- ---- a byte that is kept

pub kept_all : (kept line : List ℕ) (byte : ℕ) → length kept ≤ 4096 → IsKeptOf kept line
    → IsKeptOf (kept ++ byte ∷ []) (line ++ byte ∷ [])
kept_all kept line byte few (inl same) = inl (ap (λ l. l ++ byte ∷ []) same)
kept_all kept line byte few (inr many) = absurd (omega (arith, few, many.0))

pub kept_enough : (kept line : List ℕ) (byte : ℕ) → 4096 < length kept → IsKeptOf kept line
    → IsKeptOf kept (line ++ byte ∷ [])
kept_enough kept line byte many (inl same) =
    inr (many, omega (arith, many, ap length same, length-append line (byte ∷ [])))
kept_enough kept line byte many (inr both) =
    inr (many, omega (arith, both.1, length-append line (byte ∷ [])))

-- ---- the line's end

pub text_same : (line text : List ℕ) → text ≡ line → length line ≤ 4096 → IsText line text
text_same line text same few = inl (same, few)

pub text_long : (line text : List ℕ) → text ≡ [] → 4096 < length line → IsText line text
text_long line text none many = inr (none, λ _. many)

pub text_unread : (line text : List ℕ) → text ≡ [] → (IsUtf8 line → ⊥) → IsText line text
text_unread line text none other = inr (none, λ utf8. absurd (other utf8))

text_of : (kept line text : List ℕ) → IsKeptOf kept line → IsText kept text → IsText line text
text_of kept line text (inl same) h = subst (λ l. IsText l text) same h
text_of kept line text (inr many) (inl all) = absurd (omega (arith, many.0, all.1))
text_of kept line text (inr many) (inr none) = inr (none.0, λ _. many.1)

pub given_whole : {Input : Type 0} (gives : Gives Input) (fails : Fails Input)
    (before now after : Input) (kept : List ℕ) (is_lost : Bool) (given : Given)
    → IsBegun gives before now kept is_lost → gives now (Some 10) after
    → IsWhole kept is_lost given → IsGiven gives fails before given after
given_whole gives fails before now after kept is_lost (Line text) h end whole = (
  h.line,
  record { between = now; each = h.each; unbroken = h.unbroken; ended = inl end },
  text_of kept h.line (string_bytes text) (h.kept_of whole.0) whole.1,
)
given_whole gives fails before now after kept is_lost Memory h end whole =
    (h.line, record { between = now; each = h.each; unbroken = h.unbroken; ended = inl end })
given_whole gives fails before now after kept is_lost End h end whole = absurd whole
given_whole gives fails before now after kept is_lost Failed h end whole = absurd whole

some_line : (kept line : List ℕ) → IsKeptOf kept line → 0 < length kept → 0 < length line
some_line kept line (inl same) some = omega (arith, some, ap length same)
some_line kept line (inr many) some = omega (arith, many.1)

none_given : {Input : Type 0} (gives : Gives Input) (before now : Input) (line : List ℕ)
    → GivesEach gives before line now → IsKeptOf [] line → now ≡ before
none_given gives before now [] h kept = h
none_given gives before now (byte ∷ line) h (inl same) = absurd (omega (arith, ap length same))
none_given gives before now (byte ∷ line) h (inr many) = absurd (omega (arith, many.0))

pub given_failed : {Input : Type 0} (gives : Gives Input) (fails : Fails Input)
    (before now after : Input) (kept : List ℕ) (is_lost : Bool)
    → IsBegun gives before now kept is_lost → fails now after
    → IsGiven gives fails before Failed after
given_failed gives fails before now after kept is_lost h failed = (h.line, now, h.each, failed)

pub given_last : {Input : Type 0} (gives : Gives Input) (fails : Fails Input)
    (before now after : Input) (kept : List ℕ) (is_lost : Bool) (given : Given)
    → IsBegun gives before now kept is_lost → gives now None after → IsLast kept is_lost given
    → IsGiven gives fails before given after
given_last gives fails before now after kept is_lost (Line text) h end last = (
  h.line,
  record {
    between = now;
    each = h.each;
    unbroken = h.unbroken;
    ended = inr (end, some_line kept h.line (h.kept_of last.0.0) last.1);
  },
  text_of kept h.line (string_bytes text) (h.kept_of last.0.0) last.0.1,
)
given_last gives fails before now after kept is_lost Memory h end last = (
  h.line,
  record {
    between = now;
    each = h.each;
    unbroken = h.unbroken;
    ended = inr (end, h.some last);
  },
)
given_last gives fails before now after kept is_lost End h end last =
    let kept_none : IsKeptOf [] h.line = subst (λ l. IsKeptOf l h.line) last.1 (h.kept_of last.0) in
    subst (λ i. gives i None after) (none_given gives before now h.line h.each kept_none) end
given_last gives fails before now after kept is_lost Failed h end last = absurd last
