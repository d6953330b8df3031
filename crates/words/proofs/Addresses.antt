-- Addresses and prefixes as texts.
use Rattle.std.proofs.Common.{◌≡◌, ◌≢◌, ℕ, ◌-◌, ◌/◌, ◌%◌, ◌<◌, ◌≤◌, ◌^◌, zero, suc, List, [], ◌∷◌}
use Rattle.std.proofs.Common.{◌++◌, length, get_or, refl, sym, ap, ◌∙◌, subst, arith, append_assoc}
use Rattle.std.proofs.Common.{length-append, lit<, ⊎_elim, ◌↔◌, Option, Some, None}
use Rattle.std.specs.Prelude.{decimal, MatchOption}
use Rattle.std.specs.Net.Addr.{ipv4_octets, ipv4_bits}
use Rattle.std.specs.Net.Grammar.{IsDotted, IsIpv4Text}
use Rattle.std.specs.Net.Text.{ipv4_text}
use Rattle.std.specs.Int.{w32, to_be_bytes, from_be_bytes}
use Rattle.std.specs.declared.net.ipv4_addr.Ipv4Addr.{Ipv4Addr}
use Rattle.std.proofs.lemmas.Nat.{be_bytes_4}
use Rattle.std.proofs.lemmas.Bool.{cases_lt}
use Rattle.std.proofs.lemmas.List.{get_or_append_left, get_or-append_right}
use Rattle.std.proofs.lemmas.Fmt.{digits_decimal, decimal_injective}
use Rattle.std.proofs.lemmas.Str.Parse.{not_in_digits}
use Rattle.std.proofs.lemmas.Str.Pattern.{IsSplitOnceResult, split_after, split_parts}
use denote.Ref.{Bor}
use Rattle.words.specs.Prefixes.{Network, IsNetwork}
use Rattle.words.specs.Text.{dotted_address, prefix_text}
use Rattle.words.proofs.Decimals.{own}

-- ---- addresses

four : (a b c d i : ℕ) → a < 256 → b < 256 → c < 256 → d < 256
    → get_or (a ∷ b ∷ c ∷ d ∷ []) i 0 < 256
four a b c d zero la lb lc ld = la
four a b c d (suc zero) la lb lc ld = lb
four a b c d (suc (suc zero)) la lb lc ld = lc
four a b c d (suc (suc (suc zero))) la lb lc ld = ld
four a b c d (suc (suc (suc (suc i)))) la lb lc ld = lit< tt

bits_text : (n : ℕ) (octets : List ℕ) → to_be_bytes w32 n ≡ octets
    → dotted_address n ≡ ipv4_text octets
bits_text n octets e = ap ipv4_text e

dotted_again : (w octets : List ℕ) (n : ℕ) → IsDotted w octets → n ≡ from_be_bytes w32 octets
    → w ≡ dotted_address n
dotted_again w octets n d e =
    let bytes : (i : ℕ) → get_or octets i 0 < 256 =
    λ i. subst (λ (o : List ℕ). get_or o i 0 < 256) (sym d.value)
    (four d.a d.b d.c d.d i d.fit.0 d.fit.1 d.fit.2 d.fit.3) in
    let same : to_be_bytes w32 n ≡ octets = be_bytes_4 octets n (ap length d.value) bytes e in
    d.spelled ∙ sym (ap ipv4_text d.value) ∙ sym (bits_text n octets same)

-- a word that is read as an address spells it
pub address_spelled : (w : List ℕ) (x : Ipv4Addr) (n : ℕ) → IsIpv4Text w x → n ≡ ipv4_bits x
    → w ≡ dotted_address n
unfolding ipv4_bits
address_spelled w x n d e = dotted_again w (ipv4_octets x) n d e

-- a word that spells an address is read
pub address_unread : (w : List ℕ) → ((x : Ipv4Addr) → IsIpv4Text w x → ⊥) → (a : ℕ)
    → w ≢ dotted_address a
address_unread w none a e =
    none (record {
      octets = a / 16777216 % 256 ∷ a / 65536 % 256 ∷ a / 256 % 256 ∷ a % 256 ∷ [];
    }) (record {
      a = a / 16777216 % 256;
      b = a / 65536 % 256;
      c = a / 256 % 256;
      d = a % 256;
      fit = (omega arith, omega arith, omega arith, omega arith);
      value = refl;
      spelled = e;
    })

-- ---- what lacks a byte

abbrev Free : ℕ → List ℕ → Type 0
Free byte xs = (i : ℕ) → i < length xs → get_or xs i 0 ≢ byte

in_front : (byte : ℕ) (xs ys : List ℕ) (i : ℕ) → Free byte xs → i < length xs
    → get_or (xs ++ ys) i 0 ≢ byte
in_front byte xs ys i f lt e = f i lt (sym (get_or_append_left xs ys 0 i lt) ∙ e)

behind : (byte : ℕ) (xs ys : List ℕ) (i : ℕ) → Free byte ys → length xs ≤ i → i < length (xs ++ ys)
    → get_or (xs ++ ys) i 0 ≢ byte
behind byte xs ys i f le lt e =
    let within : i - length xs < length ys = omega (arith, length-append xs ys) in
    f (i - length xs) within (sym (get_or-append_right xs ys (length xs) i 0 refl le) ∙ e)

free_append : (byte : ℕ) (xs ys : List ℕ) → Free byte xs → Free byte ys → Free byte (xs ++ ys)
free_append byte xs ys f g i lt e =
    ⊎_elim (λ below. in_front byte xs ys i f below e) (λ above. behind byte xs ys i g above lt e)
    (cases_lt i (length xs))

free_octet : (byte : ℕ) (n : ℕ) → byte < 48 → Free byte (decimal (n % 256))
free_octet byte n low = not_in_digits own (decimal (n % 256)) byte
    (digits_decimal own (n % 256) (omega arith)) (λ r. absurd (omega (arith, r.0)))

free_dot : Free 47 (46 ∷ [])
free_dot zero lt e = omega (arith, e)
free_dot (suc i) lt e = absurd (omega arith)

free_dotted : (a : ℕ) → Free 47 (dotted_address a)
free_dotted a =
    let low : 47 < 48 = lit< tt in
    let p = free_append 47 _ _ (free_octet 47 (a / 16777216) low) free_dot in
    let q = free_append 47 _ _ p (free_octet 47 (a / 65536) low) in
    let r = free_append 47 _ _ q free_dot in
    let s = free_append 47 _ _ r (free_octet 47 (a / 256) low) in
    let t = free_append 47 _ _ s free_dot in
    free_append 47 _ _ t (free_octet 47 a low)

-- a byte above the digits isn't in the text of a number
high_octet : (byte n : ℕ) → 57 < byte → Free byte (decimal (n % 256))
high_octet byte n high = not_in_digits own (decimal (n % 256)) byte
    (digits_decimal own (n % 256) (omega arith)) (λ r. absurd (omega (arith, r.1)))

one_byte : (byte x : ℕ) → x < byte → Free byte (x ∷ [])
one_byte byte x below zero lt e = absurd (omega (arith, e))
one_byte byte x below (suc i) lt e = absurd (omega arith)

high_dotted : (byte a : ℕ) → 57 < byte → Free byte (dotted_address a)
high_dotted byte a high =
    let dot : Free byte (46 ∷ []) = one_byte byte 46 (omega arith) in
    let p = free_append byte _ _ (high_octet byte (a / 16777216) high) dot in
    let q = free_append byte _ _ p (high_octet byte (a / 65536) high) in
    let r = free_append byte _ _ q dot in
    let s = free_append byte _ _ r (high_octet byte (a / 256) high) in
    let t = free_append byte _ _ s dot in
    free_append byte _ _ t (high_octet byte a high)

pub high_in_prefix : (byte : ℕ) (n : Network) → 57 < byte → n.length ≤ 32 → (i : ℕ)
    → i < length (prefix_text n) → get_or (prefix_text n) i 0 ≢ byte
high_in_prefix byte n high few =
    let slash : Free byte (47 ∷ []) = one_byte byte 47 (omega arith) in
    let size : Free byte (decimal n.length) =
    not_in_digits own (decimal n.length) byte (digits_decimal own n.length (omega arith))
    (λ r. absurd (omega (arith, r.1))) in
    free_append byte _ _ (free_append byte _ _ (high_dotted byte n.address high) slash) size

free_rest : (byte x : ℕ) (xs : List ℕ) → Free byte (x ∷ xs) → Free byte xs
free_rest byte x xs f i lt e = f (suc i) (omega arith) e

-- two texts cut at a byte that isn't in either front are the same only if both parts are
halves : (byte : ℕ) (xs ys vs ws : List ℕ) → Free byte xs → Free byte vs
    → xs ++ byte ∷ ys ≡ vs ++ byte ∷ ws → (xs ≡ vs) × (ys ≡ ws)
halves byte [] ys [] ws f g e = (refl, (cc))
halves byte [] ys (v ∷ vs) ws f g e = absurd (g 0 (omega arith) (cc))
halves byte (x ∷ xs) ys [] ws f g e = absurd (f 0 (omega arith) (cc))
halves byte (x ∷ xs) ys (v ∷ vs) ws f g e =
    let rest = halves byte xs ys vs ws (free_rest byte x xs f) (free_rest byte v vs g) (cc) in
    let same : x ≡ v = cc in
    let tail : xs ≡ vs = rest.0 in
    (cc, rest.1)

octets_text : (a : ℕ) → dotted_address a ≡ decimal (a / 16777216 % 256) ++ 46
    ∷ (decimal (a / 65536 % 256) ++ 46 ∷ (decimal (a / 256 % 256) ++ 46 ∷ decimal (a % 256)))
octets_text a = simp append_assoc

same_octet : (m n : ℕ) → decimal (m % 256) ≡ decimal (n % 256) → m % 256 ≡ n % 256
same_octet m n e = decimal_injective (m % 256) (n % 256) (omega arith) (omega arith) e

same_number : (a b : ℕ) → a < 2 ^ 32 → b < 2 ^ 32 → a / 16777216 % 256 ≡ b / 16777216 % 256
    → a / 65536 % 256 ≡ b / 65536 % 256 → a / 256 % 256 ≡ b / 256 % 256 → a % 256 ≡ b % 256 → a ≡ b
same_number a b h k p q r s = omega arith

-- a text spells one address
pub one_address : (a b : ℕ) → a < 2 ^ 32 → b < 2 ^ 32 → dotted_address a ≡ dotted_address b → a ≡ b
one_address a b h k e =
    let low : 46 < 48 = lit< tt in
    let one = halves 46 _ _ _ _ (free_octet 46 (a / 16777216) low)
    (free_octet 46 (b / 16777216) low) (sym (octets_text a) ∙ e ∙ octets_text b) in
    let two = halves 46 _ _ _ _ (free_octet 46 (a / 65536) low) (free_octet 46 (b / 65536) low)
    one.1 in
    let three = halves 46 _ _ _ _ (free_octet 46 (a / 256) low) (free_octet 46 (b / 256) low) two.1
    in
    let p = same_octet (a / 16777216) (b / 16777216) one.0 in
    let q = same_octet (a / 65536) (b / 65536) two.0 in
    let r = same_octet (a / 256) (b / 256) three.0 in
    let s = same_octet a b three.1 in
    same_number a b h k p q r s

-- ---- a place: an address, a slash and a length

slash_text : (n : Network) → prefix_text n ≡ dotted_address n.address ++ 47 ∷ decimal n.length
slash_text n = append_assoc (dotted_address n.address) (47 ∷ []) (decimal n.length)

cut : (w : List ℕ) (r : Option (Bor (List ℕ) × Bor (List ℕ))) → IsSplitOnceResult 47 w r
    → (n : Network) → w ≡ prefix_text n
    → MatchOption r ⊥ (λ x. (x.0.now ≡ dotted_address n.address) × (x.1.now ≡ decimal n.length))
cut w r h n e = split_after 47 w (dotted_address n.address) (decimal n.length) r h (lit< tt)
    (e ∙ slash_text n) (free_dotted n.address)

pub no_place : (w : List ℕ) (r : Option (Bor (List ℕ) × Bor (List ℕ))) → IsSplitOnceResult 47 w r
    → r ≡ None → (n : Network) → w ≢ prefix_text n
no_place w r h none n e = subst (λ (q : Option (Bor (List ℕ) × Bor (List ℕ))). MatchOption q ⊥
    (λ x. (x.0.now ≡ dotted_address n.address) × (x.1.now ≡ decimal n.length))) none (cut w r h n e)

pub place_parts : (w : List ℕ) (r : Option (Bor (List ℕ) × Bor (List ℕ)))
    (x : Bor (List ℕ) × Bor (List ℕ)) → IsSplitOnceResult 47 w r → r ≡ Some x → (n : Network)
    → w ≡ prefix_text n → (x.0.now ≡ dotted_address n.address) × (x.1.now ≡ decimal n.length)
place_parts w r x h some n e = subst
    (λ (q : Option (Bor (List ℕ) × Bor (List ℕ))). MatchOption q ⊥
    (λ x. (x.0.now ≡ dotted_address n.address) × (x.1.now ≡ decimal n.length))) some
    (cut w r h n e)

pub place_spelled : (w : List ℕ) (r : Option (Bor (List ℕ) × Bor (List ℕ)))
    (x : Bor (List ℕ) × Bor (List ℕ)) → IsSplitOnceResult 47 w r → r ≡ Some x → (a l : ℕ)
    → x.0.now ≡ dotted_address a → x.1.now ≡ decimal l
    → w ≡ prefix_text (record { address = a; length = l })
place_spelled w r x h some a l e f =
    let parts : (w ≡ x.0.now ++ (47 ∷ x.1.now))
    × ((i : ℕ) → i < length x.0.now → get_or x.0.now i 0 ≢ 47) =
    subst (λ (q : Option (Bor (List ℕ) × Bor (List ℕ))). MatchOption q
    ((i : ℕ) → i < length w → get_or w i 0 ≢ 47)
    (λ x. (w ≡ x.0.now ++ (47 ∷ x.1.now))
    × ((i : ℕ) → i < length x.0.now → get_or x.0.now i 0 ≢ 47))) some
    (split_parts 47 w r h (lit< tt)) in
    parts.0 ∙ ap (λ (t : List ℕ). t ++ (47 ∷ x.1.now)) e
    ∙ ap (λ (t : List ℕ). dotted_address a ++ (47 ∷ t)) f ∙ sym (slash_text (record {
      address = a;
      length = l;
    }))

-- a text spells one place
pub one_place : (m n : Network) → m.address < 2 ^ 32 → n.address < 2 ^ 32 → m.length ≤ 32
    → n.length ≤ 32 → prefix_text m ≡ prefix_text n
    → (m.address ≡ n.address) × (m.length ≡ n.length)
one_place m n h k p q e =
    let parts = halves 47 _ _ _ _ (free_dotted m.address) (free_dotted n.address)
    (sym (slash_text m) ∙ e ∙ slash_text n) in (
      one_address m.address n.address h k parts.0,
      decimal_injective m.length n.length (omega arith) (omega arith) parts.1,
    )

pub prefix_read : (w : List ℕ) (a l : ℕ) (r : Option Network) → w ≡ prefix_text (record {
  address = a;
  length = l;
}) → a < 2 ^ 32 → l ≤ 32
    → ((network : Network) → (r ≡ Some network) ↔
    (IsNetwork network × (network.address ≡ a) × (network.length ≡ l)))
    → MatchOption r ((n : Network) → IsNetwork n → w ≢ prefix_text n)
    (λ n. (w ≡ prefix_text n) × IsNetwork n)
prefix_read w a l None e h k only = λ n is f.
    let same = one_place (record { address = a; length = l }) n h is.0 k is.1 (sym e ∙ f) in
    absurd (cc ((only n).1 (is, sym same.0, sym same.1)))
prefix_read w a l (Some n) e h k only =
    let found = (only n).0 refl in
    let address : a ≡ n.address = sym found.1 in
    let many : l ≡ n.length = sym found.2 in (
      e ∙ ap (λ (k : ℕ). prefix_text (record {
        address = k;
        length = l;
      })) address ∙ ap (λ (k : ℕ). prefix_text (record { address = n.address; length = k })) many,
      found.0,
    )
