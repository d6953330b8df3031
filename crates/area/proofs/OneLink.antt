-- The change of one link.
use Rattle.std.proofs.Common.{◌≡◌, ℕ, zero, suc, ◌+◌, ◌<◌, ◌≤◌, ◌==◌, cond, List, [], ◌∷◌, length}
use Rattle.std.proofs.Common.{map, get_or, set, refl, sym, ap, ◌∙◌, arith}
use Rattle.std.specs.List.{enumerate_from}
use Rattle.received.specs.Links.{Link}
use Rattle.area.proofs.Sends.{other_number, same_number}

module _ {N : Type 0} (p : N → Link) (change : Link → Link) where
  abbrev pub changed : ℕ → ℕ → List Link → List Link
  changed n number ls = map (λ (e : ℕ × Link). cond (e.0 == number) (change e.1) e.1)
      (enumerate_from n ls)

  -- a number before those of the links changes nothing
  pub changed_before : (n number : ℕ) (ls : List Link) → number < n → changed n number ls ≡ ls
  changed_before n number [] lt = refl
  changed_before n number (l ∷ ls) lt =
      ap (λ b. cond b (change l) l ∷ changed (n + 1) number ls)
      (other_number n number (λ is. absurd (omega (arith, lt, is))))
      ∙ ap (λ zs. l ∷ zs) (changed_before (n + 1) number ls (omega (arith, lt)))

  -- nor does a number after those of the links
  pub changed_after : (n number : ℕ) (ls : List Link) → n + length ls ≤ number
      → changed n number ls ≡ ls
  changed_after n number [] le = refl
  changed_after n number (l ∷ ls) le =
      ap (λ b. cond b (change l) l ∷ changed (n + 1) number ls)
      (other_number n number (λ is. absurd (omega (arith, le, is))))
      ∙ ap (λ zs. l ∷ zs) (changed_after (n + 1) number ls (omega (arith, le)))

  pub changed_at : (n number i : ℕ) (ns : List N) (y d : N) → i < length ns → number ≡ n + i
      → p y ≡ change (p (get_or ns i d)) → map p (set ns i y) ≡ changed n number (map p ns)
  changed_at n number i [] y d lt at is = absurd (omega (arith, lt))
  changed_at n number zero (m ∷ ns) y d lt at is =
      ap (λ l. l ∷ map p ns) is
      ∙ ap (λ zs. change (p m) ∷ zs) (sym
      (changed_before (n + 1) number (map p ns) (omega (arith, at))))
      ∙ ap (λ b. cond b (change (p m)) (p m) ∷ changed (n + 1) number (map p ns))
      (sym (ap (λ k. n == k) at ∙ ap (λ k. n == k) (zero_more n) ∙ same_number n))
    where
      zero_more : (n : ℕ) → n + 0 ≡ n
      zero_more n = omega arith
  changed_at n number (suc i) (m ∷ ns) y d lt at is =
      ap (λ zs. p m ∷ zs) (changed_at (n + 1) number i ns y d (omega (arith, lt))
      (omega (arith, at)) is)
      ∙ ap (λ b. cond b (change (p m)) (p m) ∷ changed (n + 1) number (map p ns))
      (sym (other_number n number (λ same. absurd (omega (arith, at, same)))))
