-- The words of a slice that was taken apart.
use Rattle.std.proofs.Common.{◌≡◌, ℕ, zero, suc, ◌≤◌, List, [], ◌∷◌, length, get_or, Option, Some}
use Rattle.std.proofs.Common.{None, refl, sym, ap, ◌∙◌, subst, arith}
use Rattle.std.specs.Prelude.{IfSome}
use denote.Ref.{Bor}
use Rattle.asm.specs.Words.{Word}
use Rattle.asm.specs.declared.line.Item.{Item}
use Rattle.asm.specs.LineViews.{views, SpellsItem}
use Rattle.asm.specs.Reading.{line_of}

pub if_some : {A : Type 0} (P Q : A → Type 0) (r : Option A) → ((x : A) → P x → Q x) → IfSome r P
    → IfSome r Q
if_some P Q None f h = h
if_some P Q (Some x) f h = f x h

-- `k` words of a slice, from this index on
abbrev pub words_at : List (Bor Word) → Bor Word → ℕ → ℕ → List Word
words_at ws d i zero = []
words_at ws d i (suc k) = (get_or ws i d).now ∷ words_at ws d (suc i) k

words_behind : (w d : Bor Word) (ws : List (Bor Word)) (i k : ℕ)
    → words_at (w ∷ ws) d (suc i) k ≡ words_at ws d i k
words_behind w d ws i zero = refl
words_behind w d ws i (suc k) = ap (λ rest. (get_or ws i d).now ∷ rest)
    (words_behind w d ws (suc i) k)

-- what a slice of `k` words is seen as
pub seen : (ws : List (Bor Word)) (d : Bor Word) (k : ℕ) → length ws ≡ k
    → views ws ≡ words_at ws d 0 k
seen [] d zero e = refl
seen [] d (suc k) e = absurd (omega arith)
seen (w ∷ ws) d zero e = absurd (omega arith)
seen (w ∷ ws) d (suc k) e =
    let same : length ws ≡ k = omega arith in
    ap (λ rest. w.now ∷ rest) (seen ws d k same ∙ sym (words_behind w d ws 0 k))

pub found : (r : Option Item) (words parts : List Word) → words ≡ parts
    → IfSome r (SpellsItem parts) → IfSome r (SpellsItem words)
found r words parts e h = subst (λ (ws : List Word). IfSome r (SpellsItem ws)) (sym e) h

pub none_more : (ws : List (Bor Word)) → 11 ≤ length ws → None ≡ line_of (views ws)
unfolding line_of
none_more [] low = absurd (omega arith)
none_more (w0 ∷ []) low = absurd (omega arith)
none_more (w0 ∷ w1 ∷ []) low = absurd (omega arith)
none_more (w0 ∷ w1 ∷ w2 ∷ []) low = absurd (omega arith)
none_more (w0 ∷ w1 ∷ w2 ∷ w3 ∷ []) low = absurd (omega arith)
none_more (w0 ∷ w1 ∷ w2 ∷ w3 ∷ w4 ∷ []) low = absurd (omega arith)
none_more (w0 ∷ w1 ∷ w2 ∷ w3 ∷ w4 ∷ w5 ∷ []) low = absurd (omega arith)
none_more (w0 ∷ w1 ∷ w2 ∷ w3 ∷ w4 ∷ w5 ∷ w6 ∷ []) low = absurd (omega arith)
none_more (w0 ∷ w1 ∷ w2 ∷ w3 ∷ w4 ∷ w5 ∷ w6 ∷ w7 ∷ []) low = absurd (omega arith)
none_more (w0 ∷ w1 ∷ w2 ∷ w3 ∷ w4 ∷ w5 ∷ w6 ∷ w7 ∷ w8 ∷ []) low = absurd (omega arith)
none_more (w0 ∷ w1 ∷ w2 ∷ w3 ∷ w4 ∷ w5 ∷ w6 ∷ w7 ∷ w8 ∷ w9 ∷ []) low = absurd (omega arith)
none_more (w0 ∷ w1 ∷ w2 ∷ w3 ∷ w4 ∷ w5 ∷ w6 ∷ w7 ∷ w8 ∷ w9 ∷ w10 ∷ ws) low = refl
