-- Lines and names that grow together.
use Rattle.std.proofs.Common.{◌≡◌, ℕ, List, [], ◌∷◌, ◌++◌, length, Option, None, refl, ap, arith}
use Rattle.std.proofs.Common.{sym, subst, ◌∙◌, Some}
use Rattle.std.specs.Prelude.{map, filter, Bool, true, false, option_map, IfSome}
use denote.Ref.{Bor}
use Rattle.asm.specs.declared.line.AssemblyLine.{AssemblyLine}
use Rattle.asm.specs.declared.line.Item.{Item}
use Rattle.asm.specs.Words.{Word}
use Rattle.asm.specs.Forms.{Spells}
use Rattle.asm.specs.LineViews.{views, item, item_view, items, SpellsItem}
use Rattle.asm.specs.Text.{words_in, Reads, Readings, AddsReading}
use Rattle.asm.specs.Reading.{line_of}
use Rattle.asm.proofs.Complete.{complete}

pub items_more : (lines : List (Option AssemblyLine)) (names : List (Bor Word))
    (line : Option AssemblyLine) (name : Bor Word) → length lines ≡ length names
    → items (lines ++ line ∷ []) (names ++ name ∷ []) ≡ items lines names ++ item line name.now
    ∷ []
items_more [] [] line name e = refl
items_more [] (n ∷ ns) line name e = absurd (omega arith)
items_more (l ∷ ls) [] line name e = absurd (omega arith)
items_more (l ∷ ls) (n ∷ ns) line name e =
    ap (λ (rest : List (Option (AssemblyLine × Word))). item l n.now ∷ rest)
    (items_more ls ns line name (omega arith))

pub map_more : {A B : Type 0} (f : A → B) (xs : List A) (x : A)
    → map f (xs ++ x ∷ []) ≡ map f xs ++ f x ∷ []
map_more f [] x = refl
map_more f (y ∷ ys) x = ap (λ rest. f y ∷ rest) (map_more f ys x)

pub filter_more : {A : Type 0} (p : A → Bool) (xs : List A) (x : A) → p x ≡ true
    → filter p (xs ++ x ∷ []) ≡ filter p xs ++ x ∷ []
filter_more p [] x e = rw e refl
filter_more p (y ∷ ys) x e = elim (p y) as
    (λ b. p y ≡ b → filter p (y ∷ (ys ++ x ∷ [])) ≡ filter p (y ∷ ys) ++ x ∷ []) [
      | true ↦ λ q. rw q (ap (λ rest. y ∷ rest) (filter_more p ys x e))
      | false ↦ λ q. rw q (filter_more p ys x e)
    ] refl

pub filter_same : {A : Type 0} (p : A → Bool) (xs : List A) (x : A) → p x ≡ false
    → filter p (xs ++ x ∷ []) ≡ filter p xs
filter_same p [] x e = rw e refl
filter_same p (y ∷ ys) x e = elim (p y) as
    (λ b. p y ≡ b → filter p (y ∷ (ys ++ x ∷ [])) ≡ filter p (y ∷ ys)) [
      | true ↦ λ q. rw q (ap (λ rest. y ∷ rest) (filter_same p ys x e))
      | false ↦ λ q. rw q (filter_same p ys x e)
    ] refl

pub readings_more : (ls : List (List ℕ)) (rs : List (Option (AssemblyLine × Word))) (l : List ℕ)
    (r : Option (AssemblyLine × Word)) → Readings ls rs → Reads (words_in l) r
    → Readings (ls ++ l ∷ []) (rs ++ r ∷ [])
readings_more [] [] l r h k = (k, tt)
readings_more [] (s ∷ rs) l r h k = absurd h
readings_more (m ∷ ls) [] l r h k = absurd h
readings_more (m ∷ ls) (s ∷ rs) l r h k = (h.0, readings_more ls rs l r h.1 k)

pub adds_readings : (ls : List (List ℕ)) (old new : List (Option (AssemblyLine × Word)))
    (l : List ℕ) → Readings ls old → AddsReading (words_in l) old new → Readings (ls ++ l ∷ []) new
adds_readings ls old new l h a = subst
    (λ (rs : List (Option (AssemblyLine × Word))). Readings (ls ++ l ∷ []) rs) (sym a.2)
    (readings_more ls old l a.0 h a.1)

pub no_reading : (words : List Word) → None ≡ line_of words → Reads words None
no_reading words e line name s = absurd (cc (complete words line name s))

-- what was found in words spells what they read as
pub reads_found : (words ws : List Word) (found : Option Item) → words ≡ ws
    → option_map item_view found ≡ line_of words → IfSome found (SpellsItem words)
    → Reads ws (option_map item_view found)
reads_found words ws (Some item) e value spells =
    subst (λ (all : List Word). Spells all item.line item.name.now) e spells
reads_found words ws None e value spells = no_reading ws (value ∙ ap line_of e)

pub adds : (lines more_lines : List (Option AssemblyLine)) (names more_names : List (Bor Word))
    (words : List Word) (l : Option AssemblyLine) (n : Bor Word) → length lines ≡ length names
    → more_lines ≡ lines ++ l ∷ [] → more_names ≡ names ++ n ∷ [] → Reads words (item l n.now)
    → AddsReading words (items lines names) (items more_lines more_names)
adds lines more_lines names more_names words l n same e f reads =
    (item l n.now, reads, rw (e, f) (items_more lines names l n same))

pub views_more : (xs : List (Bor Word)) (x : Bor Word)
    → views (xs ++ x ∷ []) ≡ views xs ++ x.now ∷ []
views_more [] x = refl
views_more (y ∷ ys) x = ap (λ (rest : List Word). y.now ∷ rest) (views_more ys x)
