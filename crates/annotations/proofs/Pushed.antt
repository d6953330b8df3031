-- What loops have pushed so far.
use Rattle.std.proofs.Common.{◌≡◌, ℕ, ◌+◌, ◌*◌, ◌<◌, ◌≤◌, zero-add, List, [], ◌∷◌, ◌++◌, length}
use Rattle.std.proofs.Common.{get_or, take, sym, ap, ◌∙◌, append_assoc, arith}
use Rattle.std.proofs.lemmas.List.{take_more, length-take-le}
use Rattle.isa.specs.declared.code.Slot.{Slot}
use Rattle.annotations.specs.CountedCode.{slots_at, redirected_from, detour, detours}

-- one slot more behind the code
pub redirected-append : (slots : ℕ) (heads : List ℕ) (slot : ℕ) (xs : List Slot) (s : Slot)
    → redirected_from slots heads slot (xs ++ s ∷ [])
    ≡ redirected_from slots heads slot xs ++ slots_at slots heads (slot + length xs) s
redirected-append slots heads slot [] s = grind arith
redirected-append slots heads slot (x ∷ xs) s =
    let rest = redirected-append slots heads (slot + 1) xs s in
    let place : (slot + 1) + length xs ≡ slot + length (x ∷ xs) = omega arith in
    ap (λ t. slots_at slots heads slot x ++ t) rest
    ∙ sym (append_assoc (slots_at slots heads slot x) (redirected_from slots heads (slot + 1) xs)
    (slots_at slots heads ((slot + 1) + length xs) s))
    ∙ ap (λ n. redirected_from slots heads slot (x ∷ xs) ++ slots_at slots heads n s) place

-- one detour more behind those
pub detours-append : (answer : ℕ) (counter at : ℕ) (heads : List ℕ) (head : ℕ)
    → detours answer counter at (heads ++ head ∷ []) ≡ detours answer counter at heads
    ++ detour answer counter (at + 4 * length heads) head
detours-append answer counter at [] head = grind arith
detours-append answer counter at (h ∷ heads) head =
    let rest = detours-append answer counter (at + 4) heads head in
    let place : (at + 4) + 4 * length heads ≡ at + 4 * length (h ∷ heads) = omega arith in
    ap (λ t. detour answer counter at h ++ t) rest
    ∙ sym (append_assoc (detour answer counter at h) (detours answer counter (at + 4) heads)
    (detour answer counter ((at + 4) + 4 * length heads) head))
    ∙ ap (λ n. detours answer counter at (h ∷ heads) ++ detour answer counter n head) place

-- a loop that has pushed one slot more
pub one_more_slot : (slots : ℕ) (heads : List ℕ) (code : List Slot) (i : ℕ) (s d : Slot)
    (out before after : List Slot) → i < length code → get_or code i d ≡ s
    → before ≡ out ++ redirected_from slots heads 0 (take i code)
    → after ≡ before ++ slots_at slots heads i s
    → after ≡ out ++ redirected_from slots heads 0 (take (i + 1) code)
one_more_slot slots heads code i s d out before after lt is so_far pushed =
    let done : List Slot = redirected_from slots heads 0 (take i code) in
    let within : i ≤ length code = omega arith in
    let place : 0 + length (take i code) ≡ i =
    zero-add (length (take i code)) ∙ length-take-le i code within in
    let taken : take (i + 1) code ≡ take i code ++ s ∷ [] =
    take_more code i d lt ∙ ap (λ x. take i code ++ x ∷ []) is in
    let more : redirected_from slots heads 0 (take (i + 1) code) ≡ done
    ++ slots_at slots heads i s =
    ap (λ xs. redirected_from slots heads 0 xs) taken
    ∙ redirected-append slots heads 0 (take i code) s
    ∙ ap (λ n. done ++ slots_at slots heads n s) place in
    pushed ∙ ap (λ t. t ++ slots_at slots heads i s) so_far
    ∙ append_assoc out done (slots_at slots heads i s) ∙ ap (λ t. out ++ t) (sym more)

-- a loop that has pushed one detour more
pub one_more_detour : (answer : ℕ) (counter first : ℕ) (heads : List ℕ) (i at d : ℕ)
    (out before after : List Slot) → i < length heads → at ≡ first + 4 * i
    → before ≡ out ++ detours answer counter first (take i heads)
    → after ≡ before ++ detour answer counter at (get_or heads i d)
    → after ≡ out ++ detours answer counter first (take (i + 1) heads)
one_more_detour answer counter first heads i at d out before after lt at_is so_far pushed =
    let head : ℕ = get_or heads i d in
    let done : List Slot = detours answer counter first (take i heads) in
    let within : i ≤ length heads = omega arith in
    let place : first + 4 * length (take i heads) ≡ at =
    ap (λ n. first + 4 * n) (length-take-le i heads within) ∙ sym at_is in
    let more : detours answer counter first (take (i + 1) heads) ≡ done
    ++ detour answer counter at head =
    ap (λ xs. detours answer counter first xs) (take_more heads i d lt)
    ∙ detours-append answer counter first (take i heads) head
    ∙ ap (λ n. done ++ detour answer counter n head) place in
    pushed ∙ ap (λ t. t ++ detour answer counter at head) so_far
    ∙ append_assoc out done (detour answer counter at head) ∙ ap (λ t. out ++ t) (sym more)
