-- The label determines where a step leads.
use Rattle.std.proofs.Common.{◌≡◌, ℕ, List, [], ◌∷◌, map, refl, sym, ap, ◌∙◌, Option, inl, inr}
use Rattle.isa.specs.declared.instruction.LoadSize.{LoadSize}
use Rattle.isa.specs.declared.instruction.StoreSize.{StoreSize}
use Rattle.isa.specs.declared.instruction.Instruction.{Instruction}
use Rattle.isa.specs.declared.instruction.Instruction.TheVariants as instructions
use Rattle.machine.specs.declared.helper.Helper.{Helper}
use Rattle.machine.specs.Given.{Given}
use Rattle.machine.specs.declared.helper.Helper.TheVariants as helpers
use Rattle.machine.specs.declared.state.Content.{Content}
use Rattle.machine.specs.declared.state.Content.TheVariants.{Nothing, Number, Address}
use Rattle.isa.specs.declared.map.Map.TheVariants.{Counters, Cells}
use Rattle.machine.specs.declared.state.Pointer.{Pointer}
use Rattle.machine.specs.declared.state.Pointer.TheVariants as pointers
use Rattle.machine.specs.declared.state.StackByte.{StackByte}
use Rattle.machine.specs.declared.state.StackByte.TheVariants as stack_bytes
use Rattle.machine.specs.declared.state.State.{State}
use Rattle.machine.specs.Label.{Label}
use Rattle.machine.specs.State.{Setting, held, operand, with_register}
use Rattle.machine.specs.Memory.{Loads, Stores, StackGives, pieces}
use Rattle.machine.specs.Helpers.{HelperAnswers, arguments, state_after_call}
use Rattle.machine.specs.Steps.{Does, Step, Fills}

same_bytes : (xs ys : List ℕ) → map stack_bytes.Byte xs ≡ map stack_bytes.Byte ys → xs ≡ ys
same_bytes [] [] e = refl
same_bytes (x ∷ xs) [] e = cc
same_bytes [] (y ∷ ys) e = cc
same_bytes (x ∷ xs) (y ∷ ys) e =
    let rest : map stack_bytes.Byte xs ≡ map stack_bytes.Byte ys = cc in
    let tail = same_bytes xs ys rest in cc

no_pieces : (xs : List ℕ) (p : Pointer) → map stack_bytes.Byte xs ≡ pieces p → ⊥
no_pieces [] p e = cc
no_pieces (x ∷ xs) p e = cc

same_found : (size : LoadSize) (bytes : List StackByte) (c d : Content) → StackGives size bytes c
    → StackGives size bytes d → c ≡ d
same_found size bytes c d (inl (xs, e, f)) (inl (ys, g, h)) = let same =
    same_bytes xs ys (sym e ∙ g) in cc
same_found size bytes c d (inl (xs, e, f)) (inr (p, w, g, h)) = absurd (no_pieces xs p (sym e ∙ g))
same_found size bytes c d (inr (p, w, g, h)) (inl (xs, e, f)) = absurd (no_pieces xs p (sym e ∙ g))
same_found size bytes c d (inr (p, w, g, h)) (inr (q, v, k, l)) = let same : pieces p ≡ pieces q =
    sym g ∙ k in cc

loads_one : (size : LoadSize) (q : Pointer) (input : Given) (s : State) (label : Label)
    (c d : Content) → Loads size q input s label c → Loads size q input s label d → c ≡ d
loads_one size (pointers.Context a) input s label c d (_, _, m, e, _, h) (_, _, n, f, _, k) =
    let same : m ≡ n = e ∙ sym f in rw (h, k, same) refl
loads_one size (pointers.Stack a) input s label c d (_, _, h) (_, _, k) = same_found size _ c d h k
loads_one size (pointers.Map Counters a) input s label c d (_, _, _, v, _, e, h)
    (_, _, _, w, _, f, k) = cc
loads_one size (pointers.Map Cells a) input s label c d (_, _, _, v, _, e, h) (_, _, _, w, _, f, k)
    = cc

stores_one : (size : StoreSize) (q : Pointer) (content : Content) (s : State) (label : Label)
    (a b : List StackByte) → Stores size q content s label a → Stores size q content s label b
    → a ≡ b
stores_one size (pointers.Stack o) (Number n) s label a b (_, _, h) (_, _, k) = h ∙ sym k
stores_one size (pointers.Stack o) (Address p) s label a b (_, _, _, h) (_, _, _, k) = h ∙ sym k
stores_one size (pointers.Map Cells o) (Number n) s label a b (_, _, _, _, h) (_, _, _, _, k) =
    h ∙ sym k
stores_one size (pointers.Stack o) Nothing s label a b h k = elim h [ ]
stores_one size (pointers.Context o) content s label a b h k = elim h [ ]
stores_one size (pointers.Map Counters o) content s label a b h k = elim h [ ]
stores_one size (pointers.Map Cells o) Nothing s label a b h k = elim h [ ]
stores_one size (pointers.Map Cells o) (Address p) s label a b h k = elim h [ ]

module _ (input : Given) (label : Label) (m n : ℕ) where
  add_one_answer : (a b : Content) → HelperAnswers helpers.CounterAdd input (a ∷ b ∷ []) label m
      → HelperAnswers helpers.CounterAdd input (a ∷ b ∷ []) label n → m ≡ n
  add_one_answer (Number a) (Number b) (_, _, inl (e, f)) (_, _, inl (g, h)) = f ∙ sym h
  add_one_answer (Number a) (Number b) (_, _, inr (e, f)) (_, _, inr (g, h)) = f ∙ sym h
  add_one_answer (Number a) (Number b) (_, _, inl (e, f)) (_, _, inr (g, h)) = cc
  add_one_answer (Number a) (Number b) (_, _, inr (e, f)) (_, _, inl (g, h)) = cc
  add_one_answer Nothing b h k = elim h [ ]
  add_one_answer (Address p) b h k = elim h [ ]
  add_one_answer (Number a) Nothing h k = elim h [ ]
  add_one_answer (Number a) (Address p) h k = elim h [ ]

  read_one_answer : (a : Content) → HelperAnswers helpers.CounterRead input (a ∷ []) label m
      → HelperAnswers helpers.CounterRead input (a ∷ []) label n → m ≡ n
  read_one_answer (Number a) (_, _, e) (_, _, f) = cc
  read_one_answer Nothing h k = elim h [ ]
  read_one_answer (Address p) h k = elim h [ ]

  packet_one_answer : (a : Content) → HelperAnswers helpers.PacketByte input (a ∷ []) label m
      → HelperAnswers helpers.PacketByte input (a ∷ []) label n → m ≡ n
  packet_one_answer (Number a) (_, e, _) (_, f, _) = e ∙ sym f
  packet_one_answer Nothing h k = elim h [ ]
  packet_one_answer (Address p) h k = elim h [ ]

  cost_one_answer : (a b : Content) → HelperAnswers helpers.TableCost input (a ∷ b ∷ []) label m
      → HelperAnswers helpers.TableCost input (a ∷ b ∷ []) label n → m ≡ n
  cost_one_answer (Number a) (Number b) (_, e, _) (_, f, _) = e ∙ sym f
  cost_one_answer Nothing b h k = elim h [ ]
  cost_one_answer (Address p) b h k = elim h [ ]
  cost_one_answer (Number a) Nothing h k = elim h [ ]
  cost_one_answer (Number a) (Address p) h k = elim h [ ]

one_answer : (helper : Helper) (input : Given) (a b : Content) (label : Label) (m n : ℕ)
    → HelperAnswers helper input (arguments helper a b) label m
    → HelperAnswers helper input (arguments helper a b) label n → m ≡ n
one_answer helpers.CounterAdd input a b label m n h k = add_one_answer input label m n a b h k
one_answer helpers.CounterRead input a b label m n h k = read_one_answer input label m n a h k
one_answer helpers.PacketByte input a b label m n h k = packet_one_answer input label m n a h k
one_answer helpers.TableCost input a b label m n h k = cost_one_answer input label m n a b h k

fills_one : (s : State) (t : ℕ) (content : Option Content) (label : Label) (a b : State)
    → Fills s t content label a → Fills s t content label b → a ≡ b
fills_one s t content label a b h k =
    let same : h.filling ≡ k.filling = cc (h.gives, k.gives) in
    h.after ∙ ap (with_register s t) same ∙ sym k.after

one_next : (i : Instruction) (setting : Setting) (s : State) (label : Label) (a b : State)
    → Does i setting s label a → Does i setting s label b → a ≡ b
one_next (instructions.Arithmetic w op t src) setting s l a b h k = fills_one s t _ l a b h k
one_next (instructions.Negate w t) setting s l a b h k = fills_one s t _ l a b h k
one_next (instructions.SignExtend x t src) setting s l a b h k = fills_one s t _ l a b h k
one_next (instructions.Reorder o w t) setting s l a b h k = fills_one s t _ l a b h k
one_next (instructions.Jump distance) setting s l a b h k = h.after ∙ sym k.after
one_next (instructions.LongJump distance) setting s l a b h k = h.after ∙ sym k.after
one_next (instructions.Branch w test left right distance) setting s l a b h k =
    let same : h.taken ≡ k.taken = cc (h.gives, k.gives) in cc (h.after, k.after, same)
one_next (instructions.Call number) setting s l a b h k =
    let same : h.answered.helper ≡ k.answered.helper = cc (h.answered.known, k.answered.known) in
    let mine = rw same at h.answered.answers in
    let answer = one_answer k.answered.helper setting.input (held s 1) (held s 2) l h.answer
    k.answer mine k.answered.answers in
    h.after ∙ ap (state_after_call s) answer ∙ sym k.after
one_next instructions.Exit setting s l a b h k = elim h [ ]
one_next (instructions.Load size t base offset) setting s l a b (p, at, c, loads, _, after)
    (q, at', d, loads', _, after') =
    let same : p ≡ q = cc in
    let one = loads_one size _ setting.input s l c d (rw same at loads) loads' in
    after ∙ ap (with_register s t) one ∙ sym after'
one_next (instructions.Store size base offset src) setting s l a b (p, at, x, stores, after)
    (q, at', y, stores', after') =
    let same : p ≡ q = cc in
    let one = stores_one size _ (operand s src) s l x y (rw same at stores) stores' in
    rw (after, after', one) refl
one_next (instructions.LoadNumber t number) setting s l a b (_, _, h) (_, _, k) = h ∙ sym k
one_next (instructions.LoadMap t map offset) setting s l a b (m, e, _, _, h) (m', e', _, _, k) =
    let same : m ≡ m' = cc in rw (h, k, same) refl

pub determined : (setting : Setting) (s : State) (label : Label) (a b : State)
    → Step setting s label a → Step setting s label b → a ≡ b
determined setting s label a b h k =
    let same : h.instruction ≡ k.instruction = cc (h.at, k.at) in
    one_next k.instruction setting s label a b (rw same at h.does) k.does
