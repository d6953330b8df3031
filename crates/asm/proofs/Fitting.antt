-- The words of a form, one for each of its parts.
use Rattle.std.proofs.Common.{◌≡◌, List, [], ◌∷◌, refl}
use Rattle.asm.specs.Forms.{Part, Matches, Fits}
use Rattle.asm.specs.Words.{Word}

pub no_words : (words : List Word) → Fits words [] → words ≡ []
no_words [] h = refl
no_words (a ∷ rest) h = absurd h

-- the first word, and the others
pub record Cons (words : List Word) (p : Part) (ps : List Part) : Type 0 where
  pub first : Word
  pub rest : List Word
  pub are : words ≡ first ∷ rest
  pub matches : Matches p first
  pub fits : Fits rest ps

pub cons : (words : List Word) (p : Part) (ps : List Part) → Fits words (p ∷ ps) → Cons words p ps
cons [] p ps h = absurd h
cons (a ∷ rest) p ps h = record { first = a; rest = rest; are = refl; matches = h.0; fits = h.1 }

pub record One (words : List Word) (pa : Part) : Type 0 where
  pub a : Word
  pub are : words ≡ a ∷ []
  pub is_a : Matches pa a

pub one_words : (words : List Word) (pa : Part) → Fits words (pa ∷ []) → One words pa
one_words [] pa fit = absurd fit
one_words (a ∷ []) pa fit = record { a = a; are = refl; is_a = fit.0 }
one_words (a ∷ x ∷ rest) pa fit = absurd fit.1

pub record Two (words : List Word) (pa pb : Part) : Type 0 where
  pub a : Word
  pub b : Word
  pub are : words ≡ a ∷ b ∷ []
  pub is_a : Matches pa a
  pub is_b : Matches pb b

pub two_words : (words : List Word) (pa pb : Part) → Fits words (pa ∷ pb ∷ []) → Two words pa pb
two_words [] pa pb fit = absurd fit
two_words (a ∷ []) pa pb fit = absurd fit.1
two_words (a ∷ b ∷ []) pa pb fit = record { a = a; b = b; are = refl; is_a = fit.0; is_b = fit.1.0 }
two_words (a ∷ b ∷ x ∷ rest) pa pb fit = absurd fit.1.1

pub record Three (words : List Word) (pa pb pc : Part) : Type 0 where
  pub a : Word
  pub b : Word
  pub c : Word
  pub are : words ≡ a ∷ b ∷ c ∷ []
  pub is_a : Matches pa a
  pub is_b : Matches pb b
  pub is_c : Matches pc c

pub three_words : (words : List Word) (pa pb pc : Part) → Fits words (pa ∷ pb ∷ pc ∷ [])
    → Three words pa pb pc
three_words [] pa pb pc fit = absurd fit
three_words (a ∷ []) pa pb pc fit = absurd fit.1
three_words (a ∷ b ∷ []) pa pb pc fit = absurd fit.1.1
three_words (a ∷ b ∷ c ∷ []) pa pb pc fit = record {
  a = a;
  b = b;
  c = c;
  are = refl;
  is_a = fit.0;
  is_b = fit.1.0;
  is_c = fit.1.1.0;
}
three_words (a ∷ b ∷ c ∷ x ∷ rest) pa pb pc fit = absurd fit.1.1.1

pub record Four (words : List Word) (pa pb pc pd : Part) : Type 0 where
  pub a : Word
  pub b : Word
  pub c : Word
  pub d : Word
  pub are : words ≡ a ∷ b ∷ c ∷ d ∷ []
  pub is_a : Matches pa a
  pub is_b : Matches pb b
  pub is_c : Matches pc c
  pub is_d : Matches pd d

pub four_words : (words : List Word) (pa pb pc pd : Part) → Fits words (pa ∷ pb ∷ pc ∷ pd ∷ [])
    → Four words pa pb pc pd
four_words [] pa pb pc pd fit = absurd fit
four_words (a ∷ []) pa pb pc pd fit = absurd fit.1
four_words (a ∷ b ∷ []) pa pb pc pd fit = absurd fit.1.1
four_words (a ∷ b ∷ c ∷ []) pa pb pc pd fit = absurd fit.1.1.1
four_words (a ∷ b ∷ c ∷ d ∷ []) pa pb pc pd fit = record {
  a = a;
  b = b;
  c = c;
  d = d;
  are = refl;
  is_a = fit.0;
  is_b = fit.1.0;
  is_c = fit.1.1.0;
  is_d = fit.1.1.1.0;
}
four_words (a ∷ b ∷ c ∷ d ∷ x ∷ rest) pa pb pc pd fit = absurd fit.1.1.1.1

pub record Five (words : List Word) (pa pb pc pd pe : Part) : Type 0 where
  pub a : Word
  pub b : Word
  pub c : Word
  pub d : Word
  pub e : Word
  pub are : words ≡ a ∷ b ∷ c ∷ d ∷ e ∷ []
  pub is_a : Matches pa a
  pub is_b : Matches pb b
  pub is_c : Matches pc c
  pub is_d : Matches pd d
  pub is_e : Matches pe e

pub five_words : (words : List Word) (pa pb pc pd pe : Part)
    → Fits words (pa ∷ pb ∷ pc ∷ pd ∷ pe ∷ []) → Five words pa pb pc pd pe
five_words [] pa pb pc pd pe fit = absurd fit
five_words (a ∷ []) pa pb pc pd pe fit = absurd fit.1
five_words (a ∷ b ∷ []) pa pb pc pd pe fit = absurd fit.1.1
five_words (a ∷ b ∷ c ∷ []) pa pb pc pd pe fit = absurd fit.1.1.1
five_words (a ∷ b ∷ c ∷ d ∷ []) pa pb pc pd pe fit = absurd fit.1.1.1.1
five_words (a ∷ b ∷ c ∷ d ∷ e ∷ []) pa pb pc pd pe fit = record {
  a = a;
  b = b;
  c = c;
  d = d;
  e = e;
  are = refl;
  is_a = fit.0;
  is_b = fit.1.0;
  is_c = fit.1.1.0;
  is_d = fit.1.1.1.0;
  is_e = fit.1.1.1.1.0;
}
five_words (a ∷ b ∷ c ∷ d ∷ e ∷ x ∷ rest) pa pb pc pd pe fit = absurd fit.1.1.1.1.1

pub record Six (words : List Word) (pa pb pc pd pe pf : Part) : Type 0 where
  pub a : Word
  pub b : Word
  pub c : Word
  pub d : Word
  pub e : Word
  pub f : Word
  pub are : words ≡ a ∷ b ∷ c ∷ d ∷ e ∷ f ∷ []
  pub is_a : Matches pa a
  pub is_b : Matches pb b
  pub is_c : Matches pc c
  pub is_d : Matches pd d
  pub is_e : Matches pe e
  pub is_f : Matches pf f

pub six_words : (words : List Word) (pa pb pc pd pe pf : Part)
    → Fits words (pa ∷ pb ∷ pc ∷ pd ∷ pe ∷ pf ∷ []) → Six words pa pb pc pd pe pf
six_words [] pa pb pc pd pe pf fit = absurd fit
six_words (a ∷ []) pa pb pc pd pe pf fit = absurd fit.1
six_words (a ∷ b ∷ []) pa pb pc pd pe pf fit = absurd fit.1.1
six_words (a ∷ b ∷ c ∷ []) pa pb pc pd pe pf fit = absurd fit.1.1.1
six_words (a ∷ b ∷ c ∷ d ∷ []) pa pb pc pd pe pf fit = absurd fit.1.1.1.1
six_words (a ∷ b ∷ c ∷ d ∷ e ∷ []) pa pb pc pd pe pf fit = absurd fit.1.1.1.1.1
six_words (a ∷ b ∷ c ∷ d ∷ e ∷ f ∷ []) pa pb pc pd pe pf fit = record {
  a = a;
  b = b;
  c = c;
  d = d;
  e = e;
  f = f;
  are = refl;
  is_a = fit.0;
  is_b = fit.1.0;
  is_c = fit.1.1.0;
  is_d = fit.1.1.1.0;
  is_e = fit.1.1.1.1.0;
  is_f = fit.1.1.1.1.1.0;
}
six_words (a ∷ b ∷ c ∷ d ∷ e ∷ f ∷ x ∷ rest) pa pb pc pd pe pf fit = absurd fit.1.1.1.1.1.1

pub record Seven (words : List Word) (pa pb pc pd pe pf pg : Part) : Type 0 where
  pub a : Word
  pub b : Word
  pub c : Word
  pub d : Word
  pub e : Word
  pub f : Word
  pub g : Word
  pub are : words ≡ a ∷ b ∷ c ∷ d ∷ e ∷ f ∷ g ∷ []
  pub is_a : Matches pa a
  pub is_b : Matches pb b
  pub is_c : Matches pc c
  pub is_d : Matches pd d
  pub is_e : Matches pe e
  pub is_f : Matches pf f
  pub is_g : Matches pg g

pub seven_words : (words : List Word) (pa pb pc pd pe pf pg : Part)
    → Fits words (pa ∷ pb ∷ pc ∷ pd ∷ pe ∷ pf ∷ pg ∷ []) → Seven words pa pb pc pd pe pf pg
seven_words [] pa pb pc pd pe pf pg fit = absurd fit
seven_words (a ∷ []) pa pb pc pd pe pf pg fit = absurd fit.1
seven_words (a ∷ b ∷ []) pa pb pc pd pe pf pg fit = absurd fit.1.1
seven_words (a ∷ b ∷ c ∷ []) pa pb pc pd pe pf pg fit = absurd fit.1.1.1
seven_words (a ∷ b ∷ c ∷ d ∷ []) pa pb pc pd pe pf pg fit = absurd fit.1.1.1.1
seven_words (a ∷ b ∷ c ∷ d ∷ e ∷ []) pa pb pc pd pe pf pg fit = absurd fit.1.1.1.1.1
seven_words (a ∷ b ∷ c ∷ d ∷ e ∷ f ∷ []) pa pb pc pd pe pf pg fit = absurd fit.1.1.1.1.1.1
seven_words (a ∷ b ∷ c ∷ d ∷ e ∷ f ∷ g ∷ []) pa pb pc pd pe pf pg fit = record {
  a = a;
  b = b;
  c = c;
  d = d;
  e = e;
  f = f;
  g = g;
  are = refl;
  is_a = fit.0;
  is_b = fit.1.0;
  is_c = fit.1.1.0;
  is_d = fit.1.1.1.0;
  is_e = fit.1.1.1.1.0;
  is_f = fit.1.1.1.1.1.0;
  is_g = fit.1.1.1.1.1.1.0;
}
seven_words (a ∷ b ∷ c ∷ d ∷ e ∷ f ∷ g ∷ x ∷ rest) pa pb pc pd pe pf pg fit =
    absurd fit.1.1.1.1.1.1.1

pub record Eight (words : List Word) (pa pb pc pd pe pf pg ph : Part) : Type 0 where
  pub a : Word
  pub b : Word
  pub c : Word
  pub d : Word
  pub e : Word
  pub f : Word
  pub g : Word
  pub h : Word
  pub are : words ≡ a ∷ b ∷ c ∷ d ∷ e ∷ f ∷ g ∷ h ∷ []
  pub is_a : Matches pa a
  pub is_b : Matches pb b
  pub is_c : Matches pc c
  pub is_d : Matches pd d
  pub is_e : Matches pe e
  pub is_f : Matches pf f
  pub is_g : Matches pg g
  pub is_h : Matches ph h

pub eight_words : (words : List Word) (pa pb pc pd pe pf pg ph : Part)
    → Fits words (pa ∷ pb ∷ pc ∷ pd ∷ pe ∷ pf ∷ pg ∷ ph ∷ []) → Eight words pa pb pc pd pe pf pg ph
eight_words [] pa pb pc pd pe pf pg ph fit = absurd fit
eight_words (a ∷ []) pa pb pc pd pe pf pg ph fit = absurd fit.1
eight_words (a ∷ b ∷ []) pa pb pc pd pe pf pg ph fit = absurd fit.1.1
eight_words (a ∷ b ∷ c ∷ []) pa pb pc pd pe pf pg ph fit = absurd fit.1.1.1
eight_words (a ∷ b ∷ c ∷ d ∷ []) pa pb pc pd pe pf pg ph fit = absurd fit.1.1.1.1
eight_words (a ∷ b ∷ c ∷ d ∷ e ∷ []) pa pb pc pd pe pf pg ph fit = absurd fit.1.1.1.1.1
eight_words (a ∷ b ∷ c ∷ d ∷ e ∷ f ∷ []) pa pb pc pd pe pf pg ph fit = absurd fit.1.1.1.1.1.1
eight_words (a ∷ b ∷ c ∷ d ∷ e ∷ f ∷ g ∷ []) pa pb pc pd pe pf pg ph fit = absurd fit.1.1.1.1.1.1.1
eight_words (a ∷ b ∷ c ∷ d ∷ e ∷ f ∷ g ∷ h ∷ []) pa pb pc pd pe pf pg ph fit = record {
  a = a;
  b = b;
  c = c;
  d = d;
  e = e;
  f = f;
  g = g;
  h = h;
  are = refl;
  is_a = fit.0;
  is_b = fit.1.0;
  is_c = fit.1.1.0;
  is_d = fit.1.1.1.0;
  is_e = fit.1.1.1.1.0;
  is_f = fit.1.1.1.1.1.0;
  is_g = fit.1.1.1.1.1.1.0;
  is_h = fit.1.1.1.1.1.1.1.0;
}
eight_words (a ∷ b ∷ c ∷ d ∷ e ∷ f ∷ g ∷ h ∷ x ∷ rest) pa pb pc pd pe pf pg ph fit =
    absurd fit.1.1.1.1.1.1.1.1

pub record Ten (words : List Word) (pa pb pc pd pe pf pg ph pi pj : Part) : Type 0 where
  pub a : Word
  pub b : Word
  pub c : Word
  pub d : Word
  pub e : Word
  pub f : Word
  pub g : Word
  pub h : Word
  pub i : Word
  pub j : Word
  pub are : words ≡ a ∷ b ∷ c ∷ d ∷ e ∷ f ∷ g ∷ h ∷ i ∷ j ∷ []
  pub is_a : Matches pa a
  pub is_b : Matches pb b
  pub is_c : Matches pc c
  pub is_d : Matches pd d
  pub is_e : Matches pe e
  pub is_f : Matches pf f
  pub is_g : Matches pg g
  pub is_h : Matches ph h
  pub is_i : Matches pi i
  pub is_j : Matches pj j

pub ten_words : (words : List Word) (pa pb pc pd pe pf pg ph pi pj : Part)
    → Fits words (pa ∷ pb ∷ pc ∷ pd ∷ pe ∷ pf ∷ pg ∷ ph ∷ pi ∷ pj ∷ [])
    → Ten words pa pb pc pd pe pf pg ph pi pj
ten_words [] pa pb pc pd pe pf pg ph pi pj fit = absurd fit
ten_words (a ∷ []) pa pb pc pd pe pf pg ph pi pj fit = absurd fit.1
ten_words (a ∷ b ∷ []) pa pb pc pd pe pf pg ph pi pj fit = absurd fit.1.1
ten_words (a ∷ b ∷ c ∷ []) pa pb pc pd pe pf pg ph pi pj fit = absurd fit.1.1.1
ten_words (a ∷ b ∷ c ∷ d ∷ []) pa pb pc pd pe pf pg ph pi pj fit = absurd fit.1.1.1.1
ten_words (a ∷ b ∷ c ∷ d ∷ e ∷ []) pa pb pc pd pe pf pg ph pi pj fit = absurd fit.1.1.1.1.1
ten_words (a ∷ b ∷ c ∷ d ∷ e ∷ f ∷ []) pa pb pc pd pe pf pg ph pi pj fit = absurd fit.1.1.1.1.1.1
ten_words (a ∷ b ∷ c ∷ d ∷ e ∷ f ∷ g ∷ []) pa pb pc pd pe pf pg ph pi pj fit =
    absurd fit.1.1.1.1.1.1.1
ten_words (a ∷ b ∷ c ∷ d ∷ e ∷ f ∷ g ∷ h ∷ []) pa pb pc pd pe pf pg ph pi pj fit =
    absurd fit.1.1.1.1.1.1.1.1
ten_words (a ∷ b ∷ c ∷ d ∷ e ∷ f ∷ g ∷ h ∷ i ∷ []) pa pb pc pd pe pf pg ph pi pj fit =
    absurd fit.1.1.1.1.1.1.1.1.1
ten_words (a ∷ b ∷ c ∷ d ∷ e ∷ f ∷ g ∷ h ∷ i ∷ j ∷ []) pa pb pc pd pe pf pg ph pi pj fit = record {
  a = a;
  b = b;
  c = c;
  d = d;
  e = e;
  f = f;
  g = g;
  h = h;
  i = i;
  j = j;
  are = refl;
  is_a = fit.0;
  is_b = fit.1.0;
  is_c = fit.1.1.0;
  is_d = fit.1.1.1.0;
  is_e = fit.1.1.1.1.0;
  is_f = fit.1.1.1.1.1.0;
  is_g = fit.1.1.1.1.1.1.0;
  is_h = fit.1.1.1.1.1.1.1.0;
  is_i = fit.1.1.1.1.1.1.1.1.0;
  is_j = fit.1.1.1.1.1.1.1.1.1.0;
}
ten_words (a ∷ b ∷ c ∷ d ∷ e ∷ f ∷ g ∷ h ∷ i ∷ j ∷ x ∷ rest) pa pb pc pd pe pf pg ph pi pj fit =
    absurd fit.1.1.1.1.1.1.1.1.1.1
