-- Flaws in lists, by their codes and lines.
use Rattle.std.proofs.Common.{◌≡◌, ℕ, ◌+◌, ◌-◌, ◌^◌, ◌<◌, ◌≤◌, List, [], ◌∷◌, ◌++◌, Bool, true, false, Option, Some, None, MatchOption, refl, sym, ap, subst, arith, inl, inr}
use Rattle.std.specs.Prelude.{◌⊎◌}
use Rattle.std.proofs.lemmas.Bool.{false≢true}
use Rattle.soundness.specs.Outline.Flaws.{Flaw, unless, first_of, line_told}
use Rattle.validation.specs.Told.{IsNoLater, IsTold}

-- one of the flaws has this code, and is told at this line
abbrev pub Has : ℕ → ℕ → List Flaw → Type 0
Has k l [] = ⊥
Has k l (f ∷ fs) = ((f.code ≡ k) × (line_told f.line ≡ l)) ⊎ Has k l fs

pub has_left : (k l : ℕ) (xs ys : List Flaw) → Has k l xs → Has k l (xs ++ ys)
has_left k l [] ys h = absurd h
has_left k l (x ∷ xs) ys (inl h) = inl h
has_left k l (x ∷ xs) ys (inr h) = inr (has_left k l xs ys h)

pub has_right : (k l : ℕ) (xs ys : List Flaw) → Has k l ys → Has k l (xs ++ ys)
has_right k l [] ys h = h
has_right k l (x ∷ xs) ys h = inr (has_right k l xs ys h)

pub has_parts : (k l : ℕ) (xs ys : List Flaw) → Has k l (xs ++ ys) → Has k l xs ⊎ Has k l ys
has_parts k l [] ys h = inr h
has_parts k l (x ∷ xs) ys (inl h) = inl (inl h)
has_parts k l (x ∷ xs) ys (inr h) = elim (has_parts k l xs ys h) [ inl i ↦ inl (inr i) | inr i ↦ inr i ]

pub on_either : {A B C : Type 0} → A ⊎ B → (A → C) → (B → C) → C
on_either (inl a) f g = f a
on_either (inr b) f g = g b

-- ---- one line

-- what a test asks is not so
pub flagged : (b : Bool) (k line : ℕ) → b ≡ false → Has k (line_told line) (unless b k line)
flagged true k line e = absurd (false≢true (sym e))
flagged false k line e = inl (refl, refl)

pub record IsFlagged (b : Bool) (j line k l : ℕ) : Type 0 where
  pub fails : b ≡ false
  pub code : k ≡ j
  pub line_is : line_told line ≡ l

pub flag_is : (b : Bool) (j line k l : ℕ) → Has k l (unless b j line) → IsFlagged b j line k l
flag_is true j line k l h = absurd h
flag_is false j line k l (inl h) = record { fails = refl; code = sym h.0; line_is = h.1 }
flag_is false j line k l (inr h) = absurd h

-- ---- the first

-- each flaw is told no earlier than the first
abbrev pub Ordered : List Flaw → Type 0
Ordered fs = (k l : ℕ) → Has k l fs → MatchOption (first_of fs) ⊥ (λ f. IsNoLater f k l)

-- what has this code and line is told no later than what has that
pub record Comes (k l j m : ℕ) : Type 0 where
  pub before : l ≤ m
  pub lower : m < 2 ^ 32 - 1 → l ≡ m → k ≤ j

pub joined : (xs ys : List Flaw) → Ordered xs → Ordered ys → ((k l j m : ℕ) → Has k l xs → Has j m ys → Comes k l j m) → Ordered (xs ++ ys)
joined [] ys ox oy apart j m h = oy j m h
joined (x ∷ xs) ys ox oy apart j m h = of (has_parts j m (x ∷ xs) ys h)
  where
    of : Has j m (x ∷ xs) ⊎ Has j m ys → IsNoLater (record { code = x.code; line = line_told x.line }) j m
    of (inl i) = ox j m i
    of (inr i) = let e = apart x.code (line_told x.line) j m (inl (refl, refl)) i in record { before = e.before; lower = e.lower }

pub one_ordered : (b : Bool) (k line : ℕ) → Ordered (unless b k line)
one_ordered true k line j m h = absurd h
one_ordered false k line j m (inl h) = record { before = omega (arith, h.1); lower = λ lt e. omega (arith, h.0) }
one_ordered false k line j m (inr h) = absurd h

-- a line that is told so is told so again
pub told_twice : (n l : ℕ) → line_told (line_told n) ≡ l → line_told n ≡ l
told_twice n l e = omega (arith, e)

pub told_again : (n l : ℕ) → line_told n ≡ l → line_told (line_told n) ≡ l
told_again n l e = omega (arith, e)

-- ---- four tests of a line

-- the first test that fails has the lowest code
module _ (n w d m : Bool) (c line : ℕ) where
  abbrev four : List Flaw
  four = unless n 2 line ++ (unless w 3 line ++ (unless d c line ++ unless m 14 line))

  data IsOne (k l : ℕ) : Type 0 where
    Names : IsFlagged n 2 line k l → IsOne k l
    Forms : IsFlagged w 3 line k l → IsOne k l
    Third : IsFlagged d c line k l → IsOne k l
    Limits : IsFlagged m 14 line k l → IsOne k l

  one_of_four : (k l : ℕ) → Has k l four → IsOne k l
  one_of_four k l h = first (has_parts k l (unless n 2 line) _ h)
    where
      third : Has k l (unless d c line) ⊎ Has k l (unless m 14 line) → IsOne k l
      third (inl i) = Third (flag_is d c line k l i)
      third (inr i) = Limits (flag_is m 14 line k l i)

      second : Has k l (unless w 3 line) ⊎ Has k l (unless d c line ++ unless m 14 line) → IsOne k l
      second (inl i) = Forms (flag_is w 3 line k l i)
      second (inr i) = third (has_parts k l (unless d c line) _ i)

      first : Has k l (unless n 2 line) ⊎ Has k l (unless w 3 line ++ (unless d c line ++ unless m 14 line)) → IsOne k l
      first (inl i) = Names (flag_is n 2 line k l i)
      first (inr i) = second (has_parts k l (unless w 3 line) _ i)

  line_of_four : (k l : ℕ) → Has k l four → line_told line ≡ l
  line_of_four k l h = elim (one_of_four k l h) [ Names f ↦ f.line_is | Forms f ↦ f.line_is | Third f ↦ f.line_is | Limits f ↦ f.line_is ]

  named_of_four : n ≡ false → Has 2 (line_told line) four
  named_of_four e = has_left 2 _ (unless n 2 line) _ (flagged n 2 line e)

  formed_of_four : w ≡ false → Has 3 (line_told line) four
  formed_of_four e = has_right 3 _ (unless n 2 line) _ (has_left 3 _ (unless w 3 line) _ (flagged w 3 line e))

  third_of_four : d ≡ false → Has c (line_told line) four
  third_of_four e = has_right c _ (unless n 2 line) _ (has_right c _ (unless w 3 line) _ (has_left c _ (unless d c line) _ (flagged d c line e)))

  limited_of_four : m ≡ false → Has 14 (line_told line) four
  limited_of_four e = has_right 14 _ (unless n 2 line) _ (has_right 14 _ (unless w 3 line) _ (has_right 14 _ (unless d c line) _ (flagged m 14 line e)))

  last_two : 3 ≤ c → c ≤ 14 → Ordered (unless d c line ++ unless m 14 line)
  last_two low high = joined (unless d c line) (unless m 14 line) (one_ordered d c line) (one_ordered m 14 line)
      (λ k l j q h i. let a = flag_is d c line k l h in let b = flag_is m 14 line j q i in record { before = omega (arith, a.line_is, b.line_is); lower = λ lt e. omega (arith, high, a.code, b.code) })

  two_codes : 3 ≤ c → (k l : ℕ) → Has k l (unless d c line ++ unless m 14 line) → (3 ≤ k) × (line_told line ≡ l)
  two_codes low k l h = of (has_parts k l (unless d c line) _ h)
    where
      of : Has k l (unless d c line) ⊎ Has k l (unless m 14 line) → (3 ≤ k) × (line_told line ≡ l)
      of (inl i) = let a = flag_is d c line k l i in (omega (arith, low, a.code), a.line_is)
      of (inr i) = let a = flag_is m 14 line k l i in (omega (arith, a.code), a.line_is)

  last_three : 3 ≤ c → c ≤ 14 → Ordered (unless w 3 line ++ (unless d c line ++ unless m 14 line))
  last_three low high = joined (unless w 3 line) _ (one_ordered w 3 line) (last_two low high)
      (λ k l j q h i. let a = flag_is w 3 line k l h in let b = two_codes low j q i in record { before = omega (arith, a.line_is, b.1); lower = λ lt e. omega (arith, a.code, b.0) })

  three_codes : 3 ≤ c → (k l : ℕ) → Has k l (unless w 3 line ++ (unless d c line ++ unless m 14 line)) → (3 ≤ k) × (line_told line ≡ l)
  three_codes low k l h = of (has_parts k l (unless w 3 line) _ h)
    where
      of : Has k l (unless w 3 line) ⊎ Has k l (unless d c line ++ unless m 14 line) → (3 ≤ k) × (line_told line ≡ l)
      of (inl i) = let a = flag_is w 3 line k l i in (omega (arith, a.code), a.line_is)
      of (inr i) = two_codes low k l i

  four_ordered : 3 ≤ c → c ≤ 14 → Ordered four
  four_ordered low high = joined (unless n 2 line) _ (one_ordered n 2 line) (last_three low high)
      (λ k l j q h i. let a = flag_is n 2 line k l h in let b = three_codes low j q i in record { before = omega (arith, a.line_is, b.1); lower = λ lt e. omega (arith, a.code, b.0) })

-- four tests of a line, and the code of the third
pub record Tests : Type 0 where
  pub names : Bool
  pub forms : Bool
  pub third : Bool
  pub limits : Bool
  pub code : ℕ

abbrev pub flags : Tests → ℕ → List Flaw
flags t line = four t.names t.forms t.third t.limits t.code line

pub line_of_flags : (t : Tests) (line k l : ℕ) → Has k l (flags t line) → line_told line ≡ l
line_of_flags t line k l h = line_of_four t.names t.forms t.third t.limits t.code line k l h

pub flags_ordered : (t : Tests) (line : ℕ) → 3 ≤ t.code → t.code ≤ 14 → Ordered (flags t line)
flags_ordered t line low high = four_ordered t.names t.forms t.third t.limits t.code line low high

pub names_are : (t : Tests) (line l : ℕ) → 2 < t.code → Has 2 l (flags t line) → (line_told line ≡ l) × (t.names ≡ false)
names_are t line l lt h = elim (one_of_four t.names t.forms t.third t.limits t.code line 2 l h) [
  | Names f ↦ (f.line_is, f.fails)
  | Forms f ↦ absurd (let e = f.code in omega (arith, e))
  | Third f ↦ absurd (let e = f.code in omega (arith, lt, e))
  | Limits f ↦ absurd (let e = f.code in omega (arith, e))
]

pub forms_are : (t : Tests) (line l : ℕ) → 3 < t.code → Has 3 l (flags t line) → (line_told line ≡ l) × (t.forms ≡ false)
forms_are t line l lt h = elim (one_of_four t.names t.forms t.third t.limits t.code line 3 l h) [
  | Names f ↦ absurd (let e = f.code in omega (arith, e))
  | Forms f ↦ (f.line_is, f.fails)
  | Third f ↦ absurd (let e = f.code in omega (arith, lt, e))
  | Limits f ↦ absurd (let e = f.code in omega (arith, e))
]

pub third_are : (t : Tests) (line l : ℕ) → Has 12 l (flags t line) → (line_told line ≡ l) × (t.code ≡ 12) × (t.third ≡ false)
third_are t line l h = elim (one_of_four t.names t.forms t.third t.limits t.code line 12 l h) [
  | Names f ↦ absurd (let e = f.code in omega (arith, e))
  | Forms f ↦ absurd (let e = f.code in omega (arith, e))
  | Third f ↦ (f.line_is, sym f.code, f.fails)
  | Limits f ↦ absurd (let e = f.code in omega (arith, e))
]

pub limits_are : (t : Tests) (line l : ℕ) → t.code < 14 → Has 14 l (flags t line) → (line_told line ≡ l) × (t.limits ≡ false)
limits_are t line l lt h = elim (one_of_four t.names t.forms t.third t.limits t.code line 14 l h) [
  | Names f ↦ absurd (let e = f.code in omega (arith, e))
  | Forms f ↦ absurd (let e = f.code in omega (arith, e))
  | Third f ↦ absurd (let e = f.code in omega (arith, lt, e))
  | Limits f ↦ (f.line_is, f.fails)
]

pub names_so : (t : Tests) (line l : ℕ) → line_told line ≡ l → t.names ≡ false → Has 2 l (flags t line)
names_so t line l is e = subst (λ (n : ℕ). Has 2 n (flags t line)) is (named_of_four t.names t.forms t.third t.limits t.code line e)

pub forms_so : (t : Tests) (line l : ℕ) → line_told line ≡ l → t.forms ≡ false → Has 3 l (flags t line)
forms_so t line l is e = subst (λ (n : ℕ). Has 3 n (flags t line)) is (formed_of_four t.names t.forms t.third t.limits t.code line e)

pub third_so : (t : Tests) (line l : ℕ) → line_told line ≡ l → t.third ≡ false → Has t.code l (flags t line)
third_so t line l is e = subst (λ (n : ℕ). Has t.code n (flags t line)) is (third_of_four t.names t.forms t.third t.limits t.code line e)

pub limits_so : (t : Tests) (line l : ℕ) → line_told line ≡ l → t.limits ≡ false → Has 14 l (flags t line)
limits_so t line l is e = subst (λ (n : ℕ). Has 14 n (flags t line)) is (limited_of_four t.names t.forms t.third t.limits t.code line e)

-- ---- what is told

none_is : {A : Type 0} (x : A) (e : None ≡ Some x) → ⊥
none_is x e = cc

the_same : (x y : Flaw) → Some x ≡ Some y → x ≡ y
the_same x y e = ap or_x e
  where
    or_x : Option Flaw → Flaw
    or_x None = x
    or_x (Some z) = z

first_has : (code line : ℕ) (fs : List Flaw) → first_of fs ≡ Some (record { code = code; line = line }) → Has code line fs
first_has code line [] e = absurd (none_is _ e)
first_has code line (f ∷ fs) e = let s = the_same _ _ e in inl (ap (λ (x : Flaw). x.code) s, ap (λ (x : Flaw). x.line) s)

pub told_so : (code : ℕ) (IsSo : ℕ → Type 0) (fs : List Flaw) → Ordered fs → ((line : ℕ) → Has code line fs → IsSo line) → ((line : ℕ) → IsSo line → Has code line fs) → IsTold code IsSo (first_of fs)
told_so code IsSo fs o to from = record { meant = λ line e. to line (first_has code line fs e); found = λ line h. o code line (from line h) }
