-- Lists that are made part by part, and may fail to be.
use Rattle.std.proofs.Common.{◌≡◌, ℕ, ◌-◌, List, [], ◌∷◌, ◌++◌, length, take, drop, get_or, ◌≤◌, Bool, true, false, Option, Some, None, refl, sym, ap, ◌∙◌, append_assoc, length-drop, arith}
use Rattle.std.specs.Prelude.{if◌then◌else◌, ◌||◌, not, ℤ}
use Rattle.std.specs.List.{list_any}
use Rattle.std.proofs.lemmas.List.{append-nil, take_all}
use Rattle.lin.specs.Forms.{Form, factor_of}
use Rattle.lin.specs.Search.{replaced}
use Rattle.soundness.specs.Obligations.{form_has}
use Rattle.tails.specs.Moves.{joined, single, only, naming, not_naming, each_replaced, expanded, is_positive}
use Rattle.tails.specs.Held.{expanded_one}

pub joined_assoc : {A : Type 0} (a b c : Option (List A)) → joined (joined a b) c ≡ joined a (joined b c)
joined_assoc None b c = refl
joined_assoc (Some x) None c = refl
joined_assoc (Some x) (Some y) None = refl
joined_assoc (Some x) (Some y) (Some z) = ap Some (append_assoc x y z)

pub joined_none : {A : Type 0} (a : Option (List A)) → joined a None ≡ None
joined_none None = refl
joined_none (Some x) = refl

pub joined_nothing : {A : Type 0} (x : List A) → joined (Some x) (Some []) ≡ Some x
joined_nothing x = ap Some (append-nil x)

pub joined_into_none : {A : Type 0} (a : Option (List A)) → joined (Some []) a ≡ a
joined_into_none None = refl
joined_into_none (Some x) = refl

pub slice_rest : {X : Type 0} (xs : List X) (n : ℕ) → take (length xs - n) (drop n xs) ≡ drop n xs
slice_rest xs n = take_all (length xs - n) (drop n xs) (omega (arith, length-drop n xs))

pub joined_more : {A : Type 0} (before : List A) (x : A) (more : Option (List A)) → joined (Some (before ++ x ∷ [])) more ≡ joined (Some before) (joined (Some (x ∷ [])) more)
joined_more before x more = joined_assoc (Some before) (Some (x ∷ [])) more

-- forms with a let's members in its place
expanded_case : (a b : Bool) (ls : Option (List Form)) (f : Form) (more : Option (List Form)) →
    (if a then (if b then joined ls more else None) else joined (Some (f ∷ [])) more) ≡ joined (if a then (if b then ls else None) else Some (f ∷ [])) more
expanded_case true true ls f more = refl
expanded_case true false ls f more = refl
expanded_case false b ls f more = refl

module _ (exact : Bool) (shows : Form → Form → Bool) (i : ℕ) (ms : List Form) where
  expanded_step : (f : Form) (fs : List Form) → expanded exact shows i ms (f ∷ fs) ≡ joined (expanded_one i ms f) (expanded exact shows i ms fs)
  expanded_step f fs = expanded_case (form_has i f) (is_positive (factor_of f.terms i)) (each_replaced f i (factor_of f.terms i) ms) f (expanded exact shows i ms fs)

  pub expanded_more : (f : Form) (fs before after : List Form) → Some after ≡ joined (Some before) (expanded_one i ms f) →
      joined (Some after) (expanded exact shows i ms fs) ≡ joined (Some before) (expanded exact shows i ms (f ∷ fs))
  expanded_more f fs before after made =
      ap (λ o. joined o (expanded exact shows i ms fs)) made ∙ joined_assoc (Some before) (expanded_one i ms f) (expanded exact shows i ms fs)
      ∙ ap (joined (Some before)) (sym (expanded_step f fs))

  pub expanded_none : (f : Form) (fs before : List Form) → None ≡ joined (Some before) (expanded_one i ms f) →
      None ≡ joined (Some before) (expanded exact shows i ms (f ∷ fs))
  expanded_none f fs before none =
      ap (λ o. joined o (expanded exact shows i ms fs)) none ∙ joined_assoc (Some before) (expanded_one i ms f) (expanded exact shows i ms fs)
      ∙ ap (joined (Some before)) (sym (expanded_step f fs))

-- forms that have not the symbol
pub kept_first : (i : ℕ) (x : Form) (xs before : List Form) → form_has i x ≡ false → (before ++ x ∷ []) ++ not_naming i xs ≡ before ++ not_naming i (x ∷ xs)
kept_first i x xs before lacks =
    append_assoc before (x ∷ []) (not_naming i xs) ∙ ap (λ l. before ++ l) (sym (ap (λ b. if not b then x ∷ not_naming i xs else not_naming i xs) lacks))

pub passed_first : (i : ℕ) (x : Form) (xs : List Form) → form_has i x ≡ true → not_naming i (x ∷ xs) ≡ not_naming i xs
passed_first i x xs has = ap (λ b. if not b then x ∷ not_naming i xs else not_naming i xs) has

-- the only form that has the symbol
none_case : (v w : Bool) (f : Form) (rest : List Form) → (v || w) ≡ false → (w ≡ false → rest ≡ []) → (if v then f ∷ rest else rest) ≡ []
none_case true w f rest e none = absurd cc
none_case false w f rest e none = none e

none_named : (i : ℕ) (fs : List Form) → list_any (form_has i) fs ≡ false → naming i fs ≡ []
none_named i [] h = refl
none_named i (f ∷ fs) h = none_case (form_has i f) (list_any (form_has i) fs) f (naming i fs) h (none_named i fs)

some_case : (v w : Bool) (f g : Form) (rest : List Form) → (v || w) ≡ true → (w ≡ true → only (f ∷ rest) ≡ None) → only (f ∷ (if v then g ∷ rest else rest)) ≡ None
some_case true w f g rest e some = refl
some_case false w f g rest e some = some e

some_named : (i : ℕ) (fs : List Form) (f : Form) → list_any (form_has i) fs ≡ true → only (f ∷ naming i fs) ≡ None
some_named i [] f h = absurd cc
some_named i (g ∷ gs) f h = some_case (form_has i g) (list_any (form_has i) gs) f g (naming i gs) h (some_named i gs f)

pub only_passed : (i : ℕ) (f : Form) (fs : List Form) → form_has i f ≡ false → only (naming i (f ∷ fs)) ≡ only (naming i fs)
only_passed i f fs h = ap (λ b. only (if b then f ∷ naming i fs else naming i fs)) h

pub only_first : (i : ℕ) (f : Form) (fs : List Form) → form_has i f ≡ true → list_any (form_has i) fs ≡ false → only (naming i (f ∷ fs)) ≡ Some f
only_first i f fs h none = ap (λ b. only (if b then f ∷ naming i fs else naming i fs)) h ∙ ap (λ l. only (f ∷ l)) (none_named i fs none)

pub only_twice : (i : ℕ) (f : Form) (fs : List Form) → form_has i f ≡ true → list_any (form_has i) fs ≡ true → only (naming i (f ∷ fs)) ≡ None
only_twice i f fs h more = ap (λ b. only (if b then f ∷ naming i fs else naming i fs)) h ∙ some_named i fs f more

-- a list by its first item and the slice behind it
pub first_and : {A : Type 0} (xs : List A) (x : A) → 1 ≤ length xs → x ≡ get_or xs 0 x → xs ≡ x ∷ take (length xs - 1) (drop 1 xs)
first_and [] x h is = absurd (omega arith)
first_and (y ∷ ys) x h is = sym (ap (λ z. z ∷ take (length (y ∷ ys) - 1) ys) is ∙ ap (λ l. y ∷ l) (take_all (length (y ∷ ys) - 1) ys (omega arith)))

pub only_first_in : (i : ℕ) (xs : List Form) (x : Form) → 1 ≤ length xs → x ≡ get_or xs 0 x → form_has i x ≡ true → list_any (form_has i) (take (length xs - 1) (drop 1 xs)) ≡ false → only (naming i xs) ≡ Some x
only_first_in i xs x h is has none = ap (λ l. only (naming i l)) (first_and xs x h is) ∙ only_first i x (take (length xs - 1) (drop 1 xs)) has none

pub only_twice_in : (i : ℕ) (xs : List Form) (x : Form) → 1 ≤ length xs → x ≡ get_or xs 0 x → form_has i x ≡ true → list_any (form_has i) (take (length xs - 1) (drop 1 xs)) ≡ true → only (naming i xs) ≡ None
only_twice_in i xs x h is has more = ap (λ l. only (naming i l)) (first_and xs x h is) ∙ only_twice i x (take (length xs - 1) (drop 1 xs)) has more

-- a form with the first of others in a symbol's place, put behind what is there, and then with the rest of them
pub replaced_first : (f : Form) (i : ℕ) (c n m : ℤ) (xs : List Form) (x made : Form) (found : Option Form) (before after : List Form) → 1 ≤ length xs → x ≡ get_or xs 0 x → n ≡ c → m ≡ c →
    found ≡ replaced f i n x → found ≡ Some made → after ≡ before ++ made ∷ [] →
    joined (Some after) (each_replaced f i m (take (length xs - 1) (drop 1 xs))) ≡ joined (Some before) (each_replaced f i c xs)
replaced_first f i c n m xs x made found before after h is e k by some pushed =
    ap (λ l. joined (Some l) (each_replaced f i m (take (length xs - 1) (drop 1 xs)))) pushed
    ∙ ap (λ z. joined (Some (before ++ made ∷ [])) (each_replaced f i z (take (length xs - 1) (drop 1 xs)))) k
    ∙ joined_more before made (each_replaced f i c (take (length xs - 1) (drop 1 xs)))
    ∙ ap (λ o. joined (Some before) (joined (single o) (each_replaced f i c (take (length xs - 1) (drop 1 xs))))) (sym some ∙ by ∙ ap (λ z. replaced f i z x) e)
    ∙ ap (λ l. joined (Some before) (each_replaced f i c l)) (sym (first_and xs x h is))
