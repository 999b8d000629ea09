-- What is written for an expression is read as that expression.
use Rattle.std.proofs.Common.{◌≡◌, ℕ, zero, suc, ◌+◌, ◌-◌, ◌<◌, ◌^◌, Bool, true, false, ◌&&◌, ◌||◌, List, [], ◌∷◌, ◌++◌, refl, sym, ap, subst, ◌∙◌, append_assoc, arith}
use Rattle.std.specs.Prelude.{slice_index, ◌==◌, ℤ, pos, negsuc, None, int_le, nat_lt}
use Rattle.std.specs.List.{prefix_len}
use Rattle.std.specs.Fmt.{decimal}
use Rattle.std.proofs.lemmas.Bool.{lt-ltb}
use Rattle.std.proofs.lemmas.Bool.Decides.{nat_tests}
use Rattle.numeric.specs.declared.ty.Ty.{Ty}
use Rattle.numeric.specs.declared.ty.Ty.TheVariants as ty
use Rattle.numeric.specs.declared.op.Op.{Op}
use Rattle.numeric.specs.declared.op.Op.TheVariants as op
use Rattle.numeric.specs.Wrap.{greatest}
use Rattle.tree.specs.Token.Spelling.{is_digit}
use Rattle.tree.specs.Term.{Term, Number, Name, Call, Minus, Binary, Clamp, Cast, Choice, Terms, End, More, Test, Compares, Fails, Both, Either}
use Rattle.spelling.specs.Words.Reading.{Stops}
use Rattle.spelling.proofs.Runs.{both, decimal_first}
use Rattle.spelling.specs.Terms.Laws.{TermIsReadAgain}
use Rattle.spelling.specs.Terms.Spelling.{suffix_text, row_text}
use Rattle.spelling.specs.Terms.Fitting.{is_literal, is_called, inside, fits_within, test_fits, fits_row, all_fit, max_brackets}
use Rattle.spelling.specs.Terms.Reading.{is_name_byte, head_named, word_of, within, term_from}
use Rattle.spelling.proofs.TermsWords.{IsFree, name_is_free, called_is_free, front_word, stops_name}
use Rattle.spelling.proofs.Steps.{Reads, ReadsTest, ReadsHere, ReadsTestHere, AllRead, Starts, IsNoTest, begins_test, literal_step, name_step, minus_step, sign_step, min_step, max_step, clamp_step, choice_step, cast_step, call_step, compare_step, deny_step, all_step, any_step}

-- ---- literals

pub small_at : (t : Ty) (k : ℕ) → int_le (pos k) (greatest t) ≡ true → k < 2 ^ 32
small_at ty.U8 k h = grind (arith, nat_tests)
small_at ty.U16 k h = grind (arith, nat_tests)
small_at ty.U32 k h = grind (arith, nat_tests)
small_at ty.I8 k h = grind (arith, nat_tests)
small_at ty.I16 k h = grind (arith, nat_tests)
small_at ty.I32 k h = grind (arith, nat_tests)

literal_again : (t : Ty) (z : ℤ) (n : ℕ) → is_literal t z ≡ true → ReadsHere (within n) (Number t z)
literal_again t (pos k) n fits =
    let small = small_at t k (both (int_le (pos 0) (pos k)) (int_le (pos k) (greatest t)) fits).1 in
    literal_step (within n) t k (lt-ltb k (2 ^ 63) (omega arith)) (omega arith)
literal_again t (negsuc k) n fits = absurd cc

-- ---- brackets

pub inside_some : (n : ℕ) (f : ℕ → Bool) → inside n f ≡ true → (k : ℕ) × (n ≡ suc k) × (f k ≡ true)
inside_some zero f h = absurd cc
inside_some (suc k) f h =
    let one : suc k - 1 ≡ k = omega arith in
    (k, refl, subst (λ j. f j ≡ true) one (both (nat_lt 0 (suc k)) (f (suc k - 1)) h).1)

in_brackets_read : (k : ℕ) (a : Term) → ReadsHere (within k) a → Reads (within (suc k)) a
unfolding within
in_brackets_read k a h = h

test_in_brackets_read : (k : ℕ) (c : Test) → ReadsTestHere (within k) c → ReadsTest (within (suc k)) c
unfolding within
test_in_brackets_read k c h = h

-- ---- what an expression begins with

digit_starts : (b : ℕ) → is_digit b ≡ true → (b == 40 || is_name_byte b) ≡ true
digit_starts b h = grind (arith, nat_tests)

name_starts : (b : ℕ) → is_name_byte b ≡ true → (b == 40 || is_name_byte b) ≡ true
name_starts b h = grind (arith, nat_tests)

free_starts : (name text rest : List ℕ) → IsFree name → ((name ++ text) ++ rest) ≡ (name ++ (text ++ rest)) → (slice_index ((name ++ text) ++ rest) 0 == 40 || is_name_byte (slice_index ((name ++ text) ++ rest) 0)) ≡ true
free_starts name text rest free cut = rw cut (name_starts (slice_index (name ++ (text ++ rest)) 0) (free.lead (text ++ rest)))

literal_starts : (t : Ty) (z : ℤ) → is_literal t z ≡ true → Starts (Number t z)
literal_starts t (pos k) fits rest =
    let small = small_at t k (both (int_le (pos 0) (pos k)) (int_le (pos k) (greatest t)) fits).1 in
    rw (append_assoc (decimal k) (suffix_text t) rest) (digit_starts (slice_index (decimal k ++ (suffix_text t ++ rest)) 0) (decimal_first k (suffix_text t ++ rest) (omega arith)))
literal_starts t (negsuc k) fits rest = absurd cc

starts : (a : Term) (n : ℕ) → fits_within a n ≡ true → Starts a
starts (Number t z) n fits = literal_starts t z fits
starts (Name name) n fits = λ rest. name_starts (slice_index (name ++ rest) 0) ((name_is_free name fits).lead rest)
starts (Call name at) n fits = λ rest.
    let free = called_is_free name (both (is_called name) (inside n (λ k. fits_row at k)) fits).0 in
    free_starts name (91 ∷ (row_text 0 at ++ 93 ∷ [])) rest free (append_assoc name (91 ∷ (row_text 0 at ++ 93 ∷ [])) rest)
starts (Minus a) n fits = λ rest. refl
starts (Binary op.Add a b) n fits = λ rest. refl
starts (Binary op.Sub a b) n fits = λ rest. refl
starts (Binary op.Mul a b) n fits = λ rest. refl
starts (Binary op.Div a b) n fits = λ rest. refl
starts (Binary op.Rem a b) n fits = λ rest. refl
starts (Binary op.Min a b) n fits = λ rest. refl
starts (Binary op.Max a b) n fits = λ rest. refl
starts (Clamp a l h) n fits = λ rest. refl
starts (Cast ty.U8 a) n fits = λ rest. refl
starts (Cast ty.U16 a) n fits = λ rest. refl
starts (Cast ty.U32 a) n fits = λ rest. refl
starts (Cast ty.I8 a) n fits = λ rest. refl
starts (Cast ty.I16 a) n fits = λ rest. refl
starts (Cast ty.I32 a) n fits = λ rest. refl
starts (Choice c a b) n fits = λ rest. refl

digit_other : (d c : ℕ) → is_digit d ≡ true → 57 < c → (c == d) ≡ false
digit_other d c h lt = grind (arith, nat_tests)

digit_in_word : (d : ℕ) → is_digit d ≡ true → is_name_byte d ≡ true
digit_in_word d h = rw h refl

word_cons : (d : ℕ) (text : List ℕ) → is_name_byte d ≡ true → word_of (d ∷ text) ≡ d ∷ word_of text
word_cons d text h = let one : 1 + prefix_len is_name_byte text ≡ suc (prefix_len is_name_byte text) = omega arith in rw (h, one) refl

digit_head : (d : ℕ) (text : List ℕ) → is_digit d ≡ true → head_named (d ∷ text) ≡ None
unfolding head_named
digit_head d text h = rw (digit_other d 109 h (omega arith), digit_other d 99 h (omega arith), digit_other d 115 h (omega arith), digit_other d 110 h (omega arith), digit_other d 97 h (omega arith)) refl

digit_no_test : (text : List ℕ) → is_digit (slice_index text 0) ≡ true → begins_test (head_named (word_of text)) ≡ false
digit_no_test [] h = absurd cc
digit_no_test (d ∷ text) h = ap (λ (w : List ℕ). begins_test (head_named w)) (word_cons d text (digit_in_word d h)) ∙ ap begins_test (digit_head d (word_of text) h)

literal_no_test : (t : Ty) (z : ℤ) → is_literal t z ≡ true → IsNoTest (Number t z)
literal_no_test t (pos k) fits rest h =
    let small = small_at t k (both (int_le (pos 0) (pos k)) (int_le (pos k) (greatest t)) fits).1 in
    rw (append_assoc (decimal k) (suffix_text t) rest) (digit_no_test (decimal k ++ (suffix_text t ++ rest)) (decimal_first k (suffix_text t ++ rest) (omega arith)))
literal_no_test t (negsuc k) fits rest h = absurd cc

free_no_test : (name rest : List ℕ) → IsFree name → Stops is_name_byte rest → begins_test (head_named (word_of (name ++ rest))) ≡ false
free_no_test name rest free h = rw (front_word name rest free.bytes h, free.no_head) refl

no_test : (a : Term) (n : ℕ) → fits_within a n ≡ true → IsNoTest a
unfolding head_named
no_test (Number t z) n fits = literal_no_test t z fits
no_test (Name name) n fits = λ rest h. free_no_test name rest (name_is_free name fits) (stops_name rest h)
no_test (Call name at) n fits = λ rest h.
    let free = called_is_free name (both (is_called name) (inside n (λ k. fits_row at k)) fits).0 in
    rw (append_assoc name (91 ∷ (row_text 0 at ++ 93 ∷ [])) rest) (free_no_test name ((91 ∷ (row_text 0 at ++ 93 ∷ [])) ++ rest) free refl)
no_test (Minus a) n fits = λ rest h. refl
no_test (Binary op.Add a b) n fits = λ rest h. refl
no_test (Binary op.Sub a b) n fits = λ rest h. refl
no_test (Binary op.Mul a b) n fits = λ rest h. refl
no_test (Binary op.Div a b) n fits = λ rest h. refl
no_test (Binary op.Rem a b) n fits = λ rest h. refl
no_test (Binary op.Min a b) n fits = λ rest h. refl
no_test (Binary op.Max a b) n fits = λ rest h. refl
no_test (Clamp a l u) n fits = λ rest h. refl
no_test (Cast ty.U8 a) n fits = λ rest h. refl
no_test (Cast ty.U16 a) n fits = λ rest h. refl
no_test (Cast ty.U32 a) n fits = λ rest h. refl
no_test (Cast ty.I8 a) n fits = λ rest h. refl
no_test (Cast ty.I16 a) n fits = λ rest h. refl
no_test (Cast ty.I32 a) n fits = λ rest h. refl
no_test (Choice c a b) n fits = λ rest h. refl

-- ---- whole expressions

pub three : (f g h : Bool) → (f && g && h) ≡ true → (f ≡ true) × (g ≡ true) × (h ≡ true)
three f g h e = let l = both (f && g) h e in let m = both f g l.0 in (m.0, m.1, l.1)

binary_step : (k : ℕ) (o : Op) (a b : Term) → Starts a → Reads (within (suc k)) a → Reads (within (suc k)) b → ReadsHere (within (suc k)) (Binary o a b)
binary_step k op.Add a b start ra rb = sign_step (within (suc k)) op.Add 43 a b refl refl refl refl start ra rb
binary_step k op.Sub a b start ra rb = sign_step (within (suc k)) op.Sub 45 a b refl refl refl refl start ra rb
binary_step k op.Mul a b start ra rb = sign_step (within (suc k)) op.Mul 42 a b refl refl refl refl start ra rb
binary_step k op.Div a b start ra rb = sign_step (within (suc k)) op.Div 47 a b refl refl refl refl start ra rb
binary_step k op.Rem a b start ra rb = sign_step (within (suc k)) op.Rem 37 a b refl refl refl refl start ra rb
binary_step k op.Min a b start ra rb = min_step (within (suc k)) a b ra rb
binary_step k op.Max a b start ra rb = max_step (within (suc k)) a b ra rb

mutual
  again : (a : Term) (n : ℕ) → fits_within a n ≡ true → ReadsHere (within n) a
  again (Number t z) n fits = literal_again t z n fits
  again (Name name) n fits = name_step (within n) name (name_is_free name fits)
  again (Call name End) n fits =
      let h = both (is_called name) (inside n (λ k. fits_row End k)) fits in
      absurd (let i = inside_some n (λ k. fits_row End k) h.1 in let bad = i.2 in cc)
  again (Call name (More a at)) n fits =
      let h = both (is_called name) (inside n (λ k. fits_row (More a at) k)) fits in
      let i = inside_some n (λ k. fits_row (More a at) k) h.1 in
      let f = both (fits_within a i.0) (all_fit at i.0) i.2 in
      subst (λ m. ReadsHere (within m) (Call name (More a at))) (sym i.1)
      (call_step (within (suc i.0)) name a at (called_is_free name h.0) (in_brackets_read i.0 a (again a i.0 f.0)) (all_again at i.0 f.1))
  again (Minus a) n fits =
      let i = inside_some n (λ k. fits_within a k) fits in
      subst (λ m. ReadsHere (within m) (Minus a)) (sym i.1) (minus_step (within (suc i.0)) a (in_brackets_read i.0 a (again a i.0 i.2)))
  again (Binary o a b) n fits =
      let i = inside_some n (λ k. fits_within a k && fits_within b k) fits in
      let f = both (fits_within a i.0) (fits_within b i.0) i.2 in
      subst (λ m. ReadsHere (within m) (Binary o a b)) (sym i.1)
      (binary_step i.0 o a b (starts a i.0 f.0) (in_brackets_read i.0 a (again a i.0 f.0)) (in_brackets_read i.0 b (again b i.0 f.1)))
  again (Clamp a l u) n fits =
      let i = inside_some n (λ k. fits_within a k && fits_within l k && fits_within u k) fits in
      let f = three (fits_within a i.0) (fits_within l i.0) (fits_within u i.0) i.2 in
      subst (λ m. ReadsHere (within m) (Clamp a l u)) (sym i.1)
      (clamp_step (within (suc i.0)) a l u (in_brackets_read i.0 a (again a i.0 f.0)) (in_brackets_read i.0 l (again l i.0 f.1)) (in_brackets_read i.0 u (again u i.0 f.2)))
  again (Cast t a) n fits =
      let i = inside_some n (λ k. fits_within a k) fits in
      subst (λ m. ReadsHere (within m) (Cast t a)) (sym i.1) (cast_step (within (suc i.0)) t a (in_brackets_read i.0 a (again a i.0 i.2)))
  again (Choice c a b) n fits =
      let i = inside_some n (λ k. test_fits c k && fits_within a k && fits_within b k) fits in
      let f = three (test_fits c i.0) (fits_within a i.0) (fits_within b i.0) i.2 in
      subst (λ m. ReadsHere (within m) (Choice c a b)) (sym i.1)
      (choice_step (within (suc i.0)) c a b (test_in_brackets_read i.0 c (test_again c i.0 f.0)) (in_brackets_read i.0 a (again a i.0 f.1)) (in_brackets_read i.0 b (again b i.0 f.2)))

  test_again : (c : Test) (n : ℕ) → test_fits c n ≡ true → ReadsTestHere (within n) c
  test_again (Compares o a b) n fits =
      let f = both (fits_within a n) (fits_within b n) fits in
      compare_step (within n) o a b (no_test a n f.0) (starts b n f.1) (again a n f.0) (again b n f.1)
  test_again (Fails c) n fits =
      let i = inside_some n (λ k. test_fits c k) fits in
      subst (λ m. ReadsTestHere (within m) (Fails c)) (sym i.1) (deny_step (within (suc i.0)) c (test_in_brackets_read i.0 c (test_again c i.0 i.2)))
  test_again (Both c d) n fits =
      let i = inside_some n (λ k. test_fits c k && test_fits d k) fits in
      let f = both (test_fits c i.0) (test_fits d i.0) i.2 in
      subst (λ m. ReadsTestHere (within m) (Both c d)) (sym i.1)
      (all_step (within (suc i.0)) c d (test_in_brackets_read i.0 c (test_again c i.0 f.0)) (test_in_brackets_read i.0 d (test_again d i.0 f.1)))
  test_again (Either c d) n fits =
      let i = inside_some n (λ k. test_fits c k && test_fits d k) fits in
      let f = both (test_fits c i.0) (test_fits d i.0) i.2 in
      subst (λ m. ReadsTestHere (within m) (Either c d)) (sym i.1)
      (any_step (within (suc i.0)) c d (test_in_brackets_read i.0 c (test_again c i.0 f.0)) (test_in_brackets_read i.0 d (test_again d i.0 f.1)))

  all_again : (at : Terms) (k : ℕ) → all_fit at k ≡ true → AllRead (within (suc k)) at
  all_again End k fits = tt
  all_again (More a at) k fits =
      let f = both (fits_within a k) (all_fit at k) fits in
      (in_brackets_read k a (again a k f.0), all_again at k f.1)

pub term_again : TermIsReadAgain
unfolding term_from
term_again t rest fits h = again t max_brackets fits rest h
