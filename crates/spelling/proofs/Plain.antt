-- The text of an expression that fits is plain.
use Rattle.std.proofs.Common.{◌≡◌, ℕ, zero, suc, true, not, ◌&&◌, List, [], ◌∷◌, ◌++◌, refl, arith}
use Rattle.std.specs.Prelude.{ℤ, pos, negsuc, int_le, ◌==◌}
use Rattle.std.specs.List.{list_all}
use Rattle.std.specs.Fmt.{decimal}
use Rattle.std.proofs.lemmas.Bool.Decides.{nat_tests}
use Rattle.numeric.specs.declared.ty.Ty.{Ty}
use Rattle.numeric.specs.declared.op.Op.{Op}
use Rattle.numeric.specs.declared.op.Op.TheVariants as op
use Rattle.numeric.specs.declared.op.Comparison.{Comparison}
use Rattle.numeric.specs.declared.op.Comparison.TheVariants as by
use Rattle.numeric.specs.Wrap.{greatest}
use Rattle.tree.specs.Token.Spelling.{is_digit, type_text}
use Rattle.tree.specs.Term.{Term, Number, Name, Call, Minus, Binary, Clamp, Cast, Choice, Terms, End, More, Test, Compares, Fails, Both, Either}
use Rattle.spelling.specs.Words.Laws.{IsFeedless}
use Rattle.spelling.proofs.Runs.{both, decimal_passes}
use Rattle.spelling.specs.Terms.Laws.{is_plain, TermIsPlain}
use Rattle.spelling.specs.Terms.Spelling.{suffix_text, in_brackets, listed, operator_word, operator_sign, comparison_text, comma_before, term_text, test_text, row_text}
use Rattle.spelling.specs.Terms.Fitting.{is_literal, is_called, inside, fits_within, test_fits, fits_row, all_fit, max_brackets, fits_term}
use Rattle.spelling.specs.Terms.Reading.{is_name_byte}
use Rattle.spelling.proofs.TermsWords.{name_is_free, called_is_free, all_weaker, type_bytes, suffix_bytes}
use Rattle.spelling.proofs.TermsAgain.{small_at, inside_some, three}

abbrev IsPlain : List ℕ → Type 0
IsPlain bytes = list_all is_plain bytes ≡ true

joined : (front bytes : List ℕ) → IsPlain front → IsPlain bytes → IsPlain (front ++ bytes)
joined [] bytes p q = q
joined (b ∷ front) bytes p q = let h = both (is_plain b) (list_all is_plain front) p in rw (h.0, joined front bytes h.1 q) refl

digit_plain : (b : ℕ) → is_digit b ≡ true → is_plain b ≡ true
digit_plain b h = grind (arith, nat_tests)

name_plain : (b : ℕ) → is_name_byte b ≡ true → is_plain b ≡ true
name_plain b h = grind (arith, nat_tests)

word_plain : (bytes : List ℕ) → list_all is_name_byte bytes ≡ true → IsPlain bytes
word_plain = all_weaker is_name_byte is_plain name_plain

literal_plain : (t : Ty) (z : ℤ) → is_literal t z ≡ true → IsPlain (term_text (Number t z))
literal_plain t (pos k) fits =
    let small = small_at t k (both (int_le (pos 0) (pos k)) (int_le (pos k) (greatest t)) fits).1 in
    joined (decimal k) (suffix_text t) (all_weaker is_digit is_plain digit_plain (decimal k) (decimal_passes k (omega arith))) (word_plain (suffix_text t) (suffix_bytes t))
literal_plain t (negsuc k) fits = absurd cc

operator_word_plain : (o : Op) → IsPlain (operator_word o)
operator_word_plain op.Add = refl
operator_word_plain op.Sub = refl
operator_word_plain op.Mul = refl
operator_word_plain op.Div = refl
operator_word_plain op.Rem = refl
operator_word_plain op.Min = refl
operator_word_plain op.Max = refl

operator_sign_plain : (o : Op) → IsPlain (operator_sign o)
operator_sign_plain op.Add = refl
operator_sign_plain op.Sub = refl
operator_sign_plain op.Mul = refl
operator_sign_plain op.Div = refl
operator_sign_plain op.Rem = refl
operator_sign_plain op.Min = refl
operator_sign_plain op.Max = refl

comparison_plain : (o : Comparison) → IsPlain (comparison_text o)
comparison_plain by.Less = refl
comparison_plain by.AtMost = refl
comparison_plain by.Greater = refl
comparison_plain by.AtLeast = refl
comparison_plain by.Equal = refl
comparison_plain by.Different = refl

comma_plain : (m : ℕ) → IsPlain (comma_before m)
comma_plain zero = refl
comma_plain (suc m) = refl

in_brackets_plain : (a : List ℕ) → IsPlain a → IsPlain (in_brackets a)
in_brackets_plain a p = joined a (41 ∷ []) p refl

listed_plain : (a b : List ℕ) → IsPlain a → IsPlain b → IsPlain (listed a b)
listed_plain a b p q = joined a (44 ∷ b) p q

row_fits : (at : Terms) (k : ℕ) → fits_row at k ≡ true → all_fit at k ≡ true
row_fits End k fits = absurd cc
row_fits (More a at) k fits = fits

mutual
  plain : (a : Term) (n : ℕ) → fits_within a n ≡ true → IsPlain (term_text a)
  plain (Number t z) n fits = literal_plain t z fits
  plain (Name name) n fits = word_plain name (name_is_free name fits).bytes
  plain (Call name at) n fits =
      let h = both (is_called name) (inside n (λ k. fits_row at k)) fits in
      let i = inside_some n (λ k. fits_row at k) h.1 in
      joined name (91 ∷ (row_text 0 at ++ 93 ∷ [])) (word_plain name (called_is_free name h.0).bytes) (joined (row_text 0 at) (93 ∷ []) (row_plain 0 at i.0 (row_fits at i.0 i.2)) refl)
  plain (Minus a) n fits = let i = inside_some n (λ k. fits_within a k) fits in in_brackets_plain (45 ∷ term_text a) (plain a i.0 i.2)
  plain (Binary o a b) n fits =
      let i = inside_some n (λ k. fits_within a k && fits_within b k) fits in
      let f = both (fits_within a i.0) (fits_within b i.0) i.2 in
      let right = joined (operator_sign o) (term_text b) (operator_sign_plain o) (plain b i.0 f.1) in
      joined (operator_word o) (in_brackets (term_text a ++ (operator_sign o ++ term_text b))) (operator_word_plain o)
      (in_brackets_plain (term_text a ++ (operator_sign o ++ term_text b)) (joined (term_text a) (operator_sign o ++ term_text b) (plain a i.0 f.0) right))
  plain (Clamp a l u) n fits =
      let i = inside_some n (λ k. fits_within a k && fits_within l k && fits_within u k) fits in
      let f = three (fits_within a i.0) (fits_within l i.0) (fits_within u i.0) i.2 in
      let ends = listed_plain (term_text l) (term_text u) (plain l i.0 f.1) (plain u i.0 f.2) in
      in_brackets_plain (listed (term_text a) (listed (term_text l) (term_text u))) (listed_plain (term_text a) (listed (term_text l) (term_text u)) (plain a i.0 f.0) ends)
  plain (Cast t a) n fits =
      let i = inside_some n (λ k. fits_within a k) fits in
      joined (type_text t) (in_brackets (term_text a)) (word_plain (type_text t) (type_bytes t)) (in_brackets_plain (term_text a) (plain a i.0 i.2))
  plain (Choice c a b) n fits =
      let i = inside_some n (λ k. test_fits c k && fits_within a k && fits_within b k) fits in
      let f = three (test_fits c i.0) (fits_within a i.0) (fits_within b i.0) i.2 in
      let arms = listed_plain (term_text a) (term_text b) (plain a i.0 f.1) (plain b i.0 f.2) in
      in_brackets_plain (listed (test_text c) (listed (term_text a) (term_text b))) (listed_plain (test_text c) (listed (term_text a) (term_text b)) (test_plain c i.0 f.0) arms)

  test_plain : (c : Test) (n : ℕ) → test_fits c n ≡ true → IsPlain (test_text c)
  test_plain (Compares o a b) n fits =
      let f = both (fits_within a n) (fits_within b n) fits in
      joined (term_text a) (comparison_text o ++ term_text b) (plain a n f.0) (joined (comparison_text o) (term_text b) (comparison_plain o) (plain b n f.1))
  test_plain (Fails c) n fits = let i = inside_some n (λ k. test_fits c k) fits in in_brackets_plain (test_text c) (test_plain c i.0 i.2)
  test_plain (Both c d) n fits =
      let i = inside_some n (λ k. test_fits c k && test_fits d k) fits in
      let f = both (test_fits c i.0) (test_fits d i.0) i.2 in
      in_brackets_plain (listed (test_text c) (test_text d)) (listed_plain (test_text c) (test_text d) (test_plain c i.0 f.0) (test_plain d i.0 f.1))
  test_plain (Either c d) n fits =
      let i = inside_some n (λ k. test_fits c k && test_fits d k) fits in
      let f = both (test_fits c i.0) (test_fits d i.0) i.2 in
      in_brackets_plain (listed (test_text c) (test_text d)) (listed_plain (test_text c) (test_text d) (test_plain c i.0 f.0) (test_plain d i.0 f.1))

  row_plain : (m : ℕ) (at : Terms) (k : ℕ) → all_fit at k ≡ true → IsPlain (row_text m at)
  row_plain m End k fits = refl
  row_plain m (More a at) k fits =
      let f = both (fits_within a k) (all_fit at k) fits in
      joined (comma_before m) (term_text a ++ row_text (suc m) at) (comma_plain m) (joined (term_text a) (row_text (suc m) at) (plain a k f.0) (row_plain (suc m) at k f.1))

pub term_plain : TermIsPlain
term_plain t fits = plain t max_brackets fits

no_feed : (b : ℕ) → is_plain b ≡ true → not (b == 10) ≡ true
no_feed b h = grind (arith, nat_tests)

pub term_feedless : IsFeedless fits_term term_text
term_feedless t fits = all_weaker is_plain (λ b. not (b == 10)) no_feed (term_text t) (term_plain t fits)
