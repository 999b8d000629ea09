-- What is read is in the grammar.
use Rattle.std.proofs.Common.{◌≡◌, ℕ, zero, suc, Bool, true, false, cond, List, [], ◌∷◌, ◌++◌, length, Option, Some, None, Result, Ok, Err, refl, sym, ap, subst, ◌∙◌, ◌⊎◌, inl, inr, append_assoc, rules as search_rules}
use denote.Enum.Bare.{same_true}
use Rattle.numeric.specs.declared.ty.Ty.{Ty}
use Rattle.numeric.specs.declared.op.Op.{Op}
use Rattle.numeric.specs.declared.op.Op.TheVariants as op
use Rattle.numeric.specs.declared.op.Comparison.{Comparison}
use Rattle.numeric.specs.declared.op.Comparison.TheVariants as by
use Rattle.tree.specs.contracts.token.token.Symbol.{the_type}
use Rattle.tree.specs.declared.token.token.Symbol.{Symbol}
use Rattle.tree.specs.declared.token.token.Symbol.TheVariants as symbol
use Rattle.tree.specs.declared.token.token.Word.TheVariants as word
use Rattle.tree.specs.declared.token.token.Token.{Token}
use Rattle.tree.specs.declared.token.token.Token.TheVariants as token
use Rattle.tree.specs.Token.Cursor.{after, same_symbol}
use Rattle.tree.specs.Term.{Term, Name, Call, Minus, Binary, Clamp, Cast, Choice, Terms, More as MoreTerms, Test, Compares, Fails, indices as index_terms}
use Rattle.expr.specs.declared.measured.Joint.{Joint}
use Rattle.expr.specs.declared.measured.Joint.TheVariants as joint
use Rattle.expr.specs.declared.parser.Level.TheVariants as level
use Rattle.expr.specs.declared.error.Refusal.{Refusal}
use Rattle.expr.specs.Parsing.{◌>>=◌, Parse, Reader, literal, made, cond_made, or_refuse, expect, operator_at, comparison_at, joint_test, join_step, if_joined, joined, chained, cast as cast_at, pair, clamp as clamp_at, select as select_at, indices, indices_step, named, named_step, negation, bare, closed, unary, product, sum, compared, denied, combined, condition, within, expression}
use Rattle.expr.specs.Grammar.{AddSign, plus, minus, MulSign, times, over, modulo, Extreme, least, greatest, Sums, term, add, Products, factor, multiply, Signed, unsigned, negated, number, variable, call, group, cast, extreme, clamp, select, More, no_more, next, Condition, compare, deny, all, any, sign, add_symbol, mul_symbol, comparison_symbol, extreme_word, sums_then, products_then, signed_then, more_then, condition_then, add_op, mul_op, extreme_op, sums_term, products_term, signed_term, more_terms, condition_test, Fits, StandsFor}
use Rattle.expr.proofs.Limits.{answered, answer_is, made_is, cond_made_is, part_made_ok, cond_part_made_ok}

-- ---- inversions

-- the value of a step that did not refuse
bind_ok : {A B : Type 0} (r : Result A Refusal) (f : A → Result B Refusal) (y : B) → (r >>= f) ≡ Ok y → (x : A) × (r ≡ Ok x) × (f x ≡ Ok y)
bind_ok (Ok x) f y h = (x, refl, h)
bind_ok (Err d) f y h = absurd cc

abbrev some : (Op × List Token) → Option (Op × List Token)
some p = Some p

some_is : (p q : Op × List Token) → some p ≡ some q → p ≡ q
some_is p q h = cc

some_pair : (o q : Op) (ts us : List Token) → some (o, ts) ≡ some (q, us) → (o ≡ q) × (ts ≡ us)
some_pair o q ts us h = let p = some_is (o, ts) (q, us) h in (ap (λ (r : Op × List Token). r.0) p, ap (λ (r : Op × List Token). r.1) p)

after_symbol : (s t : Symbol) (ts us : List Token) (b : Bool) → same_symbol t s ≡ b → cond b (Some ts) None ≡ Some us → sign t ∷ ts ≡ sign s ∷ us
after_symbol s t ts us true is h =
    let same : t ≡ s = same_true the_type (search search_rules) t s is in
    let rest : ts ≡ us = cc in
    ap (λ (x : Symbol). sign x ∷ ts) same ∙ ap (λ (x : List Token). sign s ∷ x) rest
after_symbol s t ts us false is h = absurd cc

pub after_is : (s : Symbol) (ts us : List Token) → after s ts ≡ Some us → ts ≡ sign s ∷ us
after_is s [] us h = absurd cc
after_is s (token.Symbol t ∷ ts) us h = after_symbol s t ts us (same_symbol t s) refl h
after_is s (_ ∷ ts) us h = absurd cc

or_refuse_is : (o : Option (List Token)) (left : ℕ) (us : List Token) → or_refuse o left ≡ Ok us → o ≡ Some us
or_refuse_is (Some ts) left us h = let same : ts ≡ us = cc in ap (λ (x : List Token). Some x) same
or_refuse_is None left us h = absurd cc

expect_is : (s : Symbol) (ts us : List Token) → expect s ts ≡ Ok us → ts ≡ sign s ∷ us
unfolding expect
expect_is s ts us h = after_is s ts us (or_refuse_is (after s ts) (length ts) us h)

mul_at : (o : Op) (ts us : List Token) → operator_at level.Product ts ≡ Some (o, us) → (s : MulSign) × (ts ≡ sign (mul_symbol s) ∷ us) × (mul_op s ≡ o)
mul_at o [] us h = absurd cc
mul_at o (token.Symbol symbol.Star ∷ ts) us h = let p = some_pair op.Mul o ts us h in (times, ap (λ (q : List Token). sign symbol.Star ∷ q) p.1, p.0)
mul_at o (token.Symbol symbol.Slash ∷ ts) us h = let p = some_pair op.Div o ts us h in (over, ap (λ (q : List Token). sign symbol.Slash ∷ q) p.1, p.0)
mul_at o (token.Symbol symbol.Percent ∷ ts) us h = let p = some_pair op.Rem o ts us h in (modulo, ap (λ (q : List Token). sign symbol.Percent ∷ q) p.1, p.0)
mul_at o (_ ∷ ts) us h = absurd cc

add_at : (o : Op) (ts us : List Token) → operator_at level.Sum ts ≡ Some (o, us) → (s : AddSign) × (ts ≡ sign (add_symbol s) ∷ us) × (add_op s ≡ o)
add_at o [] us h = absurd cc
add_at o (token.Symbol symbol.Plus ∷ ts) us h = let p = some_pair op.Add o ts us h in (plus, ap (λ (q : List Token). sign symbol.Plus ∷ q) p.1, p.0)
add_at o (token.Symbol symbol.Minus ∷ ts) us h = let p = some_pair op.Sub o ts us h in (minus, ap (λ (q : List Token). sign symbol.Minus ∷ q) p.1, p.0)
add_at o (_ ∷ ts) us h = absurd cc

compared_as : (o q : Comparison) (ts us : List Token) → answered (o, ts) ≡ answered (q, us) → sign (comparison_symbol o) ∷ ts ≡ sign (comparison_symbol q) ∷ us
compared_as o q ts us h = let p = answer_is o q ts us h in ap (λ (x : Comparison). sign (comparison_symbol x) ∷ ts) p.0 ∙ ap (λ (x : List Token). sign (comparison_symbol q) ∷ x) p.1

comparison_is : (o : Comparison) (ts us : List Token) → comparison_at ts ≡ Ok (o, us) → ts ≡ sign (comparison_symbol o) ∷ us
comparison_is o [] us h = absurd cc
comparison_is o (token.Symbol symbol.Less ∷ ts) us h = compared_as by.Less o ts us h
comparison_is o (token.Symbol symbol.LessEquals ∷ ts) us h = compared_as by.AtMost o ts us h
comparison_is o (token.Symbol symbol.Greater ∷ ts) us h = compared_as by.Greater o ts us h
comparison_is o (token.Symbol symbol.GreaterEquals ∷ ts) us h = compared_as by.AtLeast o ts us h
comparison_is o (token.Symbol symbol.EqualsEquals ∷ ts) us h = compared_as by.Equal o ts us h
comparison_is o (token.Symbol symbol.NotEquals ∷ ts) us h = compared_as by.Different o ts us h
comparison_is o (_ ∷ ts) us h = absurd cc

-- what was read from ts to us stands for x, which is within the limits
pub record FoundSigned (most levels : ℕ) (ts us : List Token) (x : Term) : Type 0 where
  pub rules : Signed
  pub spelled : ts ≡ signed_then rules us
  pub is : signed_term rules ≡ x
  pub fits : Fits most levels x

-- the same of a term
pub record FoundProducts (most levels : ℕ) (ts us : List Token) (x : Term) : Type 0 where
  pub rules : Products
  pub spelled : ts ≡ products_then rules us
  pub is : products_term rules ≡ x
  pub fits : Fits most levels x

-- the same of an expression
pub record FoundSums (most levels : ℕ) (ts us : List Token) (x : Term) : Type 0 where
  pub rules : Sums
  pub spelled : ts ≡ sums_then rules us
  pub is : sums_term rules ≡ x
  pub fits : Fits most levels x

-- the same of a condition
pub record FoundCondition (ts us : List Token) (c : Test) : Type 0 where
  pub rules : Condition
  pub spelled : ts ≡ condition_then rules us
  pub is : condition_test rules ≡ c

module _ (most : ℕ) where
  made_ok : (n : ℕ) (t x : Term) (ts us : List Token) → made most n t ts ≡ Ok (x, us) → (t ≡ x) × (ts ≡ us) × Fits most (suc n) x
  made_ok n t x ts us h = let p = part_made_ok most (suc n) t x ts us (sym (made_is most n t ts) ∙ h) in (p.0, p.1, subst (Fits most (suc n)) p.0 p.2)

  cond_made_ok : (n : ℕ) (c d : Test) (ts us : List Token) → cond_made most n c ts ≡ Ok (d, us) → (c ≡ d) × (ts ≡ us)
  cond_made_ok n c d ts us h = let p = cond_part_made_ok most (suc n) c d ts us (sym (cond_made_is most n c ts) ∙ h) in (p.0, p.1)

  -- ---- terms

  abbrev SignedOperand : Parse Term → ℕ → Type 0
  SignedOperand operand n = (ts us : List Token) (x : Term) → operand ts ≡ Ok (x, us) → FoundSigned most n ts us x

  -- what was read so far, and what the turns that are left read
  products_done : (n : ℕ) (d : Products) (ts us : List Token) (x : Term) → Fits most n (products_term d) → answered (products_term d, ts) ≡ answered (x, us) → FoundProducts most n (products_then d ts) us x
  products_done n d ts us x f h =
      let p = answer_is (products_term d) x ts us h in
      record { rules = d; spelled = ap (products_then d) p.1; is = p.0; fits = subst (Fits most n) p.0 f }

  products_last : (n : ℕ) (d : Products) (ts us : List Token) (x : Term) (o : Option (Op × List Token)) → Fits most n (products_term d) → if_joined (products_term d) ts o ≡ Ok (x, us) → FoundProducts most n (products_then d ts) us x
  products_last n d ts us x None f h = products_done n d ts us x f h
  products_last n d ts us x (Some p) f h = absurd cc

  -- one turn: the operator, its right side and the whole
  record ProductsTurn (operand : Parse Term) (n k : ℕ) (d : Products) (ts us : List Token) (x : Term) : Type 0 where
    whole : Products
    rest : List Token
    spelled : products_then d ts ≡ products_then whole rest
    fits : Fits most (suc n) (products_term whole)
    goes_on : joined most n level.Product operand k (products_term whole) rest ≡ Ok (x, us)

  products_turn : (operand : Parse Term) (n k : ℕ) (d : Products) (ts vs us : List Token) (o : Op) (x : Term) → SignedOperand operand n → operator_at level.Product ts ≡ Some (o, vs)
      → join_step most n operand (joined most n level.Product operand k) (products_term d) ts (Some (o, vs)) ≡ Ok (x, us) → ProductsTurn operand n k d ts us x
  products_turn operand n k d ts vs us o x parts at h =
      let s = mul_at o ts vs at in
      let b = bind_ok (operand vs) (λ r. made most n (Binary o (products_term d) r.0) r.1 >>= λ y. joined most n level.Product operand k y.0 y.1) (x, us) h in
      let right = parts vs b.0.1 b.0.0 b.1 in
      let f = bind_ok (made most n (Binary o (products_term d) b.0.0) b.0.1) (λ y. joined most n level.Product operand k y.0 y.1) (x, us) b.2 in
      let fit = made_ok n (Binary o (products_term d) b.0.0) f.0.0 b.0.1 f.0.1 f.1 in
      let same : f.0.0 ≡ Binary (mul_op s.0) (products_term d) (signed_term right.rules) = sym (ap (λ (q : Op). Binary q (products_term d) (signed_term right.rules)) s.2 ∙ ap (Binary o (products_term d)) right.is ∙ fit.0) in
      record {
        whole = multiply d s.0 right.rules;
        rest = f.0.1;
        spelled = ap (products_then d) (s.1 ∙ ap (λ (q : List Token). sign (mul_symbol s.0) ∷ q) (right.spelled ∙ ap (signed_then right.rules) fit.1));
        fits = subst (Fits most (suc n)) same fit.2;
        goes_on = subst (λ (y : Term). joined most n level.Product operand k y f.0.1 ≡ Ok (x, us)) same f.2;
      }

  products_step : (operand : Parse Term) (n k : ℕ) (d : Products) (ts us : List Token) (x : Term) (o : Option (Op × List Token)) → operator_at level.Product ts ≡ o → SignedOperand operand n → Fits most (suc n) (products_term d)
      → join_step most n operand (joined most n level.Product operand k) (products_term d) ts o ≡ Ok (x, us) → FoundProducts most (suc n) (products_then d ts) us x ⊎ ProductsTurn operand n k d ts us x
  products_step operand n k d ts us x None at parts f h = inl (products_done (suc n) d ts us x f h)
  products_step operand n k d ts us x (Some p) at parts f h = inr (products_turn operand n k d ts p.1 us p.0 x parts at h)

  products_joined : (operand : Parse Term) (n k : ℕ) (d : Products) (ts us : List Token) (x : Term) → SignedOperand operand n → Fits most (suc n) (products_term d)
      → joined most n level.Product operand k (products_term d) ts ≡ Ok (x, us) → FoundProducts most (suc n) (products_then d ts) us x
  unfolding joined
  products_joined operand n zero d ts us x parts f h = products_last (suc n) d ts us x (operator_at level.Product ts) f h
  products_joined operand n (suc k) d ts us x parts f h =
      elim (products_step operand n k d ts us x (operator_at level.Product ts) refl parts f h) [
        | inl found ↦ found
        | inr t ↦ let r = products_joined operand n k t.whole t.rest us x parts t.fits t.goes_on in
            record { rules = r.rules; spelled = t.spelled ∙ r.spelled; is = r.is; fits = r.fits }
      ]

  -- the operators behind a first part
  products_found : (inner : Reader) (n : ℕ) (ts vs us : List Token) (a x : Term) → SignedOperand inner.unary n → FoundSigned most (suc n) ts vs a → chained most n inner level.Product a vs ≡ Ok (x, us) → FoundProducts most (suc n) ts us x
  unfolding chained
  products_found inner n ts vs us a x parts first h =
      let more : joined most n level.Product inner.unary n (signed_term first.rules) vs ≡ Ok (x, us) = subst (λ (y : Term). joined most n level.Product inner.unary n y vs ≡ Ok (x, us)) (sym first.is) h in
      let r = products_joined inner.unary n n (factor first.rules) vs us x parts (subst (Fits most (suc n)) (sym first.is) first.fits) more in
      record { rules = r.rules; spelled = first.spelled ∙ r.spelled; is = r.is; fits = r.fits }

  -- ---- expressions

  abbrev ProductsOperand : Parse Term → ℕ → Type 0
  ProductsOperand operand n = (ts us : List Token) (x : Term) → operand ts ≡ Ok (x, us) → FoundProducts most n ts us x

  -- what was read so far, and what the turns that are left read
  sums_done : (n : ℕ) (d : Sums) (ts us : List Token) (x : Term) → Fits most n (sums_term d) → answered (sums_term d, ts) ≡ answered (x, us) → FoundSums most n (sums_then d ts) us x
  sums_done n d ts us x f h =
      let p = answer_is (sums_term d) x ts us h in
      record { rules = d; spelled = ap (sums_then d) p.1; is = p.0; fits = subst (Fits most n) p.0 f }

  sums_last : (n : ℕ) (d : Sums) (ts us : List Token) (x : Term) (o : Option (Op × List Token)) → Fits most n (sums_term d) → if_joined (sums_term d) ts o ≡ Ok (x, us) → FoundSums most n (sums_then d ts) us x
  sums_last n d ts us x None f h = sums_done n d ts us x f h
  sums_last n d ts us x (Some p) f h = absurd cc

  -- one turn: the operator, its right side and the whole
  record SumsTurn (operand : Parse Term) (n k : ℕ) (d : Sums) (ts us : List Token) (x : Term) : Type 0 where
    whole : Sums
    rest : List Token
    spelled : sums_then d ts ≡ sums_then whole rest
    fits : Fits most (suc n) (sums_term whole)
    goes_on : joined most n level.Sum operand k (sums_term whole) rest ≡ Ok (x, us)

  sums_turn : (operand : Parse Term) (n k : ℕ) (d : Sums) (ts vs us : List Token) (o : Op) (x : Term) → ProductsOperand operand n → operator_at level.Sum ts ≡ Some (o, vs)
      → join_step most n operand (joined most n level.Sum operand k) (sums_term d) ts (Some (o, vs)) ≡ Ok (x, us) → SumsTurn operand n k d ts us x
  sums_turn operand n k d ts vs us o x parts at h =
      let s = add_at o ts vs at in
      let b = bind_ok (operand vs) (λ r. made most n (Binary o (sums_term d) r.0) r.1 >>= λ y. joined most n level.Sum operand k y.0 y.1) (x, us) h in
      let right = parts vs b.0.1 b.0.0 b.1 in
      let f = bind_ok (made most n (Binary o (sums_term d) b.0.0) b.0.1) (λ y. joined most n level.Sum operand k y.0 y.1) (x, us) b.2 in
      let fit = made_ok n (Binary o (sums_term d) b.0.0) f.0.0 b.0.1 f.0.1 f.1 in
      let same : f.0.0 ≡ Binary (add_op s.0) (sums_term d) (products_term right.rules) = sym (ap (λ (q : Op). Binary q (sums_term d) (products_term right.rules)) s.2 ∙ ap (Binary o (sums_term d)) right.is ∙ fit.0) in
      record {
        whole = add d s.0 right.rules;
        rest = f.0.1;
        spelled = ap (sums_then d) (s.1 ∙ ap (λ (q : List Token). sign (add_symbol s.0) ∷ q) (right.spelled ∙ ap (products_then right.rules) fit.1));
        fits = subst (Fits most (suc n)) same fit.2;
        goes_on = subst (λ (y : Term). joined most n level.Sum operand k y f.0.1 ≡ Ok (x, us)) same f.2;
      }

  sums_step : (operand : Parse Term) (n k : ℕ) (d : Sums) (ts us : List Token) (x : Term) (o : Option (Op × List Token)) → operator_at level.Sum ts ≡ o → ProductsOperand operand n → Fits most (suc n) (sums_term d)
      → join_step most n operand (joined most n level.Sum operand k) (sums_term d) ts o ≡ Ok (x, us) → FoundSums most (suc n) (sums_then d ts) us x ⊎ SumsTurn operand n k d ts us x
  sums_step operand n k d ts us x None at parts f h = inl (sums_done (suc n) d ts us x f h)
  sums_step operand n k d ts us x (Some p) at parts f h = inr (sums_turn operand n k d ts p.1 us p.0 x parts at h)

  sums_joined : (operand : Parse Term) (n k : ℕ) (d : Sums) (ts us : List Token) (x : Term) → ProductsOperand operand n → Fits most (suc n) (sums_term d)
      → joined most n level.Sum operand k (sums_term d) ts ≡ Ok (x, us) → FoundSums most (suc n) (sums_then d ts) us x
  unfolding joined
  sums_joined operand n zero d ts us x parts f h = sums_last (suc n) d ts us x (operator_at level.Sum ts) f h
  sums_joined operand n (suc k) d ts us x parts f h =
      elim (sums_step operand n k d ts us x (operator_at level.Sum ts) refl parts f h) [
        | inl found ↦ found
        | inr t ↦ let r = sums_joined operand n k t.whole t.rest us x parts t.fits t.goes_on in
            record { rules = r.rules; spelled = t.spelled ∙ r.spelled; is = r.is; fits = r.fits }
      ]

  -- the operators behind a first part
  sums_found : (inner : Reader) (n : ℕ) (ts vs us : List Token) (a x : Term) → ProductsOperand inner.product n → FoundProducts most (suc n) ts vs a → chained most n inner level.Sum a vs ≡ Ok (x, us) → FoundSums most (suc n) ts us x
  unfolding chained
  sums_found inner n ts vs us a x parts first h =
      let more : joined most n level.Sum inner.product n (products_term first.rules) vs ≡ Ok (x, us) = subst (λ (y : Term). joined most n level.Sum inner.product n y vs ≡ Ok (x, us)) (sym first.is) h in
      let r = sums_joined inner.product n n (term first.rules) vs us x parts (subst (Fits most (suc n)) (sym first.is) first.fits) more in
      record { rules = r.rules; spelled = first.spelled ∙ r.spelled; is = r.is; fits = r.fits }

  -- ---- parts

  -- what stands one level deeper
  record Inside (inner : Reader) (n : ℕ) : Type 0 where
    sum_in : (ts us : List Token) (x : Term) → inner.sum ts ≡ Ok (x, us) → FoundSums most n ts us x
    product_in : ProductsOperand inner.product n
    unary_in : SignedOperand inner.unary n
    condition_in : (ts us : List Token) (c : Test) → inner.condition ts ≡ Ok (c, us) → FoundCondition ts us c

  -- a part between brackets or commas, and the tokens after it
  record Part (ts us : List Token) (x : Term) : Type 0 where
    rules : Sums
    spelled : ts ≡ sums_then rules us
    is : sums_term rules ≡ x

  part_of : (inner : Reader) (n : ℕ) (ts us vs : List Token) (x : Term) → Inside inner n → inner.sum ts ≡ Ok (x, us) → us ≡ vs → Part ts vs x
  part_of inner n ts us vs x inside h e =
      let f = inside.sum_in ts us x h in
      record { rules = f.rules; spelled = f.spelled ∙ ap (sums_then f.rules) e; is = f.is }

  test_of : (inner : Reader) (n : ℕ) (ts us vs : List Token) (c : Test) → Inside inner n → inner.condition ts ≡ Ok (c, us) → us ≡ vs → FoundCondition ts vs c
  test_of inner n ts us vs c inside h e =
      let f = inside.condition_in ts us c h in
      record { rules = f.rules; spelled = f.spelled ∙ ap (condition_then f.rules) e; is = f.is }

  module _ (inner : Reader) (n : ℕ) (inside : Inside inner n) where
    abbrev Read : Type 0
    Read = Result (Term × List Token) Refusal

    abbrev TestRead : Type 0
    TestRead = Result (Test × List Token) Refusal

    negation_sound : (ts us : List Token) (x : Term) → negation most n inner ts ≡ Ok (x, us) → FoundSigned most (suc n) (sign symbol.Minus ∷ ts) us x
    unfolding negation
    negation_sound ts us x h =
        let a = bind_ok (inner.unary ts) (λ a. made most n (Minus a.0) a.1) (x, us) h in
        let s = inside.unary_in ts a.0.1 a.0.0 a.1 in
        let f = made_ok n (Minus a.0.0) x a.0.1 us a.2 in
        record { rules = negated s.rules; spelled = ap (λ (v : List Token). sign symbol.Minus ∷ v) (s.spelled ∙ ap (signed_then s.rules) f.1); is = ap Minus s.is ∙ f.0; fits = f.2 }

    cast_sound : (t : Ty) (ts us : List Token) (x : Term) → cast_at most n inner t ts ≡ Ok (x, us) → FoundSigned most (suc n) (token.Type t ∷ ts) us x
    unfolding cast_at
    cast_sound t ts us x h =
        let s = bind_ok (expect symbol.LeftParen ts) (λ start. inner.sum start >>= λ a. expect symbol.RightParen a.1 >>= λ rest. made most n (Cast t a.0) rest) (x, us) h in
        let a = bind_ok (inner.sum s.0) (λ a. expect symbol.RightParen a.1 >>= λ rest. made most n (Cast t a.0) rest) (x, us) s.2 in
        let close = bind_ok (expect symbol.RightParen a.0.1) (λ rest. made most n (Cast t a.0.0) rest) (x, us) a.2 in
        let f = made_ok n (Cast t a.0.0) x close.0 us close.2 in
        let p = part_of inner n s.0 a.0.1 (sign symbol.RightParen ∷ us) a.0.0 inside a.1 (expect_is symbol.RightParen a.0.1 close.0 close.1 ∙ ap (λ (v : List Token). sign symbol.RightParen ∷ v) f.1) in
        record {
          rules = unsigned (cast t p.rules);
          spelled = ap (λ (v : List Token). token.Type t ∷ v) (expect_is symbol.LeftParen ts s.0 s.1 ∙ ap (λ (v : List Token). sign symbol.LeftParen ∷ v) p.spelled);
          is = ap (Cast t) p.is ∙ f.0;
          fits = f.2;
        }

    pair_sound : (c : Extreme) (ts us : List Token) (x : Term) → pair most n inner (extreme_op c) ts ≡ Ok (x, us) → FoundSigned most (suc n) (extreme_word c ∷ ts) us x
    unfolding pair
    pair_sound c ts us x h =
        let o = extreme_op c in
        let s = bind_ok (expect symbol.LeftParen ts) (λ start. inner.sum start >>= λ a. expect symbol.Comma a.1 >>= λ second. inner.sum second >>= λ b. expect symbol.RightParen b.1 >>= λ rest. made most n (Binary o a.0 b.0) rest) (x, us) h in
        let a = bind_ok (inner.sum s.0) (λ a. expect symbol.Comma a.1 >>= λ second. inner.sum second >>= λ b. expect symbol.RightParen b.1 >>= λ rest. made most n (Binary o a.0 b.0) rest) (x, us) s.2 in
        let comma = bind_ok (expect symbol.Comma a.0.1) (λ second. inner.sum second >>= λ b. expect symbol.RightParen b.1 >>= λ rest. made most n (Binary o a.0.0 b.0) rest) (x, us) a.2 in
        let b = bind_ok (inner.sum comma.0) (λ b. expect symbol.RightParen b.1 >>= λ rest. made most n (Binary o a.0.0 b.0) rest) (x, us) comma.2 in
        let close = bind_ok (expect symbol.RightParen b.0.1) (λ rest. made most n (Binary o a.0.0 b.0.0) rest) (x, us) b.2 in
        let f = made_ok n (Binary o a.0.0 b.0.0) x close.0 us close.2 in
        let p = part_of inner n s.0 a.0.1 (sign symbol.Comma ∷ comma.0) a.0.0 inside a.1 (expect_is symbol.Comma a.0.1 comma.0 comma.1) in
        let q = part_of inner n comma.0 b.0.1 (sign symbol.RightParen ∷ us) b.0.0 inside b.1 (expect_is symbol.RightParen b.0.1 close.0 close.1 ∙ ap (λ (r : List Token). sign symbol.RightParen ∷ r) f.1) in
        let spelled : s.0 ≡ sums_then p.rules (sign symbol.Comma ∷ sums_then q.rules (sign symbol.RightParen ∷ us)) = p.spelled ∙ ap (λ (r : List Token). sums_then p.rules (sign symbol.Comma ∷ r)) q.spelled in
        record {
          rules = unsigned (extreme c p.rules q.rules);
          spelled = ap (λ (r : List Token). extreme_word c ∷ r) (expect_is symbol.LeftParen ts s.0 s.1 ∙ ap (λ (r : List Token). sign symbol.LeftParen ∷ r) spelled);
          is = ap (λ (y : Term). Binary o y (sums_term q.rules)) p.is ∙ ap (Binary o a.0.0) q.is ∙ f.0;
          fits = f.2;
        }

    clamp_sound : (ts us : List Token) (x : Term) → clamp_at most n inner ts ≡ Ok (x, us) → FoundSigned most (suc n) (token.Word word.Clamp ∷ ts) us x
    unfolding clamp_at
    clamp_sound ts us x h =
        let s = bind_ok (expect symbol.LeftParen ts) (λ start. inner.sum start >>= λ a. expect symbol.Comma a.1 >>= λ second. inner.sum second >>= λ l. expect symbol.Comma l.1 >>= λ third. inner.sum third >>= λ g. expect symbol.RightParen g.1 >>= λ rest. made most n (Clamp a.0 l.0 g.0) rest) (x, us) h in
        let a = bind_ok (inner.sum s.0) (λ a. expect symbol.Comma a.1 >>= λ second. inner.sum second >>= λ l. expect symbol.Comma l.1 >>= λ third. inner.sum third >>= λ g. expect symbol.RightParen g.1 >>= λ rest. made most n (Clamp a.0 l.0 g.0) rest) (x, us) s.2 in
        let c1 = bind_ok (expect symbol.Comma a.0.1) (λ second. inner.sum second >>= λ l. expect symbol.Comma l.1 >>= λ third. inner.sum third >>= λ g. expect symbol.RightParen g.1 >>= λ rest. made most n (Clamp a.0.0 l.0 g.0) rest) (x, us) a.2 in
        let l = bind_ok (inner.sum c1.0) (λ l. expect symbol.Comma l.1 >>= λ third. inner.sum third >>= λ g. expect symbol.RightParen g.1 >>= λ rest. made most n (Clamp a.0.0 l.0 g.0) rest) (x, us) c1.2 in
        let c2 = bind_ok (expect symbol.Comma l.0.1) (λ third. inner.sum third >>= λ g. expect symbol.RightParen g.1 >>= λ rest. made most n (Clamp a.0.0 l.0.0 g.0) rest) (x, us) l.2 in
        let g = bind_ok (inner.sum c2.0) (λ g. expect symbol.RightParen g.1 >>= λ rest. made most n (Clamp a.0.0 l.0.0 g.0) rest) (x, us) c2.2 in
        let close = bind_ok (expect symbol.RightParen g.0.1) (λ rest. made most n (Clamp a.0.0 l.0.0 g.0.0) rest) (x, us) g.2 in
        let f = made_ok n (Clamp a.0.0 l.0.0 g.0.0) x close.0 us close.2 in
        let p = part_of inner n s.0 a.0.1 (sign symbol.Comma ∷ c1.0) a.0.0 inside a.1 (expect_is symbol.Comma a.0.1 c1.0 c1.1) in
        let q = part_of inner n c1.0 l.0.1 (sign symbol.Comma ∷ c2.0) l.0.0 inside l.1 (expect_is symbol.Comma l.0.1 c2.0 c2.1) in
        let r = part_of inner n c2.0 g.0.1 (sign symbol.RightParen ∷ us) g.0.0 inside g.1 (expect_is symbol.RightParen g.0.1 close.0 close.1 ∙ ap (λ (v : List Token). sign symbol.RightParen ∷ v) f.1) in
        let third : c1.0 ≡ sums_then q.rules (sign symbol.Comma ∷ sums_then r.rules (sign symbol.RightParen ∷ us)) = q.spelled ∙ ap (λ (v : List Token). sums_then q.rules (sign symbol.Comma ∷ v)) r.spelled in
        let spelled = p.spelled ∙ ap (λ (v : List Token). sums_then p.rules (sign symbol.Comma ∷ v)) third in
        record {
          rules = unsigned (clamp p.rules q.rules r.rules);
          spelled = ap (λ (v : List Token). token.Word word.Clamp ∷ v) (expect_is symbol.LeftParen ts s.0 s.1 ∙ ap (λ (v : List Token). sign symbol.LeftParen ∷ v) spelled);
          is = ap (λ (y : Term). Clamp y (sums_term q.rules) (sums_term r.rules)) p.is ∙ ap (λ (y : Term). Clamp a.0.0 y (sums_term r.rules)) q.is ∙ ap (Clamp a.0.0 l.0.0) r.is ∙ f.0;
          fits = f.2;
        }

    select_sound : (ts us : List Token) (x : Term) → select_at most n inner ts ≡ Ok (x, us) → FoundSigned most (suc n) (token.Word word.Select ∷ ts) us x
    unfolding select_at
    select_sound ts us x h =
        let s = bind_ok (expect symbol.LeftParen ts) (λ start. inner.condition start >>= λ a. expect symbol.Comma a.1 >>= λ second. inner.sum second >>= λ l. expect symbol.Comma l.1 >>= λ third. inner.sum third >>= λ g. expect symbol.RightParen g.1 >>= λ rest. made most n (Choice a.0 l.0 g.0) rest) (x, us) h in
        let a = bind_ok (inner.condition s.0) (λ a. expect symbol.Comma a.1 >>= λ second. inner.sum second >>= λ l. expect symbol.Comma l.1 >>= λ third. inner.sum third >>= λ g. expect symbol.RightParen g.1 >>= λ rest. made most n (Choice a.0 l.0 g.0) rest) (x, us) s.2 in
        let c1 = bind_ok (expect symbol.Comma a.0.1) (λ second. inner.sum second >>= λ l. expect symbol.Comma l.1 >>= λ third. inner.sum third >>= λ g. expect symbol.RightParen g.1 >>= λ rest. made most n (Choice a.0.0 l.0 g.0) rest) (x, us) a.2 in
        let l = bind_ok (inner.sum c1.0) (λ l. expect symbol.Comma l.1 >>= λ third. inner.sum third >>= λ g. expect symbol.RightParen g.1 >>= λ rest. made most n (Choice a.0.0 l.0 g.0) rest) (x, us) c1.2 in
        let c2 = bind_ok (expect symbol.Comma l.0.1) (λ third. inner.sum third >>= λ g. expect symbol.RightParen g.1 >>= λ rest. made most n (Choice a.0.0 l.0.0 g.0) rest) (x, us) l.2 in
        let g = bind_ok (inner.sum c2.0) (λ g. expect symbol.RightParen g.1 >>= λ rest. made most n (Choice a.0.0 l.0.0 g.0) rest) (x, us) c2.2 in
        let close = bind_ok (expect symbol.RightParen g.0.1) (λ rest. made most n (Choice a.0.0 l.0.0 g.0.0) rest) (x, us) g.2 in
        let f = made_ok n (Choice a.0.0 l.0.0 g.0.0) x close.0 us close.2 in
        let p = test_of inner n s.0 a.0.1 (sign symbol.Comma ∷ c1.0) a.0.0 inside a.1 (expect_is symbol.Comma a.0.1 c1.0 c1.1) in
        let q = part_of inner n c1.0 l.0.1 (sign symbol.Comma ∷ c2.0) l.0.0 inside l.1 (expect_is symbol.Comma l.0.1 c2.0 c2.1) in
        let r = part_of inner n c2.0 g.0.1 (sign symbol.RightParen ∷ us) g.0.0 inside g.1 (expect_is symbol.RightParen g.0.1 close.0 close.1 ∙ ap (λ (v : List Token). sign symbol.RightParen ∷ v) f.1) in
        let third : c1.0 ≡ sums_then q.rules (sign symbol.Comma ∷ sums_then r.rules (sign symbol.RightParen ∷ us)) = q.spelled ∙ ap (λ (v : List Token). sums_then q.rules (sign symbol.Comma ∷ v)) r.spelled in
        let spelled = p.spelled ∙ ap (λ (v : List Token). condition_then p.rules (sign symbol.Comma ∷ v)) third in
        record {
          rules = unsigned (select p.rules q.rules r.rules);
          spelled = ap (λ (v : List Token). token.Word word.Select ∷ v) (expect_is symbol.LeftParen ts s.0 s.1 ∙ ap (λ (v : List Token). sign symbol.LeftParen ∷ v) spelled);
          is = ap (λ (c : Test). Choice c (sums_term q.rules) (sums_term r.rules)) p.is ∙ ap (λ (y : Term). Choice a.0.0 y (sums_term r.rules)) q.is ∙ ap (Choice a.0.0 l.0.0) r.is ∙ f.0;
          fits = f.2;
        }

    -- ---- calls

    abbrev more_list : More → List Term
    more_list no_more = []
    more_list (next a more) = sums_term a ∷ more_list more

    terms_list : (more : More) → index_terms (more_list more) ≡ more_terms more
    terms_list no_more = refl
    terms_list (next a more) = ap (MoreTerms (sums_term a)) (terms_list more)

    -- the indices after those that were found, with the tokens from their first on
    record FoundIndices (ts us : List Token) (found xs : List Term) : Type 0 where
      first : Sums
      more : More
      spelled : ts ≡ sums_then first (more_then more us)
      is : found ++ sums_term first ∷ more_list more ≡ xs

    -- one index, with more to come
    record MoreIndices (k : ℕ) (ts us : List Token) (found xs : List Term) : Type 0 where
      rules : Sums
      rest : List Token
      spelled : ts ≡ sums_then rules (sign symbol.Comma ∷ rest)
      goes_on : indices inner.sum k (found ++ sums_term rules ∷ []) rest ≡ Ok (xs, us)

    index_sound : (k : ℕ) (found xs : List Term) (ts vs us : List Token) (x : Term) (o : Option (List Token)) → after symbol.Comma vs ≡ o → inner.sum ts ≡ Ok (x, vs)
        → indices_step (indices inner.sum k) (found ++ x ∷ []) vs o ≡ Ok (xs, us) → FoundIndices ts us found xs ⊎ MoreIndices k ts us found xs
    index_sound k found xs ts vs us x None at read h =
        let c = bind_ok (expect symbol.RightBracket vs) (λ rest. Ok (found ++ x ∷ [], rest)) (xs, us) h in
        let same = answer_is (found ++ x ∷ []) xs c.0 us c.2 in
        let p = part_of inner n ts vs (sign symbol.RightBracket ∷ us) x inside read (expect_is symbol.RightBracket vs c.0 c.1 ∙ ap (λ (q : List Token). sign symbol.RightBracket ∷ q) same.1) in
        inl (record { first = p.rules; more = no_more; spelled = p.spelled; is = ap (λ (y : Term). found ++ y ∷ []) p.is ∙ same.0 })
    index_sound k found xs ts vs us x (Some rest) at read h =
        let p = part_of inner n ts vs (sign symbol.Comma ∷ rest) x inside read (after_is symbol.Comma vs rest at) in
        inr (record { rules = p.rules; rest = rest; spelled = p.spelled; goes_on = subst (λ (y : Term). indices inner.sum k (found ++ y ∷ []) rest ≡ Ok (xs, us)) (sym p.is) h })

    one_more : (k : ℕ) (ts us : List Token) (found xs : List Term) (t : MoreIndices k ts us found xs) → FoundIndices t.rest us (found ++ sums_term t.rules ∷ []) xs → FoundIndices ts us found xs
    one_more k ts us found xs t m = record {
      first = t.rules;
      more = next m.first m.more;
      spelled = t.spelled ∙ ap (λ (v : List Token). sums_then t.rules (sign symbol.Comma ∷ v)) m.spelled;
      is = sym (append_assoc found (sums_term t.rules ∷ []) (sums_term m.first ∷ more_list m.more)) ∙ m.is;
    }

    indices_sound : (k : ℕ) (found xs : List Term) (ts us : List Token) → indices inner.sum k found ts ≡ Ok (xs, us) → FoundIndices ts us found xs
    unfolding indices
    indices_sound zero found xs ts us h = absurd cc
    indices_sound (suc k) found xs ts us h =
        let r = bind_ok (inner.sum ts) (λ r. indices_step (indices inner.sum k) (found ++ r.0 ∷ []) r.1 (after symbol.Comma r.1)) (xs, us) h in
        elim (index_sound k found xs ts r.0.1 us r.0.0 (after symbol.Comma r.0.1) refl r.1 r.2) [
          | inl done ↦ done
          | inr t ↦ one_more k ts us found xs t (indices_sound k (found ++ sums_term t.rules ∷ []) xs t.rest us t.goes_on)
        ]

    named_at : (f : List ℕ) (ts us : List Token) (x : Term) (o : Option (List Token)) → after symbol.LeftBracket ts ≡ o → named_step most n inner f ts o ≡ Ok (x, us) → FoundSigned most (suc n) (token.Name f ∷ ts) us x
    named_at f ts us x None at h =
        let t = made_ok n (Name f) x ts us h in
        record { rules = unsigned (variable f); spelled = ap (λ (v : List Token). token.Name f ∷ v) t.1; is = t.0; fits = t.2 }
    named_at f ts us x (Some rest) at h =
        let r = bind_ok (indices inner.sum most [] rest) (λ r. made most n (Call f (index_terms r.0)) r.1) (x, us) h in
        let i = indices_sound most [] r.0.0 rest r.0.1 r.1 in
        let t = made_ok n (Call f (index_terms r.0.0)) x r.0.1 us r.2 in
        let spelled : rest ≡ sums_then i.first (more_then i.more us) = i.spelled ∙ ap (λ (v : List Token). sums_then i.first (more_then i.more v)) t.1 in
        record {
          rules = unsigned (call f i.first i.more);
          spelled = ap (λ (v : List Token). token.Name f ∷ v) (after_is symbol.LeftBracket ts rest at ∙ ap (λ (v : List Token). sign symbol.LeftBracket ∷ v) spelled);
          is = sym (ap (λ (ys : Terms). Call f (MoreTerms (sums_term i.first) ys)) (terms_list i.more)) ∙ ap (λ (ys : List Term). Call f (index_terms ys)) i.is ∙ t.0;
          fits = t.2;
        }

    named_sound : (f : List ℕ) (ts us : List Token) (x : Term) → named most n inner f ts ≡ Ok (x, us) → FoundSigned most (suc n) (token.Name f ∷ ts) us x
    unfolding named
    named_sound f ts us x h = named_at f ts us x (after symbol.LeftBracket ts) refl h

    bare_sound : (ts us : List Token) (x : Term) → bare most n inner ts ≡ Ok (x, us) → FoundSigned most (suc n) ts us x
    bare_sound (token.Symbol symbol.Minus ∷ ts) us x h = negation_sound ts us x h
    bare_sound (token.Number v ∷ ts) us x h =
        let t = made_ok n (literal v) x ts us h in
        record { rules = unsigned (number v); spelled = ap (λ (r : List Token). token.Number v ∷ r) t.1; is = t.0; fits = t.2 }
    bare_sound (token.Name f ∷ ts) us x h = named_sound f ts us x h
    bare_sound (token.Type t ∷ ts) us x h = cast_sound t ts us x h
    bare_sound (token.Word word.Min ∷ ts) us x h = pair_sound least ts us x h
    bare_sound (token.Word word.Max ∷ ts) us x h = pair_sound greatest ts us x h
    bare_sound (token.Word word.Clamp ∷ ts) us x h = clamp_sound ts us x h
    bare_sound (token.Word word.Select ∷ ts) us x h = select_sound ts us x h
    bare_sound _ us x h = absurd cc

    -- ---- brackets, and the whole

    closed_sound : (ts vs us : List Token) (a x : Term) → FoundSigned most (suc n) ts vs a → closed most n inner a vs ≡ Ok (x, us) → FoundSigned most (suc n) (sign symbol.LeftParen ∷ ts) us x
    unfolding closed
    closed_sound ts vs us a x first h =
        let p = bind_ok (chained most n inner level.Product a vs) (λ p. chained most n inner level.Sum p.0 p.1 >>= λ s. expect symbol.RightParen s.1 >>= λ rest. Ok (s.0, rest)) (x, us) h in
        let s = bind_ok (chained most n inner level.Sum p.0.0 p.0.1) (λ s. expect symbol.RightParen s.1 >>= λ rest. Ok (s.0, rest)) (x, us) p.2 in
        let c = bind_ok (expect symbol.RightParen s.0.1) (λ rest. Ok (s.0.0, rest)) (x, us) s.2 in
        let same = answer_is s.0.0 x c.0 us c.2 in
        let inner_products = products_found inner n ts vs p.0.1 a p.0.0 inside.unary_in first p.1 in
        let whole = sums_found inner n ts p.0.1 s.0.1 p.0.0 s.0.0 inside.product_in inner_products s.1 in
        let close : s.0.1 ≡ sign symbol.RightParen ∷ us = expect_is symbol.RightParen s.0.1 c.0 c.1 ∙ ap (λ (v : List Token). sign symbol.RightParen ∷ v) same.1 in
        record {
          rules = unsigned (group whole.rules);
          spelled = ap (λ (v : List Token). sign symbol.LeftParen ∷ v) (whole.spelled ∙ ap (sums_then whole.rules) close);
          is = whole.is ∙ same.0;
          fits = subst (Fits most (suc n)) same.0 whole.fits;
        }

    unary_sound : (ts us : List Token) (x : Term) → unary most n inner ts ≡ Ok (x, us) → FoundSigned most (suc n) ts us x
    unfolding unary
    unary_sound (token.Symbol symbol.LeftParen ∷ ts) us x h =
        let a = bind_ok (unary most n inner ts) (λ a. closed most n inner a.0 a.1) (x, us) h in
        closed_sound ts a.0.1 us a.0.0 x (unary_sound ts a.0.1 a.0.0 a.1) a.2
    unary_sound ts us x h = bare_sound ts us x h

    product_sound : (ts us : List Token) (x : Term) → product most n inner ts ≡ Ok (x, us) → FoundProducts most (suc n) ts us x
    unfolding product
    product_sound ts us x h =
        let a = bind_ok (unary most n inner ts) (λ a. chained most n inner level.Product a.0 a.1) (x, us) h in
        products_found inner n ts a.0.1 us a.0.0 x inside.unary_in (unary_sound ts a.0.1 a.0.0 a.1) a.2

    sum_sound : (ts us : List Token) (x : Term) → sum most n inner ts ≡ Ok (x, us) → FoundSums most (suc n) ts us x
    unfolding sum
    sum_sound ts us x h =
        let a = bind_ok (product most n inner ts) (λ a. chained most n inner level.Sum a.0 a.1) (x, us) h in
        sums_found inner n ts a.0.1 us a.0.0 x inside.product_in (product_sound ts a.0.1 a.0.0 a.1) a.2

    -- ---- conditions

    compared_sound : (ts us : List Token) (c : Test) → compared most n inner ts ≡ Ok (c, us) → FoundCondition ts us c
    unfolding compared
    compared_sound ts us c h =
        let a = bind_ok (inner.sum ts) (λ a. comparison_at a.1 >>= λ s. inner.sum s.1 >>= λ b. cond_made most n (Compares s.0 a.0 b.0) b.1) (c, us) h in
        let s = bind_ok (comparison_at a.0.1) (λ s. inner.sum s.1 >>= λ b. cond_made most n (Compares s.0 a.0.0 b.0) b.1) (c, us) a.2 in
        let b = bind_ok (inner.sum s.0.1) (λ b. cond_made most n (Compares s.0.0 a.0.0 b.0) b.1) (c, us) s.2 in
        let f = cond_made_ok n (Compares s.0.0 a.0.0 b.0.0) c b.0.1 us b.2 in
        let p = part_of inner n ts a.0.1 (sign (comparison_symbol s.0.0) ∷ s.0.1) a.0.0 inside a.1 (comparison_is s.0.0 a.0.1 s.0.1 s.1) in
        let q = part_of inner n s.0.1 b.0.1 us b.0.0 inside b.1 f.1 in
        record {
          rules = compare p.rules s.0.0 q.rules;
          spelled = p.spelled ∙ ap (λ (v : List Token). sums_then p.rules (sign (comparison_symbol s.0.0) ∷ v)) q.spelled;
          is = ap (λ (y : Term). Compares s.0.0 y (sums_term q.rules)) p.is ∙ ap (Compares s.0.0 a.0.0) q.is ∙ f.0;
        }

    denied_sound : (ts us : List Token) (c : Test) → denied most n inner ts ≡ Ok (c, us) → FoundCondition (token.Word word.Not ∷ ts) us c
    unfolding denied
    denied_sound ts us c h =
        let s = bind_ok (expect symbol.LeftParen ts) (λ start. inner.condition start >>= λ a. expect symbol.RightParen a.1 >>= λ rest. cond_made most n (Fails a.0) rest) (c, us) h in
        let a = bind_ok (inner.condition s.0) (λ a. expect symbol.RightParen a.1 >>= λ rest. cond_made most n (Fails a.0) rest) (c, us) s.2 in
        let close = bind_ok (expect symbol.RightParen a.0.1) (λ rest. cond_made most n (Fails a.0.0) rest) (c, us) a.2 in
        let f = cond_made_ok n (Fails a.0.0) c close.0 us close.2 in
        let p = test_of inner n s.0 a.0.1 (sign symbol.RightParen ∷ us) a.0.0 inside a.1 (expect_is symbol.RightParen a.0.1 close.0 close.1 ∙ ap (λ (v : List Token). sign symbol.RightParen ∷ v) f.1) in
        record {
          rules = deny p.rules;
          spelled = ap (λ (v : List Token). token.Word word.Not ∷ v) (expect_is symbol.LeftParen ts s.0 s.1 ∙ ap (λ (v : List Token). sign symbol.LeftParen ∷ v) p.spelled);
          is = ap Fails p.is ∙ f.0;
        }

    -- two conditions between brackets
    record TwoTests (j : Joint) (ts us : List Token) (c : Test) : Type 0 where
      first : Condition
      second : Condition
      spelled : ts ≡ sign symbol.LeftParen ∷ condition_then first (sign symbol.Comma ∷ condition_then second (sign symbol.RightParen ∷ us))
      is : joint_test j (condition_test first) (condition_test second) ≡ c

    combined_sound : (j : Joint) (ts us : List Token) (c : Test) → combined most n inner j ts ≡ Ok (c, us) → TwoTests j ts us c
    unfolding combined
    combined_sound j ts us c h =
        let s = bind_ok (expect symbol.LeftParen ts) (λ start. inner.condition start >>= λ a. expect symbol.Comma a.1 >>= λ second. inner.condition second >>= λ b. expect symbol.RightParen b.1 >>= λ rest. cond_made most n (joint_test j a.0 b.0) rest) (c, us) h in
        let a = bind_ok (inner.condition s.0) (λ a. expect symbol.Comma a.1 >>= λ second. inner.condition second >>= λ b. expect symbol.RightParen b.1 >>= λ rest. cond_made most n (joint_test j a.0 b.0) rest) (c, us) s.2 in
        let comma = bind_ok (expect symbol.Comma a.0.1) (λ second. inner.condition second >>= λ b. expect symbol.RightParen b.1 >>= λ rest. cond_made most n (joint_test j a.0.0 b.0) rest) (c, us) a.2 in
        let b = bind_ok (inner.condition comma.0) (λ b. expect symbol.RightParen b.1 >>= λ rest. cond_made most n (joint_test j a.0.0 b.0) rest) (c, us) comma.2 in
        let close = bind_ok (expect symbol.RightParen b.0.1) (λ rest. cond_made most n (joint_test j a.0.0 b.0.0) rest) (c, us) b.2 in
        let f = cond_made_ok n (joint_test j a.0.0 b.0.0) c close.0 us close.2 in
        let p = test_of inner n s.0 a.0.1 (sign symbol.Comma ∷ comma.0) a.0.0 inside a.1 (expect_is symbol.Comma a.0.1 comma.0 comma.1) in
        let q = test_of inner n comma.0 b.0.1 (sign symbol.RightParen ∷ us) b.0.0 inside b.1 (expect_is symbol.RightParen b.0.1 close.0 close.1 ∙ ap (λ (r : List Token). sign symbol.RightParen ∷ r) f.1) in
        let spelled : s.0 ≡ condition_then p.rules (sign symbol.Comma ∷ condition_then q.rules (sign symbol.RightParen ∷ us)) = p.spelled ∙ ap (λ (r : List Token). condition_then p.rules (sign symbol.Comma ∷ r)) q.spelled in
        record {
          first = p.rules;
          second = q.rules;
          spelled = expect_is symbol.LeftParen ts s.0 s.1 ∙ ap (λ (r : List Token). sign symbol.LeftParen ∷ r) spelled;
          is = ap (λ (y : Test). joint_test j y (condition_test q.rules)) p.is ∙ ap (joint_test j a.0.0) q.is ∙ f.0;
        }

    condition_sound : (ts us : List Token) (c : Test) → condition most n inner ts ≡ Ok (c, us) → FoundCondition ts us c
    condition_sound (token.Word word.Not ∷ ts) us c h = denied_sound ts us c h
    condition_sound (token.Word word.All ∷ ts) us c h =
        let t = combined_sound joint.All ts us c h in
        record { rules = all t.first t.second; spelled = ap (λ (v : List Token). token.Word word.All ∷ v) t.spelled; is = t.is }
    condition_sound (token.Word word.Any ∷ ts) us c h =
        let t = combined_sound joint.Any ts us c h in
        record { rules = any t.first t.second; spelled = ap (λ (v : List Token). token.Word word.Any ∷ v) t.spelled; is = t.is }
    condition_sound ts us c h = compared_sound ts us c h

  within_sound : (n : ℕ) → Inside (within most n) n
  unfolding within
  within_sound zero = record { sum_in = λ ts us x h. absurd cc; product_in = λ ts us x h. absurd cc; unary_in = λ ts us x h. absurd cc; condition_in = λ ts us c h. absurd cc }
  within_sound (suc n) =
      let inside = within_sound n in
      record { sum_in = sum_sound (within most n) n inside; product_in = product_sound (within most n) n inside; unary_in = unary_sound (within most n) n inside; condition_in = condition_sound (within most n) n inside }

  pub sums_sound : (n : ℕ) (ts us : List Token) (x : Term) → (within most n).sum ts ≡ Ok (x, us) → FoundSums most n ts us x
  sums_sound n ts us x h = (within_sound n).sum_in ts us x h

pub expression_sound : (ts us : List Token) (x : Term) → expression ts ≡ Ok (x, us) → StandsFor ts us x × Fits 512 64 x
expression_sound ts us x h =
    let f = sums_sound 512 64 ts us x h in
    (record { rules = f.rules; spelled = f.spelled; is = f.is }, f.fits)
