-- What the grammar allows is read, unless it is too large.
use Rattle.std.proofs.Common.{◌≡◌, ℕ, zero, suc, ◌+◌, ◌-◌, ◌≤◌, ◌<◌, List, [], ◌∷◌, ◌++◌, Some, None, Result, Ok, Err, refl, sym, ap, subst, ◌∙◌, ◌⊎◌, inl, inr, append_assoc, arith}
use Rattle.numeric.specs.declared.ty.Ty.{Ty}
use Rattle.numeric.specs.declared.op.Op.{Op}
use Rattle.numeric.specs.declared.op.Comparison.{Comparison}
use Rattle.numeric.specs.declared.op.Comparison.TheVariants as by
use Rattle.tree.specs.declared.token.token.Symbol.TheVariants as symbol
use Rattle.tree.specs.declared.token.token.Word.TheVariants as word
use Rattle.tree.specs.declared.token.token.Literal.{Literal}
use Rattle.tree.specs.declared.token.token.Token.{Token}
use Rattle.tree.specs.declared.token.token.Token.TheVariants as token
use Rattle.tree.specs.Token.Cursor.{after}
use Rattle.tree.specs.Term.{Term, Name, Call, Minus, Binary, Clamp, Cast, Choice, More as MoreTerms, Test, Compares, Fails, indices as index_terms}
use Rattle.tree.specs.Tree.{node_count, depth}
use Rattle.expr.specs.declared.measured.Joint.{Joint}
use Rattle.expr.specs.declared.measured.Joint.TheVariants as joint
use Rattle.expr.specs.declared.parser.Level.{Level}
use Rattle.expr.specs.declared.parser.Level.TheVariants as level
use Rattle.expr.specs.declared.error.Refusal.{Refusal}
use Rattle.expr.specs.declared.error.Refusal.TheVariants.{TooLarge}
use Rattle.expr.specs.Parsing.{◌>>=◌, Parse, literal, made, cond_made, expect, operator_at, comparison_at, joint_test, joined, chained, cast as cast_at, pair, clamp as clamp_at, select as select_at, indices, indices_step, named, negation, closed, unary, product, sum, compared, denied, combined, condition, within, expression}
use Rattle.expr.specs.Grammar.{AddSign, plus, minus, MulSign, times, over, modulo, Extreme, least, greatest, Sums, term, add, Products, factor, multiply, Signed, unsigned, negated, Primary, number, variable, call, group, cast, extreme, clamp, select, More, no_more, next, Condition, compare, deny, all, any, sign, add_symbol, mul_symbol, comparison_symbol, extreme_word, sums_then, products_then, signed_then, primary_then, more_then, condition_then, add_op, mul_op, extreme_op, sums_term, products_term, signed_term, primary_term, more_terms, condition_test, Fits, CondFits, Ends}
use Rattle.expr.proofs.Limits.{answer_is, deep, cond_deep, take, cond_take, fitting, too_large, cond_too_large, part_made, cond_part_made, made_is, cond_made_is, ListFits, call_fits}

-- ---- what may follow

abbrev NoBracket : List Token → Type 0
NoBracket rest = after symbol.LeftBracket rest ≡ None

abbrev NoProduct : List Token → Type 0
NoProduct rest = operator_at level.Product rest ≡ None

more_ends : (more : More) (rest : List Token) → Ends (more_then more rest)
more_ends no_more rest = record { no_bracket = refl; no_product = refl; no_sum = refl }
more_ends (next a more) rest = record { no_bracket = refl; no_product = refl; no_sum = refl }

closes : (rest : List Token) → Ends (sign symbol.RightParen ∷ rest)
closes rest = record { no_bracket = refl; no_product = refl; no_sum = refl }

goes_on : (rest : List Token) → Ends (sign symbol.Comma ∷ rest)
goes_on rest = record { no_bracket = refl; no_product = refl; no_sum = refl }

compares : (o : Comparison) (rest : List Token) → Ends (sign (comparison_symbol o) ∷ rest)
compares by.Less rest = record { no_bracket = refl; no_product = refl; no_sum = refl }
compares by.AtMost rest = record { no_bracket = refl; no_product = refl; no_sum = refl }
compares by.Greater rest = record { no_bracket = refl; no_product = refl; no_sum = refl }
compares by.AtLeast rest = record { no_bracket = refl; no_product = refl; no_sum = refl }
compares by.Equal rest = record { no_bracket = refl; no_product = refl; no_sum = refl }
compares by.Different rest = record { no_bracket = refl; no_product = refl; no_sum = refl }

abbrev compared_by : Comparison → List Token → Result (Comparison × List Token) Refusal
compared_by o rest = Ok (o, rest)

comparison_is : (o : Comparison) (rest : List Token) → comparison_at (sign (comparison_symbol o) ∷ rest) ≡ compared_by o rest
comparison_is by.Less rest = refl
comparison_is by.AtMost rest = refl
comparison_is by.Greater rest = refl
comparison_is by.AtLeast rest = refl
comparison_is by.Equal rest = refl
comparison_is by.Different rest = refl

add_no_bracket : (o : AddSign) (rest : List Token) → NoBracket (sign (add_symbol o) ∷ rest)
add_no_bracket plus rest = refl
add_no_bracket minus rest = refl

add_no_product : (o : AddSign) (rest : List Token) → NoProduct (sign (add_symbol o) ∷ rest)
add_no_product plus rest = refl
add_no_product minus rest = refl

add_at : (o : AddSign) (rest : List Token) → operator_at level.Sum (sign (add_symbol o) ∷ rest) ≡ Some (add_op o, rest)
add_at plus rest = refl
add_at minus rest = refl

mul_no_bracket : (o : MulSign) (rest : List Token) → NoBracket (sign (mul_symbol o) ∷ rest)
mul_no_bracket times rest = refl
mul_no_bracket over rest = refl
mul_no_bracket modulo rest = refl

mul_at : (o : MulSign) (rest : List Token) → operator_at level.Product (sign (mul_symbol o) ∷ rest) ≡ Some (mul_op o, rest)
mul_at times rest = refl
mul_at over rest = refl
mul_at modulo rest = refl

-- ---- steps

bind_assoc : {A B C : Type 0} (r : Result A Refusal) (f : A → Result B Refusal) (g : B → Result C Refusal) → ((r >>= f) >>= g) ≡ (r >>= λ x. f x >>= g)
bind_assoc (Ok x) f g = refl
bind_assoc (Err e) f g = refl

module _ (most : ℕ) where
  abbrev Read : Type 0
  Read = Result (Term × List Token) Refusal

  -- a part one level deeper, if it is read with the levels that are left
  sum_inside : (n : ℕ) (t : Term) (ts us : List Token) → ((m : ℕ) → sum most m (within most m) ts ≡ part_made most (suc m) t us) → (within most n).sum ts ≡ part_made most n t us
  unfolding within
  sum_inside zero t ts us h = too_large most 0 t us (λ f. omega (arith, f.shallow, deep t))
  sum_inside (suc m) t ts us h = h m

  product_inside : (n : ℕ) (t : Term) (ts us : List Token) → ((m : ℕ) → product most m (within most m) ts ≡ part_made most (suc m) t us) → (within most n).product ts ≡ part_made most n t us
  unfolding within
  product_inside zero t ts us h = too_large most 0 t us (λ f. omega (arith, f.shallow, deep t))
  product_inside (suc m) t ts us h = h m

  unary_inside : (n : ℕ) (t : Term) (ts us : List Token) → ((m : ℕ) → unary most m (within most m) ts ≡ part_made most (suc m) t us) → (within most n).unary ts ≡ part_made most n t us
  unfolding within
  unary_inside zero t ts us h = too_large most 0 t us (λ f. omega (arith, f.shallow, deep t))
  unary_inside (suc m) t ts us h = h m

  condition_inside : (n : ℕ) (c : Test) (ts us : List Token) → ((m : ℕ) → condition most m (within most m) ts ≡ cond_part_made most (suc m) c us) → (within most n).condition ts ≡ cond_part_made most n c us
  unfolding within
  condition_inside zero c ts us h = cond_too_large most 0 c us (λ f. omega (arith, f.shallow, cond_deep c))
  condition_inside (suc m) c ts us h = h m

  -- a whole term with at most so many levels below its top
  abbrev whole : ℕ → Term → List Token → Read
  whole n = part_made most (suc n)

  -- ---- one level of operators

  abbrev go_on : ℕ → Level → Parse Term → ℕ → Term × List Token → Read
  go_on n l operand k r = joined most n l operand k r.0 r.1

  joined_ends : (n : ℕ) (l : Level) (operand : Parse Term) (k : ℕ) (left : Term) (rest : List Token) → operator_at l rest ≡ None → joined most n l operand k left rest ≡ Ok (left, rest)
  unfolding joined
  joined_ends n l operand zero left rest none = rw none refl
  joined_ends n l operand (suc k) left rest none = rw none refl

  joined_full : (n : ℕ) (l : Level) (operand : Parse Term) (left : Term) (o : Op) (ts us : List Token) → operator_at l ts ≡ Some (o, us) → joined most n l operand 0 left ts ≡ Err TooLarge
  unfolding joined
  joined_full n l operand left o ts us some = rw some refl

  joined_more : (n : ℕ) (l : Level) (operand : Parse Term) (k : ℕ) (left : Term) (o : Op) (ts us : List Token) → operator_at l ts ≡ Some (o, us)
      → joined most n l operand (suc k) left ts ≡ (operand us >>= λ r. made most n (Binary o left r.0) r.1 >>= go_on n l operand k)
  unfolding joined
  joined_more n l operand k left o ts us some = rw some refl

  left_fits : (n : ℕ) (o : Op) (a b : Term) → Fits most (suc n) (Binary o a b) → Fits most (suc n) a
  left_fits n o a b f = record { few = omega (arith, f.few); shallow = omega (arith, f.shallow) }

  left_inside : (n : ℕ) (o : Op) (a b : Term) → Fits most (suc n) (Binary o a b) → Fits most n a
  left_inside n o a b f = record { few = omega (arith, f.few); shallow = omega (arith, f.shallow) }

  right_inside : (n : ℕ) (o : Op) (a b : Term) → Fits most (suc n) (Binary o a b) → Fits most n b
  right_inside n o a b f = record { few = omega (arith, f.few); shallow = omega (arith, f.shallow) }

  above : (a b : ℕ) → (a < b) ⊎ (b ≤ a)
  above a zero = inr (omega arith)
  above zero (suc b) = inl (omega arith)
  above (suc a) (suc b) = elim (above a b) [ inl h ↦ inl (omega (arith, h)) | inr h ↦ inr (omega (arith, h)) ]

  module _ (n : ℕ) (l : Level) (operand : Parse Term) where
    -- nothing of the level follows
    chain_ends : (x : Read) (count : ℕ) (t : Term) (rest : List Token) → x ≡ (whole n t rest >>= go_on n l operand (n - count)) → operator_at l rest ≡ None → x ≡ whole n t rest
    chain_ends x count t rest front none =
        front ∙ take most (suc n) t rest (go_on n l operand (n - count)) (whole n t rest)
        (λ f. joined_ends n l operand (n - count) t rest none ∙ sym (fitting most (suc n) t rest f)) (too_large most (suc n) t rest)

    module _ (count : ℕ) (o : Op) (a b : Term) (ts tail rest : List Token) (some : operator_at l ts ≡ Some (o, tail)) (right : operand tail ≡ part_made most n b rest) where
      abbrev result : Read
      result = whole n (Binary o a b) rest >>= go_on n l operand (n - (1 + count))

      unfit : (Fits most (suc n) (Binary o a b) → ⊥) → Err TooLarge ≡ result
      unfit h = ap (λ (x : Read). x >>= go_on n l operand (n - (1 + count))) (too_large most (suc n) (Binary o a b) rest h)

      abbrev join_right : Term × List Token → Read
      join_right r = made most n (Binary o a r.0) r.1 >>= go_on n l operand (n - (1 + count))

      one_joined : count < n → joined most n l operand (n - count) a ts ≡ result
      one_joined lt =
          let turns : n - count ≡ suc (n - (1 + count)) = omega arith in
          ap (λ k. joined most n l operand k a ts) turns ∙ joined_more n l operand (n - (1 + count)) a o ts tail some ∙ ap (λ (x : Read). x >>= join_right) right
          ∙ take most n b rest join_right result
          (λ f. ap (λ (x : Read). x >>= go_on n l operand (n - (1 + count))) (made_is most n (Binary o a b) rest))
          (λ h. unfit (λ f. h (right_inside n o a b f)))

      none_joined : n ≤ count → count < depth a → joined most n l operand (n - count) a ts ≡ result
      none_joined le lt =
          let turns : n - count ≡ 0 = omega arith in
          ap (λ k. joined most n l operand k a ts) turns ∙ joined_full n l operand a o ts tail some ∙ unfit (λ f. absurd (omega (arith, f.shallow, le, lt)))

      chain_more : (x : Read) → x ≡ (whole n a ts >>= go_on n l operand (n - count)) → count < depth a → x ≡ result
      chain_more x front lt =
          front ∙ take most (suc n) a ts (go_on n l operand (n - count)) result
          (λ f. elim (above count n) [ inl h ↦ one_joined h | inr h ↦ none_joined h lt ])
          (λ h. unfit (λ f. h (left_fits n o a b f)))

  chain_begins : (n : ℕ) (l : Level) (operand : Parse Term) (x : Read) (t : Term) (rest : List Token) → x ≡ whole n t rest → (x >>= go_on n l operand n) ≡ (whole n t rest >>= go_on n l operand (n - 0))
  chain_begins n l operand x t rest h =
      let turns : n ≡ n - 0 = omega arith in
      ap (λ (r : Read). r >>= go_on n l operand n) h ∙ ap (λ k. whole n t rest >>= go_on n l operand k) turns

  sum_begins : (n : ℕ) (ts rest : List Token) (t : Term) → product most n (within most n) ts ≡ whole n t rest → sum most n (within most n) ts ≡ (whole n t rest >>= go_on n level.Sum (within most n).product (n - 0))
  unfolding sum chained
  sum_begins n ts rest t h = chain_begins n level.Sum (within most n).product (product most n (within most n) ts) t rest h

  product_begins : (n : ℕ) (ts rest : List Token) (t : Term) → unary most n (within most n) ts ≡ whole n t rest → product most n (within most n) ts ≡ (whole n t rest >>= go_on n level.Product (within most n).unary (n - 0))
  unfolding product chained
  product_begins n ts rest t h = chain_begins n level.Product (within most n).unary (unary most n (within most n) ts) t rest h

  -- what a chain has read so far counts fewer operators than it has levels
  abbrev products_count : Products → ℕ
  products_count (factor s) = 0
  products_count (multiply p o s) = 1 + products_count p

  abbrev sums_count : Sums → ℕ
  sums_count (term p) = 0
  sums_count (add s o p) = 1 + sums_count s

  products_count_lt : (p : Products) → products_count p < depth (products_term p)
  products_count_lt (factor s) = omega (arith, deep (signed_term s))
  products_count_lt (multiply p o s) = omega (arith, products_count_lt p)

  sums_count_lt : (s : Sums) → sums_count s < depth (sums_term s)
  sums_count_lt (term p) = omega (arith, deep (products_term p))
  sums_count_lt (add s o p) = omega (arith, sums_count_lt s)

  -- ---- each rule, where its parts are read

  abbrev then_close : Term × List Token → Read
  then_close s = expect symbol.RightParen s.1 >>= λ rest. Ok (s.0, rest)

  group_is : (n : ℕ) (ts : List Token) → unary most n (within most n) (sign symbol.LeftParen ∷ ts) ≡ (sum most n (within most n) ts >>= then_close)
  unfolding unary closed sum product
  group_is n ts =
      let u = unary most n (within most n) ts in
      let p : Term × List Token → Read = λ a. chained most n (within most n) level.Product a.0 a.1 in
      let s : Term × List Token → Read = λ a. chained most n (within most n) level.Sum a.0 a.1 in
      sym (bind_assoc (u >>= p) s then_close ∙ bind_assoc u p (λ x. s x >>= then_close))

  group_step : (n : ℕ) (ts rest : List Token) (t : Term) → sum most n (within most n) ts ≡ whole n t (sign symbol.RightParen ∷ rest) → unary most n (within most n) (sign symbol.LeftParen ∷ ts) ≡ whole n t rest
  unfolding expect
  group_step n ts rest t h =
      group_is n ts ∙ ap (λ (x : Read). x >>= then_close) h
      ∙ take most (suc n) t (sign symbol.RightParen ∷ rest) then_close (whole n t rest) (λ f. sym (fitting most (suc n) t rest f)) (too_large most (suc n) t rest)

  negate_step : (n : ℕ) (ts rest : List Token) (t : Term) → (within most n).unary ts ≡ part_made most n t rest → unary most n (within most n) (sign symbol.Minus ∷ ts) ≡ whole n (Minus t) rest
  unfolding unary negation
  negate_step n ts rest t h =
      let f : Term × List Token → Read = λ a. made most n (Minus a.0) a.1 in
      ap (λ (x : Read). x >>= f) h
      ∙ take most n t rest f (whole n (Minus t) rest) (λ _. made_is most n (Minus t) rest)
      (λ unfit. too_large most (suc n) (Minus t) rest (λ g. unfit (record { few = omega (arith, g.few); shallow = omega (arith, g.shallow) })))

  variable_step : (n : ℕ) (x : List ℕ) (rest : List Token) → NoBracket rest → named most n (within most n) x rest ≡ whole n (Name x) rest
  unfolding named
  variable_step n x rest none = rw none (made_is most n (Name x) rest)

  cast_step : (n : ℕ) (ty : Ty) (ts rest : List Token) (t : Term) → (within most n).sum ts ≡ part_made most n t (sign symbol.RightParen ∷ rest) → cast_at most n (within most n) ty (sign symbol.LeftParen ∷ ts) ≡ whole n (Cast ty t) rest
  unfolding cast_at expect
  cast_step n ty ts rest t h =
      let f : Term × List Token → Read = λ a. expect symbol.RightParen a.1 >>= λ us. made most n (Cast ty a.0) us in
      ap (λ (x : Read). x >>= f) h
      ∙ take most n t (sign symbol.RightParen ∷ rest) f (whole n (Cast ty t) rest) (λ _. made_is most n (Cast ty t) rest)
      (λ unfit. too_large most (suc n) (Cast ty t) rest (λ g. unfit (record { few = omega (arith, g.few); shallow = omega (arith, g.shallow) })))

  pair_step : (n : ℕ) (o : Op) (ts us rest : List Token) (a b : Term) → (within most n).sum ts ≡ part_made most n a (sign symbol.Comma ∷ us) → (within most n).sum us ≡ part_made most n b (sign symbol.RightParen ∷ rest)
      → pair most n (within most n) o (sign symbol.LeftParen ∷ ts) ≡ whole n (Binary o a b) rest
  unfolding pair expect
  pair_step n o ts us rest a b first second =
      let t = Binary o a b in
      let g : Term × List Token → Read = λ y. expect symbol.RightParen y.1 >>= λ vs. made most n (Binary o a y.0) vs in
      let f : Term × List Token → Read = λ x. expect symbol.Comma x.1 >>= λ vs. (within most n).sum vs >>= λ y. expect symbol.RightParen y.1 >>= λ ws. made most n (Binary o x.0 y.0) ws in
      ap (λ (x : Read). x >>= f) first
      ∙ take most n a (sign symbol.Comma ∷ us) f (whole n t rest)
      (λ _. ap (λ (x : Read). x >>= g) second
      ∙ take most n b (sign symbol.RightParen ∷ rest) g (whole n t rest) (λ _. made_is most n t rest) (λ unfit. too_large most (suc n) t rest (λ h. unfit (right_inside n o a b h))))
      (λ unfit. too_large most (suc n) t rest (λ h. unfit (left_inside n o a b h)))

  clamp_step : (n : ℕ) (ts us vs rest : List Token) (a l h : Term) → (within most n).sum ts ≡ part_made most n a (sign symbol.Comma ∷ us) → (within most n).sum us ≡ part_made most n l (sign symbol.Comma ∷ vs)
      → (within most n).sum vs ≡ part_made most n h (sign symbol.RightParen ∷ rest) → clamp_at most n (within most n) (sign symbol.LeftParen ∷ ts) ≡ whole n (Clamp a l h) rest
  unfolding clamp_at expect
  clamp_step n ts us vs rest a l h first second third =
      let t = Clamp a l h in
      let f3 : Term × List Token → Read = λ z. expect symbol.RightParen z.1 >>= λ ws. made most n (Clamp a l z.0) ws in
      let f2 : Term × List Token → Read = λ y. expect symbol.Comma y.1 >>= λ ws. (within most n).sum ws >>= λ z. expect symbol.RightParen z.1 >>= λ ws. made most n (Clamp a y.0 z.0) ws in
      let f1 : Term × List Token → Read = λ x. expect symbol.Comma x.1 >>= λ ws. (within most n).sum ws >>= λ y. expect symbol.Comma y.1 >>= λ ws. (within most n).sum ws >>= λ z. expect symbol.RightParen z.1 >>= λ ws. made most n (Clamp x.0 y.0 z.0) ws in
      ap (λ (x : Read). x >>= f1) first
      ∙ take most n a (sign symbol.Comma ∷ us) f1 (whole n t rest)
      (λ _. ap (λ (x : Read). x >>= f2) second
      ∙ take most n l (sign symbol.Comma ∷ vs) f2 (whole n t rest)
      (λ _. ap (λ (x : Read). x >>= f3) third
      ∙ take most n h (sign symbol.RightParen ∷ rest) f3 (whole n t rest) (λ _. made_is most n t rest)
      (λ unfit. too_large most (suc n) t rest (λ g. unfit (record { few = omega (arith, g.few); shallow = omega (arith, g.shallow) }))))
      (λ unfit. too_large most (suc n) t rest (λ g. unfit (record { few = omega (arith, g.few); shallow = omega (arith, g.shallow) }))))
      (λ unfit. too_large most (suc n) t rest (λ g. unfit (record { few = omega (arith, g.few); shallow = omega (arith, g.shallow) })))

  select_step : (n : ℕ) (ts us vs rest : List Token) (c : Test) (a b : Term) → (within most n).condition ts ≡ cond_part_made most n c (sign symbol.Comma ∷ us) → (within most n).sum us ≡ part_made most n a (sign symbol.Comma ∷ vs)
      → (within most n).sum vs ≡ part_made most n b (sign symbol.RightParen ∷ rest) → select_at most n (within most n) (sign symbol.LeftParen ∷ ts) ≡ whole n (Choice c a b) rest
  unfolding select_at expect
  select_step n ts us vs rest c a b first second third =
      let t = Choice c a b in
      let f3 : Term × List Token → Read = λ z. expect symbol.RightParen z.1 >>= λ ws. made most n (Choice c a z.0) ws in
      let f2 : Term × List Token → Read = λ y. expect symbol.Comma y.1 >>= λ ws. (within most n).sum ws >>= λ z. expect symbol.RightParen z.1 >>= λ ws. made most n (Choice c y.0 z.0) ws in
      let f1 : Test × List Token → Read = λ x. expect symbol.Comma x.1 >>= λ ws. (within most n).sum ws >>= λ y. expect symbol.Comma y.1 >>= λ ws. (within most n).sum ws >>= λ z. expect symbol.RightParen z.1 >>= λ ws. made most n (Choice x.0 y.0 z.0) ws in
      ap (λ (x : Result (Test × List Token) Refusal). x >>= f1) first
      ∙ cond_take most n c (sign symbol.Comma ∷ us) f1 (whole n t rest)
      (λ _. ap (λ (x : Read). x >>= f2) second
      ∙ take most n a (sign symbol.Comma ∷ vs) f2 (whole n t rest)
      (λ _. ap (λ (x : Read). x >>= f3) third
      ∙ take most n b (sign symbol.RightParen ∷ rest) f3 (whole n t rest) (λ _. made_is most n t rest)
      (λ unfit. too_large most (suc n) t rest (λ g. unfit (record { few = omega (arith, g.few); shallow = omega (arith, g.shallow) }))))
      (λ unfit. too_large most (suc n) t rest (λ g. unfit (record { few = omega (arith, g.few); shallow = omega (arith, g.shallow) }))))
      (λ unfit. too_large most (suc n) t rest (λ g. unfit (record { few = omega (arith, g.few); shallow = omega (arith, g.shallow) })))

  abbrev cond_whole : ℕ → Test → List Token → Result (Test × List Token) Refusal
  cond_whole n = cond_part_made most (suc n)

  compare_step : (n : ℕ) (o : Comparison) (ts us rest : List Token) (a b : Term) → (within most n).sum ts ≡ part_made most n a (sign (comparison_symbol o) ∷ us) → (within most n).sum us ≡ part_made most n b rest
      → compared most n (within most n) ts ≡ cond_whole n (Compares o a b) rest
  unfolding compared
  compare_step n o ts us rest a b first second =
      let c = Compares o a b in
      let TestRead : Type 0 = Result (Test × List Token) Refusal in
      let f3 : Term × List Token → TestRead = λ y. cond_made most n (Compares o a y.0) y.1 in
      let f2 : Comparison × List Token → TestRead = λ s. (within most n).sum s.1 >>= λ y. cond_made most n (Compares s.0 a y.0) y.1 in
      let f1 : Term × List Token → TestRead = λ x. comparison_at x.1 >>= λ s. (within most n).sum s.1 >>= λ y. cond_made most n (Compares s.0 x.0 y.0) y.1 in
      ap (λ (x : Read). x >>= f1) first
      ∙ take most n a (sign (comparison_symbol o) ∷ us) f1 (cond_whole n c rest)
      (λ _. ap (λ (x : Result (Comparison × List Token) Refusal). x >>= f2) (comparison_is o us)
      ∙ ap (λ (x : Read). x >>= f3) second
      ∙ take most n b rest f3 (cond_whole n c rest) (λ _. cond_made_is most n c rest)
      (λ unfit. cond_too_large most (suc n) c rest (λ g. unfit (record { few = omega (arith, g.few); shallow = omega (arith, g.shallow) }))))
      (λ unfit. cond_too_large most (suc n) c rest (λ g. unfit (record { few = omega (arith, g.few); shallow = omega (arith, g.shallow) })))

  deny_step : (n : ℕ) (ts rest : List Token) (c : Test) → (within most n).condition ts ≡ cond_part_made most n c (sign symbol.RightParen ∷ rest) → denied most n (within most n) (sign symbol.LeftParen ∷ ts) ≡ cond_whole n (Fails c) rest
  unfolding denied expect
  deny_step n ts rest c h =
      let TestRead : Type 0 = Result (Test × List Token) Refusal in
      let f : Test × List Token → TestRead = λ x. expect symbol.RightParen x.1 >>= λ us. cond_made most n (Fails x.0) us in
      ap (λ (x : TestRead). x >>= f) h
      ∙ cond_take most n c (sign symbol.RightParen ∷ rest) f (cond_whole n (Fails c) rest) (λ _. cond_made_is most n (Fails c) rest)
      (λ unfit. cond_too_large most (suc n) (Fails c) rest (λ g. unfit (record { few = omega (arith, g.few); shallow = omega (arith, g.shallow) })))

  first_test_fits : (n : ℕ) (j : Joint) (c d : Test) → CondFits most (suc n) (joint_test j c d) → CondFits most n c
  first_test_fits n joint.All c d f = record { few = omega (arith, f.few); shallow = omega (arith, f.shallow) }
  first_test_fits n joint.Any c d f = record { few = omega (arith, f.few); shallow = omega (arith, f.shallow) }

  second_test_fits : (n : ℕ) (j : Joint) (c d : Test) → CondFits most (suc n) (joint_test j c d) → CondFits most n d
  second_test_fits n joint.All c d f = record { few = omega (arith, f.few); shallow = omega (arith, f.shallow) }
  second_test_fits n joint.Any c d f = record { few = omega (arith, f.few); shallow = omega (arith, f.shallow) }

  combine_step : (n : ℕ) (j : Joint) (ts us rest : List Token) (c d : Test) → (within most n).condition ts ≡ cond_part_made most n c (sign symbol.Comma ∷ us) → (within most n).condition us ≡ cond_part_made most n d (sign symbol.RightParen ∷ rest)
      → combined most n (within most n) j (sign symbol.LeftParen ∷ ts) ≡ cond_whole n (joint_test j c d) rest
  unfolding combined expect
  combine_step n j ts us rest c d first second =
      let t = joint_test j c d in
      let TestRead : Type 0 = Result (Test × List Token) Refusal in
      let g : Test × List Token → TestRead = λ y. expect symbol.RightParen y.1 >>= λ vs. cond_made most n (joint_test j c y.0) vs in
      let f : Test × List Token → TestRead = λ x. expect symbol.Comma x.1 >>= λ vs. (within most n).condition vs >>= λ y. expect symbol.RightParen y.1 >>= λ ws. cond_made most n (joint_test j x.0 y.0) ws in
      ap (λ (x : TestRead). x >>= f) first
      ∙ cond_take most n c (sign symbol.Comma ∷ us) f (cond_whole n t rest)
      (λ _. ap (λ (x : TestRead). x >>= g) second
      ∙ cond_take most n d (sign symbol.RightParen ∷ rest) g (cond_whole n t rest) (λ _. cond_made_is most n t rest) (λ unfit. cond_too_large most (suc n) t rest (λ h. unfit (second_test_fits n j c d h))))
      (λ unfit. cond_too_large most (suc n) t rest (λ h. unfit (first_test_fits n j c d h)))

  -- ---- indices

  abbrev Listed : Type 0
  Listed = List Term × List Token

  no_index : (n : ℕ) (found : List Term) (ts : List Token) (g : Listed → Read) → (indices (within most n).sum 0 found ts >>= g) ≡ Err TooLarge
  unfolding indices
  no_index n found ts g = refl

  index_step : (n k : ℕ) (found : List Term) (x : Term) (ts us : List Token) (g : Listed → Read) (r : Read) → (within most n).sum ts ≡ part_made most n x us
      → (Fits most n x → (indices_step (indices (within most n).sum k) (found ++ x ∷ []) us (after symbol.Comma us) >>= g) ≡ r) → ((Fits most n x → ⊥) → Err TooLarge ≡ r)
      → (indices (within most n).sum (suc k) found ts >>= g) ≡ r
  unfolding indices
  index_step n k found x ts us g r read fit unfit =
      let f : Term × List Token → Result Listed Refusal = λ y. indices_step (indices (within most n).sum k) (found ++ y.0 ∷ []) y.1 (after symbol.Comma y.1) in
      bind_assoc ((within most n).sum ts) f g ∙ ap (λ (y : Read). y >>= λ z. f z >>= g) read ∙ take most n x us (λ z. f z >>= g) r fit unfit

  last_index : (more : List Term → Parse (List Term)) (found : List Term) (rest : List Token) (g : Listed → Read) → (indices_step more found (sign symbol.RightBracket ∷ rest) None >>= g) ≡ g (found, rest)
  unfolding expect
  last_index more found rest g = refl

  abbrev more_list : More → List Term
  more_list no_more = []
  more_list (next a more) = sums_term a ∷ more_list more

  terms_list : (more : More) → index_terms (more_list more) ≡ more_terms more
  terms_list no_more = refl
  terms_list (next a more) = ap (MoreTerms (sums_term a)) (terms_list more)

  -- ---- what the first token decides

  number_at : (n : ℕ) (v : Literal) (ts : List Token) → unary most n (within most n) (token.Number v ∷ ts) ≡ whole n (literal v) ts
  unfolding unary
  number_at n v ts = made_is most n (literal v) ts

  name_at : (n : ℕ) (x : List ℕ) (ts : List Token) → unary most n (within most n) (token.Name x ∷ ts) ≡ named most n (within most n) x ts
  unfolding unary
  name_at n x ts = refl

  call_at : (n : ℕ) (x : List ℕ) (ts : List Token) → unary most n (within most n) (token.Name x ∷ sign symbol.LeftBracket ∷ ts) ≡ (indices (within most n).sum most [] ts >>= λ r. made most n (Call x (index_terms r.0)) r.1)
  unfolding unary named
  call_at n x ts = refl

  type_at : (n : ℕ) (t : Ty) (ts : List Token) → unary most n (within most n) (token.Type t ∷ ts) ≡ cast_at most n (within most n) t ts
  unfolding unary
  type_at n t ts = refl

  extreme_at : (n : ℕ) (o : Extreme) (ts : List Token) → unary most n (within most n) (extreme_word o ∷ ts) ≡ pair most n (within most n) (extreme_op o) ts
  unfolding unary
  extreme_at n least ts = refl
  extreme_at n greatest ts = refl

  clamp_word_at : (n : ℕ) (ts : List Token) → unary most n (within most n) (token.Word word.Clamp ∷ ts) ≡ clamp_at most n (within most n) ts
  unfolding unary
  clamp_word_at n ts = refl

  select_word_at : (n : ℕ) (ts : List Token) → unary most n (within most n) (token.Word word.Select ∷ ts) ≡ select_at most n (within most n) ts
  unfolding unary
  select_word_at n ts = refl

  -- no expression begins as another condition than a comparison does
  abbrev Compared : ℕ → List Token → Type 0
  Compared n ts = condition most n (within most n) ts ≡ compared most n (within most n) ts

  primary_first : (n : ℕ) (p : Primary) (rest : List Token) → Compared n (primary_then p rest)
  primary_first n (number v) rest = refl
  primary_first n (variable x) rest = refl
  primary_first n (call f a more) rest = refl
  primary_first n (group a) rest = refl
  primary_first n (cast t a) rest = refl
  primary_first n (extreme least a b) rest = refl
  primary_first n (extreme greatest a b) rest = refl
  primary_first n (clamp a l h) rest = refl
  primary_first n (select c a b) rest = refl

  signed_first : (n : ℕ) (s : Signed) (rest : List Token) → Compared n (signed_then s rest)
  signed_first n (unsigned p) rest = primary_first n p rest
  signed_first n (negated s) rest = refl

  products_first : (n : ℕ) (p : Products) (rest : List Token) → Compared n (products_then p rest)
  products_first n (factor s) rest = signed_first n s rest
  products_first n (multiply p o s) rest = products_first n p (sign (mul_symbol o) ∷ signed_then s rest)

  sums_first : (n : ℕ) (s : Sums) (rest : List Token) → Compared n (sums_then s rest)
  sums_first n (term p) rest = products_first n p rest
  sums_first n (add s o p) rest = sums_first n s (sign (add_symbol o) ∷ products_then p rest)

  -- ---- each way to put a text together is read as what it stands for

  abbrev SumsGo : ℕ → Sums → List Token → Type 0
  SumsGo n s rest = sum most n (within most n) (sums_then s rest) ≡ (whole n (sums_term s) rest >>= go_on n level.Sum (within most n).product (n - sums_count s))

  abbrev ProductsGo : ℕ → Products → List Token → Type 0
  ProductsGo n p rest = product most n (within most n) (products_then p rest) ≡ (whole n (products_term p) rest >>= go_on n level.Product (within most n).unary (n - products_count p))

  products_end : (n : ℕ) (p : Products) (rest : List Token) → NoProduct rest → ProductsGo n p rest → product most n (within most n) (products_then p rest) ≡ whole n (products_term p) rest
  products_end n p rest none h = chain_ends n level.Product (within most n).unary (product most n (within most n) (products_then p rest)) (products_count p) (products_term p) rest h none

  sums_end : (n : ℕ) (s : Sums) (rest : List Token) → Ends rest → SumsGo n s rest → sum most n (within most n) (sums_then s rest) ≡ whole n (sums_term s) rest
  sums_end n s rest ends h = chain_ends n level.Sum (within most n).product (sum most n (within most n) (sums_then s rest)) (sums_count s) (sums_term s) rest h ends.no_sum

  sums_in : (n : ℕ) (s : Sums) (rest : List Token) → Ends rest → ((m : ℕ) → SumsGo m s rest) → (within most n).sum (sums_then s rest) ≡ part_made most n (sums_term s) rest
  sums_in n s rest ends h = sum_inside n (sums_term s) (sums_then s rest) rest (λ m. sums_end m s rest ends (h m))

  mutual
    sums_go : (n : ℕ) (s : Sums) (rest : List Token) → NoBracket rest → NoProduct rest → SumsGo n s rest
    sums_go n (term p) rest bracket none = sum_begins n (products_then p rest) rest (products_term p) (products_end n p rest none (products_go n p rest bracket))
    sums_go n (add s o p) rest bracket none =
        let tail = products_then p rest in
        chain_more n level.Sum (within most n).product (sums_count s) (add_op o) (sums_term s) (products_term p) (sign (add_symbol o) ∷ tail) tail rest (add_at o tail)
        (product_inside n (products_term p) tail rest (λ m. products_end m p rest none (products_go m p rest bracket)))
        (sum most n (within most n) (sums_then s (sign (add_symbol o) ∷ tail))) (sums_go n s (sign (add_symbol o) ∷ tail) (add_no_bracket o tail) (add_no_product o tail)) (sums_count_lt s)

    products_go : (n : ℕ) (p : Products) (rest : List Token) → NoBracket rest → ProductsGo n p rest
    products_go n (factor s) rest bracket = product_begins n (signed_then s rest) rest (signed_term s) (signed_reads n s rest bracket)
    products_go n (multiply p o s) rest bracket =
        let tail = signed_then s rest in
        chain_more n level.Product (within most n).unary (products_count p) (mul_op o) (products_term p) (signed_term s) (sign (mul_symbol o) ∷ tail) tail rest (mul_at o tail)
        (unary_inside n (signed_term s) tail rest (λ m. signed_reads m s rest bracket))
        (product most n (within most n) (products_then p (sign (mul_symbol o) ∷ tail))) (products_go n p (sign (mul_symbol o) ∷ tail) (mul_no_bracket o tail)) (products_count_lt p)

    signed_reads : (n : ℕ) (s : Signed) (rest : List Token) → NoBracket rest → unary most n (within most n) (signed_then s rest) ≡ whole n (signed_term s) rest
    signed_reads n (unsigned p) rest bracket = primary_reads n p rest bracket
    signed_reads n (negated s) rest bracket = negate_step n (signed_then s rest) rest (signed_term s) (unary_inside n (signed_term s) (signed_then s rest) rest (λ m. signed_reads m s rest bracket))

    primary_reads : (n : ℕ) (p : Primary) (rest : List Token) → NoBracket rest → unary most n (within most n) (primary_then p rest) ≡ whole n (primary_term p) rest
    primary_reads n (number v) rest bracket = number_at n v rest
    primary_reads n (variable x) rest bracket = name_at n x rest ∙ variable_step n x rest bracket
    primary_reads n (call f a more) rest bracket =
        let ts = sums_then a (more_then more rest) in
        let xs = sums_term a ∷ more_list more in
        let same : Call f (index_terms xs) ≡ Call f (MoreTerms (sums_term a) (more_terms more)) = ap (λ ys. Call f (MoreTerms (sums_term a) ys)) (terms_list more) in
        call_at n f ts
        ∙ more_reads n most [] (sums_term a) ts more rest (λ r. made most n (Call f (index_terms r.0)) r.1) (whole n (Call f (MoreTerms (sums_term a) (more_terms more))) rest)
        (sums_in n a (more_then more rest) (more_ends more rest) (λ m. sums_go m a (more_then more rest) (more_ends more rest).no_bracket (more_ends more rest).no_product))
        (λ _. made_is most n (Call f (index_terms xs)) rest ∙ ap (λ t. whole n t rest) same)
        (λ unfit. too_large most (suc n) (Call f (MoreTerms (sums_term a) (more_terms more))) rest (λ g. unfit (call_fits most n f xs (subst (Fits most (suc n)) (sym same) g))))
    primary_reads n (group a) rest bracket =
        let us = sign symbol.RightParen ∷ rest in
        group_step n (sums_then a us) rest (sums_term a) (sums_end n a us (closes rest) (sums_go n a us refl refl))
    primary_reads n (cast t a) rest bracket =
        let us = sign symbol.RightParen ∷ rest in
        type_at n t (sign symbol.LeftParen ∷ sums_then a us)
        ∙ cast_step n t (sums_then a us) rest (sums_term a) (sums_in n a us (closes rest) (λ m. sums_go m a us refl refl))
    primary_reads n (extreme o a b) rest bracket =
        let vs = sign symbol.RightParen ∷ rest in
        let us = sign symbol.Comma ∷ sums_then b vs in
        extreme_at n o (sign symbol.LeftParen ∷ sums_then a us)
        ∙ pair_step n (extreme_op o) (sums_then a us) (sums_then b vs) rest (sums_term a) (sums_term b) (sums_in n a us (goes_on (sums_then b vs)) (λ m. sums_go m a us refl refl)) (sums_in n b vs (closes rest) (λ m. sums_go m b vs refl refl))
    primary_reads n (clamp a l h) rest bracket =
        let ws = sign symbol.RightParen ∷ rest in
        let vs = sign symbol.Comma ∷ sums_then h ws in
        let us = sign symbol.Comma ∷ sums_then l vs in
        clamp_word_at n (sign symbol.LeftParen ∷ sums_then a us)
        ∙ clamp_step n (sums_then a us) (sums_then l vs) (sums_then h ws) rest (sums_term a) (sums_term l) (sums_term h)
        (sums_in n a us (goes_on (sums_then l vs)) (λ m. sums_go m a us refl refl)) (sums_in n l vs (goes_on (sums_then h ws)) (λ m. sums_go m l vs refl refl)) (sums_in n h ws (closes rest) (λ m. sums_go m h ws refl refl))
    primary_reads n (select c a b) rest bracket =
        let ws = sign symbol.RightParen ∷ rest in
        let vs = sign symbol.Comma ∷ sums_then b ws in
        let us = sign symbol.Comma ∷ sums_then a vs in
        select_word_at n (sign symbol.LeftParen ∷ condition_then c us)
        ∙ select_step n (condition_then c us) (sums_then a vs) (sums_then b ws) rest (condition_test c) (sums_term a) (sums_term b)
        (condition_inside n (condition_test c) (condition_then c us) us (λ m. condition_reads m c us (goes_on (sums_then a vs))))
        (sums_in n a vs (goes_on (sums_then b ws)) (λ m. sums_go m a vs refl refl)) (sums_in n b ws (closes rest) (λ m. sums_go m b ws refl refl))

    more_reads : (n k : ℕ) (found : List Term) (x : Term) (ts : List Token) (more : More) (rest : List Token) (g : Listed → Read) (r : Read) → (within most n).sum ts ≡ part_made most n x (more_then more rest)
        → (ListFits most n k (x ∷ more_list more) → g (found ++ x ∷ more_list more, rest) ≡ r) → ((ListFits most n k (x ∷ more_list more) → ⊥) → Err TooLarge ≡ r) → (indices (within most n).sum k found ts >>= g) ≡ r
    more_reads n zero found x ts more rest g r read fit unfit = no_index n found ts g ∙ unfit (λ f. absurd (omega (arith, f.few)))
    more_reads n (suc k) found x ts no_more rest g r read fit unfit =
        index_step n k found x ts (sign symbol.RightBracket ∷ rest) g r read
        (λ f. last_index (indices (within most n).sum k) (found ++ x ∷ []) rest g ∙ fit (record { few = omega arith; all = (f, tt) }))
        (λ h. unfit (λ f. h f.all.0))
    more_reads n (suc k) found x ts (next b more) rest g r read fit unfit =
        let ends = more_ends more rest in
        index_step n k found x ts (sign symbol.Comma ∷ sums_then b (more_then more rest)) g r read
        (λ f. more_reads n k (found ++ x ∷ []) (sums_term b) (sums_then b (more_then more rest)) more rest g r
        (sums_in n b (more_then more rest) ends (λ m. sums_go m b (more_then more rest) ends.no_bracket ends.no_product))
        (λ h. ap (λ (ys : List Term). g (ys, rest)) (append_assoc found (x ∷ []) (sums_term b ∷ more_list more)) ∙ fit (record { few = omega (arith, h.few); all = (f, h.all) }))
        (λ h. unfit (λ l. h (record { few = omega (arith, l.few); all = l.all.1 }))))
        (λ h. unfit (λ l. h l.all.0))

    condition_reads : (n : ℕ) (c : Condition) (rest : List Token) → Ends rest → condition most n (within most n) (condition_then c rest) ≡ cond_whole n (condition_test c) rest
    condition_reads n (compare a o b) rest ends =
        let us = sign (comparison_symbol o) ∷ sums_then b rest in
        let first = compares o (sums_then b rest) in
        sums_first n a us
        ∙ compare_step n o (sums_then a us) (sums_then b rest) rest (sums_term a) (sums_term b) (sums_in n a us first (λ m. sums_go m a us first.no_bracket first.no_product)) (sums_in n b rest ends (λ m. sums_go m b rest ends.no_bracket ends.no_product))
    condition_reads n (deny c) rest ends =
        let us = sign symbol.RightParen ∷ rest in
        deny_step n (condition_then c us) rest (condition_test c) (condition_inside n (condition_test c) (condition_then c us) us (λ m. condition_reads m c us (closes rest)))
    condition_reads n (all c d) rest ends =
        let vs = sign symbol.RightParen ∷ rest in
        let us = sign symbol.Comma ∷ condition_then d vs in
        combine_step n joint.All (condition_then c us) (condition_then d vs) rest (condition_test c) (condition_test d)
        (condition_inside n (condition_test c) (condition_then c us) us (λ m. condition_reads m c us (goes_on (condition_then d vs)))) (condition_inside n (condition_test d) (condition_then d vs) vs (λ m. condition_reads m d vs (closes rest)))
    condition_reads n (any c d) rest ends =
        let vs = sign symbol.RightParen ∷ rest in
        let us = sign symbol.Comma ∷ condition_then d vs in
        combine_step n joint.Any (condition_then c us) (condition_then d vs) rest (condition_test c) (condition_test d)
        (condition_inside n (condition_test c) (condition_then c us) us (λ m. condition_reads m c us (goes_on (condition_then d vs)))) (condition_inside n (condition_test d) (condition_then d vs) vs (λ m. condition_reads m d vs (closes rest)))

  pub sums_read : (n : ℕ) (rules : Sums) (rest : List Token) → Ends rest → (within most n).sum (sums_then rules rest) ≡ part_made most n (sums_term rules) rest
  sums_read n rules rest ends = sums_in n rules rest ends (λ m. sums_go m rules rest ends.no_bracket ends.no_product)

pub expression_reads : (rules : Sums) (rest : List Token) → Ends rest → expression (sums_then rules rest) ≡ made 512 63 (sums_term rules) rest
expression_reads rules rest ends = sums_read 512 64 rules rest ends ∙ sym (made_is 512 63 (sums_term rules) rest)

-- tokens stand for one term at most, of any size
pub terms_agree : (a b : Sums) (rest : List Token) → Ends rest → sums_then a rest ≡ sums_then b rest → sums_term a ≡ sums_term b
terms_agree a b rest ends same =
    let most = node_count (sums_term a) + node_count (sums_term b) in
    let n = depth (sums_term a) + depth (sums_term b) in
    let first = sums_read most n a rest ends ∙ fitting most n (sums_term a) rest (record { few = omega arith; shallow = omega arith }) in
    let second = sums_read most n b rest ends ∙ fitting most n (sums_term b) rest (record { few = omega arith; shallow = omega arith }) in
    (answer_is (sums_term a) (sums_term b) rest rest (sym first ∙ ap (within most n).sum same ∙ second)).0
