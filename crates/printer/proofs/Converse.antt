-- What the grammar's rules put together of tokens of a text has a canonical text.
use Rattle.std.proofs.Common.{◌≡◌, ℕ, zero, suc, ◌≤◌, ◌<◌, Bool, true, false, ◌&&◌, List, [], ◌∷◌, ◌++◌, map, fold, Some, None, Option, refl, sym, ap}
use Rattle.std.proofs.Common.{subst, ◌∙◌, append_assoc, arith}
use Rattle.std.specs.Prelude.{nat_lt, nat_le, if◌then◌else◌, ℤ, pos, negsuc}
use Rattle.std.specs.List.{list_all, flat_map}
use Rattle.std.proofs.lemmas.Bool.Decides.{nat_tests}
use Rattle.std.proofs.lemmas.List.Folds.{list_all-append}
use Rattle.numeric.specs.declared.ty.Ty.{Ty}
use Rattle.numeric.specs.declared.ty.Ty.TheVariants as ty
use Rattle.numeric.specs.declared.op.Op.{Op}
use Rattle.numeric.specs.declared.op.Op.TheVariants as op
use Rattle.tree.specs.declared.token.token.Symbol.TheVariants as symbol
use Rattle.tree.specs.declared.token.token.Word.TheVariants as word
use Rattle.tree.specs.declared.token.token.Literal.{Literal}
use Rattle.tree.specs.declared.token.token.Token.{Token}
use Rattle.tree.specs.declared.token.token.Token.TheVariants as token
use Rattle.tree.specs.Token.Lexical.{largest}
use Rattle.tree.specs.Term.{Term, Number, Name, Call, Minus, Binary, Clamp, Cast, Choice, Terms, End, More as MoreTerms, Test, Compares, Fails, Both, Either, indices}
use Rattle.expr.specs.Parsing.{literal}
use Rattle.expr.specs.Grammar.{AddSign, plus, minus, MulSign, times, over, modulo, Extreme, least, greatest, Sums, term, add, Products, factor}
use Rattle.expr.specs.Grammar.{multiply, Signed, unsigned, negated, Primary, number, variable, call, group, cast, extreme, clamp, select, More, no_more}
use Rattle.expr.specs.Grammar.{next, Condition, compare, deny, all, any, sign, comparison_symbol, add_op, mul_op, extreme_op, sums_then, products_then}
use Rattle.expr.specs.Grammar.{signed_then, primary_then, more_then, condition_then, sums_term, products_term, signed_term, primary_term, more_terms}
use Rattle.expr.specs.Grammar.{condition_test}
use Rattle.spelling.specs.Words.Fitting.{is_name}
use Rattle.spelling.proofs.Runs.{both}
use Rattle.printer.specs.Spacing.{has_text}
use Rattle.printer.specs.Tokens.{name_token, literal_token, in_brackets, rank, placed, operation, term_tokens, test_tokens, row_tokens, others_tokens}
use Rattle.printer.proofs.Spellable.{is_read}

abbrev pub Have : List Token → Type 0
Have ts = list_all has_text ts ≡ true

abbrev pub AreRead : List Token → Type 0
AreRead ts = list_all is_read ts ≡ true

pub join : (xs ys : List Token) → Have xs → Have ys → Have (xs ++ ys)
join xs ys a b = list_all-append has_text xs ys ∙ rw (a, b) refl

pub name_has : (x : List ℕ) → is_name x ≡ true → has_text (name_token x) ≡ true
name_has x h = rw (h, h) refl

placed_have : (b : Bool) (ts : List Token) → Have ts → Have (if b then in_brackets ts else ts)
placed_have true ts h = join ts (sign symbol.RightParen ∷ []) h refl
placed_have false ts h = h

operation_has : (o : Op) (ra rb : ℕ) (as' bs : List Token) → Have as' → Have bs → Have (operation o ra as' rb bs)
operation_has op.Add ra rb as' bs h k = join (placed 0 ra as') (sign symbol.Plus ∷ (placed 1 rb bs ++ [])) (placed_have (nat_lt ra 0) as' h) (join (placed 1 rb bs) [] (placed_have (nat_lt rb 1) bs k) refl)
operation_has op.Sub ra rb as' bs h k = join (placed 0 ra as') (sign symbol.Minus ∷ (placed 1 rb bs ++ [])) (placed_have (nat_lt ra 0) as' h) (join (placed 1 rb bs) [] (placed_have (nat_lt rb 1) bs k) refl)
operation_has op.Mul ra rb as' bs h k = join (placed 1 ra as') (sign symbol.Star ∷ (placed 2 rb bs ++ [])) (placed_have (nat_lt ra 1) as' h) (join (placed 2 rb bs) [] (placed_have (nat_lt rb 2) bs k) refl)
operation_has op.Div ra rb as' bs h k = join (placed 1 ra as') (sign symbol.Slash ∷ (placed 2 rb bs ++ [])) (placed_have (nat_lt ra 1) as' h) (join (placed 2 rb bs) [] (placed_have (nat_lt rb 2) bs k) refl)
operation_has op.Rem ra rb as' bs h k = join (placed 1 ra as') (sign symbol.Percent ∷ (placed 2 rb bs ++ [])) (placed_have (nat_lt ra 1) as' h) (join (placed 2 rb bs) [] (placed_have (nat_lt rb 2) bs k) refl)
operation_has op.Min ra rb as' bs h k = join (placed 0 ra as') (sign symbol.Comma ∷ (placed 0 rb bs ++ sign symbol.RightParen ∷ [])) (placed_have (nat_lt ra 0) as' h) (join (placed 0 rb bs) (sign symbol.RightParen ∷ []) (placed_have (nat_lt rb 0) bs k) refl)
operation_has op.Max ra rb as' bs h k = join (placed 0 ra as') (sign symbol.Comma ∷ (placed 0 rb bs ++ sign symbol.RightParen ∷ [])) (placed_have (nat_lt ra 0) as' h) (join (placed 0 rb bs) (sign symbol.RightParen ∷ []) (placed_have (nat_lt rb 0) bs k) refl)

below : (n m : ℕ) → nat_le n m ≡ true → m < 4294967296 → nat_lt n 4294967296 ≡ true
below n m h lt = grind (arith, nat_tests)

literal_has : (n : ℕ) (t : Option Ty) → nat_le n (largest t) ≡ true → Have (term_tokens (literal (record { value = n; ty = t })))
literal_has n None h = rw (below n 2147483647 h (omega arith), h) refl
literal_has n (Some ty.U8) h = rw (below n 255 h (omega arith), h) refl
literal_has n (Some ty.U16) h = rw (below n 65535 h (omega arith), h) refl
literal_has n (Some ty.U32) h = rw (below n 4294967295 h (omega arith), h) refl
literal_has n (Some ty.I8) h = rw (below n 127 h (omega arith), h) refl
literal_has n (Some ty.I16) h = rw (below n 32767 h (omega arith), h) refl
literal_has n (Some ty.I32) h = rw (below n 2147483647 h (omega arith), h) refl

three : (a b c : List Token) → Have a → Have b → Have c → Have (a ++ sign symbol.Comma ∷ (b ++ sign symbol.Comma ∷ (c ++ sign symbol.RightParen ∷ [])))
three a b c h k l = join a _ h (join b _ k (join c (sign symbol.RightParen ∷ []) l refl))

two : (a b : List Token) → Have a → Have b → Have (a ++ sign symbol.Comma ∷ (b ++ sign symbol.RightParen ∷ []))
two a b h k = join a _ h (join b (sign symbol.RightParen ∷ []) k refl)

one : (a : List Token) → Have a → Have (a ++ sign symbol.RightParen ∷ [])
one a h = join a (sign symbol.RightParen ∷ []) h refl

mutual
  pub sums_have : (s : Sums) (rest : List Token) → AreRead (sums_then s rest) → Have (term_tokens (sums_term s)) × AreRead rest
  sums_have (term p) rest h = products_have p rest h
  sums_have (add s plus p) rest h =
      let a = sums_have s (sign symbol.Plus ∷ products_then p rest) h in
      let b = products_have p rest a.1 in
      (operation_has op.Add (rank (sums_term s)) (rank (products_term p)) (term_tokens (sums_term s)) (term_tokens (products_term p)) a.0 b.0, b.1)
  sums_have (add s minus p) rest h =
      let a = sums_have s (sign symbol.Minus ∷ products_then p rest) h in
      let b = products_have p rest a.1 in
      (operation_has op.Sub (rank (sums_term s)) (rank (products_term p)) (term_tokens (sums_term s)) (term_tokens (products_term p)) a.0 b.0, b.1)

  products_have : (p : Products) (rest : List Token) → AreRead (products_then p rest) → Have (term_tokens (products_term p)) × AreRead rest
  products_have (factor s) rest h = signed_have s rest h
  products_have (multiply p times s) rest h =
      let a = products_have p (sign symbol.Star ∷ signed_then s rest) h in
      let b = signed_have s rest a.1 in
      (operation_has op.Mul (rank (products_term p)) (rank (signed_term s)) (term_tokens (products_term p)) (term_tokens (signed_term s)) a.0 b.0, b.1)
  products_have (multiply p over s) rest h =
      let a = products_have p (sign symbol.Slash ∷ signed_then s rest) h in
      let b = signed_have s rest a.1 in
      (operation_has op.Div (rank (products_term p)) (rank (signed_term s)) (term_tokens (products_term p)) (term_tokens (signed_term s)) a.0 b.0, b.1)
  products_have (multiply p modulo s) rest h =
      let a = products_have p (sign symbol.Percent ∷ signed_then s rest) h in
      let b = signed_have s rest a.1 in
      (operation_has op.Rem (rank (products_term p)) (rank (signed_term s)) (term_tokens (products_term p)) (term_tokens (signed_term s)) a.0 b.0, b.1)

  signed_have : (s : Signed) (rest : List Token) → AreRead (signed_then s rest) → Have (term_tokens (signed_term s)) × AreRead rest
  signed_have (unsigned p) rest h = primary_have p rest h
  signed_have (negated s) rest h =
      let a = signed_have s rest h in
      (placed_have (nat_lt (rank (signed_term s)) 2) (term_tokens (signed_term s)) a.0, a.1)

  primary_have : (p : Primary) (rest : List Token) → AreRead (primary_then p rest) → Have (term_tokens (primary_term p)) × AreRead rest
  primary_have (number n) rest h =
      let a = both (nat_le n.value (largest n.ty)) (list_all is_read rest) h in
      (literal_has n.value n.ty a.0, a.1)
  primary_have (variable x) rest h =
      let a = both (is_name x) (list_all is_read rest) h in
      (rw (name_has x a.0) refl, a.1)
  primary_have (call f e more) rest h =
      let n = both (is_name f) (list_all is_read (sums_then e (more_then more rest))) h in
      let a = sums_have e (more_then more rest) n.1 in
      let b = more_have more rest a.1 in
      let inner = term_tokens (sums_term e) ++ others_tokens (more_terms more) in
      (rw (name_has f n.0) (join inner (sign symbol.RightBracket ∷ []) (join (term_tokens (sums_term e)) (others_tokens (more_terms more)) a.0 b.0) refl), b.1)
  primary_have (group e) rest h = sums_have e (sign symbol.RightParen ∷ rest) h
  primary_have (cast t e) rest h =
      let a = sums_have e (sign symbol.RightParen ∷ rest) h in
      (one (term_tokens (sums_term e)) a.0, a.1)
  primary_have (extreme least e f) rest h =
      let a = sums_have e (sign symbol.Comma ∷ sums_then f (sign symbol.RightParen ∷ rest)) h in
      let b = sums_have f (sign symbol.RightParen ∷ rest) a.1 in
      (operation_has op.Min (rank (sums_term e)) (rank (sums_term f)) (term_tokens (sums_term e)) (term_tokens (sums_term f)) a.0 b.0, b.1)
  primary_have (extreme greatest e f) rest h =
      let a = sums_have e (sign symbol.Comma ∷ sums_then f (sign symbol.RightParen ∷ rest)) h in
      let b = sums_have f (sign symbol.RightParen ∷ rest) a.1 in
      (operation_has op.Max (rank (sums_term e)) (rank (sums_term f)) (term_tokens (sums_term e)) (term_tokens (sums_term f)) a.0 b.0, b.1)
  primary_have (clamp e l u) rest h =
      let a = sums_have e (sign symbol.Comma ∷ sums_then l (sign symbol.Comma ∷ sums_then u (sign symbol.RightParen ∷ rest))) h in
      let b = sums_have l (sign symbol.Comma ∷ sums_then u (sign symbol.RightParen ∷ rest)) a.1 in
      let c = sums_have u (sign symbol.RightParen ∷ rest) b.1 in
      (three (term_tokens (sums_term e)) (term_tokens (sums_term l)) (term_tokens (sums_term u)) a.0 b.0 c.0, c.1)
  primary_have (select t e f) rest h =
      let a = condition_have t (sign symbol.Comma ∷ sums_then e (sign symbol.Comma ∷ sums_then f (sign symbol.RightParen ∷ rest))) h in
      let b = sums_have e (sign symbol.Comma ∷ sums_then f (sign symbol.RightParen ∷ rest)) a.1 in
      let c = sums_have f (sign symbol.RightParen ∷ rest) b.1 in
      (three (test_tokens (condition_test t)) (term_tokens (sums_term e)) (term_tokens (sums_term f)) a.0 b.0 c.0, c.1)

  more_have : (m : More) (rest : List Token) → AreRead (more_then m rest) → Have (others_tokens (more_terms m)) × AreRead rest
  more_have no_more rest h = (refl, h)
  more_have (next e m) rest h =
      let a = sums_have e (more_then m rest) h in
      let b = more_have m rest a.1 in
      (join (term_tokens (sums_term e)) (others_tokens (more_terms m)) a.0 b.0, b.1)

  condition_have : (c : Condition) (rest : List Token) → AreRead (condition_then c rest) → Have (test_tokens (condition_test c)) × AreRead rest
  condition_have (compare e o f) rest h =
      let a = sums_have e (sign (comparison_symbol o) ∷ sums_then f rest) h in
      let b = sums_have f rest a.1 in
      (join (term_tokens (sums_term e)) (sign (comparison_symbol o) ∷ term_tokens (sums_term f)) a.0 b.0, b.1)
  condition_have (deny c) rest h =
      let a = condition_have c (sign symbol.RightParen ∷ rest) h in
      (one (test_tokens (condition_test c)) a.0, a.1)
  condition_have (all c d) rest h =
      let a = condition_have c (sign symbol.Comma ∷ condition_then d (sign symbol.RightParen ∷ rest)) h in
      let b = condition_have d (sign symbol.RightParen ∷ rest) a.1 in
      (two (test_tokens (condition_test c)) (test_tokens (condition_test d)) a.0 b.0, b.1)
  condition_have (any c d) rest h =
      let a = condition_have c (sign symbol.Comma ∷ condition_then d (sign symbol.RightParen ∷ rest)) h in
      let b = condition_have d (sign symbol.RightParen ∷ rest) a.1 in
      (two (test_tokens (condition_test c)) (test_tokens (condition_test d)) a.0 b.0, b.1)
