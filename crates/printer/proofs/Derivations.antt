-- The tokens of an expression are put together by the grammar's rules.
use Rattle.std.proofs.Common.{◌≡◌, ℕ, suc, ◌<◌, Bool, true, false, ◌&&◌, List, [], ◌∷◌, ◌++◌, Some, None, refl, sym, ap, subst, ◌∙◌, append_assoc, arith}
use Rattle.std.specs.Prelude.{nat_lt, if◌then◌else◌, ℤ, pos, negsuc, map}
use Rattle.std.specs.List.{list_all}
use Rattle.std.proofs.lemmas.Bool.Decides.{nat_tests}
use Rattle.std.proofs.lemmas.List.Folds.{list_all-append}
use Rattle.numeric.specs.declared.ty.Ty.{Ty}
use Rattle.numeric.specs.declared.ty.Ty.TheVariants as ty
use Rattle.numeric.specs.declared.op.Op.{Op}
use Rattle.numeric.specs.declared.op.Op.TheVariants as op
use Rattle.numeric.specs.declared.op.Comparison.{Comparison}
use Rattle.tree.specs.declared.token.token.Symbol.{Symbol}
use Rattle.tree.specs.declared.token.token.Symbol.TheVariants as symbol
use Rattle.tree.specs.declared.token.token.Word.{Word}
use Rattle.tree.specs.declared.token.token.Word.TheVariants as word
use Rattle.tree.specs.declared.token.token.Literal.{Literal}
use Rattle.tree.specs.declared.token.token.Token.{Token}
use Rattle.tree.specs.declared.token.token.Token.TheVariants as token
use Rattle.tree.specs.Term.{Term, Number, Name, Call, Minus, Binary, Clamp, Cast, Choice, Terms, End, More as MoreTerms, Test, Compares, Fails, Both, Either, indices}
use Rattle.expr.specs.Parsing.{literal}
use Rattle.expr.specs.Grammar.{AddSign, plus, minus, MulSign, times, over, modulo, Extreme, least, greatest, Sums, term, add, Products, factor}
use Rattle.expr.specs.Grammar.{multiply, Signed, unsigned, negated, Primary, number, variable, call, group, cast, extreme, clamp, select, More, no_more}
use Rattle.expr.specs.Grammar.{next, Condition, compare, deny, all, any, sign, add_symbol, mul_symbol, comparison_symbol, extreme_word, add_op, mul_op}
use Rattle.expr.specs.Grammar.{extreme_op, sums_then, products_then, signed_then, primary_then, more_then, condition_then, sums_term, products_term}
use Rattle.expr.specs.Grammar.{signed_term, primary_term, more_terms, condition_test}
use Rattle.expr.specs.Statements.Grammar.{items_then, others_then}
use Rattle.spelling.specs.Words.Fitting.{is_name}
use Rattle.spelling.proofs.Runs.{both}
use Rattle.printer.specs.Spacing.{has_text}
use Rattle.printer.specs.Tokens.{name_token, literal_token, suffix, in_brackets, rank, placed, op_rank, op_left, op_right, op_head, op_tail, op_symbol}
use Rattle.printer.specs.Tokens.{operation, pair, triple, called_token, term_tokens, test_tokens, row_tokens, others_tokens}

-- ---- lists of tokens

pub split : (xs ys : List Token) → list_all has_text (xs ++ ys) ≡ true → (list_all has_text xs ≡ true) × (list_all has_text ys ≡ true)
split xs ys h = both (list_all has_text xs) (list_all has_text ys) (sym (list_all-append has_text xs ys) ∙ h)

pub name_is : (x : List ℕ) (b : Bool) → is_name x ≡ b → has_text (name_token x) ≡ true → name_token x ≡ token.Name x
name_is x true e h = rw e refl
name_is x false e h = let bad : has_text token.LongName ≡ true = subst (λ b. has_text (if b then token.Name x else token.LongName) ≡ true) e h in absurd cc

pub named : (x : List ℕ) → has_text (name_token x) ≡ true → name_token x ≡ token.Name x
named x h = name_is x (is_name x) refl h

-- ---- what is put together by the rules of each level

pub record AtSum (ts : List Token) (t : Term) : Type 0 where
  pub rules : Sums
  pub tokens : (rest : List Token) → sums_then rules rest ≡ ts ++ rest
  pub is : sums_term rules ≡ t

record AtProduct (ts : List Token) (t : Term) : Type 0 where
  rules : Products
  tokens : (rest : List Token) → products_then rules rest ≡ ts ++ rest
  is : products_term rules ≡ t

record AtSigned (ts : List Token) (t : Term) : Type 0 where
  rules : Signed
  tokens : (rest : List Token) → signed_then rules rest ≡ ts ++ rest
  is : signed_term rules ≡ t

record AtPrimary (ts : List Token) (t : Term) : Type 0 where
  rules : Primary
  tokens : (rest : List Token) → primary_then rules rest ≡ ts ++ rest
  is : primary_term rules ≡ t

record AtMore (ts : List Token) (at : Terms) : Type 0 where
  rules : More
  tokens : (rest : List Token) → more_then rules rest ≡ ts ++ sign symbol.RightBracket ∷ rest
  is : more_terms rules ≡ at

record AtTest (ts : List Token) (c : Test) : Type 0 where
  rules : Condition
  tokens : (rest : List Token) → condition_then rules rest ≡ ts ++ rest
  is : condition_test rules ≡ c

product_sum : (ts : List Token) (t : Term) → AtProduct ts t → AtSum ts t
product_sum ts t p = record { rules = term p.rules; tokens = p.tokens; is = p.is }

signed_product : (ts : List Token) (t : Term) → AtSigned ts t → AtProduct ts t
signed_product ts t p = record { rules = factor p.rules; tokens = p.tokens; is = p.is }

primary_signed : (ts : List Token) (t : Term) → AtPrimary ts t → AtSigned ts t
primary_signed ts t p = record { rules = unsigned p.rules; tokens = p.tokens; is = p.is }

grouped : (ts : List Token) (t : Term) → AtSum ts t → AtSigned (in_brackets ts) t
grouped ts t p = record {
  rules = unsigned (group p.rules);
  tokens = λ rest. ap (λ us. sign symbol.LeftParen ∷ us) (p.tokens (sign symbol.RightParen ∷ rest) ∙ sym (append_assoc ts (sign symbol.RightParen ∷ []) rest));
  is = p.is;
}

-- an expression that binds so strongly, at each level
record Ruled (own : ℕ) (ts : List Token) (t : Term) : Type 0 where
  sums : AtSum ts t
  products : AtProduct (placed 1 own ts) t
  signed : AtSigned (placed 2 own ts) t

sum_ruled : (ts : List Token) (t : Term) → AtSum ts t → Ruled 0 ts t
sum_ruled ts t p = record { sums = p; products = signed_product (in_brackets ts) t (grouped ts t p); signed = grouped ts t p }

product_ruled : (ts : List Token) (t : Term) → AtProduct ts t → Ruled 1 ts t
product_ruled ts t p = record { sums = product_sum ts t p; products = p; signed = grouped ts t (product_sum ts t p) }

signed_ruled : (ts : List Token) (t : Term) → AtSigned ts t → Ruled 2 ts t
signed_ruled ts t p = record { sums = product_sum ts t (signed_product ts t p); products = signed_product ts t p; signed = p }

primary_ruled : (ts : List Token) (t : Term) → AtPrimary ts t → Ruled 2 ts t
primary_ruled ts t p = signed_ruled ts t (primary_signed ts t p)

bare : (own : ℕ) (ts : List Token) → placed 0 own ts ≡ ts
bare own ts = let e : nat_lt own 0 ≡ false = grind (arith, nat_tests) in rw e refl

-- tokens that stand in brackets or not
placed_at : (b : Bool) (ts : List Token) → list_all has_text (if b then in_brackets ts else ts) ≡ true → list_all has_text ts ≡ true
placed_at true ts h = (split ts (sign symbol.RightParen ∷ []) h).0
placed_at false ts h = h

placed_all : (wanted own : ℕ) (ts : List Token) → list_all has_text (placed wanted own ts) ≡ true → list_all has_text ts ≡ true
placed_all wanted own ts h = placed_at (nat_lt own wanted) ts h

-- ---- cuts

cut_two : (a b rest : List Token) (s : Token) → (a ++ s ∷ (b ++ [])) ++ rest ≡ a ++ s ∷ (b ++ rest)
cut_two a b rest s = append_assoc a (s ∷ (b ++ [])) rest ∙ ap (λ us. a ++ s ∷ us) (append_assoc b [] rest)

cut_pair : (a b rest : List Token) (s u : Token) → (a ++ s ∷ (b ++ u ∷ [])) ++ rest ≡ a ++ s ∷ (b ++ u ∷ rest)
cut_pair a b rest s u = append_assoc a (s ∷ (b ++ u ∷ [])) rest ∙ ap (λ us. a ++ s ∷ us) (append_assoc b (u ∷ []) rest)

cut_triple : (a b c rest : List Token) (s u v : Token) → (a ++ s ∷ (b ++ u ∷ (c ++ v ∷ []))) ++ rest ≡ a ++ s ∷ (b ++ u ∷ (c ++ v ∷ rest))
cut_triple a b c rest s u v = append_assoc a (s ∷ (b ++ u ∷ (c ++ v ∷ []))) rest ∙ ap (λ us. a ++ s ∷ us) (cut_pair b c rest u v)

split_two : (a b : List Token) (s : Symbol) → list_all has_text (a ++ sign s ∷ b) ≡ true → (list_all has_text a ≡ true) × (list_all has_text b ≡ true)
split_two a b s h = split a (sign s ∷ b) h

split_last : (a : List Token) (s : Symbol) → list_all has_text (a ++ sign s ∷ []) ≡ true → list_all has_text a ≡ true
split_last a s h = (split a (sign s ∷ []) h).0

-- ---- the cases

suffix_back : (t : Ty) (n : ℕ) → literal (record { value = n; ty = suffix t }) ≡ Number t (pos n)
suffix_back ty.U8 n = refl
suffix_back ty.U16 n = refl
suffix_back ty.U32 n = refl
suffix_back ty.I8 n = refl
suffix_back ty.I16 n = refl
suffix_back ty.I32 n = refl

number_at : (t : Ty) (n : ℕ) (b : Bool) → nat_lt n 4294967296 ≡ b → has_text (literal_token t (pos n)) ≡ true → AtPrimary (literal_token t (pos n) ∷ []) (Number t (pos n))
number_at t n true e h =
    let is : literal_token t (pos n) ≡ token.Number (record { value = n; ty = suffix t }) = rw e refl in
    record { rules = number (record { value = n; ty = suffix t }); tokens = λ rest. ap (λ u. u ∷ rest) (sym is); is = suffix_back t n }
number_at t n false e h = let bad : has_text token.LongName ≡ true = subst (λ b. has_text (if b then token.Number (record { value = n; ty = suffix t }) else token.LongName) ≡ true) e h in absurd cc

sum_at : (o : AddSign) (a b : Term) (as' bs : List Token) → AtSum as' a → AtProduct bs b → AtSum (as' ++ sign (add_symbol o) ∷ (bs ++ [])) (Binary (add_op o) a b)
sum_at o a b as' bs p q = record {
  rules = add p.rules o q.rules;
  tokens = λ rest. p.tokens (sign (add_symbol o) ∷ products_then q.rules rest) ∙ ap (λ us. as' ++ sign (add_symbol o) ∷ us) (q.tokens rest) ∙ sym (cut_two as' bs rest (sign (add_symbol o)));
  is = λ i. Binary (add_op o) (p.is i) (q.is i);
}

product_at : (o : MulSign) (a b : Term) (as' bs : List Token) → AtProduct as' a → AtSigned bs b → AtProduct (as' ++ sign (mul_symbol o) ∷ (bs ++ [])) (Binary (mul_op o) a b)
product_at o a b as' bs p q = record {
  rules = multiply p.rules o q.rules;
  tokens = λ rest. p.tokens (sign (mul_symbol o) ∷ signed_then q.rules rest) ∙ ap (λ us. as' ++ sign (mul_symbol o) ∷ us) (q.tokens rest) ∙ sym (cut_two as' bs rest (sign (mul_symbol o)));
  is = λ i. Binary (mul_op o) (p.is i) (q.is i);
}

extreme_at : (o : Extreme) (a b : Term) (as' bs : List Token) → AtSum as' a → AtSum bs b
    → AtPrimary (extreme_word o ∷ sign symbol.LeftParen ∷ (as' ++ sign symbol.Comma ∷ (bs ++ sign symbol.RightParen ∷ []))) (Binary (extreme_op o) a b)
extreme_at o a b as' bs p q = record {
  rules = extreme o p.rules q.rules;
  tokens = λ rest. ap (λ us. extreme_word o ∷ sign symbol.LeftParen ∷ us)
      (p.tokens (sign symbol.Comma ∷ sums_then q.rules (sign symbol.RightParen ∷ rest)) ∙ ap (λ us. as' ++ sign symbol.Comma ∷ us) (q.tokens (sign symbol.RightParen ∷ rest)) ∙ sym (cut_pair as' bs rest (sign symbol.Comma) (sign symbol.RightParen)));
  is = λ i. Binary (extreme_op o) (p.is i) (q.is i);
}

clamp_at : (a l h : Term) (as' ls hs : List Token) → AtSum as' a → AtSum ls l → AtSum hs h → AtPrimary (triple word.Clamp as' ls hs) (Clamp a l h)
clamp_at a l h as' ls hs p q r = record {
  rules = clamp p.rules q.rules r.rules;
  tokens = λ rest. ap (λ us. token.Word word.Clamp ∷ sign symbol.LeftParen ∷ us)
      (p.tokens (sign symbol.Comma ∷ sums_then q.rules (sign symbol.Comma ∷ sums_then r.rules (sign symbol.RightParen ∷ rest)))
      ∙ ap (λ us. as' ++ sign symbol.Comma ∷ us) (q.tokens (sign symbol.Comma ∷ sums_then r.rules (sign symbol.RightParen ∷ rest)) ∙ ap (λ us. ls ++ sign symbol.Comma ∷ us) (r.tokens (sign symbol.RightParen ∷ rest)))
      ∙ sym (cut_triple as' ls hs rest (sign symbol.Comma) (sign symbol.Comma) (sign symbol.RightParen)));
  is = λ i. Clamp (p.is i) (q.is i) (r.is i);
}

select_at : (c : Test) (a b : Term) (cs as' bs : List Token) → AtTest cs c → AtSum as' a → AtSum bs b → AtPrimary (triple word.Select cs as' bs) (Choice c a b)
select_at c a b cs as' bs p q r = record {
  rules = select p.rules q.rules r.rules;
  tokens = λ rest. ap (λ us. token.Word word.Select ∷ sign symbol.LeftParen ∷ us)
      (p.tokens (sign symbol.Comma ∷ sums_then q.rules (sign symbol.Comma ∷ sums_then r.rules (sign symbol.RightParen ∷ rest)))
      ∙ ap (λ us. cs ++ sign symbol.Comma ∷ us) (q.tokens (sign symbol.Comma ∷ sums_then r.rules (sign symbol.RightParen ∷ rest)) ∙ ap (λ us. as' ++ sign symbol.Comma ∷ us) (r.tokens (sign symbol.RightParen ∷ rest)))
      ∙ sym (cut_triple cs as' bs rest (sign symbol.Comma) (sign symbol.Comma) (sign symbol.RightParen)));
  is = λ i. Choice (p.is i) (q.is i) (r.is i);
}

cast_at : (t : Ty) (a : Term) (as' : List Token) → AtSum as' a → AtPrimary (token.Type t ∷ in_brackets as') (Cast t a)
cast_at t a as' p = record {
  rules = cast t p.rules;
  tokens = λ rest. ap (λ us. token.Type t ∷ sign symbol.LeftParen ∷ us) (p.tokens (sign symbol.RightParen ∷ rest) ∙ sym (append_assoc as' (sign symbol.RightParen ∷ []) rest));
  is = ap (Cast t) p.is;
}

call_at : (x : List ℕ) (a : Term) (at : Terms) (as' bs : List Token) → name_token x ≡ token.Name x → AtSum as' a → AtMore bs at
    → AtPrimary (name_token x ∷ sign symbol.LeftBracket ∷ ((as' ++ bs) ++ sign symbol.RightBracket ∷ [])) (Call x (MoreTerms a at))
call_at x a at as' bs name p q = record {
  rules = call x p.rules q.rules;
  tokens = λ rest.
      ap (λ us. token.Name x ∷ sign symbol.LeftBracket ∷ us)
      (p.tokens (more_then q.rules rest) ∙ ap (λ us. as' ++ us) (q.tokens rest) ∙ sym (append_assoc as' bs (sign symbol.RightBracket ∷ rest)) ∙ sym (append_assoc (as' ++ bs) (sign symbol.RightBracket ∷ []) rest))
      ∙ ap (λ u. u ∷ sign symbol.LeftBracket ∷ (((as' ++ bs) ++ sign symbol.RightBracket ∷ []) ++ rest)) (sym name);
  is = λ i. Call x (MoreTerms (p.is i) (q.is i));
}

minus_at : (a : Term) (as' : List Token) → AtSigned as' a → AtSigned (sign symbol.Minus ∷ as') (Minus a)
minus_at a as' p = record { rules = negated p.rules; tokens = λ rest. ap (λ us. sign symbol.Minus ∷ us) (p.tokens rest); is = ap Minus p.is }

compare_at : (by : Comparison) (a b : Term) (as' bs : List Token) → AtSum as' a → AtSum bs b → AtTest (as' ++ sign (comparison_symbol by) ∷ bs) (Compares by a b)
compare_at by a b as' bs p q = record {
  rules = compare p.rules by q.rules;
  tokens = λ rest. p.tokens (sign (comparison_symbol by) ∷ sums_then q.rules rest) ∙ ap (λ us. as' ++ sign (comparison_symbol by) ∷ us) (q.tokens rest) ∙ sym (append_assoc as' (sign (comparison_symbol by) ∷ bs) rest);
  is = λ i. Compares by (p.is i) (q.is i);
}

deny_at : (c : Test) (cs : List Token) → AtTest cs c → AtTest (token.Word word.Not ∷ in_brackets cs) (Fails c)
deny_at c cs p = record {
  rules = deny p.rules;
  tokens = λ rest. ap (λ us. token.Word word.Not ∷ sign symbol.LeftParen ∷ us) (p.tokens (sign symbol.RightParen ∷ rest) ∙ sym (append_assoc cs (sign symbol.RightParen ∷ []) rest));
  is = ap Fails p.is;
}

tests_cut : (cs ds rest : List Token) (p : Condition) (q : Condition) → ((r : List Token) → condition_then p r ≡ cs ++ r) → ((r : List Token) → condition_then q r ≡ ds ++ r)
    → condition_then p (sign symbol.Comma ∷ condition_then q (sign symbol.RightParen ∷ rest)) ≡ (cs ++ sign symbol.Comma ∷ (ds ++ sign symbol.RightParen ∷ [])) ++ rest
tests_cut cs ds rest p q f g =
    f (sign symbol.Comma ∷ condition_then q (sign symbol.RightParen ∷ rest)) ∙ ap (λ us. cs ++ sign symbol.Comma ∷ us) (g (sign symbol.RightParen ∷ rest)) ∙ sym (cut_pair cs ds rest (sign symbol.Comma) (sign symbol.RightParen))

all_at : (c d : Test) (cs ds : List Token) → AtTest cs c → AtTest ds d → AtTest (pair word.All cs ds) (Both c d)
all_at c d cs ds p q = record {
  rules = all p.rules q.rules;
  tokens = λ rest. ap (λ us. token.Word word.All ∷ sign symbol.LeftParen ∷ us) (tests_cut cs ds rest p.rules q.rules p.tokens q.tokens);
  is = λ i. Both (p.is i) (q.is i);
}

any_at : (c d : Test) (cs ds : List Token) → AtTest cs c → AtTest ds d → AtTest (pair word.Any cs ds) (Either c d)
any_at c d cs ds p q = record {
  rules = any p.rules q.rules;
  tokens = λ rest. ap (λ us. token.Word word.Any ∷ sign symbol.LeftParen ∷ us) (tests_cut cs ds rest p.rules q.rules p.tokens q.tokens);
  is = λ i. Either (p.is i) (q.is i);
}

-- operands of an operator that has a word
two_sums : (ra rb : ℕ) (as' bs : List Token) (o : Extreme) (a b : Term) → AtSum as' a → AtSum bs b
    → AtPrimary (extreme_word o ∷ sign symbol.LeftParen ∷ (placed 0 ra as' ++ sign symbol.Comma ∷ (placed 0 rb bs ++ sign symbol.RightParen ∷ []))) (Binary (extreme_op o) a b)
two_sums ra rb as' bs o a b p q =
    extreme_at o a b (placed 0 ra as') (placed 0 rb bs) (subst (λ us. AtSum us a) (sym (bare ra as')) p) (subst (λ us. AtSum us b) (sym (bare rb bs)) q)

binary_at : (o : Op) (a b : Term) (as' bs : List Token) (ra rb : ℕ) → Ruled ra as' a → Ruled rb bs b → Ruled (op_rank o) (operation o ra as' rb bs) (Binary o a b)
binary_at op.Add a b as' bs ra rb p q = sum_ruled _ _ (sum_at plus a b (placed 0 ra as') (placed 1 rb bs) (subst (λ us. AtSum us a) (sym (bare ra as')) p.sums) q.products)
binary_at op.Sub a b as' bs ra rb p q = sum_ruled _ _ (sum_at minus a b (placed 0 ra as') (placed 1 rb bs) (subst (λ us. AtSum us a) (sym (bare ra as')) p.sums) q.products)
binary_at op.Mul a b as' bs ra rb p q = product_ruled _ _ (product_at times a b (placed 1 ra as') (placed 2 rb bs) p.products q.signed)
binary_at op.Div a b as' bs ra rb p q = product_ruled _ _ (product_at over a b (placed 1 ra as') (placed 2 rb bs) p.products q.signed)
binary_at op.Rem a b as' bs ra rb p q = product_ruled _ _ (product_at modulo a b (placed 1 ra as') (placed 2 rb bs) p.products q.signed)
binary_at op.Min a b as' bs ra rb p q = primary_ruled _ _ (two_sums ra rb as' bs least a b p.sums q.sums)
binary_at op.Max a b as' bs ra rb p q = primary_ruled _ _ (two_sums ra rb as' bs greatest a b p.sums q.sums)

record Operands (as' bs : List Token) : Type 0 where
  left : list_all has_text as' ≡ true
  right : list_all has_text bs ≡ true

operands_of : (l r : ℕ) (s : Symbol) (ra rb : ℕ) (as' bs tail : List Token) → list_all has_text (placed l ra as' ++ sign s ∷ (placed r rb bs ++ tail)) ≡ true → Operands as' bs
operands_of l r s ra rb as' bs tail h =
    let one = split_two (placed l ra as') (placed r rb bs ++ tail) s h in
    record { left = placed_all l ra as' one.0; right = placed_all r rb bs (split (placed r rb bs) tail one.1).0 }

operands : (o : Op) (ra rb : ℕ) (as' bs : List Token) → list_all has_text (operation o ra as' rb bs) ≡ true → Operands as' bs
operands op.Add ra rb as' bs h = operands_of 0 1 symbol.Plus ra rb as' bs [] h
operands op.Sub ra rb as' bs h = operands_of 0 1 symbol.Minus ra rb as' bs [] h
operands op.Mul ra rb as' bs h = operands_of 1 2 symbol.Star ra rb as' bs [] h
operands op.Div ra rb as' bs h = operands_of 1 2 symbol.Slash ra rb as' bs [] h
operands op.Rem ra rb as' bs h = operands_of 1 2 symbol.Percent ra rb as' bs [] h
operands op.Min ra rb as' bs h = operands_of 0 0 symbol.Comma ra rb as' bs (sign symbol.RightParen ∷ []) h
operands op.Max ra rb as' bs h = operands_of 0 0 symbol.Comma ra rb as' bs (sign symbol.RightParen ∷ []) h

-- ---- all expressions

mutual
  ruled : (t : Term) → list_all has_text (term_tokens t) ≡ true → Ruled (rank t) (term_tokens t) t
  ruled (Number t (pos n)) h = primary_ruled _ _ (number_at t n (nat_lt n 4294967296) refl (both (has_text (literal_token t (pos n))) true h).0)
  ruled (Number t (negsuc n)) h = absurd cc
  ruled (Name x) h =
      let is = named x (both (has_text (name_token x)) true h).0 in
      primary_ruled (name_token x ∷ []) (Name x) (record { rules = variable x; tokens = λ rest. ap (λ u. u ∷ rest) (sym is); is = refl })
  ruled (Call x End) h = absurd cc
  ruled (Call x (MoreTerms a at)) h =
      let front = both (has_text (name_token x)) (list_all has_text ((term_tokens a ++ others_tokens at) ++ sign symbol.RightBracket ∷ [])) h in
      let parts = split (term_tokens a) (others_tokens at) (split_last (term_tokens a ++ others_tokens at) symbol.RightBracket front.1) in
      primary_ruled _ _ (call_at x a at (term_tokens a) (others_tokens at) (named x front.0) (ruled a parts.0).sums (more_ruled at parts.1))
  ruled (Minus a) h = signed_ruled _ _ (minus_at a (placed 2 (rank a) (term_tokens a)) (ruled a (placed_all 2 (rank a) (term_tokens a) h)).signed)
  ruled (Binary o a b) h =
      let parts = operands o (rank a) (rank b) (term_tokens a) (term_tokens b) h in
      binary_at o a b (term_tokens a) (term_tokens b) (rank a) (rank b) (ruled a parts.left) (ruled b parts.right)
  ruled (Clamp a l u) h =
      let one = split_two (term_tokens a) (term_tokens l ++ sign symbol.Comma ∷ (term_tokens u ++ sign symbol.RightParen ∷ [])) symbol.Comma h in
      let two = split_two (term_tokens l) (term_tokens u ++ sign symbol.RightParen ∷ []) symbol.Comma one.1 in
      primary_ruled _ _ (clamp_at a l u (term_tokens a) (term_tokens l) (term_tokens u) (ruled a one.0).sums (ruled l two.0).sums (ruled u (split_last (term_tokens u) symbol.RightParen two.1)).sums)
  ruled (Cast t a) h = primary_ruled _ _ (cast_at t a (term_tokens a) (ruled a (split_last (term_tokens a) symbol.RightParen h)).sums)
  ruled (Choice c a b) h =
      let one = split_two (test_tokens c) (term_tokens a ++ sign symbol.Comma ∷ (term_tokens b ++ sign symbol.RightParen ∷ [])) symbol.Comma h in
      let two = split_two (term_tokens a) (term_tokens b ++ sign symbol.RightParen ∷ []) symbol.Comma one.1 in
      primary_ruled _ _ (select_at c a b (test_tokens c) (term_tokens a) (term_tokens b) (test_ruled c one.0) (ruled a two.0).sums (ruled b (split_last (term_tokens b) symbol.RightParen two.1)).sums)

  test_ruled : (c : Test) → list_all has_text (test_tokens c) ≡ true → AtTest (test_tokens c) c
  test_ruled (Compares by a b) h =
      let one = split_two (term_tokens a) (term_tokens b) (comparison_symbol by) h in
      compare_at by a b (term_tokens a) (term_tokens b) (ruled a one.0).sums (ruled b one.1).sums
  test_ruled (Fails c) h = deny_at c (test_tokens c) (test_ruled c (split_last (test_tokens c) symbol.RightParen h))
  test_ruled (Both c d) h =
      let one = split_two (test_tokens c) (test_tokens d ++ sign symbol.RightParen ∷ []) symbol.Comma h in
      all_at c d (test_tokens c) (test_tokens d) (test_ruled c one.0) (test_ruled d (split_last (test_tokens d) symbol.RightParen one.1))
  test_ruled (Either c d) h =
      let one = split_two (test_tokens c) (test_tokens d ++ sign symbol.RightParen ∷ []) symbol.Comma h in
      any_at c d (test_tokens c) (test_tokens d) (test_ruled c one.0) (test_ruled d (split_last (test_tokens d) symbol.RightParen one.1))

  more_ruled : (at : Terms) → list_all has_text (others_tokens at) ≡ true → AtMore (others_tokens at) at
  more_ruled End h = record { rules = no_more; tokens = λ rest. refl; is = refl }
  more_ruled (MoreTerms a at) h =
      let one = split (term_tokens a) (others_tokens at) h in
      let p = (ruled a one.0).sums in
      let q = more_ruled at one.1 in
      record {
        rules = next p.rules q.rules;
        tokens = λ rest. ap (λ us. sign symbol.Comma ∷ us) (p.tokens (more_then q.rules rest) ∙ ap (λ us. term_tokens a ++ us) (q.tokens rest) ∙ sym (append_assoc (term_tokens a) (others_tokens at) (sign symbol.RightBracket ∷ rest)));
        is = λ i. MoreTerms (p.is i) (q.is i);
      }

-- an expression whose tokens have texts
pub sum_of : (t : Term) → list_all has_text (term_tokens t) ≡ true → AtSum (term_tokens t) t
sum_of t h = (ruled t h).sums

-- ---- lists of expressions

record AtOthers (ts : List Token) (es : List Term) : Type 0 where
  rules : List Sums
  tokens : (rest : List Token) → others_then sums_then rules rest ≡ ts ++ rest
  is : map sums_term rules ≡ es

pub record AtRow (ts : List Token) (es : List Term) : Type 0 where
  pub rules : List Sums
  pub tokens : (rest : List Token) → items_then sums_then rules rest ≡ ts ++ rest
  pub is : map sums_term rules ≡ es

others_of : (es : List Term) → list_all has_text (others_tokens (indices es)) ≡ true → AtOthers (others_tokens (indices es)) es
others_of [] h = record { rules = []; tokens = λ rest. refl; is = refl }
others_of (e ∷ es) h =
    let one = split (term_tokens e) (others_tokens (indices es)) h in
    let p = sum_of e one.0 in
    let q = others_of es one.1 in
    record {
      rules = p.rules ∷ q.rules;
      tokens = λ rest. ap (λ us. sign symbol.Comma ∷ us) (p.tokens (others_then sums_then q.rules rest) ∙ ap (λ us. term_tokens e ++ us) (q.tokens rest) ∙ sym (append_assoc (term_tokens e) (others_tokens (indices es)) rest));
      is = λ i. p.is i ∷ q.is i;
    }

pub row_of : (es : List Term) → list_all has_text (row_tokens (indices es)) ≡ true → AtRow (row_tokens (indices es)) es
row_of [] h = record { rules = []; tokens = λ rest. refl; is = refl }
row_of (e ∷ es) h =
    let one = split (term_tokens e) (others_tokens (indices es)) h in
    let p = sum_of e one.0 in
    let q = others_of es one.1 in
    record {
      rules = p.rules ∷ q.rules;
      tokens = λ rest. p.tokens (others_then sums_then q.rules rest) ∙ ap (λ us. term_tokens e ++ us) (q.tokens rest) ∙ sym (append_assoc (term_tokens e) (others_tokens (indices es)) rest);
      is = λ i. p.is i ∷ q.is i;
    }
