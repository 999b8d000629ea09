-- The variables and the calls at places are those of the term.
use Rattle.std.proofs.Common.{◌≡◌, ℕ, List, ◌∷◌, ◌++◌, map, All, refl, ap, ◌∙◌}
use Rattle.std.proofs.lemmas.List.{map-append}
use Rattle.std.proofs.lemmas.List.Elements.{All-nil, All-cons, All-head, All-tail, All-append}
use Rattle.std.specs.Prelude.{string_bytes}
use Rattle.tree.specs.declared.token.span.Span.{Span}
use Rattle.tree.specs.declared.expr.Expr.{Expr, Literal, Variable, Call', Negate', Binary', Clamp', Cast', Select', Row_of-Expr, end_of-Expr, more_of-Expr}
use Rattle.tree.specs.declared.expr.Cond.{Cond, Compare, Not', All', Any'}
use Rattle.tree.specs.Term.{Term, Number, Name, Call, Minus, Binary, Clamp, Cast, Choice, Terms, End, More, Test, Compares, Fails, Both, Either, term_of, terms_of, test_of}
use Rattle.tree.specs.Uses.{variables_of, variables_of_test, variables_of_all, EachCall, EachCallOfTest, EachCallOfAll}
use Rattle.tree.proofs.Uses.{All-left, All-right}
use Rattle.algo.specs.Scoping.Standing.{Written, written, placed_variables, placed_variables_of_all, placed_variables_of_test, placed_calls, placed_calls_of_all, placed_calls_of_test, calls_of, calls_of_all, calls_of_test}

module _ {X : Type 0} where
  abbrev without_places : List (X × Span) → List X
  without_places = map (λ p. p.0)

  two : (xs ys : List (X × Span)) (us vs : List X) → without_places xs ≡ us → without_places ys ≡ vs → without_places (xs ++ ys) ≡ us ++ vs
  two xs ys us vs p q = map-append (λ (p : X × Span). p.0) xs ys ∙ (λ i. p i ++ q i)

  three : (xs ys zs : List (X × Span)) (us vs ws : List X) → without_places xs ≡ us → without_places ys ≡ vs → without_places zs ≡ ws
      → without_places (xs ++ ys ++ zs) ≡ us ++ vs ++ ws
  three xs ys zs us vs ws p q r = two (xs ++ ys) zs (us ++ vs) ws (two xs ys us vs p q) r

mutual
  -- the variables at places are those that occur
  pub names_of : (e : Expr) → map (λ p. p.0) (placed_variables e) ≡ variables_of (term_of e)
  names_of (Literal t n s) = refl
  names_of (Variable name s) = refl
  names_of (Call' name shape at s) = names_of_all at
  names_of (Negate' p a s) = names_of a
  names_of (Binary' op p a q b s) = two (placed_variables a) (placed_variables b) _ _ (names_of a) (names_of b)
  names_of (Clamp' p a q l r h s) = three (placed_variables a) (placed_variables l) (placed_variables h) _ _ _ (names_of a) (names_of l) (names_of h)
  names_of (Cast' t p a s) = names_of a
  names_of (Select' p c q a r b s) = three (placed_variables_of_test c) (placed_variables a) (placed_variables b) _ _ _ (names_of_test c) (names_of a) (names_of b)

  names_of_all : {n : _} (at : Row_of-Expr n) → map (λ p. p.0) (placed_variables_of_all at) ≡ variables_of_all (terms_of at)
  names_of_all end_of-Expr = refl
  names_of_all (more_of-Expr a rest) = two (placed_variables a) (placed_variables_of_all rest) _ _ (names_of a) (names_of_all rest)

  names_of_test : (c : Cond) → map (λ p. p.0) (placed_variables_of_test c) ≡ variables_of_test (test_of c)
  names_of_test (Compare by a b s) = two (placed_variables a) (placed_variables b) _ _ (names_of a) (names_of b)
  names_of_test (Not' p c s) = names_of_test c
  names_of_test (All' p c q d s) = two (placed_variables_of_test c) (placed_variables_of_test d) _ _ (names_of_test c) (names_of_test d)
  names_of_test (Any' p c q d s) = two (placed_variables_of_test c) (placed_variables_of_test d) _ _ (names_of_test c) (names_of_test d)

mutual
  -- the calls at places are those that stand
  pub calls_at : (e : Expr) → map (λ p. p.0) (placed_calls e) ≡ calls_of (term_of e)
  calls_at (Literal t n s) = refl
  calls_at (Variable name s) = refl
  calls_at (Call' name shape at s) = ap (λ l. written (string_bytes name) (terms_of at) ∷ l) (calls_at_all at)
  calls_at (Negate' p a s) = calls_at a
  calls_at (Binary' op p a q b s) = two (placed_calls a) (placed_calls b) _ _ (calls_at a) (calls_at b)
  calls_at (Clamp' p a q l r h s) = three (placed_calls a) (placed_calls l) (placed_calls h) _ _ _ (calls_at a) (calls_at l) (calls_at h)
  calls_at (Cast' t p a s) = calls_at a
  calls_at (Select' p c q a r b s) = three (placed_calls_of_test c) (placed_calls a) (placed_calls b) _ _ _ (calls_at_test c) (calls_at a) (calls_at b)

  calls_at_all : {n : _} (at : Row_of-Expr n) → map (λ p. p.0) (placed_calls_of_all at) ≡ calls_of_all (terms_of at)
  calls_at_all end_of-Expr = refl
  calls_at_all (more_of-Expr a rest) = two (placed_calls a) (placed_calls_of_all rest) _ _ (calls_at a) (calls_at_all rest)

  calls_at_test : (c : Cond) → map (λ p. p.0) (placed_calls_of_test c) ≡ calls_of_test (test_of c)
  calls_at_test (Compare by a b s) = two (placed_calls a) (placed_calls b) _ _ (calls_at a) (calls_at b)
  calls_at_test (Not' p c s) = calls_at_test c
  calls_at_test (All' p c q d s) = two (placed_calls_of_test c) (placed_calls_of_test d) _ _ (calls_at_test c) (calls_at_test d)
  calls_at_test (Any' p c q d s) = two (placed_calls_of_test c) (placed_calls_of_test d) _ _ (calls_at_test c) (calls_at_test d)

-- a fact of each call that stands, and of each of the list
module _ (P : List ℕ → Terms → Type 0) where
  abbrev pub OfCall : Written → Type 0
  OfCall c = P c.name c.at

  mutual
    pub all_listed : (a : Term) → EachCall P a → All OfCall (calls_of a)
    all_listed (Number t n) h = All-nil OfCall
    all_listed (Name name) h = All-nil OfCall
    all_listed (Call name at) h = All-cons OfCall (written name at) (calls_of_all at) h.0 (all_listed_of_all at h.1)
    all_listed (Minus a) h = all_listed a h
    all_listed (Binary op a b) h = All-append OfCall (calls_of a) (calls_of b) (all_listed a h.0) (all_listed b h.1)
    all_listed (Clamp a l u) h =
        All-append OfCall (calls_of a ++ calls_of l) (calls_of u) (All-append OfCall (calls_of a) (calls_of l) (all_listed a h.0) (all_listed l h.1)) (all_listed u h.2)
    all_listed (Cast t a) h = all_listed a h
    all_listed (Choice c a b) h =
        All-append OfCall (calls_of_test c ++ calls_of a) (calls_of b) (All-append OfCall (calls_of_test c) (calls_of a) (all_listed_of_test c h.0) (all_listed a h.1)) (all_listed b h.2)

    all_listed_of_test : (c : Test) → EachCallOfTest P c → All OfCall (calls_of_test c)
    all_listed_of_test (Compares by a b) h = All-append OfCall (calls_of a) (calls_of b) (all_listed a h.0) (all_listed b h.1)
    all_listed_of_test (Fails c) h = all_listed_of_test c h
    all_listed_of_test (Both c d) h = All-append OfCall (calls_of_test c) (calls_of_test d) (all_listed_of_test c h.0) (all_listed_of_test d h.1)
    all_listed_of_test (Either c d) h = All-append OfCall (calls_of_test c) (calls_of_test d) (all_listed_of_test c h.0) (all_listed_of_test d h.1)

    all_listed_of_all : (at : Terms) → EachCallOfAll P at → All OfCall (calls_of_all at)
    all_listed_of_all End h = All-nil OfCall
    all_listed_of_all (More a rest) h = All-append OfCall (calls_of a) (calls_of_all rest) (all_listed a h.0) (all_listed_of_all rest h.1)

  mutual
    pub each_listed : (a : Term) → All OfCall (calls_of a) → EachCall P a
    each_listed (Number t n) h = tt
    each_listed (Name name) h = tt
    each_listed (Call name at) h = (All-head OfCall (written name at) (calls_of_all at) h, each_listed_of_all at (All-tail OfCall (written name at) (calls_of_all at) h))
    each_listed (Minus a) h = each_listed a h
    each_listed (Binary op a b) h =
        let xs = calls_of a in
        let ys = calls_of b in
        (each_listed a (All-left OfCall xs ys h), each_listed b (All-right OfCall xs ys h))
    each_listed (Clamp a l u) h =
        let xs = calls_of a in
        let ys = calls_of l in
        let zs = calls_of u in
        let first = All-left OfCall (xs ++ ys) zs h in
        (each_listed a (All-left OfCall xs ys first), each_listed l (All-right OfCall xs ys first), each_listed u (All-right OfCall (xs ++ ys) zs h))
    each_listed (Cast t a) h = each_listed a h
    each_listed (Choice c a b) h =
        let xs = calls_of_test c in
        let ys = calls_of a in
        let zs = calls_of b in
        let first = All-left OfCall (xs ++ ys) zs h in
        (each_listed_of_test c (All-left OfCall xs ys first), each_listed a (All-right OfCall xs ys first), each_listed b (All-right OfCall (xs ++ ys) zs h))

    each_listed_of_test : (c : Test) → All OfCall (calls_of_test c) → EachCallOfTest P c
    each_listed_of_test (Compares by a b) h =
        let xs = calls_of a in
        let ys = calls_of b in
        (each_listed a (All-left OfCall xs ys h), each_listed b (All-right OfCall xs ys h))
    each_listed_of_test (Fails c) h = each_listed_of_test c h
    each_listed_of_test (Both c d) h =
        let xs = calls_of_test c in
        let ys = calls_of_test d in
        (each_listed_of_test c (All-left OfCall xs ys h), each_listed_of_test d (All-right OfCall xs ys h))
    each_listed_of_test (Either c d) h =
        let xs = calls_of_test c in
        let ys = calls_of_test d in
        (each_listed_of_test c (All-left OfCall xs ys h), each_listed_of_test d (All-right OfCall xs ys h))

    each_listed_of_all : (at : Terms) → All OfCall (calls_of_all at) → EachCallOfAll P at
    each_listed_of_all End h = tt
    each_listed_of_all (More a rest) h =
        let xs = calls_of a in
        let ys = calls_of_all rest in
        (each_listed a (All-left OfCall xs ys h), each_listed_of_all rest (All-right OfCall xs ys h))
