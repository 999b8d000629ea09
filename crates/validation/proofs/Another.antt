-- Stores of another expression than the definition's.
use Rattle.std.proofs.Common.{◌≡◌, ℕ, List, [], ◌∷◌, take, drop, length, Bool, true, false, Option, Some, None, MatchOption, refl, sym, ap, ◌∙◌, subst, arith, inl, inr}
use Rattle.std.specs.Prelude.{◌⊎◌, ◌&&◌, ◌||◌, ◌==◌, not}
use Rattle.std.specs.List.{list_all}
use Rattle.std.specs.Ordering.{int_eq}
use Rattle.std.proofs.lemmas.Bool.{false≢true}
use Rattle.std.proofs.lemmas.Bool.Decides.{nat_tests}
use Rattle.std.proofs.lemmas.Cmp.{int_eq_equiv}
use Rattle.tree.specs.Term.{Term, Number, Name, Call, Minus, Binary, Clamp, Cast, Choice, Terms, End, More, Test, Compares, Fails, Both, Either}
use Rattle.meaning.specs.Algorithm.{Algorithm}
use Rattle.meaning.specs.Conditions.{is_variable}
use Rattle.meaning.specs.Inlining.PutIn.{put_in, calls_updates}
use Rattle.meaning.specs.Names.{same_name}
use Rattle.meaning.proofs.Cases.{name_same}
use Rattle.plan.specs.Plan.{Index, At, Found, Coordinate, Statement, Seq, For, Let, First, Guard, Alloc, Fetch, Store, Publish, Group, Plan}
use Rattle.plan.specs.Certificate.Certificate.{Certificate}
use Rattle.soundness.specs.Origins.{Outline}
use Rattle.soundness.specs.Given.{outline_of}
use Rattle.soundness.specs.Obligations.{is_form}
use Rattle.soundness.proofs.Refines.{and_parts}
use Rattle.soundness.specs.Outline.Flaws.{line_told, first_of}
use Rattle.validation.specs.Told.{IsTold}
use Rattle.validation.specs.Stored.Alike.{type_number, op_number, comparison_number, same_type, same_op, same_comparison, same_term, same_terms, same_test}
use Rattle.validation.specs.Stored.Definitions.{Definition, Pure, Step, stored_in}
use Rattle.validation.specs.Stored.Stored.{as_read, index_is_small, is_put_in, is_left, are_left, is_defined}
use Rattle.validation.specs.Stored.Sizes.{is_small}
use Rattle.validation.specs.Groups.Lines.{Here, definition_of, definition_is_stored, store_is_small, flaws_of_groups}
use Rattle.plan.specs.Lines.{group_line}
use Rattle.validation.specs.Groups.Inside.{Begins, StandsIn}
use Rattle.validation.specs.Groups.Wrong.{IsPutIn, IsLeft, AreLeft, IsDefinition, StoresAnother, IsNotDefinitionAt}
use Rattle.validation.proofs.Same.{term_is}
use Rattle.validation.proofs.Told.{Has, Tests, flags, third_are, third_so}
use Rattle.validation.proofs.GroupsTold.{tests, head_tests, cells_at, pieces_at, lines_told}

-- ---- an expression is the same as itself

both : (b c : Bool) → b ≡ true → c ≡ true → (b && c) ≡ true
both true c e f = f
both false c e f = absurd (false≢true e)

number_same : (n : ℕ) → (n == n) ≡ true
number_same n = grind (arith, nat_tests)

mutual
  term_same : (e : Term) → same_term e e ≡ true
  term_same (Number t n) = both (same_type t t) (int_eq n n) (number_same (type_number t)) (int_eq_equiv.refl n)
  term_same (Name x) = name_same x x refl
  term_same (Call x at) = both (same_name x x) (same_terms at at) (name_same x x refl) (terms_same at)
  term_same (Minus a) = term_same a
  term_same (Binary f a b) = both (same_op f f) (same_term a a && same_term b b) (number_same (op_number f)) (both (same_term a a) (same_term b b) (term_same a) (term_same b))
  term_same (Clamp a l h) = both (same_term a a) (same_term l l && same_term h h) (term_same a) (both (same_term l l) (same_term h h) (term_same l) (term_same h))
  term_same (Cast t a) = both (same_type t t) (same_term a a) (number_same (type_number t)) (term_same a)
  term_same (Choice x a b) = both (same_test x x) (same_term a a && same_term b b) (test_same x) (both (same_term a a) (same_term b b) (term_same a) (term_same b))

  terms_same : (at : Terms) → same_terms at at ≡ true
  terms_same End = refl
  terms_same (More a rest) = both (same_term a a) (same_terms rest rest) (term_same a) (terms_same rest)

  test_same : (c : Test) → same_test c c ≡ true
  test_same (Compares f a b) = both (same_comparison f f) (same_term a a && same_term b b) (number_same (comparison_number f)) (both (same_term a a) (same_term b b) (term_same a) (term_same b))
  test_same (Fails x) = test_same x
  test_same (Both x y) = both (same_test x x) (same_test y y) (test_same x) (test_same y)
  test_same (Either x y) = both (same_test x x) (same_test y y) (test_same x) (test_same y)

-- ---- the definition

not_false : (b : Bool) → not b ≡ true → b ≡ false
not_false true h = absurd (false≢true h)
not_false false h = refl

module _ (a : Algorithm) (p : Plan) (o : Outline) where
  put_in_is : (d e : Term) → is_put_in a p o d e ≡ true → IsPutIn a p o d e
  put_in_is d e h =
      let k = and_parts (not (calls_updates a (stored_in a p) d)) (same_term (as_read o e) (put_in a (stored_in a p) d)) h in
      record { plain = not_false (calls_updates a (stored_in a p) d) k.0; same = term_is (as_read o e) (put_in a (stored_in a p) d) k.1 }

  is_so : (d e : Term) → IsPutIn a p o d e → is_put_in a p o d e ≡ true
  is_so d e h =
      let x = as_read o e in
      both (not (calls_updates a (stored_in a p) d)) (same_term x (put_in a (stored_in a p) d)) (ap not h.plain) (subst (λ (y : Term). same_term x y ≡ true) h.same (term_same x))

  left_is : (v : List ℕ) (d : Term) (i : Index) → is_left a p o v d i ≡ true → IsLeft a p o v d i
  left_is v d (At l) h = h
  left_is v d (Found e) h = let k = and_parts (not (is_variable v d)) (is_put_in a p o d e) h in (not_false (is_variable v d) k.0, put_in_is d e k.1)

  left_so : (v : List ℕ) (d : Term) (i : Index) → IsLeft a p o v d i → is_left a p o v d i ≡ true
  left_so v d (At l) h = h
  left_so v d (Found e) h = both (not (is_variable v d)) (is_put_in a p o d e) (ap not h.0) (is_so d e h.1)

  lefts_are : (vs : List (List ℕ)) (ds : List Term) (cs : List Coordinate) → are_left a p o vs ds cs ≡ true → AreLeft a p o vs ds cs
  lefts_are [] [] [] h = tt
  lefts_are [] [] (c ∷ cs) h = absurd (false≢true h)
  lefts_are [] (d ∷ ds) cs h = absurd (false≢true h)
  lefts_are (v ∷ vs) [] cs h = absurd (false≢true h)
  lefts_are (v ∷ vs) (d ∷ ds) [] h = absurd (false≢true h)
  lefts_are (v ∷ vs) (d ∷ ds) (c ∷ cs) h = let k = and_parts (is_left a p o v d c.index) (are_left a p o vs ds cs) h in (left_is v d c.index k.0, lefts_are vs ds cs k.1)

  lefts_so : (vs : List (List ℕ)) (ds : List Term) (cs : List Coordinate) → AreLeft a p o vs ds cs → are_left a p o vs ds cs ≡ true
  lefts_so [] [] [] h = refl
  lefts_so [] [] (c ∷ cs) h = absurd h
  lefts_so [] (d ∷ ds) cs h = absurd h
  lefts_so (v ∷ vs) [] cs h = absurd h
  lefts_so (v ∷ vs) (d ∷ ds) [] h = absurd h
  lefts_so (v ∷ vs) (d ∷ ds) (c ∷ cs) h = both (is_left a p o v d c.index) (are_left a p o vs ds cs) (left_so v d c.index h.0) (lefts_so vs ds cs h.1)

  defined_is : (d : Definition) (at : List Coordinate) (e : Term) → is_defined a p o d at e ≡ true → IsDefinition a p o d at e
  defined_is (Pure f) at e h = let k = and_parts (list_all is_form at) (is_put_in a p o f.value e) h in (k.0, put_in_is f.value e k.1)
  defined_is (Step f u) at e h =
      let n = length f.variables in
      let k = and_parts (are_left a p o f.variables u.at (take n at)) (list_all is_form (drop n at) && is_put_in a p o u.value e) h in
      let l = and_parts (list_all is_form (drop n at)) (is_put_in a p o u.value e) k.1 in
      (lefts_are f.variables u.at (take n at) k.0, (l.0, put_in_is u.value e l.1))

  defined_so : (d : Definition) (at : List Coordinate) (e : Term) → IsDefinition a p o d at e → is_defined a p o d at e ≡ true
  defined_so (Pure f) at e h = both (list_all is_form at) (is_put_in a p o f.value e) h.0 (is_so f.value e h.1)
  defined_so (Step f u) at e h =
      let n = length f.variables in
      both (are_left a p o f.variables u.at (take n at)) (list_all is_form (drop n at) && is_put_in a p o u.value e) (lefts_so f.variables u.at (take n at) h.0)
      (both (list_all is_form (drop n at)) (is_put_in a p o u.value e) h.1.0 (is_so u.value e h.1.1))

-- ---- K12 of a line

asked : (s d : Bool) → (not s || d) ≡ false → (s ≡ true) × (d ≡ false)
asked true d h = (refl, h)
asked false d h = absurd (false≢true (sym h))

module _ (a : Algorithm) (p : Plan) (c : Certificate) (g : Group) (o : Outline) where
  another : (w : Option Definition) (at : List Coordinate) (e : Term) → definition_is_stored a p c g o w at e ≡ false → MatchOption w ⊥ (λ d. ¬ IsDefinition a p o d at e)
  another None at e h = absurd (false≢true (sym h))
  another (Some d) at e h = λ is. false≢true (sym h ∙ defined_so a p o d at e is)

  not_stored : (w : Option Definition) (at : List Coordinate) (e : Term) → MatchOption w ⊥ (λ d. ¬ IsDefinition a p o d at e) → definition_is_stored a p c g o w at e ≡ false
  not_stored None at e h = absurd h
  not_stored (Some d) at e h = of (is_defined a p o d at e) (λ is. h (defined_is a p o d at e is))
    where
      of : (b : Bool) → ¬ (b ≡ true) → b ≡ false
      of true f = absurd (f refl)
      of false f = refl

  abbrev third : Statement → Here → Bool
  third s here = (tests a p c g o s here).third

  stores_is : (s : Statement) (here : Here) → (tests a p c g o s here).code ≡ 12 → third s here ≡ false → StoresAnother a p o s
  stores_is (Seq all) here k h = absurd (false≢true (sym h))
  stores_is (For i x kind inner) here k h = absurd (omega (arith, k))
  stores_is (Let i pick ls) here k h = absurd (false≢true (sym h))
  stores_is (First i s t) here k h = absurd (false≢true (sym h))
  stores_is (Guard low high inner) here k h = absurd (false≢true (sym h))
  stores_is (Alloc b f places) here k h = absurd (false≢true (sym h))
  stores_is (Fetch b q region) here k h = absurd (false≢true (sym h))
  stores_is (Store b q at e) here k h =
      let w = definition_of a p c g o b q in
      let s = asked (store_is_small a p c g o at e) (definition_is_stored a p c g o w at e) h in
      let t = and_parts (is_small e) (list_all (λ x. index_is_small x.index) at) s.0 in
      (t.0, t.1, another w at e s.1)
  stores_is (Publish q) here k h = absurd (false≢true (sym h))

  stores_so : (s : Statement) (here : Here) → StoresAnother a p o s → ((tests a p c g o s here).code ≡ 12) × (third s here ≡ false)
  stores_so (Seq all) here h = absurd h
  stores_so (For i x kind inner) here h = absurd h
  stores_so (Let i pick ls) here h = absurd h
  stores_so (First i s t) here h = absurd h
  stores_so (Guard low high inner) here h = absurd h
  stores_so (Alloc b f places) here h = absurd h
  stores_so (Fetch b q region) here h = absurd h
  stores_so (Store b q at e) here h =
      let w = definition_of a p c g o b q in
      let yes : store_is_small a p c g o at e ≡ true = both (is_small e) (list_all (λ x. index_is_small x.index) at) h.0 h.1 in
      let no = not_stored w at e h.2 in
      (refl, λ i. not (yes i) || no i)
  stores_so (Publish q) here h = absurd h

module _ (a : Algorithm) (p : Plan) (c : Certificate) where
  abbrev line : ℕ → Group → Statement → Here → Tests
  line n g s here = tests a p c g (outline_of p c n g) s here

  abbrev Stores : ℕ → Group → Statement → Here → Type 0
  Stores n g s here = StoresAnother a p (outline_of p c n g) s

  at_store : (l n : ℕ) (g : Group) (s : Statement) (here : Here) → (line_told here.line ≡ l) × Stores n g s here → Has 12 l (flags (line n g s here) here.line)
  at_store l n g s here h =
      let t = stores_so a p c g (outline_of p c n g) s here h.1 in
      subst (λ (k : ℕ). Has k l (flags (line n g s here) here.line)) t.0 (third_so (line n g s here) here.line l h.0 t.1)

  none_or : (l : ℕ) → Begins p (λ n g. ⊥) l ⊎ StandsIn p Stores l → StandsIn p Stores l
  none_or l (inl h) = absurd h.so
  none_or l (inr h) = h

  either_told : IsTold 12 (λ l. Begins p (λ n g. ⊥) l ⊎ StandsIn p Stores l) (first_of (flaws_of_groups a p c))
  either_told = lines_told a p c 12 (λ n g. ⊥) Stores
      (λ l n g at h. absurd (false≢true (sym (third_are (head_tests a p c n g (cells_at p.groups n 0) (pieces_at p.groups n 0)) (line_told (group_line p n)) l h).2)))
      (λ l n g s here h. let t = third_are (line n g s here) here.line l h in (t.0, stores_is a p c g (outline_of p c n g) s here t.1 t.2))
      (λ l n g at is h. absurd h)
      at_store

  pub another_told : IsTold 12 (IsNotDefinitionAt a p c) (first_of (flaws_of_groups a p c))
  another_told = record { meant = λ l e. none_or l (either_told.meant l e); found = λ l h. either_told.found l (inr h) }
