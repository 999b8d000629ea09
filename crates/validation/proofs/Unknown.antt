-- Lines of groups that name what is unknown.
use Rattle.std.proofs.Common.{◌≡◌, ℕ, ◌<◌, ◌≤◌, List, [], ◌∷◌, take, drop, map, length, Bool, true, false, Option, Some, None, MatchOption, refl, sym, ap, ◌∙◌, subst, arith, inl, inr}
use Rattle.std.specs.Prelude.{◌⊎◌, ◌&&◌, ◌==◌, not, nat_lt, slice_get, Contains}
use Rattle.std.specs.List.{Any, list_all, list_any}
use Rattle.std.proofs.lemmas.Bool.{false≢true}
use Rattle.std.proofs.lemmas.Bool.Decides.{nat_tests}
use Rattle.std.proofs.lemmas.List.Folds.{Any-from_list_any, list_any-from_Any}
use Rattle.tree.specs.Term.{Term, Number, Name, Call, Minus, Binary, Clamp, Cast, Choice, Terms, End, More, Test, Compares, Fails, Both, Either}
use Rattle.tree.specs.Typing.{index_count}
use Rattle.lin.specs.declared.span.Span1.{Span1}
use Rattle.meaning.specs.Algorithm.{Algorithm}
use Rattle.meaning.specs.Names.{same_name}
use Rattle.meaning.proofs.Cases.{name_same, name_differs, same_name_is}
use Rattle.plan.specs.declared.stmt.Places.{Places}
use Rattle.plan.specs.declared.stmt.Places.TheVariants.{From, Folded}
use Rattle.plan.specs.Plan.{Index, At, Found, Coordinate, Statement, Seq, For, Let, First, Guard, Alloc, Fetch, Store, Publish, Group, Plan}
use Rattle.plan.specs.Lines.{group_line}
use Rattle.plan.specs.Certificate.Certificate.{Claim, Certificate}
use Rattle.plan.specs.Semantics.Run.{Source, Input, ByClaim, Unknown}
use Rattle.soundness.specs.Origins.{Outline}
use Rattle.soundness.specs.Given.{outline_of}
use Rattle.soundness.specs.Outline.Flaws.{first_of, line_told}
use Rattle.soundness.specs.Outline.Forms.{is_over, are_over, spans_are_over}
use Rattle.soundness.proofs.Refines.{and_parts}
use Rattle.validation.specs.Told.{IsTold}
use Rattle.validation.specs.declared.stored.lines.GroupLines.{GroupLines}
use Rattle.validation.specs.Stored.Definitions.{Parts, parts_named, Definition, Pure, Step, function_in, has_variables}
use Rattle.validation.specs.Stored.Stored.{are_for, has_names, is_named, is_known, is_known_test, are_known, index_is_over, index_is_known, has_line, source_takes, is_call}
use Rattle.validation.specs.Groups.Lines.{Here, is_new, is_one_of, place_is_over, is_claim_of, definition_is_named, definition_of, fetch_is_named, flaws_of_groups}
use Rattle.validation.specs.Groups.Wrong.{OriginNamesOther, IndexNamesOther, IsOutside, HasNames, Mentions, TestMentions, SomeMentions, IndexMentions, IsUnnamed, IsUnknownSource, IsUnknownCall, StoresUnknown, NamesUnknown, GroupNamesUnknown, IsUnknownAt}
use Rattle.validation.proofs.Told.{Tests, on_either, names_are, names_so, told_twice, told_again}
use Rattle.validation.proofs.Wide.{and_fails, fails_left, fails_right, any_fails, all_fail, same_number, number_same, contains_is, is_contained, not_contained, contains_not, other_named, names_other, others_named, name_others, span_names, named_in_span, region_names, named_in_region}
use Rattle.validation.proofs.GroupsTold.{tests, codes, head_tests, cells_at, pieces_at, lines_told}

-- ---- tests

refuted : (b : Bool) (P : Type 0) → (b ≡ true → P) → ¬ P → b ≡ false
refuted true P f h = absurd (h (f refl))
refuted false P f h = refl

refutes : (b : Bool) (P : Type 0) → (P → b ≡ true) → b ≡ false → ¬ P
refutes b P f h x = false≢true (sym h ∙ f x)

pub not_is : (b : Bool) → not b ≡ false → b ≡ true
not_is true h = refl
not_is false h = absurd (false≢true (sym h))

pub is_not : (b : Bool) → b ≡ true → not b ≡ false
is_not b h = ap not h

same_so : (m n : ℕ) → m ≡ n → (m == n) ≡ true
same_so m n e = subst (λ (k : ℕ). (m == k) ≡ true) e (number_same m)

pub differ : (m n : ℕ) → (m == n) ≡ false → ¬ (m ≡ n)
differ m n h = refutes (m == n) (m ≡ n) (same_so m n) h

pub different : (m n : ℕ) → ¬ (m ≡ n) → (m == n) ≡ false
different m n h = refuted (m == n) (m ≡ n) (same_number m n) h

pub names_differ : (x y : List ℕ) → same_name x y ≡ false → ¬ (x ≡ y)
names_differ x y h = refutes (same_name x y) (x ≡ y) (name_same x y) h

lacks_is : (w : Option Parts) (n : ℕ) → has_variables w n ≡ false → MatchOption w (Unit {0}) (λ f. ¬ (length f.variables ≡ n))
lacks_is None n h = tt
lacks_is (Some f) n h = differ (length f.variables) n h

is_lacking : (w : Option Parts) (n : ℕ) → MatchOption w (Unit {0}) (λ f. ¬ (length f.variables ≡ n)) → has_variables w n ≡ false
is_lacking None n h = refl
is_lacking (Some f) n h = different (length f.variables) n h

pub not_before : (m n : ℕ) → nat_lt m n ≡ false → n ≤ m
not_before m n h = grind (arith, nat_tests)

pub before_not : (m n : ℕ) → n ≤ m → nat_lt m n ≡ false
before_not m n h = grind (arith, nat_tests)

outside_is : (group : GroupLines) (line : ℕ) → has_line group line ≡ false → IsOutside group line
outside_is group line h = on_either (and_fails (nat_lt group.first line) (nat_lt line group.behind) h) (λ e. inl (not_before group.first line e)) (λ e. inr (not_before line group.behind e))

is_outside : (group : GroupLines) (line : ℕ) → IsOutside group line → has_line group line ≡ false
is_outside group line (inl h) = fails_left (nat_lt group.first line) (nat_lt line group.behind) (before_not group.first line h)
is_outside group line (inr h) = fails_right (nat_lt group.first line) (nat_lt line group.behind) (before_not line group.behind h)

-- ---- parts of lines

module _ (symbols : List ℕ) where
  origin_is : (x : Places) → place_is_over symbols x ≡ false → OriginNamesOther symbols x
  origin_is (From form n) h = other_named symbols form h
  origin_is (Folded n) h = absurd (false≢true (sym h))

  is_origin : (x : Places) → OriginNamesOther symbols x → place_is_over symbols x ≡ false
  is_origin (From form n) h = names_other symbols form h
  is_origin (Folded n) h = absurd h

  index_is : (x : Index) → index_is_over symbols x ≡ false → IndexNamesOther symbols x
  index_is (At form) h = other_named symbols form h
  index_is (Found e) h = absurd (false≢true (sym h))

  is_index : (x : Index) → IndexNamesOther symbols x → index_is_over symbols x ≡ false
  is_index (At form) h = names_other symbols form h
  is_index (Found e) h = absurd h

abbrev variable_of : Coordinate → List ℕ
variable_of x = x.variable

for_is : (cs : List Coordinate) (vs : List (List ℕ)) → are_for cs vs ≡ true → map variable_of cs ≡ vs
for_is [] [] h = refl
for_is [] (v ∷ vs) h = absurd (false≢true h)
for_is (c ∷ cs) [] h = absurd (false≢true h)
for_is (c ∷ cs) (v ∷ vs) h = let k = and_parts (same_name c.variable v) (are_for cs vs) h in λ i. same_name_is c.variable v k.0 i ∷ for_is cs vs k.1 i

for_so : (cs : List Coordinate) (vs : List (List ℕ)) → map variable_of cs ≡ vs → are_for cs vs ≡ true
for_so cs vs e = subst (λ (ws : List (List ℕ)). are_for cs ws ≡ true) e (own cs)
  where
    and_true : (b c : Bool) → b ≡ true → c ≡ true → (b && c) ≡ true
    and_true true c e f = f
    and_true false c e f = absurd (false≢true e)

    own : (xs : List Coordinate) → are_for xs (map variable_of xs) ≡ true
    own [] = refl
    own (x ∷ xs) = and_true (same_name x.variable x.variable) (are_for xs (map variable_of xs)) (name_same x.variable x.variable refl) (own xs)

both_true : (b c : Bool) → b ≡ true → c ≡ true → (b && c) ≡ true
both_true true c e f = f
both_true false c e f = absurd (false≢true e)

names_is : (d : Definition) (at : List Coordinate) → has_names d at ≡ true → HasNames d at
names_is (Pure f) at h = for_is at f.variables h
names_is (Step f u) at h =
    let n = length f.variables in
    let rs = map (λ d. d.variable) u.ranges in
    let k = and_parts (are_for (take n at) f.variables) (are_for (drop n at) rs) h in
    (for_is (take n at) f.variables k.0, for_is (drop n at) rs k.1)

is_names : (d : Definition) (at : List Coordinate) → HasNames d at → has_names d at ≡ true
is_names (Pure f) at h = for_so at f.variables h
is_names (Step f u) at h =
    let n = length f.variables in
    let rs = map (λ d. d.variable) u.ranges in
    both_true (are_for (take n at) f.variables) (are_for (drop n at) rs) (for_so (take n at) f.variables h.0) (for_so (drop n at) rs h.1)

-- ---- expressions

module _ (variable : List ℕ → Bool) (call : List ℕ → ℕ → Bool) (V : List ℕ → Type 0) (C : List ℕ → ℕ → Type 0)
    (name_is : (name : List ℕ) → variable name ≡ false → V name) (call_is : (name : List ℕ) (n : ℕ) → call name n ≡ false → C name n) where
  abbrev K : Term → Bool
  K = is_known variable call

  abbrev KT : Test → Bool
  KT = is_known_test variable call

  abbrev KS : Terms → Bool
  KS = are_known variable call

  mutual
    pub mention : (e : Term) → K e ≡ false → Mentions V C e
    mention (Number t n) h = absurd (false≢true (sym h))
    mention (Name name) h = name_is name h
    mention (Call name at) h = on_either (and_fails (call name (index_count at)) (KS at) h) (λ k. inl (call_is name (index_count at) k)) (λ k. inr (some_mention at k))
    mention (Minus a) h = mention a h
    mention (Binary op a b) h = on_either (and_fails (K a) (K b) h) (λ k. inl (mention a k)) (λ k. inr (mention b k))
    mention (Clamp a l u) h = on_either (and_fails (K a) (K l && K u) h) (λ k. inl (mention a k))
        (λ k. on_either (and_fails (K l) (K u) k) (λ q. inr (inl (mention l q))) (λ q. inr (inr (mention u q))))
    mention (Cast t a) h = mention a h
    mention (Choice c a b) h = on_either (and_fails (KT c) (K a && K b) h) (λ k. inl (test_mention c k))
        (λ k. on_either (and_fails (K a) (K b) k) (λ q. inr (inl (mention a q))) (λ q. inr (inr (mention b q))))

    test_mention : (c : Test) → KT c ≡ false → TestMentions V C c
    test_mention (Compares by a b) h = on_either (and_fails (K a) (K b) h) (λ k. inl (mention a k)) (λ k. inr (mention b k))
    test_mention (Fails c) h = test_mention c h
    test_mention (Both c d) h = on_either (and_fails (KT c) (KT d) h) (λ k. inl (test_mention c k)) (λ k. inr (test_mention d k))
    test_mention (Either c d) h = on_either (and_fails (KT c) (KT d) h) (λ k. inl (test_mention c k)) (λ k. inr (test_mention d k))

    some_mention : (at : Terms) → KS at ≡ false → SomeMentions V C at
    some_mention End h = absurd (false≢true (sym h))
    some_mention (More a rest) h = on_either (and_fails (K a) (KS rest) h) (λ k. inl (mention a k)) (λ k. inr (some_mention rest k))

  pub index_mention : (x : Index) → index_is_known variable call x ≡ false → IndexMentions V C x
  index_mention (At form) h = absurd (false≢true (sym h))
  index_mention (Found e) h = mention e h

module _ (variable : List ℕ → Bool) (call : List ℕ → ℕ → Bool) (V : List ℕ → Type 0) (C : List ℕ → ℕ → Type 0)
    (is_name : (name : List ℕ) → V name → variable name ≡ false) (is_called : (name : List ℕ) (n : ℕ) → C name n → call name n ≡ false) where
  abbrev J : Term → Bool
  J = is_known variable call

  abbrev JT : Test → Bool
  JT = is_known_test variable call

  abbrev JS : Terms → Bool
  JS = are_known variable call

  mutual
    pub mentioned : (e : Term) → Mentions V C e → J e ≡ false
    mentioned (Number t n) h = absurd h
    mentioned (Name name) h = is_name name h
    mentioned (Call name at) (inl h) = fails_left (call name (index_count at)) (JS at) (is_called name (index_count at) h)
    mentioned (Call name at) (inr h) = fails_right (call name (index_count at)) (JS at) (some_mentioned at h)
    mentioned (Minus a) h = mentioned a h
    mentioned (Binary op a b) (inl h) = fails_left (J a) (J b) (mentioned a h)
    mentioned (Binary op a b) (inr h) = fails_right (J a) (J b) (mentioned b h)
    mentioned (Clamp a l u) (inl h) = fails_left (J a) (J l && J u) (mentioned a h)
    mentioned (Clamp a l u) (inr (inl h)) = fails_right (J a) (J l && J u) (fails_left (J l) (J u) (mentioned l h))
    mentioned (Clamp a l u) (inr (inr h)) = fails_right (J a) (J l && J u) (fails_right (J l) (J u) (mentioned u h))
    mentioned (Cast t a) h = mentioned a h
    mentioned (Choice c a b) (inl h) = fails_left (JT c) (J a && J b) (test_mentioned c h)
    mentioned (Choice c a b) (inr (inl h)) = fails_right (JT c) (J a && J b) (fails_left (J a) (J b) (mentioned a h))
    mentioned (Choice c a b) (inr (inr h)) = fails_right (JT c) (J a && J b) (fails_right (J a) (J b) (mentioned b h))

    test_mentioned : (c : Test) → TestMentions V C c → JT c ≡ false
    test_mentioned (Compares by a b) (inl h) = fails_left (J a) (J b) (mentioned a h)
    test_mentioned (Compares by a b) (inr h) = fails_right (J a) (J b) (mentioned b h)
    test_mentioned (Fails c) h = test_mentioned c h
    test_mentioned (Both c d) (inl h) = fails_left (JT c) (JT d) (test_mentioned c h)
    test_mentioned (Both c d) (inr h) = fails_right (JT c) (JT d) (test_mentioned d h)
    test_mentioned (Either c d) (inl h) = fails_left (JT c) (JT d) (test_mentioned c h)
    test_mentioned (Either c d) (inr h) = fails_right (JT c) (JT d) (test_mentioned d h)

    some_mentioned : (at : Terms) → SomeMentions V C at → JS at ≡ false
    some_mentioned End h = absurd h
    some_mentioned (More a rest) (inl h) = fails_left (J a) (JS rest) (mentioned a h)
    some_mentioned (More a rest) (inr h) = fails_right (J a) (JS rest) (some_mentioned rest h)

  pub index_mentioned : (x : Index) → IndexMentions V C x → index_is_known variable call x ≡ false
  index_mentioned (At form) h = absurd h
  index_mentioned (Found e) h = mentioned e h

unnamed_is : (at : List Coordinate) (name : List ℕ) → is_named at name ≡ false → IsUnnamed at name
unnamed_is at name h = refutes (is_named at name) (Any (λ x. x.variable ≡ name) at) (of at name) h
  where
    of : (at : List Coordinate) (name : List ℕ) → Any (λ x. x.variable ≡ name) at → is_named at name ≡ true
    of at name (k, x, lt, is, e) = list_any-from_Any (λ x. same_name x.variable name) at (k, x, lt, is, name_same x.variable name e)

is_unnamed : (at : List Coordinate) (name : List ℕ) → IsUnnamed at name → is_named at name ≡ false
is_unnamed at name h = refuted (is_named at name) (Any (λ x. x.variable ≡ name) at) (of at name) h
  where
    of : (at : List Coordinate) (name : List ℕ) → is_named at name ≡ true → Any (λ x. x.variable ≡ name) at
    of at name e = name_it (Any-from_list_any (λ x. same_name x.variable name) at e)
      where
        name_it : Any (λ x. same_name x.variable name ≡ true) at → Any (λ x. x.variable ≡ name) at
        name_it (k, x, lt, is, f) = (k, x, lt, is, same_name_is x.variable name f)

-- ---- a line

module _ (a : Algorithm) (p : Plan) (c : Certificate) (g : Group) (o : Outline) where
  source_is : (group : GroupLines) (s : Source) (n : ℕ) → source_takes a p group o s n ≡ false → IsUnknownSource a p c g o group s n
  source_is group Input n h = differ (length p.input.extents) n h
  source_is group (ByClaim k) n h = on_either (and_fails (has_line group (o.claim k).line) (has_variables (parts_named a (o.claim k).function) n) h)
      (λ e. inl (outside_is group (o.claim k).line e)) (λ e. inr (lacks_is (parts_named a (o.claim k).function) n e))
  source_is group Unknown n h = tt

  is_source : (group : GroupLines) (s : Source) (n : ℕ) → IsUnknownSource a p c g o group s n → source_takes a p group o s n ≡ false
  is_source group Input n h = different (length p.input.extents) n h
  is_source group (ByClaim k) n (inl h) = fails_left (has_line group (o.claim k).line) (has_variables (parts_named a (o.claim k).function) n) (is_outside group (o.claim k).line h)
  is_source group (ByClaim k) n (inr h) = fails_right (has_line group (o.claim k).line) (has_variables (parts_named a (o.claim k).function) n) (is_lacking (parts_named a (o.claim k).function) n h)
  is_source group Unknown n h = refl

  module _ (here : Here) (b : ℕ) (at : List Coordinate) (e : Term) where
    abbrev call : List ℕ → ℕ → Bool
    call = is_call a p here.group o

    abbrev Calls : List ℕ → ℕ → Type 0
    Calls = IsUnknownCall a p c g o here.group

    abbrev over : Coordinate → Bool
    over x = index_is_over here.symbols x.index

    abbrev Over : Coordinate → Type 0
    Over x = IndexNamesOther here.symbols x.index

    abbrev indices : Coordinate → Bool
    indices x = index_is_known (is_named at) call x.index

    abbrev Indices : Coordinate → Type 0
    Indices x = IndexMentions (IsUnnamed at) Calls x.index

    abbrev last : Bool
    last = is_known (is_named at) call e

    abbrev wide : Definition → Bool
    wide d = o.setting.dimensions b == length (function_in d).variables

    call_is : (name : List ℕ) (n : ℕ) → call name n ≡ false → Calls name n
    call_is name n h = source_is here.group (o.source name) n h

    is_called : (name : List ℕ) (n : ℕ) → Calls name n → call name n ≡ false
    is_called name n h = is_source here.group (o.source name) n h

    stores_is : (d : Definition) → (has_names d at && (wide d && (list_all over at && (list_all indices at && last)))) ≡ false → StoresUnknown a p c g o here b at e d
    stores_is d h = on_either (and_fails (has_names d at) (wide d && (list_all over at && (list_all indices at && last))) h)
        (λ k. inl (refutes (has_names d at) (HasNames d at) (is_names d at) k))
        (λ k. on_either (and_fails (wide d) (list_all over at && (list_all indices at && last)) k)
        (λ q. inr (inl (differ (o.setting.dimensions b) (length (function_in d).variables) q)))
        (λ q. on_either (and_fails (list_all over at) (list_all indices at && last) q)
        (λ r. inr (inr (inl (any_fails over Over (λ x. index_is here.symbols x.index) at r))))
        (λ r. on_either (and_fails (list_all indices at) last r)
        (λ t. inr (inr (inr (inl (any_fails indices Indices (λ x. index_mention (is_named at) call (IsUnnamed at) Calls (unnamed_is at) call_is x.index) at t)))))
        (λ t. inr (inr (inr (inr (mention (is_named at) call (IsUnnamed at) Calls (unnamed_is at) call_is e t))))))))

    is_stores : (d : Definition) → StoresUnknown a p c g o here b at e d → (has_names d at && (wide d && (list_all over at && (list_all indices at && last)))) ≡ false
    is_stores d (inl h) = fails_left (has_names d at) (wide d && (list_all over at && (list_all indices at && last))) (refuted (has_names d at) (HasNames d at) (names_is d at) h)
    is_stores d (inr h) = fails_right (has_names d at) (wide d && (list_all over at && (list_all indices at && last))) (dimensions h)
      where
        mentions : Any Indices at ⊎ Mentions (IsUnnamed at) Calls e → (list_all indices at && last) ≡ false
        mentions (inl k) = fails_left (list_all indices at) last (all_fail indices Indices (λ x. index_mentioned (is_named at) call (IsUnnamed at) Calls (is_unnamed at) is_called x.index) at k)
        mentions (inr k) = fails_right (list_all indices at) last (mentioned (is_named at) call (IsUnnamed at) Calls (is_unnamed at) is_called e k)

        symbols : Any Over at ⊎ (Any Indices at ⊎ Mentions (IsUnnamed at) Calls e) → (list_all over at && (list_all indices at && last)) ≡ false
        symbols (inl k) = fails_left (list_all over at) (list_all indices at && last) (all_fail over Over (λ x. is_index here.symbols x.index) at k)
        symbols (inr k) = fails_right (list_all over at) (list_all indices at && last) (mentions k)

        dimensions : ¬ (o.setting.dimensions b ≡ length (function_in d).variables) ⊎ (Any Over at ⊎ (Any Indices at ⊎ Mentions (IsUnnamed at) Calls e))
            → (wide d && (list_all over at && (list_all indices at && last))) ≡ false
        dimensions (inl k) = fails_left (wide d) (list_all over at && (list_all indices at && last)) (different (o.setting.dimensions b) (length (function_in d).variables) k)
        dimensions (inr k) = fails_right (wide d) (list_all over at && (list_all indices at && last)) (symbols k)

    definition_unknown : (w : Option Definition) → definition_is_named a p c g o w here b at e ≡ false → MatchOption w (Unit {0}) (StoresUnknown a p c g o here b at e)
    definition_unknown None h = tt
    definition_unknown (Some d) h = stores_is d h

    unknown_definition : (w : Option Definition) → MatchOption w (Unit {0}) (StoresUnknown a p c g o here b at e) → definition_is_named a p c g o w here b at e ≡ false
    unknown_definition None h = refl
    unknown_definition (Some d) h = is_stores d h

  claim_unknown : (group : GroupLines) (w : Option Claim) (name : List ℕ) → is_claim_of group w name ≡ false → MatchOption w (Unit {0}) (λ x. IsOutside group x.line ⊎ ¬ (x.function ≡ name))
  claim_unknown group None name h = tt
  claim_unknown group (Some x) name h = on_either (and_fails (has_line group x.line) (same_name x.function name) h) (λ k. inl (outside_is group x.line k)) (λ k. inr (names_differ x.function name k))

  unknown_claim : (group : GroupLines) (w : Option Claim) (name : List ℕ) → MatchOption w (Unit {0}) (λ x. IsOutside group x.line ⊎ ¬ (x.function ≡ name)) → is_claim_of group w name ≡ false
  unknown_claim group None name h = refl
  unknown_claim group (Some x) name (inl h) = fails_left (has_line group x.line) (same_name x.function name) (is_outside group x.line h)
  unknown_claim group (Some x) name (inr h) = fails_right (has_line group x.line) (same_name x.function name) (name_differs x.function name h)

  abbrev names : Statement → Here → Bool
  names s here = (tests a p c g o s here).names

  bound_is : (symbols : List ℕ) (i : ℕ) → is_new symbols i ≡ false → Contains symbols i
  bound_is symbols i h = contains_is symbols i (not_is (is_one_of symbols i) h)

  is_bound : (symbols : List ℕ) (i : ℕ) → Contains symbols i → is_new symbols i ≡ false
  is_bound symbols i h = is_not (is_one_of symbols i) (is_contained symbols i h)

  module _ (here : Here) (b h : ℕ) (region : List Span1) where
    abbrev group : List ℕ
    group = o.setting.group_function h

    abbrev same : Bool
    same = same_name group (o.setting.buffer_function b)

    abbrev lists : Bool
    lists = has_variables (parts_named a group) (length region)

    abbrev spans : Bool
    spans = spans_are_over here.symbols region

    abbrev scope : Bool
    scope = list_any (λ x. x == b) here.buffers

    abbrev there : Bool
    there = nat_lt h (length p.groups)

    fetch_unknown : fetch_is_named a p c g o here b h region ≡ false → NamesUnknown a p c g o (Fetch b h region) here
    fetch_unknown e = on_either (and_fails scope (there && (same && (lists && spans))) e)
        (λ k. inl (not_contained here.buffers b k))
        (λ k. on_either (and_fails there (same && (lists && spans)) k)
        (λ q. inr (inl (not_before h (length p.groups) q)))
        (λ q. on_either (and_fails same (lists && spans) q)
        (λ r. inr (inr (inl (names_differ group (o.setting.buffer_function b) r))))
        (λ r. on_either (and_fails lists spans r)
        (λ t. inr (inr (inr (inl (lacks_is (parts_named a group) (length region) t)))))
        (λ t. inr (inr (inr (inr (region_names here.symbols region t))))))))

    unknown_fetch : NamesUnknown a p c g o (Fetch b h region) here → fetch_is_named a p c g o here b h region ≡ false
    unknown_fetch (inl e) = fails_left scope (there && (same && (lists && spans))) (contains_not here.buffers b e)
    unknown_fetch (inr (inl e)) = fails_right scope (there && (same && (lists && spans))) (fails_left there (same && (lists && spans)) (before_not h (length p.groups) e))
    unknown_fetch (inr (inr (inl e))) = fails_right scope (there && (same && (lists && spans))) (fails_right there (same && (lists && spans))
        (fails_left same (lists && spans) (name_differs group (o.setting.buffer_function b) e)))
    unknown_fetch (inr (inr (inr (inl e)))) = fails_right scope (there && (same && (lists && spans))) (fails_right there (same && (lists && spans))
        (fails_right same (lists && spans) (fails_left lists spans (is_lacking (parts_named a group) (length region) e))))
    unknown_fetch (inr (inr (inr (inr e)))) = fails_right scope (there && (same && (lists && spans))) (fails_right there (same && (lists && spans))
        (fails_right same (lists && spans) (fails_right lists spans (named_in_region here.symbols region e))))

  name_unknown : (s : Statement) (here : Here) → names s here ≡ false → NamesUnknown a p c g o s here
  name_unknown (Seq all) here h = absurd (false≢true (sym h))
  name_unknown (For i x kind body) here h = on_either (and_fails (is_new here.symbols i) (are_over here.symbols x.lower && are_over here.symbols x.upper) h)
      (λ k. inl (bound_is here.symbols i k)) (λ k. inr (span_names here.symbols x k))
  name_unknown (Let i pick fs) here h = on_either (and_fails (is_new here.symbols i) (are_over here.symbols fs) h) (λ k. inl (bound_is here.symbols i k)) (λ k. inr (others_named here.symbols fs k))
  name_unknown (First i s t) here h = not_contained here.loops i h
  name_unknown (Guard low high body) here h = on_either (and_fails (is_over here.symbols low) (is_over here.symbols high) h)
      (λ k. inl (other_named here.symbols low k)) (λ k. inr (other_named here.symbols high k))
  name_unknown (Alloc b f places) here h = on_either (and_fails (has_variables (parts_named a f) (length places)) (list_all (place_is_over here.symbols) places) h)
      (λ k. inl (lacks_is (parts_named a f) (length places) k)) (λ k. inr (any_fails (place_is_over here.symbols) (OriginNamesOther here.symbols) (origin_is here.symbols) places k))
  name_unknown (Fetch b q region) here h = fetch_unknown here b q region h
  name_unknown (Store b k at e) here h = on_either (and_fails (list_any (λ x. x == b) here.buffers) (definition_is_named a p c g o (definition_of a p c g o b k) here b at e) h)
      (λ q. inl (not_contained here.buffers b q)) (λ q. inr (definition_unknown here b at e (definition_of a p c g o b k) q))
  name_unknown (Publish k) here h = claim_unknown here.group (slice_get c.claims k) g.function h

  unknown_name : (s : Statement) (here : Here) → NamesUnknown a p c g o s here → names s here ≡ false
  unknown_name (Seq all) here h = absurd h
  unknown_name (For i x kind body) here (inl h) = fails_left (is_new here.symbols i) (are_over here.symbols x.lower && are_over here.symbols x.upper) (is_bound here.symbols i h)
  unknown_name (For i x kind body) here (inr h) = fails_right (is_new here.symbols i) (are_over here.symbols x.lower && are_over here.symbols x.upper) (named_in_span here.symbols x h)
  unknown_name (Let i pick fs) here (inl h) = fails_left (is_new here.symbols i) (are_over here.symbols fs) (is_bound here.symbols i h)
  unknown_name (Let i pick fs) here (inr h) = fails_right (is_new here.symbols i) (are_over here.symbols fs) (name_others here.symbols fs h)
  unknown_name (First i s t) here h = contains_not here.loops i h
  unknown_name (Guard low high body) here (inl h) = fails_left (is_over here.symbols low) (is_over here.symbols high) (names_other here.symbols low h)
  unknown_name (Guard low high body) here (inr h) = fails_right (is_over here.symbols low) (is_over here.symbols high) (names_other here.symbols high h)
  unknown_name (Alloc b f places) here (inl h) = fails_left (has_variables (parts_named a f) (length places)) (list_all (place_is_over here.symbols) places)
      (is_lacking (parts_named a f) (length places) h)
  unknown_name (Alloc b f places) here (inr h) = fails_right (has_variables (parts_named a f) (length places)) (list_all (place_is_over here.symbols) places)
      (all_fail (place_is_over here.symbols) (OriginNamesOther here.symbols) (is_origin here.symbols) places h)
  unknown_name (Fetch b q region) here h = unknown_fetch here b q region h
  unknown_name (Store b k at e) here (inl h) = fails_left (list_any (λ x. x == b) here.buffers) (definition_is_named a p c g o (definition_of a p c g o b k) here b at e)
      (contains_not here.buffers b h)
  unknown_name (Store b k at e) here (inr h) = fails_right (list_any (λ x. x == b) here.buffers) (definition_is_named a p c g o (definition_of a p c g o b k) here b at e)
      (unknown_definition here b at e (definition_of a p c g o b k) h)
  unknown_name (Publish k) here h = unknown_claim here.group (slice_get c.claims k) g.function h

-- ---- a line `group`

module _ (a : Algorithm) (p : Plan) (c : Certificate) where
  abbrev head : ℕ → Group → Tests
  head n g = head_tests a p c n g (cells_at p.groups n 0) (pieces_at p.groups n 0)

  abbrev line : ℕ → Group → Statement → Here → Tests
  line n g s here = tests a p c g (outline_of p c n g) s here

  module _ (n : ℕ) (g : Group) where
    abbrev taken : Bool
    taken = list_any (λ h. same_name h.function g.function) (take n p.groups)

    abbrev listed : Bool
    listed = has_variables (parts_named a g.function) (length g.region)

    abbrev spanned : Bool
    spanned = spans_are_over [] g.region

    taken_is : not taken ≡ false → Any (λ h. h.function ≡ g.function) (take n p.groups)
    taken_is h = of (Any-from_list_any (λ h. same_name h.function g.function) (take n p.groups) (not_is taken h))
      where
        of : Any (λ h. same_name h.function g.function ≡ true) (take n p.groups) → Any (λ h. h.function ≡ g.function) (take n p.groups)
        of (k, x, lt, is, e) = (k, x, lt, is, same_name_is x.function g.function e)

    is_taken : Any (λ h. h.function ≡ g.function) (take n p.groups) → not taken ≡ false
    is_taken (k, x, lt, is, e) = is_not taken (list_any-from_Any (λ h. same_name h.function g.function) (take n p.groups) (k, x, lt, is, name_same x.function g.function e))

    head_is : (head n g).names ≡ false → GroupNamesUnknown a p n g
    head_is h = on_either (and_fails (not taken) (listed && spanned) h)
        (λ k. inl (taken_is k))
        (λ k. on_either (and_fails listed spanned k) (λ q. inr (inl (lacks_is (parts_named a g.function) (length g.region) q))) (λ q. inr (inr (region_names [] g.region q))))

    is_head : GroupNamesUnknown a p n g → (head n g).names ≡ false
    is_head (inl h) = fails_left (not taken) (listed && spanned) (is_taken h)
    is_head (inr (inl h)) = fails_right (not taken) (listed && spanned) (fails_left listed spanned (is_lacking (parts_named a g.function) (length g.region) h))
    is_head (inr (inr h)) = fails_right (not taken) (listed && spanned) (fails_right listed spanned (named_in_region [] g.region h))

  past_two : (n : ℕ) (g : Group) (s : Statement) (here : Here) → 2 < (line n g s here).code
  past_two n g s here = let e = (codes a p c g (outline_of p c n g) s here).0 in omega (arith, e)

  abbrev Names : ℕ → Group → Statement → Here → Type 0
  Names n g s here = NamesUnknown a p c g (outline_of p c n g) s here

  pub unknown_told : IsTold 2 (IsUnknownAt a p c) (first_of (flaws_of_groups a p c))
  unknown_told = lines_told a p c 2 (GroupNamesUnknown a p) Names
      (λ l n g at h. let t = names_are (head n g) (line_told (group_line p n)) l (omega arith) h in (told_twice (group_line p n) l t.0, head_is n g t.1))
      (λ l n g s here h. let t = names_are (line n g s here) here.line l (past_two n g s here) h in (t.0, name_unknown a p c g (outline_of p c n g) s here t.1))
      (λ l n g at is h. names_so (head n g) (line_told (group_line p n)) l (told_again (group_line p n) l is) (is_head n g h))
      (λ l n g s here h. names_so (line n g s here) here.line l h.0 (unknown_name a p c g (outline_of p c n g) s here h.1))
