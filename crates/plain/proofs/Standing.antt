-- The calls that stand in expressions are those that they make, and the calls in a call's indices come before it.
use Rattle.std.proofs.Common.{◌≡◌, ◌<◌, ◌≤◌, ◌-◌, ℕ, zero, suc, ◌+◌, Bool, true, false, cond, List, [], ◌∷◌, ◌++◌, map, length, take, Option, Some, None, IsSome, IsTrue, ℤ, refl, sym, ap, ◌∙◌, subst, arith, ◌⊎◌, inl, inr, All, get_or, append_assoc}
use Rattle.std.specs.Prelude.{slice_get, sum_by, is_some}
use Rattle.std.specs.List.{filter}
use Rattle.std.proofs.lemmas.List.{map-append, take_more, append-nil}
use Rattle.std.proofs.lemmas.List.Sums.{sum_by-cons}
use Rattle.std.proofs.lemmas.List.Elements.{All-nil, All-cons, All-head, All-tail, All-append}
use Rattle.numeric.specs.declared.ty.Ty.{Ty}
use Rattle.tree.specs.declared.value.Value.{Value}
use Rattle.tree.specs.Term.{Term, Number, Name, Call, Minus, Binary, Clamp, Cast, Choice, Terms, End, More, Test, Compares, Fails, Both, Either}
use Rattle.tree.specs.Term.{term_of, indices, list_terms}
use Rattle.tree.specs.declared.expr.Expr.{Expr}
use Rattle.tree.specs.Uses.{Asked, calls_made, calls_made_by_test, calls_made_by_all, EachCallOfTest, EachCallOfAll}
use Rattle.tree.specs.Names.{TakesCall}
use Rattle.tree.specs.Typing.{type_of, is_typed, is_index, are_indices, index_count, answer_type, common, only_if, HasFewIndices}
use Rattle.tree.proofs.Typed.{some_only_if, some_common, both_true, some_answer, index-is, some_of, some_operator}
use Rattle.tree.proofs.Uses.{All-left, All-right}
use Rattle.plain.specs.Sites.{Site, is_other, own_site, sites, sites_of_test, sites_of_all, asked_at}

filter-two : {A : Type 0} (test : A → Bool) (xs ys : List A) → filter test (xs ++ ys) ≡ filter test xs ++ filter test ys
filter-two test [] ys = refl
filter-two {A} test (x ∷ xs) ys =
    let more = filter-two test xs ys in
    elim (test x) as (λ (b : Bool). cond b (x ∷ filter test (xs ++ ys)) (filter test (xs ++ ys)) ≡ cond b (x ∷ filter test xs) (filter test xs) ++ filter test ys) [
      | true ↦ ap (λ (zs : List A). x ∷ zs) more
      | false ↦ more
    ]

pub get_front : {A : Type 0} (xs ys : List A) (n : ℕ) → n < length xs → slice_get (xs ++ ys) n ≡ slice_get xs n
get_front [] ys n h = absurd (omega arith)
get_front (x ∷ xs) ys zero h = refl
get_front (x ∷ xs) ys (suc n) h = get_front xs ys n (omega arith)

pub get_back : {A : Type 0} (xs ys : List A) (n : ℕ) → length xs ≤ n → slice_get (xs ++ ys) n ≡ slice_get ys (n - length xs)
get_back [] ys n h = let e : n - 0 ≡ n = omega arith in ap (slice_get ys) (sym e)
get_back (x ∷ xs) ys zero h = absurd (omega arith)
get_back (x ∷ xs) ys (suc n) h = let e : suc n - suc (length xs) ≡ n - length xs = omega arith in get_back xs ys n (omega arith) ∙ ap (slice_get ys) (sym e)

take_front : {A : Type 0} (xs ys : List A) (n : ℕ) → n ≤ length xs → take n (xs ++ ys) ≡ take n xs
take_front [] [] zero h = refl
take_front [] (y ∷ ys) zero h = refl
take_front [] ys (suc n) h = absurd (omega arith)
take_front (x ∷ xs) ys zero h = refl
take_front (x ∷ xs) ys (suc n) h = ap (λ zs. x ∷ zs) (take_front xs ys n (omega arith))

take_back : {A : Type 0} (xs ys : List A) (n : ℕ) → length xs ≤ n → take n (xs ++ ys) ≡ xs ++ take (n - length xs) ys
take_back [] ys n h = let e : n - 0 ≡ n = omega arith in ap (λ m. take m ys) (sym e)
take_back (x ∷ xs) ys zero h = absurd (omega arith)
take_back (x ∷ xs) ys (suc n) h =
    let e : suc n - suc (length xs) ≡ n - length xs = omega arith in
    ap (λ zs. x ∷ zs) (take_back xs ys n (omega arith) ∙ ap (λ m. xs ++ take m ys) (sym e))

below_or : (m n : ℕ) → (m < n) ⊎ (n ≤ m)
below_or m zero = inr (omega arith)
below_or zero (suc n) = inl (omega arith)
below_or (suc m) (suc n) = elim (below_or m n) [ inl h ↦ inl (omega arith) | inr h ↦ inr (omega arith) ]

module _ (vs : List ℕ → ℤ) (calls : List ℕ → List ℤ → Value) (input : List ℕ) where
  abbrev pub keeps : Asked → Bool
  keeps c = is_other input c.name

  abbrev pub AreMade : List Site → List Asked → Type 0
  AreMade ss cs = map (asked_at vs calls) ss ≡ filter keeps cs

  made_both : (ss ts : List Site) (cs ds : List Asked) → AreMade ss cs → AreMade ts ds → AreMade (ss ++ ts) (cs ++ ds)
  made_both ss ts cs ds h k = map-append (asked_at vs calls) ss ts ∙ (λ i. h i ++ k i) ∙ sym (filter-two keeps cs ds)

  made_own : (s : Site) → AreMade (own_site input s) (asked_at vs calls s ∷ [])
  made_own s =
      elim (is_other input s.name) as (λ (b : Bool). map (asked_at vs calls) (elim b [ true ↦ s ∷ [] | false ↦ [] ]) ≡ cond b (asked_at vs calls s ∷ []) []) [
        | true ↦ refl
        | false ↦ refl
      ]

  mutual
    pub made : (e : Term) → AreMade (sites input e) (calls_made vs calls e)
    made (Number t n) = refl
    made (Name name) = refl
    made (Call name at) = made_both _ _ _ _ (made_of_all at) (made_own (record { name = name; at = at }))
    made (Minus a) = made a
    made (Binary op a b) = made_both _ _ _ _ (made a) (made b)
    made (Clamp a l h) = made_both _ _ _ _ (made_both _ _ _ _ (made a) (made l)) (made h)
    made (Cast t a) = made a
    made (Choice c a b) = made_both _ _ _ _ (made_both _ _ _ _ (made_of_test c) (made a)) (made b)

    pub made_of_test : (c : Test) → AreMade (sites_of_test input c) (calls_made_by_test vs calls c)
    made_of_test (Compares by a b) = made_both _ _ _ _ (made a) (made b)
    made_of_test (Fails c) = made_of_test c
    made_of_test (Both c d) = made_both _ _ _ _ (made_of_test c) (made_of_test d)
    made_of_test (Either c d) = made_both _ _ _ _ (made_of_test c) (made_of_test d)

    pub made_of_all : (at : Terms) → AreMade (sites_of_all input at) (calls_made_by_all vs calls at)
    made_of_all End = refl
    made_of_all (More a rest) = made_both _ _ _ _ (made a) (made_of_all rest)

  -- what holds of the calls before a site holds of those in its indices
  module _ (P : Asked → Type 0) where
    abbrev pub Ordered : List Site → Type 0
    Ordered ss = (n : ℕ) (s : Site) → slice_get ss n ≡ Some s → All P (take n (map (asked_at vs calls) ss)) → All P (filter keeps (calls_made_by_all vs calls s.at))

    none_ordered : Ordered []
    none_ordered n s e h = absurd (cc)

    length-of : (ss : List Site) → length (map (asked_at vs calls) ss) ≡ length ss
    length-of [] = refl
    length-of (s ∷ ss) = ap suc (length-of ss)

    both_ordered : (ss ts : List Site) → Ordered ss → Ordered ts → Ordered (ss ++ ts)
    both_ordered ss ts h k n s e p =
        let f = asked_at vs calls in
        let q = subst (λ (cs : List Asked). All P (take n cs)) (map-append f ss ts) p in
        let long : length (map f ss) ≡ length ss = length-of ss in
        elim (below_or n (length ss)) [
          | inl l ↦ h n s (sym (get_front ss ts n l) ∙ e) (subst (λ (cs : List Asked). All P cs) (take_front (map f ss) (map f ts) n (omega arith)) q)
          | inr l ↦
              let r = subst (λ (cs : List Asked). All P cs) (take_back (map f ss) (map f ts) n (omega arith)) q in
              let back = All-right P (map f ss) (take (n - length (map f ss)) (map f ts)) r in
              k (n - length ss) s (sym (get_back ss ts n l) ∙ e) (subst (λ (m : ℕ). All P (take (n - m) (map f ts))) long back)
        ]

    one_is : (s t : Site) (n : ℕ) → slice_get (s ∷ []) n ≡ Some t → t ≡ s
    one_is s t zero e = cc
    one_is s t (suc n) e = absurd (cc)

    own_is : (s t : Site) (n : ℕ) → slice_get (own_site input s) n ≡ Some t → t ≡ s
    own_is s t n =
        elim (is_other input s.name) as (λ (b : Bool). slice_get (elim b [ true ↦ s ∷ [] | false ↦ [] ]) n ≡ Some t → t ≡ s) [
          | true ↦ one_is s t n
          | false ↦ λ e. absurd (cc)
        ]

    call_ordered : (s : Site) → Ordered (sites_of_all input s.at) → Ordered (sites_of_all input s.at ++ own_site input s)
    call_ordered s h n t e p =
        let f = asked_at vs calls in
        let ss = sites_of_all input s.at in
        let ts = own_site input s in
        let q = subst (λ (cs : List Asked). All P (take n cs)) (map-append f ss ts) p in
        let long : length (map f ss) ≡ length ss = length-of ss in
        elim (below_or n (length ss)) [
          | inl l ↦ h n t (sym (get_front ss ts n l) ∙ e) (subst (λ (cs : List Asked). All P cs) (take_front (map f ss) (map f ts) n (omega arith)) q)
          | inr l ↦
              let r = subst (λ (cs : List Asked). All P cs) (take_back (map f ss) (map f ts) n (omega arith)) q in
              let front = All-left P (map f ss) (take (n - length (map f ss)) (map f ts)) r in
              let same : t ≡ s = own_is s t (n - length ss) (sym (get_back ss ts n l) ∙ e) in
              subst (λ (x : Site). All P (filter keeps (calls_made_by_all vs calls x.at))) (sym same) (subst (λ (cs : List Asked). All P cs) (made_of_all s.at) front)
        ]

    mutual
      pub ordered : (e : Term) → Ordered (sites input e)
      ordered (Number t n) = none_ordered
      ordered (Name name) = none_ordered
      ordered (Call name at) = call_ordered (record { name = name; at = at }) (ordered_of_all at)
      ordered (Minus a) = ordered a
      ordered (Binary op a b) = both_ordered (sites input a) (sites input b) (ordered a) (ordered b)
      ordered (Clamp a l h) = both_ordered (sites input a ++ sites input l) (sites input h) (both_ordered (sites input a) (sites input l) (ordered a) (ordered l)) (ordered h)
      ordered (Cast t a) = ordered a
      ordered (Choice c a b) = both_ordered (sites_of_test input c ++ sites input a) (sites input b) (both_ordered (sites_of_test input c) (sites input a) (ordered_of_test c) (ordered a)) (ordered b)

      ordered_of_test : (c : Test) → Ordered (sites_of_test input c)
      ordered_of_test (Compares by a b) = both_ordered (sites input a) (sites input b) (ordered a) (ordered b)
      ordered_of_test (Fails c) = ordered_of_test c
      ordered_of_test (Both c d) = both_ordered (sites_of_test input c) (sites_of_test input d) (ordered_of_test c) (ordered_of_test d)
      ordered_of_test (Either c d) = both_ordered (sites_of_test input c) (sites_of_test input d) (ordered_of_test c) (ordered_of_test d)

      pub ordered_of_all : (at : Terms) → Ordered (sites_of_all input at)
      ordered_of_all End = none_ordered
      ordered_of_all (More a rest) = both_ordered (sites input a) (sites_of_all input rest) (ordered a) (ordered_of_all rest)

-- each call of an expression that has a type can be made
module _ (named : List ℕ → Bool) (functions : List ℕ → Option (Ty × ℕ)) where
  pub record TypedSite (s : Site) : Type 0 where
    pub typed : are_indices named functions s.at ≡ true
    pub known : IsSome (functions s.name)
    pub takes : TakesCall (functions s.name) (index_count s.at)
    pub few : EachCallOfAll (λ name at. index_count at ≤ 4) s.at

  known-some : (o : Option (Ty × ℕ)) (n : ℕ) → TakesCall o n → IsSome o
  known-some None n h = absurd h
  known-some (Some f) n h = refl

  module _ (input : List ℕ) where
    joined : (ss ts : List Site) → All TypedSite ss → All TypedSite ts → All TypedSite (ss ++ ts)
    joined ss ts h k = All-append TypedSite ss ts h k

    own_typed : (s : Site) → TypedSite s → All TypedSite (own_site input s)
    own_typed s h =
        elim (is_other input s.name) as (λ (b : Bool). All TypedSite (elim b [ true ↦ s ∷ [] | false ↦ [] ])) [
          | true ↦ All-cons TypedSite s [] h (All-nil TypedSite)
          | false ↦ All-nil TypedSite
        ]

    mutual
      pub all_typed : (e : Term) → IsSome (type_of named functions e) → HasFewIndices e → All TypedSite (sites input e)
      all_typed (Number t n) h few = All-nil TypedSite
      all_typed (Name name) h few = All-nil TypedSite
      all_typed (Call name at) h few =
          let answer = answer_type (functions name) (index_count at) in
          let s = some_only_if (are_indices named functions at) answer h in
          let t = some_answer (functions name) (index_count at) (some_of (only_if (are_indices named functions at) answer) answer s.1 h) in
          joined (sites_of_all input at) (own_site input (record { name = name; at = at })) (all_typed_of_all at s.0 few.1)
          (own_typed (record { name = name; at = at }) (record { typed = s.0; known = known-some (functions name) (index_count at) t.takes; takes = t.takes; few = few.1 }))
      all_typed (Minus a) h few = all_typed a h few
      all_typed (Binary op a b) h few =
          let both = some_operator op (common (type_of named functions a) (type_of named functions b)) h in
          let s = some_common (type_of named functions a) (type_of named functions b) both in
          let some = some_of _ _ s.is both in
          joined (sites input a) (sites input b) (all_typed a some few.0) (all_typed b (some_of _ _ s.same some) few.1)
      all_typed (Clamp a l u) h few =
          let s = some_common (type_of named functions a) (common (type_of named functions l) (type_of named functions u)) h in
          let some = some_of _ _ s.is h in
          let both = some_common (type_of named functions l) (type_of named functions u) (some_of _ _ s.same some) in
          let low = some_of _ _ (s.same ∙ both.is) some in
          joined (sites input a ++ sites input l) (sites input u)
          (joined (sites input a) (sites input l) (all_typed a some few.0) (all_typed l low few.1)) (all_typed u (some_of _ _ both.same low) few.2)
      all_typed (Cast t a) h few = all_typed a (some_only_if (is_some (type_of named functions a)) (Some t) h).0 few
      all_typed (Choice c a b) h few =
          let arms = common (type_of named functions a) (type_of named functions b) in
          let g = some_only_if (is_typed named functions c) arms h in
          let some_arms = some_of _ arms g.1 h in
          let s = some_common (type_of named functions a) (type_of named functions b) some_arms in
          let some = some_of _ _ s.is some_arms in
          joined (sites_of_test input c ++ sites input a) (sites input b)
          (joined (sites_of_test input c) (sites input a) (all_typed_of_test c g.0 few.0) (all_typed a some few.1)) (all_typed b (some_of _ _ s.same some) few.2)

      all_typed_of_test : (c : Test) → IsTrue (is_typed named functions c) → EachCallOfTest (λ name at. index_count at ≤ 4) c → All TypedSite (sites_of_test input c)
      all_typed_of_test (Compares by a b) h few =
          let s = some_common (type_of named functions a) (type_of named functions b) h in
          let some = some_of _ _ s.is h in
          joined (sites input a) (sites input b) (all_typed a some few.0) (all_typed b (some_of _ _ s.same some) few.1)
      all_typed_of_test (Fails c) h few = all_typed_of_test c h few
      all_typed_of_test (Both c d) h few =
          let b = both_true (is_typed named functions c) (is_typed named functions d) h in
          joined (sites_of_test input c) (sites_of_test input d) (all_typed_of_test c b.0 few.0) (all_typed_of_test d b.1 few.1)
      all_typed_of_test (Either c d) h few =
          let b = both_true (is_typed named functions c) (is_typed named functions d) h in
          joined (sites_of_test input c) (sites_of_test input d) (all_typed_of_test c b.0 few.0) (all_typed_of_test d b.1 few.1)

      pub all_typed_of_all : (at : Terms) → IsTrue (are_indices named functions at) → EachCallOfAll (λ name at. index_count at ≤ 4) at → All TypedSite (sites_of_all input at)
      all_typed_of_all End h few = All-nil TypedSite
      all_typed_of_all (More a rest) h few =
          let b = both_true (is_index (type_of named functions a)) (are_indices named functions rest) h in
          joined (sites input a) (sites_of_all input rest) (all_typed a (some_of _ _ (sym (index-is (type_of named functions a) b.0)) refl) few.0) (all_typed_of_all rest b.1 few.1)

-- what holds of all holds of the n-th
pub All-get : {A : Type 0} (P : A → Type 0) (xs : List A) (n : ℕ) (x : A) → slice_get xs n ≡ Some x → All P xs → P x
All-get P [] n x e h = absurd (cc)
All-get P (y ∷ ys) zero x e h = let same : y ≡ x = cc in subst P same (All-head P y ys h)
All-get P (y ∷ ys) (suc n) x e h = All-get P ys n x e (All-tail P y ys h)

pub All-take : {A : Type 0} (P : A → Type 0) (xs : List A) (n : ℕ) → All P xs → All P (take n xs)
All-take P [] zero h = All-nil P
All-take P [] (suc n) h = All-nil P
All-take P (x ∷ xs) zero h = All-nil P
All-take P (x ∷ xs) (suc n) h = All-cons P x (take n xs) (All-head P x xs h) (All-take P xs n (All-tail P x xs h))

pub All-through : {A B : Type 0} (P : A → Type 0) (Q : B → Type 0) (f : A → B) (xs : List A) → ((x : A) → P x → Q (f x)) → All P xs → All Q (map f xs)
All-through P Q f [] g h = All-nil Q
All-through P Q f (x ∷ xs) g h = All-cons Q (f x) (map f xs) (g x (All-head P x xs h)) (All-through P Q f xs g (All-tail P x xs h))

pub All-filtered : {A : Type 0} (P : A → Type 0) (test : A → Bool) (xs : List A) → ((x : A) → test x ≡ false → P x) → All P (filter test xs) → All P xs
All-filtered P test [] f h = All-nil P
All-filtered {A} P test (x ∷ xs) f h =
    let b : Bool = test x in
    let go = elim b as (λ (b : Bool). (test x ≡ b) → All P (cond b (x ∷ filter test xs) (filter test xs)) → All P (x ∷ xs)) [
      | true ↦ λ e k. All-cons P x xs (All-head P x (filter test xs) k) (All-filtered P test xs f (All-tail P x (filter test xs) k))
      | false ↦ λ e k. All-cons P x xs (f x e) (All-filtered P test xs f k)
    ] in
    go refl h

-- what calls cost, those of the input costing nothing
pub sum_by-filtered : {A : Type 0} (cost : A → ℕ) (test : A → Bool) (xs : List A) → ((x : A) → test x ≡ false → cost x ≡ 0) → sum_by cost (filter test xs) ≡ sum_by cost xs
sum_by-filtered cost test [] f = refl
sum_by-filtered {A} cost test (x ∷ xs) f =
    let more : sum_by cost (filter test xs) ≡ sum_by cost xs = sum_by-filtered cost test xs f in
    let go = elim (test x) as (λ (b : Bool). (test x ≡ b) → sum_by cost (cond b (x ∷ filter test xs) (filter test xs)) ≡ cost x + sum_by cost xs) [
      | true ↦ λ e. sum_by-cons cost x (filter test xs) ∙ ap (λ n. cost x + n) more
      | false ↦ λ e. let zero_cost : cost x ≡ 0 = f x e in omega (arith, more, zero_cost)
    ] in
    go refl ∙ sym (sum_by-cons cost x xs)

-- the sites of one more of a list
sites-two : (input : List ℕ) (xs ys : List Expr) → sites_of_all input (indices (list_terms (xs ++ ys))) ≡ sites_of_all input (indices (list_terms xs)) ++ sites_of_all input (indices (list_terms ys))
sites-two input [] ys = refl
sites-two input (x ∷ xs) ys =
    ap (λ (l : List Site). sites input (term_of x) ++ l) (sites-two input xs ys)
    ∙ sym (append_assoc (sites input (term_of x)) (sites_of_all input (indices (list_terms xs))) (sites_of_all input (indices (list_terms ys))))

pub sites-more : (input : List ℕ) (at : List Expr) (i : ℕ) (x : Expr) → i < length at → x ≡ get_or at i x →
    sites_of_all input (indices (list_terms (take (i + 1) at))) ≡ sites_of_all input (indices (list_terms (take i at))) ++ sites input (term_of x)
sites-more input at i x lt is =
    let e : take (i + 1) at ≡ take i at ++ x ∷ [] = take_more at i x lt ∙ ap (λ y. take i at ++ y ∷ []) (sym is) in
    ap (λ (xs : List Expr). sites_of_all input (indices (list_terms xs))) e ∙ sites-two input (take i at) (x ∷ [])
    ∙ ap (λ (l : List Site). sites_of_all input (indices (list_terms (take i at))) ++ l) (append-nil (sites input (term_of x)))
