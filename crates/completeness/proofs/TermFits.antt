-- What a text can say of names and expressions, a plan's text can say too, where brackets do not stand too deep.
use Rattle.std.proofs.Common.{◌≡◌, ℕ, suc, ◌-◌, ◌^◌, ◌≤◌, ◌<◌, Bool, true, false, List, [], ◌∷◌, length, get_or, take, refl, sym, ap, subst, ◌∙◌, arith, ℤ, pos, ◌≤ℤ◌}
use Rattle.std.specs.Prelude.{max, nat_lt, nat_le, int_le, not, ◌&&◌, ◌||◌, ◌==◌}
use Rattle.std.specs.List.{prefix_len, list_all}
use Rattle.std.specs.Fmt.{decimal}
use Rattle.std.specs.Str.Parse.{digits_value}
use Rattle.std.proofs.lemmas.Bool.Decides.{nat_tests}
use Rattle.std.proofs.lemmas.Int.{ints}
use Rattle.std.proofs.lemmas.List.{append-nil, take_at}
use Rattle.std.proofs.lemmas.Fmt.{decimal_is_IsNumeral, decimal_nonempty, decimal_digit, first_decimal}
use Rattle.tree.specs.Token.Spelling.{is_digit}
use Rattle.tree.specs.Term.{Term, Number, Name, Call, Minus, Binary, Clamp, Cast, Choice, Terms, End, More, Test, Compares, Fails, Both, Either}
use Rattle.tree.specs.Tree.{depth, test_depth, depths}
use Rattle.spelling.specs.Words.Fitting.{is_name}
use Rattle.spelling.specs.Words.Reading.{begins, has_large_behind}
use Rattle.spelling.specs.Terms.Fitting.{is_load, is_called, inside, fits_within, test_fits, fits_row, all_fit}
use Rattle.spelling.proofs.Runs.{both, run_is, decimal_passes}
use Rattle.algo.specs.Words.{IsName}
use Rattle.algo.specs.Written.{IsWrittenBy, IsTestWrittenBy, AreIndicesWrittenBy, AreWrittenBy}
use Rattle.algo.proofs.Words.{passes_as_name}

-- ---- names

pub name_fits : (x : List ℕ) → IsName x → is_name x ≡ true
name_fits = passes_as_name

-- ---- loads

digits_are_small : (b : ℕ) (ds : List ℕ) → is_digit b ≡ true → list_all is_digit ds ≡ true → has_large_behind b ds ≡ false
digits_are_small b [] digit all = refl
digits_are_small b (d ∷ ds) digit all =
    let parts = both (is_digit d) (list_all is_digit ds) all in
    let rest = digits_are_small d ds parts.0 parts.1 in
    rw (digit, rest) refl

is_below : (n : ℕ) → n < 2 ^ 63 → nat_le (2 ^ 63) n ≡ false
is_below n less = grind (arith, nat_tests)

run_is_small : (ds : List ℕ) → list_all is_digit ds ≡ true → digits_value 10 ds < 2 ^ 63 → has_large_behind 64 ds ≡ false
run_is_small [] all less = refl
run_is_small (d ∷ ds) all less =
    let parts = both (is_digit d) (list_all is_digit ds) all in
    let rest = digits_are_small d ds parts.0 parts.1 in
    let long : prefix_len is_digit (d ∷ ds) ≡ length (d ∷ ds) = ap (prefix_len is_digit) (sym (append-nil (d ∷ ds))) ∙ run_is is_digit (d ∷ ds) [] all refl in
    let whole : take (prefix_len is_digit (d ∷ ds)) (d ∷ ds) ≡ d ∷ ds =
    ap (λ (n : ℕ). take n (d ∷ ds)) long ∙ ap (take (length (d ∷ ds))) (sym (append-nil (d ∷ ds))) ∙ take_at (d ∷ ds) [] (length (d ∷ ds)) refl in
    let value : nat_le (2 ^ 63) (digits_value 10 (take (prefix_len is_digit (d ∷ ds)) (d ∷ ds))) ≡ false =
    ap (λ (xs : List ℕ). nat_le (2 ^ 63) (digits_value 10 xs)) whole ∙ is_below (digits_value 10 (d ∷ ds)) less in
    λ i. (true && value i) || rest i

zero_alone : (n : ℕ) (b : Bool) → (n == 0) ≡ b → n < 2 ^ 63 → (length (decimal n) == 1 || not (begins 48 (decimal n))) ≡ true
zero_alone n true e less =
    let none : n ≡ 0 = grind (arith, nat_tests) in
    subst (λ (m : ℕ). (length (decimal m) == 1 || not (begins 48 (decimal m))) ≡ true) (sym none)
    (ap (λ (ds : List ℕ). length ds == 1 || not (begins 48 ds)) (decimal_digit 0 (omega arith)))
zero_alone n false e less =
    let some : 0 < n = grind (arith, nat_tests) in
    let first : 48 < get_or (decimal n) 0 0 = first_decimal n some (omega arith) in
    let other : begins 48 (decimal n) ≡ false = grind (arith, nat_tests) in
    or_true (length (decimal n) == 1) (ap not other)
  where
    or_true : (a : Bool) {b : Bool} → b ≡ true → (a || b) ≡ true
    or_true true h = refl
    or_true false h = h

some_test : (n : ℕ) → 0 < n → nat_lt 0 n ≡ true
some_test n h = grind (arith, nat_tests)

-- the name of a load by a claim, whose number has at most 63 bits
pub load_fits : (n : ℕ) → n < 2 ^ 63 → is_load (64 ∷ decimal n) ≡ true
load_fits n less =
    let small : n < 2 ^ 64 = omega arith in
    let some = some_test (length (decimal n)) (decimal_nonempty n small) in
    let all = decimal_passes n small in
    let lead = zero_alone n (n == 0) refl less in
    let value : digits_value 10 (decimal n) < 2 ^ 63 = omega (arith, (decimal_is_IsNumeral n small).1) in
    let rest = run_is_small (decimal n) all value in
    λ i. (some i && all i && lead i) && not (rest i)

pub load_is_called : (n : ℕ) → n < 2 ^ 63 → is_called (64 ∷ decimal n) ≡ true
load_is_called n less = or_second (is_name (64 ∷ decimal n)) (load_fits n less)
  where
    or_second : (a : Bool) {b : Bool} → b ≡ true → (a || b) ≡ true
    or_second true h = refl
    or_second false h = h

pub name_is_called : (x : List ℕ) → IsName x → is_called x ≡ true
name_is_called x h = ap (λ (b : Bool). b || is_load x) (name_fits x h)

-- ---- expressions

at_most : (a b : ℤ) → a ≤ℤ b → int_le a b ≡ true
at_most a b h = grind (arith, nat_tests, ints)

-- one bracket more
opened : (k n : ℕ) (f : ℕ → Bool) → suc n ≤ k → f (k - 1) ≡ true → inside k f ≡ true
opened k n f le h = let some = some_test k (omega arith) in λ i. some i && h i

module _ (IsCalled : List ℕ → Type 0) (called : (x : List ℕ) → IsCalled x → is_called x ≡ true) where
  mutual
    -- of so many levels, with as many brackets
    pub written_fits : (t : Term) (k : ℕ) → IsWrittenBy IsCalled t → depth t ≤ k → fits_within t k ≡ true
    written_fits (Number t n) k h le = let from = at_most (pos 0) n h.from in let to = at_most n _ h.to in λ i. from i && to i
    written_fits (Name x) k h le = name_fits x h
    written_fits (Call x at) k h le =
        let name = called x h.0 in
        let row = opened k (depths at) (λ j. fits_row at j) (omega arith) (row_fits at (k - 1) h.1 (omega arith)) in
        λ i. name i && row i
    written_fits (Minus a) k h le = opened k (depth a) (λ j. fits_within a j) (omega arith) (written_fits a (k - 1) h (omega arith))
    written_fits (Binary op a b) k h le =
        let x = written_fits a (k - 1) h.0 (omega arith) in
        let y = written_fits b (k - 1) h.1 (omega arith) in
        opened k (max (depth a) (depth b)) (λ j. fits_within a j && fits_within b j) (omega arith) (λ i. x i && y i)
    written_fits (Clamp a l u) k h le =
        let x = written_fits a (k - 1) h.0 (omega arith) in
        let y = written_fits l (k - 1) h.1 (omega arith) in
        let z = written_fits u (k - 1) h.2 (omega arith) in
        opened k (max (depth a) (max (depth l) (depth u))) (λ j. fits_within a j && fits_within l j && fits_within u j) (omega arith) (λ i. x i && y i && z i)
    written_fits (Cast t a) k h le = opened k (depth a) (λ j. fits_within a j) (omega arith) (written_fits a (k - 1) h (omega arith))
    written_fits (Choice c a b) k h le =
        let x = written_test_fits c (k - 1) h.0 (omega arith) in
        let y = written_fits a (k - 1) h.1 (omega arith) in
        let z = written_fits b (k - 1) h.2 (omega arith) in
        opened k (max (test_depth c) (max (depth a) (depth b))) (λ j. test_fits c j && fits_within a j && fits_within b j) (omega arith) (λ i. x i && y i && z i)

    written_test_fits : (c : Test) (k : ℕ) → IsTestWrittenBy IsCalled c → test_depth c ≤ k → test_fits c k ≡ true
    written_test_fits (Compares by a b) k h le =
        let x = written_fits a k h.0 (omega arith) in
        let y = written_fits b k h.1 (omega arith) in
        λ i. x i && y i
    written_test_fits (Fails c) k h le = opened k (test_depth c) (λ j. test_fits c j) (omega arith) (written_test_fits c (k - 1) h (omega arith))
    written_test_fits (Both c d) k h le =
        let x = written_test_fits c (k - 1) h.0 (omega arith) in
        let y = written_test_fits d (k - 1) h.1 (omega arith) in
        opened k (max (test_depth c) (test_depth d)) (λ j. test_fits c j && test_fits d j) (omega arith) (λ i. x i && y i)
    written_test_fits (Either c d) k h le =
        let x = written_test_fits c (k - 1) h.0 (omega arith) in
        let y = written_test_fits d (k - 1) h.1 (omega arith) in
        opened k (max (test_depth c) (test_depth d)) (λ j. test_fits c j && test_fits d j) (omega arith) (λ i. x i && y i)

    row_fits : (at : Terms) (k : ℕ) → AreIndicesWrittenBy IsCalled at → depths at ≤ k → fits_row at k ≡ true
    row_fits End k h le = absurd h
    row_fits (More a rest) k h le =
        let x = written_fits a k h.0 (omega arith) in
        let y = others_fit rest k h.1 (omega arith) in
        λ i. x i && y i

    others_fit : (at : Terms) (k : ℕ) → AreWrittenBy IsCalled at → depths at ≤ k → all_fit at k ≡ true
    others_fit End k h le = refl
    others_fit (More a rest) k h le =
        let x = written_fits a k h.0 (omega arith) in
        let y = others_fit rest k h.1 (omega arith) in
        λ i. x i && y i
