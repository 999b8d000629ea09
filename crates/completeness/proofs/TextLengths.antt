-- How long the texts of expressions and forms are.
use Rattle.std.proofs.Common.{◌≡◌, ℕ, zero, suc, ◌+◌, ◌*◌, ◌<◌, ◌≤◌, ◌^◌, Bool, true, false, ◌&&◌, List, [], ◌∷◌, ◌++◌, length, length-append, refl, arith}
use Rattle.std.specs.Prelude.{ℤ, pos, negsuc, ◌≤ℤ◌, nat_lt, nat_le}
use Rattle.std.specs.List.{AllByRecursion, flat_map, list_all}
use Rattle.std.specs.Int.RustNames.{unsigned_abs}
use Rattle.std.specs.Fmt.{decimal}
use Rattle.std.proofs.lemmas.Bool.Decides.{nat_tests}
use Rattle.std.proofs.lemmas.Fmt.{length-decimal-le}
use Rattle.std.proofs.lemmas.Int.{ints}
use Rattle.numeric.specs.declared.ty.Ty.{Ty}
use Rattle.numeric.specs.declared.ty.Ty.TheVariants.{U8, U16, U32, I8, I16, I32}
use Rattle.numeric.specs.declared.op.Op.{Op}
use Rattle.numeric.specs.declared.op.Op.TheVariants as op
use Rattle.numeric.specs.declared.op.Comparison.{Comparison}
use Rattle.numeric.specs.declared.op.Comparison.TheVariants as by
use Rattle.numeric.specs.Wrap.{greatest}
use Rattle.tree.specs.Term.{Term, Number, Name, Call, Minus, Binary, Clamp, Cast, Choice, Terms, End, More, Test, Compares, Fails, Both, Either}
use Rattle.tree.specs.Tree.{node_count, cond_count, node_counts}
use Rattle.tree.specs.Token.Spelling.{type_text}
use Rattle.algo.specs.Written.{IsLiteral, IsWrittenBy, IsTestWrittenBy, AreWrittenBy}
use Rattle.spelling.specs.Terms.Spelling.{suffix_text, operator_word, operator_sign, comparison_text, comma_before, term_text, test_text, row_text}
use Rattle.spelling.specs.Sizes.Sizes.{fits_size, fits_sizes}
use Rattle.spelling.specs.Words.Fitting.{fits_term, fits_form, fits_forms, fits_span, fits_region}
use Rattle.spelling.specs.Words.Spelling.{count_text, number_text, signed_text, symbol_text, separated_text, bracketed_text, term_text as multiple_text, form_text, forms_text, span_text}
use Rattle.spelling.specs.Words.Spelling.{region_text, counts_text}
use Rattle.lin.specs.Forms.{Form, is_within_limits}
use Rattle.lin.specs.declared.form.Multiple.{Multiple}
use Rattle.lin.specs.declared.span.Span1.{Span1}

-- ---- numbers

-- a number below a power of ten
signed_long : (k : ℕ) (z : ℤ) → 0 < k → unsigned_abs z < 10 ^ k → unsigned_abs z < 2 ^ 63 → length (number_text z) ≤ k + 1
signed_long k (pos n) some below small = (let most = length-decimal-le k n some (omega (arith, ints, below)) (omega (arith, ints, small)) in omega (arith, most))
signed_long k (negsuc n) some below small = (let most = length-decimal-le k (suc n) some (omega (arith, ints, below)) (omega (arith, ints, small)) in omega (arith, most))

-- ---- expressions

type_long : (t : Ty) → length (type_text t) ≤ 3
type_long U8 = omega arith
type_long U16 = omega arith
type_long U32 = omega arith
type_long I8 = omega arith
type_long I16 = omega arith
type_long I32 = omega arith

suffix_long : (t : Ty) → length (suffix_text t) ≤ 3
suffix_long U8 = omega arith
suffix_long U16 = omega arith
suffix_long U32 = omega arith
suffix_long I8 = omega arith
suffix_long I16 = omega arith
suffix_long I32 = omega arith

greatest_small : (t : Ty) → greatest t ≤ℤ pos 4294967295
greatest_small U8 = omega (arith, ints)
greatest_small U16 = omega (arith, ints)
greatest_small U32 = omega (arith, ints)
greatest_small I8 = omega (arith, ints)
greatest_small I16 = omega (arith, ints)
greatest_small I32 = omega (arith, ints)

literal_long : (t : Ty) (n : ℤ) → IsLiteral t n → length (number_text n) ≤ 11
literal_long t n h =
    let from = h.from in
    let to = h.to in
    let most = greatest_small t in
    signed_long 10 n (omega arith) (omega (arith, ints, from, to, most)) (omega (arith, ints, from, to, most))

word_long : (o : Op) → length (operator_word o) ≤ 3
word_long op.Min = omega arith
word_long op.Max = omega arith
word_long op.Add = omega arith
word_long op.Sub = omega arith
word_long op.Mul = omega arith
word_long op.Div = omega arith
word_long op.Rem = omega arith

sign_long : (o : Op) → length (operator_sign o) ≤ 1
sign_long op.Min = omega arith
sign_long op.Max = omega arith
sign_long op.Add = omega arith
sign_long op.Sub = omega arith
sign_long op.Mul = omega arith
sign_long op.Div = omega arith
sign_long op.Rem = omega arith

comparison_long : (c : Comparison) → length (comparison_text c) ≤ 2
comparison_long by.Less = omega arith
comparison_long by.AtMost = omega arith
comparison_long by.Greater = omega arith
comparison_long by.AtLeast = omega arith
comparison_long by.Equal = omega arith
comparison_long by.Different = omega arith

comma_long : (n : ℕ) → length (comma_before n) ≤ 1
comma_long zero = omega arith
comma_long (suc n) = omega arith

-- names of at most 16 bytes, and loads: each node takes 18 bytes at most, with a comma behind the last one
module _ (IsCalled : List ℕ → Type 0) (short : (x : List ℕ) → IsCalled x → length x ≤ 16) where
  mutual
    pub term_long : (e : Term) → IsWrittenBy IsCalled e → length (term_text e) + 1 ≤ 18 * node_count e
    term_long (Number t n) h =
        let digits = literal_long t n h in
        let suffix = suffix_long t in
        let all = length-append (number_text n) (suffix_text t) in
        omega (arith, digits, suffix, all)
    term_long (Name x) h = (let name = h.short in omega (arith, name))
    term_long (Call x End) h = absurd h.1
    term_long (Call x (More a rest)) h =
        let name = short x h.0 in
        let one = term_long a h.1.0 in
        let more = row_long 1 rest h.1.1 in
        let row = length-append (term_text a) (row_text 1 rest) in
        let close = length-append (term_text a ++ row_text 1 rest) (93 ∷ []) in
        let all = length-append x (91 ∷ ((term_text a ++ row_text 1 rest) ++ 93 ∷ [])) in
        omega (arith, name, one, more, row, close, all)
    term_long (Minus a) h =
        let one = term_long a h in
        let close = length-append (term_text a) (41 ∷ []) in
        omega (arith, one, close)
    term_long (Binary o a b) h =
        let one = term_long a h.0 in
        let two = term_long b h.1 in
        let word = word_long o in
        let sign = sign_long o in
        let right = length-append (operator_sign o) (term_text b) in
        let inner = length-append (term_text a) (operator_sign o ++ term_text b) in
        let close = length-append (term_text a ++ (operator_sign o ++ term_text b)) (41 ∷ []) in
        let all = length-append (operator_word o) (40 ∷ ((term_text a ++ (operator_sign o ++ term_text b)) ++ 41 ∷ [])) in
        omega (arith, one, two, word, sign, right, inner, close, all)
    term_long (Clamp a l u) h =
        let one = term_long a h.0 in
        let two = term_long l h.1 in
        let three = term_long u h.2 in
        let last = length-append (term_text l) (44 ∷ term_text u) in
        let first = length-append (term_text a) (44 ∷ (term_text l ++ (44 ∷ term_text u))) in
        let close = length-append (term_text a ++ (44 ∷ (term_text l ++ (44 ∷ term_text u)))) (41 ∷ []) in
        omega (arith, one, two, three, last, first, close)
    term_long (Cast t a) h =
        let one = term_long a h in
        let word = type_long t in
        let close = length-append (term_text a) (41 ∷ []) in
        let all = length-append (type_text t) (40 ∷ (term_text a ++ 41 ∷ [])) in
        omega (arith, one, word, close, all)
    term_long (Choice c a b) h =
        let one = test_long c h.0 in
        let two = term_long a h.1 in
        let three = term_long b h.2 in
        let last = length-append (term_text a) (44 ∷ term_text b) in
        let first = length-append (test_text c) (44 ∷ (term_text a ++ (44 ∷ term_text b))) in
        let close = length-append (test_text c ++ (44 ∷ (term_text a ++ (44 ∷ term_text b)))) (41 ∷ []) in
        omega (arith, one, two, three, last, first, close)

    test_long : (c : Test) → IsTestWrittenBy IsCalled c → length (test_text c) + 1 ≤ 18 * cond_count c
    test_long (Compares o a b) h =
        let one = term_long a h.0 in
        let two = term_long b h.1 in
        let sign = comparison_long o in
        let right = length-append (comparison_text o) (term_text b) in
        let all = length-append (term_text a) (comparison_text o ++ term_text b) in
        omega (arith, one, two, sign, right, all)
    test_long (Fails c) h =
        let one = test_long c h in
        let close = length-append (test_text c) (41 ∷ []) in
        omega (arith, one, close)
    test_long (Both c d) h =
        let one = test_long c h.0 in
        let two = test_long d h.1 in
        let inner = length-append (test_text c) (44 ∷ test_text d) in
        let close = length-append (test_text c ++ (44 ∷ test_text d)) (41 ∷ []) in
        omega (arith, one, two, inner, close)
    test_long (Either c d) h =
        let one = test_long c h.0 in
        let two = test_long d h.1 in
        let inner = length-append (test_text c) (44 ∷ test_text d) in
        let close = length-append (test_text c ++ (44 ∷ test_text d)) (41 ∷ []) in
        omega (arith, one, two, inner, close)

    row_long : (n : ℕ) (at : Terms) → AreWrittenBy IsCalled at → length (row_text n at) ≤ 18 * node_counts at
    row_long n End h = omega arith
    row_long n (More a rest) h =
        let one = term_long a h.0 in
        let more = row_long (suc n) rest h.1 in
        let comma = comma_long n in
        let right = length-append (term_text a) (row_text (suc n) rest) in
        let all = length-append (comma_before n) (term_text a ++ row_text (suc n) rest) in
        omega (arith, one, more, comma, right, all)

-- ---- forms

both : (a b : Bool) → (a && b) ≡ true → (a ≡ true) × (b ≡ true)
both true b h = (refl, h)
both false b h = absurd (cc h)

less_so : (m n : ℕ) → nat_lt m n ≡ true → m < n
less_so m n h = grind (arith, nat_tests, h)

at_most_so : (m n : ℕ) → nat_le m n ≡ true → m ≤ n
at_most_so m n h = grind (arith, nat_tests, h)

-- a number of 63 bits
pub size_long : (n : ℕ) → fits_size n ≡ true → length (decimal n) ≤ 19
size_long n h = (let less = less_so n (2 ^ 63) h in length-decimal-le 19 n (omega arith) (omega (arith, less)) (omega (arith, less)))

factor_long : (z : ℤ) → unsigned_abs z ≤ 2 ^ 20 → length (signed_text z) ≤ 8
factor_long (pos n) h = (let most = length-decimal-le 7 n (omega arith) (omega (arith, ints, h)) (omega (arith, ints, h)) in omega (arith, most))
factor_long (negsuc n) h = (let most = length-decimal-le 7 (suc n) (omega arith) (omega (arith, ints, h)) (omega (arith, ints, h)) in omega (arith, most))

multiple_long : (t : Multiple) → fits_term t ≡ true → nat_le (unsigned_abs t.factor) (2 ^ 20) ≡ true → length (multiple_text t) ≤ 29
unfolding multiple_text
multiple_long t fits near =
    let symbol = size_long t.symbol (both _ _ (both _ _ fits).0).0 in
    let factor = factor_long t.factor (at_most_so (unsigned_abs t.factor) (2 ^ 20) near) in
    let all = length-append (signed_text t.factor) (42 ∷ symbol_text t.symbol) in
    omega (arith, symbol, factor, all)

multiples_long : (ts : List Multiple) → list_all fits_term ts ≡ true → list_all (λ t. nat_le (unsigned_abs t.factor) (2 ^ 20)) ts ≡ true → length (flat_map multiple_text ts) ≤ 29 * length ts
multiples_long [] fits near = omega arith
multiples_long (t ∷ ts) fits near =
    let f = both _ _ fits in
    let n = both _ _ near in
    let one = multiple_long t f.0 n.0 in
    let rest = multiples_long ts f.1 n.1 in
    let all = length-append (multiple_text t) (flat_map multiple_text ts) in
    omega (arith, one, rest, all)

-- a form within the limits of forms
pub form_long : (f : Form) → fits_form f ≡ true → is_within_limits f ≡ true → length (form_text f) ≤ 246
unfolding form_text
form_long f fits near =
    let g = both _ _ fits in
    let h = both _ _ g.0 in
    let n = both _ _ near in
    let m = both _ _ n.0 in
    let few = at_most_so (length f.terms) 8 m.0 in
    let constant = at_most_so (unsigned_abs f.constant) (2 ^ 40) n.1 in
    let digits = signed_long 13 f.constant (omega arith) (omega (arith, constant)) (omega (arith, constant)) in
    let terms = multiples_long f.terms h.1 m.1 in
    let all = length-append (number_text f.constant) (flat_map multiple_text f.terms) in
    omega (arith, few, digits, terms, all)

-- ---- lists

-- parts of so many bytes at most, and a byte between one and the next
pub separated_long : {X : Type 0} (s m : ℕ) (text : X → List ℕ) (xs : List X) → AllByRecursion (λ x. length (text x) ≤ m) xs → length (separated_text s text xs) ≤ (m + 1) * length xs
separated_long s m text [] h = omega arith
separated_long s m text (x ∷ []) h = (let one = h.0 in times_one (length (text x)) m one)
  where
    times_one : (a m : ℕ) → a ≤ m → a ≤ (m + 1) * 1
    times_one a m le = omega (arith, le)
separated_long s m text (x ∷ y ∷ ys) h =
    let one = h.0 in
    let rest = separated_long s m text (y ∷ ys) h.1 in
    let all = length-append (text x) (s ∷ separated_text s text (y ∷ ys)) in
    one_more (length (separated_text s text (x ∷ y ∷ ys))) (length (text x)) (length (separated_text s text (y ∷ ys))) m (length (y ∷ ys)) one rest (omega (arith, all))
  where
    one_more : (whole first more m n : ℕ) → first ≤ m → more ≤ (m + 1) * n → whole ≤ first + (more + 1) → whole ≤ (m + 1) * suc n
    one_more whole first more m n one rest all = (let times : (m + 1) * suc n ≡ (m + 1) * n + (m + 1) = nonlinear m n in omega (arith, one, rest, all, times))
      where
        nonlinear : (m n : ℕ) → (m + 1) * suc n ≡ (m + 1) * n + (m + 1)
        nonlinear m n = grind arith

pub bracketed_long : {X : Type 0} (s m : ℕ) (text : X → List ℕ) (xs : List X) → AllByRecursion (λ x. length (text x) ≤ m) xs → length (bracketed_text s text xs) ≤ (m + 1) * length xs + 2
bracketed_long s m text xs h =
    let inner = separated_long s m text xs h in
    let close = length-append (separated_text s text xs) (93 ∷ []) in
    omega (arith, inner, close)

-- ---- spans

abbrev pub AreNear : List Form → Type 0
AreNear fs = list_all is_within_limits fs ≡ true

pub forms_long : (fs : List Form) → fits_forms fs ≡ true → AreNear fs → length (forms_text fs) ≤ 988
forms_long fs fits near =
    let f = both _ _ fits in
    let g = both _ _ f.0 in
    let few = at_most_so (length fs) 4 g.1 in
    let all = separated_long 44 246 form_text fs (each fs f.1 near) in
    omega (arith, few, all)
  where
    each : (gs : List Form) → list_all fits_form gs ≡ true → AreNear gs → AllByRecursion (λ f. length (form_text f) ≤ 246) gs
    each [] h k = tt
    each (g ∷ gs) h k = (let a = both _ _ h in let b = both _ _ k in (form_long g a.0 b.0, each gs a.1 b.1))

abbrev pub IsNearSpan : Span1 → Type 0
IsNearSpan x = AreNear x.lower × AreNear x.upper

pub span_long : (x : Span1) → fits_span x ≡ true → IsNearSpan x → length (span_text x) ≤ 1977
unfolding span_text
span_long x fits near =
    let f = both _ _ fits in
    let lower = forms_long x.lower f.0 near.0 in
    let upper = forms_long x.upper f.1 near.1 in
    let all = length-append (forms_text x.lower) (58 ∷ forms_text x.upper) in
    omega (arith, lower, upper, all)

pub region_long : (xs : List Span1) → fits_region xs ≡ true → AllByRecursion IsNearSpan xs → length xs ≤ 10 → length (region_text xs) ≤ 19782
unfolding region_text
region_long xs fits near few =
    let all = bracketed_long 59 1977 span_text xs (each xs fits near) in
    omega (arith, few, all)
  where
    each : (ys : List Span1) → fits_region ys ≡ true → AllByRecursion IsNearSpan ys → AllByRecursion (λ x. length (span_text x) ≤ 1977) ys
    each [] h k = tt
    each (y ∷ ys) h k = (let a = both _ _ h in (span_long y a.0 k.0, each ys a.1 k.1))

sizes_each : (ns : List ℕ) → fits_sizes ns ≡ true → AllByRecursion (λ n. length (count_text n) ≤ 19) ns
sizes_each [] h = tt
sizes_each (n ∷ ns) h = (let a = both _ _ h in (size_long n a.0, sizes_each ns a.1))

pub sizes_long : (ns : List ℕ) → fits_sizes ns ≡ true → length (separated_text 32 count_text ns) ≤ 20 * length ns
sizes_long ns fits = separated_long 32 19 count_text ns (sizes_each ns fits)

pub counts_long : (ns : List ℕ) → fits_sizes ns ≡ true → length (counts_text ns) ≤ 20 * length ns + 2
unfolding counts_text
counts_long ns fits = bracketed_long 44 19 count_text ns (sizes_each ns fits)
