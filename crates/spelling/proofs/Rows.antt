-- The indices of a call, one after another.
use Rattle.std.proofs.Common.{◌≡◌, ℕ, suc, ◌+◌, ◌<◌, Bool, true, false, List, [], ◌∷◌, ◌++◌, length, take, drop, drop-cons, get_or, refl, sym, ap, ◌∙◌, append_assoc, length-take-le, arith}
use Rattle.std.specs.Prelude.{◌&&◌}
use Rattle.std.proofs.lemmas.List.{take_more, append-nil}
use Rattle.tree.specs.declared.expr.Expr.{Expr}
use Rattle.tree.specs.Term.{term_of, list_terms, indices}
use Rattle.spelling.specs.Terms.Spelling.{term_text, row_text, comma_before}
use Rattle.spelling.specs.Terms.Fitting.{fits_within, fits_row, all_fit}

more_from : (n m : ℕ) (at : List Expr) (x : Expr) → m ≡ n + length at
    → row_text n (indices (list_terms at)) ++ (comma_before m ++ term_text (term_of x)) ≡ row_text n (indices (list_terms (at ++ x ∷ [])))
more_from n m [] x is =
    let k : m ≡ n = omega (arith, is) in
    rw k (ap (λ (t : List ℕ). comma_before n ++ t) (sym (append-nil (term_text (term_of x)))))
more_from n m (a ∷ at) x is =
    let k : m ≡ suc n + length at = omega (arith, is) in
    let last = comma_before m ++ term_text (term_of x) in
    let rest = row_text (suc n) (indices (list_terms at)) in
    append_assoc (comma_before n) (term_text (term_of a) ++ rest) last
    ∙ ap (λ (t : List ℕ). comma_before n ++ t) (append_assoc (term_text (term_of a)) rest last ∙ ap (λ (t : List ℕ). term_text (term_of a) ++ t) (more_from (suc n) m at x k))

-- one index more is written
pub row_more : (at : List Expr) (i : ℕ) (x : Expr) (start now next sign : List ℕ) → i < length at → x ≡ get_or at i x → now ≡ start ++ row_text 0 (indices (list_terms (take i at)))
    → sign ≡ comma_before i → next ≡ now ++ (sign ++ term_text (term_of x)) → next ≡ start ++ row_text 0 (indices (list_terms (take (i + 1) at)))
row_more at i x start now next sign lt is so_far comma written =
    let long : i ≡ 0 + length (take i at) = omega (arith, length-take-le i at (omega arith)) in
    let more = more_from 0 i (take i at) x long in
    let whole : take i at ++ x ∷ [] ≡ take (i + 1) at = ap (λ (y : Expr). take i at ++ y ∷ []) is ∙ sym (take_more at i x lt) in
    written
    ∙ (λ j. so_far j ++ (comma j ++ term_text (term_of x)))
    ∙ append_assoc start (row_text 0 (indices (list_terms (take i at)))) (comma_before i ++ term_text (term_of x))
    ∙ ap (λ (t : List ℕ). start ++ t) more
    ∙ ap (λ (xs : List Expr). start ++ row_text 0 (indices (list_terms xs))) whole

-- ---- whether they fit

pub some_fit : (at : List Expr) (k : ℕ) → 0 < length at → all_fit (indices (list_terms at)) k ≡ fits_row (indices (list_terms at)) k
some_fit [] k some = absurd (omega arith)
some_fit (a ∷ at) k some = refl

cut : (at : List Expr) (i k : ℕ) (x : Expr) → i < length at → x ≡ get_or at i x
    → all_fit (indices (list_terms (drop i at))) k ≡ (fits_within (term_of x) k && all_fit (indices (list_terms (drop (i + 1) at))) k)
cut at i k x lt is =
    let next : i + 1 ≡ suc i = omega arith in
    rw next (ap (λ (xs : List Expr). all_fit (indices (list_terms xs)) k) (drop-cons at i x lt)
    ∙ ap (λ (y : Expr). fits_within (term_of y) k && all_fit (indices (list_terms (drop (suc i) at))) k) (sym is))

pub fit_next : (at : List Expr) (i k : ℕ) (x : Expr) (total : Bool) → i < length at → x ≡ get_or at i x → all_fit (indices (list_terms (drop i at))) k ≡ total
    → fits_within (term_of x) k ≡ true → all_fit (indices (list_terms (drop (i + 1) at))) k ≡ total
fit_next at i k x total lt is so_far fits = sym (ap (λ b. b && all_fit (indices (list_terms (drop (i + 1) at))) k) fits) ∙ sym (cut at i k x lt is) ∙ so_far

pub fit_stops : (at : List Expr) (i k : ℕ) (x : Expr) (total : Bool) → i < length at → x ≡ get_or at i x → all_fit (indices (list_terms (drop i at))) k ≡ total
    → fits_within (term_of x) k ≡ false → false ≡ total
fit_stops at i k x total lt is so_far fits = sym (ap (λ b. b && all_fit (indices (list_terms (drop (i + 1) at))) k) fits) ∙ sym (cut at i k x lt is) ∙ so_far
