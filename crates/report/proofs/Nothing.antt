-- A statement of which no line counts.
use Rattle.std.proofs.Common.{◌≡◌, ℕ, ◌+◌, ◌<◌, Bool, true, false, ◌||◌, List, [], ◌∷◌, length, get_or, refl, sym, ap, ◌∙◌, ℤ}
use Rattle.std.specs.Prelude.{if◌then◌else◌, int_le, sum_by}
use Rattle.std.proofs.lemmas.List.Sums.{sum_by-cons}
use Rattle.plan.specs.declared.stmt.Stmt.{Stmt}
use Rattle.plan.specs.Plan.{Statement, Seq, For, Let, First, Guard, Alloc, Fetch, Store, Publish, Statements, Empty, Then}
use Rattle.plan.specs.View.{statement_of}
use Rattle.plan.specs.Symbols.{Symbols, bind, form_value, largest, points, turns}
use Rattle.plan.specs.Semantics.Actions.{after}
use Rattle.report.specs.Tally.{block_counts, block_tally, some_counts, tally, Counted}
use Rattle.report.proofs.Places.{from, from_more}

-- ---- a block, one statement more

counts_more : (x : Counted) (all : List Stmt) (i : ℕ) (a : Stmt) → i < length all → a ≡ get_or all i a →
    block_counts x (from all i) ≡ (some_counts x (statement_of a) || block_counts x (from all (i + 1)))
counts_more x all i a lt is = ap (block_counts x) (from_more all i a lt is)

pub counts_here : (x : Counted) (all : List Stmt) (i : ℕ) (a : Stmt) (whole : Bool) → i < length all → a ≡ get_or all i a →
    whole ≡ block_counts x (from all i) → some_counts x (statement_of a) ≡ true → true ≡ whole
counts_here x all i a whole lt is w t = sym (w ∙ counts_more x all i a lt is ∙ ap (λ u. u || block_counts x (from all (i + 1))) t)

pub counts_later : (x : Counted) (all : List Stmt) (i : ℕ) (a : Stmt) (whole : Bool) → i < length all → a ≡ get_or all i a →
    whole ≡ block_counts x (from all i) → some_counts x (statement_of a) ≡ false → whole ≡ block_counts x (from all (i + 1))
counts_later x all i a whole lt is w t = w ∙ counts_more x all i a lt is ∙ ap (λ u. u || block_counts x (from all (i + 1))) t

-- ---- what it comes to

left_is : (a b : Bool) → (a || b) ≡ false → a ≡ false
left_is true b h = absurd (cc)
left_is false b h = refl

right_is : (a b : Bool) → (a || b) ≡ false → b ≡ false
right_is true b h = absurd (cc)
right_is false b h = h

either : (t : Bool) (m n : ℕ) → m ≡ 0 → n ≡ 0 → (if t then m else n) ≡ 0
either true m n h k = h
either false m n h k = k

never : (t : Bool) (m : ℕ) → t ≡ false → (if t then m else 0) ≡ 0
never true m h = absurd (cc)
never false m h = refl

sum_none : (f : ℤ → ℕ) (zs : List ℤ) → ((z : ℤ) → f z ≡ 0) → sum_by f zs ≡ 0
sum_none f [] h = refl
sum_none f (z ∷ zs) h = sum_by-cons f z zs ∙ (λ j. h z j + sum_none f zs h j)

module _ (x : Counted) where
  mutual
    pub none_counts : (a : Statement) → some_counts x a ≡ false → (s : Symbols) → tally x a s ≡ 0
    none_counts (Seq all) h s = block_none all h s
    none_counts (For i span kind body) h s =
        sum_none (λ z. tally x body (bind s i z (int_le z (largest s span.lower)))) (turns s span) (λ z. none_counts body h (bind s i z (int_le z (largest s span.lower))))
    none_counts (Let i pick forms) h s = refl
    none_counts (First i a b) h s =
        either (s.first i) (tally x a s) (tally x b s) (none_counts a (left_is (some_counts x a) (some_counts x b) h) s) (none_counts b (right_is (some_counts x a) (some_counts x b) h) s)
    none_counts (Guard low high body) h s = either (int_le (form_value low s) (form_value high s)) (tally x body s) 0 (none_counts body h s) refl
    none_counts (Alloc b f places) h s = refl
    none_counts (Fetch b g region) h s = never (x.group g) (length (points s region)) h
    none_counts (Store b k at e) h s = never (x.buffer b) 1 h
    none_counts (Publish c) h s = refl

    pub block_none : (all : Statements) → block_counts x all ≡ false → (s : Symbols) → block_tally x all s ≡ 0
    block_none Empty h s = refl
    block_none (Then a rest) h s =
        (λ j. none_counts a (left_is (some_counts x a) (block_counts x rest) h) s j + block_none rest (right_is (some_counts x a) (block_counts x rest) h) (after a s) j)
