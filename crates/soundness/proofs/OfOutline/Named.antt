-- The claims of a line, one by one.
use Rattle.std.proofs.Common.{◌≡◌, ℕ, zero, suc, ◌+◌, ◌<◌, List, [], ◌∷◌, Bool, true, false, Option, Some, None, refl, sym, ap, ◌∙◌, arith}
use Rattle.std.specs.Prelude.{◌==◌, ◌||◌, if◌then◌else◌, slice_get}
use Rattle.plan.specs.Certificate.Certificate.{Claim}
use Rattle.soundness.specs.Given.{named_from}
use Rattle.soundness.specs.Obligations.{is_member}

-- the claim is of the statement that ends at the line
abbrev pub is_at : Option Claim → ℕ → Bool
is_at None line = false
is_at (Some k) line = k.line == line

the_plus_zero : (k : ℕ) → k + 0 ≡ k
the_plus_zero k = omega (arith)

zero_plus : (n : ℕ) → n ≡ 0 + n
zero_plus n = omega (arith)

along : (k n : ℕ) → k + suc n ≡ suc k + n
along k n = omega (arith)

-- one more claim before
pub with_one : (t : Bool) (k n : ℕ) (ns : List ℕ) → (k == n) ≡ false → is_member n (if t then k ∷ ns else ns) ≡ is_member n ns
with_one true k n ns other = ap (λ (b : Bool). b || is_member n ns) other
with_one false k n ns other = refl

same_number : (k : ℕ) → (k == k) ≡ true
same_number k = grind (arith)

-- the claim itself, which no later one is
pub with_same : (t : Bool) (k : ℕ) (ns : List ℕ) → is_member k ns ≡ false → is_member k (if t then k ∷ ns else ns) ≡ t
with_same true k ns none = ap (λ (b : Bool). b || is_member k ns) (same_number k)
with_same false k ns none = none

-- claims that are counted from a number on have none below it
pub none_below : (k n : ℕ) (cs : List Claim) (line : ℕ) → n < k → is_member n (named_from k cs line) ≡ false
none_below k n [] line lt = refl
none_below k n (x ∷ cs) line lt =
    with_one (x.line == line) k n (named_from (suc k) cs line) (grind (arith, lt)) ∙ none_below (suc k) n cs line (omega (arith, lt))

-- the claim of this number, counted from k on
pub named_at : (k n : ℕ) (cs : List Claim) (line : ℕ) → is_member (k + n) (named_from k cs line) ≡ is_at (slice_get cs n) line
named_at k n [] line = refl
named_at k zero (x ∷ cs) line =
    ap (λ (m : ℕ). is_member m (named_from k (x ∷ cs) line)) (the_plus_zero k)
    ∙ with_same (x.line == line) k (named_from (suc k) cs line) (none_below (suc k) k cs line (omega (arith)))
named_at k (suc n) (x ∷ cs) line =
    with_one (x.line == line) k (k + suc n) (named_from (suc k) cs line) (grind (arith))
    ∙ ap (λ (m : ℕ). is_member m (named_from (suc k) cs line)) (along k n) ∙ named_at (suc k) n cs line

pub is_named : (n : ℕ) (cs : List Claim) (line : ℕ) → is_member n (named_from 0 cs line) ≡ is_at (slice_get cs n) line
is_named n cs line = ap (λ (m : ℕ). is_member m (named_from 0 cs line)) (zero_plus n) ∙ named_at 0 n cs line
