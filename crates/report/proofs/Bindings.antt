-- What is known of symbols, one binding more.
use Rattle.std.proofs.Common.{◌≡◌, ℕ, ◌+◌, ◌<◌, Bool, true, false, List, length, take, fold, get_or, sym, ap, ◌∙◌, ◌≢◌, arith}
use Rattle.std.proofs.lemmas.Bool.Decides.{nat_tests}
use Rattle.std.specs.Prelude.{◌==◌, if◌then◌else◌}
use Rattle.std.proofs.lemmas.List.{take_more}
use Rattle.std.proofs.lemmas.List.Sums.{fold_push}
use Rattle.report.specs.declared.known.Binding.{Binding}
use Rattle.report.specs.Known.{known_of, unbound}

abbrev pub step : ℕ → Binding → Binding → Binding
step i found b = if b.symbol == i then b else found

known_more : (bs : List Binding) (i k : ℕ) (d : Binding) → k < length bs → known_of (take (k + 1) bs) i ≡ step i (known_of (take k bs) i) (get_or bs k d)
known_more bs i k d lt = ap (fold (step i) (unbound i)) (take_more bs k d lt) ∙ fold_push (step i) (unbound i) (take k bs) (get_or bs k d)

cond_true : (b : Bool) (x y : Binding) → b ≡ true → (if b then x else y) ≡ x
cond_true b x y e = ap (λ u. if u then x else y) e

cond_false : (b : Bool) (x y : Binding) → b ≡ false → (if b then x else y) ≡ y
cond_false b x y e = ap (λ u. if u then x else y) e

pub equal : (m n : ℕ) → m ≡ n → (m == n) ≡ true
equal m n h = grind (arith, nat_tests)

pub different : (m n : ℕ) → m ≢ n → (m == n) ≡ false
different m n h = grind (arith, nat_tests)

pub known_same : (bs : List Binding) (i k : ℕ) (d : Binding) → k < length bs → (get_or bs k d).symbol ≡ i → get_or bs k d ≡ known_of (take (k + 1) bs) i
known_same bs i k d lt e = sym (known_more bs i k d lt ∙ cond_true ((get_or bs k d).symbol == i) (get_or bs k d) (known_of (take k bs) i) (equal (get_or bs k d).symbol i e))

pub known_other : (bs : List Binding) (i k : ℕ) (d : Binding) → k < length bs → (get_or bs k d).symbol ≢ i → known_of (take k bs) i ≡ known_of (take (k + 1) bs) i
known_other bs i k d lt e = sym (known_more bs i k d lt ∙ cond_false ((get_or bs k d).symbol == i) (get_or bs k d) (known_of (take k bs) i) (different (get_or bs k d).symbol i e))
