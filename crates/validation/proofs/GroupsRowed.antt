-- The end of a block.
use Rattle.std.proofs.Common.{◌≡◌, ℕ, zero, suc, ◌≤◌, List, [], ◌∷◌, length, drop, refl, ◌∙◌, arith}
use Rattle.std.specs.Prelude.{◌==◌}
use Rattle.std.proofs.lemmas.Bool.Decides.{nat_tests}
use Rattle.plan.specs.declared.stmt.Stmt.{Stmt}
use Rattle.plan.specs.Lists.{list_statements}
use Rattle.plan.specs.Plan.{block}
use Rattle.validation.specs.Groups.Lines.{is_empty}

-- nothing is behind the last
pub empty_is : (xs : List Stmt) (n : ℕ) → n ≤ length xs → (n == length xs) ≡ is_empty (block (list_statements (drop n xs)))
empty_is [] zero h = refl
empty_is [] (suc n) h = absurd (omega (arith, h))
empty_is (x ∷ xs) zero h = grind (arith, nat_tests)
empty_is (x ∷ xs) (suc n) h = let e : (suc n == suc (length xs)) ≡ (n == length xs) = grind (arith, nat_tests) in e ∙ empty_is xs n (omega (arith, h))
