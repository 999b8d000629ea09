-- Steps of one worker, one after another.
use Rattle.std.proofs.Common.{◌≡◌, ℕ, zero, suc, ◌+◌, refl, ap, ◌∙◌, arith, add-one, replicate}
use Rattle.orders.specs.Work.{Work, steps_of, steps_before}
use Rattle.orders.specs.Crew.{Crew, step, go_from}

-- one step more
pub one_more : (work : Work) (crew : Crew) (n w : ℕ) → step work (go_from work crew (replicate n w)) w ≡ go_from work crew (replicate (n + 1) w)
one_more work crew zero w = refl
one_more work crew (suc n) w =
    let e : suc (n + 1) ≡ suc n + 1 = omega arith in
    one_more work (step work crew w) n w ∙ ap (λ k. go_from work crew (replicate k w)) e

-- so many steps, and then more
pub then_more : (work : Work) (crew : Crew) (m n w : ℕ) → go_from work (go_from work crew (replicate m w)) (replicate n w) ≡ go_from work crew (replicate (m + n) w)
then_more work crew zero n w = let e : n ≡ 0 + n = omega arith in ap (λ k. go_from work crew (replicate k w)) e
then_more work crew (suc m) n w =
    let e : suc (m + n) ≡ suc m + n = omega arith in
    then_more work (step work crew w) m n w ∙ ap (λ k. go_from work crew (replicate k w)) e

-- the steps for one piece more
pub before_next : (work : Work) (p : ℕ) → steps_before work (p + 1) ≡ steps_before work p + steps_of work p
before_next work p = rw add-one refl
