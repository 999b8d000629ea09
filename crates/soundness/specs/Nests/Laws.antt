-- What the tests of nests promise.
use Rattle.std.specs.Prelude.{◌≡◌, ℕ, suc, ◌+◌, List, Option, Some, None, ℤ, IsTrue}
use Rattle.meaning.specs.Algorithm.{Range, Change, Algorithm}
use Rattle.meaning.specs.Conditions.{IsAlgorithm}
use Rattle.meaning.specs.Points.{AreRanges, IsIn}
use Rattle.meaning.specs.Reduction.{size, rank}
use Rattle.soundness.specs.Origins.{Outline, Given}
use Rattle.soundness.specs.Given.{given_of, function_named, update_in}
use Rattle.soundness.specs.Obligations.{Rules, Suited}
use Rattle.soundness.specs.Shown.{AreRightNests}
use Rattle.soundness.specs.Nests.Tests.{plain_nests}

-- each definition with a reduction domain has a step for each of the domain's points, in their order, after those of the
-- definitions before
pub record Counts (given : Given) (domain : List ℕ → ℕ → Option (List Range)) : Type 0 where
  pub none : (f : List ℕ) → given.steps f 0 ≡ 0
  pub ranges : (f : List ℕ) (k : ℕ) (ds : List Range) → domain f (suc k) ≡ Some ds → AreRanges ds
  pub next : (f : List ℕ) (k : ℕ) (ds : List Range) → domain f (suc k) ≡ Some ds → given.steps f (suc k) ≡ given.steps f k + size ds
  pub inside : (f : List ℕ) (k : ℕ) (ds : List Range) (r : List ℤ) → domain f (suc k) ≡ Some ds → IsIn ds r → IsTrue (given.in_domain f (suc k) r)
  pub step : (f : List ℕ) (k : ℕ) (ds : List Range) (r : List ℤ) → domain f (suc k) ≡ Some ds → IsIn ds r → given.step_at f (suc k) r ≡ given.steps f k + rank ds r

-- the reduction domain of an update of an algorithm
abbrev pub ranges_in : Option Change → Option (List Range)
ranges_in None = None
ranges_in (Some u) = Some u.ranges

abbrev pub domains_of : Algorithm → List ℕ → ℕ → Option (List Range)
domains_of a f k = ranges_in (update_in (function_named a.functions f) k)

-- a well-formed algorithm counts its updates' steps so
abbrev pub DomainsAreCounted : Type 0
DomainsAreCounted = (a : Algorithm) (samples : List ℕ) (outline : Outline) → IsAlgorithm a → Counts (given_of a samples outline) (domains_of a)

-- what the tests say yes to is so, whatever the symbols stand for
abbrev pub PlainNestsAreRight : Type 0
PlainNestsAreRight =
    (given : Given) (rules : Rules) (domain : List ℕ → ℕ → Option (List Range)) → Suited given rules → Counts given domain →
    AreRightNests given (plain_nests given.outline rules domain)
