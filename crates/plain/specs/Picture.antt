-- What the picture of an algorithm comes to within a budget of evaluations for each sample.
use Rattle.std.specs.Prelude.{◌≡◌, ◌<◌, ◌≤◌, ℕ, List, [], ◌∷◌, ◌++◌, map, length, All, Any, MatchResult, true, ℤ}
use Rattle.std.specs.declared.result.Result.{Result}
use Rattle.std.specs.declared.vec.Vec.{Vec}
use Rattle.std.specs.Global.{Global}
use Rattle.meaning.specs.Image.Raster.{is_within, natural, raster_point}
use Rattle.meaning.specs.Algorithm.{Algorithm}
use Rattle.meaning.specs.Count.{output_count}
use Rattle.meaning.specs.Value.{output_value}
use Rattle.plain.specs.declared.error.PlainError.{PlainError}
use Rattle.plain.specs.declared.error.PlainError.TheVariants.{Budget}
use Rattle.plain.specs.Scopes.{IsFirstNamed}

-- the k-th function, counted from 0, is the output
abbrev pub IsOutput : Algorithm → ℕ → Type 0
IsOutput a k = IsFirstNamed a (length a.functions) a.output k

-- each sample of the output takes as many evaluations as the budget or fewer
abbrev pub AllWithin : Algorithm → List ℕ → ℕ → Type 0
AllWithin a samples budget = (p : List ℤ) → is_within a.output_extents p ≡ true → output_count a samples p ≤ budget

-- some sample of the output takes more
pub record SomeAbove (a : Algorithm) (samples : List ℕ) (budget : ℕ) : Type 0 where
  pub at : List ℤ
  pub within : is_within a.output_extents at ≡ true
  pub above : budget < output_count a samples at

-- the output's sample at a place of the raster, counted from 0
abbrev pub sample_at : Algorithm → List ℕ → ℕ → ℕ
sample_at a samples n = natural (output_value a samples (raster_point a.output_extents n))

-- the evaluations that it takes
abbrev pub count_at : Algorithm → List ℕ → ℕ → ℕ
count_at a samples n = output_count a samples (raster_point a.output_extents n)

abbrev pub Part : Type 0
Part = Result (Vec ℕ Global) PlainError

-- the samples at these places, each within the budget; or an error, where a spent budget means that one of them takes more
abbrev pub Gives : (ℕ → ℕ) → (ℕ → ℕ) → ℕ → List ℕ → Part → Type 0
Gives sample count budget places r = MatchResult r
    (λ v. (v.items ≡ map sample places) × All (λ n. count n ≤ budget) places)
    (λ e. e ≡ Budget → Any (λ n. budget < count n) places)

-- the samples at no place
abbrev pub GivesNone : Part → Type 0
GivesNone r = (sample count : ℕ → ℕ) (budget : ℕ) → Gives sample count budget [] r

-- the samples at one more place
abbrev pub Extends : (ℕ → ℕ) → (ℕ → ℕ) → ℕ → Part → ℕ → Part → Type 0
Extends sample count budget part place r = (places : List ℕ) → Gives sample count budget places part → Gives sample count budget (places ++ place ∷ []) r

-- the samples of two parts, side by side
abbrev pub Joins : Part → Part → Part → Type 0
Joins front back r = (sample count : ℕ → ℕ) (budget : ℕ) (xs ys : List ℕ) → Gives sample count budget xs front → Gives sample count budget ys back → Gives sample count budget (xs ++ ys) r
