-- Which rule is told of which stored function, as far as it goes by the sizes of its definitions.
-- What crates below need of it stands there: `blocks`.
use Rattle.std.specs.Prelude.{◌≡◌, ◌⊎◌, ℕ, true, false, List, [], ◌∷◌, take, Option, Some, None}
use Rattle.sched.specs.declared.region_rule.RegionRule.{RegionRule}
use Rattle.sched.specs.declared.region_rule.RegionRule.TheVariants as rule
use Rattle.sched.specs.Stored.{StoredText}
use Rattle.regions.specs.Stored.{is_large}
use Rattle.lower.specs.Stored.{has_large}
use Rattle.lower.specs.Uses.{AreUsedInside, IsUseTold}

-- L11 for a definition only where one passes the limits, L8, L9, L11 for cells or pieces and L12 only where none does; L6, which comes first,
-- in either case
abbrev pub Breaks : StoredText → RegionRule → Type 0
Breaks g rule.OutsideUse = Unit {0}
Breaks g rule.TooLarge = is_large g ≡ true
Breaks g rule.ShortShift = is_large g ≡ false
Breaks g rule.SmallFold = is_large g ≡ false
Breaks g rule.TooMuch = is_large g ≡ false
Breaks g rule.Unbounded = is_large g ≡ false

-- of the first function of which a rule is told
abbrev pub IsTold : List StoredText → RegionRule → List ℕ → Type 0
IsTold [] r x = ⊥
IsTold (g ∷ gs) r x = (Breaks g r × (g.subject.name ≡ x)) ⊎ ((is_large g ≡ false) × IsTold gs r x)

-- the rule that a function breaks, if it breaks one
abbrev pub IsFault : StoredText → Option RegionRule → Type 0
IsFault g None = is_large g ≡ false
IsFault g (Some r) = Breaks g r

-- of so many functions none has a definition that passes the limits, or one of the functions is told
abbrev pub Finds : List StoredText → ℕ → Option (RegionRule × List ℕ) → Type 0
Finds gs n None = has_large (take n gs) ≡ false
Finds gs n (Some e) = IsTold gs e.0 e.1

-- what is told where no such rule is broken by one function before the others: L6 for a use, only of the first function that is used outside of
-- its loop; another rule, only where neither its function nor one before it is; that the lines of a group are not bounded, only where no definition passes the
-- limits and no function is used so
abbrev pub IsToldOf : List StoredText → RegionRule → List ℕ → Type 0
IsToldOf gs rule.OutsideUse x = IsTold gs rule.OutsideUse x × IsUseTold gs gs rule.OutsideUse x
IsToldOf gs rule.TooLarge x = IsTold gs rule.TooLarge x × IsUseTold gs gs rule.TooLarge x
IsToldOf gs rule.ShortShift x = IsTold gs rule.ShortShift x × IsUseTold gs gs rule.ShortShift x
IsToldOf gs rule.SmallFold x = IsTold gs rule.SmallFold x × IsUseTold gs gs rule.SmallFold x
IsToldOf gs rule.TooMuch x = IsTold gs rule.TooMuch x × IsUseTold gs gs rule.TooMuch x
IsToldOf gs rule.Unbounded x = (IsTold gs rule.Unbounded x × IsUseTold gs gs rule.Unbounded x) ⊎ ((has_large gs ≡ false) × AreUsedInside gs)
