-- Where a function that is computed at a loop is used: inside that loop, or outside of it.
-- What crates below need of it stands there: `regions`.
use Rattle.std.specs.Prelude.{◌≡◌, ◌⊎◌, ℕ, Bool, true, false, List, [], ◌∷◌, take, Any, Option, Some, None}
use Rattle.std.specs.List.{list_any}
use Rattle.sched.specs.declared.region_rule.RegionRule.{RegionRule}
use Rattle.sched.specs.declared.region_rule.RegionRule.TheVariants as rule
use Rattle.sched.specs.Stored.{StoredText}
use Rattle.regions.specs.Uses.{IsUsedOutside, is_used_outside}

-- no stored function is
abbrev pub AreUsedInside : List StoredText → Type 0
AreUsedInside gs = ¬ Any (IsUsedOutside gs) gs

-- L6 of a use is told of one that is, another rule of one that is not
abbrev pub TellsOf : List StoredText → StoredText → RegionRule → Type 0
TellsOf gs g rule.OutsideUse = IsUsedOutside gs g
TellsOf gs g rule.TooLarge = ¬ IsUsedOutside gs g
TellsOf gs g rule.ShortShift = ¬ IsUsedOutside gs g
TellsOf gs g rule.SmallFold = ¬ IsUsedOutside gs g
TellsOf gs g rule.TooMuch = ¬ IsUsedOutside gs g
TellsOf gs g rule.Unbounded = ¬ IsUsedOutside gs g

-- of one of these functions, before which none is
abbrev pub IsUseTold : List StoredText → List StoredText → RegionRule → List ℕ → Type 0
IsUseTold all [] r x = ⊥
IsUseTold all (g ∷ gs) r x = (TellsOf all g r × (g.subject.name ≡ x)) ⊎ ((¬ IsUsedOutside all g) × IsUseTold all gs r x)

-- ---- what is told

-- L6 of a use
abbrev pub is_use : Option RegionRule → Bool
is_use (Some rule.OutsideUse) = true
is_use (Some rule.TooLarge) = false
is_use (Some rule.ShortShift) = false
is_use (Some rule.SmallFold) = false
is_use (Some rule.TooMuch) = false
is_use (Some rule.Unbounded) = false
is_use None = false

-- it is told of the first of these functions that is used so, where no other rule is told of one before it; another rule is told behind none that is
abbrev pub TellsUse : List StoredText → List StoredText → RegionRule → List ℕ → Type 0
TellsUse all [] r x = ⊥
TellsUse all (g ∷ gs) r x = ((is_use (Some r) ≡ is_used_outside all g) × (g.subject.name ≡ x)) ⊎ ((is_used_outside all g ≡ false) × TellsUse all gs r x)

-- of so many functions none is used so, or what is told tells of one
abbrev pub FindsUse : List StoredText → List StoredText → ℕ → Option (RegionRule × List ℕ) → Type 0
FindsUse all gs n None = list_any (is_used_outside all) (take n gs) ≡ false
FindsUse all gs n (Some e) = TellsUse all gs e.0 e.1
