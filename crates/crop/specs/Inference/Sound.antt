-- What a needed region promises.
use Rattle.std.specs.Prelude.{◌≡◌, ℕ, ℤ, List, [], map, Bool, Option, All, MatchOption, slice_get}
use Rattle.numeric.specs.declared.ty.Ty.{Ty}
use Rattle.tree.specs.declared.value.Value.{Value}
use Rattle.tree.specs.Term.{Term}
use Rattle.tree.specs.Names.{AreAsTold}
use Rattle.tree.specs.Uses.{Asked, calls_made}
use Rattle.meaning.specs.Algorithm.{Change, Function, Algorithm}
use Rattle.meaning.specs.Names.{is_among}
use Rattle.meaning.specs.Conditions.{names_in}
use Rattle.lin.specs.Spans.{HoldsIn, IsInRegion}
use Rattle.lin.specs.declared.scope.Binding.{Binding}
use Rattle.lin.specs.declared.span.Span1.{Span1}
use Rattle.bounds.specs.Projection.Sound.{AgreeOutside}
use Rattle.crop.specs.Inference.Needed.{callable_before, callable_through, with_domain}

-- a call of the name is made at a point of the region
abbrev pub IsInIfNamed : List ℕ → (ℕ → ℤ) → List Span1 → Asked → Type 0
IsInIfNamed callee v found c = c.name ≡ callee → IsInRegion found v c.at

-- wherever the symbols fit their scope, the variables are i32 values, those of the region's names the coordinates of a
-- point of it, and calls answer values of their types, each call of the name is made at a point that was found, whatever
-- the inner symbols stand for there: in both arms of each choice, in conditions and in indices
abbrev pub ContainsCalls : List Binding → List ℕ → (List ℕ → Bool) → (List ℕ → Option (Ty × ℕ)) → List (List ℕ) → List Span1 → List ℕ → Term → List Span1 → Type 0
ContainsCalls scope inner variables functions names region callee e found =
    (v w : ℕ → ℤ) (values : List ℕ → ℤ) (answers : List ℕ → List ℤ → Value)
    → HoldsIn scope v → AgreeOutside inner v w → AreAsTold variables functions values answers → IsInRegion region v (map values names)
    → All (IsInIfNamed callee w found) (calls_made values answers e)

module _ (scope : List Binding) (inner : List ℕ) (a : Algorithm) (k : ℕ) (callee : List ℕ) (region : List Span1) (found : List Span1) where
  -- the calls of an update, at the points of the region and of the reduction domain
  pub record ContainsUpdate (f : Function) (u : Change) : Type 0 where
    pub left : All (λ e. ContainsCalls scope inner (is_among (names_in f u)) (callable_before a k) (names_in f u) (with_domain region u.ranges) callee e found) u.at
    pub right : ContainsCalls scope inner (is_among (names_in f u)) (callable_through a k) (names_in f u) (with_domain region u.ranges) callee u.value found

  -- the calls of all definitions of a function
  pub record ContainsFunction (f : Function) : Type 0 where
    pub pure : ContainsCalls scope inner (is_among f.variables) (callable_before a k) f.variables region callee f.value found
    pub updates : All (ContainsUpdate f) f.changes

  -- those of the k-th function, counted from 0
  abbrev pub ContainsOutside : Type 0
  ContainsOutside = MatchOption (slice_get a.functions k) ⊥ ContainsFunction

-- where no symbol is freed
abbrev pub ContainsNeeded : List Binding → Algorithm → ℕ → List ℕ → List Span1 → List Span1 → Type 0
ContainsNeeded scope a k callee region found = ContainsOutside scope [] a k callee region found
