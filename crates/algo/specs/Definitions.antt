-- Which definition of a function is which.
use Rattle.std.specs.Prelude.{◌≡◌, ℕ, ◌+◌, List, Some, slice_get}
use Rattle.tree.specs.Term.{Term, term_of}
use Rattle.meaning.specs.Algorithm.{Change}
use Rattle.algo.specs.declared.function.Definition.{Definition}
use Rattle.algo.specs.declared.function.Definition.TheVariants.{Pure, Update}
use Rattle.algo.specs.Parts.{change_of}

-- it is the k-th definition, counted from 0, of a function with this pure definition, which comes first, and these updates
abbrev pub IsDefinition : Term → List Change → ℕ → Definition → Type 0
IsDefinition value changes k (Pure e) = (k ≡ 0) × (term_of e.now ≡ value)
IsDefinition value changes k (Update u) = (j : ℕ) × (k ≡ j + 1) × (slice_get changes j ≡ Some (change_of u.now))
