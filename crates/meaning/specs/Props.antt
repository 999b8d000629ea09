-- A fact about an algorithm's form has at most one proof, so that a type's invariant can hold it.
use Rattle.meaning.specs.Algorithm.{Algorithm}
use Rattle.meaning.specs.Conditions.{IsAlgorithm}

abbrev pub FormHasOneProof : Type 0
FormHasOneProof = (a : Algorithm) → IsProp (IsAlgorithm a)
