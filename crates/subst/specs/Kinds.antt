-- Kinds of expressions.
use Rattle.tree.specs.Term.{Term, Binary, Clamp, Choice}

-- an operation, a clamp or a choice
abbrev pub HasParts : Term → Type 0
HasParts (Binary op a b) = Unit {0}
HasParts (Clamp a l h) = Unit {0}
HasParts (Choice c a b) = Unit {0}
HasParts _ = ⊥
