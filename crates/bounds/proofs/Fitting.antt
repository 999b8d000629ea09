-- What the type of an expression tells of its parts.
use Rattle.std.proofs.Common.{◌≡◌, ℕ, List, Bool, Option, Some, IsSome, ap, ◌∙◌}
use Rattle.std.specs.Prelude.{is_some}
use Rattle.numeric.specs.declared.ty.Ty.{Ty}
use Rattle.numeric.specs.declared.ty.Ty.TheVariants.{I32}
use Rattle.tree.specs.Term.{Term, Number, Name, Call, Minus, Binary, Clamp, Cast, Choice}
use Rattle.tree.specs.Typing.{common, only_if, is_of, type_of, is_typed, are_indices, answer_type, index_count, operator_type, shape_type}
use Rattle.tree.proofs.Typed.{some_only_if, some_common, some_operator, some_answer, some_of, same_shape}

module _ (known : List ℕ → Bool) (functions : List ℕ → Option (Ty × ℕ)) where
  -- two expressions of one type
  pub record BothTyped (a b : Term) : Type 0 where
    pub first : IsSome (type_of known functions a)
    pub second : IsSome (type_of known functions b)
    pub same : type_of known functions a ≡ type_of known functions b
    pub is : common (type_of known functions a) (type_of known functions b) ≡ type_of known functions a

  pub both_typed : (a b : Term) → IsSome (common (type_of known functions a) (type_of known functions b)) → BothTyped a b
  both_typed a b h =
      let s = some_common (type_of known functions a) (type_of known functions b) h in
      let first = some_of _ _ s.is h in
      record { first = first; second = some_of _ _ s.same first; same = s.same; is = s.is }

  -- three
  pub record AllTyped (a b c : Term) : Type 0 where
    pub first : IsSome (type_of known functions a)
    pub second : IsSome (type_of known functions b)
    pub third : IsSome (type_of known functions c)
    pub as_second : type_of known functions a ≡ type_of known functions b
    pub as_third : type_of known functions a ≡ type_of known functions c
    pub is : common (type_of known functions a) (common (type_of known functions b) (type_of known functions c)) ≡ type_of known functions a

  pub all_typed : (a b c : Term) → IsSome (common (type_of known functions a) (common (type_of known functions b) (type_of known functions c))) → AllTyped a b c
  all_typed a b c h =
      let s = some_common (type_of known functions a) (common (type_of known functions b) (type_of known functions c)) h in
      let first = some_of _ _ s.is h in
      let rest = both_typed b c (some_of _ _ s.same first) in
      record { first = first; second = rest.first; third = rest.second; as_second = s.same ∙ rest.is; as_third = s.same ∙ rest.is ∙ rest.same; is = s.is }

  -- the type of an expression is that of its shape
  pub shape : (a : Term) → IsSome (type_of known functions a) → type_of known functions a ≡ Some (shape_type functions a)
  shape (Number t n) h = (some_only_if (is_of t n) (Some t) h).1
  shape (Name name) h = (some_only_if (known name) (Some I32) h).1
  shape (Call name at) h =
      let answer = answer_type (functions name) (index_count at) in
      let s = some_only_if (are_indices known functions at) answer h in
      s.1 ∙ (some_answer (functions name) (index_count at) (some_of (only_if (are_indices known functions at) answer) answer s.1 h)).is
  shape (Minus a) h = shape a h
  shape (Binary op a b) h =
      let s = both_typed a b (some_operator op (common (type_of known functions a) (type_of known functions b)) h) in
      ap (operator_type op) (s.is ∙ shape a s.first)
  shape (Clamp a l u) h = let s = all_typed a l u h in s.is ∙ shape a s.first
  shape (Cast t a) h = (some_only_if (is_some (type_of known functions a)) (Some t) h).1
  shape (Choice c a b) h =
      let arms = common (type_of known functions a) (type_of known functions b) in
      let g = some_only_if (is_typed known functions c) arms h in
      let s = both_typed a b (some_of _ arms g.1 h) in
      g.1 ∙ s.is ∙ shape a s.first

  -- expressions of one type have one type by their shapes
  pub one_shape : (a b : Term) → IsSome (type_of known functions a) → IsSome (type_of known functions b) → type_of known functions a ≡ type_of known functions b
      → shape_type functions a ≡ shape_type functions b
  one_shape a b h k e = same_shape _ _ _ _ (shape a h) (shape b k) e
