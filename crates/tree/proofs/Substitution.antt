-- The value of an expression in which others are put in.
use Rattle.std.proofs.Common.{◌≡◌, ℕ, List, ◌∷◌, ℤ, Option, Some, None, refl, ap, ◌∙◌, not, ◌&&◌, ◌||◌, if◌then◌else◌}
use Rattle.numeric.specs.Wrap.{wrap}
use Rattle.numeric.specs.Apply.{compare}
use Rattle.numeric.specs.declared.ty.Ty.TheVariants.{I32}
use Rattle.tree.specs.declared.value.Value.{Value}
use Rattle.tree.specs.Term.{Term, Number, Name, Call, Minus, Binary, Clamp, Cast, Choice, Terms, End, More, Test, Compares, Fails, Both, Either}
use Rattle.tree.specs.Meaning.{typed, negated, applied, clamped, value_of, holds, numbers_of}
use Rattle.tree.specs.Uses.{EachCall, EachCallOfTest, EachCallOfAll}
use Rattle.tree.specs.Substitution.{put_in, substituted, test_substituted, all_substituted, number_put_in, updated, with_calls, test_with_calls, all_with_calls}
use Rattle.tree.specs.Typing.{type_of, is_typed, are_indices, is_index, answer_type, index_count, only_if, common, cast_type, operator_type}
use Rattle.numeric.specs.declared.ty.Ty.{Ty}
use Rattle.std.specs.Prelude.{Bool, is_some, ◌+◌}
use Rattle.tree.specs.Laws.{HasTheCallsValue, HasTheCallsType}

module _ (variables : List ℕ → ℤ) (answers : List ℕ → List ℤ → Value) where
  value_of-put_in : (o : Option Term) (name : List ℕ) → ((u : Term) → o ≡ Some u → (value_of variables answers u).ty ≡ I32)
      → value_of variables answers (put_in o name) ≡ typed I32 (number_put_in variables answers o name)
  value_of-put_in None name h = refl
  value_of-put_in (Some u) name h = ap (λ t. typed t (value_of variables answers u).number) (h u refl)

module _ (variables : List ℕ → ℤ) (answers : List ℕ → List ℤ → Value) (map : List ℕ → Option Term)
    (index : (name : List ℕ) (u : Term) → map name ≡ Some u → (value_of variables answers u).ty ≡ I32) where
  abbrev after : List ℕ → ℤ
  after = updated variables answers map

  mutual
    pub value_of-substituted : (a : Term) → value_of variables answers (substituted map a) ≡ value_of after answers a
    value_of-substituted (Number t n) = refl
    value_of-substituted (Name name) = value_of-put_in variables answers (map name) name (index name)
    value_of-substituted (Call name at) = ap (answers name) (numbers_of-substituted at)
    value_of-substituted (Minus a) = ap negated (value_of-substituted a)
    value_of-substituted (Binary op a b) = λ i. applied op (value_of-substituted a i) (value_of-substituted b i)
    value_of-substituted (Clamp a l h) = λ i. clamped (value_of-substituted a i) (value_of-substituted l i) (value_of-substituted h i)
    value_of-substituted (Cast t a) = ap (λ x. typed t (wrap t x.number)) (value_of-substituted a)
    value_of-substituted (Choice c a b) = λ i. if holds-substituted c i then value_of-substituted a i else value_of-substituted b i

    pub holds-substituted : (c : Test) → holds variables answers (test_substituted map c) ≡ holds after answers c
    holds-substituted (Compares by a b) = λ i. compare by (value_of-substituted a i).number (value_of-substituted b i).number
    holds-substituted (Fails c) = ap not (holds-substituted c)
    holds-substituted (Both c d) = λ i. holds-substituted c i && holds-substituted d i
    holds-substituted (Either c d) = λ i. holds-substituted c i || holds-substituted d i

    pub numbers_of-substituted : (at : Terms) → numbers_of variables answers (all_substituted map at) ≡ numbers_of after answers at
    numbers_of-substituted End = refl
    numbers_of-substituted (More a rest) = λ i. (value_of-substituted a i).number ∷ numbers_of-substituted rest i

module _ (variables : List ℕ → ℤ) (answers others : List ℕ → List ℤ → Value) (replacement : List ℕ → Terms → Term) where
  abbrev Right : List ℕ → Terms → Type 0
  Right name at = HasTheCallsValue variables answers others replacement name (all_with_calls replacement at)

  mutual
    pub value_of-with_calls : (a : Term) → EachCall Right a → value_of variables answers (with_calls replacement a) ≡ value_of variables others a
    value_of-with_calls (Number t n) h = refl
    value_of-with_calls (Name name) h = refl
    value_of-with_calls (Call name at) h = h.0 ∙ ap (others name) (numbers_of-with_calls at h.1)
    value_of-with_calls (Minus a) h = ap negated (value_of-with_calls a h)
    value_of-with_calls (Binary op a b) h = λ i. applied op (value_of-with_calls a h.0 i) (value_of-with_calls b h.1 i)
    value_of-with_calls (Clamp a l u) h = λ i. clamped (value_of-with_calls a h.0 i) (value_of-with_calls l h.1 i) (value_of-with_calls u h.2 i)
    value_of-with_calls (Cast t a) h = ap (λ x. typed t (wrap t x.number)) (value_of-with_calls a h)
    value_of-with_calls (Choice c a b) h = λ i. if holds-with_calls c h.0 i then value_of-with_calls a h.1 i else value_of-with_calls b h.2 i

    pub holds-with_calls : (c : Test) → EachCallOfTest Right c → holds variables answers (test_with_calls replacement c) ≡ holds variables others c
    holds-with_calls (Compares by a b) h = λ i. compare by (value_of-with_calls a h.0 i).number (value_of-with_calls b h.1 i).number
    holds-with_calls (Fails c) h = ap not (holds-with_calls c h)
    holds-with_calls (Both c d) h = λ i. holds-with_calls c h.0 i && holds-with_calls d h.1 i
    holds-with_calls (Either c d) h = λ i. holds-with_calls c h.0 i || holds-with_calls d h.1 i

    pub numbers_of-with_calls : (at : Terms) → EachCallOfAll Right at → numbers_of variables answers (all_with_calls replacement at) ≡ numbers_of variables others at
    numbers_of-with_calls End h = refl
    numbers_of-with_calls (More a rest) h = λ i. (value_of-with_calls a h.0 i).number ∷ numbers_of-with_calls rest h.1 i

-- the type of an expression in which others are put in
module _ (known before : List ℕ → Bool) (functions : List ℕ → Option (Ty × ℕ)) (map : List ℕ → Option Term)
    (index : (name : List ℕ) → type_of known functions (put_in (map name) name) ≡ only_if (before name) (Some I32)) where
  index_count-substituted : (at : Terms) → index_count (all_substituted map at) ≡ index_count at
  index_count-substituted End = refl
  index_count-substituted (More a rest) = ap (λ n. 1 + n) (index_count-substituted rest)

  mutual
    pub type_of-substituted : (a : Term) → type_of known functions (substituted map a) ≡ type_of before functions a
    type_of-substituted (Number t n) = refl
    type_of-substituted (Name name) = index name
    type_of-substituted (Call name at) = λ i. only_if (are_indices-substituted at i) (answer_type (functions name) (index_count-substituted at i))
    type_of-substituted (Minus a) = type_of-substituted a
    type_of-substituted (Binary op a b) = λ i. operator_type op (common (type_of-substituted a i) (type_of-substituted b i))
    type_of-substituted (Clamp a l h) = λ i. common (type_of-substituted a i) (common (type_of-substituted l i) (type_of-substituted h i))
    type_of-substituted (Cast t a) = ap (cast_type t) (type_of-substituted a)
    type_of-substituted (Choice c a b) = λ i. only_if (is_typed-substituted c i) (common (type_of-substituted a i) (type_of-substituted b i))

    is_typed-substituted : (c : Test) → is_typed known functions (test_substituted map c) ≡ is_typed before functions c
    is_typed-substituted (Compares by a b) = λ i. is_some (common (type_of-substituted a i) (type_of-substituted b i))
    is_typed-substituted (Fails c) = is_typed-substituted c
    is_typed-substituted (Both c d) = λ i. is_typed-substituted c i && is_typed-substituted d i
    is_typed-substituted (Either c d) = λ i. is_typed-substituted c i && is_typed-substituted d i

    are_indices-substituted : (at : Terms) → are_indices known functions (all_substituted map at) ≡ are_indices before functions at
    are_indices-substituted End = refl
    are_indices-substituted (More a rest) = λ i. is_index (type_of-substituted a i) && are_indices-substituted rest i

-- the type of an expression in which calls are replaced
module _ (known : List ℕ → Bool) (functions before : List ℕ → Option (Ty × ℕ)) (replacement : List ℕ → Terms → Term) where
  abbrev Typed : List ℕ → Terms → Type 0
  Typed name at = HasTheCallsType known functions before replacement name (all_with_calls replacement at)

  index_count-with_calls : (at : Terms) → index_count (all_with_calls replacement at) ≡ index_count at
  index_count-with_calls End = refl
  index_count-with_calls (More a rest) = ap (λ n. 1 + n) (index_count-with_calls rest)

  mutual
    pub type_of-with_calls : (a : Term) → EachCall Typed a → type_of known functions (with_calls replacement a) ≡ type_of known before a
    type_of-with_calls (Number t n) h = refl
    type_of-with_calls (Name name) h = refl
    type_of-with_calls (Call name at) h = h.0 ∙ (λ i. only_if (are_indices-with_calls at h.1 i) (answer_type (before name) (index_count-with_calls at i)))
    type_of-with_calls (Minus a) h = type_of-with_calls a h
    type_of-with_calls (Binary op a b) h = λ i. operator_type op (common (type_of-with_calls a h.0 i) (type_of-with_calls b h.1 i))
    type_of-with_calls (Clamp a l u) h = λ i. common (type_of-with_calls a h.0 i) (common (type_of-with_calls l h.1 i) (type_of-with_calls u h.2 i))
    type_of-with_calls (Cast t a) h = ap (cast_type t) (type_of-with_calls a h)
    type_of-with_calls (Choice c a b) h = λ i. only_if (is_typed-with_calls c h.0 i) (common (type_of-with_calls a h.1 i) (type_of-with_calls b h.2 i))

    is_typed-with_calls : (c : Test) → EachCallOfTest Typed c → is_typed known functions (test_with_calls replacement c) ≡ is_typed known before c
    is_typed-with_calls (Compares by a b) h = λ i. is_some (common (type_of-with_calls a h.0 i) (type_of-with_calls b h.1 i))
    is_typed-with_calls (Fails c) h = is_typed-with_calls c h
    is_typed-with_calls (Both c d) h = λ i. is_typed-with_calls c h.0 i && is_typed-with_calls d h.1 i
    is_typed-with_calls (Either c d) h = λ i. is_typed-with_calls c h.0 i && is_typed-with_calls d h.1 i

    are_indices-with_calls : (at : Terms) → EachCallOfAll Typed at → are_indices known functions (all_with_calls replacement at) ≡ are_indices known before at
    are_indices-with_calls End h = refl
    are_indices-with_calls (More a rest) h = λ i. is_index (type_of-with_calls a h.0 i) && are_indices-with_calls rest h.1 i
