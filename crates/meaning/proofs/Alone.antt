-- A function's value stands on what its calls answer, and on nothing else.
use Rattle.std.proofs.Common.{◌≡◌, ℕ, zero, suc, ◌-◌, Bool, true, false, List, [], ◌∷◌, ◌++◌, map, Some, ℤ, refl, sym, ap, ◌∙◌, subst, ◌⊎◌, inl, inr, leb}
use Rattle.std.specs.Prelude.{slice_get, All, if◌then◌else◌, not, ◌&&◌, ◌||◌}
use Rattle.std.proofs.lemmas.Option.{slice_get_within, get_or_from_slice_get}
use Rattle.std.proofs.lemmas.List.Elements.{All-head, All-tail}
use Rattle.numeric.specs.Apply.{compare}
use Rattle.tree.specs.declared.value.Value.{Value}
use Rattle.tree.specs.Term.{Term, Number, Name, Call, Minus, Binary, Clamp, Cast, Choice, Terms, End, More, Test, Compares, Fails, Both, Either}
use Rattle.tree.specs.Meaning.{value_of, holds, numbers_of, typed, negated, applied, clamped}
use Rattle.tree.specs.Uses.{EachCall, EachCallOfTest, EachCallOfAll}
use Rattle.numeric.specs.Wrap.{wrap}
use Rattle.meaning.specs.Algorithm.{Change, Function}
use Rattle.meaning.specs.Names.{same_name, same_point, bound}
use Rattle.meaning.specs.Reduction.{size, point}
use Rattle.meaning.specs.Value.{Calls, with_name, number_at, left_side, right_side, update_names, pure_value, value_after, value_updated, value_stepped, value_at_step}
use Rattle.meaning.proofs.Cases.{name_same}

-- a weaker fact of each call
module _ (P Q : List ℕ → Terms → Type 0) (go : (name : List ℕ) (at : Terms) → P name at → Q name at) where
  mutual
    pub each_call : (e : Term) → EachCall P e → EachCall Q e
    each_call (Number t n) h = tt
    each_call (Name name) h = tt
    each_call (Call name at) h = (go name at h.0, each_call_of_all at h.1)
    each_call (Minus a) h = each_call a h
    each_call (Binary op a b) h = (each_call a h.0, each_call b h.1)
    each_call (Clamp a l u) h = (each_call a h.0, each_call l h.1, each_call u h.2)
    each_call (Cast t a) h = each_call a h
    each_call (Choice c a b) h = (each_call_of_test c h.0, each_call a h.1, each_call b h.2)

    each_call_of_test : (c : Test) → EachCallOfTest P c → EachCallOfTest Q c
    each_call_of_test (Compares by a b) h = (each_call a h.0, each_call b h.1)
    each_call_of_test (Fails c) h = each_call_of_test c h
    each_call_of_test (Both c d) h = (each_call_of_test c h.0, each_call_of_test d h.1)
    each_call_of_test (Either c d) h = (each_call_of_test c h.0, each_call_of_test d h.1)

    each_call_of_all : (at : Terms) → EachCallOfAll P at → EachCallOfAll Q at
    each_call_of_all End h = tt
    each_call_of_all (More a rest) h = (each_call a h.0, each_call_of_all rest h.1)

-- the elements of a list
pub all_at : {A : Type 0} (P : A → Type 0) (xs : List A) (k : ℕ) (x : A) → All P xs → slice_get xs k ≡ Some x → P x
all_at P xs k x h e = subst P (get_or_from_slice_get xs k x x e) (h k x (slice_get_within xs k x e))

-- the answers of a name are alike
abbrev pub Alike : Calls → Calls → List ℕ → Type 0
Alike calls others name = (at : List ℤ) → calls name at ≡ others name at

module _ (variables : List ℕ → ℤ) (calls others : Calls) where
  mutual
    pub same_value : (e : Term) → EachCall (λ name at. Alike calls others name) e → value_of variables calls e ≡ value_of variables others e
    same_value (Number t n) h = refl
    same_value (Name name) h = refl
    same_value (Call name at) h = h.0 (numbers_of variables calls at) ∙ ap (others name) (same_numbers at h.1)
    same_value (Minus a) h = ap negated (same_value a h)
    same_value (Binary op a b) h = λ i. applied op (same_value a h.0 i) (same_value b h.1 i)
    same_value (Clamp a l u) h = λ i. clamped (same_value a h.0 i) (same_value l h.1 i) (same_value u h.2 i)
    same_value (Cast t a) h = ap (λ (v : Value). typed t (wrap t v.number)) (same_value a h)
    same_value (Choice c a b) h = λ i. if same_test c h.0 i then same_value a h.1 i else same_value b h.2 i

    same_test : (c : Test) → EachCallOfTest (λ name at. Alike calls others name) c → holds variables calls c ≡ holds variables others c
    same_test (Compares by a b) h = λ i. compare by (same_value a h.0 i).number (same_value b h.1 i).number
    same_test (Fails c) h = ap not (same_test c h)
    same_test (Both c d) h = λ i. same_test c h.0 i && same_test d h.1 i
    same_test (Either c d) h = λ i. same_test c h.0 i || same_test d h.1 i

    same_numbers : (at : Terms) → EachCallOfAll (λ name at. Alike calls others name) at → numbers_of variables calls at ≡ numbers_of variables others at
    same_numbers End h = refl
    same_numbers (More a rest) h = λ i. (same_value a h.0 i).number ∷ same_numbers rest h.1 i

-- one function whose calls, but those to itself, go to names of which both answer alike
module _ (calls others : Calls) (f : Function) (P : List ℕ → Type 0) (alike : (name : List ℕ) → P name → Alike calls others name) where
  abbrev pub Calls_back : Term → Type 0
  Calls_back e = EachCall (λ name at. P name) e

  abbrev pub Calls_back_or_self : Term → Type 0
  Calls_back_or_self e = EachCall (λ name at. P name ⊎ (name ≡ f.name)) e

  pub record UpdateCalls (u : Change) : Type 0 where
    pub left : All Calls_back u.at
    pub right : Calls_back_or_self u.value

  pub same_number : (names : List (List ℕ)) (numbers : List ℤ) (e : Term) → Calls_back e → number_at calls names numbers e ≡ number_at others names numbers e
  same_number names numbers e h =
      let go = each_call (λ name at. P name) (λ name at. Alike calls others name) (λ name at. alike name) e h in
      ap (λ (v : Value). v.number) (same_value (bound names numbers) calls others e go)

  pub same_pure : Calls_back f.value → pure_value calls f ≡ pure_value others f
  same_pure h = λ i p. same_number f.variables p f.value h i

  same_map : (names : List (List ℕ)) (numbers : List ℤ) (es : List Term) → All Calls_back es → map (number_at calls names numbers) es ≡ map (number_at others names numbers) es
  same_map names numbers [] h = refl
  same_map names numbers (e ∷ es) h =
      λ i. same_number names numbers e (All-head Calls_back e es h) i ∷ same_map names numbers es (All-tail Calls_back e es h) i

  pub same_left : (u : Change) (p r : List ℤ) → All Calls_back u.at → left_side calls f u p r ≡ left_side others f u p r
  same_left u p r h = same_map (update_names calls f u) (p ++ r) u.at h

  -- with the same values of the function itself
  with_alike : (v w : List ℤ → ℤ) → v ≡ w → (name : List ℕ) → P name ⊎ (name ≡ f.name) → Alike (with_name calls f.name f.ty v) (with_name others f.name f.ty w) name
  with_alike v w e name (inl h) at =
      λ i. elim (same_name f.name name) [ true ↦ typed f.ty (e i at) | false ↦ alike name h at i ]
  with_alike v w e name (inr h) at =
      let test = name_same f.name name (sym h) in
      let first : Bool → Value = λ b. elim b [ true ↦ typed f.ty (v at) | false ↦ calls name at ] in
      let second : Bool → Value = λ b. elim b [ true ↦ typed f.ty (w at) | false ↦ others name at ] in
      ap first test ∙ ap (λ (g : List ℤ → ℤ). typed f.ty (g at)) e ∙ sym (ap second test)

  pub same_right : (v w : List ℤ → ℤ) → v ≡ w → (u : Change) (p r : List ℤ) → Calls_back_or_self u.value → right_side calls f v u p r ≡ right_side others f w u p r
  same_right v w e u p r h =
      let go = each_call (λ name at. P name ⊎ (name ≡ f.name)) (λ name at. Alike (with_name calls f.name f.ty v) (with_name others f.name f.ty w) name) (λ name at. with_alike v w e name) u.value h in
      ap (λ (x : Value). x.number) (same_value (bound (update_names calls f u) (p ++ r)) (with_name calls f.name f.ty v) (with_name others f.name f.ty w) u.value go)

  pub same_after : (v w : List ℤ → ℤ) → v ≡ w → (u : Change) → UpdateCalls u → (n : ℕ) → value_after calls f v u n ≡ value_after others f w u n
  same_after v w e u h zero = e
  same_after v w e u h (suc n) =
      let before = same_after v w e u h n in
      λ i p. elim (same_point (same_left u p (point u.ranges n) h.left i) p) [
        | true ↦ same_right (value_after calls f v u n) (value_after others f w u n) before u p (point u.ranges n) h.right i
        | false ↦ before i p
      ]

  pub same_stepped : (v w : List ℤ → ℤ) → v ≡ w → (us : List Change) → ((k : ℕ) (u : Change) → slice_get us k ≡ Some u → UpdateCalls u) → (s : ℕ) → value_stepped calls f v us s ≡ value_stepped others f w us s
  same_stepped v w e [] h s = e
  same_stepped v w e (u ∷ us) h s =
      let here = same_after v w e u (h 0 u refl) s in
      let whole = same_after v w e u (h 0 u refl) (size u.ranges) in
      let later = same_stepped (value_updated calls f v u) (value_updated others f w u) whole us (λ k x g. h (suc k) x g) (s - size u.ranges) in
      λ i. elim (leb s (size u.ranges)) [ true ↦ here i | false ↦ later i ]

  pub same_at_step : Calls_back f.value → ((k : ℕ) (u : Change) → slice_get f.changes k ≡ Some u → UpdateCalls u) → (s : ℕ) → value_at_step calls f s ≡ value_at_step others f s
  same_at_step h us s = same_stepped (pure_value calls f) (pure_value others f) (same_pure h) f.changes us s
