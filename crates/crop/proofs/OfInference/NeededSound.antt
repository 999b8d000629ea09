-- The needed region holds the points at which the definitions of a function call.
use Rattle.std.proofs.Common.{◌≡◌, ◌<◌, ℕ, zero, suc, List, [], ◌∷◌, ◌++◌, length, take, Bool, true, false, Option, Some, None, IsSome, refl, sym, ap, ◌∙◌, subst, arith, inl, inr}
use Rattle.std.specs.Prelude.{ℤ, flat_map, slice_get, MatchOption}
use Rattle.std.specs.List.{AllByRecursion}
use Rattle.std.proofs.lemmas.List.Elements.{recursion_from_All, All-from_recursion}
use Rattle.numeric.specs.declared.ty.Ty.{Ty}
use Rattle.numeric.specs.declared.ty.Ty.TheVariants.{I32}
use Rattle.tree.specs.Term.{Term}
use Rattle.tree.specs.Names.{TakesCall}
use Rattle.tree.specs.Typing.{type_of}
use Rattle.tree.specs.Uses.{calls_made}
use Rattle.meaning.specs.Algorithm.{Change, Function, Algorithm}
use Rattle.meaning.specs.Names.{same_name, is_among}
use Rattle.meaning.specs.Conditions.{callable, names_in, IsAlgorithm, IsExpression, IsUpdate, IsFunction}
use Rattle.meaning.proofs.Cases.{same_name_is}
use Rattle.meaning.proofs.Calls.{callable_other, callable_found, take_one_more, none_is_input, none_before_is}
use Rattle.algo.specs.Scoping.Standing.{calls_of}
use Rattle.lin.specs.declared.scope.Binding.{Binding}
use Rattle.lin.specs.declared.span.Span1.{Span1}
use Rattle.lin.specs.Spans.{HoldsIn}
use Rattle.lin.proofs.TermLemmas.{all_weaker}
use Rattle.bounds.proofs.ListSound.{all-append}
use Rattle.bounds.specs.Projection.Unions.{united}
use Rattle.crop.specs.Inference.Regions.{regions_of}
use Rattle.crop.specs.Inference.Needed.{callable_before, callable_through, with_domain, names_beside, left_regions, right_regions, update_regions, pure_regions, regions_in, needed_outside}
use Rattle.crop.specs.Inference.Sound.{IsInIfNamed, ContainsCalls, ContainsUpdate, ContainsFunction, ContainsOutside}
use Rattle.bounds.proofs.UnionHolds.{HasLength, Reaches, fold-holds}
use Rattle.bounds.specs.Projection.Sound.{IsOuterSpan, IsOuter}
use Rattle.crop.proofs.OfInference.Freed.{OuterIf, none-outer, fold-outer, calls-outer, lies_outside}
use Rattle.crop.proofs.OfInference.CallSound.{HasCount, lengths, calls-reached}

-- ---- lists
flat-all : {X Y : Type 0} (P : X → Type 0) (R : Y → Type 0) (g : X → List Y) → ((x : X) → P x → AllByRecursion R (g x)) → (xs : List X) → AllByRecursion P xs → AllByRecursion R (flat_map g xs)
flat-all P R g h [] a = tt
flat-all P R g h (x ∷ xs) a = all-append R (g x) (flat_map g xs) (h x a.0) (flat-all P R g h xs a.1)

flat-each : {X Y : Type 0} (R : Y → Type 0) (g : X → List Y) → ((x : X) → AllByRecursion R (g x)) → (xs : List X) → AllByRecursion R (flat_map g xs)
flat-each R g h [] = tt
flat-each R g h (x ∷ xs) = all-append R (g x) (flat_map g xs) (h x) (flat-each R g h xs)

all-left : {X : Type 0} (P : X → Type 0) (xs ys : List X) → AllByRecursion P (xs ++ ys) → AllByRecursion P xs
all-left P [] ys a = tt
all-left P (x ∷ xs) ys a = (a.0, all-left P xs ys a.1)

all-right : {X : Type 0} (P : X → Type 0) (xs ys : List X) → AllByRecursion P (xs ++ ys) → AllByRecursion P ys
all-right P [] ys a = a
all-right P (x ∷ xs) ys a = all-right P xs ys a.1

all-flat : {X Y : Type 0} (R : Y → Type 0) (g : X → List Y) → (xs : List X) → AllByRecursion R (flat_map g xs) → AllByRecursion (λ x. AllByRecursion R (g x)) xs
all-flat R g [] a = tt
all-flat R g (x ∷ xs) a = (all-left R (g x) (flat_map g xs) a, all-flat R g xs (all-right R (g x) (flat_map g xs) a))

-- ---- how many indices what is called takes
abbrev count_of : Option (Ty × ℕ) → ℕ
count_of None = 0
count_of (Some f) = f.1

counted : (o : Option (Ty × ℕ)) (m : ℕ) → TakesCall o m → m ≡ count_of o
counted None m t = absurd t
counted (Some f) m t = sym t

taken : (o : Option (Ty × ℕ)) (m : ℕ) → TakesCall o m → IsSome o
taken None m t = absurd t
taken (Some f) m t = refl

typed_is : (o : Option Ty) (t : Ty) → o ≡ Some t → IsSome o
typed_is o t e = let P : Option Ty → Type 0 = λ p. IsSome p in subst P (sym e) refl

module _ (a : Algorithm) (w : IsAlgorithm a) (k : ℕ) (f : Function) (e : slice_get a.functions k ≡ Some f) (callee : List ℕ) where
  abbrev n : ℕ
  n = count_of (callable_through a k callee)

  through : HasCount (callable_through a k) callee n
  through m t = counted (callable_through a k callee) m t

  more : callable a (take k a.functions ++ f ∷ []) callee ≡ callable_through a k callee
  more = ap (λ fs. callable a fs callee) (sym (take_one_more a.functions k f e))

  before : HasCount (callable_before a k) callee n
  before m t = by (same_name f.name callee) refl
    where
      by : (b : Bool) → same_name f.name callee ≡ b → m ≡ n
      by false d = let P : Option (Ty × ℕ) → Type 0 = λ o. TakesCall o m in
          through m (subst P (sym (callable_other a (take k a.functions) f callee d) ∙ more) t)
      by true d = elim (callable_found a (take k a.functions) callee (taken (callable_before a k callee) m t)) [
        | inl i ↦ absurd (none_is_input a w.names k f e (same_name_is f.name callee d ∙ i))
        | inr g ↦ absurd (none_before_is a w.names k f e g.0 g.1 g.2 (g.3 ∙ sym (same_name_is f.name callee d)))
      ]

  module _ (scope : List Binding) (inner : List ℕ) (region : List Span1) where
    own : IsFunction a (take k a.functions) f
    own = w.functions k f e

    abbrev known_in : Change → List ℕ → Bool
    known_in u = is_among (names_in f u)

    abbrev IsLeft : Change → Term → Type 0
    IsLeft u x = IsSome (type_of (known_in u) (callable_before a k) x)

    abbrev IsRight : Change → Type 0
    IsRight u = IsSome (type_of (known_in u) (callable_through a k) u.value)

    abbrev IsTyped : Change → Type 0
    IsTyped u = AllByRecursion (IsLeft u) u.at × IsRight u

    pure_typed : IsSome (type_of (is_among f.variables) (callable_before a k) f.value)
    pure_typed = typed_is (type_of (is_among f.variables) (callable_before a k) f.value) f.ty own.pure.typed

    lefts_typed : (u : Change) (xs : List Term) → AllByRecursion (IsExpression (names_in f u) (callable_before a k) I32) xs → AllByRecursion (IsLeft u) xs
    lefts_typed u [] h = tt
    lefts_typed u (x ∷ xs) h = (typed_is (type_of (known_in u) (callable_before a k) x) I32 h.0.typed, lefts_typed u xs h.1)

    right_typed : (u : Change) → IsUpdate a (take k a.functions) f u → IsRight u
    right_typed u h =
        let P : List Function → Type 0 = λ fs. IsSome (type_of (known_in u) (callable a fs) u.value) in
        subst P (sym (take_one_more a.functions k f e)) (typed_is (type_of (known_in u) (callable a (take k a.functions ++ f ∷ [])) u.value) f.ty h.right.typed)

    update_typed : (u : Change) → IsUpdate a (take k a.functions) f u → IsTyped u
    update_typed u h = (lefts_typed u u.at (recursion_from_All (IsExpression (names_in f u) (callable_before a k) I32) u.at h.left), right_typed u h)

    updates_typed : AllByRecursion IsTyped f.changes
    updates_typed = by f.changes (recursion_from_All (IsUpdate a (take k a.functions) f) f.changes own.updates)
      where
        by : (us : List Change) → AllByRecursion (IsUpdate a (take k a.functions) f) us → AllByRecursion IsTyped us
        by [] h = tt
        by (u ∷ us) h = (update_typed u h.0, by us h.1)

    -- the regions of the calls in one left index
    abbrev left_of : Change → Term → List (Option (List Span1))
    left_of u x = regions_of scope (callable_before a k) (names_beside f.variables u.ranges) (with_domain region u.ranges) inner callee (calls_of x)

    update-lengths : (u : Change) → IsTyped u → AllByRecursion (HasLength n) (update_regions scope inner a k callee region f.variables u)
    update-lengths u h = all-append (HasLength n) (left_regions scope inner a k callee region f.variables u.ranges u.at) (right_regions scope inner a k callee region f.variables u.ranges u.value)
        (flat-all (IsLeft u) (HasLength n) (left_of u) (λ x p. lengths scope (known_in u) (callable_before a k) (names_in f u) (with_domain region u.ranges) inner callee n before x p) u.at h.0)
        (lengths scope (known_in u) (callable_through a k) (names_in f u) (with_domain region u.ranges) inner callee n through u.value h.1)

    all-lengths : AllByRecursion (HasLength n) (regions_in scope inner a k callee region f)
    all-lengths = all-append (HasLength n) (pure_regions scope inner a k callee region f.variables f.value) (flat_map (update_regions scope inner a k callee region f.variables) f.changes)
        (lengths scope (is_among f.variables) (callable_before a k) f.variables region inner callee n before f.value pure_typed)
        (flat-all IsTyped (HasLength n) (update_regions scope inner a k callee region f.variables) update-lengths f.changes updates_typed)

    module _ (found : List Span1) (is : united scope (regions_in scope inner a k callee region f) ≡ Some found) where
      abbrev R : (v : ℕ → ℤ) → HoldsIn scope v → Option (List Span1) → Type 0
      R v r = Reaches scope v r n (united scope (regions_in scope inner a k callee region f))

      reaches : (v : ℕ → ℤ) (r : HoldsIn scope v) → AllByRecursion (R v r) (regions_in scope inner a k callee region f)
      reaches v r = fold-holds scope v r n (Some []) (regions_in scope inner a k callee region f) all-lengths (λ s d. inl (let q : [] ≡ s = cc in sym q))

      -- no region of a call names an inner symbol, and no union of such ones
      each_outer : (functions : List ℕ → Option (Ty × ℕ)) (names : List (List ℕ)) (spans : List Span1) (x : Term) → AllByRecursion (OuterIf inner) (regions_of scope functions names spans inner callee (calls_of x))
      each_outer functions names spans x = calls-outer scope functions names spans inner callee (calls_of x)

      update-outer : (u : Change) → AllByRecursion (OuterIf inner) (update_regions scope inner a k callee region f.variables u)
      update-outer u = all-append (OuterIf inner) (left_regions scope inner a k callee region f.variables u.ranges u.at) (right_regions scope inner a k callee region f.variables u.ranges u.value)
          (flat-each (OuterIf inner) (left_of u) (λ x. each_outer (callable_before a k) (names_beside f.variables u.ranges) (with_domain region u.ranges) x) u.at)
          (each_outer (callable_through a k) (names_beside f.variables u.ranges) (with_domain region u.ranges) u.value)

      found-outer : AllByRecursion (IsOuterSpan inner) found
      found-outer = fold-outer scope inner (Some []) (regions_in scope inner a k callee region f) (λ s d. none-outer inner s d)
          (all-append (OuterIf inner) (pure_regions scope inner a k callee region f.variables f.value) (flat_map (update_regions scope inner a k callee region f.variables) f.changes)
          (each_outer (callable_before a k) f.variables region f.value)
          (flat-each (OuterIf inner) (update_regions scope inner a k callee region f.variables) update-outer f.changes))
          found is

      pub outer : IsOuter inner found
      outer = All-from_recursion (IsOuterSpan inner) found found-outer

      -- the calls of one expression, whose regions are among those united
      one : (known : List ℕ → Bool) (functions : List ℕ → Option (Ty × ℕ)) (names : List (List ℕ)) (spans : List Span1) (x : Term) → HasCount functions callee n → IsSome (type_of known functions x)
          → ((v : ℕ → ℤ) (r : HoldsIn scope v) → AllByRecursion (R v r) (regions_of scope functions names spans inner callee (calls_of x)))
          → ContainsCalls scope inner known functions names spans callee x found
      one known functions names spans x c t h = λ v w values answers r agree told inside.
          All-from_recursion (IsInIfNamed callee w found) (calls_made values answers x)
          (all_weaker (IsInIfNamed callee v found) (IsInIfNamed callee w found) (λ asked here named. lies_outside inner v w agree found asked.at found-outer (here named)) (calls_made values answers x)
          (recursion_from_All (IsInIfNamed callee v found) (calls_made values answers x)
          (calls-reached scope known functions names spans inner callee n c v r (united scope (regions_in scope inner a k callee region f)) values answers told inside x found is t (h v r))))

      ofUpdates : (v : ℕ → ℤ) (r : HoldsIn scope v) → AllByRecursion (λ u. AllByRecursion (R v r) (update_regions scope inner a k callee region f.variables u)) f.changes
      ofUpdates v r = all-flat (R v r) (update_regions scope inner a k callee region f.variables) f.changes
          (all-right (R v r) (pure_regions scope inner a k callee region f.variables f.value) (flat_map (update_regions scope inner a k callee region f.variables) f.changes) (reaches v r))

      update-contains : (u : Change) → IsTyped u
          → ((v : ℕ → ℤ) (r : HoldsIn scope v) → AllByRecursion (R v r) (update_regions scope inner a k callee region f.variables u))
          → ContainsUpdate scope inner a k callee region found f u
      update-contains u t h = record {
        left = All-from_recursion (λ x. ContainsCalls scope inner (known_in u) (callable_before a k) (names_in f u) (with_domain region u.ranges) callee x found) u.at (lefts u.at t.0 (λ v r. all-left (R v r) (left_regions scope inner a k callee region f.variables u.ranges u.at) (right_regions scope inner a k callee region f.variables u.ranges u.value) (h v r)));
        right = one (known_in u) (callable_through a k) (names_in f u) (with_domain region u.ranges) u.value through t.1
            (λ v r. all-right (R v r) (left_regions scope inner a k callee region f.variables u.ranges u.at) (right_regions scope inner a k callee region f.variables u.ranges u.value) (h v r));
      }
        where
          lefts : (xs : List Term) → AllByRecursion (IsLeft u) xs
              → ((v : ℕ → ℤ) (r : HoldsIn scope v) → AllByRecursion (R v r) (left_regions scope inner a k callee region f.variables u.ranges xs))
              → AllByRecursion (λ x. ContainsCalls scope inner (known_in u) (callable_before a k) (names_in f u) (with_domain region u.ranges) callee x found) xs
          lefts [] t h = tt
          lefts (x ∷ xs) t h = (
            one (known_in u) (callable_before a k) (names_in f u) (with_domain region u.ranges) x before t.0 (λ v r. all-left (R v r) (left_of u x) (flat_map (left_of u) xs) (h v r)),
            lefts xs t.1 (λ v r. all-right (R v r) (left_of u x) (flat_map (left_of u) xs) (h v r)),
          )

      pub contains-function : ContainsFunction scope inner a k callee region found f
      contains-function = record {
        pure = one (is_among f.variables) (callable_before a k) f.variables region f.value before pure_typed (λ v r. all-left (R v r) (pure_regions scope inner a k callee region f.variables f.value) (flat_map (update_regions scope inner a k callee region f.variables) f.changes) (reaches v r));
        updates = All-from_recursion (ContainsUpdate scope inner a k callee region found f) f.changes (by f.changes updates_typed ofUpdates);
      }
        where
          by : (us : List Change) → AllByRecursion IsTyped us
              → ((v : ℕ → ℤ) (r : HoldsIn scope v) → AllByRecursion (λ u. AllByRecursion (R v r) (update_regions scope inner a k callee region f.variables u)) us)
              → AllByRecursion (ContainsUpdate scope inner a k callee region found f) us
          by [] t h = tt
          by (u ∷ us) t h = (update-contains u t.0 (λ v r. (h v r).0), by us t.1 (λ v r. (h v r).1))

stands : (fs : List Function) (k : ℕ) → k < length fs → slice_get fs k ≡ None → ⊥
stands [] k h e = omega (arith, h)
stands (f ∷ fs) zero h e = cc
stands (f ∷ fs) (suc k) h e = stands fs k (omega (arith, h)) e

-- what holds of a region that is found for a function holds of that found for the k-th
of_function : (a : Algorithm) (w : IsAlgorithm a) (k : ℕ) (scope : List Binding) (inner callee : List ℕ) (region found : List Span1) → k < length a.functions → needed_outside scope inner a k callee region ≡ Some found
    → IsOuter inner found × ContainsOutside scope inner a k callee region found
of_function a w k scope inner callee region found h e = by (slice_get a.functions k) refl e
  where
    by : (o : Option Function) → slice_get a.functions k ≡ o → elim o [ Some f ↦ united scope (regions_in scope inner a k callee region f) | None ↦ Some [] ] ≡ Some found
        → IsOuter inner found × MatchOption o ⊥ (ContainsFunction scope inner a k callee region found)
    by None d q = absurd (stands a.functions k h d)
    by (Some f) d q = (outer a w k f d callee scope inner region found q, contains-function a w k f d callee scope inner region found q)

pub outer-needed : (a : Algorithm) (w : IsAlgorithm a) (k : ℕ) (scope : List Binding) (inner callee : List ℕ) (region found : List Span1) → k < length a.functions → needed_outside scope inner a k callee region ≡ Some found → IsOuter inner found
outer-needed a w k scope inner callee region found h e = (of_function a w k scope inner callee region found h e).0

pub contains-needed : (a : Algorithm) (w : IsAlgorithm a) (k : ℕ) (scope : List Binding) (inner callee : List ℕ) (region found : List Span1) → k < length a.functions → needed_outside scope inner a k callee region ≡ Some found
    → ContainsOutside scope inner a k callee region found
contains-needed a w k scope inner callee region found h e = (of_function a w k scope inner callee region found h e).1
