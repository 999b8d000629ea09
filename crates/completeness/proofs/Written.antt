-- What the definitions of a function with the calls put in are over: their variables, and the calls that stay.
use Rattle.std.proofs.Common.{◌≡◌, ℕ, zero, suc, ◌+◌, Bool, true, false, List, [], ◌∷◌, ◌++◌, length, map, take, drop, Option, Some, None, refl, sym, ap, ◌∙◌, subst, arith}
use Rattle.std.specs.Prelude.{pos, if◌then◌else◌, slice_get}
use Rattle.std.specs.List.{AllByRecursion}
use Rattle.std.specs.Option.{option_map}
use Rattle.std.proofs.lemmas.List.{append-nil}
use Rattle.std.proofs.lemmas.List.Elements.{recursion_from_All}
use Rattle.numeric.specs.declared.ty.Ty.{Ty}
use Rattle.numeric.specs.declared.ty.Ty.TheVariants.{I32}
use Rattle.tree.specs.Term.{Term}
use Rattle.tree.specs.Typing.{type_of}
use Rattle.tree.specs.Uses.{EachCall}
use Rattle.tree.proofs.Uses.{each_call as every_call}
use Rattle.lin.proofs.TermLemmas.{all_weaker}
use Rattle.plan.specs.Plan.{Coordinate}
use Rattle.meaning.specs.Algorithm.{Range, Change, Function, Algorithm}
use Rattle.meaning.specs.Names.{is_among}
use Rattle.meaning.specs.Conditions.{IsAlgorithm, is_variable, callable, names_in}
use Rattle.meaning.specs.Functions.{GoesBack}
use Rattle.meaning.specs.Inlining.Laws.{HasType, KeepsItsSide, StaysCalled}
use Rattle.meaning.specs.Inlining.PutIn.{put_in}
use Rattle.meaning.proofs.Alone.{each_call}
use Rattle.meaning.proofs.Back.{pure_goes_back}
use Rattle.meaning.proofs.Own.{definition_typed, put_in_keeps_type, others_are_left, sides_keep}
use Rattle.sched.specs.Subjects.{reductions_of}
use Rattle.sched.specs.declared.skeleton.Known.{Known}
use Rattle.sched.specs.Skeleton.{BodyText, variables_at}
use Rattle.sched.specs.Standing.{◌>>=◌}
use Rattle.validation.specs.Groups.Wrong.{HasNames}
use Rattle.validation.specs.Stored.Definitions.{parts_of, Definition, Pure, Step, definition_in, function_in}
use Rattle.sched.specs.Stored.{FormulaText}
use Rattle.blocks.specs.Stored.{put, left_put, lefts_put, formulas_put}
use Rattle.regions.specs.Regions.{turnings, bodies_from}
use Rattle.sched.specs.Around.{range_names, ranges_of, names_with}
use Rattle.blocks.proofs.Laying.{bound, same}
use Rattle.completeness.proofs.Earlier.{put_back}
use Rattle.completeness.proofs.Defined.{put_is, first_put, other_put}

-- ---- names of coordinates

abbrev variables_of : List Coordinate → List (List ℕ)
variables_of at = map (λ c. c.variable) at

first_names : (at : List Coordinate) (xs ys : List (List ℕ)) → variables_of at ≡ xs ++ ys → variables_of (take (length xs) at) ≡ xs
first_names [] [] ys e = refl
first_names (c ∷ at) [] ys e = refl
first_names [] (x ∷ xs) ys e = absurd (cc e)
first_names (c ∷ at) (x ∷ xs) ys e =
    let here : c.variable ≡ x = cc e in
    let behind : variables_of at ≡ xs ++ ys = cc e in
    let rest = first_names at xs ys behind in
    (λ i. here i ∷ rest i)

other_names : (at : List Coordinate) (xs ys : List (List ℕ)) → variables_of at ≡ xs ++ ys → variables_of (drop (length xs) at) ≡ ys
other_names [] [] ys e = e
other_names (c ∷ at) [] ys e = e
other_names [] (x ∷ xs) ys e = absurd (cc e)
other_names (c ∷ at) (x ∷ xs) ys e = (let behind : variables_of at ≡ xs ++ ys = cc e in other_names at xs ys behind)

-- ---- reduction variables, definition by definition

abbrev pub first_ranges : List Change → List Range
first_ranges [] = []
first_ranges (u ∷ us) = u.ranges

abbrev pub behind_first : List Change → List Change
behind_first [] = []
behind_first (u ∷ us) = us

turnings_long : (rs : List Range) (xs : List (List ℕ)) → length (turnings rs (range_names rs ++ xs)) ≡ length rs
turnings_long [] xs = refl
turnings_long (r ∷ rs) xs = ap suc (turnings_long rs xs)

names_gone : (rs : List Range) (xs : List (List ℕ)) → drop (length rs) (range_names rs ++ xs) ≡ xs
names_gone [] xs = refl
names_gone (r ∷ rs) xs = names_gone rs xs

turned : (us : List Change) → length (turnings (first_ranges us) (reductions_of us)) ≡ length (first_ranges us)
turned [] = refl
turned (u ∷ us) = turnings_long u.ranges (reductions_of us)

pub gone : (us : List Change) → drop (length (first_ranges us)) (reductions_of us) ≡ reductions_of (behind_first us)
gone [] = refl
gone (u ∷ us) = names_gone u.ranges (reductions_of us)

pub later : (us : List Change) (j : ℕ) → slice_get us (suc j) ≡ slice_get (behind_first us) j
later [] j = refl
later (u ∷ us) j = refl

module _ (every : List Change) where
  pub ranges_here : (us : List Change) (i k : ℕ) → k ≡ suc i → slice_get every i ≡ slice_get us 0 → ranges_of every k ≡ first_ranges us
  ranges_here us i k e q = ap (ranges_of every) e ∙ ap (λ (o : Option Change). elim o [ Some u ↦ u.ranges | None ↦ [] ]) q ∙ of us
    where
      of : (us : List Change) → elim (slice_get us 0) [ Some u ↦ u.ranges | None ↦ [] ] ≡ first_ranges us
      of [] = refl
      of (u ∷ us) = refl

  ranges_there : (us : List Change) (i k : ℕ) → k ≡ suc i → ((j : ℕ) → slice_get every (i + j) ≡ slice_get us j) → (fs : List FormulaText) (d : ℕ) (b : BodyText) →
      slice_get (bodies_from every k (reductions_of us) fs) d ≡ Some b → length b.ranges ≡ length (ranges_of every (k + d))
  ranges_there us i k e stands [] d b at = absurd (cc at)
  ranges_there us i k e stands (f ∷ fs) zero b at =
      let none : i + 0 ≡ i = omega arith in
      let here = ranges_here us i k e (ap (slice_get every) (sym none) ∙ stands 0) in
      let same : k ≡ k + 0 = omega arith in
      ap (λ (c : BodyText). length c.ranges) (sym (some_body _ b at)) ∙ ap (λ (rs : List Range). length (turnings rs (reductions_of us))) here ∙ turned us ∙ ap length (sym here)
      ∙ ap (λ (m : ℕ). length (ranges_of every m)) same
    where
      some_body : (c d : BodyText) → Some c ≡ Some d → c ≡ d
      some_body c d q = cc q
  ranges_there us i k e stands (f ∷ fs) (suc d) b at =
      let none : i + 0 ≡ i = omega arith in
      let here = ranges_here us i k e (ap (slice_get every) (sym none) ∙ stands 0) in
      let rest : drop (length (ranges_of every k)) (reductions_of us) ≡ reductions_of (behind_first us) = ap (λ (rs : List Range). drop (length rs) (reductions_of us)) here ∙ gone us in
      let next : (k + 1) + d ≡ k + suc d = omega arith in
      ranges_there (behind_first us) (i + 1) (k + 1) (omega (arith, e)) (λ j. let after : (i + 1) + j ≡ i + suc j = omega arith in ap (slice_get every) after ∙ stands (suc j) ∙ later us j) fs d b
      (ap (λ (xs : List (List ℕ)). slice_get (bodies_from every (k + 1) xs fs) d) (sym rest) ∙ at) ∙ ap (λ (m : ℕ). length (ranges_of every m)) next

-- the loops of a nest over reduction variables are those of its definition
pub ranges_long : (us : List Change) (fs : List FormulaText) (d : ℕ) (b : BodyText) → slice_get (bodies_from us 0 (reductions_of us) fs) d ≡ Some b → length b.ranges ≡ length (ranges_of us d)
ranges_long us [] d b at = absurd (cc at)
ranges_long us (f ∷ fs) zero b at = ap (λ (c : BodyText). length c.ranges) (sym (some_body _ b at))
  where
    some_body : (c d : BodyText) → Some c ≡ Some d → c ≡ d
    some_body c d q = cc q
ranges_long us (f ∷ fs) (suc d) b at =
    let next : 1 + d ≡ suc d = omega arith in
    ranges_there us us 0 1 refl (λ j. let none : 0 + j ≡ j = omega arith in ap (slice_get us) none) fs d b at ∙ ap (λ (m : ℕ). length (ranges_of us m)) next

-- a nest's coordinates for its function's variables
pub variables_long : (b : BodyText) (d : ℕ) (xs : List (List ℕ)) (ks : List Known) → length (variables_at b d xs ks) ≡ length xs
variables_long b d [] ks = refl
variables_long b d (x ∷ xs) ks = ap suc (variables_long b (d + 1) xs ks)

-- ---- definitions with the calls put in

module _ (a : Algorithm) (well : IsAlgorithm a) (st : List Bool) (place : ℕ) (f : Function) (at : slice_get a.functions place ≡ Some f) where
  -- in the pure definition, a call goes back
  abbrev pub BackIf : ℕ → List ℕ → Type 0
  BackIf d x = d ≡ 0 → GoesBack a place x

  -- an expression of the definition of this number, over these variables
  pub record IsOver (names : List (List ℕ)) (d : ℕ) (e : Term) : Type 0 where
    pub ty : Ty
    pub typed : type_of (is_among names) (callable a a.functions) e ≡ Some ty
    pub stays : EachCall (λ x at. StaysCalled a st x) e
    pub back : EachCall (λ x at. BackIf d x) e

  is_over : (names : List (List ℕ)) (d : ℕ) (t : Ty) (q e : Term) → put a st q ≡ Some e → HasType a (is_among names) t q → EachCall (λ x at. BackIf d x) (put_in a st q) → IsOver names d e
  is_over names d t q e is typed back =
      let same : put_in a st q ≡ e = (put_is a st q e is).1 in
      record {
        ty = t;
        typed = ap (type_of (is_among names) (callable a a.functions)) (sym same) ∙ put_in_keeps_type a well st (is_among names) t q typed;
        stays = subst (EachCall (λ x at. StaysCalled a st x)) same (others_are_left a well st q);
        back = subst (EachCall (λ x at. BackIf d x)) same back;
      }

  abbrev pub LeftIsOver : List (List ℕ) → ℕ → Option Term → Type 0
  LeftIsOver names d None = Unit {0}
  LeftIsOver names d (Some e) = IsOver names d e

  -- the definition of this number, and what its expressions are over
  pub record IsWritten (d : ℕ) (u : FormulaText) : Type 0 where
    pub definition : Definition
    pub is : definition_in (Some (parts_of f)) d ≡ Some definition
    pub variables : (function_in definition).variables ≡ f.variables
    pub names : List (List ℕ)
    pub are : names_with f.variables f.changes d ≡ names
    pub fits : (cs : List Coordinate) → variables_of cs ≡ names → HasNames definition cs
    pub value : IsOver names d u.value
    pub lefts : AllByRecursion (LeftIsOver names d) u.at

  no_lefts : (names : List (List ℕ)) (d : ℕ) (xs : List (List ℕ)) → AllByRecursion (LeftIsOver names d) (map (λ x. None) xs)
  no_lefts names d [] = tt
  no_lefts names d (x ∷ xs) = (tt, no_lefts names d xs)

  lefts_over : (names : List (List ℕ)) (i : ℕ) (xs : List (List ℕ)) (es : List Term) (os : List (Option Term)) → AllByRecursion (HasType a (is_among names) I32) es → lefts_put a st xs es ≡ Some os →
      AllByRecursion (LeftIsOver names (suc i)) os
  lefts_over names i [] es os typed q = subst (AllByRecursion (LeftIsOver names (suc i))) (same [] os q) tt
  lefts_over names i (x ∷ xs) [] os typed q = subst (AllByRecursion (LeftIsOver names (suc i))) (same [] os q) tt
  lefts_over names i (x ∷ xs) (e ∷ es) os typed q =
      let b = bound (left_put a st x e) (λ o. lefts_put a st xs es >>= λ rest. Some (o ∷ rest)) os q in
      let c = bound (lefts_put a st xs es) (λ rest. Some (b.value ∷ rest)) os b.comes in
      subst (AllByRecursion (LeftIsOver names (suc i))) (same (b.value ∷ c.value) os c.comes) (left b.value (is_variable x e) b.is, lefts_over names i xs es c.value typed.1 c.is)
    where
      left : (o : Option Term) (v : Bool) → (if v then Some None else (put a st e >>= λ i. Some (Some i))) ≡ Some o → LeftIsOver names (suc i) o
      left o true k = subst (LeftIsOver names (suc i)) (same None o k) tt
      left o false k =
          let d = bound (put a st e) (λ i. Some (Some i)) o k in
          subst (LeftIsOver names (suc i)) (same (Some d.value) o d.comes)
          (is_over names (suc i) I32 e d.value d.is typed.0 (every_call (λ x at. BackIf (suc i) x) (λ x at none. absurd (omega (arith, none))) (put_in a st e)))

  pub written : (fs : List FormulaText) → formulas_put a st f.variables f.value f.changes ≡ Some fs → (d : ℕ) (u : FormulaText) → slice_get fs d ≡ Some u → IsWritten d u
  written fs h zero u there =
      let first = first_put a st f.variables f.value f.changes fs u h there in
      let b = bound (put a st f.value) (λ v. Some (record { at = map (λ x. None) f.variables; value = v })) u first in
      let back = each_call (λ x at. GoesBack a place x) (λ x at. BackIf 0 x) (λ x at k none. k) (put_in a st f.value) (put_back a well place st f.value (pure_goes_back a place f well at)) in
      let over = is_over f.variables 0 f.ty f.value b.value b.is (definition_typed a well place f at) back in
      let made : FormulaText = record { at = map (λ x. None) f.variables; value = b.value } in
      subst (IsWritten 0) (same made u b.comes) (record {
        definition = Pure (parts_of f);
        is = refl;
        variables = refl;
        names = f.variables;
        are = append-nil f.variables;
        fits = λ cs e. e;
        value = over;
        lefts = no_lefts f.variables 0 f.variables;
      })
  written fs h (suc i) u there =
      let o = other_put a st f.variables f.value f.changes fs i u h there in
      let y = o.change in
      let m = bound (lefts_put a st f.variables y.at) (λ at. put a st y.value >>= λ v. Some (record { at = at; value = v })) u o.is in
      let r = bound (put a st y.value) (λ v. Some (record { at = m.value; value = v })) u m.comes in
      let sides = sides_keep a [] well place f at (λ q. pos 0) st i y o.at in
      let names : List (List ℕ) = names_in f y in
      let typed : AllByRecursion (HasType a (is_among names) I32) y.at =
      all_weaker (KeepsItsSide a st _ names I32) (HasType a (is_among names) I32) (λ t k. k.has_type) y.at (recursion_from_All _ y.at sides.left) in
      let ranges : ranges_of f.changes (suc i) ≡ y.ranges = ap (λ (z : Option Change). elim z [ Some u ↦ u.ranges | None ↦ [] ]) o.at in
      let value = is_over names (suc i) f.ty y.value r.value r.is sides.right.has_type
      (every_call (λ x at. BackIf (suc i) x) (λ x at none. absurd (omega (arith, none))) (put_in a st y.value)) in
      let made : FormulaText = record { at = m.value; value = r.value } in
      subst (IsWritten (suc i)) (same made u r.comes) (record {
        definition = Step (parts_of f) y;
        is = ap (option_map (Step (parts_of f))) o.at;
        variables = refl;
        names = names;
        are = ap (λ (rs : List Range). f.variables ++ range_names rs) ranges;
        fits = λ cs e. (first_names cs f.variables (range_names y.ranges) e, other_names cs f.variables (range_names y.ranges) e);
        value = value;
        lefts = lefts_over names i f.variables y.at m.value typed m.is;
      })
