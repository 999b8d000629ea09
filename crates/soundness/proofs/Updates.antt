-- A stored update does what its function's update says.
use Rattle.std.proofs.Common.{◌≡◌, ℕ, zero, suc, ◌+◌, Bool, true, false, List, [], ◌∷◌, ◌++◌, map, length, take, Option, Some, None, refl, sym, ap, ◌∙◌, subst, arith, inl, inr}
use Rattle.std.specs.Prelude.{ℤ, slice_get, All, IsTrue, ◌||◌, if◌then◌else◌}
use Rattle.std.specs.Ordering.{int_eq}
use Rattle.std.proofs.lemmas.Option.{slice_get-map}
use Rattle.std.proofs.lemmas.Bool.{false≢true}
use Rattle.std.proofs.lemmas.List.Elements.{All-weaker}
use Rattle.tree.specs.declared.value.Value.{Value}
use Rattle.tree.specs.Term.{Term, Number, Name, Call, Minus, Binary, Clamp, Cast, Choice}
use Rattle.tree.specs.Meaning.{value_of, typed}
use Rattle.tree.specs.Uses.{EachCall, variables_of}
use Rattle.tree.proofs.Uses.{same_use, SameAnswer}
use Rattle.meaning.specs.Algorithm.{Algorithm, Function, Change}
use Rattle.meaning.specs.Names.{same_name, is_among, bound}
use Rattle.meaning.specs.Conditions.{IsUpdate, AreDistinct, is_variable, has_variable, names_in}
use Rattle.meaning.specs.Functions.{GoesBack}
use Rattle.meaning.specs.Value.{Calls, calls_of, left_side}
use Rattle.meaning.proofs.Alone.{each_call}
use Rattle.meaning.proofs.Cases.{name_same, name_differs, same_name_is}
use Rattle.plan.specs.Semantics.Actions.{Target, Fixed, Open, fixed}
use Rattle.meaning.specs.Points.{IsIn}
use Rattle.meaning.specs.Value.{value_at_step, right_side, step_at}
use Rattle.meaning.proofs.Alone.{all_at}
use Rattle.meaning.proofs.Back.{left_goes_back, update_is}
use Rattle.meaning.proofs.Steps.{step_set, step_kept}
use Rattle.plan.specs.Semantics.Run.{Source, Input, ByClaim, Unknown}
use Rattle.soundness.specs.Origins.{Given, Reader, Within, matches, origin, target_point, answer, source_answer, left_variables, left_point, right_variables}
use Rattle.soundness.specs.Stored.{source_name, meant_name, as_calls, IsNamed, IsLeftSide, calls_within, KeepsValues, IsOfAlgorithm}
use Rattle.soundness.proofs.Calls.{Stands, stands}
use Rattle.soundness.proofs.Refines.{and_parts, number_refl, number_true}
use Rattle.soundness.proofs.Renamed.{renamed_value}

-- ---- names and what is bound to them

neither : (x y : Bool) → (x || y) ≡ false → (x ≡ false) × (y ≡ false)
neither true y h = absurd (false≢true (sym h))
neither false y h = (refl, h)

-- names that are not among the first pass them by
pub bound_skip : (vs rs : List (List ℕ)) (xs zs : List ℤ) (name : List ℕ) → length xs ≡ length vs → is_among vs name ≡ false → bound (vs ++ rs) (xs ++ zs) name ≡ bound rs zs name
bound_skip [] rs [] zs name l h = refl
bound_skip [] rs (x ∷ xs) zs name l h = absurd (omega (arith, l))
bound_skip (v ∷ vs) rs [] zs name l h = absurd (omega (arith, l))
bound_skip (v ∷ vs) rs (x ∷ xs) zs name l h =
    let parts = neither (same_name v name) (is_among vs name) h in
    ap (λ (b : Bool). elim b as (λ w. ℤ) [ true ↦ x | false ↦ bound (vs ++ rs) (xs ++ zs) name ]) parts.0
    ∙ bound_skip vs rs xs zs name (omega (arith, l)) parts.1

-- each of distinct names stands for the number at its place
pub bound_hit : (names : List (List ℕ)) (numbers : List ℤ) (j : ℕ) (x : List ℕ) (z : ℤ) → AreDistinct names → slice_get names j ≡ Some x → slice_get numbers j ≡ Some z → bound names numbers x ≡ z
bound_hit [] numbers j x z d e k = absurd (cc e)
bound_hit (y ∷ ys) [] j x z d e k = absurd (cc k)
bound_hit (y ∷ ys) (n ∷ ns) zero x z d e k =
    let same : y ≡ x = cc in
    let is : n ≡ z = cc in
    ap (λ (b : Bool). elim b [ true ↦ n | false ↦ bound ys ns x ]) (name_same y x same) ∙ is
bound_hit (y ∷ ys) (n ∷ ns) (suc j) x z d e k =
    let apart : same_name y x ≡ false = name_differs y x (λ same. let r = d 0 (suc j) x (ap Some same) e in absurd (omega (arith, r))) in
    ap (λ (b : Bool). elim b as (λ w. ℤ) [ true ↦ n | false ↦ bound ys ns x ]) apart
    ∙ bound_hit ys ns j x z (λ a b w s t. let r = d (suc a) (suc b) w s t in omega (arith, r)) e k

-- each name stands for the number at its place
abbrev pub EachBound : (List ℕ → ℤ) → List (List ℕ) → List ℤ → Type 0
EachBound variables [] [] = Unit {0}
EachBound variables (v ∷ vs) (z ∷ zs) = (variables v ≡ z) × EachBound variables vs zs
EachBound variables _ _ = ⊥

pub each_bound : (variables : List ℕ → ℤ) (vs : List (List ℕ)) (zs : List ℤ) → length zs ≡ length vs →
    ((j : ℕ) (v : List ℕ) (z : ℤ) → slice_get vs j ≡ Some v → slice_get zs j ≡ Some z → variables v ≡ z) → EachBound variables vs zs
each_bound variables [] [] l h = tt
each_bound variables [] (z ∷ zs) l h = absurd (omega (arith, l))
each_bound variables (v ∷ vs) [] l h = absurd (omega (arith, l))
each_bound variables (v ∷ vs) (z ∷ zs) l h = (h 0 v z refl refl, each_bound variables vs zs (omega (arith, l)) (λ j w y e k. h (suc j) w y e k))

slice_get-front : {A : Type 0} (xs ys : List A) (j : ℕ) (x : A) → slice_get xs j ≡ Some x → slice_get (xs ++ ys) j ≡ Some x
slice_get-front [] ys j x e = absurd (cc e)
slice_get-front (y ∷ xs) ys zero x e = e
slice_get-front (y ∷ xs) ys (suc j) x e = slice_get-front xs ys j x e

-- an expression that is the variable alone
pub variable_is : (v : List ℕ) (d : Term) → is_variable v d ≡ true → d ≡ Name v
variable_is v (Name name) h = ap Name (sym (same_name_is v name h))
variable_is v (Number t n) h = absurd (false≢true h)
variable_is v (Call name at) h = absurd (false≢true h)
variable_is v (Minus a) h = absurd (false≢true h)
variable_is v (Binary op a b) h = absurd (false≢true h)
variable_is v (Clamp a l u) h = absurd (false≢true h)
variable_is v (Cast t a) h = absurd (false≢true h)
variable_is v (Choice c a b) h = absurd (false≢true h)

-- ---- left sides

module _ (a : Algorithm) (put_in : Term → Term) (given : Given) where
  pub left_length : (vs : List (List ℕ)) (ds : List Term) (ts : List Target) → IsLeftSide a put_in given vs ds ts → length ts ≡ length vs
  left_length [] [] [] h = refl
  left_length [] [] (t ∷ ts) h = absurd h
  left_length [] (d ∷ ds) ts h = absurd h
  left_length (v ∷ vs) [] ts h = absurd h
  left_length (v ∷ vs) (d ∷ ds) [] h = absurd h
  left_length (v ∷ vs) (d ∷ ds) (Fixed z ∷ ts) h = ap suc (left_length vs ds ts h.1)
  left_length (v ∷ vs) (d ∷ ds) (Open e ∷ ts) h = ap suc (left_length vs ds ts h.2)

  -- what an index that is found comes to
  module _ (r : Reader) (calls : Calls) (seen meant : List ℕ → ℤ) where
    abbrev pub IsFound : List ℕ → Term → Type 0
    IsFound v d = is_variable v d ≡ false → (e : Term) → as_calls given e ≡ put_in d → (value_of seen (answer given r) e).number ≡ (value_of meant calls d).number

    abbrev pub EachFound : List (List ℕ) → List Term → Type 0
    EachFound [] [] = Unit {0}
    EachFound (v ∷ vs) (d ∷ ds) = IsFound v d × EachFound vs ds
    EachFound _ _ = ⊥

    pub each_found : (vs : List (List ℕ)) (ds : List Term) → length ds ≡ length vs → ((j : ℕ) (v : List ℕ) (d : Term) → slice_get vs j ≡ Some v → slice_get ds j ≡ Some d → IsFound v d) → EachFound vs ds
    each_found [] [] l h = tt
    each_found [] (d ∷ ds) l h = absurd (omega (arith, l))
    each_found (v ∷ vs) [] l h = absurd (omega (arith, l))
    each_found (v ∷ vs) (d ∷ ds) l h = (h 0 v d refl refl, each_found vs ds (omega (arith, l)) (λ j w y e k. h (suc j) w y e k))

    -- a point with the known coordinates of the left side, whose variables stand for its coordinates, is where the left side leads
    pub left_same : (vs : List (List ℕ)) (ds : List Term) (ts : List Target) (qs : List ℤ) →
        EachBound meant vs qs → EachFound vs ds → IsLeftSide a put_in given vs ds ts → matches ts qs ≡ true →
        target_point given seen ts r ≡ map (λ d. (value_of meant calls d).number) ds
    left_same [] [] [] [] b o h m = refl
    left_same [] [] [] (q ∷ qs) b o h m = absurd b
    left_same [] [] (t ∷ ts) qs b o h m = absurd h
    left_same [] (d ∷ ds) ts qs b o h m = absurd h
    left_same (v ∷ vs) [] ts qs b o h m = absurd h
    left_same (v ∷ vs) (d ∷ ds) [] qs b o h m = absurd h
    left_same (v ∷ vs) (d ∷ ds) (t ∷ ts) [] b o h m = absurd b
    left_same (v ∷ vs) (d ∷ ds) (Fixed z ∷ ts) (q ∷ qs) b o h m =
        let parts = and_parts (int_eq z q) (matches ts qs) m in
        let is : z ≡ (value_of meant calls d).number =
        number_true z q parts.0 ∙ sym b.0 ∙ ap (λ (x : Term). (value_of meant calls x).number) (sym (variable_is v d h.0)) in
        let later = left_same vs ds ts qs b.1 o.1 h.1 parts.1 in
        λ i. is i ∷ later i
    left_same (v ∷ vs) (d ∷ ds) (Open e ∷ ts) (q ∷ qs) b o h m =
        let is = o.0 h.0 e h.1 in
        let later = left_same vs ds ts qs b.1 o.1 h.2 m in
        λ i. is i ∷ later i

pub target_matches : (given : Given) (variables : List ℕ → ℤ) (ts : List Target) (r : Reader) → matches ts (target_point given variables ts r) ≡ true
target_matches given variables [] r = refl
target_matches given variables (Fixed z ∷ ts) r = rw (number_refl z) (target_matches given variables ts r)
target_matches given variables (Open x ∷ ts) r = target_matches given variables ts r

matches_length : (ts : List Target) (qs : List ℤ) → matches ts qs ≡ true → length qs ≡ length ts
matches_length [] [] m = refl
matches_length [] (q ∷ qs) m = absurd (false≢true m)
matches_length (t ∷ ts) [] m = absurd (false≢true m)
matches_length (Fixed z ∷ ts) (q ∷ qs) m = ap suc (matches_length ts qs (and_parts (int_eq z q) (matches ts qs) m).1)
matches_length (Open e ∷ ts) (q ∷ qs) m = ap suc (matches_length ts qs m)

fixed_length : (ts : List Target) → length (map fixed ts) ≡ length ts
fixed_length [] = refl
fixed_length (t ∷ ts) = ap suc (fixed_length ts)

-- ---- one update

module _ (a : Algorithm) (samples : List ℕ) (put_in : Term → Term) (given : Given) (of : IsOfAlgorithm a samples given) (keeps : KeepsValues a samples put_in)
    (f : List ℕ) (g : Function) (named : IsNamed a f g) (i : ℕ) (u : Change) (stands_at : slice_get g.changes i ≡ Some u) (over : List ℤ) where
  here : Stands a.functions f g
  here = stands a.functions f g named

  abbrev step : ℕ
  step = given.step_at f (suc i) over

  abbrev reader : Reader
  reader = Within f step

  abbrev so_far : List ℤ → ℤ
  so_far = value_at_step (calls_of a samples) g step

  abbrev answers : Calls
  answers = calls_within a samples g so_far

  same_test : (name : List ℕ) (p : List ℤ) (b : Bool) → same_name g.name name ≡ b → answers name p ≡ elim b [ true ↦ typed g.ty (so_far p) | false ↦ calls_of a samples name p ]
  same_test name p b e = ap (λ (v : Bool). elim v as (λ w. Value) [ true ↦ typed g.ty (so_far p) | false ↦ calls_of a samples name p ]) e

  input_apart : same_name g.name a.input ≡ false
  input_apart = name_differs g.name a.input (λ e.
      let there : slice_get (map (λ (x : Function). x.name) a.functions) here.0 ≡ Some a.input = slice_get-map (λ (x : Function). x.name) a.functions here.0 ∙ ap (λ (o : Option Function). elim o [ Some x ↦ Some x.name | None ↦ None ]) here.1 ∙ ap Some e in
      let r = of.formed.names 0 (suc here.0) a.input refl there in
      absurd (omega (arith, r)))

  -- a read answers what a call of what it means answers in the update
  within_meant : (from : Source) (name : List ℕ) (p : List ℤ) → (from ≡ Input → name ≡ a.input) → source_answer given reader from name p ≡ answers (source_name given from name) p
  within_meant Input name p h =
      of.calls name p ∙ sym (same_test name p false (ap (same_name g.name) (h refl) ∙ input_apart))
  within_meant (ByClaim c) name p h = at (same_name cf f) refl
    where
      cf : List ℕ
      cf = (given.outline.claim c).function

      at : (b : Bool) → same_name (given.outline.claim c).function f ≡ b → source_answer given reader (ByClaim c) name p ≡ answers (given.outline.claim c).function p
      at true e =
          let same : (given.outline.claim c).function ≡ f = same_name_is (given.outline.claim c).function f e in
          ap (λ (b : Bool). given.value_at (origin (given.outline.claim c).function (if b then step else given.all_steps (given.outline.claim c).function) p)) e
          ∙ of.stepped (given.outline.claim c).function g step p (subst (λ x. IsNamed a x g) (sym same) named)
          ∙ sym (same_test (given.outline.claim c).function p true (name_same g.name (given.outline.claim c).function (here.2 ∙ sym same)))
      at false e =
          ap (λ (b : Bool). given.value_at (origin (given.outline.claim c).function (if b then step else given.all_steps (given.outline.claim c).function) p)) e
          ∙ of.whole (given.outline.claim c).function p
          ∙ sym (same_test (given.outline.claim c).function p false (name_differs g.name (given.outline.claim c).function (λ k. false≢true (sym e ∙ name_same (given.outline.claim c).function f (sym k ∙ here.2)))))
  within_meant Unknown name p h =
      ap (λ (x : List ℕ). elim (same_name x name) as (λ w. Value) [ true ↦ given.value_at (origin f step p) | false ↦ given.calls name p ]) (sym here.2)
      ∙ (λ j. elim (same_name g.name name) [ true ↦ of.stepped f g step p named j | false ↦ of.calls name p j ])

  within_value : (variables : List ℕ → ℤ) (e d : Term) → as_calls given e ≡ put_in d → value_of variables answers (put_in d) ≡ value_of variables answers d →
      value_of variables (answer given reader) e ≡ value_of variables answers d
  within_value variables e d same kept =
      ap (λ calls. value_of variables calls e) (λ j name p. within_meant (given.outline.source name) name p (of.input name) j)
      ∙ sym (renamed_value variables answers (meant_name given) e)
      ∙ ap (value_of variables answers) same
      ∙ kept

  -- calls of what comes before are no calls of the function
  back_apart : (name : List ℕ) → GoesBack a here.0 name → (p : List ℤ) → answers name p ≡ calls_of a samples name p
  back_apart name (inl e) p = same_test name p false (ap (same_name g.name) e ∙ input_apart)
  back_apart name (inr b) p = same_test name p false (name_differs g.name name (λ e.
      let first : slice_get (map (λ (x : Function). x.name) a.functions) here.0 ≡ Some name = slice_get-map (λ (x : Function). x.name) a.functions here.0 ∙ ap (λ (o : Option Function). elim o [ Some x ↦ Some x.name | None ↦ None ]) here.1 ∙ ap Some e in
      let second : slice_get (map (λ (x : Function). x.name) a.functions) b.0 ≡ Some name = slice_get-map (λ (x : Function). x.name) a.functions b.0 ∙ ap (λ (o : Option Function). elim o [ Some x ↦ Some x.name | None ↦ None ]) b.3 ∙ ap Some b.4 in
      let r = of.formed.names (suc here.0) (suc b.0) name first second in
      let less = b.2 in
      absurd (omega (arith, r, less))))

  abbrev names : List (List ℕ)
  names = names_in g u

  update_formed : IsUpdate a (take here.0 a.functions) g u
  update_formed = update_is a here.0 g of.formed here.1 i u stands_at

  -- the variables of a left side stand for a point's coordinates
  bound_point : (q : List ℤ) → length q ≡ length g.variables → EachBound (bound names (q ++ over)) g.variables q
  bound_point q l = each_bound (bound names (q ++ over)) g.variables q l (λ j v z e k.
      bound_hit names (q ++ over) j v z update_formed.names (slice_get-front g.variables (map (λ d. d.variable) u.ranges) j v e) (slice_get-front q over j z k))

  found_point : (xs q : List ℤ) → length xs ≡ length g.variables → length q ≡ length g.variables →
      EachFound a put_in given reader (calls_of a samples) (bound names (xs ++ over)) (bound names (q ++ over)) g.variables u.at
  found_point xs q lx lq = each_found a put_in given reader (calls_of a samples) (bound names (xs ++ over)) (bound names (q ++ over)) g.variables u.at update_formed.places (λ j v d ev ed apart e same.
      let seen = bound names (xs ++ over) in
      let meant = bound names (q ++ over) in
      let rs = map (λ d. d.variable) u.ranges in
      let kept = all_at (λ x. value_of seen answers (put_in x) ≡ value_of seen answers x) u.at j d (keeps.left_value f g i u so_far seen named stands_at) ed in
      let none : All (λ name. is_among g.variables name ≡ false) (variables_of d) = subst (λ (b : Bool). elim b as (λ w. Type 0) [ true ↦ EachCall (λ name at. IsTrue (same_name g.name name) → IsTrue (has_variable v j at)) u.value | false ↦ All (λ name. is_among g.variables name ≡ false) (variables_of d) ]) apart (update_formed.kept j v d ev ed) in
      let alike : All (λ name. seen name ≡ meant name) (variables_of d) = All-weaker (λ name. is_among g.variables name ≡ false) (λ name. seen name ≡ meant name) (λ name h. bound_skip g.variables rs xs over name lx h ∙ sym (bound_skip g.variables rs q over name lq h)) (variables_of d) none in
      let back = all_at (EachCall (λ name at. GoesBack a here.0 name)) u.at j d (left_goes_back a here.0 g of.formed here.1 i u stands_at) ed in
      let answered = each_call (λ name at. GoesBack a here.0 name) (SameAnswer seen meant answers (calls_of a samples)) (λ name at b. back_apart name b _) d back in
      ap (λ (x : Value). x.number) (within_value seen e d same kept ∙ (same_use seen meant answers (calls_of a samples) d alike answered).value))

  module _ (at : List Target) (e : Term) (left : IsLeftSide a put_in given g.variables u.at at) (same : as_calls given e ≡ put_in u.value) (inside : IsIn u.ranges over) where
    abbrev point : List ℤ
    point = left_point given names at over reader

    leads : (q : List ℤ) → matches at q ≡ true → left_side (calls_of a samples) g u q over ≡ point
    leads q m =
        let l = left_length a put_in given g.variables u.at at left in
        let lq : length q ≡ length g.variables = matches_length at q m ∙ l in
        let lx : length (map fixed at) ≡ length g.variables = fixed_length at ∙ l in
        sym (left_same a put_in given reader (calls_of a samples) (bound names (map fixed at ++ over)) (bound names (q ++ over)) g.variables u.at at q (bound_point q lq) (found_point (map fixed at) q lx lq) left m)

    counted : step ≡ step_at g i u over
    counted = of.steps f g i u over named stands_at

    pub set_right : value_of (right_variables given names at over reader) (answer given reader) e ≡ given.value_at (origin f (step + 1) point)
    set_right =
        let variables = bound names (point ++ over) in
        let v = value_of variables answers u.value in
        let there = leads point (target_matches given (left_variables given names at over) at reader) in
        let typed_so : v ≡ typed g.ty v.number = λ j. record { ty = keeps.right_type f g i u so_far variables named stands_at j; number = v.number } in
        within_value variables e u.value same (keeps.right_value f g i u so_far variables named stands_at)
        ∙ typed_so
        ∙ ap (typed g.ty) (ap (λ (s : ℕ). right_side (calls_of a samples) g (value_at_step (calls_of a samples) g s) u point over) counted
        ∙ sym (step_set (calls_of a samples) g i u over point stands_at inside there)
        ∙ ap (λ (s : ℕ). value_at_step (calls_of a samples) g (s + 1) point) (sym counted))
        ∙ sym (of.stepped f g (step + 1) point named)

    pub others_kept : (q : List ℤ) → matches at q ≡ true → (q ≡ point → ⊥) → given.value_at (origin f (step + 1) q) ≡ given.value_at (origin f step q)
    others_kept q m apart =
        of.stepped f g (step + 1) q named
        ∙ ap (typed g.ty) (ap (λ (s : ℕ). value_at_step (calls_of a samples) g (s + 1) q) counted
        ∙ step_kept (calls_of a samples) g i u over q stands_at inside (λ hit. apart (sym hit ∙ leads q m))
        ∙ ap (λ (s : ℕ). value_at_step (calls_of a samples) g s q) (sym counted))
        ∙ sym (of.stepped f g step q named)
