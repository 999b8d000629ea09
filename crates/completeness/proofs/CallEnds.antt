-- The ends of each index that a later function calls of a function, whatever its values, are between those of the region that is needed of that one.
use Rattle.std.proofs.Common.{◌≡◌, ℕ, zero, suc, ◌+◌, ◌<◌, ◌≤◌, Bool, true, false, List, [], ◌∷◌, length, Option, Some, None, refl, sym, ap, subst, ◌∙◌, arith}
use Rattle.std.proofs.lemmas.Bool.{ltb-false}
use Rattle.std.proofs.lemmas.Int.{ints}
use Rattle.std.proofs.lemmas.List.{length-set}
use Rattle.std.specs.Prelude.{ℤ, pos, negsuc, ◌||◌, ◌+ℤ◌, ◌-ℤ◌, ◌≤ℤ◌, int_le, nat_lt, if◌then◌else◌, get_or, slice_set, slice_get}
use Rattle.tree.specs.Term.{Term, Terms, End, More}
use Rattle.tree.specs.Typing.{index_count}
use Rattle.lin.specs.declared.scope.Binding.{Binding}
use Rattle.lin.specs.declared.span.Span1.{Span1}
use Rattle.meaning.specs.Algorithm.{Algorithm}
use Rattle.meaning.specs.Names.{same_name}
use Rattle.algo.specs.Scoping.Standing.{Written}
use Rattle.sched.specs.declared.numbers.Extent.{Extent}
use Rattle.sched.specs.Skeleton.{NestText}
use Rattle.sched.specs.Standing.{◌>>=◌}
use Rattle.sched.specs.Stored.{FormulaText, StoredText, calls_in, are_calls_of}
use Rattle.regions.specs.Stored.{some_calls}
use Rattle.sched.specs.Around.{AroundText, interval_in, head_scope, around}
use Rattle.sched.specs.Regions.{LaidText, counts}
use Rattle.regions.specs.Regions.{ends_of, hull, widen, add_index, add_counted, add_call, add_calls, add_definition, add_definitions, add_laid, add_formulas, add_user, add_users}
use Rattle.regions.specs.Regions.{add_output, are_within, extent_between, may_have, extent_of, region_of, laid_over, laid_by, laid_within, laid_functions, unreached, reach_of}
use Rattle.sched.specs.Regions.{count_of}
use Rattle.blocks.proofs.Laying.{bound, same}
use Rattle.lower.proofs.Reached.{Reaches, Grows, after, if_some, grows_users, grows_output, laid_found, region_length}
use Rattle.completeness.proofs.Standing.{Taken}

abbrev Ends : Type 0
Ends = Taken _ _ are_within

-- ---- the hull

first_low : (b : Bool) (x y : ℤ) → int_le x y ≡ b → (if b then x else y) ≤ℤ x
first_low true x y e = omega (arith, ints)
first_low false x y e = omega (arith, ints, e)

second_low : (b : Bool) (x y : ℤ) → int_le x y ≡ b → (if b then x else y) ≤ℤ y
second_low true x y e = omega (arith, ints, e)
second_low false x y e = omega (arith, ints)

first_high : (b : Bool) (x y : ℤ) → int_le y x ≡ b → x ≤ℤ (if b then x else y)
first_high true x y e = omega (arith, ints)
first_high false x y e = omega (arith, ints, e)

second_high : (b : Bool) (x y : ℤ) → int_le y x ≡ b → y ≤ℤ (if b then x else y)
second_high true x y e = omega (arith, ints, e)
second_high false x y e = omega (arith, ints)

at_most : (x y z : ℤ) → x ≤ℤ y → y ≤ℤ z → x ≤ℤ z
at_most x y z h k = omega (arith, ints, h, k)

hull_old : (x : Option Ends) (e : Ends) (z : ℤ) (ends : Ends) → Some x ≡ Some (Some ends) → ends.low ≤ℤ z → z ≤ℤ ends.high → ((hull x e).low ≤ℤ z) × (z ≤ℤ (hull x e).high)
hull_old None e z ends h low high = absurd (not_there (same None (Some ends) h))
  where
    not_there : None ≡ Some ends → ⊥
    not_there q = cc
hull_old (Some k) e z ends h low high =
    let is : k ≡ ends = same k ends (same (Some k) (Some ends) h) in
    let from : k.low ≤ℤ z = subst (λ (q : Ends). q.low ≤ℤ z) (sym is) low in
    let to : z ≤ℤ k.high = subst (λ (q : Ends). z ≤ℤ q.high) (sym is) high in
    (at_most _ _ _ (first_low (int_le k.low e.low) k.low e.low refl) from, at_most _ _ _ to (first_high (int_le e.high k.high) k.high e.high refl))

hull_new : (x : Option Ends) (e : Ends) (z : ℤ) → e.low ≤ℤ z → z ≤ℤ e.high → ((hull x e).low ≤ℤ z) × (z ≤ℤ (hull x e).high)
hull_new None e z low high = (low, high)
hull_new (Some k) e z low high =
    (at_most _ _ _ (second_low (int_le k.low e.low) k.low e.low refl) low, at_most _ _ _ high (second_high (int_le e.high k.high) k.high e.high refl))

set_keeps : (xs : List (Option Ends)) (d : ℕ) (e : Ends) (k : ℕ) (z : ℤ) → Reaches xs k z → Reaches (slice_set xs d (Some (hull (get_or xs d None) e))) k z
set_keeps [] d e k z h = absurd (none_there h.ends h.is)
  where
    none_there : (q : Ends) → None ≡ Some (Some q) → ⊥
    none_there q i = cc
set_keeps (x ∷ xs) zero e zero z h = let both = hull_old x e z h.ends h.is h.low h.high in record { ends = hull x e; is = refl; low = both.0; high = both.1 }
set_keeps (x ∷ xs) zero e (suc k) z h = record { ends = h.ends; is = h.is; low = h.low; high = h.high }
set_keeps (x ∷ xs) (suc d) e zero z h = record { ends = h.ends; is = h.is; low = h.low; high = h.high }
set_keeps (x ∷ xs) (suc d) e (suc k) z h =
    let r = set_keeps xs d e k z (record { ends = h.ends; is = h.is; low = h.low; high = h.high }) in
    record { ends = r.ends; is = r.is; low = r.low; high = r.high }

set_reaches : (xs : List (Option Ends)) (d : ℕ) (e : Ends) (z : ℤ) → d < length xs → e.low ≤ℤ z → z ≤ℤ e.high → Reaches (slice_set xs d (Some (hull (get_or xs d None) e))) d z
set_reaches [] d e z lt low high = absurd (omega (arith, lt))
set_reaches (x ∷ xs) zero e z lt low high = let both = hull_new x e z low high in record { ends = hull x e; is = refl; low = both.0; high = both.1 }
set_reaches (x ∷ xs) (suc d) e z lt low high =
    let r = set_reaches xs d e z (omega (arith, lt)) low high in record { ends = r.ends; is = r.is; low = r.low; high = r.high }

abbrev put_in : Bool → List (Option Ends) → ℕ → Ends → List (Option Ends)
put_in b reach d e = if b then slice_set reach d (Some (hull (get_or reach d None) e)) else reach

pub stay : (xs : List (Option Ends)) → Grows xs xs
stay xs = record { as_many = refl; keeps = λ d z h. h }

put_grows : (b : Bool) (reach : List (Option Ends)) (d : ℕ) (e : Ends) → Grows reach (put_in b reach d e)
put_grows true reach d e = record { as_many = sym (length-set reach d (Some (hull (get_or reach d None) e))); keeps = λ k z h. set_keeps reach d e k z h }
put_grows false reach d e = stay reach

widen_grows : (reach : List (Option Ends)) (d : ℕ) (e : Ends) → Grows reach (widen reach d e)
widen_grows reach d e = put_grows (nat_lt d (length reach)) reach d e

put_reaches : (b : Bool) (reach : List (Option Ends)) (d : ℕ) (e : Ends) (z : ℤ) → nat_lt d (length reach) ≡ b → d < length reach → e.low ≤ℤ z → z ≤ℤ e.high → Reaches (put_in b reach d e) d z
put_reaches true reach d e z is lt low high = set_reaches reach d e z lt low high
put_reaches false reach d e z is lt low high = let past = ltb-false d (length reach) is in absurd (omega (arith, past, lt))

-- ---- what definitions call

-- what this index stays within has ends, and each number between these is reached at this place
pub record HasEnds (a : Algorithm) (r : AroundText) (e : Term) (reach : List (Option Ends)) (d : ℕ) : Type 0 where
  pub span : Span1
  pub bounds : interval_in a r e ≡ Some span
  pub ends : Ends
  pub freed : ends_of r.scope span ≡ Some ends
  pub reached : (z : ℤ) → ends.low ≤ℤ z → z ≤ℤ ends.high → Reaches reach d z

module _ (a : Algorithm) (r : AroundText) where
  pub grows_index : (d : ℕ) (e : Term) (reach out : List (Option Ends)) → add_index a r d e reach ≡ Some out → Grows reach out
  grows_index d e reach out h =
      let b = bound (interval_in a r e) (λ s. ends_of r.scope s >>= λ ends. Some (widen reach d ends)) out h in
      let c = bound (ends_of r.scope b.value) (λ ends. Some (widen reach d ends)) out b.comes in
      if_some reach (widen reach d c.value) out (widen_grows reach d c.value) c.comes

  pub grows_if : (b : Bool) (d : ℕ) (e : Term) (reach out : List (Option Ends)) → (if b then add_index a r d e reach else Some reach) ≡ Some out → Grows reach out
  grows_if true d e reach out h = grows_index d e reach out h
  grows_if false d e reach out h = if_some reach reach out (stay reach) h

  pub grows_call : (own : Option FormulaText) (d : ℕ) (es : Terms) (reach out : List (Option Ends)) → add_call a r own d es reach ≡ Some out → Grows reach out
  grows_call own d End reach out h = if_some reach reach out (stay reach) h
  grows_call own d (More e es) reach out h =
      let b = bound (add_counted a r own d e reach) (add_call a r own (d + 1) es) out h in
      after reach b.value out (grows_if (counts own d) d e reach b.value b.is) (grows_call own (d + 1) es b.value out b.comes)

  pub grows_named : (b : Bool) (own : Option FormulaText) (es : Terms) (reach out : List (Option Ends)) → (if b then add_call a r own 0 es reach else Some reach) ≡ Some out → Grows reach out
  grows_named true own es reach out h = grows_call own 0 es reach out h
  grows_named false own es reach out h = if_some reach reach out (stay reach) h

  pub grows_calls : (own : Option FormulaText) (x : List ℕ) (cs : List Written) (reach out : List (Option Ends)) → add_calls a r own x cs reach ≡ Some out → Grows reach out
  grows_calls own x [] reach out h = if_some reach reach out (stay reach) h
  grows_calls own x (c ∷ cs) reach out h =
      let b = bound (if same_name c.name x then add_call a r own 0 c.at reach else Some reach) (add_calls a r own x cs) out h in
      after reach b.value out (grows_named (same_name c.name x) own c.at reach b.value b.is) (grows_calls own x cs b.value out b.comes)

  pub index_ends : (d : ℕ) (e : Term) (reach out : List (Option Ends)) → d < length reach → add_index a r d e reach ≡ Some out → HasEnds a r e out d
  index_ends d e reach out lt h =
      let b = bound (interval_in a r e) (λ s. ends_of r.scope s >>= λ ends. Some (widen reach d ends)) out h in
      let c = bound (ends_of r.scope b.value) (λ ends. Some (widen reach d ends)) out b.comes in
      let is = same (widen reach d c.value) out c.comes in
      record {
        span = b.value;
        bounds = b.is;
        ends = c.value;
        freed = c.is;
        reached = λ z low high. subst (λ (ys : List (Option Ends)). Reaches ys d z) is (put_reaches (nat_lt d (length reach)) reach d c.value z refl lt low high);
      }

  pub more_ends : (e : Term) (d : ℕ) (reach out : List (Option Ends)) → Grows reach out → HasEnds a r e reach d → HasEnds a r e out d
  more_ends e d reach out g h =
      record { span = h.span; bounds = h.bounds; ends = h.ends; freed = h.freed; reached = λ z low high. g.keeps d z (h.reached z low high) }

  -- each index of a call, from this place on
  abbrev pub AllHaveEnds : List (Option Ends) → ℕ → Terms → Type 0
  AllHaveEnds reach d End = Unit {0}
  AllHaveEnds reach d (More e es) = HasEnds a r e reach d × AllHaveEnds reach (d + 1) es

  more_all : (es : Terms) (d : ℕ) (reach out : List (Option Ends)) → Grows reach out → AllHaveEnds reach d es → AllHaveEnds out d es
  more_all End d reach out g h = tt
  more_all (More e es) d reach out g h = (more_ends e d reach out g h.0, more_all es (d + 1) reach out g h.1)

  call_ends : (d : ℕ) (es : Terms) (reach out : List (Option Ends)) → d + index_count es ≤ length reach → add_call a r None d es reach ≡ Some out → AllHaveEnds out d es
  call_ends d End reach out few h = tt
  call_ends d (More e es) reach out few h =
      let b = bound (add_counted a r None d e reach) (add_call a r None (d + 1) es) out h in
      let many = (grows_index d e reach b.value b.is).as_many in (
        more_ends e d b.value out (grows_call None (d + 1) es b.value out b.comes) (index_ends d e reach b.value (omega (arith, few)) b.is),
        call_ends (d + 1) es b.value out (omega (arith, few, many)) b.comes,
      )

  calls_ends : (x : List ℕ) (cs : List Written) (reach out : List (Option Ends)) → add_calls a r None x cs reach ≡ Some out → (place : ℕ) (c : Written) → slice_get cs place ≡ Some c →
      same_name c.name x ≡ true → index_count c.at ≤ length reach → AllHaveEnds out 0 c.at
  calls_ends x [] reach out h place c there named few = absurd (no there)
    where
      no : None ≡ Some c → ⊥
      no q = cc
  calls_ends x (y ∷ cs) reach out h zero c there named few =
      let is : c ≡ y = sym (same y c there) in
      let b = bound (if same_name y.name x then add_call a r None 0 y.at reach else Some reach) (add_calls a r None x cs) out h in
      let yes : same_name y.name x ≡ true = subst (λ (q : Written). same_name q.name x ≡ true) is named in
      let added : add_call a r None 0 y.at reach ≡ Some b.value = sym (ap (λ (t : Bool). if t then add_call a r None 0 y.at reach else Some reach) yes) ∙ b.is in
      let count : index_count y.at ≤ length reach = subst (λ (q : Written). index_count q.at ≤ length reach) is few in
      let first = call_ends 0 y.at reach b.value (omega (arith, count)) added in
      subst (λ (q : Written). AllHaveEnds out 0 q.at) (sym is) (more_all y.at 0 b.value out (grows_calls None x cs b.value out b.comes) first)
  calls_ends x (y ∷ cs) reach out h (suc place) c there named few =
      let b = bound (if same_name y.name x then add_call a r None 0 y.at reach else Some reach) (add_calls a r None x cs) out h in
      let many = (grows_named (same_name y.name x) None y.at reach b.value b.is).as_many in
      calls_ends x cs b.value out b.comes place c there named (subst (λ (m : ℕ). index_count c.at ≤ m) many few)

-- ---- what functions call

module _ (a : Algorithm) (g : StoredText) (outer : List Binding) where
  grows_known : (x : List ℕ) (f : FormulaText) (o : Option AroundText) (reach out : List (Option Ends)) → (o >>= λ r. add_calls a r None x (calls_in f) reach) ≡ Some out → Grows reach out
  grows_known x f o reach out h =
      let b = bound o (λ r. add_calls a r None x (calls_in f) reach) out h in grows_calls a b.value None x (calls_in f) reach out b.comes

  grows_asked : (t : Bool) (x : List ℕ) (f : FormulaText) (o : Option AroundText) (reach out : List (Option Ends)) →
      (if t then (o >>= λ r. add_calls a r None x (calls_in f) reach) else Some reach) ≡ Some out → Grows reach out
  grows_asked true x f o reach out h = grows_known x f o reach out h
  grows_asked false x f o reach out h = if_some reach reach out (stay reach) h

  grows_definition : (x : List ℕ) (d : ℕ) (f : FormulaText) (n : NestText) (reach out : List (Option Ends)) → add_definition a g outer x d f n reach ≡ Some out → Grows reach out
  grows_definition x d f n reach out h = grows_asked (are_calls_of x (calls_in f)) x f (around a g outer n f d) reach out h

  grows_definitions : (x : List ℕ) (d : ℕ) (fs : List FormulaText) (ns : List NestText) (reach out : List (Option Ends)) → add_definitions a g outer x d fs ns reach ≡ Some out → Grows reach out
  grows_definitions x d [] ns reach out h = if_some reach reach out (stay reach) h
  grows_definitions x d (f ∷ fs) [] reach out h = absurd (no_reach out h)
    where
      no_reach : (q : List (Option Ends)) → None ≡ Some q → ⊥
      no_reach q i = cc
  grows_definitions x d (f ∷ fs) (n ∷ ns) reach out h =
      let b = bound (add_definition a g outer x d f n reach) (add_definitions a g outer x (d + 1) fs ns) out h in
      after reach b.value out (grows_definition x d f n reach b.value b.is) (grows_definitions x (d + 1) fs ns b.value out b.comes)

grows_laid : (a : Algorithm) (x : List ℕ) (g : StoredText) (fs : List FormulaText) (l : Option LaidText) (reach out : List (Option Ends)) → add_laid a x g fs l reach ≡ Some out → Grows reach out
grows_laid a x g fs None reach out h = absurd (no_reach out h)
  where
    no_reach : (q : List (Option Ends)) → None ≡ Some q → ⊥
    no_reach q i = cc
grows_laid a x g fs (Some l) reach out h = grows_definitions a g (head_scope l.skeleton) x 0 fs l.skeleton.nests reach out h

grows_formulas : (a : Algorithm) (x : List ℕ) (g : StoredText) (o : Option (List FormulaText)) (l : Option LaidText) (reach out : List (Option Ends)) →
    add_formulas a x g o l reach ≡ Some out → Grows reach out
grows_formulas a x g None l reach out h = if_some reach reach out (stay reach) h
grows_formulas a x g (Some fs) l reach out h = by (some_calls x fs) h
  where
    by : (b : Bool) → (if b then add_laid a x g fs l reach else Some reach) ≡ Some out → Grows reach out
    by true q = grows_laid a x g fs l reach out q
    by false q = if_some reach reach out (stay reach) q

-- a call of the function of this name is among the calls
calls_of_it : (x : List ℕ) (cs : List Written) (place : ℕ) (c : Written) → slice_get cs place ≡ Some c → same_name c.name x ≡ true → are_calls_of x cs ≡ true
calls_of_it x [] place c there named = absurd (no there)
  where
    no : None ≡ Some c → ⊥
    no q = cc
calls_of_it x (y ∷ cs) zero c there named = first (same_name y.name x) (subst (λ (q : Written). same_name q.name x ≡ true) (sym (same y c there)) named)
  where
    first : (b : Bool) → b ≡ true → (b || are_calls_of x cs) ≡ true
    first b i = rw (i) refl
calls_of_it x (y ∷ cs) (suc place) c there named = later (same_name y.name x) (calls_of_it x cs place c there named)
  where
    later : (b : Bool) → are_calls_of x cs ≡ true → (b || are_calls_of x cs) ≡ true
    later true i = refl
    later false i = i

some_of_it : (x : List ℕ) (fs : List FormulaText) (n : ℕ) (f : FormulaText) → slice_get fs n ≡ Some f → are_calls_of x (calls_in f) ≡ true → some_calls x fs ≡ true
some_of_it x [] n f there calls = absurd (no there)
  where
    no : None ≡ Some f → ⊥
    no q = cc
some_of_it x (y ∷ fs) zero f there calls = first (are_calls_of x (calls_in y)) (subst (λ (q : FormulaText). are_calls_of x (calls_in q) ≡ true) (sym (same y f there)) calls)
  where
    first : (b : Bool) → b ≡ true → (b || some_calls x fs) ≡ true
    first b i = rw (i) refl
some_of_it x (y ∷ fs) (suc n) f there calls = later (are_calls_of x (calls_in y)) (some_of_it x fs n f there calls)
  where
    later : (b : Bool) → some_calls x fs ≡ true → (b || some_calls x fs) ≡ true
    later true i = refl
    later false i = i

-- a call of the function of this name, in a definition of this function that has these loops
pub record IsCallOf (a : Algorithm) (u : StoredText) (l : LaidText) (x : List ℕ) : Type 0 where
  pub number : ℕ
  pub formulas : List FormulaText
  pub formula : FormulaText
  pub nest : NestText
  pub standing : AroundText
  pub defined : u.formulas ≡ Some formulas
  pub is : slice_get formulas number ≡ Some formula
  pub nested : slice_get l.skeleton.nests number ≡ Some nest
  pub stands : around a u (head_scope l.skeleton) nest formula number ≡ Some standing
  pub place : ℕ
  pub call : Written
  pub there : slice_get (calls_in formula) place ≡ Some call
  pub named : same_name call.name x ≡ true

module _ (a : Algorithm) (u : StoredText) (l : LaidText) (x : List ℕ) (c : IsCallOf a u l x) where
  abbrev outer : List Binding
  outer = head_scope l.skeleton

  abbrev Reached : List (Option Ends) → Type 0
  Reached out = AllHaveEnds a c.standing out 0 c.call.at

  calls : are_calls_of x (calls_in c.formula) ≡ true
  calls = calls_of_it x (calls_in c.formula) c.place c.call c.there c.named

  definition_reaches : (d : ℕ) (reach out : List (Option Ends)) → d ≡ c.number → add_definition a u outer x d c.formula c.nest reach ≡ Some out → index_count c.call.at ≤ length reach → Reached out
  definition_reaches d reach out is h few =
      let R : Option AroundText → Option (List (Option Ends)) = λ o. o >>= λ r. add_calls a r None x (calls_in c.formula) reach in
      let here : R (around a u outer c.nest c.formula d) ≡ Some out =
      sym (ap (λ (t : Bool). if t then R (around a u outer c.nest c.formula d) else Some reach) calls) ∙ h in
      let known : around a u outer c.nest c.formula d ≡ Some c.standing = subst (λ (n : ℕ). around a u outer c.nest c.formula n ≡ Some c.standing) (sym is) c.stands in
      let added : add_calls a c.standing None x (calls_in c.formula) reach ≡ Some out = sym (ap R known) ∙ here in
      calls_ends a c.standing x (calls_in c.formula) reach out added c.place c.call c.there c.named few

  definitions_reach : (d m : ℕ) (fs : List FormulaText) (ns : List NestText) (reach out : List (Option Ends)) → d + m ≡ c.number → slice_get fs m ≡ Some c.formula → slice_get ns m ≡ Some c.nest →
      add_definitions a u outer x d fs ns reach ≡ Some out → index_count c.call.at ≤ length reach → Reached out
  definitions_reach d m [] ns reach out is formula nest h few = absurd (no formula)
    where
      no : None ≡ Some c.formula → ⊥
      no q = cc
  definitions_reach d m (f ∷ fs) [] reach out is formula nest h few = absurd (no nest)
    where
      no : None ≡ Some c.nest → ⊥
      no q = cc
  definitions_reach d zero (f ∷ fs) (n ∷ ns) reach out is formula nest h few =
      let b = bound (add_definition a u outer x d f n reach) (add_definitions a u outer x (d + 1) fs ns) out h in
      let of_it : add_definition a u outer x d c.formula c.nest reach ≡ Some b.value =
      subst (λ (q : FormulaText). add_definition a u outer x d q c.nest reach ≡ Some b.value) (same f c.formula formula)
      (subst (λ (q : NestText). add_definition a u outer x d f q reach ≡ Some b.value) (same n c.nest nest) b.is) in
      more_all a c.standing c.call.at 0 b.value out (grows_definitions a u outer x (d + 1) fs ns b.value out b.comes) (definition_reaches d reach b.value (omega (arith, is)) of_it few)
  definitions_reach d (suc m) (f ∷ fs) (n ∷ ns) reach out is formula nest h few =
      let b = bound (add_definition a u outer x d f n reach) (add_definitions a u outer x (d + 1) fs ns) out h in
      let many = (grows_definition a u outer x d f n reach b.value b.is).as_many in
      definitions_reach (d + 1) m fs ns b.value out (omega (arith, is)) formula nest b.comes (subst (λ (q : ℕ). index_count c.call.at ≤ q) many few)

  user_reaches : (reach out : List (Option Ends)) → add_user a x u (Some l) reach ≡ Some out → index_count c.call.at ≤ length reach → Reached out
  user_reaches reach out h few =
      let here : add_formulas a x u (Some c.formulas) (Some l) reach ≡ Some out = sym (ap (λ (o : Option (List FormulaText)). add_formulas a x u o (Some l) reach) c.defined) ∙ h in
      let some : some_calls x c.formulas ≡ true = some_of_it x c.formulas c.number c.formula c.is calls in
      let all : add_definitions a u outer x 0 c.formulas l.skeleton.nests reach ≡ Some out =
      sym (ap (λ (t : Bool). if t then add_definitions a u outer x 0 c.formulas l.skeleton.nests reach else Some reach) some) ∙ here in
      definitions_reach 0 c.number c.formulas l.skeleton.nests reach out (omega arith) c.is c.nested all few

  users_reach : (gs : List StoredText) (ls : List (Option LaidText)) (n : ℕ) (reach out : List (Option Ends)) → slice_get gs n ≡ Some u → slice_get ls n ≡ Some (Some l) →
      add_users a x gs ls reach ≡ Some out → index_count c.call.at ≤ length reach → Reached out
  users_reach [] ls n reach out is laid h few = absurd (no is)
    where
      no : None ≡ Some u → ⊥
      no q = cc
  users_reach (g ∷ gs) [] n reach out is laid h few = absurd (no laid)
    where
      no : None ≡ Some (Some l) → ⊥
      no q = cc
  users_reach (g ∷ gs) (m ∷ ls) zero reach out is laid h few =
      let b = bound (add_user a x g m reach) (add_users a x gs ls) out h in
      let of_it : add_user a x u (Some l) reach ≡ Some b.value =
      subst (λ (q : StoredText). add_user a x q (Some l) reach ≡ Some b.value) (same g u is)
      (subst (λ (q : Option LaidText). add_user a x g q reach ≡ Some b.value) (same m (Some l) laid) b.is) in
      more_all a c.standing c.call.at 0 b.value out (grows_users a x gs ls b.value out b.comes) (user_reaches reach b.value of_it few)
  users_reach (g ∷ gs) (m ∷ ls) (suc n) reach out is laid h few =
      let b = bound (add_user a x g m reach) (add_users a x gs ls) out h in
      let many = (grows_formulas a x g g.formulas m reach b.value b.is).as_many in
      users_reach gs ls n b.value out is laid b.comes (subst (λ (q : ℕ). index_count c.call.at ≤ q) many few)

-- ---- the region

-- a number that is reached is one of the region's
abbrev pub IsIn : Extent → ℤ → Type 0
IsIn x z = (x.low ≤ℤ z) × (z ≤ℤ (x.low +ℤ pos x.count -ℤ pos 1))

length_between : (low high : ℤ) → low ≤ℤ high → low +ℤ pos (count_of (high -ℤ low +ℤ pos 1)) -ℤ pos 1 ≡ high
length_between low high le = by (high -ℤ low +ℤ pos 1) refl
  where
    by : (y : ℤ) → high -ℤ low +ℤ pos 1 ≡ y → low +ℤ pos (count_of y) -ℤ pos 1 ≡ high
    by (pos n) e = omega (arith, ints, e)
    by (negsuc n) e = absurd (omega (arith, ints, e, le))

between_in : (e : Ends) (x : Extent) (z : ℤ) → extent_between e ≡ Some x → e.low ≤ℤ z → z ≤ℤ e.high → IsIn x z
between_in e x z h low high = by (are_within e) h
  where
    made : Extent
    made = record { low = e.low; count = count_of (e.high -ℤ e.low +ℤ pos 1) }

    by : (b : Bool) → (if b then Some made else None) ≡ Some x → IsIn x z
    by true q =
        let last = length_between e.low e.high (at_most e.low z e.high low high) in
        subst (λ (y : Extent). IsIn y z) (same made x q) (low, omega (arith, ints, last, high))
    by false q = absurd (cc q)

extent_in : (is_root : Bool) (o : Option Ends) (e : Ends) (x : Extent) (z : ℤ) → o ≡ Some e → extent_of is_root o ≡ Some x → e.low ≤ℤ z → z ≤ℤ e.high → IsIn x z
extent_in is_root o e x z is h low high =
    let step : Extent → Option Extent = λ y. if may_have is_root y.count then Some y else None in
    let b = bound (o >>= extent_between) step x h in
    let c = bound o extent_between b.value b.is in
    let same_ends : c.value ≡ e = same c.value e (sym c.is ∙ is) in
    let found = between_in c.value b.value z c.comes (subst (λ (q : Ends). q.low ≤ℤ z) (sym same_ends) low) (subst (λ (q : Ends). z ≤ℤ q.high) (sym same_ends) high) in
    by b.value (may_have is_root b.value.count) b.comes found
  where
    by : (y : Extent) (t : Bool) → (if t then Some y else None) ≡ Some x → IsIn y z → IsIn x z
    by y true q lies = subst (λ (w : Extent). IsIn w z) (same y x q) lies
    by y false q lies = absurd (cc q)

pub region_in : (is_root : Bool) (reach : List (Option Ends)) (es : List Extent) → region_of is_root reach ≡ Some es → (d : ℕ) (z : ℤ) (x : Extent) → Reaches reach d z → slice_get es d ≡
    Some x → IsIn x z
region_in is_root [] es h d z x r at = absurd (cc r.is)
region_in is_root (o ∷ os) es h d z x r at =
    let b = bound (extent_of is_root o) (λ y. region_of is_root os >>= λ ys. Some (y ∷ ys)) es h in
    let c = bound (region_of is_root os) (λ ys. Some (b.value ∷ ys)) es b.comes in
    by b.value c.value b.is c.is d r (subst (λ (q : List Extent). slice_get q d ≡ Some x) (sym (same (b.value ∷ c.value) es c.comes)) at)
    (λ ys rest k q there. region_in is_root os ys rest k z x q there)
  where
    by : (y : Extent) (ys : List Extent) → extent_of is_root o ≡ Some y → region_of is_root os ≡ Some ys → (k : ℕ) → Reaches (o ∷ os) k z → slice_get (y ∷ ys) k ≡ Some x →
        ((ws : List Extent) → region_of is_root os ≡ Some ws → (n : ℕ) → Reaches os n z → slice_get ws n ≡ Some x → IsIn x z) → IsIn x z
    by y ys first rest zero q there later = subst (λ (w : Extent). IsIn w z) (same y x there) (extent_in is_root o q.ends y z (same o (Some q.ends) q.is) first q.low q.high)
    by y ys first rest (suc k) q there later = later ys rest k (record { ends = q.ends; is = q.is; low = q.low; high = q.high }) there

-- ---- the law

-- each index of the call has ends, and each number between these is one of the extent at its place
pub record IsIndexEnded (a : Algorithm) (r : AroundText) (e : Term) (region : List Extent) (d : ℕ) : Type 0 where
  pub span : Span1
  pub bounds : interval_in a r e ≡ Some span
  pub ends : Ends
  pub freed : ends_of r.scope span ≡ Some ends
  pub inside : (z : ℤ) → ends.low ≤ℤ z → z ≤ℤ ends.high → (x : Extent) → slice_get region d ≡ Some x → IsIn x z

abbrev pub AreIndicesEnded : Algorithm → AroundText → List Extent → ℕ → Terms → Type 0
AreIndicesEnded a r region d End = Unit {0}
AreIndicesEnded a r region d (More e es) = IsIndexEnded a r e region d × AreIndicesEnded a r region (d + 1) es

module _ (a : Algorithm) (r : AroundText) (is_root : Bool) (wide : List (Option Ends)) (region : List Extent) (is : region_of is_root wide ≡ Some region) where
  all_ended : (d : ℕ) (es : Terms) → AllHaveEnds a r wide d es → AreIndicesEnded a r region d es
  all_ended d End h = tt
  all_ended d (More e es) h = (
    record {
      span = h.0.span;
      bounds = h.0.bounds;
      ends = h.0.ends;
      freed = h.0.freed;
      inside = λ z low high x at. region_in is_root wide region is d z x (h.0.reached z low high) at;
    },
    all_ended (d + 1) es h.1,
  )

within_ends : (a : Algorithm) (g : StoredText) (later : List StoredText) (u : StoredText) (l m : LaidText) (n : ℕ) → laid_within a g later (laid_functions a later) ≡ Some l →
    slice_get later n ≡ Some u → slice_get (laid_functions a later) n ≡ Some (Some m) → (c : IsCallOf a u m g.subject.name) → index_count c.call.at ≤ length l.region →
    AreIndicesEnded a c.standing l.region 0 c.call.at
within_ends a g later u l m n h is laid c few = by g.formulas h
  where
    by : (o : Option (List FormulaText)) → laid_by a g o later (laid_functions a later) ≡ Some l → AreIndicesEnded a c.standing l.region 0 c.call.at
    by None q = absurd (no q)
      where
        no : None ≡ Some l → ⊥
        no i = cc
    by (Some fs) q =
        let found = laid_functions a later in
        let blank = unreached (length g.subject.variables) in
        let b = bound (reach_of a g later found) (laid_over a g fs) l q in
        let w = bound (add_users a g.subject.name later found blank) (λ reach. Some (add_output a g.subject.is_output reach)) b.value b.is in
        let f = laid_found a g fs b.value l b.comes in
        let whole_grown : Grows w.value b.value = if_some w.value _ b.value (grows_output a g.subject.is_output w.value) w.comes in
        let grown = after w.value b.value f.wide whole_grown f.grown in
        let begun = grows_users a g.subject.name later found blank w.value w.is in
        let size : length blank ≡ length l.region = begun.as_many ∙ grown.as_many ∙ sym (region_length g.subject.is_root f.wide l.region f.is) in
        let reached = users_reach a u m g.subject.name c later found n blank w.value is laid w.is (omega (arith, few, size)) in
        all_ended a c.standing g.subject.is_root f.wide l.region f.is 0 c.call.at (more_all a c.standing c.call.at 0 w.value f.wide grown reached)

-- of a call of an earlier function
pub calls_ended : (a : Algorithm) (gs : List StoredText) (i j : ℕ) (g u : StoredText) (l m : LaidText) → slice_get gs i ≡ Some g → slice_get (laid_functions a gs) i ≡ Some (Some l) →
    slice_get gs j ≡ Some u → slice_get (laid_functions a gs) j ≡ Some (Some m) → i < j → (c : IsCallOf a u m g.subject.name) → index_count c.call.at ≤ length l.region →
    AreIndicesEnded a c.standing l.region 0 c.call.at
calls_ended a [] i j g u l m at laid at_user laid_user lt c few = absurd (cc at)
calls_ended a (s ∷ later) zero zero g u l m at laid at_user laid_user lt c few = absurd (omega (arith, lt))
calls_ended a (s ∷ later) zero (suc j) g u l m at laid at_user laid_user lt c few =
    let is : s ≡ g = same s g at in
    let here : laid_within a s later (laid_functions a later) ≡ Some l = same (laid_within a s later (laid_functions a later)) (Some l) laid in
    within_ends a g later u l m j (subst (λ (q : StoredText). laid_within a q later (laid_functions a later) ≡ Some l) is here) at_user laid_user c few
calls_ended a (s ∷ later) (suc i) zero g u l m at laid at_user laid_user lt c few = absurd (omega (arith, lt))
calls_ended a (s ∷ later) (suc i) (suc j) g u l m at laid at_user laid_user lt c few = calls_ended a later i j g u l m at laid at_user laid_user (omega (arith, lt)) c few
