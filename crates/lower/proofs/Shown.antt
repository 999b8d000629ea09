-- Where no rule is broken by a region, each point of the input that a definition calls is one of the input's extents.
use Rattle.std.proofs.Common.{◌≡◌, ℕ, zero, suc, ◌+◌, Bool, true, false, List, [], ◌∷◌, length, map, Option, Some, None, refl, sym, ap, subst, ◌∙◌, arith}
use Rattle.std.specs.Prelude.{ℤ, pos, ◌-ℤ◌, if◌then◌else◌, slice_get}
use Rattle.tree.specs.declared.value.Value.{Value}
use Rattle.tree.specs.Term.{Terms, End, More}
use Rattle.tree.specs.Meaning.{numbers_of, value_of}
use Rattle.tree.specs.Names.{AreAsTold}
use Rattle.lin.specs.Regions.{span_inside}
use Rattle.lin.specs.Spans.{HoldsIn, IsInSpan, IsInRegion}
use Rattle.lin.specs.declared.scope.Binding.{Binding}
use Rattle.lin.specs.declared.span.Span1.{Span1}
use Rattle.lin.proofs.RegionLemmas.{span_inside-means}
use Rattle.bounds.specs.Spans as bounds
use Rattle.bounds.proofs.IntervalSound.{contains}
use Rattle.meaning.specs.Algorithm.{Algorithm}
use Rattle.meaning.specs.Names.{same_name}
use Rattle.algo.specs.Scoping.Standing.{Written}
use Rattle.sched.specs.declared.numbers.Extent.{Extent}
use Rattle.sched.specs.declared.region_rule.RegionRule.{RegionRule}
use Rattle.sched.specs.declared.region_rule.RegionRule.TheVariants.{ShortShift, TooMuch, Unbounded}
use Rattle.sched.specs.Skeleton.{NestText}
use Rattle.sched.specs.Standing.{◌>>=◌}
use Rattle.blocks.specs.declared.legality.Totals.{Totals}
use Rattle.sched.specs.Called.{called}
use Rattle.sched.specs.Stored.{FormulaText, StoredText, calls_in}
use Rattle.sched.specs.Around.{AroundText, interval_in, head_scope}
use Rattle.sched.specs.Regions.{LaidText, counts}
use Rattle.regions.specs.Regions.{laid_functions}
use Rattle.sched.specs.Bounded.{whole}
use Rattle.blocks.specs.Bounded.{is_on_input, is_place_bounded, is_in_region, is_call_bounded, are_bounded, is_definition_bounded, is_bounded, is_root_bounded}
use Rattle.lower.specs.Faults.{no_totals, fault_by, fault_of, or_later, fault_from, calls_of_large, region_fault}
use Rattle.blocks.specs.Faults.{with_laid, pass_limits, is_shifted_little, unless_bounded, fault_within, totals_with}
use Rattle.lower.specs.Held.{AreTyped, CallsAt, InputHoldsCalls, IsLaid, RegionsHoldOwnCalls}
use Rattle.blocks.proofs.Laying.{bound, same}

-- ---- a fault that is not there

no_rule : (r : RegionRule) → Some r ≡ None → ⊥
no_rule r h = cc

no_fault : (r : RegionRule × List ℕ) → Some r ≡ None → ⊥
no_fault r h = cc

here_or_later : (g : StoredText) (o : Option RegionRule) (later : Option (RegionRule × List ℕ)) → or_later g o later ≡ None → (o ≡ None) × (later ≡ None)
here_or_later g (Some r) later h = absurd (no_fault (r, g.subject.name) h)
here_or_later g None later h = (refl, h)

is_shown : (o : Option Bool) → unless_bounded o ≡ None → o ≡ Some true
is_shown (Some true) h = refl
is_shown (Some false) h = absurd (no_rule Unbounded h)
is_shown None h = absurd (no_rule Unbounded h)

bounded_within : (a : Algorithm) (g : StoredText) (fs : List FormulaText) (t : Totals) (l : LaidText) → fault_within a g fs t l ≡ None → is_root_bounded a g fs l ≡ Some true
bounded_within a g fs t l h = by (is_shifted_little g l) (pass_limits t) h
  where
    by : (b c : Bool) → (if b then Some ShortShift else (if c then Some TooMuch else unless_bounded (is_root_bounded a g fs l))) ≡ None → is_root_bounded a g fs l ≡ Some true
    by true c q = absurd (no_rule ShortShift q)
    by false true q = absurd (no_rule TooMuch q)
    by false false q = is_shown (is_root_bounded a g fs l) q

bounded_of : (a : Algorithm) (left : List Written) (t : Totals) (g : StoredText) (fs : List FormulaText) (l : LaidText) (o : Option (List FormulaText)) → o ≡ Some fs
    → fault_by a left t g o (Some l) ≡ None → is_root_bounded a g fs l ≡ Some true
bounded_of a left t g fs l o is h =
    bounded_within a g fs (with_laid t l) l (subst (λ (q : Option (List FormulaText)). fault_by a left t g q (Some l) ≡ None) is h)

bounded_at : (a : Algorithm) (left : List Written) (t : Totals) (gs : List StoredText) (ls : List (Option LaidText)) (i : ℕ) (u : StoredText) (m : LaidText) (fs : List FormulaText)
    → slice_get gs i ≡ Some u → slice_get ls i ≡ Some (Some m) → u.formulas ≡ Some fs → fault_from a left t gs ls ≡ None → is_root_bounded a u fs m ≡ Some true
bounded_at a left t [] ls i u m fs is laid defined h = absurd (no is)
  where
    no : None ≡ Some u → ⊥
    no q = cc
bounded_at a left t (g ∷ gs) [] i u m fs is laid defined h = absurd (no laid)
  where
    no : None ≡ Some (Some m) → ⊥
    no q = cc
bounded_at a left t (g ∷ gs) (l ∷ ls) zero u m fs is laid defined h =
    let here = (here_or_later g (fault_of a left t g l) (fault_from a left (totals_with t g l) gs ls) h).0 in
    let of_it : fault_of a left t u (Some m) ≡ None =
    subst (λ (q : StoredText). fault_of a left t q (Some m) ≡ None) (same g u is) (subst (λ (q : Option LaidText). fault_of a left t g q ≡ None) (same l (Some m) laid) here) in
    bounded_of a left t u fs m u.formulas defined of_it
bounded_at a left t (g ∷ gs) (l ∷ ls) (suc i) u m fs is laid defined h =
    bounded_at a left (totals_with t g l) gs ls i u m fs is laid defined (here_or_later g (fault_of a left t g l) (fault_from a left (totals_with t g l) gs ls) h).1

-- ---- the calls that are shown

yes_then : (o : Option Bool) (rest : Option Bool) → (o >>= λ is. if is then rest else Some false) ≡ Some true → (o ≡ Some true) × (rest ≡ Some true)
yes_then (Some true) rest h = (refl, h)
yes_then (Some false) rest h = absurd (not_so (same false true h))
  where
    not_so : false ≡ true → ⊥
    not_so q = cc
yes_then None rest h = absurd (nothing h)
  where
    nothing : None ≡ Some true → ⊥
    nothing q = cc

no_bool : (b : Bool) → None ≡ Some b → ⊥
no_bool b h = cc

not_true : false ≡ true → ⊥
not_true h = cc

definition_bounded : (a : Algorithm) (g : StoredText) (outer : List Binding) (region : List Span1) (d k n : ℕ) (fs : List FormulaText) (ns : List NestText) (f : FormulaText) (nest : NestText)
    → n ≡ d + k → slice_get fs k ≡ Some f → slice_get ns k ≡ Some nest → is_bounded a g outer region d fs ns ≡ Some true → is_definition_bounded a g outer region n f nest ≡ Some true
definition_bounded a g outer region d k n [] ns f nest is formula laid h = absurd (no formula)
  where
    no : None ≡ Some f → ⊥
    no q = cc
definition_bounded a g outer region d k n (y ∷ fs) [] f nest is formula laid h = absurd (no laid)
  where
    no : None ≡ Some nest → ⊥
    no q = cc
definition_bounded a g outer region d zero n (y ∷ fs) (z ∷ ns) f nest is formula laid h =
    let here = (yes_then (is_definition_bounded a g outer region d y z) (is_bounded a g outer region (d + 1) fs ns) h).0 in
    let at : n ≡ d = omega (arith, is) in
    subst (λ (q : ℕ). is_definition_bounded a g outer region q f nest ≡ Some true) (sym at)
    (subst (λ (q : FormulaText). is_definition_bounded a g outer region d q nest ≡ Some true) (same y f formula)
    (subst (λ (q : NestText). is_definition_bounded a g outer region d y q ≡ Some true) (same z nest laid) here))
definition_bounded a g outer region d (suc k) n (y ∷ fs) (z ∷ ns) f nest is formula laid h =
    definition_bounded a g outer region (d + 1) k n fs ns f nest (omega (arith, is)) formula laid
    (yes_then (is_definition_bounded a g outer region d y z) (is_bounded a g outer region (d + 1) fs ns) h).1

call_bounded : (a : Algorithm) (r : AroundText) (f : FormulaText) (region : List Span1) (x : List ℕ) (cs : List Written) (place : ℕ) (c : Written) → slice_get cs place ≡ Some c
    → are_bounded a r f region x cs ≡ Some true → is_call_bounded a r f region x c ≡ Some true
call_bounded a r f region x [] place c there h = absurd (no there)
  where
    no : None ≡ Some c → ⊥
    no q = cc
call_bounded a r f region x (y ∷ cs) zero c there h =
    subst (λ (q : Written). is_call_bounded a r f region x q ≡ Some true) (same y c there) (yes_then (is_call_bounded a r f region x y) (are_bounded a r f region x cs) h).0
call_bounded a r f region x (y ∷ cs) (suc place) c there h =
    call_bounded a r f region x cs place c there (yes_then (is_call_bounded a r f region x y) (are_bounded a r f region x cs) h).1

module _ (a : Algorithm) (r : AroundText) (v : ℕ → ℤ) (variables : List ℕ → Bool) (numbers : List ℕ → ℤ) (answers : List ℕ → List ℤ → Value)
    (told : AreAsTold variables (called a) numbers answers) (fits : HoldsIn r.scope v) (within : IsInRegion r.coordinates v (map numbers r.variables)) where
  input_within : (es : Terms) (ns : List ℕ) → AreTyped variables (called a) es → length (numbers_of numbers answers es) ≡ length ns → is_on_input a r es ns ≡ Some true
      → IsInRegion (map (λ n. bounds.numbers (pos 0) (pos n -ℤ pos 1)) ns) v (numbers_of numbers answers es)
  input_within End [] typed many h = tt
  input_within End (n ∷ ns) typed many h = absurd (omega (arith, many))
  input_within (More e es) [] typed many h = absurd (omega (arith, many))
  input_within (More e es) (n ∷ ns) typed many h =
      let room : Span1 = bounds.numbers (pos 0) (pos n -ℤ pos 1) in
      let b = bound (interval_in a r e) (λ s. if span_inside r.scope s room then is_on_input a r es ns else Some false) true h in
      by b.value (contains r.scope variables (called a) r.variables r.coordinates e b.value b.is typed.0 v numbers answers fits told within) (span_inside r.scope b.value room) refl b.comes
      (λ q. input_within es ns typed.1 (omega (arith, many)) q)
    where
      by : (s : Span1) → IsInSpan s v (value_of numbers answers e).number → (t : Bool) → span_inside r.scope s (bounds.numbers (pos 0) (pos n -ℤ pos 1)) ≡ t
          → (if t then is_on_input a r es ns else Some false) ≡ Some true
          → (is_on_input a r es ns ≡ Some true → IsInRegion (map (λ k. bounds.numbers (pos 0) (pos k -ℤ pos 1)) ns) v (numbers_of numbers answers es))
          → IsInRegion (map (λ k. bounds.numbers (pos 0) (pos k -ℤ pos 1)) (n ∷ ns)) v (numbers_of numbers answers (More e es))
      by s lies true inside q rest = (span_inside-means r.scope s (bounds.numbers (pos 0) (pos n -ℤ pos 1)) inside v fits (value_of numbers answers e).number lies, rest q)
      by s lies false inside q rest = absurd (not_true (same false true q))

  -- at a place where the left index is not the variable
  place_within : (f : FormulaText) (d : ℕ) (es : Terms) (xs : List Extent) (k n : ℕ) (e : Extent) (z : ℤ) → n ≡ d + k → counts (Some f) n ≡ true → AreTyped variables (called a) es
      → slice_get xs k ≡ Some e → slice_get (numbers_of numbers answers es) k ≡ Some z → is_in_region a r f d es (map whole xs) ≡ Some true → IsInSpan (whole e) v z
  place_within f d End xs k n e z is counted typed there at h = absurd (no at)
    where
      no : None ≡ Some z → ⊥
      no q = cc
  place_within f d (More y es) [] k n e z is counted typed there at h = absurd (no there)
    where
      no : None ≡ Some e → ⊥
      no q = cc
  place_within f d (More y es) (x ∷ xs) zero n e z is counted typed there at h =
      let shown = (yes_then (is_place_bounded a r f d y (whole x)) (is_in_region a r f (d + 1) es (map whole xs)) h).0 in
      let here : n ≡ d = omega (arith, is) in
      let counted_here : counts (Some f) d ≡ true = subst (λ (q : ℕ). counts (Some f) q ≡ true) here counted in
      let found : (interval_in a r y >>= λ s. Some (span_inside r.scope s (whole x))) ≡ Some true =
      sym (ap (λ (t : Bool). if t then (interval_in a r y >>= λ s. Some (span_inside r.scope s (whole x))) else Some true) counted_here) ∙ shown in
      let b = bound (interval_in a r y) (λ s. Some (span_inside r.scope s (whole x))) true found in
      let lies : IsInSpan b.value v (value_of numbers answers y).number = contains r.scope variables (called a) r.variables r.coordinates y b.value b.is typed.0 v numbers answers fits told within in
      let held = span_inside-means r.scope b.value (whole x) (same (span_inside r.scope b.value (whole x)) true b.comes) v fits (value_of numbers answers y).number lies in
      subst (λ (q : Extent). IsInSpan (whole q) v z) (same x e there) (subst (λ (q : ℤ). IsInSpan (whole x) v q) (same (value_of numbers answers y).number z at) held)
  place_within f d (More y es) (x ∷ xs) (suc k) n e z is counted typed there at h =
      place_within f (d + 1) es xs k n e z (omega (arith, is)) counted typed.1 there at (yes_then (is_place_bounded a r f d y (whole x)) (is_in_region a r f (d + 1) es (map whole xs)) h).1

-- ---- the laws

-- a call of a definition is shown to lie where it may
shown_call : (a : Algorithm) (gs : List StoredText) (i : ℕ) (u : StoredText) (m : LaidText) (x : List ℕ) (v : ℕ → ℤ) (p : List ℤ) → IsLaid a gs i u m → region_fault a gs ≡ None
    → (c : CallsAt a u m x v p) → is_call_bounded a c.standing c.formula (map whole m.region) u.subject.name c.call ≡ Some true
shown_call a gs i u m x v p l none c =
    let outer : List Binding = head_scope m.skeleton in
    let root : is_root_bounded a u c.formulas m ≡ Some true = bounded_at a (calls_of_large a gs) no_totals gs (laid_functions a gs) i u m c.formulas l.is l.laid c.defined none in
    let of_it : is_definition_bounded a u outer (map whole m.region) c.number c.formula c.nest ≡ Some true =
    definition_bounded a u outer (map whole m.region) 0 c.number c.number c.formulas m.skeleton.nests c.formula c.nest (omega arith) c.is c.nested root in
    let R : Option AroundText → Option Bool = λ o. o >>= λ r. are_bounded a r c.formula (map whole m.region) u.subject.name (calls_in c.formula) in
    let all : are_bounded a c.standing c.formula (map whole m.region) u.subject.name (calls_in c.formula) ≡ Some true = sym (ap R c.stands) ∙ of_it in
    call_bounded a c.standing c.formula (map whole m.region) u.subject.name (calls_in c.formula) c.place c.call c.there all

pub input_holds : InputHoldsCalls
input_holds a gs i u m x none v p c many =
    let other : Option Bool = if same_name c.call.name u.subject.name then is_in_region a c.standing c.formula 0 c.call.at (map whole m.region) else Some true in
    let input : is_on_input a c.standing c.call.at a.input_extents ≡ Some true =
    sym (ap (λ (t : Bool). if t then is_on_input a c.standing c.call.at a.input_extents else other) c.named) ∙ shown_call a gs i u m a.input v p x none c in
    subst (λ (q : List ℤ). IsInRegion (map (λ n. bounds.numbers (pos 0) (pos n -ℤ pos 1)) a.input_extents) v q) (sym c.point)
    (input_within a c.standing v c.variables c.numbers c.answers c.told c.fits c.within c.call.at a.input_extents c.typed
    (subst (λ (q : List ℤ). length q ≡ length a.input_extents) c.point many) input)

pub own_holds : RegionsHoldOwnCalls
own_holds a gs i u m x none v p c other d e z counted there at =
    let f : FormulaText = c.formula in
    let region : Option Bool = is_in_region a c.standing f 0 c.call.at (map whole m.region) in
    let first : (if same_name c.call.name u.subject.name then region else Some true) ≡ Some true =
    sym (ap (λ (t : Bool). if t then is_on_input a c.standing c.call.at a.input_extents else (if same_name c.call.name u.subject.name then region else Some true)) other)
    ∙ shown_call a gs i u m u.subject.name v p x none c in
    let shown : region ≡ Some true = sym (ap (λ (t : Bool). if t then region else Some true) c.named) ∙ first in
    place_within a c.standing v c.variables c.numbers c.answers c.told c.fits c.within f 0 c.call.at m.region d d e z (omega arith) counted c.typed there
    (subst (λ (q : List ℤ). slice_get q d ≡ Some z) c.point at) shown
