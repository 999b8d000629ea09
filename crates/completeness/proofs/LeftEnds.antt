-- Where the region of a function is what its own updates widen some reach to, each left index that is no variable has ends, between those of the region at its place, and so has each index of
-- a call of the function itself at such a place.
use Rattle.std.proofs.Common.{◌≡◌, ℕ, zero, suc, ◌+◌, ◌<◌, ◌≤◌, Bool, true, false, List, [], ◌∷◌, length, Option, Some, None, refl, sym, ap, subst, ◌∙◌, arith}
use Rattle.std.specs.Prelude.{◌==◌, ◌&&◌, if◌then◌else◌, slice_get}
use Rattle.std.specs.Ordering.{int_eq}
use Rattle.soundness.proofs.Refines.{eq_true, number_true}
use Rattle.tree.specs.Term.{Term, Terms, End, More}
use Rattle.lin.specs.declared.scope.Binding.{Binding}
use Rattle.meaning.specs.Algorithm.{Algorithm}
use Rattle.meaning.specs.Names.{same_name}
use Rattle.algo.specs.Scoping.Standing.{Written}
use Rattle.sched.specs.declared.numbers.Extent.{Extent}
use Rattle.sched.specs.Skeleton.{NestText, SkeletonText}
use Rattle.sched.specs.Standing.{◌>>=◌}
use Rattle.sched.specs.Stored.{FormulaText, StoredText, calls_in}
use Rattle.sched.specs.Around.{AroundText, head_scope, around}
use Rattle.sched.specs.Regions.{LaidText, counts}
use Rattle.regions.specs.Regions.{are_within, add_index, add_counted, add_call, add_calls, add_place, add_left, add_own, add_all_own, region_of, skeleton_of, same_extent}
use Rattle.regions.specs.Regions.{same_region, over, closed, laid_over, reach_of, laid_by, laid_within, laid_functions}
use Rattle.blocks.proofs.Laying.{bound, same}
use Rattle.lower.proofs.Reached.{Grows, after, if_some, region_length}
use Rattle.completeness.proofs.Standing.{Taken}
use Rattle.completeness.specs.Placed.{index_at}
use Rattle.completeness.proofs.CallEnds.{stay, HasEnds, grows_index, grows_if, grows_call, grows_named, grows_calls, index_ends, more_ends, region_in, IsIndexEnded}

abbrev Ends : Type 0
Ends = Taken _ _ are_within

-- ---- left indices

module _ (a : Algorithm) (r : AroundText) where
  grows_place : (d : ℕ) (o : Option Term) (reach out : List (Option Ends)) → add_place a r d o reach ≡ Some out → Grows reach out
  grows_place d None reach out h = if_some reach reach out (stay reach) h
  grows_place d (Some e) reach out h = grows_index a r d e reach out h

  grows_left : (d : ℕ) (os : List (Option Term)) (reach out : List (Option Ends)) → add_left a r d os reach ≡ Some out → Grows reach out
  grows_left d [] reach out h = if_some reach reach out (stay reach) h
  grows_left d (o ∷ os) reach out h =
      let b = bound (add_place a r d o reach) (add_left a r (d + 1) os) out h in
      after reach b.value out (grows_place d o reach b.value b.is) (grows_left (d + 1) os b.value out b.comes)

  left_ends : (d : ℕ) (os : List (Option Term)) (reach out : List (Option Ends)) → add_left a r d os reach ≡ Some out → d + length os ≤ length reach → (j : ℕ) (e : Term) →
      slice_get os j ≡ Some (Some e) → HasEnds a r e out (d + j)
  left_ends d [] reach out h few j e at = absurd (cc at)
  left_ends d (o ∷ os) reach out h few zero e at =
      let b = bound (add_place a r d o reach) (add_left a r (d + 1) os) out h in
      let none : d ≡ d + 0 = omega arith in
      let here = index_ends a r d e reach b.value (omega (arith, few)) (subst (λ (i : Option Term). add_place a r d i reach ≡ Some b.value) (same o (Some e) at) b.is) in
      subst (HasEnds a r e out) none (more_ends a r e d b.value out (grows_left (d + 1) os b.value out b.comes) here)
  left_ends d (o ∷ os) reach out h few (suc j) e at =
      let b = bound (add_place a r d o reach) (add_left a r (d + 1) os) out h in
      let many = (grows_place d o reach b.value b.is).as_many in
      let next : (d + 1) + j ≡ d + suc j = omega arith in
      subst (HasEnds a r e out) next (left_ends (d + 1) os b.value out b.comes (omega (arith, few, many)) j e at)

  -- an index of a call of the function itself, at a place where its left index is no variable
  module _ (f : FormulaText) where
    own_call_ends : (d : ℕ) (es : Terms) (reach out : List (Option Ends)) → add_call a r (Some f) d es reach ≡ Some out → (j : ℕ) (t : Term) → index_at es j ≡ Some t → d + j < length reach →
        counts (Some f) (d + j) ≡ true → HasEnds a r t out (d + j)
    own_call_ends d End reach out h j t at less counted = absurd (cc at)
    own_call_ends d (More e es) reach out h zero t at less counted =
        let b = bound (add_counted a r (Some f) d e reach) (add_call a r (Some f) (d + 1) es) out h in
        let none : d + 0 ≡ d = omega arith in
        let counted_here : counts (Some f) d ≡ true = ap (counts (Some f)) (sym none) ∙ counted in
        let is : e ≡ t = same e t at in
        let added : add_index a r d t reach ≡ Some b.value =
        ap (λ (u : Term). add_index a r d u reach) (sym is) ∙ sym (ap (λ (v : Bool). if v then add_index a r d e reach else Some reach) counted_here) ∙ b.is in
        let here = index_ends a r d t reach b.value (omega (arith, less)) added in
        subst (HasEnds a r t out) (sym none) (more_ends a r t d b.value out (grows_call a r (Some f) (d + 1) es b.value out b.comes) here)
    own_call_ends d (More e es) reach out h (suc j) t at less counted =
        let b = bound (add_counted a r (Some f) d e reach) (add_call a r (Some f) (d + 1) es) out h in
        let many = (grows_if a r (counts (Some f) d) d e reach b.value b.is).as_many in
        let next : (d + 1) + j ≡ d + suc j = omega arith in
        subst (HasEnds a r t out) next (own_call_ends (d + 1) es b.value out b.comes j t at (omega (arith, less, many)) (ap (counts (Some f)) next ∙ counted))

    own_calls_ends : (x : List ℕ) (cs : List Written) (reach out : List (Option Ends)) → add_calls a r (Some f) x cs reach ≡ Some out → (place : ℕ) (c : Written) → slice_get cs place ≡ Some c →
        same_name c.name x ≡ true → (j : ℕ) (t : Term) → index_at c.at j ≡ Some t → j < length reach → counts (Some f) j ≡ true → HasEnds a r t out j
    own_calls_ends x [] reach out h place c there named j t at less counted = absurd (cc there)
    own_calls_ends x (y ∷ cs) reach out h zero c there named j t at less counted =
        let is : y ≡ c = same y c there in
        let b = bound (if same_name y.name x then add_call a r (Some f) 0 y.at reach else Some reach) (add_calls a r (Some f) x cs) out h in
        let yes : same_name y.name x ≡ true = ap (λ (q : Written). same_name q.name x) is ∙ named in
        let added : add_call a r (Some f) 0 c.at reach ≡ Some b.value =
        ap (λ (q : Written). add_call a r (Some f) 0 q.at reach) (sym is) ∙ sym (ap (λ (v : Bool). if v then add_call a r (Some f) 0 y.at reach else Some reach) yes) ∙ b.is in
        let none : 0 + j ≡ j = omega arith in
        let here = own_call_ends 0 c.at reach b.value added j t at (omega (arith, less)) (ap (counts (Some f)) none ∙ counted) in
        more_ends a r t j b.value out (grows_calls a r (Some f) x cs b.value out b.comes) (subst (HasEnds a r t b.value) none here)
    own_calls_ends x (y ∷ cs) reach out h (suc place) c there named j t at less counted =
        let b = bound (if same_name y.name x then add_call a r (Some f) 0 y.at reach else Some reach) (add_calls a r (Some f) x cs) out h in
        let many = (grows_named a r (same_name y.name x) (Some f) y.at reach b.value b.is).as_many in
        own_calls_ends x cs b.value out b.comes place c there named j t at (omega (arith, less, many)) counted

-- ---- definitions

module _ (a : Algorithm) (g : StoredText) (outer : List Binding) where
  grows_own : (d : ℕ) (f : FormulaText) (n : NestText) (reach out : List (Option Ends)) → add_own a g outer d f n reach ≡ Some out → Grows reach out
  grows_own d f n reach out h =
      let b = bound (around a g outer n f d) (λ r. add_left a r 0 f.at reach >>= add_calls a r (Some f) g.subject.name (calls_in f)) out h in
      let c = bound (add_left a b.value 0 f.at reach) (add_calls a b.value (Some f) g.subject.name (calls_in f)) out b.comes in
      after reach c.value out (grows_left a b.value 0 f.at reach c.value c.is) (grows_calls a b.value (Some f) g.subject.name (calls_in f) c.value out c.comes)

  grows_all_own : (d : ℕ) (fs : List FormulaText) (ns : List NestText) (reach out : List (Option Ends)) → add_all_own a g outer d fs ns reach ≡ Some out → Grows reach out
  grows_all_own d [] ns reach out h = if_some reach reach out (stay reach) h
  grows_all_own d (f ∷ fs) [] reach out h = absurd (cc h)
  grows_all_own d (f ∷ fs) (n ∷ ns) reach out h =
      let b = bound (add_own a g outer d f n reach) (add_all_own a g outer (d + 1) fs ns) out h in
      after reach b.value out (grows_own d f n reach b.value b.is) (grows_all_own (d + 1) fs ns b.value out b.comes)

  module _ (f : FormulaText) (n : NestText) (r : AroundText) (j : ℕ) (t : Term) where
    -- what the definition adds gives this index ends
    abbrev Adds : Type 0
    Adds =
        (reach mid out : List (Option Ends)) → add_left a r 0 f.at reach ≡ Some mid → add_calls a r (Some f) g.subject.name (calls_in f) mid ≡ Some out → j < length reach
        → length f.at ≤ length reach → HasEnds a r t out j

    own_ends : Adds → (d : ℕ) (reach out : List (Option Ends)) → around a g outer n f d ≡ Some r → add_own a g outer d f n reach ≡ Some out → j < length reach → length f.at ≤ length reach →
        HasEnds a r t out j
    own_ends adds d reach out stands h less few =
        let added : (add_left a r 0 f.at reach >>= add_calls a r (Some f) g.subject.name (calls_in f)) ≡ Some out =
        sym (ap (λ (o : Option AroundText). o >>= λ r. add_left a r 0 f.at reach >>= add_calls a r (Some f) g.subject.name (calls_in f)) stands) ∙ h in
        let c = bound (add_left a r 0 f.at reach) (add_calls a r (Some f) g.subject.name (calls_in f)) out added in
        adds reach c.value out c.is c.comes less few

    all_own_ends : Adds → (d m : ℕ) (fs : List FormulaText) (ns : List NestText) (reach out : List (Option Ends)) → add_all_own a g outer d fs ns reach ≡ Some out → slice_get fs m ≡ Some f →
        slice_get ns m ≡ Some n → around a g outer n f (d + m) ≡ Some r → j < length reach → length f.at ≤ length reach → HasEnds a r t out j
    all_own_ends adds d m [] ns reach out h there nested stands less few = absurd (cc there)
    all_own_ends adds d m (y ∷ fs) [] reach out h there nested stands less few = absurd (cc h)
    all_own_ends adds d zero (y ∷ fs) (z ∷ ns) reach out h there nested stands less few =
        let b = bound (add_own a g outer d y z reach) (add_all_own a g outer (d + 1) fs ns) out h in
        let of_it : add_own a g outer d f n reach ≡ Some b.value =
        subst (λ (q : FormulaText). add_own a g outer d q n reach ≡ Some b.value) (same y f there) (subst (λ (q : NestText). add_own a g outer d y q reach ≡ Some b.value) (same z n nested) b.is) in
        let none : d + 0 ≡ d = omega arith in
        let known : around a g outer n f d ≡ Some r = subst (λ (i : ℕ). around a g outer n f i ≡ Some r) none stands in
        more_ends a r t j b.value out (grows_all_own (d + 1) fs ns b.value out b.comes) (own_ends adds d reach b.value known of_it less few)
    all_own_ends adds d (suc m) (y ∷ fs) (z ∷ ns) reach out h there nested stands less few =
        let b = bound (add_own a g outer d y z reach) (add_all_own a g outer (d + 1) fs ns) out h in
        let many = (grows_own d y z reach b.value b.is).as_many in
        let next : (d + 1) + m ≡ d + suc m = omega arith in
        let known : around a g outer n f ((d + 1) + m) ≡ Some r = subst (λ (i : ℕ). around a g outer n f i ≡ Some r) (sym next) stands in
        all_own_ends adds (d + 1) m fs ns b.value out b.comes there nested known (omega (arith, less, many)) (omega (arith, few, many))

    -- between those of the region
    ended : Adds → (root : Bool) (m : ℕ) (fs : List FormulaText) (ns : List NestText) (reach wide : List (Option Ends)) (region : List Extent) → add_all_own a g outer 0 fs ns reach ≡ Some wide →
        region_of root wide ≡ Some region → slice_get fs m ≡ Some f → slice_get ns m ≡ Some n → around a g outer n f m ≡ Some r → j < length region → length f.at ≤ length region →
        IsIndexEnded a r t region j
    ended adds root m fs ns reach wide region h is there nested stands less few =
        let many = (grows_all_own 0 fs ns reach wide h).as_many in
        let long = region_length root wide region is in
        let none : 0 + m ≡ m = omega arith in
        let known : around a g outer n f (0 + m) ≡ Some r = subst (λ (i : ℕ). around a g outer n f i ≡ Some r) (sym none) stands in
        let ends = all_own_ends adds 0 m fs ns reach wide h there nested known (omega (arith, less, many, long)) (omega (arith, few, many, long)) in
        record {
          span = ends.span;
          bounds = ends.bounds;
          ends = ends.ends;
          freed = ends.freed;
          inside = λ z low high x at_x. region_in root wide region is j z x (ends.reached z low high) at_x;
        }

    -- a left index has ends
    left_has : slice_get f.at j ≡ Some (Some t) → (m : ℕ) (fs : List FormulaText) (ns : List NestText) (reach wide : List (Option Ends)) → add_all_own a g outer 0 fs ns reach ≡ Some wide →
        slice_get fs m ≡ Some f → slice_get ns m ≡ Some n → around a g outer n f m ≡ Some r → j < length reach → length f.at ≤ length reach → HasEnds a r t wide j
    left_has at m fs ns reach wide h there nested stands less few =
        let none : 0 + m ≡ m = omega arith in
        let known : around a g outer n f (0 + m) ≡ Some r = subst (λ (i : ℕ). around a g outer n f i ≡ Some r) (sym none) stands in
        all_own_ends (λ reach mid out added more less few. let none : 0 + j ≡ j = omega arith in
        more_ends a r t j mid out (grows_calls a r (Some f) g.subject.name (calls_in f) mid out more)
        (subst (HasEnds a r t mid) none (left_ends a r 0 f.at reach mid added (omega (arith, few)) j t at))) 0 m fs ns reach wide h there nested known less few

    -- and so has an index of a call of the function itself at its place
    own_has : (place : ℕ) (c : Written) → slice_get (calls_in f) place ≡ Some c → same_name c.name g.subject.name ≡ true → index_at c.at j ≡ Some t → counts (Some f) j ≡ true →
        (m : ℕ) (fs : List FormulaText) (ns : List NestText) (reach wide : List (Option Ends)) → add_all_own a g outer 0 fs ns reach ≡ Some wide →
        slice_get fs m ≡ Some f → slice_get ns m ≡ Some n → around a g outer n f m ≡ Some r → j < length reach → length f.at ≤ length reach → HasEnds a r t wide j
    own_has place c there named at counted m fs ns reach wide h there_f nested stands less few =
        let none : 0 + m ≡ m = omega arith in
        let known : around a g outer n f (0 + m) ≡ Some r = subst (λ (i : ℕ). around a g outer n f i ≡ Some r) (sym none) stands in
        all_own_ends (λ reach mid out added more less few. let many = (grows_left a r 0 f.at reach mid added).as_many in
        own_calls_ends a r f g.subject.name (calls_in f) mid out more place c there named j t at (omega (arith, less, many)) counted) 0 m fs ns reach wide h there_f nested known less few

    pub own_ended : (place : ℕ) (c : Written) → slice_get (calls_in f) place ≡ Some c → same_name c.name g.subject.name ≡ true → index_at c.at j ≡ Some t → counts (Some f) j ≡ true →
        (root : Bool) (m : ℕ) (fs : List FormulaText) (ns : List NestText) (reach wide : List (Option Ends)) (region : List Extent) →
        add_all_own a g outer 0 fs ns reach ≡ Some wide → region_of root wide ≡ Some region → slice_get fs m ≡ Some f → slice_get ns m ≡ Some n → around a g outer n f m ≡ Some r →
        j < length region → length f.at ≤ length region → IsIndexEnded a r t region j
    own_ended place c there named at counted =
        ended (λ reach mid out added more less few. let many = (grows_left a r 0 f.at reach mid added).as_many in
        own_calls_ends a r f g.subject.name (calls_in f) mid out more place c there named j t at (omega (arith, less, many)) counted)

-- ---- the first loops over a region

both_true : (p q : Bool) → (p && q) ≡ true → (p ≡ true) × (q ≡ true)
both_true true q h = (refl, h)
both_true false q h = absurd (cc h)

extent_same : (x y : Extent) → same_extent x y ≡ true → x ≡ y
extent_same x y h =
    let parts = both_true (int_eq x.low y.low) (x.count == y.count) h in
    let low : x.low ≡ y.low = number_true x.low y.low parts.0 in
    let count : x.count ≡ y.count = eq_true x.count y.count parts.1 in
    λ i. record { low = low i; count = count i }

same_extents : (xs ys : List Extent) → length xs ≡ length ys → same_region xs ys ≡ true → xs ≡ ys
same_extents [] [] long h = refl
same_extents [] (y ∷ ys) long h = absurd (omega (arith, long))
same_extents (x ∷ xs) [] long h = absurd (omega (arith, long))
same_extents (x ∷ xs) (y ∷ ys) long h =
    let parts = both_true (same_extent x y) (same_region xs ys) h in
    λ i. extent_same x y parts.0 i ∷ same_extents xs ys (omega (arith, long)) parts.1 i

-- each definition has a nest, and what stands around its store
own_found : (a : Algorithm) (g : StoredText) (outer : List Binding) (d m : ℕ) (fs : List FormulaText) (ns : List NestText) (reach out : List (Option Ends)) (f : FormulaText) →
    add_all_own a g outer d fs ns reach ≡ Some out → slice_get fs m ≡ Some f → (n : NestText) × (slice_get ns m ≡ Some n) × (r : AroundText) × (around a g outer n f (d + m) ≡ Some r)
own_found a g outer d m [] ns reach out f h there = absurd (cc there)
own_found a g outer d m (y ∷ fs) [] reach out f h there = absurd (cc h)
own_found a g outer d zero (y ∷ fs) (z ∷ ns) reach out f h there =
    let b = bound (add_own a g outer d y z reach) (add_all_own a g outer (d + 1) fs ns) out h in
    let c = bound (around a g outer z y d) (λ r. add_left a r 0 y.at reach >>= add_calls a r (Some y) g.subject.name (calls_in y)) b.value b.is in
    let none : d ≡ d + 0 = omega arith in
    (z, refl, c.value, ap (λ (i : ℕ). around a g outer z f i) (sym none) ∙ ap (λ (q : FormulaText). around a g outer z q d) (sym (same y f there)) ∙ c.is)
own_found a g outer d (suc m) (y ∷ fs) (z ∷ ns) reach out f h there =
    let b = bound (add_own a g outer d y z reach) (add_all_own a g outer (d + 1) fs ns) out h in
    let rest = own_found a g outer (d + 1) m fs ns b.value out f b.comes there in
    let next : d + suc m ≡ (d + 1) + m = omega arith in
    (rest.0, rest.1, rest.2, ap (λ (i : ℕ). around a g outer rest.0 f i) next ∙ rest.3)

module _ (a : Algorithm) (g : StoredText) (fs : List FormulaText) where
  -- over some region the left index has ends, between those of the region that is told
  pub record IsFirst (m : LaidText) (d : ℕ) (f : FormulaText) (j : ℕ) (e : Term) : Type 0 where
    pub region : List Extent
    pub skeleton : SkeletonText
    pub over : skeleton_of g fs region ≡ Some skeleton
    pub nest : NestText
    pub nested : slice_get skeleton.nests d ≡ Some nest
    pub standing : AroundText
    pub stands : around a g (head_scope skeleton) nest f d ≡ Some standing
    pub ended : IsIndexEnded a standing e m.region j

  skeleton_over : (region : List Extent) (l : LaidText) → over g fs region ≡ Some l → (region ≡ l.region) × (skeleton_of g fs l.region ≡ Some l.skeleton)
  skeleton_over region l h =
      let b = bound (skeleton_of g fs region) (λ s. Some (record { region = region; skeleton = s })) l h in
      let is : record { region = region; skeleton = b.value } ≡ l = same (record { region = region; skeleton = b.value }) l b.comes in
      (ap (λ (q : LaidText). q.region) is, subst (λ (q : LaidText). skeleton_of g fs q.region ≡ Some q.skeleton) is b.is)

  abbrev root : Bool
  root = g.subject.is_root

  -- the region is one of ends that have grown from these
  record HasGrown (reach : List (Option Ends)) (x : LaidText) : Type 0 where
    wide : List (Option Ends)
    grown : Grows reach wide
    is : region_of g.subject.is_root wide ≡ Some x.region

  grown_by : (k : ℕ) (reach : List (Option Ends)) (l x : LaidText) → region_of g.subject.is_root reach ≡ Some l.region → closed a g fs k reach l ≡ Some x → HasGrown reach x
  grown_by zero reach l x is h = record { wide = reach; grown = stay reach; is = is ∙ ap (λ (q : LaidText). Some q.region) (same l x h) }
  grown_by (suc k) reach l x is h =
      let again : List (Option Ends) → List Extent → Option LaidText = λ wider region. over g fs region >>= closed a g fs k wider in
      let step : List (Option Ends) → List Extent → Option LaidText = λ wider region. if same_region l.region region then Some l else again wider region in
      let b = bound (add_all_own a g (head_scope l.skeleton) 0 fs l.skeleton.nests reach) (λ wider. region_of root wider >>= step wider) x h in
      let c = bound (region_of root b.value) (step b.value) x b.comes in
      of b.value c.value (grows_all_own a g (head_scope l.skeleton) 0 fs l.skeleton.nests reach b.value b.is) c.is (same_region l.region c.value) c.comes (λ w y. grown_by k w y x)
    where
      of : (wide : List (Option Ends)) (region : List Extent) → Grows reach wide → region_of root wide ≡ Some region → (t : Bool) →
          (if t then Some l else (over g fs region >>= closed a g fs k wide)) ≡ Some x →
          ((w : List (Option Ends)) (y : LaidText) → region_of root w ≡ Some y.region → closed a g fs k w y ≡ Some x → HasGrown w x) → HasGrown reach x
      of wide region grows found true e rest = record { wide = reach; grown = stay reach; is = is ∙ ap (λ (q : LaidText). Some q.region) (same l x e) }
      of wide region grows found false e rest =
          let d = bound (over g fs region) (closed a g fs k wide) x e in
          let r = rest wide d.value (found ∙ ap (λ (es : List Extent). Some es) (skeleton_over region d.value d.is).0) d.comes in
          record { wide = r.wide; grown = after reach wide r.wide grows r.grown; is = r.is }

  -- and the ends of what is set over the first one, too
  first_grown : (reach wide : List (Option Ends)) (l x : LaidText) → add_all_own a g (head_scope l.skeleton) 0 fs l.skeleton.nests reach ≡ Some wide → region_of root reach ≡ Some l.region →
      closed a g fs 4 reach l ≡ Some x → HasGrown wide x
  first_grown reach wide l x added is h =
      let again : List (Option Ends) → List Extent → Option LaidText = λ wider region. over g fs region >>= closed a g fs 3 wider in
      let step : List (Option Ends) → List Extent → Option LaidText = λ wider region. if same_region l.region region then Some l else again wider region in
      let b = bound (add_all_own a g (head_scope l.skeleton) 0 fs l.skeleton.nests reach) (λ wider. region_of root wider >>= step wider) x h in
      let c = bound (region_of root b.value) (step b.value) x b.comes in
      let wide_is : b.value ≡ wide = same b.value wide (sym b.is ∙ added) in
      let many = (grows_all_own a g (head_scope l.skeleton) 0 fs l.skeleton.nests reach b.value b.is).as_many in
      let one = region_length root b.value c.value c.is in
      let two = region_length root reach l.region is in
      subst (λ (w : List (Option Ends)). HasGrown w x) wide_is (of b.value c.value c.is (omega (arith, many, one, two)) (same_region l.region c.value) refl c.comes)
    where
      of : (wide : List (Option Ends)) (region : List Extent) → region_of root wide ≡ Some region → length l.region ≡ length region → (t : Bool) → same_region l.region region ≡ t →
          (if t then Some l else (over g fs region >>= closed a g fs 3 wide)) ≡ Some x → HasGrown wide x
      of wide region found long true same_so e =
          let is : region ≡ x.region = sym (same_extents l.region region long same_so) ∙ ap (λ (q : LaidText). q.region) (same l x e) in
          record { wide = wide; grown = stay wide; is = found ∙ ap (λ (es : List Extent). Some es) is }
      of wide region found long false same_so e =
          let d = bound (over g fs region) (closed a g fs 3 wide) x e in
          grown_by 3 wide d.value x (found ∙ ap (λ (es : List Extent). Some es) (skeleton_over region d.value d.is).0) d.comes

  first_by : (reach : List (Option Ends)) (m : LaidText) → laid_over a g fs reach ≡ Some m → (d : ℕ) (f : FormulaText) (j : ℕ) (e : Term) → slice_get fs d ≡ Some f →
      j < length m.region → length f.at ≤ length m.region →
      ((l : LaidText) (n : NestText) (r : AroundText) (wide reach : List (Option Ends)) → add_all_own a g (head_scope l.skeleton) 0 fs l.skeleton.nests reach ≡ Some wide →
      slice_get l.skeleton.nests d ≡ Some n → around a g (head_scope l.skeleton) n f d ≡ Some r → j < length reach → length f.at ≤ length reach → HasEnds a r e wide j) → IsFirst m d f j e
  first_by reach m h d f j e there less few has =
      let b = bound (region_of root reach >>= over g fs) (closed a g fs 4 reach) m h in
      let c = bound (region_of root reach) (over g fs) b.value b.is in
      let l : LaidText = b.value in
      let made = skeleton_over c.value l c.comes in
      let is : region_of root reach ≡ Some l.region = c.is ∙ ap (λ (es : List Extent). Some es) made.0 in
      let again : List (Option Ends) → List Extent → Option LaidText = λ wider region. over g fs region >>= closed a g fs 3 wider in
      let step : List (Option Ends) → List Extent → Option LaidText = λ wider region. if same_region l.region region then Some l else again wider region in
      let w = bound (add_all_own a g (head_scope l.skeleton) 0 fs l.skeleton.nests reach) (λ wider. region_of root wider >>= step wider) m b.comes in
      let n = own_found a g (head_scope l.skeleton) 0 d fs l.skeleton.nests reach w.value f w.is there in
      let grown = first_grown reach w.value l m w.is is b.comes in
      let many = (grows_all_own a g (head_scope l.skeleton) 0 fs l.skeleton.nests reach w.value w.is).as_many in
      let more = grown.grown.as_many in
      let long = region_length root grown.wide m.region grown.is in
      let none : 0 + d ≡ d = omega arith in
      let stands : around a g (head_scope l.skeleton) n.0 f d ≡ Some n.2 = ap (around a g (head_scope l.skeleton) n.0 f) (sym none) ∙ n.3 in
      let ends = has l n.0 n.2 w.value reach w.is n.1 stands (omega (arith, less, many, more, long)) (omega (arith, few, many, more, long)) in
      let all = more_ends a n.2 e j w.value grown.wide grown.grown ends in
      record {
        region = l.region;
        skeleton = l.skeleton;
        over = made.1;
        nest = n.0;
        nested = n.1;
        standing = n.2;
        stands = stands;
        ended = record {
          span = all.span;
          bounds = all.bounds;
          ends = all.ends;
          freed = all.freed;
          inside = λ z low high x at_x. region_in root grown.wide m.region grown.is j z x (all.reached z low high) at_x;
        };
      }

  pub first_left : (reach : List (Option Ends)) (m : LaidText) → laid_over a g fs reach ≡ Some m → (d : ℕ) (f : FormulaText) (j : ℕ) (e : Term) → slice_get fs d ≡ Some f →
      slice_get f.at j ≡ Some (Some e) → j < length m.region → length f.at ≤ length m.region → IsFirst m d f j e
  first_left reach m h d f j e there at less few =
      first_by reach m h d f j e there less few
      (λ l n r wide reach added nested stands less few. left_has a g (head_scope l.skeleton) f n r j e at d fs l.skeleton.nests reach wide added there nested stands less few)

  pub first_own : (reach : List (Option Ends)) (m : LaidText) → laid_over a g fs reach ≡ Some m → (d : ℕ) (f : FormulaText) (j : ℕ) (t : Term) → slice_get fs d ≡ Some f →
      (place : ℕ) (c : Written) → slice_get (calls_in f) place ≡ Some c → same_name c.name g.subject.name ≡ true → index_at c.at j ≡ Some t → counts (Some f) j ≡ true →
      j < length m.region → length f.at ≤ length m.region → IsFirst m d f j t
  first_own reach m h d f j t there place c at_c named at_t counted less few =
      first_by reach m h d f j t there less few
      (λ l n r wide reach added nested stands less few.
      own_has a g (head_scope l.skeleton) f n r j t place c at_c named at_t counted d fs l.skeleton.nests reach wide added there nested stands less few)

-- what is told of a stored function is laid over some reach
pub laid_from : (a : Algorithm) (gs : List StoredText) (n : ℕ) (g : StoredText) (fs : List FormulaText) (m : LaidText) → slice_get gs n ≡ Some g → g.formulas ≡ Some fs →
    slice_get (laid_functions a gs) n ≡ Some (Some m) → (reach : List (Option Ends)) × (laid_over a g fs reach ≡ Some m)
laid_from a [] n g fs m at defined laid = absurd (cc at)
laid_from a (s ∷ later) zero g fs m at defined laid =
    let here : laid_within a s later (laid_functions a later) ≡ Some m = same (laid_within a s later (laid_functions a later)) (Some m) laid in
    let of_it : laid_by a g (Some fs) later (laid_functions a later) ≡ Some m =
    ap (λ (o : Option (List FormulaText)). laid_by a g o later (laid_functions a later)) (sym defined) ∙ ap (λ (q : StoredText). laid_within a q later (laid_functions a later)) (sym (same s
    g at)) ∙ here in
    let b = bound (reach_of a g later (laid_functions a later)) (laid_over a g fs) m of_it in
    (b.value, b.comes)
laid_from a (s ∷ later) (suc n) g fs m at defined laid = laid_from a later n g fs m at defined laid
