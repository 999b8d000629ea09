-- From the loops of a function's variables to the law that a skeleton visits the whole region.
use Rattle.std.proofs.Common.{◌≡◌, ℕ, zero, suc, ◌+◌, Bool, true, false, List, [], ◌∷◌, ◌++◌, length, map, slice_get, Option, Some, None, Ok, refl, sym, ap, ◌∙◌, subst, inl, inr, arith, append-nil, length-append}
use Rattle.std.specs.Prelude.{ℤ, pos, ◌≤ℤ◌, if◌then◌else◌}
use Rattle.std.specs.List.{AllByRecursion}
use Rattle.std.proofs.lemmas.Int.{ints}
use Rattle.lin.proofs.TermLemmas.{all_weaker}
use Rattle.meaning.specs.Algorithm.{Range, Change, Function}
use Rattle.meaning.specs.Names.{same_name, is_among, bound}
use Rattle.meaning.proofs.Cases.{name_same, name_differs}
use Rattle.sched.specs.declared.placing.Loop.{Loop}
use Rattle.sched.specs.declared.numbers.Extent.{Extent}
use Rattle.sched.specs.declared.numbers.Numbers.{Numbers}
use Rattle.sched.specs.declared.nest.Turning.{Turning}
use Rattle.sched.specs.Schedule.{DirectiveText}
use Rattle.sched.specs.Placing.{SubjectText, PlacedText, has_double, starting, start, all_in}
use Rattle.sched.specs.Subjects.{range_names, reductions_of}
use Rattle.sched.specs.Numbers.{numbers_found, numbers_named, last_number, whole_numbers, loop_numbers}
use Rattle.sched.specs.Skeleton.{BodyText, SkeletonText, range_turning, change_body, bodies_of, nest_of, skeleton_in}
use Rattle.sched.specs.Visits.{IsInExtents, IsInRanges, VisitsAll, HasOwnNames, SkeletonsVisitTheirRegion}
use Rattle.sched.proofs.Passing.{IsCut}
use Rattle.sched.proofs.Looping.{IsRun}
use Rattle.sched.proofs.Rooting.{all_two, among_left, among_right, among_first, IsAlong, HaveDimensions, IsHeld}
use Rattle.sched.proofs.Visiting.{IsLoopOf, IsLaidOut, Gives, IsNestOf, nest_of_body, nest_visits, IsSkeletonOf, skeleton_parts}
use Rattle.sched.proofs.Numbering.{Found}
use Rattle.sched.proofs.Arranging.{LoopFits, SplitFits, IsArranged, dimensions_on}
use Rattle.sched.proofs.Directing.{or_parts, directives_keep}

-- ---- names that differ

pub differ_all : (x : List ℕ) (xs : List (List ℕ)) → is_among xs x ≡ false → AllByRecursion (λ y. same_name x y ≡ false) xs
differ_all x [] e = tt
differ_all x (y ∷ ys) e =
    let k = or_parts (same_name y x) (is_among ys x) e in
    (name_differs x y (λ same. let clash : true ≡ false = sym (name_same y x (sym same)) ∙ k.0 in cc clash), differ_all x ys k.1)

all_among : (xs : List (List ℕ)) → AllByRecursion (λ x. is_among xs x ≡ true) xs
all_among [] = tt
all_among (x ∷ xs) = (among_first x xs, all_weaker (λ y. is_among xs y ≡ true) (λ y. is_among (x ∷ xs) y ≡ true) (λ y e. among_right (x ∷ []) xs y e) xs (all_among xs))

-- the place of a name among these
place_from : ℕ → List (List ℕ) → List ℕ → ℕ
place_from d [] y = 0
place_from d (x ∷ xs) y = if same_name x y then d else place_from (d + 1) xs y

have_dimensions : (d : ℕ) (xs : List (List ℕ)) → has_double xs ≡ false → HaveDimensions (place_from d xs) d xs
unfolding place_from
have_dimensions d [] e = tt
have_dimensions d (x ∷ xs) e =
    let k = or_parts (is_among xs x) (has_double xs) e in (
      ap (λ (v : Bool). if v then d else place_from (d + 1) xs x) (name_same x x refl),
      dimensions_on (place_from (d + 1) xs) (place_from d (x ∷ xs)) (d + 1) xs
          (all_weaker (λ y. same_name x y ≡ false) (λ y. place_from d (x ∷ xs) y ≡ place_from (d + 1) xs y) (λ y no_same. ap (λ (v : Bool). if v then d else place_from (d + 1) xs y) no_same) xs
          (differ_all x xs k.0))
          (have_dimensions (d + 1) xs k.1),
    )

-- ---- names that stand for numbers

gives_like : (w v : List ℕ → ℤ) (xs : List (List ℕ)) (zs : List ℤ) → AllByRecursion (λ y. w y ≡ v y) xs → Gives v xs zs → Gives w xs zs
gives_like w v [] [] a g = tt
gives_like w v [] (z ∷ zs) a g = g
gives_like w v (x ∷ xs) [] a g = g
gives_like w v (x ∷ xs) (z ∷ zs) a g = (a.0 ∙ g.0, gives_like w v xs zs a.1 g.1)

abbrev chosen : ℤ → List (List ℕ) → List ℤ → List ℕ → Bool → ℤ
chosen z xs zs y v = elim v [ true ↦ z | false ↦ bound xs zs y ]

pub gives_bound : (xs : List (List ℕ)) (zs : List ℤ) → has_double xs ≡ false → length xs ≡ length zs → Gives (bound xs zs) xs zs
gives_bound [] [] e l = tt
gives_bound [] (z ∷ zs) e l = absurd (omega (arith, l))
gives_bound (x ∷ xs) [] e l = absurd (omega (arith, l))
gives_bound (x ∷ xs) (z ∷ zs) e l =
    let k = or_parts (is_among xs x) (has_double xs) e in (
      ap (chosen z xs zs x) (name_same x x refl),
      gives_like (bound (x ∷ xs) (z ∷ zs)) (bound xs zs) xs zs
          (all_weaker (λ y. same_name x y ≡ false) (λ y. bound (x ∷ xs) (z ∷ zs) y ≡ bound xs zs y) (λ y no_same. ap (chosen z xs zs y) no_same) xs (differ_all x xs k.0))
          (gives_bound xs zs k.1 (omega (arith, l))),
    )

gives_parts : (w : List ℕ → ℤ) (xs ys : List (List ℕ)) (zs us : List ℤ) → length xs ≡ length zs → Gives w (xs ++ ys) (zs ++ us) → Gives w xs zs × Gives w ys us
gives_parts w [] ys [] us l g = (tt, g)
gives_parts w [] ys (z ∷ zs) us l g = absurd (omega (arith, l))
gives_parts w (x ∷ xs) ys [] us l g = absurd (omega (arith, l))
gives_parts w (x ∷ xs) ys (z ∷ zs) us l g = let k = gives_parts w xs ys zs us (omega (arith, l)) g.1 in ((g.0, k.0), k.1)

pub extents_long : (es : List Extent) (q : List ℤ) → IsInExtents es q → length es ≡ length q
extents_long [] [] h = refl
extents_long [] (z ∷ zs) h = absurd h
extents_long (e ∷ es) [] h = absurd h
extents_long (e ∷ es) (z ∷ zs) h = ap suc (extents_long es zs h.2)

abbrev names_of : List Turning → List (List ℕ)
names_of ds = map (λ t. t.name) ds

ranges_long : (ds : List Turning) (r : List ℤ) → IsInRanges ds r → length (names_of ds) ≡ length r
ranges_long [] [] h = refl
ranges_long [] (z ∷ zs) h = absurd h
ranges_long (d ∷ ds) [] h = absurd h
ranges_long (d ∷ ds) (z ∷ zs) h = ap suc (ranges_long ds zs h.2)

ranges_run : (w : List ℕ → ℤ) (ds : List Turning) (r : List ℤ) → IsInRanges ds r → Gives w (names_of ds) r → AllByRecursion (IsRun w) ds
ranges_run w [] r h g = tt
ranges_run w (d ∷ ds) [] h g = absurd h
ranges_run w (d ∷ ds) (z ∷ zs) h g = ((subst (λ y. d.low ≤ℤ y) (sym g.0) h.0, subst (λ y. y ≤ℤ d.last) (sym g.0) h.1), ranges_run w ds zs h.2 g.1)

-- ---- before the first directive

-- the variable stands for one of its numbers
record VariableFits (rs : List Numbers) (w : List ℕ → ℤ) (x : List ℕ) : Type 0 where
  low : (numbers_named rs x).low ≤ℤ w x
  last : w x ≤ℤ last_number (numbers_named rs x)
  found : Found rs x

abbrev numbers_or : List ℕ → Option Numbers → Numbers
numbers_or x o = elim o [ Some r ↦ r | None ↦ record { name = x; low = pos 0; count = 0 } ]

fits_on : (r : Numbers) (rs : List Numbers) (w : List ℕ → ℤ) (x : List ℕ) → same_name r.name x ≡ false → VariableFits rs w x → VariableFits (r ∷ rs) w x
fits_on r rs w x e h =
    let same : numbers_found (r ∷ rs) x ≡ numbers_found rs x = ap (λ (v : Bool). if v then Some r else numbers_found rs x) e in
    let named : numbers_named (r ∷ rs) x ≡ numbers_named rs x = ap (numbers_or x) same in
    record {
      low = subst (λ (n : Numbers). n.low ≤ℤ w x) (sym named) h.low;
      last = subst (λ (n : Numbers). w x ≤ℤ last_number n) (sym named) h.last;
      found = (h.found.0, same ∙ h.found.1);
    }

fits_first : (r : Numbers) (rs : List Numbers) (w : List ℕ → ℤ) → r.low ≤ℤ w r.name → w r.name ≤ℤ last_number r → VariableFits (r ∷ rs) w r.name
fits_first r rs w low last =
    let same : numbers_found (r ∷ rs) r.name ≡ Some r = ap (λ (v : Bool). if v then Some r else numbers_found rs r.name) (name_same r.name r.name refl) in
    let named : numbers_named (r ∷ rs) r.name ≡ r = ap (numbers_or r.name) same in
    record {
      low = subst (λ (n : Numbers). n.low ≤ℤ w r.name) (sym named) low;
      last = subst (λ (n : Numbers). w r.name ≤ℤ last_number n) (sym named) last;
      found = (r, same);
    }

variables_fit : (xs : List (List ℕ)) (es : List Extent) (q : List ℤ) (w : List ℕ → ℤ) → has_double xs ≡ false → IsInExtents es q → Gives w xs q →
    AllByRecursion (VariableFits (whole_numbers xs es) w) xs
variables_fit [] es q w d h g = tt
variables_fit (x ∷ xs) es [] w d h g = absurd g
variables_fit (x ∷ xs) [] (z ∷ zs) w d h g = absurd h
variables_fit (x ∷ xs) (e ∷ es) (z ∷ zs) w d h g =
    let k = or_parts (is_among xs x) (has_double xs) d in
    let r : Numbers = record { name = x; low = e.low; count = e.count } in
    let is = g.0 in
    let low = h.0 in
    let high = h.1 in (
      fits_first r (whole_numbers xs es) w (omega (arith, ints, is, low)) (omega (arith, ints, is, high)),
      all_two (λ y. same_name x y ≡ false) (VariableFits (whole_numbers xs es) w) (VariableFits (whole_numbers (x ∷ xs) (e ∷ es)) w) (λ y no_same f. fits_on r (whole_numbers xs es) w y no_same f) xs
          (differ_all x xs k.0) (variables_fit xs es zs w k.1 h.2 g.1),
    )

loops_fit : (rs : List Numbers) (w : List ℕ → ℤ) (dim : List ℕ → ℕ) (used : List (List ℕ)) (d : ℕ) (xs : List (List ℕ)) → HaveDimensions dim d xs → AllByRecursion (VariableFits rs w) xs →
    AllByRecursion (λ x. is_among used x ≡ true) xs →
    AllByRecursion (LoopFits rs w dim used) (starting d xs)
loops_fit rs w dim used d [] h a u = tt
loops_fit rs w dim used d (x ∷ xs) h a u =
    (record { is = record { dimension = sym h.0; low = a.0.low; last = a.0.last }; used_up = u.0; found = a.0.found }, loops_fit rs w dim used (d + 1) xs h.1 a.1 u.1)

start_held : (d : ℕ) (xs : List (List ℕ)) → AllByRecursion (IsHeld (starting d xs) []) xs
start_held d [] = tt
start_held d (x ∷ xs) =
    let one : Loop = record { name = x; dimension = d; within = None; mark = None } in
    (inl (one, inl refl, refl), all_weaker (IsHeld (starting (d + 1) xs) []) (IsHeld (starting d (x ∷ xs)) []) (λ y k. more y k) xs (start_held (d + 1) xs))
  where
    more : (y : List ℕ) → IsHeld (starting (d + 1) xs) [] y → IsHeld (starting d (x ∷ xs)) [] y
    more y (inl k) = inl (k.0, inr k.1, k.2)
    more y (inr k) = absurd k.1

numbers_used : (used : List (List ℕ)) (xs : List (List ℕ)) (es : List Extent) → AllByRecursion (λ x. is_among used x ≡ true) xs →
    AllByRecursion (λ r. is_among used r.name ≡ true) (whole_numbers xs es)
numbers_used used [] es a = tt
numbers_used used (x ∷ xs) [] a = tt
numbers_used used (x ∷ xs) (e ∷ es) a = (a.0, numbers_used used xs es a.1)

-- no numbers of other names
whole_none : (xs : List (List ℕ)) (es : List Extent) (y : List ℕ) → is_among xs y ≡ false → numbers_found (whole_numbers xs es) y ≡ None
whole_none [] es y other = refl
whole_none (x ∷ xs) [] y other = refl
whole_none (x ∷ xs) (e ∷ es) y other =
    let k = or_parts (same_name x y) (is_among xs y) other in
    ap (λ (v : Bool). if v then Some (record { name = x; low = e.low; count = e.count }) else numbers_found (whole_numbers xs es) y) k.0 ∙ whole_none xs es y k.1

pub start_arranged : (xs reductions : List (List ℕ)) (region : List Extent) (q : List ℤ) (w : List ℕ → ℤ) → has_double xs ≡ false → IsInExtents region q → Gives w xs q →
    IsArranged xs (xs ++ reductions) region w (starting 0 xs) [] (xs ++ reductions)
start_arranged xs reductions region q w d h g =
    let used = xs ++ reductions in
    let taken = all_weaker (λ x. is_among xs x ≡ true) (λ x. is_among (xs ++ reductions) x ≡ true) (λ x e. among_left xs reductions x e) xs (all_among xs) in
    let dims = have_dimensions 0 xs d in
    record {
      rs = whole_numbers xs region;
      w = w;
      b = (λ x. pos 0);
      dim = place_from 0 xs;
      numbers = refl;
      loops = loops_fit (whole_numbers xs region) w (place_from 0 xs) used 0 xs dims (variables_fit xs region q w d h g) taken;
      cuts = tt;
      apart = tt;
      gone = tt;
      held = tt;
      variables = start_held 0 xs;
      dimensions = dims;
      kept = (λ y e. refl);
      used_first = (λ y e. e);
      used_numbers = numbers_used used xs region taken;
      used_variables = taken;
      others = (λ y t other. whole_none xs region y other);
    }

-- ---- behind the last directive

laid_out : (xs first : List (List ℕ)) (region : List Extent) (given : List ℕ → ℤ) (p : PlacedText) (h : IsArranged xs first region given p.loops p.cuts p.used) →
    IsLaidOut xs p (loop_numbers xs p.cuts region) h.w h.b h.dim
laid_out xs first region given p h =
    let here : IsLaidOut xs p h.rs h.w h.b h.dim = record {
      cuts = all_weaker (SplitFits h.rs h.w h.b h.dim p.used) (IsCut h.rs h.w h.b) (λ c k. k.cut) p.cuts h.cuts;
      apart = h.apart;
      along = all_weaker (SplitFits h.rs h.w h.b h.dim p.used) (IsAlong h.dim) (λ c k. k.along) p.cuts h.cuts;
      held = h.held;
      variables = h.variables;
      loops = all_weaker (LoopFits h.rs h.w h.dim p.used) (IsLoopOf h.rs h.w h.dim) (λ l k. k.is) p.loops h.loops;
      dimensions = h.dimensions;
    } in
    subst (λ (rs : List Numbers). IsLaidOut xs p rs h.w h.b h.dim) h.numbers here

module _
    (f : SubjectText) (ds : List DirectiveText) (p : PlacedText) (region : List Extent) (bs : List BodyText) (k : SkeletonText)
    (single : has_double f.variables ≡ false) (placed : all_in f ds (start f) ≡ Ok p) (long : length region ≡ length f.variables) (made : skeleton_in f.variables bs p region ≡ Some k)
    (number : ℕ) (body : BodyText) (at : slice_get bs number ≡ Some body)
    (own : has_double (f.variables ++ names_of body.ranges) ≡ false) (among : AllByRecursion (λ x. is_among (f.variables ++ f.reductions) x ≡ true) (names_of body.ranges)) where
  abbrev xs : List (List ℕ)
  xs = f.variables

  whole : IsSkeletonOf f.variables bs p (loop_numbers f.variables p.cuts region) k
  whole = skeleton_parts f.variables bs p region k made

  nest : IsNestOf f.variables p (loop_numbers f.variables p.cuts region) whole.head k.nests number body
  nest = nest_of_body f.variables p (loop_numbers f.variables p.cuts region) whole.head bs whole.head.next k.nests number body whole.nests at (omega arith)

  visits_all : VisitsAll region k body number
  visits_all = record {
    nest = nest_of f.variables body nest.end;
    is = nest.is;
    visits = (λ q r in_region in_ranges.
        let names = f.variables ++ names_of body.ranges in
        let given = bound names (q ++ r) in
        let first = extents_long region q in_region in
        let second = ranges_long body.ranges r in_ranges in
        let same : length names ≡ length (q ++ r) = (let a = length-append f.variables (names_of body.ranges) in let c = length-append q r in omega (arith, a, c, first, second, long)) in
        let parts = gives_parts given f.variables (names_of body.ranges) q r (omega (arith, first, long)) (gives_bound names (q ++ r) own same) in
        let h = directives_keep f (f.variables ++ f.reductions) region given ds (start f) p placed (start_arranged f.variables f.reductions region q given single in_region parts.0) in
        let variables = all_weaker (λ x. is_among f.variables x ≡ true) (λ x. h.w x ≡ given x) (λ x e. h.kept x (among_left f.variables f.reductions x e)) f.variables (all_among f.variables) in
        let ranges = all_weaker (λ x. is_among (f.variables ++ f.reductions) x ≡ true) (λ x. h.w x ≡ given x) h.kept (names_of body.ranges) among in
        let gives = gives_like h.w given f.variables q variables parts.0 in
        let more = gives_like h.w given (names_of body.ranges) r ranges parts.1 in
        nest_visits f.variables p (loop_numbers f.variables p.cuts region) h.w h.b h.dim (laid_out f.variables (f.variables ++ f.reductions) region given p h) whole.head whole.settled
        body k.nests number nest (ranges_run h.w body.ranges r in_ranges more) k q r whole.grid whole.first gives more);
  }

-- ---- definitions

names_are : (ds : List Range) → names_of (map range_turning ds) ≡ range_names ds
names_are [] = refl
names_are (d ∷ ds) = ap (λ (l : List (List ℕ)). d.variable ∷ l) (names_are ds)

-- the definition's reduction variables are the function's own
pub record BodyFits (xs reductions : List (List ℕ)) (b : BodyText) : Type 0 where
  pub own : has_double (xs ++ names_of b.ranges) ≡ false
  pub among : AllByRecursion (λ x. is_among reductions x ≡ true) (names_of b.ranges)

some_body : (a b : BodyText) → Some a ≡ Some b → a ≡ b
some_body a b e = cc

change_fits : (xs : List (List ℕ)) (us : List Change) → AllByRecursion (λ u. has_double (xs ++ range_names u.ranges) ≡ false) us → (n : ℕ) (b : BodyText) →
    slice_get (map (change_body xs) us) n ≡ Some b → BodyFits xs (reductions_of us) b
change_fits xs [] a n b e = absurd (cc e)
change_fits xs (u ∷ us) a zero b e =
    let same = names_are u.ranges in
    subst (BodyFits xs (reductions_of (u ∷ us))) (some_body (change_body xs u) b e)
    (record {
      own = ap (λ (l : List (List ℕ)). has_double (xs ++ l)) same ∙ a.0;
      among = subst (AllByRecursion (λ x. is_among (reductions_of (u ∷ us)) x ≡ true)) (sym same)
          (all_weaker (λ x. is_among (range_names u.ranges) x ≡ true) (λ x. is_among (reductions_of (u ∷ us)) x ≡ true) (λ x h. among_left (range_names u.ranges) (reductions_of us) x h)
          (range_names u.ranges) (all_among (range_names u.ranges)));
    })
change_fits xs (u ∷ us) a (suc n) b e =
    let k = change_fits xs us a.1 n b e in
    record {
      own = k.own;
      among = all_weaker (λ x. is_among (reductions_of us) x ≡ true) (λ x. is_among (reductions_of (u ∷ us)) x ≡ true)
          (λ x h. among_right (range_names u.ranges) (reductions_of us) x h) (names_of b.ranges) k.among;
    }

pub body_fits : (f : Function) → HasOwnNames f → (n : ℕ) (b : BodyText) → slice_get (bodies_of f) n ≡ Some b → BodyFits f.variables (reductions_of f.changes) b
body_fits f h zero b e =
    subst (BodyFits f.variables (reductions_of f.changes)) (some_body (record { missing = []; ranges = [] }) b e)
    (record { own = ap has_double (append-nil f.variables) ∙ h.variables; among = tt })
body_fits f h (suc n) b e = change_fits f.variables f.changes h.reductions n b e

pub visit_their_region : SkeletonsVisitTheirRegion
visit_their_region f subject ds p region k names same placed long made number b at =
    let fit = body_fits f names number b at in
    visits_all subject ds p region (bodies_of f) k (ap has_double same.variables ∙ names.variables) placed (long ∙ sym (ap (λ (l : List (List ℕ)). length l) same.variables))
    (ap (λ (xs : List (List ℕ)). skeleton_in xs (bodies_of f) p region) same.variables ∙ made) number b at
    (ap (λ (xs : List (List ℕ)). has_double (xs ++ names_of b.ranges)) same.variables ∙ fit.own)
    (all_weaker (λ x. is_among (reductions_of f.changes) x ≡ true) (λ x. is_among (subject.variables ++ subject.reductions) x ≡ true)
    (λ x e. among_right subject.variables subject.reductions x (ap (λ (l : List (List ℕ)). is_among l x) same.reductions ∙ e)) (names_of b.ranges) fit.among)
