-- Each point that is fetched is one of the function's region.
use Rattle.std.proofs.Common.{◌≡◌, ℕ, ◌+◌, Bool, true, false, ◌&&◌, List, [], ◌∷◌, ◌++◌, length, Option, Some, None, refl, sym, subst, arith}
use Rattle.std.proofs.lemmas.Int.{ints}
use Rattle.std.proofs.lemmas.List.{get_or_push, length_push}
use Rattle.std.proofs.lemmas.List.Elements.{All-cons, All-nil}
use Rattle.std.specs.List.{All}
use Rattle.std.specs.Prelude.{ℤ, pos, ◌+ℤ◌, ◌-ℤ◌, ◌≤ℤ◌, int_lt, if◌then◌else◌, slice_get}
use Rattle.lin.specs.Forms.{Form, number, value_of}
use Rattle.lin.specs.declared.span.Span1.{Span1}
use Rattle.sched.specs.declared.numbers.Extent.{Extent}
use Rattle.sched.specs.Bounded.{whole}
use Rattle.lin.specs.declared.scope.Binding.{Binding}
use Rattle.plan.specs.declared.stmt.Places.{Places}
use Rattle.plan.specs.declared.stmt.Places.TheVariants.{From}
use Rattle.sched.specs.Standing.{◌>>=◌}
use Rattle.regions.specs.declared.fetching.Part.{Part}
use Rattle.lower.specs.Fetches.{LiesIn, LieIn, Calls, IsTaken}
use Rattle.sched.specs.Taken.{SiteText, shortest, run_of, places_count}
use Rattle.regions.specs.Taken.{is_number, add_symbolic, greatest_from, least_from, cut, is_shown, seated, tight, or_all, part_of, needed_span, taken_region}

-- what holds of all of some forms and one more holds of that one
last_of : (P : Form → Type 0) (xs : List Form) (x : Form) → All P (xs ++ x ∷ []) → P x
last_of P xs x all = subst P (get_or_push xs x x (length xs) refl) (all (length xs) x (omega (arith, length_push xs x)))

-- a span lies between two numbers that are the last of its forms
pub cut_lies : (s : Span1) (e : Extent) (xs ys : List Form) (low high : ℤ) → s.lower ≡ xs ++ number low ∷ [] → s.upper ≡ ys ++ number high ∷ [] → e.low ≤ℤ low
    → high ≤ℤ (e.low +ℤ pos e.count -ℤ pos 1) → LiesIn s (whole e)
cut_lies s e xs ys low high is_lower is_upper from to = λ v z h.
    let lowest : value_of (number low) v ≤ℤ z = last_of (λ f. value_of f v ≤ℤ z) xs (number low) (subst (λ (fs : List Form). All (λ f. value_of f v ≤ℤ z) fs) is_lower h.0) in
    let highest : z ≤ℤ value_of (number high) v = last_of (λ f. z ≤ℤ value_of f v) ys (number high) (subst (λ (fs : List Form). All (λ f. z ≤ℤ value_of f v) fs) is_upper h.1) in (
      All-cons (λ f. value_of f v ≤ℤ z) (number e.low) [] (omega (arith, ints, lowest, from)) (All-nil (λ f. value_of f v ≤ℤ z)),
      All-cons (λ f. z ≤ℤ value_of f v) (number (e.low +ℤ pos e.count -ℤ pos 1)) [] (omega (arith, ints, highest, to)) (All-nil (λ f. z ≤ℤ value_of f v)),
    )

-- ---- the ends of a region

up_by : (b : Bool) (z y : ℤ) → int_lt z y ≡ b → z ≤ℤ (if b then y else z)
up_by true z y e = omega (arith, ints, e)
up_by false z y e = omega (arith, ints)

up_if : (t : Bool) (z y : ℤ) → z ≤ℤ (if t && int_lt z y then y else z)
up_if true z y = up_by (int_lt z y) z y refl
up_if false z y = omega (arith, ints)

down_by : (b : Bool) (z y : ℤ) → int_lt y z ≡ b → (if b then y else z) ≤ℤ z
down_by true z y e = omega (arith, ints, e)
down_by false z y e = omega (arith, ints)

down_if : (t : Bool) (z y : ℤ) → (if t && int_lt y z then y else z) ≤ℤ z
down_if true z y = down_by (int_lt y z) z y refl
down_if false z y = omega (arith, ints)

up_all : (fs : List Form) (z : ℤ) → z ≤ℤ greatest_from fs z
up_all [] z = omega (arith, ints)
up_all (f ∷ fs) z =
    let first = up_if (is_number f) z f.constant in
    let others = up_all fs (if is_number f && int_lt z f.constant then f.constant else z) in
    omega (arith, ints, first, others)

down_all : (fs : List Form) (z : ℤ) → least_from fs z ≤ℤ z
down_all [] z = omega (arith, ints)
down_all (f ∷ fs) z =
    let first = down_if (is_number f) z f.constant in
    let others = down_all fs (if is_number f && int_lt f.constant z then f.constant else z) in
    omega (arith, ints, first, others)

cut_inside : (s : Span1) (e : Extent) → LiesIn (cut s e) (whole e)
cut_inside s e =
    cut_lies (cut s e) e (add_symbolic [] s.lower) (add_symbolic [] s.upper) (greatest_from s.lower e.low) (least_from s.upper (e.low +ℤ pos e.count -ℤ pos 1)) refl refl
    (up_all s.lower e.low) (down_all s.upper (e.low +ℤ pos e.count -ℤ pos 1))

-- ---- what is fetched

-- if there is a part, its numbers are among those of the extent
abbrev Inside : Extent → Option Part → Type 0
Inside e None = Unit {0}
Inside e (Some p) = LiesIn p.span (whole e)

bind_inside : {A : Type 0} (e : Extent) (o : Option A) (f : A → Option Part) → ((a : A) → Inside e (f a)) → Inside e (o >>= f)
bind_inside e None f h = tt
bind_inside e (Some a) f h = h a

if_inside : (e : Extent) (b : Bool) (p : Part) → LiesIn p.span (whole e) → Inside e (if b then Some p else None)
if_inside e true p h = h
if_inside e false p h = tt

or_inside : (e : Extent) (o : Option Part) → Inside e o → LiesIn (or_all e o).span (whole e)
or_inside e None h = λ v z i. i
or_inside e (Some p) h = h

module _ (grid : List Binding) (ss : List SiteText) where
  seated_inside : (d : ℕ) (s : Span1) (e : Extent) → LiesIn s (whole e) → Inside e (seated grid ss d s)
  seated_inside d s e h =
      bind_inside e (shortest grid s) _ (λ b. bind_inside e (slice_get s.lower b.0) _ (λ origin. bind_inside e (run_of origin b.1) _
      (λ seats. if_inside e (is_shown grid ss d s seats) (record { span = s; places = From origin (places_count b.1) }) h)))

  tight_by : (d : ℕ) (e : Extent) (o : Option Span1) → Inside e ((o >>= λ s. Some (cut s e)) >>= seated grid ss d)
  tight_by d e None = tt
  tight_by d e (Some s) = seated_inside d (cut s e) e (cut_inside s e)

  part_inside : (d : ℕ) (e : Extent) → LiesIn (part_of grid ss d e).span (whole e)
  part_inside d e = or_inside e (tight grid ss d e) (tight_by d e (needed_span grid ss d))

  region_inside : (d : ℕ) (es : List Extent) → LieIn (taken_region grid ss d es) es
  region_inside d [] = tt
  region_inside d (e ∷ es) = (part_inside d e, region_inside (d + 1) es)

-- each point that is fetched is one of the function's region
pub taken_lies : (s : Calls) (grid : List Binding) (x : List ℕ) (es : List Extent) (r : List Span1) (ps : List Places) → IsTaken s grid x es r ps → LieIn r es
taken_lies s grid x es r ps t = subst (λ (q : List Span1). LieIn q es) (sym t.region) (region_inside grid t.sites 0 es)
