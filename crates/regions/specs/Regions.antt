-- The region that is needed of a stored function: the hull of what the definitions of the others call of it, of the output its extents
-- too, and of what its own updates set and call.
-- What crates below need of it stands there: `sched`.
use Rattle.std.specs.Prelude.{ℕ, zero, suc, ◌+◌, ◌==◌, ℤ, pos, negsuc, ◌+ℤ◌, ◌-ℤ◌, int_le, Bool, true, false, ◌&&◌, if◌then◌else◌, List, [], ◌∷◌, length, drop, replicate, nat_lt}
use Rattle.std.specs.Prelude.{nat_le, get_or, slice_set, Option, Some, None}
use Rattle.std.specs.Ordering.{int_eq}
use Rattle.tree.specs.Term.{Term, Terms, End, More}
use Rattle.lin.specs.Forms.{Form}
use Rattle.lin.specs.declared.scope.Binding.{Binding}
use Rattle.lin.specs.declared.span.Span1.{Span1}
use Rattle.bounds.specs.Projection.Projection.{projected_span}
use Rattle.plan.specs.declared.stmt.Kind.TheVariants.{Serial}
use Rattle.meaning.specs.Algorithm.{Range, Change, Algorithm}
use Rattle.meaning.specs.Names.{same_name}
use Rattle.algo.specs.Scoping.Standing.{Written}
use Rattle.sched.specs.declared.numbers.Extent.{Extent}
use Rattle.sched.specs.declared.nest.Turning.{Turning}
use Rattle.sched.specs.Skeleton.{BodyText, NestText, SkeletonText, skeleton_in}
use Rattle.regions.specs.declared.regions.Ends.{Ends}
use Rattle.sched.specs.Standing.{◌>>=◌}
use Rattle.sched.specs.Stored.{FormulaText, StoredText, calls_in, are_calls_of}
use Rattle.regions.specs.Stored.{some_calls}
use Rattle.sched.specs.Around.{AroundText, interval_in, head_scope, ranges_of, around}
use Rattle.sched.specs.Regions.{symbols_from, counts, count_of, LaidText}

-- ---- the ends of a span over all values of the symbols

-- the number that a form is, if it has no symbol
abbrev pub number_of : Form → Option ℤ
number_of f = elim f.terms [ [] ↦ Some f.constant | t ∷ ts ↦ None ]

abbrev pub greater : Option ℤ → Option ℤ → Option ℤ
greater None o = o
greater (Some a) None = Some a
greater (Some a) (Some b) = if int_le b a then Some a else Some b

abbrev pub less : Option ℤ → Option ℤ → Option ℤ
less None o = o
less (Some a) None = Some a
less (Some a) (Some b) = if int_le a b then Some a else Some b

abbrev pub greatest_number : List Form → Option ℤ
greatest_number [] = None
greatest_number (f ∷ fs) = greater (number_of f) (greatest_number fs)

abbrev pub least_number : List Form → Option ℤ
least_number [] = None
least_number (f ∷ fs) = less (number_of f) (least_number fs)

abbrev pub ends_between : Option ℤ → Option ℤ → Option Ends
ends_between (Some low) (Some high) = Some (record { low = low; high = high })
ends_between _ _ = None

-- the largest lower and the smallest upper number, once the span is freed of all symbols
abbrev pub ends_of : List Binding → Span1 → Option Ends
ends_of scope s = projected_span scope (symbols_from 0 (length scope)) s >>= λ p. ends_between (greatest_number p.lower) (least_number p.upper)

-- ---- the hull

abbrev pub lower_end : ℤ → ℤ → ℤ
lower_end a b = if int_le a b then a else b

abbrev pub upper_end : ℤ → ℤ → ℤ
upper_end a b = if int_le b a then a else b

abbrev pub hull : Option Ends → Ends → Ends
hull None e = e
hull (Some k) e = record { low = lower_end k.low e.low; high = upper_end k.high e.high }

-- the ends of each place, those of one place hulled with others
abbrev pub widen : List (Option Ends) → ℕ → Ends → List (Option Ends)
widen reach d e = if nat_lt d (length reach) then slice_set reach d (Some (hull (get_or reach d None) e)) else reach

-- ---- what definitions call

module _ (a : Algorithm) (r : AroundText) where
  abbrev pub add_index : ℕ → Term → List (Option Ends) → Option (List (Option Ends))
  add_index d e reach = interval_in a r e >>= λ s. ends_of r.scope s >>= λ ends. Some (widen reach d ends)

  abbrev pub add_counted : Option FormulaText → ℕ → Term → List (Option Ends) → Option (List (Option Ends))
  add_counted own d e reach = if counts own d then add_index d e reach else Some reach

  -- the indices of a call, from this place on
  abbrev pub add_call : Option FormulaText → ℕ → Terms → List (Option Ends) → Option (List (Option Ends))
  add_call own d End reach = Some reach
  add_call own d (More e es) reach = add_counted own d e reach >>= add_call own (d + 1) es

  -- those of the calls that are of the function of this name
  abbrev pub add_calls : Option FormulaText → List ℕ → List Written → List (Option Ends) → Option (List (Option Ends))
  add_calls own x [] reach = Some reach
  add_calls own x (c ∷ cs) reach = (if same_name c.name x then add_call own 0 c.at reach else Some reach) >>= add_calls own x cs

  abbrev pub add_place : ℕ → Option Term → List (Option Ends) → Option (List (Option Ends))
  add_place d None reach = Some reach
  add_place d (Some e) reach = add_index d e reach

  -- the left indices, from this place on
  abbrev pub add_left : ℕ → List (Option Term) → List (Option Ends) → Option (List (Option Ends))
  add_left d [] reach = Some reach
  add_left d (o ∷ os) reach = add_place d o reach >>= add_left (d + 1) os

module _ (a : Algorithm) (g : StoredText) (outer : List Binding) where
  -- what the definition of this number calls of a function
  abbrev pub add_definition : List ℕ → ℕ → FormulaText → NestText → List (Option Ends) → Option (List (Option Ends))
  add_definition x d f n reach =
      if are_calls_of x (calls_in f) then (around a g outer n f d >>= λ r. add_calls a r None x (calls_in f) reach) else Some reach

  -- those from this number on; each has a nest
  abbrev pub add_definitions : List ℕ → ℕ → List FormulaText → List NestText → List (Option Ends) → Option (List (Option Ends))
  add_definitions x d [] ns reach = Some reach
  add_definitions x d (f ∷ fs) [] reach = None
  add_definitions x d (f ∷ fs) (n ∷ ns) reach = add_definition x d f n reach >>= add_definitions x (d + 1) fs ns

  -- what a definition sets by left indices, and calls of its own function where its left index is not the variable
  abbrev pub add_own : ℕ → FormulaText → NestText → List (Option Ends) → Option (List (Option Ends))
  add_own d f n reach = around a g outer n f d >>= λ r. add_left a r 0 f.at reach >>= add_calls a r (Some f) g.subject.name (calls_in f)

  abbrev pub add_all_own : ℕ → List FormulaText → List NestText → List (Option Ends) → Option (List (Option Ends))
  add_all_own d [] ns reach = Some reach
  add_all_own d (f ∷ fs) [] reach = None
  add_all_own d (f ∷ fs) (n ∷ ns) reach = add_own d f n reach >>= add_all_own (d + 1) fs ns

abbrev pub is_i32 : ℤ → Bool
is_i32 z = int_le (negsuc 2147483647) z && int_le z (pos 2147483647)

-- the ends are i32, in their order and no farther apart than any may be
abbrev pub are_within : Ends → Bool
are_within e = (is_i32 e.low && is_i32 e.high) && (int_le e.low e.high && int_le (e.high -ℤ e.low) (pos 2147483647))

abbrev pub extent_between : Ends → Option Extent
extent_between e = if are_within e then Some (record { low = e.low; count = count_of (e.high -ℤ e.low +ℤ pos 1) }) else None

-- a root function has 1 to 8192 numbers in a dimension; what is told here of a function that is computed inside a loop is what all turns need together, of which each
-- alone is held to that limit
abbrev pub may_have : Bool → ℕ → Bool
may_have is_root n = if is_root then nat_le n 8192 else true

abbrev pub extent_of : Bool → Option Ends → Option Extent
extent_of is_root o = o >>= extent_between >>= λ x. if may_have is_root x.count then Some x else None

abbrev pub region_of : Bool → List (Option Ends) → Option (List Extent)
region_of is_root [] = Some []
region_of is_root (o ∷ os) = extent_of is_root o >>= λ x. region_of is_root os >>= λ xs. Some (x ∷ xs)

-- ---- the loops over a region

-- the places from this one on at which a left index is not the variable
abbrev pub missing_from : ℕ → List (Option Term) → List ℕ
missing_from d [] = []
missing_from d (o ∷ os) = elim o [ Some e ↦ d ∷ missing_from (d + 1) os | None ↦ missing_from (d + 1) os ]

-- the loop of a reduction variable, by this name
abbrev pub turning : Range → List ℕ → Turning
turning r x = record { name = x; low = r.low; last = r.high; kind = Serial }

-- the loops of reduction variables, by these names
abbrev pub turnings : List Range → List (List ℕ) → List Turning
turnings [] xs = []
turnings (r ∷ rs) [] = []
turnings (r ∷ rs) (x ∷ xs) = turning r x ∷ turnings rs xs

abbrev pub body_by : List Range → List (List ℕ) → FormulaText → BodyText
body_by rs xs f = record { missing = missing_from 0 f.at; ranges = turnings rs xs }

-- of the definitions from this number on, whose reduction variables have the next of these names
abbrev pub bodies_from : List Change → ℕ → List (List ℕ) → List FormulaText → List BodyText
bodies_from us d xs [] = []
bodies_from us d xs (f ∷ fs) = body_by (ranges_of us d) xs f ∷ bodies_from us (d + 1) (drop (length (ranges_of us d)) xs) fs

abbrev pub skeleton_of : StoredText → List FormulaText → List Extent → Option SkeletonText
skeleton_of g fs region = skeleton_in g.subject.variables (bodies_from g.changes 0 g.subject.reductions fs) g.placed region

abbrev pub same_extent : Extent → Extent → Bool
same_extent x y = int_eq x.low y.low && x.count == y.count

abbrev pub same_region : List Extent → List Extent → Bool
same_region (x ∷ xs) (y ∷ ys) = same_extent x y && same_region xs ys
same_region _ _ = true

abbrev pub over : StoredText → List FormulaText → List Extent → Option LaidText
over g fs region = skeleton_of g fs region >>= λ s. Some (record { region = region; skeleton = s })

module _ (a : Algorithm) (g : StoredText) (fs : List FormulaText) where
  -- with what its own updates set and call, asked again for so many rounds while it grows
  abbrev pub closed : ℕ → List (Option Ends) → LaidText → Option LaidText
  closed zero reach l = Some l
  closed (suc k) reach l =
      add_all_own a g (head_scope l.skeleton) 0 fs l.skeleton.nests reach >>= λ wider. region_of g.subject.is_root wider >>= λ region.
      if same_region l.region region then Some l else over g fs region >>= closed k wider

  abbrev pub laid_over : List (Option Ends) → Option LaidText
  laid_over reach = region_of g.subject.is_root reach >>= over g fs >>= closed 4 reach

-- ---- what the others need

-- what a stored function that has definitions and this region calls of another; None where it calls that one and has no region
abbrev pub add_laid : Algorithm → List ℕ → StoredText → List FormulaText → Option LaidText → List (Option Ends) → Option (List (Option Ends))
add_laid a x g fs None reach = None
add_laid a x g fs (Some l) reach = add_definitions a g (head_scope l.skeleton) x 0 fs l.skeleton.nests reach

abbrev pub add_formulas : Algorithm → List ℕ → StoredText → Option (List FormulaText) → Option LaidText → List (Option Ends) → Option (List (Option Ends))
add_formulas a x g None l reach = Some reach
add_formulas a x g (Some fs) l reach = if some_calls x fs then add_laid a x g fs l reach else Some reach

abbrev pub add_user : Algorithm → List ℕ → StoredText → Option LaidText → List (Option Ends) → Option (List (Option Ends))
add_user a x g l reach = add_formulas a x g g.formulas l reach

-- the functions that are declared later, with their regions
abbrev pub add_users : Algorithm → List ℕ → List StoredText → List (Option LaidText) → List (Option Ends) → Option (List (Option Ends))
add_users a x (g ∷ gs) (l ∷ ls) reach = add_user a x g l reach >>= add_users a x gs ls
add_users a x _ _ reach = Some reach

-- from 0 to each extent less 1, from this place on
abbrev pub add_extents : ℕ → List ℕ → List (Option Ends) → List (Option Ends)
add_extents d [] reach = reach
add_extents d (n ∷ ns) reach = add_extents (d + 1) ns (widen reach d (record { low = pos 0; high = pos n -ℤ pos 1 }))

abbrev pub add_output : Algorithm → Bool → List (Option Ends) → List (Option Ends)
add_output a false reach = reach
add_output a true reach = add_extents 0 a.output_extents reach

abbrev pub unreached : ℕ → List (Option Ends)
unreached n = replicate n None

abbrev pub reach_of : Algorithm → StoredText → List StoredText → List (Option LaidText) → Option (List (Option Ends))
reach_of a g later found =
    add_users a g.subject.name later found (unreached (length g.subject.variables)) >>= λ reach. Some (add_output a g.subject.is_output reach)

abbrev pub laid_by : Algorithm → StoredText → Option (List FormulaText) → List StoredText → List (Option LaidText) → Option LaidText
laid_by a g None later found = None
laid_by a g (Some fs) later found = reach_of a g later found >>= laid_over a g fs

-- the region that is needed of a function, with the loops over it, where those of the later ones are these; None where no region within
-- the limits is found
abbrev pub laid_within : Algorithm → StoredText → List StoredText → List (Option LaidText) → Option LaidText
laid_within a g later found = laid_by a g g.formulas later found

-- of all of them, in the order of declaration
abbrev pub laid_functions : Algorithm → List StoredText → List (Option LaidText)
laid_functions a [] = []
laid_functions a (g ∷ later) = let found = laid_functions a later in laid_within a g later found ∷ found
