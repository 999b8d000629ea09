-- An algorithm and a schedule written out, of which the law of all that the checker tells speaks.
use Rattle.std.specs.Prelude.{◌≡◌, ℕ, List, [], ◌∷◌, map, Some, codes, pos, slice_get}
use Rattle.std.specs.List.{AllByRecursion}
use Rattle.numeric.specs.declared.ty.Ty.TheVariants.{U8, I32}
use Rattle.numeric.specs.declared.op.Op.TheVariants.{Add}
use Rattle.tree.specs.Term.{Term, Number, Name, Call, Binary, Clamp, End, More}
use Rattle.meaning.specs.Algorithm.{Change, Function, Algorithm}
use Rattle.sched.specs.declared.schedule.Tail.{Tail}
use Rattle.sched.specs.declared.schedule.Tail.TheVariants.{Guard, Roundup, Shift}
use Rattle.sched.specs.Schedule.{DirectiveText, compute_root, split, reorder, vectorize, parallel, Schedule}
use Rattle.lower.specs.Stored.{stored_functions}
use Rattle.sched.specs.Regions.{LaidText}
use Rattle.regions.specs.Regions.{laid_functions}
use Rattle.blocks.specs.Bodies.{step_lines}
use Rattle.completeness.specs.Fitting.{SplitsOnce}
use Rattle.completeness.specs.OfPlans.{AreFormulasSmall}
use Rattle.completeness.specs.Told.{IsCore}

abbrev x : List ℕ
x = codes "x"

abbrev y : List ℕ
y = codes "y"

abbrev r : List ℕ
r = codes "r"

abbrev over_points : List ℕ → Term → List Change → Function
over_points name value changes = record { name = name; ty = U8; variables = x ∷ y ∷ []; value = value; changes = changes }

abbrev at_point : List ℕ → Term
at_point name = Call name (More (Name x) (More (Name y) End))

abbrev literal : ℕ → Term
literal n = Number I32 (pos n)

-- of each row three numbers, kept within the first six, are one more than the first three
abbrev brighter : Change
brighter = record {
  ranges = record { variable = r; low = pos 0; high = pos 2 } ∷ [];
  at = Clamp (Binary Add (Name r) (literal 4)) (literal 0) (literal 5) ∷ Name y ∷ [];
  value = Binary Add (Call (codes "f") (More (Name r) (More (Name y) End))) (Number U8 (pos 1));
}

abbrev pub reader : Function
reader = over_points (codes "f") (at_point (codes "in")) (brighter ∷ [])

abbrev pub caller : Function
caller = over_points (codes "out") (Binary Add (at_point (codes "f")) (Number U8 (pos 1))) []

-- a function that reads the input and is updated, and an output that calls it, over 8 by 5 points
abbrev pub two_functions : Algorithm
two_functions = record {
  name = codes "lighter";
  input = codes "in";
  input_ty = U8;
  input_extents = 8 ∷ 5 ∷ [];
  functions = reader ∷ caller ∷ [];
  output = codes "out";
  output_extents = 8 ∷ 5 ∷ [];
}

abbrev halved : List ℕ → List ℕ → List ℕ → ℕ → Tail → DirectiveText
halved v outer inner n t = split (record { whole = v; outer = outer; inner = inner; factor = n; tail = t })

-- blocks of two rows whose loop stands outside of that over the blocks, which a guard keeps within the picture, by four numbers, whose loop is vectorised; and a
-- piece for each shifted block of two rows, in shifted blocks of three numbers
abbrev pub both_split : Schedule
both_split =
    record {
      function = codes "f";
      directives =
          compute_root ∷ halved y (codes "yo") (codes "yi") 2 Guard ∷ reorder (codes "yo" ∷ codes "yi" ∷ []) ∷ halved x (codes "xo") (codes "xi") 4 Roundup ∷ vectorize (codes "xi") ∷ [];
    }
    ∷ record {
      function = codes "out";
      directives = halved y (codes "yo") (codes "yi") 2 Shift ∷ parallel (codes "yo") ∷ halved x (codes "xo") (codes "xi") 3 Shift ∷ [];
    } ∷ []

-- it is a core schedule, such as the law asks: with a let over the grid, and before its store the nest of the second has seven lines: three loops with their ends, and the let of
-- a shifted block; those of the first have a guard with its end, and a let behind that, besides four loops, and three in its update
pub record SplitsFill : Type 0 where
  pub core : IsCore two_functions both_split
  pub head : (r : LaidText) → slice_get (laid_functions two_functions (stored_functions two_functions both_split)) 1 ≡ Some (Some r) → step_lines r.skeleton.head ≡ 1
  pub first : (r : LaidText) → slice_get (laid_functions two_functions (stored_functions two_functions both_split)) 0 ≡ Some (Some r) →
      map (λ w. step_lines w.steps) r.skeleton.nests ≡ 11 ∷ 9 ∷ []
  pub second : (r : LaidText) → slice_get (laid_functions two_functions (stored_functions two_functions both_split)) 1 ≡ Some (Some r) →
      map (λ w. step_lines w.steps) r.skeleton.nests ≡ 7 ∷ []

-- shifted blocks of two rows, one to a piece, and blocks of three numbers, whose loop stands outside of that over the blocks: a guard keeps them within the row
abbrev pub shifted_split : Schedule
shifted_split =
    record { function = codes "f"; directives = compute_root ∷ halved y (codes "yo") (codes "yi") 2 Guard ∷ reorder (codes "yo" ∷ codes "yi" ∷ []) ∷ [] }
    ∷ record {
      function = codes "out";
      directives =
          halved y (codes "yo") (codes "yi") 2 Shift ∷ parallel (codes "yo") ∷ halved x (codes "xo") (codes "xi") 3 Guard ∷ reorder (codes "xo" ∷ codes "xi" ∷ []) ∷ [];
    } ∷ []

-- they are such as the law of texts asks, and their definitions are small; the shifted blocks make a let over the grid, and the nest of each of the three
-- definitions has nine lines before its store: three loops with their ends, a guard with its end, and a let behind that
pub record SplitsOnceFill : Type 0 where
  pub once : SplitsOnce two_functions shifted_split
  pub small : AreFormulasSmall two_functions shifted_split
  pub head : (r : LaidText) → slice_get (laid_functions two_functions (stored_functions two_functions shifted_split)) 1 ≡ Some (Some r) → step_lines r.skeleton.head ≡ 1
  pub nests : (n : ℕ) (r : LaidText) → slice_get (laid_functions two_functions (stored_functions two_functions shifted_split)) n ≡ Some (Some r) →
      AllByRecursion (λ w. step_lines w.steps ≡ 9) r.skeleton.nests
