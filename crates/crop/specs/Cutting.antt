-- An algorithm cut to a rectangle of its output.
use Rattle.std.specs.Prelude.{◌≡◌, ℕ, suc, ◌+◌, ℤ, pos, negsuc, ◌-ℤ◌, ◌≤ℤ◌, List, [], ◌∷◌, map, length, true, false, if◌then◌else◌, ◌&&◌, int_le, Option, Some, None, IsSome, MatchOption, unsigned_abs, slice_get}
use Rattle.numeric.specs.declared.ty.Ty.{Ty}
use Rattle.tree.specs.Term.{Term}
use Rattle.std.specs.List.{range_with_len}
use Rattle.meaning.specs.Image.Raster.{natural, sample, sample_count, raster_point}
use Rattle.meaning.specs.Algorithm.{Change, Function, Algorithm}
use Rattle.meaning.specs.Names.{same_name, bound}
use Rattle.lin.specs.declared.span.Span1.{Span1}
use Rattle.crop.specs.declared.cut.Stretch.{Stretch}
use Rattle.bounds.specs.Spans.{numbers, are_of, ends_of}
use Rattle.bounds.specs.declared.ends.Ends.{Ends}
use Rattle.numeric.specs.declared.ty.Ty.TheVariants.{I32}
use Rattle.bounds.specs.Interval.{interval}
use Rattle.crop.specs.Inference.Needed.{callable_before, callable_through, with_domain, names_beside, needed}
use Rattle.crop.specs.Moving.{Move, moved, moved_point, against}

-- what is kept of a function: the points that are asked for, and the origin to which it is moved
pub record Kept : Type 0 where
  pub region : List Stretch
  pub origin : List ℤ

-- what is kept of each function, in their order; the points of the input that are asked for, and the part of the input that
-- is read; the rectangle of the output
pub record Cut : Type 0 where
  pub kept : List (Option Kept)
  pub asked : List Stretch
  pub part : List Stretch
  pub tile : List Stretch

abbrev pub lows : List Stretch → List ℤ
lows = map (λ e. e.low)

-- how many numbers lie between the ends
abbrev pub extent_of : Stretch → ℕ
extent_of e = unsigned_abs (e.high -ℤ e.low) + 1

abbrev pub extents_of : List Stretch → List ℕ
extents_of = map extent_of

abbrev pub spans_of : List Stretch → List Span1
spans_of = map (λ e. numbers e.low e.high)

-- what is kept of the function of a name
abbrev pub kept_named : List Function → List (Option Kept) → List ℕ → Option Kept
kept_named (f ∷ fs) (kept ∷ rest) name = elim (same_name f.name name) [ true ↦ kept | false ↦ kept_named fs rest name ]
kept_named _ _ name = None

abbrev pub origin_of : Option Kept → List ℤ
origin_of None = []
origin_of (Some kept) = kept.origin

abbrev pub region_of : Option Kept → Option (List Stretch)
region_of None = None
region_of (Some kept) = Some kept.region

-- ends that are numbers of i32
abbrev pub small_ends : Option Ends → Option Stretch
small_ends None = None
small_ends (Some r) = if are_of I32 r && int_le r.low r.high then Some (record { low = r.low; high = r.high }) else None

module _ (a : Algorithm) (cut : Cut) where
  -- the origin of what is called by a name, and the points at which it is asked for
  abbrev pub origin_named : List ℕ → List ℤ
  origin_named name = elim (same_name a.input name) [ true ↦ lows cut.part | false ↦ origin_of (kept_named a.functions cut.kept name) ]

  abbrev pub region_named : List ℕ → Option (List Stretch)
  region_named name = elim (same_name a.input name) [ true ↦ Some cut.asked | false ↦ region_of (kept_named a.functions cut.kept name) ]

  -- the ends between which the value of an expression lies at the points of a region
  abbrev pub ends_in : (List ℕ → Option (Ty × ℕ)) → List (List ℕ) → List Span1 → Term → Option Stretch
  ends_in functions names region e = elim (interval [] functions names region e) [ Some s ↦ small_ends (ends_of [] s) | None ↦ None ]

  -- the move of a definition
  abbrev pub move_over : (List ℕ → Option (Ty × ℕ)) → List (List ℕ) → List ℤ → List (List ℕ) → List Span1 → Move
  move_over functions variables origin names region = record {
    variables = bound variables origin;
    origins = origin_named;
    functions = functions;
    ends = ends_in functions names region;
  }

  abbrev pub pure_move : ℕ → Function → Kept → Move
  pure_move k f kept = move_over (callable_before a k) f.variables kept.origin f.variables (spans_of kept.region)

  abbrev pub left_move : ℕ → Function → Kept → Change → Move
  left_move k f kept u = move_over (callable_before a k) f.variables kept.origin (names_beside f.variables u.ranges) (with_domain (spans_of kept.region) u.ranges)

  abbrev pub right_move : ℕ → Function → Kept → Change → Move
  right_move k f kept u = move_over (callable_through a k) f.variables kept.origin (names_beside f.variables u.ranges) (with_domain (spans_of kept.region) u.ranges)

  -- the indices of an update's left side, each less the coordinate of the origin: a variable alone stays
  abbrev pub lefts_moved : Move → List ℤ → List Term → List Term
  lefts_moved m _ [] = []
  lefts_moved m [] (e ∷ es) = moved m (pos 0) e ∷ lefts_moved m [] es
  lefts_moved m (o ∷ os) (e ∷ es) = moved m (against o) e ∷ lefts_moved m os es

  abbrev pub change_cut : ℕ → Function → Kept → Change → Change
  change_cut k f kept u = record {
    ranges = u.ranges;
    at = lefts_moved (left_move k f kept u) kept.origin u.at;
    value = moved (right_move k f kept u) (pos 0) u.value;
  }

  -- the k-th function
  abbrev pub function_cut : ℕ → Function → Kept → Function
  function_cut k f kept = record {
    name = f.name;
    ty = f.ty;
    variables = f.variables;
    value = moved (pure_move k f kept) (pos 0) f.value;
    changes = map (change_cut k f kept) f.changes;
  }

  abbrev pub with_kept : ℕ → Function → Option Kept → List Function → List Function
  with_kept k f None fs = fs
  with_kept k f (Some kept) fs = function_cut k f kept ∷ fs

  -- those from the k-th on that are kept
  abbrev pub functions_cut : ℕ → List Function → List (Option Kept) → List Function
  functions_cut k (f ∷ fs) (kept ∷ rest) = with_kept k f kept (functions_cut (suc k) fs rest)
  functions_cut k _ _ = []

  -- the algorithm of the tile
  abbrev pub algorithm_cut : Algorithm
  algorithm_cut = record {
    name = a.name;
    input = a.input;
    input_ty = a.input_ty;
    input_extents = extents_of cut.part;
    functions = functions_cut 0 a.functions cut.kept;
    output = a.output;
    output_extents = extents_of cut.tile;
  }

-- the samples of a part of an image, in raster order
abbrev pub cut_samples : List ℕ → List ℕ → List Stretch → List ℕ
cut_samples extents samples part =
    map (λ n. natural (sample extents samples (moved_point (lows part) (raster_point (extents_of part) n)))) (range_with_len 0 (sample_count (extents_of part)))

-- the point lies in the box
abbrev pub IsInBox : List Stretch → List ℤ → Type 0
IsInBox [] [] = Unit {0}
IsInBox (e ∷ es) (z ∷ zs) = (e.low ≤ℤ z) × (z ≤ℤ e.high) × IsInBox es zs
IsInBox _ _ = ⊥

-- the point is asked for: it lies in the box, if there is one
abbrev pub InsideIf : Option (List Stretch) → List ℤ → Type 0
InsideIf None p = ⊥
InsideIf (Some b) p = IsInBox b p

-- each span's constant ends lie in the box
abbrev pub HoldsSpan : Stretch → Option Ends → Type 0
HoldsSpan e None = ⊥
HoldsSpan e (Some r) = (e.low ≤ℤ r.low) × (r.high ≤ℤ e.high)

abbrev pub HoldsSpans : List Stretch → List Span1 → Type 0
HoldsSpans [] [] = Unit {0}
HoldsSpans (e ∷ es) (s ∷ ss) = HoldsSpan e (ends_of [] s) × HoldsSpans es ss
HoldsSpans _ _ = ⊥

-- a region that is needed is none, or lies in the box
abbrev pub IsCovered : Option (List Stretch) → Option (List Span1) → Type 0
IsCovered box None = ⊥
IsCovered box (Some []) = Unit {0}
IsCovered None (Some (s ∷ ss)) = ⊥
IsCovered (Some es) (Some (s ∷ ss)) = HoldsSpans es (s ∷ ss)

-- the regions are closed: what a function that is kept needs of another, of itself or of the input lies in the other's region
pub record IsClosedAt (a : Algorithm) (cut : Cut) (k : ℕ) (f : Function) (kept : Kept) : Type 0 where
  pub rank : length kept.region ≡ length f.variables
  pub covers : (name : List ℕ) → IsSome (callable_through a k name) → IsCovered (region_named a cut name) (needed [] a k name (spans_of kept.region))

-- the part of the input in one dimension: what is asked for cut to the extent, and where nothing is left the first cell
pub record IsPart (extent : ℕ) (asked part : Stretch) : Type 0 where
  pub from : pos 0 ≤ℤ part.low
  pub rises : part.low ≤ℤ part.high
  pub to : part.high ≤ℤ (pos extent -ℤ pos 1)
  pub holds : (z : ℤ) → asked.low ≤ℤ z → z ≤ℤ asked.high → pos 0 ≤ℤ z → z ≤ℤ (pos extent -ℤ pos 1) → (part.low ≤ℤ z) × (z ≤ℤ part.high)
  -- points before the input are asked for only where the part begins with it
  pub first : asked.low ≤ℤ negsuc 0 → part.low ≡ pos 0

abbrev pub AreParts : List ℕ → List Stretch → List Stretch → Type 0
AreParts [] [] [] = Unit {0}
AreParts (n ∷ ns) (x ∷ xs) (p ∷ ps) = IsPart n x p × AreParts ns xs ps
AreParts _ _ _ = ⊥

-- a rectangle of the output in one dimension
pub record IsTile (extent : ℕ) (tile : Stretch) : Type 0 where
  pub from : pos 0 ≤ℤ tile.low
  pub rises : tile.low ≤ℤ tile.high
  pub to : tile.high ≤ℤ (pos extent -ℤ pos 1)

abbrev pub AreTiles : List ℕ → List Stretch → Type 0
AreTiles [] [] = Unit {0}
AreTiles (n ∷ ns) (t ∷ ts) = IsTile n t × AreTiles ns ts
AreTiles _ _ = ⊥

-- one box lies in another
abbrev pub HoldsBox : List Stretch → List Stretch → Type 0
HoldsBox [] [] = Unit {0}
HoldsBox (e ∷ es) (t ∷ ts) = (e.low ≤ℤ t.low) × (t.high ≤ℤ e.high) × HoldsBox es ts
HoldsBox _ _ = ⊥

-- the output is kept: its origin is the tile's first point, and all of the tile is asked for
pub record KeepsTile (tile : List Stretch) (kept : Kept) : Type 0 where
  pub origin : kept.origin ≡ lows tile
  pub holds : HoldsBox kept.region tile

-- what a cut has to be
pub record IsCut (a : Algorithm) (cut : Cut) : Type 0 where
  pub each : length cut.kept ≡ length a.functions
  pub output : MatchOption (kept_named a.functions cut.kept a.output) ⊥ (KeepsTile cut.tile)
  pub tile : AreTiles a.output_extents cut.tile
  pub closed : (k : ℕ) (f : Function) (kept : Kept) → slice_get a.functions k ≡ Some f → slice_get cut.kept k ≡ Some (Some kept) → IsClosedAt a cut k f kept
  pub parts : AreParts a.input_extents cut.asked cut.part
