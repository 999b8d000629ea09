-- How long the lines of plans and certificates are.
use Rattle.std.proofs.Common.{◌≡◌, ℕ, ◌+◌, ◌*◌, ◌<◌, ◌≤◌, ◌^◌, Bool, true, false, ◌&&◌, List, [], ◌∷◌, ◌++◌, length, length-append, refl, arith}
use Rattle.std.specs.Prelude.{nat_lt, nat_le}
use Rattle.std.specs.List.{AllByRecursion, flat_map, list_all}
use Rattle.std.proofs.lemmas.Bool.Decides.{nat_tests}
use Rattle.numeric.specs.declared.ty.Ty.{Ty}
use Rattle.numeric.specs.declared.ty.Ty.TheVariants.{U8, U16, U32, I8, I16, I32}
use Rattle.tree.specs.Token.Spelling.{type_text}
use Rattle.lin.specs.Forms.{is_within_limits}
use Rattle.plan.specs.declared.stmt.Kind.{Kind}
use Rattle.plan.specs.declared.stmt.Kind.TheVariants.{Serial, Unroll, Vector}
use Rattle.plan.specs.declared.stmt.Pick.{Pick}
use Rattle.plan.specs.declared.stmt.Pick.TheVariants.{Min, Max}
use Rattle.plan.specs.declared.stmt.Places.{Places}
use Rattle.plan.specs.declared.stmt.Places.TheVariants.{From, Folded}
use Rattle.plan.specs.Plan.{Index, At, Found, Coordinate, Declaration}
use Rattle.algo.specs.Written.{IsWrittenBy}
use Rattle.spelling.specs.Words.Fitting.{is_name}
use Rattle.spelling.specs.Sizes.Sizes.{fits_size}
use Rattle.spelling.specs.Words.Spelling.{count_text, symbol_text, separated_text, form_text, forms_text, span_text, region_text, counts_text}
use Rattle.spelling.specs.Terms.Spelling.{term_text}
use Rattle.nest.specs.Blocks.Line.{Line, PlanLine, InputLine, OutputLine, GroupLine, ForLine, LetLine, FirstLine, ElseLine, GuardLine, EndLine, AllocLine, FetchLine, StoreLine, PublishLine}
use Rattle.nest.specs.Fitting.{fits_place, fits_index, fits_coordinate, fits_line}
use Rattle.nest.specs.Spelling.{kind_text, pick_text, declaration_text, place_text, places_text, index_text, coordinate_text, spaced_coordinate, input_text, output_text}
use Rattle.nest.specs.Spelling.{group_text, for_text, let_text, guard_text, alloc_text, fetch_text, store_text, line_text}
use Rattle.completeness.specs.OfPlans.{index_nodes, found_nodes, store_nodes}
use Rattle.completeness.proofs.TextLengths.{size_long, form_long, bracketed_long, AreNear, forms_long, IsNearSpan, span_long, region_long, sizes_long, counts_long, term_long}

both : (a b : Bool) → (a && b) ≡ true → (a ≡ true) × (b ≡ true)
both true b h = (refl, h)
both false b h = absurd (cc h)

at_most_so : (m n : ℕ) → nat_le m n ≡ true → m ≤ n
at_most_so m n h = grind (arith, nat_tests, h)

less_so : (m n : ℕ) → nat_lt m n ≡ true → m < n
less_so m n h = grind (arith, nat_tests, h)

less : (m n : ℕ) → m < n → nat_lt m n ≡ true
less m n h = grind (arith, nat_tests)

-- ---- words

pub name_long : (x : List ℕ) → is_name x ≡ true → length x ≤ 16
name_long x h = at_most_so (length x) 16 (both _ _ (both _ _ (both _ _ (both _ _ h).0).0).0).1

kind_long : (k : Kind) → length (kind_text k) ≤ 6
kind_long Serial = omega arith
kind_long Unroll = omega arith
kind_long Vector = omega arith

pick_long : (p : Pick) → length (pick_text p) ≤ 3
pick_long Min = omega arith
pick_long Max = omega arith

type_long : (t : Ty) → length (type_text t) ≤ 3
type_long U8 = omega arith
type_long U16 = omega arith
type_long U32 = omega arith
type_long I8 = omega arith
type_long I16 = omega arith
type_long I32 = omega arith

declaration_long : (d : Declaration) → (is_name d.name && list_all fits_size d.extents) ≡ true → length d.extents ≤ 3 → length (declaration_text d) ≤ 100
unfolding declaration_text
declaration_long d fits few =
    let f = both _ _ fits in
    let name = name_long d.name f.0 in
    let type = type_long d.ty in
    let extents = counts_long d.extents f.1 in
    let right = length-append (type_text d.ty) (32 ∷ counts_text d.extents) in
    let all = length-append d.name (32 ∷ (type_text d.ty ++ (32 ∷ counts_text d.extents))) in
    omega (arith, few, name, type, extents, right, all)

-- ---- places

abbrev pub IsNearPlace : Places → Type 0
IsNearPlace (From f n) = is_within_limits f ≡ true
IsNearPlace (Folded n) = Unit {0}

place_long : (p : Places) → fits_place p ≡ true → IsNearPlace p → length (place_text p) ≤ 266
unfolding place_text
place_long (From f n) fits near =
    let g = both _ _ fits in
    let form = form_long f g.0 near in
    let count = size_long n g.1 in
    let all = length-append (form_text f) (35 ∷ count_text n) in
    omega (arith, form, count, all)
place_long (Folded n) fits near = (let count = size_long n fits in omega (arith, count))

places_long : (ps : List Places) → list_all fits_place ps ≡ true → AllByRecursion IsNearPlace ps → length ps ≤ 3 → length (places_text ps) ≤ 1000
unfolding places_text
places_long ps fits near few =
    let all = bracketed_long 59 266 place_text ps (each ps fits near) in
    omega (arith, few, all)
  where
    each : (qs : List Places) → list_all fits_place qs ≡ true → AllByRecursion IsNearPlace qs → AllByRecursion (λ p. length (place_text p) ≤ 266) qs
    each [] h k = tt
    each (q ∷ qs) h k = (let a = both _ _ h in (place_long q a.0 k.0, each qs a.1 k.1))

-- ---- stores

module _ (IsCalled : List ℕ → Type 0) (short : (x : List ℕ) → IsCalled x → length x ≤ 16) where
  abbrev pub IsNearIndex : Index → Type 0
  IsNearIndex (At form) = is_within_limits form ≡ true
  IsNearIndex (Found e) = IsWrittenBy IsCalled e

  index_long : (i : Index) → fits_index i ≡ true → IsNearIndex i → length (index_text i) ≤ 247 + 18 * index_nodes i
  unfolding index_text
  index_long (At form) fits near = (let form = form_long form fits near in omega (arith, form))
  index_long (Found e) fits near = (let term = term_long IsCalled short e near in omega (arith, term))

  coordinates_long : (cs : List Coordinate) → list_all fits_coordinate cs ≡ true → AllByRecursion (λ c. IsNearIndex c.index) cs →
      length (flat_map spaced_coordinate cs) ≤ 264 * length cs + 18 * found_nodes cs
  unfolding coordinate_text
  coordinates_long [] fits near = omega arith
  coordinates_long (c ∷ cs) fits near =
      let f = both _ _ fits in
      let g = both _ _ f.0 in
      let name = name_long c.variable g.0 in
      let index = index_long c.index g.1 near.0 in
      let rest = coordinates_long cs f.1 near.1 in
      let own = length-append c.variable (index_text c.index) in
      let spaced = length-append (c.variable ++ index_text c.index) (32 ∷ []) in
      let all = length-append ((c.variable ++ index_text c.index) ++ 32 ∷ []) (flat_map spaced_coordinate cs) in
      omega (arith, name, index, rest, own, spaced, all)

  -- ---- lines of plans

  -- forms within the limits of forms, few spans, and few nodes
  abbrev pub IsSlim : Line → Type 0
  IsSlim (InputLine d) = length d.extents ≤ 3
  IsSlim (OutputLine d) = length d.extents ≤ 3
  IsSlim (GroupLine n f region grid) = AllByRecursion IsNearSpan region × (length region ≤ 3) × (length grid ≤ 10)
  IsSlim (ForLine i span k) = IsNearSpan span
  IsSlim (LetLine i p forms) = AreNear forms
  IsSlim (GuardLine low high) = (is_within_limits low ≡ true) × (is_within_limits high ≡ true)
  IsSlim (AllocLine b f all) = AllByRecursion IsNearPlace all × (length all ≤ 3)
  IsSlim (FetchLine b g region) = AllByRecursion IsNearSpan region × (length region ≤ 3)
  IsSlim (StoreLine b k at e) = AllByRecursion (λ c. IsNearIndex c.index) at × IsWrittenBy IsCalled e × (length at ≤ 6) × (store_nodes at e ≤ 3500)
  IsSlim _ = Unit {0}

  pub line_long : (l : Line) → fits_line l ≡ true → IsSlim l → length (line_text l) ≤ 65536
  unfolding input_text output_text group_text for_text let_text guard_text alloc_text fetch_text store_text
  line_long (PlanLine name) fits slim = (let own = name_long name fits in omega (arith, own))
  line_long (InputLine d) fits slim = (let own = declaration_long d fits slim in omega (arith, own))
  line_long (OutputLine d) fits slim = (let own = declaration_long d fits slim in omega (arith, own))
  line_long (GroupLine n f region grid) fits slim =
      let a = both _ _ fits in
      let b = both _ _ a.0 in
      let c = both _ _ b.0 in
      let d = both _ _ c.0 in
      let wide = less_so n (2 ^ 32) d.0 in
      let number = size_long n (less n (2 ^ 63) (omega (arith, wide))) in
      let name = name_long f d.1 in
      let few_spans = slim.1 in
      let few_sizes = slim.2 in
      let spans = region_long region c.1 slim.0 (omega (arith, few_spans)) in
      let sizes = sizes_long grid a.1 in
      let last = length-append (region_text region) (32 ∷ 103 ∷ 114 ∷ 105 ∷ 100 ∷ 32 ∷ separated_text 32 count_text grid) in
      let middle = length-append f (32 ∷ (region_text region ++ (32 ∷ 103 ∷ 114 ∷ 105 ∷ 100 ∷ 32 ∷ separated_text 32 count_text grid))) in
      let all = length-append (count_text n) (32 ∷ (f ++ (32 ∷ (region_text region ++ (32 ∷ 103 ∷ 114 ∷ 105 ∷ 100 ∷ 32 ∷ separated_text 32 count_text grid))))) in
      omega (arith, number, name, few_sizes, spans, sizes, last, middle, all)
  line_long (ForLine i span k) fits slim =
      let a = both _ _ fits in
      let symbol = size_long i a.0 in
      let own = span_long span a.1 slim in
      let kind = kind_long k in
      let last = length-append (span_text span) (32 ∷ kind_text k) in
      let all = length-append (symbol_text i) (32 ∷ (span_text span ++ (32 ∷ kind_text k))) in
      omega (arith, symbol, own, kind, last, all)
  line_long (LetLine i p forms) fits slim =
      let a = both _ _ fits in
      let symbol = size_long i a.0 in
      let own = forms_long forms a.1 slim in
      let pick = pick_long p in
      let last = length-append (pick_text p) (32 ∷ forms_text forms) in
      let all = length-append (symbol_text i) (32 ∷ (pick_text p ++ (32 ∷ forms_text forms))) in
      omega (arith, symbol, own, pick, last, all)
  line_long (FirstLine i) fits slim = (let symbol = size_long i fits in omega (arith, symbol))
  line_long ElseLine fits slim = omega arith
  line_long (GuardLine low high) fits slim =
      let a = both _ _ fits in
      let one = form_long low a.0 slim.0 in
      let two = form_long high a.1 slim.1 in
      let all = length-append (form_text low) (60 ∷ 61 ∷ form_text high) in
      omega (arith, one, two, all)
  line_long EndLine fits slim = omega arith
  line_long (AllocLine b f all) fits slim =
      let a = both _ _ fits in
      let c = both _ _ a.0 in
      let buffer = size_long b c.0 in
      let name = name_long f c.1 in
      let places = places_long all a.1 slim.0 slim.1 in
      let last = length-append f (32 ∷ places_text all) in
      let first = length-append (count_text b) (32 ∷ (f ++ (32 ∷ places_text all))) in
      omega (arith, buffer, name, places, last, first)
  line_long (FetchLine b g region) fits slim =
      let a = both _ _ fits in
      let c = both _ _ a.0 in
      let buffer = size_long b c.0 in
      let group = size_long g c.1 in
      let few = slim.1 in
      let spans = region_long region a.1 slim.0 (omega (arith, few)) in
      let last = length-append (count_text g) (32 ∷ region_text region) in
      let all = length-append (count_text b) (32 ∷ (count_text g ++ (32 ∷ region_text region))) in
      omega (arith, buffer, group, spans, last, all)
  line_long (StoreLine b k at e) fits slim =
      let a = both _ _ fits in
      let c = both _ _ a.0 in
      let d = both _ _ c.0 in
      let buffer = size_long b d.0 in
      let number = size_long k d.1 in
      let few = slim.2 in
      let nodes = slim.3 in
      let coordinates = coordinates_long at c.1 slim.0 in
      let value = term_long IsCalled short e slim.1 in
      let last = length-append (flat_map spaced_coordinate at) (term_text e) in
      let middle = length-append (count_text k) (32 ∷ (flat_map spaced_coordinate at ++ term_text e)) in
      let all = length-append (count_text b) (32 ∷ (count_text k ++ (32 ∷ (flat_map spaced_coordinate at ++ term_text e)))) in
      omega (arith, buffer, number, few, nodes, coordinates, value, last, middle, all)
  line_long (PublishLine c) fits slim = (let claim = size_long c fits in omega (arith, claim))
