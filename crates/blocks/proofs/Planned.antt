-- What forms tell of a piece's blocks is what the blocks are.
use Rattle.std.proofs.Common.{◌≡◌, ℕ, Bool, true, false, List, [], ◌∷◌, ◌++◌, map, Option, Some, None, Result, Ok, Err, sym, ap, ◌∙◌}
use Rattle.std.specs.Prelude.{ℤ, pos, if◌then◌else◌, IfOk}
use Rattle.std.specs.Global.{Vec}
use Rattle.std.specs.Option.{option_map}
use Rattle.std.specs.Ordering.{int_eq}
use Rattle.std.proofs.lemmas.List.{append-nil, append_assoc}
use Rattle.lin.specs.Forms.{Form, number, combined, plus_multiple}
use Rattle.lin.specs.declared.span.Span1.{Span1}
use Rattle.meaning.specs.Names.{same_name}
use Rattle.sched.specs.declared.schedule.Split.{Split}
use Rattle.sched.specs.declared.schedule.Tail.{Tail}
use Rattle.sched.specs.declared.schedule.Tail.TheVariants.{Guard, Roundup, Shift}
use Rattle.sched.specs.declared.numbers.Extent.{Extent}
use Rattle.sched.specs.declared.numbers.Numbers.{Numbers}
use Rattle.sched.specs.Numbers.{numbers_named}
use Rattle.sched.specs.Skeleton.{SkeletonText}
use Rattle.sched.specs.Standing.{◌>>=◌}
use Rattle.blocks.specs.declared.blocks.Dimension.{Dimension}
use Rattle.sched.specs.declared.stop.Stop.{Stop}
use Rattle.sched.specs.declared.stop.Stop.TheVariants as stop
use Rattle.sched.specs.Limited.{Gives}
use Rattle.sched.specs.Stored.{StoredText}
use Rattle.sched.specs.Blocks.{factor_of, difference}
use Rattle.blocks.specs.Blocks.{block_end, own_last, claim_last, with_last, product, multiple_from, all_ends, end_of, reach_over, is_guarded, plus_if, limits_within, origin_over}
use Rattle.blocks.specs.Blocks.{origin_within, blocks_by, within_by, joined, uncut, part_of, block_span, places_by, whole_dimension, block_dimension, dimension_by, dimension_of}
use Rattle.blocks.specs.Blocks.{dimensions_of, lay_over, BlockText, PartText, Whole, Run, Scattered, LayText}
use Rattle.blocks.specs.Planned.{add_stepped, add_moved, maybe_stepped, maybe_moved, told_start, told_ends, told_limits, told_inner_limits, shifted_origin, told_origin, told_inner_origin}
use Rattle.blocks.specs.Planned.{told_blocks, told_within, told_joined, told_part, told_span, told_block, told_by, told_dimension, add_dimensions, told_dimensions}
use Rattle.blocks.proofs.Laying.{bound, same}
use Rattle.blocks.proofs.Origins.{combined_is}

-- ---- forms

more : {A : Type 0} (before : List A) (x : A) (xs : List A) → (before ++ x ∷ []) ++ xs ≡ before ++ x ∷ xs
more before x xs = append_assoc before (x ∷ []) xs

stepped_are : (low factor : ℤ) (fs before made : List Form) → add_stepped low factor fs before ≡ Some made → made ≡ before ++ map (multiple_from low factor) fs
stepped_are low factor [] before made h = sym (same before made h) ∙ sym (append-nil before)
stepped_are low factor (f ∷ fs) before made h =
    let b = bound (combined (number low) factor f) (λ g. add_stepped low factor fs (before ++ g ∷ [])) made h in
    let g : b.value ≡ multiple_from low factor f = combined_is (number low) f b.value factor b.is in
    stepped_are low factor fs (before ++ b.value ∷ []) made b.comes ∙ (more before b.value (map (multiple_from low factor) fs) ∙ ap (λ x. before ++ x ∷ map (multiple_from low factor) fs) g)

moved_are : (by : Form) (fs before made : List Form) → add_moved by fs before ≡ Some made → made ≡ before ++ map (plus_multiple by (pos 1)) fs
moved_are by [] before made h = sym (same before made h) ∙ sym (append-nil before)
moved_are by (f ∷ fs) before made h =
    let b = bound (combined by (pos 1) f) (λ g. add_moved by fs (before ++ g ∷ [])) made h in
    let g : b.value ≡ plus_multiple by (pos 1) f = combined_is by f b.value (pos 1) b.is in
    moved_are by fs (before ++ b.value ∷ []) made b.comes ∙ (more before b.value (map (plus_multiple by (pos 1)) fs) ∙ ap (λ x. before ++ x ∷ map (plus_multiple by (pos 1)) fs) g)

maybe_stepped_is : (low factor : ℤ) (o made : Option Form) → maybe_stepped low factor o ≡ Some made → made ≡ option_map (multiple_from low factor) o
maybe_stepped_is low factor None made h = sym (same None made h)
maybe_stepped_is low factor (Some f) made h =
    let b = bound (combined (number low) factor f) (λ g. Some (Some g)) made h in
    sym (same (Some b.value) made b.comes) ∙ ap (λ g. Some g) (combined_is (number low) f b.value factor b.is)

maybe_moved_is : (by o made : Option Form) → maybe_moved by o ≡ Some made → made ≡ plus_if by o
maybe_moved_is None o made h = sym (same None made h)
maybe_moved_is (Some by) None made h = sym (same None made h)
maybe_moved_is (Some by) (Some f) made h =
    let b = bound (combined by (pos 1) f) (λ g. Some (Some g)) made h in
    sym (same (Some b.value) made b.comes) ∙ ap (λ g. Some g) (combined_is by f b.value (pos 1) b.is)

-- ---- blocks

ends_are : (c : Split) (own : Numbers) (fs made : List Form) → told_ends c own fs ≡ Some made → made ≡ all_ends c own fs
ends_are c own fs made h = stepped_are (block_end own.low c) (factor_of c) fs [] made h

limits_are : (c : Split) (own : Numbers) (last : Option ℤ) (fs made : List Form) → told_limits c own last fs ≡ Some made → made ≡ with_last (all_ends c own fs) last
limits_are c own last fs made h =
    let b = bound (told_ends c own fs) (λ es. Some (with_last es last)) made h in
    sym (same (with_last b.value last) made b.comes) ∙ ap (λ es. with_last es last) (ends_are c own fs b.value b.is)

inner_limits_are : (c : Split) (own : Numbers) (base : Form) (last : Option ℤ) (inner outer made : List Form) → told_inner_limits c own base last inner outer ≡ Some made
    → made ≡ limits_within base inner (all_ends c own outer) last
inner_limits_are c own base last inner outer made h =
    let b = bound (told_ends c own outer) (λ es. add_moved base inner [] >>= λ ms. Some (with_last (ms ++ es) last)) made h in
    let d = bound (add_moved base inner []) (λ ms. Some (with_last (ms ++ b.value) last)) made b.comes in
    let es : b.value ≡ all_ends c own outer = ends_are c own outer b.value b.is in
    let ms : d.value ≡ map (plus_multiple base (pos 1)) inner = moved_are base inner [] d.value d.is in
    sym (same (with_last (d.value ++ b.value) last) made d.comes) ∙ (λ i. with_last (ms i ++ es i) last)

module _ (l : LayText) where
  origin_by : (c : Split) (own : Numbers) (outer : BlockText) (made : Option Form) (t : Tail) → (elim t [
    | Guard ↦ maybe_stepped own.low (factor_of c) outer.origin
    | Roundup ↦ maybe_stepped own.low (factor_of c) outer.origin
    | Shift ↦ Some (shifted_origin l c outer)
  ]) ≡ Some made → made ≡ (elim t [
    | Guard ↦ option_map (multiple_from own.low (factor_of c)) outer.origin
    | Roundup ↦ option_map (multiple_from own.low (factor_of c)) outer.origin
    | Shift ↦ shifted_origin l c outer
  ])
  origin_by c own outer made Guard h = maybe_stepped_is own.low (factor_of c) outer.origin made h
  origin_by c own outer made Roundup h = maybe_stepped_is own.low (factor_of c) outer.origin made h
  origin_by c own outer made Shift h = sym (same (shifted_origin l c outer) made h)

  origin_is : (c : Split) (own : Numbers) (outer : BlockText) (made : Option Form) → told_origin l c own outer ≡ Some made → made ≡ origin_over l c own outer
  origin_is c own outer made h = origin_by c own outer made c.tail h

  inner_origin_by : (c : Split) (own : Numbers) (outer inner : BlockText) (made : Option Form) (w : Bool)
      → (if w then Some None else (told_origin l c own outer >>= λ o. maybe_moved o inner.origin)) ≡ Some made
      → made ≡ (if w then None else plus_if (origin_over l c own outer) inner.origin)
  inner_origin_by c own outer inner made true h = sym (same None made h)
  inner_origin_by c own outer inner made false h =
      let b = bound (told_origin l c own outer) (λ o. maybe_moved o inner.origin) made h in
      maybe_moved_is b.value inner.origin made b.comes ∙ ap (λ o. plus_if o inner.origin) (origin_is c own outer b.value b.is)

  blocks_are : (c : Split) (cs : List Split) (outer : BlockText) (own : Numbers) (made : PartText) → told_blocks l c cs own outer ≡ Some made
      → made ≡ Run (blocks_by l c cs outer own)
  blocks_are c cs outer own made h =
      let reach = reach_over c outer (end_of l.numbers c.inner cs) in
      let run : Form → List Form → List Form → Option Form → PartText = λ s o k g.
      Run (record { start = s; length = product (factor_of c) outer.length; own_limits = o; claim_limits = k; origin = g; reach = reach }) in
      let last : Form → List Form → List Form → Option PartText = λ s o k. told_origin l c own outer >>= λ g. Some (run s o k g) in
      let third : Form → List Form → Option PartText = λ s o. told_limits c own (claim_last c own) outer.claim_limits >>= last s o in
      let second : Form → Option PartText = λ s. told_limits c own (own_last c own) outer.own_limits >>= third s in
      let a = bound (told_start c own outer.start) second made h in
      let b = bound (told_limits c own (own_last c own) outer.own_limits) (third a.value) made a.comes in
      let d = bound (told_limits c own (claim_last c own) outer.claim_limits) (last a.value b.value) made b.comes in
      let e = bound (told_origin l c own outer) (λ g. Some (run a.value b.value d.value g)) made d.comes in
      let start : a.value ≡ multiple_from own.low (factor_of c) outer.start = combined_is (number own.low) outer.start a.value (factor_of c) a.is in
      let owned = limits_are c own (own_last c own) outer.own_limits b.value b.is in
      let claimed = limits_are c own (claim_last c own) outer.claim_limits d.value d.is in
      let origin = origin_is c own outer e.value e.is in
      sym (same (run a.value b.value d.value e.value) made e.comes) ∙ (λ i. run (start i) (owned i) (claimed i) (origin i))

  within_is : (c : Split) (cs : List Split) (outer inner : BlockText) (made : PartText) → told_within l c cs (numbers_named l.numbers c.whole) outer inner ≡ Some made
      → made ≡ Run (within_by l c cs outer inner (numbers_named l.numbers c.whole))
  within_is c cs outer inner made h =
      let own = numbers_named l.numbers c.whole in
      let run : Form → List Form → List Form → Option Form → PartText = λ s o k g.
      Run (record { start = s; length = inner.length; own_limits = o; claim_limits = k; origin = g; reach = inner.reach }) in
      let last : Form → List Form → List Form → Option PartText = λ s o k. told_inner_origin l c cs own outer inner >>= λ g. Some (run s o k g) in
      let fourth : Form → Form → List Form → Option PartText = λ base s o.
      told_inner_limits c own base (claim_last c own) inner.claim_limits outer.claim_limits >>= last s o in
      let third : Form → Form → Option PartText = λ base s. told_inner_limits c own base (own_last c own) inner.own_limits outer.own_limits >>= fourth base s in
      let second : Form → Option PartText = λ base. combined base (pos 1) inner.start >>= third base in
      let a = bound (told_start c own outer.start) second made h in
      let b = bound (combined a.value (pos 1) inner.start) (third a.value) made a.comes in
      let d = bound (told_inner_limits c own a.value (own_last c own) inner.own_limits outer.own_limits) (fourth a.value b.value) made b.comes in
      let e = bound (told_inner_limits c own a.value (claim_last c own) inner.claim_limits outer.claim_limits) (last b.value d.value) made d.comes in
      let f = bound (told_inner_origin l c cs own outer inner) (λ g. Some (run b.value d.value e.value g)) made e.comes in
      let base : a.value ≡ multiple_from own.low (factor_of c) outer.start = combined_is (number own.low) outer.start a.value (factor_of c) a.is in
      let start : b.value ≡ plus_multiple (multiple_from own.low (factor_of c) outer.start) (pos 1) inner.start =
      combined_is a.value inner.start b.value (pos 1) b.is ∙ ap (λ x. plus_multiple x (pos 1) inner.start) base in
      let owned : d.value ≡ limits_within (multiple_from own.low (factor_of c) outer.start) inner.own_limits (all_ends c own outer.own_limits) (own_last c own) =
      inner_limits_are c own a.value (own_last c own) inner.own_limits outer.own_limits d.value d.is
      ∙ ap (λ x. limits_within x inner.own_limits (all_ends c own outer.own_limits) (own_last c own)) base in
      let claimed : e.value ≡ limits_within (multiple_from own.low (factor_of c) outer.start) inner.claim_limits (all_ends c own outer.claim_limits) (claim_last c own) =
      inner_limits_are c own a.value (claim_last c own) inner.claim_limits outer.claim_limits e.value e.is
      ∙ ap (λ x. limits_within x inner.claim_limits (all_ends c own outer.claim_limits) (claim_last c own)) base in
      let origin : f.value ≡ origin_within l c cs outer inner = inner_origin_by c own outer inner f.value (is_guarded l c cs own) f.is in
      sym (same (run b.value d.value e.value f.value) made f.comes) ∙ (λ i. run (start i) (owned i) (claimed i) (origin i))

  joined_if : (c : Split) (cs : List Split) (outer inner : BlockText) (made : PartText) (w : Bool)
      → (if w then told_within l c cs (numbers_named l.numbers c.whole) outer inner else Some Scattered) ≡ Some made
      → made ≡ (if w then Run (within_by l c cs outer inner (numbers_named l.numbers c.whole)) else Scattered)
  joined_if c cs outer inner made true h = within_is c cs outer inner made h
  joined_if c cs outer inner made false h = sym (same Scattered made h)

  joined_is : (c : Split) (cs : List Split) (p q made : PartText) → told_joined l c cs p q ≡ Some made → made ≡ joined l c cs p q
  joined_is c cs Whole Whole made h = sym (same Whole made h)
  joined_is c cs Whole (Run inner) made h = sym (same Scattered made h)
  joined_is c cs Whole Scattered made h = sym (same Scattered made h)
  joined_is c cs (Run outer) Whole made h = blocks_are c cs outer (numbers_named l.numbers c.whole) made h
  joined_is c cs (Run outer) (Run inner) made h = joined_if c cs outer inner made (int_eq outer.length (pos 1)) h
  joined_is c cs (Run outer) Scattered made h = sym (same Scattered made h)
  joined_is c cs Scattered Whole made h = sym (same Scattered made h)
  joined_is c cs Scattered (Run inner) made h = sym (same Scattered made h)
  joined_is c cs Scattered Scattered made h = sym (same Scattered made h)

  part_by : (x : List ℕ) (c : Split) (cs : List Split) (made : PartText) (w : Bool)
      → ((y : List ℕ) (p : PartText) → told_part l y cs ≡ Some p → p ≡ part_of l y cs)
      → (if w then (told_part l c.outer cs >>= λ outer. told_part l c.inner cs >>= λ inner. told_joined l c cs outer inner) else told_part l x cs) ≡ Some made
      → made ≡ (if w then joined l c cs (part_of l c.outer cs) (part_of l c.inner cs) else part_of l x cs)
  part_by x c cs made false rest h = rest x made h
  part_by x c cs made true rest h =
      let a = bound (told_part l c.outer cs) (λ outer. told_part l c.inner cs >>= λ inner. told_joined l c cs outer inner) made h in
      let b = bound (told_part l c.inner cs) (λ inner. told_joined l c cs a.value inner) made a.comes in
      let outer = rest c.outer a.value a.is in
      let inner = rest c.inner b.value b.is in
      joined_is c cs a.value b.value made b.comes ∙ (λ i. joined l c cs (outer i) (inner i))

  part_is : (cs : List Split) (x : List ℕ) (made : PartText) → told_part l x cs ≡ Some made → made ≡ part_of l x cs
  part_is [] x made h = sym (same (uncut l x) made h)
  part_is (c ∷ cs) x made h = part_by x c cs made (same_name c.whole x) (part_is cs) h

-- ---- dimensions

span_is : (start : Form) (n : ℤ) (limits : List Form) (made : Span1) → told_span start n limits ≡ Some made → made ≡ block_span start n limits
span_is start n limits made h =
    let span : Form → Span1 = λ last. record { lower = start ∷ []; upper = last ∷ limits } in
    let b = bound (combined (number (difference n (pos 1))) (pos 1) start) (λ last. Some (span last)) made h in
    sym (same (span b.value) made b.comes) ∙ ap span (combined_is (number (difference n (pos 1))) start b.value (pos 1) b.is)

module _ (l : LayText) where
  block_is : (x : List ℕ) (cs : List Split) (b : BlockText) (made : Dimension) → told_block l x cs b ≡ Some made → made ≡ block_dimension l x cs b
  block_is x cs b made h =
      let one : Span1 → Span1 → Dimension = λ o k. record { own = o; claim = k; places = places_by l x cs b.reach b.origin } in
      let a = bound (told_span b.start b.length b.own_limits) (λ o. told_span b.start b.length b.claim_limits >>= λ k. Some (one o k)) made h in
      let d = bound (told_span b.start b.length b.claim_limits) (λ k. Some (one a.value k)) made a.comes in
      let owned = span_is b.start b.length b.own_limits a.value a.is in
      let claimed = span_is b.start b.length b.claim_limits d.value d.is in
      sym (same (one a.value d.value) made d.comes) ∙ (λ i. one (owned i) (claimed i))

  by_is : (x : List ℕ) (cs : List Split) (p : PartText) (made : Dimension) → told_by l x cs p ≡ Some made → made ≡ dimension_by l x cs p
  by_is x cs Whole made h = sym (same (whole_dimension l x cs) made h)
  by_is x cs (Run b) made h = block_is x cs b made h
  by_is x cs Scattered made h = sym (same (whole_dimension l x cs) made h)

  dimension_is : (cs : List Split) (x : List ℕ) (made : Dimension) → told_dimension l cs x ≡ Some made → made ≡ dimension_of l cs x
  dimension_is cs x made h =
      let b = bound (told_part l x cs) (told_by l x cs) made h in
      by_is x cs b.value made b.comes ∙ ap (dimension_by l x cs) (part_is l cs x b.value b.is)

  all_are : (cs : List Split) (xs : List (List ℕ)) (before made : List Dimension) → add_dimensions l cs xs before ≡ Some made → made ≡ before ++ map (dimension_of l cs) xs
  all_are cs [] before made h = sym (same before made h) ∙ sym (append-nil before)
  all_are cs (x ∷ xs) before made h =
      let b = bound (told_dimension l cs x) (λ d. add_dimensions l cs xs (before ++ d ∷ [])) made h in
      all_are cs xs (before ++ b.value ∷ []) made b.comes
      ∙ (more before b.value (map (dimension_of l cs) xs) ∙ ap (λ d. before ++ d ∷ map (dimension_of l cs) xs) (dimension_is cs x b.value b.is))

-- the dimensions that are told are those of the blocks
pub dimensions_are : (g : StoredText) (region : List Extent) (k : SkeletonText) (ds : List Dimension) → told_dimensions g region k ≡ Some ds → ds ≡ dimensions_of g region k
dimensions_are g region k ds h = all_are (lay_over g region k) g.placed.cuts g.subject.variables [] ds h

pub dimensions_given : (g : StoredText) (region : List Extent) (k : SkeletonText) (r : Result (Vec Dimension) Stop) → Gives r (λ v. v.items) (told_dimensions g region k)
    → IfOk r (λ v. v.items ≡ dimensions_of g region k)
dimensions_given g region k (Ok v) h = dimensions_are g region k v.items h
dimensions_given g region k (Err stop.Memory) h = tt
dimensions_given g region k (Err stop.Limit) h = tt
