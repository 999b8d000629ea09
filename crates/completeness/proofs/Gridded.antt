-- What pieces own is told by forms over the grid.
use Rattle.std.proofs.Common.{◌≡◌, ℕ, zero, suc, ◌+◌, ◌<◌, ◌≤◌, Bool, true, false, ◌||◌, List, [], ◌∷◌, ◌++◌, length, map, Option, Some, None, refl, sym, ap, ◌∙◌, subst, arith}
use Rattle.std.specs.Prelude.{ℤ, pos, ◌*ℤ◌, ◌-ℤ◌, ◌==◌, ◌&&◌, if◌then◌else◌, slice_get}
use Rattle.std.proofs.lemmas.Bool.Decides.{nat_tests}
use Rattle.std.specs.List.{AllByRecursion, list_all, list_any, find, range_with_len}
use Rattle.std.specs.Option.{option_map}
use Rattle.std.specs.Ordering.{int_eq}
use Rattle.lin.specs.declared.form.Multiple.{Multiple}
use Rattle.lin.specs.Forms.{Form, number, plus_multiple, plus_term, plus_terms}
use Rattle.lin.specs.declared.span.Span1.{Span1}
use Rattle.lin.proofs.TermLemmas.{plus_term-all}
use Rattle.meaning.specs.Names.{same_name}
use Rattle.soundness.specs.Outline.Forms.{are_over, spans_are_over, grid_symbols}
use Rattle.soundness.proofs.Refines.{eq_refl}
use Rattle.sched.specs.declared.schedule.Split.{Split}
use Rattle.sched.specs.declared.placing.Loop.{Loop}
use Rattle.sched.specs.declared.numbers.Extent.{Extent}
use Rattle.sched.specs.declared.numbers.Numbers.{Numbers}
use Rattle.sched.specs.declared.skeleton.Known.{Known}
use Rattle.sched.specs.Placing.{has_loop}
use Rattle.sched.specs.Numbers.{numbers_named, loop_numbers, parallel_loops, grid_counts, or_one}
use Rattle.sched.specs.Standing.{form_named, counted_from}
use Rattle.sched.specs.Skeleton.{SkeletonText, grid_forms}
use Rattle.sched.specs.Stored.{StoredText}
use Rattle.lower.specs.Stored.{stored_functions, has_large}
use Rattle.regions.specs.Regions.{bodies_from}
use Rattle.blocks.specs.Blocks.{BlockText, PartText, Whole, Run, Scattered, LayText, own_last, claim_last, all_ends, with_last, multiple_from, block_end, alone_by}
use Rattle.sched.specs.Blocks.{factor_of}
use Rattle.blocks.specs.Blocks.{blocks_by, within_by, joined, part_of, uncut, is_parallel_named, dimension_by, dimension_of, dimensions_of, owned_region, claimed_region, lay_over}
use Rattle.sched.specs.Bounded.{whole}
use Rattle.regions.specs.Faults.{are_whole}
use Rattle.lower.specs.Faults.{region_fault}
use Rattle.lower.specs.Groups.{HasGroups}
use Rattle.lower.specs.Owning.{IsLaidBy}
use Rattle.lower.specs.declared.lowering.Lowered.{Lowered}
use Rattle.meaning.specs.Algorithm.{Algorithm}
use Rattle.meaning.specs.Conditions.{IsAlgorithm}
use Rattle.sched.specs.Schedule.{Schedule}
use Rattle.sched.specs.Legal.{IsLegal}
use Rattle.plan.specs.declared.plan.Group.{Group as CodeGroup}
use Rattle.plan.specs.declared.certificate.cert.Own.{Own}
use Rattle.plan.specs.Plan.{Group}
use Rattle.plan.specs.Certificate.Cells.{own_region}
use Rattle.plan.specs.View.{group_of, plan_of}
use Rattle.headline.proofs.Lists.{at_map}
use Rattle.validation.specs.Certificate.Certificate.{is_region_of}
use Rattle.completeness.proofs.Owned.{own_found, group_made}
use Rattle.completeness.proofs.Lined.{numbered, there}
use Rattle.lower.proofs.Grids.{HasHead, head_of, parallel_named}

-- ---- forms of the symbols before one

abbrev pub On : ℕ → Form → Type 0
On n f = AllByRecursion (λ t. t.symbol < n) f.terms

abbrev pub AllOn : ℕ → List Form → Type 0
AllOn n fs = AllByRecursion (On n) fs

module _ (n : ℕ) where
  below_plus : (k : ℤ) (ts us : List Multiple) → AllByRecursion (λ t. t.symbol < n) ts → AllByRecursion (λ t. t.symbol < n) us → AllByRecursion (λ t. t.symbol < n) (plus_terms ts k us)
  below_plus k ts [] a b = a
  below_plus k ts (u ∷ us) a b =
      below_plus k (plus_term ts (record { symbol = u.symbol; factor = k *ℤ u.factor })) us
      (plus_term-all (λ t. t.symbol < n) (λ t. t.symbol < n) (λ x h. h) (record { symbol = u.symbol; factor = k *ℤ u.factor }) b.0 (λ x h. b.0) ts a) b.1

  on_plus : (a : Form) (k : ℤ) (b : Form) → On n a → On n b → On n (plus_multiple a k b)
  on_plus a k b = below_plus k a.terms b.terms

  on_from : (low factor : ℤ) (f : Form) → On n f → On n (multiple_from low factor f)
  on_from low factor f h = on_plus (number low) factor f tt h

  all_from : (low factor : ℤ) (fs : List Form) → AllOn n fs → AllOn n (map (multiple_from low factor) fs)
  all_from low factor [] h = tt
  all_from low factor (f ∷ fs) h = (on_from low factor f h.0, all_from low factor fs h.1)

  all_plus : (base : Form) (fs : List Form) → On n base → AllOn n fs → AllOn n (map (plus_multiple base (pos 1)) fs)
  all_plus base [] b h = tt
  all_plus base (f ∷ fs) b h = (on_plus base (pos 1) f b h.0, all_plus base fs b h.1)

  all_join : (fs gs : List Form) → AllOn n fs → AllOn n gs → AllOn n (fs ++ gs)
  all_join [] gs h k = k
  all_join (f ∷ fs) gs h k = (h.0, all_join fs gs h.1 k)

  all_last : (fs : List Form) (z : Option ℤ) → AllOn n fs → AllOn n (with_last fs z)
  all_last fs None h = h
  all_last fs (Some z) h = all_join fs (number z ∷ []) h (tt, tt)

  -- ---- blocks

  abbrev BlockOn : BlockText → Type 0
  BlockOn b = On n b.start × AllOn n b.own_limits × AllOn n b.claim_limits

  abbrev PartOn : PartText → Type 0
  PartOn Whole = Unit {0}
  PartOn (Run b) = BlockOn b
  PartOn Scattered = Unit {0}

  module _ (l : LayText) (known : (x : List ℕ) (f : Form) → is_parallel_named l x ≡ true → form_named l.known x ≡ Some f → On n f) where
    uncut_on : (x : List ℕ) → PartOn (uncut l x)
    uncut_on x = of (is_parallel_named l x) (form_named l.known x) refl refl
      where
        of : (b : Bool) (o : Option Form) → is_parallel_named l x ≡ b → form_named l.known x ≡ o → PartOn (if b then alone_by o else Whole)
        of true None e q = tt
        of true (Some f) e q = (known x f e q, tt, tt)
        of false o e q = tt

    blocks_on : (c : Split) (cs : List Split) (outer : BlockText) (own : Numbers) → BlockOn outer → BlockOn (blocks_by l c cs outer own)
    blocks_on c cs outer own h = (
      on_from own.low (factor_of c) outer.start h.0,
      all_last (all_ends c own outer.own_limits) (own_last c own) (all_from (block_end own.low c) (factor_of c) outer.own_limits h.1),
      all_last (all_ends c own outer.claim_limits) (claim_last c own) (all_from (block_end own.low c) (factor_of c) outer.claim_limits h.2),
    )

    within_on : (c : Split) (cs : List Split) (outer inner : BlockText) (own : Numbers) → BlockOn outer → BlockOn inner → BlockOn (within_by l c cs outer inner own)
    within_on c cs outer inner own h k =
        let base = multiple_from own.low (factor_of c) outer.start in
        let on_base = on_from own.low (factor_of c) outer.start h.0 in
        let parts = all_plus base inner.own_limits on_base k.1 in
        let blocks = all_from (block_end own.low c) (factor_of c) outer.own_limits h.1 in
        let claim_parts = all_plus base inner.claim_limits on_base k.2 in
        let claim_blocks = all_from (block_end own.low c) (factor_of c) outer.claim_limits h.2 in (
          on_plus base (pos 1) inner.start on_base k.0,
          all_last (map (plus_multiple base (pos 1)) inner.own_limits ++ all_ends c own outer.own_limits) (own_last c own)
              (all_join (map (plus_multiple base (pos 1)) inner.own_limits) (all_ends c own outer.own_limits) parts blocks),
          all_last (map (plus_multiple base (pos 1)) inner.claim_limits ++ all_ends c own outer.claim_limits) (claim_last c own)
              (all_join (map (plus_multiple base (pos 1)) inner.claim_limits) (all_ends c own outer.claim_limits) claim_parts claim_blocks),
        )

    joined_on : (c : Split) (cs : List Split) (outer inner : PartText) → PartOn outer → PartOn inner → PartOn (joined l c cs outer inner)
    joined_on c cs Whole Whole h k = tt
    joined_on c cs Whole (Run i) h k = tt
    joined_on c cs Whole Scattered h k = tt
    joined_on c cs Scattered Whole h k = tt
    joined_on c cs Scattered (Run i) h k = tt
    joined_on c cs Scattered Scattered h k = tt
    joined_on c cs (Run o) Whole h k = blocks_on c cs o (numbers_named l.numbers c.whole) h
    joined_on c cs (Run o) Scattered h k = tt
    joined_on c cs (Run o) (Run i) h k = of (int_eq o.length (pos 1))
      where
        of : (b : Bool) → PartOn (if b then Run (within_by l c cs o i (numbers_named l.numbers c.whole)) else Scattered)
        of true = within_on c cs o i (numbers_named l.numbers c.whole) h k
        of false = tt

    part_on : (x : List ℕ) (cs : List Split) → PartOn (part_of l x cs)
    part_on x [] = uncut_on x
    part_on x (c ∷ cs) = of (same_name c.whole x) (joined_on c cs (part_of l c.outer cs) (part_of l c.inner cs) (part_on c.outer cs) (part_on c.inner cs)) (part_on x cs)
      where
        of : (b : Bool) → PartOn (joined l c cs (part_of l c.outer cs) (part_of l c.inner cs)) → PartOn (part_of l x cs) →
            PartOn (if b then joined l c cs (part_of l c.outer cs) (part_of l c.inner cs) else part_of l x cs)
        of true h k = h
        of false h k = k

    abbrev SpanOn : Span1 → Type 0
    SpanOn s = AllOn n s.lower × AllOn n s.upper

    own_on : (x : List ℕ) (cs : List Split) (p : PartText) → PartOn p → SpanOn (dimension_by l x cs p).own
    own_on x cs Whole h = ((tt, tt), (tt, tt))
    own_on x cs Scattered h = ((tt, tt), (tt, tt))
    own_on x cs (Run b) h = ((h.0, tt), (on_from (b.length -ℤ pos 1) (pos 1) b.start h.0, h.1))

    owned_on : (cs : List Split) (xs : List (List ℕ)) → AllByRecursion SpanOn (owned_region (map (dimension_of l cs) xs))
    owned_on cs [] = tt
    owned_on cs (x ∷ xs) = (own_on x cs (part_of l x cs) (part_on x cs), owned_on cs xs)

    claim_on : (x : List ℕ) (cs : List Split) (p : PartText) → PartOn p → SpanOn (dimension_by l x cs p).claim
    claim_on x cs Whole h = ((tt, tt), (tt, tt))
    claim_on x cs Scattered h = ((tt, tt), (tt, tt))
    claim_on x cs (Run b) h = ((h.0, tt), (on_from (b.length -ℤ pos 1) (pos 1) b.start h.0, h.2))

    claimed_on : (cs : List Split) (xs : List (List ℕ)) → AllByRecursion SpanOn (claimed_region (map (dimension_of l cs) xs))
    claimed_on cs [] = tt
    claimed_on cs (x ∷ xs) = (claim_on x cs (part_of l x cs) (part_on x cs), claimed_on cs xs)

-- ---- tests

pub among : (s count t : ℕ) → s ≤ t → t < s + count → list_any (λ x. x == t) (range_with_len s count) ≡ true
among s zero t low high = absurd (omega (arith, low, high))
among s (suc count) t low high = of (s == t) refl (λ above. among (s + 1) count t above (omega (arith, high)))
  where
    of : (b : Bool) → (s == t) ≡ b → (s + 1 ≤ t → list_any (λ x. x == t) (range_with_len (s + 1) count) ≡ true) → (b || list_any (λ x. x == t) (range_with_len (s + 1) count)) ≡ true
    of true e rest = refl
    of false e rest = let above : s + 1 ≤ t = grind (arith, nat_tests, e, low) in rest above

module _ (n : ℕ) where
  terms_over : (ts : List Multiple) → AllByRecursion (λ t. t.symbol < n) ts → list_all (λ t. list_any (λ s. s == t.symbol) (grid_symbols n)) ts ≡ true
  terms_over [] h = refl
  terms_over (t ∷ ts) h =
      let low : 0 ≤ t.symbol = omega arith in
      let first = h.0 in
      let high : t.symbol < 0 + n = omega (arith, first) in
      ap (λ (b : Bool). b && list_all (λ t. list_any (λ s. s == t.symbol) (grid_symbols n)) ts) (among 0 n t.symbol low high) ∙ terms_over ts h.1

  forms_over : (fs : List Form) → AllOn n fs → are_over (grid_symbols n) fs ≡ true
  forms_over [] h = refl
  forms_over (f ∷ fs) h = ap (λ (b : Bool). b && are_over (grid_symbols n) fs) (terms_over f.terms h.0) ∙ forms_over fs h.1

  pub spans_over : (xs : List Span1) → AllByRecursion (λ s. AllOn n s.lower × AllOn n s.upper) xs → spans_are_over (grid_symbols n) xs ≡ true
  spans_over [] h = refl
  spans_over (x ∷ xs) h =
      ap (λ (b : Bool). (b && are_over (grid_symbols n) x.upper) && spans_are_over (grid_symbols n) xs) (forms_over x.lower h.0.0)
      ∙ ap (λ (b : Bool). b && spans_are_over (grid_symbols n) xs) (forms_over x.upper h.0.1) ∙ spans_over xs h.1

-- ---- of the grid

pub record FormOn (m : ℕ) (o : Option Form) : Type 0 where
  pub form : Form
  pub is : o ≡ Some form
  pub on : On m form

module _ (x : List ℕ) (rs : List Numbers) (m : ℕ) where
  grid_on : (s : ℕ) (ls : List Loop) → s + length ls ≤ m → has_loop ls x ≡ true → FormOn m (form_named (grid_forms rs s ls) x)
  grid_on s [] less h = absurd (cc h)
  grid_on s (l ∷ ls) less h = of (same_name l.name x) h (grid_on (s + 1) ls (omega (arith, less)))
    where
      of : (v : Bool) → (v || has_loop ls x) ≡ true → (has_loop ls x ≡ true → FormOn m (form_named (grid_forms rs (s + 1) ls) x)) →
          FormOn m
          (option_map (λ (k : Known). k.form)
          (if v then Some (record { name = l.name; form = counted_from (numbers_named rs l.name).low s }) else find (λ k. same_name k.name x) (grid_forms rs (s + 1) ls)))
      of true e rest = record { form = counted_from (numbers_named rs l.name).low s; is = refl; on = (omega (arith, less), tt) }
      of false e rest = rest e

counts_long : (rs : List Numbers) (ls : List Loop) → length (grid_counts rs ls) ≡ length ls
counts_long rs [] = refl
counts_long rs (l ∷ ls) = ap suc (counts_long rs ls)

or_one_long : (ns : List ℕ) → length ns ≤ length (or_one ns)
or_one_long [] = omega arith
or_one_long (n ∷ ns) = omega arith

module _ (g : StoredText) (extents : List Extent) (k : SkeletonText) (laid : IsLaidBy g extents k) where
  head : HasHead g.placed (loop_numbers g.subject.variables g.placed.cuts extents) k
  head = head_of g.subject.variables (bodies_from g.changes 0 g.subject.reductions laid.formulas) g.placed extents k laid.laid

  known_on : (x : List ℕ) (f : Form) → is_parallel_named (lay_over g extents k) x ≡ true → form_named k.known x ≡ Some f → On (length k.grid) f
  known_on x f parallel named =
      let rs = loop_numbers g.subject.variables g.placed.cuts extents in
      let ls = parallel_loops g.placed.loops in
      let there : has_loop ls x ≡ true = sym (parallel_named g.placed.loops x) ∙ parallel in
      let counts : length (grid_counts rs ls) ≡ length ls = counts_long rs ls in
      let grid : length k.grid ≡ length (or_one (grid_counts rs ls)) = ap length head.grid in
      let most : length (grid_counts rs ls) ≤ length (or_one (grid_counts rs ls)) = or_one_long (grid_counts rs ls) in
      let w = grid_on x rs (length k.grid) 0 ls (omega (arith, counts, grid, most)) there in
      let same : w.form ≡ f = cc (head.known x w.form w.is, named) in
      subst (On (length k.grid)) same w.on

  pub region_over : spans_are_over (grid_symbols (length k.grid)) (owned_region (dimensions_of g extents k)) ≡ true
  region_over = spans_over (length k.grid) (owned_region (dimensions_of g extents k)) (owned_on (length k.grid) (lay_over g extents k) known_on g.placed.cuts g.subject.variables)

  -- what its claims speak of, too
  pub claimed_over : AllByRecursion (λ s. AllOn (length k.grid) s.lower × AllOn (length k.grid) s.upper) (claimed_region (dimensions_of g extents k))
  claimed_over = claimed_on (length k.grid) (lay_over g extents k) known_on g.placed.cuts g.subject.variables

  dims_long : (xs : List (List ℕ)) → length (owned_region (map (dimension_of (lay_over g extents k) g.placed.cuts) xs)) ≡ length xs
  dims_long [] = refl
  dims_long (x ∷ xs) = ap suc (dims_long xs)

  pub region_long : length (owned_region (dimensions_of g extents k)) ≡ length extents
  region_long = dims_long g.subject.variables ∙ sym laid.long

  claims_long : (xs : List (List ℕ)) → length (claimed_region (map (dimension_of (lay_over g extents k) g.placed.cuts) xs)) ≡ length xs
  claims_long [] = refl
  claims_long (x ∷ xs) = ap suc (claims_long xs)

  pub claimed_long : length (claimed_region (dimensions_of g extents k)) ≡ length g.subject.variables
  claimed_long = claims_long g.subject.variables

whole_long : (es : List Extent) → length (map whole es) ≡ length es
whole_long [] = refl
whole_long (e ∷ es) = ap suc (whole_long es)

-- ---- own lines

module _ (a : Algorithm) (s : Schedule) (l : Lowered) (well : IsAlgorithm a) (legal : IsLegal a s) (small : has_large (stored_functions a s) ≡ false)
    (kept : region_fault a (stored_functions a s) ≡ None) (all : are_whole (stored_functions a s) ≡ true) (groups : HasGroups a (stored_functions a s) l) where
  fits_group : (i : ℕ) (p : CodeGroup) (o : Own) → slice_get l.plan.groups.items i ≡ Some p → slice_get l.certificate.own.items i ≡ Some o →
      is_region_of (Some (group_of p)) o.region ≡ true
  fits_group i p o at own =
      let m = group_made a s l well legal small kept all groups i p at in
      let os = l.certificate.own.items in
      let place : i ≡ 0 + i = omega arith in
      let found_here : own_region os i ≡ Some o.region = ap (own_region os) place ∙ own_found l.plan.groups.items os 0 groups.owned i o own in
      let same : o.region ≡ m.own.region = cc (found_here, m.told) in
      let region : o.region ≡ owned_region (dimensions_of m.stored m.laid.region m.laid.skeleton) = same ∙ m.owned in
      let long : length o.region ≡ length p.region =
      ap length region ∙ region_long m.stored m.laid.region m.laid.skeleton m.laid_by ∙ sym (whole_long m.laid.region) ∙ sym (ap length m.region) in
      let counts : length m.laid.skeleton.grid ≡ length p.grid.items = sym (ap length m.grid) in
      let over : spans_are_over (grid_symbols (length p.grid.items)) o.region ≡ true =
      ap (λ (n : ℕ). spans_are_over (grid_symbols n) o.region) (sym counts) ∙ ap (spans_are_over (grid_symbols (length m.laid.skeleton.grid))) region
      ∙ region_over m.stored m.laid.region m.laid.skeleton m.laid_by in
      let test : (length o.region == length p.region) ≡ true = ap (λ (n : ℕ). n == length p.region) long ∙ eq_refl (length p.region) in
      ap (λ (b : Bool). b && spans_are_over (grid_symbols (length p.grid.items)) o.region) test ∙ over

  pub own_fits : (i : ℕ) (o : Own) → slice_get l.certificate.own.items i ≡ Some o → is_region_of (slice_get (plan_of l.plan).groups o.group) o.region ≡ true
  own_fits i o own =
      let ps = l.plan.groups.items in
      let os = l.certificate.own.items in
      let e : o.group ≡ 0 + i = numbered ps os 0 groups.owned i o own in
      let place : o.group ≡ i = omega (arith, e) in
      let g = there ps os 0 groups.owned i o own in
      let at : slice_get (map group_of ps) o.group ≡ Some (group_of g.0) = ap (slice_get (map group_of ps)) place ∙ at_map group_of ps i g.0 g.1 in
      ap (λ (x : Option Group). is_region_of x o.region) at ∙ fits_group i g.0 o g.1 own
