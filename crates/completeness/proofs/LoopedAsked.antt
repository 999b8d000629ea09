-- The regions for which all turns ask have numbers of 32 bits for each variable, as those have that are needed of whole functions.
use Rattle.std.proofs.Common.{◌≡◌, ℕ, zero, suc, ◌+◌, ◌<◌, Bool, true, false, ◌&&◌, List, [], ◌∷◌, length, Option, Some, None, refl, sym, ap, ◌∙◌, subst, inl, inr, arith}
use Rattle.std.specs.List.{AllByRecursion}
use Rattle.std.proofs.lemmas.Int.{ints}
use Rattle.sched.specs.declared.numbers.Extent.{Extent}
use Rattle.std.specs.Prelude.{ℤ, pos, negsuc, ◌+ℤ◌, ◌-ℤ◌, ◌≤ℤ◌, int_le, nat_lt, if◌then◌else◌, get_or, slice_set, slice_get}
use Rattle.std.proofs.lemmas.List.{length-set, length-replicate}
use Rattle.lin.specs.declared.scope.Binding.{Binding}
use Rattle.lin.specs.declared.span.Span1.{Span1}
use Rattle.meaning.specs.Algorithm.{Algorithm}
use Rattle.sched.specs.Standing.{◌>>=◌}
use Rattle.sched.specs.Schedule.{Schedule}
use Rattle.lower.specs.declared.lowering.Lowered.{Lowered}
use Rattle.sched.specs.Stored.{FormulaText, StoredText}
use Rattle.lower.specs.Stored.{stored_functions}
use Rattle.lower.specs.Owning.{IsExtent}
use Rattle.sched.specs.Regions.{LaidText, count_of}
use Rattle.regions.specs.Regions.{is_i32, are_within, extent_between, may_have, extent_of, region_of, hull, widen, ends_of, unreached, add_output, laid_over, laid_functions}
use Rattle.sched.specs.Taken.{SiteText}
use Rattle.sched.specs.Fetches.{Entry}
use Rattle.sched.specs.Placed.{PlacedText}
use Rattle.regions.specs.Asked.{add_ends, add_calls, add_sites, sites_in, add_group, add_groups}
use Rattle.lower.specs.Asked.{reach_in, laid_again, laid_anew, laid_each, are_same}
use Rattle.lower.specs.Groups.{Come, asked, rounds, rooted, AreGroupsMade}
use Rattle.blocks.proofs.Laying.{bound, same}
use Rattle.lower.proofs.Reached.{grows_output, laid_found, region_length}
use Rattle.lower.proofs.Extents.{region_is}
use Rattle.completeness.specs.Looped.{IsRegion, IsRegionIf, AreRegions}

-- of what a function is asked
abbrev Domain : (A B : Type 0) → (A → B) → Type 0
Domain A B f = A

-- the ends that are reached in a dimension
abbrev Ends : Type 0
Ends = Domain _ _ extent_between

-- ---- numbers of 32 bits

and_parts : (a b : Bool) → (a && b) ≡ true → (a ≡ true) × (b ≡ true)
and_parts true b h = (refl, h)
and_parts false b h = absurd (cc h)

at_most : (y z : ℤ) → int_le y z ≡ true → y ≤ℤ z
at_most y z h = grind (arith, ints)

-- from one end to another there are this many numbers
count_some : (low high y : ℤ) → high -ℤ low +ℤ pos 1 ≡ y → low ≤ℤ high → (high -ℤ low) ≤ℤ pos 2147483647 → (0 < count_of y) × (count_of y < 4294967296)
count_some low high (pos n) e le few = (omega (arith, ints, e, le), omega (arith, ints, e, few))
count_some low high (negsuc n) e le few = absurd (omega (arith, ints, e, le))

between_some : (e : Ends) (x : Extent) → extent_between e ≡ Some x → IsExtent x
between_some e x h = of (are_within e) refl h
  where
    made : Extent
    made = record { low = e.low; count = count_of (e.high -ℤ e.low +ℤ pos 1) }

    of : (b : Bool) → are_within e ≡ b → (if b then Some made else None) ≡ Some x → IsExtent x
    of true w q =
        let parts = and_parts (is_i32 e.low && is_i32 e.high) (int_le e.low e.high && int_le (e.high -ℤ e.low) (pos 2147483647)) w in
        let ends = and_parts (is_i32 e.low) (is_i32 e.high) parts.0 in
        let low = and_parts (int_le (negsuc 2147483647) e.low) (int_le e.low (pos 2147483647)) ends.0 in
        let rest = and_parts (int_le e.low e.high) (int_le (e.high -ℤ e.low) (pos 2147483647)) parts.1 in
        let many = count_some e.low e.high (e.high -ℤ e.low +ℤ pos 1) refl (at_most e.low e.high rest.0) (at_most (e.high -ℤ e.low) (pos 2147483647) rest.1) in
        subst IsExtent (same made x q) (record { some = many.0; few = many.1; from = at_most (negsuc 2147483647) e.low low.0; to = at_most e.low (pos 2147483647) low.1 })
    of false w q = absurd (cc q)

extent_some : (is_root : Bool) (o : Option Ends) (x : Extent) → extent_of is_root o ≡ Some x → IsExtent x
extent_some is_root o x h =
    let b = bound (o >>= extent_between) (λ y. if may_have is_root y.count then Some y else None) x h in
    let c = bound o extent_between b.value b.is in
    of b.value (may_have is_root b.value.count) b.comes (between_some c.value b.value c.comes)
  where
    of : (y : Extent) (t : Bool) → (if t then Some y else None) ≡ Some x → IsExtent y → IsExtent x
    of y true q lies = subst IsExtent (same y x q) lies
    of y false q lies = absurd (cc q)

region_some : (is_root : Bool) (reach : List (Option Ends)) (es : List Extent) → region_of is_root reach ≡ Some es → AllByRecursion IsExtent es
region_some is_root [] es h = subst (AllByRecursion IsExtent) (same [] es h) tt
region_some is_root (o ∷ os) es h =
    let b = bound (extent_of is_root o) (λ x. region_of is_root os >>= λ xs. Some (x ∷ xs)) es h in
    let c = bound (region_of is_root os) (λ xs. Some (b.value ∷ xs)) es b.comes in
    subst (AllByRecursion IsExtent) (same (b.value ∷ c.value) es c.comes) (extent_some is_root o b.value b.is, region_some is_root os c.value c.is)

-- ---- as many as there are variables

widen_long : (b : Bool) (reach : List (Option Ends)) (d : ℕ) (e : Ends) → length (if b then slice_set reach d (Some (hull (get_or reach d None) e)) else reach) ≡ length reach
widen_long true reach d e = length-set reach d (Some (hull (get_or reach d None) e))
widen_long false reach d e = refl

module _ (scope : List Binding) where
  ends_long : (d : ℕ) (ss : List Span1) (reach out : List (Option Ends)) → add_ends scope d ss reach ≡ Some out → length out ≡ length reach
  ends_long d [] reach out e = ap length (sym (same reach out e))
  ends_long d (s ∷ ss) reach out e =
      let b = bound (ends_of scope s) (λ x. add_ends scope (d + 1) ss (widen reach d x)) out e in
      ends_long (d + 1) ss (widen reach d b.value) out b.comes ∙ widen_long (nat_lt d (length reach)) reach d b.value

  calls_long : (cs : List (List Span1)) (reach out : List (Option Ends)) → add_calls scope cs reach ≡ Some out → length out ≡ length reach
  calls_long [] reach out e = ap length (sym (same reach out e))
  calls_long (c ∷ cs) reach out e =
      let b = bound (add_ends scope 0 c reach) (add_calls scope cs) out e in calls_long cs b.value out b.comes ∙ ends_long 0 c reach b.value b.is

sites_long : (ss : List SiteText) (reach out : List (Option Ends)) → add_sites ss reach ≡ Some out → length out ≡ length reach
sites_long [] reach out e = ap length (sym (same reach out e))
sites_long (s ∷ ss) reach out e =
    let b = bound (add_calls s.scope s.calls reach) (add_sites ss) out e in sites_long ss b.value out b.comes ∙ calls_long s.scope s.calls reach b.value b.is

groups_long : (a : Algorithm) (x : List ℕ) (es : List Entry) (placed : List (List PlacedText)) (reach out : List (Option Ends)) → add_groups a x es placed reach ≡ Some out → length out ≡ length reach
groups_long a x [] placed reach out e = ap length (sym (same reach out e))
groups_long a x (v ∷ es) [] reach out e = ap length (sym (same reach out e))
groups_long a x (v ∷ es) (is ∷ placed) reach out e =
    let b = bound (add_group a x v is reach) (add_groups a x es placed) out e in
    let s = bound (sites_in a x v is) (λ ss. add_sites ss reach) b.value b.is in
    groups_long a x es placed b.value out b.comes ∙ sites_long s.value reach b.value s.comes

module _ (a : Algorithm) (es : List Entry) (placed : List (List PlacedText)) where
  again_is : (g : StoredText) (fs : List FormulaText) (l : LaidText) → laid_again a es placed g fs ≡ Some l → IsRegion g l
  again_is g fs l e =
      let blank = unreached (length g.subject.variables) in
      let b = bound (reach_in a es placed g) (laid_over a g fs) l e in
      let w = bound (add_groups a g.subject.name es placed blank) (λ reach. Some (add_output a g.subject.is_output reach)) b.value b.is in
      let f = laid_found a g fs b.value l b.comes in
      let reached : length w.value ≡ length blank = groups_long a g.subject.name es placed blank w.value w.is in
      let output = grows_output a g.subject.is_output w.value in
      let whole : length w.value ≡ length b.value = output.as_many ∙ ap length (same (add_output a g.subject.is_output w.value) b.value w.comes) in
      let size : length blank ≡ length l.region = sym reached ∙ whole ∙ f.grown.as_many ∙ sym (region_length g.subject.is_root f.wide l.region f.is) in
      record { long = sym size ∙ length-replicate (length g.subject.variables) None; extents = region_some g.subject.is_root f.wide l.region f.is }

  region_if : (g : StoredText) (o : Option LaidText) → ((l : LaidText) → o ≡ Some l → IsRegion g l) → IsRegionIf g o
  region_if g None h = tt
  region_if g (Some l) h = h l refl

  anew_is : (g : StoredText) (o : Option (List FormulaText)) (m : Option LaidText) → IsRegionIf g (laid_anew a es placed g o m)
  anew_is g None m = tt
  anew_is g (Some fs) None = tt
  anew_is g (Some fs) (Some l) = region_if g (laid_again a es placed g fs) (again_is g fs)

  each_is : (gs : List StoredText) (ls : List (Option LaidText)) → AreRegions gs (laid_each a es placed gs ls)
  each_is [] ls = tt
  each_is (g ∷ gs) [] = tt
  each_is (g ∷ gs) (l ∷ ls) = (anew_is g g.formulas l, each_is gs ls)

first_are : (a : Algorithm) (gs : List StoredText) → AreRegions gs (laid_functions a gs)
first_are a [] = tt
first_are a (g ∷ gs) = (of _ refl, first_are a gs)
  where
    of : (o : Option LaidText) → slice_get (laid_functions a (g ∷ gs)) 0 ≡ Some o → IsRegionIf g o
    of None e = tt
    of (Some l) e = (let r = region_is a (g ∷ gs) 0 g l refl e in record { long = r.long; extents = r.extents })

asked_are : (a : Algorithm) (gs : List StoredText) (regions others : List (Option LaidText)) (placed : List (List PlacedText)) → asked a gs regions placed ≡ Some others → AreRegions gs others
asked_are a gs regions others placed e = of (are_same regions each) e
  where
    each : List (Option LaidText)
    each = laid_each a (rooted true gs regions) placed gs regions

    of : (b : Bool) → (if b then None else Some each) ≡ Some others → AreRegions gs others
    of true q = absurd (cc q)
    of false q = subst (AreRegions gs) (same each others q) (each_is a (rooted true gs regions) placed gs regions)

come_are : (a : Algorithm) (gs : List StoredText) (n : ℕ) (first last : List (Option LaidText)) (inside : _) → AreRegions gs first → Come a gs n first last inside → AreRegions gs last
come_are a gs zero first last inside h come = subst (AreRegions gs) (sym come) h
come_are a gs (suc n) first last inside h (inl come) = subst (AreRegions gs) (sym come.0) h
come_are a gs (suc n) first last inside h (inr r) = come_are a gs n r.others last inside (asked_are a gs first r.others r.placed r.asks) r.further

-- so do those over which the groups of a plan are
pub regions_are : (a : Algorithm) (gs : List StoredText) (n : ℕ) (last : List (Option LaidText)) (inside : _) → Come a gs n (laid_functions a gs) last inside → AreRegions gs last
regions_are a gs n last inside come = come_are a gs n (laid_functions a gs) last inside (first_are a gs) come

-- whatever the schedule is
pub all_regions : (a : Algorithm) (s : Schedule) (l : Lowered) (groups : AreGroupsMade a s l) → AreRegions (stored_functions a s) groups.placed.regions
all_regions a s l groups = regions_are a (stored_functions a s) (rounds (stored_functions a s)) groups.placed.regions _ groups.placed.come
