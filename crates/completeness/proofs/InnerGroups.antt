-- What the lines `group` of whatever plan `lower` makes name is known, where each region has some numbers for each of its function's variables.
use Rattle.std.proofs.Common.{◌≡◌, ℕ, zero, suc, ◌<◌, Bool, true, false, List, [], ◌∷◌, length, map, take, Option, Some, None, refl, sym, ap, ◌∙◌, subst, inl, inr, arith}
use Rattle.std.specs.Prelude.{if◌then◌else◌, string_bytes, slice_get, MatchOption}
use Rattle.std.specs.Option.{option_map}
use Rattle.std.proofs.lemmas.Option.{get_or_from_slice_get}
use Rattle.plan.specs.declared.plan.Group.{Group as CodeGroup}
use Rattle.plan.specs.Plan.{Group}
use Rattle.plan.specs.View.{group_of, plan_of}
use Rattle.meaning.specs.Algorithm.{Function, Algorithm}
use Rattle.meaning.specs.Conditions.{IsAlgorithm}
use Rattle.headline.proofs.Lists.{at_below, at_map, from_map}
use Rattle.sched.specs.Schedule.{Schedule}
use Rattle.validation.specs.Stored.Definitions.{Parts, parts_of, parts_named}
use Rattle.validation.specs.Groups.Inside.{Begins}
use Rattle.validation.specs.Groups.Wrong.{LacksVariables, GroupNamesUnknown}
use Rattle.validation.specs.Wide.{RegionNamesOther}
use Rattle.lower.specs.declared.lowering.Lowered.{Lowered}
use Rattle.sched.specs.Stored.{FormulaText, StoredText}
use Rattle.lower.specs.Stored.{stored_functions}
use Rattle.blocks.specs.Stored.{flags}
use Rattle.sched.specs.Regions.{LaidText}
use Rattle.sched.specs.Fetches.{Entry}
use Rattle.lower.specs.Groups.{is_same, rooted_if, rooted, IsGroupOf, AreGroupsOf, root_functions, HasGroups}
use Rattle.blocks.proofs.Laying.{same}
use Rattle.completeness.proofs.LoopedAsked.{all_regions}
use Rattle.completeness.specs.Looped.{IsRegion, IsRegionIf, AreRegions}
use Rattle.completeness.specs.Inside.{AllGroupLinesAreKnown}
use Rattle.completeness.proofs.Laid.{subjects, found}
use Rattle.completeness.proofs.ClaimLines.{named_here}
use Rattle.completeness.proofs.GroupLines.{rises, no_other, taken_at, whole_long}
use Rattle.completeness.proofs.InnerStored.{IsGroupAt, group_there}

-- the region of an entry
region_at : (b : Bool) (gs : List StoredText) (ls : List (Option LaidText)) (k : ℕ) (e : Entry) → AreRegions gs ls → slice_get (rooted b gs ls) k ≡ Some e → IsRegion e.0 e.1
region_at b [] ls k e h at = absurd (cc at)
region_at b (g ∷ gs) [] k e h at = absurd (cc at)
region_at b (g ∷ gs) (l ∷ ls) k e h at = of (is_same g.subject.is_root b) g.formulas l h.0 k at (λ j q. region_at b gs ls j e h.1 q)
  where
    Is : Entry → Type 0
    Is x = IsRegion x.0 x.1

    if_first : (v : Bool) (fs : List FormulaText) (x : LaidText) → IsRegion g x → (j : ℕ) → slice_get (if v then (g, x, fs) ∷ rooted b gs ls else rooted b gs ls) j ≡ Some e →
        ((i : ℕ) → slice_get (rooted b gs ls) i ≡ Some e → Is e) → Is e
    if_first true fs x h zero q rest = subst Is (same (g, x, fs) e q) h
    if_first true fs x h (suc j) q rest = rest j q
    if_first false fs x h j q rest = rest j q

    of : (v : Bool) (o : Option (List FormulaText)) (l : Option LaidText) → IsRegionIf g l → (j : ℕ) → slice_get (rooted_if v g o l (rooted b gs ls)) j ≡ Some e →
        ((i : ℕ) → slice_get (rooted b gs ls) i ≡ Some e → Is e) → Is e
    of v (Some fs) (Some x) h j q rest = if_first v fs x h j q rest
    of v (Some fs) None h j q rest = rest j q
    of v None l h j q rest = rest j q

-- the group of a number is of the function of that number
each_at : (gs : List StoredText) (ps : List CodeGroup) → AreGroupsOf gs ps → (n : ℕ) (q : CodeGroup) → slice_get ps n ≡ Some q → (g : StoredText) × (slice_get gs n ≡ Some g) × IsGroupOf g q
each_at gs [] h n q at = absurd (cc at)
each_at [] (p ∷ ps) h n q at = absurd h
each_at (g ∷ gs) (p ∷ ps) h zero q at = (g, refl, subst (IsGroupOf g) (same p q at) h.0)
each_at (g ∷ gs) (p ∷ ps) h (suc n) q at = each_at gs ps h.1 n q at

-- root functions stand in the order of all
record StandApart (gs : List StoredText) (g h : StoredText) : Type 0 where
  first : ℕ
  second : ℕ
  one : slice_get gs first ≡ Some g
  two : slice_get gs second ≡ Some h
  order : first < second

further : (u : StoredText) (gs : List StoredText) (g h : StoredText) → StandApart gs g h → StandApart (u ∷ gs) g h
further u gs g h r = (let order = r.order in record { first = suc r.first; second = suc r.second; one = r.one; two = r.two; order = omega (arith, order) })

root_place : (gs : List StoredText) (n : ℕ) (g : StoredText) → slice_get (root_functions gs) n ≡ Some g → (k : ℕ) × (slice_get gs k ≡ Some g)
root_place [] n g at = absurd (cc at)
root_place (u ∷ gs) n g at = of u.subject.is_root n at (λ m q. let r = root_place gs m g q in (suc r.0, r.1))
  where
    of : (b : Bool) (n : ℕ) → slice_get (if b then u ∷ root_functions gs else root_functions gs) n ≡ Some g → ((m : ℕ) → slice_get (root_functions gs) m ≡ Some g →
        (k : ℕ) × (slice_get (u ∷ gs) k ≡ Some g)) → (k : ℕ) × (slice_get (u ∷ gs) k ≡ Some g)
    of true zero q rest = (0, q)
    of true (suc m) q rest = rest m q
    of false m q rest = rest m q

roots_apart : (gs : List StoredText) (m n : ℕ) (g h : StoredText) → m < n → slice_get (root_functions gs) m ≡ Some g → slice_get (root_functions gs) n ≡ Some h → StandApart gs g h
roots_apart [] m n g h less at there = absurd (cc at)
roots_apart (u ∷ gs) m n g h less at there = of u.subject.is_root m n less at there (λ i j k x y. further u gs g h (roots_apart gs i j g h k x y)) (λ j y. root_place gs j h y)
  where
    of : (b : Bool) (m n : ℕ) → m < n → slice_get (if b then u ∷ root_functions gs else root_functions gs) m ≡ Some g → slice_get (if b then u ∷ root_functions gs else root_functions gs) n ≡ Some h →
        ((i j : ℕ) → i < j → slice_get (root_functions gs) i ≡ Some g → slice_get (root_functions gs) j ≡ Some h → StandApart (u ∷ gs) g h) →
        ((j : ℕ) → slice_get (root_functions gs) j ≡ Some h → (k : ℕ) × (slice_get gs k ≡ Some h)) → StandApart (u ∷ gs) g h
    of false i j k x y rest place = rest i j k x y
    of true (suc i) (suc j) k x y rest place = rest i j (omega (arith, k)) x y
    of true (suc i) zero k x y rest place = absurd (omega (arith, k))
    of true zero zero k x y rest place = absurd (omega (arith, k))
    of true zero (suc j) k x y rest place = (let r = place j y in record { first = 0; second = suc r.0; one = x; two = r.1; order = omega arith })

module _ (a : Algorithm) (sch : Schedule) (l : Lowered) (well : IsAlgorithm a) (groups : HasGroups a (stored_functions a sch) l) (within : AreRegions (stored_functions a sch)
    groups.placed.regions) where
  abbrev ps : List CodeGroup
  ps = l.plan.groups.items

  -- groups of the same function are one
  apart : (m n : ℕ) (p q : CodeGroup) → m < n → slice_get ps m ≡ Some p → slice_get ps n ≡ Some q → string_bytes p.function ≡ string_bytes q.function → ⊥
  apart m n p q less at there named =
      let one = each_at (root_functions (stored_functions a sch)) ps groups.each m p at in
      let two = each_at (root_functions (stored_functions a sch)) ps groups.each n q there in
      let s = roots_apart (stored_functions a sch) m n one.0 two.0 less one.1 two.1 in
      let r = rises a sch (flags (subjects a sch)) a.functions s.first s.second one.0 two.0 s.order s.one s.two in
      let names : r.one.name ≡ r.two.name = r.named_one ∙ sym one.2.named ∙ named ∙ two.2.named ∙ sym r.named_two in
      let first = at_map (λ (f : Function). f.name) a.functions r.first r.one r.at_one ∙ ap (λ (x : List ℕ). Some x) names in
      let second = at_map (λ (f : Function). f.name) a.functions r.second r.two r.at_two in
      let same_place : suc r.first ≡ suc r.second = well.names (suc r.first) (suc r.second) r.two.name first second in
      let order = r.order in
      omega (arith, same_place, order)

  lacks_none : (n : ℕ) (q : CodeGroup) → IsGroupAt a sch l well groups n q → LacksVariables a (string_bytes q.function) (length q.region) → ⊥
  lacks_none n q g lacks =
      let e = g.body.entry in
      let w = found a sch (flags (subjects a sch)) e.0 a.functions g.stored.place g.stored.at in
      let region = region_at true (stored_functions a sch) groups.placed.regions n e within g.body.at in
      let named : string_bytes q.function ≡ w.function.name = g.over.named ∙ ap (λ (u : StoredText). u.subject.name) w.is in
      let parts : parts_named a (string_bytes q.function) ≡ Some (parts_of w.function) =
      ap (parts_named a) named ∙ ap (λ (o : Option Function). option_map parts_of o) (named_here a well w.place w.function w.at) in
      let long : length w.function.variables ≡ length q.region =
      sym (ap length g.over.region ∙ whole_long e.1.region ∙ region.long ∙ ap (λ (u : StoredText). length u.subject.variables) w.is) in
      (subst (λ (o : Option Parts). MatchOption o (Unit {0}) (λ f. ¬ (length f.variables ≡ length q.region))) parts lacks) long

  unknown_none : (n : ℕ) (q : CodeGroup) → slice_get ps n ≡ Some q → GroupNamesUnknown a (plan_of l.plan) n (group_of q) → ⊥
  unknown_none n q at (inl (k, h, less, is, named)) =
      let y = at_below (take n (map group_of ps)) k less in
      let same_group : y.0 ≡ h = sym (get_or_from_slice_get (take n (map group_of ps)) k y.0 h y.1) ∙ is in
      let t = taken_at (map group_of ps) n k y.0 y.1 in
      let z = from_map group_of ps k y.0 t.1 in
      apart k n z.0 q t.0 z.1 at (ap (λ (g : Group). g.function) (sym z.2 ∙ same_group) ∙ named)
  unknown_none n q at (inr (inl lacks)) = lacks_none n q (group_there a sch l well groups n q at) lacks
  unknown_none n q at (inr (inr other)) =
      let g = group_there a sch l well groups n q at in
      no_other g.body.entry.1.region (subst (RegionNamesOther []) g.over.region other)

  none_begins : (line : ℕ) → Begins (plan_of l.plan) (GroupNamesUnknown a (plan_of l.plan)) line → ⊥
  none_begins line b =
      let x = from_map group_of ps b.number b.group b.there in
      unknown_none b.number x.0 x.1 (subst (GroupNamesUnknown a (plan_of l.plan) b.number) x.2 b.so)

pub known : AllGroupLinesAreKnown
known a s l well legal groups line b = none_begins a s l well groups (all_regions a s l groups) line b
