-- The origins of a piece's own places are within the limits of forms: `lower` tests the sums that it makes them of, and else makes no plan.
use Rattle.std.proofs.Common.{◌≡◌, ℕ, zero, suc, ◌+◌, Bool, true, false, List, [], ◌∷◌, ◌++◌, Option, Some, None, refl, subst, arith}
use Rattle.std.specs.Prelude.{ℤ, pos, Ok, if◌then◌else◌, slice_get}
use Rattle.std.specs.List.{AllByRecursion}
use Rattle.std.specs.Ordering.{int_eq}
use Rattle.lin.specs.Forms.{Form, number, combined}
use Rattle.lin.proofs.Limits.{combined-means}
use Rattle.bounds.proofs.ListSound.{all-append}
use Rattle.meaning.specs.Algorithm.{Algorithm}
use Rattle.meaning.specs.Names.{same_name}
use Rattle.sched.specs.declared.schedule.Split.{Split}
use Rattle.sched.specs.declared.schedule.Tail.{Tail}
use Rattle.sched.specs.declared.schedule.Tail.TheVariants.{Guard, Roundup, Shift}
use Rattle.sched.specs.declared.numbers.Extent.{Extent}
use Rattle.sched.specs.declared.numbers.Numbers.{Numbers}
use Rattle.sched.specs.declared.skeleton.Known.{Known}
use Rattle.sched.specs.Numbers.{numbers_named}
use Rattle.sched.specs.Standing.{◌>>=◌, form_named}
use Rattle.sched.specs.Skeleton.{SkeletonText}
use Rattle.sched.specs.Stored.{StoredText}
use Rattle.sched.specs.Regions.{LaidText}
use Rattle.sched.specs.Fetches.{Entry}
use Rattle.lower.specs.Groups.{rooted}
use Rattle.sched.specs.Blocks.{factor_of}
use Rattle.blocks.specs.Blocks.{own_last, claim_last, BlockText, PartText, Whole, Run, Scattered, LayText, alone_by, is_parallel_named, uncut, is_guarded, product, reach_over, end_of}
use Rattle.blocks.specs.Blocks.{places_by, whole_dimension, own_places, dimensions_of, lay_over}
use Rattle.blocks.specs.Planned.{maybe_stepped, maybe_moved, told_start, told_limits, told_inner_limits, shifted_origin, told_origin, told_inner_origin, told_blocks, told_within}
use Rattle.blocks.specs.Planned.{told_joined}
use Rattle.blocks.specs.Planned.{told_part}
use Rattle.blocks.specs.Planned.{told_span, told_by, told_dimension, add_dimensions, told_dimensions}
use Rattle.lower.specs.Planned.{is_owned_by, is_written, is_planned, name_unless, or_later, unplanned_at}
use Rattle.lower.specs.Planned.{none_inside, first_unplanned, first_unlaid, unplanned_over}
use Rattle.blocks.proofs.Laying.{bound, same}
use Rattle.blocks.proofs.Planned.{dimensions_are}
use Rattle.completeness.proofs.Limited.{Limited, LimitedIf, named_limited}
use Rattle.completeness.proofs.Needed.{PlaceLimited}

-- a dimension of what belongs to a piece
abbrev Given : (A B C D : Type 0) → (A → B → C → D) → Type 0
Given A B C D f = D

abbrev Dimension : Type 0
Dimension = Given _ _ _ _ (λ l x cs. whole_dimension l x cs)

abbrev OriginLimited : PartText → Type 0
OriginLimited Whole = Unit {0}
OriginLimited (Run b) = LimitedIf b.origin
OriginLimited Scattered = Unit {0}

sum_limited : (a : Form) (k : ℤ) (b f : Form) → combined a k b ≡ Some f → Limited f
sum_limited a k b f e = (combined-means a k b f e).within

stepped_limited : (low factor : ℤ) (o made : Option Form) → maybe_stepped low factor o ≡ Some made → LimitedIf made
stepped_limited low factor None made e = subst LimitedIf (same None made e) tt
stepped_limited low factor (Some f) made e =
    let b = bound (combined (number low) factor f) (λ g. Some (Some g)) made e in subst LimitedIf (same (Some b.value) made b.comes) (sum_limited (number low) factor f b.value b.is)

moved_limited : (by o made : Option Form) → maybe_moved by o ≡ Some made → LimitedIf made
moved_limited None o made e = subst LimitedIf (same None made e) tt
moved_limited (Some by) None made e = subst LimitedIf (same None made e) tt
moved_limited (Some by) (Some f) made e =
    let b = bound (combined by (pos 1) f) (λ g. Some (Some g)) made e in subst LimitedIf (same (Some b.value) made b.comes) (sum_limited by (pos 1) f b.value b.is)

module _ (l : LayText) (known : AllByRecursion (λ (k : Known). Limited k.form) l.known) (starts : AllByRecursion (λ (k : Known). Limited k.form) l.starts)
    (first : (x : List ℕ) → Limited (number (numbers_named l.numbers x).low)) where
  uncut_limited : (x : List ℕ) → OriginLimited (uncut l x)
  uncut_limited x = of (is_parallel_named l x) (form_named l.known x) (named_limited l.known x known)
    where
      of : (v : Bool) (o : Option Form) → LimitedIf o → OriginLimited (if v then alone_by o else Whole)
      of true None h = tt
      of true (Some f) h = h
      of false o h = tt

  origin_limited : (c : Split) (own : Numbers) (outer : BlockText) (made : Option Form) → told_origin l c own outer ≡ Some made → LimitedIf made
  origin_limited c own outer made e = of c.tail e
    where
      shifted : (v : Bool) → LimitedIf (if v then form_named l.starts c.whole else None)
      shifted true = named_limited l.starts c.whole starts
      shifted false = tt

      of : (t : Tail) → (elim t [
        | Guard ↦ maybe_stepped own.low (factor_of c) outer.origin
        | Roundup ↦ maybe_stepped own.low (factor_of c) outer.origin
        | Shift ↦ Some (shifted_origin l c outer)
      ]) ≡ Some made → LimitedIf made
      of Guard q = stepped_limited own.low (factor_of c) outer.origin made q
      of Roundup q = stepped_limited own.low (factor_of c) outer.origin made q
      of Shift q = subst LimitedIf (same (shifted_origin l c outer) made q) (shifted (int_eq outer.length (pos 1)))

  inner_limited : (c : Split) (cs : List Split) (own : Numbers) (outer inner : BlockText) (made : Option Form) → told_inner_origin l c cs own outer inner ≡ Some made → LimitedIf made
  inner_limited c cs own outer inner made e = of (is_guarded l c cs own) e
    where
      of : (v : Bool) → (if v then Some None else (told_origin l c own outer >>= λ o. maybe_moved o inner.origin)) ≡ Some made → LimitedIf made
      of true q = subst LimitedIf (same None made q) tt
      of false q = (let b = bound (told_origin l c own outer) (λ o. maybe_moved o inner.origin) made q in moved_limited b.value inner.origin made b.comes)

  module _ (c : Split) (cs : List Split) (own : Numbers) (outer : BlockText) where
    blocks_limited : (p : PartText) → told_blocks l c cs own outer ≡ Some p → OriginLimited p
    blocks_limited p e =
        let reach = reach_over c outer (end_of l.numbers c.inner cs) in
        let run : Form → List Form → List Form → Option Form → PartText = λ s o k g.
        Run (record { start = s; length = product (factor_of c) outer.length; own_limits = o; claim_limits = k; origin = g; reach = reach }) in
        let last : Form → List Form → List Form → Option PartText = λ s o k. told_origin l c own outer >>= λ g. Some (run s o k g) in
        let a = bound (told_start c own outer.start) (λ s. told_limits c own (own_last c own) outer.own_limits >>= λ o. told_limits c own (claim_last c own) outer.claim_limits >>= last s o) p e in
        let b = bound (told_limits c own (own_last c own) outer.own_limits) (λ o. told_limits c own (claim_last c own) outer.claim_limits >>= last a.value o) p a.comes in
        let d = bound (told_limits c own (claim_last c own) outer.claim_limits) (last a.value b.value) p b.comes in
        let g = bound (told_origin l c own outer) (λ g. Some (run a.value b.value d.value g)) p d.comes in
        subst OriginLimited (same (run a.value b.value d.value g.value) p g.comes) (origin_limited c own outer g.value g.is)

    within_limited : (inner : BlockText) (p : PartText) → told_within l c cs own outer inner ≡ Some p → OriginLimited p
    within_limited inner p e =
        let run : Form → List Form → List Form → Option Form → PartText = λ s o k g. Run (record {
          start = s;
          length = inner.length;
          own_limits = o;
          claim_limits = k;
          origin = g;
          reach =
              inner.reach;
        }) in
        let last : Form → List Form → List Form → Option PartText = λ s o k. told_inner_origin l c cs own outer inner >>= λ g. Some (run s o k g) in
        let owned : Form → Option (List Form) = λ base. told_inner_limits c own base (own_last c own) inner.own_limits outer.own_limits in
        let claimed : Form → Option (List Form) = λ base. told_inner_limits c own base (claim_last c own) inner.claim_limits outer.claim_limits in
        let a = bound (told_start c own outer.start) (λ base. combined base (pos 1) inner.start >>= λ s. owned base >>= λ o. claimed base >>= last s o) p e in
        let s = bound (combined a.value (pos 1) inner.start) (λ s. owned a.value >>= λ o. claimed a.value >>= last s o) p a.comes in
        let o = bound (owned a.value) (λ o. claimed a.value >>= last s.value o) p s.comes in
        let k = bound (claimed a.value) (last s.value o.value) p o.comes in
        let g = bound (told_inner_origin l c cs own outer inner) (λ g. Some (run s.value o.value k.value g)) p k.comes in
        subst OriginLimited (same (run s.value o.value k.value g.value) p g.comes) (inner_limited c cs own outer inner g.value g.is)

  scattered : (p : PartText) → Some Scattered ≡ Some p → OriginLimited p
  scattered p e = subst OriginLimited (same Scattered p e) tt

  joined_limited : (c : Split) (cs : List Split) (outer inner p : PartText) → told_joined l c cs outer inner ≡ Some p → OriginLimited p
  joined_limited c cs Whole Whole p e = subst OriginLimited (same Whole p e) tt
  joined_limited c cs Whole (Run i) p e = scattered p e
  joined_limited c cs Whole Scattered p e = scattered p e
  joined_limited c cs Scattered Whole p e = scattered p e
  joined_limited c cs Scattered (Run i) p e = scattered p e
  joined_limited c cs Scattered Scattered p e = scattered p e
  joined_limited c cs (Run o) Whole p e = blocks_limited c cs (numbers_named l.numbers c.whole) o p e
  joined_limited c cs (Run o) Scattered p e = scattered p e
  joined_limited c cs (Run o) (Run i) p e = of (int_eq o.length (pos 1)) e
    where
      of : (v : Bool) → (if v then told_within l c cs (numbers_named l.numbers c.whole) o i else Some Scattered) ≡ Some p → OriginLimited p
      of true q = within_limited c cs (numbers_named l.numbers c.whole) o i p q
      of false q = scattered p q

  part_limited : (x : List ℕ) (cs : List Split) (p : PartText) → told_part l x cs ≡ Some p → OriginLimited p
  part_limited x [] p e = subst OriginLimited (same (uncut l x) p e) (uncut_limited x)
  part_limited x (c ∷ cs) p e = of (same_name c.whole x) e (λ q. part_limited x cs p q)
    where
      of : (v : Bool) → (if v then (told_part l c.outer cs >>= λ outer. told_part l c.inner cs >>= λ inner. told_joined l c cs outer inner) else told_part l x cs) ≡ Some p →
          (told_part l x cs ≡ Some p → OriginLimited p) → OriginLimited p
      of false q rest = rest q
      of true q rest =
          let a = bound (told_part l c.outer cs) (λ outer. told_part l c.inner cs >>= λ inner. told_joined l c cs outer inner) p q in
          let b = bound (told_part l c.inner cs) (λ inner. told_joined l c cs a.value inner) p a.comes in
          joined_limited c cs a.value b.value p b.comes

  places_limited : (x : List ℕ) (cs : List Split) (reach : ℤ) (o : Option Form) → LimitedIf o → PlaceLimited (places_by l x cs reach o)
  places_limited x cs reach None h = first x
  places_limited x cs reach (Some f) h = h

  by_limited : (x : List ℕ) (cs : List Split) (p : PartText) (d : Dimension) → OriginLimited p → told_by l x cs p ≡ Some d → PlaceLimited d.places
  by_limited x cs Whole d h e = subst (λ (d : Dimension). PlaceLimited d.places) (same (whole_dimension l x cs) d e) (first x)
  by_limited x cs Scattered d h e = subst (λ (d : Dimension). PlaceLimited d.places) (same (whole_dimension l x cs) d e) (first x)
  by_limited x cs (Run r) d h e =
      let places = places_by l x cs r.reach r.origin in
      let a = bound (told_span r.start r.length r.own_limits) (λ own. told_span r.start r.length r.claim_limits >>= λ claim. Some (record { own = own; claim = claim; places = places })) d e in
      let b = bound (told_span r.start r.length r.claim_limits) (λ claim. Some (record { own = a.value; claim = claim; places = places })) d a.comes in
      subst (λ (d : Dimension). PlaceLimited d.places) (same (record { own = a.value; claim = b.value; places = places }) d b.comes) (places_limited x cs r.reach r.origin h)

  all_limited : (cs : List Split) (xs : List (List ℕ)) (before ds : List Dimension) → AllByRecursion (λ d. PlaceLimited d.places) before → add_dimensions l cs xs before ≡ Some ds →
      AllByRecursion (λ d. PlaceLimited d.places) ds
  all_limited cs [] before ds h e = subst (AllByRecursion (λ d. PlaceLimited d.places)) (same before ds e) h
  all_limited cs (x ∷ xs) before ds h e =
      let b = bound (told_dimension l cs x) (λ d. add_dimensions l cs xs (before ++ d ∷ [])) ds e in
      let p = bound (told_part l x cs) (told_by l x cs) b.value b.is in
      let here = by_limited x cs p.value b.value (part_limited x cs p.value p.is) p.comes in
      all_limited cs xs (before ++ b.value ∷ []) ds (all-append (λ d. PlaceLimited d.places) before (b.value ∷ []) h (here, tt)) b.comes

each_place : (ds : List Dimension) → AllByRecursion (λ d. PlaceLimited d.places) ds → AllByRecursion PlaceLimited (own_places ds)
each_place [] h = tt
each_place (d ∷ ds) h = (h.0, each_place ds h.1)

-- where the dimensions are told
pub own_limited : (g : StoredText) (region : List Extent) (k : SkeletonText) (ds : List Dimension) → told_dimensions g region k ≡ Some ds →
    AllByRecursion (λ (m : Known). Limited m.form) k.known → AllByRecursion (λ (m : Known). Limited m.form) k.starts →
    ((x : List ℕ) → Limited (number (numbers_named (lay_over g region k).numbers x).low)) → AllByRecursion PlaceLimited (own_places (dimensions_of g region k))
own_limited g region k ds told known starts first =
    let all = all_limited (lay_over g region k) known starts first g.placed.cuts g.subject.variables [] ds tt told in
    subst (λ (ds : List Dimension). AllByRecursion PlaceLimited (own_places ds)) (dimensions_are g region k ds told) (each_place ds all)

-- ---- they are told

or_none : (o later : Option (List ℕ)) → or_later o later ≡ None → (o ≡ None) × (later ≡ None)
or_none (Some x) later e = absurd (cc e)
or_none None later e = (refl, e)

unless_none : (v : Bool) (x : List ℕ) → name_unless v x ≡ None → v ≡ true
unless_none true x e = refl
unless_none false x e = absurd (cc e)

first_true : (a b : Bool) → (if a then b else false) ≡ true → a ≡ true
first_true true b e = refl
first_true false b e = absurd (cc e)

all_planned : (a : Algorithm) (all : List Entry) (n : ℕ) (es : List Entry) → first_unplanned a all n (none_inside es) es ≡ None → (i : ℕ) (e : Entry) → slice_get es i ≡ Some e → is_planned a all (n + i) [] e ≡ true
all_planned a all n [] h i e at = absurd (cc at)
all_planned a all n (x ∷ es) h zero e at =
    let parts = or_none (unplanned_at a all n (Ok []) x) (first_unplanned a all (n + 1) (none_inside es) es) h in
    let is : x ≡ e = cc at in
    let none : n ≡ n + 0 = omega arith in
    subst (λ (m : ℕ). is_planned a all m [] e ≡ true) none (subst (λ (y : Entry). is_planned a all n [] y ≡ true) is (unless_none (is_planned a all n [] x) x.0.subject.name parts.0))
all_planned a all n (x ∷ es) h (suc i) e at =
    let parts = or_none (unplanned_at a all n (Ok []) x) (first_unplanned a all (n + 1) (none_inside es) es) h in
    let next : (n + 1) + i ≡ n + suc i = omega arith in
    subst (λ (m : ℕ). is_planned a all m [] e ≡ true) next (all_planned a all (n + 1) es parts.1 i e at)

told_of : (g : StoredText) (region : List Extent) (o : Option (List Dimension)) → is_owned_by g region o ≡ true → (ds : List Dimension) × (o ≡ Some ds)
told_of g region None e = absurd (cc e)
told_of g region (Some ds) e = (ds, refl)

pub dimensions_told : (a : Algorithm) (gs : List StoredText) (ls : List (Option LaidText)) → unplanned_over a gs ls (none_inside (rooted true gs ls)) ≡ None → (i : ℕ) (e : Entry) → slice_get (rooted true gs ls) i ≡ Some e →
    (ds : List Dimension) × (told_dimensions e.0 e.1.region e.1.skeleton ≡ Some ds)
dimensions_told a gs ls h i e at =
    let all = rooted true gs ls in
    let parts = or_none (first_unlaid gs ls) (first_unplanned a all 0 (none_inside all) all) h in
    let planned = all_planned a all 0 all parts.1 i e at in
    let told = told_dimensions e.0 e.1.region e.1.skeleton in
    told_of e.0 e.1.region told (first_true (is_owned_by e.0 e.1.region told) (is_written a all (0 + i) [] e) planned)
