-- The pieces of each group that is made of whatever schedule part its region, where that is a region.
use Rattle.std.proofs.Common.{◌≡◌, ℕ, zero, suc, ◌+◌, Bool, true, false, List, [], ◌∷◌, map, Option, Some, None, refl, sym, ap, ◌∙◌, subst, arith}
use Rattle.std.specs.Prelude.{slice_get, string_bytes}
use Rattle.plan.specs.declared.plan.Group.{Group as CodeGroup}
use Rattle.plan.specs.declared.certificate.cert.Own.{Own}
use Rattle.plan.specs.View.{group_of, plan_of}
use Rattle.plan.specs.Certificate.Certificate.{certificate_of}
use Rattle.plan.specs.Certificate.Cells.{own_region}
use Rattle.meaning.specs.Algorithm.{Algorithm}
use Rattle.meaning.specs.Conditions.{IsAlgorithm}
use Rattle.sched.specs.Schedule.{Schedule}
use Rattle.sched.specs.Legal.{IsLegal}
use Rattle.headline.proofs.Lists.{from_map}
use Rattle.headline.proofs.Members.{got}
use Rattle.lower.specs.declared.lowering.Lowered.{Lowered}
use Rattle.sched.specs.Stored.{FormulaText, StoredText}
use Rattle.lower.specs.Stored.{stored_functions}
use Rattle.sched.specs.Regions.{LaidText}
use Rattle.regions.specs.Regions.{skeleton_of, bodies_from}
use Rattle.blocks.specs.Blocks.{dimensions_of, owned_region}
use Rattle.sched.specs.Bounded.{whole}
use Rattle.sched.specs.Fetches.{Entry}
use Rattle.lower.specs.Groups.{is_same, rooted_if, rooted, AreMade, IsOverRegion, AreOverRegions, HasGroups}
use Rattle.blocks.specs.Groups.{grid_over}
use Rattle.lower.specs.Owning.{has_scattered, IsLaidBy}
use Rattle.lower.proofs.Grids.{head_of}
use Rattle.completeness.specs.Parted.{PartsGroup, IsPartedGroup, ArePartedGroups, KeepsInner}
use Rattle.completeness.specs.Looped.{IsRegion, IsRegionIf, AreRegions, RootInnersAreKept, CellsAreParted}
use Rattle.completeness.proofs.Laid.{arranged}
use Rattle.completeness.proofs.LoopedAsked.{all_regions}
use Rattle.completeness.proofs.Owned.{own_found, parts}
use Rattle.completeness.proofs.Listed.{parted_cells}
use Rattle.completeness.proofs.Unscattered.{none_scattered}

-- ---- functions that have definitions and a region

-- one of those that are root functions, or of those that are not
pub record IsRooted (is : Bool) (gs : List StoredText) (ls : List (Option LaidText)) (e : Entry) : Type 0 where
  pub place : ℕ
  pub stored : slice_get gs place ≡ Some e.0
  pub laid : slice_get ls place ≡ Some (Some e.1)
  pub defined : e.0.formulas ≡ Some e.2
  pub root : is_same e.0.subject.is_root is ≡ true

later_rooted : (is : Bool) (g : StoredText) (gs : List StoredText) (l : Option LaidText) (ls : List (Option LaidText)) (e : Entry) → IsRooted is gs ls e → IsRooted is (g ∷ gs) (l ∷ ls) e
later_rooted is g gs l ls e h = record { place = suc h.place; stored = h.stored; laid = h.laid; defined = h.defined; root = h.root }

first_rooted : (is b : Bool) (g : StoredText) (gs : List StoredText) (l : Option LaidText) (ls : List (Option LaidText)) (o : Option (List FormulaText)) (m : Option LaidText) (rest : List Entry) →
    is_same g.subject.is_root is ≡ b → g.formulas ≡ o → l ≡ m → ((n : ℕ) (e : Entry) → slice_get rest n ≡ Some e → IsRooted is gs ls e) → (n : ℕ) (e : Entry) →
    slice_get (rooted_if b g o m rest) n ≡ Some e → IsRooted is (g ∷ gs) (l ∷ ls) e
first_rooted is true g gs l ls (Some fs) (Some m) rest root defined laid more zero e at =
    let same : (g, m, fs) ≡ e = cc at in
    subst (IsRooted is (g ∷ gs) (l ∷ ls)) same (record { place = 0; stored = refl; laid = ap (λ (o : Option LaidText). Some o) laid; defined = defined; root = root })
first_rooted is true g gs l ls (Some fs) (Some m) rest root defined laid more (suc n) e at = later_rooted is g gs l ls e (more n e at)
first_rooted is false g gs l ls (Some fs) (Some m) rest root defined laid more n e at = later_rooted is g gs l ls e (more n e at)
first_rooted is b g gs l ls (Some fs) None rest root defined laid more n e at = later_rooted is g gs l ls e (more n e at)
first_rooted is b g gs l ls None m rest root defined laid more n e at = later_rooted is g gs l ls e (more n e at)

pub rooted_at : (is : Bool) (gs : List StoredText) (ls : List (Option LaidText)) (n : ℕ) (e : Entry) → slice_get (rooted is gs ls) n ≡ Some e → IsRooted is gs ls e
rooted_at is [] ls n e at = absurd (cc at)
rooted_at is (g ∷ gs) [] n e at = absurd (cc at)
rooted_at is (g ∷ gs) (l ∷ ls) n e at =
    first_rooted is (is_same g.subject.is_root is) g gs l ls g.formulas l (rooted is gs ls) refl refl refl (λ m u there. rooted_at is gs ls m u there) n e at

-- ---- what is so of its region

pub skeleton_at : (gs : List StoredText) (ls : List (Option LaidText)) → AreOverRegions gs ls → (n : ℕ) (g : StoredText) (l : LaidText) (fs : List FormulaText) → slice_get gs n ≡ Some g →
    slice_get ls n ≡ Some (Some l) → g.formulas ≡ Some fs → skeleton_of g fs l.region ≡ Some l.skeleton
skeleton_at [] ls h n g l fs at there defined = absurd (cc at)
skeleton_at (u ∷ gs) [] h n g l fs at there defined = absurd (cc there)
skeleton_at (u ∷ gs) (m ∷ ls) h zero g l fs at there defined =
    let same : u ≡ g = cc at in
    let laid : m ≡ Some l = cc there in
    let here : IsOverRegion g (Some l) g.formulas = subst (λ (v : StoredText). IsOverRegion v (Some l) v.formulas) same (subst (λ (o : Option LaidText). IsOverRegion u o u.formulas) laid h.0) in
    subst (λ (o : Option (List FormulaText)). IsOverRegion g (Some l) o) defined here
skeleton_at (u ∷ gs) (m ∷ ls) h (suc n) g l fs at there defined = skeleton_at gs ls h.1 n g l fs at there defined

pub region_at : (gs : List StoredText) (ls : List (Option LaidText)) → AreRegions gs ls → (n : ℕ) (g : StoredText) (l : LaidText) → slice_get gs n ≡ Some g → slice_get ls n ≡ Some (Some l) →
    IsRegion g l
region_at [] ls h n g l at there = absurd (cc at)
region_at (u ∷ gs) [] h n g l at there = absurd (cc there)
region_at (u ∷ gs) (m ∷ ls) h zero g l at there =
    let same : u ≡ g = cc at in
    let laid : m ≡ Some l = cc there in
    subst (λ (v : StoredText). IsRegionIf v (Some l)) same (subst (IsRegionIf u) laid h.0)
region_at (u ∷ gs) (m ∷ ls) h (suc n) g l at there = region_at gs ls h.1 n g l at there

-- ---- groups

pub record IsMadeAt (es : List Entry) (os : List Own) (n : ℕ) (p : CodeGroup) : Type 0 where
  pub entry : Entry
  pub own : Own
  pub is : slice_get es n ≡ Some entry
  pub told : slice_get os n ≡ Some own
  pub named : string_bytes p.function ≡ entry.0.subject.name
  pub region : p.region ≡ map whole entry.1.region
  pub grid : p.grid.items ≡ grid_over entry.0 entry.1.region
  pub owned : own.region ≡ owned_region (dimensions_of entry.0 entry.1.region entry.1.skeleton)

later_made : (e : Entry) (es : List Entry) (o : Own) (os : List Own) (n : ℕ) (p : CodeGroup) → IsMadeAt es os n p → IsMadeAt (e ∷ es) (o ∷ os) (suc n) p
later_made e es o os n p h = record { entry = h.entry; own = h.own; is = h.is; told = h.told; named = h.named; region = h.region; grid = h.grid; owned = h.owned }

pub made_at : (es : List Entry) (m : ℕ) (ps : List CodeGroup) (os : List Own) → AreMade es m ps os → (n : ℕ) (p : CodeGroup) → slice_get ps n ≡ Some p → IsMadeAt es os n p
made_at [] m [] os made n p at = absurd (cc at)
made_at [] m (q ∷ ps) os made n p at = absurd made
made_at (e ∷ es) m [] os made n p at = absurd (cc at)
made_at (e ∷ es) m (q ∷ ps) [] made n p at = absurd made
made_at (e ∷ es) m (q ∷ ps) (o ∷ os) made zero p at =
    let same : q ≡ p = cc at in
    subst (IsMadeAt (e ∷ es) (o ∷ os) zero) same
    (record { entry = e; own = o; is = refl; told = refl; named = made.0.named; region = made.0.region; grid = made.0.grid; owned = made.1.owned })
made_at (e ∷ es) m (q ∷ ps) (o ∷ os) made (suc n) p at = later_made e es o os n p (made_at es (m + 1) ps os made.2 n p at)

module _ (a : Algorithm) (s : Schedule) (l : Lowered) (well : IsAlgorithm a) (legal : IsLegal a s) (groups : HasGroups a (stored_functions a s) l)
    (within : AreRegions (stored_functions a s) groups.placed.regions) where
  abbrev pub gs : List StoredText
  gs = stored_functions a s

  abbrev pub ps : List CodeGroup
  ps = l.plan.groups.items

  abbrev pub entries : List Entry
  entries = rooted true gs groups.placed.regions

  -- what is so of a function that has a region
  pub laid_by : (is : Bool) (e : Entry) → IsRooted is gs groups.placed.regions e → IsLaidBy e.0 e.1.region e.1.skeleton
  laid_by is e h =
      let placing = arranged a s well legal h.place e.0 h.stored in
      let region = region_at gs groups.placed.regions within h.place e.0 e.1 h.stored h.laid in
      record {
        formulas = e.2;
        directives = placing.directives;
        variables = placing.variables;
        placed = placing.placed;
        long = region.long;
        extents = region.extents;
        laid = skeleton_at gs groups.placed.regions groups.placed.around h.place e.0 e.1 e.2 h.stored h.laid h.defined;
      }

  -- the group of this number
  pub group_at : (n : ℕ) (p : CodeGroup) → slice_get ps n ≡ Some p → IsMadeAt entries l.certificate.own.items n p
  group_at n p at = made_at entries 0 ps l.certificate.own.items groups.placed.over n p at

  pub entry_at : (n : ℕ) (e : Entry) → slice_get entries n ≡ Some e → IsRooted true gs groups.placed.regions e
  entry_at n e at = rooted_at true gs groups.placed.regions n e at

  module _ (inner : RootInnersAreKept a s) where
    pub unscattered : (e : Entry) → IsRooted true gs groups.placed.regions e → has_scattered e.0 e.1.region e.1.skeleton ≡ false
    unscattered e h =
        let over = skeleton_at gs groups.placed.regions groups.placed.around h.place e.0 e.1 e.2 h.stored h.laid h.defined in
        none_scattered e.0 e.2 e.1.region e.1.skeleton over (got (λ (u : StoredText). u.subject.is_root ≡ true → KeepsInner u.placed.loops u.placed.cuts) gs h.place e.0 inner h.stored h.root)

    pub parted : ArePartedGroups (plan_of l.plan) (certificate_of l.certificate)
    parted n g at =
        let x = from_map group_of ps n g at in
        let w = group_at n x.0 x.1 in
        let e = w.entry in
        let h = entry_at n e w.is in
        let laid = laid_by true e h in
        let over = skeleton_at gs groups.placed.regions groups.placed.around h.place e.0 e.1 e.2 h.stored h.laid h.defined in
        let head = head_of e.0.subject.variables (bodies_from e.0.changes 0 e.0.subject.reductions e.2) e.0.placed e.1.region e.1.skeleton over in
        let counted : 0 + n ≡ n = omega arith in
        let told : own_region l.certificate.own.items n ≡ Some w.own.region =
        ap (own_region l.certificate.own.items) (sym counted) ∙ own_found ps l.certificate.own.items 0 groups.owned n w.own w.told in
        let parted : PartsGroup (group_of x.0) (owned_region (dimensions_of e.0 e.1.region e.1.skeleton)) =
        parts e.0 (group_of x.0) e.1.region e.1.skeleton laid (unscattered e h) w.region (w.grid ∙ sym head.grid) in
        subst (IsPartedGroup (certificate_of l.certificate) n) (sym x.2) (record { region = w.own.region; told = told; parts = subst (PartsGroup (group_of x.0)) (sym w.owned) parted })

pub cells_parted : CellsAreParted
cells_parted a s l well legal groups inner = parted_cells _ _ (parted a s l well legal groups (all_regions a s l groups) inner)
