-- Where no inner loop of a split is parallel or split again, each piece has a block in each dimension.
use Rattle.std.proofs.Common.{◌≡◌, ℕ, ◌+◌, Bool, true, false, ◌||◌, List, [], ◌∷◌, Option, Some, refl, sym, ap, ◌∙◌}
use Rattle.std.specs.Prelude.{find, if◌then◌else◌}
use Rattle.std.specs.List.{list_any}
use Rattle.std.specs.Option.{option_map}
use Rattle.lin.specs.Forms.{Form}
use Rattle.meaning.specs.Names.{same_name}
use Rattle.sched.specs.declared.schedule.Split.{Split}
use Rattle.sched.specs.declared.placing.Loop.{Loop}
use Rattle.sched.specs.declared.numbers.Numbers.{Numbers}
use Rattle.sched.specs.declared.numbers.Extent.{Extent}
use Rattle.sched.specs.declared.skeleton.Known.{Known}
use Rattle.sched.specs.Placing.{has_loop}
use Rattle.sched.specs.Numbers.{loop_numbers, numbers_named, parallel_loops}
use Rattle.sched.specs.Standing.{form_named, counted_from}
use Rattle.sched.specs.Skeleton.{SkeletonText, grid_forms}
use Rattle.sched.specs.Stored.{FormulaText, StoredText}
use Rattle.regions.specs.Regions.{bodies_from, skeleton_of}
use Rattle.blocks.specs.Blocks.{PartText, Whole, Run, Scattered, LayText, is_parallel_named, alone_by, uncut, joined, part_of, lay_over}
use Rattle.lower.specs.Owning.{is_scattered, has_scattered}
use Rattle.lower.proofs.Grids.{parallel_named, head_of}
use Rattle.completeness.specs.Parted.{KeepsInner}

-- a parallel loop has a form over the grid
grid_form : (rs : List Numbers) (n : ℕ) (ls : List Loop) (x : List ℕ) → has_loop ls x ≡ true → (f : Form) × (form_named (grid_forms rs n ls) x ≡ Some f)
grid_form rs n [] x h = absurd (cc h)
grid_form rs n (l ∷ ls) x h = of (same_name l.name x) refl h (grid_form rs (n + 1) ls x)
  where
    form : Form
    form = counted_from (numbers_named rs l.name).low n

    chosen : Bool → Option Form
    chosen b = option_map (λ (w : Known). w.form) (if b then Some (record { name = l.name; form = form }) else find (λ w. same_name w.name x) (grid_forms rs (n + 1) ls))

    of : (b : Bool) → same_name l.name x ≡ b → (b || has_loop ls x) ≡ true → (has_loop ls x ≡ true → (f : Form) × (form_named (grid_forms rs (n + 1) ls) x ≡ Some f)) →
        (f : Form) × (form_named (grid_forms rs n (l ∷ ls)) x ≡ Some f)
    of true e k rest = (form, ap chosen e)
    of false e k rest =
        let f = rest k in
        (f.0, ap chosen e ∙ f.1)

both_false : (a b : Bool) → a ≡ false → b ≡ false → (a || b) ≡ false
both_false true b h k = cc h
both_false false b h k = k

first_false : (a b : Bool) → (a || b) ≡ false → a ≡ false
first_false true b h = h
first_false false b h = refl

second_false : (a b : Bool) → (a || b) ≡ false → b ≡ false
second_false true b h = absurd (cc h)
second_false false b h = h

module _ (l : LayText) (forms : (x : List ℕ) → is_parallel_named l x ≡ true → (f : Form) × (form_named l.known x ≡ Some f)) where
  uncut_fits : (x : List ℕ) → is_scattered (uncut l x) ≡ false
  uncut_fits x = of (is_parallel_named l x) refl
    where
      of : (b : Bool) → is_parallel_named l x ≡ b → is_scattered (if b then alone_by (form_named l.known x) else Whole) ≡ false
      of true e = let f = forms x e in ap (λ (o : Option Form). is_scattered (alone_by o)) f.1
      of false e = refl

  whole_inner : (cs : List Split) (x : List ℕ) → is_parallel_named l x ≡ false → list_any (λ c. same_name c.whole x) cs ≡ false → part_of l x cs ≡ Whole
  whole_inner [] x serial uncut = ap (λ (b : Bool). if b then alone_by (form_named l.known x) else Whole) serial
  whole_inner (c ∷ cs) x serial uncut =
      ap (λ (b : Bool). if b then joined l c cs (part_of l c.outer cs) (part_of l c.inner cs) else part_of l x cs) (first_false (same_name c.whole x) (list_any (λ c. same_name c.whole x) cs) uncut)
      ∙ whole_inner cs x serial (second_false (same_name c.whole x) (list_any (λ c. same_name c.whole x) cs) uncut)

  part_fits : (cs : List Split) → KeepsInner l.loops cs → (x : List ℕ) → is_scattered (part_of l x cs) ≡ false
  part_fits [] k x = uncut_fits x
  part_fits (c ∷ cs) k x = of (same_name c.whole x) (part_fits cs k.2)
    where
      by : (p : PartText) → is_scattered p ≡ false → is_scattered (joined l c cs p Whole) ≡ false
      by Whole e = refl
      by (Run b) e = refl
      by Scattered e = e

      of : (b : Bool) → ((y : List ℕ) → is_scattered (part_of l y cs) ≡ false) → is_scattered (if b then joined l c cs (part_of l c.outer cs) (part_of l c.inner cs) else part_of l x cs) ≡ false
      of true rest = ap (λ (p : PartText). is_scattered (joined l c cs (part_of l c.outer cs) p)) (whole_inner cs c.inner k.0 k.1) ∙ by (part_of l c.outer cs) (rest c.outer)
      of false rest = rest x

  all_fit : (cs : List Split) → KeepsInner l.loops cs → (xs : List (List ℕ)) → list_any (λ x. is_scattered (part_of l x cs)) xs ≡ false
  all_fit cs k [] = refl
  all_fit cs k (x ∷ xs) = both_false (is_scattered (part_of l x cs)) (list_any (λ x. is_scattered (part_of l x cs)) xs) (part_fits cs k x) (all_fit cs k xs)

pub none_scattered : (g : StoredText) (fs : List FormulaText) (region : List Extent) (k : SkeletonText) → skeleton_of g fs region ≡ Some k → KeepsInner g.placed.loops g.placed.cuts →
    has_scattered g region k ≡ false
none_scattered g fs region k laid keeps =
    let rs = loop_numbers g.subject.variables g.placed.cuts region in
    let head = head_of g.subject.variables (bodies_from g.changes 0 g.subject.reductions fs) g.placed region k laid in
    all_fit (lay_over g region k)
    (λ x named. let f = grid_form rs 0 (parallel_loops g.placed.loops) x (sym (parallel_named g.placed.loops x) ∙ named) in (f.0, head.known x f.0 f.1))
    g.placed.cuts keeps g.subject.variables
