-- The forms that the names of parallel loops stand for.
use Rattle.std.proofs.Common.{◌≡◌, ℕ, suc, ◌+◌, Bool, true, false, ◌||◌, List, [], ◌∷◌, Some, refl, sym, ap, ◌∙◌, arith}
use Rattle.std.specs.Prelude.{find, if◌then◌else◌, slice_get}
use Rattle.std.specs.Option.{option_map}
use Rattle.lin.specs.Forms.{Form}
use Rattle.meaning.specs.Names.{same_name}
use Rattle.soundness.proofs.Refines.{name_true}
use Rattle.sched.specs.declared.numbers.Numbers.{Numbers}
use Rattle.sched.specs.declared.placing.Loop.{Loop}
use Rattle.sched.specs.declared.skeleton.Known.{Known}
use Rattle.sched.specs.Numbers.{numbers_named, grid_counts}
use Rattle.sched.specs.Placing.{has_loop}
use Rattle.sched.specs.Standing.{form_named, counted_from}
use Rattle.sched.specs.Skeleton.{grid_forms}

-- ---- what is found by name

-- a parallel loop's form is one of a parallel loop of the name
pub grid_named : (rs : List Numbers) (x : List ℕ) (s : ℕ) (ls : List Loop) (f : Form) → form_named (grid_forms rs s ls) x ≡ Some f → has_loop ls x ≡ true
grid_named rs x s [] f e = absurd (cc e)
grid_named rs x s (l ∷ ls) f e = of (same_name l.name x) e (grid_named rs x (s + 1) ls f)
  where
    of : (b : Bool) → option_map (λ (u : Known). u.form) (if b then Some (record { name = l.name; form = counted_from (numbers_named rs l.name).low s }) else find (λ u. same_name u.name x)
        (grid_forms rs (s + 1) ls))
        ≡ Some f → (form_named (grid_forms rs (s + 1) ls) x ≡ Some f → has_loop ls x ≡ true) → (b || has_loop ls x) ≡ true
    of true q rest = refl
    of false q rest = rest q

-- by a symbol of the grid, which has as many numbers as the name
pub grid_place : (rs : List Numbers) (x : List ℕ) (s : ℕ) (ls : List Loop) (f : Form) → form_named (grid_forms rs s ls) x ≡ Some f →
    (j : ℕ) × (f ≡ counted_from (numbers_named rs x).low (s + j)) × (slice_get (grid_counts rs ls) j ≡ Some (numbers_named rs x).count)
grid_place rs x s [] f e = absurd (cc e)
grid_place rs x s (l ∷ ls) f e = of (same_name l.name x) refl e (grid_place rs x (s + 1) ls f)
  where
    of : (b : Bool) → same_name l.name x ≡ b →
        option_map (λ (u : Known). u.form)
        (if b then Some (record { name = l.name; form = counted_from (numbers_named rs l.name).low s }) else find (λ u. same_name u.name x) (grid_forms rs (s + 1) ls)) ≡ Some f →
        (form_named (grid_forms rs (s + 1) ls) x ≡ Some f →
        (j : ℕ) × (f ≡ counted_from (numbers_named rs x).low ((s + 1) + j)) × (slice_get (grid_counts rs ls) j ≡ Some (numbers_named rs x).count)) →
        (j : ℕ) × (f ≡ counted_from (numbers_named rs x).low (s + j)) × (slice_get ((numbers_named rs l.name).count ∷ grid_counts rs ls) j ≡ Some (numbers_named rs x).count)
    of true n q rest =
        let is : counted_from (numbers_named rs l.name).low s ≡ f = cc q in
        let name : l.name ≡ x = name_true l.name x n in
        let none : s ≡ s + 0 = omega arith in (
          0,
          sym is ∙ (λ i. counted_from (numbers_named rs (name i)).low (none i)),
          ap (λ (y : List ℕ). Some (numbers_named rs y).count) name,
        )
    of false n q rest =
        let r = rest q in
        let next : (s + 1) + r.0 ≡ s + suc r.0 = omega arith in
        (suc r.0, r.1 ∙ ap (counted_from (numbers_named rs x).low) next, r.2)
