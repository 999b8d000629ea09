-- Each parallel loop of a function stands under its own name among the forms over the grid.
use Rattle.std.proofs.Common.{◌≡◌, ℕ, ◌+◌, ◌≤◌, Bool, true, false, List, [], ◌∷◌, Some, ap, arith}
use Rattle.std.specs.Prelude.{if◌then◌else◌}
use Rattle.std.specs.List.{AllByRecursion, find}
use Rattle.std.specs.Option.{option_map}
use Rattle.lin.proofs.TermLemmas.{all_weaker}
use Rattle.meaning.specs.Names.{same_name}
use Rattle.soundness.proofs.Refines.{name_refl}
use Rattle.sched.specs.declared.numbers.Numbers.{Numbers}
use Rattle.sched.specs.declared.placing.Loop.{Loop}
use Rattle.sched.specs.declared.skeleton.Known.{Known}
use Rattle.sched.specs.Numbers.{numbers_named}
use Rattle.sched.specs.Standing.{form_named, counted_from}
use Rattle.sched.specs.Skeleton.{grid_forms}
use Rattle.completeness.proofs.PlainTurns.{one_if, hits}
use Rattle.completeness.proofs.PureNests.{loop_name}

-- each parallel loop stands under its own name
pub grid_named : (rs : List Numbers) (s : ℕ) (ls : List Loop) → ((y : List ℕ) → hits loop_name y ls ≤ 1) → AllByRecursion (λ k. form_named (grid_forms rs s ls) k.name ≡ Some k.form)
    (grid_forms rs s ls)
grid_named rs s ls single = all_weaker (Found rs s ls) (λ k. form_named (grid_forms rs s ls) k.name ≡ Some k.form) (λ k h. h.0) (grid_forms rs s ls) (all s ls single)
  where
    Found : List Numbers → ℕ → List Loop → Known → Type 0
    Found rs s ls k = (form_named (grid_forms rs s ls) k.name ≡ Some k.form) × (1 ≤ hits loop_name k.name ls)

    all : (s : ℕ) (ls : List Loop) → ((y : List ℕ) → hits loop_name y ls ≤ 1) → AllByRecursion (Found rs s ls) (grid_forms rs s ls)
    all s [] one = tt
    all s (l ∷ ls) one = (
      (
        ap (λ (b : Bool). option_map (λ (u : Known). u.form)
            (if b then Some (record { name = l.name; form = counted_from (numbers_named rs l.name).low s }) else find (λ u. same_name u.name l.name) (grid_forms rs (s + 1) ls))) (name_refl l.name),
        (let here = ap one_if (name_refl l.name) in omega (arith, here)),
      ),
      all_weaker (Found rs (s + 1) ls) (Found rs s (l ∷ ls)) later (grid_forms rs (s + 1) ls) (all (s + 1) ls (λ y. let all_of = one y in omega (arith, all_of))),
    )
      where
        later : (k : Known) → Found rs (s + 1) ls k → Found rs s (l ∷ ls) k
        later k h = of (same_name l.name k.name) (one k.name) h.1
          where
            of : (b : Bool) → one_if b + hits loop_name k.name ls ≤ 1 → 1 ≤ hits loop_name k.name ls →
                (option_map (λ (u : Known). u.form)
                (if b then Some (record { name = l.name; form = counted_from (numbers_named rs l.name).low s }) else find (λ u. same_name u.name k.name) (grid_forms rs (s + 1) ls)) ≡ Some k.form)
                × (1 ≤ one_if b + hits loop_name k.name ls)
            of true few some = absurd (omega (arith, few, some))
            of false few some = (h.0, omega (arith, some))
