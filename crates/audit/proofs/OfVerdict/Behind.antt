-- What numbers are small up to a line, by computation: in each group the first line with one that is not is behind it.
use Rattle.std.proofs.Common.{◌≡◌, ℕ, zero, suc, ◌+◌, ◌<◌, Bool, true, false, ◌&&◌, List, [], ◌∷◌, Option, Some, None, sym, ap, ◌∙◌, subst, arith}
use Rattle.std.specs.Prelude.{nat_lt, slice_get}
use Rattle.std.proofs.lemmas.Bool.Decides.{nat_tests}
use Rattle.meaning.specs.Algorithm.{Algorithm}
use Rattle.plan.specs.Plan.{Group, Plan}
use Rattle.plan.specs.Lines.{body_line}
use Rattle.plan.specs.Certificate.Certificate.{Certificate}
use Rattle.soundness.specs.Binders.View.{grid_binders}
use Rattle.soundness.proofs.Refines.{and_parts}
use Rattle.rules.specs.Bounding.Rules.{rules_of}
use Rattle.rules.specs.Widths.Widths.{first_told, wide_lines}
use Rattle.audit.specs.Verdict.Faults.{IsNarrowUpTo}

abbrev is_behind : ℕ → Option ℕ → Bool
is_behind line None = true
is_behind line (Some n) = nat_lt line n

behind_so : (line : ℕ) (o : Option ℕ) (n : ℕ) → is_behind line o ≡ true → o ≡ Some n → line < n
behind_so line None n h e = absurd (cc e)
behind_so line (Some m) n h e = (let is : m ≡ n = cc e in grind (arith, nat_tests, h, is))

module _ (a : Algorithm) (p : Plan) (c : Certificate) (line : ℕ) where
  abbrev first_in : ℕ → Group → Option ℕ
  first_in m h = first_told (wide_lines (rules_of a p c m) (grid_binders h.grid) (body_line p m) h.body)

  abbrev all_behind : ℕ → List Group → Bool
  all_behind m [] = true
  all_behind m (h ∷ hs) = is_behind line (first_in m h) && all_behind (m + 1) hs

  each_behind : (m : ℕ) (hs : List Group) → all_behind m hs ≡ true → (i : ℕ) (h : Group) → slice_get hs i ≡ Some h → (n : ℕ) → first_in (m + i) h ≡ Some n → line < n
  each_behind m [] all i h at n e = absurd (cc at)
  each_behind m (g ∷ hs) all zero h at n e =
      let parts = and_parts (is_behind line (first_in m g)) (all_behind (m + 1) hs) all in
      let is : g ≡ h = cc at in
      let none : m + 0 ≡ m = omega arith in
      behind_so line (first_in m g) n parts.0 ((λ i. first_in (sym none i) (is i)) ∙ e)
  each_behind m (g ∷ hs) all (suc i) h at n e =
      let parts = and_parts (is_behind line (first_in m g)) (all_behind (m + 1) hs) all in
      let next : (m + 1) + i ≡ m + suc i = omega arith in
      each_behind (m + 1) hs parts.1 i h at n (ap (λ (k : ℕ). first_in k h) next ∙ e)

  pub narrow_by : all_behind 0 p.groups ≡ true → IsNarrowUpTo a p c line
  narrow_by all m h at n e = (let none : 0 + m ≡ m = omega arith in each_behind 0 p.groups all m h at n (ap (λ (k : ℕ). first_in k h) none ∙ e))
