-- The first flaw of a group, and how it is come to.
use Rattle.std.proofs.Common.{◌≡◌, ℕ, ◌+◌, ◌*◌, ◌<◌, ◌≤◌, Bool, true, false, Option, Some, None, refl, sym, ◌∙◌, arith, inl, inr}
use Rattle.std.specs.Prelude.{◌&&◌, ◌||◌, ◌==◌, nat_lt, ◌⊎◌}
use Rattle.std.proofs.lemmas.Bool.Decides.{nat_tests}
use Rattle.meaning.specs.Algorithm.{Algorithm}
use Rattle.plan.specs.Plan.{Group, Plan}
use Rattle.plan.specs.Certificate.Certificate.{Certificate}
use Rattle.soundness.specs.Outline.Refusals.Codes.{number_of, is_before}
use Rattle.soundness.specs.declared.outline.refusals.code.K.{K}
use Rattle.soundness.specs.declared.outline.refusals.code.K.TheVariants.{K1, K2, K3, K4, K5, K6, K7, K8, K9, K10, K11, K12, K13, K14}
use Rattle.soundness.specs.declared.outline.refusals.code.Flaw.{Flaw}
use Rattle.algo.specs.View.{algorithm_of}
use Rattle.soundness.specs.Outline.View.{plan_in, certificate_in, number_in, group_in}
use Rattle.rules.specs.declared.bounding.plan_bounds.PlanBounds.{PlanBounds}
use Rattle.obligations.specs.declared.context.judge.Part.{Part}
use Rattle.obligations.specs.declared.context.judge.Part.TheVariants.{Before}
use Rattle.obligations.proofs.Earlier.{told_is_asked}
use Rattle.claims.specs.First.{unmet, unmet_in, IsFirstOf, IsUnmetInGroup, IsFirstInGroup}

-- numbers of codes are from 1 to 14
abbrev IsNumber : ℕ → Type 0
IsNumber n = (1 ≤ n) × (n ≤ 14)

code_number : (k : K) → IsNumber (number_of k)
code_number K1 = (omega arith, omega arith)
code_number K2 = (omega arith, omega arith)
code_number K3 = (omega arith, omega arith)
code_number K4 = (omega arith, omega arith)
code_number K5 = (omega arith, omega arith)
code_number K6 = (omega arith, omega arith)
code_number K7 = (omega arith, omega arith)
code_number K8 = (omega arith, omega arith)
code_number K9 = (omega arith, omega arith)
code_number K10 = (omega arith, omega arith)
code_number K11 = (omega arith, omega arith)
code_number K12 = (omega arith, omega arith)
code_number K13 = (omega arith, omega arith)
code_number K14 = (omega arith, omega arith)

-- ---- where a flaw stands, as one number

abbrev pub place : Flaw → ℕ
place f = f.line * 15 + number_of f.code

or_parts : (a b : Bool) → (a || b) ≡ true → (a ≡ true) ⊎ (b ≡ true)
or_parts true b h = inl refl
or_parts false b h = inr h

and_parts : (a b : Bool) → (a && b) ≡ true → (a ≡ true) × (b ≡ true)
and_parts true b h = (refl, h)
and_parts false b h = absurd (cc h)

pub before_less : (f g : Flaw) → is_before f g ≡ true → place f < place g
before_less f g h =
    let low = (code_number f.code).1 in
    elim (or_parts (nat_lt f.line g.line) (f.line == g.line && nat_lt (number_of f.code) (number_of g.code)) h) [
      | inl less ↦
          let lines : f.line < g.line = grind (arith, nat_tests) in
          omega (arith, lines, low)
      | inr rest ↦
          let s = and_parts (f.line == g.line) (nat_lt (number_of f.code) (number_of g.code)) rest in
          let same = s.0 in
          let less = s.1 in
          let lines : f.line ≡ g.line = grind (arith, nat_tests) in
          let codes : number_of f.code < number_of g.code = grind (arith, nat_tests) in
          omega (arith, lines, codes)
    ]

-- before a line's lowest code is at an earlier line
line_less : (f : Flaw) (n : ℕ) → is_before f (record { code = K1; line = n }) ≡ true → f.line < n
line_less f n h =
    let least = (code_number f.code).0 in
    let less = before_less f (record { code = K1; line = n }) h in
    omega (arith, least, less)

-- ---- a group in memory

module _ (b : PlanBounds) where
  abbrev in_group : (Algorithm → Plan → Certificate → ℕ → Group → Type 0) → Type 0
  in_group P = let o = b.outlined.now in P (algorithm_of b.algo.now) (plan_in o) (certificate_in o) (number_in o) (group_in o)

  pub some_unmet : (part : Part) (r : Option Flaw) (f : Flaw) → r ≡ unmet_in b part → r ≡ Some f → IsUnmetInGroup b f
  some_unmet part r f is e = record { part = part; told = sym is ∙ e }

  pub none_before : (f : Flaw) (r : Option Flaw) → IsUnmetInGroup b f → r ≡ unmet_in b (Before f) → r ≡ None → IsFirstInGroup b f
  none_before f r h is e = record { is_unmet = h; none_before = sym is ∙ e }

  pub earlier_line : (n : ℕ) (r : Option Flaw) (f : Flaw) → r ≡ unmet_in b (Before (record { code = K1; line = n })) → r ≡ Some f → f.line < n
  earlier_line n r f is e = line_less f n (told_is_asked _ _ (Before (record { code = K1; line = n })) f _ (sym is ∙ e))

  pub earlier_place : (g : Flaw) (r : Option Flaw) (f : Flaw) → r ≡ unmet_in b (Before g) → r ≡ Some f → place f < place g
  earlier_place g r f is e = before_less f g (told_is_asked _ _ (Before g) f _ (sym is ∙ e))

-- ---- bounds of a group

-- the bounds are of this group
pub record AreOf (b : PlanBounds) (a : Algorithm) (p : Plan) (c : Certificate) (n : ℕ) (g : Group) : Type 0 where
  pub algorithm : algorithm_of b.algo.now ≡ a
  pub plan : plan_in b.outlined.now ≡ p
  pub certificate : certificate_in b.outlined.now ≡ c
  pub number : number_in b.outlined.now ≡ n
  pub group : group_in b.outlined.now ≡ g

module _ (b : PlanBounds) (a : Algorithm) (p : Plan) (c : Certificate) (n : ℕ) (g : Group) (of : AreOf b a p c n g) where
  pub unmet_moved : (part : Part) → unmet_in b part ≡ unmet a p c n g part
  unmet_moved part = λ i. unmet (of.algorithm i) (of.plan i) (of.certificate i) (of.number i) (of.group i) part

  pub first_moved : (f : Flaw) → IsFirstInGroup b f → IsFirstOf a p c n g f
  first_moved f h = record {
    is_unmet = record { part = h.is_unmet.part; told = sym (unmet_moved h.is_unmet.part) ∙ h.is_unmet.told };
    none_before = sym (unmet_moved (Before f)) ∙ h.none_before;
  }

pub same_group : (x : Option Group) (g h : Group) → x ≡ Some g → x ≡ Some h → g ≡ h
same_group x g h e f = let k : Some g ≡ Some h = sym e ∙ f in cc
