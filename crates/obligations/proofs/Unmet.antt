-- The first obligation that is not shown, of lists put together.
use Rattle.std.proofs.Common.{◌≡◌, ℕ, ◌+◌, ◌-◌, ◌^◌, ◌<◌, ◌≤◌, min, Bool, true, false, List, [], ◌∷◌, ◌++◌, drop, length, get_or, Option, Some, None, refl, sym, ap, ◌∙◌, arith, map}
use Rattle.std.specs.Prelude.{if◌then◌else◌}
use Rattle.soundness.specs.Origins.{or_same}
use Rattle.std.proofs.lemmas.List.{drop_all}
use Rattle.soundness.specs.declared.outline.refusals.code.Flaw.{Flaw}
use Rattle.plan.specs.Semantics.Setting.{or_else}
use Rattle.soundness.specs.Obligations.{Rules, Obligation, turn_code}
use Rattle.soundness.specs.declared.outline.refusals.code.K.TheVariants.{K6, K7}
use Rattle.soundness.specs.Shown.{Nests, is_shown, first_fault}
use Rattle.obligations.specs.declared.context.judge.Part.{Part}
use Rattle.obligations.specs.Asked.{code_of, is_asked, of_part, flaw_of, told, first_unmet, unless}
use Rattle.obligations.proofs.Steps.{drop_more}

-- a line of 32 bits is told as it is
pub fits_line : (n : ℕ) → n < 2 ^ 32 → min n (2 ^ 32 - 1) ≡ n
fits_line n h = omega arith

or_else_assoc : (a b c : Option Flaw) → or_else (or_else a b) c ≡ or_else a (or_else b c)
or_else_assoc None b c = refl
or_else_assoc (Some x) b c = refl

pub stops : (a b : Option Flaw) (f : Flaw) → a ≡ Some f → or_else a b ≡ Some f
stops a b f h = ap (λ (o : Option Flaw). or_else o b) h

pub goes : (a b : Option Flaw) → a ≡ None → or_else a b ≡ b
goes a b h = ap (λ (o : Option Flaw). or_else o b) h

picked : (a s : Bool) (o : Obligation) (x : Option Obligation) →
    told (if a then (if s then x else Some o) else x) ≡ or_else (if a then (if s then None else Some (flaw_of o)) else None) (told x)
picked true true o x = refl
picked true false o x = refl
picked false s o x = refl

module _ (rules : Rules) (nests : Nests) (part : Part) where
  pushed : (a : Bool) (o : Obligation) (rest : List Obligation) →
      first_fault rules nests (if a then o ∷ rest else rest) ≡ (if a then (if is_shown rules nests o then first_fault rules nests rest else Some o) else first_fault rules nests rest)
  pushed true o rest = refl
  pushed false o rest = refl

  pub nothing : first_unmet rules nests part [] ≡ None
  unfolding first_unmet
  nothing = refl

  pub one : (o : Obligation) (os : List Obligation) →
      first_unmet rules nests part (o ∷ os) ≡ or_else (unless part (code_of o.code) (min o.line (2 ^ 32 - 1)) (is_shown rules nests o)) (first_unmet rules nests part os)
  unfolding first_unmet unless
  one o os =
      ap told (pushed (is_asked part (flaw_of o)) o (of_part part os))
      ∙ picked (is_asked part (flaw_of o)) (is_shown rules nests o) o (first_fault rules nests (of_part part os))

  pub append : (xs ys : List Obligation) → first_unmet rules nests part (xs ++ ys) ≡ or_else (first_unmet rules nests part xs) (first_unmet rules nests part ys)
  append [] ys = sym (ap (λ (o : Option Flaw). or_else o (first_unmet rules nests part ys)) nothing)
  append (x ∷ xs) ys =
      let here = unless part (code_of x.code) (min x.line (2 ^ 32 - 1)) (is_shown rules nests x) in
      one x (xs ++ ys) ∙ ap (or_else here) (append xs ys) ∙ sym (or_else_assoc here (first_unmet rules nests part xs) (first_unmet rules nests part ys))
      ∙ ap (λ (o : Option Flaw). or_else o (first_unmet rules nests part ys)) (sym (one x xs))

  pub stop_one : (o : Obligation) (os : List Obligation) (f : Flaw) → unless part (code_of o.code) (min o.line (2 ^ 32 - 1)) (is_shown rules nests o) ≡ Some f → first_unmet rules nests part (o ∷ os) ≡ Some f
  stop_one o os f h = one o os ∙ stops (unless part (code_of o.code) (min o.line (2 ^ 32 - 1)) (is_shown rules nests o)) (first_unmet rules nests part os) f h

  pub go_one : (o : Obligation) (os : List Obligation) → unless part (code_of o.code) (min o.line (2 ^ 32 - 1)) (is_shown rules nests o) ≡ None → first_unmet rules nests part (o ∷ os) ≡ first_unmet rules nests part os
  go_one o os h = one o os ∙ goes (unless part (code_of o.code) (min o.line (2 ^ 32 - 1)) (is_shown rules nests o)) (first_unmet rules nests part os) h

  -- an obligation alone
  or_none : (a : Option Flaw) → or_else a None ≡ a
  or_none None = refl
  or_none (Some f) = refl

  pub alone : (o : Obligation) → first_unmet rules nests part (o ∷ []) ≡ unless part (code_of o.code) (min o.line (2 ^ 32 - 1)) (is_shown rules nests o)
  alone o =
      one o [] ∙ ap (or_else (unless part (code_of o.code) (min o.line (2 ^ 32 - 1)) (is_shown rules nests o))) nothing
      ∙ or_none (unless part (code_of o.code) (min o.line (2 ^ 32 - 1)) (is_shown rules nests o))

  -- one before others, and one with some before others
  pub one_apart : (o : Obligation) (os : List Obligation) → first_unmet rules nests part (o ∷ os) ≡ or_else (first_unmet rules nests part (o ∷ [])) (first_unmet rules nests part os)
  one_apart o os = append (o ∷ []) os

  pub some_apart : (o : Obligation) (xs ys : List Obligation) → first_unmet rules nests part (o ∷ (xs ++ ys)) ≡ or_else (first_unmet rules nests part (o ∷ xs)) (first_unmet rules nests part ys)
  some_apart o xs ys = append (o ∷ xs) ys

  pub stop_append : (xs ys : List Obligation) (f : Flaw) → first_unmet rules nests part xs ≡ Some f → first_unmet rules nests part (xs ++ ys) ≡ Some f
  stop_append xs ys f h = append xs ys ∙ stops (first_unmet rules nests part xs) (first_unmet rules nests part ys) f h

  pub go_append : (xs ys : List Obligation) → first_unmet rules nests part xs ≡ None → first_unmet rules nests part (xs ++ ys) ≡ first_unmet rules nests part ys
  go_append xs ys h = append xs ys ∙ goes (first_unmet rules nests part xs) (first_unmet rules nests part ys) h

  -- ---- loops: what a list asks for is what its elements ask for, one after another

  module _ {X : Type 0} (F : List X → List Obligation) (G : X → List Obligation) (step : (x : X) (xs : List X) → F (x ∷ xs) ≡ G x ++ F xs) where
    at_one : (all : List X) (i : ℕ) (x : X) → i < length all → x ≡ get_or all i x → first_unmet rules nests part (F (drop i all)) ≡ or_else (first_unmet rules nests part (G x)) (first_unmet rules nests part (F (drop (i + 1) all)))
    at_one all i x lt is =
        ap (λ (xs : List X). first_unmet rules nests part (F xs)) (drop_more all i x lt is) ∙ ap (first_unmet rules nests part) (step x (drop (i + 1) all))
        ∙ append (G x) (F (drop (i + 1) all))

    pub loop_stops : (all : List X) (i : ℕ) (x : X) (f : Flaw) → i < length all → x ≡ get_or all i x → first_unmet rules nests part (F all) ≡ first_unmet rules nests part (F (drop i all))
        → Some f ≡ first_unmet rules nests part (G x) → Some f ≡ first_unmet rules nests part (F all)
    loop_stops all i x f lt is inv found = sym (inv ∙ at_one all i x lt is ∙ stops (first_unmet rules nests part (G x)) (first_unmet rules nests part (F (drop (i + 1) all))) f (sym found))

    pub loop_goes : (all : List X) (i : ℕ) (x : X) → i < length all → x ≡ get_or all i x → first_unmet rules nests part (F all) ≡ first_unmet rules nests part (F (drop i all))
        → None ≡ first_unmet rules nests part (G x) → first_unmet rules nests part (F all) ≡ first_unmet rules nests part (F (drop (i + 1) all))
    loop_goes all i x lt is inv found = inv ∙ at_one all i x lt is ∙ goes (first_unmet rules nests part (G x)) (first_unmet rules nests part (F (drop (i + 1) all))) (sym found)

    pub loop_ends : (all : List X) (i : ℕ) → F [] ≡ [] → length all ≤ i → first_unmet rules nests part (F all) ≡ first_unmet rules nests part (F (drop i all)) → None ≡ first_unmet rules nests part (F all)
    loop_ends all i none le inv =
        sym (inv ∙ ap (λ (xs : List X). first_unmet rules nests part (F xs)) (drop_all i all le) ∙ ap (first_unmet rules nests part) none ∙ nothing)

-- the order of a nest, as it is told at a line, or at the claim
pub told_turn : (part : Part) (o : Option ℕ) (m n : ℕ) (shown : Bool) → o ≡ Some m → unless part (code_of (turn_code o)) (min (or_same o n) (2 ^ 32 - 1)) shown ≡ unless part K7 (min m (2 ^ 32 - 1)) shown
told_turn part o m n shown h = ap (λ (p : Option ℕ). unless part (code_of (turn_code p)) (min (or_same p n) (2 ^ 32 - 1)) shown) h

pub told_claim : (part : Part) (o : Option ℕ) (n : ℕ) (shown : Bool) → o ≡ None → unless part (code_of (turn_code o)) (min (or_same o n) (2 ^ 32 - 1)) shown ≡ unless part K6 (min n (2 ^ 32 - 1)) shown
told_claim part o n shown h = ap (λ (p : Option ℕ). unless part (code_of (turn_code p)) (min (or_same p n) (2 ^ 32 - 1)) shown) h

-- an element that passes a test or not, before others
pub kept_step : {Y : Type 0} (h : Y → Obligation) (b : Bool) (y : Y) (ys : List Y) → map h (if b then y ∷ ys else ys) ≡ (if b then h y ∷ [] else []) ++ map h ys
kept_step h true y ys = refl
kept_step h false y ys = refl
