-- The two sides of a store's coordinates, and what an update's store is asked.
use Rattle.std.proofs.Common.{◌≡◌, ℕ, zero, suc, ◌<◌, ◌≤◌, ◌-◌, List, [], ◌∷◌, length, map, take, drop, true, false, Option, refl, sym, ap, ◌∙◌, arith, length-drop}
use Rattle.std.specs.Prelude.{Bool, ◌==◌, ◌&&◌}
use Rattle.std.specs.List.{list_all}
use Rattle.lin.specs.Forms.{Form}
use Rattle.tree.specs.Term.{Term}
use Rattle.lin.specs.declared.span.Span1.{Span1}
use Rattle.meaning.specs.Algorithm.{Range}
use Rattle.meaning.specs.Names.{same_name}
use Rattle.plan.specs.declared.stmt.Coordinate.{Coordinate as CoordinateHeld}
use Rattle.plan.specs.Plan.{Coordinate, Store}
use Rattle.plan.specs.View.{coordinate_of}
use Rattle.plan.specs.Semantics.Actions.{Setting}
use Rattle.plan.specs.Certificate.Certificate.{Claim}
use Rattle.soundness.specs.Obligations.{Binder, Rules}
use Rattle.soundness.specs.Nests.Tests.{is_reduced, left_of, over_of}
use Rattle.tails.specs.Steps.{Step, binder}
use Rattle.soundness.proofs.Refines.{eq_refl}
use Rattle.tails.specs.Moves.{is_outer}
use Rattle.tails.specs.Maps.{is_beyond, is_scoped, is_once}
use Rattle.tails.specs.Apart.{is_apart}
use Rattle.tails.specs.Updates.{loops_in, reducing, pure_steps, forms_in, at_forms, is_parted, is_stepped}

pub mapped_length : (cs : List CoordinateHeld) → length (map coordinate_of cs) ≡ length cs
mapped_length [] = refl
mapped_length (c ∷ cs) = ap suc (mapped_length cs)

pub mapped_left : (cs : List CoordinateHeld) (n : ℕ) → map coordinate_of (take n cs) ≡ take n (map coordinate_of cs)
mapped_left [] zero = refl
mapped_left [] (suc n) = refl
mapped_left (c ∷ cs) zero = refl
mapped_left (c ∷ cs) (suc n) = ap (λ (l : List Coordinate). coordinate_of c ∷ l) (mapped_left cs n)

taken_all : (cs : List CoordinateHeld) (n : ℕ) → length cs ≤ n → take n cs ≡ cs
taken_all [] zero h = refl
taken_all [] (suc n) h = refl
taken_all (c ∷ cs) zero h = absurd (omega arith)
taken_all (c ∷ cs) (suc n) h = ap (λ (l : List CoordinateHeld). c ∷ l) (taken_all cs n (omega arith))

pub rest_taken : (cs : List CoordinateHeld) (n : ℕ) → take (length cs - n) (drop n cs) ≡ drop n cs
rest_taken cs n = taken_all (drop n cs) (length cs - n) (omega (arith, length-drop n cs))

pub mapped_over : (cs : List CoordinateHeld) (n : ℕ) → map coordinate_of (drop n cs) ≡ drop n (map coordinate_of cs)
mapped_over [] zero = refl
mapped_over [] (suc n) = refl
mapped_over (c ∷ cs) zero = refl
mapped_over (c ∷ cs) (suc n) = mapped_over cs n

pub mapped_all : (cs : List CoordinateHeld) (n : ℕ) → length cs ≤ n → take n (map coordinate_of cs) ≡ map coordinate_of cs
mapped_all [] zero h = refl
mapped_all [] (suc n) h = refl
mapped_all (c ∷ cs) zero h = absurd (omega arith)
mapped_all (c ∷ cs) (suc n) h = ap (λ (l : List Coordinate). coordinate_of c ∷ l) (mapped_all cs n (omega arith))

pub mapped_none : (cs : List CoordinateHeld) (n : ℕ) → length cs ≤ n → drop n (map coordinate_of cs) ≡ []
mapped_none [] zero h = refl
mapped_none [] (suc n) h = refl
mapped_none (c ∷ cs) zero h = absurd (omega arith)
mapped_none (c ∷ cs) (suc n) h = mapped_none cs n (omega arith)

pub no_spans : (cs : List Coordinate) (xs : List Span1) → length xs ≤ 0 → at_forms cs xs ≡ []
no_spans [] xs h = refl
no_spans (c ∷ cs) [] h = refl
no_spans (c ∷ cs) (x ∷ xs) h = absurd (omega arith)

-- the loops of the reduction and the other steps, told one by one
pub parted_with : (over : List Coordinate) (steps loops others : List Step) (fs : List Form) (all inner : List Binder) → all ≡ map binder steps → inner ≡ map binder loops → loops ≡ reducing over steps → others ≡ pure_steps over steps →
    (list_all (is_beyond all) inner && (list_all (is_apart inner) (map binder others) && list_all (is_outer inner) fs)) ≡ is_parted over steps fs
parted_with over steps loops others fs all inner p q r o =
    let these : inner ≡ map binder (reducing over steps) = q ∙ ap (map binder) r in
    λ i. list_all (is_beyond (p i)) (these i) && (list_all (is_apart (these i)) (map binder (o i)) && list_all (is_outer (these i)) fs)

all_true : (x y z v : Bool) → x ≡ true → y ≡ true → z ≡ true → (x && (y && (z && v))) ≡ v
all_true x y z v p q r = ap (λ b. b && (y && (z && v))) p ∙ ap (λ b. b && (z && v)) q ∙ ap (λ b. b && v) r

module _ (setting : Setting) (rules : Rules) (domain : List ℕ → ℕ → Option (List Range)) (bs : List Binder) (claim : Claim) (steps : List Step) where
  -- what is asked of an update's store
  pub stepped_by : (b k : ℕ) (at : List Coordinate) (e : Term) → 0 < k → is_stepped setting rules domain bs claim steps (Store b k at e)
      ≡ ((claim.definition == k) && (same_name (setting.buffer_function b) claim.function
      && (is_reduced rules bs (domain claim.function k) (over_of setting b at) (loops_in steps)
      && (is_scoped (map binder steps) && (is_parted (over_of setting b at) steps (forms_in (left_of setting b at))
      && is_once (pure_steps (over_of setting b at) steps) (forms_in (left_of setting b at)))))))
  stepped_by b zero at e h = absurd (omega arith)
  stepped_by b (suc k) at e h = refl

  -- a store of the pure definition is not one of an update
  pub pure_unstepped : (b k : ℕ) (at : List Coordinate) (e : Term) → k ≡ 0 → is_stepped setting rules domain bs claim steps (Store b k at e) ≡ false
  pure_unstepped b zero at e h = refl
  pure_unstepped b (suc k) at e h = absurd (omega arith)

  -- the rest of what is asked, where the function and the reduction are those of the claim
  pub stepped_on : (b k : ℕ) (at : List Coordinate) (e : Term) (n : ℕ) (left over : List Coordinate) (name function named : List ℕ) (w v : Bool) (ds : Option (List Range)) → 0 < k → claim.definition ≡ k →
      n ≡ setting.dimensions b → left ≡ take n at → over ≡ drop n at → name ≡ setting.buffer_function b → function ≡ claim.function → w ≡ same_name name function → w ≡ true →
      named ≡ claim.function → ds ≡ domain named k → v ≡ is_reduced rules bs ds over (loops_in steps) → v ≡ true →
      (is_scoped (map binder steps) && (is_parted over steps (forms_in left) && is_once (pure_steps over steps) (forms_in left))) ≡ is_stepped setting rules domain bs claim steps (Store b k at e)
  stepped_on b k at e n left over name function named w v ds later same many before behind its reads told names meant counted by whole =
      let lefts : left ≡ left_of setting b at = before ∙ ap (λ m. take m at) many in
      let overs : over ≡ over_of setting b at = behind ∙ ap (λ m. drop m at) many in
      (λ i. is_scoped (map binder steps) && (is_parted (overs i) steps (forms_in (lefts i)) && is_once (pure_steps (overs i) steps) (forms_in (lefts i))))
      ∙ sym (stepped_by b k at e later
      ∙ all_true (claim.definition == k) (same_name (setting.buffer_function b) claim.function) (is_reduced rules bs (domain claim.function k) (over_of setting b at) (loops_in steps)) _
      (ap (λ d. d == k) same ∙ eq_refl k)
      (sym (told ∙ ap (λ a. same_name a function) its ∙ ap (same_name (setting.buffer_function b)) reads) ∙ names)
      (sym (by ∙ (λ i. is_reduced rules bs (counted i) (overs i) (loops_in steps)) ∙ ap (λ f. is_reduced rules bs (domain f k) (over_of setting b at) (loops_in steps)) meant) ∙ whole))
