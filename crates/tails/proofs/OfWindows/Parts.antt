-- Regions with new rows, part by part.
use Rattle.std.proofs.Common.{◌≡◌, ℕ, zero, suc, ◌≤◌, ◌<◌, ◌-◌, length, take, drop, get_or, map, Bool, List, [], ◌∷◌, Option, None, refl, sym, ap, ◌∙◌, arith}
use Rattle.std.specs.Prelude.{true, false, ◌&&◌, pos, ◌-ℤ◌}
use Rattle.std.specs.Borrow.{Bor}
use Rattle.lin.specs.Forms.{Form, number, factor_of, is_within_limits}
use Rattle.lin.specs.declared.span.Span1.{Span1}
use Rattle.lin.proofs.Limits.{combined-first}
use Rattle.plan.specs.declared.certificate.cert.Window.{Window}
use Rattle.plan.specs.declared.stmt.Places.{Places}
use Rattle.soundness.specs.Around.{Binder, inside}
use Rattle.soundness.specs.Obligations.{Rules}
use Rattle.tails.specs.Steps.{Step}
use Rattle.tails.proofs.Joined.{first_and}
use Rattle.tails.specs.Windows.Arms.{row_above, region_with, hold, is_still, moves_first, is_along}

-- ---- the row above a form

pub past_limits : (i : ℕ) (u : Form) → is_within_limits u ≡ false → None ≡ row_above i u
past_limits i u h = sym (combined-first u (number (pos 1 -ℤ factor_of u.terms i)) (pos 1) h)

-- ---- a span in a region's place

pub span_alone : (d : ℕ) (y : Span1) → region_with d [] y ≡ y ∷ []
span_alone zero y = refl
span_alone (suc d) y = refl

pub span_here : (x y : Span1) (xs : List Span1) → region_with 0 (x ∷ xs) y ≡ y ∷ xs
span_here x y [] = refl
span_here x y (z ∷ zs) = refl

pub span_later : (d : ℕ) (x y : Span1) (xs : List Span1) → 1 ≤ d → region_with d (x ∷ xs) y ≡ x ∷ region_with (d - 1) xs y
span_later zero x y xs h = absurd (omega arith)
span_later (suc d) x y xs h = let e : d ≡ suc d - 1 = omega arith in ap (λ n. x ∷ region_with n xs y) e

-- ---- the window's dimension

pub along_later : (rules : Rules) (bs : List Binder) (w : Window) (d : ℕ) (x : Span1) (xs : List Span1) (a : Places) (places : List Places) → 1 ≤ d →
    is_along rules bs w d (x ∷ xs) (a ∷ places) ≡ (is_still w.symbol (inside w.symbol bs) x && is_along rules bs w (d - 1) xs places)
along_later rules bs w zero x xs a places h = absurd (omega arith)
along_later rules bs w (suc d) x xs a places h =
    let e : d ≡ suc d - 1 = omega arith in ap (λ n. is_still w.symbol (inside w.symbol bs) x && is_along rules bs w n xs places) e

-- the same of spans and places in memory
module _ (rules : Rules) (bs : List Binder) (w : Window) (d : ℕ) (xs : List Span1) (ps : List Places) (x : Span1) (a : Places) (some : 1 ≤ length xs) (at : x ≡ get_or xs 0 x)
    (same : 1 ≤ length ps) (on : a ≡ get_or ps 0 a) where
  abbrev later_spans : List Span1
  later_spans = take (length xs - 1) (drop 1 xs)

  abbrev later_places : List Places
  later_places = take (length ps - 1) (drop 1 ps)

  first_apart : is_along rules bs w d xs ps ≡ is_along rules bs w d (x ∷ later_spans) (a ∷ later_places)
  first_apart = ap (λ l. is_along rules bs w d l ps) (first_and xs x some at) ∙ ap (is_along rules bs w d (x ∷ later_spans)) (first_and ps a same on)

  pub still_first : (less : ℕ) (v tells : Bool) (inner : List Binder) → 1 ≤ d → less ≡ d - 1 → inner ≡ inside w.symbol bs → v ≡ is_still w.symbol inner x → v ≡ true →
      tells ≡ is_along rules bs w less later_spans later_places → tells ≡ is_along rules bs w d xs ps
  still_first less v tells inner h is within told true' by =
      by ∙ ap (λ n. is_along rules bs w n later_spans later_places) is
      ∙ ap (λ b. b && is_along rules bs w (d - 1) later_spans later_places) (sym (ap (λ l. is_still w.symbol l x) (sym within) ∙ sym told ∙ true'))
      ∙ sym (first_apart ∙ along_later rules bs w d x later_spans a later_places h)

  pub moving_first : (tells : Bool) → d < 1 → tells ≡ moves_first rules bs w x later_spans a → tells ≡ is_along rules bs w d xs ps
  moving_first tells h by = by ∙ sym (first_apart ∙ none d h)
    where
      none : (n : ℕ) → n < 1 → is_along rules bs w n (x ∷ later_spans) (a ∷ later_places) ≡ moves_first rules bs w x later_spans a
      none zero k = refl
      none (suc n) k = absurd (omega arith)

-- ---- lists of different lengths

module _ (rules : Rules) (bs : List Binder) (alone : Bool) (d : Option ℕ) (steps : List Step) where
  pub too_few_forms : (xs : List Span1) (fs : List (Bor Form)) (ps : List Places) → 1 ≤ length xs → length fs < 1 →
      false ≡ hold rules bs alone d steps xs (map (λ (f : Bor Form). f.now) fs) ps
  too_few_forms [] fs ps h k = absurd (omega arith)
  too_few_forms (x ∷ xs) [] ps h k = refl
  too_few_forms (x ∷ xs) (f ∷ fs) ps h k = absurd (omega arith)

  pub too_few_places : (xs : List Span1) (fs : List (Bor Form)) (ps : List Places) → 1 ≤ length xs → 1 ≤ length fs → length ps < 1 →
      false ≡ hold rules bs alone d steps xs (map (λ (f : Bor Form). f.now) fs) ps
  too_few_places [] fs ps h k n = absurd (omega arith)
  too_few_places (x ∷ xs) [] ps h k n = absurd (omega arith)
  too_few_places (x ∷ xs) (f ∷ fs) [] h k n = refl
  too_few_places (x ∷ xs) (f ∷ fs) (a ∷ ps) h k n = absurd (omega arith)
