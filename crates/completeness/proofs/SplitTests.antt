-- The loops of a nest, the innermost first, and forms over symbols of earlier ones.
use Rattle.std.proofs.Common.{◌≡◌, ℕ, ◌+◌, ◌<◌, Bool, true, false, ◌||◌, List, [], ◌∷◌, ◌++◌}
use Rattle.std.proofs.Common.{refl, ap, ◌∙◌}
use Rattle.std.specs.Prelude.{◌==◌}
use Rattle.std.specs.List.{AllByRecursion}
use Rattle.lin.specs.Forms.{Form}
use Rattle.lin.specs.declared.span.Span1.{Span1}
use Rattle.soundness.specs.Obligations.{Binder, Ranged}
use Rattle.soundness.specs.Binders.View.{grid_span, grid_from}
use Rattle.sched.specs.declared.nest.Turning.{Turning}
use Rattle.tails.specs.Maps.{spelled_out}
use Rattle.completeness.proofs.LoopMoves.{true_end, or_none, other_way, Item, is_left, AreApart}

-- ---- the loops, the innermost first

abbrev pub item_of : ℕ → Turning → Item
item_of n t = record { symbol = n; low = t.low; last = t.last }

pub left_none : (i : ℕ) (ts : List Item) (t : Item) → is_left i ts ≡ false → (t.symbol == i) ≡ false → is_left i (ts ++ t ∷ []) ≡ false
left_none i [] t e q = λ j. q j || false
left_none i (u ∷ ts) t e q =
    let parts = or_none (u.symbol == i) (is_left i ts) e in
    let here = parts.0 in
    let rest = left_none i ts t parts.1 q in
    λ j. here j || rest j

pub left_first : (i : ℕ) (ts us : List Item) → is_left i ts ≡ true → is_left i (ts ++ us) ≡ true
left_first i [] us e = absurd (cc e)
left_first i (t ∷ ts) us e = of (t.symbol == i) e (λ k. left_first i ts us k)
  where
    of : (b : Bool) → (b || is_left i ts) ≡ true → (is_left i ts ≡ true → is_left i (ts ++ us) ≡ true) → (b || is_left i (ts ++ us)) ≡ true
    of true k rest = refl
    of false k rest = rest k

pub left_last : (i : ℕ) (ts : List Item) (t : Item) → (t.symbol == i) ≡ true → is_left i (ts ++ t ∷ []) ≡ true
left_last i [] t e = λ j. e j || false
left_last i (u ∷ ts) t e = ap (λ (b : Bool). (u.symbol == i) || b) (left_last i ts t e) ∙ true_end (u.symbol == i)

pub apart_last : (ts : List Item) (t : Item) → AreApart ts → is_left t.symbol ts ≡ false → AreApart (ts ++ t ∷ [])
apart_last [] t a e = (refl, tt)
apart_last (u ∷ ts) t a e =
    let parts = or_none (u.symbol == t.symbol) (is_left t.symbol ts) e in
    (left_none u.symbol ts t a.0 (other_way u.symbol t.symbol parts.0), apart_last ts t a.1 parts.1)

-- ---- each step names symbols of earlier ones

-- each symbol of the form is a lower one
abbrev pub IsBelow : ℕ → Form → Type 0
IsBelow s f = AllByRecursion (λ t. t.symbol < s) f.terms

-- ---- what is around the steps tells no more of a span

spelled_joined : (xs ys : List Binder) (y : Span1) → spelled_out (xs ++ ys) y ≡ spelled_out ys (spelled_out xs y)
spelled_joined [] ys y = refl
spelled_joined (x ∷ xs) ys y = spelled_joined xs ys _

pub grid_spelled : (i : ℕ) (ns : List ℕ) (y : Span1) → spelled_out (grid_from i ns) y ≡ y
grid_spelled i [] y = refl
grid_spelled i (n ∷ ns) y = spelled_joined (grid_from (i + 1) ns) (Ranged i (grid_span n) ∷ []) y ∙ grid_spelled (i + 1) ns y
