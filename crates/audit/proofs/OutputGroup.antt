-- The output's group, and the lists of pieces.
use Rattle.std.proofs.Common.{◌≡◌, ℕ, zero, suc, ◌-◌, ◌^◌, min, List, [], ◌∷◌, get_or, Some, true, ap, refl, sym, subst, ◌∙◌}
use Rattle.std.specs.Prelude.{map, slice_get, ℤ}
use Rattle.meaning.specs.Image.Raster.{is_within}
use Rattle.meaning.specs.Algorithm.{Algorithm}
use Rattle.lin.specs.declared.span.Span1.{Span1}
use Rattle.plan.specs.declared.plan.Group.{Group as GroupHeld}
use Rattle.plan.specs.Plan.{Group, Plan}
use Rattle.plan.specs.Lines.{certificate_line}
use Rattle.plan.specs.View.{group_of}
use Rattle.plan.specs.Certificate.Certificate.{Certificate}
use Rattle.plan.specs.Certificate.Cells.{cell, is_in_region, no_symbols}
use Rattle.plan.specs.Certificate.Lines.{own_line}
use Rattle.headline.specs.Numbers.{has_point, is_cell}
use Rattle.orders.specs.Work.{Work}
use Rattle.orders.specs.declared.lists.Piece.{Piece}
use Rattle.soundness.specs.declared.outline.refusals.code.Flaw.{Flaw}
use Rattle.soundness.specs.declared.outline.refusals.code.K.TheVariants.{K10}
use Rattle.shares.specs.Made as shares
use Rattle.shares.specs.Made.{own_place}
use Rattle.checked_plan.specs.Lists as checked
use Rattle.audit.specs.Verdict.Shown.Wide.{HasOutput}
use Rattle.audit.specs.Refused.{IsLacking}
use Rattle.audit.specs.Stand.{IsGroupOf}

-- a point of the group's region is a cell, and the other way round
module _ (p : Plan) (n : ℕ) (g : Group) (at : slice_get p.groups n ≡ Some g) where
  cell_is : (q : List ℤ) → is_cell p (cell n q) ≡ is_in_region no_symbols g.region q
  cell_is q = λ i. has_point (at i) q

  module _ (a : Algorithm) (of : g.function ≡ a.output) where
    abbrev Inside : Type 0
    Inside = (q : List ℤ) → is_within a.output_extents q ≡ true → is_in_region no_symbols g.region q ≡ true

    pub output_there : Inside → HasOutput a p
    output_there inside = record { number = n; group = g; stands = at; function = of; inside = λ q w. cell_is q ∙ inside q w }

    pub output_lacks : (c : Certificate) (f : Flaw) → f ≡ record { code = K10; line = min (own_line (certificate_line p) (own_place c.own n)) (2 ^ 32 - 1) } → ¬ Inside → IsLacking a p c f
    output_lacks c f e lacks =
        subst (IsLacking a p c) (sym e) (record {
          number = n;
          group = g;
          stands = at;
          function = of;
          code_is = refl;
          line_is = refl;
          lacks = λ each. lacks (λ q w. sym (cell_is q) ∙ each q w);
        })

-- lists that are made are lists of the work
pub lists_same : (work : Work) (made : List Piece) → shares.AreListsOf work made → checked.AreListsOf work made
lists_same work made h = record { count = h.count; own = h.own; fetched = h.fetched; needs = h.needs }

-- the group in memory that has the number
pub held_at : (xs : List GroupHeld) (n : ℕ) (x : GroupHeld) (f : List ℕ) → IsGroupOf (map group_of xs) f n → x ≡ get_or xs n x → slice_get (map group_of xs) n ≡ Some (group_of x)
held_at [] n x f h is = absurd h
held_at (y ∷ ys) zero x f h is = ap (λ z. Some (group_of z)) (sym is)
held_at (y ∷ ys) (suc n) x f h is = held_at ys n x f h is

pub held_function : (xs : List GroupHeld) (n : ℕ) (x : GroupHeld) (f : List ℕ) → IsGroupOf (map group_of xs) f n → x ≡ get_or xs n x → (group_of x).function ≡ f
held_function [] n x f h is = absurd h
held_function (y ∷ ys) zero x f h is = subst (λ (z : GroupHeld). (group_of z).function ≡ f) (sym is) h
held_function (y ∷ ys) (suc n) x f h is = held_function ys n x f h is

-- each point of the extents is one of the region
abbrev pub HasAll : List ℕ → List Span1 → Type 0
HasAll es xs = (q : List ℤ) → is_within es q ≡ true → is_in_region no_symbols xs q ≡ true

pub has_same : (es fs : List ℕ) (xs ys : List Span1) → es ≡ fs → xs ≡ ys → HasAll es xs → HasAll fs ys
has_same es fs xs ys e r h = subst (HasAll fs) r (subst (λ (z : List ℕ). HasAll z xs) e h)
