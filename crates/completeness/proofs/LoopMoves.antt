-- Loops over numbers, and the choices among them of one that is taken away.
use Rattle.std.proofs.Common.{◌≡◌, ℕ, Bool, true, false, ◌&&◌, ◌||◌, List, [], ◌∷◌, map, Option, Some, None}
use Rattle.std.proofs.Common.{refl, sym, ap, ◌∙◌}
use Rattle.std.specs.Prelude.{ℤ, pos, int_le, ◌==◌, if◌then◌else◌}
use Rattle.std.specs.List.{AllByRecursion, list_any}
use Rattle.lin.specs.Forms.{Form, number, factor_of, same_form}
use Rattle.lin.specs.declared.span.Span1.{Span1}
use Rattle.plan.specs.declared.stmt.Pick.TheVariants.{Min}
use Rattle.plan.specs.Semantics.Setting.{or_else}
use Rattle.soundness.specs.Obligations.{Binder, Ranged, Picked, form_has}
use Rattle.soundness.proofs.Refines.{eq_refl, eq_true}
use Rattle.sched.specs.Skeleton.{span}
use Rattle.tails.specs.Moves.{first_some, joined, each_replaced}
use Rattle.tails.specs.Moves.{expanded}

-- ---- booleans

pub false_end : (b : Bool) → (b && false) ≡ false
false_end true = refl
false_end false = refl

pub true_end : (b : Bool) → (b || true) ≡ true
true_end true = refl
true_end false = refl

pub or_none : (a b : Bool) → (a || b) ≡ false → (a ≡ false) × (b ≡ false)
or_none true b e = absurd (cc e)
or_none false b e = (refl, e)

pub other_way : (m n : ℕ) → (m == n) ≡ false → (n == m) ≡ false
other_way m n e = of (n == m) refl
  where
    of : (b : Bool) → (n == m) ≡ b → (n == m) ≡ false
    of true k =
        let is : n ≡ m = eq_true n m k in
        let clash : true ≡ false = sym (eq_refl m) ∙ ap (λ (j : ℕ). m == j) (sym is) ∙ e in
        absurd (cc clash)
    of false k = k

-- ---- loops over numbers

pub record Item : Type 0 where
  pub symbol : ℕ
  pub low : ℤ
  pub last : ℤ

abbrev pub item_span : Item → Span1
item_span t = span t.low t.last []

-- a loop of one turn is a let
abbrev pub is_lone : Item → Bool
is_lone t = same_form (number t.low) (number t.last)

abbrev pub step_by : Bool → Item → Binder
step_by b t = if b then Picked t.symbol Min (number t.low ∷ []) else Ranged t.symbol (item_span t)

abbrev pub item_step : Item → Binder
item_step t = step_by (is_lone t) t

abbrev pub is_left : ℕ → List Item → Bool
is_left i ts = list_any (λ t. t.symbol == i) ts

-- no two have one symbol
abbrev pub AreApart : List Item → Type 0
AreApart [] = Unit {0}
AreApart (t ∷ ts) = (is_left t.symbol ts ≡ false) × AreApart ts

-- ---- one of them and the others

pub record One : Type 0 where
  pub one : Item
  pub others : List Item

abbrev pub with_it : Item → One → One
with_it t p = record { one = p.one; others = t ∷ p.others }

abbrev pub picks : List Item → List One
picks [] = []
picks (t ∷ ts) = record { one = t; others = ts } ∷ map (with_it t) (picks ts)

-- ---- nothing is found

pub none_first : {A B : Type 0} (f : A → Option B) (xs : List A) → AllByRecursion (λ x. f x ≡ None) xs → first_some f xs ≡ None
none_first f [] h = refl
none_first f (x ∷ xs) h = (let here = h.0 in let rest = none_first f xs h.1 in λ i. or_else (here i) (rest i))

-- ---- the moves

module _ (exact : Bool) (shows : Form → Form → Bool) where
  -- forms without the symbol stay
  pub opened_none : (i : ℕ) (ms fs : List Form) → list_any (form_has i) fs ≡ false → expanded exact shows i ms fs ≡ Some fs
  opened_none i ms [] e = refl
  opened_none i ms (f ∷ fs) e =
      let parts = or_none (form_has i f) (list_any (form_has i) fs) e in
      ap (λ (b : Bool). if b then (if int_le (pos 1) (factor_of f.terms i) then joined (each_replaced f i (factor_of f.terms i) ms) (expanded exact shows i ms fs) else None)
      else joined (Some (f ∷ [])) (expanded exact shows i ms fs)) parts.0
      ∙ ap (λ (o : Option (List Form)). joined (Some (f ∷ [])) o) (opened_none i ms fs parts.1)
