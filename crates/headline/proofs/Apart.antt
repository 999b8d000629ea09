-- A cell is told by its number, and by its function and point.
use Rattle.std.proofs.Common.{◌≡◌, ℕ, Bool, true, false, List, [], ◌∷◌, map, Option, Some, None, refl, sym, ap, ◌∙◌}
use Rattle.std.specs.Prelude.{ℤ, ◌==◌, ◌&&◌, if◌then◌else◌, slice_get}
use Rattle.tree.specs.declared.value.Value.{Value}
use Rattle.tree.specs.Meaning.{typed}
use Rattle.meaning.specs.Algorithm.{Algorithm}
use Rattle.meaning.specs.Names.{same_name, same_point}
use Rattle.plan.specs.Plan.{Group, Plan}
use Rattle.plan.specs.Certificate.Cells.{Cell, cells}
use Rattle.plan.specs.Semantics.Setting.{group_name}
use Rattle.soundness.proofs.Learned.{point_refl, point_true}
use Rattle.soundness.proofs.Refines.{and_parts, eq_refl, eq_true, name_refl, name_true}
use Rattle.headline.specs.Numbers.{cell_number, has_point, is_cell, GroupsHaveEnds}
use Rattle.headline.specs.Work.{cell_function, type_named, looked_value}
use Rattle.headline.specs.Parts.{FunctionsAreDistinct, CellsAreApart, first_value, LooksAreByNumber}
use Rattle.headline.proofs.Places.{cell_stands}

by_number : (p : Plan) (x y : Cell) → GroupsHaveEnds p → is_cell p x ≡ true → is_cell p y ≡ true → cell_number p x ≡ cell_number p y → x ≡ y
by_number p x y ends h k e =
    let there : Some x ≡ Some y = sym (cell_stands p x ends h) ∙ ap (slice_get (cells p)) e ∙ cell_stands p y ends k in
    cc

some_group : (p : Plan) (x : Cell) → is_cell p x ≡ true → (g : Group) × (slice_get p.groups x.group ≡ Some g)
some_group p x h = of (slice_get p.groups x.group) refl h
  where
    of : (o : Option Group) → slice_get p.groups x.group ≡ o → has_point o x.point ≡ true → (g : Group) × (slice_get p.groups x.group ≡ Some g)
    of None e k = absurd (cc k)
    of (Some g) e k = (g, e)

by_name : (p : Plan) (x y : Cell) → FunctionsAreDistinct p → is_cell p x ≡ true → is_cell p y ≡ true → cell_function p x ≡ cell_function p y → x.point ≡ y.point → x ≡ y
by_name p x y distinct h k name point =
    let f = some_group p x h in
    let g = some_group p y k in
    let same : x.group ≡ y.group = distinct x.group y.group f.0 g.0 f.1 g.1 (sym (ap group_name f.1) ∙ name ∙ ap group_name g.1) in
    λ i. record { group = same i; point = point i }

pub cells_apart : CellsAreApart
cells_apart = record { by_number = by_number; by_name = by_name }

alike : (v w : Bool) → (v ≡ true → w ≡ true) → (w ≡ true → v ≡ true) → v ≡ w
alike true w to from = sym (to refl)
alike false true to from = from refl
alike false false to from = refl

-- the same cell by name and point, and by number
one_test : (p : Plan) (x y : Cell) → GroupsHaveEnds p → FunctionsAreDistinct p → is_cell p x ≡ true → is_cell p y ≡ true →
    (same_name (cell_function p y) (cell_function p x) && same_point y.point x.point) ≡ (cell_number p y == cell_number p x)
one_test p x y ends distinct h k =
    alike (same_name (cell_function p y) (cell_function p x) && same_point y.point x.point) (cell_number p y == cell_number p x)
    (λ v.
    let parts = and_parts (same_name (cell_function p y) (cell_function p x)) (same_point y.point x.point) v in
    let same = by_name p y x distinct k h (name_true (cell_function p y) (cell_function p x) parts.0) (point_true y.point x.point parts.1) in
    ap (λ z. cell_number p z == cell_number p x) same ∙ eq_refl (cell_number p x))
    (λ w.
    let same = by_number p y x ends k h (eq_true (cell_number p y) (cell_number p x) w) in
    let here : (same_name (cell_function p x) (cell_function p x) && same_point x.point x.point) ≡ true = rw (name_refl (cell_function p x)) (point_refl x.point) in
    ap (λ (z : Cell). same_name (cell_function p z) (cell_function p x) && same_point z.point x.point) same ∙ here)

chosen : (a : Algorithm) (name : List ℕ) (b : Bool) (v : ℤ) (rest : Value) (number : ℤ) → rest ≡ typed (type_named a name) number →
    (if b then typed (type_named a name) v else rest) ≡ typed (type_named a name) (if b then v else number)
chosen a name true v rest number e = refl
chosen a name false v rest number e = e

pub looks_by_number : LooksAreByNumber
looks_by_number a p [] looked x ends distinct all h = refl
looks_by_number a p (y ∷ ys) [] x ends distinct all h = refl
looks_by_number a p (y ∷ ys) (v ∷ vs) x ends distinct all h =
    let name = cell_function p x in
    let rest = looked_value a p ys vs name x.point in
    ap (λ (b : Bool). if b then typed (type_named a name) v else rest) (one_test p x y ends distinct h all.0)
    ∙ chosen a name (cell_number p y == cell_number p x) v rest (first_value (cell_number p x) (map (cell_number p) ys) vs) (looks_by_number a p ys vs x ends distinct all.1 h)
