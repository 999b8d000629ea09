-- Cells found by function and point.
use Rattle.std.proofs.Common.{◌≡◌, ℕ, zero, suc, ◌+◌, Bool, true, false, ◌≤◌, List, [], ◌∷◌, map, length, Option, Some, None, arith, ap, refl, sym, subst, ◌∙◌}
use Rattle.std.specs.Prelude.{ℤ, pos, ◌&&◌, if◌then◌else◌, slice_get}
use Rattle.std.specs.List.{AllByRecursion}
use Rattle.std.proofs.Props.{props}
use Rattle.std.proofs.Math.Logic.{∥∥₁_elim}
use Rattle.std.proofs.lemmas.Option.{same_Some, slice_get_past}
use Rattle.tree.specs.declared.value.Value.{Value}
use Rattle.tree.specs.Meaning.{typed}
use Rattle.meaning.specs.Algorithm.{Algorithm}
use Rattle.meaning.specs.Names.{same_name, same_point}
use Rattle.soundness.proofs.Learned.{point_true}
use Rattle.soundness.proofs.Refines.{and_parts, name_refl, name_true}
use Rattle.plan.specs.Plan.{Group, Plan}
use Rattle.plan.specs.Certificate.Certificate.{Certificate}
use Rattle.plan.specs.Certificate.Cells.{Cell, Piece, cell, pieces}
use Rattle.plan.specs.Semantics.Setting.{group_name}
use Rattle.headline.specs.Numbers.{cell_number, has_point, is_cell}
use Rattle.headline.specs.Parts.{FunctionsAreDistinct, LooksAreByNumber, first_value}
use Rattle.headline.specs.Work.{cell_function, cells_fetched, looked_value, of_piece, type_named}
use Rattle.checked_plan.specs.Ready.Ready.{place_of_group, Ready}
use Rattle.checked_plan.specs.View.{algorithm_checked, certificate_checked, plan_checked}
use Rattle.checked_plan.specs.declared.checked.Checked.{Checked}
use Rattle.checked_plan.specs.Output.Cells.{number_in}
use Rattle.piece.specs.Found.{first_found, number_or_zero}
use Rattle.piece.specs.Looked.{cells_of_piece, numbers_of_piece}
use Rattle.piece.proofs.Values.{value_found}

-- the cells that a piece fetches are cells
pub are_cells : (a : Algorithm) (p : Plan) (c : Certificate) → Ready a p c → (n : ℕ) → AllByRecursion (λ y. is_cell p y ≡ true) (cells_of_piece p n)
are_cells a p c ready n = of (slice_get (pieces p) n) refl
  where
    of : (o : Option Piece) → slice_get (pieces p) n ≡ o → AllByRecursion (λ y. is_cell p y ≡ true) (of_piece o [] (cells_fetched p))
    of None e = tt
    of (Some x) e = ready.fetched n x e

pub numbers_are : (p : Plan) (n : ℕ) → numbers_of_piece p n ≡ map (cell_number p) (cells_of_piece p n)
numbers_are p n = of (slice_get (pieces p) n)
  where
    of : (o : Option Piece) → of_piece o [] (λ j. map (cell_number p) (cells_fetched p j)) ≡ map (cell_number p) (of_piece o [] (cells_fetched p))
    of None = refl
    of (Some x) = refl

-- behind all pieces nothing is fetched
pub none_past : (p : Plan) (n : ℕ) → length (pieces p) ≤ n → [] ≡ numbers_of_piece p n
none_past p n h = sym (ap (λ (o : Option Piece). of_piece o [] (λ j. map (cell_number p) (cells_fetched p j))) (slice_get_past (pieces p) n h))

-- a group of the name stands at the place
abbrev Found : List ℕ → List Group → ℕ → Type 0
Found name gs n = (f : Group) × (slice_get gs n ≡ Some f) × (f.function ≡ name)

-- the first group of a name that some group has
named_place : (gs : List Group) (name : List ℕ) (m : ℕ) (g : Group) → slice_get gs m ≡ Some g → same_name g.function name ≡ true → Found name gs (place_of_group gs name)
named_place [] name m g e is = absurd (cc e)
named_place (x ∷ xs) name m g e is = of (same_name x.function name) refl m e (λ k h. named_place xs name k g h is)
  where
    of : (b : Bool) → same_name x.function name ≡ b → (k : ℕ) → slice_get (x ∷ xs) k ≡ Some g → ((k : ℕ) → slice_get xs k ≡ Some g → Found name xs (place_of_group xs name)) →
        Found name (x ∷ xs) (elim b [ true ↦ 0 | false ↦ 1 + place_of_group xs name ])
    of true s k h rest = (x, refl, name_true x.function name s)
    of false s zero h rest = (let same : x ≡ g = cc in absurd (cc (sym s ∙ ap (λ (y : Group). same_name y.function name) same ∙ is)))
    of false s (suc k) h rest = (
        let r = rest k h in
        let one : 1 + place_of_group xs name ≡ suc (place_of_group xs name) = omega arith in
        subst (Found name (x ∷ xs)) (sym one) r)

module _ (a : Algorithm) (p : Plan) (distinct : FunctionsAreDistinct p) (name : List ℕ) (at : List ℤ) where
  -- a cell of the function at the point is of the first group of the function
  first_group : (x : Cell) → is_cell p x ≡ true → cell_function p x ≡ name → x.point ≡ at → is_cell p (cell (place_of_group p.groups name) at) ≡ true
  first_group x h is there = of (slice_get p.groups x.group) refl h
    where
      of : (o : Option Group) → slice_get p.groups x.group ≡ o → has_point o x.point ≡ true → is_cell p (cell (place_of_group p.groups name) at) ≡ true
      of None e k = absurd (cc k)
      of (Some g) e k =
          let named : g.function ≡ name = sym (ap group_name e) ∙ is in
          let f = named_place p.groups name x.group g e (ap (λ (n : List ℕ). same_name n name) named ∙ name_refl name) in
          let same : x.group ≡ place_of_group p.groups name = distinct x.group (place_of_group p.groups name) g f.0 e f.1 (named ∙ sym f.2) in
          (λ i. has_point (slice_get p.groups (sym same i)) (sym there i)) ∙ h

  -- where that is no cell no value is known
  nothing : (xs : List Cell) (looked : List ℤ) → AllByRecursion (λ y. is_cell p y ≡ true) xs → is_cell p (cell (place_of_group p.groups name) at) ≡ false →
      looked_value a p xs looked name at ≡ typed (type_named a name) (pos 0)
  nothing [] looked all none = refl
  nothing (x ∷ xs) [] all none = refl
  nothing (x ∷ xs) (v ∷ vs) all none =
      of (same_name (cell_function p x) name && same_point x.point at) refl (nothing xs vs all.1 none)
    where
      of : (b : Bool) → (same_name (cell_function p x) name && same_point x.point at) ≡ b → looked_value a p xs vs name at ≡ typed (type_named a name) (pos 0) →
          (if b then typed (type_named a name) v else looked_value a p xs vs name at) ≡ typed (type_named a name) (pos 0)
      of false e rest = rest
      of true e rest =
          let parts = and_parts (same_name (cell_function p x) name) (same_point x.point at) e in
          let yes = first_group x all.0 (name_true (cell_function p x) name parts.0) (point_true x.point at parts.1) in
          absurd (cc (sym none ∙ yes))

-- the function of the group that stands at a name's place
place_named : (gs : List Group) (name : List ℕ) (at : List ℤ) → has_point (slice_get gs (place_of_group gs name)) at ≡ true → group_name (slice_get gs (place_of_group gs name)) ≡ name
place_named [] name at h = absurd (cc h)
place_named (g ∷ gs) name at h = of (same_name g.function name) refl h (place_named gs name at)
  where
    of : (b : Bool) → same_name g.function name ≡ b → has_point (slice_get (g ∷ gs) (elim b [ true ↦ 0 | false ↦ 1 + place_of_group gs name ])) at ≡ true →
        (has_point (slice_get gs (place_of_group gs name)) at ≡ true → group_name (slice_get gs (place_of_group gs name)) ≡ name) →
        group_name (slice_get (g ∷ gs) (elim b [ true ↦ 0 | false ↦ 1 + place_of_group gs name ])) ≡ name
    of true e k rest = name_true g.function name e
    of false e k rest = (
        let one : 1 + place_of_group gs name ≡ suc (place_of_group gs name) = omega arith in
        ap (λ (n : ℕ). group_name (slice_get (g ∷ gs) n)) one ∙ rest (ap (λ (n : ℕ). has_point (slice_get (g ∷ gs) n) at) (sym one) ∙ k))

-- what is told of a number
record IsNumbered (p : Plan) (n : ℕ) (at : List ℤ) (number : ℕ) : Type 0 where
  is : is_cell p (cell n at) ≡ true
  same : cell_number p (cell n at) ≡ number

numbered : (p : Plan) (n : ℕ) (at : List ℤ) (number : ℕ) → number_in p n at ≡ Some number → IsNumbered p n at number
numbered p n at number e = of (is_cell p (cell n at)) refl e
  where
    of : (b : Bool) → is_cell p (cell n at) ≡ b → (if b then Some (cell_number p (cell n at)) else None) ≡ Some number → IsNumbered p n at number
    of true is h = record { is = is; same = same_Some (cell_number p (cell n at)) number h }
    of false is h = absurd (cc h)

unnumbered : (p : Plan) (n : ℕ) (at : List ℤ) → number_in p n at ≡ None → is_cell p (cell n at) ≡ false
unnumbered p n at e = of (is_cell p (cell n at)) refl e
  where
    of : (b : Bool) → is_cell p (cell n at) ≡ b → (if b then Some (cell_number p (cell n at)) else None) ≡ None → is_cell p (cell n at) ≡ false
    of true is h = absurd (cc h)
    of false is h = is

module _ (a : Algorithm) (p : Plan) (c : Certificate) (ready : Ready a p c) (name : List ℕ) (at : List ℤ) (j : ℕ) (looked : List ℤ) where
  known_ready : LooksAreByNumber → (number : ℕ) → number_in p (place_of_group p.groups name) at ≡ Some number →
      looked_value a p (cells_of_piece p j) looked name at ≡ typed (type_named a name) (first_value number (numbers_of_piece p j) looked)
  known_ready law number e =
      let n = place_of_group p.groups name in
      let h = numbered p n at number e in
      let named : cell_function p (cell n at) ≡ name = place_named p.groups name at h.is in
      let by = law a p (cells_of_piece p j) looked (cell n at) ready.ends ready.distinct (are_cells a p c ready j) h.is in
      let told : List ℕ → List ℕ → ℕ → Value = λ f ns m. typed (type_named a f) (first_value m ns looked) in
      ap (λ (f : List ℕ). looked_value a p (cells_of_piece p j) looked f at) (sym named)
      ∙ by
      ∙ ap (λ (f : List ℕ). told f (map (cell_number p) (cells_of_piece p j)) (cell_number p (cell n at))) named
      ∙ ap (λ (ns : List ℕ). told name ns (cell_number p (cell n at))) (sym (numbers_are p j))
      ∙ ap (λ (m : ℕ). told name (numbers_of_piece p j) m) h.same

  unknown_ready : number_in p (place_of_group p.groups name) at ≡ None → looked_value a p (cells_of_piece p j) looked name at ≡ typed (type_named a name) (pos 0)
  unknown_ready e = nothing a p ready.distinct name at (cells_of_piece p j) looked (are_cells a p c ready j) (unnumbered p (place_of_group p.groups name) at e)

-- the type of what is known of a name
looked_type : (a : Algorithm) (p : Plan) (xs : List Cell) (vs : List ℤ) (name : List ℕ) (at : List ℤ) → (looked_value a p xs vs name at).ty ≡ type_named a name
looked_type a p [] vs name at = refl
looked_type a p (x ∷ xs) [] name at = refl
looked_type a p (x ∷ xs) (v ∷ vs) name at = of (same_name (cell_function p x) name && same_point x.point at) (looked_type a p xs vs name at)
  where
    of : (b : Bool) → (looked_value a p xs vs name at).ty ≡ type_named a name → (if b then typed (type_named a name) v else looked_value a p xs vs name at).ty ≡ type_named a name
    of true rest = refl
    of false rest = rest

-- a value of the type of a name and a known number
of_parts : (v : Value) (a : Algorithm) (name : List ℕ) (z : ℤ) → v.ty ≡ type_named a name → v.number ≡ z → typed (type_named a name) z ≡ v
of_parts v a name z t n = λ i. record { ty = sym t i; number = sym n i }

module _ (x : Checked) (name : List ℕ) (at : List ℤ) (j : ℕ) (looked : List ℤ) where
  abbrev a : Algorithm
  a = algorithm_checked x

  abbrev p : Plan
  p = plan_checked x

  -- what is known of the cell
  abbrev here : Value
  here = looked_value a p (cells_of_piece p j) looked name at

  -- the value of a cell that has a number
  pub known : LooksAreByNumber → (number : ℕ) (found : Option ℤ) → number_in p (place_of_group p.groups name) at ≡ Some number →
      found ≡ first_found number (numbers_of_piece p j) looked → typed (type_named a name) (number_or_zero found) ≡ here
  known law number found e is =
      let value : here.number ≡ first_value number (numbers_of_piece p j) looked =
      ∥∥₁_elim x.ready (search props) (λ ready. ap (λ (v : Value). v.number) (known_ready a p (certificate_checked x) ready name at j looked law number e)) in
      ap (λ (o : Option ℤ). typed (type_named a name) (number_or_zero o)) is
      ∙ of_parts here a name (number_or_zero (first_found number (numbers_of_piece p j) looked)) (looked_type a p (cells_of_piece p j) looked name at)
      (value ∙ sym (value_found number (numbers_of_piece p j) looked))

  -- 0 where there is none
  pub unknown : number_in p (place_of_group p.groups name) at ≡ None → typed (type_named a name) (pos 0) ≡ here
  unknown e =
      let value : here.number ≡ pos 0 =
      ∥∥₁_elim x.ready (search props) (λ ready. ap (λ (v : Value). v.number) (unknown_ready a p (certificate_checked x) ready name at j looked e)) in
      of_parts here a name (pos 0) (looked_type a p (cells_of_piece p j) looked name at) value
