-- What is told by the bits of fetched cells is what is told by their values.
use Rattle.std.proofs.Common.{◌≡◌, ℕ, Bool, true, false, List, [], ◌∷◌, map, ℤ, pos, refl, ap, subst}
use Rattle.std.specs.Prelude.{◌&&◌, if◌then◌else◌}
use Rattle.std.specs.List.{AllByRecursion}
use Rattle.numeric.specs.declared.ty.Ty.{Ty}
use Rattle.numeric.specs.Wrap.{IsOf}
use Rattle.numeric.proofs.Wraps.{wrap_of_value}
use Rattle.tree.specs.Meaning.{typed}
use Rattle.meaning.specs.Algorithm.{Algorithm}
use Rattle.meaning.specs.Names.{same_name, same_point}
use Rattle.meaning.proofs.Types.{zero_is_of}
use Rattle.plan.specs.Plan.{Plan}
use Rattle.plan.specs.Certificate.Cells.{Cell}
use Rattle.soundness.proofs.Refines.{and_parts, name_true}
use Rattle.headline.specs.Work.{cell_function, looked_value, type_named}
use Rattle.board.specs.Layout.{value_at}
use Rattle.board.specs.Words.{bits_of}
use Rattle.crew.specs.Private.{as_typed, words_at}
use Rattle.crew.proofs.Bits.{value_of_bits}

module _ (a : Algorithm) (p : Plan) (values : List ℤ) (number : Cell → ℕ) where
  -- the value of the cell is one of its function's type
  abbrev pub IsTyped : Cell → Type 0
  IsTyped x = IsOf (type_named a (cell_function p x)) (value_at values (number x))

  pub told_values : (xs : List Cell) → AllByRecursion IsTyped xs → (name : List ℕ) (at : List ℤ) →
      as_typed (looked_value a p xs (words_at values (map number xs)) name at) ≡ looked_value a p xs (map (value_at values) (map number xs)) name at
  told_values [] all name at = ap (typed (type_named a name)) (wrap_of_value (type_named a name) (pos 0) (zero_is_of (type_named a name)))
  told_values (x ∷ xs) all name at = of (same_name (cell_function p x) name && same_point x.point at) refl (told_values xs all.1 name at)
    where
      t : Ty
      t = type_named a name

      of : (b : Bool) → (same_name (cell_function p x) name && same_point x.point at) ≡ b →
          as_typed (looked_value a p xs (words_at values (map number xs)) name at) ≡ looked_value a p xs (map (value_at values) (map number xs)) name at →
          as_typed (if b then typed t (pos (bits_of (value_at values (number x)))) else looked_value a p xs (words_at values (map number xs)) name at)
          ≡ (if b then typed t (value_at values (number x)) else looked_value a p xs (map (value_at values) (map number xs)) name at)
      of false e rest = rest
      of true e rest =
          let parts = and_parts (same_name (cell_function p x) name) (same_point x.point at) e in
          let same = name_true (cell_function p x) name parts.0 in
          let here : IsOf t (value_at values (number x)) = subst (λ (n : List ℕ). IsOf (type_named a n) (value_at values (number x))) same all.0 in
          ap (typed t) (value_of_bits t (value_at values (number x)) here)
