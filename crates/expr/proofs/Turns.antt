-- The parser's loops, turn by turn.
use Rattle.std.proofs.Common.{◌≡◌, ℕ, suc, ◌+◌, ◌-◌, ◌≤◌, ◌<◌, List, [], ◌∷◌, ◌++◌, Some, None, Result, Ok, Err, refl, sym, ◌∙◌, arith}
use Rattle.numeric.specs.declared.op.Op.{Op}
use Rattle.tree.specs.declared.token.token.Token.{Token}
use Rattle.tree.specs.declared.token.token.Symbol.TheVariants as symbol
use Rattle.tree.specs.Token.Cursor.{after}
use Rattle.tree.specs.Term.{Term, Binary}
use Rattle.expr.specs.declared.parser.Level.{Level}
use Rattle.expr.specs.declared.error.Refusal.{Refusal}
use Rattle.expr.specs.declared.error.Refusal.TheVariants.{TooLarge}
use Rattle.expr.specs.declared.error.Stop.{Stop}
use Rattle.expr.specs.declared.error.Stop.TheVariants as stop
use Rattle.expr.specs.Parsing.{Parse, Reader, Stops, fitted, made, operator_at, joined, closed, expect, indices}
use Rattle.expr.specs.Brackets.{all_closed}

left_is : (limit i : ℕ) → i < limit → limit - i ≡ suc (limit - (i + 1))
left_is limit i lt = omega arith

none_left : (limit i : ℕ) → limit ≤ i → limit - i ≡ 0
none_left limit i le = omega arith

-- ---- operators of one level

module _ (most below : ℕ) (level : Level) (operand : Parse Term) (limit i : ℕ) (left : Term) (ts : List Token) (total : Result (Term × List Token) Refusal) (so_far : joined most below level operand (limit - i) left ts ≡ total) where
  pub join_ends : i < limit → operator_at level ts ≡ None → total ≡ Ok (left, ts)
  unfolding joined
  join_ends lt none =
      let one : joined most below level operand (limit - i) left ts ≡ Ok (left, ts) = rw (left_is limit i lt, none) refl in
      sym so_far ∙ one

  pub join_stops : (s : Stop) (o : Op) (us : List Token) → i < limit → operator_at level ts ≡ Some (o, us) → Stops s (operand us) → Stops s total
  unfolding joined
  join_stops stop.Memory o us lt some h = tt
  join_stops (stop.Refused r) o us lt some h =
      let one : joined most below level operand (limit - i) left ts ≡ Err r = rw (left_is limit i lt, some, h) refl in
      sym so_far ∙ one

  pub join_too_large : (s : Stop) (o : Op) (us vs : List Token) (right : Term) → i < limit → operator_at level ts ≡ Some (o, us) → operand us ≡ Ok (right, vs)
      → Stops s (fitted most below (Binary o left right)) → Stops s total
  unfolding joined made
  join_too_large stop.Memory o us vs right lt some read h = tt
  join_too_large (stop.Refused r) o us vs right lt some read h =
      let one : joined most below level operand (limit - i) left ts ≡ Err r = rw (left_is limit i lt, some, read, h) refl in
      sym so_far ∙ one

  pub join_goes_on : (o : Op) (us vs : List Token) (right new : Term) → i < limit → operator_at level ts ≡ Some (o, us) → operand us ≡ Ok (right, vs)
      → fitted most below (Binary o left right) ≡ Ok new → joined most below level operand (limit - (i + 1)) new vs ≡ total
  unfolding joined made
  join_goes_on o us vs right new lt some read fits =
      let one : joined most below level operand (limit - i) left ts ≡ joined most below level operand (limit - (i + 1)) new vs = rw (left_is limit i lt, some, read, fits) refl in
      sym one ∙ so_far

  pub join_is_done : limit ≤ i → operator_at level ts ≡ None → total ≡ Ok (left, ts)
  unfolding joined
  join_is_done le none =
      let one : joined most below level operand (limit - i) left ts ≡ Ok (left, ts) = rw (none_left limit i le, none) refl in
      sym so_far ∙ one

  pub join_has_more : (p : Op × List Token) → limit ≤ i → operator_at level ts ≡ Some p → total ≡ Err TooLarge
  unfolding joined
  join_has_more p le some =
      let one : joined most below level operand (limit - i) left ts ≡ Err TooLarge = rw (none_left limit i le, some) refl in
      sym so_far ∙ one

-- ---- indices

module _ (inner : Parse Term) (limit i : ℕ) (found : List Term) (ts : List Token) (total : Result (List Term × List Token) Refusal) (so_far : indices inner (limit - i) found ts ≡ total) where
  pub index_stops : (s : Stop) → i < limit → Stops s (inner ts) → Stops s total
  unfolding indices
  index_stops stop.Memory lt h = tt
  index_stops (stop.Refused r) lt h =
      let one : indices inner (limit - i) found ts ≡ Err r = rw (left_is limit i lt, h) refl in
      sym so_far ∙ one

  pub bracket_stops : (s : Stop) (x : Term) (us : List Token) → i < limit → inner ts ≡ Ok (x, us) → after symbol.Comma us ≡ None → Stops s (expect symbol.RightBracket us) → Stops s total
  unfolding indices
  bracket_stops stop.Memory x us lt read none h = tt
  bracket_stops (stop.Refused r) x us lt read none h =
      let one : indices inner (limit - i) found ts ≡ Err r = rw (left_is limit i lt, read, none, h) refl in
      sym so_far ∙ one

  pub bracket_ends : (x : Term) (us vs : List Token) → i < limit → inner ts ≡ Ok (x, us) → after symbol.Comma us ≡ None → expect symbol.RightBracket us ≡ Ok vs → total ≡ Ok (found ++ x ∷ [], vs)
  unfolding indices
  bracket_ends x us vs lt read none h =
      let one : indices inner (limit - i) found ts ≡ Ok (found ++ x ∷ [], vs) = rw (left_is limit i lt, read, none, h) refl in
      sym so_far ∙ one

  pub index_goes_on : (x : Term) (us next : List Token) → i < limit → inner ts ≡ Ok (x, us) → after symbol.Comma us ≡ Some next → indices inner (limit - (i + 1)) (found ++ x ∷ []) next ≡ total
  unfolding indices
  index_goes_on x us next lt read some =
      let one : indices inner (limit - i) found ts ≡ indices inner (limit - (i + 1)) (found ++ x ∷ []) next = rw (left_is limit i lt, read, some) refl in
      sym one ∙ so_far

  pub too_many : limit ≤ i → total ≡ Err TooLarge
  unfolding indices
  too_many le =
      let one : indices inner (limit - i) found ts ≡ Err TooLarge = rw (none_left limit i le) refl in
      sym so_far ∙ one

-- ---- closing brackets

module _ (most below : ℕ) (inner : Reader) (limit i : ℕ) (a : Term) (ts : List Token) (total : Result (Term × List Token) Refusal) (so_far : all_closed most below inner (limit - i) a ts ≡ total) where
  pub bracket_refused : (s : Stop) → i < limit → Stops s (closed most below inner a ts) → Stops s total
  unfolding all_closed
  bracket_refused stop.Memory lt h = tt
  bracket_refused (stop.Refused r) lt h =
      let one : all_closed most below inner (limit - i) a ts ≡ Err r = rw (left_is limit i lt, h) refl in
      sym so_far ∙ one

  pub bracket_closed : (b : Term) (us : List Token) → i < limit → closed most below inner a ts ≡ Ok (b, us) → all_closed most below inner (limit - (i + 1)) b us ≡ total
  unfolding all_closed
  bracket_closed b us lt read =
      let one : all_closed most below inner (limit - i) a ts ≡ all_closed most below inner (limit - (i + 1)) b us = rw (left_is limit i lt, read) refl in
      sym one ∙ so_far

  pub all_are_closed : limit ≤ i → total ≡ Ok (a, ts)
  unfolding all_closed
  all_are_closed le =
      let one : all_closed most below inner (limit - i) a ts ≡ Ok (a, ts) = rw (none_left limit i le) refl in
      sym so_far ∙ one
