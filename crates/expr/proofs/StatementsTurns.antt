-- The parser's loops, turn by turn.
use Rattle.std.proofs.Common.{◌≡◌, ℕ, suc, ◌+◌, ◌-◌, ◌≤◌, ◌<◌, List, [], ◌∷◌, ◌++◌, map, subst, Option, Some, None, Result, Ok, Err, refl, sym, ◌∙◌, arith}
use Rattle.std.specs.Prelude.{option_map}
use Rattle.std.proofs.lemmas.List.{map-append}
use Rattle.tree.specs.declared.token.token.Token.{Token}
use Rattle.tree.specs.declared.token.token.Symbol.TheVariants as symbol
use Rattle.tree.specs.Token.Cursor.{after}
use Rattle.tree.specs.Term.{Term}
use Rattle.expr.specs.declared.statements.error.Refusal.{Refusal}
use Rattle.expr.specs.declared.statements.error.Stop.{Stop}
use Rattle.expr.specs.declared.statements.error.Stop.TheVariants as stop
use Rattle.expr.specs.Statements.Text.{StatementText}
use Rattle.expr.specs.Statements.Reading.{Parse, Stops, more_of, statement, statements}

left_is : (limit i : ℕ) → i < limit → limit - i ≡ suc (limit - (i + 1))
left_is limit i lt = omega arith

none_left : (limit i : ℕ) → limit ≤ i → limit - i ≡ 0
none_left limit i le = omega arith

-- one more element, seen by view
pub map_pushed : {X A : Type 0} (view : X → A) (xs : List X) (x : X) → map view (xs ++ x ∷ []) ≡ map view xs ++ view x ∷ []
map_pushed view xs x = map-append view xs (x ∷ [])

-- ---- items behind commas

module _ {A : Type 0} (item : Parse A) (limit i : ℕ) (found : List A) (ts : List Token) (total : Result (List A × List Token) Refusal) (so_far : more_of item (limit - i) found ts ≡ total) where
  pub items_end : i < limit → after symbol.Comma ts ≡ None → total ≡ Ok (found, ts)
  unfolding more_of
  items_end lt none =
      let one : more_of item (limit - i) found ts ≡ Ok (found, ts) = rw (left_is limit i lt, none) refl in
      sym so_far ∙ one

  pub item_stops : (s : Stop) (us : List Token) → i < limit → after symbol.Comma ts ≡ Some us → Stops s (item us) → Stops s total
  unfolding more_of
  item_stops stop.Memory us lt some h = tt
  item_stops (stop.Refused r) us lt some h =
      let one : more_of item (limit - i) found ts ≡ Err r = rw (left_is limit i lt, some, h) refl in
      sym so_far ∙ one

  pub items_go_on : (x : A) (us vs : List Token) → i < limit → after symbol.Comma ts ≡ Some us → item us ≡ Ok (x, vs) → more_of item (limit - (i + 1)) (found ++ x ∷ []) vs ≡ total
  unfolding more_of
  items_go_on x us vs lt some read =
      let one : more_of item (limit - i) found ts ≡ more_of item (limit - (i + 1)) (found ++ x ∷ []) vs = rw (left_is limit i lt, some, read) refl in
      sym one ∙ so_far

  pub items_are_done : limit ≤ i → total ≡ Ok (found, ts)
  unfolding more_of
  items_are_done le =
      let one : more_of item (limit - i) found ts ≡ Ok (found, ts) = rw (none_left limit i le) refl in
      sym so_far ∙ one

-- ---- statements

-- what was read, seen by view, where it is known which of the two it is
pub seen_none : {X A : Type 0} (view : X → A) (read : Result (Option A × List Token) Refusal) (o : Option X) (us : List Token) → read ≡ Ok (option_map view o, us) → o ≡ None → read ≡ Ok (None, us)
seen_none {X} view read o us h e = subst (λ (p : Option X). read ≡ Ok (option_map view p, us)) e h

pub seen_some : {X A : Type 0} (view : X → A) (read : Result (Option A × List Token) Refusal) (o : Option X) (x : X) (us : List Token) → read ≡ Ok (option_map view o, us) → o ≡ Some x → read ≡ Ok (Some (view x), us)
seen_some {X} view read o x us h e = subst (λ (p : Option X). read ≡ Ok (option_map view p, us)) e h

module _ (limit i : ℕ) (found : List (StatementText Term)) (ts : List Token) (total : Result (List (StatementText Term) × List Token) Refusal) (so_far : statements (limit - i) found ts ≡ total) where
  pub statements_end : (us : List Token) → i < limit → statement ts ≡ Ok (None, us) → total ≡ Ok (found, us)
  unfolding statements
  statements_end us lt none =
      let one : statements (limit - i) found ts ≡ Ok (found, us) = rw (left_is limit i lt, none) refl in
      sym so_far ∙ one

  pub statement_stops : (s : Stop) → i < limit → Stops s (statement ts) → Stops s total
  unfolding statements
  statement_stops stop.Memory lt h = tt
  statement_stops (stop.Refused r) lt h =
      let one : statements (limit - i) found ts ≡ Err r = rw (left_is limit i lt, h) refl in
      sym so_far ∙ one

  pub statements_go_on : (x : StatementText Term) (vs : List Token) → i < limit → statement ts ≡ Ok (Some x, vs) → statements (limit - (i + 1)) (found ++ x ∷ []) vs ≡ total
  unfolding statements
  statements_go_on x vs lt read =
      let one : statements (limit - i) found ts ≡ statements (limit - (i + 1)) (found ++ x ∷ []) vs = rw (left_is limit i lt, read) refl in
      sym one ∙ so_far

  pub statements_are_done : limit ≤ i → total ≡ Ok (found, ts)
  unfolding statements
  statements_are_done le =
      let one : statements (limit - i) found ts ≡ Ok (found, ts) = rw (none_left limit i le) refl in
      sym so_far ∙ one
