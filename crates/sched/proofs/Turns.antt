-- The parser's loops, turn by turn.
use Rattle.std.proofs.Common.{◌≡◌, ℕ, zero, suc, true, false, length, ap, ◌+◌, ◌-◌, ◌≤◌, ◌<◌, List, [], ◌∷◌, ◌++◌, map, Some, None, Result, Ok, Err, refl, sym, ◌∙◌, arith}
use Rattle.std.proofs.lemmas.List.{map-append}
use Rattle.tree.specs.declared.token.token.Token.{Token}
use Rattle.tree.specs.declared.token.token.Symbol.{Symbol}
use Rattle.tree.specs.declared.token.token.Lexeme.{Lexeme}
use Rattle.tree.specs.Token.Cursor.{after, kinds}
use Rattle.sched.specs.declared.error.Refusal.{Refusal}
use Rattle.sched.specs.declared.error.Stop.{Stop}
use Rattle.sched.specs.declared.error.Stop.TheVariants as stop
use Rattle.sched.specs.Schedule.{ScheduledText, Schedule}
use Rattle.sched.specs.Reading.{Parse, Stops, more_of, is_done, ended, scheduled, functions, file}

left_is : (limit i : ℕ) → i < limit → limit - i ≡ suc (limit - (i + 1))
left_is limit i lt = omega arith

none_left : (limit i : ℕ) → limit ≤ i → limit - i ≡ 0
none_left limit i le = omega arith

-- one more element, seen by view
pub map_pushed : {X A : Type 0} (view : X → A) (xs : List X) (x : X) → map view (xs ++ x ∷ []) ≡ map view xs ++ view x ∷ []
map_pushed view xs x = map-append view xs (x ∷ [])

-- ---- items, each behind a symbol

module _ {A : Type 0} (s : Symbol) (item : Parse A) (limit i : ℕ) (found : List A) (ts : List Token) (total : Result (List A × List Token) Refusal) (so_far : more_of s item (limit - i) found ts ≡ total) where
  pub items_end : i < limit → after s ts ≡ None → total ≡ Ok (found, ts)
  unfolding more_of
  items_end lt none =
      let one : more_of s item (limit - i) found ts ≡ Ok (found, ts) = rw (left_is limit i lt, none) refl in
      sym so_far ∙ one

  pub item_stops : (why : Stop) (us : List Token) → i < limit → after s ts ≡ Some us → Stops why (item us) → Stops why total
  unfolding more_of
  item_stops stop.Memory us lt some h = tt
  item_stops (stop.Refused r) us lt some h =
      let one : more_of s item (limit - i) found ts ≡ Err r = rw (left_is limit i lt, some, h) refl in
      sym so_far ∙ one

  pub items_go_on : (x : A) (us vs : List Token) → i < limit → after s ts ≡ Some us → item us ≡ Ok (x, vs) → more_of s item (limit - (i + 1)) (found ++ x ∷ []) vs ≡ total
  unfolding more_of
  items_go_on x us vs lt some read =
      let one : more_of s item (limit - i) found ts ≡ more_of s item (limit - (i + 1)) (found ++ x ∷ []) vs = rw (left_is limit i lt, some, read) refl in
      sym one ∙ so_far

  pub items_are_done : limit ≤ i → total ≡ Ok (found, ts)
  unfolding more_of
  items_are_done le =
      let one : more_of s item (limit - i) found ts ≡ Ok (found, ts) = rw (none_left limit i le) refl in
      sym so_far ∙ one

-- ---- functions

length_kinds : (ls : List Lexeme) → length (kinds ls) ≡ length ls
length_kinds [] = refl
length_kinds (l ∷ ls) = ap (λ (n : ℕ). suc n) (length_kinds ls)

minus_zero : (n : ℕ) → n - 0 ≡ n
minus_zero n = omega arith

pub file_is_functions : (ls : List Lexeme) → functions (length ls - 0) [] (kinds ls) ≡ file (kinds ls)
unfolding file
file_is_functions ls = ap (λ (n : ℕ). functions n [] (kinds ls)) (minus_zero (length ls) ∙ sym (length_kinds ls))

at_end : (n : ℕ) (found : Schedule) → functions n found [] ≡ ended found []
unfolding functions
at_end zero found = refl
at_end (suc n) found = refl

module _ (limit i : ℕ) (found : Schedule) (total : Result Schedule Refusal) where
  pub functions_end : (ts : List Token) → true ≡ is_done ts → functions (limit - i) found ts ≡ total → ended found ts ≡ total
  functions_end [] done so_far = sym (at_end (limit - i) found) ∙ so_far
  functions_end (t ∷ ts) done so_far = absurd cc

  pub function_stops : (why : Stop) (ts : List Token) → i < limit → false ≡ is_done ts → functions (limit - i) found ts ≡ total → Stops why (scheduled ts) → Stops why total
  unfolding functions
  function_stops why [] lt left so_far h = absurd cc
  function_stops stop.Memory (t ∷ ts) lt left so_far h = tt
  function_stops (stop.Refused r) (t ∷ ts) lt left so_far h =
      let one : functions (limit - i) found (t ∷ ts) ≡ Err r = rw (left_is limit i lt, h) refl in
      sym so_far ∙ one

  pub functions_go_on : (x : ScheduledText) (ts vs : List Token) → i < limit → false ≡ is_done ts → functions (limit - i) found ts ≡ total → scheduled ts ≡ Ok (x, vs) → functions (limit - (i + 1)) (found ++ x ∷ []) vs ≡ total
  unfolding functions
  functions_go_on x [] vs lt left so_far read = absurd cc
  functions_go_on x (t ∷ ts) vs lt left so_far read =
      let one : functions (limit - i) found (t ∷ ts) ≡ functions (limit - (i + 1)) (found ++ x ∷ []) vs = rw (left_is limit i lt, read) refl in
      sym one ∙ so_far

  pub functions_are_done : (ts : List Token) → limit ≤ i → functions (limit - i) found ts ≡ total → ended found ts ≡ total
  unfolding functions
  functions_are_done ts le so_far =
      let one : functions (limit - i) found ts ≡ ended found ts = rw (none_left limit i le) refl in
      sym one ∙ so_far
