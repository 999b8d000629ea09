-- The loops that read lists, turn by turn.
use Rattle.std.proofs.Common.{◌≡◌, ℕ, suc, ◌+◌, ◌-◌, ◌≤◌, ◌<◌, true, false, List, [], ◌∷◌, ◌++◌, drop, refl, sym, ap, ◌∙◌, arith}
use Rattle.std.specs.Prelude.{slice_index}
use Rattle.lin.specs.declared.form.Multiple.{Multiple}
use Rattle.spelling.specs.Words.Reading.{begins, is_sign, separated_from, with_term, term_from, terms_from}

left_is : (limit i : ℕ) → i < limit → limit - i ≡ suc (limit - (i + 1))
left_is limit i lt = omega arith

none_left : (limit i : ℕ) → limit ≤ i → limit - i ≡ 0
none_left limit i le = omega arith

-- the whole is what is read of the text that is left after i of so many turns
module _ (limit i : ℕ) (found : List Multiple) (text : List ℕ) (total : List Multiple × List ℕ) (so_far : terms_from (limit - i) found text ≡ total) where
  pub terms_end : i < limit → is_sign (slice_index text 0) ≡ false → (found, text) ≡ total
  unfolding terms_from
  terms_end lt none = let one : terms_from (limit - i) found text ≡ (found, text) = rw (left_is limit i lt, none) refl in sym one ∙ so_far

  pub terms_go_on : i < limit → is_sign (slice_index text 0) ≡ true → terms_from (limit - (i + 1)) (with_term found (term_from text).0) (term_from text).1 ≡ total
  unfolding terms_from
  terms_go_on lt some =
      let one : terms_from (limit - i) found text ≡ terms_from (limit - (i + 1)) (with_term found (term_from text).0) (term_from text).1 = rw (left_is limit i lt, some) refl in
      sym one ∙ so_far

  pub terms_done : limit ≤ i → (found, text) ≡ total
  unfolding terms_from
  terms_done le = let one : terms_from (limit - i) found text ≡ (found, text) = rw (none_left limit i le) refl in sym one ∙ so_far

-- x is what is read first of the text that is left after i of so many turns, and next is what follows it
module _ {X : Type 0} (separator : ℕ) (read : List ℕ → X × List ℕ) (limit i : ℕ) (found : List X) (text : List ℕ) (total : List X × List ℕ) (so_far : separated_from separator read (limit - i) found text ≡ total) where
  pub separated_end : (x : X) (next : List ℕ) → x ≡ (read text).0 → next ≡ (read text).1 → i < limit → begins separator next ≡ false → (found ++ x ∷ [], next) ≡ total
  unfolding separated_from
  separated_end x next is rest lt none =
      let stop : begins separator (read text).1 ≡ false = ap (begins separator) (sym rest) ∙ none in
      let one : separated_from separator read (limit - i) found text ≡ (found ++ (read text).0 ∷ [], (read text).1) = rw (left_is limit i lt, stop) refl in
      rw (is, rest) (sym one ∙ so_far)

  pub separated_go_on : (x : X) (next : List ℕ) → x ≡ (read text).0 → next ≡ (read text).1 → i < limit → begins separator next ≡ true → separated_from separator read (limit - (i + 1)) (found ++ x ∷ []) (drop 1 next) ≡ total
  unfolding separated_from
  separated_go_on x next is rest lt some =
      let more : begins separator (read text).1 ≡ true = ap (begins separator) (sym rest) ∙ some in
      let one : separated_from separator read (limit - i) found text ≡ separated_from separator read (limit - (i + 1)) (found ++ (read text).0 ∷ []) (drop 1 (read text).1) = rw (left_is limit i lt, more) refl in
      rw (is, rest) (sym one ∙ so_far)

  pub separated_done : limit ≤ i → (found, text) ≡ total
  unfolding separated_from
  separated_done le = let one : separated_from separator read (limit - i) found text ≡ (found, text) = rw (none_left limit i le) refl in sym one ∙ so_far
