-- Lists that are written part by part.
use Rattle.std.proofs.Common.{◌≡◌, ℕ, zero, suc, ◌+◌, ◌<◌, List, [], ◌∷◌, ◌++◌, length, take, get_or, refl, sym, ap, ◌∙◌, append_assoc, length-take-le, arith}
use Rattle.std.proofs.lemmas.List.{take_more}
use Rattle.spelling.specs.Words.Spelling.{separated_text, separator_before}

-- an item is itself, whatever stands for one that is not there
pub item_is : {X : Type 0} (xs : List X) (i : ℕ) (other : X) → i < length xs → get_or xs i other ≡ get_or xs i (get_or xs i other)
item_is [] i other lt = absurd (omega arith)
item_is (x ∷ xs) zero other lt = refl
item_is (x ∷ xs) (suc i) other lt = item_is xs i other (omega arith)

module _ {X : Type 0} (separator : ℕ) (text : X → List ℕ) where
  one_more : (xs : List X) (x : X) → separated_text separator text (xs ++ x ∷ []) ≡ separated_text separator text xs ++ (separator_before (separator ∷ []) (length xs) ++ text x)
  one_more [] x = refl
  one_more (y ∷ []) x = refl
  one_more (y ∷ z ∷ zs) x =
      ap (λ (t : List ℕ). text y ++ (separator ∷ t)) (one_more (z ∷ zs) x)
      ∙ sym (append_assoc (text y) (separator ∷ separated_text separator text (z ∷ zs)) (separator ∷ text x))

  -- a part more, behind what was written of those before it
  pub part_more : (xs : List X) (i : ℕ) (x : X) (start before between after : List ℕ) → i < length xs → x ≡ get_or xs i x → before ≡ start ++ separated_text separator text (take i xs)
      → between ≡ before ++ separator_before (separator ∷ []) i → after ≡ between ++ text x → after ≡ start ++ separated_text separator text (take (i + 1) xs)
  part_more xs i x start before between after lt is so_far signed written =
      let long : length (take i xs) ≡ i = omega (arith, length-take-le i xs (omega arith)) in
      let whole : take i xs ++ x ∷ [] ≡ take (i + 1) xs = ap (λ (y : X). take i xs ++ y ∷ []) is ∙ sym (take_more xs i x lt) in
      let front = separated_text separator text (take i xs) in
      written
      ∙ ap (λ (t : List ℕ). t ++ text x) (signed ∙ ap (λ (t : List ℕ). t ++ separator_before (separator ∷ []) i) so_far)
      ∙ append_assoc (start ++ front) (separator_before (separator ∷ []) i) (text x)
      ∙ append_assoc start front (separator_before (separator ∷ []) i ++ text x)
      ∙ ap (λ (n : ℕ). start ++ (front ++ (separator_before (separator ∷ []) n ++ text x))) (sym long)
      ∙ ap (λ (t : List ℕ). start ++ t) (sym (one_more (take i xs) x))
      ∙ ap (λ (ys : List X). start ++ separated_text separator text ys) whole
