-- A list from a place on, one more element at a time.
use Rattle.std.proofs.Common.{◌≡◌, ℕ, suc, ◌+◌, ◌<◌, List, ◌∷◌, drop, length, get_or, drop-cons, add-one, sym, ap, ◌∙◌}

pub drop_more : {X : Type 0} (all : List X) (i : ℕ) (x : X) → i < length all → x ≡ get_or all i x → drop i all ≡ x ∷ drop (i + 1) all
drop_more {X} all i x lt is = drop-cons all i x lt ∙ ap (λ (y : X). y ∷ drop (suc i) all) (sym is) ∙ ap (λ (n : ℕ). x ∷ drop n all) (sym (add-one i))
