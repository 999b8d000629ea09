-- The ends of a range as they are passed.
use Rattle.std.proofs.Common.{◌≡◌, List, [], ◌∷◌, ◌++◌, ap, ◌∙◌, append_assoc}
use Rattle.tree.specs.declared.token.token.Token.{Token}
use Rattle.std.specs.Prelude.{ℤ, ℕ}
use Rattle.printer.specs.Tokens.{one_name, bounds_tokens}

-- a name and both ends
pub range_put : (start now next : List Token) (x y : List ℕ) (low low' high high' : ℤ) → now ≡ start ++ one_name x → x ≡ y → low ≡ low' → high ≡ high' → next ≡ now ++ bounds_tokens low high → next ≡ start ++ (one_name y ++ bounds_tokens low' high')
range_put start now next x y low low' high high' a e f g h =
    h ∙ ap (λ ts. ts ++ bounds_tokens low high) a ∙ append_assoc start (one_name x) (bounds_tokens low high) ∙ (λ i. start ++ (one_name (e i) ++ bounds_tokens (f i) (g i)))
