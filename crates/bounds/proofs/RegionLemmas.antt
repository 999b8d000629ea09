-- Regions made from the front.
use Rattle.std.proofs.Common.{◌≡◌, List, [], ◌∷◌, ◌++◌, append_assoc, Option, Some, None, refl, ap}
use Rattle.std.specs.Prelude.{option_map}
use Rattle.lin.specs.declared.span.Span1.{Span1}
use Rattle.bounds.specs.Projection.Unions.{in_front}

-- spans before those of a region
abbrev pub behind : List Span1 → Option (List Span1) → Option (List Span1)
behind made rest = option_map (λ ss. made ++ ss) rest

pub behind-in_front : (made : List Span1) (s : Span1) (rest : Option (List Span1)) → behind (made ++ s ∷ []) rest ≡ behind made (in_front (Some s) rest)
behind-in_front made s None = refl
behind-in_front made s (Some ss) = ap Some (append_assoc made (s ∷ []) ss)
