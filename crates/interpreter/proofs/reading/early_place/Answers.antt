use Rattle.std.proofs.Common.{[], ◌∷◌, ◌<◌, ℕ, List, length, get_or, ap, ◌∙◌, arith}
use Rattle.std.proofs.lemmas.Bool.{ltb-false}
use Rattle.meaning.specs.Names.{same_name}
use Rattle.interpreter.proofs.NamedPlaces.{before_more, number_named}
use Rattle.interpreter.proofs.reading.early_place.Goals as goal

pub returns-then-is_named_byte : goal.returns-then-is_named_byte
returns-then-is_named_byte c = λ zs.
    let cs = c.args.coordinates.now in
    let name : List ℕ = c.args.byte ∷ [] in
    let inside : 0 < length cs = omega (arith, ltb-false) in
    number_named cs zs name 0 (get_or cs 0 c.index-coordinates-0.result) (λ j less y at. absurd (omega arith)) inside (ap (get_or cs 0) c.index-coordinates-0.is)
    (c.if-is_named_byte.ensures ∙ ap (λ (b : List ℕ). same_name b name) c.as_str.ensures.value)

pub returns-then-is_named_byte-2 : goal.returns-then-is_named_byte-2
returns-then-is_named_byte-2 c = λ zs.
    let cs = c.args.coordinates.now in
    let name : List ℕ = c.args.byte ∷ [] in
    let inside : 1 < length cs = omega (arith, ltb-false) in
    let first = before_more cs name 0 (get_or cs 0 c.index-coordinates-0.result) (omega (arith, inside)) (λ j less y at. absurd (omega arith)) (ap (get_or cs 0) c.index-coordinates-0.is)
    (c.if-is_named_byte.ensures ∙ ap (λ (b : List ℕ). same_name b name) c.as_str.ensures.value) in
    number_named cs zs name 1 (get_or cs 1 c.index-coordinates-1.result) first inside (ap (get_or cs 1) c.index-coordinates-1.is)
    (c.if-is_named_byte-2.ensures ∙ ap (λ (b : List ℕ). same_name b name) c.as_str-2.ensures.value)
