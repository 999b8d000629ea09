use Rattle.std.proofs.Common.{◌≡◌, map, ap, ◌∙◌, rules}
use Rattle.std.specs.Prelude.{string_bytes}
use Rattle.algo.specs.Parts.{names_of, change_of}
use Rattle.crop.specs.Piece.{change_in}
use Rattle.crop.proofs.cutting.function_cut.Goals as goal

pub returns : goal.returns
returns c =
    let p = c.args.piece.now in
    let name : string_bytes c.in_ok-name.name ≡ string_bytes p.name.now = search rules in
    let variables = c.in_ok-variables.ensures ∙ ap names_of c.deref.ensures.value in
    let changes = c.in_ok-updates.ensures ∙ ap (λ us. map (change_in p) (map change_of us)) c.deref-2.ensures.value in
    λ i. record { name = name i; ty = p.function.now.ty; variables = variables i; value = c.in_ok-value.ensures i; changes = changes i }
