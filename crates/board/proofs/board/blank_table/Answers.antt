use Rattle.std.proofs.Common.{◌≡◌, ◌+◌, ℕ, ℤ, List, [], ◌∷◌, ◌∙◌, replicate, rules, sym, ap, subst}
use Rattle.std.proofs.lemmas.Grind.{common_steps}
use Rattle.board.specs.Layout.{Layout, pieces_of}
use Rattle.board.specs.Words.{word_count}
use Rattle.board.specs.Views.{first_view}
use Rattle.board.specs.Rule.{Kept}
use Rattle.board.proofs.Keeps.{opens}
use Rattle.board.proofs.board.blank_table.Goals as goal

pub of_words-requires : goal.of_words-requires
of_words-requires g c =
    let plan : Layout = g.J.Run.layout in
    let zeros : c.as_slice.result.now ≡ replicate (1 + c.pieces.result + c.cells.result) 0 = c.as_slice.ensures.value ∙ search (rules, common_steps) in
    let count : 1 + c.pieces.result + c.cells.result ≡ word_count plan = λ i. 1 + (c.pieces.ensures.count ∙ ap pieces_of c.requires.layout) i + (c.cells.ensures ∙ ap (λ (l : Layout). l.cells) c.requires.layout) i in
    let values : List ℤ = g.J.Run.values in
    subst (λ (ws : List ℕ). Kept plan values ws (first_view ∷ [])) (sym (zeros ∙ ap (λ n. replicate n 0) count)) (opens plan values)
