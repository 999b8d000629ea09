use Rattle.std.proofs.Common.{◌≡◌, ◌++◌, ◌∷◌, List, ℕ, drop, sym, ap, ◌∙◌}
use Rattle.std.specs.Prelude.{Some}
use Rattle.std.specs.List.{position}
use Rattle.spelling.specs.Lines.Lines.{is_line_feed}
use Rattle.spelling.proofs.Splits.{split_spelled}
use Rattle.spelling.proofs.lines.lines.split_line.Goals as goal

pub returns-clause-spelled : goal.returns-clause-spelled
returns-clause-spelled c =
    let text = c.args.text.now in
    let at : position is_line_feed text ≡ Some c.in_ok-at.at = sym c.feed_at.ensures ∙ c.in_ok-at.was in
    let back : c.split_at-2.result.1.now ≡ drop 1 (drop c.in_ok-at.at text) = c.split_at-2.ensures.back ∙ ap (drop 1) c.split_at.ensures.back in
    split_spelled text c.in_ok-at.at at ∙ ap (λ (w : List ℕ). w ++ 10 ∷ drop 1 (drop c.in_ok-at.at text)) (sym c.split_at.ensures.front) ∙ ap (λ (w : List ℕ). c.split_at.result.0.now ++ 10 ∷ w) (sym back)
