use Rattle.std.proofs.Common.{◌≡◌, ◌++◌, ◌∙◌, ℕ, List, get_or, take, ap, subst, sym}
use Rattle.std.specs.Prelude.{drop}
use Rattle.std.proofs.lemmas.List.{get_or-drop, get_or-take}
use Rattle.board.specs.Kept.{AreWritten}
use Rattle.board.proofs.ColourRows.{row_copied}
use Rattle.board.proofs.bytes.copy_row.Goals as goal

pub returns : goal.returns
returns c =
    let numbers : List ℕ = c.args.numbers.now in
    let front : List ℕ = c.split_at_mut-rest.result.0.now in
    let was : List ℕ = c.split_at_mut-part.result.0.now in
    let back : List ℕ = c.split_at_mut-part.result.1.now in
    let row : List ℕ = c.copy_from_slice.new.self in
    let whole : c.args.bytes.now ≡ front ++ (was ++ back) = c.split_at_mut-rest.ensures.value ∙ ap (λ (xs : List ℕ). front ++ xs) c.split_at_mut-part.ensures.value in
    let is : row ≡ take c.args.count (drop c.args.from numbers) = c.copy_from_slice.ensures.after ∙ c.split_at-2.ensures.front ∙ ap (take c.args.count) c.split_at.ensures.back in
    subst (λ (old : List ℕ). AreWritten numbers c.args.from c.args.count c.args.place 1 old (front ++ (row ++ back))) (sym whole)
    (row_copied numbers front was row back c.args.from c.args.count c.args.place c.split_at_mut-rest.ensures.front_len c.split_at_mut-part.ensures.front_len
    (c.copy_from_slice.ensures.len ∙ c.split_at_mut-part.ensures.front_len)
    (λ k lt. ap (λ (xs : List ℕ). get_or xs k 0) is ∙ get_or-take c.args.count (drop c.args.from numbers) k 0 lt ∙ get_or-drop c.args.from numbers k 0))
