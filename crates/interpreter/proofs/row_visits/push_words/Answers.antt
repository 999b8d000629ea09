use Rattle.std.proofs.Common.{◌≡◌, ◌++◌, ℕ, List, Some, take, map, pos, sym, ap, ◌∙◌}
use Rattle.numeric.specs.Wrap.{wrap}
use Rattle.interpreter.specs.Evaluation.Lending.{lent}
use Rattle.interpreter.specs.Rows.{Listed}
use Rattle.interpreter.specs.declared.evaluation.lent_row.LentNumbers.{LentNumbers}
use Rattle.interpreter.proofs.GivenRows.{given_words}
use Rattle.interpreter.proofs.row_visits.push_words.Goals as goal

pub returns-in-Words-clause-given : goal.returns-in-Words-clause-given
returns-in-Words-clause-given g c =
    let t = g.W.Width.ty in
    let held = c.args.held in
    let old = c.args.given.now.items in
    let words : c.split_at.result.0.now ≡ take c.args.count (lent held.numbers) = c.split_at.ensures.front ∙ ap (λ (x : LentNumbers). take c.args.count (lent x)) (sym c.in-Words.is) in
    given_words t held.marks.now (lent held.numbers) held.wides.now old c.args.count c.requires.numbers c.requires.marked
    ∙ ap (λ (ws : List ℕ). Some (old ++ map (λ w. wrap t (pos w)) ws)) (sym words)
    ∙ ap (λ (r : Listed). Some r.items) (sym c.append_words.ensures)

pub returns-in-Bytes-clause-given : goal.returns-in-Bytes-clause-given
returns-in-Bytes-clause-given g c =
    let t = g.W.Width.ty in
    let held = c.args.held in
    let old = c.args.given.now.items in
    let bytes : c.split_at-in-Bytes.result.0.now ≡ take c.args.count (lent held.numbers) = c.split_at-in-Bytes.ensures.front ∙ ap (λ (x : LentNumbers). take c.args.count (lent x)) (sym
    c.in-Bytes.is) in
    given_words t held.marks.now (lent held.numbers) held.wides.now old c.args.count c.requires.numbers c.requires.marked
    ∙ ap (λ (ws : List ℕ). Some (old ++ map (λ w. wrap t (pos w)) ws)) (sym bytes)
    ∙ ap (λ (r : Listed). Some r.items) (sym c.append_bytes.ensures)
