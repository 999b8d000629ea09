use Rattle.std.proofs.Common.{◌≡◌, ◌∙◌, ◌++◌, ◌+◌, ◌<◌, ℕ, List, sym, ap, subst, map, drop, length, get_or, arith, append_assoc, Err}
use Rattle.std.specs.Prelude.{IsTrue}
use Rattle.std.proofs.lemmas.List.{get_or-map, length-map, map-append, drop-map}
use Rattle.std.proofs.lemmas.List.Elements.{All-append, All-get_or}
use Rattle.plan.specs.Plan.{Plan}
use Rattle.plan.specs.View.{plan_of}
use Rattle.plan.specs.Certificate.Cells.{Cell, grid_symbols}
use Rattle.headline.specs.Numbers.{cell_number, is_cell}
use Rattle.shares.specs.declared.stop.Stop.TheVariants.{Unserved, Large}
use Rattle.shares.specs.FetchLines.{FetchLine}
use Rattle.shares.specs.Layout.{AllCells}
use Rattle.shares.specs.Noted.{line_of, lines_noted}
use Rattle.shares.specs.Read.{IsTold, line_cells, lines_cells}
use Rattle.shares.proofs.Counting.{err_kept}
use Rattle.shares.proofs.Fetching.{both_parts, parts_counted, next_read}
use Rattle.shares.proofs.fetched.fetch_lines.Goals as goal

pub fetch-requires-clause-line : goal.fetch-requires-clause-line
fetch-requires-clause-line c =
    let xs = c.args.lines.now in let i = c.loop-line.line-index in let d = c.line-item.result in
    let T : FetchLine → Type 0 = IsTold (plan_of c.args.layout.now.plan.now) (grid_symbols c.args.at.now) in
    let long = length-map xs line_of in
    let less : i < length xs = c.loop-line-test.true in
    let is : get_or (lines_noted xs) i (line_of d) ≡ line_of d = get_or-map line_of xs i d (line_of d) less ∙ ap line_of (sym c.line-item.is) in
    subst T is (All-get_or T (lines_noted xs) i (line_of d) (omega (arith, less, long)) c.requires.lines)

pub loop-line-preserved : goal.loop-line-preserved
loop-line-preserved c =
    let p : Plan = plan_of c.args.layout.now.plan.now in
    let s = grid_symbols c.args.at.now in
    let xs = c.args.lines.now in let i = c.loop-line.line-index in let d = c.line-item.result in
    let ys = lines_noted xs in
    let f : Cell → ℕ = cell_number p in
    let old = c.loop-line.fetched.items in
    let line = line_cells s (line_of d) in
    let later = lines_cells s (drop (i + 1) ys) in
    let less : i < length xs = c.loop-line-test.true in
    let long = length-map xs line_of in
    let is : get_or ys i (line_of d) ≡ line_of d = get_or-map line_of xs i d (line_of d) less ∙ ap line_of (sym c.line-item.is) in
    let next : lines_cells s (drop i ys) ≡ line ++ later = next_read s ys i (line_of d) (omega (arith, less, long)) ∙ ap (λ (x : FetchLine). line_cells s x ++ later) is in
    record {
      cells = ap (λ (ns : List ℕ). ns ++ map f later) c.in_ok-fetch.ensures.cells ∙ append_assoc old (map f line) (map f later)
          ∙ ap (λ (ns : List ℕ). old ++ ns) (sym (map-append f line later)) ∙ ap (λ (zs : List Cell). old ++ map f zs) (sym next) ∙ c.loop-line.invariant.cells;
      known = (
        (λ all. c.loop-line.invariant.known.0 (subst (AllCells p) (sym next) (All-append (λ (z : Cell). IsTrue (is_cell p z)) line later c.in_ok-fetch.ensures.known all))),
        (λ all. (both_parts p line later (subst (AllCells p) next (c.loop-line.invariant.known.1 all))).1),
      );
      few = c.in_ok-fetch.ensures.few;
    }

pub returns-in_err-fetch-clause-unserved : goal.returns-in_err-fetch-clause-unserved
returns-in_err-fetch-clause-unserved c e all =
    let p : Plan = plan_of c.args.layout.now.plan.now in
    let s = grid_symbols c.args.at.now in
    let xs = c.args.lines.now in let i = c.loop-line.line-index in let d = c.line-item.result in
    let ys = lines_noted xs in
    let line = line_cells s (line_of d) in
    let later = lines_cells s (drop (i + 1) ys) in
    let less : i < length xs = c.loop-line-test.true in
    let long = length-map xs line_of in
    let is : get_or ys i (line_of d) ≡ line_of d = get_or-map line_of xs i d (line_of d) less ∙ ap line_of (sym c.line-item.is) in
    let next : lines_cells s (drop i ys) ≡ line ++ later = next_read s ys i (line_of d) (omega (arith, less, long)) ∙ ap (λ (x : FetchLine). line_cells s x ++ later) is in
    c.fetch.ensures.unserved (err_kept c.from_residual.result c.fetch.result c.in_err-fetch.field-0.0 Unserved c.from_residual.ensures.1 c.in_err-fetch.was e) (both_parts p line later (subst (AllCells p) next (c.loop-line.invariant.known.1 all))).0

pub returns-in_err-fetch-clause-large : goal.returns-in_err-fetch-clause-large
returns-in_err-fetch-clause-large c e =
    let p : Plan = plan_of c.args.layout.now.plan.now in
    let s = grid_symbols c.args.at.now in
    let xs = c.args.lines.now in let i = c.loop-line.line-index in let d = c.line-item.result in
    let ys = lines_noted xs in
    let f : Cell → ℕ = cell_number p in
    let old = c.loop-line.fetched.items in
    let line = line_cells s (line_of d) in
    let later = lines_cells s (drop (i + 1) ys) in
    let less : i < length xs = c.loop-line-test.true in
    let long = length-map xs line_of in
    let is : get_or ys i (line_of d) ≡ line_of d = get_or-map line_of xs i d (line_of d) less ∙ ap line_of (sym c.line-item.is) in
    let next : lines_cells s (drop i ys) ≡ line ++ later = next_read s ys i (line_of d) (omega (arith, less, long)) ∙ ap (λ (x : FetchLine). line_cells s x ++ later) is in
    let counted = parts_counted p c.args.fetched.now.items old line later (lines_cells s ys) (ap (λ (zs : List Cell). old ++ map f zs) (sym next) ∙ c.loop-line.invariant.cells) in
    let past = c.fetch.ensures.large (err_kept c.from_residual.result c.fetch.result c.in_err-fetch.field-0.0 Large c.from_residual.ensures.1 c.in_err-fetch.was e) in
    omega (arith, counted, past)
