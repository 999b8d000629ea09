use Rattle.std.proofs.Common.{◌≡◌, ◌∙◌, ap, subst, true, [], ℕ, List, length, Option, rules, arith}
use Rattle.std.specs.Prelude.{IfOk}
use Rattle.std.proofs.lemmas.Grind.{common_steps}
use Rattle.std.proofs.lemmas.List.FromFn.{length-range_with_len}
use Rattle.algo.specs.View.{algorithm_of}
use Rattle.soundness.specs.Outline.Flaws.{Flaw, first_of as the_first, told}
use Rattle.soundness.specs.Outline.Forms.{grid_symbols}
use Rattle.soundness.specs.Outline.View.{certificate_in, group_in, outline_in, plan_in}
use Rattle.validation.specs.Groups.Here.{here_of}
use Rattle.validation.specs.Groups.Lines.{flaws, lines_from, on, start}
use Rattle.validation.proofs.groups.groups.body_flaw.Goals as goal

pub returns : goal.returns
returns c =
    let a = algorithm_of c.args.algo.now in
    let o = c.args.outlined.now in
    let g = group_in o in
    let line = c.args.line in
    let lines : c.lines_from.result ≡ lines_from line g = c.lines_from.ensures ∙ ap (lines_from line) c.group-2.ensures in
    let symbols : c.in_ok-grid_symbols.field-0.items ≡ grid_symbols (length g.grid) = first_of (search rules, grind (arith, common_steps)) in
    let bound : length c.in_ok-grid_symbols.field-0.items ≡ length g.grid = ap (λ (xs : List ℕ). length xs) symbols ∙ length-range_with_len 0 (length g.grid) in
    let here : here_of c.lines_from.result c.start-here.result true ≡ start line g =
    c.start-here.ensures c.lines_from.result
    ∙ (λ j. record { group = lines j; line = on line 1; symbols = symbols j; loops = []; buffers = []; used = 0; bound = bound j; held = 0; fetching = true; last = true }) in
    subst (λ (x : Option Flaw). IfOk c.stmt_flaw.result (λ flaw. told flaw ≡ x))
    (λ j. the_first (flaws a (plan_in o) (certificate_in o) g (outline_in o) (c.body.ensures j) (here j)))
    c.stmt_flaw.ensures
