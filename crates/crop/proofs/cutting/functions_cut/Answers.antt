use Rattle.std.proofs.Common.{◌+◌, ◌∷◌, [], ◌++◌, sym, ap, ◌∙◌, arith, map, drop}
use Rattle.std.specs.Prelude.{option_map}
use Rattle.std.proofs.lemmas.List.{map-append}
use Rattle.algo.specs.Parts.{function_of, functions_of}
use Rattle.algo.specs.View.{algorithm_of}
use Rattle.crop.specs.Cutting.{functions_cut}
use Rattle.crop.specs.View.{cut_of, kept_of}
use Rattle.crop.proofs.Cuts.{left_out, kept_next, past}
use Rattle.crop.proofs.cutting.functions_cut.Goals as goal
use Rattle.crop.proofs.cutting.functions_cut.Goals.{in-Some+in_ok-function_cut+in_ok-push, in_default}

pub loop-number-preserved : goal.loop-number-preserved
loop-number-preserved c =
    let a = algorithm_of c.args.algo.now in
    let cut = cut_of c.args.cut.now in
    let ks = c.args.cut.now.kept.items in
    let n = c.loop-number.number in
    let made = c.loop-number.made.items in
    let rest = functions_cut a cut (n + 1) (drop (n + 1) a.functions) (map (option_map kept_of) (drop (n + 1) ks)) in
    elim c.match-index.branch [
      | in-Some+in_ok-function_cut+in_ok-push w ↦
          ap (λ v. functions_of v.items ++ rest) w.made-is
          ∙ ap (λ l. functions_of l ++ rest) w.in_ok-push.ensures.items
          ∙ ap (λ l. l ++ rest) (map-append function_of made (w.in_ok-function_cut.field-0 ∷ []))
          ∙ kept_next (option_map kept_of) a cut (functions_of made) a.functions ks n
          (function_of (w.function_at.result.0.now, w.function_at.result.1.now)) (function_of w.in_ok-function_cut.field-0) c.index.result.now
          (kept_of w.in-Some.kept) w.function_at.ensures (omega arith) c.index.ensures (ap (option_map kept_of) w.in-Some.is) w.in_ok-function_cut.ensures
          ∙ c.loop-number.invariant
      | in_default w ↦
          ap (λ v. functions_of v.items ++ rest) w.made-is
          ∙ ap (λ l. functions_of made ++ l) (left_out (option_map kept_of) a cut a.functions ks n c.index.result.now (omega arith) c.index.ensures (ap (option_map kept_of) w.in_default.is))
          ∙ c.loop-number.invariant
    ]

pub returns : goal.returns
returns c =
    sym (past (option_map kept_of) (algorithm_of c.args.algo.now) (cut_of c.args.cut.now) (functions_of c.loop-number.made.items) (algorithm_of c.args.algo.now).functions
    c.args.cut.now.kept.items c.loop-number.number (omega arith))
    ∙ c.loop-number.invariant
