use Rattle.std.proofs.Common.{◌≡◌, ◌++◌, ◌∷◌, [], map, sym, ap, ◌∙◌}
use Rattle.std.specs.declared.string.String.{String}
use Rattle.std.specs.Global.{Global}
use Rattle.std.proofs.lemmas.List.{map-append}
use Rattle.algo.specs.declared.function.Function.{Function}
use Rattle.algo.specs.Parts.{functions_of, function_of, change_of}
use Rattle.algo.specs.Saying.{with_update}
use Rattle.algo.proofs.Kept.{with_update-last, updated}
use Rattle.algo.proofs.statement.add_update.Goals as goal

pub returns-in_ok-push-2-clause-added : goal.returns-in_ok-push-2-clause-added
returns-in_ok-push-2-clause-added c =
    let rest = c.pop.new.self.items in
    let own : String Global × Function = (c.in-Some.name, c.in-Some.function) in
    let old : functions_of c.args.functions.now.items ≡ functions_of rest ++ function_of own ∷ [] = ap functions_of c.in-Some.ensures.items ∙ map-append function_of rest (own ∷ []) in
    let new : functions_of c.push-in-Some.new.self.items ≡ functions_of rest ++ updated (function_of own) (change_of c.args.update) ∷ [] =
    ap functions_of c.in_ok-push-2.ensures.items ∙ map-append function_of rest (_ ∷ [])
    ∙ ap (λ cs. functions_of rest ++ (record (function_of own) { changes = cs }) ∷ []) (ap (map change_of) c.in_ok-push.ensures.items ∙ map-append change_of c.in-Some.function.updates.items (c.args.update ∷ [])) in
    new ∙ sym (with_update-last (functions_of rest) (function_of own) (change_of c.args.update)) ∙ ap (λ fs. with_update fs (change_of c.args.update)) (sym old)
