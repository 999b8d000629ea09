use Rattle.std.proofs.Common.{ap, sym, ◌∙◌, ◌++◌, List, ℤ, [], ◌∷◌, w64}
use Rattle.std.proofs.lemmas.Int.{to_z-of_z}
use Rattle.std.proofs.Common.{rules}
use Rattle.tree.specs.Term.{term_of}
use Rattle.tree.specs.Meaning.{value_of}
use Rattle.meaning.specs.Names.{is_among}
use Rattle.meaning.specs.Conditions.{callable}
use Rattle.std.specs.Prelude.{map, take}
use Rattle.algo.specs.View.{algorithm_of}
use Rattle.plain.specs.Works.{bound_name}
use Rattle.plain.specs.Seen.{scope_variables, scope_answers}
use Rattle.plain.proofs.Scoped.{index_at, numbers-more}
use Rattle.plain.proofs.stepping.numbers.Goals as goal

pub eval-requires-clause-typed : goal.eval-requires-clause-typed
eval-requires-clause-typed c =
    let s = c.args.scope.now in
    (index_at (is_among (map bound_name s.bindings.now)) (callable (algorithm_of s.algo.now) (take s.callees (algorithm_of s.algo.now).functions))
    c.args.at.now c.loop-index.index-index c.index-item.result c.index-item.is c.loop-index-test.true c.requires.typed c.requires.few).0

pub eval-requires-clause-few : goal.eval-requires-clause-few
eval-requires-clause-few c =
    let s = c.args.scope.now in
    (index_at (is_among (map bound_name s.bindings.now)) (callable (algorithm_of s.algo.now) (take s.callees (algorithm_of s.algo.now).functions))
    c.args.at.now c.loop-index.index-index c.index-item.result c.index-item.is c.loop-index-test.true c.requires.typed c.requires.few).1

pub loop-index-preserved : goal.loop-index-preserved
loop-index-preserved c =
    let s = c.args.scope.now in
    let back = to_z-of_z w64 c.eval.result (search rules) in
    c.in_ok-push.ensures.items
    ∙ ap (λ (z : ℤ). c.loop-index.numbers.items ++ z ∷ []) (back ∙ c.eval.ensures)
    ∙ ap (λ (l : List ℤ). l ++ (value_of (scope_variables s) (scope_answers s) (term_of c.index-item.result)).number ∷ []) c.loop-index.invariant
    ∙ sym (numbers-more (scope_variables s) (scope_answers s) c.args.at.now c.loop-index.index-index c.index-item.result c.index-item.is c.loop-index-test.true)
