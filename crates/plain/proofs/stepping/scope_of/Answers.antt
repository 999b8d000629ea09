use Rattle.std.proofs.Common.{◌≤◌, sym, subst, List, map, length, take}
use Rattle.tree.specs.Names.{AnswersWithin}
use Rattle.meaning.specs.Conditions.{callable}
use Rattle.plain.specs.declared.scope.Answer.{Answer}
use Rattle.plain.specs.declared.scope.Binding.{Binding}
use Rattle.plain.specs.Stages.{callees_at}
use Rattle.algo.specs.View.{algorithm_of, picture_of}
use Rattle.plain.specs.Works.{bound_number, entry_of}
use Rattle.plain.specs.Scopes.{answered, AreIndices}
use Rattle.plain.proofs.Scoped.{callees_few, frame_indices, frame_within}
use Rattle.plain.proofs.stepping.scope_of.Goals as goal

pub invariant_of-result : goal.invariant_of-result
invariant_of-result c =
    let algo = c.args.algo.now in
    let inputs = c.args.inputs.now in
    let f = c.args.frame.now in
    let w = c.is_well_formed.ensures in
    let h = c.requires.input in
    let fr = c.requires.frame in
    let e = c.callees_at.ensures in
    record {
      known = subst (λ n. n ≤ length (algorithm_of algo).functions) (sym e) (callees_few (algorithm_of algo) w (picture_of inputs) h f fr);
      indices = subst (λ (l : List Binding). AreIndices (map bound_number l)) (sym c.deref.ensures.value) (frame_indices (algorithm_of algo) w (picture_of inputs) h f fr);
      within = λ name at inside.
          subst (λ n. AnswersWithin (callable (algorithm_of algo) (take n (algorithm_of algo).functions) name) (answered (algorithm_of algo) (picture_of inputs) (map entry_of c.deref-2.result.now) name at)) (sym e)
          (subst (λ (l : List Answer). AnswersWithin (callable (algorithm_of algo) (take (callees_at f.stage f.function) (algorithm_of algo).functions) name) (answered (algorithm_of algo) (picture_of inputs) (map entry_of l) name at)) (sym c.deref-2.ensures.value)
          (frame_within (algorithm_of algo) w (picture_of inputs) h f fr name at inside));
    }
