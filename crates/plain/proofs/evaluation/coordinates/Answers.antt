use Rattle.std.proofs.Common.{◌≡◌, ap, sym, ◌∙◌, ◌++◌, List, ℤ, pos, [], ◌∷◌, w32, w64, subst, get_or, to_z, of_z, rules}
use Rattle.std.proofs.lemmas.Int.{to_z-of_z}
use Rattle.std.proofs.lemmas.List.{take_more}
use Rattle.std.proofs.lemmas.List.Elements.{All-push}
use Rattle.numeric.specs.Wrap.{IsOf}
use Rattle.numeric.specs.declared.ty.Ty.TheVariants.{I32}
use Rattle.meaning.specs.Functions.{IsPoint}
use Rattle.plain.proofs.Points.{index_fits}
use Rattle.plain.proofs.evaluation.coordinates.Goals as goal

pub loop-coordinate-preserved : goal.loop-coordinate-preserved
loop-coordinate-preserved c =
    let m = get_or c.args.at.now c.loop-coordinate.coordinate-index (pos 0) in
    let old = c.loop-coordinate.coordinates.items in
    let item : to_z w32 (of_z w32 m) ≡ m = to_z-of_z w32 m (search rules) in
    let is : to_z w64 (of_z w64 c.from.result) ≡ m = to_z-of_z w64 c.from.result (search rules) ∙ c.from.ensures ∙ item in
    let items : c.push.new.self.items ≡ old ++ m ∷ [] = c.in_ok-push.ensures.items ∙ ap (λ (z : ℤ). old ++ z ∷ []) is in
    record {
      same = items ∙ ap (λ (l : List ℤ). l ++ m ∷ []) c.loop-coordinate.invariant.same ∙ sym (take_more c.args.at.now c.loop-coordinate.coordinate-index (pos 0) c.loop-coordinate-test.true);
      inside = subst IsPoint (sym items) (All-push (IsOf I32) old m c.loop-coordinate.invariant.inside (index_fits m (search rules)));
    }
