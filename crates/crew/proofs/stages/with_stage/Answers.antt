use Rattle.std.proofs.Common.{◌≡◌, ◌+◌, ◌∙◌, ℕ, List, get_or, ap, sym, subst}
use Rattle.std.proofs.lemmas.List.{take_at}
use Rattle.board.specs.Seen.{beside, seen_bits}
use Rattle.crew.specs.Stages.{ArePut, IsLeft}
use Rattle.crew.proofs.Staged.{left_there}
use Rattle.crew.proofs.stages.with_stage.Goals as goal

pub work_stage-requires-clause-put : goal.work_stage-requires-clause-put
work_stage-requires-clause-put g c κs within =
    subst (λ (bs : List ℕ). ArePut g.J.Run.layout g.J.Run.values bs c.args.first)
    (sym (ap (λ (xs : List ℕ). seen_bits (beside c.apart-apart.result.0 xs)) c.as_mut_slice-all.ensures.value ∙ c.apart-apart.ensures.same)) c.requires.put

pub put_stage-requires-clause-put : goal.put_stage-requires-clause-put
put_stage-requires-clause-put g c =
    let joined : c.joined-sheet.result ≡ seen_bits (beside c.apart-apart.result.0 c.work_stage.new.samples) =
    c.joined-sheet.ensures ∙ ap (λ (xs : List ℕ). seen_bits (beside c.apart-apart.result.0 xs)) (take_at c.work_stage.new.samples _ _ (c.work_stage.auto.samples ∙ c.as_mut_slice-all.ensures.len)) in
    subst (λ (bs : List ℕ). ArePut g.J.Run.layout g.J.Run.values bs c.args.first) (sym joined) c.work_stage.ensures.put

pub put_stage-requires-clause-left : goal.put_stage-requires-clause-left
put_stage-requires-clause-left g c i d lt =
    let joined : c.joined-sheet.result ≡ seen_bits (beside c.apart-apart.result.0 c.work_stage.new.samples) =
    c.joined-sheet.ensures ∙ ap (λ (xs : List ℕ). seen_bits (beside c.apart-apart.result.0 xs)) (take_at c.work_stage.new.samples _ _ (c.work_stage.auto.samples ∙ c.as_mut_slice-all.ensures.len)) in
    let list = get_or c.work_stage.new.lists i d in
    subst (λ (bs : List ℕ). IsLeft g.J.Run.layout g.J.Run.values bs (c.args.first + i) list.items) (sym joined)
    (left_there g.J.Run.layout g.J.Run.values c.apart-apart.result.0 c.work_stage.new.samples (c.args.first + i) list (c.work_stage.ensures.lists i d lt))

pub returns-clause-put : goal.returns-clause-put
returns-clause-put g c = subst (λ (n : ℕ). ArePut g.J.Run.layout g.J.Run.values c.put_stage.new.sheet (c.args.first + n)) c.work_stage.auto.lists c.put_stage.ensures
