use Rattle.std.proofs.Common.{◌≡◌, ℕ, List, sym, ap, ◌∙◌, subst}
use Rattle.std.specs.Prelude.{OnOk}
use Rattle.plan.specs.declared.stmt.Stmt.{Stmt}
use Rattle.plan.specs.Plan.{Statement, Seq, block}
use Rattle.plan.specs.Lists.{list_statements}
use Rattle.plan.specs.View.{statement_of}
use Rattle.plan.proofs.Rows.{statement_of-seq}
use Rattle.plan.specs.Semantics.Setting.{allocated, or_else}
use Rattle.soundness.specs.Outline.Rooms.{first_room}
use Rattle.soundness.proofs.outline.rooms.+noting.Goals as goal

pub note_rooms-returns-in-Seq : goal.note_rooms-returns-in-Seq
note_rooms-returns-in-Seq t c =
    let e : Seq (block (list_statements c.deref.result.now)) ≡ statement_of c.args.stmt.now =
    ap (λ (l : List Stmt). Seq (block (list_statements l))) c.deref.ensures.value ∙ sym (statement_of-seq c.in-Seq.all) ∙ ap statement_of (sym c.in-Seq.is) in
    subst (λ (s : Statement). OnOk c.note_all_rooms.result ((b : ℕ) → first_room c.note_all_rooms.new.rooms.items b ≡ or_else (first_room c.args.rooms.now.items b) (allocated s b))) e c.note_all_rooms.ensures
