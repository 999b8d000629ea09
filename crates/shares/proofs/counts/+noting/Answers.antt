use Rattle.std.proofs.Common.{◌≡◌, ◌∙◌, ◌+◌, ◌++◌, ℕ, List, sym, ap, subst, map, drop, append_assoc}
use Rattle.std.specs.Prelude.{OnOk}
use Rattle.std.proofs.lemmas.List.{map-append}
use Rattle.plan.specs.declared.stmt.Stmt.{Stmt}
use Rattle.plan.specs.Lines.{lines}
use Rattle.plan.specs.Lists.{list_statements}
use Rattle.plan.specs.Plan.{Statement, Seq, block}
use Rattle.plan.specs.View.{statement_of}
use Rattle.plan.proofs.Rows.{statement_of-seq}
use Rattle.soundness.specs.Outline.Flaws.{line_told}
use Rattle.shares.specs.declared.lets.Naming.{Naming as Held}
use Rattle.shares.specs.FetchLines.{FetchLine, fetch_lines}
use Rattle.shares.specs.Lets.{Naming, naming, namings_of}
use Rattle.shares.specs.Noted.{lines_noted, told_line}
use Rattle.shares.proofs.Noting.{lines_in, next_in, told_after}
use Rattle.shares.proofs.counts.+noting.Goals as goal

pub note_block_fetches-loop-stmt-init : goal.note_block_fetches-loop-stmt-init
note_block_fetches-loop-stmt-init t c at begun =
    (at, begun, ap (λ (ks : List Held). lines_noted c.args.noted.now.items ++ map told_line (lines_in c.args.group (namings_of ks) c.args.all.now at)) c.in_ok-known.ensures)

pub note_block_fetches-loop-stmt-preserved : goal.note_block_fetches-loop-stmt-preserved
note_block_fetches-loop-stmt-preserved t c at begun =
    let xs = c.args.all.now in let k = c.loop-stmt.stmt-index in let d = c.stmt-item.result in
    let n = c.args.group in
    let a : Statement = statement_of d in
    let ls = namings_of c.loop-stmt.known.items in
    let old = lines_noted c.loop-stmt.noted.items in
    let before = c.loop-stmt.invariant at begun in
    let now = before.0 in
    let line = fetch_lines n ls a now in
    let later = lines_in n (ls ++ naming a) (drop (k + 1) xs) (now + lines a) in
    let next : lines_in n ls (drop k xs) now ≡ line ++ later = next_in n ls xs k d now c.loop-stmt-test.true c.stmt-item.is in
    let noted = c.in_ok-note_fetches.ensures now before.1 ∙ ap (λ (ks : List Held). old ++ map told_line (fetch_lines n (namings_of ks) a now)) c.deref.ensures.value in (
      now + lines a,
      told_after c.loop-stmt.begun c.saturating_add-begun.result now (lines a) c.line_count.result before.1 c.line_count.ensures c.saturating_add-begun.ensures,
      ap (λ (ks : List Naming). lines_noted c.note_fetches.new.noted.items ++ map told_line (lines_in n ks (drop (k + 1) xs) (now + lines a))) c.in_ok-note_let.ensures
          ∙ ap (λ (ns : List FetchLine). ns ++ map told_line later) noted ∙ append_assoc old (map told_line line) (map told_line later)
          ∙ ap (λ (ns : List FetchLine). old ++ ns) (sym (map-append told_line line later)) ∙ ap (λ (zs : List FetchLine). old ++ map told_line zs) (sym next) ∙ before.2,
    )

pub note_fetches-returns-in-Seq : goal.note_fetches-returns-in-Seq
note_fetches-returns-in-Seq t c =
    let whole = ap statement_of c.in-Seq.is ∙ statement_of-seq c.in-Seq.all ∙ ap (λ (l : List Stmt). Seq (block (list_statements l))) (sym c.deref.ensures.value) in
    subst (λ (a : Statement). OnOk c.note_block_fetches.result ((at : ℕ) → c.args.line ≡ line_told at → lines_noted c.note_block_fetches.new.noted.items ≡ lines_noted c.args.noted.now.items ++ map told_line (fetch_lines c.args.group (namings_of c.args.lets.now) a at)))
    (sym whole) c.note_block_fetches.ensures
