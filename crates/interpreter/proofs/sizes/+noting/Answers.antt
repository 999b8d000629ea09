use Rattle.std.proofs.Common.{◌≡◌, ℕ, List, Some, None, sym, ap, ◌∙◌, subst, length, rules, arith}
use Rattle.std.proofs.lemmas.Grind.{common_steps}
use Rattle.std.specs.Prelude.{OnOk, ◌==◌, if◌then◌else◌, string_bytes}
use Rattle.plan.specs.declared.stmt.Stmt.{Stmt}
use Rattle.plan.specs.Plan.{Statement, Seq, block}
use Rattle.plan.specs.Lists.{list_statements}
use Rattle.plan.specs.View.{statement_of}
use Rattle.plan.proofs.Rows.{statement_of-seq}
use Rattle.plan.specs.Semantics.Setting.{allocated, or_else}
use Rattle.interpreter.specs.declared.sizes.Size.{Size}
use Rattle.interpreter.specs.Sizes.{first_size, size_of}
use Rattle.interpreter.proofs.Noted.{first_size-push, size_of-alloc}
use Rattle.interpreter.proofs.sizes.+noting.Goals as goal

pub note_sizes-returns-in-Seq : goal.note_sizes-returns-in-Seq
note_sizes-returns-in-Seq t c =
    let e : Seq (block (list_statements c.deref.result.now)) ≡ statement_of c.args.stmt.now =
    ap (λ (l : List Stmt). Seq (block (list_statements l))) c.deref.ensures.value ∙ sym (statement_of-seq c.in-Seq.all) ∙ ap statement_of (sym c.in-Seq.is) in
    subst (λ (s : Statement). OnOk c.note_all_sizes.result ((b : ℕ) → first_size c.note_all_sizes.new.sizes.items b ≡ or_else (first_size c.args.sizes.now.items b) (size_of (allocated s b)))) e c.note_all_sizes.ensures

pub note_sizes-returns-in_ok-push-in-Alloc : goal.note_sizes-returns-in_ok-push-in-Alloc
note_sizes-returns-in_ok-push-in-Alloc t c =
    let old = c.args.sizes.now.items in
    let x : Size = record { buffer = c.in-Alloc.buffer; dimensions = c.len.result } in
    let long : c.len.result ≡ length c.in-Alloc.places.items = first_of (search rules, grind (arith, common_steps)) in
    λ b.
    ap (λ (xs : List Size). first_size xs b) c.in_ok-push-in-Alloc.ensures.items
    ∙ first_size-push old x b
    ∙ ap (λ (n : ℕ). or_else (first_size old b) (if c.in-Alloc.buffer == b then Some n else None)) long
    ∙ ap (or_else (first_size old b)) (sym (size_of-alloc (c.in-Alloc.buffer == b) (record { function = string_bytes c.in-Alloc.function; places = c.in-Alloc.places.items })))
    ∙ ap (λ (s : Stmt). or_else (first_size old b) (size_of (allocated (statement_of s) b))) (sym c.in-Alloc.is)
