-- The statements of a function in whose loops nothing is computed.
-- What crates below need of it stands there: `blocks`.
use Rattle.std.proofs.Common.{◌≡◌, ℕ, List, [], ◌∷◌, ◌++◌, ap, ◌∙◌}
use Rattle.std.proofs.lemmas.List.{map-append}
use Rattle.plan.specs.declared.stmt.Places.{Places}
use Rattle.plan.specs.declared.stmt.Stmt.{Stmt}
use Rattle.plan.specs.Plan.{Statement, Seq, Alloc, Publish, block}
use Rattle.plan.specs.View.{statement_of}
use Rattle.plan.specs.Lists.{list_statements}
use Rattle.sched.specs.Runs.{lines_to}
use Rattle.sched.specs.Skeleton.{SkeletonText}
use Rattle.sched.specs.Stored.{StoredText}
use Rattle.blocks.specs.Fetches.{FetchText, with_fetches}
use Rattle.blocks.specs.Bodies.{IsBodyWith, body}

pub body_made : (g : StoredText) (k : SkeletonText) (places : List Places) (claim : ℕ) (fetches : List FetchText) (own publish : Stmt) (nests last inner all ys : List Stmt)
    → last ≡ nests ++ publish ∷ [] → list_statements inner ≡ with_fetches fetches (list_statements last) → all ≡ own ∷ inner → statement_of own ≡ Alloc 0 g.subject.name places
    → statement_of publish ≡ Publish claim → block (list_statements ys) ≡ lines_to k.head (block (list_statements all))
    → IsBodyWith g k places fetches (list_statements nests) claim (body (list_statements ys))
body_made g k places claim fetches own publish nests last inner all ys e f h is_own is_publish comes =
    let behind : list_statements last ≡ list_statements nests ++ Publish claim ∷ [] =
    ap list_statements e ∙ (map-append statement_of nests (publish ∷ []) ∙ ap (λ (s : Statement). list_statements nests ++ s ∷ []) is_publish) in
    let made : list_statements all ≡ Alloc 0 g.subject.name places ∷ with_fetches fetches (list_statements nests ++ Publish claim ∷ []) =
    ap list_statements h ∙ (λ i. is_own i ∷ (f ∙ ap (with_fetches fetches) behind) i) in
    record {
      is = ap Seq (comes ∙ ap (λ (l : List Statement). lines_to k.head (block l)) made);
    }
