-- Statements that are one line.
use Rattle.std.proofs.Common.{◌≡◌, ℕ, ◌≤◌, List, [], ◌∷◌, length, Some, None, refl, sym, subst, arith}
use Rattle.std.proofs.lemmas.List.{append-nil}
use Rattle.plan.specs.declared.stmt.Stmt.{Stmt}
use Rattle.plan.specs.Lists.{list_statements}
use Rattle.plan.specs.Plan.{Statement, Seq, For, Let, First, Guard, Alloc, Fetch, Store, Publish, Empty, Then, block}
use Rattle.plan.specs.Semantics.Actions.{Setting, actions}
use Rattle.plan.specs.Symbols.{Symbols}
use Rattle.interpreter.specs.Narrow.{StatementIsNarrow}
use Rattle.interpreter.specs.Needs.{Kept, Space, StatementFits}
use Rattle.interpreter.specs.StoreLines.{alone, one_line}

pub not_alone : (xs : List Stmt) → 2 ≤ length xs → None ≡ alone (block (list_statements xs))
not_alone [] h = absurd (omega (arith, h))
not_alone (x ∷ []) h = absurd (omega (arith, h))
not_alone (x ∷ y ∷ xs) h = refl

-- what holds of a line and of a block of it alone holds of the statement
by_line : (P : Statement → Type 0) (a b : Statement) → one_line a ≡ Some b → P b → P (Seq (Then b Empty)) → P a
by_line P (Seq Empty) b h here in_block = absurd (cc)
by_line P (Seq (Then a Empty)) b h here in_block = let e : a ≡ b = cc in subst (λ (x : Statement). P (Seq (Then x Empty))) (sym e) in_block
by_line P (Seq (Then a (Then c rest))) b h here in_block = absurd (cc)
by_line P (For i x kind body) b h here in_block = let e : For i x kind body ≡ b = cc in subst P (sym e) here
by_line P (Let i pick forms) b h here in_block = let e : Let i pick forms ≡ b = cc in subst P (sym e) here
by_line P (First i x y) b h here in_block = let e : First i x y ≡ b = cc in subst P (sym e) here
by_line P (Guard low high body) b h here in_block = let e : Guard low high body ≡ b = cc in subst P (sym e) here
by_line P (Alloc c f places) b h here in_block = let e : Alloc c f places ≡ b = cc in subst P (sym e) here
by_line P (Fetch c g region) b h here in_block = let e : Fetch c g region ≡ b = cc in subst P (sym e) here
by_line P (Store c k at e) b h here in_block = let f : Store c k at e ≡ b = cc in subst P (sym f) here
by_line P (Publish c) b h here in_block = let e : Publish c ≡ b = cc in subst P (sym e) here

-- its actions are the line's
pub line_actions : (setting : Setting) (s : Symbols) (a b : Statement) → one_line a ≡ Some b → actions setting a s ≡ actions setting b s
line_actions setting s a b h = by_line (λ (x : Statement). actions setting x s ≡ actions setting b s) a b h refl (append-nil (actions setting b s))

-- and where the statement is narrow, the line is
pub line_narrow : (Own : Symbols → Type 0) (s : Symbols) (a b : Statement) → one_line a ≡ Some b → StatementIsNarrow Own a s → StatementIsNarrow Own b s
line_narrow Own s a b h = by_line (λ (x : Statement). StatementIsNarrow Own x s → StatementIsNarrow Own b s) a b h (λ n. n) (λ n. n.0)

pub line_fits : (own : Kept) (space : Space) (room n : ℕ) (a b : Statement) → one_line a ≡ Some b → StatementFits own space room a n → StatementFits own space room b n
line_fits own space room n a b h = by_line (λ (x : Statement). StatementFits own space room x n → StatementFits own space room b n) a b h (λ f. f) (λ f. f.0)
