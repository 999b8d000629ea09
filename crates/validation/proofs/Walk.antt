-- The first flaw of lines, one statement or group after another.
use Rattle.std.proofs.Common.{◌≡◌, ℕ, zero, suc, ◌+◌, ◌<◌, List, [], ◌∷◌, ◌++◌, length, drop, get_or, Bool, true, false, Option, Some, None, refl, sym, ap, ◌∙◌, arith}
use Rattle.std.specs.Prelude.{is_some, ◌&&◌, ◌==◌}
use Rattle.std.proofs.lemmas.Bool.{false≢true}
use Rattle.soundness.specs.declared.outline.refusals.code.Flaw.{Flaw as FlawHeld}
use Rattle.soundness.specs.Outline.Flaws.{Flaw, told, first_of, line_told}
use Rattle.meaning.specs.Algorithm.{Algorithm}
use Rattle.plan.specs.declared.stmt.Stmt.{Stmt}
use Rattle.plan.specs.Plan.{Coordinate, Statement, block, Group, Plan}
use Rattle.std.specs.Prelude.{slice_get}
use Rattle.plan.specs.declared.plan.Group.{Group as GroupHeld}
use Rattle.plan.specs.Lists.{list_groups, list_statements}
use Rattle.plan.specs.Lines.{group_line}
use Rattle.plan.specs.View.{group_of, statement_of}
use Rattle.plan.specs.Certificate.Certificate.{Certificate}
use Rattle.soundness.specs.Origins.{Outline}
use Rattle.validation.specs.Groups.Lines.{Here, before, after, is_empty, flaws, block_flaws, group_flaws, groups_flaws, line_flaws, store_flaws, store_is_small, definition_of, definition_is_named, definition_is_stored}
use Rattle.std.specs.Prelude.{not, ◌||◌}
use Rattle.std.specs.List.{list_all, list_any}
use Rattle.tree.specs.Term.{Term}
use Rattle.validation.specs.declared.groups.here.Here.{Here as HereHeld}
use Rattle.validation.specs.declared.stored.lines.GroupLines.{GroupLines}
use Rattle.validation.specs.Groups.Here.{here_of}
use Rattle.validation.specs.Stored.Definitions.{Definition}
use Rattle.validation.specs.Stored.Stored.{index_is_within}
use Rattle.validation.specs.Groups.Sizes.{more, cell_count}
use Rattle.validation.specs.Stored.Sizes.{counted}
use Rattle.plan.specs.Certificate.Cells.{piece_count}

-- a flaw found is the first, whatever follows
pub first_found : (r : Option FlawHeld) (xs ys : List Flaw) → is_some r ≡ true → told r ≡ first_of xs → told r ≡ first_of (xs ++ ys)
first_found None xs ys h e = absurd (false≢true h)
first_found (Some f) [] ys h e = absurd (cc)
first_found (Some f) (x ∷ xs) ys h e = e

-- where there is none, what follows tells
pub first_none : (r : Option FlawHeld) (xs ys : List Flaw) → is_some r ≡ false → told r ≡ first_of xs → first_of (xs ++ ys) ≡ first_of ys
first_none None [] ys h e = refl
first_none None (x ∷ xs) ys h e = absurd (cc)
first_none (Some f) xs ys h e = absurd (false≢true (sym h))

drop_at : {A : Type 0} (xs : List A) (k : ℕ) (x : A) → k < length xs → x ≡ get_or xs k x → drop k xs ≡ x ∷ drop (k + 1) xs
drop_at [] k x h is = absurd (omega (arith, h))
drop_at (y ∷ ys) zero x h is = ap (λ z. z ∷ ys) (sym is)
drop_at (y ∷ ys) (suc k) x h is = let e : suc (k + 1) ≡ suc k + 1 = omega arith in drop_at ys k x (omega (arith, h)) is ∙ ap (λ n. x ∷ drop n (y ∷ ys)) e

module _ (a : Algorithm) (p : Plan) (c : Certificate) (g : Group) (o : Outline) where
  abbrev F : Statement → Here → List Flaw
  F = flaws a p c g o

  abbrev BF : List Stmt → Here → List Flaw
  BF xs here = block_flaws a p c g o (block (list_statements xs)) here

  -- a statement, and those behind it
  pub block_step : (xs : List Stmt) (k : ℕ) (x : Stmt) (here : Here) → k < length xs → x ≡ get_or xs k x
      → BF (drop k xs) here ≡ F (statement_of x) (before (is_empty (block (list_statements (drop (k + 1) xs)))) here) ++ BF (drop (k + 1) xs) (after (statement_of x) here)
  block_step xs k x here h is = ap (λ (ys : List Stmt). BF ys here) (drop_at xs k x h is)

-- what is asked of a store is the same wherever it stands in its block
module _ (a : Algorithm) (p : Plan) (c : Certificate) (g : Group) (o : Outline) (lines : GroupLines) (h : HereHeld) (last : Bool) (b k : ℕ) (at : List Coordinate) (e : Term) where
  named_anyhow : (w : Option Definition) → definition_is_named a p c g o w (here_of lines h true) b at e ≡ definition_is_named a p c g o w (here_of lines h last) b at e
  named_anyhow None = refl
  named_anyhow (Some m) = refl

  pub store_anyhow : store_flaws a p c g o (here_of lines h true) b k at e ≡ store_flaws a p c g o (here_of lines h last) b k at e
  store_anyhow =
      ap (λ (n : Bool). line_flaws h.line (list_any (λ x. x == b) h.buffers.items && n) (list_all (λ x. index_is_within x.index) at) (not (store_is_small a p c g o at e) || definition_is_stored a p c g o (definition_of a p c g o b k) at e) (store_is_small a p c g o at e))
      (named_anyhow (definition_of a p c g o b k))

-- the group of a number
pub group_at : (xs : List GroupHeld) (n : ℕ) (x : GroupHeld) → n < length xs → x ≡ get_or xs n x → slice_get (list_groups xs) n ≡ Some (group_of x)
group_at [] n x h is = absurd (omega (arith, h))
group_at (y ∷ ys) zero x h is = ap (λ z. Some (group_of z)) (sym is)
group_at (y ∷ ys) (suc n) x h is = group_at ys n x (omega (arith, h)) is

-- a group, and those behind it
pub groups_step : (a : Algorithm) (p : Plan) (c : Certificate) (xs : List GroupHeld) (n : ℕ) (x : GroupHeld) (cells pieces k j : ℕ) → n < length xs → x ≡ get_or xs n x
    → k ≡ more cells (cell_count (group_of x).region) → j ≡ more pieces (counted (piece_count (group_of x).grid))
    → groups_flaws a p c (list_groups (drop n xs)) n cells pieces ≡ group_flaws a p c (line_told (group_line p n)) n (group_of x) k j ++ groups_flaws a p c (list_groups (drop (n + 1) xs)) (n + 1) k j
groups_step a p c xs n x cells pieces k j h is e f =
    ap (λ (ys : List GroupHeld). groups_flaws a p c (list_groups ys) n cells pieces) (drop_at xs n x h is)
    ∙ (λ i. group_flaws a p c (line_told (group_line p n)) n (group_of x) (sym e i) (sym f i) ++ groups_flaws a p c (list_groups (drop (n + 1) xs)) (n + 1) (sym e i) (sym f i))
