-- When the pieces of a plan do what the algorithm says.
use Rattle.std.specs.Prelude.{◌≡◌, ℕ, ◌==◌, ◌||◌, ◌<◌, Bool, true, false, List, Option, Some, None, slice_get}
use Rattle.std.specs.List.{AllByRecursion, list_any}
use Rattle.tree.specs.Term.{Term}
use Rattle.lin.specs.declared.span.Span1.{Span1}
use Rattle.meaning.specs.Algorithm.{Algorithm}
use Rattle.plan.specs.Plan.{Statement, Seq, For, Let, First, Guard, Alloc, Fetch, Store, Publish, Statements, Empty, Then, Group, Plan}
use Rattle.plan.specs.Lines.{body_line}
use Rattle.plan.specs.Certificate.Certificate.{Certificate}
use Rattle.plan.specs.Certificate.Cells.{grid_symbols, grid_point, own_region, group_pieces}
use Rattle.plan.specs.Semantics.Actions.{actions}
use Rattle.plan.specs.Semantics.Setting.{setting_of}
use Rattle.soundness.specs.Claims.{IsSound}
use Rattle.soundness.specs.Given.{claim_or_none, outline_of, given_of}
use Rattle.soundness.specs.Obligations.{span_has}
use Rattle.soundness.specs.Right.{at_start}
use Rattle.soundness.specs.Stored.{AreDefinitions, KeepsValues}
use Rattle.headline.specs.Fetched.{fetched_cells}
use Rattle.headline.specs.Numbers.{is_cell, HaveEnds}

-- the plan's input is the algorithm's
pub record IsOnInput (a : Algorithm) (p : Plan) : Type 0 where
  pub name : p.input.name ≡ a.input
  pub ty : p.input.ty ≡ a.input_ty
  pub extents : p.input.extents ≡ a.input_extents

-- ---- the line that publishes

-- some line of the statement publishes
abbrev mutual
  pub publishes : Statement → Bool
  publishes (Seq all) = block_publishes all
  publishes (For i x kind body) = publishes body
  publishes (Let i pick forms) = false
  publishes (First i a b) = publishes a || publishes b
  publishes (Guard low high body) = publishes body
  publishes (Alloc b f places) = false
  publishes (Fetch b g region) = false
  publishes (Store b k at e) = false
  publishes (Publish c) = true

  pub block_publishes : Statements → Bool
  block_publishes Empty = false
  block_publishes (Then a rest) = publishes a || block_publishes rest

-- the last line publishes, by a claim with the property, and no other line does
abbrev mutual
  pub PublishesLast : (ℕ → Type 0) → Statement → Type 0
  PublishesLast P (Seq all) = BlockPublishesLast P all
  PublishesLast P (For i x kind body) = ⊥
  PublishesLast P (Let i pick forms) = ⊥
  PublishesLast P (First i a b) = ⊥
  PublishesLast P (Guard low high body) = ⊥
  PublishesLast P (Alloc b f places) = ⊥
  PublishesLast P (Fetch b g region) = ⊥
  PublishesLast P (Store b k at e) = ⊥
  PublishesLast P (Publish c) = P c

  pub BlockPublishesLast : (ℕ → Type 0) → Statements → Type 0
  BlockPublishesLast P Empty = ⊥
  BlockPublishesLast P (Then a Empty) = PublishesLast P a
  BlockPublishesLast P (Then a (Then b rest)) = (publishes a ≡ false) × BlockPublishesLast P (Then b rest)

-- a `let` line outside of loops, arms and guards has this symbol
abbrev mutual
  pub binds : Statement → ℕ → Bool
  binds (Seq all) i = block_binds all i
  binds (Let j pick forms) i = j == i
  binds _ i = false

  pub block_binds : Statements → ℕ → Bool
  block_binds Empty i = false
  block_binds (Then a rest) i = binds a i || block_binds rest i

-- the symbol stands in the region
abbrev pub region_has : Option (List Span1) → ℕ → Bool
region_has None i = false
region_has (Some xs) i = list_any (span_has i) xs

-- ---- groups and pieces

-- a group whose last line publishes its own cells
pub record IsPublished (p : Plan) (c : Certificate) (n : ℕ) (g : Group) : Type 0 where
  -- its region has ends
  pub ends : HaveEnds g.region
  -- by a claim of the group's function
  pub last : PublishesLast (λ k. (claim_or_none (slice_get c.claims k)).function ≡ g.function) g.body
  -- no `let` line has a symbol of the own region
  pub apart : (i : ℕ) → binds g.body i ≡ true → region_has (own_region c.own n) i ≡ false

-- the piece of a group at a grid point keeps inside its buffers, uses only claims in force, stores definitions and fetches cells
pub record IsRightPiece (a : Algorithm) (p : Plan) (c : Certificate) (samples : List ℕ) (put_in : Term → Term) (n : ℕ) (g : Group) (at : List ℕ) : Type 0 where
  pub sound : IsSound (given_of a samples (outline_of p c n g)) g.body (body_line p n) (at_start (grid_symbols at))
  pub stores : AreDefinitions a put_in (given_of a samples (outline_of p c n g)) (actions (setting_of p c n g) g.body (grid_symbols at))
  pub fetches : AllByRecursion (λ x. is_cell p x ≡ true) (fetched_cells g.body (grid_symbols at))

-- all groups and pieces of a plan are so
pub record IsRightPlan (a : Algorithm) (p : Plan) (c : Certificate) (samples : List ℕ) (put_in : Term → Term) : Type 0 where
  pub input : IsOnInput a p
  -- what is put in for calls changes no value
  pub values : KeepsValues a samples put_in
  pub groups : (n : ℕ) (g : Group) → slice_get p.groups n ≡ Some g → IsPublished p c n g
  pub pieces : (n : ℕ) (g : Group) (k : ℕ) → slice_get p.groups n ≡ Some g → k < group_pieces g → IsRightPiece a p c samples put_in n g (grid_point g.grid k)
