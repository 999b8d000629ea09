-- Plans that differ in which of their loops are written out do the same.
use Rattle.std.proofs.Common.{◌≡◌, ℕ, zero, suc, ◌+◌, List, [], ◌∷◌, ◌++◌, map, take, Some, refl, sym, ap, ◌∙◌}
use Rattle.std.specs.Prelude.{ℤ, int_le, flat_map, if◌then◌else◌, slice_get}
use Rattle.std.specs.List.{range_with_len}
use Rattle.tree.specs.declared.value.Value.{Value}
use Rattle.plan.specs.Plan.{Statement, Seq, For, Let, First, Guard, Alloc, Fetch, Store, Publish, Statements, Empty, Then, Group, Plan}
use Rattle.plan.specs.Lines.{lines, block_lines, groups_lines, group_line, certificate_line}
use Rattle.plan.specs.Symbols.{Symbols, bind, form_value, largest, turns}
use Rattle.plan.specs.Certificate.Certificate.{Certificate}
use Rattle.plan.specs.Certificate.Cells.{cell, piece, cells, cells_from, pieces, pieces_from, group_points, group_pieces, grid_symbols, own_points}
use Rattle.plan.specs.Semantics.Actions.{Action, Setting, after, actions, block_actions}
use Rattle.plan.specs.Semantics.Memory.{nothing}
use Rattle.plan.specs.Semantics.Run.{outcome}
use Rattle.plan.specs.Semantics.Setting.{allocated, block_allocated, around_of, dimensions_in, function_in, group_name, or_else, piece_run, setting_of}
use Rattle.audit.specs.Verdict.Kinds.{rolled, block_rolled, group_rolled, plan_rolled, ActionsStay, AlikeDoTheSame}

-- ---- statements

after_same : (a : Statement) (s : Symbols) → after a s ≡ after (rolled a) s
after_same (Seq all) s = refl
after_same (For i x kind body) s = refl
after_same (Let i pick forms) s = refl
after_same (First i a b) s = refl
after_same (Guard low high body) s = refl
after_same (Alloc b f places) s = refl
after_same (Fetch b g region) s = refl
after_same (Store b k at e) s = refl
after_same (Publish c) s = refl

module _ (setting : Setting) where
  mutual
    pub actions_same : (a : Statement) (s : Symbols) → actions setting a s ≡ actions setting (rolled a) s
    actions_same (Seq all) s = block_same all s
    actions_same (For i x kind body) s = λ j. flat_map (λ z. actions_same body (bind s i z (int_le z (largest s x.lower))) j) (turns s x)
    actions_same (Let i pick forms) s = refl
    actions_same (First i a b) s = λ j. if s.first i then actions_same a s j else actions_same b s j
    actions_same (Guard low high body) s = λ j. if int_le (form_value low s) (form_value high s) then actions_same body s j else []
    actions_same (Alloc b f places) s = refl
    actions_same (Fetch b g region) s = refl
    actions_same (Store b k at e) s = refl
    actions_same (Publish c) s = refl

    block_same : (all : Statements) (s : Symbols) → block_actions setting all s ≡ block_actions setting (block_rolled all) s
    block_same Empty s = refl
    block_same (Then a rest) s =
        let later = block_same rest (after a s) ∙ ap (block_actions setting (block_rolled rest)) (after_same a s) in
        λ j. actions_same a s j ++ later j

pub actions_stay : ActionsStay
actions_stay setting a s = actions_same setting a s

mutual
  pub allocated_same : (a : Statement) (b : ℕ) → allocated a b ≡ allocated (rolled a) b
  allocated_same (Seq all) b = block_allocated_same all b
  allocated_same (For i x kind body) b = allocated_same body b
  allocated_same (Let i pick forms) b = refl
  allocated_same (First i a c) b = λ j. or_else (allocated_same a b j) (allocated_same c b j)
  allocated_same (Guard low high body) b = allocated_same body b
  allocated_same (Alloc c f places) b = refl
  allocated_same (Fetch c g region) b = refl
  allocated_same (Store c k at e) b = refl
  allocated_same (Publish c) b = refl

  block_allocated_same : (all : Statements) (b : ℕ) → block_allocated all b ≡ block_allocated (block_rolled all) b
  block_allocated_same Empty b = refl
  block_allocated_same (Then a rest) b = λ j. or_else (allocated_same a b j) (block_allocated_same rest b j)

mutual
  pub lines_same : (a : Statement) → lines a ≡ lines (rolled a)
  lines_same (Seq all) = block_lines_same all
  lines_same (For i x kind body) = λ j. lines_same body j + 2
  lines_same (Let i pick forms) = refl
  lines_same (First i a b) = λ j. lines_same a j + lines_same b j + 3
  lines_same (Guard low high body) = λ j. lines_same body j + 2
  lines_same (Alloc b f places) = refl
  lines_same (Fetch b g region) = refl
  lines_same (Store b k at e) = refl
  lines_same (Publish c) = refl

  block_lines_same : (all : Statements) → block_lines all ≡ block_lines (block_rolled all)
  block_lines_same Empty = refl
  block_lines_same (Then a rest) = λ j. lines_same a j + block_lines_same rest j

-- ---- groups

pub groups_lines_same : (n : ℕ) (gs : List Group) → groups_lines (take n gs) ≡ groups_lines (take n (map group_rolled gs))
groups_lines_same zero gs = refl
groups_lines_same (suc n) [] = refl
groups_lines_same (suc n) (g ∷ gs) = λ j. (lines_same g.body j + 1) + groups_lines_same n gs j

pub all_lines_same : (gs : List Group) → groups_lines gs ≡ groups_lines (map group_rolled gs)
all_lines_same [] = refl
all_lines_same (g ∷ gs) = λ j. (lines_same g.body j + 1) + all_lines_same gs j

pub cells_same : (k : ℕ) (gs : List Group) → cells_from k gs ≡ cells_from k (map group_rolled gs)
cells_same k [] = refl
cells_same k (g ∷ gs) = λ j. map (cell k) (group_points g) ++ cells_same (k + 1) gs j

pub pieces_same : (k : ℕ) (gs : List Group) → pieces_from k gs ≡ pieces_from k (map group_rolled gs)
pieces_same k [] = refl
pieces_same k (g ∷ gs) = λ j. map (piece g k) (range_with_len 0 (group_pieces g)) ++ pieces_same (k + 1) gs j

name_same : (gs : List Group) (n : ℕ) → group_name (slice_get gs n) ≡ group_name (slice_get (map group_rolled gs) n)
name_same [] n = refl
name_same (g ∷ gs) zero = refl
name_same (g ∷ gs) (suc n) = name_same gs n

pub rolled_at : (gs : List Group) (n : ℕ) (g : Group) → slice_get gs n ≡ Some g → slice_get (map group_rolled gs) n ≡ Some (group_rolled g)
rolled_at [] n g at = absurd (cc at)
rolled_at (x ∷ xs) zero g at = let same : x ≡ g = cc at in ap (λ (y : Group). Some (group_rolled y)) same
rolled_at (x ∷ xs) (suc n) g at = rolled_at xs n g at

some_same : (g h : Group) → Some g ≡ Some h → g ≡ h
some_same g h e = cc e

-- ---- plans

pub setting_same : (p : Plan) (c : Certificate) (n : ℕ) (g : Group) → setting_of p c n g ≡ setting_of (plan_rolled p) c n (group_rolled g)
setting_same p c n g j = record {
  group_function = λ h. name_same p.groups h j;
  buffer_function = λ b. function_in (allocated_same g.body b j);
  dimensions = λ b. dimensions_in (allocated_same g.body b j);
  own = λ s. own_points g c n s;
}

run_same : (p : Plan) (c : Certificate) (samples : List ℕ) (cell : List ℕ → List ℤ → Value) (n : ℕ) (g : Group) (at : List ℕ) →
    piece_run p c samples cell n g at ≡ piece_run (plan_rolled p) c samples cell n (group_rolled g) at
run_same p c samples cell n g at =
    let s = grid_symbols at in
    let acts = ap (λ (st : Setting). actions st g.body s) (setting_same p c n g) ∙ actions_same (setting_of (plan_rolled p) c n (group_rolled g)) g.body s in
    ap (λ (done : List Action). outcome (around_of p c samples cell) done nothing) acts

pub alike_do_the_same : AlikeDoTheSame
alike_do_the_same p q e = record {
  cells = cells_same 0 p.groups ∙ ap cells e ∙ sym (cells_same 0 q.groups);
  pieces = pieces_same 0 p.groups ∙ ap pieces e ∙ sym (pieces_same 0 q.groups);
  lines = λ n. (λ j. groups_lines_same n p.groups j + 4) ∙ ap (λ (r : Plan). group_line r n) e ∙ sym (λ j. groups_lines_same n q.groups j + 4);
  certificate = (λ j. all_lines_same p.groups j + 4) ∙ ap certificate_line e ∙ sym (λ j. all_lines_same q.groups j + 4);
  runs = λ c samples cell n g h at here there.
      let same : group_rolled g ≡ group_rolled h =
      some_same (group_rolled g) (group_rolled h) (sym (rolled_at p.groups n g here) ∙ ap (λ (r : Plan). slice_get r.groups n) e ∙ rolled_at q.groups n h there) in
      run_same p c samples cell n g at ∙ (λ j. piece_run (e j) c samples cell n (same j) at) ∙ sym (run_same q c samples cell n h at);
}
