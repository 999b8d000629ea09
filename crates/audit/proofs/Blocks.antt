-- Blocks of statements, read at the list of a `Vec`, and what some or each of their statements say.
use Rattle.std.proofs.Common.{◌≡◌, ℕ, ◌<◌, length, arith, true, List, Option, Some, None, sym, ap, ◌∙◌}
use Rattle.std.specs.Prelude.{MatchOption, slice_get, min, map, nat_lt, option_map, get_or, ◌+◌, ◌-◌, ◌^◌, ◌≤◌}
use Rattle.std.proofs.Common.{ltb-true}
use Rattle.std.proofs.lemmas.Option.{slice_get-map, slice_get-get_or}
use Rattle.std.specs.Global.{Vec}
use Rattle.plan.specs.declared.plan.Group.{Group as CodeGroup}
use Rattle.plan.specs.declared.stmt.Stmt.{Stmt}
use Rattle.plan.specs.declared.stmt.Stmt.TheViews.{Seq as Block}
use Rattle.plan.specs.Plan.{Plan, Group, Statement, Seq, block}
use Rattle.plan.specs.View.{statement_of, group_of}
use Rattle.plan.specs.Lists.{list_statements}
use Rattle.plan.specs.Lines.{body_line, group_line}
use Rattle.soundness.specs.Outline.Flaws.{line_told}
use Rattle.plan.proofs.Rows.{statement_of-seq}
use Rattle.audit.specs.declared.leaving.Target.{Target}
use Rattle.audit.specs.Verdict.Left.{LeavesBuffer, leaves, stores_at, some_stores_at}

-- what holds of a block's list holds of its statement
pub at_seq : {A : Type 0} (f : Statement → A) (all : Vec Stmt) (xs : List Stmt) (s : Stmt) → xs ≡ all.items → s ≡ Block all → f (Seq (block (list_statements xs))) ≡ f (statement_of s)
at_seq f all xs s e is = ap (λ (l : List Stmt). f (Seq (block (list_statements l)))) e ∙ ap f (sym (statement_of-seq all)) ∙ ap (λ (x : Stmt). f (statement_of x)) (sym is)

-- a store that is found in a statement stands there at the line
abbrev pub IsFoundIn : ℕ → ℕ → Statement → Option Target → Type 0
IsFoundIn line begun s o = MatchOption o (Unit {0}) (λ t. stores_at t.buffer t.coordinates line begun s ≡ true)

abbrev pub IsFoundAmong : ℕ → ℕ → List Stmt → Option Target → Type 0
IsFoundAmong line begun xs o = MatchOption o (Unit {0}) (λ t. some_stores_at t.buffer t.coordinates line begun (block (list_statements xs)) ≡ true)

-- what stands at the line among the statements from some number on, of which the first begins at this one, stands there among all
abbrev pub IsRest : ℕ → ℕ → ℕ → List Stmt → List Stmt → Type 0
IsRest line begun begin all rest =
    (b n : ℕ) → some_stores_at b n line begin (block (list_statements rest)) ≡ true → some_stores_at b n line begun (block (list_statements all)) ≡ true

pub found_seq : (line begun : ℕ) (all : Vec Stmt) (xs : List Stmt) (s : Stmt) → xs ≡ all.items → s ≡ Block all → (o : Option Target) → IsFoundAmong line begun xs o →
    IsFoundIn line begun (statement_of s) o
found_seq line begun all xs s e is None h = tt
found_seq line begun all xs s e is (Some t) h = sym (at_seq (stores_at t.buffer t.coordinates line begun) all xs s e is) ∙ h

-- ---- the group

pub got_group : (gs items : List CodeGroup) (n : ℕ) (y : CodeGroup) → gs ≡ items → nat_lt n (length gs) ≡ true → y ≡ get_or gs n y → slice_get (map group_of items) n ≡ Some (group_of y)
got_group gs items n y same less is =
    ap (λ (xs : List CodeGroup). slice_get (map group_of xs) n) (sym same) ∙ slice_get-map group_of gs n ∙ ap (option_map group_of) (slice_get-get_or gs n y (ltb-true n (length gs) less))
    ∙ ap (λ (z : CodeGroup). Some (group_of z)) (sym is)

-- the line is that of a store of the group
pub leaving_at : (q : Plan) (n line r s : ℕ) (g : Group) (t : Target) → slice_get q.groups n ≡ Some g → r ≡ min (group_line q n) (2 ^ 32 - 1) → s ≡ min (r + 1) (2 ^ 32 - 1) → s ≤ line →
    line < line_told (group_line q (n + 1)) → stores_at t.buffer t.coordinates line s g.body ≡ true → leaves t.buffer t.coordinates g.body ≡ true → LeavesBuffer q line
leaving_at q n line r s g t at first body from to stores leaving =
    record {
      number = n;
      group = g;
      stands = at;
      from = omega (arith, first, body, from);
      to = to;
      buffer = t.buffer;
      coordinates = t.coordinates;
      stores = (let begun : line_told (body_line q n) ≡ s = omega (arith, first, body) in ap (λ (b : ℕ). stores_at t.buffer t.coordinates line b g.body) begun ∙ stores);
      leaves_all = leaving;
    }
