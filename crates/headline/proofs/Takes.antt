-- What holds of each fetched cell holds of each fetch.
use Rattle.std.proofs.Common.{◌≡◌, ℕ, Bool, true, false, List, [], ◌∷◌, ◌++◌, map}
use Rattle.std.specs.Prelude.{ℤ, int_le, if◌then◌else◌, flat_map}
use Rattle.std.specs.List.{AllByRecursion}
use Rattle.tree.specs.Term.{Term}
use Rattle.plan.specs.Plan.{Statement, Seq, For, Let, First, Guard, Alloc, Fetch, Store, Publish, Statements, Empty, Then}
use Rattle.plan.specs.Symbols.{Symbols, bind, form_value, largest, turns, points}
use Rattle.plan.specs.Certificate.Cells.{Cell, cell}
use Rattle.plan.specs.Semantics.Actions.{Setting, Action, Take, Give, Target, action_for, after, actions, block_actions}
use Rattle.plan.specs.Semantics.Run.{Around}
use Rattle.soundness.specs.Origins.{Given, origin}
use Rattle.soundness.specs.Stored.{IsFetchedRight, AreFetchedRight}
use Rattle.soundness.proofs.Forms.{rec_left, rec_right}
use Rattle.headline.specs.Fetched.{fetched_cells, block_fetched_cells}

module _ (around : Around) (given : Given) (setting : Setting) (R : Cell → Type 0)
    (right : (x : Cell) → R x → around.cell (setting.group_function x.group) x.point ≡ given.value_at (origin (setting.group_function x.group) (given.all_steps (setting.group_function x.group)) x.point)) where
  abbrev Right : List Action → Type 0
  Right todo = AreFetchedRight around given todo

  join : (xs ys : List Action) → Right xs → Right ys → Right (xs ++ ys)
  join [] ys h k = k
  join (x ∷ xs) ys h k = (h.0, join xs ys h.1 k)

  each : (f : ℤ → List Cell) (g : ℤ → List Action) (zs : List ℤ) → ((z : ℤ) → AllByRecursion R (f z) → Right (g z)) → AllByRecursion R (flat_map f zs) → Right (flat_map g zs)
  each f g [] h k = tt
  each f g (z ∷ zs) h k = join (g z) (flat_map g zs) (h z (rec_left R (f z) (flat_map f zs) k)) (each f g zs h (rec_right R (f z) (flat_map f zs) k))

  takes : (b g : ℕ) (ps : List (List ℤ)) → AllByRecursion R (map (cell g) ps) → Right (map (Take b (setting.group_function g)) ps)
  takes b g [] h = tt
  takes b g (p ∷ ps) h = (right (cell g p) h.0, takes b g ps h.1)

  gives : (c : ℕ) (ps : List (List ℤ)) → Right (map (Give c) ps)
  gives c [] = tt
  gives c (p ∷ ps) = (tt, gives c ps)

  store : (v : Bool) (b : ℕ) (f : List ℕ) (k : ℕ) (names : List (List ℕ)) (at : List Target) (over : List ℤ) (e : Term) → IsFetchedRight around given (action_for v b f k names at over e)
  store true b f k names at over e = tt
  store false b f k names at over e = tt

  either : (v : Bool) (xs ys : List Cell) (us vs : List Action) → (AllByRecursion R xs → Right us) → (AllByRecursion R ys → Right vs) → AllByRecursion R (if v then xs else ys) → Right (if v then us else vs)
  either true xs ys us vs h k r = h r
  either false xs ys us vs h k r = k r

  mutual
    pub taken : (a : Statement) (s : Symbols) → AllByRecursion R (fetched_cells a s) → Right (actions setting a s)
    taken (Seq all) s h = block_taken all s h
    taken (For i x kind body) s h =
        each (λ z. fetched_cells body (bind s i z (int_le z (largest s x.lower)))) (λ z. actions setting body (bind s i z (int_le z (largest s x.lower)))) (turns s x)
        (λ z k. taken body (bind s i z (int_le z (largest s x.lower))) k) h
    taken (Let i pick forms) s h = tt
    taken (First i a b) s h = either (s.first i) (fetched_cells a s) (fetched_cells b s) (actions setting a s) (actions setting b s) (taken a s) (taken b s) h
    taken (Guard low high body) s h = either (int_le (form_value low s) (form_value high s)) (fetched_cells body s) [] (actions setting body s) [] (taken body s) (λ k. tt) h
    taken (Alloc b f places) s h = (tt, tt)
    taken (Fetch b g region) s h = takes b g (points s region) h
    taken (Store b k at e) s h = (store _ b (setting.buffer_function b) k _ _ _ e, tt)
    taken (Publish c) s h = gives c (setting.own s)

    pub block_taken : (all : Statements) (s : Symbols) → AllByRecursion R (block_fetched_cells all s) → Right (block_actions setting all s)
    block_taken Empty s h = tt
    block_taken (Then a rest) s h =
        join (actions setting a s) (block_actions setting rest (after a s)) (taken a s (rec_left R (fetched_cells a s) (block_fetched_cells rest (after a s)) h))
        (block_taken rest (after a s) (rec_right R (fetched_cells a s) (block_fetched_cells rest (after a s)) h))
