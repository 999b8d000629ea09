-- Definitions that take no updates keep their values where calls are put in: what is stored as one is the definition with the
-- calls put in where they can be.
use Rattle.std.proofs.Common.{◌≡◌, ℕ, zero, suc, Bool, true, false, List, [], ◌∷◌, ◌++◌, map, Option, Some, sym, ◌∙◌, subst}
use Rattle.std.specs.Prelude.{ℤ, pos, int_le, if◌then◌else◌, flat_map, slice_get, All, MatchOption}
use Rattle.std.specs.List.{AllByRecursion}
use Rattle.std.proofs.lemmas.List.Elements.{recursion_from_All}
use Rattle.numeric.specs.declared.ty.Ty.TheVariants.{I32}
use Rattle.tree.specs.Term.{Term}
use Rattle.meaning.specs.Algorithm.{Change, Function, Algorithm}
use Rattle.meaning.specs.Conditions.{IsAlgorithm, names_in}
use Rattle.meaning.specs.Names.{same_name, is_among}
use Rattle.meaning.specs.Value.{Calls, calls_of, with_name}
use Rattle.plan.specs.Plan.{Statement, Seq, For, Let, First, Guard, Alloc, Fetch, Store, Publish, Statements, Empty, Then}
use Rattle.plan.specs.Symbols.{Symbols, bind, form_value, largest, turns, points}
use Rattle.plan.specs.Semantics.Actions.{Setting, Action, Allot, Take, Put, Change as Update, Give, Target, Fixed, Open, action_for, is_pure_store, after, actions, block_actions}
use Rattle.soundness.specs.Given.{function_named}
use Rattle.soundness.specs.Origins.{Given}
use Rattle.soundness.specs.Stored.{IsNamed, IsLeftSide, IsDefinition, AreDefinitions}
use Rattle.meaning.specs.Inlining.PutIn.{put_in, put_in_where_possible}
use Rattle.meaning.specs.Inlining.Laws.{TakesNoUpdates, KeepsItsSide, KeepsItsSides, PutInWherePossible, UpdatesKeepTheirSides}
use Rattle.headline.proofs.Named.{named_same}
use Rattle.validation.specs.Groups.Free.{DefinitionIsFree, IsFree, IsFreeBlock}

-- ---- from statements to actions

module _ (a : Algorithm) (stored : List Bool) where
  -- what an action stores is free of updates
  abbrev pub IsFreeAction : Action → Type 0
  IsFreeAction (Allot b rooms) = Unit {0}
  IsFreeAction (Take b f p) = Unit {0}
  IsFreeAction (Put b f names p e) = DefinitionIsFree a stored (function_named a.functions f) 0
  IsFreeAction (Update b f k names at over e) = DefinitionIsFree a stored (function_named a.functions f) k
  IsFreeAction (Give c p) = Unit {0}

  abbrev pub AreFree : List Action → Type 0
  AreFree xs = AllByRecursion IsFreeAction xs

  join : (xs ys : List Action) → AreFree xs → AreFree ys → AreFree (xs ++ ys)
  join [] ys h k = k
  join (x ∷ xs) ys h k = (h.0, join xs ys h.1 k)

  each : (g : ℤ → List Action) (zs : List ℤ) → ((z : ℤ) → AreFree (g z)) → AreFree (flat_map g zs)
  each g [] h = tt
  each g (z ∷ zs) h = join (g z) (flat_map g zs) (h z) (each g zs h)

  takes : (b : ℕ) (f : List ℕ) (ps : List (List ℤ)) → AreFree (map (Take b f) ps)
  takes b f [] = tt
  takes b f (p ∷ ps) = (tt, takes b f ps)

  gives : (c : ℕ) (ps : List (List ℤ)) → AreFree (map (Give c) ps)
  gives c [] = tt
  gives c (p ∷ ps) = (tt, gives c ps)

  pure_store : (v : Bool) (b : ℕ) (f : List ℕ) (names : List (List ℕ)) (at : List Target) (over : List ℤ) (e : Term) → DefinitionIsFree a stored (function_named a.functions f) 0 → IsFreeAction (action_for v b f 0 names at over e)
  pure_store true b f names at over e h = h
  pure_store false b f names at over e h = h

  store : (b : ℕ) (f : List ℕ) (k : ℕ) (names : List (List ℕ)) (at : List Target) (over : List ℤ) (e : Term) → DefinitionIsFree a stored (function_named a.functions f) k →
      IsFreeAction (action_for (is_pure_store k at over) b f k names at over e)
  store b f zero names at over e h = pure_store (is_pure_store 0 at over) b f names at over e h
  store b f (suc k) names at over e h = h

  either : (v : Bool) (xs ys : List Action) → AreFree xs → AreFree ys → AreFree (if v then xs else ys)
  either true xs ys h k = h
  either false xs ys h k = k

  module _ (setting : Setting) where
    mutual
      pub free_actions : (b : Statement) (s : Symbols) → IsFree a stored setting b → AreFree (actions setting b s)
      free_actions (Seq all) s h = free_block all s h
      free_actions (For i x kind body) s h =
          each (λ z. actions setting body (bind s i z (int_le z (largest s x.lower)))) (turns s x) (λ z. free_actions body (bind s i z (int_le z (largest s x.lower))) h)
      free_actions (Let i pick forms) s h = tt
      free_actions (First i b c) s h = either (s.first i) (actions setting b s) (actions setting c s) (free_actions b s h.0) (free_actions c s h.1)
      free_actions (Guard low high body) s h = either (int_le (form_value low s) (form_value high s)) (actions setting body s) [] (free_actions body s h) tt
      free_actions (Alloc b f places) s h = (tt, tt)
      free_actions (Fetch b g region) s h = takes b (setting.group_function g) (points s region)
      free_actions (Store b k at e) s h = (store b (setting.buffer_function b) k _ _ _ e h, tt)
      free_actions (Publish c) s h = gives c (setting.own s)

      free_block : (all : Statements) (s : Symbols) → IsFreeBlock a stored setting all → AreFree (block_actions setting all s)
      free_block Empty s h = tt
      free_block (Then b rest) s h = join (actions setting b s) (block_actions setting rest (after b s)) (free_actions b s h.0) (free_block rest (after b s) h.1)

-- ---- what is free keeps its value

-- the function of a name stands among the functions
named_index : (fs : List Function) (name : List ℕ) (f : Function) → function_named fs name ≡ Some f → (k : ℕ) × (slice_get fs k ≡ Some f)
named_index [] name f e = absurd (cc e)
named_index (g ∷ gs) name f e = of (same_name g.name name) e (named_index gs name f)
  where
    of : (v : Bool) → (if v then Some g else function_named gs name) ≡ Some f → (function_named gs name ≡ Some f → (k : ℕ) × (slice_get gs k ≡ Some f)) → (k : ℕ) × (slice_get (g ∷ gs) k ≡ Some f)
    of true h rest = (zero, h)
    of false h rest = let k = rest h in (suc k.0, k.1)

module _ (a : Algorithm) (w : IsAlgorithm a) (stored : List Bool) (placed : PutInWherePossible) (sides : UpdatesKeepTheirSides) (given : Given) where
  abbrev pub anyhow : Term → Term
  anyhow = put_in_where_possible a stored

  -- the values that a function's calls of itself answer do not count here
  nought : List ℤ → ℤ
  nought p = pos 0

  abbrev own_calls : Function → Calls
  own_calls f = with_name (calls_of a []) f.name f.ty nought

  abbrev IsSide : Function → Change → Term → Type 0
  IsSide f u d = KeepsItsSide a stored (own_calls f) (names_in f u) I32 d

  sides_of : (name : List ℕ) (f : Function) (i : ℕ) (u : Change) → IsNamed a name f → slice_get f.changes i ≡ Some u → KeepsItsSides a stored (own_calls f) f u
  sides_of name f i u named e = let k = named_index a.functions name f named in sides a stored [] k.0 f i u nought w k.1 e

  left_same : (f : Function) (u : Change) (vs : List (List ℕ)) (ds : List Term) (ts : List Target) →
      AllByRecursion (IsSide f u) ds → AllByRecursion (TakesNoUpdates a stored) ds → IsLeftSide a (put_in a stored) given vs ds ts → IsLeftSide a anyhow given vs ds ts
  left_same f u [] [] [] k n h = tt
  left_same f u [] [] (t ∷ ts) k n h = absurd h
  left_same f u [] (d ∷ ds) ts k n h = absurd h
  left_same f u (v ∷ vs) [] ts k n h = absurd h
  left_same f u (v ∷ vs) (d ∷ ds) [] k n h = absurd h
  left_same f u (v ∷ vs) (d ∷ ds) (Fixed z ∷ ts) k n h = (h.0, left_same f u vs ds ts k.1 n.1 h.1)
  left_same f u (v ∷ vs) (d ∷ ds) (Open e ∷ ts) k n h =
      (h.0, h.1 ∙ sym (placed.possible a stored (is_among (names_in f u)) I32 d k.0.has_type n.0), left_same f u vs ds ts k.1 n.1 h.2)

  free_update : (f : Function) (i : ℕ) (u : Change) → slice_get f.changes i ≡ Some u → DefinitionIsFree a stored (Some f) (suc i) → TakesNoUpdates a stored u.value × All (TakesNoUpdates a stored) u.at
  free_update f i u e h = subst (λ (o : Option Change). MatchOption o (Unit {0}) (λ u. TakesNoUpdates a stored u.value × All (TakesNoUpdates a stored) u.at)) e h

  definition_same : (x : Action) → IsFreeAction a stored x → IsDefinition a (put_in a stored) given x → IsDefinition a anyhow given x
  definition_same (Allot b rooms) h d = tt
  definition_same (Take b f p) h d = tt
  definition_same (Put b f names p e) h d =
      let g : Function = d.0 in
      let none : TakesNoUpdates a stored g.value = subst (λ (o : Option Function). DefinitionIsFree a stored o 0) d.1 h in
      (g, d.1, d.2, d.3 ∙ sym (placed.definition a stored f g w (sym (named_same a.functions f) ∙ d.1) none))
  definition_same (Update b f k names at over e) h d =
      let g : Function = d.0 in
      let i : ℕ = d.1 in
      let u : Change = d.2 in
      let free = free_update g i u d.5 (subst (λ (n : ℕ). DefinitionIsFree a stored (Some g) n) d.4 (subst (λ (o : Option Function). DefinitionIsFree a stored o k) d.3 h)) in
      let kept = sides_of f g i u d.3 d.5 in (
        g,
        i,
        u,
        d.3,
        d.4,
        d.5,
        d.6,
        left_same g u g.variables u.at at (recursion_from_All (IsSide g u) u.at kept.left) (recursion_from_All (TakesNoUpdates a stored) u.at free.1) d.7,
        d.8 ∙ sym (placed.possible a stored (is_among (names_in g u)) g.ty u.value kept.right.has_type free.0),
      )
  definition_same (Give c p) h d = tt

  pub definitions_same : (xs : List Action) → AreFree a stored xs → AreDefinitions a (put_in a stored) given xs → AreDefinitions a anyhow given xs
  definitions_same [] h d = tt
  definitions_same (x ∷ xs) h d = (definition_same x h.0 d.0, definitions_same xs h.1 d.1)
