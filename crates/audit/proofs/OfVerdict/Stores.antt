-- Where each line that stores, stores a definition, all actions are definitions.
use Rattle.std.proofs.Common.{Bool, true, false, ℕ, List, [], ◌∷◌, ◌++◌, map}
use Rattle.std.specs.Prelude.{ℤ, int_le, if◌then◌else◌, flat_map}
use Rattle.tree.specs.Term.{Term}
use Rattle.meaning.specs.Algorithm.{Algorithm}
use Rattle.plan.specs.Plan.{Statement, Seq, For, Let, First, Guard, Alloc, Fetch, Store, Publish, Statements, Empty, Then}
use Rattle.plan.specs.Symbols.{Symbols, bind, form_value, largest, turns, points}
use Rattle.plan.specs.Semantics.Actions.{Setting, Action, Take, Give, stored, after, actions, block_actions}
use Rattle.soundness.specs.Origins.{Given}
use Rattle.soundness.specs.Stored.{IsDefinition, AreDefinitions}

module _ (a : Algorithm) (put_in : Term → Term) (given : Given) (setting : Setting) where
  abbrev Defined : List Action → Type 0
  Defined todo = AreDefinitions a put_in given todo

  -- whatever the symbols are, each line that stores, stores a definition
  abbrev mutual
    pub StoresDefinitions : Statement → Type 0
    StoresDefinitions (Seq all) = StoresDefinitionsInBlock all
    StoresDefinitions (For i x kind body) = StoresDefinitions body
    StoresDefinitions (Let i pick forms) = Unit {0}
    StoresDefinitions (First i b c) = StoresDefinitions b × StoresDefinitions c
    StoresDefinitions (Guard low high body) = StoresDefinitions body
    StoresDefinitions (Alloc b f places) = Unit {0}
    StoresDefinitions (Fetch b g region) = Unit {0}
    StoresDefinitions (Store b k at e) = (s : Symbols) → IsDefinition a put_in given (stored setting b k at e s)
    StoresDefinitions (Publish c) = Unit {0}

    pub StoresDefinitionsInBlock : Statements → Type 0
    StoresDefinitionsInBlock Empty = Unit {0}
    StoresDefinitionsInBlock (Then b rest) = StoresDefinitions b × StoresDefinitionsInBlock rest

  join : (xs ys : List Action) → Defined xs → Defined ys → Defined (xs ++ ys)
  join [] ys h k = k
  join (x ∷ xs) ys h k = (h.0, join xs ys h.1 k)

  each : (g : ℤ → List Action) (zs : List ℤ) → ((z : ℤ) → Defined (g z)) → Defined (flat_map g zs)
  each g [] h = tt
  each g (z ∷ zs) h = join (g z) (flat_map g zs) (h z) (each g zs h)

  takes : (b : ℕ) (f : List ℕ) (ps : List (List ℤ)) → Defined (map (Take b f) ps)
  takes b f [] = tt
  takes b f (p ∷ ps) = (tt, takes b f ps)

  gives : (c : ℕ) (ps : List (List ℤ)) → Defined (map (Give c) ps)
  gives c [] = tt
  gives c (p ∷ ps) = (tt, gives c ps)

  either : (v : Bool) (xs ys : List Action) → Defined xs → Defined ys → Defined (if v then xs else ys)
  either true xs ys h k = h
  either false xs ys h k = k

  mutual
    pub all_defined : (b : Statement) (s : Symbols) → StoresDefinitions b → Defined (actions setting b s)
    all_defined (Seq all) s h = block_defined all s h
    all_defined (For i x kind body) s h =
        each (λ z. actions setting body (bind s i z (int_le z (largest s x.lower)))) (turns s x) (λ z. all_defined body (bind s i z (int_le z (largest s x.lower))) h)
    all_defined (Let i pick forms) s h = tt
    all_defined (First i b c) s h = either (s.first i) (actions setting b s) (actions setting c s) (all_defined b s h.0) (all_defined c s h.1)
    all_defined (Guard low high body) s h = either (int_le (form_value low s) (form_value high s)) (actions setting body s) [] (all_defined body s h) tt
    all_defined (Alloc b f places) s h = (tt, tt)
    all_defined (Fetch b g region) s h = takes b (setting.group_function g) (points s region)
    all_defined (Store b k at e) s h = (h s, tt)
    all_defined (Publish c) s h = gives c (setting.own s)

    block_defined : (all : Statements) (s : Symbols) → StoresDefinitionsInBlock all → Defined (block_actions setting all s)
    block_defined Empty s h = tt
    block_defined (Then b rest) s h = join (actions setting b s) (block_actions setting rest (after b s)) (all_defined b s h.0) (block_defined rest (after b s) h.1)
