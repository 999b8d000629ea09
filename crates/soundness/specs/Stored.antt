-- What a stored expression is to be: with each load read as a call of its claim's function, the definition with the calls of
-- functions that are not stored put in.
use Rattle.std.specs.Prelude.{◌≡◌, ℕ, suc, List, [], ◌∷◌, Some, ℤ, IsTrue, slice_get, true, false, All}
use Rattle.tree.specs.Term.{Term, Call}
use Rattle.tree.specs.Meaning.{value_of, typed}
use Rattle.tree.specs.Substitution.{with_calls}
use Rattle.meaning.specs.Algorithm.{Change, Function, Algorithm}
use Rattle.meaning.specs.Points.{IsIn}
use Rattle.meaning.specs.Conditions.{IsAlgorithm, is_variable, names_in}
use Rattle.meaning.specs.Value.{Calls, value_at_step, calls_of, with_name, step_at}
use Rattle.plan.specs.Semantics.Actions.{Action, Allot, Take, Put, Change as Update, Give, Target, Fixed, Open}
use Rattle.plan.specs.Semantics.Run.{Around, Source, Input, ByClaim, Unknown}
use Rattle.soundness.specs.Origins.{Outline, Given, origin}
use Rattle.soundness.specs.Given.{function_named, given_of}
use Rattle.soundness.specs.Right.{AreRight}

-- the name of what is called: of a claim, its function
abbrev pub source_name : Given → Source → List ℕ → List ℕ
source_name given Input name = name
source_name given (ByClaim c) name = (given.outline.claim c).function
source_name given Unknown name = name

abbrev pub meant_name : Given → List ℕ → List ℕ
meant_name given name = source_name given (given.outline.source name) name

-- an expression with each load read as a call of its claim's function
abbrev pub as_calls : Given → Term → Term
as_calls given e = with_calls (λ name at. Call (meant_name given name) at) e

-- the function of this name
abbrev pub IsNamed : Algorithm → List ℕ → Function → Type 0
IsNamed a name f = function_named a.functions name ≡ Some f

-- `put_in` puts the calls of unstored functions in
module _ (a : Algorithm) (put_in : Term → Term) (given : Given) where
  -- the left side of a store is that of an update: a known coordinate where the left index is the function's variable of that
  -- place alone, else the left index
  abbrev pub IsLeftSide : List (List ℕ) → List Term → List Target → Type 0
  IsLeftSide [] [] [] = Unit {0}
  IsLeftSide (v ∷ vs) (d ∷ ds) (Fixed z ∷ ts) = (is_variable v d ≡ true) × IsLeftSide vs ds ts
  IsLeftSide (v ∷ vs) (d ∷ ds) (Open e ∷ ts) = (is_variable v d ≡ false) × (as_calls given e ≡ put_in d) × IsLeftSide vs ds ts
  IsLeftSide _ _ _ = ⊥

  -- a pure store is its function's definition, over the function's variables; a store of definition k is the function's k-th
  -- update, over its variables and the update's reduction variables
  abbrev pub IsDefinition : Action → Type 0
  IsDefinition (Allot b rooms) = Unit {0}
  IsDefinition (Take b f p) = Unit {0}
  IsDefinition (Put b f names p e) = (g : Function) × IsNamed a f g × (names ≡ g.variables) × (as_calls given e ≡ put_in g.value)
  IsDefinition (Update b f k names at over e) =
      (g : Function) × (i : ℕ) × (u : Change) × IsNamed a f g × (k ≡ suc i) × (slice_get g.changes i ≡ Some u)
      × (names ≡ names_in g u) × IsLeftSide g.variables u.at at × (as_calls given e ≡ put_in u.value)
  IsDefinition (Give c p) = Unit {0}

  abbrev pub AreDefinitions : List Action → Type 0
  AreDefinitions [] = Unit {0}
  AreDefinitions (x ∷ later) = IsDefinition x × AreDefinitions later

-- the calls of a function answer these values, all other calls what the algorithm says
abbrev pub calls_within : Algorithm → List ℕ → Function → (List ℤ → ℤ) → Calls
calls_within a samples f values = with_name (calls_of a samples) f.name f.ty values

-- what is put in does not change a value, and a definition has its function's type
pub record KeepsValues (a : Algorithm) (samples : List ℕ) (put_in : Term → Term) : Type 0 where
  pub value : (variables : List ℕ → ℤ) (e : Term) → value_of variables (calls_of a samples) (put_in e) ≡ value_of variables (calls_of a samples) e
  pub of_type : (name : List ℕ) (f : Function) (variables : List ℕ → ℤ) → IsNamed a name f → (value_of variables (calls_of a samples) f.value).ty ≡ f.ty
  -- nor in an update, whatever the function's calls of itself answer
  pub right_value : (name : List ℕ) (f : Function) (i : ℕ) (u : Change) (values : List ℤ → ℤ) (variables : List ℕ → ℤ) → IsNamed a name f → slice_get f.changes i ≡ Some u →
      value_of variables (calls_within a samples f values) (put_in u.value) ≡ value_of variables (calls_within a samples f values) u.value
  pub right_type : (name : List ℕ) (f : Function) (i : ℕ) (u : Change) (values : List ℤ → ℤ) (variables : List ℕ → ℤ) → IsNamed a name f → slice_get f.changes i ≡ Some u →
      (value_of variables (calls_within a samples f values) u.value).ty ≡ f.ty
  pub left_value : (name : List ℕ) (f : Function) (i : ℕ) (u : Change) (values : List ℤ → ℤ) (variables : List ℕ → ℤ) → IsNamed a name f → slice_get f.changes i ≡ Some u →
      All (λ d. value_of variables (calls_within a samples f values) (put_in d) ≡ value_of variables (calls_within a samples f values) d) u.at

-- what is given is the algorithm's, on an input of these samples
pub record IsOfAlgorithm (a : Algorithm) (samples : List ℕ) (given : Given) : Type 0 where
  pub formed : IsAlgorithm a
  -- the plan's input is the algorithm's
  pub input : (name : List ℕ) → given.outline.source name ≡ Input → name ≡ a.input
  -- calls answer what the algorithm says, and a function's value after all steps is what a call of it answers
  pub calls : (name : List ℕ) (p : List ℤ) → given.calls name p ≡ calls_of a samples name p
  pub whole : (name : List ℕ) (p : List ℤ) → given.value_at (origin name (given.all_steps name) p) ≡ calls_of a samples name p
  -- a function's value after so many steps
  pub stepped : (name : List ℕ) (f : Function) (s : ℕ) (p : List ℤ) → IsNamed a name f → given.value_at (origin name s p) ≡ typed f.ty (value_at_step (calls_of a samples) f s p)
  -- the reduction points of an update, and the steps before each
  pub domain : (name : List ℕ) (f : Function) (i : ℕ) (u : Change) (r : List ℤ) → IsNamed a name f → slice_get f.changes i ≡ Some u →
      IsTrue (given.in_domain name (suc i) r) → IsIn u.ranges r
  pub steps : (name : List ℕ) (f : Function) (i : ℕ) (u : Change) (r : List ℤ) → IsNamed a name f → slice_get f.changes i ≡ Some u →
      given.step_at name (suc i) r ≡ step_at f i u r

-- a fetched cell has its value
module _ (around : Around) (given : Given) where
  abbrev pub IsFetchedRight : Action → Type 0
  IsFetchedRight (Take b f p) = around.cell f p ≡ given.value_at (origin f (given.all_steps f) p)
  IsFetchedRight _ = Unit {0}

  abbrev pub AreFetchedRight : List Action → Type 0
  AreFetchedRight [] = Unit {0}
  AreFetchedRight (x ∷ later) = IsFetchedRight x × AreFetchedRight later

-- actions that store the algorithm's definitions are right
abbrev pub DefinitionsAreRight : Type 0
DefinitionsAreRight =
    (a : Algorithm) (samples : List ℕ) (put_in : Term → Term) (around : Around) (given : Given) (todo : List Action) →
    IsOfAlgorithm a samples given → KeepsValues a samples put_in → AreFetchedRight around given todo → AreDefinitions a put_in given todo →
    AreRight around given todo

-- what a well-formed algorithm gives, where the plan's input is the algorithm's, is the algorithm's
abbrev pub GivenIsOfAlgorithm : Type 0
GivenIsOfAlgorithm =
    (a : Algorithm) (samples : List ℕ) (outline : Outline) → IsAlgorithm a → ((name : List ℕ) → outline.source name ≡ Input → name ≡ a.input) →
    IsOfAlgorithm a samples (given_of a samples outline)
