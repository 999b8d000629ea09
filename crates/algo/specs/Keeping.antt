-- What a statement keeps, by the code of the refusal that answers where it does not.
use Rattle.std.specs.Prelude.{◌⊎◌, IsSome, MatchOption, take, ◌≡◌, ℕ, ◌<◌, ◌≤◌, ◌^◌, List, [], ◌∷◌, ◌++◌, length, map, All, false, IsTrue, Option, Some, not, slice_get}
use Rattle.numeric.specs.declared.ty.Ty.{Ty}
use Rattle.numeric.specs.declared.ty.Ty.TheVariants.{I32}
use Rattle.meaning.specs.Image.View.{IsSampleType, AreExtents}
use Rattle.tree.specs.Term.{Term}
use Rattle.tree.specs.Typing.{type_of}
use Rattle.tree.specs.Uses.{variables_of, EachCall}
use Rattle.meaning.specs.Algorithm.{Function, Algorithm}
use Rattle.meaning.specs.Names.{same_name, is_among}
use Rattle.meaning.specs.Reduction.{size}
use Rattle.meaning.specs.Conditions.{function_named, AreDistinct, callable, IsRange}
use Rattle.algo.specs.Scoping.Expressions.{is_known, takes_count}
use Rattle.algo.specs.Scoping.Keeping.{KeepPlaces}
use Rattle.expr.specs.Statements.Text.{DomainText, InputText, FunctionText, UpdateText, StatementText, function, update, OutputText, FileText}
use Rattle.algo.specs.declared.error.Code.{Code}
use Rattle.algo.specs.declared.error.Code.TheVariants.{Name, LaterCall, IndexCount, MovedVariable, NoDomain, TypesDiffer, Limit, SampleType}
use Rattle.algo.specs.declared.error.AlgoError.{AlgoError}
use Rattle.algo.specs.declared.error.AlgoError.TheVariants.{Memory, Refused}
use Rattle.algo.specs.Saying.{range_said, domain_names, functions_said, input_said, names_declared}
use Rattle.algo.specs.Context.{function_names}

-- the variables of an expression are among these names, and what it calls is declared somewhere in the text
pub record UsesNames (variables declared : List (List ℕ)) (e : Term) : Type 0 where
  pub named : All (λ name. IsTrue (is_among variables name)) (variables_of e)
  pub called : EachCall (λ name at. IsTrue (is_among declared name)) e

-- each call is of what can be called
abbrev pub CallsKnown : (List ℕ → Option (Ty × ℕ)) → Term → Type 0
CallsKnown calls = EachCall (λ name at. IsTrue (is_known calls name at))

-- each call has the right number of indices
abbrev pub CallsCounted : (List ℕ → Option (Ty × ℕ)) → Term → Type 0
CallsCounted calls = EachCall (λ name at. IsTrue (takes_count calls name at))

pub record DomainLimits (ds : List DomainText) : Type 0 where
  pub few : length ds ≤ 3
  pub ranges : All IsRange (map range_said ds)
  pub points : size (map range_said ds) ≤ 2 ^ 24

-- the error is want of memory, or it names a condition that does not hold
abbrev pub Breaks : (Code → Type 0) → AlgoError → Type 0
Breaks holds Memory = Unit {0}
Breaks holds (Refused code place) = ¬ holds code

-- the condition stands behind the code of limits
abbrev pub OnLimit : Type 0 → Code → Type 0
OnLimit P Limit = P
OnLimit P _ = Unit {0}

-- the names that an update of the function may use, its reduction variables last
abbrev pub names_for : Function → UpdateText Term → List (List ℕ)
names_for f s = f.variables ++ domain_names s.domains

-- ---- what an update of f keeps, in a text whose input and functions have the names `declared`

pub record UpdateNames (declared : List (List ℕ)) (f : Function) (s : UpdateText Term) : Type 0 where
  pub named : f.name ≡ s.name
  pub distinct : AreDistinct (names_for f s)
  pub left : All (UsesNames (names_for f s) declared) s.at
  pub value : UsesNames (names_for f s) declared s.value

-- each call is of what can be called
pub record UpdateCalls (calls : List ℕ → Option (Ty × ℕ)) (s : UpdateText Term) : Type 0 where
  pub left : All (CallsKnown calls) s.at
  pub value : CallsKnown calls s.value

pub record UpdateIndices (calls : List ℕ → Option (Ty × ℕ)) (f : Function) (s : UpdateText Term) : Type 0 where
  pub places : length s.at ≡ length f.variables
  pub left : All (CallsCounted calls) s.at
  pub value : CallsCounted calls s.value

-- no left index calls the function, and each keeps its variable's place
pub record UpdatePlaces (f : Function) (s : UpdateText Term) : Type 0 where
  pub others : All (EachCall (λ name at. IsTrue (not (same_name f.name name)))) s.at
  pub kept : KeepPlaces f.name f.variables s.value s.at

-- the types of the left indices, over what could be called before the function, and of the right side
pub record UpdateTypes (earlier calls : List ℕ → Option (Ty × ℕ)) (f : Function) (s : UpdateText Term) : Type 0 where
  pub left : All (λ e. type_of (is_among (names_for f s)) earlier e ≡ Some I32) s.at
  pub value : type_of (is_among (names_for f s)) calls s.value ≡ Some f.ty

pub record UpdateLimits (f : Function) (s : UpdateText Term) : Type 0 where
  pub domain : DomainLimits s.domains
  pub room : length f.changes < 4

-- over the input of a, after the functions `before`, in a text whose input and functions have the names `declared`
module _ (a : Algorithm) (declared : List (List ℕ)) (before : List Function) where
  pub record FunctionNames (s : FunctionText Term) : Type 0 where
    pub new : is_among (a.input ∷ function_names before) s.name ≡ false
    pub distinct : AreDistinct s.variables
    pub value : UsesNames s.variables declared s.value

  pub record FunctionLimits (s : FunctionText Term) : Type 0 where
    pub room : length before < 64
    pub some : 1 ≤ length s.variables
    pub few : length s.variables ≤ 3

  abbrev pub KeepsFunction : Code → FunctionText Term → Type 0
  KeepsFunction Name s = FunctionNames s
  KeepsFunction LaterCall s = CallsKnown (callable a before) s.value
  KeepsFunction IndexCount s = CallsCounted (callable a before) s.value
  KeepsFunction TypesDiffer s = type_of (is_among s.variables) (callable a before) s.value ≡ Some s.ty
  KeepsFunction Limit s = FunctionLimits s
  KeepsFunction _ s = Unit {0}

  -- an update of f, the function after those, whose right side may call the functions fs
  module _ (f : Function) (fs : List Function) where
    abbrev pub KeepsUpdateOver : Code → UpdateText Term → Type 0
    KeepsUpdateOver Name s = UpdateNames declared f s
    KeepsUpdateOver LaterCall s = UpdateCalls (callable a fs) s
    KeepsUpdateOver IndexCount s = UpdateIndices (callable a fs) f s
    KeepsUpdateOver MovedVariable s = UpdatePlaces f s
    KeepsUpdateOver NoDomain s = 1 ≤ length s.domains
    KeepsUpdateOver TypesDiffer s = UpdateTypes (callable a before) (callable a fs) f s
    KeepsUpdateOver Limit s = UpdateLimits f s
    KeepsUpdateOver _ s = Unit {0}

  -- an update of the function after those may call the function itself
  abbrev pub KeepsUpdate : Function → Code → UpdateText Term → Type 0
  KeepsUpdate f = KeepsUpdateOver f (before ++ f ∷ [])

-- a statement after these functions; an update follows a function, the last of them
module _ (a : Algorithm) (declared : List (List ℕ)) (before : List Function) where
  abbrev pub KeepsStatement : Code → StatementText Term → Type 0
  KeepsStatement code (function s) = KeepsFunction a declared before code s
  KeepsStatement code (update s) = (code ≡ Name → 1 ≤ length before) × ((earlier : List Function) (f : Function) → before ≡ earlier ++ f ∷ [] → KeepsUpdate a declared earlier f code s)

abbrev pub KeepsInput : Code → InputText → Type 0
KeepsInput Limit s = AreExtents s.extents
KeepsInput SampleType s = IsSampleType s.ty
KeepsInput _ s = Unit {0}

-- the output after all functions
abbrev pub KeepsOutput : List Function → Code → OutputText → Type 0
KeepsOutput fs Name s = IsSome (function_named fs s.name)
KeepsOutput fs IndexCount s = MatchOption (function_named fs s.name) (Unit {0}) (λ f. length s.extents ≡ length f.variables)
KeepsOutput fs Limit s = AreExtents s.extents
KeepsOutput fs SampleType s = MatchOption (function_named fs s.name) (Unit {0}) (λ f. IsSampleType f.ty)
KeepsOutput fs _ s = Unit {0}

-- one of the statements breaks its condition, after the functions that those before it say
pub record StatementBreaks (a : Algorithm) (declared : List (List ℕ)) (statements : List (StatementText Term)) (e : AlgoError) : Type 0 where
  pub place : ℕ
  pub statement : StatementText Term
  pub stands : slice_get statements place ≡ Some statement
  pub broken : Breaks (λ code. KeepsStatement a declared (functions_said (take place statements)) code statement) e

-- the error names a condition that the input, one of the other statements over that input, or the output does not keep
abbrev pub FileBreaks : FileText Term → AlgoError → Type 0
FileBreaks file e =
    Breaks (λ code. KeepsInput code file.input) e
    ⊎ StatementBreaks (input_said file.input) (names_declared file) file.statements e
    ⊎ Breaks (λ code. KeepsOutput (functions_said file.statements) code file.output) e
