-- Where in the text a statement breaks the condition of a code.
use Rattle.std.specs.Prelude.{◌≡◌, ◌≢◌, ◌⊎◌, ◌+◌, ◌≤◌, ◌<◌, ◌^◌, ℕ, zero, suc, pos, negsuc, ◌<ℤ◌, IsTrue, Bool, List, [], ◌∷◌, ◌++◌, length, map, take, not, Option, Some, None, slice_get}
use Rattle.numeric.specs.declared.ty.Ty.{Ty}
use Rattle.numeric.specs.declared.ty.Ty.TheVariants.{I32}
use Rattle.meaning.specs.Image.View.{IsExtent, IsSampleType}
use Rattle.tree.specs.declared.token.span.Span.{Span}
use Rattle.tree.specs.declared.expr.Expr.{Expr}
use Rattle.tree.specs.Term.{Terms, term_of}
use Rattle.tree.specs.Typing.{type_of}
use Rattle.tree.specs.Place.{span_of, misfits}
use Rattle.meaning.specs.Algorithm.{Function, Algorithm}
use Rattle.meaning.specs.Names.{same_name, is_among}
use Rattle.meaning.specs.Reduction.{size}
use Rattle.meaning.specs.Conditions.{function_named, callable}
use Rattle.algo.specs.declared.scoping.calls.CallPlace.{CallPlace}
use Rattle.algo.specs.Scoping.Doubles.{IsFirstDouble}
use Rattle.algo.specs.Scoping.Expressions.{is_known, takes_count}
use Rattle.algo.specs.Scoping.Keeping.{MisplacedAt}
use Rattle.algo.specs.Scoping.Standing.{RefusedVariableAt, RefusedCallAt}
use Rattle.expr.specs.declared.statements.statement.Named.{Named}
use Rattle.expr.specs.declared.statements.statement.Extent.{Extent}
use Rattle.expr.specs.declared.statements.statement.Domain.{Domain}
use Rattle.expr.specs.declared.statements.statement.InputStatement.{InputStatement}
use Rattle.expr.specs.declared.statements.statement.FunctionStatement.{FunctionStatement}
use Rattle.expr.specs.declared.statements.statement.UpdateStatement.{UpdateStatement}
use Rattle.expr.specs.declared.statements.statement.Statement.{Statement}
use Rattle.expr.specs.declared.statements.statement.Statement.TheVariants as statement
use Rattle.expr.specs.declared.statements.statement.OutputStatement.{OutputStatement}
use Rattle.expr.specs.declared.statements.statement.File.{File}
use Rattle.expr.specs.Statements.View.{named_text, domain_text, input_text, update_text, statement_text, file_text}
use Rattle.algo.specs.declared.error.Code.{Code}
use Rattle.algo.specs.declared.error.Code.TheVariants.{Name, LaterCall, IndexCount, MovedVariable, NoDomain, TypesDiffer, Limit, SampleType}
use Rattle.algo.specs.declared.error.AlgoError.{AlgoError}
use Rattle.algo.specs.declared.error.AlgoError.TheVariants.{Memory, Refused}
use Rattle.algo.specs.Saying.{range_said, functions_said, input_said, names_declared}
use Rattle.algo.specs.Context.{function_names}
use Rattle.algo.specs.Keeping.{names_for}

-- ---- in lists of names and numbers

-- the number can stand there in a size: a width, a height, or the three colours
abbrev pub FitsSize : ℕ → ℕ → Type 0
FitsSize zero n = IsExtent n
FitsSize (suc zero) n = IsExtent n
FitsSize (suc (suc zero)) n = n ≡ 3
FitsSize (suc (suc (suc k))) n = ⊥

-- a number that cannot stand there in a size stands at this place
pub record BadExtentAt (es : List Extent) (at : Span) : Type 0 where
  pub k : ℕ
  pub extent : Extent
  pub stands : slice_get es k ≡ Some extent
  pub bad : ¬ FitsSize k extent.number
  pub place : at ≡ extent.span

-- the same; a size without numbers is at fault where the statement's name stands
abbrev pub BadSizeAt : Named → List Extent → Span → Type 0
BadSizeAt name es at = BadExtentAt es at ⊎ ((es ≡ []) × (at ≡ name.span))

-- a name that is one of those before it stands at this place; the known names are before all
pub record DoubledAt (known : List (List ℕ)) (names : List Named) (at : Span) : Type 0 where
  pub k : ℕ
  pub name : Named
  pub stands : slice_get names k ≡ Some name
  pub doubled : IsFirstDouble (known ++ map named_text names) (length known + k)
  pub place : at ≡ name.span

-- ---- in expressions

-- a call that the test refuses stands at this place
pub record CallAt (accepted : List ℕ → Terms → Bool) (e : Expr) (at : Span) : Type 0 where
  pub call : CallPlace
  pub refused : RefusedCallAt accepted e call
  pub place : at ≡ call.call

-- the name of a call that the test refuses does
pub record CalledAt (accepted : List ℕ → Terms → Bool) (e : Expr) (at : Span) : Type 0 where
  pub call : CallPlace
  pub refused : RefusedCallAt accepted e call
  pub place : at ≡ call.name

-- a variable that is none of these, or the name of a call that is declared nowhere, stands at this place
abbrev pub UnknownAt : List (List ℕ) → List (List ℕ) → Expr → Span → Type 0
UnknownAt variables declared e at = RefusedVariableAt (is_among variables) e at ⊎ CalledAt (λ name indices. is_among declared name) e at

-- the expression has another type, and stands at this place
pub record OtherTypeAt (variables : List ℕ → Bool) (calls : List ℕ → Option (Ty × ℕ)) (t : Ty) (e : Expr) (at : Span) : Type 0 where
  pub found : Ty
  pub typed : type_of variables calls (term_of e) ≡ Some found
  pub other : found ≢ t
  pub place : at ≡ span_of e

-- the expression has no type, and the first of its parts that has none, though its own parts have, stands at this place
pub record NoTypeAt (variables : List ℕ → Bool) (calls : List ℕ → Option (Ty × ℕ)) (e : Expr) (at : Span) : Type 0 where
  pub untyped : type_of variables calls (term_of e) ≡ None
  pub place : slice_get (misfits variables calls e) 0 ≡ Some at

-- the expression does not have the type, by what stands at this place
abbrev pub BadTypeAt : (List ℕ → Bool) → (List ℕ → Option (Ty × ℕ)) → Ty → Expr → Span → Type 0
BadTypeAt variables calls t e at = NoTypeAt variables calls e at ⊎ OtherTypeAt variables calls t e at

-- one of the expressions has its fault at this place
pub record InOneAt (fault : Expr → Span → Type 0) (es : List Expr) (at : Span) : Type 0 where
  pub k : ℕ
  pub expr : Expr
  pub stands : slice_get es k ≡ Some expr
  pub broken : fault expr at

-- one of an update's left indices, or its right side, has its fault at this place
abbrev pub InUpdateAt : (Expr → Span → Type 0) → UpdateStatement → Span → Type 0
InUpdateAt fault s at = InOneAt fault s.at.items at ⊎ fault s.value at

-- ---- the input and the output

abbrev pub InputFaultAt : InputStatement → Code → Span → Type 0
InputFaultAt s Limit at = BadSizeAt s.name s.extents.items at
InputFaultAt s SampleType at = (¬ IsSampleType s.ty) × (at ≡ s.ty_span)
InputFaultAt s _ at = ⊥

-- the function of the output's name does not have this
abbrev pub OutputLacks : List Function → OutputStatement → (Function → Type 0) → Type 0
OutputLacks fs s P = (f : Function) × (function_named fs (named_text s.name) ≡ Some f) × ¬ P f

-- after all functions
abbrev pub OutputFaultAt : List Function → OutputStatement → Code → Span → Type 0
OutputFaultAt fs s Name at = (function_named fs (named_text s.name) ≡ None) × (at ≡ s.name.span)
OutputFaultAt fs s IndexCount at = OutputLacks fs s (λ f. length s.extents.items ≡ length f.variables) × (at ≡ s.name.span)
OutputFaultAt fs s Limit at = BadSizeAt s.name s.extents.items at
OutputFaultAt fs s SampleType at = OutputLacks fs s (λ f. IsSampleType f.ty) × (at ≡ s.name.span)
OutputFaultAt fs s _ at = ⊥

-- ---- functions

module _ (a : Algorithm) (declared : List (List ℕ)) (before : List Function) where
  -- the input or a function before has the function's name, or one of its variables stands twice, or its right side has an unknown name
  abbrev pub FunctionNameAt : FunctionStatement → Span → Type 0
  FunctionNameAt s at =
      (IsTrue (is_among (a.input ∷ function_names before) (named_text s.name)) × (at ≡ s.name.span))
      ⊎ DoubledAt [] s.variables.items at
      ⊎ UnknownAt (map named_text s.variables.items) declared s.value at

  -- there are too many functions, or the function has no variables, or this is its fourth
  abbrev pub FunctionLimitAt : FunctionStatement → Span → Type 0
  FunctionLimitAt s at =
      ((64 ≤ length before) × (at ≡ s.name.span))
      ⊎ ((s.variables.items ≡ []) × (at ≡ s.name.span))
      ⊎ ((fourth : Named) × (slice_get s.variables.items 3 ≡ Some fourth) × (at ≡ fourth.span))

  abbrev pub FunctionFaultAt : FunctionStatement → Code → Span → Type 0
  FunctionFaultAt s Name at = FunctionNameAt s at
  FunctionFaultAt s LaterCall at = CalledAt (is_known (callable a before)) s.value at
  FunctionFaultAt s IndexCount at = CallAt (takes_count (callable a before)) s.value at
  FunctionFaultAt s TypesDiffer at = BadTypeAt (is_among (map named_text s.variables.items)) (callable a before) s.ty s.value at
  FunctionFaultAt s Limit at = FunctionLimitAt s at
  FunctionFaultAt s _ at = ⊥

-- ---- updates

abbrev pub both_ends : Domain → Span
both_ends d = record { start = d.low.span.start; end = d.high.span.end }

-- the upper end of the range stands at this place, and is too large; or both ends do, and the lower is too small or above the upper
abbrev pub BadRangeAt : Domain → Span → Type 0
BadRangeAt d at =
    ((pos 8192 <ℤ (range_said (domain_text d)).high) × (at ≡ d.high.span))
    ⊎ (((range_said (domain_text d)).low <ℤ negsuc 8191) × (at ≡ both_ends d))
    ⊎ (((range_said (domain_text d)).high <ℤ (range_said (domain_text d)).low) × (at ≡ both_ends d))

-- one of the ranges is bad at this place
abbrev pub OneRangeAt : List Domain → Span → Type 0
OneRangeAt ds at = (k : ℕ) × (d : Domain) × (slice_get ds k ≡ Some d) × BadRangeAt d at

-- a fourth reduction variable stands at this place, or a bad range does, or the update's word does, and the domain has too many points
abbrev pub DomainLimitAt : List Domain → Span → Span → Type 0
DomainLimitAt ds word at =
    ((fourth : Domain) × (slice_get ds 3 ≡ Some fourth) × (at ≡ fourth.variable.span))
    ⊎ OneRangeAt ds at
    ⊎ ((2 ^ 24 < size (map range_said (map domain_text ds))) × (at ≡ word))

-- the first left index stands at this place, or the update's name where there is none
abbrev pub IsLeftPlace : UpdateStatement → Span → Type 0
IsLeftPlace s at = ((e : Expr) × (slice_get s.at.items 0 ≡ Some e) × (at ≡ span_of e)) ⊎ ((s.at.items ≡ []) × (at ≡ s.name.span))

-- ---- what an update of f can have at a place

-- the update names another function, or one of its reduction variables is a name before it, or an expression has an unknown name
abbrev pub UpdateNameAt : List (List ℕ) → Function → UpdateStatement → Span → Type 0
UpdateNameAt declared f s at =
    ((f.name ≢ named_text s.name) × (at ≡ s.name.span))
    ⊎ DoubledAt f.variables (map (λ d. d.variable) s.domains.items) at
    ⊎ InUpdateAt (UnknownAt (names_for f (update_text s)) declared) s at

-- a left index calls the function, or does not keep its variable's place
abbrev pub UpdatePlaceAt : Function → UpdateStatement → Span → Type 0
UpdatePlaceAt f s at =
    InOneAt (CallAt (λ name indices. not (same_name f.name name))) s.at.items at
    ⊎ MisplacedAt f.name f.variables (term_of s.value) s.at.items at

-- the domain passes a limit, or the function has four updates already
abbrev pub UpdateLimitAt : Function → UpdateStatement → Span → Type 0
UpdateLimitAt f s at = DomainLimitAt s.domains.items s.word at ⊎ ((4 ≤ length f.changes) × (at ≡ s.word))

-- `calls` tells what the update may call: there are too few or too many left indices, or a call has
abbrev pub UpdateCountAt : (List ℕ → Option (Ty × ℕ)) → Function → UpdateStatement → Span → Type 0
UpdateCountAt calls f s at = ((length s.at.items ≢ length f.variables) × IsLeftPlace s at) ⊎ InUpdateAt (CallAt (takes_count calls)) s at

-- `earlier` tells what could be called before f: a left index is no index over that, or the right side does not have f's type
abbrev pub UpdateTypeAt : (List ℕ → Option (Ty × ℕ)) → (List ℕ → Option (Ty × ℕ)) → Function → UpdateStatement → Span → Type 0
UpdateTypeAt earlier calls f s at =
    InOneAt (BadTypeAt (is_among (names_for f (update_text s))) earlier I32) s.at.items at
    ⊎ BadTypeAt (is_among (names_for f (update_text s))) calls f.ty s.value at

-- an update of f, the function after those before, whose right side may call the functions fs
module _ (a : Algorithm) (declared : List (List ℕ)) (before : List Function) (f : Function) (fs : List Function) where
  abbrev pub UpdateFaultAt : UpdateStatement → Code → Span → Type 0
  UpdateFaultAt s Name at = UpdateNameAt declared f s at
  UpdateFaultAt s LaterCall at = InUpdateAt (CalledAt (is_known (callable a fs))) s at
  UpdateFaultAt s IndexCount at = UpdateCountAt (callable a fs) f s at
  UpdateFaultAt s MovedVariable at = UpdatePlaceAt f s at
  UpdateFaultAt s NoDomain at = (s.domains.items ≡ []) × (at ≡ s.word)
  UpdateFaultAt s TypesDiffer at = UpdateTypeAt (callable a before) (callable a fs) f s at
  UpdateFaultAt s Limit at = UpdateLimitAt f s at
  UpdateFaultAt s _ at = ⊥

-- ---- statements and files

module _ (a : Algorithm) (declared : List (List ℕ)) (fs : List Function) where
  -- no function stands before the update, which names one
  abbrev pub FirstUpdateAt : UpdateStatement → Code → Span → Type 0
  FirstUpdateAt s code at = (fs ≡ []) × (code ≡ Name) × (at ≡ s.name.span)

  -- the update breaks a condition after the last of the functions
  abbrev pub LastUpdateAt : UpdateStatement → Code → Span → Type 0
  LastUpdateAt s code at = (before : List Function) × (f : Function) × (fs ≡ before ++ f ∷ []) × UpdateFaultAt a declared before f fs s code at

  abbrev pub UpdateStatementFaultAt : UpdateStatement → Code → Span → Type 0
  UpdateStatementFaultAt s code at = FirstUpdateAt s code at ⊎ LastUpdateAt s code at

  -- a statement after these functions
  abbrev pub StatementFaultAt : Statement → Code → Span → Type 0
  StatementFaultAt (statement.Function s) code at = FunctionFaultAt a declared fs s code at
  StatementFaultAt (statement.Update s) code at = UpdateStatementFaultAt s code at

-- the error is want of memory, or tells a code and a place that have this fault
abbrev pub Tells : (Code → Span → Type 0) → AlgoError → Type 0
Tells fault Memory = Unit {0}
Tells fault (Refused code at) = fault code at

-- the code is that of limits, and this place has the fault
abbrev pub OnlyLimit : (Span → Type 0) → Code → Span → Type 0
OnlyLimit fault Limit at = fault at
OnlyLimit fault _ at = ⊥

-- the error tells a fault of one of the statements, after the functions that those before it say
pub record TellsOfStatement (a : Algorithm) (declared : List (List ℕ)) (statements : List Statement) (e : AlgoError) : Type 0 where
  pub k : ℕ
  pub statement : Statement
  pub stands : slice_get statements k ≡ Some statement
  pub fault : Tells (StatementFaultAt a declared (functions_said (map statement_text (take k statements))) statement) e

-- the error tells a fault of the input, of one of the other statements over that input, or of the output
abbrev pub TellsOfFile : File → AlgoError → Type 0
TellsOfFile file e =
    Tells (InputFaultAt file.input) e
    ⊎ TellsOfStatement (input_said (input_text file.input)) (names_declared (file_text file)) file.statements.items e
    ⊎ Tells (OutputFaultAt (functions_said (map statement_text file.statements.items)) file.output) e
