-- A fault that is told at its place breaks the condition of its code.
use Rattle.std.proofs.Common.{◌≡◌, ℕ, zero, suc, ◌≤◌, ◌+◌, inl, inr, List, [], ◌∷◌, ◌++◌, length, map, take, Bool, Option, Some, None, IsTrue, All, sym, ap, subst, ◌∙◌, arith}
use Rattle.std.specs.Prelude.{Contains, IsSome, MatchOption, not, slice_get}
use Rattle.std.specs.Option.{option_map}
use Rattle.std.proofs.lemmas.Bool.{false≢true}
use Rattle.std.proofs.lemmas.Int.{ints}
use Rattle.std.proofs.lemmas.List.{get_or-map, length-map, take-map}
use Rattle.std.proofs.lemmas.Option.{get_or_from_slice_get, slice_get-map, slice_get_within}
use Rattle.numeric.specs.declared.ty.Ty.{Ty}
use Rattle.numeric.specs.declared.ty.Ty.TheVariants.{I32}
use Rattle.tree.specs.declared.token.span.Span.{Span}
use Rattle.meaning.specs.Image.View.{AreExtents, IsExtent}
use Rattle.tree.specs.declared.expr.Expr.{Expr}
use Rattle.tree.specs.Term.{Term, Terms, term_of}
use Rattle.tree.specs.Typing.{type_of}
use Rattle.tree.specs.Uses.{variables_of, EachCall}
use Rattle.meaning.specs.Algorithm.{Algorithm, Function}
use Rattle.meaning.specs.Names.{same_name, is_among}
use Rattle.meaning.specs.Conditions.{callable, AreDistinct, IsRange, function_named}
use Rattle.meaning.proofs.Calls.{from_take}
use Rattle.algo.specs.Scoping.Expressions.{is_known, takes_count}
use Rattle.algo.specs.Scoping.Standing.{Written, accepts, placed_calls, placed_variables, written, RefusedVariableAt, RefusedCallAt}
use Rattle.algo.proofs.Doubles.{among_stands}
use Rattle.algo.proofs.Listed.{names_of, calls_at, all_listed}
use Rattle.expr.specs.declared.statements.statement.Named.{Named}
use Rattle.expr.specs.declared.statements.statement.Extent.{Extent}
use Rattle.expr.specs.declared.statements.statement.Domain.{Domain}
use Rattle.expr.specs.declared.statements.statement.InputStatement.{InputStatement}
use Rattle.expr.specs.declared.statements.statement.FunctionStatement.{FunctionStatement}
use Rattle.expr.specs.declared.statements.statement.UpdateStatement.{UpdateStatement}
use Rattle.expr.specs.declared.statements.statement.Statement.{Statement}
use Rattle.expr.specs.declared.statements.statement.Statement.TheVariants as statement
use Rattle.expr.specs.declared.statements.statement.OutputStatement.{OutputStatement}
use Rattle.expr.specs.declared.statements.statement.File.{File}
use Rattle.expr.specs.Statements.View.{named_text, extent_text, domain_text, input_text, function_text, update_text, statement_text, output_text, file_text}
use Rattle.algo.specs.declared.error.Code.{Code}
use Rattle.algo.specs.declared.error.Code.TheVariants.{Name, LaterCall, IndexCount, MovedVariable, NoDomain, TypesDiffer, Limit, SampleType}
use Rattle.algo.specs.declared.error.AlgoError.{AlgoError}
use Rattle.algo.specs.declared.error.AlgoError.TheVariants.{Memory, Refused}
use Rattle.algo.specs.Saying.{range_said, functions_said, input_said, names_declared}
use Rattle.algo.specs.Keeping.{Breaks, CallsCounted, CallsKnown, DomainLimits, UsesNames, KeepsInput, KeepsOutput, KeepsFunction, KeepsUpdateOver, KeepsStatement, StatementBreaks, FileBreaks, names_for}
use Rattle.algo.specs.Faults.{FitsSize, BadSizeAt, DoubledAt, CallAt, CalledAt, UnknownAt, BadTypeAt, InOneAt, InUpdateAt, InputFaultAt, OutputFaultAt, OutputLacks, FunctionFaultAt, BadRangeAt, DomainLimitAt, UpdateFaultAt, StatementFaultAt, Tells, TellsOfStatement, TellsOfFile}
use Rattle.algo.proofs.Placed.{domain_variables, some_is}

-- ---- lists

all_get : {A B : Type 0} (P : B → Type 0) (f : A → B) (xs : List A) (k : ℕ) (x : A) → slice_get xs k ≡ Some x → All P (map f xs) → P (f x)
all_get P f xs k x stands all =
    let lt = slice_get_within xs k x stands in
    let count = length-map xs f in
    subst P (get_or-map f xs k x (f x) lt ∙ ap f (get_or_from_slice_get xs k x x stands)) (all k (f x) (omega (arith, lt, count)))

doubled_breaks : (known : List (List ℕ)) (names : List Named) (at : Span) → DoubledAt known names at → ¬ AreDistinct (known ++ map named_text names)
doubled_breaks known names at h distinct =
    let all = known ++ map named_text names in
    let d = h.doubled in
    let i = length known + h.k in
    let s = among_stands (take i all) d.name d.before in
    let t = from_take all i s.0 d.name s.1 in
    let same = distinct i s.0 d.name d.stands t.1 in
    omega (arith, t.0, same)

extent_breaks : (es : List Extent) (k : ℕ) (e : Extent) → slice_get es k ≡ Some e → ¬ FitsSize k e.number → ¬ AreExtents (map extent_text es)
extent_breaks [] k e stands bad h = h
extent_breaks (w ∷ []) zero e stands bad h = bad (subst (λ x. IsExtent x.number) (some_is stands) h)
extent_breaks (w ∷ []) (suc k) e stands bad h = cc
extent_breaks (w ∷ v ∷ []) zero e stands bad h = bad (subst (λ x. IsExtent x.number) (some_is stands) h.0)
extent_breaks (w ∷ v ∷ []) (suc zero) e stands bad h = bad (subst (λ x. IsExtent x.number) (some_is stands) h.1)
extent_breaks (w ∷ v ∷ []) (suc (suc k)) e stands bad h = cc
extent_breaks (w ∷ v ∷ c ∷ []) zero e stands bad h = bad (subst (λ x. IsExtent x.number) (some_is stands) h.0)
extent_breaks (w ∷ v ∷ c ∷ []) (suc zero) e stands bad h = bad (subst (λ x. IsExtent x.number) (some_is stands) h.1)
extent_breaks (w ∷ v ∷ c ∷ []) (suc (suc zero)) e stands bad h = bad (subst (λ x. x.number ≡ 3) (some_is stands) h.2)
extent_breaks (w ∷ v ∷ c ∷ []) (suc (suc (suc k))) e stands bad h = cc
extent_breaks (w ∷ v ∷ c ∷ d ∷ es) k e stands bad h = h

size_breaks : (name : Named) (es : List Extent) (at : Span) → BadSizeAt name es at → ¬ AreExtents (map extent_text es)
size_breaks name es at (inl h) k = extent_breaks es h.k h.extent h.stands h.bad k
size_breaks name es at (inr h) k = subst (λ (l : List Extent). AreExtents (map extent_text l)) h.0 k

-- ---- expressions

listed : {X : Type 0} (P : X → Type 0) (places : List (X × Span)) (p : X × Span) → Contains places p → All P (map (λ q. q.0) places) → P p.0
listed {X} P places p h all =
    let count = length-map places (λ (q : X × Span). q.0) in
    subst P (get_or-map (λ (q : X × Span). q.0) places h.0 p p.0 h.1 ∙ ap (λ (q : X × Span). q.0) h.2) (all h.0 p.0 (omega (arith, h.1, count)))

variable_breaks : (accepted : List ℕ → Bool) (e : Expr) (at : Span) → RefusedVariableAt accepted e at → ¬ All (λ name. IsTrue (accepted name)) (variables_of (term_of e))
variable_breaks accepted e at h all =
    let P : List ℕ → Type 0 = λ name. IsTrue (accepted name) in
    false≢true (sym h.refused ∙ listed P (placed_variables e) (h.name, at) h.stands (subst (All P) (sym (names_of e)) all))

call_breaks : (accepted : List ℕ → Terms → Bool) (e : Expr) (p : _) → RefusedCallAt accepted e p → ¬ EachCall (λ name at. IsTrue (accepted name at)) (term_of e)
call_breaks accepted e p h each =
    let P : Written → Type 0 = λ c. IsTrue (accepts accepted c) in
    let all = subst (All P) (sym (calls_at e)) (all_listed (λ name at. IsTrue (accepted name at)) (term_of e) each) in
    false≢true (sym h.refused ∙ listed P (placed_calls e) (written h.name h.at, p.call) h.stands all)

unknown_breaks : (variables declared : List (List ℕ)) (e : Expr) (at : Span) → UnknownAt variables declared e at → ¬ UsesNames variables declared (term_of e)
unknown_breaks variables declared e at (inl h) k = variable_breaks _ e at h k.named
unknown_breaks variables declared e at (inr h) k = call_breaks _ e h.call h.refused k.called

type_breaks : (variables : List ℕ → Bool) (calls : List ℕ → Option (Ty × ℕ)) (t : Ty) (e : Expr) (at : Span) → BadTypeAt variables calls t e at → ¬ (type_of variables calls (term_of e) ≡ Some t)
type_breaks variables calls t e at (inl h) k = let no : ◌≡◌ {A = Option Ty} None (Some t) = sym h.untyped ∙ k in cc
type_breaks variables calls t e at (inr h) k = h.other (some_is (sym h.typed ∙ k))

one_breaks : (fault : Expr → Span → Type 0) (P : Term → Type 0) → ((e : Expr) (at : Span) → fault e at → ¬ P (term_of e)) → (es : List Expr) (at : Span) → InOneAt fault es at → ¬ All P (map term_of es)
one_breaks fault P breaks es at h all = breaks h.expr at h.broken (all_get P term_of es h.k h.expr h.stands all)

-- ---- the input and the output

input_breaks : (s : InputStatement) (code : Code) (at : Span) → InputFaultAt s code at → ¬ KeepsInput code (input_text s)
input_breaks s Limit at h k = size_breaks s.name s.extents.items at h k
input_breaks s SampleType at h k = h.0 k
input_breaks s _ at h k = h

lacks_breaks : (fs : List Function) (s : OutputStatement) (P : Function → Type 0) → OutputLacks fs s P → ¬ MatchOption (function_named fs (named_text s.name)) (Unit {0}) P
lacks_breaks fs s P h k = h.2 (subst (λ (o : Option Function). MatchOption o (Unit {0}) P) h.1 k)

output_breaks : (fs : List Function) (s : OutputStatement) (code : Code) (at : Span) → OutputFaultAt fs s code at → ¬ KeepsOutput fs code (output_text s)
output_breaks fs s Name at h k = false≢true (subst (λ (o : Option Function). IsSome o) h.0 k)
output_breaks fs s IndexCount at h k =
    let count = length-map s.extents.items extent_text in
    lacks_breaks fs s (λ f. length s.extents.items ≡ length f.variables) h.0
    (subst (λ (n : ℕ). MatchOption (function_named fs (named_text s.name)) (Unit {0}) (λ f. n ≡ length f.variables)) count k)
output_breaks fs s Limit at h k = size_breaks s.name s.extents.items at h k
output_breaks fs s SampleType at h k = lacks_breaks fs s _ h.0 k
output_breaks fs s _ at h k = h

-- ---- functions and updates

nothing_less : (ns : List Named) → ns ≡ [] → 1 ≤ length (map named_text ns) → ⊥
nothing_less ns none some = let none_left : length (map named_text ns) ≡ 0 = ap (λ (l : List Named). length (map named_text l)) none in omega (arith, none_left, some)

function_breaks : (a : Algorithm) (declared : List (List ℕ)) (before : List Function) (s : FunctionStatement) (code : Code) (at : Span) → FunctionFaultAt a declared before s code at → ¬ KeepsFunction a declared before code (function_text s)
function_breaks a declared before s Name at (inl h) k = false≢true (sym k.new ∙ h.0)
function_breaks a declared before s Name at (inr (inl h)) k = doubled_breaks [] s.variables.items at h k.distinct
function_breaks a declared before s Name at (inr (inr h)) k = unknown_breaks (map named_text s.variables.items) declared s.value at h k.value
function_breaks a declared before s LaterCall at h k = call_breaks (is_known (callable a before)) s.value h.call h.refused k
function_breaks a declared before s IndexCount at h k = call_breaks (takes_count (callable a before)) s.value h.call h.refused k
function_breaks a declared before s TypesDiffer at h k = type_breaks (is_among (map named_text s.variables.items)) (callable a before) s.ty s.value at h k
function_breaks a declared before s Limit at (inl h) k = let room = k.room in omega (arith, room, h.0)
function_breaks a declared before s Limit at (inr (inl h)) k = nothing_less s.variables.items h.0 k.some
function_breaks a declared before s Limit at (inr (inr h)) k =
    let few = k.few in
    let count = length-map s.variables.items named_text in
    let there = slice_get_within s.variables.items 3 h.0 h.1 in
    omega (arith, few, count, there)
function_breaks a declared before s _ at h k = h

in_update_breaks : (fault : Expr → Span → Type 0) (P : Term → Type 0) → ((e : Expr) (at : Span) → fault e at → ¬ P (term_of e)) → (s : UpdateStatement) (at : Span) → InUpdateAt fault s at
    → All P (map term_of s.at.items) → P (term_of s.value) → ⊥
in_update_breaks fault P breaks s at (inl h) left value = one_breaks fault P breaks s.at.items at h left
in_update_breaks fault P breaks s at (inr h) left value = breaks s.value at h value

range_breaks : (d : Domain) (at : Span) → BadRangeAt d at → ¬ IsRange (range_said (domain_text d))
range_breaks d at (inl h) k = let to = k.to in omega (arith, ints, to, h.0)
range_breaks d at (inr (inl h)) k = let from = k.from in omega (arith, ints, from, h.0)
range_breaks d at (inr (inr h)) k = let rises = k.rises in omega (arith, ints, rises, h.0)

domain_breaks : (ds : List Domain) (word at : Span) → DomainLimitAt ds word at → ¬ DomainLimits (map domain_text ds)
domain_breaks ds word at (inl h) k =
    let few = k.few in
    let count = length-map ds domain_text in
    let there = slice_get_within ds 3 h.0 h.1 in
    omega (arith, few, count, there)
domain_breaks ds word at (inr (inl h)) k =
    let stands : slice_get (map domain_text ds) h.0 ≡ Some (domain_text h.1) = slice_get-map domain_text ds h.0 ∙ ap (option_map domain_text) h.2 in
    range_breaks h.1 at h.3 (all_get IsRange range_said (map domain_text ds) h.0 (domain_text h.1) stands k.ranges)
domain_breaks ds word at (inr (inr h)) k = let points = k.points in omega (arith, points, h.0)

update_breaks : (a : Algorithm) (declared : List (List ℕ)) (before : List Function) (f : Function) (fs : List Function) (s : UpdateStatement) (code : Code) (at : Span)
    → UpdateFaultAt a declared before f fs s code at → ¬ KeepsUpdateOver a declared before f fs code (update_text s)
update_breaks a declared before f fs s Name at (inl h) k = h.0 k.named
update_breaks a declared before f fs s Name at (inr (inl h)) k =
    doubled_breaks f.variables (map (λ d. d.variable) s.domains.items) at h (subst (λ (names : List (List ℕ)). AreDistinct (f.variables ++ names)) (domain_variables s.domains.items) k.distinct)
update_breaks a declared before f fs s Name at (inr (inr h)) k = in_update_breaks (UnknownAt (names_for f (update_text s)) declared) (UsesNames (names_for f (update_text s)) declared) (unknown_breaks (names_for f (update_text s)) declared) s at h k.left k.value
update_breaks a declared before f fs s LaterCall at h k =
    in_update_breaks (CalledAt (is_known (callable a fs))) (CallsKnown (callable a fs)) (λ e at x. call_breaks (is_known (callable a fs)) e x.call x.refused) s at h k.left k.value
update_breaks a declared before f fs s IndexCount at (inl h) k = h.0 (sym (length-map s.at.items term_of) ∙ k.places)
update_breaks a declared before f fs s IndexCount at (inr h) k =
    in_update_breaks (CallAt (takes_count (callable a fs))) (CallsCounted (callable a fs)) (λ e at x. call_breaks (takes_count (callable a fs)) e x.call x.refused) s at h k.left k.value
update_breaks a declared before f fs s MovedVariable at (inl h) k =
    let other : List ℕ → Terms → Bool = λ name indices. not (same_name f.name name) in
    one_breaks (CallAt other) (EachCall (λ name at. IsTrue (other name at))) (λ e at x. call_breaks other e x.call x.refused) s.at.items at h k.others
update_breaks a declared before f fs s MovedVariable at (inr h) k =
    h.misplaced (k.kept h.k h.variable (term_of h.index) h.of (slice_get-map term_of s.at.items h.k ∙ ap (option_map term_of) h.stands))
update_breaks a declared before f fs s NoDomain at h k =
    let none : length (map domain_text s.domains.items) ≡ 0 = ap (λ (l : List Domain). length (map domain_text l)) h.0 in
    omega (arith, none, k)
update_breaks a declared before f fs s TypesDiffer at (inl h) k =
    let names = is_among (names_for f (update_text s)) in
    one_breaks (BadTypeAt names (callable a before) I32) (λ e. type_of names (callable a before) e ≡ Some I32) (type_breaks names (callable a before) I32) s.at.items at h k.left
update_breaks a declared before f fs s TypesDiffer at (inr h) k = type_breaks (is_among (names_for f (update_text s))) (callable a fs) f.ty s.value at h k.value
update_breaks a declared before f fs s Limit at (inl h) k = domain_breaks s.domains.items s.word at h k.domain
update_breaks a declared before f fs s Limit at (inr h) k = let room = k.room in omega (arith, room, h.0)
update_breaks a declared before f fs s _ at h k = h

-- ---- statements and files

statement_breaks : (a : Algorithm) (declared : List (List ℕ)) (fs : List Function) (s : Statement) (code : Code) (at : Span) → StatementFaultAt a declared fs s code at → ¬ KeepsStatement a declared fs code (statement_text s)
statement_breaks a declared fs (statement.Function s) code at h k = function_breaks a declared fs s code at h k
statement_breaks a declared fs (statement.Update s) code at (inl h) k =
    let none : length fs ≡ 0 = ap length h.0 in
    let some = k.0 h.1 in
    omega (arith, none, some)
statement_breaks a declared fs (statement.Update s) code at (inr h) k =
    update_breaks a declared h.0 h.1 fs s code at h.3 (subst (λ (gs : List Function). KeepsUpdateOver a declared h.0 h.1 gs code (update_text s)) (sym h.2) (k.1 h.0 h.1 h.2))

told_breaks : (fault : Code → Span → Type 0) (keeps : Code → Type 0) → ((code : Code) (at : Span) → fault code at → ¬ keeps code) → (e : AlgoError) → Tells fault e → Breaks keeps e
told_breaks fault keeps breaks Memory h = tt
told_breaks fault keeps breaks (Refused code at) h = breaks code at h

one_statement_breaks : (a : Algorithm) (declared : List (List ℕ)) (statements : List Statement) (e : AlgoError) → TellsOfStatement a declared statements e → StatementBreaks a declared (map statement_text statements) e
one_statement_breaks a declared statements e h =
    let before = functions_said (map statement_text (take h.k statements)) in
    let broken = told_breaks (StatementFaultAt a declared before h.statement) (λ code. KeepsStatement a declared before code (statement_text h.statement)) (statement_breaks a declared before h.statement) e h.fault in
    record {
      place = h.k;
      statement = statement_text h.statement;
      stands = slice_get-map statement_text statements h.k ∙ ap (option_map statement_text) h.stands;
      broken = subst (λ (fs : List Function). Breaks (λ code. KeepsStatement a declared fs code (statement_text h.statement)) e) (ap functions_said (sym (take-map statement_text h.k statements))) broken;
    }

pub file_breaks : (file : File) (e : AlgoError) → TellsOfFile file e → FileBreaks (file_text file) e
file_breaks file e (inl h) = inl (told_breaks (InputFaultAt file.input) (λ code. KeepsInput code (input_text file.input)) (input_breaks file.input) e h)
file_breaks file e (inr (inl h)) = inr (inl (one_statement_breaks (input_said (input_text file.input)) (names_declared (file_text file)) file.statements.items e h))
file_breaks file e (inr (inr h)) =
    let fs = functions_said (map statement_text file.statements.items) in
    inr (inr (told_breaks (OutputFaultAt fs file.output) (λ code. KeepsOutput fs code (output_text file.output)) (output_breaks fs file.output) e h))
