-- From what the tests answer to the places where conditions are broken.
use Rattle.std.proofs.Common.{◌≡◌, ℕ, zero, suc, ◌<◌, ◌≤◌, ◌+◌, ◌-◌, inl, inr, List, [], ◌∷◌, ◌++◌, length, map, take, get_or, Option, Some, None, MatchOption, Bool, true, false, refl, sym, ap, subst, ◌∙◌, arith}
use Rattle.std.specs.Prelude.{if◌then◌else◌, slice_get}
use Rattle.std.specs.Option.{option_map}
use Rattle.std.proofs.lemmas.Bool.{cases_lt}
use Rattle.std.proofs.lemmas.Option.{slice_get-get_or, slice_get-map}
use Rattle.numeric.specs.declared.ty.Ty.{Ty}
use Rattle.tree.specs.declared.token.span.Span.{Span}
use Rattle.tree.specs.declared.expr.Expr.{Expr}
use Rattle.meaning.specs.Image.View.{IsSampleType}
use Rattle.meaning.specs.Algorithm.{Algorithm, Function}
use Rattle.meaning.specs.Conditions.{AreDistinct}
use Rattle.meaning.proofs.Calls.{from_take}
use Rattle.algo.specs.Scoping.Doubles.{IsFirstDouble}
use Rattle.algo.proofs.Doubles.{among_stands}
use Rattle.expr.specs.declared.statements.statement.Named.{Named}
use Rattle.expr.specs.declared.statements.statement.UpdateStatement.{UpdateStatement}
use Rattle.expr.specs.declared.statements.statement.Domain.{Domain}
use Rattle.expr.specs.Statements.View.{domain_text, named_text}
use Rattle.algo.specs.declared.error.Code.{Code}
use Rattle.algo.specs.declared.error.Code.TheVariants.{Limit}
use Rattle.algo.specs.declared.error.AlgoError.{AlgoError}
use Rattle.algo.specs.declared.error.AlgoError.TheVariants.{Memory, Refused}
use Rattle.algo.specs.Saying.{domain_names}
use Rattle.algo.specs.Faults.{DomainLimitAt, DoubledAt, InOneAt, UpdateFaultAt, Tells, OnlyLimit}

-- the item that a walk has reached
pub item_at : {A : Type 0} (xs : List A) (k : ℕ) (x : A) → x ≡ get_or xs k x → k < length xs → slice_get xs k ≡ Some x
item_at xs k x is lt = slice_get-get_or xs k x lt ∙ ap Some (sym is)

pub in_one : (fault : Expr → Span → Type 0) (es : List Expr) (k : ℕ) (e : Expr) (at : Span) → e ≡ get_or es k e → k < length es → fault e at → InOneAt fault es at
in_one fault es k e at is lt h = record { k = k; expr = e; stands = item_at es k e is lt; broken = h }

-- an error that names one fault names another that follows
pub tells-weaker : (P Q : Code → Span → Type 0) (e : AlgoError) → ((code : Code) (at : Span) → P code at → Q code at) → Tells P e → Tells Q e
tells-weaker P Q Memory w h = tt
tells-weaker P Q (Refused code at) w h = w code at h

pub only_limit : (P Q : Span → Type 0) → ((at : Span) → P at → Q at) → (code : Code) (at : Span) → OnlyLimit P code at → OnlyLimit Q code at
only_limit P Q w Limit at h = w at h
only_limit P Q w _ at h = absurd h

pub some_is : {A : Type 0} {x y : A} → Some x ≡ Some y → x ≡ y
some_is e = cc

-- the function of a type and a number of variables that were found, where the type is none of images
pub sampleless : (o : Option Function) (ty : Ty) (count : ℕ) → ◌≡◌ {A = Option (Ty × ℕ)} (Some (ty, count)) (option_map (λ f. (f.ty, length f.variables)) o) → ¬ IsSampleType ty → (f : Function) × (o ≡ Some f) × ¬ IsSampleType f.ty
sampleless None ty count e h = cc
sampleless (Some f) ty count e h = let same : ty ≡ f.ty = ap (λ (p : Ty × ℕ). p.0) (some_is e) in (f, refl, λ s. h (subst IsSampleType (sym same) s))

-- the earlier of two places
pub one_of : (P : Span → Type 0) (x y at : Span) (b : Bool) → at ≡ (if b then x else y) → P x → P y → P at
one_of P x y at true e p q = subst P (sym e) p
one_of P x y at false e p q = subst P (sym e) q

-- a fault of the domain is one of the update's limits
pub limit_at : (a : Algorithm) (declared : List (List ℕ)) (before : List Function) (f : Function) (fs : List Function) (s : UpdateStatement) (code : Code) (at : Span)
    → OnlyLimit (DomainLimitAt s.domains.items s.word) code at → UpdateFaultAt a declared before f fs s code at
limit_at a declared before f fs s Limit at h = inl h
limit_at a declared before f fs s _ at h = absurd h

-- ---- names that stand twice

get_left : {A : Type 0} (xs ys : List A) (i : ℕ) → i < length xs → slice_get (xs ++ ys) i ≡ slice_get xs i
get_left [] ys i h = absurd (omega arith)
get_left (x ∷ xs) ys zero h = refl
get_left (x ∷ xs) ys (suc i) h = get_left xs ys i (omega arith)

get_right : {A : Type 0} (xs ys : List A) (k i : ℕ) → i ≡ length xs + k → slice_get (xs ++ ys) i ≡ slice_get ys k
get_right [] ys k i e = let same : i ≡ k = omega arith in ap (slice_get ys) same
get_right (x ∷ xs) ys k zero e = absurd (omega arith)
get_right (x ∷ xs) ys k (suc i) e = get_right xs ys k i (omega arith)

-- distinct names have no double among themselves
pub past_distinct : (known rest : List (List ℕ)) (i : ℕ) → AreDistinct known → IsFirstDouble (known ++ rest) i → length known ≤ i
past_distinct known rest i distinct h =
    let s = among_stands (take i (known ++ rest)) h.name h.before in
    let t = from_take (known ++ rest) i s.0 h.name s.1 in
    elim (cases_lt i (length known)) [
      | inl lt ↦
          let here : slice_get known i ≡ Some h.name = sym (get_left known rest i lt) ∙ h.stands in
          let there : slice_get known s.0 ≡ Some h.name = sym (get_left known rest s.0 (omega (arith, t.0))) ∙ t.1 in
          let same = distinct i s.0 h.name here there in
          absurd (omega (arith, t.0, same))
      | inr ge ↦ ge
    ]

doubled_from : (known : List (List ℕ)) (names : List Named) (k : ℕ) (x : List ℕ) (otherwise at : Span) → IsFirstDouble (known ++ map named_text names) (length known + k) → (o : Option Named) → slice_get names k ≡ o
    → option_map named_text o ≡ Some x → MatchOption o (at ≡ otherwise) (λ name. at ≡ name.span) → DoubledAt known names at
doubled_from known names k x otherwise at h None stands some place = cc
doubled_from known names k x otherwise at h (Some name) stands some place = record { k = k; name = name; stands = stands; doubled = h; place = place }

pub doubled_at : (known : List (List ℕ)) (names : List Named) (i k : ℕ) (otherwise at : Span) → i ≡ length known + k → IsFirstDouble (known ++ map named_text names) i
    → MatchOption (slice_get names k) (at ≡ otherwise) (λ name. at ≡ name.span) → DoubledAt known names at
doubled_at known names i k otherwise at e h place =
    let text : option_map named_text (slice_get names k) ≡ Some h.name = sym (slice_get-map named_text names k) ∙ sym (get_right known (map named_text names) k i e) ∙ h.stands in
    doubled_from known names k h.name otherwise at (subst (IsFirstDouble (known ++ map named_text names)) e h) (slice_get names k) refl text place

pub domain_variables : (ds : List Domain) → domain_names (map domain_text ds) ≡ map named_text (map (λ d. d.variable) ds)
domain_variables [] = refl
domain_variables (d ∷ ds) = ap (λ names. named_text d.variable ∷ names) (domain_variables ds)

choice_variable : (o : Option Domain) (otherwise at : Span) → MatchOption o (at ≡ otherwise) (λ d. at ≡ d.variable.span) → MatchOption (option_map (λ d. d.variable) o) (at ≡ otherwise) (λ name. at ≡ name.span)
choice_variable None otherwise at h = h
choice_variable (Some d) otherwise at h = h

-- a double behind distinct names is a reduction variable
pub reduction_doubled : (known : List (List ℕ)) (ds : List Domain) (i k : ℕ) (otherwise at : Span) → AreDistinct known → IsFirstDouble (known ++ domain_names (map domain_text ds)) i → k ≡ i - length known
    → MatchOption (slice_get ds k) (at ≡ otherwise) (λ d. at ≡ d.variable.span) → DoubledAt known (map (λ d. d.variable) ds) at
reduction_doubled known ds i k otherwise at distinct h e place =
    let past : length known ≤ i = past_distinct known (domain_names (map domain_text ds)) i distinct h in
    doubled_at known (map (λ d. d.variable) ds) i k otherwise at (omega arith) (subst (λ names. IsFirstDouble (known ++ names) i) (domain_variables ds) h)
    (subst (λ o. MatchOption o (at ≡ otherwise) (λ name. at ≡ name.span)) (sym (slice_get-map (λ d. d.variable) ds k)) (choice_variable (slice_get ds k) otherwise at place))
