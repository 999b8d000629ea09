-- What an update owes of a call of its own function that has each variable at its place: the point is the one where it stores.
use Rattle.std.proofs.Common.{◌≡◌, ℕ, zero, suc, ◌+◌, ◌≤◌, Bool, true, false, ◌&&◌, ◌||◌, List, [], ◌∷◌, length, Some, None, refl, sym, ap, ◌∙◌, arith}
use Rattle.std.specs.Prelude.{◌==◌, if◌then◌else◌, slice_get, is_some}
use Rattle.std.specs.List.{list_all}
use Rattle.numeric.specs.declared.ty.Ty.TheVariants.{I32}
use Rattle.tree.specs.Term.{Name}
use Rattle.tree.specs.Typing.{only_if, type_of}
use Rattle.lin.specs.Forms.{Form, is_within_limits}
use Rattle.lin.specs.declared.span.Span1.{Span1}
use Rattle.bounds.specs.Lists.{kept}
use Rattle.bounds.specs.Spans.{span_of}
use Rattle.bounds.specs.Interval.{span_named, coordinate_of, interval}
use Rattle.plan.specs.Plan.{Plan}
use Rattle.plan.specs.Certificate.Certificate.{Certificate}
use Rattle.meaning.specs.Algorithm.{Algorithm}
use Rattle.meaning.specs.Names.{same_name, is_among}
use Rattle.soundness.specs.Origins.{Outline}
use Rattle.soundness.specs.Obligations.{Known, Rules, anything, exactly}
use Rattle.soundness.proofs.Refines.{name_refl}
use Rattle.rules.specs.Bounding.Called.{called}
use Rattle.rules.specs.Bounding.Rules.{is_index_span, or_anything, is_bounded_in, rules_of}
use Rattle.rules.specs.Bounding.Scopes.{scope_of}
use Rattle.sched.specs.Loading.{Loads}
use Rattle.completeness.proofs.PlainTurns.{one_if, hits, itself}

-- ---- names at their places

named_at : (ys : List (List ℕ)) (k : ℕ) (x : List ℕ) → slice_get ys k ≡ Some x → 1 ≤ hits itself x ys
named_at [] k x e = absurd (cc e)
named_at (y ∷ ys) zero x e =
    let is : y ≡ x = cc e in
    let counts : one_if (same_name y x) ≡ 1 = ap one_if (ap (same_name y) (sym is) ∙ name_refl y) in
    omega (arith, counts)
named_at (y ∷ ys) (suc k) x e = (let rest = named_at ys k x e in omega (arith, rest))

-- the span of a name that stands once is the one at its place
pub span_at_place : (ys : List (List ℕ)) (ss : List Span1) (k : ℕ) (x : List ℕ) (s : Span1) → hits itself x ys ≤ 1 → slice_get ys k ≡ Some x → slice_get ss k ≡ Some s → span_named ys ss x ≡ Some s
span_at_place [] ss k x s once e q = absurd (cc e)
span_at_place (y ∷ ys) [] k x s once e q = absurd (cc q)
span_at_place (y ∷ ys) (r ∷ ss) zero x s once e q =
    let is : y ≡ x = cc e in
    let same : same_name y x ≡ true = ap (same_name y) (sym is) ∙ name_refl y in
    ap (λ (b : Bool). if b then Some r else span_named ys ss x) same ∙ q
span_at_place (y ∷ ys) (r ∷ ss) (suc k) x s once e q = of (same_name y x) once (λ few. span_at_place ys ss k x s few e q)
  where
    of : (b : Bool) → one_if b + hits itself x ys ≤ 1 → (hits itself x ys ≤ 1 → span_named ys ss x ≡ Some s) → (if b then Some r else span_named ys ss x) ≡ Some s
    of true few rest = (let some = named_at ys k x e in absurd (omega (arith, few, some)))
    of false few rest = rest (omega (arith, few))

pub among_at : (ys : List (List ℕ)) (k : ℕ) (x : List ℕ) → slice_get ys k ≡ Some x → is_among ys x ≡ true
among_at [] k x e = absurd (cc e)
among_at (y ∷ ys) zero x e =
    let is : y ≡ x = cc e in
    ap (λ (b : Bool). b || is_among ys x) (ap (same_name y) (sym is) ∙ name_refl y)
among_at (y ∷ ys) (suc k) x e = ap (λ (b : Bool). same_name y x || b) (among_at ys k x e) ∙ either (same_name y x)
  where
    either : (b : Bool) → (b || true) ≡ true
    either true = refl
    either false = refl

module _ (a : Algorithm) (p : Plan) (c : Certificate) (n : ℕ) (O : Outline) (known : Known) (names : List (List ℕ)) (vars : List Span1)
    (inside : list_all (is_index_span (scope_of known.binders)) vars ≡ true) (long : (length names == length vars) ≡ true) (ms : Loads) where
  abbrev R : Rules
  R = rules_of a p c n

  -- the name is a variable's whose span is the form
  pub record IsPoint (x : List ℕ) (f : Form) : Type 0 where
    pub among : is_among names x ≡ true
    pub spans : span_named names vars x ≡ Some (exactly f)
    pub limited : is_within_limits f ≡ true

  pub variable_bounds : (x : List ℕ) (f : Form) → IsPoint x f → R.interval known.binders names vars (Name x) ≡ exactly f
  variable_bounds x f is =
      let among = is.among in
      let limited = is.limited in
      let typed : is_some (type_of (is_among names) (called a p c) (Name x)) ≡ true = ap (λ (b : Bool). is_some (only_if b (Some I32))) among in
      let bounded : is_bounded_in a p c (scope_of known.binders) names vars (Name x) ≡ true = λ i. inside i && (long i && typed i) in
      let told : interval (scope_of known.binders) (called a p c) names vars (Name x) ≡ Some (exactly f) = ap coordinate_of is.spans
      ∙ ap (λ (b : Bool). span_of (kept ((if b then Some f else None) ∷ [])) (kept ((if b then Some f else None) ∷ []))) limited in
      ap (λ (b : Bool). if b then or_anything (interval (scope_of known.binders) (called a p c) names vars (Name x)) else anything) bounded ∙ ap or_anything told
