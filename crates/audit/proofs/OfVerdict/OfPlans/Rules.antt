-- Rules of deciding that fit the histogram: ends that are constants, and the places of samples.
use Rattle.std.proofs.Common.{◌≡◌, ℕ, zero, suc, ◌+◌, Bool, true, false, List, [], ◌∷◌, Option, Some, None, refl, sym, subst, arith}
use Rattle.std.specs.Prelude.{ℤ, pos, negsuc, ◌≤ℤ◌, ◌+ℤ◌, ◌&&◌, IsTrue, codes, if◌then◌else◌, int_le, nat_lt}
use Rattle.std.proofs.lemmas.Bool.Decides.{nat_tests}
use Rattle.std.proofs.lemmas.Int.{ints}
use Rattle.meaning.specs.Image.Raster.{is_within, sample}
use Rattle.numeric.specs.declared.ty.Ty.{Ty}
use Rattle.numeric.specs.declared.ty.Ty.TheVariants.{U8, U16, U32, I8, I16, I32}
use Rattle.numeric.specs.Wrap.{wrap}
use Rattle.tree.specs.Term.{Term, Number, Name, Call, Minus, Binary, Clamp, Cast, Choice, Terms}
use Rattle.tree.specs.Meaning.{value_of, numbers_of}
use Rattle.meaning.specs.Algorithm.{Range, Function}
use Rattle.meaning.specs.Names.{same_name, bound}
use Rattle.meaning.specs.Points.{AreRanges, IsIn}
use Rattle.meaning.specs.Reduction.{size, rank}
use Rattle.lin.specs.Forms.{sum_of}
use Rattle.lin.specs.declared.form.Multiple.{Multiple}
use Rattle.lin.specs.declared.span.Span1.{Span1}
use Rattle.plan.specs.Plan.{Statement}
use Rattle.plan.specs.Symbols.{Symbols, points}
use Rattle.plan.specs.Semantics.Worked.{constants}
use Rattle.soundness.specs.Origins.{Given, Reader, answer}
use Rattle.soundness.specs.Given.{update_in, steps_in, all_steps_in, step_in, is_in, is_in_domain}
use Rattle.soundness.specs.Obligations.{Lies, LieIn, anything, Rules, Suited}
use Rattle.soundness.specs.Worked.{hist_algorithm}
use Rattle.soundness.proofs.Forms.{point_lies}
use Rattle.soundness.proofs.Refines.{name_true}
use Rattle.soundness.proofs.Written.{in_filter}
use Rattle.soundness.specs.Nests.Laws.{Counts, ranges_in, domains_of}
use Rattle.audit.specs.Verdict.Plans.Counts.{ArePlaces, over_rows}
use Rattle.audit.proofs.OfVerdict.OfPlans.Parts.{given_at, region, sample_from, stays, ranges_of, counting}

-- ---- the rules

-- a constant at most another
abbrev most_of : List Multiple → List Multiple → Bool → Bool
most_of [] [] v = v
most_of [] (t ∷ ts) v = false
most_of (t ∷ ts) us v = false

-- the span of the variable of this name
abbrev named_span : List (List ℕ) → List Span1 → List ℕ → Span1
named_span [] vars name = anything
named_span (n ∷ names) [] name = anything
named_span (n ∷ names) (x ∷ vars) name = elim (same_name n name) [ true ↦ x | false ↦ named_span names vars name ]

-- a sample of the input is a place
abbrev called_span : Span1 → Term → Span1
called_span places (Number t n) = anything
called_span places (Name name) = anything
called_span places (Call name at) = if same_name name (codes "in") then places else anything
called_span places (Minus a) = anything
called_span places (Binary op a b) = anything
called_span places (Clamp a l h) = anything
called_span places (Cast t a) = anything
called_span places (Choice c a b) = anything

abbrev cast_span : Span1 → Ty → Term → Span1
cast_span places U8 e = anything
cast_span places U16 e = anything
cast_span places U32 e = anything
cast_span places I8 e = anything
cast_span places I16 e = anything
cast_span places I32 e = called_span places e

abbrev span_of : Span1 → List (List ℕ) → List Span1 → Term → Span1
span_of places names vars (Number t n) = anything
span_of places names vars (Name name) = named_span names vars name
span_of places names vars (Call name at) = anything
span_of places names vars (Minus a) = anything
span_of places names vars (Binary op a b) = anything
span_of places names vars (Clamp a l h) = anything
span_of places names vars (Cast t a) = cast_span places t a
span_of places names vars (Choice c a b) = anything

abbrev pub rules_for : ℕ → ℕ → Rules
rules_for last rows = record {
  claim_line = λ c. 0;
  window_line = λ c. 0;
  last = λ f. 1;
  extents = constants (pos 0) (pos 2) ∷ constants (pos 0) (pos rows) ∷ [];
  own = region last;
  at_most = λ bs a b. most_of a.terms b.terms (int_le a.constant b.constant);
  interval = λ bs names vars e. span_of (constants (pos 0) (pos last)) names vars e;
}

le_of : (x y : ℤ) → int_le x y ≡ true → x ≤ℤ y
le_of x y h = grind (arith, nat_tests)

most_le : (ts us : List Multiple) (a b : ℤ) (v : ℕ → ℤ) → most_of ts us (int_le a b) ≡ true → (a +ℤ sum_of ts v) ≤ℤ (b +ℤ sum_of us v)
most_le [] [] a b v h = let k = le_of a b h in omega (arith, ints, k)
most_le [] (u ∷ us) a b v h = absurd (cc h)
most_le (t ∷ ts) us a b v h = absurd (cc h)

-- a variable lies in its span
named_lies : (s : Symbols) (names : List (List ℕ)) (vars : List Span1) (p : List ℤ) (name : List ℕ) → LieIn s vars p → Lies s (named_span names vars name) (bound names p name)
named_lies s [] vars p name l = (tt, tt)
named_lies s (n ∷ names) [] p name l = (tt, tt)
named_lies s (n ∷ names) (x ∷ vars) [] name l = absurd l
named_lies s (n ∷ names) (x ∷ vars) (z ∷ zs) name l =
    elim (same_name n name) as (λ v. Lies s (elim v [ true ↦ x | false ↦ named_span names vars name ]) (elim v [ true ↦ z | false ↦ bound names zs name ]))
    [ true ↦ l.0 | false ↦ named_lies s names vars zs name l.1 ]

-- ---- they hold

most_at : (x : ℤ) (y : ℕ) → pos 0 ≤ℤ x → x ≤ℤ pos y → (n : ℕ) × (x ≡ pos n) × (nat_lt n (suc y) ≡ true)
most_at (pos n) y l h = (n, refl, grind (arith, nat_tests, ints))
most_at (negsuc n) y l h = absurd (omega (arith, ints))

is_most : (x y : ℤ) → x ≤ℤ y → IsTrue (int_le x y)
is_most x y h = grind (arith, nat_tests)

both : (a b : Bool) → IsTrue a → IsTrue b → IsTrue (a && b)
both true b h k = k
both false b h k = absurd (cc h)

ranges_have : (ds : List Range) (r : List ℤ) → IsIn ds r → IsTrue (is_in ds r)
ranges_have [] [] h = refl
ranges_have [] (z ∷ zs) h = absurd h
ranges_have (d ∷ ds) [] h = absurd h
ranges_have (d ∷ ds) (z ∷ zs) h = both (int_le d.low z && int_le z d.high) (is_in ds zs) (both (int_le d.low z) (int_le z d.high) (is_most d.low z h.0) (is_most z d.high h.1)) (ranges_have ds zs h.2)

module _ (samples : List ℕ) (last rows : ℕ) (fits : ArePlaces samples last rows) where
  abbrev update : Statement
  update = over_rows (constants (pos 0) (pos rows))

  abbrev given : Given
  given = given_at samples last rows last update

  abbrev places : Span1
  places = constants (pos 0) (pos last)

  called_lies : (s : Symbols) (variables : List ℕ → ℤ) (r : Reader) (name : List ℕ) (at : Terms) (v : Bool) → same_name name (codes "in") ≡ v →
      Lies s (if v then places else anything) (wrap I32 (value_of variables (answer given r) (Call name at)).number)
  called_lies s variables r name at false e = (tt, tt)
  called_lies s variables r name at true e =
      let p : List ℤ = numbers_of variables (answer given r) at in
      let found : ℤ = sample (3 ∷ suc rows ∷ []) samples p in
      let is : name ≡ codes "in" = name_true name (codes "in") e in
      let l = sample_from (3 ∷ suc rows ∷ []) samples p in
      let f : found ≤ℤ pos last = (fits p).0 in
      let same : wrap I32 found ≡ found = stays found l (fits p).1 in
      subst (λ n. Lies s places (wrap I32 (answer given r n p).number)) (sym is)
      (subst (λ z. Lies s places z) (sym same) ((l, tt), (omega (arith, ints, f), tt)))

  inner_lies : (s : Symbols) (variables : List ℕ → ℤ) (r : Reader) (e : Term) → Lies s (called_span places e) (wrap I32 (value_of variables (answer given r) e).number)
  inner_lies s variables r (Number t n) = (tt, tt)
  inner_lies s variables r (Name name) = (tt, tt)
  inner_lies s variables r (Call name at) = called_lies s variables r name at (same_name name (codes "in")) refl
  inner_lies s variables r (Minus a) = (tt, tt)
  inner_lies s variables r (Binary op a b) = (tt, tt)
  inner_lies s variables r (Clamp a l h) = (tt, tt)
  inner_lies s variables r (Cast t a) = (tt, tt)
  inner_lies s variables r (Choice c a b) = (tt, tt)

  cast_lies : (s : Symbols) (variables : List ℕ → ℤ) (r : Reader) (t : Ty) (e : Term) → Lies s (cast_span places t e) (wrap t (value_of variables (answer given r) e).number)
  cast_lies s variables r U8 e = (tt, tt)
  cast_lies s variables r U16 e = (tt, tt)
  cast_lies s variables r U32 e = (tt, tt)
  cast_lies s variables r I8 e = (tt, tt)
  cast_lies s variables r I16 e = (tt, tt)
  cast_lies s variables r I32 e = inner_lies s variables r e

  spans_hold : (s : Symbols) (names : List (List ℕ)) (vars : List Span1) (e : Term) (r : Reader) (p : List ℤ) → LieIn s vars p → Lies s (span_of places names vars e) (value_of (bound names p) (answer given r) e).number
  spans_hold s names vars (Number t n) r p l = (tt, tt)
  spans_hold s names vars (Name name) r p l = named_lies s names vars p name l
  spans_hold s names vars (Call name at) r p l = (tt, tt)
  spans_hold s names vars (Minus a) r p l = (tt, tt)
  spans_hold s names vars (Binary op a b) r p l = (tt, tt)
  spans_hold s names vars (Clamp a lo h) r p l = (tt, tt)
  spans_hold s names vars (Cast t a) r p l = cast_lies s (bound names p) r t a
  spans_hold s names vars (Choice c a b) r p l = (tt, tt)

  on_extents : (s : Symbols) (p : List ℤ) → LieIn s (rules_for last rows).extents p → IsTrue (is_within (3 ∷ suc rows ∷ []) p)
  on_extents s [] l = absurd l
  on_extents s (x ∷ []) l = absurd l.1
  on_extents s (x ∷ y ∷ []) l =
      let a : x ≤ℤ (pos 2 +ℤ pos 0) = l.0.1.0 in
      let b : y ≤ℤ (pos rows +ℤ pos 0) = l.1.0.1.0 in
      let m = most_at x 2 l.0.0.0 (omega (arith, ints, a)) in
      let n = most_at y rows l.1.0.0.0 (omega (arith, ints, b)) in
      rw m.1 (rw n.1 (rw m.2 (rw n.2 refl)))
  on_extents s (x ∷ y ∷ z ∷ zs) l = absurd l.1.1

  abbrev ranges : List Range
  ranges = ranges_of rows

  -- the function where the name is its own
  abbrev chosen : Bool → Option Function
  chosen v = if v then Some (counting rows) else None

  steps_whole : (v : Bool) → steps_in (chosen v) 1 ≡ all_steps_in (chosen v)
  steps_whole true = refl
  steps_whole false = refl

  pub suited : Suited given (rules_for last rows)
  suited = record {
    whole = λ f. steps_whole (same_name (codes "h") f);
    inside = on_extents;
    owned = λ s p m. point_lies s (region last) p (in_filter _ p (points s (region last)) m);
    bounded = λ bs names vars e r s p respects l. spans_hold s names vars e r p l;
    ordered = λ bs a b s h respects. most_le a.terms b.terms a.constant b.constant s.value h;
  }

  -- ---- its steps are counted

  only_change : (v : Bool) (k : ℕ) (ds : List Range) → ranges_in (update_in (chosen v) (suc k)) ≡ Some ds → (v ≡ true) × (k ≡ 0) × (ds ≡ ranges)
  only_change true zero ds h = (refl, refl, let same : ds ≡ ranges = cc in same)
  only_change true (suc k) ds h = absurd (cc h)
  only_change false k ds h = absurd (cc h)

  steps_none : (v : Bool) → steps_in (chosen v) 0 ≡ 0
  steps_none true = refl
  steps_none false = refl

  steps_next : (v : Bool) (k : ℕ) (ds : List Range) → v ≡ true → k ≡ 0 → ds ≡ ranges → steps_in (chosen v) (suc k) ≡ steps_in (chosen v) k + size ds
  steps_next v k ds a b c = rw a (rw b (rw c (let sum : size ranges + 0 ≡ 0 + size ranges = omega arith in sum)))

  in_domain : (v : Bool) (k : ℕ) (r : List ℤ) → v ≡ true → k ≡ 0 → IsIn ranges r → IsTrue (is_in_domain (update_in (chosen v) (suc k)) r)
  in_domain v k r a b i = rw a (rw b (ranges_have ranges r i))

  step_is : (v : Bool) (k : ℕ) (ds : List Range) (r : List ℤ) → v ≡ true → k ≡ 0 → ds ≡ ranges → step_in (chosen v) (suc k) r ≡ steps_in (chosen v) k + rank ds r
  step_is v k ds r a b c = rw a (rw b (rw c refl))

  pub counted : Counts given (domains_of (hist_algorithm last rows))
  counted = record {
    none = λ f. steps_none (same_name (codes "h") f);
    ranges = λ f k ds h.
        let u = only_change (same_name (codes "h") f) k ds h in subst AreRanges (sym u.2) (omega (arith, ints), (omega (arith, ints), tt));
    next = λ f k ds h. let u = only_change (same_name (codes "h") f) k ds h in steps_next _ k ds u.0 u.1 u.2;
    inside = λ f k ds r h i. let u = only_change (same_name (codes "h") f) k ds h in in_domain _ k r u.0 u.1 (subst (λ es. IsIn es r) u.2 i);
    step = λ f k ds r h i. let u = only_change (same_name (codes "h") f) k ds h in step_is _ k ds r u.0 u.1 u.2;
  }
