-- Which uses of a function the tests decide to stand outside of its loop.
use Rattle.std.proofs.Common.{◌≡◌, ◌≢◌, ◌⊎◌, inl, inr, ℕ, zero, suc, ◌<◌, Bool, true, false, not, ◌&&◌, ◌||◌, if◌then◌else◌, List, [], ◌∷◌, length, map, Option, Some, None, Result, refl}
use Rattle.std.proofs.Common.{sym, ap, subst, ◌∙◌, arith}
use Rattle.std.specs.Prelude.{Decides, Any, IfOk, slice_get}
use Rattle.std.specs.Option.{IsSomeAnd, option_map}
use Rattle.std.specs.Global.{Vec}
use Rattle.std.specs.List.{list_any}
use Rattle.std.proofs.lemmas.Bool.{false≢true}
use Rattle.std.proofs.lemmas.Bool.Decides.{Decides-at, Decides-not, Decides-and}
use Rattle.std.proofs.lemmas.Result.{IfOk-weaker}
use Rattle.tree.specs.Term.{Term}
use Rattle.meaning.specs.Names.{same_name}
use Rattle.sched.specs.declared.schedule.Home.{Home}
use Rattle.sched.specs.declared.placing.Loop.{Loop}
use Rattle.sched.proofs.Deciding.{any_decides, name_decides}
use Rattle.sched.specs.declared.definitions.Formula.{Formula}
use Rattle.sched.specs.declared.definitions.Stored.{Stored}
use Rattle.sched.specs.Stored.{FormulaText, StoredText, calls_in, are_calls_of, left_at, formula_of, stored_of}
use Rattle.regions.specs.Stored.{some_calls}
use Rattle.sched.specs.Regions.{counts}
use Rattle.regions.specs.Uses.{first_home, home_of, stored_named, HasLoop, IsWithin, LeadsInside, Uses, StandsInside, UsesOutside, IsUsedOutside, is_loop_of, has_loop_of, is_within}
use Rattle.regions.specs.Uses.{passes, is_user, leading, MissesLoop, misses_loop, some_misses, leads_inside, stands_inside, is_outside, uses_outside, is_used_outside}

-- ---- tests

pub passes_decides : {X : Type 0} (test : X → Bool) (P : X → Type 0) → ((x : X) → Decides (test x) (P x)) → (o : Option X) → Decides (passes test o) (IsSomeAnd o P)
passes_decides test P each (Some x) = each x
passes_decides test P each None = (λ e. absurd (false≢true e), λ h. absurd h)

pub if_decides : {A P Q : Type 0} (b c d : Bool) → Decides b A → Decides c P → Decides d Q → Decides (if b then c else d) ((A × P) ⊎ ((A → ⊥) × Q))
if_decides {A = A} {P = P} {Q = Q} true c d a p q = (λ e. inl (a.0 refl, p.0 e), λ h. yes h)
  where
    yes : (A × P) ⊎ ((A → ⊥) × Q) → c ≡ true
    yes (inl h) = p.1 h.1
    yes (inr h) = absurd (h.0 (a.0 refl))
if_decides {A = A} {P = P} {Q = Q} false c d a p q = (λ e. inr ((λ x. false≢true (a.1 x)), q.0 e), λ h. no h)
  where
    no : (A × P) ⊎ ((A → ⊥) × Q) → d ≡ true
    no (inl h) = absurd (false≢true (a.1 h.0))
    no (inr h) = q.1 h.1

-- ---- loops

none_decides : (o : Option Term) → Decides (not (elim o [ Some e ↦ true | None ↦ false ])) (o ≡ None)
none_decides (Some e) = (λ h. absurd (false≢true h), λ h. cc)
none_decides None = (λ h. refl, λ h. refl)

has_loop_decides : (ls : List Loop) (f : FormulaText) (v : List ℕ) → Decides (has_loop_of ls f v) (HasLoop ls f v)
has_loop_decides ls f v = any_decides (is_loop_of f v) (λ l. (l.name ≡ v) × (left_at f l.dimension ≡ None))
    (λ l. Decides-and (same_name_at l) (not (counts (Some f) l.dimension)) (name_decides l.name v) (none_decides (left_at f l.dimension))) ls
  where
    same_name_at : Loop → Bool
    same_name_at l = same_name l.name v

or_cases : {P : Type 0} (a b : Bool) → (a || b) ≡ true → (a ≡ true → P) → (b ≡ true → P) → P
or_cases true b e f g = f refl
or_cases false b e f g = g e

or_first : (a b : Bool) → a ≡ true → (a || b) ≡ true
or_first true b e = refl
or_first false b e = absurd (false≢true e)

or_second : (a b : Bool) → b ≡ true → (a || b) ≡ true
or_second true b e = refl
or_second false b e = e

both_of : (a b : Bool) → (a && b) ≡ true → (a ≡ true) × (b ≡ true)
both_of true b e = (refl, e)
both_of false b e = absurd (false≢true e)

and_of : (a b : Bool) → a ≡ true → b ≡ true → (a && b) ≡ true
and_of true b e f = f
and_of false b e f = e

some_loop : (l m : Loop) → Some l ≡ Some m → l ≡ m
some_loop l m e = cc

other_decides : (l : Loop) (v : List ℕ) → Decides (not (same_name l.name v)) (l.name ≢ v)
other_decides l v = Decides-not (same_name l.name v) (name_decides l.name v)

none_before : (l : Loop) (ls : List Loop) (v : List ℕ) (i : ℕ) → l.name ≢ v → ((j : ℕ) (m : Loop) → j < i → slice_get ls j ≡ Some m → m.name ≢ v)
    → (j : ℕ) (m : Loop) → j < suc i → slice_get (l ∷ ls) j ≡ Some m → m.name ≢ v
none_before l ls v i other h zero m lt at = subst (λ (n : Loop). n.name ≢ v) (some_loop l m at) other
none_before l ls v i other h (suc j) m lt at = h j m (omega (arith, lt)) at

within_is : (x v : List ℕ) (ls : List Loop) → is_within x v ls ≡ true → IsWithin x v ls
within_is x v [] e = absurd (false≢true e)
within_is x v (l ∷ ls) e = or_cases (same_name l.name x) (not (same_name l.name v) && is_within x v ls) e
    (λ h. (0, l, refl, (name_decides l.name x).0 h, λ j m lt at. absurd (omega (arith, lt))))
    (λ h. let both = both_of (not (same_name l.name v)) (is_within x v ls) h in
    let rest = within_is x v ls both.1 in
    (suc rest.0, rest.1, rest.2, rest.3, none_before l ls v rest.0 ((other_decides l v).0 both.0) rest.4))

within_has : (x v : List ℕ) (ls : List Loop) (i : ℕ) (l : Loop) → slice_get ls i ≡ Some l → l.name ≡ x
    → ((j : ℕ) (m : Loop) → j < i → slice_get ls j ≡ Some m → m.name ≢ v) → is_within x v ls ≡ true
within_has x v [] i l at is none = absurd (cc)
within_has x v (m ∷ ms) zero l at is none = or_first (same_name m.name x) (not (same_name m.name v) && is_within x v ms)
    ((name_decides m.name x).1 (subst (λ (n : Loop). n.name ≡ x) (sym (some_loop m l at)) is))
within_has x v (m ∷ ms) (suc i) l at is none = or_second (same_name m.name x) (not (same_name m.name v) && is_within x v ms)
    (and_of (not (same_name m.name v)) (is_within x v ms) ((other_decides m v).1 (none 0 m (omega arith) refl))
    (within_has x v ms i l at is (λ j n lt to. none (suc j) n (omega (arith, lt)) to)))

within_decides : (x v : List ℕ) (ls : List Loop) → Decides (is_within x v ls) (IsWithin x v ls)
within_decides x v ls = (within_is x v ls, λ h. within_has x v ls h.0 h.1 h.2 h.3 h.4)

-- ---- uses

called_decides : (f : FormulaText) (x : List ℕ) → Decides (are_calls_of x (calls_in f)) (Uses f x)
called_decides f x = any_decides (λ c. same_name c.name x) (λ c. c.name ≡ x) (λ c. name_decides c.name x) (calls_in f)

other_decides_called : (f : FormulaText) (o y : List ℕ) → Decides (not (same_name y o) && are_calls_of y (calls_in f)) ((y ≢ o) × Uses f y)
other_decides_called f o y = Decides-and (not (same_name y o)) (are_calls_of y (calls_in f)) (Decides-not (same_name y o) (name_decides y o)) (called_decides f y)

misses_decides : (gs : List StoredText) (o x v : List ℕ) (ls : List Loop) (f : FormulaText) → Decides (misses_loop gs o x v ls f) (MissesLoop gs o x v ls f)
misses_decides gs o x v ls f = Decides-and (not (has_loop_of ls f v)) (list_any (λ y. not (same_name y o) && are_calls_of y (calls_in f)) (leading gs (x ∷ [])))
    (Decides-not (has_loop_of ls f v) (has_loop_decides ls f v))
    (any_decides (λ y. not (same_name y o) && are_calls_of y (calls_in f)) (λ y. (y ≢ o) × Uses f y) (other_decides_called f o) (leading gs (x ∷ [])))

some_decides : (gs : List StoredText) (x v : List ℕ) (g : StoredText)
    → Decides (some_misses gs x v g) (IsSomeAnd g.formulas (λ fs. Any (MissesLoop gs g.subject.name x v g.placed.loops) fs))
some_decides gs x v g = passes_decides (list_any (misses_loop gs g.subject.name x v g.placed.loops)) (λ fs. Any (MissesLoop gs g.subject.name x v g.placed.loops) fs)
    (λ fs. any_decides (misses_loop gs g.subject.name x v g.placed.loops) (MissesLoop gs g.subject.name x v g.placed.loops) (misses_decides gs g.subject.name x v g.placed.loops) fs) g.formulas

leads_decides : (gs bs : List StoredText) (x : List ℕ) (h v : Home) → Decides (leads_inside gs bs x h v) (LeadsInside gs (length bs) x h v)
leads_decides gs [] x h v = (λ e. absurd (false≢true e), λ e. absurd e)
leads_decides gs (b ∷ bs) x h v = passes_decides
    (λ g. if same_name h.function v.function then is_within h.turn v.turn g.placed.loops && not (some_misses gs x v.turn g)
    else passes (λ k. leads_inside gs bs g.subject.name k v) (home_of g))
    (λ g. ((h.function ≡ v.function) × (IsWithin h.turn v.turn g.placed.loops × ¬ IsSomeAnd g.formulas (λ fs. Any (MissesLoop gs g.subject.name x v.turn g.placed.loops) fs)))
    ⊎ ((h.function ≢ v.function) × IsSomeAnd (home_of g) (λ k. LeadsInside gs (length bs) g.subject.name k v)))
    (λ g. if_decides (same_name h.function v.function) (is_within h.turn v.turn g.placed.loops && not (some_misses gs x v.turn g))
    (passes (λ k. leads_inside gs bs g.subject.name k v) (home_of g)) (name_decides h.function v.function)
    (Decides-and (is_within h.turn v.turn g.placed.loops) (not (some_misses gs x v.turn g)) (within_decides h.turn v.turn g.placed.loops)
    (Decides-not (some_misses gs x v.turn g) (some_decides gs x v.turn g)))
    (passes_decides (λ k. leads_inside gs bs g.subject.name k v) (λ k. LeadsInside gs (length bs) g.subject.name k v)
    (λ k. leads_decides gs bs g.subject.name k v) (home_of g)))
    (stored_named gs h.function)

inside_decides : (gs : List StoredText) (v : Home) (u : StoredText) (f : FormulaText) → Decides (stands_inside gs v u f) (StandsInside gs v u f)
inside_decides gs v u f = if_decides (same_name u.subject.name v.function) (has_loop_of u.placed.loops f v.turn) (passes (λ h. leads_inside gs gs u.subject.name h v) (home_of u))
    (name_decides u.subject.name v.function) (has_loop_decides u.placed.loops f v.turn)
    (passes_decides (λ h. leads_inside gs gs u.subject.name h v) (λ h. LeadsInside gs (length gs) u.subject.name h v) (λ h. leads_decides gs gs u.subject.name h v) (home_of u))

outside_decides : (gs : List StoredText) (x : List ℕ) (v : Home) (u : StoredText) (f : FormulaText)
    → Decides (is_outside gs x v u f) (Uses f x × ¬ StandsInside gs v u f)
outside_decides gs x v u f = Decides-and (are_calls_of x (calls_in f)) (not (stands_inside gs v u f))
    (called_decides f x)
    (Decides-not (stands_inside gs v u f) (inside_decides gs v u f))

uses_decides : (gs : List StoredText) (x : List ℕ) (v : Home) (u : StoredText) → Decides (uses_outside gs x v u) (UsesOutside gs x v u)
uses_decides gs x v u = Decides-and (not (same_name u.subject.name x)) (passes (list_any (is_outside gs x v u)) u.formulas)
    (Decides-not (same_name u.subject.name x) (name_decides u.subject.name x))
    (passes_decides (list_any (is_outside gs x v u)) (λ fs. Any (λ f. Uses f x × ¬ StandsInside gs v u f) fs)
    (λ fs. any_decides (is_outside gs x v u) (λ f. Uses f x × ¬ StandsInside gs v u f) (λ f. outside_decides gs x v u f) fs) u.formulas)

pub used_decides : (gs : List StoredText) (g : StoredText) → Decides (is_used_outside gs g) (IsUsedOutside gs g)
used_decides gs g = passes_decides (λ v. list_any (uses_outside gs g.subject.name v) gs) (λ v. Any (UsesOutside gs g.subject.name v) gs)
    (λ v. any_decides (uses_outside gs g.subject.name v) (UsesOutside gs g.subject.name v) (λ u. uses_decides gs g.subject.name v u) gs) (first_home g.placed.homes)

-- what the test says, unless memory ran out
pub told_decides : {E : Type 0} (gs : List StoredText) (g : StoredText) (r : Result Bool E) → IfOk r (λ yes. yes ≡ is_used_outside gs g) → IfOk r (λ yes. Decides yes (IsUsedOutside gs g))
told_decides gs g r h = IfOk-weaker r (λ yes. yes ≡ is_used_outside gs g) (λ yes. Decides yes (IsUsedOutside gs g)) (λ yes e. Decides-at yes (is_used_outside gs g) e (used_decides gs g)) h

-- ---- the definitions of a stored function, as memory keeps them

formulas_at : (s : Stored) (v : Vec Formula) → s.formulas ≡ Some v → (stored_of s).formulas ≡ Some (map formula_of v.items)
formulas_at s v e = ap (option_map (λ (w : Vec Formula). map formula_of w.items)) e

no_formulas : (s : Stored) → s.formulas ≡ None → (stored_of s).formulas ≡ None
no_formulas s e = ap (option_map (λ (w : Vec Formula). map formula_of w.items)) e

-- whether a function that is computed in loops calls one of these
pub user_found : {E : Type 0} (xs : List (List ℕ)) (s : Stored) (v : Vec Formula) (r : Result Bool E) → s.formulas ≡ Some v → (stored_of s).subject.is_root ≡ false
    → IfOk r (λ yes. yes ≡ list_any (λ y. some_calls y (map formula_of v.items)) xs) → IfOk r (λ yes. yes ≡ is_user xs (stored_of s))
user_found xs s v r e inside is = IfOk-weaker r (λ yes. yes ≡ list_any (λ y. some_calls y (map formula_of v.items)) xs) (λ yes. yes ≡ is_user xs (stored_of s))
    (λ yes i. i ∙ sym ((λ j. not (inside j) && passes (λ fs. list_any (λ y. some_calls y fs) xs) (formulas_at s v e j)))) is

pub user_large : (xs : List (List ℕ)) (s : Stored) → s.formulas ≡ None → (stored_of s).subject.is_root ≡ false → false ≡ is_user xs (stored_of s)
user_large xs s e inside = sym (λ j. not (inside j) && passes (λ fs. list_any (λ y. some_calls y fs) xs) (no_formulas s e j))

-- whether some definition of a function lacks the loop
pub misses_found : {E : Type 0} (gs : List StoredText) (x w : List ℕ) (s : Stored) (v : Vec Formula) (r : Result Bool E) → s.formulas ≡ Some v
    → IfOk r (λ yes. yes ≡ list_any (misses_loop gs (stored_of s).subject.name x w (stored_of s).placed.loops) (map formula_of v.items)) → IfOk r (λ yes. yes ≡ some_misses gs x w (stored_of s))
misses_found gs x w s v r e is = IfOk-weaker r (λ yes. yes ≡ list_any (misses_loop gs (stored_of s).subject.name x w (stored_of s).placed.loops) (map formula_of v.items))
    (λ yes. yes ≡ some_misses gs x w (stored_of s)) (λ yes i. i ∙ sym (λ j. passes (list_any (misses_loop gs (stored_of s).subject.name x w (stored_of s).placed.loops)) (formulas_at s v e j))) is

pub misses_large : (gs : List StoredText) (x w : List ℕ) (s : Stored) → s.formulas ≡ None → false ≡ some_misses gs x w (stored_of s)
misses_large gs x w s e = sym (λ j. passes (list_any (misses_loop gs (stored_of s).subject.name x w (stored_of s).placed.loops)) (no_formulas s e j))

pub outside_found : {E : Type 0} (gs : List StoredText) (x : List ℕ) (h : Home) (s : Stored) (v : Vec Formula) (r : Result Bool E)
    → s.formulas ≡ Some v → same_name (stored_of s).subject.name x ≡ false
    → IfOk r (λ yes. yes ≡ list_any (is_outside gs x h (stored_of s)) (map formula_of v.items)) → IfOk r (λ yes. yes ≡ uses_outside gs x h (stored_of s))
outside_found gs x h s v r e other is = IfOk-weaker r (λ yes. yes ≡ list_any (is_outside gs x h (stored_of s)) (map formula_of v.items)) (λ yes. yes ≡ uses_outside gs x h (stored_of s))
    (λ yes i. i ∙ sym ((λ j. not (other j) && passes (list_any (is_outside gs x h (stored_of s))) (formulas_at s v e j)))) is

pub outside_large : (gs : List StoredText) (x : List ℕ) (h : Home) (s : Stored) → s.formulas ≡ None → same_name (stored_of s).subject.name x ≡ false → false ≡ uses_outside gs x h (stored_of s)
outside_large gs x h s e other = sym (λ j. not (other j) && passes (list_any (is_outside gs x h (stored_of s))) (no_formulas s e j))
