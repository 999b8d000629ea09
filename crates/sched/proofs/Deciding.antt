-- Which rule a test decides.
use Rattle.std.proofs.Common.{◌≡◌, ◌≢◌, ◌⊎◌, inl, inr, ⊎_elim, ℕ, zero, suc, ◌+◌, ◌<◌, ◌≤◌, Bool, true, false, not, ◌&&◌, ◌||◌, List, [], ◌∷◌, length, map, drop, Option, Some, None, refl, sym, ap, subst, ◌∙◌, arith}
use Rattle.std.specs.Prelude.{Decides, Any, Contains, slice_get, slice_index_or, ◌==◌, nat_lt, nat_le}
use Rattle.std.specs.List.{list_any, list_all}
use Rattle.std.proofs.lemmas.Bool.{false≢true, leb-true, le-leb}
use Rattle.std.proofs.lemmas.Bool.Decides.{Decides-at, Decides-like, Decides-not, Decides-and, Decides-or, Decides-ltb, Decides-eqb}
use Rattle.std.proofs.lemmas.Option.{slice_get_read, slice_get_within, get_or_from_slice_get}
use Rattle.std.proofs.lemmas.List.Folds.{Any-from_list_any, list_any-from_Any, list_any-append, list_any_at}
use Rattle.tree.specs.Term.{Term, Name}
use Rattle.meaning.specs.Algorithm.{Range, Change, Function, Algorithm}
use Rattle.meaning.specs.Names.{same_name, is_among}
use Rattle.meaning.specs.Conditions.{is_variable}
use Rattle.meaning.proofs.Cases.{name_same, same_name_is}
use Rattle.sched.specs.declared.schedule.Home.{Home}
use Rattle.sched.specs.declared.schedule.Split.{Split}
use Rattle.sched.specs.declared.schedule.Tail.{Tail}
use Rattle.sched.specs.declared.schedule.Tail.TheVariants as tails
use Rattle.sched.specs.declared.placing.Loop.{Loop}
use Rattle.sched.specs.declared.placing.Mark.{Mark}
use Rattle.sched.specs.declared.placing.Mark.TheVariants as mark
use Rattle.sched.specs.Schedule.{DirectiveText, compute_root, compute_at, Schedule}
use Rattle.sched.specs.Placing.{SubjectText, PlacedText, has_loop, is_known, all_known, any_reduction, breaks_split, has_double, is_marked, is_short, breaks_mark, is_scattered, breaks_parallel, is_vectorized, is_parallel, has_vectorized_outside, has_parallel_inside, is_shifted, has_updates, is_root_directive, has_root, is_flat, is_open, stands_open, stands_clear, stands_outside, is_home, has_home_in, breaks_home, is_outside, has_outside, has_storage, breaks_storage, breaks_fold}
use Rattle.sched.specs.Subjects.{range_names, reductions_of, is_pure, lacks, scattered_from, is_output, is_root, is_home_directive, has_home, subject_said}
use Rattle.sched.specs.Rules.{Says, IsRoot, IsComputeAt, IsStored, IsNoFunction, IsReduction, Scatters, IsScattered, IsMarked, IsShort, SomeLoop, IsNoLoop, IsBadLanes, IsTwice, IsVectorized, IsParallel, IsVectorizedOutside, IsParallelInside, IsShiftedUpdate, IsInlineUpdate, StandsClear, IsFlat, IsHomeLoop, HasHome, IsBadHome, IsOutside, HasStorage, IsBadStorage, IsBadFold}

-- ---- some element

pub any_decides : {X : Type 0} (p : X → Bool) (P : X → Type 0) → ((x : X) → Decides (p x) (P x)) → (xs : List X) → Decides (list_any p xs) (Any P xs)
any_decides p P each xs = (
  λ e. let h = Any-from_list_any p xs e in (h.0, h.1, h.2, h.3, (each h.1).0 h.4),
  λ h. list_any-from_Any p xs (h.0, h.1, h.2, h.3, (each h.1).1 h.4),
)

any_of_map : {X Y : Type 0} (p : X → Bool) (h : Y → X) (ys : List Y) → list_any p (map h ys) ≡ list_any (λ y. p (h y)) ys
any_of_map p h [] = refl
any_of_map p h (y ∷ ys) = ap (λ (b : Bool). p (h y) || b) (any_of_map p h ys)

not_both : (a b : Bool) → not (a && b) ≡ (not a || not b)
not_both true b = refl
not_both false b = refl

-- not all are so: some one is not
not_all : {X : Type 0} (p : X → Bool) (xs : List X) → not (list_all p xs) ≡ list_any (λ x. not (p x)) xs
not_all p [] = refl
not_all p (x ∷ xs) = not_both (p x) (list_all p xs) ∙ ap (λ (b : Bool). not (p x) || b) (not_all p xs)

or_cases : {P : Type 0} (a b : Bool) → (a || b) ≡ true → (a ≡ true → P) → (b ≡ true → P) → P
or_cases true b e f g = f refl
or_cases false b e f g = g e

or_first : (a b : Bool) → a ≡ true → (a || b) ≡ true
or_first true b e = refl
or_first false b e = absurd (false≢true e)

or_second : (a b : Bool) → b ≡ true → (a || b) ≡ true
or_second true b e = refl
or_second false b e = e

neither : {P Q : Type 0} (b : Bool) → Decides b (P ⊎ Q) → Decides (not b) ((¬ P) × (¬ Q))
neither b d = Decides-like (not b) (λ h. (λ p. h (inl p), λ q. h (inr q))) (λ h s. ⊎_elim h.0 h.1 s) (Decides-not b d)

-- ---- names

pub name_decides : (x y : List ℕ) → Decides (same_name x y) (x ≡ y)
name_decides x y = (same_name_is x y, name_same x y)

pub among_decides : (names : List (List ℕ)) (x : List ℕ) → Decides (is_among names x) (Contains names x)
among_decides names x = Decides-like (is_among names x)
    (λ h. (h.0, h.2, subst (λ (z : List ℕ). slice_index_or names h.0 z ≡ z) h.4 h.3))
    (λ h. (h.0, x, h.1, h.2, refl))
    (any_decides (λ y. same_name y x) (λ y. y ≡ x) (λ y. name_decides y x) names)

-- a function has the name, or none has
pub function_decides : (a : Algorithm) (x : List ℕ) → (is_among (map (λ f. Function.name f) a.functions) x ≡ true → ¬ IsNoFunction a x) × (is_among (map (λ f. Function.name f) a.functions) x ≡ false → IsNoFunction a x)
function_decides a x =
    let same = any_of_map (λ y. same_name y x) (λ f. Function.name f) a.functions in
    let some = any_decides (λ f. same_name (Function.name f) x) (λ f. Function.name f ≡ x) (λ f. name_decides (Function.name f) x) a.functions in (
      λ e none. let h = some.0 (sym same ∙ e) in none h.0 h.1 h.2 (ap (λ f. Function.name f) h.3 ∙ h.4),
      λ e k d lt is. false≢true (sym (sym same ∙ e) ∙ list_any_at (λ f. same_name (Function.name f) x) a.functions k d lt (name_same _ x is)),
    )

-- ---- reduction variables

reductions_any : (us : List Change) (x : List ℕ) → is_among (reductions_of us) x ≡ list_any (λ u. list_any (λ d. same_name d.variable x) u.ranges) us
reductions_any [] x = refl
reductions_any (u ∷ us) x =
    list_any-append (λ y. same_name y x) (range_names u.ranges) (reductions_of us)
    ∙ ap (λ (b : Bool). b || is_among (reductions_of us) x) (any_of_map (λ y. same_name y x) (λ d. Range.variable d) u.ranges)
    ∙ ap (λ (b : Bool). list_any (λ d. same_name d.variable x) u.ranges || b) (reductions_any us x)

pub reduction_decides : (f : Function) (x : List ℕ) → Decides (is_among (reductions_of f.changes) x) (IsReduction f x)
reduction_decides f x = Decides-at _ _ (reductions_any f.changes x)
    (any_decides (λ u. list_any (λ d. same_name d.variable x) u.ranges) (λ u. Any (λ d. d.variable ≡ x) u.ranges)
    (λ u. any_decides (λ d. same_name d.variable x) (λ d. d.variable ≡ x) (λ d. name_decides d.variable x) u.ranges) f.changes)

-- ---- what the text says of a function

says_decides : (s : Schedule) (x : List ℕ) (p : DirectiveText → Bool) (P : DirectiveText → Type 0) → ((d : DirectiveText) → Decides (p d) (P d)) → Decides (list_any (λ t. same_name t.function x && list_any p t.directives) s) (Says s x P)
says_decides s x p P each = any_decides (λ t. same_name t.function x && list_any p t.directives) (λ t. (t.function ≡ x) × Any P t.directives)
    (λ t. Decides-and (same_name t.function x) (list_any p t.directives) (name_decides t.function x) (any_decides p P each t.directives)) s

root_directive_decides : (d : DirectiveText) → Decides (is_root_directive d) (d ≡ compute_root)
root_directive_decides compute_root = (λ e. refl, λ e. refl)
root_directive_decides d = (λ e. absurd (false≢true e), λ e. cc)

home_directive_decides : (d : DirectiveText) → Decides (is_home_directive d) (IsComputeAt d)
home_directive_decides (compute_at h) = (λ e. tt, λ e. refl)
home_directive_decides d = (λ e. absurd (false≢true e), λ e. absurd e)

pub root_decides : (a : Algorithm) (s : Schedule) (f : Function) → Decides (is_root a s f.name) (IsRoot a s f)
root_decides a s f = Decides-or (is_output a f.name) (has_root s f.name) (name_decides a.output f.name) (says_decides s f.name is_root_directive (λ d. d ≡ compute_root) root_directive_decides)

pub stored_decides : (a : Algorithm) (s : Schedule) (f : Function) → Decides (is_root a s f.name || has_home s f.name) (IsStored a s f)
stored_decides a s f = Decides-or (is_root a s f.name) (has_home s f.name) (root_decides a s f) (says_decides s f.name is_home_directive IsComputeAt home_directive_decides)

-- ---- dimensions for which some update has no pure variable

variable_decides : (x : List ℕ) (e : Term) → Decides (is_variable x e) (Some e ≡ Some (Name x))
variable_decides x (Name y) = Decides-like (same_name x y) (λ e. ap (λ (z : List ℕ). Some (Name z)) (sym e)) (λ e. cc) (name_decides x y)
variable_decides x e = (λ e. absurd (false≢true e), λ e. cc)

pure_decides : (x : List ℕ) (o : Option Term) → Decides (is_pure x o) (o ≡ Some (Name x))
pure_decides x (Some e) = variable_decides x e
pure_decides x None = (λ e. absurd (false≢true e), λ e. cc)

lacks_decides : (x : List ℕ) (n : ℕ) (u : Change) → Decides (lacks x n u) (Scatters x n u)
lacks_decides x n u = Decides-not (is_pure x (slice_get u.at n)) (pure_decides x (slice_get u.at n))

-- some update lacks the n-th of these variables, the first of which is that of dimension d
abbrev ScatteredFrom : List Change → ℕ → List (List ℕ) → ℕ → Type 0
ScatteredFrom us d xs n = (k : ℕ) × (x : List ℕ) × (slice_get xs k ≡ Some x) × (n ≡ d + k) × Any (Scatters x n) us

module _ (us : List Change) (n : ℕ) where
  abbrev found : List ℕ → Bool
  found = list_any (λ e. e == n)

  here : (d : ℕ) (x : List ℕ) (xs : List (List ℕ)) → (d == n) ≡ true → list_any (lacks x d) us ≡ true → ScatteredFrom us d (x ∷ xs) n
  here d x xs is lacking =
      let same : d ≡ n = (Decides-eqb d n).0 is in
      let some = (any_decides (lacks x d) (Scatters x d) (λ u. lacks_decides x d u) us).0 lacking in
      (0, x, refl, omega (arith, same), subst (λ (m : ℕ). Any (Scatters x m) us) same some)

  later : (d : ℕ) (x : List ℕ) (xs : List (List ℕ)) → ScatteredFrom us (d + 1) xs n → ScatteredFrom us d (x ∷ xs) n
  later d x xs h = (suc h.0, h.1, h.2, omega (arith, h.3), h.4)

  told : (d : ℕ) (x : List ℕ) (xs : List (List ℕ)) (b : Bool) → list_any (lacks x d) us ≡ b → (found (scattered_from us (d + 1) xs) ≡ true → ScatteredFrom us (d + 1) xs n) → found (scattered_from us d (x ∷ xs)) ≡ true → ScatteredFrom us d (x ∷ xs) n
  told d x xs false h more e = later d x xs (more (rw h at e))
  told d x xs true h more e = or_cases (d == n) (found (scattered_from us (d + 1) xs)) (rw h at e) (λ is. here d x xs is h) (λ rest. later d x xs (more rest))

  scattered_is : (d : ℕ) (xs : List (List ℕ)) → found (scattered_from us d xs) ≡ true → ScatteredFrom us d xs n
  scattered_is d [] e = absurd (false≢true e)
  scattered_is d (x ∷ xs) e = told d x xs (list_any (lacks x d) us) refl (scattered_is (d + 1) xs) e

  found_here : (d : ℕ) (x : List ℕ) (xs : List (List ℕ)) → n ≡ d → Any (Scatters x n) us → found (scattered_from us d (x ∷ xs)) ≡ true
  found_here d x xs same some =
      let lacking : list_any (lacks x d) us ≡ true = (any_decides (lacks x d) (Scatters x d) (λ u. lacks_decides x d u) us).1 (subst (λ (m : ℕ). Any (Scatters x m) us) same some) in
      rw lacking (or_first (d == n) (found (scattered_from us (d + 1) xs)) ((Decides-eqb d n).1 (sym same)))

  found_on : (d : ℕ) (x : List ℕ) (xs : List (List ℕ)) (b : Bool) → list_any (lacks x d) us ≡ b → found (scattered_from us (d + 1) xs) ≡ true → found (scattered_from us d (x ∷ xs)) ≡ true
  found_on d x xs false h e = rw h e
  found_on d x xs true h e = rw h (or_second (d == n) (found (scattered_from us (d + 1) xs)) e)

  scattered_has : (d : ℕ) (xs : List (List ℕ)) (k : ℕ) (y : List ℕ) → slice_get xs k ≡ Some y → n ≡ d + k → Any (Scatters y n) us → found (scattered_from us d xs) ≡ true
  scattered_has d [] k y at is some = absurd (cc)
  scattered_has d (x ∷ xs) zero y at is some =
      let same : y ≡ x = cc in
      found_here d x xs (omega (arith, is)) (subst (λ (z : List ℕ). Any (Scatters z n) us) same some)
  scattered_has d (x ∷ xs) (suc k) y at is some = found_on d x xs (list_any (lacks x d) us) refl (scattered_has (d + 1) xs k y at (omega (arith, is)) some)

scattered_decides : (f : Function) (l : Loop) → Decides (list_any (λ d. d == l.dimension) (scattered_from f.changes 0 f.variables)) (IsScattered f l.dimension)
scattered_decides f l = (
  λ e. let h = scattered_is f.changes l.dimension 0 f.variables e in
      let same : h.0 ≡ l.dimension = omega (arith, h.3) in
      (h.1, subst (λ (k : ℕ). slice_get f.variables k ≡ Some h.1) same h.2, h.4),
  λ h. scattered_has f.changes l.dimension 0 f.variables l.dimension h.0 h.1 (omega arith) h.2,
)

-- ---- loops

from_some : (x y : ℕ) → Some x ≡ Some y → x ≡ y
from_some x y e = cc

has_loop_decides : (loops : List Loop) (x : List ℕ) → Decides (has_loop loops x) (Any (λ l. l.name ≡ x) loops)
has_loop_decides loops x = any_decides (λ l. same_name l.name x) (λ l. l.name ≡ x) (λ l. name_decides l.name x) loops

mark_decides : (o : Option Mark) → Decides (elim o [ Some m ↦ true | None ↦ false ]) ((m : Mark) × (o ≡ Some m))
mark_decides (Some m) = (λ e. (m, refl), λ e. refl)
mark_decides None = (λ e. absurd (false≢true e), λ e. let h : None ≡ Some e.0 = e.1 in absurd (cc))

marked_decides : (l : Loop) → Decides (is_marked l) (IsMarked l)
marked_decides l = mark_decides l.mark

within_decides : (o : Option ℕ) → Decides (elim o [ Some n ↦ nat_le n 64 | None ↦ false ]) ((n : ℕ) × (o ≡ Some n) × (n ≤ 64))
within_decides (Some n) = (λ e. (n, refl, leb-true n 64 e), λ h. let same : n ≡ h.0 = from_some n h.0 h.1 in le-leb n 64 (subst (λ (m : ℕ). m ≤ 64) (sym same) h.2))
within_decides None = (λ e. absurd (false≢true e), λ h. let no : None ≡ Some h.0 = h.1 in absurd (cc))

short_decides : (l : Loop) → Decides (is_short l) (IsShort l)
short_decides l = within_decides l.within

vectorized_mark : (o : Option Mark) → Decides (elim o [ Some mark.Vectorized ↦ true | _ ↦ false ]) (o ≡ Some mark.Vectorized)
vectorized_mark (Some mark.Vectorized) = (λ e. refl, λ e. refl)
vectorized_mark o = (λ e. absurd (false≢true e), λ e. cc)

parallel_mark : (o : Option Mark) → Decides (elim o [ Some mark.Parallel ↦ true | _ ↦ false ]) (o ≡ Some mark.Parallel)
parallel_mark (Some mark.Parallel) = (λ e. refl, λ e. refl)
parallel_mark o = (λ e. absurd (false≢true e), λ e. cc)

tail_decides : (t : Tail) → Decides (elim t [ tails.Shift ↦ true | tails.Guard ↦ false | tails.Roundup ↦ false ]) (t ≡ tails.Shift)
tail_decides tails.Shift = (λ e. refl, λ e. refl)
tail_decides tails.Guard = (λ e. absurd (false≢true e), λ e. cc)
tail_decides tails.Roundup = (λ e. absurd (false≢true e), λ e. cc)

shifted_decides : (c : Split) → Decides (is_shifted c) (c.tail ≡ tails.Shift)
shifted_decides c = tail_decides c.tail

vectorized_decides : (l : Loop) → Decides (is_vectorized l) (IsVectorized l)
vectorized_decides l = vectorized_mark l.mark

parallel_decides : (l : Loop) → Decides (is_parallel l) (IsParallel l)
parallel_decides l = parallel_mark l.mark

some_loop_decides : (p : PlacedText) (x : List ℕ) (test : Loop → Bool) (P : Loop → Type 0) → ((l : Loop) → Decides (test l) (P l)) → Decides (list_any (λ l. same_name l.name x && test l) p.loops) (SomeLoop p x P)
some_loop_decides p x test P each = any_decides (λ l. same_name l.name x && test l) (λ l. (l.name ≡ x) × P l) (λ l. Decides-and (same_name l.name x) (test l) (name_decides l.name x) (each l)) p.loops

-- ---- of one function

regroup : (a b c d e g : Bool) → (a || b || c || d || e || g) ≡ (a || (b || (c || (d || (e || g)))))
regroup true b c d e g = refl
regroup false true c d e g = refl
regroup false false true d e g = refl
regroup false false false true e g = refl
regroup false false false false e g = refl

regroup_three : (a b c : Bool) → (a || b || c) ≡ (a || (b || c))
regroup_three true b c = refl
regroup_three false b c = refl

twice_of : (x : List ℕ) (xs : List (List ℕ)) → Contains xs x → IsTwice (x ∷ xs)
twice_of x xs h = (0, suc h.0, x, omega arith, refl, slice_get_read xs (length xs) h.0 x refl h.1 (sym h.2))

twice_later : (x : List ℕ) (xs : List (List ℕ)) → IsTwice xs → IsTwice (x ∷ xs)
twice_later x xs h = (suc h.0, suc h.1, h.2, omega (arith, h.3), h.4, h.5)

twice_is : (xs : List (List ℕ)) → has_double xs ≡ true → IsTwice xs
twice_is [] e = absurd (false≢true e)
twice_is (x ∷ xs) e = or_cases (is_among xs x) (has_double xs) e (λ h. twice_of x xs ((among_decides xs x).0 h)) (λ h. twice_later x xs (twice_is xs h))

contains_at : (xs : List (List ℕ)) (j : ℕ) (x : List ℕ) → slice_get xs j ≡ Some x → Contains xs x
contains_at xs j x at = (j, slice_get_within xs j x at, get_or_from_slice_get xs j x x at)

twice_has : (xs : List (List ℕ)) (i j : ℕ) (x : List ℕ) → i < j → slice_get xs i ≡ Some x → slice_get xs j ≡ Some x → has_double xs ≡ true
twice_has [] i j x lt a b = absurd (cc)
twice_has (y ∷ ys) i zero x lt a b = absurd (omega (arith, lt))
twice_has (y ∷ ys) zero (suc j) x lt a b =
    let same : x ≡ y = cc in
    or_first (is_among ys y) (has_double ys) ((among_decides ys y).1 (contains_at ys j y (b ∙ ap (λ (z : List ℕ). Some z) same)))
twice_has (y ∷ ys) (suc i) (suc j) x lt a b = or_second (is_among ys y) (has_double ys) (twice_has ys i j x (omega (arith, lt)) a b)

pub double_decides : (xs : List (List ℕ)) → Decides (has_double xs) (IsTwice xs)
double_decides xs = (twice_is xs, λ h. twice_has xs h.0 h.1 h.2 h.3 h.4 h.5)

module _ (a : Algorithm) (s : Schedule) (f : Function) where
  abbrev subject : SubjectText
  subject = subject_said a s f

  pub known_decides : (p : PlacedText) (x : List ℕ) → Decides (not (is_known subject p.loops x)) (IsNoLoop f p x)
  known_decides p x = neither (is_known subject p.loops x) (Decides-or (has_loop p.loops x) (is_among subject.reductions x) (has_loop_decides p.loops x) (reduction_decides f x))

  pub all_known_decides : (p : PlacedText) (xs : List (List ℕ)) → Decides (not (all_known subject p.loops xs)) (Any (IsNoLoop f p) xs)
  all_known_decides p xs = Decides-at _ _ (not_all (is_known subject p.loops) xs) (any_decides (λ x. not (is_known subject p.loops x)) (IsNoLoop f p) (known_decides p) xs)

  pub bad_split_decides : (p : PlacedText) (c : Split) → Decides (breaks_split subject p c) (IsReduction f c.whole ⊎ Contains p.used c.outer ⊎ Contains p.used c.inner ⊎ (c.outer ≡ c.inner) ⊎ (c.factor ≡ 0) ⊎ (1024 < c.factor))
  bad_split_decides p c = Decides-at _ _ (regroup (is_among subject.reductions c.whole) (is_among p.used c.outer) (is_among p.used c.inner) (same_name c.outer c.inner) (c.factor == 0) (nat_lt 1024 c.factor))
      (Decides-or _ _ (reduction_decides f c.whole) (Decides-or _ _ (among_decides p.used c.outer) (Decides-or _ _ (among_decides p.used c.inner)
      (Decides-or _ _ (name_decides c.outer c.inner) (Decides-or _ _ (Decides-eqb c.factor 0) (Decides-ltb 1024 c.factor))))))

  pub bad_reorder_decides : (xs : List (List ℕ)) → Decides (any_reduction subject xs || has_double xs) (Any (IsReduction f) xs ⊎ IsTwice xs)
  bad_reorder_decides xs = Decides-or (any_reduction subject xs) (has_double xs) (any_decides (is_among subject.reductions) (IsReduction f) (reduction_decides f) xs) (double_decides xs)

  pub bad_lanes_decides : (p : PlacedText) (x : List ℕ) → Decides (is_among subject.reductions x || breaks_mark p.loops x) (IsBadLanes f p x)
  bad_lanes_decides p x = Decides-or (is_among subject.reductions x) (breaks_mark p.loops x) (reduction_decides f x)
      (some_loop_decides p x (λ l. is_marked l || not (is_short l)) (λ l. IsMarked l ⊎ ¬ IsShort l)
      (λ l. Decides-or (is_marked l) (not (is_short l)) (marked_decides l) (Decides-not (is_short l) (short_decides l))))

  pub bad_parallel_decides : (p : PlacedText) (x : List ℕ) → Decides (is_among subject.reductions x || not subject.is_root || breaks_parallel subject p.loops x) (IsReduction f x ⊎ (¬ IsRoot a s f) ⊎ SomeLoop p x (λ l. IsMarked l ⊎ IsScattered f l.dimension))
  bad_parallel_decides p x = Decides-at _ _ (regroup_three (is_among subject.reductions x) (not subject.is_root) (breaks_parallel subject p.loops x))
      (Decides-or _ _ (reduction_decides f x) (Decides-or _ _ (Decides-not subject.is_root (root_decides a s f))
      (some_loop_decides p x (λ l. is_marked l || is_scattered subject l) (λ l. IsMarked l ⊎ IsScattered f l.dimension)
      (λ l. Decides-or (is_marked l) (is_scattered subject l) (marked_decides l) (scattered_decides f l)))))

  -- ---- behind the last directive

  pub vectorized_outside_decides : (p : PlacedText) → Decides (has_vectorized_outside p.loops) (IsVectorizedOutside p)
  vectorized_outside_decides p = any_decides is_vectorized IsVectorized vectorized_decides (drop 1 p.loops)

  pub shifted_update_decides : (p : PlacedText) → Decides (has_updates subject && list_any is_shifted p.cuts) (IsShiftedUpdate f p)
  shifted_update_decides p = Decides-and (has_updates subject) (list_any is_shifted p.cuts) (Decides-ltb 0 (length f.changes)) (any_decides is_shifted (λ c. c.tail ≡ tails.Shift) shifted_decides p.cuts)

  pub inline_update_decides : Decides (has_updates subject && not subject.is_stored) (IsInlineUpdate a s f)
  inline_update_decides = Decides-and (has_updates subject) (not subject.is_stored) (Decides-ltb 0 (length f.changes)) (Decides-not subject.is_stored (stored_decides a s f))

-- ---- parallel loops inside others

abbrev IsInside : List Loop → Type 0
IsInside ls = (i j : ℕ) × (l m : Loop) × (i < j) × (slice_get ls i ≡ Some l) × (slice_get ls j ≡ Some m) × IsParallel l × ¬ IsParallel m

inside_later : (l : Loop) (ls : List Loop) → IsInside ls → IsInside (l ∷ ls)
inside_later l ls h = (suc h.0, suc h.1, h.2, h.3, omega (arith, h.4), h.5, h.6, h.7, h.8)

not_parallel_decides : (ls : List Loop) → Decides (not (list_all is_parallel ls)) (Any (λ l. ¬ IsParallel l) ls)
not_parallel_decides ls = Decides-at _ _ (not_all is_parallel ls) (any_decides (λ l. not (is_parallel l)) (λ l. ¬ IsParallel l) (λ l. Decides-not (is_parallel l) (parallel_decides l)) ls)

first_decides : (l : Loop) (ls : List Loop) → Decides (is_parallel l && not (list_all is_parallel ls)) (IsParallel l × Any (λ l. ¬ IsParallel l) ls)
first_decides l ls = Decides-and (is_parallel l) (not (list_all is_parallel ls)) (parallel_decides l) (not_parallel_decides ls)

inside_is : (ls : List Loop) → has_parallel_inside ls ≡ true → IsInside ls
inside_is [] e = absurd (false≢true e)
inside_is (l ∷ ls) e = or_cases (is_parallel l && not (list_all is_parallel ls)) (has_parallel_inside ls) e
    (λ h. let both = (first_decides l ls).0 h in let some = both.1 in
    (0, suc some.0, l, some.1, omega arith, refl, slice_get_read ls (length ls) some.0 some.1 refl some.2 (sym some.3), both.0, some.4))
    (λ h. inside_later l ls (inside_is ls h))

inside_has : (ls : List Loop) (i j : ℕ) (l m : Loop) → i < j → slice_get ls i ≡ Some l → slice_get ls j ≡ Some m → IsParallel l → ¬ IsParallel m → has_parallel_inside ls ≡ true
inside_has [] i j l m lt at to is differs = absurd (cc)
inside_has (x ∷ xs) i zero l m lt at to is differs = absurd (omega (arith, lt))
inside_has (x ∷ xs) zero (suc j) l m lt at to is differs =
    let same : l ≡ x = cc in
    or_first (is_parallel x && not (list_all is_parallel xs)) (has_parallel_inside xs)
    ((first_decides x xs).1 (subst IsParallel same is, (j, m, slice_get_within xs j m to, get_or_from_slice_get xs j m m to, differs)))
inside_has (x ∷ xs) (suc i) (suc j) l m lt at to is differs = or_second (is_parallel x && not (list_all is_parallel xs)) (has_parallel_inside xs) (inside_has xs i j l m (omega (arith, lt)) at to is differs)

pub inside_decides : (p : PlacedText) → Decides (has_parallel_inside p.loops) (IsParallelInside p)
inside_decides p = (inside_is p.loops, λ h. inside_has p.loops h.0 h.1 h.2 h.3 h.4 h.5 h.6 h.7 h.8)

-- ---- loops inside which none is parallel

flat_mark : (o : Option Mark) → Decides (elim o [ Some mark.Unrolled ↦ true | Some mark.Vectorized ↦ true | _ ↦ false ]) ((o ≡ Some mark.Unrolled) ⊎ (o ≡ Some mark.Vectorized))
flat_mark (Some mark.Unrolled) = (λ e. inl refl, λ e. refl)
flat_mark (Some mark.Vectorized) = (λ e. inr refl, λ e. refl)
flat_mark (Some mark.Parallel) = (λ e. absurd (false≢true e), λ e. ⊎_elim (λ h. absurd (cc)) (λ h. absurd (cc)) e)
flat_mark None = (λ e. absurd (false≢true e), λ e. ⊎_elim (λ h. absurd (cc)) (λ h. absurd (cc)) e)

open_decides : (x : List ℕ) (l : Loop) → Decides (is_open x l) ((l.name ≡ x) × ¬ IsFlat l)
open_decides x l = Decides-and (same_name l.name x) (not (is_flat l)) (name_decides l.name x) (Decides-not (is_flat l) (flat_mark l.mark))

serial_decides : (l : Loop) → Decides (not (is_parallel l)) (¬ IsParallel l)
serial_decides l = Decides-not (is_parallel l) (parallel_decides l)

both_of : (a b : Bool) → (a && b) ≡ true → (a ≡ true) × (b ≡ true)
both_of true b e = (refl, e)
both_of false b e = absurd (false≢true e)

and_of : (a b : Bool) → a ≡ true → b ≡ true → (a && b) ≡ true
and_of true b e f = f
and_of false b e f = absurd (false≢true e)

some_loop : (l m : Loop) → Some l ≡ Some m → l ≡ m
some_loop l m e = cc

-- the first is not parallel, and none of the next ones
none_before : (l : Loop) (ls : List Loop) (n : ℕ) → ¬ IsParallel l → ((j : ℕ) (m : Loop) → j < n → slice_get ls j ≡ Some m → ¬ IsParallel m) → (j : ℕ) (m : Loop) → j < suc n → slice_get (l ∷ ls) j ≡ Some m → ¬ IsParallel m
none_before l ls n serial more zero m lt at is = serial (subst IsParallel (sym (some_loop l m at)) is)
none_before l ls n serial more (suc j) m lt at is = more j m (omega (arith, lt)) at is

clear_later : (P : Loop → Type 0) (l : Loop) (ls : List Loop) → ¬ IsParallel l → StandsClear P ls → StandsClear P (l ∷ ls)
clear_later P l ls serial h = (suc h.0, h.1, h.2, h.3, none_before l ls h.0 serial h.4)

clear_here : (P : Loop → Type 0) (l : Loop) (ls : List Loop) → P l → StandsClear P (l ∷ ls)
clear_here P l ls h = (0, l, refl, h, λ j m lt. absurd (omega (arith, lt)))

open_is : (x : List ℕ) (ls : List Loop) → stands_open x ls ≡ true → IsHomeLoop x ls
open_is x [] e = absurd (false≢true e)
open_is x (l ∷ ls) e = or_cases (is_open x l) (not (is_parallel l) && stands_open x ls) e
    (λ h. clear_here (λ m. (m.name ≡ x) × ¬ IsFlat m) l ls ((open_decides x l).0 h))
    (λ h. let both = both_of _ _ h in clear_later (λ m. (m.name ≡ x) × ¬ IsFlat m) l ls ((serial_decides l).0 both.0) (open_is x ls both.1))

open_has : (x : List ℕ) (ls : List Loop) (i : ℕ) (l : Loop) → slice_get ls i ≡ Some l → (l.name ≡ x) × ¬ IsFlat l → ((j : ℕ) (m : Loop) → j < i → slice_get ls j ≡ Some m → ¬ IsParallel m) → stands_open x ls ≡ true
open_has x [] i l at is serial = absurd (cc)
open_has x (m ∷ ms) zero l at is serial = or_first (is_open x m) (not (is_parallel m) && stands_open x ms) ((open_decides x m).1 (subst (λ (n : Loop). (n.name ≡ x) × ¬ IsFlat n) (sym (some_loop m l at)) is))
open_has x (m ∷ ms) (suc i) l at is serial = or_second (is_open x m) (not (is_parallel m) && stands_open x ms)
    (and_of _ _ ((serial_decides m).1 (serial 0 m (omega arith) refl)) (open_has x ms i l at is (λ j n lt to. serial (suc j) n (omega (arith, lt)) to)))

home_loop_decides : (x : List ℕ) (ls : List Loop) → Decides (stands_open x ls) (IsHomeLoop x ls)
home_loop_decides x ls = (open_is x ls, λ h. open_has x ls h.0 h.1 h.2 h.3 h.4)

clear_is : (x : List ℕ) (ls : List Loop) → stands_clear x ls ≡ true → StandsClear (λ l. l.name ≡ x) ls
clear_is x [] e = absurd (false≢true e)
clear_is x (l ∷ ls) e = or_cases (same_name l.name x) (not (is_parallel l) && stands_clear x ls) e
    (λ h. clear_here (λ m. m.name ≡ x) l ls ((name_decides l.name x).0 h))
    (λ h. let both = both_of _ _ h in clear_later (λ m. m.name ≡ x) l ls ((serial_decides l).0 both.0) (clear_is x ls both.1))

clear_has : (x : List ℕ) (ls : List Loop) (i : ℕ) (l : Loop) → slice_get ls i ≡ Some l → l.name ≡ x → ((j : ℕ) (m : Loop) → j < i → slice_get ls j ≡ Some m → ¬ IsParallel m) → stands_clear x ls ≡ true
clear_has x [] i l at is serial = absurd (cc)
clear_has x (m ∷ ms) zero l at is serial = or_first (same_name m.name x) (not (is_parallel m) && stands_clear x ms) ((name_decides m.name x).1 (subst (λ (n : Loop). n.name ≡ x) (sym (some_loop m l at)) is))
clear_has x (m ∷ ms) (suc i) l at is serial = or_second (same_name m.name x) (not (is_parallel m) && stands_clear x ms)
    (and_of _ _ ((serial_decides m).1 (serial 0 m (omega arith) refl)) (clear_has x ms i l at is (λ j n lt to. serial (suc j) n (omega (arith, lt)) to)))

outside_here : (x y : List ℕ) (l : Loop) (ls : List Loop) → ¬ IsParallel l → l.name ≡ x → StandsClear (λ m. m.name ≡ y) ls → IsOutside x y (l ∷ ls)
outside_here x y l ls serial is h = (0, suc h.0, l, h.1, omega arith, refl, h.2, is, h.3, none_before l ls h.0 serial h.4)

outside_later : (x y : List ℕ) (l : Loop) (ls : List Loop) → ¬ IsParallel l → IsOutside x y ls → IsOutside x y (l ∷ ls)
outside_later x y l ls serial h = (suc h.0, suc h.1, h.2, h.3, omega (arith, h.4), h.5, h.6, h.7, h.8, none_before l ls h.1 serial h.9)

outside_is : (x y : List ℕ) (ls : List Loop) → stands_outside x y ls ≡ true → IsOutside x y ls
outside_is x y [] e = absurd (false≢true e)
outside_is x y (l ∷ ls) e =
    let both = both_of _ _ e in
    let serial = (serial_decides l).0 both.0 in
    or_cases (same_name l.name x && stands_clear y ls) (stands_outside x y ls) both.1
    (λ h. let here = both_of _ _ h in outside_here x y l ls serial ((name_decides l.name x).0 here.0) (clear_is y ls here.1))
    (λ h. outside_later x y l ls serial (outside_is x y ls h))

outside_has : (x y : List ℕ) (ls : List Loop) (i j : ℕ) (l m : Loop) → i < j → slice_get ls i ≡ Some l → slice_get ls j ≡ Some m → l.name ≡ x → m.name ≡ y → ((k : ℕ) (n : Loop) → k < j → slice_get ls k ≡ Some n → ¬ IsParallel n) → stands_outside x y ls ≡ true
outside_has x y [] i j l m lt at to is named serial = absurd (cc)
outside_has x y (n ∷ ns) i zero l m lt at to is named serial = absurd (omega (arith, lt))
outside_has x y (n ∷ ns) zero (suc j) l m lt at to is named serial = and_of _ _ ((serial_decides n).1 (serial 0 n (omega arith) refl))
    (or_first (same_name n.name x && stands_clear y ns) (stands_outside x y ns)
    (and_of _ _ ((name_decides n.name x).1 (subst (λ (o : Loop). o.name ≡ x) (sym (some_loop n l at)) is)) (clear_has y ns j m to named (λ k o less there. serial (suc k) o (omega (arith, less)) there))))
outside_has x y (n ∷ ns) (suc i) (suc j) l m lt at to is named serial = and_of _ _ ((serial_decides n).1 (serial 0 n (omega arith) refl))
    (or_second (same_name n.name x && stands_clear y ns) (stands_outside x y ns)
    (outside_has x y ns i j l m (omega (arith, lt)) at to is named (λ k o less there. serial (suc k) o (omega (arith, less)) there)))

outside_decides : (x y : List ℕ) (ls : List Loop) → Decides (stands_outside x y ls) (IsOutside x y ls)
outside_decides x y ls = (outside_is x y ls, λ h. outside_has x y ls h.0 h.1 h.2 h.3 h.4 h.5 h.6 h.7 h.8 h.9)

-- ---- where a function is computed and stored

module _ (a : Algorithm) (s : Schedule) (f : Function) (loops : Function → PlacedText) where
  homes_any : (h : Home) (gs : List Function) → has_home_in (subject_said a s f) h (map (subject_said a s) gs) (map loops gs) ≡ list_any (λ g. is_home (subject_said a s f) h (subject_said a s g) (loops g)) gs
  homes_any h [] = refl
  homes_any h (g ∷ gs) = ap (λ (b : Bool). is_home (subject_said a s f) h (subject_said a s g) (loops g) || b) (homes_any h gs)

  one_home_decides : (h : Home) (g : Function) → Decides (is_home (subject_said a s f) h (subject_said a s g) (loops g)) (((g.name ≡ h.function) × IsStored a s g) × ((¬ (g.name ≡ f.name)) × IsHomeLoop h.turn (loops g).loops))
  one_home_decides h g = Decides-and _ _ (Decides-and _ _ (name_decides g.name h.function) (stored_decides a s g))
      (Decides-and _ _ (Decides-not _ (name_decides g.name f.name)) (home_loop_decides h.turn (loops g).loops))

  home_decides : (h : Home) → Decides (has_home_in (subject_said a s f) h (map (subject_said a s) a.functions) (map loops a.functions)) (HasHome a s f loops h)
  home_decides h = Decides-at _ _ (homes_any h a.functions) (any_decides (λ g. is_home (subject_said a s f) h (subject_said a s g) (loops g))
      (λ g. ((g.name ≡ h.function) × IsStored a s g) × ((¬ (g.name ≡ f.name)) × IsHomeLoop h.turn (loops g).loops)) (one_home_decides h) a.functions)

  pub bad_home_decides : Decides (breaks_home (map (subject_said a s) a.functions) (map loops a.functions) (subject_said a s f) (loops f)) (IsBadHome a s f loops)
  bad_home_decides = Decides-or _ _ (Decides-and _ _ (root_decides a s f) (Decides-ltb 0 (length (loops f).homes)))
      (Decides-or _ _ (Decides-ltb 1 (length (loops f).homes))
      (any_decides (λ h. not (has_home_in (subject_said a s f) h (map (subject_said a s) a.functions) (map loops a.functions))) (λ h. ¬ HasHome a s f loops h) (λ h. Decides-not _ (home_decides h)) (loops f).homes))

  outsides_any : (h w : Home) (gs : List Function) → has_outside h w (map (subject_said a s) gs) (map loops gs) ≡ list_any (λ g. is_outside h w (subject_said a s g) (loops g)) gs
  outsides_any h w [] = refl
  outsides_any h w (g ∷ gs) = ap (λ (b : Bool). is_outside h w (subject_said a s g) (loops g) || b) (outsides_any h w gs)

  one_outside_decides : (h w : Home) (g : Function) → Decides (is_outside h w (subject_said a s g) (loops g)) ((g.name ≡ h.function) × IsOutside h.turn w.turn (loops g).loops)
  one_outside_decides h w g = Decides-and _ _ (name_decides g.name h.function) (outside_decides h.turn w.turn (loops g).loops)

  some_outside_decides : (h w : Home) → Decides (has_outside h w (map (subject_said a s) a.functions) (map loops a.functions)) (Any (λ g. (g.name ≡ h.function) × IsOutside h.turn w.turn (loops g).loops) a.functions)
  some_outside_decides h w = Decides-at _ _ (outsides_any h w a.functions) (any_decides (λ g. is_outside h w (subject_said a s g) (loops g)) (λ g. (g.name ≡ h.function) × IsOutside h.turn w.turn (loops g).loops) (one_outside_decides h w) a.functions)

  storage_decides : (w : Home) → Decides (has_storage (map (subject_said a s) a.functions) (map loops a.functions) (loops f) w) (HasStorage a f loops w)
  storage_decides w = any_decides (λ h. same_name w.function h.function && has_outside h w (map (subject_said a s) a.functions) (map loops a.functions))
      (λ h. (w.function ≡ h.function) × Any (λ g. (g.name ≡ h.function) × IsOutside h.turn w.turn (loops g).loops) a.functions)
      (λ h. Decides-and _ _ (name_decides w.function h.function) (some_outside_decides h w)) (loops f).homes

  pub bad_storage_decides : Decides (breaks_storage (map (subject_said a s) a.functions) (map loops a.functions) (loops f)) (IsBadStorage a f loops)
  bad_storage_decides = Decides-or _ _ (Decides-ltb 1 (length (loops f).stores))
      (any_decides (λ w. not (has_storage (map (subject_said a s) a.functions) (map loops a.functions) (loops f) w)) (λ w. ¬ HasStorage a f loops w) (λ w. Decides-not _ (storage_decides w)) (loops f).stores)

pub bad_fold_decides : (p : PlacedText) → Decides (breaks_fold p) (IsBadFold p)
bad_fold_decides p = Decides-or _ _ (Decides-and _ _ (Decides-ltb 0 (length p.folds)) (Decides-eqb (length p.stores) 0))
    (any_decides (λ d. d.factor == 0) (λ d. d.factor ≡ 0) (λ d. Decides-eqb d.factor 0) p.folds)
