-- Coordinates that are loops' symbols, and the numbers of spans.
use Rattle.std.proofs.Common.{◌≡◌, ℕ, zero, suc, Bool, true, false, List, [], ◌∷◌, ◌++◌, map, length, Some, None, refl, sym, ap, ◌∙◌, inl, inr, arith}
use Rattle.std.specs.Prelude.{ℤ, pos, negsuc, ◌+ℤ◌, ◌*ℤ◌, ◌≤ℤ◌, ◌||◌, ◌&&◌, not, if◌then◌else◌, ◌⊎◌, fold}
use Rattle.std.specs.List.{AllByRecursion, list_any, list_all}
use Rattle.std.specs.Ordering.{int_eq}
use Rattle.std.specs.Int.{int_max, int_min}
use Rattle.std.proofs.lemmas.Int.{ints, clamps}
use Rattle.lin.specs.Forms.{Form, is_zero, sum_of}
use Rattle.lin.specs.Search.{is_empty}
use Rattle.lin.specs.declared.form.Multiple.{Multiple}
use Rattle.lin.specs.declared.span.Span1.{Span1}
use Rattle.plan.specs.Plan.{Index, At, Found, Coordinate}
use Rattle.plan.specs.Symbols.{Symbols, form_value, largest, smallest, turns}
use Rattle.plan.specs.Semantics.Actions.{Fixed, fixed, index_target, target, are_fixed}
use Rattle.soundness.specs.Origins.{Given}
use Rattle.soundness.specs.Claims.{In}
use Rattle.soundness.specs.Obligations.{Lies, LieIn, Binder, Respects, Rules, Suited, NotMade, Inside, is_form, has_form}
use Rattle.soundness.specs.Shown.{Nests, AreRightNests, is_within, are_within}
use Rattle.soundness.proofs.Refines.{eq_true, and_parts, number_true}
use Rattle.soundness.proofs.Sound.{or_left, or_right, or_cases}
use Rattle.soundness.proofs.Forms.{rec_map, is_not}
use Rattle.soundness.proofs.Shown.{shown_meant}
use Rattle.soundness.proofs.Turns.{turns_have}
use Rattle.soundness.specs.Nests.Nest.{Loop, one_term, symbol_of, is_number, index_is, is_symbol}
use Rattle.soundness.specs.Nests.Tests.{is_once, is_given, has_ends, span_at, is_run}

pub never : {A : Type 0} → false ≡ true → A
never e = absurd (cc e)

-- ---- members

pub any_in : {A : Type 0} (test : A → Bool) (xs : List A) → list_any test xs ≡ true → (x : A) × In x xs × (test x ≡ true)
any_in test [] h = absurd (cc h)
any_in test (x ∷ xs) h = of (or_cases (test x) (list_any test xs) h) (λ k. any_in test xs k)
  where
    of : (test x ≡ true) ⊎ (list_any test xs ≡ true) → (list_any test xs ≡ true → (y : _) × In y xs × (test y ≡ true)) → (y : _) × In y (x ∷ xs) × (test y ≡ true)
    of (inl e) rest = (x, inl refl, e)
    of (inr e) rest = let k = rest e in (k.0, inr k.1, k.2)

pub all_in : {A : Type 0} (test : A → Bool) (xs : List A) → list_all test xs ≡ true → (x : A) → In x xs → test x ≡ true
all_in test [] h x m = absurd m
all_in test (y ∷ ys) h x (inl e) = ap test e ∙ (and_parts (test y) (list_all test ys) h).0
all_in test (y ∷ ys) h x (inr m) = all_in test ys (and_parts (test y) (list_all test ys) h).1 x m

pub none_in : {A : Type 0} (test : A → Bool) (xs : List A) → list_any test xs ≡ false → (x : A) → In x xs → test x ≡ false
none_in test [] h x m = absurd m
none_in test (y ∷ ys) h x (inl e) = ap test e ∙ or_left (test y) (list_any test ys) h
none_in test (y ∷ ys) h x (inr m) = none_in test ys (or_right (test y) (list_any test ys) h) x m

pub in_mapped : {A B : Type 0} (g : A → B) (a : A) (xs : List A) → In a xs → In (g a) (map g xs)
in_mapped g a [] m = absurd m
in_mapped g a (x ∷ xs) (inl e) = inl (ap g e)
in_mapped g a (x ∷ xs) (inr m) = inr (in_mapped g a xs m)

-- ---- forms that are symbols

term_value : (c : ℤ) (t : Multiple) (i : ℕ) (v : ℕ → ℤ) (w : Bool) → c ≡ pos 0 → int_eq t.factor (pos 1) ≡ w → is_number i (if w then Some t.symbol else None) ≡ true → c +ℤ (t.factor *ℤ v t.symbol +ℤ pos 0) ≡ v i
term_value c t i v true z e h =
    let one : t.factor ≡ pos 1 = number_true t.factor (pos 1) e in
    ap (λ d. d +ℤ (t.factor *ℤ v t.symbol +ℤ pos 0)) z ∙ ap (λ k. pos 0 +ℤ (k *ℤ v t.symbol +ℤ pos 0)) one ∙ ap (λ j. pos 0 +ℤ (pos 1 *ℤ v j +ℤ pos 0)) (eq_true t.symbol i h) ∙ omega (arith, ints)
term_value c t i v false z e h = absurd (cc h)

terms_value : (c : ℤ) (ts : List Multiple) (i : ℕ) (v : ℕ → ℤ) → c ≡ pos 0 → is_number i (one_term ts) ≡ true → c +ℤ sum_of ts v ≡ v i
terms_value c [] i v z h = absurd (cc h)
terms_value c (t ∷ []) i v z h = term_value c t i v (int_eq t.factor (pos 1)) z refl h
terms_value c (t ∷ u ∷ ts) i v z h = absurd (cc h)

zero_value : (c : ℤ) (ts : List Multiple) (i : ℕ) (v : ℕ → ℤ) → is_number i (if is_zero c then one_term ts else None) ≡ true → c +ℤ sum_of ts v ≡ v i
zero_value (pos zero) ts i v h = terms_value (pos zero) ts i v refl h
zero_value (pos (suc n)) ts i v h = absurd (cc h)
zero_value (negsuc n) ts i v h = absurd (cc h)

pub form_symbol : (s : Symbols) (i : ℕ) (l : Form) → is_number i (symbol_of l) ≡ true → form_value l s ≡ s.value i
form_symbol s i l h = zero_value l.constant l.terms i s.value h

-- ---- points

-- the number of the coordinate that is the symbol
abbrev pub coordinate : ℕ → List Coordinate → List ℤ → ℤ
coordinate i [] p = pos 0
coordinate i (c ∷ cs) [] = pos 0
coordinate i (c ∷ cs) (z ∷ zs) = if is_symbol i c then z else coordinate i cs zs

-- each coordinate that is the symbol has its value
abbrev pub Pairs : ℕ → ℤ → List Coordinate → List ℤ → Type 0
Pairs i w [] p = Unit {0}
Pairs i w (c ∷ cs) [] = Unit {0}
Pairs i w (c ∷ cs) (z ∷ zs) = (is_symbol i c ≡ true → z ≡ w) × Pairs i w cs zs

none_paired : (i : ℕ) (w : ℤ) (cs : List Coordinate) (p : List ℤ) → list_any (is_symbol i) cs ≡ false → Pairs i w cs p
none_paired i w [] p h = tt
none_paired i w (c ∷ cs) [] h = tt
none_paired i w (c ∷ cs) (z ∷ zs) h = (
  (λ e. let no : is_symbol i c ≡ false = or_left (is_symbol i c) (list_any (is_symbol i) cs) h in absurd (cc (e, no))),
  none_paired i w cs zs (or_right (is_symbol i c) (list_any (is_symbol i) cs) h),
)

pair_one : (i : ℕ) (c : Coordinate) (cs : List Coordinate) (z y : ℤ) (zs : List ℤ) (b v : Bool) → is_symbol i c ≡ v → (if v then not (list_any (is_symbol i) cs) else b) ≡ true → (b ≡ true → Pairs i y cs zs) → Pairs i (if v then z else y) (c ∷ cs) (z ∷ zs)
pair_one i c cs z y zs b true e h rest = ((λ k. refl), none_paired i z cs zs (is_not (list_any (is_symbol i) cs) h))
pair_one i c cs z y zs b false e h rest = ((λ k. absurd (cc (k, e))), rest h)

-- a symbol of one coordinate has its number wherever it stands
pub paired : (i : ℕ) (cs : List Coordinate) (p : List ℤ) → is_once i cs ≡ true → Pairs i (coordinate i cs p) cs p
paired i [] p h = tt
paired i (c ∷ cs) [] h = tt
paired i (c ∷ cs) (z ∷ zs) h = pair_one i c cs z (coordinate i cs zs) zs (is_once i cs) (is_symbol i c) refl h (λ e. paired i cs zs e)

once_front : (i : ℕ) (cs ds : List Coordinate) → is_once i (cs ++ ds) ≡ true → (is_once i cs ≡ true) ⊎ (list_any (is_symbol i) cs ≡ false)
once_front i [] ds h = inr refl
once_front i (c ∷ cs) ds h = of (is_symbol i c) h (once_front i cs ds)
  where
    of : (v : Bool) → (if v then not (list_any (is_symbol i) (cs ++ ds)) else is_once i (cs ++ ds)) ≡ true → (is_once i (cs ++ ds) ≡ true → (is_once i cs ≡ true) ⊎ (list_any (is_symbol i) cs ≡ false)) →
        ((if v then not (list_any (is_symbol i) cs) else is_once i cs) ≡ true) ⊎ ((v || list_any (is_symbol i) cs) ≡ false)
    of true k rest = inl (any_front cs ds k)
      where
        any_front : (xs ys : List Coordinate) → not (list_any (is_symbol i) (xs ++ ys)) ≡ true → not (list_any (is_symbol i) xs) ≡ true
        any_front [] ys e = refl
        any_front (x ∷ xs) ys e = or_both (is_symbol i x) (list_any (is_symbol i) (xs ++ ys)) (list_any (is_symbol i) xs) e (any_front xs ys)
          where
            or_both : (a b c : Bool) → not (a || b) ≡ true → (not b ≡ true → not c ≡ true) → not (a || c) ≡ true
            or_both true b c e f = absurd (cc e)
            or_both false b c e f = f e
    of false k rest = rest k

pub front_paired : (i : ℕ) (cs ds : List Coordinate) (p : List ℤ) → is_once i (cs ++ ds) ≡ true → Pairs i (coordinate i cs p) cs p
front_paired i cs ds p h = of (once_front i cs ds h)
  where
    of : (is_once i cs ≡ true) ⊎ (list_any (is_symbol i) cs ≡ false) → Pairs i (coordinate i cs p) cs p
    of (inl k) = paired i cs p k
    of (inr k) = none_paired i (coordinate i cs p) cs p k

-- what a coordinate that is a symbol comes to
abbrev pub IsAt : Symbols → ℤ → Coordinate → Type 0
IsAt s z c = (is_form c ≡ true) × (target s c ≡ Fixed z)

index_at : (s : Symbols) (i : ℕ) (x : Index) → index_is i x ≡ true → (has_form x ≡ true) × (index_target s x ≡ Fixed (s.value i))
index_at s i (At l) h = (refl, ap Fixed (form_symbol s i l h))
index_at s i (Found e) h = absurd (cc h)

pub symbol_at : (s : Symbols) (i : ℕ) (c : Coordinate) → is_symbol i c ≡ true → IsAt s (s.value i) c
symbol_at s i c h = index_at s i c.index h

given_by : (ls : List Loop) (c : Coordinate) → is_form c ≡ true → is_given ls c ≡ true → (l : Loop) × In l ls × (is_symbol l.symbol c ≡ true)
given_by ls c f h = any_in (λ l. is_symbol l.symbol c) ls (of (is_form c) (list_any (λ l. is_symbol l.symbol c) ls) f h)
  where
    of : (v w : Bool) → v ≡ true → (not v || w) ≡ true → w ≡ true
    of true w e k = k
    of false w e k = absurd (cc e)

-- the point that the coordinates come to where each loop's symbol has its number
pub point_same : (s : Symbols) (ls : List Loop) (v : ℕ → ℤ) (cs : List Coordinate) (p : List ℤ) → length cs ≡ length p → list_all is_form cs ≡ true → list_all (is_given ls) cs ≡ true →
    ((l : Loop) → In l ls → Pairs l.symbol (v l.symbol) cs p) → ((l : Loop) → In l ls → s.value l.symbol ≡ v l.symbol) → map (target s) cs ≡ map Fixed p
point_same s ls v [] [] many forms all pairs values = refl
point_same s ls v [] (z ∷ zs) many forms all pairs values = absurd (omega (arith, many))
point_same s ls v (c ∷ cs) [] many forms all pairs values = absurd (omega (arith, many))
point_same s ls v (c ∷ cs) (z ∷ zs) many forms all pairs values =
    let f = and_parts (is_form c) (list_all is_form cs) forms in
    let a = and_parts (is_given ls c) (list_all (is_given ls) cs) all in
    let l = given_by ls c f.0 a.0 in
    let head : target s c ≡ Fixed z = (symbol_at s l.0.symbol c l.2).1 ∙ ap Fixed (values l.0 l.1 ∙ sym ((pairs l.0 l.1).0 l.2)) in
    let rest = point_same s ls v cs zs (omega (arith, many)) f.1 a.1 (λ m n. (pairs m n).1) values in
    λ j. head j ∷ rest j

pub points_fixed : (p : List ℤ) → (are_fixed (map Fixed p) ≡ true) × (map fixed (map Fixed p) ≡ p)
points_fixed [] = (refl, refl)
points_fixed (z ∷ zs) = let k = points_fixed zs in (k.0, ap (λ ws. z ∷ ws) k.1)

-- ---- the numbers of spans

max_below : (z a : ℤ) (xs : List ℤ) → a ≤ℤ z → AllByRecursion (λ x. x ≤ℤ z) xs → fold int_max a xs ≤ℤ z
max_below z a [] h k = h
max_below z a (x ∷ xs) h k = max_below z (int_max a x) xs (let g = k.0 in omega (arith, ints, clamps, h, g)) k.1

min_above : (z a : ℤ) (xs : List ℤ) → z ≤ℤ a → AllByRecursion (λ x. z ≤ℤ x) xs → z ≤ℤ fold int_min a xs
min_above z a [] h k = h
min_above z a (x ∷ xs) h k = min_above z (int_min a x) xs (let g = k.0 in omega (arith, ints, clamps, h, g)) k.1

largest_below : (s : Symbols) (ls : List Form) (z : ℤ) → not (is_empty ls) ≡ true → AllByRecursion (λ l. form_value l s ≤ℤ z) ls → largest s ls ≤ℤ z
largest_below s [] z h k = absurd (cc h)
largest_below s (l ∷ ls) z h k = max_below z (form_value l s) (map (λ m. form_value m s) ls) k.0 (rec_map (λ m. form_value m s) (λ x. x ≤ℤ z) ls k.1)

smallest_above : (s : Symbols) (us : List Form) (z : ℤ) → not (is_empty us) ≡ true → AllByRecursion (λ u. z ≤ℤ form_value u s) us → z ≤ℤ smallest s us
smallest_above s [] z h k = absurd (cc h)
smallest_above s (u ∷ us) z h k = min_above z (form_value u s) (map (λ m. form_value m s) us) k.0 (rec_map (λ m. form_value m s) (λ x. z ≤ℤ x) us k.1)

pub ends_hold : (s : Symbols) (x : Span1) (z : ℤ) → has_ends x ≡ true → Lies s x z → (largest s x.lower ≤ℤ z) × (z ≤ℤ smallest s x.upper)
ends_hold s x z h l =
    let e = and_parts (not (is_empty x.lower)) (not (is_empty x.upper)) h in
    (largest_below s x.lower z e.0 l.0, smallest_above s x.upper z e.1 l.1)

pub turn_has : (s : Symbols) (x : Span1) (z : ℤ) → has_ends x ≡ true → Lies s x z → In z (turns s x)
turn_has s x z h l = let e = ends_hold s x z h l in turns_have s x _ _ z refl refl e.0 e.1

-- ---- spans within others

module _ (given : Given) (rules : Rules) (suited : Suited given rules) (bs : List Binder) (s : Symbols) (r : Respects bs s) where
  abbrev no_nests : Nests
  no_nests = record { is_made = λ ds c from places a. false; is_in_turn = λ ds c a. false; is_slid = λ ds w c places a. false; is_held = λ ds w c places a. false }

  none_right : AreRightNests given no_nests
  none_right = record {
    made = λ ds c from places a t h k. let no : false ≡ true = h in absurd (cc no);
    in_turn = λ ds c a t h k. let no : false ≡ true = h in absurd (cc no);
    slides = λ ds w c places a t h k l. let no : false ≡ true = h in absurd (cc no);
  }

  pub all_inside : (xs ys : List Span1) → are_within rules bs xs ys ≡ true → (p : List ℤ) → LieIn s xs p → LieIn s ys p
  all_inside xs ys h p l = shown_meant given rules no_nests suited none_right (record { code = NotMade; line = 0; binders = bs; wanted = Inside xs ys }) h s r p l

  pub one_inside : (x y : Span1) → is_within rules bs x y ≡ true → (z : ℤ) → Lies s x z → Lies s y z
  one_inside x y h z l = (all_inside (x ∷ []) (y ∷ []) (ap (λ v. v && true) h) (z ∷ []) (l, tt)).0

  -- a point of the region gives each loop a turn
  pub run_lies : (i : ℕ) (cs : List Coordinate) (region : List Span1) (p : List ℤ) (y : Span1) → is_run rules bs (span_at i cs region) y ≡ true → LieIn s region p → Lies s y (coordinate i cs p)
  run_lies i [] region p y h l = absurd (cc h)
  run_lies i (c ∷ cs) [] p y h l = absurd (cc h)
  run_lies i (c ∷ cs) (x ∷ xs) [] y h l = absurd l
  run_lies i (c ∷ cs) (x ∷ xs) (z ∷ zs) y h l = of (is_symbol i c) h (λ k. run_lies i cs xs zs y k l.1)
    where
      of : (v : Bool) → is_run rules bs (if v then Some x else span_at i cs xs) y ≡ true → (is_run rules bs (span_at i cs xs) y ≡ true → Lies s y (coordinate i cs zs)) → Lies s y (if v then z else coordinate i cs zs)
      of true k rest = one_inside x y k z l.0
      of false k rest = rest k

pub lie_length : (s : Symbols) (xs : List Span1) (p : List ℤ) → LieIn s xs p → length xs ≡ length p
lie_length s [] [] l = refl
lie_length s [] (z ∷ zs) l = absurd l
lie_length s (x ∷ xs) [] l = absurd l
lie_length s (x ∷ xs) (z ∷ zs) l = ap suc (lie_length s xs zs l.1)
