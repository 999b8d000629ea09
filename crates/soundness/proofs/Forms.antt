-- Forms, spans and regions where one symbol more is bound.
use Rattle.std.proofs.Common.{◌≡◌, ℕ, Bool, true, false, List, [], ◌∷◌, ◌++◌, map, refl, sym, ap, ◌∙◌, subst, arith}
use Rattle.std.specs.Prelude.{ℤ, ◌+ℤ◌, ◌*ℤ◌, ◌≤ℤ◌, IsTrue, ◌==◌, ◌||◌, not, if◌then◌else◌, filter, fold}
use Rattle.std.specs.Int.{int_max, int_min}
use Rattle.std.specs.List.{AllByRecursion, list_any}
use Rattle.std.proofs.lemmas.Int.{ints, fold-int_max_bounds, fold-int_min_bounds}
use Rattle.std.proofs.lemmas.List.Elements.{All-from_recursion, recursion_from_All}
use Rattle.lin.specs.Forms.{Form, sum_of}
use Rattle.lin.specs.Spans.{IsInSpan}
use Rattle.lin.specs.declared.form.Multiple.{Multiple}
use Rattle.lin.specs.declared.span.Span1.{Span1}
use Rattle.plan.specs.declared.stmt.Places.{Places}
use Rattle.plan.specs.declared.stmt.Places.TheVariants.{From, Folded}
use Rattle.plan.specs.declared.stmt.Pick.{Pick}
use Rattle.plan.specs.declared.stmt.Pick.TheVariants.{Min, Max}
use Rattle.plan.specs.Symbols.{Symbols, bind, form_value, InRegion, turns, points, largest, smallest}
use Rattle.plan.specs.Rooms.{Straight, Wrapped, room}
use Rattle.soundness.specs.Claims.{In}
use Rattle.soundness.specs.Obligations.{Lies, LieIn, Binder, Ranged, Picked, Passed, picked, Respects, is_member, form_has, span_has, binder_has, places_have}
use Rattle.soundness.proofs.Refines.{eq_true, eq_refl}
use Rattle.soundness.proofs.Sound.{or_left, or_right}
use Rattle.soundness.proofs.Turns.{point_parts, only_nil, turns_within}

pub is_so : (b : Bool) → IsTrue b → b ≡ true
is_so b h = h

pub is_not : (b : Bool) → IsTrue (not b) → b ≡ false
is_not true h = absurd (cc h)
is_not false h = refl

pub rec_map : {A B : Type 0} (f : A → B) (P : B → Type 0) (xs : List A) → AllByRecursion (λ x. P (f x)) xs → AllByRecursion P (map f xs)
rec_map f P [] h = tt
rec_map f P (x ∷ xs) h = (h.0, rec_map f P xs h.1)

pub map_rec : {A B : Type 0} (f : A → B) (P : B → Type 0) (xs : List A) → AllByRecursion P (map f xs) → AllByRecursion (λ x. P (f x)) xs
map_rec f P [] h = tt
map_rec f P (x ∷ xs) h = (h.0, map_rec f P xs h.1)

pub rec_weaker : {A : Type 0} (P Q : A → Type 0) → ((a : A) → P a → Q a) → (xs : List A) → AllByRecursion P xs → AllByRecursion Q xs
rec_weaker P Q f [] h = tt
rec_weaker P Q f (x ∷ xs) h = (f x h.0, rec_weaker P Q f xs h.1)

pub rec_left : {A : Type 0} (P : A → Type 0) (xs ys : List A) → AllByRecursion P (xs ++ ys) → AllByRecursion P xs
rec_left P [] ys h = tt
rec_left P (x ∷ xs) ys h = (h.0, rec_left P xs ys h.1)

pub rec_right : {A : Type 0} (P : A → Type 0) (xs ys : List A) → AllByRecursion P (xs ++ ys) → AllByRecursion P ys
rec_right P [] ys h = h
rec_right P (x ∷ xs) ys h = rec_right P xs ys h.1

-- ---- spans as ranges

pub lies_range : (s : Symbols) (x : Span1) (z : ℤ) → IsInSpan x s.value z → Lies s x z
lies_range s x z h = (recursion_from_All (λ l. form_value l s ≤ℤ z) x.lower h.0, recursion_from_All (λ u. z ≤ℤ form_value u s) x.upper h.1)

pub range_lies : (s : Symbols) (x : Span1) (z : ℤ) → Lies s x z → IsInSpan x s.value z
range_lies s x z h = (All-from_recursion (λ l. form_value l s ≤ℤ z) x.lower h.0, All-from_recursion (λ u. z ≤ℤ form_value u s) x.upper h.1)

pub region_lies : (s : Symbols) (xs : List Span1) (p : List ℤ) → InRegion s xs p → LieIn s xs p
region_lies s [] [] h = tt
region_lies s [] (z ∷ zs) h = absurd h
region_lies s (x ∷ xs) [] h = absurd h
region_lies s (x ∷ xs) (z ∷ zs) h = (lies_range s x z h.0, region_lies s xs zs h.1)

pub lies_region : (s : Symbols) (xs : List Span1) (p : List ℤ) → LieIn s xs p → InRegion s xs p
lies_region s [] [] h = tt
lies_region s [] (z ∷ zs) h = absurd h
lies_region s (x ∷ xs) [] h = absurd h
lies_region s (x ∷ xs) (z ∷ zs) h = (range_lies s x z h.0, lies_region s xs zs h.1)

lower_all : (s : Symbols) (ls : List Form) (z : ℤ) → largest s ls ≤ℤ z → AllByRecursion (λ l. form_value l s ≤ℤ z) ls
lower_all s [] z h = tt
lower_all s (l ∷ ls) z h =
    let k = fold-int_max_bounds (form_value l s) (map (λ m. form_value m s) ls) _ refl in
    let first = k.0 in (
      omega (arith, ints, first, h),
      rec_weaker (λ m. form_value m s ≤ℤ largest s (l ∷ ls)) (λ m. form_value m s ≤ℤ z) (λ m g. omega (arith, ints, g, h)) ls
          (map_rec (λ m. form_value m s) (λ v. v ≤ℤ largest s (l ∷ ls)) ls (recursion_from_All (λ v. v ≤ℤ largest s (l ∷ ls)) (map (λ m. form_value m s) ls) k.1)),
    )

upper_all : (s : Symbols) (us : List Form) (z : ℤ) → z ≤ℤ smallest s us → AllByRecursion (λ u. z ≤ℤ form_value u s) us
upper_all s [] z h = tt
upper_all s (u ∷ us) z h =
    let k = fold-int_min_bounds (form_value u s) (map (λ m. form_value m s) us) _ refl in
    let first = k.0 in (
      omega (arith, ints, first, h),
      rec_weaker (λ m. smallest s (u ∷ us) ≤ℤ form_value m s) (λ m. z ≤ℤ form_value m s) (λ m g. omega (arith, ints, g, h)) us
          (map_rec (λ m. form_value m s) (λ v. smallest s (u ∷ us) ≤ℤ v) us (recursion_from_All (λ v. smallest s (u ∷ us) ≤ℤ v) (map (λ m. form_value m s) us) k.1)),
    )

-- a turn of a loop lies in its span
pub turn_lies : (s : Symbols) (x : Span1) (z : ℤ) → In z (turns s x) → Lies s x z
turn_lies s x z m =
    let k = turns_within s x _ _ z refl refl m in
    (lower_all s x.lower z k.0, upper_all s x.upper z k.1)

-- a point of a region's list lies in it
pub point_lies : (s : Symbols) (xs : List Span1) (p : List ℤ) → In p (points s xs) → LieIn s xs p
point_lies s [] p m = subst (LieIn s []) (sym (only_nil p m)) tt
point_lies s (x ∷ xs) p m =
    let k = point_parts s x xs p m in
    subst (LieIn s (x ∷ xs)) (sym k.2) (turn_lies s x k.0 k.3, point_lies s xs k.1 k.4)

-- ---- one symbol more

module _ (s : Symbols) (i : ℕ) (z : ℤ) (b : Bool) where
  other_value : (j : ℕ) → (j == i) ≡ false → (bind s i z b).value j ≡ s.value j
  other_value j h = rw h refl

  terms_same : (ts : List Multiple) → list_any (λ t. t.symbol == i) ts ≡ false → sum_of ts (bind s i z b).value ≡ sum_of ts s.value
  terms_same [] h = refl
  terms_same (t ∷ ts) h =
      let rest = terms_same ts (or_right (t.symbol == i) (list_any (λ t. t.symbol == i) ts) h) in
      let head = other_value t.symbol (or_left (t.symbol == i) (list_any (λ t. t.symbol == i) ts) h) in
      ap (λ v. t.factor *ℤ v +ℤ sum_of ts (bind s i z b).value) head ∙ ap (λ r. t.factor *ℤ s.value t.symbol +ℤ r) rest

  pub value_same : (f : Form) → form_has i f ≡ false → form_value f (bind s i z b) ≡ form_value f s
  value_same f h = ap (λ v. f.constant +ℤ v) (terms_same f.terms h)

  all_same : (P : ℤ → Type 0) (fs : List Form) → list_any (form_has i) fs ≡ false → AllByRecursion (λ f. P (form_value f (bind s i z b))) fs → AllByRecursion (λ f. P (form_value f s)) fs
  all_same P [] h a = tt
  all_same P (f ∷ fs) h a =
      (subst P (value_same f (or_left (form_has i f) (list_any (form_has i) fs) h)) a.0, all_same P fs (or_right (form_has i f) (list_any (form_has i) fs) h) a.1)

  same_all : (P : ℤ → Type 0) (fs : List Form) → list_any (form_has i) fs ≡ false → AllByRecursion (λ f. P (form_value f s)) fs → AllByRecursion (λ f. P (form_value f (bind s i z b))) fs
  same_all P [] h a = tt
  same_all P (f ∷ fs) h a =
      (subst P (sym (value_same f (or_left (form_has i f) (list_any (form_has i) fs) h))) a.0, same_all P fs (or_right (form_has i f) (list_any (form_has i) fs) h) a.1)

  pub lies_back : (x : Span1) (y : ℤ) → span_has i x ≡ false → Lies (bind s i z b) x y → Lies s x y
  lies_back x y h k = (
    all_same (λ v. v ≤ℤ y) x.lower (or_left (list_any (form_has i) x.lower) (list_any (form_has i) x.upper) h) k.0,
    all_same (λ v. y ≤ℤ v) x.upper (or_right (list_any (form_has i) x.lower) (list_any (form_has i) x.upper) h) k.1,
  )

  pub lies_on : (x : Span1) (y : ℤ) → span_has i x ≡ false → Lies s x y → Lies (bind s i z b) x y
  lies_on x y h k = (
    same_all (λ v. v ≤ℤ y) x.lower (or_left (list_any (form_has i) x.lower) (list_any (form_has i) x.upper) h) k.0,
    same_all (λ v. y ≤ℤ v) x.upper (or_right (list_any (form_has i) x.lower) (list_any (form_has i) x.upper) h) k.1,
  )

  pub lie_in_back : (xs : List Span1) (p : List ℤ) → list_any (span_has i) xs ≡ false → LieIn (bind s i z b) xs p → LieIn s xs p
  lie_in_back [] [] h k = tt
  lie_in_back [] (y ∷ ys) h k = absurd k
  lie_in_back (x ∷ xs) [] h k = absurd k
  lie_in_back (x ∷ xs) (y ∷ ys) h k =
      (lies_back x y (or_left (span_has i x) (list_any (span_has i) xs) h) k.0, lie_in_back xs ys (or_right (span_has i x) (list_any (span_has i) xs) h) k.1)

  values_same : (ls : List Form) → list_any (form_has i) ls ≡ false → map (λ m. form_value m (bind s i z b)) ls ≡ map (λ m. form_value m s) ls
  values_same [] h = refl
  values_same (l ∷ ls) h =
      ap (λ v. v ∷ map (λ m. form_value m (bind s i z b)) ls) (value_same l (or_left (form_has i l) (list_any (form_has i) ls) h))
      ∙ ap (λ vs. form_value l s ∷ vs) (values_same ls (or_right (form_has i l) (list_any (form_has i) ls) h))

  pub picked_same : (pick : Pick) (ls : List Form) → list_any (form_has i) ls ≡ false → picked pick ls (bind s i z b) ≡ picked pick ls s
  picked_same Min [] h = refl
  picked_same Max [] h = refl
  picked_same Min (l ∷ ls) h =
      ap (λ v. fold int_min v (map (λ m. form_value m (bind s i z b)) ls)) (value_same l (or_left (form_has i l) (list_any (form_has i) ls) h))
      ∙ ap (fold int_min (form_value l s)) (values_same ls (or_right (form_has i l) (list_any (form_has i) ls) h))
  picked_same Max (l ∷ ls) h =
      ap (λ v. fold int_max v (map (λ m. form_value m (bind s i z b)) ls)) (value_same l (or_left (form_has i l) (list_any (form_has i) ls) h))
      ∙ ap (fold int_max (form_value l s)) (values_same ls (or_right (form_has i l) (list_any (form_has i) ls) h))

  pub respects_on : (bs : List Binder) → list_any (binder_has i) bs ≡ false → Respects bs s → Respects bs (bind s i z b)
  respects_on [] h r = tt
  respects_on (Ranged j x ∷ bs) h r =
      let here = or_left ((j == i) || span_has i x) (list_any (binder_has i) bs) h in
      let own = lies_on x (s.value j) (or_right (j == i) (span_has i x) here) r.0 in
      (subst (Lies (bind s i z b) x) (sym (other_value j (or_left (j == i) (span_has i x) here))) own, respects_on bs (or_right ((j == i) || span_has i x) (list_any (binder_has i) bs) h) r.1)
  respects_on (Picked j pick ls ∷ bs) h r =
      let here = or_left ((j == i) || list_any (form_has i) ls) (list_any (binder_has i) bs) h in (
        other_value j (or_left (j == i) (list_any (form_has i) ls) here) ∙ r.0 ∙ sym (picked_same pick ls (or_right (j == i) (list_any (form_has i) ls) here)),
        respects_on bs (or_right ((j == i) || list_any (form_has i) ls) (list_any (binder_has i) bs) h) r.1,
      )
  respects_on (Passed low high ∷ bs) h r =
      let here = or_left (form_has i low || form_has i high) (list_any (binder_has i) bs) h in
      let a = value_same low (or_left (form_has i low) (form_has i high) here) in
      let c = value_same high (or_right (form_has i low) (form_has i high) here) in
      (subst (λ v. v ≤ℤ form_value high (bind s i z b)) (sym a) (subst (λ v. form_value low s ≤ℤ v) (sym c) r.0), respects_on bs (or_right (form_has i low || form_has i high) (list_any (binder_has i) bs) h) r.1)

  pub rooms_same : (places : List Places) → list_any (places_have i) places ≡ false → map (room (bind s i z b)) places ≡ map (room s) places
  rooms_same [] h = refl
  rooms_same (From l n ∷ places) h =
      let rest = rooms_same places (or_right (form_has i l) (list_any (places_have i) places) h) in
      let head = value_same l (or_left (form_has i l) (list_any (places_have i) places) h) in
      ap (λ v. Straight v n ∷ map (room (bind s i z b)) places) head ∙ ap (λ r. Straight (form_value l s) n ∷ r) rest
  rooms_same (Folded n ∷ places) h = ap (λ r. Wrapped n ∷ r) (rooms_same places h)

-- ---- lists of names

none_here : (test : ℕ → Bool) (c d : ℕ) (v more : Bool) → (d == c) ≡ v → test d ≡ false → (more ≡ true → test c ≡ false) → (v || more) ≡ true → test c ≡ false
none_here test c d true more e t rest k = ap test (sym (eq_true d c e)) ∙ t
none_here test c d false more e t rest k = rest k

pub none_of : (test : ℕ → Bool) (c : ℕ) (cs : List ℕ) → list_any test cs ≡ false → is_member c cs ≡ true → test c ≡ false
none_of test c [] h m = absurd (cc m)
none_of test c (d ∷ cs) h m =
    none_here test c d (d == c) (is_member c cs) refl (or_left (test d) (list_any test cs) h) (none_of test c cs (or_right (test d) (list_any test cs) h)) m

pub or_more : (v more : Bool) → more ≡ true → (v || more) ≡ true
or_more true more h = refl
or_more false more h = h

filter_head : (test : ℕ → Bool) (c d : ℕ) (v more less : Bool) → (d == c) ≡ v → test d ≡ true → (less ≡ true → (more ≡ true) × (test c ≡ true)) → (v || less) ≡ true → ((v || more) ≡ true) × (test c ≡ true)
filter_head test c d true more less e t rest k = (refl, ap test (sym (eq_true d c e)) ∙ t)
filter_head test c d false more less e t rest k = rest k

filter_one : (test : ℕ → Bool) (c d : ℕ) (v : Bool) (cs : List ℕ) → test d ≡ v → (is_member c (filter test cs) ≡ true → (is_member c cs ≡ true) × (test c ≡ true)) →
    is_member c (if v then d ∷ filter test cs else filter test cs) ≡ true → (is_member c (d ∷ cs) ≡ true) × (test c ≡ true)
filter_one test c d true cs e rest k = filter_head test c d (d == c) (is_member c cs) (is_member c (filter test cs)) refl e rest k
filter_one test c d false cs e rest k = let r = rest k in (or_more (d == c) (is_member c cs) r.0, r.1)

pub filter_member : (test : ℕ → Bool) (c : ℕ) (cs : List ℕ) → is_member c (filter test cs) ≡ true → (is_member c cs ≡ true) × (test c ≡ true)
filter_member test c [] m = absurd (cc m)
filter_member test c (d ∷ cs) m = filter_one test c d (test d) cs refl (filter_member test c cs) m

pub member_left : (c : ℕ) (xs ys : List ℕ) → is_member c xs ≡ true → is_member c (xs ++ ys) ≡ true
member_left c [] ys m = absurd (cc m)
member_left c (x ∷ xs) ys m = either (x == c) (is_member c xs) (is_member c (xs ++ ys)) (member_left c xs ys) m
  where
    either : (v some all : Bool) → (some ≡ true → all ≡ true) → (v || some) ≡ true → (v || all) ≡ true
    either true some all f k = refl
    either false some all f k = f k

pub member_right : (c : ℕ) (xs ys : List ℕ) → is_member c ys ≡ true → is_member c (xs ++ ys) ≡ true
member_right c [] ys m = m
member_right c (x ∷ xs) ys m = or_more (x == c) (is_member c (xs ++ ys)) (member_right c xs ys m)

member_filter_one : (test : ℕ → Bool) (c d : ℕ) (v w : Bool) (cs less : List ℕ) → (d == c) ≡ v → test d ≡ w → test c ≡ true → (is_member c cs ≡ true → is_member c less ≡ true) → (v || is_member c cs) ≡ true → is_member c (if w then d ∷ less else less) ≡ true
member_filter_one test c d true true cs less e t h rest k = rw e refl
member_filter_one test c d true false cs less e t h rest k = let same : test d ≡ test c = ap test (eq_true d c e) in absurd (cc (same, t, h))
member_filter_one test c d false true cs less e t h rest k = or_more (d == c) (is_member c less) (rest k)
member_filter_one test c d false false cs less e t h rest k = rest k

pub member_filter : (test : ℕ → Bool) (c : ℕ) (cs : List ℕ) → is_member c cs ≡ true → test c ≡ true → is_member c (filter test cs) ≡ true
member_filter test c [] m h = absurd (cc m)
member_filter test c (d ∷ cs) m h = member_filter_one test c d (d == c) (test d) cs (filter test cs) refl refl h (λ k. member_filter test c cs k h) m

-- one of those that pass the test, with what is known of it
pick_here : {A : Type 0} (P : A → Type 0) (g : ℕ → A) (test : ℕ → Bool) (d : ℕ) (cs : List ℕ) (v : Bool) → test d ≡ v →
    (list_any test cs ≡ true → AllByRecursion P (map g (filter test cs)) → (e : ℕ) × (is_member e cs ≡ true) × (test e ≡ true) × P (g e)) →
    (v || list_any test cs) ≡ true → AllByRecursion P (map g (if v then d ∷ filter test cs else filter test cs)) → (e : ℕ) × (is_member e (d ∷ cs) ≡ true) × (test e ≡ true) × P (g e)
pick_here P g test d cs true t rest k h = (d, let e : (d == d) ≡ true = eq_refl d in rw e refl, t, h.0)
pick_here P g test d cs false t rest k h = let r = rest k h in (r.0, or_more (d == r.0) (is_member r.0 cs) r.1, r.2, r.3)

pub pick_one : {A : Type 0} (P : A → Type 0) (g : ℕ → A) (test : ℕ → Bool) (cs : List ℕ) → list_any test cs ≡ true → AllByRecursion P (map g (filter test cs)) → (e : ℕ) × (is_member e cs ≡ true) × (test e ≡ true) × P (g e)
pick_one P g test [] k h = absurd (cc k)
pick_one P g test (d ∷ cs) k h = pick_here P g test d cs (test d) refl (pick_one P g test cs) k h
