-- Certificates without a flaw.
use Rattle.std.proofs.Common.{◌≡◌, ℕ, zero, suc, ◌+◌, ◌<◌, ◌≤◌, List, [], ◌∷◌, ◌++◌, length, take, Bool, true, false, Option, Some, None, refl, sym, ap, ◌∙◌, subst, arith}
use Rattle.std.specs.Prelude.{slice_get, ◌==◌, ◌&&◌, ◌||◌, not, nat_lt, MatchOption, if◌then◌else◌}
use Rattle.std.specs.List.{list_all, range_with_len}
use Rattle.std.proofs.lemmas.Bool.{false≢true}
use Rattle.std.proofs.lemmas.Bool.Decides.{nat_tests}
use Rattle.lin.specs.declared.span.Span1.{Span1}
use Rattle.meaning.specs.Algorithm.{Algorithm}
use Rattle.plan.specs.Plan.{Group, Plan}
use Rattle.plan.specs.Lines.{certificate_line}
use Rattle.plan.specs.declared.certificate.cert.Own.{Own}
use Rattle.plan.specs.declared.certificate.cert.Need.{Need}
use Rattle.plan.specs.declared.certificate.cert.Window.{Window}
use Rattle.plan.specs.Certificate.Certificate.{Claim, Certificate}
use Rattle.plan.specs.Certificate.Cells.{own_region}
use Rattle.plan.specs.Certificate.Lines.{own_line, need_line, claim_line, window_line}
use Rattle.soundness.specs.Outline.Flaws.{Flaw, first_of as the_first, unless}
use Rattle.soundness.specs.Outline.Forms.{spans_are_over, spans_are_within_limits, have_ends, grid_symbols}
use Rattle.validation.specs.Certificate.Lines.{line_flaws, window_line_flaws, each_line}
use Rattle.validation.specs.Certificate.Certificate.{fits, is_owned, are_owned, is_region_of, own_is_known, is_need_of, need_is_known, claim_is_known, window_is_known, is_used, span_is_within_limits, has_ends, cert_flaws, own_flaws, need_flaws, claim_flaws, window_flaws, flaws_of_regions, flaws_of_claims, flaws_of_certificate}
use Rattle.validation.specs.Certificate.Clear.{IsRegion, IsNeed, IsClaim, IsWindow, HasRegions, IsClear}

none_is : {A : Type 0} (x : A) (e : None ≡ Some x) → ⊥
none_is x e = cc

the_same : {A : Type 0} (x y : A) → Some x ≡ Some y → x ≡ y
the_same {A} x y e = ap or_x e
  where
    or_x : Option A → A
    or_x None = x
    or_x (Some z) = z

both_true : (b d : Bool) → (b && d) ≡ true → (b ≡ true) × (d ≡ true)
both_true true d h = (refl, h)
both_true false d h = absurd (false≢true h)

not_true : (b : Bool) → not b ≡ true → b ≡ false
not_true true h = absurd (false≢true h)
not_true false h = refl

-- ---- no flaw

no_flaws : (xs ys : List Flaw) → None ≡ the_first (xs ++ ys) → (None ≡ the_first xs) × (None ≡ the_first ys)
no_flaws [] ys h = (refl, h)
no_flaws (x ∷ xs) ys h = absurd (none_is _ h)

unless_true : (b : Bool) (k l : ℕ) → None ≡ the_first (unless b k l) → b ≡ true
unless_true true k l h = refl
unless_true false k l h = absurd (none_is _ h)

-- a line without a flaw
abbrev LineIsClear : Bool → Bool → Bool → Type 0
LineIsClear known small listed = (known ≡ true) × (small ≡ true) × (listed ≡ true)

line_clear : (known small listed : Bool) (line : ℕ) → None ≡ the_first (line_flaws known small listed line) → LineIsClear known small listed
line_clear known small listed line h =
    let one = no_flaws (unless known 2 line) (unless small 3 line ++ unless listed 14 line) h in
    let two = no_flaws (unless small 3 line) (unless listed 14 line) one.1 in
    (unless_true known 2 line one.0, unless_true small 3 line two.0, unless_true listed 14 line two.1)

window_clear : (known small used listed : Bool) (line : ℕ) → None ≡ the_first (window_line_flaws known small used listed line)
    → (known ≡ true) × (small ≡ true) × (used ≡ true) × (listed ≡ true)
window_clear known small used listed line h =
    let one = no_flaws (unless known 2 line) (unless small 3 line ++ (unless used 8 line ++ unless listed 14 line)) h in
    let two = no_flaws (unless small 3 line) (unless used 8 line ++ unless listed 14 line) one.1 in
    let three = no_flaws (unless used 8 line) (unless listed 14 line) two.1 in
    (unless_true known 2 line one.0, unless_true small 3 line two.0, unless_true used 8 line three.0, unless_true listed 14 line three.1)

-- each of the lines has no flaw
each_clear : {A : Type 0} (f : ℕ → A → List Flaw) (i : ℕ) (xs : List A) → None ≡ the_first (each_line f i xs) → (j k : ℕ) (x : A) → k ≡ i + j → slice_get xs j ≡ Some x → None ≡ the_first (f k x)
each_clear f i [] h j k x e is = absurd (none_is x is)
each_clear {A} f i (y ∷ ys) h zero k x e is =
    let same : k ≡ i = omega (arith, e) in
    (no_flaws (f i y) (each_line f (i + 1) ys) h).0 ∙ ap (λ (n : ℕ). the_first (f n y)) (sym same) ∙ ap (λ (z : A). the_first (f k z)) (the_same y x is)
each_clear f i (y ∷ ys) h (suc j) k x e is = each_clear f (i + 1) ys (no_flaws (f i y) (each_line f (i + 1) ys) h).1 j k x (omega (arith, e)) is

-- ---- regions

region_fits : (count grid : ℕ) (region : List Span1) → fits count (grid_symbols grid) region ≡ true → spans_are_within_limits region ≡ true → have_ends region ≡ true → IsRegion count grid region
region_fits count grid region h small listed =
    let parts = both_true (length region == count) (spans_are_over (grid_symbols grid) region) h in
    record { long = grind (arith, nat_tests, parts.0); symbols = parts.1; limits = small; ends = listed }

-- ---- own regions

-- the first line of the group
record Found (os : List Own) (n : ℕ) : Type 0 where
  at : ℕ
  own : Own
  is : slice_get os at ≡ Some own
  group : own.group ≡ n
  region : own_region os n ≡ Some own.region

found_later : (o : Own) (os : List Own) (n : ℕ) → (o.group == n) ≡ false → Found os n → Found (o ∷ os) n
found_later o os n differs f = record {
  at = suc f.at;
  own = f.own;
  is = f.is;
  group = f.group;
  region = ap (λ (t : Bool). if t then Some o.region else own_region os n) differs ∙ f.region;
}

found_here : (o : Own) (os : List Own) (n : ℕ) → (o.group == n) ≡ true → Found (o ∷ os) n
found_here o os n same = record {
  at = 0;
  own = o;
  is = refl;
  group = grind (arith, nat_tests, same);
  region = ap (λ (t : Bool). if t then Some o.region else own_region os n) same;
}

found : (os : List Own) (n : ℕ) → is_owned os n ≡ true → Found os n
found [] n h = absurd (false≢true h)
found (o ∷ os) n h = by (o.group == n) refl h (λ k. found os n k)
  where
    by : (t : Bool) → (o.group == n) ≡ t → is_owned (o ∷ os) n ≡ true → (is_owned os n ≡ true → Found os n) → Found (o ∷ os) n
    by true e g f = found_here o os n e
    by false e g f = found_later o os n e (f (sym (ap (λ (b : Bool). b || is_owned os n) e) ∙ g))

-- of an earlier line
owned_before : (os : List Own) (i j : ℕ) (o : Own) (n : ℕ) → i < j → slice_get os i ≡ Some o → o.group ≡ n → is_owned (take j os) n ≡ true
owned_before [] i j o n lt is e = absurd (none_is o is)
owned_before (x ∷ xs) i zero o n lt is e = absurd (omega (arith, lt))
owned_before (x ∷ xs) zero (suc j) o n lt is e =
    let same : (x.group == n) ≡ true = let f : x.group ≡ n = ap (λ (y : Own). y.group) (the_same x o is) ∙ e in grind (arith, nat_tests, f) in
    ap (λ (b : Bool). b || is_owned (take j xs) n) same
owned_before (x ∷ xs) (suc i) (suc j) o n lt is e = by (x.group == n) (owned_before xs i j o n (omega (arith, lt)) is e)
  where
    by : (t : Bool) → is_owned (take j xs) n ≡ true → (t || is_owned (take j xs) n) ≡ true
    by true h = refl
    by false h = h

one_number : (f : ℕ → Bool) (a n : ℕ) (t : Bool) → (n == a) ≡ t → a ≤ n → f a ≡ true → (a + 1 ≤ n → f n ≡ true) → f n ≡ true
one_number f a n true e from here later = let same : n ≡ a = grind (arith, nat_tests, e) in ap f same ∙ here
one_number f a n false e from here later = let more : a + 1 ≤ n = grind (arith, nat_tests, e, from) in later more

each_number : (f : ℕ → Bool) (a count n : ℕ) → list_all f (range_with_len a count) ≡ true → a ≤ n → n < a + count → f n ≡ true
each_number f a zero n h from to = absurd (omega (arith, from, to))
each_number f a (suc count) n h from to =
    let parts = both_true (f a) (list_all f (range_with_len (a + 1) count)) h in
    one_number f a n (n == a) refl from parts.0 (λ later. each_number f (a + 1) count n parts.1 later (omega (arith, to)))

below_length : {A : Type 0} (xs : List A) (n : ℕ) (x : A) → slice_get xs n ≡ Some x → n < length xs
below_length [] n x is = absurd (none_is x is)
below_length (y ∷ ys) zero x is = omega arith
below_length (y ∷ ys) (suc n) x is = let h = below_length ys n x is in omega (arith, h)

-- ---- lines

own_clear : (p : Plan) (c : Certificate) → None ≡ the_first (each_line (own_flaws p c) 0 c.own) → (i : ℕ) (o : Own) → slice_get c.own i ≡ Some o
    → LineIsClear (own_is_known p.groups (take i c.own) o) (spans_are_within_limits o.region) (have_ends o.region)
own_clear p c h i o is = line_clear _ _ _ (own_line (certificate_line p) i) (each_clear (own_flaws p c) 0 c.own h i i o (omega arith) is)

region_held : (o : Option Group) (g : Group) (region : List Span1) → o ≡ Some g → is_region_of o region ≡ true → fits (length g.region) (grid_symbols (length g.grid)) region ≡ true
region_held None g region is h = absurd (none_is g is)
region_held (Some x) g region is h = ap (λ (y : Group). fits (length y.region) (grid_symbols (length y.grid)) region) (sym (the_same x g is)) ∙ h

own_right : (p : Plan) (c : Certificate) → None ≡ the_first (cert_flaws p c) → None ≡ the_first (each_line (own_flaws p c) 0 c.own) → (n : ℕ) (g : Group) → slice_get p.groups n ≡ Some g
    → MatchOption (own_region c.own n) ⊥ (IsRegion (length g.region) (length g.grid))
own_right p c owned h n g is =
    let all : are_owned c.own (length p.groups) ≡ true = unless_true (are_owned c.own (length p.groups)) 10 (certificate_line p) owned in
    let below : n < length p.groups = below_length p.groups n g is in
    let f = found c.own n (each_number (is_owned c.own) 0 (length p.groups) n all (omega arith) (omega (arith, below))) in
    let line = own_clear p c h f.at f.own f.is in
    let region = (both_true (not (is_owned (take f.at c.own) f.own.group)) (is_region_of (slice_get p.groups f.own.group) f.own.region) line.0).1 in
    let here : slice_get p.groups f.own.group ≡ Some g = ap (slice_get p.groups) f.group ∙ is in
    subst (λ (o : Option (List Span1)). MatchOption o ⊥ (IsRegion (length g.region) (length g.grid))) (sym f.region)
    (region_fits (length g.region) (length g.grid) f.own.region (region_held (slice_get p.groups f.own.group) g f.own.region here region) line.1 line.2)

own_once : (p : Plan) (c : Certificate) → None ≡ the_first (each_line (own_flaws p c) 0 c.own) → (i j : ℕ) (o q : Own) → i < j → slice_get c.own i ≡ Some o → slice_get c.own j ≡ Some q → o.group ≡ q.group → ⊥
own_once p c h i j o q lt first second same =
    let line = own_clear p c h j q second in
    let new = not_true (is_owned (take j c.own) q.group) (both_true (not (is_owned (take j c.own) q.group)) (is_region_of (slice_get p.groups q.group) q.region) line.0).0 in
    false≢true (sym new ∙ owned_before c.own i j o q.group lt first same)

need_held : (g h : Option Group) (n : Need) → is_need_of g h n.region ≡ true → spans_are_within_limits n.region ≡ true → have_ends n.region ≡ true
    → MatchOption g ⊥ (λ x. MatchOption h ⊥ (λ y. IsRegion (length y.grid) (length x.grid) n.region))
need_held None h n is small listed = absurd (false≢true is)
need_held (Some x) None n is small listed = absurd (false≢true is)
need_held (Some x) (Some y) n is small listed = region_fits (length y.grid) (length x.grid) n.region is small listed

need_right : (p : Plan) (c : Certificate) → None ≡ the_first (each_line (need_flaws p c) 0 c.needs) → (i : ℕ) (n : Need) → slice_get c.needs i ≡ Some n → IsNeed p.groups n
need_right p c h i n is =
    let line = line_clear (need_is_known p.groups n) (spans_are_within_limits n.region) (have_ends n.region) (need_line c (certificate_line p) i) (each_clear (need_flaws p c) 0 c.needs h i i n (omega arith) is) in
    need_held (slice_get p.groups n.group) (slice_get p.groups n.needed) n line.0 line.1 line.2

claim_right : (a : Algorithm) (p : Plan) (c : Certificate) → None ≡ the_first (each_line (claim_flaws a p c) 0 c.claims) → (i : ℕ) (k : Claim) → slice_get c.claims i ≡ Some k → IsClaim a p k
claim_right a p c h i k is =
    let line = line_clear (claim_is_known a.functions p.groups k) (spans_are_within_limits k.region) (have_ends k.region && nat_lt i 4096) (claim_line c (certificate_line p) i) (each_clear (claim_flaws a p c) 0 c.claims h i i k (omega arith) is) in
    record { known = line.0; limits = line.1; ends = (both_true (have_ends k.region) (nat_lt i 4096) line.2).0 }

window_right : (p : Plan) (c : Certificate) → None ≡ the_first (each_line (window_flaws p c) 0 c.windows) → (i : ℕ) (w : Window)
    → slice_get c.windows i ≡ Some w → IsWindow p c i w
window_right p c h i w is =
    let line = window_clear (window_is_known p.groups c.claims w) (span_is_within_limits w.span) (is_used p c (take i c.windows) w) (has_ends w.span)
    (window_line c (certificate_line p) i) (each_clear (window_flaws p c) 0 c.windows h i i w (omega arith) is) in
    record { known = line.0; limits = line.1; used = line.2; ends = line.3 }

pub has_regions : (p : Plan) (c : Certificate) → None ≡ the_first (flaws_of_regions p c) → HasRegions p c
has_regions p c h =
    let one = no_flaws (cert_flaws p c) _ h in
    let two = no_flaws (each_line (own_flaws p c) 0 c.own) (each_line (need_flaws p c) 0 c.needs) one.1 in
    record { own = own_right p c one.0 two.0; once = own_once p c two.0; needs = need_right p c two.1 }

pub without_flaws : (p : Plan) (c : Certificate) → flaws_of_regions p c ≡ [] → HasRegions p c
without_flaws p c h = has_regions p c (sym (ap the_first h))

pub clear : (a : Algorithm) (p : Plan) (c : Certificate) → None ≡ the_first (flaws_of_certificate a p c) → IsClear a p c
clear a p c h =
    let parts = no_flaws (flaws_of_regions p c) (flaws_of_claims a p c) h in
    let regions = has_regions p c parts.0 in
    let claims = no_flaws (each_line (claim_flaws a p c) 0 c.claims) (each_line (window_flaws p c) 0 c.windows) parts.1 in
    record {
      own = regions.own;
      once = regions.once;
      needs = regions.needs;
      claims = claim_right a p c claims.0;
      windows = window_right p c claims.1;
    }
