-- The flaws of the lines of a certificate, each at its line.
use Rattle.std.proofs.Common.{◌≡◌, ℕ, zero, suc, ◌+◌, ◌-◌, ◌^◌, ◌<◌, ◌≤◌, min, List, [], ◌∷◌, ◌++◌, take, length, Bool, true, false, Option, Some, None, refl, sym, ap, subst, arith, inl, inr}
use Rattle.std.specs.Prelude.{◌⊎◌, ◌&&◌, nat_lt, slice_get}
use Rattle.meaning.specs.Algorithm.{Algorithm}
use Rattle.plan.specs.Plan.{Plan}
use Rattle.plan.specs.Lines.{certificate_line}
use Rattle.plan.specs.declared.certificate.cert.Own.{Own}
use Rattle.plan.specs.declared.certificate.cert.Need.{Need}
use Rattle.plan.specs.declared.certificate.cert.Window.{Window}
use Rattle.plan.specs.Certificate.Certificate.{Claim, Certificate}
use Rattle.plan.specs.Certificate.Lines.{own_line, need_line, claim_line, window_line}
use Rattle.soundness.specs.Outline.Flaws.{Flaw, first_of, line_told}
use Rattle.soundness.specs.Outline.Forms.{spans_are_within_limits, have_ends}
use Rattle.validation.specs.Told.{IsTold}
use Rattle.validation.specs.Certificate.Lines.{each_line}
use Rattle.validation.specs.Certificate.Certificate.{are_owned, own_is_known, need_is_known, claim_is_known, window_is_known, is_used, span_is_within_limits, has_ends, cert_flaws, own_flaws, need_flaws, claim_flaws, window_flaws, flaws_of_regions, flaws_of_claims, flaws_of_certificate}
use Rattle.validation.specs.Certificate.Wrong.{IsLine, IsOneOf}
use Rattle.validation.proofs.Told.{Has, has_left, has_right, has_parts, on_either, Ordered, Comes, joined, one_ordered, flag_is, Tests, flags, line_of_flags, flags_ordered, told_so, names_are, names_so, forms_are, forms_so, limits_are, limits_so}

-- a line of so many from this one on
record Spans (line count l : ℕ) : Type 0 where
  low : min line (2 ^ 32 - 1) ≤ l
  high : l < line + count
  told : l ≤ 2 ^ 32 - 1

comes_after : (line n m k l j q : ℕ) → Spans line n l → Spans (line + n) m q → Comes k l j q
comes_after line n m k l j q s t = record { before = omega (arith, s.high, s.told, t.low); lower = λ lt e. absurd (omega (arith, s.high, t.low, lt, e)) }

all_of : (line n m l : ℕ) → Spans line n l ⊎ Spans (line + n) m l → Spans line (n + m) l
all_of line n m l (inl s) = record { low = s.low; high = omega (arith, s.high); told = s.told }
all_of line n m l (inr s) = record { low = omega (arith, s.low); high = omega (arith, s.high); told = s.told }

no_item : {A : Type 0} (x : A) (e : None ≡ Some x) → ⊥
no_item x e = cc

item_same : {A : Type 0} (x y : A) → Some x ≡ Some y → x ≡ y
item_same {A} x y e = ap or_x e
  where
    or_x : Option A → A
    or_x None = x
    or_x (Some z) = z

-- ---- lines one behind the other

module _ {A : Type 0} (t : ℕ → A → Tests) (base : ℕ) where
  abbrev pub at : ℕ → A → List Flaw
  at i x = flags (t i x) (base + i)

  one_spans : (k l i : ℕ) (x : A) → Has k l (at i x) → Spans (base + i) 1 l
  one_spans k l i x h = let e = line_of_flags (t i x) (base + i) k l h in record { low = omega (arith, e); high = omega (arith, e); told = omega (arith, e) }

  each_spans : (k l i : ℕ) (xs : List A) → Has k l (each_line at i xs) → Spans (base + i) (length xs) l
  each_spans k l i [] h = absurd h
  each_spans k l i (x ∷ xs) h = on_either (has_parts k l (at i x) (each_line at (i + 1) xs) h)
      (λ u. let s = one_spans k l i x u in record { low = s.low; high = omega (arith, s.high); told = s.told })
      (λ u. let s = each_spans k l (i + 1) xs u in record { low = omega (arith, s.low); high = omega (arith, s.high); told = s.told })

  each_ordered : ((i : ℕ) (x : A) → (4 ≤ (t i x).code) × ((t i x).code ≤ 13)) → (i : ℕ) (xs : List A) → Ordered (each_line at i xs)
  each_ordered codes i [] = λ k l h. absurd h
  each_ordered codes i (x ∷ xs) = joined (at i x) (each_line at (i + 1) xs)
      (let e = codes i x in flags_ordered (t i x) (base + i) (omega (arith, e)) (omega (arith, e)))
      (each_ordered codes (i + 1) xs)
      (λ k l j q h u. comes_after (base + i) 1 (length xs) k l j q (one_spans k l i x h) (next i (length xs) q (each_spans j q (i + 1) xs u)))
    where
      next : (i n q : ℕ) → Spans (base + (i + 1)) n q → Spans (base + i + 1) n q
      next i n q s = record { low = omega (arith, s.low); high = omega (arith, s.high); told = s.told }

  module _ (k l : ℕ) where
    pub record EachHas (xs : List A) (first : ℕ) : Type 0 where
      pub number : ℕ
      pub index : ℕ
      pub item : A
      pub is : number ≡ first + index
      pub there : slice_get xs index ≡ Some item
      pub has : Has k l (at number item)

    some_line : (xs : List A) (i : ℕ) → Has k l (each_line at i xs) → EachHas xs i
    some_line [] i h = absurd h
    some_line (x ∷ xs) i h = on_either (has_parts k l (at i x) (each_line at (i + 1) xs) h)
        (λ u. record { number = i; index = zero; item = x; is = omega arith; there = refl; has = u })
        (λ u. let r = some_line xs (i + 1) u in record { number = r.number; index = suc r.index; item = r.item; is = (let e = r.is in omega (arith, e)); there = r.there; has = r.has })

    of_line : (xs : List A) (i j n : ℕ) (x : A) → n ≡ i + j → slice_get xs j ≡ Some x → Has k l (at n x) → Has k l (each_line at i xs)
    of_line [] i j n x is there h = absurd (no_item x there)
    of_line (y ∷ ys) i zero n x is there h =
        let e : n ≡ i = omega (arith, is) in
        has_left k l (at i y) (each_line at (i + 1) ys) (subst (λ (m : ℕ). Has k l (at m y)) e (subst (λ (z : A). Has k l (at n z)) (sym (item_same y x there)) h))
    of_line (y ∷ ys) i (suc j) n x is there h = has_right k l (at i y) (each_line at (i + 1) ys) (of_line ys (i + 1) j n x (omega (arith, is)) there h)

-- ---- a code that tells that a test fails

-- flaws of this code are those of the lines that fail this test
pub record TellsOf (k : ℕ) (test : Tests → Bool) : Type 0 where
  pub apart : k ≡ 10 → ⊥
  pub are : (t : Tests) (line l : ℕ) → 4 ≤ t.code → t.code ≤ 13 → Has k l (flags t line) → (line_told line ≡ l) × (test t ≡ false)
  pub so : (t : Tests) (line l : ℕ) → line_told line ≡ l → test t ≡ false → Has k l (flags t line)

pub of_names : TellsOf 2 (λ t. t.names)
of_names = record { apart = λ e. omega (arith, e); are = λ t line l low high h. names_are t line l (omega (arith, low)) h; so = names_so }

pub of_forms : TellsOf 3 (λ t. t.forms)
of_forms = record { apart = λ e. omega (arith, e); are = λ t line l low high h. forms_are t line l (omega (arith, low)) h; so = forms_so }

pub of_limits : TellsOf 14 (λ t. t.limits)
of_limits = record { apart = λ e. omega (arith, e); are = λ t line l low high h. limits_are t line l (omega (arith, high)) h; so = limits_so }

module _ (a : Algorithm) (p : Plan) (c : Certificate) where
  -- what is asked of the line of an own region, of a needed region, of a claim and of a window
  abbrev pub own_tests : ℕ → Own → Tests
  own_tests i o = record { names = own_is_known p.groups (take i c.own) o; forms = spans_are_within_limits o.region; third = true; limits = have_ends o.region; code = 12 }

  abbrev pub need_tests : ℕ → Need → Tests
  need_tests i n = record { names = need_is_known p.groups n; forms = spans_are_within_limits n.region; third = true; limits = have_ends n.region; code = 12 }

  abbrev pub claim_tests : ℕ → Claim → Tests
  claim_tests i k = record { names = claim_is_known a.functions p.groups k; forms = spans_are_within_limits k.region; third = true; limits = have_ends k.region && nat_lt i 4096; code = 12 }

  abbrev pub window_tests : ℕ → Window → Tests
  window_tests i w = record { names = window_is_known p.groups c.claims w; forms = span_is_within_limits w.span; third = is_used p c (take i c.windows) w; limits = has_ends w.span; code = 8 }

  abbrev L : ℕ
  L = certificate_line p

  abbrev behind_own : ℕ
  behind_own = L + 1 + length c.own

  abbrev behind_needs : ℕ
  behind_needs = L + 1 + length c.own + length c.needs

  abbrev behind_claims : ℕ
  behind_claims = L + 1 + length c.own + length c.needs + length c.claims

  abbrev head : List Flaw
  head = cert_flaws p c

  abbrev owns : List Flaw
  owns = each_line (own_flaws p c) 0 c.own

  abbrev needs : List Flaw
  needs = each_line (need_flaws p c) 0 c.needs

  abbrev claims : List Flaw
  claims = each_line (claim_flaws a p c) 0 c.claims

  abbrev windows : List Flaw
  windows = each_line (window_flaws p c) 0 c.windows

  from_none : (line n l : ℕ) → Spans (line + 0) n l → Spans line n l
  from_none line n l s = record { low = omega (arith, s.low); high = omega (arith, s.high); told = s.told }

  own_spans : (k l : ℕ) → Has k l owns → Spans (L + 1) (length c.own) l
  own_spans k l h = from_none (L + 1) (length c.own) l (each_spans own_tests (L + 1) k l 0 c.own h)

  need_spans : (k l : ℕ) → Has k l needs → Spans behind_own (length c.needs) l
  need_spans k l h = from_none behind_own (length c.needs) l (each_spans need_tests behind_own k l 0 c.needs h)

  claim_spans : (k l : ℕ) → Has k l claims → Spans behind_needs (length c.claims) l
  claim_spans k l h = from_none behind_needs (length c.claims) l (each_spans claim_tests behind_needs k l 0 c.claims h)

  window_spans : (k l : ℕ) → Has k l windows → Spans behind_claims (length c.windows) l
  window_spans k l h = from_none behind_claims (length c.windows) l (each_spans window_tests behind_claims k l 0 c.windows h)

  head_spans : (k l : ℕ) → Has k l head → Spans L 1 l
  head_spans k l h = let f = flag_is (are_owned c.own (length p.groups)) 10 L k l h in record { low = omega (arith, f.line_is); high = omega (arith, f.line_is); told = omega (arith, f.line_is) }

  region_lines : (k l : ℕ) → Has k l (owns ++ needs) → Spans (L + 1) (length c.own + length c.needs) l
  region_lines k l h = all_of (L + 1) (length c.own) (length c.needs) l (on_either (has_parts k l owns needs h) (λ u. inl (own_spans k l u)) (λ u. inr (need_spans k l u)))

  regions_spans : (k l : ℕ) → Has k l (flaws_of_regions p c) → Spans L (1 + (length c.own + length c.needs)) l
  regions_spans k l h = all_of L 1 (length c.own + length c.needs) l (on_either (has_parts k l head (owns ++ needs) h) (λ u. inl (head_spans k l u)) (λ u. inr (region_lines k l u)))

  claims_spans : (k l : ℕ) → Has k l (flaws_of_claims a p c) → Spans behind_needs (length c.claims + length c.windows) l
  claims_spans k l h = all_of behind_needs (length c.claims) (length c.windows) l (on_either (has_parts k l claims windows h) (λ u. inl (claim_spans k l u)) (λ u. inr (window_spans k l u)))

  moved : (line n l other : ℕ) → line ≡ other → Spans line n l → Spans other n l
  moved line n l other e s = record { low = omega (arith, s.low, e); high = omega (arith, s.high, e); told = s.told }

  regions_ordered : Ordered (flaws_of_regions p c)
  regions_ordered = joined head (owns ++ needs) (one_ordered (are_owned c.own (length p.groups)) 10 L)
      (joined owns needs (each_ordered own_tests (L + 1) (λ i o. (omega arith, omega arith)) 0 c.own) (each_ordered need_tests behind_own (λ i n. (omega arith, omega arith)) 0 c.needs)
      (λ k l j q h u. comes_after (L + 1) (length c.own) (length c.needs) k l j q (own_spans k l h) (need_spans j q u)))
      (λ k l j q h u. comes_after L 1 (length c.own + length c.needs) k l j q (head_spans k l h) (region_lines j q u))

  claims_ordered : Ordered (flaws_of_claims a p c)
  claims_ordered = joined claims windows (each_ordered claim_tests behind_needs (λ i k. (omega arith, omega arith)) 0 c.claims)
      (each_ordered window_tests behind_claims (λ i w. (omega arith, omega arith)) 0 c.windows)
      (λ k l j q h u. comes_after behind_needs (length c.claims) (length c.windows) k l j q (claim_spans k l h) (window_spans j q u))

  all_ordered : Ordered (flaws_of_certificate a p c)
  all_ordered = joined (flaws_of_regions p c) (flaws_of_claims a p c) regions_ordered claims_ordered
      (λ k l j q h u. comes_after L (1 + (length c.own + length c.needs)) (length c.claims + length c.windows) k l j q (regions_spans k l h)
      (moved behind_needs (length c.claims + length c.windows) q (L + (1 + (length c.own + length c.needs))) (omega arith) (claims_spans j q u)))

  module _ (k : ℕ) (test : Tests → Bool) (tells : TellsOf k test) (Owns : ℕ → Own → Type 0) (Needs : ℕ → Need → Type 0) (Claims : ℕ → Claim → Type 0) (Windows : ℕ → Window → Type 0) where
    -- of lines of one kind
    module _ {A : Type 0} (t : ℕ → A → Tests) (base : ℕ) (codes : (i : ℕ) (x : A) → (4 ≤ (t i x).code) × ((t i x).code ≤ 13)) (xs : List A) (Is : ℕ → A → Type 0) where
      kind_is : ((i : ℕ) (x : A) → test (t i x) ≡ false → Is i x) → (l : ℕ) → Has k l (each_line (at t base) 0 xs) → IsLine xs (λ i. base + i) Is l
      kind_is f l h =
          let r = some_line t base k l xs 0 h in
          let e : r.index ≡ r.number = (let s = r.is in omega (arith, s)) in
          let d = codes r.number r.item in
          let u = tells.are (t r.number r.item) (base + r.number) l d.0 d.1 r.has in
          record { number = r.number; item = r.item; there = subst (λ (i : ℕ). slice_get xs i ≡ Some r.item) e r.there; line_is = u.0; so = f r.number r.item u.1 }

      is_kind : ((i : ℕ) (x : A) → Is i x → test (t i x) ≡ false) → (l : ℕ) → IsLine xs (λ i. base + i) Is l → Has k l (each_line (at t base) 0 xs)
      is_kind f l h = of_line t base k l xs 0 h.number h.number h.item (omega arith) h.there (tells.so (t h.number h.item) (base + h.number) l h.line_is (f h.number h.item h.so))

    abbrev Here : ℕ → Type 0
    Here = IsOneOf p c Owns Needs Claims Windows

    module _ (own_is : (i : ℕ) (o : Own) → test (own_tests i o) ≡ false → Owns i o) (need_is : (i : ℕ) (n : Need) → test (need_tests i n) ≡ false → Needs i n)
        (claim_is : (i : ℕ) (x : Claim) → test (claim_tests i x) ≡ false → Claims i x) (window_is : (i : ℕ) (w : Window) → test (window_tests i w) ≡ false → Windows i w) where
      one_is : (l : ℕ) → Has k l (flaws_of_certificate a p c) → Here l
      one_is l h = on_either (has_parts k l (flaws_of_regions p c) (flaws_of_claims a p c) h)
          (λ u. on_either (has_parts k l head (owns ++ needs) u)
          (λ v. absurd (tells.apart (flag_is (are_owned c.own (length p.groups)) 10 L k l v).code))
          (λ v. on_either (has_parts k l owns needs v)
          (λ w. record { is = inl (kind_is own_tests (L + 1) (λ i o. (omega arith, omega arith)) c.own Owns own_is l w) })
          (λ w. record { is = inr (inl (kind_is need_tests behind_own (λ i n. (omega arith, omega arith)) c.needs Needs need_is l w)) })))
          (λ u. on_either (has_parts k l claims windows u)
          (λ w. record { is = inr (inr (inl (kind_is claim_tests behind_needs (λ i x. (omega arith, omega arith)) c.claims Claims claim_is l w))) })
          (λ w. record { is = inr (inr (inr (kind_is window_tests behind_claims (λ i x. (omega arith, omega arith)) c.windows Windows window_is l w))) }))

      module _ (is_own : (i : ℕ) (o : Own) → Owns i o → test (own_tests i o) ≡ false) (is_need : (i : ℕ) (n : Need) → Needs i n → test (need_tests i n) ≡ false)
          (is_claim : (i : ℕ) (x : Claim) → Claims i x → test (claim_tests i x) ≡ false) (is_window : (i : ℕ) (w : Window) → Windows i w → test (window_tests i w) ≡ false) where
        abbrev Some_of : ℕ → Type 0
        Some_of l = IsLine c.own (own_line L) Owns l ⊎ (IsLine c.needs (need_line c L) Needs l ⊎ (IsLine c.claims (claim_line c L) Claims l ⊎ IsLine c.windows (window_line c L) Windows l))

        is_one : (l : ℕ) → Some_of l → Has k l (flaws_of_certificate a p c)
        is_one l (inl h) = has_left k l (flaws_of_regions p c) (flaws_of_claims a p c) (has_right k l head (owns ++ needs)
            (has_left k l owns needs (is_kind own_tests (L + 1) (λ i o. (omega arith, omega arith)) c.own Owns is_own l h)))
        is_one l (inr (inl h)) = has_left k l (flaws_of_regions p c) (flaws_of_claims a p c) (has_right k l head (owns ++ needs)
            (has_right k l owns needs (is_kind need_tests behind_own (λ i n. (omega arith, omega arith)) c.needs Needs is_need l h)))
        is_one l (inr (inr (inl h))) = has_right k l (flaws_of_regions p c) (flaws_of_claims a p c)
            (has_left k l claims windows (is_kind claim_tests behind_needs (λ i x. (omega arith, omega arith)) c.claims Claims is_claim l h))
        is_one l (inr (inr (inr h))) = has_right k l (flaws_of_regions p c) (flaws_of_claims a p c)
            (has_right k l claims windows (is_kind window_tests behind_claims (λ i x. (omega arith, omega arith)) c.windows Windows is_window l h))

        pub certificate_told : IsTold k Here (first_of (flaws_of_certificate a p c))
        certificate_told = told_so k Here (flaws_of_certificate a p c) all_ordered one_is (λ l h. is_one l h.is)
