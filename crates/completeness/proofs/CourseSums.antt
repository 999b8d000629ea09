-- The coordinates of split loops that a let opens: behind a guard, and at the first number of a shifted block.
use Rattle.std.proofs.Common.{◌≡◌, ℕ, ◌<◌, ◌≤◌, ◌^◌, Bool, true, false, ◌&&◌, ◌||◌, not, List, [], ◌∷◌, Some, None, refl, sym, ap, ◌∙◌, inl, inr, ◌⊎◌, arith}
use Rattle.std.specs.Prelude.{ℤ, pos, ◌+ℤ◌, ◌-ℤ◌, ◌*ℤ◌, ◌≤ℤ◌, nat_lt, ◌==◌, if◌then◌else◌, filter}
use Rattle.std.specs.Ordering.{int_eq}
use Rattle.std.specs.Int.RustNames.{unsigned_abs}
use Rattle.std.proofs.lemmas.Bool.Decides.{nat_tests}
use Rattle.std.proofs.lemmas.Int.{ints}
use Rattle.lin.specs.Forms.{Form, number, is_zero, in_front, factor_of, plus_term, plus_terms, plus_multiple, without, combined, same_form, is_within_limits}
use Rattle.lin.specs.declared.form.Multiple.{Multiple}
use Rattle.lin.proofs.Limits.{combined-made}
use Rattle.soundness.specs.Claims.{In}
use Rattle.soundness.specs.Obligations.{form_has}
use Rattle.soundness.proofs.Refines.{eq_refl, number_refl}
use Rattle.sched.specs.Standing.{alone}
use Rattle.tails.specs.Moves.{joined, single, each_replaced, is_positive, expanded}
use Rattle.completeness.proofs.GridScope.{number_limited}
use Rattle.completeness.proofs.Searched.{one_of}
use Rattle.completeness.proofs.LoopMoves.{false_end, or_none, other_way, Item, is_lone, is_left, One}
use Rattle.completeness.proofs.TailSteps.{Line}
use Rattle.completeness.proofs.BlockMoves.{kept_twice, is_gone, left_terms, form_at, SumFits, lone_ends}
use Rattle.completeness.proofs.BlockCaps.{HaveNot}
use Rattle.completeness.proofs.BlockSums.{multiple, pair, some_factor, has_pair, factor_one, factor_two, sum_none, sum_one, one_limited, two_limited}
use Rattle.completeness.proofs.BestPicks.{IsOne}
use Rattle.completeness.proofs.Courses.{Course, CapsFit, IsShifted}

-- ---- terms

some_times : (f : ℕ) → pos 1 *ℤ pos f ≡ pos f
some_times f = omega (arith, ints)

lt_is : (a b : ℕ) → nat_lt a b ≡ true → a < b
lt_is a b e = grind (arith, nat_tests, e)

not_lt : (a b : ℕ) → nat_lt a b ≡ false → b ≤ a
not_lt a b e = grind (arith, nat_tests, e)

lone_of : (a b : ℤ) → a ≡ b → same_form (number a) (number b) ≡ true
lone_of a b e = (λ j. int_eq a (sym e j) && true) ∙ (let same = number_refl a in λ j. same j && true)

above : (s m : ℕ) → nat_lt s m ≡ false → (s == m) ≡ false → nat_lt m s ≡ true
above s m a b = grind (arith, nat_tests, a, b)

not_above : (s m : ℕ) → nat_lt s m ≡ true → nat_lt m s ≡ false
not_above s m a = grind (arith, nat_tests, a)

-- a multiple of a symbol beside another symbol
pub plus_one : (s m : ℕ) (c d : ℤ) (there : is_zero d ≡ false) → (s == m) ≡ false → (b : Bool) → nat_lt s m ≡ b →
    plus_term (multiple s c ∷ []) (multiple m d) ≡ (if b then multiple s c ∷ multiple m d ∷ [] else multiple m d ∷ multiple s c ∷ [])
plus_one s m c d there differ true less = (λ j. if less j then multiple s c ∷ in_front (multiple m d) [] else (if s == m then in_front (record { symbol = m; factor = c +ℤ d }) [] else
    in_front (multiple m d)
    (multiple s c ∷ []))) ∙ (λ j. multiple s c ∷ (if there j then [] else multiple m d ∷ []))
plus_one s m c d there differ false less = (λ j. if less j then multiple s c ∷ in_front (multiple m d) [] else (if differ j then in_front (record { symbol = m; factor = c +ℤ d }) [] else
    in_front (multiple m d)
    (multiple s c ∷ []))) ∙ (λ j. if there j then multiple s c ∷ [] else multiple m d ∷ multiple s c ∷ [])

module _ (z : ℤ) (s : ℕ) (c : ℤ) (m : ℕ) where
  -- those that are kept of two
  abbrev pub kept_of : Bool → Bool → List Multiple
  kept_of true true = (pair z s c m).terms
  kept_of true false = multiple s c ∷ []
  kept_of false true = multiple m (pos 1) ∷ []
  kept_of false false = []

  pub kept_pair : (keep : ℕ → Bool) (a b : Bool) → keep s ≡ a → keep m ≡ b → filter (λ t. keep t.symbol) (pair z s c m).terms ≡ kept_of a b
  kept_pair keep a b e k = of (nat_lt s m) refl ∙ by a b (nat_lt s m) refl
    where
      two : Bool → Bool → Bool → List Multiple
      two true a b = if a then multiple s c ∷ (if b then multiple m (pos 1) ∷ [] else []) else (if b then multiple m (pos 1) ∷ [] else [])
      two false a b = if b then multiple m (pos 1) ∷ (if a then multiple s c ∷ [] else []) else (if a then multiple s c ∷ [] else [])

      of : (l : Bool) → nat_lt s m ≡ l → filter (λ t. keep t.symbol) (if nat_lt s m then multiple s c ∷ multiple m (pos 1) ∷ [] else multiple m (pos 1) ∷ multiple s c ∷ []) ≡ two l a b
      of true l = (λ j. filter (λ t. keep t.symbol) (if l j then multiple s c ∷ multiple m (pos 1) ∷ [] else multiple m (pos 1) ∷ multiple s c ∷ []))
          ∙ (λ j. if e j then multiple s c ∷ (if k j then multiple m (pos 1) ∷ [] else []) else (if k j then multiple m (pos 1) ∷ [] else []))
      of false l = (λ j. filter (λ t. keep t.symbol) (if l j then multiple s c ∷ multiple m (pos 1) ∷ [] else multiple m (pos 1) ∷ multiple s c ∷ []))
          ∙ (λ j. if k j then multiple m (pos 1) ∷ (if e j then multiple s c ∷ [] else []) else (if e j then multiple s c ∷ [] else []))

      by : (a b l : Bool) → nat_lt s m ≡ l → two l a b ≡ kept_of a b
      by true true true l = sym (λ j. if l j then multiple s c ∷ multiple m (pos 1) ∷ [] else multiple m (pos 1) ∷ multiple s c ∷ [])
      by true true false l = sym (λ j. if l j then multiple s c ∷ multiple m (pos 1) ∷ [] else multiple m (pos 1) ∷ multiple s c ∷ [])
      by true false true l = refl
      by true false false l = refl
      by false true true l = refl
      by false true false l = refl
      by false false true l = refl
      by false false false l = refl

pub pair_limited : (z : ℤ) (s : ℕ) (c : ℤ) (m : ℕ) → unsigned_abs z ≤ 2 ^ 40 → unsigned_abs c ≤ 2 ^ 20 → is_within_limits (pair z s c m) ≡ true
pair_limited z s c m near small = of (nat_lt s m) refl
  where
    single_small : unsigned_abs (pos 1) ≤ 2 ^ 20
    single_small = omega arith

    of : (l : Bool) → nat_lt s m ≡ l → is_within_limits (pair z s c m) ≡ true
    of true l =
        (λ j. is_within_limits (record { constant = z; terms = if l j then multiple s c ∷ multiple m (pos 1) ∷ [] else multiple m (pos 1) ∷ multiple s c ∷ [] }))
        ∙ two_limited z c s (pos 1) m near small single_small
    of false l =
        (λ j. is_within_limits (record { constant = z; terms = if l j then multiple s c ∷ multiple m (pos 1) ∷ [] else multiple m (pos 1) ∷ multiple s c ∷ [] }))
        ∙ two_limited z (pos 1) m c s near single_small small

-- ---- a let behind a guard

module _ (z : ℤ) (near : unsigned_abs z ≤ 2 ^ 40) where
  nothing_more : pos 0 +ℤ pos 1 *ℤ z ≡ z
  nothing_more = omega (arith, ints)

  pub number_made : combined (number (pos 0)) (pos 1) (number z) ≡ Some (number z)
  number_made =
      let limited = number_limited z near in
      let is : plus_multiple (number (pos 0)) (pos 1) (number z) ≡ number z = λ j. record { constant = nothing_more j; terms = [] } in
      combined-made (number (pos 0)) (number z) (pos 1) refl limited (ap is_within_limits is ∙ limited) ∙ ap (λ (f : Form). Some f) is

module _ (low : ℤ) (s f m : ℕ) (some : 0 < f) (differ : (s == m) ≡ false) (limited : is_within_limits (pair low s (pos f) m) ≡ true) where
  pair_same : plus_multiple (number (pos 0)) (pos 1) (pair low s (pos f) m) ≡ pair low s (pos f) m
  pair_same = of (nat_lt s m) refl
    where
      none_more : pos 0 +ℤ pos 1 *ℤ low ≡ low
      none_more = omega (arith, ints)

      there : is_zero (pos f) ≡ false
      there = some_factor f some

      times : pos 1 *ℤ pos f ≡ pos f
      times = some_times f

      abbrev_terms : List Multiple → Form
      abbrev_terms ts = record { constant = pos 0 +ℤ pos 1 *ℤ low; terms = plus_terms [] (pos 1) ts }

      whole : (l : Bool) → nat_lt s m ≡ l → (if l then multiple s (pos f) ∷ multiple m (pos 1) ∷ [] else multiple m (pos 1) ∷ multiple s (pos f) ∷ []) ≡ (pair low s (pos f) m).terms
      whole l e = λ j. if sym e j then multiple s (pos f) ∷ multiple m (pos 1) ∷ [] else multiple m (pos 1) ∷ multiple s (pos f) ∷ []

      of : (l : Bool) → nat_lt s m ≡ l → abbrev_terms (pair low s (pos f) m).terms ≡ pair low s (pos f) m
      of true l =
          (λ j. abbrev_terms (if l j then multiple s (pos f) ∷ multiple m (pos 1) ∷ [] else multiple m (pos 1) ∷ multiple s (pos f) ∷ []))
          ∙ (λ j. record { constant = none_more j; terms = plus_term (in_front (multiple s (times j)) []) (multiple m (pos 1)) })
          ∙ (λ j. record { constant = low; terms = plus_term (if there j then [] else multiple s (pos f) ∷ []) (multiple m (pos 1)) })
          ∙ (let last = plus_one s m (pos f) (pos 1) refl differ true l ∙ whole true l in λ j. record { constant = low; terms = last j })
      of false l =
          (λ j. abbrev_terms (if l j then multiple s (pos f) ∷ multiple m (pos 1) ∷ [] else multiple m (pos 1) ∷ multiple s (pos f) ∷ []))
          ∙ (λ j. record { constant = none_more j; terms = plus_term (multiple m (pos 1) ∷ []) (multiple s (times j)) })
          ∙ (let last = plus_one m s (pos 1) (pos f) there (other_way s m differ) true (above s m l differ) ∙ whole false l in λ j. record { constant = low; terms = last j })

  pub pair_made : combined (number (pos 0)) (pos 1) (pair low s (pos f) m) ≡ Some (pair low s (pos f) m)
  pair_made =
      combined-made (number (pos 0)) (pair low s (pos f) m) (pos 1) refl limited (ap is_within_limits pair_same ∙ limited) ∙ ap (λ (g : Form). Some g) pair_same

module _ (line : ℕ → Line) (lim tops : ℕ → List Form) (factor : ℕ → ℤ) (cs : List Course) (all : List Item) where
  pub alone_fits : (s : ℕ) → SumFits factor (alone s) []
  alone_fits s = sum_none factor (alone s) refl (omega arith)

  pub pair_caps : (z : ℤ) → CapsFit line lim tops factor cs all [] (λ us. number z ∷ [])
  pair_caps z = record { same = λ ts p h e. (refl, (refl, tt)); puts = λ exact shows ts p h t m is lone. absurd m }

  -- ---- a shifted block

  module _ (s : ℕ) (o i : Item) (low last : ℤ) (f top : ℕ) (some : 0 < f) (few : f ≤ 1024) (once : factor i.symbol ≡ pos 1) (blocks : factor o.symbol ≡ pos f)
      (inner_low : i.low ≡ pos 0) (inner_last : i.last ≡ pos f -ℤ pos 1) (apart : (o.symbol == i.symbol) ≡ false) (outer_apart : (s == o.symbol) ≡ false) (inner_apart : (s == i.symbol) ≡ false)
      (low_near : unsigned_abs low ≤ 2 ^ 36) (last_near : unsigned_abs last ≤ 2 ^ 36) where
    abbrev pub room : ℤ
    room = (last -ℤ pos f) +ℤ pos 1

    abbrev pub start : Form
    start = pair (pos 0) s (pos 1) i.symbol

    abbrev pub first : Form
    first = one_of low (pos f) o.symbol

    abbrev pub whole : Form
    whole = pair low o.symbol (pos f) i.symbol

    abbrev pub caps_then : List Item → List Form
    caps_then ts = (if is_left i.symbol ts then one_of room (pos 1) i.symbol else number last) ∷ []

    inner_one : is_lone i ≡ true → pos f ≡ pos 1
    inner_one e = (let ends = lone_ends i e in let a = inner_low in let b = inner_last in omega (arith, ints, ends, a, b))

    -- ---- what it is kept at

    pub block_caps : CapsFit line lim tops factor cs all (i ∷ []) caps_then
    block_caps = record { same = same_caps; puts = put_caps }
      where
        same_caps : (ts : List Item) (p : One) → IsOne ts p → is_left p.one.symbol (i ∷ []) ≡ false → (caps_then p.others ≡ caps_then ts) × HaveNot p.one.symbol (caps_then ts)
        same_caps ts p h e =
            let differs = (or_none (i.symbol == p.one.symbol) false e).0 in
            let still = h.same i.symbol (other_way i.symbol p.one.symbol differs) in
            ((λ j. (if still j then one_of room (pos 1) i.symbol else number last) ∷ []), (of (is_left i.symbol ts) differs, tt))
          where
            of : (b : Bool) → (i.symbol == p.one.symbol) ≡ false → form_has p.one.symbol (if b then one_of room (pos 1) i.symbol else number last) ≡ false
            of true d = λ j. d j || false
            of false d = refl

        put_caps : (exact : Bool) (shows : Form → Form → Bool) (ts : List Item) (p : One) → IsOne ts p → (t : Item) → In t (i ∷ []) → t ≡ p.one → is_lone p.one ≡ true →
            expanded exact shows p.one.symbol (number p.one.low ∷ []) (caps_then ts) ≡ Some (caps_then p.others)
        put_caps exact shows ts p h t (inr m) is lone = absurd m
        put_caps exact shows ts p h t (inl e) is lone =
            let same : i ≡ p.one = sym e ∙ is in
            let left : is_left i.symbol ts ≡ true = ap (λ (u : Item). is_left u.symbol ts) same ∙ h.there in
            let gone : is_left i.symbol p.others ≡ false = ap (λ (u : Item). is_left u.symbol p.others) same ∙ h.loose in
            let one = inner_one (ap is_lone same ∙ lone) in
            let put = put_in one in
            (λ j. expanded exact shows (Item.symbol (sym same j)) (number (Item.low (sym same j)) ∷ []) ((if left j then one_of room (pos 1) i.symbol else number last) ∷ []))
            ∙ put ∙ (λ j. Some ((if sym gone j then one_of room (pos 1) i.symbol else number last) ∷ []))
          where
            put_in : pos f ≡ pos 1 → expanded exact shows i.symbol (number i.low ∷ []) (one_of room (pos 1) i.symbol ∷ []) ≡ Some (number last ∷ [])
            put_in one =
                let here = eq_refl i.symbol in
                let zero = inner_low in
                let bare : without (one_of room (pos 1) i.symbol) i.symbol ≡ number room = λ j. record { constant = room; terms = if not (here j) then multiple i.symbol (pos 1) ∷ [] else [] } in
                let sum : room +ℤ pos 1 *ℤ pos 0 ≡ last = omega (arith, ints, one) in
                let near_room : unsigned_abs room ≤ 2 ^ 40 = omega (arith, ints, last_near, one) in
                let is_sum : plus_multiple (number room) (pos 1) (number (pos 0)) ≡ number last = λ j. record { constant = sum j; terms = [] } in
                let made : combined (number room) (pos 1) (number (pos 0)) ≡ Some (number last) =
                combined-made (number room) (number (pos 0)) (pos 1) (number_limited room near_room) refl (ap is_within_limits is_sum ∙ number_limited last (wider last last_near))
                ∙ ap (λ (g : Form). Some g) is_sum in
                let times : factor_of (one_of room (pos 1) i.symbol).terms i.symbol ≡ pos 1 = λ j. (if here j then pos 1 else pos 0) +ℤ pos 0 in
                (λ j. if here j || false then (if is_positive (times j) then joined (each_replaced (one_of room (pos 1) i.symbol) i.symbol (times j) (number (zero j) ∷ [])) (Some []) else None)
                else joined (Some (one_of room (pos 1) i.symbol ∷ [])) (Some []))
                ∙ (λ j. joined (joined (single (combined (bare j) (pos 1) (number (pos 0)))) (Some [])) (Some []))
                ∙ (λ j. joined (joined (single (made j)) (Some [])) (Some []))
              where
                wider : (z : ℤ) → unsigned_abs z ≤ 2 ^ 36 → unsigned_abs z ≤ 2 ^ 40
                wider z h = omega (arith, h)

    -- ---- the let put in

    -- with it gone, and the inner loop left or not
    start_kept : (ts : List Item) (b : Bool) → is_left i.symbol ts ≡ b → filter (λ t. not (t.symbol == s)) (left_terms ts (i ∷ []) start.terms) ≡ (if b then multiple i.symbol (pos 1) ∷ [] else [])
    start_kept ts b left =
        kept_twice (λ k. not (k == s)) (λ k. not (is_gone ts (i ∷ []) k)) start.terms
        ∙ kept_pair (pos 0) s (pos 1) i.symbol (λ k. not (is_gone ts (i ∷ []) k) && not (k == s)) false b
        ((let here = eq_refl s in λ j. not (is_gone ts (i ∷ []) s) && not (here j)) ∙ false_end (not (is_gone ts (i ∷ []) s)))
        ((let here = eq_refl i.symbol in let differs = other_way s i.symbol inner_apart in λ j. not ((here j || false) && not (left j)) && not (differs j)) ∙ twice b)
        ∙ picked b
      where
        twice : (b : Bool) → (not (not b) && true) ≡ b
        twice true = refl
        twice false = refl

        picked : (b : Bool) → kept_of (pos 0) s (pos 1) i.symbol false b ≡ (if b then multiple i.symbol (pos 1) ∷ [] else [])
        picked true = refl
        picked false = refl

    whole_kept : (ts : List Item) (b : Bool) → is_left o.symbol ts ≡ true → is_left i.symbol ts ≡ b →
        left_terms ts (o ∷ i ∷ []) whole.terms ≡ (if b then whole.terms else multiple o.symbol (pos f) ∷ [])
    whole_kept ts b outer left =
        kept_pair low o.symbol (pos f) i.symbol (λ k. not (is_gone ts (o ∷ i ∷ []) k)) true b
        ((λ j. not (((o.symbol == o.symbol) || ((i.symbol == o.symbol) || false)) && not (outer j))) ∙ ap not (false_end ((o.symbol == o.symbol) || ((i.symbol == o.symbol) || false))))
        ((let here = eq_refl i.symbol in λ j. not (((o.symbol == i.symbol) || (here j || false)) && not (left j))) ∙ (let differs = apart in λ j. not ((differs j || true) && not b)) ∙ twice b)
        ∙ picked b
      where
        twice : (b : Bool) → not (not b) ≡ b
        twice true = refl
        twice false = refl

        picked : (b : Bool) → kept_of low o.symbol (pos f) i.symbol true b ≡ (if b then whole.terms else multiple o.symbol (pos f) ∷ [])
        picked true = refl
        picked false = refl

    abbrev pub Gone : List Item → Type 0
    Gone ts = (u : Item) → In u (i ∷ []) → is_lone u ≡ false → is_left u.symbol ts ≡ false

    abbrev pub Waits : List Item → Type 0
    Waits ts = (u : Item) → In u (o ∷ i ∷ []) → is_left u.symbol (i ∷ []) ≡ false → is_left u.symbol ts ≡ true

    outer_left : (ts : List Item) → Waits ts → is_left o.symbol ts ≡ true
    outer_left ts waits = (let differs = other_way o.symbol i.symbol apart in waits o (inl refl) (λ j. differs j || false))

    -- the number that the inner loop has added
    inner_near : (z : ℤ) → (z ≡ i.low) ⊎ (z ≡ i.last) → unsigned_abs z ≤ 1024
    inner_near z (inl e) = (let a = inner_low in let zero : z ≡ pos 0 = e ∙ a in omega (arith, ints, zero))
    inner_near z (inr e) = (let a = inner_last in let most : z ≡ pos f -ℤ pos 1 = e ∙ a in omega (arith, ints, most, few, some))

    small_factor : unsigned_abs (pos f) ≤ 2 ^ 20
    small_factor = omega (arith, few)

    pub puts_block : (e : Item → ℤ) → ((u : Item) → In u (i ∷ []) → (e u ≡ u.low) ⊎ (e u ≡ u.last)) → (ts : List Item) → Gone ts → Waits ts →
        combined (without (form_at factor e ts start (i ∷ [])) s) (pos 1) first ≡ Some (form_at factor e ts whole (o ∷ i ∷ []))
    puts_block e ends ts gone waits = of (is_left i.symbol ts) refl
      where
        outer : is_left o.symbol ts ≡ true
        outer = outer_left ts waits

        value : factor i.symbol *ℤ e i ≡ e i
        value = ap (λ (c : ℤ). c *ℤ e i) once ∙ one_time (e i)
          where
            one_time : (z : ℤ) → pos 1 *ℤ z ≡ z
            one_time z = omega (arith, ints)

        near : unsigned_abs (e i) ≤ 1024
        near = inner_near (e i) (ends i (inl refl))

        times : pos 1 *ℤ pos f ≡ pos f
        times = some_times f

        there : is_zero (pos f) ≡ false
        there = some_factor f some

        of : (b : Bool) → is_left i.symbol ts ≡ b → combined (without (form_at factor e ts start (i ∷ [])) s) (pos 1) first ≡ Some (form_at factor e ts whole (o ∷ i ∷ []))
        of false left =
            let kept = start_kept ts false left in
            let before : without (form_at factor e ts start (i ∷ [])) s ≡ number (e i) =
            (λ j. record { constant = pos 0 +ℤ ((if left j then pos 0 else value j) +ℤ pos 0); terms = kept j }) ∙ (let same = alone_value (e i) in λ j. number (same j)) in
            let terms = whole_kept ts false outer left in
            let behind : form_at factor e ts whole (o ∷ i ∷ []) ≡ one_of (low +ℤ e i) (pos f) o.symbol =
            (λ j. record { constant = low +ℤ ((if outer j then pos 0 else factor o.symbol *ℤ e o) +ℤ ((if left j then pos 0 else value j) +ℤ pos 0)); terms = terms j })
            ∙ (let same = both_values low (e i) in λ j. one_of (same j) (pos f) o.symbol) in
            let sum : plus_multiple (number (e i)) (pos 1) first ≡ one_of (low +ℤ e i) (pos f) o.symbol =
            (let same = moved low (e i) in λ j. record { constant = same j; terms = in_front (multiple o.symbol (times j)) [] }) ∙ (λ j. record {
              constant = low +ℤ e i;
              terms = if there j
                  then [] else multiple o.symbol (pos f) ∷ [];
            }) in
            let limited = one_limited (low +ℤ e i) (pos f) o.symbol (sum_near low (e i) low_near near) small_factor in
            ap (λ (g : Form). combined g (pos 1) first) before
            ∙ combined-made (number (e i)) first (pos 1) (number_limited (e i) (omega (arith, near))) (one_limited low (pos f) o.symbol (omega (arith, low_near)) small_factor) (ap
            is_within_limits sum ∙ limited)
            ∙ (λ j. Some (sum j)) ∙ (λ j. Some (sym behind j))
          where
            alone_value : (z : ℤ) → pos 0 +ℤ (z +ℤ pos 0) ≡ z
            alone_value z = omega (arith, ints)

            both_values : (a z : ℤ) → a +ℤ (pos 0 +ℤ (z +ℤ pos 0)) ≡ a +ℤ z
            both_values a z = omega (arith, ints)

            moved : (a z : ℤ) → z +ℤ pos 1 *ℤ a ≡ a +ℤ z
            moved a z = omega (arith, ints)

            sum_near : (a z : ℤ) → unsigned_abs a ≤ 2 ^ 36 → unsigned_abs z ≤ 1024 → unsigned_abs (a +ℤ z) ≤ 2 ^ 40
            sum_near a z h k = omega (arith, ints, h, k)
        of true left =
            let kept = start_kept ts true left in
            let before : without (form_at factor e ts start (i ∷ [])) s ≡ one_of (pos 0) (pos 1) i.symbol =
            (λ j. record { constant = pos 0 +ℤ ((if left j then pos 0 else factor i.symbol *ℤ e i) +ℤ pos 0); terms = kept j }) in
            let terms = whole_kept ts true outer left in
            let behind : form_at factor e ts whole (o ∷ i ∷ []) ≡ whole =
            (λ j. record { constant = low +ℤ ((if outer j then pos 0 else factor o.symbol *ℤ e o) +ℤ ((if left j then pos 0 else factor i.symbol *ℤ e i) +ℤ pos 0)); terms = terms j })
            ∙ (let same = no_values low in λ j. record { constant = same j; terms = whole.terms }) in
            let sum : plus_multiple (one_of (pos 0) (pos 1) i.symbol) (pos 1) first ≡ whole =
            (let same = moved low in λ j. record { constant = same j; terms = plus_term (multiple i.symbol (pos 1) ∷ []) (multiple o.symbol (times j)) })
            ∙ (let joined_terms = plus_one i.symbol o.symbol (pos 1) (pos f) there (other_way o.symbol i.symbol apart) (nat_lt i.symbol o.symbol) refl ∙ swapped (nat_lt i.symbol o.symbol) refl in
            λ j. record { constant = low; terms = joined_terms j }) in
            let limited = whole_limited in
            ap (λ (g : Form). combined g (pos 1) first) before
            ∙ combined-made (one_of (pos 0) (pos 1) i.symbol) first (pos 1) refl (one_limited low (pos f) o.symbol (omega (arith, low_near)) small_factor) (ap is_within_limits sum ∙ limited)
            ∙ (λ j. Some (sum j)) ∙ (λ j. Some (sym behind j))
          where
            no_values : (a : ℤ) → a +ℤ (pos 0 +ℤ (pos 0 +ℤ pos 0)) ≡ a
            no_values a = omega (arith, ints)

            moved : (a : ℤ) → pos 0 +ℤ pos 1 *ℤ a ≡ a
            moved a = omega (arith, ints)

            swapped : (l : Bool) → nat_lt i.symbol o.symbol ≡ l →
                (if l then multiple i.symbol (pos 1) ∷ multiple o.symbol (pos f) ∷ [] else multiple o.symbol (pos f) ∷ multiple i.symbol (pos 1) ∷ []) ≡ whole.terms
            swapped true l = (let back = not_above i.symbol o.symbol l in sym (λ j. if back j then multiple o.symbol (pos f) ∷ multiple i.symbol (pos 1) ∷ [] else multiple i.symbol (pos 1)
                ∷ multiple o.symbol (pos f) ∷ []))
            swapped false l =
                (let back = above i.symbol o.symbol l (other_way o.symbol i.symbol apart) in sym (λ j. if back j then multiple o.symbol (pos f) ∷ multiple i.symbol (pos 1) ∷ [] else
                multiple i.symbol (pos 1) ∷ multiple o.symbol
                (pos f) ∷ []))

            whole_limited : is_within_limits whole ≡ true
            whole_limited = pair_limited low o.symbol (pos f) i.symbol (omega (arith, low_near)) small_factor

    pub keeps_block : (ts : List Item) → Gone ts → Waits ts →
        (d : Form) × (combined (without (form_at factor (λ u. u.last) ts start (i ∷ [])) s) (pos 1) (number room) ≡ Some d) × (caps_then ts ≡ d ∷ [])
    keeps_block ts gone waits = of (is_left i.symbol ts) refl
      where
        value : factor i.symbol *ℤ i.last ≡ pos f -ℤ pos 1
        value = ap (λ (c : ℤ). c *ℤ i.last) once ∙ one_time i.last ∙ inner_last
          where
            one_time : (z : ℤ) → pos 1 *ℤ z ≡ z
            one_time z = omega (arith, ints)

        room_near : unsigned_abs room ≤ 2 ^ 40
        room_near = omega (arith, ints, last_near, few)

        of : (b : Bool) → is_left i.symbol ts ≡ b → (d : Form) × (combined (without (form_at factor (λ u. u.last) ts start (i ∷ [])) s) (pos 1) (number room) ≡ Some d) × (caps_then ts ≡ d ∷ [])
        of false left =
            let kept = start_kept ts false left in
            let before : without (form_at factor (λ u. u.last) ts start (i ∷ [])) s ≡ number (pos f -ℤ pos 1) =
            (λ j. record { constant = pos 0 +ℤ ((if left j then pos 0 else value j) +ℤ pos 0); terms = kept j }) ∙ (let same = alone_value (pos f -ℤ pos 1) in λ j. number (same j)) in
            let sum : plus_multiple (number (pos f -ℤ pos 1)) (pos 1) (number room) ≡ number last = (let same = ends in λ j. number (same j)) in
            let most : unsigned_abs (pos f -ℤ pos 1) ≤ 2 ^ 40 = omega (arith, ints, few) in (
              number last,
              ap (λ (g : Form). combined g (pos 1) (number room)) before
                  ∙ combined-made (number (pos f -ℤ pos 1)) (number room) (pos 1) (number_limited (pos f -ℤ pos 1) most) (number_limited room room_near)
                  (ap is_within_limits sum ∙ number_limited last (wider last last_near)) ∙ ap (λ (g : Form). Some g) sum,
              (λ j. (if left j then one_of room (pos 1) i.symbol else number last) ∷ []),
            )
          where
            alone_value : (z : ℤ) → pos 0 +ℤ (z +ℤ pos 0) ≡ z
            alone_value z = omega (arith, ints)

            wider : (z : ℤ) → unsigned_abs z ≤ 2 ^ 36 → unsigned_abs z ≤ 2 ^ 40
            wider z h = omega (arith, h)

            ends : (pos f -ℤ pos 1) +ℤ pos 1 *ℤ room ≡ last
            ends = omega (arith, ints)
        of true left =
            let kept = start_kept ts true left in
            let before : without (form_at factor (λ u. u.last) ts start (i ∷ [])) s ≡ one_of (pos 0) (pos 1) i.symbol =
            (λ j. record { constant = pos 0 +ℤ ((if left j then pos 0 else factor i.symbol *ℤ i.last) +ℤ pos 0); terms = kept j }) in
            let sum : plus_multiple (one_of (pos 0) (pos 1) i.symbol) (pos 1) (number room) ≡ one_of room (pos 1) i.symbol =
            (let same = none_more room in λ j. one_of (same j) (pos 1) i.symbol) in (
              one_of room (pos 1) i.symbol,
              ap (λ (g : Form). combined g (pos 1) (number room)) before
                  ∙ combined-made (one_of (pos 0) (pos 1) i.symbol) (number room) (pos 1) refl (number_limited room room_near)
                  (ap is_within_limits sum ∙ one_limited room (pos 1) i.symbol room_near (omega arith)) ∙ ap (λ (g : Form). Some g) sum,
              (λ j. (if left j then one_of room (pos 1) i.symbol else number last) ∷ []),
            )
          where
            none_more : (z : ℤ) → pos 0 +ℤ pos 1 *ℤ z ≡ z
            none_more z = omega (arith, ints)

    pub block_shifted : IsShifted line lim tops factor cs all s first room start (i ∷ []) whole (o ∷ i ∷ []) caps_then
    block_shifted = record { counts = factor_one (pos 0) s (pos 1) i.symbol inner_apart; puts = puts_block; keeps = keeps_block }

    -- ---- the coordinate before

    pub start_has : (k : ℕ) → form_has k start ≡ ((s == k) || (i.symbol == k))
    start_has k = has_pair (pos 0) s (pos 1) i.symbol k

    pub start_fits : SumFits factor start (i ∷ [])
    start_fits =
        sum_one factor start (pair_limited (pos 0) s (pos 1) i.symbol (omega arith) (omega arith)) i once named (factor_two (pos 0) s (pos 1) i.symbol inner_apart) (omega arith)
        (let e = inner_low in omega (arith, ints, e)) (let e = inner_last in omega (arith, ints, e, few, some))
      where
        named : form_has i.symbol start ≡ true
        named = (let here = eq_refl i.symbol in start_has i.symbol ∙ (λ j. (s == i.symbol) || here j) ∙ either (s == i.symbol))
          where
            either : (b : Bool) → (b || true) ≡ true
            either true = refl
            either false = refl

    -- blocks of more numbers than one come behind these
    pub block_order : (u v : Item) → In u (o ∷ i ∷ []) → In v (o ∷ i ∷ []) → is_lone u ≡ false → is_lone v ≡ false → is_left u.symbol (i ∷ []) ≡ true → is_left v.symbol (i ∷ []) ≡ false →
        (factor u.symbol +ℤ pos 1) ≤ℤ factor v.symbol
    block_order u v mu mv turns more here there = of mu mv
      where
        wide : is_lone i ≡ false → 2 ≤ f
        wide e = by (nat_lt f 2) refl
          where
            by : (b : Bool) → nat_lt f 2 ≡ b → 2 ≤ f
            by true q =
                let less : f < 2 = lt_is f 2 q in
                let one : f ≡ 1 = omega (arith, less, some) in
                let ends : i.low ≡ i.last = inner_low ∙ sym (inner_last ∙ ap (λ (m : ℕ). pos m -ℤ pos 1) one) in
                let lone : is_lone i ≡ true = lone_of i.low i.last ends in
                let clash : true ≡ false = sym lone ∙ e in
                absurd (cc clash)
            by false q = not_lt f 2 q

        of : In u (o ∷ i ∷ []) → In v (o ∷ i ∷ []) → (factor u.symbol +ℤ pos 1) ≤ℤ factor v.symbol
        of (inl a) b =
            let differs : (i.symbol == u.symbol) ≡ false = ap (λ (w : Item). i.symbol == w.symbol) a ∙ other_way o.symbol i.symbol apart in
            let clash : true ≡ false = sym here ∙ (λ j. differs j || false) in
            absurd (cc clash)
        of (inr (inr a)) b = absurd a
        of (inr (inl a)) (inr (inr b)) = absurd b
        of (inr (inl a)) (inr (inl b)) =
            let same : (i.symbol == v.symbol) ≡ true = ap (λ (w : Item). i.symbol == w.symbol) b ∙ eq_refl i.symbol in
            let clash : true ≡ false = sym (λ j. same j || false) ∙ there in
            absurd (cc clash)
        of (inr (inl a)) (inl b) =
            let two = wide (ap is_lone (sym a) ∙ turns) in
            let one : factor u.symbol ≡ pos 1 = ap (λ (w : Item). factor w.symbol) a ∙ once in
            let many : factor v.symbol ≡ pos f = ap (λ (w : Item). factor w.symbol) b ∙ blocks in
            omega (arith, ints, two, one, many)
