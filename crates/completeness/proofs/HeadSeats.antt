-- Shifted blocks over the grid: a let of the group's head, the smaller one of a form and a number, is a block's first number. What its block's claim and places are.
use Rattle.std.proofs.Common.{◌≡◌, ℕ, zero, suc, ◌+◌, ◌<◌, ◌≤◌, ◌^◌, Bool, true, false, ◌&&◌, ◌||◌, not, List, [], ◌∷◌, length, Option, Some, None, refl, sym, ap, ◌∙◌, subst, arith}
use Rattle.std.specs.Prelude.{ℤ, pos, negsuc, ◌+ℤ◌, ◌-ℤ◌, ◌*ℤ◌, ◌≤ℤ◌, nat_lt, ◌==◌, if◌then◌else◌, min, slice_get, option_and_then}
use Rattle.std.specs.Int.{int_min}
use Rattle.std.specs.Int.RustNames.{unsigned_abs}
use Rattle.std.specs.List.{AllByRecursion, list_any, list_all}
use Rattle.std.proofs.lemmas.Bool.Decides.{nat_tests}
use Rattle.std.proofs.lemmas.Int.{ints}
use Rattle.lin.specs.Forms.{Form, number, in_front, plus_term, plus_multiple, is_within_limits, combined}
use Rattle.lin.specs.Search.{replaced, sup, is_at_most_zero, pick, at_most}
use Rattle.lin.specs.declared.scope.Binding.{Binding}
use Rattle.lin.specs.declared.scope.Binding.TheVariants.{Loop as Bound, LetMin}
use Rattle.lin.specs.declared.span.Span1.{Span1}
use Rattle.lin.proofs.Limits.{combined-made}
use Rattle.plan.specs.declared.stmt.Places.TheVariants.{From}
use Rattle.plan.specs.declared.stmt.Pick.TheVariants.{Min}
use Rattle.soundness.specs.Obligations.{Binder, Picked, Rules, exactly, form_has}
use Rattle.soundness.specs.Shown.{raised, is_within, is_seated}
use Rattle.soundness.proofs.Refines.{eq_refl}
use Rattle.rules.specs.Bounding.Scopes.{most_symbols, binding_of, symbol_count, scope_of, shown_at_most}
use Rattle.sched.specs.declared.nest.Turning.{Turning}
use Rattle.sched.specs.Standing.{alone}
use Rattle.sched.specs.declared.skeleton.Step.{Step}
use Rattle.sched.specs.declared.skeleton.Step.TheVariants.{Named}
use Rattle.completeness.proofs.NestWalk.{lets_around}
use Rattle.sched.specs.Skeleton.{span}
use Rattle.tails.specs.Moves.{joined, single, each_replaced, is_positive, expanded}
use Rattle.tails.specs.Maps.{spelled_out, or_these}
use Rattle.sched.specs.Around.{grid_symbol}
use Rattle.soundness.specs.Binders.View.{grid_from}
use Rattle.completeness.proofs.GridCounts.{IsShort}
use Rattle.completeness.proofs.GridScope.{number_limited, grid_tells}
use Rattle.completeness.proofs.SelfBounds.{form_self, least_number, no_replacements, term_gone, found_below, still}
use Rattle.completeness.proofs.Searched.{one_of, numbers_made, found}
use Rattle.completeness.proofs.PlainTests.{at_place, scope_long}
use Rattle.completeness.proofs.LoopMoves.{other_way, opened_none, Item}
use Rattle.completeness.proofs.BlockMoves.{Sums, is_gone, now}
use Rattle.completeness.proofs.CourseSums.{kept_pair}
use Rattle.completeness.proofs.GuardSums.{smaller_left}
use Rattle.completeness.proofs.BlockSums.{multiple, pair, two_of, one_limited, two_limited}
use Rattle.completeness.proofs.LatestSums.{least_once, count_once, least_twice, count_twice, sup_is, one_counts, one_above, one_gone, two_counts, two_above, two_gone}
use Rattle.completeness.proofs.TailSteps.{Line, Loop}
use Rattle.completeness.proofs.TailBounds.{skips, count_more, inner_of, inner, sc, scope_bare, seated_by, shown}

-- ---- the lets of a group's head

pub record HeadLet : Type 0 where
  pub form : Form
  pub room : ℤ

abbrev pub forms_of : HeadLet → List Form
forms_of l = l.form ∷ number l.room ∷ []

-- what they bind, from this symbol on, around these
abbrev pub around_from : ℕ → List HeadLet → List Binder → List Binder
around_from n [] bs = bs
around_from n (l ∷ ls) bs = around_from (n + 1) ls (Picked n Min (forms_of l) ∷ bs)

pub around_skips : (n : ℕ) (ls : List HeadLet) (bs : List Binder) (s : ℕ) → s < n → binding_of (around_from n ls bs) s ≡ binding_of bs s
around_skips n [] bs s less = refl
around_skips n (l ∷ ls) bs s less =
    let differs : (n == s) ≡ false = grind (arith, nat_tests, less) in
    around_skips (n + 1) ls (Picked n Min (forms_of l) ∷ bs) s (omega (arith, less)) ∙ ap (λ (b : Bool). if b then LetMin (forms_of l) else binding_of bs s) differs

pub around_tells : (n : ℕ) (ls : List HeadLet) (bs : List Binder) (j : ℕ) (l : HeadLet) → slice_get ls j ≡ Some l → binding_of (around_from n ls bs) (n + j) ≡ LetMin (forms_of l)
around_tells n [] bs j l at = absurd (cc at)
around_tells n (m ∷ ls) bs zero l at =
    let is : m ≡ l = cc at in
    let none : n + 0 ≡ n = omega arith in
    ap (binding_of (around_from (n + 1) ls (Picked n Min (forms_of m) ∷ bs))) none ∙ around_skips (n + 1) ls (Picked n Min (forms_of m) ∷ bs) n (omega arith)
    ∙ ap (λ (b : Bool). if b then LetMin (forms_of m) else binding_of bs n) (eq_refl n) ∙ ap (λ (k : HeadLet). LetMin (forms_of k)) is
around_tells n (m ∷ ls) bs (suc j) l at =
    let next : n + suc j ≡ (n + 1) + j = omega arith in
    ap (binding_of (around_from (n + 1) ls (Picked n Min (forms_of m) ∷ bs))) next ∙ around_tells (n + 1) ls (Picked n Min (forms_of m) ∷ bs) j l at

around_more : (n : ℕ) (ls : List HeadLet) (bs : List Binder) → symbol_count bs ≤ symbol_count (around_from n ls bs)
around_more n [] bs = omega arith
around_more n (l ∷ ls) bs =
    let rest = around_more (n + 1) ls (Picked n Min (forms_of l) ∷ bs) in
    let here : symbol_count bs ≤ symbol_count (Picked n Min (forms_of l) ∷ bs) = omega arith in
    omega (arith, rest, here)

around_counts : (n : ℕ) (ls : List HeadLet) (bs : List Binder) (j : ℕ) (l : HeadLet) → slice_get ls j ≡ Some l → n + j < symbol_count (around_from n ls bs)
around_counts n [] bs j l at = absurd (cc at)
around_counts n (m ∷ ls) bs zero l at =
    let rest = around_more (n + 1) ls (Picked n Min (forms_of m) ∷ bs) in
    let here : n < symbol_count (Picked n Min (forms_of m) ∷ bs) = omega arith in
    omega (arith, rest, here)
around_counts n (m ∷ ls) bs (suc j) l at = (let rest = around_counts (n + 1) ls (Picked n Min (forms_of m) ∷ bs) j l at in omega (arith, rest))

-- a let of the head in the scope around a nest
pub head_scoped : (n : ℕ) (ls : List HeadLet) (bs : List Binder) (j : ℕ) (l : HeadLet) → slice_get ls j ≡ Some l → n + j < most_symbols →
    (slice_get (scope_of (around_from n ls bs)) (n + j) ≡ Some (LetMin (forms_of l))) × (n + j < length (scope_of (around_from n ls bs)))
head_scoped n ls bs j l at few =
    let all = around_from n ls bs in
    let counts = around_counts n ls bs j l at in
    let within : n + j < min (symbol_count (around_from n ls bs)) most_symbols = omega (arith, few, counts) in
    let from_zero : 0 + (n + j) ≡ n + j = omega arith in
    let long = scope_long (binding_of all) 0 (min (symbol_count all) most_symbols) in (
      at_place (binding_of all) 0 (min (symbol_count all) most_symbols) (n + j) within ∙ ap (λ (m : ℕ). Some (binding_of all m)) from_zero
          ∙ ap (λ (b : Binding). Some b) (around_tells n ls bs j l at),
      omega (arith, long, within),
    )

-- and what was in the scope before
pub head_keeps : (n : ℕ) (ls : List HeadLet) (bs : List Binder) (s : ℕ) (b : Binding) → s < n → s < symbol_count bs → s < most_symbols → binding_of bs s ≡ b →
    (slice_get (scope_of (around_from n ls bs)) s ≡ Some b) × (s < length (scope_of (around_from n ls bs)))
head_keeps n ls bs s b less there few is =
    let all = around_from n ls bs in
    let more = around_more n ls bs in
    let within : s < min (symbol_count (around_from n ls bs)) most_symbols = omega (arith, few, more, there) in
    let long = scope_long (binding_of all) 0 (min (symbol_count all) most_symbols) in
    let from_zero : 0 + s ≡ s = omega arith in (
      at_place (binding_of all) 0 (min (symbol_count all) most_symbols) s within ∙ ap (λ (m : ℕ). Some (binding_of all m)) from_zero
          ∙ ap (λ (c : Binding). Some c) (around_skips n ls bs s less ∙ is),
      omega (arith, long, within),
    )

-- inside of a nest a symbol of the grid is known as around it
pub grid_kept : (line : ℕ → Line) (lim : ℕ → List Form) (n : ℕ) (ts : List Turning) → n + length ts ≤ most_symbols → (counts : List ℕ) (heads : List HeadLet) → AllByRecursion IsShort counts →
    length counts + length heads ≤ n → (s : ℕ) → s < length counts →
    (m : ℕ) × (slice_get (scope_of (inner_of line lim n ts (around_from (length counts) heads (grid_from 0 counts)))) s ≡ Some (grid_symbol m))
grid_kept line lim n ts short counts heads few behind s inside = of (slice_get counts s) refl
  where
    around : List Binder
    around = around_from (length counts) heads (grid_from 0 counts)

    plain : List Binder
    plain = inner_of line lim n ts around

    within : s < min (symbol_count plain) most_symbols
    within =
        let many = (grid_tells counts few).many in
        let some = around_more (length counts) heads (grid_from 0 counts) in
        let more = count_more line lim n ts around in
        omega (arith, many, some, more, inside, behind, short)

    none_there : (ns : List ℕ) (j : ℕ) → j < length ns → slice_get ns j ≡ None → ⊥
    none_there [] j less e = omega (arith, less)
    none_there (x ∷ ns) zero less e = cc e
    none_there (x ∷ ns) (suc j) less e = none_there ns j (omega (arith, less)) e

    of : (o : Option ℕ) → slice_get counts s ≡ o → (m : ℕ) × (slice_get (scope_of plain) s ≡ Some (grid_symbol m))
    of None e = absurd (none_there counts s inside e)
    of (Some m) e =
        let from_zero : 0 + s ≡ s = omega arith in (
          m,
          at_place (binding_of plain) 0 (min (symbol_count plain) most_symbols) s within ∙ ap (λ (i : ℕ). Some (binding_of plain i)) from_zero
              ∙ ap (λ (b : Binding). Some b) (skips line lim n ts around s (omega (arith, inside, behind)) ∙ around_skips (length counts) heads (grid_from 0 counts) s inside
              ∙ (grid_tells counts few).tells s m e),
        )

-- ---- upper forms over a let

-- a let that no upper form has tells no more
pub around_spells : (n : ℕ) (ls : List HeadLet) (bs : List Binder) (y : Span1) → ((j : ℕ) → list_any (form_has (n + j)) y.upper ≡ false) → spelled_out (around_from n ls bs) y ≡ spelled_out bs y
around_spells n [] bs y none = refl
around_spells n (l ∷ ls) bs y none =
    let here : list_any (form_has n) y.upper ≡ false = (let zero_more : n ≡ n + 0 = omega arith in ap (λ (m : ℕ). list_any (form_has m) y.upper) zero_more ∙ none 0) in
    let same = unopened n (forms_of l) y.upper here in
    around_spells (n + 1) ls (Picked n Min (forms_of l) ∷ bs) y (λ j. let next : (n + 1) + j ≡ n + suc j = omega arith in ap (λ (m : ℕ). list_any (form_has m) y.upper) next ∙ none (suc j))
    ∙ (λ j. spelled_out bs (record { lower = y.lower; upper = or_these y.upper (same j) }))
  where
    unopened : (i : ℕ) (ms fs : List Form) → list_any (form_has i) fs ≡ false → expanded false (λ a b. false) i ms fs ≡ Some fs
    unopened i ms fs e = opened_none false (λ a b. false) i ms fs e

module _ (g : ℕ) (low : ℤ) (k : ℕ) (few : suc k ≤ 1024) (room : ℤ) (near : unsigned_abs low ≤ 2 ^ 36) (room_near : unsigned_abs room ≤ 2 ^ 37) where
  abbrev start : Form
  start = one_of low (pos (suc k)) g

  -- the last number of a block, by the form and by the number
  abbrev pub ends : List Form
  ends = one_of (pos k +ℤ low) (pos (suc k)) g ∷ number (pos k +ℤ room) ∷ []

  ends_are : (b : ℕ) → expanded false (λ a b. false) b (start ∷ number room ∷ []) (one_of (pos k) (pos 1) b ∷ []) ≡ Some ends
  ends_are b =
      let here = eq_refl b in
      let sum : pos k +ℤ pos 1 *ℤ low ≡ pos k +ℤ low = omega (arith, ints) in
      let room_sum : pos k +ℤ pos 1 *ℤ room ≡ pos k +ℤ room = omega (arith, ints) in
      let times : pos 1 *ℤ pos (suc k) ≡ pos (suc k) = omega (arith, ints) in
      let k_near : unsigned_abs (pos k) ≤ 2 ^ 40 = omega (arith, few) in
      let wide : unsigned_abs (pos (suc k)) ≤ 2 ^ 20 = omega (arith, few) in
      let low_sum : unsigned_abs (pos k +ℤ low) ≤ 2 ^ 40 = near_sum k low few near in
      let room_all : unsigned_abs (pos k +ℤ room) ≤ 2 ^ 40 = near_room k room few room_near in
      let bare = one_gone (pos k) (pos 1) b in
      let is : plus_multiple (number (pos k)) (pos 1) start ≡ one_of (pos k +ℤ low) (pos (suc k)) g = (λ j. record { constant = sum j; terms = in_front (multiple g (times j)) [] }) in
      let made : combined (number (pos k)) (pos 1) start ≡ Some (one_of (pos k +ℤ low) (pos (suc k)) g) =
      combined-made (number (pos k)) start (pos 1) (number_limited (pos k) k_near) (one_limited low (pos (suc k)) g (omega (arith, near)) wide)
      (ap is_within_limits is ∙ one_limited (pos k +ℤ low) (pos (suc k)) g low_sum wide) ∙ ap (λ (f : Form). Some f) is in
      let is_room : plus_multiple (number (pos k)) (pos 1) (number room) ≡ number (pos k +ℤ room) = (λ j. record { constant = room_sum j; terms = [] }) in
      let made_room : combined (number (pos k)) (pos 1) (number room) ≡ Some (number (pos k +ℤ room)) =
      combined-made (number (pos k)) (number room) (pos 1) (number_limited (pos k) k_near) (number_limited room (omega (arith, room_near)))
      (ap is_within_limits is_room ∙ number_limited (pos k +ℤ room) room_all) ∙ ap (λ (f : Form). Some f) is_room in
      let counts = one_counts (pos k) (pos 1) b in
      (λ j. if here j || false then (if is_positive (counts j) then joined (each_replaced (one_of (pos k) (pos 1) b) b (counts j) (start ∷ number room ∷ [])) (Some []) else None)
      else joined (Some (one_of (pos k) (pos 1) b ∷ [])) (Some []))
      ∙ (λ j. joined (joined (single (combined (bare j) (pos 1) start)) (joined (single (combined (bare j) (pos 1) (number room))) (Some []))) (Some []))
      ∙ (λ j. joined (joined (single (made j)) (joined (single (made_room j)) (Some []))) (Some []))
    where
      near_sum : (p : ℕ) (z : ℤ) → suc p ≤ 1024 → unsigned_abs z ≤ 2 ^ 36 → unsigned_abs (pos p +ℤ z) ≤ 2 ^ 40
      near_sum p z h e = omega (arith, ints, h, e)

      near_room : (p : ℕ) (z : ℤ) → suc p ≤ 1024 → unsigned_abs z ≤ 2 ^ 37 → unsigned_abs (pos p +ℤ z) ≤ 2 ^ 40
      near_room p z h e = omega (arith, ints, h, e)

  -- what is over the let's symbol is over the block's form, and at most what the number comes to
  pub around_opens : (n : ℕ) (ls : List HeadLet) (bs : List Binder) (j : ℕ) → slice_get ls j ≡ Some (record { form = start; room = room }) → g < n → (lower : List Form) →
      spelled_out (around_from n ls bs) (record { lower = lower; upper = one_of (pos k) (pos 1) (n + j) ∷ [] }) ≡ spelled_out bs (record { lower = lower; upper = ends })
  around_opens n [] bs j at less lower = absurd (cc at)
  around_opens n (l ∷ ls) bs zero at less lower =
      let is : l ≡ record { form = start; room = room } = cc at in
      let none : n + 0 ≡ n = omega arith in
      ap (λ (m : ℕ). spelled_out (around_from (n + 1) ls (Picked n Min (forms_of l) ∷ bs)) (record { lower = lower; upper = one_of (pos k) (pos 1) m ∷ [] })) none
      ∙ around_spells (n + 1) ls (Picked n Min (forms_of l) ∷ bs) (record { lower = lower; upper = one_of (pos k) (pos 1) n ∷ [] }) (λ i. let away : (n == (n + 1) + i) ≡ false = apart_of n
      i in λ j. (away j || false) || false)
      ∙ ap (λ (m : HeadLet). spelled_out bs (record {
        lower = lower;
        upper = or_these (one_of (pos k) (pos 1) n ∷ []) (expanded false (λ a b. false) n (forms_of m) (one_of (pos k) (pos 1) n
            ∷ []));
      })) is
      ∙ (let opens = ends_are n in λ j. spelled_out bs (record { lower = lower; upper = or_these (one_of (pos k) (pos 1) n ∷ []) (opens j) }))
    where
      apart_of : (n i : ℕ) → (n == (n + 1) + i) ≡ false
      apart_of n i = grind (arith, nat_tests)
  around_opens n (l ∷ ls) bs (suc j) at less lower =
      let next : n + suc j ≡ (n + 1) + j = omega arith in
      let away : (g == n) ≡ false = grind (arith, nat_tests, less) in
      let same = opened_none false (λ a b. false) n (forms_of l) ends (λ i. (away i || false) || (false || false)) in
      ap (λ (m : ℕ). spelled_out (around_from (n + 1) ls (Picked n Min (forms_of l) ∷ bs)) (record { lower = lower; upper = one_of (pos k) (pos 1) m ∷ [] })) next
      ∙ around_opens (n + 1) ls (Picked n Min (forms_of l) ∷ bs) j at (omega (arith, less)) lower
      ∙ (λ i. spelled_out bs (record { lower = lower; upper = or_these ends (same i) }))

-- ---- what the search finds of them

module _ (scope : List Binding) (g b : ℕ) (behind : g < b) (in_b : b < length scope) (in_g : g < length scope) (k : ℕ) (few : suc k ≤ 1024) (x : Span1) (there_g : slice_get scope g ≡ Some (Bound x))
    (low room : ℤ) (near : unsigned_abs low ≤ 2 ^ 36) (room_near : unsigned_abs room ≤ 2 ^ 37) (there_b : slice_get scope b ≡ Some (LetMin (one_of low (pos (suc k)) g ∷ number room ∷ []))) where
  abbrev first_of : Form
  first_of = one_of low (pos (suc k)) g

  wide : unsigned_abs (pos (suc k)) ≤ 2 ^ 20
  wide = omega (arith, few)

  wide_down : unsigned_abs (negsuc k) ≤ 2 ^ 20
  wide_down = omega (arith, few)

  -- the block's first number is at most that of the form
  pub let_below : x.lower ≡ number (pos 0) ∷ [] → at_most scope (one_of (pos 0) (pos 1) b) (one_of low (pos (suc k)) g) ≡ true
  let_below x_low =
      let z : ℤ = pos 0 +ℤ negsuc 0 *ℤ low in
      let z_near : unsigned_abs z ≤ 2 ^ 37 = turned low near in
      let down : negsuc 0 *ℤ pos (suc k) ≡ negsuc k = omega (arith, ints) in
      let up : pos 1 *ℤ pos (suc k) ≡ pos (suc k) = omega (arith, ints) in
      let before : nat_lt g b ≡ true = grind (arith, nat_tests, behind) in
      let back : nat_lt b g ≡ false = grind (arith, nat_tests, behind) in
      let apart : (b == g) ≡ false = grind (arith, nat_tests, behind) in
      let d : Form = two_of z (negsuc k) g (pos 1) b in
      let is : plus_multiple (one_of (pos 0) (pos 1) b) (negsuc 0) first_of ≡ d =
      (λ j. record { constant = z; terms = plus_term (multiple b (pos 1) ∷ []) (multiple g (down j)) })
      ∙ (λ j. record {
        constant = z;
        terms = if back j then multiple b (pos 1) ∷ in_front (multiple g (negsuc k)) []
            else (if apart j then in_front (record { symbol = g; factor = pos 1 +ℤ negsuc k }) [] else in_front (multiple g (negsuc k)) (multiple b (pos 1) ∷ []));
      }) in
      let limited = two_limited z (negsuc k) g (pos 1) b (omega (arith, z_near)) wide_down (omega arith) in
      let start_in = one_limited low (pos (suc k)) g (omega (arith, near)) wide in
      let made : combined (one_of (pos 0) (pos 1) b) (negsuc 0) first_of ≡ Some d =
      combined-made (one_of (pos 0) (pos 1) b) first_of (negsuc 0) refl start_in (ap is_within_limits is ∙ limited) ∙ ap (λ (f : Form). Some f) is in
      let gone = two_gone z (negsuc k) g (pos 1) b behind in
      let r : ℤ = z +ℤ pos 1 *ℤ low in
      let r_is : r ≡ pos 0 = cancelled low in
      let r_near : unsigned_abs r ≤ 2 ^ 40 = subst (λ (w : ℤ). unsigned_abs w ≤ 2 ^ 40) (sym r_is) (omega arith) in
      let cancels = all_gone in
      let first_is : plus_multiple (one_of z (negsuc k) g) (pos 1) first_of ≡ number r =
      (λ j. record { constant = r; terms = plus_term (multiple g (negsuc k) ∷ []) (multiple g (up j)) }) ∙ (λ j. record { constant = r; terms = cancels j }) in
      let made_f : replaced d b (pos 1) first_of ≡ Some (number r) =
      ap (λ (f : Form). combined f (pos 1) first_of) gone
      ∙ combined-made (one_of z (negsuc k) g) first_of (pos 1) (one_limited z (negsuc k) g (omega (arith, z_near)) wide_down) start_in (ap is_within_limits first_is ∙ number_limited r r_near)
      ∙ ap (λ (f : Form). Some f) first_is in
      let v : ℤ = z +ℤ pos 1 *ℤ room in
      let v_near : unsigned_abs v ≤ 2 ^ 39 = more_near z room z_near room_near in
      let made_h : replaced d b (pos 1) (number room) ≡ Some (one_of v (negsuc k) g) =
      ap (λ (f : Form). combined f (pos 1) (number room)) gone
      ∙ combined-made (one_of z (negsuc k) g) (number room) (pos 1) (one_limited z (negsuc k) g (omega (arith, z_near)) wide_down) (number_limited room (omega (arith, room_near)))
      (one_limited v (negsuc k) g (omega (arith, v_near)) wide_down) in
      let s : ℤ = v +ℤ negsuc k *ℤ pos 0 in
      let s_is : s ≡ v = omega (arith, ints) in
      let s_near : unsigned_abs s ≤ 2 ^ 40 = subst (λ (w : ℤ). unsigned_abs w ≤ 2 ^ 40) (sym s_is) (omega (arith, v_near)) in
      let outer_made : replaced (one_of v (negsuc k) g) g (negsuc k) (number (pos 0)) ≡ Some (number s) =
      ap (λ (f : Form). combined f (negsuc k) (number (pos 0))) (one_gone v (negsuc k) g) ∙ numbers_made v (negsuc k) (pos 0) (omega (arith, v_near)) (omega arith) s_near in
      let one_c = one_counts v (negsuc k) g in
      let one_a = one_above v (negsuc k) g in
      let second_least = least_once scope (one_of v (negsuc k) g) g (negsuc k) refl one_c one_a (Bound x) there_g (number (pos 0)) (number s) x_low outer_made b behind ∙ least_number scope g s in
      let second_count = count_once scope (one_of v (negsuc k) g) g (negsuc k) refl one_c one_a (Bound x) there_g (number (pos 0)) (number s) x_low outer_made b behind
      ∙ ap suc (no_replacements scope g s) in
      let first_least = least_number scope b r in
      let first_count = no_replacements scope b r in
      let counts = two_counts z (negsuc k) g (pos 1) b behind in
      let above = two_above z (negsuc k) g (pos 1) b behind in
      let q : Binding = LetMin (first_of ∷ number room ∷ []) in
      let count = count_twice scope d b (pos 1) refl counts above q there_b first_of (number room) (number r) (one_of v (negsuc k) g) refl made_f made_h (length scope) in_b
      ∙ (λ j. suc (first_count j) + suc (second_count j)) in
      let comes = least_twice scope d b (pos 1) refl counts above q there_b first_of (number room) (number r) (one_of v (negsuc k) g) refl made_f made_h (length scope) in_b
      ∙ (λ j. pick false (first_least j) (second_least j)) in
      ap (λ (u : Option Form). is_at_most_zero (option_and_then (λ d. sup scope d) u)) made ∙ ap is_at_most_zero (sup_is scope d 3 limited count (omega arith) ∙ comes)
      ∙ still (int_min r s) (smaller_left r s (omega (arith, ints, r_is)))
    where
      turned : (w : ℤ) → unsigned_abs w ≤ 2 ^ 36 → unsigned_abs (pos 0 +ℤ negsuc 0 *ℤ w) ≤ 2 ^ 37
      turned w h = omega (arith, ints, h)

      cancelled : (w : ℤ) → (pos 0 +ℤ negsuc 0 *ℤ w) +ℤ pos 1 *ℤ w ≡ pos 0
      cancelled w = omega (arith, ints)

      more_near : (u v : ℤ) → unsigned_abs u ≤ 2 ^ 37 → unsigned_abs v ≤ 2 ^ 37 → unsigned_abs (u +ℤ pos 1 *ℤ v) ≤ 2 ^ 39
      more_near u v h e = omega (arith, ints, h, e)

      all_gone : plus_term (multiple g (negsuc k) ∷ []) (multiple g (pos (suc k))) ≡ []
      all_gone =
          let not_below : nat_lt g g ≡ false = grind (arith, nat_tests) in
          let same = eq_refl g in
          let nothing : negsuc k +ℤ pos (suc k) ≡ pos 0 = omega (arith, ints) in
          (λ j. if not_below j then multiple g (negsuc k) ∷ in_front (multiple g (pos (suc k))) []
          else (if same j then in_front (record { symbol = g; factor = negsuc k +ℤ pos (suc k) }) [] else in_front (multiple g (pos (suc k))) (multiple g (negsuc k) ∷ [])))
          ∙ (λ j. in_front (multiple g (nothing j)) [])

  -- of a grid of so many turns the last block's last number is at most this
  pub block_within : (t : ℕ) → x.upper ≡ number (pos t) ∷ [] → unsigned_abs (pos t) ≤ 2 ^ 36 → unsigned_abs (pos (suc k) *ℤ pos t) ≤ 2 ^ 37 → (base high : ℤ) → unsigned_abs base ≤ 2 ^ 37 →
      unsigned_abs high ≤ 2 ^ 37 →
      (base +ℤ pos (suc k) *ℤ pos t) ≤ℤ high → at_most scope (one_of base (pos (suc k)) g) (number high) ≡ true
  block_within t x_up t_near times base high base_near high_near le =
      let z : ℤ = base +ℤ negsuc 0 *ℤ high in
      let z_near : unsigned_abs z ≤ 2 ^ 38 = apart_near base high base_near high_near in
      let limited = one_limited z (pos (suc k)) g (omega (arith, z_near)) wide in
      let made : combined (one_of base (pos (suc k)) g) (negsuc 0) (number high) ≡ Some (one_of z (pos (suc k)) g) =
      combined-made (one_of base (pos (suc k)) g) (number high) (negsuc 0) (one_limited base (pos (suc k)) g (omega (arith, base_near)) wide) (number_limited high (omega (
        arith,
        high_near,
      ))) limited in
      let r : ℤ = z +ℤ pos (suc k) *ℤ pos t in
      let r_near : unsigned_abs r ≤ 2 ^ 40 = plus_near z (pos (suc k) *ℤ pos t) z_near times in
      let sum = numbers_made z (pos (suc k)) (pos t) (omega (arith, z_near)) (omega (arith, t_near)) r_near in
      found_below scope (one_of base (pos (suc k)) g) (number high) (one_of z (pos (suc k)) g) r made
      (found scope g z (pos (suc k)) r refl (Bound x) there_g (number (pos t)) x_up sum in_g limited) (still r (under base (pos (suc k) *ℤ pos t) high le))
    where
      apart_near : (u v : ℤ) → unsigned_abs u ≤ 2 ^ 37 → unsigned_abs v ≤ 2 ^ 37 → unsigned_abs (u +ℤ negsuc 0 *ℤ v) ≤ 2 ^ 38
      apart_near u v h e = omega (arith, ints, h, e)

      plus_near : (u v : ℤ) → unsigned_abs u ≤ 2 ^ 38 → unsigned_abs v ≤ 2 ^ 37 → unsigned_abs (u +ℤ v) ≤ 2 ^ 40
      plus_near u v h e = omega (arith, ints, h, e)

      under : (u p h : ℤ) → (u +ℤ p) ≤ℤ h → ((u +ℤ negsuc 0 *ℤ h) +ℤ p) ≤ℤ pos 0
      under u p h e = omega (arith, ints, e)

-- ---- the claim of a block

pub at_inside : (ls : List HeadLet) (j : ℕ) (l : HeadLet) → slice_get ls j ≡ Some l → j < length ls
at_inside [] j l at = absurd (cc at)
at_inside (m ∷ ls) zero l at = omega arith
at_inside (m ∷ ls) (suc j) l at = (let rest = at_inside ls j l at in omega (arith, rest))

module _ (rules : Rules) (bound : rules.at_most ≡ shown_at_most) (n : ℕ) (ls : List HeadLet) (bs : List Binder) (inner_tells : (y : Span1) → spelled_out bs y ≡ y) (few_symbols : n + length
    ls ≤ most_symbols)
    (g m : ℕ) (less : g < n) (there : g < symbol_count bs) (grid_is : binding_of bs g ≡ Bound (record { lower = number (pos 0) ∷ []; upper = number (pos m) ∷ [] }))
    (low : ℤ) (k : ℕ) (few : suc k ≤ 1024) (last : ℤ) (near : unsigned_abs low ≤ 2 ^ 36) (last_near : unsigned_abs last ≤ 2 ^ 36) (m_near : unsigned_abs (pos m) ≤ 2 ^ 36)
    (times : unsigned_abs (pos (suc k) *ℤ pos m) ≤ 2 ^ 37) (room : ℤ) (room_is : room ≡ last -ℤ pos k) (j : ℕ) (at : slice_get ls j ≡ Some (record {
      form = one_of low (pos (suc k)) g;
      room
          = room;
    })) where
  abbrev all_around : List Binder
  all_around = around_from n ls bs

  room_near : unsigned_abs room ≤ 2 ^ 37
  room_near = subst (λ (z : ℤ). unsigned_abs z ≤ 2 ^ 37) (sym room_is) (less_near last k last_near few)
    where
      less_near : (z : ℤ) (p : ℕ) → unsigned_abs z ≤ 2 ^ 36 → suc p ≤ 1024 → unsigned_abs (z -ℤ pos p) ≤ 2 ^ 37
      less_near z p h e = omega (arith, ints, h, e)

  room_end : pos k +ℤ room ≡ last
  room_end = ap (λ (z : ℤ). pos k +ℤ z) room_is ∙ back last (pos k)
    where
      back : (z p : ℤ) → p +ℤ (z -ℤ p) ≡ z
      back z p = omega (arith, ints)

  place_few : n + j < most_symbols
  place_few = (let inside = at_inside ls j (record { form = one_of low (pos (suc k)) g; room = room }) at in omega (arith, inside, few_symbols))

  let_there : (slice_get (scope_of all_around) (n + j) ≡ Some (LetMin (one_of low (pos (suc k)) g ∷ number room ∷ []))) × (n + j < length (scope_of all_around))
  let_there = head_scoped n ls bs j (record { form = one_of low (pos (suc k)) g; room = room }) at place_few

  grid_there : (slice_get (scope_of all_around) g ≡ Some (Bound (record { lower = number (pos 0) ∷ []; upper = number (pos m) ∷ [] }))) × (g < length (scope_of all_around))
  grid_there = head_keeps n ls bs g (Bound (record { lower = number (pos 0) ∷ []; upper = number (pos m) ∷ [] })) less there (omega (arith, less, place_few)) grid_is

  shown_as : (f h : Form) → at_most (scope_of all_around) f h ≡ true → rules.at_most all_around f h ≡ true
  shown_as f h e = (λ i. bound i all_around f h) ∙ e

  -- the numbers of the grid's block, those past the last one left out, are among those from the let's symbol on
  pub block_claimed : (rest : Bool) → (rest ≡ false → ((pos k +ℤ low) +ℤ pos (suc k) *ℤ pos m) ≤ℤ last) →
      is_within rules all_around (record { lower = one_of low (pos (suc k)) g ∷ []; upper = one_of (pos k +ℤ low) (pos (suc k)) g ∷ (if rest then number last ∷ [] else []) })
      (spelled_out all_around (record { lower = one_of (pos 0) (pos 1) (n + j) ∷ []; upper = one_of (pos k) (pos 1) (n + j) ∷ [] })) ≡ true
  block_claimed rest full =
      let opens = around_opens g low k few room near room_near n ls bs j at less (one_of (pos 0) (pos 1) (n + j) ∷ []) ∙ inner_tells (record {
        lower = one_of (pos 0) (pos 1) (n + j) ∷ [];
        upper = ends g low k few room near room_near;
      })
      ∙ (λ i. record { lower = one_of (pos 0) (pos 1) (n + j) ∷ []; upper = one_of (pos k +ℤ low) (pos (suc k)) g ∷ number (room_end i) ∷ [] }) in
      let low_shown = shown_as (one_of (pos 0) (pos 1) (n + j)) (one_of low (pos (suc k)) g)
      (let_below (scope_of all_around) g (n + j) (omega (arith, less)) let_there.1 grid_there.1 k few (record { lower = number (pos 0) ∷ []; upper = number (pos m) ∷ [] }) grid_there.0 low
      room near room_near
      let_there.0 refl) in
      let up_near = sum_near k low few near in
      let block_shown = shown_as (one_of (pos k +ℤ low) (pos (suc k)) g) (one_of (pos k +ℤ low) (pos (suc k)) g)
      (form_self (scope_of all_around) (one_of (pos k +ℤ low) (pos (suc k)) g) (one_limited (pos k +ℤ low) (pos (suc k)) g (omega (arith, up_near)) (omega (arith, few)))) in
      ap (is_within rules all_around (record { lower = one_of low (pos (suc k)) g ∷ []; upper = one_of (pos k +ℤ low) (pos (suc k)) g ∷ (if rest then number last ∷ [] else []) })) opens
      ∙ of rest full low_shown block_shown
    where
      sum_near : (p : ℕ) (z : ℤ) → suc p ≤ 1024 → unsigned_abs z ≤ 2 ^ 36 → unsigned_abs (pos p +ℤ z) ≤ 2 ^ 37
      sum_near p z h e = omega (arith, ints, h, e)

      or_true : (b : Bool) → (b || (true || false)) ≡ true
      or_true true = refl
      or_true false = refl

      last_shown : rules.at_most all_around (number last) (number last) ≡ true
      last_shown = shown_as (number last) (number last) (form_self (scope_of all_around) (number last) (number_limited last (omega (arith, last_near))))

      of : (rest : Bool) → (rest ≡ false → ((pos k +ℤ low) +ℤ pos (suc k) *ℤ pos m) ≤ℤ last) → rules.at_most all_around (one_of (pos 0) (pos 1) (n + j)) (one_of low (pos (suc k)) g) ≡ true →
          rules.at_most all_around (one_of (pos k +ℤ low) (pos (suc k)) g) (one_of (pos k +ℤ low) (pos (suc k)) g) ≡ true →
          is_within rules all_around (record { lower = one_of low (pos (suc k)) g ∷ []; upper = one_of (pos k +ℤ low) (pos (suc k)) g ∷ (if rest then number last ∷ [] else []) })
          (record { lower = one_of (pos 0) (pos 1) (n + j) ∷ []; upper = one_of (pos k +ℤ low) (pos (suc k)) g ∷ number last ∷ [] }) ≡ true
      of true full one two =
          let three = last_shown in
          (λ i. ((one i || false) && true)
          && ((two i || (rules.at_most all_around (number last) (one_of (pos k +ℤ low) (pos (suc k)) g) || false))
          && ((rules.at_most all_around (one_of (pos k +ℤ low) (pos (suc k)) g) (number last) || (three i || false)) && true)))
          ∙ (let four = or_true (rules.at_most all_around (one_of (pos k +ℤ low) (pos (suc k)) g) (number last)) in λ i. four i && true)
      of false full one two =
          let le = full refl in
          let up_near = sum_near k low few near in
          let last_wide : unsigned_abs last ≤ 2 ^ 37 = omega (arith, last_near) in
          let three = shown_as (one_of (pos k +ℤ low) (pos (suc k)) g) (number last)
          (block_within (scope_of all_around) g (n + j) (omega (arith, less)) let_there.1 grid_there.1 k few (record { lower = number (pos 0) ∷ []; upper = number (pos m) ∷ [] })
          grid_there.0 low room near
          room_near let_there.0 m refl m_near times (pos k +ℤ low) last up_near last_wide le) in
          λ i. ((one i || false) && true) && ((two i || false) && ((three i || false) && true))

-- ---- its places

module _ (line : ℕ → Line) (lim : ℕ → List Form) (n : ℕ) (ts : List Turning) (short : n + length ts ≤ most_symbols) (rules : Rules) (bound : rules.at_most ≡ shown_at_most) (bs : List Binder)
    (near : (j : ℕ) (t : Turning) → slice_get ts j ≡ Some t → (unsigned_abs t.low ≤ 2 ^ 36) × (unsigned_abs t.last ≤ 2 ^ 36))
    (limits_in : (j : ℕ) (t : Turning) → slice_get ts j ≡ Some t → list_all is_within_limits (lim (n + j)) ≡ true) where
  -- from the symbol of a let around the nest on
  pub seat_head : (s i k : ℕ) (u : Turning) → slice_get ts i ≡ Some u → line (n + i) ≡ Loop → lim (n + i) ≡ [] → s < n → u.low ≡ pos 0 → u.last ≡ pos k → suc k ≤ 1024 →
      is_seated rules (inner line lim n ts short rules bound bs near limits_in) (exactly (pair (pos 0) s (pos 1) (n + i))) (From (alone s) (suc k)) ≡ true
  seat_head s i k u at loop bare less from to few =
      let w = scope_bare line lim n ts short rules bound bs near limits_in i u at loop bare in
      let under : s < n + i = omega (arith, less) in
      let before : nat_lt s (n + i) ≡ true = grind (arith, nat_tests, under) in
      let scope : List Binding = sc line lim n ts short rules bound bs near limits_in in
      let f : Form = two_of (pos 0) (pos 1) s (pos 1) (n + i) in
      let is : pair (pos 0) s (pos 1) (n + i) ≡ f =
      (λ j. record { constant = pos 0; terms = if before j then multiple s (pos 1) ∷ multiple (n + i) (pos 1) ∷ [] else multiple (n + i) (pos 1) ∷ multiple s (pos 1) ∷ [] }) in
      let one_less : pos (suc k) -ℤ pos 1 ≡ pos k = omega (arith, ints) in
      let above = over (span u.low u.last []) w.0 w.1 (ap (λ (z : ℤ). number z ∷ []) from) under in
      let below = beneath (span u.low u.last []) w.0 w.1 (ap (λ (z : ℤ). number z ∷ []) to) under in
      ap (λ (g : Form). is_seated rules (inner line lim n ts short rules bound bs near limits_in) (exactly g) (From (alone s) (suc k))) is
      ∙ seated_by line lim n ts short rules bound bs near limits_in f (alone s) (suc k) (shown line lim n ts short rules bound bs near limits_in (alone s) f above)
      (ap (λ (z : ℤ). rules.at_most (inner line lim n ts short rules bound bs near limits_in) f (raised (alone s) z)) one_less
      ∙ shown line lim n ts short rules bound bs near limits_in f (raised (alone s) (pos k)) below)
    where
      over : (y : Span1) → slice_get (sc line lim n ts short rules bound bs near limits_in) (n + i) ≡ Some (Bound y) → n + i < length (sc line lim n ts short rules bound bs near limits_in) →
          y.lower ≡ number (pos 0) ∷ [] → s < n + i → at_most (sc line lim n ts short rules bound bs near limits_in) (alone s) (two_of (pos 0) (pos 1) s (pos 1) (n + i)) ≡ true
      over y there inside first under =
          let scope : List Binding = sc line lim n ts short rules bound bs near limits_in in
          let gone = term_gone (multiple s (pos 1)) [] in
          let is : plus_multiple (alone s) (negsuc 0) (two_of (pos 0) (pos 1) s (pos 1) (n + i)) ≡ one_of (pos 0) (negsuc 0) (n + i) =
          (λ j. record { constant = pos 0; terms = plus_term (gone j) (multiple (n + i) (negsuc 0)) }) in
          let made : combined (alone s) (negsuc 0) (two_of (pos 0) (pos 1) s (pos 1) (n + i)) ≡ Some (one_of (pos 0) (negsuc 0) (n + i)) =
          combined-made (alone s) (two_of (pos 0) (pos 1) s (pos 1) (n + i)) (negsuc 0) refl refl (ap is_within_limits is) ∙ ap (λ (f : Form). Some f) is in
          found_below scope (alone s) (two_of (pos 0) (pos 1) s (pos 1) (n + i)) (one_of (pos 0) (negsuc 0) (n + i)) (pos 0) made
          (found scope (n + i) (pos 0) (negsuc 0) (pos 0) refl (Bound y) there (number (pos 0)) first refl inside refl) refl

      beneath : (y : Span1) → slice_get (sc line lim n ts short rules bound bs near limits_in) (n + i) ≡ Some (Bound y) → n + i < length (sc line lim n ts short rules bound bs near limits_in) →
          y.upper ≡ number (pos k) ∷ [] → s < n + i → at_most (sc line lim n ts short rules bound bs near limits_in) (two_of (pos 0) (pos 1) s (pos 1) (n + i)) (raised (alone s) (pos k)) ≡ true
      beneath y there inside last under =
          let scope : List Binding = sc line lim n ts short rules bound bs near limits_in in
          let z : ℤ = pos 0 +ℤ negsuc 0 *ℤ (pos 0 +ℤ pos k) in
          let z_is : z ≡ negsuc 0 *ℤ pos k = omega (arith, ints) in
          let z_near : unsigned_abs z ≤ 2 ^ 40 = subst (λ (w : ℤ). unsigned_abs w ≤ 2 ^ 40) (sym z_is) (omega (arith, ints, few)) in
          let gone = term_gone (multiple s (pos 1)) (multiple (n + i) (pos 1) ∷ []) in
          let is : plus_multiple (two_of (pos 0) (pos 1) s (pos 1) (n + i)) (negsuc 0) (raised (alone s) (pos k)) ≡ one_of z (pos 1) (n + i) = (λ j. record { constant = z; terms = gone j }) in
          let limited_sum = one_limited z (pos 1) (n + i) z_near (omega arith) in
          let top_near : unsigned_abs (pos 0 +ℤ pos k) ≤ 2 ^ 40 = omega (arith, ints, few) in
          let made : combined (two_of (pos 0) (pos 1) s (pos 1) (n + i)) (negsuc 0) (raised (alone s) (pos k)) ≡ Some (one_of z (pos 1) (n + i)) =
          combined-made (two_of (pos 0) (pos 1) s (pos 1) (n + i)) (raised (alone s) (pos k)) (negsuc 0) refl (one_limited (pos 0 +ℤ pos k) (pos 1) s top_near (omega arith))
          (ap is_within_limits is ∙ limited_sum) ∙ ap (λ (f : Form). Some f) is in
          let r : ℤ = z +ℤ pos 1 *ℤ pos k in
          let r_is : r ≡ pos 0 = omega (arith, ints) in
          let r_near : unsigned_abs r ≤ 2 ^ 40 = subst (λ (w : ℤ). unsigned_abs w ≤ 2 ^ 40) (sym r_is) (omega arith) in
          let sum = numbers_made z (pos 1) (pos k) z_near (omega (arith, few)) r_near in
          found_below scope (two_of (pos 0) (pos 1) s (pos 1) (n + i)) (raised (alone s) (pos k)) (one_of z (pos 1) (n + i)) r made
          (found scope (n + i) z (pos 1) r refl (Bound y) there (number (pos k)) last sum inside limited_sum) (still r (omega (arith, ints, r_is)))

-- what the checker's moves come to over the loop of a block's numbers alone
pub head_reached : (factor : ℕ → ℤ) (s k : ℕ) (i : Item) → (s == i.symbol) ≡ false → factor i.symbol ≡ pos 1 → i.low ≡ pos 0 → i.last ≡ pos k →
    now factor [] (Sums (pair (pos 0) s (pos 1) i.symbol) (i ∷ [])) ≡ record { lower = one_of (pos 0) (pos 1) s ∷ []; upper = one_of (pos k) (pos 1) s ∷ [] }
head_reached factor s k i differ once from to =
    let terms = kept_pair (pos 0) s (pos 1) i.symbol (λ m. not (is_gone [] (i ∷ []) m)) true false (let away = other_way s i.symbol differ in λ j. not ((away j || false) && true))
    (let here = eq_refl i.symbol in λ j. not ((here j || false) && true)) in
    let low_sum : pos 0 +ℤ (factor i.symbol *ℤ i.low +ℤ pos 0) ≡ pos 0 = (λ j. pos 0 +ℤ (once j *ℤ from j +ℤ pos 0)) in
    let last_sum : pos 0 +ℤ (factor i.symbol *ℤ i.last +ℤ pos 0) ≡ pos k = (λ j. pos 0 +ℤ (once j *ℤ to j +ℤ pos 0)) ∙ once_more (pos k) in
    λ j. record {
      lower = record { constant = low_sum j; terms = terms j } ∷ [];
      upper = record { constant = last_sum j; terms = terms j } ∷ [];
    }
  where
    once_more : (z : ℤ) → pos 0 +ℤ (pos 1 *ℤ z +ℤ pos 0) ≡ z
    once_more z = omega (arith, ints)

-- the lets of a head, one after another from this symbol on
pub record HeadIs (n : ℕ) (head : List Step) : Type 0 where
  pub lets : List HeadLet
  pub around : (bs : List Binder) → lets_around head bs ≡ around_from n lets bs
  pub there : (j : ℕ) (l : HeadLet) → slice_get head j ≡ Some (Named (n + j) Min (forms_of l)) → slice_get lets j ≡ Some l
  pub long : length lets ≡ length head

pub head_is : (n : ℕ) (head : List Step) → ((j : ℕ) (step : Step) → slice_get head j ≡ Some step → (l : HeadLet) × (step ≡ Named (n + j) Min (forms_of l))) → HeadIs n head
head_is n [] each = record { lets = []; around = λ bs. refl; there = λ j l at. absurd (cc at); long = refl }
head_is n (step ∷ head) each =
    let here = each 0 step refl in
    let zero_more : n + 0 ≡ n = omega arith in
    let is : step ≡ Named n Min (forms_of here.0) = here.1 ∙ ap (λ (m : ℕ). Named m Min (forms_of here.0)) zero_more in
    let rest = head_is (n + 1) head (λ j s at. (let r = each (suc j) s at in
    let next : n + suc j ≡ (n + 1) + j = omega arith in
    (r.0, r.1 ∙ ap (λ (m : ℕ). Named m Min (forms_of r.0)) next))) in
    record {
      lets = here.0 ∷ rest.lets;
      around = λ bs. ap (λ (s : Step). lets_around (s ∷ head) bs) is ∙ rest.around (Picked n Min (forms_of here.0) ∷ bs);
      there = at_place_of here.0 is rest;
      long = ap suc rest.long;
    }
  where
    at_place_of : (h : HeadLet) → step ≡ Named n Min (forms_of h) → (rest : HeadIs (n + 1) head) → (j : ℕ) (l : HeadLet) → slice_get (step ∷ head) j ≡ Some (Named (n + j) Min (forms_of l)) →
        slice_get (h ∷ rest.lets) j ≡ Some l
    at_place_of h is rest zero l at =
        let same : Named n Min (forms_of h) ≡ Named (n + 0) Min (forms_of l) = some_is (Named n Min (forms_of h)) (Named (n + 0) Min (forms_of l)) (ap (λ (s : Step). Some s) (sym is) ∙ at) in
        let forms : forms_of h ≡ forms_of l = cc same in
        let first : h.form ≡ l.form = cc forms in
        let rooms : number h.room ≡ number l.room = cc forms in
        let second : h.room ≡ l.room = ap (λ (f : Form). f.constant) rooms in
        λ i. Some (record { form = first i; room = second i })
      where
        some_is : (a b : Step) → Some a ≡ Some b → a ≡ b
        some_is a b e = cc e
    at_place_of h is rest (suc j) l at = (let next : n + suc j ≡ (n + 1) + j = omega arith in rest.there j l (at ∙ ap (λ (m : ℕ). Some (Named m Min (forms_of l))) next))
