-- At a nest's store the search finds that the position in a shifted block lies in its places: the block's first number is the smaller one of a form and a number.
use Rattle.std.proofs.Common.{◌≡◌, ℕ, suc, ◌+◌, ◌*◌, ◌<◌, ◌≤◌, ◌^◌, Bool, true, false, List, [], ◌∷◌, length, Option, Some, refl, sym, ap, ◌∙◌, subst, arith}
use Rattle.std.specs.Prelude.{ℤ, pos, negsuc, ◌+ℤ◌, ◌-ℤ◌, ◌*ℤ◌, ◌≤ℤ◌, nat_lt, ◌==◌, if◌then◌else◌, slice_get, option_and_then}
use Rattle.std.specs.Int.RustNames.{unsigned_abs}
use Rattle.std.specs.List.{list_all}
use Rattle.std.proofs.Math.Nat.{mul-suc}
use Rattle.std.proofs.lemmas.Bool.Decides.{nat_tests}
use Rattle.std.proofs.lemmas.Int.{ints}
use Rattle.lin.specs.Forms.{Form, number, in_front, plus_term, plus_multiple, is_within_limits, combined}
use Rattle.lin.specs.Search.{replaced, least, replacements, sup, is_at_most_zero, pick, at_most}
use Rattle.lin.specs.declared.scope.Binding.{Binding}
use Rattle.lin.specs.declared.scope.Binding.TheVariants.{Loop as Bound, LetMin}
use Rattle.lin.specs.declared.span.Span1.{Span1}
use Rattle.lin.proofs.Limits.{combined-made}
use Rattle.plan.specs.declared.stmt.Places.TheVariants.{From}
use Rattle.soundness.specs.Obligations.{Binder, Rules, exactly}
use Rattle.soundness.specs.Shown.{is_seated}
use Rattle.rules.specs.Bounding.Scopes.{most_symbols, shown_at_most}
use Rattle.sched.specs.declared.nest.Turning.{Turning}
use Rattle.sched.specs.Skeleton.{span}
use Rattle.completeness.proofs.GridScope.{number_limited}
use Rattle.completeness.proofs.SelfBounds.{least_number, no_replacements}
use Rattle.completeness.proofs.Searched.{one_of, numbers_made}
use Rattle.completeness.proofs.LoopMoves.{other_way}
use Rattle.completeness.proofs.BlockSums.{multiple, pair, two_of, one_limited, two_limited}
use Rattle.completeness.proofs.LetSums.{still_second, still_both}
use Rattle.completeness.proofs.CourseSums.{plus_one, pair_limited}
use Rattle.completeness.proofs.LatestSums.{least_once, count_once, least_twice, count_twice, sup_is, one_counts, one_above, one_gone, two_counts, two_above, two_gone, both, both_found, both_limited}
use Rattle.completeness.proofs.TailSteps.{Line, Loop, Block}
use Rattle.completeness.proofs.TailBounds.{line_binding, inner, sc, scope_at, scope_bare, seated_by, shown}

-- ---- numbers

near_sum : (u v : ℤ) (m n k : ℕ) → unsigned_abs u ≤ m → unsigned_abs v ≤ n → m + n ≤ k → unsigned_abs (u +ℤ v) ≤ k
near_sum u v m n k h g le = omega (arith, ints, h, g, le)

less_sum : (u v : ℤ) (m n k : ℕ) → unsigned_abs u ≤ m → unsigned_abs v ≤ n → m + n ≤ k → unsigned_abs (u +ℤ negsuc 0 *ℤ v) ≤ k
less_sum u v m n k h g le = omega (arith, ints, h, g, le)

more_sum : (u v : ℤ) (m n k : ℕ) → unsigned_abs u ≤ m → unsigned_abs v ≤ n → m + n ≤ k → unsigned_abs (u +ℤ pos 1 *ℤ v) ≤ k
more_sum u v m n k h g le = omega (arith, ints, h, g, le)

-- ---- the let of a block whose outer loop begins at 0

module _ (scope : List Binding) (o b i : ℕ) (behind : o < b) (differ : (b == i) ≡ false) (apart : (o == i) ≡ false) (in_b : b < length scope) (in_i : i < length scope) (k : ℕ) (few : suc k ≤ 1024)
    (x y : Span1) (there_o : slice_get scope o ≡ Some (Bound x)) (there_i : slice_get scope i ≡ Some (Bound y)) (low room : ℤ) (near : unsigned_abs low ≤ 2 ^ 36) (room_near : unsigned_abs
    room ≤ 2 ^ 37)
    (there_b : slice_get scope b ≡ Some (LetMin (one_of low (pos (suc k)) o ∷ number room ∷ []))) where
  abbrev start : Form
  start = one_of low (pos (suc k)) o

  abbrev q : Binding
  q = LetMin (start ∷ number room ∷ [])

  small : unsigned_abs (pos (suc k)) ≤ 2 ^ 20
  small = omega (arith, few)

  small_down : unsigned_abs (negsuc k) ≤ 2 ^ 20
  small_down = omega (arith, few)

  start_limited : is_within_limits start ≡ true
  start_limited = one_limited low (pos (suc k)) o (omega (arith, near)) small

  down : negsuc 0 *ℤ pos (suc k) ≡ negsuc k
  down = omega (arith, ints)

  up : pos 1 *ℤ pos (suc k) ≡ pos (suc k)
  up = omega (arith, ints)

  -- downwards
  module _ (x_low : x.lower ≡ number (pos 0) ∷ []) (y_low : y.lower ≡ number (pos 0) ∷ []) where
    module _ (m : ℤ) (m_near : unsigned_abs m ≤ 2 ^ 37) where
      abbrev at_start : ℤ
      at_start = (m +ℤ negsuc 0 *ℤ low) +ℤ negsuc k *ℤ pos 0

      abbrev at_room : ℤ
      at_room = m +ℤ negsuc 0 *ℤ room

      first_near : unsigned_abs (m +ℤ negsuc 0 *ℤ low) ≤ 2 ^ 38
      first_near = less_sum m low (2 ^ 37) (2 ^ 36) (2 ^ 38) m_near near (omega arith)

      start_near : unsigned_abs at_start ≤ 2 ^ 40
      start_near = (let same : at_start ≡ m +ℤ negsuc 0 *ℤ low = omega (arith, ints) in subst (λ (w : ℤ). unsigned_abs w ≤ 2 ^ 40) (sym same) (omega (arith, first_near)))

      room_sum : unsigned_abs at_room ≤ 2 ^ 40
      room_sum = less_sum m room (2 ^ 37) (2 ^ 37) (2 ^ 40) m_near room_near (omega arith)

      first_made : combined (number m) (negsuc 0) start ≡ Some (one_of (m +ℤ negsuc 0 *ℤ low) (negsuc k) o)
      first_made =
          let is : plus_multiple (number m) (negsuc 0) start ≡ one_of (m +ℤ negsuc 0 *ℤ low) (negsuc k) o =
          (λ j. record { constant = m +ℤ negsuc 0 *ℤ low; terms = in_front (multiple o (down j)) [] }) in
          combined-made (number m) start (negsuc 0) (number_limited m (omega (arith, m_near))) start_limited
          (ap is_within_limits is ∙ one_limited (m +ℤ negsuc 0 *ℤ low) (negsuc k) o (omega (arith, first_near)) small_down) ∙ ap (λ (f : Form). Some f) is

      second_made : combined (number m) (negsuc 0) (number room) ≡ Some (number at_room)
      second_made = numbers_made m (negsuc 0) room (omega (arith, m_near)) (omega (arith, room_near)) room_sum

      outer_made : replaced (one_of (m +ℤ negsuc 0 *ℤ low) (negsuc k) o) o (negsuc k) (number (pos 0)) ≡ Some (number at_start)
      outer_made =
          ap (λ (f : Form). combined f (negsuc k) (number (pos 0))) (one_gone (m +ℤ negsuc 0 *ℤ low) (negsuc k) o)
          ∙ numbers_made (m +ℤ negsuc 0 *ℤ low) (negsuc k) (pos 0) (omega (arith, first_near)) (omega arith) start_near

      first_least : (least scope b (one_of (m +ℤ negsuc 0 *ℤ low) (negsuc k) o) ≡ Some at_start) × (replacements scope b (one_of (m +ℤ negsuc 0 *ℤ low) (negsuc k) o) ≡ 1)
      first_least =
          let f : Form = one_of (m +ℤ negsuc 0 *ℤ low) (negsuc k) o in
          let counts = one_counts (m +ℤ negsuc 0 *ℤ low) (negsuc k) o in
          let above = one_above (m +ℤ negsuc 0 *ℤ low) (negsuc k) o in (
            least_once scope f o (negsuc k) refl counts above (Bound x) there_o (number (pos 0)) (number at_start) x_low outer_made b behind ∙ least_number scope o at_start,
            count_once scope f o (negsuc k) refl counts above (Bound x) there_o (number (pos 0)) (number at_start) x_low outer_made b behind ∙ ap suc (no_replacements scope o at_start),
          )

      let_down : (n : ℕ) → b < n → (least scope n (one_of m (negsuc 0) b) ≡ pick true (Some at_start) (Some at_room)) × (replacements scope n (one_of m (negsuc 0) b) ≡ 3)
      let_down n less =
          let f : Form = one_of m (negsuc 0) b in
          let counts = one_counts m (negsuc 0) b in
          let above = one_above m (negsuc 0) b in
          let made_f = ap (λ (g : Form). combined g (negsuc 0) start) (one_gone m (negsuc 0) b) ∙ first_made in
          let made_h = ap (λ (g : Form). combined g (negsuc 0) (number room)) (one_gone m (negsuc 0) b) ∙ second_made in
          let one = first_least in
          let two = least_number scope b at_room in
          let none = no_replacements scope b at_room in (
            least_twice scope f b (negsuc 0) refl counts above q there_b start (number room) (one_of (m +ℤ negsuc 0 *ℤ low) (negsuc k) o) (number at_room) refl made_f made_h n less
                ∙ (λ j. pick true (one.0 j) (two j)),
            count_twice scope f b (negsuc 0) refl counts above q there_b start (number room) (one_of (m +ℤ negsuc 0 *ℤ low) (negsuc k) o) (number at_room) refl made_f made_h n less
                ∙ (λ j. suc (one.1 j) + suc (none j)),
          )

    -- it is at least the first number
    pub shift_over : low ≤ℤ room → at_most scope (number low) (pair (pos 0) b (pos 1) i) ≡ true
    shift_over le = of (nat_lt b i) refl
      where
        z : ℤ
        z = low +ℤ negsuc 0 *ℤ pos 0

        z_is : z ≡ low
        z_is = omega (arith, ints)

        z_near : unsigned_abs z ≤ 2 ^ 36
        z_near = subst (λ (w : ℤ). unsigned_abs w ≤ 2 ^ 36) (sym z_is) near

        part : (u l r : ℤ) → u ≡ l → l ≤ℤ r → (((u +ℤ negsuc 0 *ℤ l) +ℤ negsuc k *ℤ pos 0) ≤ℤ pos 0) × ((u +ℤ negsuc 0 *ℤ r) ≤ℤ pos 0)
        part u l r e h = (let gone : negsuc k *ℤ pos 0 ≡ pos 0 = omega (arith, ints) in (
          subst (λ (w : ℤ). ((u +ℤ negsuc 0 *ℤ l) +ℤ w) ≤ℤ pos 0) (sym gone) (omega (arith, ints, e)),
          omega
              (arith, ints, e, h),
        ))

        shown_by : (d : Form) (m : ℕ) (r s : ℤ) → combined (number low) (negsuc 0) (pair (pos 0) b (pos 1) i) ≡ Some d → is_within_limits d ≡ true → replacements scope (length scope) d ≡ m
            → m ≤ 4096 →
            least scope (length scope) d ≡ pick true (Some r) (Some s) → r ≤ℤ pos 0 → s ≤ℤ pos 0 → at_most scope (number low) (pair (pos 0) b (pos 1) i) ≡ true
        shown_by d m r s made limited count small_count comes r_under s_under =
            ap (λ (u : Option Form). is_at_most_zero (option_and_then (λ d. sup scope d) u)) made ∙ ap is_at_most_zero (sup_is scope d m limited count small_count ∙ comes) ∙ still_both r s
            r_under s_under

        pair_in : is_within_limits (pair (pos 0) b (pos 1) i) ≡ true
        pair_in = pair_limited (pos 0) b (pos 1) i (omega arith) (omega arith)

        of : (v : Bool) → nat_lt b i ≡ v → at_most scope (number low) (pair (pos 0) b (pos 1) i) ≡ true
        of true e =
            let less : b < i = grind (arith, nat_tests, e) in
            let d : Form = two_of z (negsuc 0) b (negsuc 0) i in
            let is : plus_multiple (number low) (negsuc 0) (pair (pos 0) b (pos 1) i) ≡ d =
            (λ j. plus_multiple (number low) (negsuc 0) (record {
              constant = pos 0;
              terms = if e j then multiple b (pos 1) ∷ multiple i (pos 1) ∷ [] else multiple i (pos 1) ∷ multiple b
                  (pos 1) ∷ [];
            }))
            ∙ (let terms = plus_one b i (negsuc 0) (negsuc 0) refl differ true e in λ j. record { constant = z; terms = terms j }) in
            let limited = two_limited z (negsuc 0) b (negsuc 0) i (omega (arith, z_near)) (omega arith) (omega arith) in
            let made : combined (number low) (negsuc 0) (pair (pos 0) b (pos 1) i) ≡ Some d =
            combined-made (number low) (pair (pos 0) b (pos 1) i) (negsuc 0) (number_limited low (omega (arith, near))) pair_in (ap is_within_limits is ∙ limited) ∙ ap (λ (f : Form). Some f) is in
            let m : ℤ = z +ℤ negsuc 0 *ℤ pos 0 in
            let m_is : m ≡ low = omega (arith, ints) in
            let m_near : unsigned_abs m ≤ 2 ^ 37 = subst (λ (w : ℤ). unsigned_abs w ≤ 2 ^ 37) (sym m_is) (omega (arith, near)) in
            let inner_made : replaced d i (negsuc 0) (number (pos 0)) ≡ Some (one_of m (negsuc 0) b) =
            ap (λ (f : Form). combined f (negsuc 0) (number (pos 0))) (two_gone z (negsuc 0) b (negsuc 0) i less)
            ∙ combined-made (one_of z (negsuc 0) b) (number (pos 0)) (negsuc 0) (one_limited z (negsuc 0) b (omega (arith, z_near)) (omega arith)) refl (one_limited m (negsuc 0) b (omega
            (arith, m_near)) (omega arith)) in
            let counts = two_counts z (negsuc 0) b (negsuc 0) i less in
            let above = two_above z (negsuc 0) b (negsuc 0) i less in
            let rest = let_down m m_near i less in
            let parts = part m low room m_is le in
            shown_by d 4 (at_start m m_near) (at_room m m_near) made limited
            (count_once scope d i (negsuc 0) refl counts above (Bound y) there_i (number (pos 0)) (one_of m (negsuc 0) b) y_low inner_made (length scope) in_i ∙ ap suc rest.1) (omega arith)
            (least_once scope d i (negsuc 0) refl counts above (Bound y) there_i (number (pos 0)) (one_of m (negsuc 0) b) y_low inner_made (length scope) in_i ∙ rest.0) parts.0 parts.1
        of false e =
            let less : i < b = grind (arith, nat_tests, e, differ) in
            let d : Form = two_of z (negsuc 0) i (negsuc 0) b in
            let before : nat_lt i b ≡ true = grind (arith, nat_tests, less) in
            let is : plus_multiple (number low) (negsuc 0) (pair (pos 0) b (pos 1) i) ≡ d =
            (λ j. plus_multiple (number low) (negsuc 0) (record {
              constant = pos 0;
              terms = if e j then multiple b (pos 1) ∷ multiple i (pos 1) ∷ [] else multiple i (pos 1) ∷ multiple b
                  (pos 1) ∷ [];
            }))
            ∙ (let terms = plus_one i b (negsuc 0) (negsuc 0) refl (other_way b i differ) true before in λ j. record { constant = z; terms = terms j }) in
            let limited = two_limited z (negsuc 0) i (negsuc 0) b (omega (arith, z_near)) (omega arith) (omega arith) in
            let made : combined (number low) (negsuc 0) (pair (pos 0) b (pos 1) i) ≡ Some d =
            combined-made (number low) (pair (pos 0) b (pos 1) i) (negsuc 0) (number_limited low (omega (arith, near))) pair_in (ap is_within_limits is ∙ limited) ∙ ap (λ (f : Form). Some f) is in
            let w : ℤ = z +ℤ negsuc 0 *ℤ low in
            let w_near : unsigned_abs w ≤ 2 ^ 38 = less_sum z low (2 ^ 36) (2 ^ 36) (2 ^ 38) z_near near (omega arith) in
            let gone = two_gone z (negsuc 0) i (negsuc 0) b less in
            let swap = other_way o i apart in
            let nothing_one : unsigned_abs (negsuc 0 *ℤ pos 0) ≤ 2 ^ 37 = omega (arith, ints) in
            let nothing_two : unsigned_abs (negsuc k *ℤ pos 0) ≤ 2 ^ 37 = omega (arith, ints) in
            let first : Form = both scope i o swap w (negsuc 0) (negsuc k) refl refl (Bound y) (Bound x) there_i there_o (pos 0) (pos 0) y_low x_low w_near (omega arith) small_down (omega
            arith) (omega arith)
            nothing_one nothing_two in
            let found = both_found scope i o swap w (negsuc 0) (negsuc k) refl refl (Bound y) (Bound x) there_i there_o (pos 0) (pos 0) y_low x_low w_near (omega arith) small_down (omega
            arith) (omega arith)
            nothing_one nothing_two b less behind in
            let first_is : plus_multiple (one_of z (negsuc 0) i) (negsuc 0) start ≡ first =
            (λ j. record { constant = w; terms = plus_term (multiple i (negsuc 0) ∷ []) (multiple o (down j)) })
            ∙ (let terms = plus_one i o (negsuc 0) (negsuc k) refl swap (nat_lt i o) refl in λ j. record { constant = w; terms = terms j }) in
            let first_in = both_limited w i o (negsuc 0) (negsuc k) (omega (arith, w_near)) (omega arith) small_down in
            let made_f : replaced d b (negsuc 0) start ≡ Some first =
            ap (λ (f : Form). combined f (negsuc 0) start) gone
            ∙ combined-made (one_of z (negsuc 0) i) start (negsuc 0) (one_limited z (negsuc 0) i (omega (arith, z_near)) (omega arith)) start_limited (ap is_within_limits first_is ∙ first_in)
            ∙ ap (λ (f : Form). Some f) first_is in
            let v : ℤ = z +ℤ negsuc 0 *ℤ room in
            let v_near : unsigned_abs v ≤ 2 ^ 38 = less_sum z room (2 ^ 36) (2 ^ 37) (2 ^ 38) z_near room_near (omega arith) in
            let made_h : replaced d b (negsuc 0) (number room) ≡ Some (one_of v (negsuc 0) i) =
            ap (λ (f : Form). combined f (negsuc 0) (number room)) gone
            ∙ combined-made (one_of z (negsuc 0) i) (number room) (negsuc 0) (one_limited z (negsuc 0) i (omega (arith, z_near)) (omega arith)) (number_limited room (omega (arith, room_near)))
            (one_limited v (negsuc 0) i (omega (arith, v_near)) (omega arith)) in
            let s : ℤ = v +ℤ negsuc 0 *ℤ pos 0 in
            let s_is : s ≡ v = omega (arith, ints) in
            let s_near : unsigned_abs s ≤ 2 ^ 40 = subst (λ (u : ℤ). unsigned_abs u ≤ 2 ^ 40) (sym s_is) (omega (arith, v_near)) in
            let inner_made : replaced (one_of v (negsuc 0) i) i (negsuc 0) (number (pos 0)) ≡ Some (number s) =
            ap (λ (f : Form). combined f (negsuc 0) (number (pos 0))) (one_gone v (negsuc 0) i) ∙ numbers_made v (negsuc 0) (pos 0) (omega (arith, v_near)) (omega arith) s_near in
            let one_c = one_counts v (negsuc 0) i in
            let one_a = one_above v (negsuc 0) i in
            let second_least = least_once scope (one_of v (negsuc 0) i) i (negsuc 0) refl one_c one_a (Bound y) there_i (number (pos 0)) (number s) y_low inner_made b less ∙ least_number scope i s in
            let second_count = count_once scope (one_of v (negsuc 0) i) i (negsuc 0) refl one_c one_a (Bound y) there_i (number (pos 0)) (number s) y_low inner_made b less
            ∙ ap suc (no_replacements scope i s) in
            let counts = two_counts z (negsuc 0) i (negsuc 0) b less in
            let above = two_above z (negsuc 0) i (negsuc 0) b less in
            let r : ℤ = (w +ℤ negsuc 0 *ℤ pos 0) +ℤ negsuc k *ℤ pos 0 in
            let found_least = found.0 in
            let found_count = found.1 in
            shown_by d 5 r s made limited
            (count_twice scope d b (negsuc 0) refl counts above q there_b start (number room) first (one_of v (negsuc 0) i) refl made_f made_h (length scope) in_b
            ∙ (λ j. suc (found_count j) + suc (second_count j))) (omega arith)
            (least_twice scope d b (negsuc 0) refl counts above q there_b start (number room) first (one_of v (negsuc 0) i) refl made_f made_h (length scope) in_b
            ∙ (λ j. pick true (found_least j) (second_least j))) (first_under z low z_is) (second_under z low room z_is le)
          where
            first_under : (u l : ℤ) → u ≡ l → (((u +ℤ negsuc 0 *ℤ l) +ℤ negsuc 0 *ℤ pos 0) +ℤ negsuc k *ℤ pos 0) ≤ℤ pos 0
            first_under u l e = (let gone : negsuc k *ℤ pos 0 ≡ pos 0 = omega (arith, ints) in subst (λ (v : ℤ). (((u +ℤ negsuc 0 *ℤ l) +ℤ negsuc 0 *ℤ pos 0) +ℤ v) ≤ℤ pos 0) (sym gone)
                (omega (arith, ints, e)))

            second_under : (u l r : ℤ) → u ≡ l → l ≤ℤ r → ((u +ℤ negsuc 0 *ℤ r) +ℤ negsuc 0 *ℤ pos 0) ≤ℤ pos 0
            second_under u l r e h = omega (arith, ints, e, h)

  -- upwards
  module _ (t : ℕ) (x_up : x.upper ≡ number (pos t) ∷ []) (y_up : y.upper ≡ number (pos k) ∷ []) (t_near : unsigned_abs (pos t) ≤ 2 ^ 36) (times_near : unsigned_abs (pos (suc k) *ℤ pos t) ≤
      2 ^ 37) where
    k_near : unsigned_abs (pos k) ≤ 2 ^ 36
    k_near = omega (arith, few)

    one_k : unsigned_abs (pos 1 *ℤ pos k) ≤ 2 ^ 37
    one_k = (let same : pos 1 *ℤ pos k ≡ pos k = omega (arith, ints) in subst (λ (w : ℤ). unsigned_abs w ≤ 2 ^ 37) (sym same) (omega (arith, few)))

    module _ (m : ℤ) (m_near : unsigned_abs m ≤ 2 ^ 38) where
      abbrev up_start : ℤ
      up_start = (m +ℤ pos 1 *ℤ low) +ℤ pos (suc k) *ℤ pos t

      abbrev up_room : ℤ
      up_room = m +ℤ pos 1 *ℤ room

      up_first_near : unsigned_abs (m +ℤ pos 1 *ℤ low) ≤ 2 ^ 39
      up_first_near = more_sum m low (2 ^ 38) (2 ^ 36) (2 ^ 39) m_near near (omega arith)

      up_start_near : unsigned_abs up_start ≤ 2 ^ 40
      up_start_near = near_sum (m +ℤ pos 1 *ℤ low) (pos (suc k) *ℤ pos t) (2 ^ 39) (2 ^ 37) (2 ^ 40) up_first_near times_near (omega arith)

      up_room_near : unsigned_abs up_room ≤ 2 ^ 40
      up_room_near = more_sum m room (2 ^ 38) (2 ^ 37) (2 ^ 40) m_near room_near (omega arith)

      up_first_made : combined (number m) (pos 1) start ≡ Some (one_of (m +ℤ pos 1 *ℤ low) (pos (suc k)) o)
      up_first_made =
          let is : plus_multiple (number m) (pos 1) start ≡ one_of (m +ℤ pos 1 *ℤ low) (pos (suc k)) o =
          (λ j. record { constant = m +ℤ pos 1 *ℤ low; terms = in_front (multiple o (up j)) [] }) in
          combined-made (number m) start (pos 1) (number_limited m (omega (arith, m_near))) start_limited
          (ap is_within_limits is ∙ one_limited (m +ℤ pos 1 *ℤ low) (pos (suc k)) o (omega (arith, up_first_near)) small) ∙ ap (λ (f : Form). Some f) is

      up_second_made : combined (number m) (pos 1) (number room) ≡ Some (number up_room)
      up_second_made = numbers_made m (pos 1) room (omega (arith, m_near)) (omega (arith, room_near)) up_room_near

      up_outer_made : replaced (one_of (m +ℤ pos 1 *ℤ low) (pos (suc k)) o) o (pos (suc k)) (number (pos t)) ≡ Some (number up_start)
      up_outer_made =
          ap (λ (f : Form). combined f (pos (suc k)) (number (pos t))) (one_gone (m +ℤ pos 1 *ℤ low) (pos (suc k)) o)
          ∙ numbers_made (m +ℤ pos 1 *ℤ low) (pos (suc k)) (pos t) (omega (arith, up_first_near)) (omega (arith, t_near)) up_start_near

      let_up : (n : ℕ) → b < n → (least scope n (one_of m (pos 1) b) ≡ pick false (Some up_start) (Some up_room)) × (replacements scope n (one_of m (pos 1) b) ≡ 3)
      let_up n less =
          let f : Form = one_of m (pos 1) b in
          let first : Form = one_of (m +ℤ pos 1 *ℤ low) (pos (suc k)) o in
          let counts = one_counts m (pos 1) b in
          let above = one_above m (pos 1) b in
          let made_f = ap (λ (g : Form). combined g (pos 1) start) (one_gone m (pos 1) b) ∙ up_first_made in
          let made_h = ap (λ (g : Form). combined g (pos 1) (number room)) (one_gone m (pos 1) b) ∙ up_second_made in
          let outer_counts = one_counts (m +ℤ pos 1 *ℤ low) (pos (suc k)) o in
          let outer_above = one_above (m +ℤ pos 1 *ℤ low) (pos (suc k)) o in
          let one = least_once scope first o (pos (suc k)) refl outer_counts outer_above (Bound x) there_o (number (pos t)) (number up_start) x_up up_outer_made b behind ∙ least_number
          scope o up_start in
          let one_count = count_once scope first o (pos (suc k)) refl outer_counts outer_above (Bound x) there_o (number (pos t)) (number up_start) x_up up_outer_made b behind
          ∙ ap suc (no_replacements scope o up_start) in
          let two = least_number scope b up_room in
          let none = no_replacements scope b up_room in (
            least_twice scope f b (pos 1) refl counts above q there_b start (number room) first (number up_room) refl made_f made_h n less ∙ (λ j. pick false (one j) (two j)),
            count_twice scope f b (pos 1) refl counts above q there_b start (number room) first (number up_room) refl made_f made_h n less ∙ (λ j. suc (one_count j) + suc (none j)),
          )

    -- it is at most the last number
    pub shift_under : (high : ℤ) → unsigned_abs high ≤ 2 ^ 37 → (room +ℤ pos k) ≤ℤ high → at_most scope (pair (pos 0) b (pos 1) i) (number high) ≡ true
    shift_under high high_near le = of (nat_lt b i) refl
      where
        z : ℤ
        z = pos 0 +ℤ negsuc 0 *ℤ high

        z_near : unsigned_abs z ≤ 2 ^ 37
        z_near = turned high high_near
          where
            turned : (w : ℤ) → unsigned_abs w ≤ 2 ^ 37 → unsigned_abs (pos 0 +ℤ negsuc 0 *ℤ w) ≤ 2 ^ 37
            turned w h = omega (arith, ints, h)

        shown_by : (d : Form) (m : ℕ) (r : Option ℤ) (s : ℤ) → combined (pair (pos 0) b (pos 1) i) (negsuc 0) (number high) ≡ Some d → is_within_limits d ≡ true → replacements scope (length
            scope) d ≡ m →
            m ≤ 4096 → least scope (length scope) d ≡ pick false r (Some s) → s ≤ℤ pos 0 → at_most scope (pair (pos 0) b (pos 1) i) (number high) ≡ true
        shown_by d m r s made limited count small_count comes s_under =
            ap (λ (u : Option Form). is_at_most_zero (option_and_then (λ d. sup scope d) u)) made ∙ ap is_at_most_zero (sup_is scope d m limited count small_count ∙ comes) ∙ still_second r s s_under

        pair_in : is_within_limits (pair (pos 0) b (pos 1) i) ≡ true
        pair_in = pair_limited (pos 0) b (pos 1) i (omega arith) (omega arith)

        of : (v : Bool) → nat_lt b i ≡ v → at_most scope (pair (pos 0) b (pos 1) i) (number high) ≡ true
        of true e =
            let less : b < i = grind (arith, nat_tests, e) in
            let d : Form = two_of z (pos 1) b (pos 1) i in
            let is : plus_multiple (pair (pos 0) b (pos 1) i) (negsuc 0) (number high) ≡ d =
            (λ j. record { constant = z; terms = if e j then multiple b (pos 1) ∷ multiple i (pos 1) ∷ [] else multiple i (pos 1) ∷ multiple b (pos 1) ∷ [] }) in
            let limited = two_limited z (pos 1) b (pos 1) i (omega (arith, z_near)) (omega arith) (omega arith) in
            let made : combined (pair (pos 0) b (pos 1) i) (negsuc 0) (number high) ≡ Some d =
            combined-made (pair (pos 0) b (pos 1) i) (number high) (negsuc 0) pair_in (number_limited high (omega (arith, high_near))) (ap is_within_limits is ∙ limited) ∙ ap (λ (f : Form).
            Some f) is in
            let m : ℤ = z +ℤ pos 1 *ℤ pos k in
            let m_near : unsigned_abs m ≤ 2 ^ 38 = near_sum z (pos 1 *ℤ pos k) (2 ^ 37) (2 ^ 37) (2 ^ 38) z_near one_k (omega arith) in
            let inner_made : replaced d i (pos 1) (number (pos k)) ≡ Some (one_of m (pos 1) b) =
            ap (λ (f : Form). combined f (pos 1) (number (pos k))) (two_gone z (pos 1) b (pos 1) i less)
            ∙ combined-made (one_of z (pos 1) b) (number (pos k)) (pos 1) (one_limited z (pos 1) b (omega (arith, z_near)) (omega arith)) (number_limited (pos k) (omega (arith, k_near)))
            (one_limited m (pos 1) b (omega (arith, m_near)) (omega arith)) in
            let counts = two_counts z (pos 1) b (pos 1) i less in
            let above = two_above z (pos 1) b (pos 1) i less in
            let rest = let_up m m_near i less in
            shown_by d 4 (Some (up_start m m_near)) (up_room m m_near) made limited
            (count_once scope d i (pos 1) refl counts above (Bound y) there_i (number (pos k)) (one_of m (pos 1) b) y_up inner_made (length scope) in_i ∙ ap suc rest.1) (omega arith)
            (least_once scope d i (pos 1) refl counts above (Bound y) there_i (number (pos k)) (one_of m (pos 1) b) y_up inner_made (length scope) in_i ∙ rest.0) (inner_first high room (pos k) le)
          where
            inner_first : (h r n : ℤ) → (r +ℤ n) ≤ℤ h → (((pos 0 +ℤ negsuc 0 *ℤ h) +ℤ pos 1 *ℤ n) +ℤ pos 1 *ℤ r) ≤ℤ pos 0
            inner_first h r n l = omega (arith, ints, l)
        of false e =
            let less : i < b = grind (arith, nat_tests, e, differ) in
            let d : Form = two_of z (pos 1) i (pos 1) b in
            let is : plus_multiple (pair (pos 0) b (pos 1) i) (negsuc 0) (number high) ≡ d =
            (λ j. record { constant = z; terms = if e j then multiple b (pos 1) ∷ multiple i (pos 1) ∷ [] else multiple i (pos 1) ∷ multiple b (pos 1) ∷ [] }) in
            let limited = two_limited z (pos 1) i (pos 1) b (omega (arith, z_near)) (omega arith) (omega arith) in
            let made : combined (pair (pos 0) b (pos 1) i) (negsuc 0) (number high) ≡ Some d =
            combined-made (pair (pos 0) b (pos 1) i) (number high) (negsuc 0) pair_in (number_limited high (omega (arith, high_near))) (ap is_within_limits is ∙ limited) ∙ ap (λ (f : Form).
            Some f) is in
            let w : ℤ = z +ℤ pos 1 *ℤ low in
            let w_near : unsigned_abs w ≤ 2 ^ 38 = more_sum z low (2 ^ 37) (2 ^ 36) (2 ^ 38) z_near near (omega arith) in
            let gone = two_gone z (pos 1) i (pos 1) b less in
            let swap = other_way o i apart in
            let first : Form = both scope i o swap w (pos 1) (pos (suc k)) refl refl (Bound y) (Bound x) there_i there_o (pos k) (pos t) y_up x_up w_near (omega arith) small k_near t_near
            one_k times_near in
            let found = both_found scope i o swap w (pos 1) (pos (suc k)) refl refl (Bound y) (Bound x) there_i there_o (pos k) (pos t) y_up x_up w_near (omega arith) small k_near t_near
            one_k times_near
            b less behind in
            let first_is : plus_multiple (one_of z (pos 1) i) (pos 1) start ≡ first =
            (λ j. record { constant = w; terms = plus_term (multiple i (pos 1) ∷ []) (multiple o (up j)) })
            ∙ (let terms = plus_one i o (pos 1) (pos (suc k)) refl swap (nat_lt i o) refl in λ j. record { constant = w; terms = terms j }) in
            let first_in = both_limited w i o (pos 1) (pos (suc k)) (omega (arith, w_near)) (omega arith) small in
            let made_f : replaced d b (pos 1) start ≡ Some first =
            ap (λ (f : Form). combined f (pos 1) start) gone
            ∙ combined-made (one_of z (pos 1) i) start (pos 1) (one_limited z (pos 1) i (omega (arith, z_near)) (omega arith)) start_limited (ap is_within_limits first_is ∙ first_in)
            ∙ ap (λ (f : Form). Some f) first_is in
            let v : ℤ = z +ℤ pos 1 *ℤ room in
            let v_near : unsigned_abs v ≤ 2 ^ 38 = more_sum z room (2 ^ 37) (2 ^ 37) (2 ^ 38) z_near room_near (omega arith) in
            let made_h : replaced d b (pos 1) (number room) ≡ Some (one_of v (pos 1) i) =
            ap (λ (f : Form). combined f (pos 1) (number room)) gone
            ∙ combined-made (one_of z (pos 1) i) (number room) (pos 1) (one_limited z (pos 1) i (omega (arith, z_near)) (omega arith)) (number_limited room (omega (arith, room_near)))
            (one_limited v (pos 1) i (omega (arith, v_near)) (omega arith)) in
            let s : ℤ = v +ℤ pos 1 *ℤ pos k in
            let s_near : unsigned_abs s ≤ 2 ^ 40 = near_sum v (pos 1 *ℤ pos k) (2 ^ 38) (2 ^ 37) (2 ^ 40) v_near one_k (omega arith) in
            let inner_made : replaced (one_of v (pos 1) i) i (pos 1) (number (pos k)) ≡ Some (number s) =
            ap (λ (f : Form). combined f (pos 1) (number (pos k))) (one_gone v (pos 1) i) ∙ numbers_made v (pos 1) (pos k) (omega (arith, v_near)) (omega (arith, k_near)) s_near in
            let one_c = one_counts v (pos 1) i in
            let one_a = one_above v (pos 1) i in
            let second_least = least_once scope (one_of v (pos 1) i) i (pos 1) refl one_c one_a (Bound y) there_i (number (pos k)) (number s) y_up inner_made b less ∙ least_number scope i s in
            let second_count = count_once scope (one_of v (pos 1) i) i (pos 1) refl one_c one_a (Bound y) there_i (number (pos k)) (number s) y_up inner_made b less ∙ ap suc
            (no_replacements scope i s) in
            let counts = two_counts z (pos 1) i (pos 1) b less in
            let above = two_above z (pos 1) i (pos 1) b less in
            let found_count = found.1 in
            shown_by d 5 (least scope b first) s made limited
            (count_twice scope d b (pos 1) refl counts above q there_b start (number room) first (one_of v (pos 1) i) refl made_f made_h (length scope) in_b
            ∙ (λ j. suc (found_count j) + suc (second_count j))) (omega arith)
            (least_twice scope d b (pos 1) refl counts above q there_b start (number room) first (one_of v (pos 1) i) refl made_f made_h (length scope) in_b
            ∙ (λ j. pick false (least scope b first) (second_least j))) (let_first high room (pos k) le)
          where
            let_first : (h r n : ℤ) → (r +ℤ n) ≤ℤ h → (((pos 0 +ℤ negsuc 0 *ℤ h) +ℤ pos 1 *ℤ r) +ℤ pos 1 *ℤ n) ≤ℤ pos 0
            let_first h r n l = omega (arith, ints, l)

-- ---- inside a nest

module _ (line : ℕ → Line) (lim : ℕ → List Form) (n : ℕ) (ts : List Turning) (short : n + length ts ≤ most_symbols) (rules : Rules) (bound : rules.at_most ≡ shown_at_most) (bs : List Binder)
    (near : (j : ℕ) (t : Turning) → slice_get ts j ≡ Some t → (unsigned_abs t.low ≤ 2 ^ 36) × (unsigned_abs t.last ≤ 2 ^ 36))
    (limits_in : (j : ℕ) (t : Turning) → slice_get ts j ≡ Some t → list_all is_within_limits (lim (n + j)) ≡ true) where
  -- the position in a shifted block, of which the let stands inside of the outer loop
  pub seat_shift : (b o i k t : ℕ) (w v u : Turning) → slice_get ts b ≡ Some w → slice_get ts o ≡ Some v → slice_get ts i ≡ Some u → o < b → line (n + o) ≡ Loop → line (n + i) ≡ Loop →
      lim (n + o) ≡ [] → lim (n + i) ≡ [] → (b == i) ≡ false → (o == i) ≡ false → v.low ≡ pos 0 → v.last ≡ pos t → u.low ≡ pos 0 → u.last ≡ pos k → suc k ≤ 1024 → (low room : ℤ) (m : ℕ) →
      unsigned_abs low ≤ 2 ^ 36 → suc k ≤ m → m ≤ 2 ^ 36 → t * suc k ≤ 2 ^ 36 → room ≡ ((pos m -ℤ pos 1) +ℤ low) -ℤ pos k → line (n + b) ≡ Block (one_of low (pos (suc k)) (n + o)) room →
      is_seated rules (inner line lim n ts short rules bound bs near limits_in) (exactly (pair (pos 0) (n + b) (pos 1) (n + i))) (From (number low) m) ≡ true
  seat_shift b o i k t w v u at_b at_o at_i inside loop_o loop_i bare_o bare_i differ apart v_low v_last u_low u_last few low room m low_near some small times room_is is =
      let wo = scope_bare line lim n ts short rules bound bs near limits_in o v at_o loop_o bare_o in
      let wi = scope_bare line lim n ts short rules bound bs near limits_in i u at_i loop_i bare_i in
      let wb = scope_block in
      let differ_there : (n + b == n + i) ≡ false = grind (arith, nat_tests, differ) in
      let apart_there : (n + o == n + i) ≡ false = grind (arith, nat_tests, apart) in
      let room_near : unsigned_abs room ≤ 2 ^ 37 = subst (λ (z : ℤ). unsigned_abs z ≤ 2 ^ 37) (sym room_is) (between low m k low_near small few) in
      let above = shift_over (sc line lim n ts short rules bound bs near limits_in) (n + o) (n + b) (n + i) (omega (arith, inside)) differ_there apart_there wb.1 wi.1 k few (span v.low v.last [])
      (span u.low u.last []) wo.0 wi.0 low room low_near room_near wb.0 (ap (λ (z : ℤ). number z ∷ []) v_low) (ap (λ (z : ℤ). number z ∷ []) u_low)
      (subst (λ (z : ℤ). low ≤ℤ z) (sym room_is) (behind_low low m k some)) in
      let high : ℤ = low +ℤ (pos m -ℤ pos 1) in
      let below = shift_under (sc line lim n ts short rules bound bs near limits_in) (n + o) (n + b) (n + i) (omega (arith, inside)) differ_there apart_there wb.1 wi.1 k few (span v.low v.last [])
      (span u.low u.last []) wo.0 wi.0 low room low_near room_near wb.0 t (ap (λ (z : ℤ). number z ∷ []) v_last) (ap (λ (z : ℤ). number z ∷ []) u_last) (t_near t k times) (times_near t k times)
      high (high_near low m low_near small) (subst (λ (z : ℤ). (z +ℤ pos k) ≤ℤ high) (sym room_is) (at_high low m k)) in
      seated_by line lim n ts short rules bound bs near limits_in (pair (pos 0) (n + b) (pos 1) (n + i)) (number low) m
      (shown line lim n ts short rules bound bs near limits_in (number low) (pair (pos 0) (n + b) (pos 1) (n + i)) above)
      (shown line lim n ts short rules bound bs near limits_in (pair (pos 0) (n + b) (pos 1) (n + i)) (number high) below)
    where
      scope_block : (slice_get (sc line lim n ts short rules bound bs near limits_in) (n + b) ≡ Some (LetMin (one_of low (pos (suc k)) (n + o) ∷ number room ∷ [])))
          × (n + b < length (sc line lim n ts short rules bound bs near limits_in))
      scope_block =
          let r = scope_at line lim n ts short rules bound bs near limits_in b w at_b in
          (r.0 ∙ (λ j. Some (line_binding line lim (is j) w (lim (n + b)))), r.1)

      between : (z : ℤ) (p j : ℕ) → unsigned_abs z ≤ 2 ^ 36 → p ≤ 2 ^ 36 → suc j ≤ 1024 → unsigned_abs (((pos p -ℤ pos 1) +ℤ z) -ℤ pos j) ≤ 2 ^ 37
      between z p j h g e = omega (arith, ints, h, g, e)

      behind_low : (z : ℤ) (p j : ℕ) → suc j ≤ p → z ≤ℤ (((pos p -ℤ pos 1) +ℤ z) -ℤ pos j)
      behind_low z p j h = omega (arith, ints, h)

      at_high : (z : ℤ) (p j : ℕ) → ((((pos p -ℤ pos 1) +ℤ z) -ℤ pos j) +ℤ pos j) ≤ℤ (z +ℤ (pos p -ℤ pos 1))
      at_high z p j = omega (arith, ints)

      high_near : (z : ℤ) (p : ℕ) → unsigned_abs z ≤ 2 ^ 36 → p ≤ 2 ^ 36 → unsigned_abs (z +ℤ (pos p -ℤ pos 1)) ≤ 2 ^ 37
      high_near z p h g = omega (arith, ints, h, g)

      at_most_times : (a d : ℕ) → a ≤ a * suc d
      at_most_times a d = (let is = mul-suc a d in omega (arith, is))

      t_near : (t k : ℕ) → t * suc k ≤ 2 ^ 36 → unsigned_abs (pos t) ≤ 2 ^ 36
      t_near t k h = (let le = at_most_times t k in omega (arith, le, h))

      times_near : (t k : ℕ) → t * suc k ≤ 2 ^ 36 → unsigned_abs (pos (suc k) *ℤ pos t) ≤ 2 ^ 37
      times_near t k h = subst (λ (z : ℤ). unsigned_abs z ≤ 2 ^ 37) (sym (times_is t k)) (omega (arith, h))
        where
          times_is : (t k : ℕ) → pos (suc k) *ℤ pos t ≡ pos (t * suc k)
          times_is t k = omega (arith, ints)
