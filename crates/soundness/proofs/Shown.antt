-- What is shown is so, whatever the symbols stand for.
use Rattle.std.proofs.Common.{◌≡◌, ℕ, ◌<◌, true, List, [], ◌∷◌, map, refl, inl, inr, arith}
use Rattle.std.specs.Prelude.{ℤ, pos, negsuc, ◌-ℤ◌, ◌≤ℤ◌, ◌<ℤ◌, IsSome, nat_lt, ◌⊎◌}
use Rattle.std.specs.List.{AllByRecursion, list_any, list_all}
use Rattle.std.specs.Int.{int_rem_euclid}
use Rattle.std.proofs.lemmas.Int.{ints}
use Rattle.std.proofs.lemmas.Nat.{mod_below}
use Rattle.std.proofs.lemmas.Bool.Decides.{nat_tests}
use Rattle.lin.specs.Forms.{Form}
use Rattle.lin.specs.declared.span.Span1.{Span1}
use Rattle.plan.specs.declared.stmt.Places.{Places}
use Rattle.plan.specs.declared.stmt.Places.TheVariants.{From, Folded}
use Rattle.plan.specs.Symbols.{Symbols, form_value}
use Rattle.plan.specs.Rooms.{room, seat, place}
use Rattle.soundness.specs.Origins.{Given}
use Rattle.soundness.specs.Right.{at_start}
use Rattle.soundness.specs.Obligations.{Lies, LieIn, Binder, Respects, Rules, Wanted, Named, Seated, Inside, Made, InTurn, Slid, Held, Obligation, MeantAt, Meant, AllMeant, Suited, obligations}
use Rattle.soundness.specs.Shown.{raised, is_within, are_within, is_seated, are_seated, Nests, AreRightNests, shows, is_shown, all_shown, start, MeantIsSound, ShownIsMeant, ShownIsSound}
use Rattle.soundness.proofs.Refines.{and_parts}
use Rattle.soundness.proofs.Sound.{or_cases}
use Rattle.soundness.proofs.Turns.{below_has, joined_some}
use Rattle.soundness.proofs.Kept.{none_awaited}
use Rattle.soundness.proofs.Meant.{sound_where}

rem_low : (z : ℤ) (n : ℕ) → nat_lt 0 n ≡ true → pos 0 ≤ℤ int_rem_euclid z (pos n)
rem_low (pos a) n h = omega (arith, ints)
rem_low (negsuc a) n h = omega (arith, ints)

rem_high : (z : ℤ) (n : ℕ) → nat_lt 0 n ≡ true → int_rem_euclid z (pos n) <ℤ pos n
rem_high (pos a) n h = let p : 0 < n = grind (arith, nat_tests) in let k = mod_below a n p in omega (arith, ints, k)
rem_high (negsuc a) n h = let p : 0 < n = grind (arith, nat_tests) in omega (arith, ints, p)

module _ (rules : Rules) (bs : List Binder) (s : Symbols) (ordered : (a b : Form) → rules.at_most bs a b ≡ true → form_value a s ≤ℤ form_value b s) where
  lower_from : (m : Form) (z : ℤ) (ls : List Form) → list_any (λ l. rules.at_most bs m l) ls ≡ true → AllByRecursion (λ l. form_value l s ≤ℤ z) ls → form_value m s ≤ℤ z
  lower_from m z [] h a = absurd (cc h)
  lower_from m z (l ∷ ls) h a = of (or_cases (rules.at_most bs m l) (list_any (λ l. rules.at_most bs m l) ls) h) (λ k. lower_from m z ls k a.1)
    where
      of : (rules.at_most bs m l ≡ true) ⊎ (list_any (λ l. rules.at_most bs m l) ls ≡ true) → (list_any (λ l. rules.at_most bs m l) ls ≡ true → form_value m s ≤ℤ z) → form_value m s ≤ℤ z
      of (inl k) rest = let g = ordered m l k in let here = a.0 in omega (arith, ints, g, here)
      of (inr k) rest = rest k

  upper_from : (m : Form) (z : ℤ) (us : List Form) → list_any (λ u. rules.at_most bs u m) us ≡ true → AllByRecursion (λ u. z ≤ℤ form_value u s) us → z ≤ℤ form_value m s
  upper_from m z [] h a = absurd (cc h)
  upper_from m z (u ∷ us) h a = of (or_cases (rules.at_most bs u m) (list_any (λ u. rules.at_most bs u m) us) h) (λ k. upper_from m z us k a.1)
    where
      of : (rules.at_most bs u m ≡ true) ⊎ (list_any (λ u. rules.at_most bs u m) us ≡ true) → (list_any (λ u. rules.at_most bs u m) us ≡ true → z ≤ℤ form_value m s) → z ≤ℤ form_value m s
      of (inl k) rest = let g = ordered u m k in let here = a.0 in omega (arith, ints, g, here)
      of (inr k) rest = rest k

  lowers_from : (x : Span1) (z : ℤ) (ms : List Form) → list_all (λ m. list_any (λ l. rules.at_most bs m l) x.lower) ms ≡ true → Lies s x z → AllByRecursion (λ m. form_value m s ≤ℤ z) ms
  lowers_from x z [] h l = tt
  lowers_from x z (m ∷ ms) h l =
      let k = and_parts (list_any (λ l. rules.at_most bs m l) x.lower) (list_all (λ m. list_any (λ l. rules.at_most bs m l) x.lower) ms) h in
      (lower_from m z x.lower k.0 l.0, lowers_from x z ms k.1 l)

  uppers_from : (x : Span1) (z : ℤ) (ms : List Form) → list_all (λ m. list_any (λ u. rules.at_most bs u m) x.upper) ms ≡ true → Lies s x z → AllByRecursion (λ m. z ≤ℤ form_value m s) ms
  uppers_from x z [] h l = tt
  uppers_from x z (m ∷ ms) h l =
      let k = and_parts (list_any (λ u. rules.at_most bs u m) x.upper) (list_all (λ m. list_any (λ u. rules.at_most bs u m) x.upper) ms) h in
      (upper_from m z x.upper k.0 l.1, uppers_from x z ms k.1 l)

  within_from : (x y : Span1) (z : ℤ) → is_within rules bs x y ≡ true → Lies s x z → Lies s y z
  within_from x y z h l =
      let k = and_parts (list_all (λ m. list_any (λ l. rules.at_most bs m l) x.lower) y.lower) (list_all (λ m. list_any (λ u. rules.at_most bs u m) x.upper) y.upper) h in
      (lowers_from x z y.lower k.0 l, uppers_from x z y.upper k.1 l)

  all_within : (xs ys : List Span1) → are_within rules bs xs ys ≡ true → (p : List ℤ) → LieIn s xs p → LieIn s ys p
  all_within [] [] h p l = l
  all_within [] (y ∷ ys) h p l = absurd (cc h)
  all_within (x ∷ xs) [] h p l = absurd (cc h)
  all_within (x ∷ xs) (y ∷ ys) h [] l = absurd l
  all_within (x ∷ xs) (y ∷ ys) h (z ∷ zs) l =
      let k = and_parts (is_within rules bs x y) (are_within rules bs xs ys) h in
      (within_from x y z k.0 l.0, all_within xs ys k.1 zs l.1)

  axis_seats : (x : Span1) (a : Places) (z : ℤ) → is_seated rules bs x a ≡ true → Lies s x z → IsSome (seat (room s a) z)
  axis_seats x (From f n) z h l =
      let k = within_from x (record { lower = f ∷ []; upper = raised f (pos n -ℤ pos 1) ∷ [] }) z h l in
      let low : form_value f s ≤ℤ z = k.0.0 in
      let high : z ≤ℤ form_value (raised f (pos n -ℤ pos 1)) s = k.1.0 in
      below_has n (z -ℤ form_value f s) (omega (arith, ints, low)) (omega (arith, ints, high))
  axis_seats x (Folded n) z h l = below_has n (int_rem_euclid z (pos n)) (rem_low z n h) (rem_high z n h)

  pub all_seats : (xs : List Span1) (places : List Places) → are_seated rules bs xs places ≡ true → (p : List ℤ) → LieIn s xs p → IsSome (place (map (room s) places) p)
  all_seats [] [] h [] l = refl
  all_seats [] [] h (z ∷ zs) l = absurd l
  all_seats [] (a ∷ places) h p l = absurd (cc h)
  all_seats (x ∷ xs) [] h p l = absurd (cc h)
  all_seats (x ∷ xs) (a ∷ places) h [] l = absurd l
  all_seats (x ∷ xs) (a ∷ places) h (z ∷ zs) l =
      let k = and_parts (is_seated rules bs x a) (are_seated rules bs xs places) h in
      joined_some (seat (room s a) z) (place (map (room s) places) zs) (axis_seats x a z k.0 l.0) (all_seats xs places k.1 zs l.1)

module _ (given : Given) (rules : Rules) (nests : Nests) (suited : Suited given rules) (right : AreRightNests given nests) where
  shows_meant : (bs : List Binder) (w : Wanted) → shows rules nests bs w ≡ true → (s : Symbols) → Respects bs s → MeantAt given w s
  shows_meant bs (Named test) h s r = h
  shows_meant bs (Seated xs places) h s r = all_seats rules bs s (λ a b k. suited.ordered bs a b s k r) xs places h
  shows_meant bs (Inside xs ys) h s r = all_within rules bs s (λ a b k. suited.ordered bs a b s k r) xs ys h
  shows_meant bs (Made c from places a) h s r = right.made bs c from places a s h r
  shows_meant bs (InTurn c a) h s r = right.in_turn bs c a s h r
  shows_meant bs (Slid w c places a) h s r = tt
  shows_meant bs (Held w around c places a) h s r =
      λ t. let k = and_parts (nests.is_slid around w c places a) (nests.is_held around w c places a) h in right.slides around w c places a s k.0 k.1 t

  pub shown_meant : (o : Obligation) → is_shown rules nests o ≡ true → Meant given o
  shown_meant o h = shows_meant o.binders o.wanted h

  pub all_shown_meant : (os : List Obligation) → all_shown rules nests os ≡ true → AllMeant given os
  all_shown_meant [] h = tt
  all_shown_meant (o ∷ os) h =
      let k = and_parts (is_shown rules nests o) (all_shown rules nests os) h in
      (shown_meant o k.0, all_shown_meant os k.1)

pub meant_is_sound : MeantIsSound
meant_is_sound given rules body line grid s suited pure h r =
    sound_where given rules suited [] body line (start grid) (at_start s) pure
    (record { respects = r; rooms = λ b places e. absurd (cc e); free = λ b e. refl; claims = λ c n. absurd (cc n); own = λ c n. absurd (cc n) }) (λ u m. absurd m) (none_awaited given rules body line grid (at_start s)) h

pub shown_is_meant : ShownIsMeant
shown_is_meant given rules nests os suited right h = all_shown_meant given rules nests suited right os h

pub shown_is_sound : ShownIsSound
shown_is_sound given rules nests body line grid s suited right pure h r =
    meant_is_sound given rules body line grid s suited pure (all_shown_meant given rules nests suited right (obligations given.outline rules body line (start grid)) h) r
