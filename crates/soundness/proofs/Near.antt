-- Points that are stored in a folded buffer lie near one another.
use Rattle.std.proofs.Common.{◌≡◌, ℕ, true, false, List, [], ◌∷◌, map, length, refl, sym, ap, ◌∙◌, subst, inl, inr, arith}
use Rattle.std.specs.Prelude.{ℤ, pos, ◌+ℤ◌, ◌-ℤ◌, ◌≤ℤ◌, ◌<ℤ◌, ◌==◌, ◌&&◌, not, if◌then◌else◌, int_le}
use Rattle.std.specs.List.{list_any}
use Rattle.std.proofs.lemmas.Int.{ints}
use Rattle.lin.specs.declared.span.Span1.{Span1}
use Rattle.plan.specs.declared.stmt.Places.{Places}
use Rattle.plan.specs.declared.stmt.Places.TheVariants.{From, Folded}
use Rattle.plan.specs.Plan.{Coordinate}
use Rattle.plan.specs.Symbols.{Symbols, bind, form_value, rising}
use Rattle.plan.specs.Rooms.{room}
use Rattle.plan.specs.Semantics.Actions.{Action, fixed, target}
use Rattle.soundness.specs.Origins.{Given}
use Rattle.soundness.specs.Claims.{In, written}
use Rattle.soundness.specs.Obligations.{Lies, LieIn, Binder, Respects, Rules, Suited}
use Rattle.soundness.specs.Shown.{raised, is_seated}
use Rattle.soundness.proofs.Folds.{Near}
use Rattle.soundness.proofs.Forms.{is_not, turn_lies}
use Rattle.soundness.proofs.Refines.{and_parts}
use Rattle.soundness.proofs.Written.{turn_written}
use Rattle.soundness.specs.Nests.Nest.{Loop, is_symbol}
use Rattle.soundness.specs.Nests.Tests.{are_apart, is_short, fits_fold, fold_holds, loops_hold}
use Rattle.soundness.proofs.Coordinates.{any_in, none_in, Pairs, symbol_at, one_inside}
use Rattle.soundness.proofs.Visits.{spin_of, visits, now_bound}

-- each coordinate that is a loop's symbol lies in the loop's span
abbrev pub InSpans : Symbols → List Loop → List Coordinate → List ℤ → Type 0
InSpans s ls [] p = Unit {0}
InSpans s ls (c ∷ cs) [] = Unit {0}
InSpans s ls (c ∷ cs) (z ∷ zs) = ((l : Loop) → In l ls → is_symbol l.symbol c ≡ true → Lies s l.span z) × InSpans s ls cs zs

pub pairs_in : (s : Symbols) (ls : List Loop) (v : ℕ → ℤ) (cs : List Coordinate) (p : List ℤ) → ((l : Loop) → In l ls → Pairs l.symbol (v l.symbol) cs p) → ((l : Loop) → In l ls → Lies s l.span (v l.symbol)) → InSpans s ls cs p
pairs_in s ls v [] p pairs lies = tt
pairs_in s ls v (c ∷ cs) [] pairs lies = tt
pairs_in s ls v (c ∷ cs) (z ∷ zs) pairs lies = ((λ l m e. subst (Lies s l.span) (sym ((pairs l m).0 e)) (lies l m)), pairs_in s ls v cs zs (λ l m. (pairs l m).1) lies)

pub visit_in : (s : Symbols) (ls : List Loop) (u : Symbols) (cs : List Coordinate) → ((l : Loop) → In l ls → Lies s l.span (u.value l.symbol)) → InSpans s ls cs (map fixed (map (target u) cs))
visit_in s ls u [] lies = tt
visit_in s ls u (c ∷ cs) lies = ((λ l m e. subst (Lies s l.span) (sym (ap fixed (symbol_at u l.symbol c e).1)) (lies l m)), visit_in s ls u cs lies)

-- where each point that is written comes from
pub visits_only : (act : Symbols → List Action) (b : ℕ) (x : List ℤ) (s : Symbols) (ls : List Loop) (t : Symbols) → are_apart ls ≡ true → In x (written b (visits act (map (spin_of s) ls) t)) →
    (u : Symbols) × In x (written b (act u)) × ((l : Loop) → In l ls → Lies s l.span (u.value l.symbol)) × ((i : ℕ) → ((l : Loop) → In l ls → (i == l.symbol) ≡ false) → u.value i ≡ t.value i)
visits_only act b x s [] t apart m = (t, m, (λ l n. absurd n), λ i h. refl)
visits_only act b x s (l ∷ ls) t apart m =
    let low = (spin_of s l).low in
    let a = and_parts (not (list_any (λ (k : Loop). l.symbol == k.symbol) ls)) (are_apart ls) apart in
    let z = turn_written b x (λ y. visits act (map (spin_of s) ls) (bind t l.symbol y (int_le y low))) (rising low (spin_of s l).count) m in
    let t' = bind t l.symbol z.0 (int_le z.0 low) in
    let r = visits_only act b x s ls t' a.1 z.2 in
    let apart_from : (k : Loop) → In k ls → (l.symbol == k.symbol) ≡ false = none_in (λ (k : Loop). l.symbol == k.symbol) ls (is_not (list_any (λ (k : Loop). l.symbol == k.symbol) ls) a.0) in
    let here : Lies s l.span (r.0.value l.symbol) = subst (Lies s l.span) (sym (r.3 l.symbol apart_from ∙ now_bound t l.symbol z.0 (int_le z.0 low))) (turn_lies s l.span z.0 z.1) in (
      r.0,
      r.1,
      (λ k n. elim n [ inl e ↦ subst (λ (j : Loop). Lies s j.span (r.0.value j.symbol)) (sym e) here | inr n ↦ r.2 k n ]),
      λ i h. r.3 i (λ k n. h k (inr n)) ∙ ap (λ v. if v then z.0 else t.value i) (h l (inl refl)),
    )

module _ (given : Given) (rules : Rules) (suited : Suited given rules) (bs : List Binder) (s : Symbols) (r : Respects bs s) where
  -- two numbers of a short span
  short_near : (x : Span1) (n : ℕ) (y z : ℤ) → is_short rules bs x n ≡ true → Lies s x y → Lies s x z → (y <ℤ (z +ℤ pos n)) × (z <ℤ (y +ℤ pos n))
  short_near x n y z h ly lz =
      let l = any_in (λ l. is_seated rules bs x (From l n)) x.lower h in
      let span : Span1 = record { lower = l.0 ∷ []; upper = raised l.0 (pos n -ℤ pos 1) ∷ [] } in
      let a = one_inside given rules suited bs s r x span l.2 y ly in
      let b = one_inside given rules suited bs s r x span l.2 z lz in
      let y_low : form_value l.0 s ≤ℤ y = a.0.0 in
      let y_high : y ≤ℤ form_value (raised l.0 (pos n -ℤ pos 1)) s = a.1.0 in
      let z_low : form_value l.0 s ≤ℤ z = b.0.0 in
      let z_high : z ≤ℤ form_value (raised l.0 (pos n -ℤ pos 1)) s = b.1.0 in
      (omega (arith, ints, y_high, z_low), omega (arith, ints, z_high, y_low))

  near_one : (x : Span1) (a : Places) (places : List Places) (y z : ℤ) (ys zs : List ℤ) → fits_fold rules bs x a ≡ true → Lies s x y → Lies s x z → Near (map (room s) places) ys zs → Near (map (room s) (a ∷ places)) (y ∷ ys) (z ∷ zs)
  near_one x (From l n) places y z ys zs h ly lz rest = rest
  near_one x (Folded n) places y z ys zs h ly lz rest = let k = short_near x n y z h ly lz in (k.0, k.1, rest)

  pub near_spans : (xs : List Span1) (places : List Places) (p q : List ℤ) → fold_holds rules bs xs places ≡ true → LieIn s xs p → LieIn s xs q → Near (map (room s) places) p q
  near_spans [] [] [] [] h k j = tt
  near_spans [] (From l n ∷ places) [] q h k j = tt
  near_spans [] (Folded n ∷ places) [] q h k j = tt
  near_spans [] places (y ∷ ys) q h k j = absurd k
  near_spans [] [] [] (z ∷ zs) h k j = absurd j
  near_spans (x ∷ xs) places [] q h k j = absurd k
  near_spans (x ∷ xs) places (y ∷ ys) [] h k j = absurd j
  near_spans (x ∷ xs) [] (y ∷ ys) (z ∷ zs) h k j = tt
  near_spans (x ∷ xs) (a ∷ places) (y ∷ ys) (z ∷ zs) h k j =
      let g = and_parts (fits_fold rules bs x a) (fold_holds rules bs xs places) h in
      near_one x a places y z ys zs g.0 k.0 j.0 (near_spans xs places ys zs g.1 k.1 j.1)

  pub near_loops : (ls : List Loop) (cs : List Coordinate) (places : List Places) (p q : List ℤ) → loops_hold rules bs ls cs places ≡ true → length cs ≡ length p → InSpans s ls cs p → InSpans s ls cs q → Near (map (room s) places) p q
  near_loops ls cs [] p q h many k j = tt
  near_loops ls [] (a ∷ places) (y ∷ ys) q h many k j = absurd (omega (arith, many))
  near_loops ls (c ∷ cs) (a ∷ places) [] q h many k j = absurd (omega (arith, many))
  near_loops ls [] (From l n ∷ places) [] q h many k j = tt
  near_loops ls [] (Folded n ∷ places) [] q h many k j = tt
  near_loops ls (c ∷ cs) (From l n ∷ places) (y ∷ ys) [] h many k j = tt
  near_loops ls (c ∷ cs) (Folded n ∷ places) (y ∷ ys) [] h many k j = tt
  near_loops ls (c ∷ cs) (a ∷ places) (y ∷ ys) (z ∷ zs) h many k j =
      let g = and_parts (list_any (λ l. is_symbol l.symbol c && fits_fold rules bs l.span a) ls) (loops_hold rules bs ls cs places) h in
      let l = any_in (λ (l : Loop). is_symbol l.symbol c && fits_fold rules bs l.span a) ls g.0 in
      let e = and_parts (is_symbol l.0.symbol c) (fits_fold rules bs l.0.span a) l.2 in
      near_one l.0.span a places y z ys zs e.1 (k.0 l.0 l.1 e.0) (j.0 l.0 l.1 e.0) (near_loops ls cs places ys zs g.1 (omega (arith, many)) k.1 j.1)
