-- The histogram by its obligations: each holds, whatever the symbols stand for.
use Rattle.std.proofs.Common.{◌≡◌, ℕ, suc, true, List, [], ◌∷◌, map, Some, None, refl, sym, ap, inl, arith}
use Rattle.std.specs.Prelude.{ℤ, pos, ◌+ℤ◌, ◌-ℤ◌, ◌*ℤ◌, ◌≤ℤ◌, IsSome, codes, int_le}
use Rattle.std.proofs.lemmas.Bool.Decides.{nat_tests}
use Rattle.std.proofs.lemmas.Int.{ints}
use Rattle.lin.specs.Forms.{number}
use Rattle.lin.specs.declared.span.Span1.{Span1}
use Rattle.plan.specs.declared.stmt.Kind.TheVariants.{Serial}
use Rattle.plan.specs.declared.stmt.Places.{Places}
use Rattle.plan.specs.declared.stmt.Places.TheVariants.{From}
use Rattle.plan.specs.Plan.{Statement, Seq, block}
use Rattle.plan.specs.Symbols.{Symbols, bind, turns}
use Rattle.plan.specs.Rooms.{Room, Straight, room, place}
use Rattle.plan.specs.Semantics.Actions.{Action, actions}
use Rattle.plan.specs.Semantics.Worked.{constants, symbol}
use Rattle.soundness.specs.Origins.{Given}
use Rattle.soundness.specs.Obligations.{Lies, LieIn, anything, exactly, Binder, Ranged, Respects, Rules, Made, MeantAt, AllMeant, obligations}
use Rattle.soundness.specs.Shown.{start, Nests, AreRightNests, MeantIsSound}
use Rattle.soundness.proofs.Folds.{near_apart, straight_near}
use Rattle.soundness.proofs.Forms.{region_lies}
use Rattle.soundness.proofs.Rows.{itself}
use Rattle.soundness.proofs.Turns.{below_has, joined_some, turns_have}
use Rattle.soundness.proofs.Windows.{fills_loop, fills_make}
use Rattle.soundness.proofs.Written.{written_turns}
use Rattle.soundness.specs.Worked.{hist_algorithm}
use Rattle.soundness.specs.Nests.Laws.{PlainNestsAreRight, domains_of}
use Rattle.soundness.specs.Nests.Tests.{plain_nests}
use Rattle.audit.specs.Verdict.Plans.Counts.{ArePlaces, HistIsSound, over_rows, counts_body}
use Rattle.audit.proofs.OfVerdict.OfPlans.Parts.{s, region, store, fill, given_at}
use Rattle.audit.proofs.OfVerdict.OfPlans.Rules.{rules_for, suited, counted}

abbrev grid : List Binder
grid = Ranged 0 (constants (pos 0) (pos 0)) ∷ []

abbrev filling : ℕ → List Binder
filling last = Ranged 1 (constants (pos 0) (pos last)) ∷ grid

abbrev stepping : ℕ → List Binder
stepping rows = Ranged 3 (constants (pos 0) (pos 2)) ∷ Ranged 2 (constants (pos 0) (pos rows)) ∷ grid

same_most : (n : ℕ) → int_le (pos n) (pos n) ≡ true
same_most n = grind (arith, nat_tests)

module _ (last : ℕ) where
  abbrev places : List Places
  places = From (number (pos 0)) (suc last) ∷ []

  abbrev rs : List Room
  rs = Straight (pos 0 +ℤ pos 0) (suc last) ∷ []

  has_place : (z : ℤ) → pos 0 ≤ℤ z → z ≤ℤ pos last → IsSome (place rs (z ∷ []))
  has_place z l h = joined_some _ _ (below_has (suc last) (z -ℤ (pos 0 +ℤ pos 0)) (omega (arith, ints)) (omega (arith, ints))) refl

  -- of one coordinate that lies among the places
  one_seated : (t : Symbols) (x : Span1) → ((z : ℤ) → Lies t x z → (pos 0 ≤ℤ z) × (z ≤ℤ pos last)) → (p : List ℤ) → LieIn t (x ∷ []) p → IsSome (place (map (room t) places) p)
  one_seated t x h [] l = absurd l
  one_seated t x h (z ∷ []) l = let k = h z l.0 in has_place z k.0 k.1
  one_seated t x h (z ∷ w ∷ ws) l = absurd l.1

  one_inside : (t : Symbols) (x : Span1) → ((z : ℤ) → Lies t x z → (pos 0 ≤ℤ z) × (z ≤ℤ pos last)) → (p : List ℤ) → LieIn t (x ∷ []) p → LieIn t (region last) p
  one_inside t x h [] l = absurd l
  one_inside t x h (z ∷ []) l = let k = h z l.0 in let top : z ≤ℤ pos last = k.1 in (((k.0, tt), (omega (arith, ints, top), tt)), tt)
  one_inside t x h (z ∷ w ∷ ws) l = absurd l.1

  one_met : (t : Symbols) (x : Span1) (p : List ℤ) → LieIn t (x ∷ []) p → LieIn t (anything ∷ []) p
  one_met t x [] l = absurd l
  one_met t x (z ∷ []) l = ((tt, tt), tt)
  one_met t x (z ∷ w ∷ ws) l = absurd l.1

  -- what is filled, and what a sample finds
  filled : (t : Symbols) → Respects (filling last) t → (z : ℤ) → Lies t (exactly (symbol 1)) z → (pos 0 ≤ℤ z) × (z ≤ℤ pos last)
  filled t r z l =
      let a = r.0.0.0 in
      let b : t.value 1 ≤ℤ (pos last +ℤ pos 0) = r.0.1.0 in
      let c : (pos 0 +ℤ (pos 1 *ℤ t.value 1 +ℤ pos 0)) ≤ℤ z = l.0.0 in
      let d : z ≤ℤ (pos 0 +ℤ (pos 1 *ℤ t.value 1 +ℤ pos 0)) = l.1.0 in
      (omega (arith, ints, a, b, c, d), omega (arith, ints, a, b, c, d))

  found : (t : Symbols) (z : ℤ) → Lies t (constants (pos 0) (pos last)) z → (pos 0 ≤ℤ z) × (z ≤ℤ pos last)
  found t z l = let top : z ≤ℤ (pos last +ℤ pos 0) = l.1.0 in (l.0.0, omega (arith, ints, top))

-- the column and the row of a step lie on the extents
on_extents : (rows : ℕ) (t : Symbols) → Respects (stepping rows) t → (p : List ℤ) → LieIn t (exactly (symbol 3) ∷ exactly (symbol 2) ∷ []) p → LieIn t (constants (pos 0) (pos 2) ∷ constants (pos 0) (pos rows) ∷ []) p
on_extents rows t r [] l = absurd l
on_extents rows t r (x ∷ []) l = absurd l.1
on_extents rows t r (x ∷ y ∷ []) l =
    let a = r.0.0.0 in
    let b = r.0.1.0 in
    let c = r.1.0.0.0 in
    let d : t.value 2 ≤ℤ (pos rows +ℤ pos 0) = r.1.0.1.0 in
    let e : (pos 0 +ℤ (pos 1 *ℤ t.value 3 +ℤ pos 0)) ≤ℤ x = l.0.0.0 in
    let f : x ≤ℤ (pos 0 +ℤ (pos 1 *ℤ t.value 3 +ℤ pos 0)) = l.0.1.0 in
    let g : (pos 0 +ℤ (pos 1 *ℤ t.value 2 +ℤ pos 0)) ≤ℤ y = l.1.0.0.0 in
    let h : y ≤ℤ (pos 0 +ℤ (pos 1 *ℤ t.value 2 +ℤ pos 0)) = l.1.0.1.0 in
    (((omega (arith, ints, a, e), tt), (omega (arith, ints, b, f), tt)), (((omega (arith, ints, c, g), tt), (omega (arith, ints, d, h), tt)), tt))
on_extents rows t r (x ∷ y ∷ z ∷ zs) l = absurd l.1.1

module _ (nests : PlainNestsAreRight) (samples : List ℕ) (last rows : ℕ) (fits : ArePlaces samples last rows) where
  abbrev span : Span1
  span = constants (pos 0) (pos rows)

  abbrev update : Statement
  update = over_rows span

  abbrev given : Given
  given = given_at samples last rows last update

  abbrev rules : Rules
  rules = rules_for last rows

  abbrev cell : Symbols → ℤ → List Action
  cell t z = actions given.outline.setting (Seq (block (store ∷ []))) (bind t 1 z (int_le z (pos 0)))

  -- the pure nest makes its claim
  made_fill : (t : Symbols) → MeantAt given (Made 0 None (places last) (fill last)) t
  made_fill t [] i = absurd i
  made_fill t (z ∷ []) i =
      let k = region_lies t (region last) (z ∷ []) i in
      let top : z ≤ℤ (pos last +ℤ pos 0) = k.0.1.0 in
      let todo : List Action = actions given.outline.setting (fill last) t in (
        fills_make given 0 (codes "h") (z ∷ []) todo None
            (fills_loop given.outline.setting 0 (codes "h") 1 (constants (pos 0) (pos last)) Serial (Seq (block (store ∷ []))) t (λ u. ((λ e. refl), tt)))
            (written_turns 0 (z ∷ []) (cell t) z (turns t (constants (pos 0) (pos last))) (turns_have t (constants (pos 0) (pos last)) (pos 0) (pos last +ℤ pos 0) z refl refl k.0.0.0 top) (inl (ap (λ v. v ∷ []) (sym (itself z))))),
        λ x n e. near_apart (rs last) (z ∷ []) x (straight_near (rs last) (z ∷ []) x tt) (has_place last z k.0.0.0 (omega (arith, ints, top))) e,
      )
  made_fill t (z ∷ w ∷ ws) i = absurd i.1

  abbrev tests : Nests
  tests = plain_nests given.outline rules (domains_of (hist_algorithm last rows))

  right : AreRightNests given tests
  right = nests given rules (domains_of (hist_algorithm last rows)) (suited samples last rows fits) (counted samples last rows fits)

  is_made : tests.is_made grid 1 (Some 0) (places last) update ≡ true
  is_made = rw (same_most rows) refl

  is_in_turn : tests.is_in_turn grid 1 update ≡ true
  is_in_turn = rw (same_most rows) refl

  abbrev places_span : Span1
  places_span = constants (pos 0) (pos last)

  all_meant : AllMeant given (obligations given.outline rules (counts_body last update) 5 (start grid))
  all_meant = (
    (λ t r. refl),
    (
      (λ t r. refl),
      (
        (λ t r. one_seated last t (exactly (symbol 1)) (filled last t r)),
        (
          (λ t r. refl),
          (
            (λ t r. refl),
            (
              (λ t r. made_fill t),
              (
                (λ t r. refl),
                (
                  (λ t r. refl),
                  (
                    (λ t r. one_seated last t places_span (found last t)),
                    (
                      (λ t r. refl),
                      (
                        (λ t r. one_inside last t places_span (found last t)),
                        (
                          (λ t r. on_extents rows t r),
                          (
                            (λ t r. on_extents rows t r),
                            (
                              (λ t r. one_seated last t places_span (found last t)),
                              (
                                (λ t r. refl),
                                (
                                  (λ t r. one_inside last t places_span (found last t)),
                                  (
                                    (λ t r. one_met last t places_span),
                                    (
                                      (λ t r. refl),
                                      (
                                        (λ t r. right.made grid 1 (Some 0) (places last) update t is_made r),
                                        (
                                          (λ t r. refl),
                                          (
                                            (λ t r. right.in_turn grid 1 update t is_in_turn r),
                                            (
                                              (λ t r p l. l),
                                              ((λ t r. refl), ((λ t r p l. l), tt)),
                                            ),
                                          ),
                                        ),
                                      ),
                                    ),
                                  ),
                                ),
                              ),
                            ),
                          ),
                        ),
                      ),
                    ),
                  ),
                ),
              ),
            ),
          ),
        ),
      ),
    ),
  )

here : Respects grid s
here = (((omega (arith, ints), tt), (omega (arith, ints), tt)), tt)

pub hist_counted : MeantIsSound → PlainNestsAreRight → HistIsSound
hist_counted sound nests samples last rows fits =
    sound (given nests samples last rows fits) (rules_for last rows) (counts_body last (over_rows (constants (pos 0) (pos rows)))) 5 grid s (suited samples last rows fits) refl (all_meant nests samples last rows fits) here
