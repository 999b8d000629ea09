-- A histogram: the update finds its places by the samples.
use Rattle.std.proofs.Common.{◌≡◌, ℕ, suc, Bool, true, false, List, [], ◌∷◌, Option, Some, None, refl, sym, ap, subst, inl, arith}
use Rattle.std.specs.Prelude.{ℤ, pos, ◌+ℤ◌, ◌-ℤ◌, ◌≤ℤ◌, IsSome, int_le, codes, slice_index, ◌==◌, if◌then◌else◌}
use Rattle.std.proofs.lemmas.Int.{ints}
use Rattle.lin.specs.declared.span.Span1.{Span1}
use Rattle.numeric.specs.declared.ty.Ty.TheVariants.{U16, I32}
use Rattle.numeric.specs.Wrap.{wrap}
use Rattle.numeric.proofs.Wraps.{wrap_of_value}
use Rattle.tree.specs.Term.{Number}
use Rattle.meaning.specs.Image.Raster.{is_within, sample, place as raster_place}
use Rattle.plan.specs.declared.stmt.Kind.TheVariants.{Serial}
use Rattle.plan.specs.Plan.{Statement, Seq, Store, block}
use Rattle.plan.specs.Symbols.{Symbols, bind, InRegion, points, turns}
use Rattle.plan.specs.Rooms.{Room, Straight, place}
use Rattle.plan.specs.Certificate.Cells.{grid_symbols}
use Rattle.plan.specs.Semantics.Actions.{Action, actions}
use Rattle.plan.specs.Semantics.Worked.{constants, symbol, is, loop}
use Rattle.soundness.specs.Claims.{Scope, IsMade, IsSound}
use Rattle.soundness.specs.Origins.{Given}
use Rattle.soundness.specs.Given.{given_of, outline_of}
use Rattle.soundness.specs.Worked.{hist_algorithm, hist_plan, hist_certificate, hist_group, hist_store, HistIsSound}
use Rattle.soundness.proofs.Folds.{straight_near}
use Rattle.soundness.proofs.Forms.{lies_region, region_lies, point_lies}
use Rattle.soundness.proofs.Rows.{itself}
use Rattle.soundness.proofs.Turns.{each_turn, turns_within, turns_have, joined_some, below_has}
use Rattle.soundness.proofs.Windows.{fills_loop, window_made}
use Rattle.soundness.proofs.Written.{in_filter, written_turns}

sample_from : (samples : List ℕ) (p : List ℤ) → pos 0 ≤ℤ sample (3 ∷ 2 ∷ []) samples p
sample_from samples p = of (is_within (3 ∷ 2 ∷ []) p) (slice_index samples (raster_place (3 ∷ 2 ∷ []) p))
  where
    of : (v : Bool) (n : ℕ) → pos 0 ≤ℤ (if v then pos n else pos 0)
    of true n = omega (arith, ints)
    of false n = omega (arith, ints)

module _ (samples : List ℕ) (last : ℕ) (fits : (p : List ℤ) → (sample (3 ∷ 2 ∷ []) samples p ≤ℤ pos last) × (sample (3 ∷ 2 ∷ []) samples p ≤ℤ pos 255)) where
  abbrev given : Given
  given = given_of (hist_algorithm last 1) samples (outline_of (hist_plan last 1) (hist_certificate last 1) 0 (hist_group last 1))

  abbrev s : Symbols
  s = grid_symbols (0 ∷ [])

  abbrev places : Span1
  places = constants (pos 0) (pos last)

  abbrev region : List Span1
  region = places ∷ []

  abbrev rs : List Room
  rs = Straight (pos 0) (suc last) ∷ []

  abbrev rooms : ℕ → Option (List Room)
  rooms b = if b == 0 then Some rs else None

  abbrev in_piece : Scope
  in_piece = record { symbols = s; rooms = rooms; facts = [] }

  here : (z : ℤ) → pos 0 ≤ℤ z → z ≤ℤ pos last → InRegion s region (z ∷ [])
  here z l h = lies_region s region (z ∷ []) (((l, tt), (omega (arith, ints), tt)), tt)

  at_region : (P : List ℤ → Type 0) → ((z : ℤ) → pos 0 ≤ℤ z → z ≤ℤ pos last → P (z ∷ [])) → (p : List ℤ) → InRegion s region p → P p
  at_region P h [] i = absurd i
  at_region P h (z ∷ []) i =
      let k = region_lies s region (z ∷ []) i in
      let top : z ≤ℤ (pos last +ℤ pos 0) = k.0.1.0 in
      h z k.0.0.0 (omega (arith, ints))
  at_region P h (z ∷ w ∷ ws) i = absurd i.1

  -- where a sample leads is a place
  found_in : (p : List ℤ) → InRegion s region (wrap I32 (sample (3 ∷ 2 ∷ []) samples p) ∷ [])
  found_in p =
      let l = sample_from samples p in
      let f : sample (3 ∷ 2 ∷ []) samples p ≤ℤ pos last = (fits p).0 in
      let u : sample (3 ∷ 2 ∷ []) samples p ≤ℤ pos 255 = (fits p).1 in
      let same : wrap I32 (sample (3 ∷ 2 ∷ []) samples p) ≡ sample (3 ∷ 2 ∷ []) samples p = wrap_of_value I32 (sample (3 ∷ 2 ∷ []) samples p) (record { from = omega (arith, ints); to = omega (arith, ints) }) in
      subst (λ z. InRegion s region (z ∷ [])) (sym same) (here (sample (3 ∷ 2 ∷ []) samples p) l f)

  abbrev store : Statement
  store = Store 0 0 (is (codes "i") (symbol 1) ∷ []) (Number U16 (pos 0))

  abbrev fill : Statement
  fill = loop 1 places (store ∷ [])

  abbrev count : Statement
  count = loop 2 (constants (pos 0) (pos 1)) (loop 3 (constants (pos 0) (pos 2)) (hist_store ∷ []) ∷ [])

  has_place : (z : ℤ) → pos 0 ≤ℤ z → z ≤ℤ pos last → IsSome (place rs (z ∷ []))
  has_place z l h = joined_some _ _ (below_has (suc last) (z -ℤ pos 0) (omega (arith, ints)) (omega (arith, ints))) refl

  sound_fill : IsSound given fill 6 in_piece
  sound_fill =
      each_turn _ _ (turns s places) _ (λ z m c.
      let w = turns_within s places (pos 0) (pos last +ℤ pos 0) z refl refl m in
      ((subst (λ v. IsSome (place rs (v ∷ []))) (sym (itself z)) (has_place z w.0 (omega (arith, ints, w.1))), tt), tt, tt))

  abbrev cell : ℤ → List Action
  cell z = actions given.outline.setting (Seq (block (store ∷ []))) (bind s 1 z (int_le z (pos 0)))

  made_fill : IsMade given 0 (actions given.outline.setting fill s) in_piece
  made_fill =
      window_made given 0 _ in_piece rs refl refl (fills_loop given.outline.setting 0 (codes "h") 1 places Serial (Seq (block (store ∷ []))) s (λ t. ((λ _. refl), tt)))
      (at_region _ (λ z l h. (
        has_place z l h,
        inl (written_turns 0 (z ∷ []) cell z (turns s places) (turns_have s places (pos 0) (pos last +ℤ pos 0) z refl refl l (omega (arith, ints))) (inl (ap (λ v. v ∷ []) (sym (itself z))))),
        λ x n. straight_near rs (z ∷ []) x tt,
      )))

  pub hist_sound : IsSound given (hist_group last 1).body 5 (record { symbols = s; rooms = λ b. None; facts = [] })
  hist_sound = (
    refl,
    tt,
    (
      sound_fill,
      (made_fill, tt),
      (
        (
          (
            (
              ((refl, inl (refl, refl, found_in (pos 0 ∷ pos 0 ∷ []), refl), ((refl, (tt, (tt, tt))), tt), ((inl (refl, found_in (pos 0 ∷ pos 0 ∷ []), refl), ((refl, (tt, (tt, tt))), tt)), tt)), tt, tt),
              (
                ((refl, inl (refl, refl, found_in (pos 1 ∷ pos 0 ∷ []), refl), ((refl, (tt, (tt, tt))), tt), ((inl (refl, found_in (pos 1 ∷ pos 0 ∷ []), refl), ((refl, (tt, (tt, tt))), tt)), tt)), tt, tt),
                (((refl, inl (refl, refl, found_in (pos 2 ∷ pos 0 ∷ []), refl), ((refl, (tt, (tt, tt))), tt), ((inl (refl, found_in (pos 2 ∷ pos 0 ∷ []), refl), ((refl, (tt, (tt, tt))), tt)), tt)), tt, tt), tt),
              ),
            ),
            tt,
            tt,
          ),
          (
            (
              (
                ((refl, inl (refl, refl, found_in (pos 0 ∷ pos 1 ∷ []), refl), ((refl, (tt, (tt, tt))), tt), ((inl (refl, found_in (pos 0 ∷ pos 1 ∷ []), refl), ((refl, (tt, (tt, tt))), tt)), tt)), tt, tt),
                (
                  ((refl, inl (refl, refl, found_in (pos 1 ∷ pos 1 ∷ []), refl), ((refl, (tt, (tt, tt))), tt), ((inl (refl, found_in (pos 1 ∷ pos 1 ∷ []), refl), ((refl, (tt, (tt, tt))), tt)), tt)), tt, tt),
                  (((refl, inl (refl, refl, found_in (pos 2 ∷ pos 1 ∷ []), refl), ((refl, (tt, (tt, tt))), tt), ((inl (refl, found_in (pos 2 ∷ pos 1 ∷ []), refl), ((refl, (tt, (tt, tt))), tt)), tt)), tt, tt), tt),
                ),
              ),
              tt,
              tt,
            ),
            tt,
          ),
        ),
        (
          record {
            has_room = refl;
            only = ((λ _. refl), ((λ _. refl), ((λ _. refl), ((λ _. refl), ((λ _. refl), ((λ _. refl), tt))))));
            clear = λ p m x n e. absurd n;
            covers = at_region _ (λ z l h. (Some 0, inl (refl, refl, here z l h, refl), refl));
          },
          tt,
        ),
        ((λ p m. inl (refl, lies_region s region p (point_lies s region p (in_filter _ p (points s region) m)), refl)), tt, tt),
      ),
    ),
  )

pub hist_is_sound : HistIsSound
hist_is_sound = hist_sound
