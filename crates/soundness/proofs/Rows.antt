-- Two loops around the store of a pure definition: what they write, and when they are sound.
use Rattle.std.proofs.Common.{◌≡◌, ℕ, ◌+◌, ◌-◌, Bool, true, false, List, [], ◌∷◌, ◌++◌, Option, refl, sym, ap, subst, inl, inr, arith}
use Rattle.std.specs.Prelude.{ℤ, pos, ◌+ℤ◌, ◌*ℤ◌, ◌≤ℤ◌, IsSome, IsTrue, ◌==◌, if◌then◌else◌, ◌⊎◌, int_le, flat_map}
use Rattle.std.proofs.lemmas.Int.{ints}
use Rattle.lin.specs.declared.span.Span1.{Span1}
use Rattle.tree.specs.Term.{Term}
use Rattle.meaning.specs.Names.{bound}
use Rattle.meaning.proofs.Alone.{each_call}
use Rattle.plan.specs.declared.stmt.Kind.{Kind}
use Rattle.plan.specs.Plan.{Coordinate, Statement, Seq, For, Store, Empty, Then}
use Rattle.plan.specs.Symbols.{Symbols, bind, turns, largest, smallest}
use Rattle.plan.specs.Rooms.{Room}
use Rattle.plan.specs.Semantics.Actions.{Action, Put, stored, actions}
use Rattle.plan.specs.Semantics.Memory.{place_in}
use Rattle.plan.specs.Semantics.Found.{AtCall, EachRead}
use Rattle.plan.specs.Semantics.Run.{Source, Input, ByClaim, Unknown}
use Rattle.soundness.specs.Origins.{Given, Plain, answer}
use Rattle.soundness.specs.Claims.{In, written, Fact, Scope, MayUse, SourceMayUse, AreMade, IsSoundAction, IsSound}
use Rattle.soundness.proofs.Refines.{eq_refl}
use Rattle.soundness.proofs.Turns.{in_append, each_turn, turns_within, turns_have}
use Rattle.soundness.proofs.Written.{in_append_left, written_append, written_turns, turn_written}
use Rattle.soundness.proofs.Windows.{Fills, fills_append, fills_turns}

-- what the form of one symbol comes to
pub itself : (z : ℤ) → pos 0 +ℤ (pos 1 *ℤ z +ℤ pos 0) ≡ z
itself z = omega (arith, ints)

-- a read of the input within its extents
abbrev pub IsInputSource : Given → Source → List ℤ → Type 0
IsInputSource given Input p = IsTrue (given.in_input p)
IsInputSource given (ByClaim c) p = ⊥
IsInputSource given Unknown p = ⊥

abbrev pub IsInputRead : Given → List ℕ → List ℤ → Type 0
IsInputRead given name p = IsInputSource given (given.outline.source name) p

in_head : (v : Bool) (p x : List ℤ) (xs : List (List ℤ)) → v ≡ true → p ≡ x → In p (if v then x ∷ xs else xs)
in_head true p x xs e h = inl h
in_head false p x xs e h = absurd (cc e)

in_one : (v : Bool) (p x : List ℤ) → In p (if v then x ∷ [] else []) → p ≡ x
in_one true p x (inl h) = h
in_one true p x (inr h) = absurd h
in_one false p x h = absurd h

module _ (given : Given) (b i j : ℕ) (f : List ℕ) (names : List (List ℕ)) (sy sx : Span1) (k1 k2 : Kind) (at : List Coordinate) (e : Term) where
  abbrev pub row_of : Statement
  row_of = For j sx k2 (Seq (Then (Store b 0 at e) Empty))

  abbrev pub rows_of : Statement
  rows_of = For i sy k1 (Seq (Then row_of Empty))

  module _ (s : Symbols) (yl yh xl xh : ℤ) where
    pub record IsNest : Type 0 where
      pub cell : (z w : ℤ) (c d : Bool) → stored given.outline.setting b 0 at e (bind (bind s i z c) j w d) ≡ Put b f names (w ∷ z ∷ []) e
      pub y_low : largest s sy.lower ≡ yl
      pub y_high : smallest s sy.upper ≡ yh
      pub x_low : (z : ℤ) (c : Bool) → largest (bind s i z c) sx.lower ≡ xl
      pub x_high : (z : ℤ) (c : Bool) → smallest (bind s i z c) sx.upper ≡ xh
      pub reads : (x y : ℤ) → xl ≤ℤ x → x ≤ℤ xh → yl ≤ℤ y → y ≤ℤ yh → EachRead (bound names (x ∷ y ∷ [])) (answer given Plain) (IsInputRead given) e

    module _ (is : IsNest) where
      abbrev started : ℤ → Bool
      started z = int_le z (largest s sy.lower)

      abbrev inner : ℤ → Symbols
      inner z = bind s i z (started z)

      abbrev cell : ℤ → ℤ → List Action
      cell z w = stored given.outline.setting b 0 at e (bind (inner z) j w (int_le w (largest (inner z) sx.lower))) ∷ []

      abbrev cells : ℤ → List Action
      cells z = flat_map (cell z) (turns (inner z) sx)

      abbrev row : ℤ → List Action
      row z = cells z ++ []

      cell_is : (z w : ℤ) → cell z w ≡ Put b f names (w ∷ z ∷ []) e ∷ []
      cell_is z w = ap (λ a. a ∷ []) (is.cell z w (started z) (int_le w (largest (inner z) sx.lower)))

      pub rows_fill : (c : ℕ) (g : List ℕ) → ((b == c) ≡ true → f ≡ g) → Fills c g (actions given.outline.setting rows_of s)
      rows_fill c g h =
          fills_turns c g row (λ z. fills_append c g (cells z) [] (fills_turns c g (cell z) (λ w. subst (Fills c g) (sym (cell_is z w)) (h, tt)) (turns (inner z) sx)) tt) (turns s sy)

      -- each point of the spans is written
      pub rows_have : (x y : ℤ) → xl ≤ℤ x → x ≤ℤ xh → yl ≤ℤ y → y ≤ℤ yh → In (x ∷ y ∷ []) (written b (actions given.outline.setting rows_of s))
      rows_have x y h1 h2 h3 h4 =
          let p = x ∷ y ∷ [] in
          let one : In p (written b (cell y x)) = subst (λ todo. In p (written b todo)) (sym (cell_is y x)) (in_head (b == b) p p [] (eq_refl b) refl) in
          let all : In p (written b (cells y)) = written_turns b p (cell y) x (turns (inner y) sx) (turns_have (inner y) sx xl xh x (is.x_low y (started y)) (is.x_high y (started y)) h1 h2) one in
          written_turns b p row y (turns s sy) (turns_have s sy yl yh y is.y_low is.y_high h3 h4)
          (subst (In p) (sym (written_append b (cells y) [])) (in_append_left p (written b (cells y)) [] all))

      -- and no other
      pub rows_only : (p : List ℤ) → In p (written b (actions given.outline.setting rows_of s)) → (x : ℤ) × (y : ℤ) × (p ≡ x ∷ y ∷ []) × (xl ≤ℤ x) × (x ≤ℤ xh) × (yl ≤ℤ y) × (y ≤ℤ yh)
      rows_only p m =
          let u = turn_written b p row (turns s sy) m in
          let v = turn_written b p (cell u.0) (turns (inner u.0) sx) (back u.0 (in_append p (written b (cells u.0)) [] (subst (In p) (written_append b (cells u.0) []) u.2))) in
          let a = turns_within s sy yl yh u.0 is.y_low is.y_high u.1 in
          let c = turns_within (inner u.0) sx xl xh v.0 (is.x_low u.0 (started u.0)) (is.x_high u.0 (started u.0)) v.1 in
          let n : In p (written b (Put b f names (v.0 ∷ u.0 ∷ []) e ∷ [])) = subst (λ todo. In p (written b todo)) (cell_is u.0 v.0) v.2 in
          (v.0, u.0, in_one (b == b) p (v.0 ∷ u.0 ∷ []) n, c.0, c.1, a.0, a.1)
        where
          back : (z : ℤ) → In p (written b (cells z)) ⊎ In p [] → In p (written b (cells z))
          back z (inl h) = h
          back z (inr h) = absurd h

      none_made : (cs : List ℕ) (todo : List Action) (sc : Scope) → cs ≡ [] → AreMade given cs todo sc
      none_made cs todo sc h = subst (λ ds. AreMade given ds todo sc) (sym h) tt

      use_input : (facts : List Fact) (name : List ℕ) (p : List ℤ) → IsInputRead given name p → MayUse given facts Plain name p
      use_input facts name p h = of (given.outline.source name) h
        where
          of : (from : Source) → IsInputSource given from p → SourceMayUse given facts Plain from p
          of Input k = k
          of (ByClaim c) k = absurd k
          of Unknown k = absurd k

      sound_cell : (z w : ℤ) (c d : Bool) (sc : Scope) → IsSome (place_in (sc.rooms b) (w ∷ z ∷ [])) → xl ≤ℤ w → w ≤ℤ xh → yl ≤ℤ z → z ≤ℤ yh → IsSoundAction given (stored given.outline.setting b 0 at e (bind (bind s i z c) j w d)) sc
      sound_cell z w c d sc some h1 h2 h3 h4 =
          let vs = bound names (w ∷ z ∷ []) in
          let ans = answer given Plain in
          subst (λ a. IsSoundAction given a sc) (sym (is.cell z w c d))
          (some, each_call (AtCall vs ans (IsInputRead given)) (AtCall vs ans (MayUse given sc.facts Plain)) (λ name xs h. use_input sc.facts name _ h) e (is.reads w z h1 h2 h3 h4))

      -- where no claim is named inside them
      pub rows_sound : (line : ℕ) (rooms : ℕ → Option (List Room)) (facts : List Fact) → given.outline.named (line + 1 + 3 - 1) ≡ [] → given.outline.named (line + 1 + 1 + 1 - 1) ≡ [] →
          ((x y : ℤ) → xl ≤ℤ x → x ≤ℤ xh → yl ≤ℤ y → y ≤ℤ yh → IsSome (place_in (rooms b) (x ∷ y ∷ []))) →
          IsSound given rows_of line (record { symbols = s; rooms = rooms; facts = facts })
      rows_sound line rooms facts row_named cell_named within =
          each_turn _ _ (turns s sy) _ (λ z m c1.
          let u = turns_within s sy yl yh z is.y_low is.y_high m in (
            each_turn _ _ (turns (inner z) sx) _ (λ w n c2.
                let v = turns_within (inner z) sx xl xh w (is.x_low z (started z)) (is.x_high z (started z)) n in
                (sound_cell z w (started z) (int_le w (largest (inner z) sx.lower)) _ (within w z v.0 v.1 u.0 u.1) v.0 v.1 u.0 u.1, none_made _ _ _ cell_named, tt)),
            none_made _ _ _ row_named,
            tt,
          ))
