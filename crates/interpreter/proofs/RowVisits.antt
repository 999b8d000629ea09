-- The points of a row, one after another.
use Rattle.std.proofs.Common.{◌≡◌, ℕ, zero, suc, ◌+◌, ◌≤◌, ◌<◌, List, [], ◌∷◌, ◌++◌, length, drop, Option, Some, None, Bool, true, false, refl, sym, ap, ◌∙◌, arith, ℤ, pos}
use Rattle.std.specs.Prelude.{◌+ℤ◌, ◌≤ℤ◌, ◌==◌, ◌&&◌, flat_map, int_le, slice_get, slice_index_or, if◌then◌else◌}
use Rattle.std.specs.Bool.{OnTrue}
use Rattle.std.specs.List.{list_all}
use Rattle.std.proofs.lemmas.Bool.{eqb-true}
use Rattle.std.proofs.lemmas.Bool.Decides.{nat_tests}
use Rattle.std.proofs.lemmas.Int.{ints}
use Rattle.std.proofs.lemmas.Option.{none-some}
use Rattle.tree.specs.declared.value.Value.{Value}
use Rattle.lin.specs.Forms.{Form}
use Rattle.lin.specs.declared.span.Span1.{Span1}
use Rattle.plan.specs.Symbols.{Symbols, form_value}
use Rattle.plan.specs.Certificate.Cells.{is_in_region, is_in_span}
use Rattle.plan.specs.Semantics.Actions.{Action, Give, Take}
use Rattle.plan.specs.Semantics.Found.{with}
use Rattle.plan.specs.Semantics.Memory.{Memory, read, write}
use Rattle.interpreter.specs.Bindings.{symbols_of}
use Rattle.interpreter.specs.Buffers.Spots.{set_all}
use Rattle.interpreter.specs.Pieces.{around}
use Rattle.interpreter.specs.RowVisits.{given_from, row_actions, row_takes}
use Rattle.interpreter.specs.Steps.{Progress, steps}
use Rattle.interpreter.specs.Visits.{at_point, between, extended}
use Rattle.interpreter.specs.declared.piece.Piece.{Piece}
use Rattle.interpreter.specs.declared.visits.Visit.{Visit}
use Rattle.interpreter.specs.declared.visits.Visit.TheVariants.{Publish}
use Rattle.interpreter.proofs.Ending.{goes_on}
use Rattle.interpreter.proofs.Running.{turns_end, turns_next}

-- what follows where a test passes
pub on_true : (b : Bool) (P : Type 0) → (b ≡ true → P) → OnTrue b P
on_true true P h = h refl
on_true false P h = tt

-- ---- rows that lie in a region

and_parts : (a b : Bool) → (a && b) ≡ true → (a ≡ true) × (b ≡ true)
and_parts true b h = (refl, h)
and_parts false b h = absurd (cc)

is_le : (x y : ℤ) → x ≤ℤ y → int_le x y ≡ true
is_le x y h = grind (arith, nat_tests, ints)

le_is : (x y : ℤ) → int_le x y ≡ true → x ≤ℤ y
le_is x y e = grind (arith, nat_tests, ints)

-- what is at least each of some numbers stays so as it rises
above_all : (f : Form → ℤ) (ls : List Form) (a z : ℤ) → a ≤ℤ z → list_all (λ l. int_le (f l) a) ls ≡ true → list_all (λ l. int_le (f l) z) ls ≡ true
above_all f [] a z le h = refl
above_all f (l ∷ ls) a z le h =
    let parts = and_parts (int_le (f l) a) (list_all (λ x. int_le (f x) a) ls) h in
    let low = le_is (f l) a parts.0 in
    λ i. is_le (f l) z (omega (arith, ints, le, low)) i && above_all f ls a z le parts.1 i

below_all : (f : Form → ℤ) (us : List Form) (b z : ℤ) → z ≤ℤ b → list_all (λ u. int_le b (f u)) us ≡ true → list_all (λ u. int_le z (f u)) us ≡ true
below_all f [] b z le h = refl
below_all f (u ∷ us) b z le h =
    let parts = and_parts (int_le b (f u)) (list_all (λ x. int_le b (f x)) us) h in
    let high = le_is b (f u) parts.0 in
    λ i. is_le z (f u) (omega (arith, ints, le, high)) i && below_all f us b z le parts.1 i

-- a span has the numbers between two, one of which is not below it and the other not above it
pub span_by_ends : (s : Symbols) (x : Span1) (a b z : ℤ) (ls us : List Form) → list_all (λ l. int_le (form_value l s) a) ls ≡ true →
    list_all (λ u. int_le b (form_value u s)) us ≡ true → a ≤ℤ z → z ≤ℤ b → ls ≡ x.lower → us ≡ x.upper → is_in_span s x z ≡ true
span_by_ends s x a b z ls us h g from to lower upper =
    let low = above_all (λ l. form_value l s) ls a z from h in
    let high = below_all (λ u. form_value u s) us b z to g in
    λ i. (ap (list_all (λ l. int_le (form_value l s) z)) (sym lower) ∙ low) i && (ap (list_all (λ u. int_le z (form_value u s))) (sym upper) ∙ high) i

pub row_inside : (s : Symbols) (xs : List Span1) (x : Span1) (later : List Span1) (z : ℤ) (others : List ℤ) → xs ≡ x ∷ later → is_in_span s x z ≡ true → is_in_region s later others ≡ true →
    is_in_region s xs (z ∷ others) ≡ true
row_inside s xs x later z others is here rest = ap (λ (r : List Span1). is_in_region s r (z ∷ others)) is ∙ (λ i. here i && rest i)

-- ---- what a row gives

held_there : (places : List (Option Value)) (k : ℕ) (v : Value) → slice_index_or places k None ≡ Some v → slice_get places k ≡ Some (Some v)
held_there [] k v h = absurd (none-some v h)
held_there (x ∷ xs) zero v h = ap (λ (o : Option Value). Some o) h
held_there (x ∷ xs) (suc k) v h = held_there xs k v h

module _ (x : Piece) (cell : List ℕ → List ℤ → Value) (c : ℕ) (low high : ℤ) (others : List ℤ) (m : Memory Value) (places : List (Option Value)) (given : List ℤ) where
  abbrev gives_at : ℤ → List Action
  gives_at z = flat_map (at_point x (Publish c)) ((z ∷ others) ∷ [])

  abbrev now : List ℤ → Progress
  now zs = record { memory = m; given = zs }

  abbrev whole : Option Progress
  whole = steps (around x cell) (row_actions x (Publish c) others low high) (now given)

  abbrev IsInside : Type 0
  IsInside = (z : ℤ) → low ≤ℤ z → z ≤ℤ high → is_in_region (symbols_of x.constants.now) x.group.now.region (z ∷ others) ≡ true

  abbrev AreHeld : Type 0
  AreHeld = (k : ℕ) (v : Value) → slice_get places k ≡ Some (Some v) → read m ((around x cell).claim_buffer c) ((low +ℤ pos k) ∷ others) ≡ Some v

  given_once : (z : ℤ) (v : Value) (ys : List ℤ) → is_in_region (symbols_of x.constants.now) x.group.now.region (z ∷ others) ≡ true → read m ((around x cell).claim_buffer c) (z ∷ others) ≡ Some v →
      steps (around x cell) (gives_at z) (now ys) ≡ Some (now (ys ++ v.number ∷ []))
  given_once z v ys inside held =
      let one : gives_at z ≡ Give c (z ∷ others) ∷ [] = ap (λ (b : Bool). (if b then Give c (z ∷ others) ∷ [] else []) ++ []) inside in
      ap (λ (l : List Action). steps (around x cell) l (now ys)) one
      ∙ ap (λ (o : Option Value). with (with o (λ w. Some (now (ys ++ w.number ∷ [])))) (steps (around x cell) [])) held

  -- the numbers of the first places are those that are given first
  pub given_row : IsInside → AreHeld → (low +ℤ pos (length places)) ≤ℤ (high +ℤ pos 1) → (k : ℕ) (zs : List ℤ) → k ≤ length places → given_from places given k ≡ Some zs →
      whole ≡ steps (around x cell) (row_actions x (Publish c) others (low +ℤ pos k) high) (now zs)
  given_row inside held few zero zs le h =
      let same : given ≡ zs = cc in
      let here : low ≡ low +ℤ pos 0 = omega (arith, ints) in
      λ i. steps (around x cell) (row_actions x (Publish c) others (here i) high) (now (same i))
  given_row inside held few (suc k) zs le h = by (given_from places given k) (λ ys e. given_row inside held few k ys (omega (arith, le)) e) refl h
    where
      by : (o : Option (List ℤ)) → ((ys : List ℤ) → given_from places given k ≡ Some ys → whole ≡ steps (around x cell) (row_actions x (Publish c) others (low +ℤ pos k) high) (now ys)) →
          given_from places given k ≡ o → with o (λ ys. with (slice_index_or places k None) (λ v. Some (ys ++ v.number ∷ []))) ≡ Some zs →
          whole ≡ steps (around x cell) (row_actions x (Publish c) others (low +ℤ pos (suc k)) high) (now zs)
      by None earlier e g = absurd (none-some zs g)
      by (Some ys) earlier e g = last (slice_index_or places k None) refl g
        where
          last : (p : Option Value) → slice_index_or places k None ≡ p → with p (λ v. Some (ys ++ v.number ∷ [])) ≡ Some zs →
              whole ≡ steps (around x cell) (row_actions x (Publish c) others (low +ℤ pos (suc k)) high) (now zs)
          last None f i = absurd (none-some zs i)
          last (Some v) f i =
              let z = low +ℤ pos k in
              let same : ys ++ v.number ∷ [] ≡ zs = cc in
              let next : z +ℤ pos 1 ≡ low +ℤ pos (suc k) = omega (arith, ints) in
              let from : low ≤ℤ z = omega (arith, ints) in
              let to : z ≤ℤ high = omega (arith, ints, few, le) in
              let go : Progress → Option Progress = steps (around x cell) (flat_map gives_at (between (z +ℤ pos 1) high)) in
              goes_on (steps (around x cell) (gives_at z) (now ys)) (now (ys ++ v.number ∷ [])) go whole
              (turns_next (around x cell) gives_at z high (now ys) whole to (earlier ys e)) (given_once z v ys (inside z from to) (held k v (held_there places k v f)))
              ∙ (λ j. steps (around x cell) (row_actions x (Publish c) others (next j) high) (now (same j)))

-- ---- what a row sets

module _ (x : Piece) (cell : List ℕ → List ℤ → Value) (b : ℕ) (f : List ℕ) (others : List ℤ) where
  abbrev sets_at : ℤ → List Action
  sets_at z = Take b f (z ∷ others) ∷ []

  -- the first cell is set, and then the others
  pub taken_next : (z high : ℤ) (p : List ℤ) (v : Value) (new : Progress) (now : Progress) (whole : Option Progress) → z ≤ℤ high → whole ≡ steps (around x cell) (row_takes b f others z high) now →
      p ≡ z ∷ others → v ≡ cell f p → write now.memory b (z ∷ others) v ≡ Some new.memory → new.given ≡ now.given → whole ≡ steps (around x cell) (row_takes b f others (z +ℤ pos 1) high) new
  taken_next z high p v new now whole le comes at is set given =
      let here : v ≡ cell f (z ∷ others) = is ∙ ap (cell f) at in
      let go : Progress → Option Progress = steps (around x cell) (flat_map sets_at (between (z +ℤ pos 1) high)) in
      let done : steps (around x cell) (sets_at z) now ≡ Some new =
      ap (λ (o : Option (Memory Value)). with (with o (λ m. Some (record { memory = m; given = now.given }))) (steps (around x cell) []))
      ((λ i. write now.memory b (z ∷ others) (sym here i)) ∙ set)
      ∙ ap (λ (g : List ℤ). Some (record { memory = new.memory; given = g })) (sym given) in
      goes_on (steps (around x cell) (sets_at z) now) new go whole (turns_next (around x cell) sets_at z high now whole le comes) done

  -- the cells that have some values are set one after another
  module _ (low high : ℤ) (m : Memory Value) (given : List ℤ) (values : ℕ → Value) (count : ℕ) where
    abbrev row_point : ℕ → List ℤ
    row_point k = (low +ℤ pos k) ∷ others

    abbrev AfterTaking : ℕ → Memory Value → Type 0
    AfterTaking k new = steps (around x cell) (row_takes b f others low high) (record { memory = m; given = given }) ≡ steps (around x cell) (row_takes b f others (low +ℤ pos k) high) (record { memory = new; given = given })

    pub taken_row : (low +ℤ pos count) ≤ℤ (high +ℤ pos 1) → ((k : ℕ) → k < count → values k ≡ cell f (row_point k)) → (k : ℕ) (new : Memory Value) → k ≤ count → set_all m b row_point values k ≡ Some new → AfterTaking k new
    taken_row few told zero new le is =
        let same : m ≡ new = cc in
        let here : low ≡ low +ℤ pos 0 = omega (arith, ints) in
        λ i. steps (around x cell) (row_takes b f others (here i) high) (record { memory = same i; given = given })
    taken_row few told (suc k) new le is = by (set_all m b row_point values k) (λ y e. taken_row few told k y (omega (arith, le)) e) refl is
      where
        by : (o : Option (Memory Value)) → ((y : Memory Value) → set_all m b row_point values k ≡ Some y → AfterTaking k y) → set_all m b row_point values k ≡ o →
            with o (λ y. write y b (row_point k) (values k)) ≡ Some new → AfterTaking (suc k) new
        by None earlier e g = absurd (none-some new g)
        by (Some y) earlier e g =
            let z = low +ℤ pos k in
            let lt : k < count = omega (arith, le) in
            let to : z ≤ℤ high = omega (arith, ints, few, lt) in
            let next : z +ℤ pos 1 ≡ low +ℤ pos (suc k) = omega (arith, ints) in
            let last : Progress = record { memory = new; given = given } in
            taken_next z high (row_point k) (values k) last (record { memory = y; given = given }) (steps (around x cell) (row_takes b f others low high) (record { memory = m; given = given }))
            to (earlier y e) refl (told k lt) g refl
            ∙ ap (λ (w : ℤ). steps (around x cell) (row_takes b f others w high) last) next

  -- and nothing behind the last
  pub taken_all : (z high : ℤ) (now : Progress) (whole : Option Progress) → z ≡ high +ℤ pos 1 → whole ≡ steps (around x cell) (row_takes b f others z high) now → whole ≡ Some now
  taken_all z high now whole is comes = turns_end (around x cell) sets_at z high now whole (omega (arith, ints, is)) comes

-- ---- where the region has no coordinate more

pub none_left : {A : Type 0} (xs : List A) → true ≡ (length xs == 0) → xs ≡ []
none_left [] e = refl
none_left (x ∷ xs) e = absurd (let h = eqb-true (length (x ∷ xs)) 0 (sym e) in omega (arith, h))

pub row_alone : (x : Piece) (v w : Visit) (s : Symbols) (xs : List Span1) (items : List ℤ) (low high : ℤ) → xs ≡ [] → v ≡ w →
    flat_map (λ z. flat_map (at_point x v) (extended s xs (z ∷ drop (length xs + 1) items))) (between low high) ≡ row_actions x w (drop 1 items) low high
row_alone x v w s xs items low high is same =
    ap (λ (r : List Span1). flat_map (λ z. flat_map (at_point x v) (extended s r (z ∷ drop (length r + 1) items))) (between low high)) is
    ∙ ap (λ (u : Visit). row_actions x u (drop 1 items) low high) same
