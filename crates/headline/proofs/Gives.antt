-- What the actions of a group whose last line publishes have to give.
use Rattle.std.proofs.Common.{◌≡◌, ℕ, Bool, true, false, List, [], ◌∷◌, ◌++◌, map, Option, Some, None, refl, ap, ◌∙◌}
use Rattle.std.specs.Prelude.{ℤ, pos, ◌+ℤ◌, ◌-ℤ◌, ◌||◌, int_le, if◌then◌else◌, flat_map, filter, fold}
use Rattle.std.specs.Int.{int_max, int_min}
use Rattle.std.specs.List.{list_any}
use Rattle.tree.specs.declared.value.Value.{Value}
use Rattle.tree.specs.Term.{Term}
use Rattle.lin.specs.Forms.{Form}
use Rattle.lin.specs.declared.span.Span1.{Span1}
use Rattle.plan.specs.declared.stmt.Pick.TheVariants.{Min, Max}
use Rattle.plan.specs.Plan.{Statement, Seq, For, Let, First, Guard, Alloc, Fetch, Store, Publish, Statements, Empty, Then, Group}
use Rattle.plan.specs.Symbols.{Symbols, bind, form_value, largest, smallest, turns, points, rising, clipped}
use Rattle.plan.specs.Certificate.Certificate.{Certificate}
use Rattle.plan.specs.Certificate.Cells.{no_symbols, is_in_region, own_region, points_within, own_points}
use Rattle.plan.specs.Semantics.Actions.{Setting, Action, Allot, Take, Put, Change, Give, Target, action_for, after, actions, block_actions}
use Rattle.soundness.specs.Origins.{Given, Plain, origin_for}
use Rattle.soundness.specs.Right.{right_outcome}
use Rattle.soundness.specs.Obligations.{form_has, span_has}
use Rattle.soundness.proofs.Forms.{value_same}
use Rattle.soundness.proofs.Refines.{eq_refl}
use Rattle.soundness.proofs.Sound.{or_left, or_right}
use Rattle.headline.specs.Sound.{publishes, block_publishes, PublishesLast, BlockPublishesLast, binds, block_binds, region_has}

-- ---- a symbol more where it stands in nothing

module _ (s : Symbols) (i : ℕ) (z : ℤ) (b : Bool) where
  values_same : (fs : List Form) → list_any (form_has i) fs ≡ false → map (λ m. form_value m (bind s i z b)) fs ≡ map (λ m. form_value m s) fs
  values_same [] h = refl
  values_same (f ∷ fs) h =
      let head = value_same s i z b f (or_left (form_has i f) (list_any (form_has i) fs) h) in
      let rest = values_same fs (or_right (form_has i f) (list_any (form_has i) fs) h) in
      λ j. head j ∷ rest j

  largest_same : (fs : List Form) → list_any (form_has i) fs ≡ false → largest (bind s i z b) fs ≡ largest s fs
  largest_same [] h = refl
  largest_same (f ∷ fs) h =
      let head = value_same s i z b f (or_left (form_has i f) (list_any (form_has i) fs) h) in
      let rest = values_same fs (or_right (form_has i f) (list_any (form_has i) fs) h) in
      λ j. fold int_max (head j) (rest j)

  smallest_same : (fs : List Form) → list_any (form_has i) fs ≡ false → smallest (bind s i z b) fs ≡ smallest s fs
  smallest_same [] h = refl
  smallest_same (f ∷ fs) h =
      let head = value_same s i z b f (or_left (form_has i f) (list_any (form_has i) fs) h) in
      let rest = values_same fs (or_right (form_has i f) (list_any (form_has i) fs) h) in
      λ j. fold int_min (head j) (rest j)

  turns_same : (x : Span1) → span_has i x ≡ false → turns (bind s i z b) x ≡ turns s x
  turns_same x h =
      let low = largest_same x.lower (or_left (list_any (form_has i) x.lower) (list_any (form_has i) x.upper) h) in
      let high = smallest_same x.upper (or_right (list_any (form_has i) x.lower) (list_any (form_has i) x.upper) h) in
      λ j. rising (low j) (clipped ((high j +ℤ pos 1) -ℤ low j))

  points_same : (xs : List Span1) → list_any (span_has i) xs ≡ false → points (bind s i z b) xs ≡ points s xs
  points_same [] h = refl
  points_same (x ∷ xs) h =
      let head = turns_same x (or_left (span_has i x) (list_any (span_has i) xs) h) in
      let rest = points_same xs (or_right (span_has i x) (list_any (span_has i) xs) h) in
      λ j. flat_map (λ p. map (λ y. y ∷ p) (head j)) (rest j)

  within_same : (g : Group) (o : Option (List Span1)) → region_has o i ≡ false → points_within g o (bind s i z b) ≡ points_within g o s
  within_same g None h = refl
  within_same g (Some xs) h = ap (filter (is_in_region no_symbols g.region)) (points_same xs h)

  pub own_same : (g : Group) (c : Certificate) (n : ℕ) → region_has (own_region c.own n) i ≡ false → own_points g c n (bind s i z b) ≡ own_points g c n s
  own_same g c n h = within_same g (own_region c.own n) h

-- ---- what is given

module _ (given : Given) (setting : Setting) where
  abbrev Outcome : List Action → List Value
  Outcome todo = right_outcome given todo

  join : (xs ys : List Action) → Outcome (xs ++ ys) ≡ Outcome xs ++ Outcome ys
  join [] ys = refl
  join (Allot b rooms ∷ xs) ys = join xs ys
  join (Take b f p ∷ xs) ys = join xs ys
  join (Put b f names p e ∷ xs) ys = join xs ys
  join (Change b f k names at over e ∷ xs) ys = join xs ys
  join (Give c p ∷ xs) ys = ap (λ vs. given.value_at (origin_for given Plain c p) ∷ vs) (join xs ys)

  none_of_two : (xs ys : List Action) → Outcome xs ≡ [] → Outcome ys ≡ [] → Outcome (xs ++ ys) ≡ []
  none_of_two xs ys h k = join xs ys ∙ (λ j. h j ++ k j)

  none_of_each : (f : ℤ → List Action) (zs : List ℤ) → ((z : ℤ) → Outcome (f z) ≡ []) → Outcome (flat_map f zs) ≡ []
  none_of_each f [] h = refl
  none_of_each f (z ∷ zs) h = none_of_two (f z) (flat_map f zs) (h z) (none_of_each f zs h)

  none_of_either : (v : Bool) (xs ys : List Action) → Outcome xs ≡ [] → Outcome ys ≡ [] → Outcome (if v then xs else ys) ≡ []
  none_of_either true xs ys h k = h
  none_of_either false xs ys h k = k

  none_of_takes : (b : ℕ) (f : List ℕ) (ps : List (List ℤ)) → Outcome (map (Take b f) ps) ≡ []
  none_of_takes b f [] = refl
  none_of_takes b f (p ∷ ps) = none_of_takes b f ps

  none_of_store : (v : Bool) (b : ℕ) (f : List ℕ) (k : ℕ) (names : List (List ℕ)) (at : List Target) (over : List ℤ) (e : Term) → Outcome (action_for v b f k names at over e ∷ []) ≡ []
  none_of_store true b f k names at over e = refl
  none_of_store false b f k names at over e = refl

  -- a statement that does not publish gives nothing
  mutual
    none : (a : Statement) (s : Symbols) → publishes a ≡ false → Outcome (actions setting a s) ≡ []
    none (Seq all) s h = block_none all s h
    none (For i x kind body) s h =
        none_of_each (λ z. actions setting body (bind s i z (int_le z (largest s x.lower)))) (turns s x) (λ z. none body (bind s i z (int_le z (largest s x.lower))) h)
    none (Let i pick forms) s h = refl
    none (First i a b) s h = none_of_either (s.first i) (actions setting a s) (actions setting b s) (none a s (or_left (publishes a) (publishes b) h)) (none b s (or_right (publishes a) (publishes b) h))
    none (Guard low high body) s h = none_of_either (int_le (form_value low s) (form_value high s)) (actions setting body s) [] (none body s h) refl
    none (Alloc b f places) s h = refl
    none (Fetch b g region) s h = none_of_takes b (setting.group_function g) (points s region)
    none (Store b k at e) s h = none_of_store _ b (setting.buffer_function b) k _ _ _ e
    none (Publish c) s h = absurd (cc h)

    block_none : (all : Statements) (s : Symbols) → block_publishes all ≡ false → Outcome (block_actions setting all s) ≡ []
    block_none Empty s h = refl
    block_none (Then a rest) s h =
        none_of_two (actions setting a s) (block_actions setting rest (after a s)) (none a s (or_left (publishes a) (block_publishes rest) h))
        (block_none rest (after a s) (or_right (publishes a) (block_publishes rest) h))

  -- the values of a claim's function at these points
  abbrev pub values_by : ℕ → List (List ℤ) → List Value
  values_by k ps = map (λ q. given.value_at (origin_for given Plain k q)) ps

  given_by : (k : ℕ) (ps : List (List ℤ)) → Outcome (map (Give k) ps) ≡ values_by k ps
  given_by k [] = refl
  given_by k (p ∷ ps) = ap (λ vs. given.value_at (origin_for given Plain k p) ∷ vs) (given_by k ps)

  -- the own points stay as they are when one of the symbols that the statement binds gets a value
  abbrev pub Keeps : (ℕ → Bool) → Type 0
  Keeps has = (i : ℕ) → has i ≡ true → (s : Symbols) (z : ℤ) (b : Bool) → setting.own (bind s i z b) ≡ setting.own s

  or_first : (v w : Bool) → v ≡ true → (v || w) ≡ true
  or_first true w h = refl
  or_first false w h = absurd (cc h)

  or_second : (v w : Bool) → w ≡ true → (v || w) ≡ true
  or_second true w h = refl
  or_second false w h = h

  own_after : (a : Statement) (s : Symbols) → Keeps (binds a) → setting.own (after a s) ≡ setting.own s
  own_after (Let i Min forms) s keeps = keeps i (eq_refl i) s (smallest s forms) true
  own_after (Let i Max forms) s keeps = keeps i (eq_refl i) s (largest s forms) true
  own_after (Seq all) s keeps = refl
  own_after (For i x kind body) s keeps = refl
  own_after (First i a b) s keeps = refl
  own_after (Guard low high body) s keeps = refl
  own_after (Alloc b f places) s keeps = refl
  own_after (Fetch b g region) s keeps = refl
  own_after (Store b k at e) s keeps = refl
  own_after (Publish c) s keeps = refl

  -- a claim with the property, by which the own points' values are given
  pub record GivesOwn (P : ℕ → Type 0) (s : Symbols) (todo : List Action) : Type 0 where
    pub by : ℕ
    pub has : P by
    pub is : Outcome todo ≡ values_by by (setting.own s)

  module _ (P : ℕ → Type 0) where
    mutual
      pub gives : (a : Statement) (s : Symbols) → PublishesLast P a → Keeps (binds a) → GivesOwn P s (actions setting a s)
      gives (Seq all) s h keeps = block_gives all s h keeps
      gives (For i x kind body) s h keeps = absurd h
      gives (Let i pick forms) s h keeps = absurd h
      gives (First i a b) s h keeps = absurd h
      gives (Guard low high body) s h keeps = absurd h
      gives (Alloc b f places) s h keeps = absurd h
      gives (Fetch b g region) s h keeps = absurd h
      gives (Store b k at e) s h keeps = absurd h
      gives (Publish c) s h keeps = record { by = c; has = h; is = given_by c (setting.own s) }

      block_gives : (all : Statements) (s : Symbols) → BlockPublishesLast P all → Keeps (block_binds all) → GivesOwn P s (block_actions setting all s)
      block_gives Empty s h keeps = absurd h
      block_gives (Then a Empty) s h keeps =
          let r = gives a s h (λ i e. keeps i (or_first (binds a i) false e)) in
          record { by = r.by; has = r.has; is = join (actions setting a s) [] ∙ last (Outcome (actions setting a s)) ∙ r.is }
        where
          last : (vs : List Value) → vs ++ [] ≡ vs
          last [] = refl
          last (v ∷ vs) = ap (λ us. v ∷ us) (last vs)
      block_gives (Then a (Then b rest)) s h keeps =
          let r = block_gives (Then b rest) (after a s) h.1 (λ i e. keeps i (or_second (binds a i) (block_binds (Then b rest) i) e)) in
          record {
            by = r.by;
            has = r.has;
            is = join (actions setting a s) (block_actions setting (Then b rest) (after a s)) ∙ ap (λ vs. vs ++ Outcome (block_actions setting (Then b rest) (after a s))) (none a s h.0)
                ∙ r.is ∙ ap (values_by r.by) (own_after a s (λ i e. keeps i (or_first (binds a i) (block_binds (Then b rest) i) e)));
          }
