-- The turns of a nest: what it does to its buffer, visit by visit.
use Rattle.std.proofs.Common.{◌≡◌, ℕ, Bool, true, false, List, [], ◌∷◌, ◌++◌, map, Option, Some, None, refl, sym, ap, ◌∙◌, subst, inl, inr}
use Rattle.std.specs.Prelude.{ℤ, pos, ◌+ℤ◌, ◌-ℤ◌, ◌==◌, if◌then◌else◌, flat_map, int_le}
use Rattle.std.specs.List.{list_any}
use Rattle.lin.specs.declared.span.Span1.{Span1}
use Rattle.plan.specs.declared.stmt.Pick.TheVariants.{Min, Max}
use Rattle.plan.specs.declared.stmt.Kind.{Kind}
use Rattle.plan.specs.Plan.{Statement, Seq, For, Let, First, Guard, Alloc, Fetch, Store, Publish, Statements, Empty, Then}
use Rattle.plan.specs.Symbols.{Symbols, bind, rising, clipped, largest, smallest, turns}
use Rattle.plan.specs.Semantics.Actions.{Setting, Action, actions, block_actions, after}
use Rattle.soundness.specs.Claims.{In, changes, block_changes, written}
use Rattle.soundness.specs.Obligations.{form_has, span_has}
use Rattle.soundness.proofs.Forms.{picked_same}
use Rattle.soundness.proofs.Refines.{eq_refl, eq_true}
use Rattle.soundness.proofs.Sound.{or_left, or_right, leaves, leaves_block}
use Rattle.soundness.proofs.Windows.{Fills, fills_turns}
use Rattle.soundness.proofs.Written.{append_nil, written_turns}
use Rattle.soundness.specs.Nests.Nest.{Loop, Nest, alone, inside, is_let, nest_of, block_nest}
use Rattle.soundness.proofs.Touched.{touched, touched_append, touched_turns, touched_none}

-- a loop whose ends are known
pub record Spin : Type 0 where
  pub symbol : ℕ
  pub low : ℤ
  pub count : ℕ

abbrev pub spin_of : Symbols → Loop → Spin
spin_of s l = record { symbol = l.symbol; low = largest s l.span.lower; count = clipped ((smallest s l.span.upper +ℤ pos 1) -ℤ largest s l.span.lower) }

-- what is done at each visit, the innermost loop fastest
abbrev pub visits : (Symbols → List Action) → List Spin → Symbols → List Action
visits act [] s = act s
visits act (k ∷ ks) s = flat_map (λ z. visits act ks (bind s k.symbol z (int_le z k.low))) (rising k.low k.count)

-- no span has a symbol of the loops
abbrev pub AreFree : List Loop → Type 0
AreFree ls = (l m : Loop) → In l ls → In m ls → span_has l.symbol m.span ≡ false

pub spin_same : (s : Symbols) (i : ℕ) (z : ℤ) (b : Bool) (l : Loop) → span_has i l.span ≡ false → spin_of (bind s i z b) l ≡ spin_of s l
spin_same s i z b l h =
    let low : largest (bind s i z b) l.span.lower ≡ largest s l.span.lower = picked_same s i z b Max l.span.lower (or_left (list_any (form_has i) l.span.lower) (list_any (form_has i) l.span.upper) h) in
    let high : smallest (bind s i z b) l.span.upper ≡ smallest s l.span.upper = picked_same s i z b Min l.span.upper (or_right (list_any (form_has i) l.span.lower) (list_any (form_has i) l.span.upper) h) in
    λ j. record { symbol = l.symbol; low = low j; count = clipped ((high j +ℤ pos 1) -ℤ low j) }

spins_same : (s : Symbols) (i : ℕ) (z : ℤ) (b : Bool) (ls : List Loop) → ((m : Loop) → In m ls → span_has i m.span ≡ false) → map (spin_of (bind s i z b)) ls ≡ map (spin_of s) ls
spins_same s i z b [] h = refl
spins_same s i z b (l ∷ ls) h = λ j. spin_same s i z b l (h l (inl refl)) j ∷ spins_same s i z b ls (λ m n. h m (inr n)) j

after_same : (a : Statement) (s : Symbols) → is_let a ≡ false → after a s ≡ s
after_same (Seq all) s h = refl
after_same (For i x kind body) s h = refl
after_same (Let i pick ls) s h = absurd (cc h)
after_same (First i a c) s h = refl
after_same (Guard low high body) s h = refl
after_same (Alloc c f places) s h = refl
after_same (Fetch c g region) s h = refl
after_same (Store c k at e) s h = refl
after_same (Publish c) s h = refl

module _ (setting : Setting) (b : ℕ) where
  abbrev pub visit : Statement → Symbols → List Action
  visit line s = touched b (actions setting line s)

  abbrev pub IsOfBuffer : Statement → Type 0
  IsOfBuffer (Fetch c g region) = (c == b) ≡ true
  IsOfBuffer (Store c k at e) = (c == b) ≡ true
  IsOfBuffer _ = ⊥

  -- what touches the buffer is done visit by visit
  abbrev pub AreVisits : Option Nest → (Symbols → List Action) → Type 0
  AreVisits None todo = Unit {0}
  AreVisits (Some n) todo = IsOfBuffer n.line × ((s : Symbols) → AreFree n.loops → touched b (todo s) ≡ visits (visit n.line) (map (spin_of s) n.loops) s)

  visits_loop : (i : ℕ) (x : Span1) (kind : Kind) (body : Statement) (o : Option Nest) → AreVisits o (actions setting body) → AreVisits (inside i x o) (actions setting (For i x kind body))
  visits_loop i x kind body None h = tt
  visits_loop i x kind body (Some n) h = (
    h.0,
    λ s free.
        let g : ℤ → List Action = λ z. actions setting body (bind s i z (int_le z (largest s x.lower))) in
        touched_turns b g (turns s x)
        ∙ (λ j. flat_map (λ z. (h.1 (bind s i z (int_le z (largest s x.lower))) (λ l m u v. free l m (inr u) (inr v))
        ∙ ap (λ ks. visits (visit n.line) ks (bind s i z (int_le z (largest s x.lower))))
        (spins_same s i z (int_le z (largest s x.lower)) n.loops (λ m v. free (record { symbol = i; span = x }) m (inl refl) (inr v)))) j) (turns s x)),
  )

  visits_alone : (v : Bool) (a : Statement) → (v ≡ true → IsOfBuffer a) → AreVisits (if v then Some (alone a) else None) (actions setting a)
  visits_alone true a h = (h refl, λ s free. refl)
  visits_alone false a h = tt

  visits_block : (a : Statement) (rest : Statements) (v w u : Bool) → changes a b ≡ v → block_changes rest b ≡ w → is_let a ≡ u → AreVisits (nest_of a b) (actions setting a) → AreVisits (block_nest rest b) (block_actions setting rest) →
      AreVisits (if v then (if w then None else nest_of a b) else (if u then None else block_nest rest b)) (block_actions setting (Then a rest))
  visits_block a rest true true u e f g h k = tt
  visits_block a rest false w true e f g h k = tt
  visits_block a rest true false u e f g h k = of (nest_of a b) h
    where
      of : (o : Option Nest) → AreVisits o (actions setting a) → AreVisits o (block_actions setting (Then a rest))
      of None r = tt
      of (Some n) r = (
        r.0,
        λ s free.
            touched_append b (actions setting a s) (block_actions setting rest (after a s))
            ∙ ap (λ t. touched b (actions setting a s) ++ t) (touched_none b (block_actions setting rest (after a s)) (leaves_block setting rest (after a s) b f))
            ∙ append_nil (touched b (actions setting a s)) ∙ r.1 s free,
      )
  visits_block a rest false w false e f g h k = of (block_nest rest b) k
    where
      of : (o : Option Nest) → AreVisits o (block_actions setting rest) → AreVisits o (block_actions setting (Then a rest))
      of None r = tt
      of (Some n) r = (
        r.0,
        λ s free.
            touched_append b (actions setting a s) (block_actions setting rest (after a s))
            ∙ ap (λ t. t ++ touched b (block_actions setting rest (after a s))) (touched_none b (actions setting a s) (leaves setting a s b e))
            ∙ ap (λ t. touched b (block_actions setting rest t)) (after_same a s g) ∙ r.1 s free,
      )

  mutual
    pub nest_visits : (a : Statement) → AreVisits (nest_of a b) (actions setting a)
    nest_visits (Seq all) = block_visits all
    nest_visits (For i x kind body) = visits_loop i x kind body (nest_of body b) (nest_visits body)
    nest_visits (Let i pick ls) = tt
    nest_visits (First i a c) = tt
    nest_visits (Guard low high body) = tt
    nest_visits (Alloc c f places) = tt
    nest_visits (Fetch c g region) = visits_alone (c == b) (Fetch c g region) (λ h. h)
    nest_visits (Store c k at e) = visits_alone (c == b) (Store c k at e) (λ h. h)
    nest_visits (Publish c) = tt

    pub block_visits : (row : Statements) → AreVisits (block_nest row b) (block_actions setting row)
    block_visits Empty = tt
    block_visits (Then a rest) = visits_block a rest (changes a b) (block_changes rest b) (is_let a) refl refl refl (nest_visits a) (block_visits rest)

-- ---- a visit for each point

-- the symbols where each loop's stands for what the point says
abbrev pub bound_to : (ℕ → ℤ) → List Spin → Symbols → Symbols
bound_to v [] s = s
bound_to v (k ∷ ks) s = bound_to v ks (bind s k.symbol (v k.symbol) (int_le (v k.symbol) k.low))

pub is_bound : (s : Symbols) (i j : ℕ) (v : ℕ → ℤ) (c : Bool) → s.value i ≡ v i → (bind s j (v j) c).value i ≡ v i
is_bound s i j v c h = of (i == j) refl
  where
    of : (w : Bool) → (i == j) ≡ w → (if w then v j else s.value i) ≡ v i
    of true e = ap v (sym (eq_true i j e))
    of false e = h

pub stays_bound : (v : ℕ → ℤ) (i : ℕ) (ks : List Spin) (s : Symbols) → s.value i ≡ v i → (bound_to v ks s).value i ≡ v i
stays_bound v i [] s h = h
stays_bound v i (k ∷ ks) s h = stays_bound v i ks (bind s k.symbol (v k.symbol) (int_le (v k.symbol) k.low)) (is_bound s i k.symbol v (int_le (v k.symbol) k.low) h)

pub now_bound : (s : Symbols) (i : ℕ) (z : ℤ) (c : Bool) → (bind s i z c).value i ≡ z
now_bound s i z c = let same : (i == i) ≡ true = eq_refl i in rw same refl

pub all_bound : (v : ℕ → ℤ) (i : ℕ) (ks : List Spin) (s : Symbols) → In i (map (λ k. k.symbol) ks) → (bound_to v ks s).value i ≡ v i
all_bound v i [] s m = absurd m
all_bound v i (k ∷ ks) s (inl e) =
    let s' = bind s k.symbol (v k.symbol) (int_le (v k.symbol) k.low) in
    stays_bound v i ks s' (subst (λ j. s'.value j ≡ v j) (sym e) (now_bound s k.symbol (v k.symbol) (int_le (v k.symbol) k.low)))
all_bound v i (k ∷ ks) s (inr m) = all_bound v i ks (bind s k.symbol (v k.symbol) (int_le (v k.symbol) k.low)) m

-- what is written at the visit is written by the nest
pub visits_write : (act : Symbols → List Action) (b : ℕ) (p : List ℤ) (v : ℕ → ℤ) (ks : List Spin) (s : Symbols) → ((k : Spin) → In k ks → In (v k.symbol) (rising k.low k.count)) →
    In p (written b (act (bound_to v ks s))) → In p (written b (visits act ks s))
visits_write act b p v [] s h m = m
visits_write act b p v (k ∷ ks) s h m =
    written_turns b p (λ z. visits act ks (bind s k.symbol z (int_le z k.low))) (v k.symbol) (rising k.low k.count) (h k (inl refl))
    (visits_write act b p v ks (bind s k.symbol (v k.symbol) (int_le (v k.symbol) k.low)) (λ j n. h j (inr n)) m)

pub visits_fill : (act : Symbols → List Action) (b : ℕ) (f : List ℕ) → ((s : Symbols) → Fills b f (act s)) → (ks : List Spin) (s : Symbols) → Fills b f (visits act ks s)
visits_fill act b f h [] s = h s
visits_fill act b f h (k ∷ ks) s = fills_turns b f (λ z. visits act ks (bind s k.symbol z (int_le z k.low))) (λ z. visits_fill act b f h ks (bind s k.symbol z (int_le z k.low))) (rising k.low k.count)
