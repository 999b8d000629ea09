-- The lines with a number that is not shown to be small rise; and a store is one of them where a coordinate is not shown to be an i32.
use Rattle.std.proofs.Common.{◌≡◌, ℕ, ◌+◌, ◌<◌, ◌≤◌, ◌-◌, Bool, true, false, ◌&&◌, ◌||◌, List, [], ◌∷◌, ◌++◌, Some, refl, sym, ◌∙◌, subst, inl, inr, ◌⊎◌, arith}
use Rattle.std.specs.Prelude.{if◌then◌else◌}
use Rattle.std.specs.List.{list_all}
use Rattle.plan.specs.Plan.{Statement, Seq, For, Let, First, Guard, Alloc, Fetch, Store, Publish, Statements, Empty, Then}
use Rattle.plan.specs.Lines.{lines, block_lines}
use Rattle.soundness.specs.Obligations.{Binder, Ranged, Passed, Known, Rules, more_binders, within, onwards, in_block, in_loop, in_guard}
use Rattle.soundness.specs.Origins.{Outline}
use Rattle.rules.specs.Widths.Widths.{binders_after, line_unless, or_line, store_lines, block_store_lines, is_near_form, is_near_span, has_few_turns, is_i32, wide_lines, block_wide_lines}
use Rattle.rules.specs.Widths.Widths.{told, first_told}
use Rattle.completeness.specs.Owed.{EachLine, EachOf}
use Rattle.completeness.specs.Filled.{stores_to, some_stores_to}
use Rattle.soundness.proofs.Refines.{eq_true}
use Rattle.completeness.proofs.TakenSites.{Has}

-- ---- rising lists

-- each is from the one number on and below the other
abbrev AreFrom : ℕ → ℕ → List ℕ → Type 0
AreFrom m k [] = Unit {0}
AreFrom m k (n ∷ ns) = (m ≤ n) × (n < k) × AreFrom m k ns

-- the first is at most each, and so on
abbrev Rise : List ℕ → Type 0
Rise [] = Unit {0}
Rise (n ∷ ns) = ((i : ℕ) → Has i ns → n ≤ i) × Rise ns

abbrev IsSpread : ℕ → ℕ → List ℕ → Type 0
IsSpread m k ns = AreFrom m k ns × Rise ns

from_has : (m k : ℕ) (ns : List ℕ) (i : ℕ) → AreFrom m k ns → Has i ns → (m ≤ i) × (i < k)
from_has m k [] i h has = absurd has
from_has m k (n ∷ ns) i h (inl is) = (let low = h.0 in let high = h.1 in (omega (arith, low, is), omega (arith, high, is)))
from_has m k (n ∷ ns) i h (inr has) = from_has m k ns i h.2 has

from_wider : (m k l j : ℕ) (ns : List ℕ) → l ≤ m → k ≤ j → AreFrom m k ns → AreFrom l j ns
from_wider m k l j [] low high h = tt
from_wider m k l j (n ∷ ns) low high h = (let a = h.0 in let b = h.1 in (omega (arith, low, a), omega (arith, high, b), from_wider m k l j ns low high h.2))

from_both : (m k : ℕ) (xs ys : List ℕ) → AreFrom m k xs → AreFrom m k ys → AreFrom m k (xs ++ ys)
from_both m k [] ys h g = g
from_both m k (x ∷ xs) ys h g = (h.0, h.1, from_both m k xs ys h.2 g)

has_first : (i : ℕ) (xs ys : List ℕ) → Has i xs → Has i (xs ++ ys)
has_first i [] ys h = absurd h
has_first i (x ∷ xs) ys (inl e) = inl e
has_first i (x ∷ xs) ys (inr h) = inr (has_first i xs ys h)

has_second : (i : ℕ) (xs ys : List ℕ) → Has i ys → Has i (xs ++ ys)
has_second i [] ys h = h
has_second i (x ∷ xs) ys h = inr (has_second i xs ys h)

has_either : (i : ℕ) (xs ys : List ℕ) → Has i (xs ++ ys) → Has i xs ⊎ Has i ys
has_either i [] ys h = inr h
has_either i (x ∷ xs) ys (inl e) = inl (inl e)
has_either i (x ∷ xs) ys (inr h) = elim (has_either i xs ys h) [ inl k ↦ inl (inr k) | inr k ↦ inr k ]

rise_both : (m k l : ℕ) (xs ys : List ℕ) → AreFrom m k xs → AreFrom k l ys → Rise xs → Rise ys → Rise (xs ++ ys)
rise_both m k l [] ys h g a b = b
rise_both m k l (x ∷ xs) ys h g a b = (
  (λ i has. elim (has_either i xs ys has) [
    | inl own ↦ a.0 i own
    | inr later ↦ (let less = h.1 in let from = (from_has k l ys i g later).0 in omega (arith, less, from))
  ]),
  rise_both m k l xs ys h.2 g a.1 b,
)

spread_both : (m k l : ℕ) (xs ys : List ℕ) → m ≤ k → k ≤ l → IsSpread m k xs → IsSpread k l ys → IsSpread m l (xs ++ ys)
spread_both m k l xs ys low high h g = (
  from_both m l xs ys (from_wider m k m l xs (omega arith) high h.0) (from_wider k l m l ys low (omega arith) g.0),
  rise_both m k l xs ys h.0 g.0 h.1 g.1,
)

spread_wider : (m k l j : ℕ) (ns : List ℕ) → l ≤ m → k ≤ j → IsSpread m k ns → IsSpread l j ns
spread_wider m k l j ns low high h = (from_wider m k l j ns low high h.0, h.1)

one_line : (line k : ℕ) → line < k → IsSpread line k (line ∷ [])
one_line line k less = ((omega arith, less, tt), ((λ i has. absurd has), tt))

unless_spread : (b : Bool) (line k : ℕ) → line < k → IsSpread line k (line_unless b line)
unless_spread true line k less = (tt, tt)
unless_spread false line k less = one_line line k less

or_spread : (line k : ℕ) (ns : List ℕ) → line < k → IsSpread (line + 1) k ns → IsSpread line k (or_line line ns)
or_spread line k [] less h = one_line line k less
or_spread line k (n ∷ ns) less h = spread_wider (line + 1) k line k (n ∷ ns) (omega arith) (omega arith) h

mutual
  stores_spread : (line : ℕ) (s : Statement) → IsSpread line (line + lines s) (store_lines line s)
  stores_spread line (Seq all) = block_stores_spread line all
  stores_spread line (For i x kind body) =
      spread_wider (line + 1) ((line + 1) + lines body) line (line + lines (For i x kind body)) (store_lines (line + 1) body) (omega arith) (omega arith) (stores_spread (line + 1) body)
  stores_spread line (Let i pick ls) = (tt, tt)
  stores_spread line (First i a b) =
      let k = (line + 2) + lines a in
      spread_wider (line + 1) (k + lines b) line (line + lines (First i a b)) (store_lines (line + 1) a ++ store_lines k b) (omega arith) (omega arith)
      (spread_both (line + 1) k (k + lines b) (store_lines (line + 1) a) (store_lines k b) (omega arith) (omega arith)
      (spread_wider (line + 1) ((line + 1) + lines a) (line + 1) k (store_lines (line + 1) a) (omega arith) (omega arith) (stores_spread (line + 1) a)) (stores_spread k b))
  stores_spread line (Guard low high body) =
      spread_wider (line + 1) ((line + 1) + lines body) line (line + lines (Guard low high body)) (store_lines (line + 1) body) (omega arith) (omega arith) (stores_spread (line + 1) body)
  stores_spread line (Alloc b f places) = (tt, tt)
  stores_spread line (Fetch b g region) = (tt, tt)
  stores_spread line (Store b k at e) = one_line line (line + 1) (omega arith)
  stores_spread line (Publish c) = (tt, tt)

  block_stores_spread : (line : ℕ) (all : Statements) → IsSpread line (line + block_lines all) (block_store_lines line all)
  block_stores_spread line Empty = (tt, tt)
  block_stores_spread line (Then a rest) =
      spread_wider line ((line + lines a) + block_lines rest) line (line + block_lines (Then a rest)) (store_lines line a ++ block_store_lines (line + lines a) rest) (omega arith) (omega arith)
      (spread_both line (line + lines a) ((line + lines a) + block_lines rest) (store_lines line a) (block_store_lines (line + lines a) rest) (omega arith) (omega arith) (stores_spread line a)
      (block_stores_spread (line + lines a) rest))

module _ (rules : Rules) where
  mutual
    pub wide_spread : (bs : List Binder) (line : ℕ) (s : Statement) → IsSpread line (line + lines s) (wide_lines rules bs line s)
    wide_spread bs line (Seq all) = block_wide_spread bs line all
    wide_spread bs line (For i x kind body) = of (is_near_span rules bs x) (wide_spread (Ranged i x ∷ bs) (line + 1) body)
      where
        inner : List ℕ
        inner = wide_lines rules (Ranged i x ∷ bs) (line + 1) body

        here : List ℕ
        here = line_unless (has_few_turns rules bs x kind) line

        stores : IsSpread (line + 1) (line + lines (For i x kind body)) (store_lines (line + 1) body)
        stores = spread_wider (line + 1) ((line + 1) + lines body) (line + 1) (line + lines (For i x kind body)) (store_lines (line + 1) body) (omega arith) (omega arith)
            (stores_spread (line + 1) body)

        of : (b : Bool) → IsSpread (line + 1) ((line + 1) + lines body) inner →
            IsSpread line (line + lines (For i x kind body)) (if b then here ++ inner else or_line line (store_lines (line + 1) body))
        of true under = spread_both line (line + 1) (line + lines (For i x kind body)) here inner (omega arith) (omega arith)
            (unless_spread (has_few_turns rules bs x kind) line (line + 1) (omega arith))
            (spread_wider (line + 1) ((line + 1) + lines body) (line + 1) (line + lines (For i x kind body)) inner (omega arith) (omega arith) under)
        of false under = or_spread line (line + lines (For i x kind body)) (store_lines (line + 1) body) (omega arith) stores
    wide_spread bs line (Let i pick ls) = unless_spread (list_all (is_near_form rules bs) ls) line (line + 1) (omega arith)
    wide_spread bs line (First i a b) =
        let k = (line + 2) + lines a in
        spread_wider (line + 1) (k + lines b) line (line + lines (First i a b)) (wide_lines rules bs (line + 1) a ++ wide_lines rules bs k b) (omega arith) (omega arith)
        (spread_both (line + 1) k (k + lines b) (wide_lines rules bs (line + 1) a) (wide_lines rules bs k b) (omega arith) (omega arith)
        (spread_wider (line + 1) ((line + 1) + lines a) (line + 1) k (wide_lines rules bs (line + 1) a) (omega arith) (omega arith) (wide_spread bs (line + 1) a)) (wide_spread bs k b))
    wide_spread bs line (Guard low high body) = of (is_near_form rules bs low && is_near_form rules bs high) (wide_spread (Passed low high ∷ bs) (line + 1) body)
      where
        inner : List ℕ
        inner = wide_lines rules (Passed low high ∷ bs) (line + 1) body

        of : (b : Bool) → IsSpread (line + 1) ((line + 1) + lines body) inner →
            IsSpread line (line + lines (Guard low high body)) (if b then inner else or_line line (store_lines (line + 1) body))
        of true under = spread_wider (line + 1) ((line + 1) + lines body) line (line + lines (Guard low high body)) inner (omega arith) (omega arith) under
        of false under = or_spread line (line + lines (Guard low high body)) (store_lines (line + 1) body) (omega arith)
            (spread_wider (line + 1) ((line + 1) + lines body) (line + 1) (line + lines (Guard low high body)) (store_lines (line + 1) body) (omega arith) (omega arith)
            (stores_spread (line + 1) body))
    wide_spread bs line (Alloc b f places) = unless_spread _ line (line + 1) (omega arith)
    wide_spread bs line (Fetch b g region) = unless_spread _ line (line + 1) (omega arith)
    wide_spread bs line (Store b k at e) = unless_spread _ line (line + 1) (omega arith)
    wide_spread bs line (Publish c) = (tt, tt)

    block_wide_spread : (bs : List Binder) (line : ℕ) (all : Statements) → IsSpread line (line + block_lines all) (block_wide_lines rules bs line all)
    block_wide_spread bs line Empty = (tt, tt)
    block_wide_spread bs line (Then a rest) =
        let others = block_wide_lines rules (binders_after a bs) (line + lines a) rest in
        spread_wider line ((line + lines a) + block_lines rest) line (line + block_lines (Then a rest)) (wide_lines rules bs line a ++ others) (omega arith) (omega arith)
        (spread_both line (line + lines a) ((line + lines a) + block_lines rest) (wide_lines rules bs line a) others (omega arith) (omega arith) (wide_spread bs line a)
        (block_wide_spread (binders_after a bs) (line + lines a) rest))

  -- the first of them is told, at no later line than each
  pub wide_first : (bs : List Binder) (line : ℕ) (s : Statement) (i : ℕ) → Has i (wide_lines rules bs line s) →
      (w : ℕ) × (first_told (wide_lines rules bs line s) ≡ Some w) × (w ≤ told i)
  wide_first bs line s i has = of (wide_lines rules bs line s) refl (wide_spread bs line s).1 has
    where
      of : (ns : List ℕ) → wide_lines rules bs line s ≡ ns → Rise ns → Has i ns → (w : ℕ) × (first_told ns ≡ Some w) × (w ≤ told i)
      of [] e h k = absurd k
      of (n ∷ ns) e h (inl is) = (told n, refl, omega (arith, is))
      of (n ∷ ns) e h (inr k) = (let low = h.0 i k in (told n, refl, omega (arith, low)))

  -- and each is a line of the statement
  pub wide_within : (bs : List Binder) (line : ℕ) (s : Statement) (i : ℕ) → Has i (wide_lines rules bs line s) → (line ≤ i) × (i < line + lines s)
  wide_within bs line s i has = from_has line (line + lines s) (wide_lines rules bs line s) i (wide_spread bs line s).0 has

-- ---- stores

unless_has : (b : Bool) (line : ℕ) → b ≡ false → Has line (line_unless b line)
unless_has true line h = absurd (cc h)
unless_has false line h = inl refl

or_has : (line i : ℕ) (ns : List ℕ) → Has i ns → Has i (or_line line ns)
or_has line i [] h = absurd h
or_has line i (n ∷ ns) h = h

-- a coordinate of the store is not shown to be an i32
abbrev pub IsWideStore : Rules → Statement → Known → Type 0
IsWideStore rules (Store b k at e) known = list_all (λ c. is_i32 rules known.binders c.index) at ≡ false
IsWideStore rules s known = ⊥

-- it stores into the piece's own buffer, where it is a store
abbrev pub StoresIntoOwn : Statement → Type 0
StoresIntoOwn (Store b k at e) = b ≡ 0
StoresIntoOwn s = Unit {0}

module _ (outline : Outline) (rules : Rules) where
  -- where each store does, so do those that are found
  mutual
    pub own_stores : (b : ℕ) (s : Statement) (line : ℕ) (known : Known) → EachLine outline rules (λ t i k. StoresIntoOwn t) s line known → stores_to b s ≡ true → b ≡ 0
    own_stores b (Seq all) line known h e = own_among b all line (in_block outline rules known) h e
    own_stores b (For i x kind body) line known h e = own_stores b body (line + 1) (in_loop outline rules i x body known) h e
    own_stores b (Let i pick ls) line known h e = absurd (cc e)
    own_stores b (First i x y) line known h e =
        of (stores_to b x) refl e (λ q. own_stores b x (line + 1) (in_block outline rules known) h.0 q) (λ q. own_stores b y (line + 2 + lines x) (in_block outline rules known) h.1 q)
      where
        of : (v : Bool) → stores_to b x ≡ v → (v || stores_to b y) ≡ true → (stores_to b x ≡ true → b ≡ 0) → (stores_to b y ≡ true → b ≡ 0) → b ≡ 0
        of true q k one two = one q
        of false q k one two = two k
    own_stores b (Guard low high body) line known h e = own_stores b body (line + 1) (in_guard outline rules low high known) h e
    own_stores b (Alloc m f places) line known h e = absurd (cc e)
    own_stores b (Fetch m g region) line known h e = absurd (cc e)
    own_stores b (Store m k at x) line known h e = sym (eq_true m b e) ∙ h
    own_stores b (Publish c) line known h e = absurd (cc e)

    own_among : (b : ℕ) (all : Statements) (line : ℕ) (known : Known) → EachOf outline rules (λ t i k. StoresIntoOwn t) all line known → some_stores_to b all ≡ true → b ≡ 0
    own_among b Empty line known h e = absurd (cc e)
    own_among b (Then a rest) line known h e =
        let next = outline.named (line + lines a - 1) in
        of (stores_to b a) refl e (λ q. own_stores b a line (within outline rules a next known) h.0 q)
        (λ q. own_among b rest (line + lines a) (onwards outline rules a next known) h.1 q)
      where
        of : (v : Bool) → stores_to b a ≡ v → (v || some_stores_to b rest) ≡ true → (stores_to b a ≡ true → b ≡ 0) → (some_stores_to b rest ≡ true → b ≡ 0) → b ≡ 0
        of true q k one two = one q
        of false q k one two = two k

  after_is : (a : Statement) (bs : List Binder) → more_binders outline rules a bs ≡ binders_after a bs
  after_is (Seq all) bs = refl
  after_is (For i x kind body) bs = refl
  after_is (Let i pick ls) bs = refl
  after_is (First i a b) bs = refl
  after_is (Guard low high body) bs = refl
  after_is (Alloc b f places) bs = refl
  after_is (Fetch b g region) bs = refl
  after_is (Store b k at e) bs = refl
  after_is (Publish c) bs = refl

  -- the lines of all stores
  mutual
    store_each : (Q : ℕ → Type 0) (s : Statement) (line : ℕ) (known : Known) → ((i : ℕ) → Has i (store_lines line s) → Q i) →
        EachLine outline rules (λ t i k. IsWideStore rules t k → Q i) s line known
    store_each Q (Seq all) line known w = block_store_each Q all line (in_block outline rules known) w
    store_each Q (For i x kind body) line known w = store_each Q body (line + 1) (in_loop outline rules i x body known) w
    store_each Q (Let i pick ls) line known w = λ wide. absurd wide
    store_each Q (First i a b) line known w = (
      store_each Q a (line + 1) (in_block outline rules known) (λ j h. w j (has_first j (store_lines (line + 1) a) (store_lines (line + 2 + lines a) b) h)),
      store_each Q b (line + 2 + lines a) (in_block outline rules known) (λ j h. w j (has_second j (store_lines (line + 1) a) (store_lines (line + 2 + lines a) b) h)),
    )
    store_each Q (Guard low high body) line known w = store_each Q body (line + 1) (in_guard outline rules low high known) w
    store_each Q (Alloc b f places) line known w = λ wide. absurd wide
    store_each Q (Fetch b g region) line known w = λ wide. absurd wide
    store_each Q (Store b k at e) line known w = λ wide. w line (inl refl)
    store_each Q (Publish c) line known w = λ wide. absurd wide

    block_store_each : (Q : ℕ → Type 0) (all : Statements) (line : ℕ) (known : Known) → ((i : ℕ) → Has i (block_store_lines line all) → Q i) →
        EachOf outline rules (λ t i k. IsWideStore rules t k → Q i) all line known
    block_store_each Q Empty line known w = tt
    block_store_each Q (Then a rest) line known w =
        let next = outline.named (line + lines a - 1) in (
          store_each Q a line (within outline rules a next known) (λ j h. w j (has_first j (store_lines line a) (block_store_lines (line + lines a) rest) h)),
          block_store_each Q rest (line + lines a) (onwards outline rules a next known) (λ j h. w j (has_second j (store_lines line a) (block_store_lines (line + lines a) rest) h)),
        )

  mutual
    -- each such store stands at one of the lines
    pub wide_each : (Q : ℕ → Type 0) (s : Statement) (line : ℕ) (known : Known) → ((i : ℕ) → Has i (wide_lines rules known.binders line s) → Q i) →
        EachLine outline rules (λ t i k. IsWideStore rules t k → Q i) s line known
    wide_each Q (Seq all) line known w = block_wide_each Q all line (in_block outline rules known) w
    wide_each Q (For i x kind body) line known w = of (is_near_span rules known.binders x) w (λ v. wide_each Q body (line + 1) (in_loop outline rules i x body known) v)
      where
        here : List ℕ
        here = line_unless (has_few_turns rules known.binders x kind) line

        inner : List ℕ
        inner = wide_lines rules (Ranged i x ∷ known.binders) (line + 1) body

        Each : Type 0
        Each = EachLine outline rules (λ t j k. IsWideStore rules t k → Q j) body (line + 1) (in_loop outline rules i x body known)

        of : (b : Bool) → ((j : ℕ) → Has j (if b then here ++ inner else or_line line (store_lines (line + 1) body)) → Q j) → (((j : ℕ) → Has j inner → Q j) → Each) → Each
        of true v rest = rest (λ j h. v j (has_second j here inner h))
        of false v rest = store_each Q body (line + 1) (in_loop outline rules i x body known) (λ j h. v j (or_has line j (store_lines (line + 1) body) h))
    wide_each Q (Let i pick ls) line known w = λ wide. absurd wide
    wide_each Q (First i a b) line known w = (
      wide_each Q a (line + 1) (in_block outline rules known)
          (λ j h. w j (has_first j (wide_lines rules known.binders (line + 1) a) (wide_lines rules known.binders (line + 2 + lines a) b) h)),
      wide_each Q b (line + 2 + lines a) (in_block outline rules known)
          (λ j h. w j (has_second j (wide_lines rules known.binders (line + 1) a) (wide_lines rules known.binders (line + 2 + lines a) b) h)),
    )
    wide_each Q (Guard low high body) line known w =
        of (is_near_form rules known.binders low && is_near_form rules known.binders high) w (λ v. wide_each Q body (line + 1) (in_guard outline rules low high known) v)
      where
        inner : List ℕ
        inner = wide_lines rules (Passed low high ∷ known.binders) (line + 1) body

        Each : Type 0
        Each = EachLine outline rules (λ t j k. IsWideStore rules t k → Q j) body (line + 1) (in_guard outline rules low high known)

        of : (b : Bool) → ((j : ℕ) → Has j (if b then inner else or_line line (store_lines (line + 1) body)) → Q j) → (((j : ℕ) → Has j inner → Q j) → Each) → Each
        of true v rest = rest v
        of false v rest = store_each Q body (line + 1) (in_guard outline rules low high known) (λ j h. v j (or_has line j (store_lines (line + 1) body) h))
    wide_each Q (Alloc b f places) line known w = λ wide. absurd wide
    wide_each Q (Fetch b g region) line known w = λ wide. absurd wide
    wide_each Q (Store b k at e) line known w = λ wide. w line (unless_has (list_all (λ c. is_i32 rules known.binders c.index) at) line wide)
    wide_each Q (Publish c) line known w = λ wide. absurd wide

    block_wide_each : (Q : ℕ → Type 0) (all : Statements) (line : ℕ) (known : Known) → ((i : ℕ) → Has i (block_wide_lines rules known.binders line all) → Q i) →
        EachOf outline rules (λ t i k. IsWideStore rules t k → Q i) all line known
    block_wide_each Q Empty line known w = tt
    block_wide_each Q (Then a rest) line known w =
        let next = outline.named (line + lines a - 1) in
        let others = block_wide_lines rules (binders_after a known.binders) (line + lines a) rest in (
          wide_each Q a line (within outline rules a next known) (λ j h. w j (has_first j (wide_lines rules known.binders line a) others h)),
          block_wide_each Q rest (line + lines a) (onwards outline rules a next known)
              (λ j h. w j (has_second j (wide_lines rules known.binders line a) others
              (subst (λ (bs : List Binder). Has j (block_wide_lines rules bs (line + lines a) rest)) (after_is a known.binders) h))),
        )
