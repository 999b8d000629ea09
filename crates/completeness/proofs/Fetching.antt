-- What a piece fetches: the points of its fetches, told by the grid's symbols.
use Rattle.std.proofs.Common.{◌≡◌, ℕ, zero, suc, ◌+◌, ◌<◌, ◌≤◌, Bool, true, false, ◌||◌, List, [], ◌∷◌, ◌++◌, map, Some, refl, sym, ap, ◌∙◌, subst, inl, inr, ◌⊎◌, arith}
use Rattle.std.specs.Prelude.{ℤ, ◌≤ℤ◌, ◌==◌, int_le, if◌then◌else◌, slice_get, flat_map}
use Rattle.std.specs.List.{AllByRecursion}
use Rattle.std.proofs.lemmas.Int.{ints}
use Rattle.std.proofs.lemmas.Bool.Decides.{nat_tests}
use Rattle.std.proofs.lemmas.List.Elements.{recursion_from_All, All-from_recursion}
use Rattle.lin.specs.Forms.{Form, value_of}
use Rattle.lin.specs.Spans.{IsInRegion}
use Rattle.lin.specs.declared.form.Multiple.{Multiple}
use Rattle.lin.specs.declared.span.Span1.{Span1}
use Rattle.lin.proofs.TermLemmas.{all_weaker, sum_of-same}
use Rattle.bounds.specs.Projection.Elimination.{is_inner}
use Rattle.bounds.specs.Projection.Sound.{AgreeOutside}
use Rattle.bounds.proofs.Names.{Outer, outer_terms}
use Rattle.plan.specs.Plan.{Statement, Seq, For, Let, First, Guard, Alloc, Fetch, Store, Publish, Statements, Empty, Then, block}
use Rattle.plan.specs.Lines.{block_lines}
use Rattle.plan.specs.Symbols.{Symbols, bind, form_value, largest, turns, points}
use Rattle.plan.specs.Certificate.Cells.{Cell, cell}
use Rattle.plan.specs.declared.stmt.Pick.TheVariants.{Min, Max}
use Rattle.soundness.specs.Claims.{In}
use Rattle.soundness.proofs.Sound.{or_left, or_right}
use Rattle.sched.specs.declared.skeleton.Step.{Step}
use Rattle.sched.specs.declared.skeleton.Step.TheVariants.{Turns, Named, Tested}
use Rattle.sched.specs.Skeleton.{NestText}
use Rattle.sched.specs.Visits.{arrivals}
use Rattle.sched.specs.Runs.{lines_to}
use Rattle.sched.specs.Order.{Ordered}
use Rattle.headline.specs.Fetched.{block_fetched_cells, fetches, block_fetches}
use Rattle.headline.proofs.Parts.{none_fetched}
use Rattle.sched.specs.Stored.{FormulaText, StoredText}
use Rattle.sched.specs.Regions.{symbols_from}
use Rattle.sched.specs.Loading.{Loads}
use Rattle.blocks.specs.Bodies.{IsStore, IsNest, AreNests}
use Rattle.blocks.specs.Fetches.{FetchText, with_fetches}
use Rattle.plan.specs.declared.certificate.cert.Claim.{Claim}
use Rattle.lower.proofs.Gridded.{OuterSpan}

-- ---- members

in_either : {A : Type 0} (x : A) (xs ys : List A) → In x (xs ++ ys) → In x xs ⊎ In x ys
in_either x [] ys h = inr h
in_either x (y ∷ xs) ys (inl e) = inl (inl e)
in_either x (y ∷ xs) ys (inr h) = of (in_either x xs ys h)
  where
    of : In x xs ⊎ In x ys → In x (y ∷ xs) ⊎ In x ys
    of (inl k) = inl (inr k)
    of (inr k) = inr k

in_first : {A : Type 0} (x : A) (xs ys : List A) → In x xs → In x (xs ++ ys)
in_first x [] ys h = absurd h
in_first x (y ∷ xs) ys (inl e) = inl e
in_first x (y ∷ xs) ys (inr h) = inr (in_first x xs ys h)

in_second : {A : Type 0} (x : A) (xs ys : List A) → In x ys → In x (xs ++ ys)
in_second x [] ys h = h
in_second x (y ∷ xs) ys h = inr (in_second x xs ys h)

in_turn : {A : Type 0} (f : ℤ → List A) (zs : List ℤ) (x : A) → In x (flat_map f zs) → (z : ℤ) × In z zs × In x (f z)
in_turn f [] x h = absurd h
in_turn f (z ∷ zs) x h = of (in_either x (f z) (flat_map f zs) h) (in_turn f zs x)
  where
    of : In x (f z) ⊎ In x (flat_map f zs) → (In x (flat_map f zs) → (w : ℤ) × In w zs × In x (f w)) → (w : ℤ) × In w (z ∷ zs) × In x (f w)
    of (inl k) rest = (z, inl refl, k)
    of (inr k) rest = let r = rest k in (r.0, inr r.1, r.2)

turn_in : {A : Type 0} (f : ℤ → List A) (zs : List ℤ) (z : ℤ) (x : A) → In z zs → In x (f z) → In x (flat_map f zs)
turn_in f [] z x h k = absurd h
turn_in f (w ∷ zs) z x (inl e) k = in_first x (f w) (flat_map f zs) (subst (λ y. In x (f y)) e k)
turn_in f (w ∷ zs) z x (inr h) k = in_second x (f w) (flat_map f zs) (turn_in f zs z x h k)

alone : (x : Cell) (xs : List Cell) → In x (xs ++ []) → In x xs
alone x xs h = of (in_either x xs [] h)
  where
    of : In x xs ⊎ In x [] → In x xs
    of (inl k) = k
    of (inr k) = absurd k

-- ---- inside the steps of a head

pub record Arrives (steps : List Step) (inner : Statements) (s : Symbols) (x : Cell) : Type 0 where
  pub symbols : Symbols
  pub arrives : In symbols (arrivals steps s)
  pub fetched : In x (block_fetched_cells inner symbols)

pub arrived : (steps : List Step) (inner : Statements) (s : Symbols) (x : Cell) → In x (block_fetched_cells (lines_to steps inner) s) → Arrives steps inner s x
arrived [] inner s x h = record { symbols = s; arrives = inl refl; fetched = h }
arrived (Turns i span kind ∷ steps) inner s x h =
    let body = lines_to steps inner in
    let next : ℤ → Symbols = λ z. bind s i z (int_le z (largest s span.lower)) in
    let first = alone x (flat_map (λ z. block_fetched_cells body (next z)) (turns s span)) h in
    let t = in_turn (λ z. block_fetched_cells body (next z)) (turns s span) x first in
    let r = arrived steps inner (next t.0) x t.2 in
    record { symbols = r.symbols; arrives = turn_in (λ z. arrivals steps (next z)) (turns s span) t.0 r.symbols t.1 r.arrives; fetched = r.fetched }
arrived (Named i Min ls ∷ steps) inner s x h =
    let r = arrived steps inner _ x h in record { symbols = r.symbols; arrives = r.arrives; fetched = r.fetched }
arrived (Named i Max ls ∷ steps) inner s x h =
    let r = arrived steps inner _ x h in record { symbols = r.symbols; arrives = r.arrives; fetched = r.fetched }
arrived (Tested low high ∷ steps) inner s x h = of (int_le (form_value low s) (form_value high s)) refl h (arrived steps inner s x)
  where
    of : (b : Bool) → int_le (form_value low s) (form_value high s) ≡ b → In x ((if b then block_fetched_cells (lines_to steps inner) s else []) ++ []) →
        (In x (block_fetched_cells (lines_to steps inner) s) → Arrives steps inner s x) → Arrives (Tested low high ∷ steps) inner s x
    of true e k rest =
        let r = rest (alone x (block_fetched_cells (lines_to steps inner) s) k) in
        record { symbols = r.symbols; arrives = subst (λ (b : Bool). In r.symbols (if b then arrivals steps s else [])) (sym e) r.arrives; fetched = r.fetched }
    of false e k rest = absurd k

-- the symbols that stand there are those of before, but for the ones that are bound
pub ordered_rises : (ss : List Step) (n m : ℕ) → Ordered n ss m → n ≤ m
ordered_rises [] n m h = omega (arith, h)
ordered_rises (Turns i x kind ∷ ss) n m h = let r = ordered_rises ss (n + 1) m h.2 in omega (arith, r)
ordered_rises (Named i pick fs ∷ ss) n m h = let r = ordered_rises ss (n + 1) m h.3 in omega (arith, r)
ordered_rises (Tested low high ∷ ss) n m h = ordered_rises ss n m h

bind_keeps : (s : Symbols) (i : ℕ) (z : ℤ) (b : Bool) (j : ℕ) → (j ≡ i → ⊥) → (bind s i z b).value j ≡ s.value j
bind_keeps s i z b j differs = let test : (j == i) ≡ false = grind (arith, nat_tests) in ap (λ (c : Bool). if c then z else s.value j) test

module _ (j m : ℕ) where
  bound_keeps : (s t : Symbols) (steps : List Step) (n i : ℕ) (z : ℤ) (b : Bool) → i ≡ n → Ordered (n + 1) steps m → (j < n) ⊎ (m ≤ j) → t.value j ≡ (bind s i z b).value j → t.value j ≡ s.value j
  bound_keeps s t steps n i z b is h out e =
      let most = ordered_rises steps (n + 1) m h in
      e ∙ bind_keeps s i z b j (λ same. away same most out)
    where
      away : j ≡ i → (n + 1) ≤ m → (j < n) ⊎ (m ≤ j) → ⊥
      away same most (inl less) = omega (arith, is, same, less)
      away same most (inr above) = omega (arith, is, same, above, most)

  further : (n : ℕ) → (j < n) ⊎ (m ≤ j) → (j < n + 1) ⊎ (m ≤ j)
  further n (inl less) = inl (omega (arith, less))
  further n (inr above) = inr above

  arrival_keeps : (steps : List Step) (n : ℕ) (s t : Symbols) → Ordered n steps m → In t (arrivals steps s) → (j < n) ⊎ (m ≤ j) → t.value j ≡ s.value j
  arrival_keeps [] n s t h (inl e) out = ap (λ (u : Symbols). u.value j) e
  arrival_keeps [] n s t h (inr k) out = absurd k
  arrival_keeps (Turns i x kind ∷ steps) n s t h k out =
      let w = in_turn (λ z. arrivals steps (bind s i z (int_le z (largest s x.lower)))) (turns s x) t k in
      bound_keeps s t steps n i w.0 (int_le w.0 (largest s x.lower)) h.0 h.2 out (arrival_keeps steps (n + 1) _ t h.2 w.2 (further n out))
  arrival_keeps (Named i pick fs ∷ steps) n s t h k out = bound_keeps s t steps n i _ true h.0 h.3 out (arrival_keeps steps (n + 1) _ t h.3 k (further n out))
  arrival_keeps (Tested low high ∷ steps) n s t h k out = of (int_le (form_value low s) (form_value high s)) k (λ q. arrival_keeps steps n s t h q out)
    where
      of : (b : Bool) → In t (if b then arrivals steps s else []) → (In t (arrivals steps s) → t.value j ≡ s.value j) → t.value j ≡ s.value j
      of true q rest = rest q
      of false q rest = absurd q

-- ---- regions without those symbols

less_or : (i m : ℕ) → (i < m) ⊎ (m + 0 ≤ i)
less_or i zero = inr (omega arith)
less_or zero (suc m) = inl (omega arith)
less_or (suc i) (suc m) = elim (less_or i m) [ inl l ↦ inl (omega (arith, l)) | inr g ↦ inr (omega (arith, g)) ]

outside : (m c i : ℕ) → is_inner (symbols_from m c) i ≡ false → (i < m) ⊎ (m + c ≤ i)
outside m zero i h = less_or i m
outside m (suc c) i h = of (m == i) refl h (outside (m + 1) c i)
  where
    of : (b : Bool) → (m == i) ≡ b → (b || is_inner (symbols_from (m + 1) c) i) ≡ false → (is_inner (symbols_from (m + 1) c) i ≡ false → (i < m + 1) ⊎ ((m + 1) + c ≤ i)) → (i < m) ⊎ (m + suc c ≤ i)
    of true e q rest = absurd (cc q)
    of false e q rest = elim (rest q) [ inl l ↦ inl (let differs : (m ≡ i → ⊥) = grind (arith, nat_tests) in omega (arith, l, differs)) | inr g ↦ inr (omega (arith, g)) ]

module _ (inner : List ℕ) (v w : ℕ → ℤ) (agree : AgreeOutside inner v w) where
  same_value : (f : Form) → Outer inner f → value_of f v ≡ value_of f w
  same_value f h =
      let terms = sum_of-same f.terms v w (all_weaker (λ (t : Multiple). is_inner inner t.symbol ≡ false) (λ (t : Multiple). v t.symbol ≡ w t.symbol) (λ t out. agree t.symbol out) f.terms
      (outer_terms inner f.terms h)) in
      omega (arith, ints, terms)

  lows : (z : ℤ) (fs : List Form) → AllByRecursion (λ f. value_of f v ≤ℤ z) fs → AllByRecursion (Outer inner) fs → AllByRecursion (λ f. value_of f w ≤ℤ z) fs
  lows z [] a o = tt
  lows z (f ∷ fs) a o = ((let e = same_value f o.0 in let h = a.0 in omega (arith, ints, e, h)), lows z fs a.1 o.1)

  highs : (z : ℤ) (fs : List Form) → AllByRecursion (λ f. z ≤ℤ value_of f v) fs → AllByRecursion (Outer inner) fs → AllByRecursion (λ f. z ≤ℤ value_of f w) fs
  highs z [] a o = tt
  highs z (f ∷ fs) a o = ((let e = same_value f o.0 in let h = a.0 in omega (arith, ints, e, h)), highs z fs a.1 o.1)

  pub same_region : (xs : List Span1) (q : List ℤ) → AllByRecursion (OuterSpan inner) xs → IsInRegion xs v q → IsInRegion xs w q
  same_region [] [] a h = tt
  same_region [] (z ∷ q) a h = absurd h
  same_region (x ∷ xs) [] a h = absurd h
  same_region (x ∷ xs) (z ∷ q) a h = (
    (
      All-from_recursion (λ f. value_of f w ≤ℤ z) x.lower (lows z x.lower (recursion_from_All (λ f. value_of f v ≤ℤ z) x.lower h.0.0) a.0.0),
      All-from_recursion (λ f. z ≤ℤ value_of f w) x.upper (highs z x.upper (recursion_from_All (λ f. z ≤ℤ value_of f v) x.upper h.0.1) a.0.1),
    ),
    same_region xs q a.1 h.1,
  )

pub arrival_agrees : (m c : ℕ) (steps : List Step) (s t : Symbols) → Ordered m steps (m + c) → In t (arrivals steps s) → AgreeOutside (symbols_from m c) t.value s.value
arrival_agrees m c steps s t h k = λ i out. arrival_keeps i (m + c) steps m s t h k (outside m c i out)

-- ---- nests fetch nothing

pub both_blocks : (xs ys : List Statement) → block_fetches (block xs) ≡ false → block_fetches (block ys) ≡ false → block_fetches (block (xs ++ ys)) ≡ false
both_blocks [] ys h k = k
both_blocks (x ∷ xs) ys h k =
    let first = or_left (fetches x) (block_fetches (block xs)) h in
    let rest = both_blocks xs ys (or_right (fetches x) (block_fetches (block xs)) h) k in
    (λ i. first i || rest i)

steps_fetch : (steps : List Step) (inner : Statements) → block_fetches inner ≡ false → block_fetches (lines_to steps inner) ≡ false
steps_fetch [] inner h = h
steps_fetch (Turns i x kind ∷ steps) inner h = ap (λ (b : Bool). b || false) (steps_fetch steps inner h)
steps_fetch (Named i pick fs ∷ steps) inner h = steps_fetch steps inner h
steps_fetch (Tested low high ∷ steps) inner h = ap (λ (b : Bool). b || false) (steps_fetch steps inner h)

module _ (g : StoredText) (fs : List FormulaText) where
  store_fetches : (ls : Loads) (d : ℕ) (n : NestText) (a : Statement) → IsStore g fs ls d n a → fetches a ≡ false
  store_fetches ls d n (Seq all) h = absurd h
  store_fetches ls d n (For i x kind body) h = absurd h
  store_fetches ls d n (Let i pick forms) h = absurd h
  store_fetches ls d n (First i a b) h = absurd h
  store_fetches ls d n (Guard low high body) h = absurd h
  store_fetches ls d n (Alloc b f places) h = absurd h
  store_fetches ls d n (Fetch b h2 region) h = absurd h
  store_fetches ls d n (Store b k at e) h = refl
  store_fetches ls d n (Publish c) h = absurd h

  nest_fetches : (ls : Loads) (d : ℕ) (n : NestText) (xs : List Statement) → IsNest g fs ls d n xs → block_fetches (block xs) ≡ false
  nest_fetches ls d n xs h =
      ap block_fetches h.comes ∙ steps_fetch n.steps (Then h.store Empty) (ap (λ (b : Bool). b || false) (store_fetches ls d n h.store h.stores))

  pub nests_fetch : (r : List Span1) (ls : Loads) (c line d : ℕ) (ns : List NestText) (xs : List Statement) (claims : List Claim) → AreNests g fs r ls c line d ns xs claims →
      block_fetches (block xs) ≡ false
  nests_fetch r ls c line d [] xs claims h = ap (λ (ys : List Statement). block_fetches (block ys)) h.0
  nests_fetch r ls c line d (n ∷ ns) xs [] h = absurd h
  nests_fetch r ls c line d (n ∷ ns) xs (claim ∷ claims) h =
      ap (λ (ys : List Statement). block_fetches (block ys)) h.are
      ∙ both_blocks h.first h.others (nest_fetches ls d n h.first h.here.nest) (nests_fetch r (ls ++ (g.subject.name, c) ∷ []) (c + 1) (line + block_lines (block h.first))
      (d + 1) ns h.others claims h.behind)

-- ---- fetches

pub record IsFetchedBy (fs : List FetchText) (s : Symbols) (x : Cell) : Type 0 where
  pub place : ℕ
  pub fetch : FetchText
  pub at : slice_get fs place ≡ Some fetch
  pub point : List ℤ
  pub is : x ≡ cell fetch.group point
  pub within : In point (points s fetch.region)

mapped_in : (h : ℕ) (qs : List (List ℤ)) (x : Cell) → In x (map (cell h) qs) → (q : List ℤ) × In q qs × (x ≡ cell h q)
mapped_in h [] x m = absurd m
mapped_in h (q ∷ qs) x (inl e) = (q, inl refl, e)
mapped_in h (q ∷ qs) x (inr m) = let r = mapped_in h qs x m in (r.0, inr r.1, r.2)

pub by_fetches : (fs : List FetchText) (rest : List Statement) (s : Symbols) (x : Cell) → block_fetches (block rest) ≡ false → In x (block_fetched_cells (block (with_fetches fs rest)) s) →
    IsFetchedBy fs s x
by_fetches [] rest s x none h = absurd (subst (In x) (none_fetched (Seq (block rest)) s none) h)
by_fetches (f ∷ fs) rest s x none h = of (in_either x (map (cell f.group) (points s f.region)) (block_fetched_cells (block (with_fetches fs rest)) s) h) (by_fetches fs rest s x none)
  where
    of : In x (map (cell f.group) (points s f.region)) ⊎ In x (block_fetched_cells (block (with_fetches fs rest)) s) →
        (In x (block_fetched_cells (block (with_fetches fs rest)) s) → IsFetchedBy fs s x) → IsFetchedBy (f ∷ fs) s x
    of (inl m) more = let r = mapped_in f.group (points s f.region) x m in record { place = 0; fetch = f; at = refl; point = r.0; is = r.2; within = r.1 }
    of (inr m) more = let r = more m in record { place = suc r.place; fetch = r.fetch; at = r.at; point = r.point; is = r.is; within = r.within }
