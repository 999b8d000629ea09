-- In a group in whose loops functions are computed buffers are numbered in the order of the lines that allocate them, and are of stored functions.
use Rattle.std.proofs.Common.{◌≡◌, ℕ, ◌+◌, ◌-◌, List, [], ◌∷◌, ◌++◌, take, Option, Some, None, refl, sym, ap, subst}
use Rattle.std.specs.Prelude.{slice_get}
use Rattle.lin.specs.Forms.{Form}
use Rattle.lin.specs.declared.span.Span1.{Span1}
use Rattle.plan.specs.declared.certificate.cert.Window.{Window}
use Rattle.plan.specs.Plan.{Coordinate, Statement, Store, Empty, Then, block}
use Rattle.tree.specs.Substitution.{with_calls}
use Rattle.plan.specs.declared.stmt.Pick.TheVariants.{Min}
use Rattle.sched.specs.declared.skeleton.Step.{Step}
use Rattle.sched.specs.declared.skeleton.Step.TheVariants.{Turns, Named, Tested}
use Rattle.sched.specs.Standing.{◌>>=◌}
use Rattle.sched.specs.Stored.{FormulaText}
use Rattle.sched.specs.Around.{names_with}
use Rattle.sched.specs.Loading.{Loads, as_load}
use Rattle.sched.specs.Renamed.{Pairs, value_in, span_renamed, step_renamed}
use Rattle.sched.specs.Placed.{LaterText, PlacedText, OwnerText, SoFar, with_lines, with_symbol, with_name, bound_by, around, coordinates_by, store_by, store_in, lets}
use Rattle.blocks.specs.Placed.{let_count, held, fold_of}
use Rattle.blocks.proofs.Laying.{bound, same}
use Rattle.completeness.proofs.Seats.{AllotAll, allots_joined}
use Rattle.completeness.proofs.Walked.{choice, Lines, HoldsOfEach}

-- ---- what a store is

pub record IsStoreOf (o : OwnerText) (ls : Loads) (d : ℕ) (at : List (Option Form)) (s : Statement) : Type 0 where
  pub formula : FormulaText
  pub there : slice_get o.formulas d ≡ Some formula
  pub coordinates : List Coordinate
  pub given : coordinates_by ls (names_with o.function.variables o.function.changes d) at formula.at ≡ Some coordinates
  pub is : s ≡ Store o.buffer d coordinates (with_calls (as_load ls) formula.value)

pub store_is : (o : OwnerText) (ls : Loads) (d : ℕ) (at : List (Option Form)) (s : Statement) → store_in o ls d at ≡ Some s → IsStoreOf o ls d at s
store_is o ls d at s e =
    let xs = names_with o.function.variables o.function.changes d in
    let b = bound (slice_get o.formulas d) (λ f. store_by ls o.buffer xs d f at) s e in
    let made : List Coordinate → Statement = λ cs. Store o.buffer d cs (with_calls (as_load ls) b.value.value) in
    let c = bound (coordinates_by ls xs at b.value.at) (λ cs. Some (made cs)) s b.comes in
    record { formula = b.value; there = b.is; coordinates = c.value; given = c.is; is = sym (same (made c.value) s c.comes) }

-- a window changes nothing else
pub held_is : (i : PlacedText) (l : LaterText) (m : Pairs) (p q : SoFar) → held i l m p ≡ Some q → (ws : List Window) × (record p { windows = ws } ≡ q)
held_is i l m p q e =
    let made : Span1 → ℕ → List Window = λ y s. p.windows ++ record { claim = p.claim - 1; symbol = s; dimension = l.dimension; fold = fold_of i.function.placed.folds; span = y } ∷ [] in
    let b = bound (slice_get i.region l.dimension) (λ x. span_renamed m x >>= λ y. value_in m l.symbol >>= λ s. Some (record p { windows = made y s })) q e in
    let c = bound (span_renamed m b.value) (λ y. value_in m l.symbol >>= λ s. Some (record p { windows = made y s })) q b.comes in
    let d = bound (value_in m l.symbol) (λ s. Some (record p { windows = made c.value s })) q c.comes in
    (made c.value d.value, same (record p { windows = made c.value d.value }) q d.comes)

module _ (P : List ℕ → Type 0) where
  -- a loop or a guard around what follows, or a let in front of it
  around_allots : (t : Step) (xs : List Statement) (n m : ℕ) → AllotAll P n (block xs) m → AllotAll P n (block (around t xs)) m
  around_allots (Turns i x kind) xs n m h = (m, h, refl)
  around_allots (Named i pick fs) xs n m h = (n, refl, h)
  around_allots (Tested low high) xs n m h = (m, h, refl)

  symbol_more : (o : Option ℕ) (p : SoFar) → (with_symbol o p).buffer ≡ p.buffer
  symbol_more None p = refl
  symbol_more (Some s) p = refl

  lets_allot : (ss : List Step) (m : Pairs) (p : SoFar) (x : List Statement × (Pairs × SoFar)) → lets ss m p ≡ Some x → AllotAll P p.buffer (block x.0) x.1.1.buffer
  lets_allot [] m p x e = subst (λ (y : List Statement × (Pairs × SoFar)). AllotAll P p.buffer (block y.0) y.1.1.buffer) (same ([], (m, p)) x e) refl
  lets_allot (s ∷ ss) m p x e =
      let names = with_name (bound_by s) p.symbol m in
      let inside = with_lines 1 (with_symbol (bound_by s) p) in
      let b = bound (step_renamed names s) (λ t. lets ss names inside >>= λ x. Some (around t x.0, x.1)) x e in
      let c = bound (lets ss names inside) (λ x. Some (around b.value x.0, x.1)) x b.comes in
      let rest = subst (λ (n : ℕ). AllotAll P n (block c.value.0) c.value.1.1.buffer) (symbol_more (bound_by s) p) (lets_allot ss names inside c.value c.is) in
      subst (λ (y : List Statement × (Pairs × SoFar)). AllotAll P p.buffer (block y.0) y.1.1.buffer) (same (around b.value c.value.0, c.value.1) x c.comes)
      (around_allots b.value c.value.0 p.buffer c.value.1.1.buffer rest)

  -- from the next buffer on, the lines allocate those up to the one that is next then
  abbrev pub Allot : Lines
  Allot f m p xs q = AllotAll P p.buffer (block xs) q.buffer

  pub allot_each : (inners : List PlacedText) → ((n : ℕ) (i : PlacedText) → slice_get inners n ≡ Some i → P i.function.subject.name) →
      HoldsOfEach inners (λ f s. Unit {0}) (λ s. Unit {0}) (λ o ns. Unit {0}) Allot
  allot_each inners known = record {
    none = λ f m p. refl;
    both = λ f m p q r xs ys h g. allots_joined P xs ys p.buffer q.buffer r.buffer h g;
    step = λ f m p q xs s t fine e h. around_allots t xs p.buffer q.buffer (subst (λ (n : ℕ). AllotAll P n (block xs) q.buffer) (symbol_more (bound_by s) p) h);
    named = λ f m p q ss x ys fine e h. allots_joined P x.0 ys p.buffer x.1.1.buffer q.buffer (lets_allot ss m p x e) h;
    store = λ f m p o ns d n at s owns there c e.
        let w = store_is o p.loads d at s e in subst (λ (t : Statement). AllotAll P p.buffer (Then t Empty) p.buffer) (sym w.is) (p.buffer, refl, refl);
    apart = λ f m p q xs h. h;
    claim = λ f m p o ns d n r owns there e. refl;
    seat = λ f m p n i places at e. (p.buffer + 1, (refl, refl, known n i at), refl);
    own = λ f m p q n i b xs at seat h. h tt (λ l e. tt);
    slide = λ f m p q r n i l all new s x y z us vs at later place v one two three h w.
        let chosen : AllotAll P z.1.1.buffer (block (choice s us vs)) r.buffer = (r.buffer, (q.buffer, h, w), refl) in
        let first = lets_allot (Named l.new Min l.first_new ∷ []) m p x one in
        let second = lets_allot (take (let_count all.steps) all.steps) m x.1.1 y two in
        let third = lets_allot (take (let_count new.steps) new.steps) x.1.0 y.1.1 z three in
        allots_joined P x.0 (y.0 ++ (z.0 ++ choice s us vs)) p.buffer x.1.1.buffer r.buffer first
        (allots_joined P y.0 (z.0 ++ choice s us vs) x.1.1.buffer y.1.1.buffer r.buffer second (allots_joined P z.0 (choice s us vs) y.1.1.buffer z.1.1.buffer r.buffer third chosen));
    window = λ f m p q n i l at later e. let w = held_is i l m p q e in ap (λ (u : SoFar). u.buffer) w.1;
  }
