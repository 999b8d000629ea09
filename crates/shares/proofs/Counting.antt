-- How much pieces fetch and need in all.
use Rattle.std.proofs.Common.{◌≡◌, ℕ, zero, suc, ◌+◌, ◌-◌, ◌<◌, ◌≤◌, ◌^◌, length, arith, ap, refl, sym, ◌∙◌, subst, inl, inr, Ok, Err}
use Rattle.std.specs.Prelude.{Result, IsErrAnd}
use Rattle.plan.specs.Plan.{Plan}
use Rattle.plan.specs.Certificate.Certificate.{Certificate}
use Rattle.plan.specs.Certificate.Cells.{pieces}
use Rattle.shares.specs.declared.stop.Stop.{Stop}
use Rattle.shares.specs.declared.stop.Stop.TheVariants.{Unserved, Large, Memory}
use Rattle.shares.specs.Layout.{FetchesCells, fetched_list, needs_list}
use Rattle.shares.specs.Has.{fetched_before, needed_before, AreFew, NeedsPieces}
use Rattle.shares.specs.Stops.{FetchStops, NeedStops, StopMeans}
use Rattle.shares.specs.Made.{TroubleMeans, trouble_of}

fetched_more : (p : Plan) (n m : ℕ) → fetched_before p n ≤ fetched_before p (m + n)
fetched_more p n zero = let e : 0 + n ≡ n = omega arith in let same = ap (fetched_before p) e in omega (arith, same)
fetched_more p n (suc m) = let h = fetched_more p n m in let e : suc m + n ≡ suc (m + n) = omega arith in let same = ap (fetched_before p) e in omega (arith, h, same)

needed_more : (p : Plan) (c : Certificate) (n m : ℕ) → needed_before p c n ≤ needed_before p c (m + n)
needed_more p c n zero = let e : 0 + n ≡ n = omega arith in let same = ap (needed_before p c) e in omega (arith, same)
needed_more p c n (suc m) = let h = needed_more p c n m in let e : suc m + n ≡ suc (m + n) = omega arith in let same = ap (needed_before p c) e in omega (arith, h, same)

fetched_least : (p : Plan) (n count : ℕ) → n < count → fetched_before p n + length (fetched_list p n) ≤ fetched_before p count
fetched_least p n count less =
    let e : (count - suc n) + suc n ≡ count = omega (arith, less) in
    subst (λ (m : ℕ). fetched_before p (suc n) ≤ fetched_before p m) e (fetched_more p (suc n) (count - suc n))

pub needed_least : (p : Plan) (c : Certificate) (n count : ℕ) → n < count → needed_before p c n + length (needs_list p c n) ≤ needed_before p c count
needed_least p c n count less =
    let e : (count - suc n) + suc n ≡ count = omega (arith, less) in
    subst (λ (m : ℕ). needed_before p c (suc n) ≤ needed_before p c m) e (needed_more p c (suc n) (count - suc n))

-- with this piece the limit is passed
many_fetched : (p : Plan) (c : Certificate) (n room : ℕ) → n < length (pieces p) → room + fetched_before p n ≡ 2 ^ 26 → room < length (fetched_list p n) → ¬ AreFew p c
many_fetched p c n room less all past few =
    let least = fetched_least p n (length (pieces p)) less in
    let most = few.fetched in
    omega (arith, all, past, least, most)

many_needed : (p : Plan) (c : Certificate) (n room : ℕ) → n < length (pieces p) → room + needed_before p c n ≡ 2 ^ 24 → room < length (needs_list p c n) → ¬ AreFew p c
many_needed p c n room less all past few =
    let least = needed_least p c n (length (pieces p)) less in
    let most = few.needed in
    omega (arith, all, past, least, most)

pub trouble_means : (p : Plan) (c : Certificate) (n count cells needs : ℕ) (stop : Stop) → n < count → count ≡ length (pieces p) → cells + fetched_before p n ≡ 2 ^ 26 → needs + needed_before p c n ≡ 2 ^ 24 →
    StopMeans p c n cells needs stop → TroubleMeans p c count (trouble_of n stop)
trouble_means p c n count cells needs Unserved less many f k means = (less, means)
trouble_means p c n count cells needs Large less many f k means = (
  less,
  elim means [
    | inl past ↦ many_fetched p c n cells (omega (arith, less, many)) f past
    | inr past ↦ many_needed p c n needs (omega (arith, less, many)) k past
  ],
)
trouble_means p c n count cells needs Memory less many f k means = tt

-- ---- why the lists of a piece are not made

pub fetch_stops : (p : Plan) (n room : ℕ) (stop : Stop) → (stop ≡ Unserved → ¬ FetchesCells p n) → (stop ≡ Large → room < length (fetched_list p n)) → FetchStops p n room stop
fetch_stops p n room Unserved h k = h refl
fetch_stops p n room Large h k = k refl
fetch_stops p n room Memory h k = tt

pub need_stops : (p : Plan) (c : Certificate) (n room : ℕ) (stop : Stop) → (stop ≡ Unserved → ¬ NeedsPieces p c n) → ¬ (stop ≡ Large) → NeedStops p c n room stop
need_stops p c n room Unserved h k = h refl
need_stops p c n room Large h k = absurd (k refl)
need_stops p c n room Memory h k = tt

pub stops_fetching : (p : Plan) (c : Certificate) (n cells needs : ℕ) (stop : Stop) → FetchStops p n cells stop → StopMeans p c n cells needs stop
stops_fetching p c n cells needs Unserved h = λ served. h served.cells
stops_fetching p c n cells needs Large h = inl h
stops_fetching p c n cells needs Memory h = tt

pub stops_needing : (p : Plan) (c : Certificate) (n cells needs : ℕ) (stop : Stop) → NeedStops p c n needs stop → StopMeans p c n cells needs stop
stops_needing p c n cells needs Unserved h = λ served. h served.pieces
stops_needing p c n cells needs Large h = inr h
stops_needing p c n cells needs Memory h = tt

-- ---- one piece more

pub fetched_next : (p : Plan) (n : ℕ) → fetched_before p (n + 1) ≡ fetched_before p n + length (fetched_list p n)
fetched_next p n = let e : n + 1 ≡ suc n = omega arith in ap (fetched_before p) e

pub needed_next : (p : Plan) (c : Certificate) (n : ℕ) → needed_before p c (n + 1) ≡ needed_before p c n + length (needs_list p c n)
needed_next p c n = let e : n + 1 ≡ suc n = omega arith in ap (needed_before p c) e

-- at the end all is counted
pub are_few : (p : Plan) (c : Certificate) (n cells needs : ℕ) → n ≡ length (pieces p) → cells + fetched_before p n ≡ 2 ^ 26 → needs + needed_before p c n ≡ 2 ^ 24 → AreFew p c
are_few p c n cells needs e f k =
    let fetched = ap (fetched_before p) e in
    let needed = ap (needed_before p c) e in
    record { fetched = omega (arith, f, fetched); needed = omega (arith, k, needed) }

-- a fault that a call handed on
pub err_kept : {A B : Type 0} (r : Result A Stop) (s : Result B Stop) (e x : Stop) → IsErrAnd r (λ y. y ≡ e) → s ≡ Err e → r ≡ Err x → s ≡ Err x
err_kept (Ok v) s e x h is k = absurd h
err_kept (Err y) s e x h is k = let same : y ≡ x = cc k in is ∙ ap (λ (z : Stop). Err z) (sym h ∙ same)
