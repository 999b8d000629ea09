-- A run of cells that are noted as taken all at once.
use Rattle.std.proofs.Common.{◌≡◌, ◌≢◌, ℕ, zero, suc, ◌+◌, ◌-◌, ◌<◌, ◌≤◌, List, length, set, get_or, Bool, true, false, Option, Some, None, arith, ap, refl, sym, ◌∙◌, subst, inl, inr}
use Rattle.std.specs.Prelude.{◌⊎◌, slice_get}
use Rattle.std.proofs.lemmas.Grind.{get_or-set_at}
use Rattle.std.proofs.lemmas.Bool.{cases_lt, cases_eq, false≢true}
use Rattle.std.proofs.lemmas.List.{get_or-set_other, length-set}
use Rattle.std.proofs.lemmas.Option.{none-some, same_Some, slice_get-get_or, slice_get_past, slice_get_within}
use Rattle.orders.specs.Work.{OwnIsParted}
use Rattle.orders.specs.declared.cell_runs.CellRun.{CellRun}
use Rattle.shares.specs.Taken.{AreTaken, HasRun, free_count}
use Rattle.shares.proofs.Taking.{taken_more, taken_clash, free_less}

-- so many cells taken, one after another
abbrev pub filled : List Bool → ℕ → ℕ → List Bool
filled taken first zero = taken
filled taken first (suc n) = set (filled taken first n) (first + n) true

-- the first cells of the run, so many, are free
abbrev pub AreFree : List Bool → ℕ → ℕ → Type 0
AreFree taken first n = (k : ℕ) → k < n → slice_get taken (first + k) ≡ Some false

pub filled_long : (taken : List Bool) (first n : ℕ) → length (filled taken first n) ≡ length taken
filled_long taken first zero = refl
filled_long taken first (suc n) = length-set (filled taken first n) (first + n) true ∙ filled_long taken first n

pub filled_get : (taken : List Bool) (first n i : ℕ) (d : Bool) → first + n ≤ i → get_or (filled taken first n) i d ≡ get_or taken i d
filled_get taken first zero i d from = refl
filled_get taken first (suc n) i d from =
    get_or-set_other (filled taken first n) (first + n) i true d (λ same. (let e : i ≡ first + n = same in absurd (omega (arith, e, from)))) ∙ filled_get taken first n i d (omega (arith, from))

pub filled_before : (taken : List Bool) (first n i : ℕ) (d : Bool) → i < first → get_or (filled taken first n) i d ≡ get_or taken i d
filled_before taken first zero i d under = refl
filled_before taken first (suc n) i d under =
    get_or-set_other (filled taken first n) (first + n) i true d (λ same. (let e : i ≡ first + n = same in absurd (omega (arith, e, under)))) ∙ filled_before taken first n i d under

pub filled_inside : (taken : List Bool) (first n i : ℕ) (d : Bool) → first ≤ i → i < first + n → i < length taken → get_or (filled taken first n) i d ≡ true
filled_inside taken first zero i d from to less = absurd (omega (arith, from, to))
filled_inside taken first (suc n) i d from to less = elim (cases_eq i (first + n)) [
  | inl is ↦ (let long = filled_long taken first n in get_or-set_at (filled taken first n) (first + n) i true d is (omega (arith, is, less, long)))
  | inr other ↦ get_or-set_other (filled taken first n) (first + n) i true d other ∙ filled_inside taken first n i d from (omega (arith, other, to)) less
]

-- the cells behind those are as they were
filled_behind : (taken : List Bool) (first n i : ℕ) → first + n ≤ i → slice_get (filled taken first n) i ≡ slice_get taken i
filled_behind taken first n i from = elim (cases_lt i (length taken)) [
  | inl less ↦
      let long = filled_long taken first n in
      slice_get-get_or (filled taken first n) i false (omega (arith, less, long)) ∙ ap Some (filled_get taken first n i false from) ∙ sym (slice_get-get_or taken i false less)
  | inr past ↦
      let long = filled_long taken first n in
      slice_get_past (filled taken first n) i (omega (arith, past, long)) ∙ sym (slice_get_past taken i past)
]

fewer : (taken : List Bool) (first n : ℕ) → AreFree taken first (suc n) → AreFree taken first n
fewer taken first n free k less = free k (omega (arith, less))

-- what is taken then
pub taken_filled : (own : ℕ → List ℕ) (taken : List Bool) (p a : ℕ) (r : CellRun) → HasRun (own p) a r → AreTaken own taken p a → (n : ℕ) → n ≤ r.count → AreFree taken r.first n →
    AreTaken own (filled taken r.first n) p (a + n)
taken_filled own taken p a r has start zero fits free = subst (AreTaken own taken p) (let e : a ≡ a + 0 = omega arith in e) start
taken_filled own taken p a r has start (suc n) fits free =
    let here = has n (omega (arith, fits)) in
    let before = taken_filled own taken p a r has start n (omega (arith, fits)) (fewer taken r.first n free) in
    let is_free : slice_get (filled taken r.first n) (r.first + n) ≡ Some false = filled_behind taken r.first n (r.first + n) (omega arith) ∙ free n (omega arith) in
    subst (AreTaken own (filled taken r.first (suc n)) p) (let e : a + n + 1 ≡ a + suc n = omega arith in e) (taken_more own (filled taken r.first n) p (a + n) (r.first + n) before here.0 (sym here.1) is_free)

pub free_filled : (taken : List Bool) (first n : ℕ) → AreFree taken first n → free_count (filled taken first n) + n ≡ free_count taken
free_filled taken first zero free = omega arith
free_filled taken first (suc n) free =
    let before = free_filled taken first n (fewer taken first n free) in
    let is_free : slice_get (filled taken first n) (first + n) ≡ Some false = filled_behind taken first n (first + n) (omega arith) ∙ free n (omega arith) in
    let less = free_less (filled taken first n) (first + n) is_free in
    omega (arith, before, less)

is_free_or : (o : Option Bool) → (o ≡ Some false) ⊎ (o ≡ Some false → ⊥)
is_free_or None = inr (λ e. absurd (none-some false e))
is_free_or (Some false) = inl refl
is_free_or (Some true) = inr (λ e. absurd (false≢true (sym (same_Some true false e))))

-- all are free, or there is a first one that is not
first_held : (taken : List Bool) (first n : ℕ) → AreFree taken first n ⊎ ((k : ℕ) × (k < n) × AreFree taken first k × (slice_get taken (first + k) ≡ Some false → ⊥))
first_held taken first zero = inl (λ k less. absurd (omega (arith, less)))
first_held taken first (suc n) = elim (first_held taken first n) [
  | inr held ↦ inr (held.0, (let less = held.1 in omega (arith, less)), held.2, held.3)
  | inl free ↦ elim (is_free_or (slice_get taken (first + n))) [
    | inl one ↦ inl (λ k less. elim (cases_lt k n) [
      | inl low ↦ free k low
      | inr from ↦ subst (λ (i : ℕ). slice_get taken (first + i) ≡ Some false) (let e : n ≡ k = omega (arith, less, from) in e) one
    ])
    | inr none ↦ inr (n, omega arith, free, none)
  ]
]

-- where not all are free, own cells leave the table or stand twice
pub run_clash : (own : ℕ → List ℕ) (taken : List Bool) (p a : ℕ) (r : CellRun) → HasRun (own p) a r → AreTaken own taken p a → (AreFree taken r.first r.count → ⊥) → OwnIsParted (p + 1) (length taken) own → ⊥
run_clash own taken p a r has start held parted = elim (first_held taken r.first r.count) [
  | inl free ↦ held free
  | inr one ↦
      let k = one.0 in
      let here = has k one.1 in
      let less = one.1 in
      let before = taken_filled own taken p a r has start k (omega (arith, less)) one.2 in
      taken_clash own (filled taken r.first k) p (a + k) (r.first + k) before here.0 (sym here.1) (λ free. one.3 (sym (filled_behind taken r.first k (r.first + k) (omega arith)) ∙ free))
      (subst (λ (m : ℕ). OwnIsParted (p + 1) m own) (sym (filled_long taken r.first k)) parted)
]

-- and where the run leaves the table, its last cell is not free
pub run_leaves : (taken : List Bool) (first count : ℕ) → 0 < count → length taken < first + count → AreFree taken first count → ⊥
run_leaves taken first count some past free =
    let last : count - 1 < count = omega (arith, some) in
    let w = slice_get_within taken (first + (count - 1)) false (free (count - 1) last) in omega (arith, w, past, some)
