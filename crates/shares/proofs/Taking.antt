-- The table of taken cells, as it is filled.
use Rattle.std.proofs.Common.{◌≡◌, ℕ, zero, suc, ◌+◌, ◌<◌, ◌≤◌, List, [], ◌∷◌, length, map, set, get_or, replicate, Bool, true, false, cond, arith, ap, refl, sym, ◌∙◌, subst, Option, Some, None, nat_eq}
use Rattle.std.specs.Prelude.{Contains, IsTrue, IsFalse, slice_get, not, is_some}
use Rattle.std.specs.Option.{option_map}
use Rattle.std.proofs.lemmas.Bool.{false≢true}
use Rattle.std.proofs.lemmas.Bool.Decides.{nat_tests}
use Rattle.std.proofs.lemmas.List.{map-set, length-map, get_or-map}
use Rattle.std.proofs.lemmas.List.Folds.{sum_by-replicate}
use Rattle.std.proofs.lemmas.List.Sums.{sum_by-set, sum_by-cons}
use Rattle.std.proofs.lemmas.Option.{none-some, same_Some, slice_get-map, slice_get_within, get_or_from_slice_get}
use Rattle.orders.specs.Work.{OwnIsParted, OwnIsWhole}
use Rattle.orders.proofs.Claiming.{claimed_none, claimed_more, claimed_next, claimed_clash, claimed_parted, claimed_whole, unowned}
use Rattle.shares.specs.Taken.{AreTaken, free_count}

-- ---- owners and taken cells

abbrev none : Option ℕ
none = None

replicated : (n : ℕ) → replicate n false ≡ map is_some (replicate n none)
replicated zero = refl
replicated (suc n) = ap (λ (bs : List Bool). false ∷ bs) (replicated n)

-- in an empty table nothing is taken
pub taken_none : (own : ℕ → List ℕ) (n : ℕ) → AreTaken own (replicate n false) 0 0
taken_none own n = (replicate n none, claimed_none own n, replicated n)

unset : (o : Option (Option ℕ)) → option_map is_some o ≡ Some false → o ≡ Some None
unset None e = absurd (none-some false e)
unset (Some None) e = refl
unset (Some (Some k)) e = absurd (false≢true (sym (same_Some true false e)))

free_owner : (taken : List Bool) (owners : List (Option ℕ)) (k : ℕ) → taken ≡ map is_some owners → slice_get taken k ≡ Some false → slice_get owners k ≡ Some None
free_owner taken owners k is free = unset (slice_get owners k) (sym (slice_get-map is_some owners k) ∙ ap (λ (bs : List Bool). slice_get bs k) (sym is) ∙ free)

free_taken : (taken : List Bool) (owners : List (Option ℕ)) (k : ℕ) → taken ≡ map is_some owners → slice_get owners k ≡ Some None → slice_get taken k ≡ Some false
free_taken taken owners k is free = ap (λ (bs : List Bool). slice_get bs k) is ∙ slice_get-map is_some owners k ∙ ap (option_map is_some) free

-- one more place
pub taken_more : (own : ℕ → List ℕ) (taken : List Bool) (p a cell : ℕ) → AreTaken own taken p a → a < length (own p) → cell ≡ get_or (own p) a 0 → slice_get taken cell ≡ Some false → AreTaken own (set taken cell true) p (a + 1)
taken_more own taken p a cell t lt is free = (
  set t.0 cell (Some p),
  claimed_more own t.0 p a cell t.1 lt is (free_owner taken t.0 cell t.2 free),
  ap (λ (bs : List Bool). set bs cell true) t.2 ∙ sym (map-set is_some t.0 cell (Some p)),
)

-- after the last place comes the next piece
pub taken_next : (own : ℕ → List ℕ) (taken : List Bool) (p a : ℕ) → AreTaken own taken p a → a ≡ length (own p) → AreTaken own taken (p + 1) 0
taken_next own taken p a t end = (t.0, claimed_next own t.0 p a t.1 end, t.2)

long_owners : (own : ℕ → List ℕ) (taken : List Bool) (p a : ℕ) (t : AreTaken own taken p a) → length t.0 ≡ length taken
long_owners own taken p a t = sym (length-map t.0 is_some) ∙ ap length (sym t.2)

-- a cell that is not free shows that own cells leave the table or stand twice
pub taken_clash : (own : ℕ → List ℕ) (taken : List Bool) (p a cell : ℕ) → AreTaken own taken p a → a < length (own p) → cell ≡ get_or (own p) a 0 → (slice_get taken cell ≡ Some false → ⊥) → OwnIsParted (p + 1) (length taken) own → ⊥
taken_clash own taken p a cell t lt is held parted =
    claimed_clash own t.0 p a cell t.1 lt is (λ free. held (free_taken taken t.0 cell t.2 free)) (subst (λ (n : ℕ). OwnIsParted (p + 1) n own) (sym (long_owners own taken p a t)) parted)

-- what a table of taken cells says of the own lists
pub taken_parted : (own : ℕ → List ℕ) (taken : List Bool) (pieces cells : ℕ) → AreTaken own taken pieces 0 → length taken ≡ cells → OwnIsParted pieces cells own
taken_parted own taken pieces cells t long = claimed_parted own t.0 pieces cells t.1 (long_owners own taken pieces 0 t ∙ long)

-- so of the first pieces
pub parted_earlier : (own : ℕ → List ℕ) (pieces cells n : ℕ) → n ≤ pieces → OwnIsParted pieces cells own → OwnIsParted n cells own
parted_earlier own pieces cells n fits parted = (λ p cell lt has. parted.0 p cell (omega (arith, lt, fits)) has, λ p q a b p_in q_in. parted.1 p q a b (omega (arith, p_in, fits)) (omega (arith, q_in, fits)))

-- ---- how many cells are free

abbrev free_one : Bool → ℕ
free_one b = cond (not b) 1 0

-- a cell that is taken is one less
pub free_less : (taken : List Bool) (cell : ℕ) → slice_get taken cell ≡ Some false → free_count (set taken cell true) + 1 ≡ free_count taken
free_less taken cell free =
    let step = sum_by-set free_one taken cell true false (slice_get_within taken cell false free) in
    let this : free_one (get_or taken cell false) ≡ free_one false = ap free_one (get_or_from_slice_get taken cell false false free) in
    omega (arith, step, this)

-- at first all are
pub free_start : (n : ℕ) → free_count (replicate n false) ≡ n
free_start n = let all = sum_by-replicate free_one n false in omega (arith, all)

pub none_over : (m : ℕ) → IsTrue (nat_eq m 0) → m ≡ 0
none_over m e = grind (arith, nat_tests)

pub some_over : (m : ℕ) → IsFalse (nat_eq m 0) → 1 ≤ m
some_over m e = grind (arith, nat_tests)

full : (taken : List Bool) → free_count taken ≡ 0 → (k : ℕ) → k < length taken → get_or taken k false ≡ true
full [] e k less = absurd (omega (arith, less))
full (true ∷ bs) e zero less = refl
full (true ∷ bs) e (suc k) less = let more = sum_by-cons free_one true bs in full bs (omega (arith, e, more)) k (omega (arith, less))
full (false ∷ bs) e k less = let more = sum_by-cons free_one false bs in absurd (omega (arith, e, more))

-- where none is free each cell is some piece's own
pub taken_whole : (own : ℕ → List ℕ) (taken : List Bool) (pieces cells : ℕ) → AreTaken own taken pieces 0 → length taken ≡ cells → free_count taken ≡ 0 → OwnIsWhole pieces cells own
taken_whole own taken pieces cells t long none_free =
    let same = long_owners own taken pieces 0 t in
    claimed_whole own t.0 pieces cells t.1 (λ c lt.
    sym (get_or-map is_some t.0 c None false (omega (arith, lt, same, long))) ∙ ap (λ (bs : List Bool). get_or bs c false) (sym t.2) ∙ full taken none_free c (omega (arith, lt, long)))

some_free : (taken : List Bool) → 1 ≤ free_count taken → (y : ℕ) × (slice_get taken y ≡ Some false)
some_free [] h = absurd (omega (arith, h))
some_free (false ∷ bs) h = (0, refl)
some_free (true ∷ bs) h = let more = sum_by-cons free_one true bs in let rest = some_free bs (omega (arith, h, more)) in (suc rest.0, rest.1)

-- where some is free no piece owns it
pub taken_gap : (own : ℕ → List ℕ) (taken : List Bool) (pieces cells : ℕ) → AreTaken own taken pieces 0 → length taken ≡ cells → 1 ≤ free_count taken →
    (y : ℕ) × (y < cells) × ((k : ℕ) → k < pieces → ¬ Contains (own k) y)
taken_gap own taken pieces cells t long some =
    let y = some_free taken some in
    let within = slice_get_within taken y.0 false y.1 in (
      y.0,
      omega (arith, within, long),
      λ k less has. unowned own t.0 pieces y.0 k t.1 (free_owner taken t.0 y.0 t.2 y.1) less has,
    )
