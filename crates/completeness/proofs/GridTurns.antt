-- The loops of a function: which names are those of parallel loops, and what they stand for.
use Rattle.std.proofs.Common.{◌≡◌, ℕ, zero, suc, ◌+◌, ◌<◌, ◌≤◌, Bool, true, false, List, [], ◌∷◌, ◌++◌, length, Some, None, refl, sym, ap, ◌∙◌, inl, inr, ◌⊎◌, arith}
use Rattle.std.specs.Prelude.{if◌then◌else◌, find, filter, reverse}
use Rattle.std.specs.List.{AllByRecursion}
use Rattle.std.specs.Option.{option_map}
use Rattle.std.proofs.lemmas.List.{reverse-append, length-map}
use Rattle.meaning.specs.Names.{same_name}
use Rattle.soundness.proofs.Refines.{name_refl, name_true}
use Rattle.sched.specs.declared.numbers.Numbers.{Numbers}
use Rattle.sched.specs.declared.placing.Loop.{Loop}
use Rattle.sched.specs.declared.skeleton.Known.{Known}
use Rattle.sched.specs.Numbers.{numbers_named, parallel_loops, grid_counts, or_one}
use Rattle.sched.specs.Placing.{is_parallel}
use Rattle.sched.specs.Standing.{form_named, counted_from}
use Rattle.sched.specs.Skeleton.{grid_forms}
use Rattle.completeness.proofs.PlainTurns.{one_if, hits, hits_append}
use Rattle.completeness.proofs.PureNests.{loop_name}

-- ---- loops that are parallel, and others

none_parallel : (x : List ℕ) (ls : List Loop) → hits loop_name x (parallel_loops ls) ≡ 0 → AllByRecursion (λ o. o.name ≡ x → is_parallel o ≡ false) ls
none_parallel x [] h = tt
none_parallel x (o ∷ ls) h = of (is_parallel o) refl h (λ k. none_parallel x ls k)
  where
    named : o.name ≡ x → one_if (same_name o.name x) ≡ 1
    named name = ap one_if (ap (same_name o.name) (sym name) ∙ name_refl o.name)

    of : (b : Bool) → is_parallel o ≡ b → hits loop_name x (if b then o ∷ parallel_loops ls else parallel_loops ls) ≡ 0 →
        (hits loop_name x (parallel_loops ls) ≡ 0 → AllByRecursion (λ o. o.name ≡ x → is_parallel o ≡ false) ls) → AllByRecursion (λ o. o.name ≡ x → is_parallel o ≡ false) (o ∷ ls)
    of true e k rest = (λ name. (let counts = named name in absurd (omega (arith, counts, k))), rest (omega (arith, k)))
    of false e k rest = (λ name. e, rest k)

pub filter_joined : (f : Loop → Bool) (xs ys : List Loop) → filter f (xs ++ ys) ≡ filter f xs ++ filter f ys
filter_joined f [] ys = refl
filter_joined f (x ∷ xs) ys = of (f x) (filter_joined f xs ys)
  where
    of : (b : Bool) → filter f (xs ++ ys) ≡ filter f xs ++ filter f ys →
        (if b then x ∷ filter f (xs ++ ys) else filter f (xs ++ ys)) ≡ (if b then x ∷ filter f xs else filter f xs) ++ filter f ys
    of true h = ap (λ (ls : List Loop). x ∷ ls) h
    of false h = h

pub hits_back : (f : Loop → Bool) (y : List ℕ) (ls : List Loop) → hits loop_name y (filter f (reverse ls)) ≡ hits loop_name y (filter f ls)
hits_back f y [] = refl
hits_back f y (l ∷ ls) =
    let one = ap (λ (ms : List Loop). hits loop_name y (filter f ms)) (reverse-append (l ∷ []) ls) ∙ ap (hits loop_name y) (filter_joined f (reverse ls) (l ∷ []))
    ∙ hits_append loop_name y (filter f (reverse ls)) (filter f (l ∷ [])) in
    let rest = hits_back f y ls in
    let two = of (f l) in
    omega (arith, one, rest, two)
  where
    of : (b : Bool) → hits loop_name y (if b then l ∷ filter f ls else filter f ls) ≡ hits loop_name y (if b then l ∷ [] else []) + hits loop_name y (filter f ls)
    of true = omega arith
    of false = omega arith

-- where what one takes the other does not, both together take no more than all
pub two_parts : (f g : Loop → Bool) → ((l : Loop) → f l ≡ true → g l ≡ false) → (y : List ℕ) (ls : List Loop) → hits loop_name y (filter f ls) + hits loop_name y (filter g ls) ≤ hits loop_name y ls
two_parts f g apart y [] = omega arith
two_parts f g apart y (l ∷ ls) = of (f l) (g l) refl refl (two_parts f g apart y ls)
  where
    of : (b c : Bool) → f l ≡ b → g l ≡ c → hits loop_name y (filter f ls) + hits loop_name y (filter g ls) ≤ hits loop_name y ls →
        hits loop_name y (if b then l ∷ filter f ls else filter f ls) + hits loop_name y (if c then l ∷ filter g ls else filter g ls) ≤ one_if (same_name l.name y) + hits loop_name y ls
    of true true p q h = (let clash : true ≡ false = sym q ∙ apart l p in absurd (cc clash))
    of true false p q h = omega (arith, h)
    of false true p q h = omega (arith, h)
    of false false p q h = omega (arith, h)

-- ---- what names stand for over the grid

pub grid_none : (rs : List Numbers) (y : List ℕ) (s : ℕ) (ls : List Loop) → hits loop_name y ls ≡ 0 → form_named (grid_forms rs s ls) y ≡ None
grid_none rs y s [] h = refl
grid_none rs y s (l ∷ ls) h = of (same_name l.name y) h (λ k. grid_none rs y (s + 1) ls k)
  where
    of : (b : Bool) → one_if b + hits loop_name y ls ≡ 0 → (hits loop_name y ls ≡ 0 → form_named (grid_forms rs (s + 1) ls) y ≡ None) →
        option_map (λ (u : Known). u.form)
        (if b then Some (record { name = l.name; form = counted_from (numbers_named rs l.name).low s }) else find (λ u. same_name u.name y) (grid_forms rs (s + 1) ls)) ≡ None
    of true k rest = absurd (omega (arith, k))
    of false k rest = rest (omega (arith, k))

pub grid_some : (rs : List Numbers) (y : List ℕ) (s : ℕ) (ls : List Loop) → 1 ≤ hits loop_name y ls →
    (i : ℕ) × (form_named (grid_forms rs s ls) y ≡ Some (counted_from (numbers_named rs y).low i)) × (i < s + length ls)
grid_some rs y s [] h = absurd (omega (arith, h))
grid_some rs y s (l ∷ ls) h = of (same_name l.name y) refl h (λ k. grid_some rs y (s + 1) ls k)
  where
    of : (b : Bool) → same_name l.name y ≡ b → 1 ≤ one_if b + hits loop_name y ls →
        (1 ≤ hits loop_name y ls → (i : ℕ) × (form_named (grid_forms rs (s + 1) ls) y ≡ Some (counted_from (numbers_named rs y).low i)) × (i < (s + 1) + length ls)) →
        (i : ℕ) × (option_map (λ (u : Known). u.form)
        (if b then Some (record { name = l.name; form = counted_from (numbers_named rs l.name).low s }) else find (λ u. same_name u.name y) (grid_forms rs (s + 1) ls))
        ≡ Some (counted_from (numbers_named rs y).low i)) × (i < s + suc (length ls))
    of true e k rest = (s, ap (λ (x : List ℕ). Some (counted_from (numbers_named rs x).low s)) (name_true l.name y e), omega arith)
    of false e k rest = (let r = rest (omega (arith, k)) in let less = r.2 in (r.0, r.1, omega (arith, less)))

-- a name is that of a parallel loop, or of none
pub record OverGrid (rs : List Numbers) (ls : List Loop) (y : List ℕ) : Type 0 where
  pub symbol : ℕ
  pub named : form_named (grid_forms rs 0 (parallel_loops ls)) y ≡ Some (counted_from (numbers_named rs y).low symbol)
  pub low : symbol < length (or_one (grid_counts rs (parallel_loops ls)))

pub record NotOverGrid (rs : List Numbers) (ls : List Loop) (y : List ℕ) : Type 0 where
  pub named : form_named (grid_forms rs 0 (parallel_loops ls)) y ≡ None
  pub own : AllByRecursion (λ o. o.name ≡ y → is_parallel o ≡ false) ls

counts_long : (rs : List Numbers) (ls : List Loop) → length ls ≤ length (or_one (grid_counts rs ls))
counts_long rs [] = omega arith
counts_long rs (l ∷ ls) = (let many = length-map ls (λ (l : Loop). (numbers_named rs l.name).count) in omega (arith, many))

pub either_name : (rs : List Numbers) (ls : List Loop) (y : List ℕ) → OverGrid rs ls y ⊎ NotOverGrid rs ls y
either_name rs ls y = of (hits loop_name y (parallel_loops ls)) refl
  where
    of : (m : ℕ) → hits loop_name y (parallel_loops ls) ≡ m → OverGrid rs ls y ⊎ NotOverGrid rs ls y
    of zero e = inr (record { named = grid_none rs y 0 (parallel_loops ls) e; own = none_parallel y ls e })
    of (suc m) e =
        let r = grid_some rs y 0 (parallel_loops ls) (omega (arith, e)) in
        let less = r.2 in
        let many = counts_long rs (parallel_loops ls) in
        inl (record { symbol = r.0; named = r.1; low = omega (arith, less, many) })
