-- The bits of a lent operand at the turns before the numbers that are lent, among them and behind them, and registers in three parts.
use Rattle.std.proofs.Common.{◌≡◌, ℕ, ◌+◌, ◌-◌, ◌<◌, ◌≤◌, List, ◌++◌, length, get_or, take, drop, min, replicate, Option, Some, None, inl, inr, sym, ap, subst, ◌∙◌, arith, ℤ, pos}
use Rattle.std.specs.Prelude.{◌+ℤ◌}
use Rattle.std.proofs.lemmas.Bool.{cases_lt}
use Rattle.std.proofs.lemmas.Grind.{get_or_default_zero}
use Rattle.std.proofs.lemmas.List.{get_or_append_left, get_or-append-add, get_or_past, get_or-replicate, get_or-take, get_or-drop, length-take, length-drop, length-append, length-replicate}
use Rattle.numeric.specs.declared.op.Op.TheVariants.{Mul}
use Rattle.numeric.specs.declared.ty.Ty.{Ty}
use Rattle.numeric.specs.Apply.{apply, exact}
use Rattle.numeric.specs.Wrap.{wrap}
use Rattle.tree.specs.declared.value.Value.{Value}
use Rattle.tree.specs.Meaning.{typed}
use Rattle.interpreter.specs.declared.evaluation.lanes.Number.{Number}
use Rattle.interpreter.specs.declared.evaluation.lent_row.LentOperand.{LentOperand}
use Rattle.interpreter.specs.Evaluation.Lending.{lent, lent_bits, times_factor}
use Rattle.interpreter.specs.Evaluation.Words.{bits_at}
use Rattle.interpreter.proofs.EachWord.{wrap_twice}
use Rattle.interpreter.proofs.ClampedRamps.{front_word, later_word}

-- what a product wraps to, and a number that a factor makes of one
pub product_wrapped : (t : Ty) (w z : ℤ) → wrap t (apply Mul t w z) ≡ apply Mul t w z
product_wrapped t w z = wrap_twice t (exact Mul w z)

pub times_wrapped : (t : Ty) (f : Option Number) (z : ℤ) → wrap t (times_factor t f (wrap t z)) ≡ times_factor t f (wrap t z)
times_wrapped t None z = wrap_twice t z
times_wrapped t (Some w) z = product_wrapped t w.value (wrap t z)

pub bits_before : (o : LentOperand) (k : ℕ) → k < o.before → lent_bits o k ≡ o.low
bits_before o k lt =
    let long = length-replicate o.before o.low in
    get_or_append_left (replicate o.before o.low) (lent o.numbers) o.high k (omega (arith, long, lt)) ∙ get_or-replicate o.before k o.low o.high lt

pub bits_among : (o : LentOperand) (k : ℕ) → k < length (lent o.numbers) → lent_bits o (o.before + k) ≡ bits_at (lent o.numbers) k
bits_among o k lt =
    ap (λ (n : ℕ). get_or (replicate o.before o.low ++ lent o.numbers) (n + k) o.high) (sym (length-replicate o.before o.low))
    ∙ get_or-append-add (replicate o.before o.low) (lent o.numbers) k o.high
    ∙ get_or_default_zero (lent o.numbers) k o.high lt

pub bits_behind : (o : LentOperand) (k : ℕ) → o.before + length (lent o.numbers) ≤ k → lent_bits o k ≡ o.high
bits_behind o k from =
    let long = length-replicate o.before o.low in
    let all = length-append (replicate o.before o.low) (lent o.numbers) in
    get_or_past (replicate o.before o.low ++ lent o.numbers) k o.high (omega (arith, long, all, from))

-- the numbers of a part of those that are lent
pub in_part : (o : LentOperand) (part : List ℕ) (start long : ℕ) → o.before ≤ start → length part ≡ long → part ≡ take long (drop (start - o.before) (lent o.numbers)) → (k : ℕ) → k < long →
    bits_at part k ≡ lent_bits o (start + k)
in_part o part start long from is same k lt =
    let skipped : ℕ = start - o.before in
    let all : List ℕ = lent o.numbers in
    let taken : length part ≡ min long (length (drop skipped all)) = ap length same ∙ length-take long (drop skipped all) in
    let dropped : length (drop skipped all) ≡ length all - skipped = length-drop skipped all in
    let inside : skipped + k < length all = omega (arith, is, taken, dropped, lt) in
    let there : o.before + (skipped + k) ≡ start + k = omega (arith, from) in
    ap (λ (xs : List ℕ). bits_at xs k) same ∙ get_or-take long (drop skipped all) k 0 lt ∙ get_or-drop skipped all k 0
    ∙ sym (bits_among o (skipped + k) inside) ∙ ap (lent_bits o) there

-- what is found along a row, before which and behind which it is what its first and its last number are
pub lent_bent : (find : ℤ → Option Value) (at : ℕ → ℤ) (o : LentOperand) (start : ℤ) (last n : ℕ) → last + 1 ≡ length (lent o.numbers) →
    o.low ≡ bits_at (lent o.numbers) 0 → o.high ≡ bits_at (lent o.numbers) last →
    ((k : ℕ) → k < o.before → at k ≡ start +ℤ pos 0) →
    ((k : ℕ) → k < length (lent o.numbers) → at (o.before + k) ≡ start +ℤ pos k) →
    ((k : ℕ) → o.before + length (lent o.numbers) ≤ k → k < n → at k ≡ start +ℤ pos last) →
    ((k : ℕ) → k < length (lent o.numbers) → find (start +ℤ pos k) ≡ Some (typed o.ty (wrap o.ty (pos (bits_at (lent o.numbers) k))))) →
    (k : ℕ) → k < n → find (at k) ≡ Some (typed o.ty (wrap o.ty (pos (lent_bits o k))))
lent_bent find at o start last n long low_is high_is at_low at_rising at_high found_at k lt =
    let value : ℕ → Option Value = λ (w : ℕ). Some (typed o.ty (wrap o.ty (pos w))) in
    let count : ℕ = length (lent o.numbers) in
    elim (cases_lt k o.before) [
      | inl less ↦ ap find (at_low k less) ∙ found_at 0 (omega (arith, long)) ∙ ap value (sym (bits_before o k less ∙ low_is))
      | inr past ↦ elim (cases_lt k (o.before + count)) [
        | inl less ↦
            (let j : ℕ = k - o.before in
            let is : k ≡ o.before + j = omega (arith, past) in
            let inside : j < count = omega (arith, past, less) in
            ap (λ (i : ℕ). find (at i)) is ∙ ap find (at_rising j inside) ∙ found_at j inside ∙ ap value (sym (ap (lent_bits o) is ∙ bits_among o j inside)))
        | inr beyond ↦ ap find (at_high k beyond lt) ∙ found_at last (omega (arith, long)) ∙ ap value (sym (bits_behind o k beyond ∙ high_is))
      ]
    ]

-- what holds of each turn and its words in three parts of a register, before and after, holds in all of it
pub three_parts : (P : ℕ → ℕ → ℕ → Type 0) (old rest low mid high left middle right : List ℕ) (n m : ℕ) → old ≡ low ++ rest → rest ≡ mid ++ high → length low ≡ n → length mid ≡ m →
    length left ≡ n → length middle ≡ m →
    ((k : ℕ) → k < length left → P k (bits_at low k) (bits_at left k)) →
    ((k : ℕ) → k < length middle → P (n + k) (bits_at mid k) (bits_at middle k)) →
    ((k : ℕ) → k < length right → P (n + (m + k)) (bits_at high k) (bits_at right k)) →
    (k : ℕ) → k < length (left ++ (middle ++ right)) → P k (bits_at old k) (bits_at (left ++ (middle ++ right)) k)
three_parts P old rest low mid high left middle right n m split cut old_long old_wide long wide on_left on_middle on_right k lt =
    let whole : List ℕ = left ++ (middle ++ right) in
    let all : length whole ≡ length left + length (middle ++ right) = length-append left (middle ++ right) in
    let later : length (middle ++ right) ≡ length middle + length right = length-append middle right in
    let behind : (j : ℕ) → bits_at rest j ≡ bits_at old (n + j) = λ j.
    sym (ap (λ (xs : List ℕ). bits_at xs (n + j)) split ∙ ap (λ (i : ℕ). bits_at (low ++ rest) (i + j)) (sym old_long) ∙ later_word low rest j) in
    elim (cases_lt k n) [
      | inl less ↦
          (let inside : k < length left = omega (arith, long, less) in
          subst (λ (w : ℕ). P k (bits_at old k) w) (sym (front_word left (middle ++ right) k inside))
          (subst (λ (w : ℕ). P k w (bits_at left k)) (sym (ap (λ (xs : List ℕ). bits_at xs k) split ∙ front_word low rest k (omega (arith, old_long, less)))) (on_left k inside)))
      | inr past ↦ elim (cases_lt k (n + m)) [
        | inl less ↦
            (let j : ℕ = k - n in
            let is : n + j ≡ k = omega (arith, past) in
            let there : k ≡ length left + j = omega (arith, past, long) in
            let small : j < m = omega (arith, past, less) in
            let inside : j < length middle = omega (arith, small, wide) in
            subst (λ (w : ℕ). P k (bits_at old k) w) (sym (ap (bits_at whole) there ∙ later_word left (middle ++ right) j ∙ front_word middle right j inside))
            (subst (λ (i : ℕ). P i (bits_at old i) (bits_at middle j)) is
            (subst (λ (w : ℕ). P (n + j) w (bits_at middle j)) (sym (ap (λ (xs : List ℕ). bits_at xs j) cut ∙ front_word mid high j (omega (arith, small, old_wide))) ∙ behind j) (on_middle
            j inside))))
        | inr beyond ↦
            (let j : ℕ = k - (n + m) in
            let is : n + (m + j) ≡ k = omega (arith, beyond) in
            let there : k ≡ length left + (length middle + j) = omega (arith, beyond, long, wide) in
            let inside : j < length right = omega (arith, beyond, long, wide, lt, all, later) in
            subst (λ (w : ℕ). P k (bits_at old k) w) (sym (ap (bits_at whole) there ∙ later_word left (middle ++ right) (length middle + j) ∙ later_word middle right j))
            (subst (λ (i : ℕ). P i (bits_at old i) (bits_at right j)) is
            (subst (λ (w : ℕ). P (n + (m + j)) w (bits_at right j))
            (sym (ap (λ (xs : List ℕ). bits_at xs (m + j)) cut ∙ ap (λ (i : ℕ). bits_at (mid ++ high) (i + j)) (sym old_wide) ∙ later_word mid high j) ∙ behind (m + j)) (on_right j inside))))
      ]
    ]
