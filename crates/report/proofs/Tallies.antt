-- What is known of symbols, one bound more, and counts of lines under it.
use Rattle.std.proofs.Common.{◌≡◌, ℕ, ◌+◌, ◌*◌, ◌^◌, ◌-◌, ◌<◌, ◌≤◌, min, Bool, true, false, not, List, [], ◌∷◌, ◌++◌, length, refl, sym, ap, ◌∙◌, subst, arith, ℤ, pos, ◌+ℤ◌, ◌≤ℤ◌, ◌<ℤ◌, T, negsuc}
use lib.Signed.{le_z_yes, lt_z_yes}
use Rattle.std.specs.Prelude.{◌==◌, if◌then◌else◌, int_le, int_lt, sum_by}
use Rattle.std.proofs.lemmas.Bool.Decides.{nat_tests}
use Rattle.std.proofs.lemmas.Int.{ints}
use Rattle.std.proofs.lemmas.Bool.{eqb-true, leb-false}
use Rattle.std.proofs.lemmas.List.Sums.{fold_push, sum_by-append}
use Rattle.lin.specs.Forms.{Form}
use Rattle.plan.specs.declared.stmt.Pick.{Pick}
use Rattle.plan.specs.declared.stmt.Pick.TheVariants.{Min, Max}
use Rattle.interpreter.specs.Bindings.{named_value}
use Rattle.plan.specs.Plan.{Statement, Let, Statements, Empty, Then}
use Rattle.plan.specs.Symbols.{Symbols, bind}
use Rattle.plan.specs.Semantics.Actions.{after}
use Rattle.interpreter.specs.Visits.{between}
use Rattle.interpreter.proofs.Counting.{between_none}
use Rattle.report.specs.declared.known.Binding.{Binding}
use Rattle.report.specs.declared.counting.Turns.{Turns}
use Rattle.report.specs.declared.ranges.Range.{Range}
use Rattle.report.specs.Costs.{capped, up_to}
use Rattle.report.specs.Counting.{Fits, BlockFits, in_turn, IsTally, IsBlockTally, IsTurnsTally}
use Rattle.report.specs.Known.{known_of, unbound, Allows, AllowsAll, IsSettled, AllSettled}
use Rattle.report.specs.Ranges.{numbers, Holds, IsOne}
use Rattle.report.specs.Tally.{block_tally, tally, Counted}
use Rattle.report.proofs.Bindings.{step}
use Rattle.report.proofs.Sums.{added, enough_is, lower_limit, none_left}
use Rattle.report.proofs.Turns.{between_alike, between_parts, multiplied}

-- ---- one more symbol bound

known_push : (known : List Binding) (b : Binding) (i : ℕ) → known_of (known ++ b ∷ []) i ≡ (if b.symbol == i then b else known_of known i)
known_push known b i = fold_push (step i) (unbound i) known b

swapped : (m n : ℕ) → (m == n) ≡ (n == m)
swapped m n = grind (arith, nat_tests)

chosen : (t u : Bool) (b c : Binding) (z w : ℤ) (f g : Bool) → t ≡ u → Allows b z f → Allows c w g → Allows (if t then b else c) (if u then z else w) (if u then f else g)
chosen true true b c z w f g e h k = h
chosen false false b c z w f g e h k = k
chosen true false b c z w f g e h k = absurd (cc)
chosen false true b c z w f g e h k = absurd (cc)

pub allows_more : (known more : List Binding) (b : Binding) (s : Symbols) (z : ℤ) (f : Bool) → more ≡ known ++ b ∷ [] → AllowsAll known s → Allows b z f → AllowsAll more (bind s b.symbol z f)
allows_more known more b s z f is all one i =
    subst (λ (c : Binding). Allows c ((bind s b.symbol z f).value i) ((bind s b.symbol z f).first i)) (sym (ap (λ (l : List Binding). known_of l i) is ∙ known_push known b i))
    (chosen (b.symbol == i) (i == b.symbol) b (known_of known i) z (s.value i) f (s.first i) (swapped b.symbol i) one (all i))

-- the same where the symbol has had the value before
pub allows_same : (known more : List Binding) (b : Binding) (s : Symbols) → more ≡ known ++ b ∷ [] → AllowsAll known s → Allows b (s.value b.symbol) (s.first b.symbol) → AllowsAll more s
allows_same known more b s is all one i =
    subst (λ (c : Binding). Allows c (s.value i) (s.first i)) (sym (ap (λ (l : List Binding). known_of l i) is ∙ known_push known b i)) (by (b.symbol == i) refl)
  where
    by : (t : Bool) → (b.symbol == i) ≡ t → Allows (if t then b else known_of known i) (s.value i) (s.first i)
    by true e = subst (λ (k : ℕ). Allows b (s.value k) (s.first k)) (eqb-true b.symbol i e) one
    by false e = all i

settled_by : (t : Bool) (b c : Binding) → IsSettled b → IsSettled c → IsSettled (if t then b else c)
settled_by true b c h k = h
settled_by false b c h k = k

pub settled_more : (known more : List Binding) (b : Binding) → more ≡ known ++ b ∷ [] → AllSettled known → IsSettled b → AllSettled more
settled_more known more b is all one i =
    subst IsSettled (sym (ap (λ (l : List Binding). known_of l i) is ∙ known_push known b i)) (settled_by (b.symbol == i) b (known_of known i) one (all i))

-- ---- turns

abbrev pub turns_binding : Turns → Binding
turns_binding t = record { symbol = t.symbol; low = t.range.low; high = t.range.high; first = int_le t.range.low t.start; later = int_lt t.start t.range.high }

pub le_true : (x y : ℤ) → int_le x y ≡ true → x ≤ℤ y
le_true x y e = le_z_yes (subst T (sym e) tt)

pub lt_true : (x y : ℤ) → int_lt x y ≡ true → x <ℤ y
lt_true x y e = lt_z_yes (subst T (sym e) tt)

is_so : (t : Bool) → T t → t ≡ true
is_so true h = refl
is_so false h = absurd h

pub is_le : (x y : ℤ) → x ≤ℤ y → int_le x y ≡ true
is_le x y h = is_so (int_le x y) h.le

is_lt : (x y : ℤ) → x <ℤ y → int_lt x y ≡ true
is_lt x y h = is_so (int_lt x y) h.lt

pub le_false : (x y : ℤ) → int_le x y ≡ false → y <ℤ x
le_false (pos a) (pos b) e = omega (arith, ints, leb-false a b e)
le_false (pos a) (negsuc b) e = omega (arith, ints)
le_false (negsuc a) (pos b) e = absurd (cc)
le_false (negsuc a) (negsuc b) e = omega (arith, ints, leb-false b a e)

not_lt : (x y : ℤ) → y ≤ℤ x → int_lt x y ≡ false
not_lt x y h = by (int_lt x y) refl
  where
    by : (b : Bool) → int_lt x y ≡ b → int_lt x y ≡ false
    by true e = absurd (let l : x <ℤ y = lt_true x y e in omega (arith, ints))
    by false e = e

pub turn_allowed : (t : Turns) (z : ℤ) → Holds t.range z → Allows (turns_binding t) z (int_le z t.start)
turn_allowed t z h = record {
  low = h.low;
  high = h.high;
  first = λ e. let l : z ≤ℤ t.start = le_true z t.start e in is_le t.range.low t.start (omega (arith, ints, h.low));
  later = λ e. let l : t.start <ℤ z = le_false z t.start e in is_lt t.start t.range.high (omega (arith, ints, h.high));
}

turn_settled : (t : Turns) → t.range.low ≡ t.range.high → IsSettled (turns_binding t)
turn_settled t e = record { value = e; turn = by (int_le t.range.low t.start) refl }
  where
    by : (b : Bool) → int_le t.range.low t.start ≡ b → int_lt t.start t.range.high ≡ not (int_le t.range.low t.start)
    by true f = not_lt t.start t.range.high (let l : t.range.low ≤ℤ t.start = le_true t.range.low t.start f in omega (arith, ints, e)) ∙ ap not (sym f)
    by false f = is_lt t.start t.range.high (let l : t.start <ℤ t.range.low = le_false t.range.low t.start f in omega (arith, ints, e)) ∙ ap not (sym f)

-- turns that count the same
pub alike : (x : Counted) (known more : List Binding) (a : Statement) (t : Turns) (each n total : ℕ) → x.enough < 2 ^ 64 →
    more ≡ known ++ turns_binding t ∷ [] → IsTally x more a each → n ≡ capped (length (numbers t.range)) → total ≡ min (each * n) (2 ^ 64 - 1) → IsTurnsTally x known a t total
alike x known more a t each n total small is one count e = record {
  is = λ s allows fits.
      let f : ℤ → ℕ = λ z. tally x a (in_turn s t z) in
      lower_limit x.enough total (length (numbers t.range) * each) small (e ∙ ap (λ (m : ℕ). min (each * m) (2 ^ 64 - 1)) count ∙ multiplied each (length (numbers t.range)))
      ∙ sym (between_alike x.enough f each t.range.low t.range.high (λ z from to.
      let h : Holds t.range z = record { low = from; high = to } in
      one.is (in_turn s t z) (allows_more known more (turns_binding t) s z (int_le z t.start) is allows (turn_allowed t z h)) (fits z h)));
}

-- so much is counted, and what is left from a turn on
pub record IsTurnsSum (x : Counted) (known : List Binding) (a : Statement) (t : Turns) (low : ℤ) (total : ℕ) : Type 0 where
  pub is : (s : Symbols) → AllowsAll known s → ((z : ℤ) → Holds t.range z → Fits a (in_turn s t z))
      → up_to x.enough (total + sum_by (λ z. tally x a (in_turn s t z)) (between low t.range.high)) ≡ up_to x.enough (sum_by (λ z. tally x a (in_turn s t z)) (numbers t.range))

abbrev pub part : Turns → ℤ → ℤ → Turns
part t low high = record { symbol = t.symbol; start = t.start; range = record { low = low; high = high } }

pub turns_begun : (x : Counted) (known : List Binding) (a : Statement) (t : Turns) → IsTurnsSum x known a t t.range.low 0
turns_begun x known a t = record {
  is = λ s allows fits.
      let f : ℤ → ℕ = λ z. tally x a (in_turn s t z) in
      let e : 0 + sum_by f (numbers t.range) ≡ sum_by f (numbers t.range) = omega arith in
      ap (up_to x.enough) e;
}

-- some turns more
pub turns_more : (x : Counted) (known : List Binding) (a : Statement) (t : Turns) (low high : ℤ) (total more n : ℕ) → x.enough < 2 ^ 64 → t.range.low ≤ℤ low → low ≤ℤ high → high ≤ℤ t.range.high →
    IsTurnsSum x known a t low total → IsTurnsTally x known a (part t low high) more → n ≡ min (total + more) (2 ^ 64 - 1) → IsTurnsSum x known a t (high +ℤ pos 1) n
turns_more x known a t low high total more n small first from to sum one e = record {
  is = λ s allows fits.
      let f : ℤ → ℕ = λ z. tally x a (in_turn s t z) in
      let parts : sum_by f (between low t.range.high) ≡ sum_by f (between low high) + sum_by f (between (high +ℤ pos 1) t.range.high) =
      ap (sum_by f) (between_parts low high t.range.high from to) ∙ sum_by-append f (between low high) (between (high +ℤ pos 1) t.range.high) in
      added x.enough total more (sum_by f (between low high)) (sum_by f (between (high +ℤ pos 1) t.range.high)) (sum_by f (numbers t.range)) n small
      (one.is s allows (λ z h. fits z (record { low = omega (arith, ints, h.low); high = omega (arith, ints, h.high) })))
      e
      (ap (λ (m : ℕ). up_to x.enough (total + m)) (sym parts) ∙ sum.is s allows fits);
}

-- no turn is left
pub turns_done : (x : Counted) (known : List Binding) (a : Statement) (t : Turns) (low : ℤ) (total : ℕ) → t.range.high <ℤ low → IsTurnsSum x known a t low total → IsTurnsTally x known a t total
turns_done x known a t low total none sum = record {
  is = λ s allows fits.
      let f : ℤ → ℕ = λ z. tally x a (in_turn s t z) in
      none_left x.enough total (sum_by f (between low t.range.high)) (sum_by f (numbers t.range)) (ap (sum_by f) (between_none low t.range.high none)) (sum.is s allows fits);
}

-- enough turns were counted
pub turns_enough : (x : Counted) (known : List Binding) (a : Statement) (t : Turns) (low : ℤ) (total : ℕ) → x.enough ≤ total → IsTurnsSum x known a t low total → IsTurnsTally x known a t total
turns_enough x known a t low total most sum = record {
  is = λ s allows fits.
      let f : ℤ → ℕ = λ z. tally x a (in_turn s t z) in
      enough_is x.enough total (sum_by f (between low t.range.high)) (sum_by f (numbers t.range)) most (sum.is s allows fits);
}

-- ---- blocks

-- what is left of a block, and the symbols before it
pub record Left (x : Counted) (here : List Binding) (rest : Statements) (total whole : ℕ) : Type 0 where
  pub s : Symbols
  pub allows : AllowsAll here s
  pub fits : BlockFits rest s
  pub sum : up_to x.enough (total + block_tally x rest s) ≡ up_to x.enough whole

pub record IsBlockSum (x : Counted) (known : List Binding) (all : Statements) (here : List Binding) (rest : Statements) (total : ℕ) : Type 0 where
  pub is : (s : Symbols) → AllowsAll known s → BlockFits all s → Left x here rest total (block_tally x all s)

pub block_begun : (x : Counted) (known here : List Binding) (all : Statements) → here ≡ known → IsBlockSum x known all here all 0
block_begun x known here all e = record {
  is = λ s allows fits.
      let none : 0 + block_tally x all s ≡ block_tally x all s = omega arith in
      record { s = s; allows = subst (λ (l : List Binding). AllowsAll l s) (sym e) allows; fits = fits; sum = ap (up_to x.enough) none };
}

left_more : (x : Counted) (here next : List Binding) (a : Statement) (rest : Statements) (total more n whole : ℕ) → x.enough < 2 ^ 64 → Left x here (Then a rest) total whole →
    IsTally x here a more → n ≡ min (total + more) (2 ^ 64 - 1)
    → ((s : Symbols) → AllowsAll here s → Fits a s → AllowsAll next (after a s)) → Left x next rest n whole
left_more x here next a rest total more n whole small l one e goes = record {
  s = after a l.s;
  allows = goes l.s l.allows l.fits.0;
  fits = l.fits.1;
  sum = added x.enough total more (tally x a l.s) (block_tally x rest (after a l.s)) whole n small (one.is l.s l.allows l.fits.0) e l.sum;
}

pub block_more : (x : Counted) (known here next : List Binding) (all rest from : Statements) (a : Statement) (total more n : ℕ) → x.enough < 2 ^ 64 → from ≡ Then a rest →
    IsBlockSum x known all here from total → IsTally x here a more
    → n ≡ min (total + more) (2 ^ 64 - 1) → ((s : Symbols) → AllowsAll here s → Fits a s → AllowsAll next (after a s)) → IsBlockSum x known all next rest n
block_more x known here next all rest from a total more n small is sum one e goes = record {
  is = λ s allows fits.
      left_more x here next a rest total more n (block_tally x all s) small (subst (λ (l : Statements). Left x here l total (block_tally x all s)) is (sum.is s allows fits)) one e goes;
}

pub block_done : (x : Counted) (known here : List Binding) (all rest : Statements) (total : ℕ) → rest ≡ Empty → IsBlockSum x known all here rest total → IsBlockTally x known all total
block_done x known here all rest total none sum = record {
  is = λ s allows fits.
      let l : Left x here Empty total (block_tally x all s) = subst (λ (r : Statements). Left x here r total (block_tally x all s)) none (sum.is s allows fits) in
      none_left x.enough total 0 (block_tally x all s) refl l.sum;
}

-- enough of the block was counted
pub block_enough : (x : Counted) (known here : List Binding) (all rest : Statements) (total : ℕ) → x.enough ≤ total → IsBlockSum x known all here rest total → IsBlockTally x known all total
block_enough x known here all rest total most sum = record {
  is = λ s allows fits.
      let l : Left x here rest total (block_tally x all s) = sum.is s allows fits in
      enough_is x.enough total (block_tally x rest l.s) (block_tally x all s) most l.sum;
}

-- ---- what is known behind a `let`

after_let : (i : ℕ) (k : Pick) (ls : List Form) (s : Symbols) → bind s i (named_value k s ls) true ≡ after (Let i k ls) s
after_let i Min ls s = refl
after_let i Max ls s = refl

pub let_allowed : (known new : List Binding) (b : Binding) (i : ℕ) (k : Pick) (ls : List Form) (r : Range) (s : Symbols)
    → new ≡ known ++ b ∷ [] → b ≡ record { symbol = i; low = r.low; high = r.high; first = true; later = false }
    → AllowsAll known s → Holds r (named_value k s ls) → AllowsAll new (after (Let i k ls) s)
let_allowed known new b i k ls r s is eb all h =
    let c : Binding = record { symbol = i; low = r.low; high = r.high; first = true; later = false } in
    subst (AllowsAll new) (after_let i k ls s)
    (allows_more known new c s (named_value k s ls) true (is ∙ ap (λ (d : Binding). known ++ d ∷ []) eb) all (record { low = h.low; high = h.high; first = λ e. refl; later = λ e. absurd (cc) }))

pub let_settled : (known new : List Binding) (b : Binding) (i : ℕ) (r : Range)
    → new ≡ known ++ b ∷ [] → b ≡ record { symbol = i; low = r.low; high = r.high; first = true; later = false } → AllSettled known → IsOne r → AllSettled new
let_settled known new b i r is eb all one = settled_more known new b is all (subst IsSettled (sym eb) (record { value = one; turn = refl }))
