-- Two loops over a store with a named number between them: what their first turns do is what the inner loop alone does, where it goes
-- on behind its last turn.
use Rattle.std.proofs.Common.{◌≡◌, ℕ, zero, suc, ◌+◌, ◌*◌, ◌<◌, List, [], ◌∷◌, ◌++◌, map, take, length}
use Rattle.std.proofs.Common.{length-append, Bool, true, refl, sym, ap, subst, ◌∙◌, arith, ℤ, pos, ◌+ℤ◌, ◌-ℤ◌, ◌≤ℤ◌, Option, None, Err}
use Rattle.std.specs.Prelude.{◌==◌, if◌then◌else◌, ◌*ℤ◌, All, Contains, flat_map, int_le}
use Rattle.std.specs.Int.{int_min}
use Rattle.std.proofs.lemmas.Int.{ints, int_min_is}
use Rattle.std.proofs.lemmas.List.{append-nil}
use Rattle.std.proofs.lemmas.List.Elements.{All-from_recursion, recursion_from_All}
use Rattle.std.specs.List.{AllByRecursion}
use Rattle.std.proofs.lemmas.Grind.{flat_map-append}
use Rattle.std.proofs.Math.IntN.{*ℤ_comm}
use Rattle.numeric.proofs.Ints.{distribute_right, multiple_assoc, multiply_order}
use Rattle.tree.specs.Term.{term_of}
use Rattle.lin.specs.Forms.{Form, factor_of, value_of}
use Rattle.plan.specs.declared.stmt.Coordinate.{Coordinate}
use Rattle.plan.specs.Plan.{Coordinate as PlanCoordinate, Index, At, Found, Statement, Seq, Then, Empty}
use Rattle.plan.specs.View.{coordinate_of}
use Rattle.plan.specs.Symbols.{Symbols, bind, form_value, largest, rising}
use Rattle.plan.specs.Semantics.Actions.{Action, Fixed, Setting, target, index_target, actions}
use Rattle.plan.specs.Semantics.Found.{with}
use Rattle.plan.specs.Semantics.Run.{Around}
use Rattle.interpreter.specs.declared.evaluation.stop.Stop.{Stop}
use Rattle.interpreter.specs.declared.evaluation.stop.Stop.TheVariants.{Fault, Full}
use Rattle.interpreter.specs.declared.piece.Piece.{Piece}
use Rattle.interpreter.specs.declared.shifting.Alike.{Alike}
use Rattle.interpreter.specs.declared.shifting.Name.{Name}
use Rattle.interpreter.specs.declared.shifting.NamedLoop.{NamedLoop}
use Rattle.interpreter.specs.declared.turns.Turns.{Turns}
use Rattle.interpreter.specs.Bindings.{Bindings, also, symbols_of}
use Rattle.interpreter.specs.declared.symbols.Binding.{Binding}
use Rattle.interpreter.specs.Joining.{in_first}
use Rattle.interpreter.specs.Narrow.{IsNumber, FormIsNarrow, IndexIsNarrow, StatementIsNarrow}
use Rattle.interpreter.specs.Needs.{Kept, Space, StatementFits}
use Rattle.interpreter.specs.Pieces.{setting}
use Rattle.interpreter.specs.Runs.{store_at}
use Rattle.interpreter.specs.Shifting.{in_name, in_turn, AreAlike, AreApart, CoordinatesRise, GoesOn, IndexRises, IsFirstForm, IsNamedLoop, NameIsNarrow}
use Rattle.interpreter.specs.States.{EndsIn}
use Rattle.interpreter.specs.Steps.{Progress, steps}
use Rattle.interpreter.specs.Targets.{CoordinateIsNarrow}
use Rattle.interpreter.specs.Visits.{between}
use lib.IntN.{nat_abs}
use Rattle.interpreter.proofs.Bindings.{bound_now, extends_also, extends_both, kept}
use Rattle.interpreter.proofs.Counting.{between_has, in_rising}
use Rattle.interpreter.proofs.Moving.{form_moved}
use Rattle.interpreter.proofs.OneLines.{line_narrow}
use Rattle.interpreter.proofs.Shorts.{all_unmapped}
use Rattle.interpreter.proofs.Steps.{steps-append}
use Rattle.interpreter.proofs.StoreRuns.{between_parts}
use Rattle.interpreter.proofs.TwoLoops.{LineFits, counted, in_rows, inner_actions, loops_fit, risen, rows, span_turns, stored_same, swapped}

-- ---- forms

-- three symbols that rise are as many multiples more
three_risen : (l : Form) (s : Symbols) (i u j : ℕ) (a k b r c t : ℤ) (d f g h : Bool) → AreApart i u j →
    form_value l (bind (bind (bind s i (a +ℤ k) f) u (b +ℤ r) g) j (c +ℤ t) h)
    ≡ form_value l (bind (bind (bind s i a d) u b g) j c h) +ℤ factor_of l.terms i *ℤ k +ℤ factor_of l.terms u *ℤ r +ℤ factor_of l.terms j *ℤ t
three_risen l s i u j a k b r c t d f g h apart =
    let w = bind s i (a +ℤ k) f in
    let last = form_moved l (bind w u (b +ℤ r) g) j c t h h in
    let middle = form_moved l (bind w j c h) u b r g g in
    let first = form_moved l (bind (bind s u b g) j c h) i a k f d in
    let one = ap (value_of l) (swapped w u j (b +ℤ r) c g h apart.inner) in
    let two = ap (value_of l) (swapped w u j b c g h apart.inner) in
    let outermost : (z : ℤ) (e : Bool) → form_value l (bind (bind (bind s i z e) u b g) j c h) ≡ form_value l (bind (bind (bind s u b g) j c h) i z e) = λ z e.
    let inside : (bind (bind (bind s i z e) u b g) j c h).value ≡ (bind (bind (bind s u b g) i z e) j c h).value = λ x m. if m == j then c else swapped s i u z b e g apart.name x m in
    ap (value_of l) inside ∙ ap (value_of l) (swapped (bind s u b g) i j z c e h apart.loops) in
    let three = outermost (a +ℤ k) f in
    let four = outermost a d in
    omega (arith, ints, last, middle, first, one, two, three, four)

-- the value of a form in a turn of both loops
pub form_turn : (l m : Form) (s : Symbols) (i u j : ℕ) (a c : ℤ) (p q n : ℕ) (f g d e t : Bool) → AreApart i u j →
    factor_of l.terms i +ℤ factor_of l.terms u *ℤ factor_of m.terms i ≡ factor_of l.terms j *ℤ pos n →
    form_value l (bind (bind (bind s i (a +ℤ pos p) f) u (form_value m (bind s i (a +ℤ pos p) f)) t) j (c +ℤ pos q) g)
    ≡ form_value l (bind (bind (bind s i a d) u (form_value m (bind s i a d)) t) j (c +ℤ pos (p * n + q)) e)
form_turn l m s i u j a c p q n f g d e t apart rises =
    let k = factor_of m.terms i in
    let b = form_value m (bind s i a d) in
    let named : form_value m (bind s i (a +ℤ pos p) f) ≡ b +ℤ k *ℤ pos p = form_moved m s i a (pos p) f d in
    let here = three_risen l s i u j a (pos p) b (k *ℤ pos p) c (pos q) d f t g apart in
    let there = form_moved l (bind (bind s i a d) u b t) j c (pos (p * n + q)) e g in
    let fi = factor_of l.terms i in
    let fu = factor_of l.terms u in
    let fj = factor_of l.terms j in
    let outer : fi *ℤ pos p +ℤ fu *ℤ (k *ℤ pos p) ≡ (fi +ℤ fu *ℤ k) *ℤ pos p = ap (λ (z : ℤ). fi *ℤ pos p +ℤ z) (multiple_assoc fu k (pos p)) ∙ sym (distribute_right fi (fu *ℤ k) (pos p)) in
    let both = risen (fi +ℤ fu *ℤ k) fj n p q rises in
    let same : form_value l (bind (bind (bind s i (a +ℤ pos p) f) u (b +ℤ k *ℤ pos p) t) j (c +ℤ pos q) g) ≡ form_value l (bind (bind (bind s i a d) u b t) j (c +ℤ pos (p * n + q)) e) =
    omega (arith, ints, here, there, outer, both) in
    ap (λ (z : ℤ). form_value l (bind (bind (bind s i (a +ℤ pos p) f) u z t) j (c +ℤ pos q) g)) named ∙ same

index_turn : (x : Index) (m : Form) (s : Symbols) (i u j : ℕ) (a c : ℤ) (p q n : ℕ) (f g d e t : Bool) → AreApart i u j → IndexRises i u j (factor_of m.terms i) (pos n) x →
    index_target (bind (bind (bind s i (a +ℤ pos p) f) u (form_value m (bind s i (a +ℤ pos p) f)) t) j (c +ℤ pos q) g) x
    ≡ index_target (bind (bind (bind s i a d) u (form_value m (bind s i a d)) t) j (c +ℤ pos (p * n + q)) e) x
index_turn (At l) m s i u j a c p q n f g d e t apart h = ap Fixed (form_turn l m s i u j a c p q n f g d e t apart h)
index_turn (Found y) m s i u j a c p q n f g d e t apart h = refl

index_narrow : (x : Index) (m : Form) (s : Symbols) (i u j : ℕ) (a c : ℤ) (p q n : ℕ) (f g d e t : Bool) → AreApart i u j → IndexRises i u j (factor_of m.terms i) (pos n) x →
    IndexIsNarrow (bind (bind (bind s i (a +ℤ pos p) f) u (form_value m (bind s i (a +ℤ pos p) f)) t) j (c +ℤ pos q) g) x →
    IndexIsNarrow (bind (bind (bind s i a d) u (form_value m (bind s i a d)) t) j (c +ℤ pos (p * n + q)) e) x
index_narrow (At l) m s i u j a c p q n f g d e t apart h narrow = record { limits = narrow.limits; value = subst IsNumber (form_turn l m s i u j a c p q n f g d e t apart h) narrow.value }
index_narrow (Found y) m s i u j a c p q n f g d e t apart h narrow = tt

targets_turn : (cs : List Coordinate) (m : Form) (s : Symbols) (i u j : ℕ) (a c : ℤ) (p q n : ℕ) (f g d e t : Bool) → AreApart i u j → CoordinatesRise i u j (factor_of m.terms i) (pos n) cs →
    map (target (bind (bind (bind s i (a +ℤ pos p) f) u (form_value m (bind s i (a +ℤ pos p) f)) t) j (c +ℤ pos q) g)) (map coordinate_of cs)
    ≡ map (target (bind (bind (bind s i a d) u (form_value m (bind s i a d)) t) j (c +ℤ pos (p * n + q)) e)) (map coordinate_of cs)
targets_turn [] m s i u j a c p q n f g d e t apart h = refl
targets_turn (x ∷ cs) m s i u j a c p q n f g d e t apart h =
    λ k. index_turn (coordinate_of x).index m s i u j a c p q n f g d e t apart h.0 k ∷ targets_turn cs m s i u j a c p q n f g d e t apart h.1 k

each_narrow : (cs : List Coordinate) (m : Form) (s : Symbols) (i u j : ℕ) (a c : ℤ) (p q n : ℕ) (f g d e t : Bool) → AreApart i u j → CoordinatesRise i u j (factor_of m.terms i) (pos n) cs →
    AllByRecursion (CoordinateIsNarrow (bind (bind (bind s i (a +ℤ pos p) f) u (form_value m (bind s i (a +ℤ pos p) f)) t) j (c +ℤ pos q) g)) cs →
    AllByRecursion (CoordinateIsNarrow (bind (bind (bind s i a d) u (form_value m (bind s i a d)) t) j (c +ℤ pos (p * n + q)) e)) cs
each_narrow [] m s i u j a c p q n f g d e t apart h narrow = tt
each_narrow (x ∷ cs) m s i u j a c p q n f g d e t apart h narrow =
    (index_narrow (coordinate_of x).index m s i u j a c p q n f g d e t apart h.0 narrow.0, each_narrow cs m s i u j a c p q n f g d e t apart h.1 narrow.1)

all_narrow : (cs : List Coordinate) (m : Form) (s : Symbols) (i u j : ℕ) (a c : ℤ) (p q n : ℕ) (f g d e t : Bool) → AreApart i u j → CoordinatesRise i u j (factor_of m.terms i) (pos n) cs →
    All (CoordinateIsNarrow (bind (bind (bind s i (a +ℤ pos p) f) u (form_value m (bind s i (a +ℤ pos p) f)) t) j (c +ℤ pos q) g)) cs →
    All (CoordinateIsNarrow (bind (bind (bind s i a d) u (form_value m (bind s i a d)) t) j (c +ℤ pos (p * n + q)) e)) cs
all_narrow cs m s i u j a c p q n f g d e t apart h narrow =
    let before = bind (bind (bind s i (a +ℤ pos p) f) u (form_value m (bind s i (a +ℤ pos p) f)) t) j (c +ℤ pos q) g in
    let after = bind (bind (bind s i a d) u (form_value m (bind s i a d)) t) j (c +ℤ pos (p * n + q)) e in
    All-from_recursion (CoordinateIsNarrow after) cs (each_narrow cs m s i u j a c p q n f g d e t apart h (recursion_from_All (CoordinateIsNarrow before) cs narrow))

-- a name that is its first form in a turn is so in each turn before it, where its first form rises no slower than its other
earlier : (x : Name) (s : Symbols) (i : ℕ) (z : ℤ) (n : ℕ) (b c : Bool) → factor_of x.other.now.terms i ≤ℤ factor_of x.form.now.terms i →
    IsFirstForm x (bind s i (z +ℤ pos n) b) → IsFirstForm x (bind s i z c)
earlier x s i z n b c slower first =
    let form = form_moved x.form.now s i z (pos n) b c in
    let other = form_moved x.other.now s i z (pos n) b c in
    let k = factor_of x.form.now.terms i in
    let o = factor_of x.other.now.terms i in
    let same : (y : ℤ) → y *ℤ pos n ≡ pos n *ℤ y = λ y. *ℤ_comm y (pos n) in
    let some : pos 0 ≤ℤ pos n = omega (arith, ints) in
    let less : (pos n *ℤ o) ≤ℤ (pos n *ℤ k) = multiply_order (pos n) o k some slower in
    omega (arith, ints, form, other, same k, same o, less, first)

-- the name is narrow in each turn
pub narrow_at : (x : Name) (t : Turns) (old new : Bindings) (z w : ℤ) → ((z : ℤ) → Contains (between t.low t.high) z → NameIsNarrow x (in_turn t z (symbols_of old))) →
    new ≡ old → w ≡ z → t.low ≤ℤ z → z ≤ℤ t.high → NameIsNarrow x (in_turn t w (symbols_of new))
narrow_at x t old new z w narrow kept same from to =
    subst (λ (b : Bindings). NameIsNarrow x (in_turn t w (symbols_of b))) (sym kept)
    (subst (λ (v : ℤ). NameIsNarrow x (in_turn t v (symbols_of old))) (sym same) (narrow z (between_has t.low t.high z from to)))

-- ---- lists

begun : (f g : ℤ → List Action) (a : ℤ) (m : ℕ) → ((p : ℕ) → p < m → f (a +ℤ pos p) ≡ g (a +ℤ pos p)) → flat_map f (rising a m) ≡ flat_map g (rising a m)
begun f g a zero h = refl
begun f g a (suc m) h =
    let none : a ≡ a +ℤ pos 0 = omega (arith, ints) in
    let some : 0 < suc m = omega arith in
    let here : f a ≡ g a = ap f none ∙ h 0 some ∙ ap g (sym none) in
    let later : (p : ℕ) → p < m → f (a +ℤ pos 1 +ℤ pos p) ≡ g (a +ℤ pos 1 +ℤ pos p) = λ p lt.
    let next : a +ℤ pos 1 +ℤ pos p ≡ a +ℤ pos (suc p) = omega (arith, ints) in
    let less : suc p < suc m = omega (arith, lt) in
    ap f next ∙ h (suc p) less ∙ ap g (sym next) in
    λ i. here i ++ begun f g (a +ℤ pos 1) m later i

-- the first turns of a loop, and then what is left
pub parts : (A : Around) (f : ℤ → List Action) (low high next : ℤ) (n : ℕ) (p : Progress) → next ≡ low +ℤ pos n → next ≤ℤ (high +ℤ pos 1) →
    steps A (flat_map f (between low high)) p ≡ with (steps A (flat_map f (rising low n)) p) (steps A (flat_map f (between next high)))
parts A f low high next n p is le =
    ap (λ (zs : List ℤ). steps A (flat_map f zs) p) (between_parts low high n (subst (λ (z : ℤ). z ≤ℤ (high +ℤ pos 1)) is le))
    ∙ ap (λ (l : List Action). steps A l p) (flat_map-append f (rising low n) (between (low +ℤ pos n) high))
    ∙ steps-append A (flat_map f (rising low n)) (flat_map f (between (low +ℤ pos n) high)) p
    ∙ ap (λ (z : ℤ). with (steps A (flat_map f (rising low n)) p) (steps A (flat_map f (between z high)))) (sym is)

-- ---- statements

name_is : (x : Name) (s : Symbols) → IsFirstForm x s → int_min (form_value x.form.now s) (form_value x.other.now s) ≡ form_value x.form.now s
name_is x s first = omega (arith, ints, int_min_is (form_value x.form.now s) (form_value x.other.now s), first)

-- the loop alone, where the name is its first form
block_actions_are : (S : Setting) (s : Symbols) (body : Statement) (x : NamedLoop) (h : IsNamedLoop body x) → IsFirstForm x.name s → actions S body s ≡ actions S h.loop (in_name x.name s)
block_actions_are S s body x h first =
    let n = x.name in
    let z = int_min (form_value n.form.now s) (form_value n.other.now s) in
    ap (λ (a : Statement). actions S a s) h.is
    ∙ ap (λ (a : Statement). actions S (Seq (Then a (Then h.loop Empty))) s) h.name
    ∙ append-nil (actions S h.loop (bind s n.symbol z true))
    ∙ ap (λ (y : ℤ). actions S h.loop (bind s n.symbol y true)) (name_is n s first)

in_block : (Own : Symbols → Type 0) (s : Symbols) (body : Statement) (x : NamedLoop) (h : IsNamedLoop body x) → StatementIsNarrow Own body s →
    NameIsNarrow x.name s × StatementIsNarrow Own h.loop (bind s x.name.symbol (int_min (form_value x.name.form.now s) (form_value x.name.other.now s)) true)
in_block Own s body x h narrow =
    let n = x.name in
    let whole = subst (λ (a : Statement). StatementIsNarrow Own (Seq (Then a (Then h.loop Empty))) s) h.name (subst (λ (a : Statement). StatementIsNarrow Own a s) h.is narrow) in
    let forms = recursion_from_All (FormIsNarrow s) (n.form.now ∷ n.other.now ∷ []) whole.0 in
    ((forms.0, forms.1.0), whole.1.0)

pub name_narrow : (Own : Symbols → Type 0) (s : Symbols) (body : Statement) (x : NamedLoop) (h : IsNamedLoop body x) → StatementIsNarrow Own body s → NameIsNarrow x.name s
name_narrow Own s body x h narrow = (in_block Own s body x h narrow).0

loop_narrow : (Own : Symbols → Type 0) (s : Symbols) (body : Statement) (x : NamedLoop) (h : IsNamedLoop body x) → IsFirstForm x.name s → StatementIsNarrow Own body s →
    StatementIsNarrow Own h.loop (in_name x.name s)
loop_narrow Own s body x h first narrow =
    subst (λ (z : ℤ). StatementIsNarrow Own h.loop (bind s x.name.symbol z true)) (name_is x.name s first) (in_block Own s body x h narrow).1

pub named_fits : (own : Kept) (space : Space) (room n : ℕ) (body : Statement) (x : NamedLoop) → IsNamedLoop body x → StatementFits own space room body n → LineFits own space room (n + 1) x.inner
named_fits own space room n body x h fits =
    let whole = subst (λ (a : Statement). StatementFits own space room (Seq (Then a (Then h.loop Empty))) n) h.name (subst (λ (a : Statement). StatementFits own space room a n) h.is fits) in
    loops_fit own space room (n + 1) h.loop x.inner h.inner whole.2.0

-- ---- turns that go on alike

-- each of the outer loop's is one of its turns
turn_inside : (outer : Turns) (x : NamedLoop) (s : Symbols) (y : Alike) (h : AreAlike outer x s y) (p : ℕ) → p < h.turns.turns → Contains (between outer.low outer.high) (outer.low +ℤ pos p)
turn_inside outer x s y h p lt =
    let from : outer.low ≤ℤ (outer.low +ℤ pos p) = omega (arith, ints) in
    let to : (outer.low +ℤ pos p) ≤ℤ outer.high = omega (arith, ints, h.turns.outer_turns.to, h.first.to, lt) in
    between_has outer.low outer.high (outer.low +ℤ pos p) from to

-- and the name is its first form there
first_in : (outer : Turns) (x : NamedLoop) (s : Symbols) (y : Alike) (h : AreAlike outer x s y) (p : ℕ) → p < h.turns.turns → IsFirstForm x.name (in_turn outer (outer.low +ℤ pos p) s)
first_in outer x s y h p lt =
    let i = outer.symbol in
    let z = outer.low +ℤ pos p in
    let d : ℕ = nat_abs (h.last -ℤ z) in
    let is : h.last ≡ z +ℤ pos d = omega (arith, ints, h.turns.outer_turns.to, lt) in
    let flag = int_le h.last outer.low in
    earlier x.name s i z d flag (int_le z outer.low) h.slower (subst (λ (w : ℤ). IsFirstForm x.name (bind s i w flag)) is h.first.first)

pub next_is : (outer : Turns) (x : NamedLoop) (s : Symbols) (y : Alike) (h : AreAlike outer x s y) → y.next ≡ outer.low +ℤ pos h.turns.turns
next_is outer x s y h = h.turns.next ∙ h.turns.outer_turns.to

pub next_within : (outer : Turns) (x : NamedLoop) (s : Symbols) (y : Alike) (h : AreAlike outer x s y) → y.next ≤ℤ (outer.high +ℤ pos 1)
next_within outer x s y h = omega (arith, ints, h.turns.next, h.first.to)

pub next_from : (outer : Turns) (x : NamedLoop) (s : Symbols) (y : Alike) (h : AreAlike outer x s y) → outer.low ≤ℤ y.next
next_from outer x s y h = omega (arith, ints, next_is outer x s y h)

-- what they do is what the inner loop does at all their turns, while the outer one is in its first and the name is its first form
pub named_run : (x : Piece) (s : Symbols) (outer : Turns) (body : Statement) (both : NamedLoop) (y : Alike) (b : IsNamedLoop body both) (h : AreAlike outer both s y) →
    flat_map (λ z. actions (setting x) body (in_turn outer z s)) (rising outer.low h.turns.turns)
    ≡ flat_map (store_at x both.inner.line.buffer both.inner.line.coordinates.now (term_of both.inner.line.value.now) (in_name both.name (in_first outer s))
    y.turns.symbol y.turns.low both.inner.line.definition)
    (between y.turns.low y.turns.high)
named_run x s outer body both y b h =
    let S = setting x in
    let i = outer.symbol in
    let a = outer.low in
    let c = h.series.low in
    let n = h.series.count in
    let m = h.turns.turns in
    let j = both.inner.symbol in
    let line = both.inner.line in
    let cs = line.coordinates.now in
    let d = both.inner.line.definition in
    let at : Symbols → ℤ → List Action = λ t. store_at x line.buffer cs (term_of line.value.now) t j c d in
    let f : ℤ → ℤ → List Action = λ z. at (in_name both.name (in_turn outer z s)) in
    let g : ℤ → List Action = at (in_name both.name (in_first outer s)) in
    let each : (p : ℕ) → p < m → actions S body (in_turn outer (a +ℤ pos p) s) ≡ flat_map (f (a +ℤ pos p)) (rising c n) = λ p lt.
    let t = in_turn outer (a +ℤ pos p) s in
    block_actions_are S t body both b (first_in outer both s y h p lt)
    ∙ inner_actions S (in_name both.name t) b.loop both.inner b.inner c h.inner.high None n h.inner.lower h.inner.upper h.inner.turns in
    let turn : (p q : ℕ) → f (a +ℤ pos p) (c +ℤ pos q) ≡ g (c +ℤ pos (p * n + q)) = λ p q.
    let w = c +ℤ pos q in
    let v = c +ℤ pos (p * n + q) in
    let before = bind (in_name both.name (in_turn outer (a +ℤ pos p) s)) j w (int_le w c) in
    let after = bind (in_name both.name (in_first outer s)) j v (int_le v c) in
    let same = targets_turn cs both.name.form.now s i both.name.symbol j a c p q n (int_le (a +ℤ pos p) a) (int_le w c) (int_le a a) (int_le v c) true h.apart h.inner.coordinates in
    let store = stored_same S line.buffer d (map coordinate_of cs) (term_of line.value.now) before after same in
    λ k. store k ∷ [] in
    begun (λ z. actions S body (in_turn outer z s)) (λ z. flat_map (f z) (rising c n)) a m each
    ∙ rows f g a c n m turn
    ∙ ap (flat_map g) (sym (counted c y.turns.high (m * n) h.turns.all_turns))
    ∙ (λ k. flat_map (store_at x line.buffer cs (term_of line.value.now) (in_name both.name (in_first outer s)) (sym h.turns.symbol_is k) (sym h.turns.low k) d)
    (between (sym h.turns.low k) y.turns.high))

-- the forms of the store are narrow at all these turns
pub named_narrow : (Own : Symbols → Type 0) (s : Symbols) (outer : Turns) (body : Statement) (both : NamedLoop) (y : Alike) (b : IsNamedLoop body both) (h : AreAlike outer both s y) →
    ((z : ℤ) → Contains (between outer.low outer.high) z → StatementIsNarrow Own body (in_turn outer z s)) →
    (z : ℤ) → Contains (between y.turns.low y.turns.high) z →
    All (CoordinateIsNarrow (bind (in_name both.name (in_first outer s)) y.turns.symbol z (int_le z y.turns.low))) both.inner.line.coordinates.now
named_narrow Own s outer body both y b h narrow z inside =
    let i = outer.symbol in
    let a = outer.low in
    let c = h.series.low in
    let n = h.series.count in
    let m = h.turns.turns in
    let j = both.inner.symbol in
    let l = b.inner.is in
    let span = both.inner.span.now in
    let cs = both.inner.line.coordinates.now in
    let Narrow : ℕ → ℤ → Type 0 = λ k w. All (CoordinateIsNarrow (bind (in_name both.name (in_first outer s)) k w (int_le z y.turns.low))) cs in
    let listed : Contains (rising c (m * n)) z =
    subst (λ (zs : List ℤ). Contains zs z) (counted c y.turns.high (m * n) h.turns.all_turns) (subst (λ (k : ℤ). Contains (between k y.turns.high) z) h.turns.low inside) in
    let at : (p q : ℕ) → p < m → q < n → Narrow j (c +ℤ pos (p * n + q)) = λ p q few less.
    let w = c +ℤ pos q in
    let t = in_turn outer (a +ℤ pos p) s in
    let u = in_name both.name t in
    let here = loop_narrow Own t body both b (first_in outer both s y h p few) (narrow (a +ℤ pos p) (turn_inside outer both s y h p few)) in
    let loop = subst (λ (st : Statement). StatementIsNarrow Own st u) l.is (line_narrow Own u b.loop b.inner.loop b.inner.one here) in
    let from : c ≤ℤ w = omega (arith, ints) in
    let top : w ≤ℤ h.inner.high = omega (arith, ints, h.inner.turns.to, less) in
    let also = subst (λ (zs : List ℤ). Contains zs w) (sym (span_turns u span c h.inner.high None h.inner.lower h.inner.upper)) (between_has c h.inner.high w from top) in
    let flag = int_le w (largest u span.lower) in
    let now = bind u j w flag in
    let store = subst (λ (st : Statement). StatementIsNarrow Own st now) l.line.store.is (line_narrow Own now l.body l.line.line l.line.one (loop.1 w also)) in
    all_narrow cs both.name.form.now s i both.name.symbol j a c p q n (int_le (a +ℤ pos p) a) flag (int_le a a) (int_le z y.turns.low) true h.apart h.inner.coordinates
    (all_unmapped (λ (x : PlanCoordinate). IndexIsNarrow now x.index) coordinate_of cs store) in
    in_rising (m * n) c z (Narrow y.turns.symbol z) listed
    (λ k less is. in_rows m n k (Narrow y.turns.symbol z) less
    (λ p q few low same.
    let there : z ≡ c +ℤ pos (p * n + q) = is ∙ ap (λ (r : ℕ). c +ℤ pos r) same in
    subst (λ (r : ℕ). Narrow r z) (sym h.turns.symbol_is) (subst (Narrow j) (sym there) (at p q few low))))

-- and those of the name in the first
pub first_narrow : (Own : Symbols → Type 0) (s : Symbols) (outer : Turns) (body : Statement) (both : NamedLoop) (y : Alike) (b : IsNamedLoop body both) (h : AreAlike outer both s y) →
    ((z : ℤ) → Contains (between outer.low outer.high) z → StatementIsNarrow Own body (in_turn outer z s)) → NameIsNarrow both.name (in_first outer s)
first_narrow Own s outer body both y b h narrow =
    let same : outer.low +ℤ pos 0 ≡ outer.low = omega (arith, ints) in
    let has = subst (Contains (between outer.low outer.high)) same (turn_inside outer both s y h 0 h.turns.some) in
    name_narrow Own (in_first outer s) body both b (narrow outer.low has)

-- ---- symbols

pub name_bound : (old one two : Bindings) (b : Binding) (t : Turns) (x : Name) (v : ℤ) → one ≡ also old b → b ≡ record { symbol = t.symbol; value = t.low; first = int_le t.low t.low } →
    two ≡ also one (record { symbol = x.symbol; value = v; first = true }) → v ≡ form_value x.form.now (symbols_of one) → symbols_of two ≡ in_name x (in_first t (symbols_of old))
name_bound old one two b t x v first is second value =
    bound_now one two (record { symbol = x.symbol; value = v; first = true }) x.symbol v true second refl
    ∙ (λ k. bind (symbols_of one) x.symbol (value k) true) ∙ ap (in_name x) (bound_now old one b t.symbol t.low (int_le t.low t.low) first is)

one_fits : (old one : Bindings) (b : Binding) (n : ℕ) → one ≡ also old b → length old.bound + suc n < old.room → length one.bound + n < one.room
one_fits old one b n is fits =
    let count : length one.bound ≡ length old.bound + 1 = ap (λ (x : Bindings). length x.bound) is ∙ length-append old.bound (b ∷ []) in
    let room : one.room ≡ old.room = ap (λ (x : Bindings). x.room) is in
    omega (arith, count, room, fits)

-- two symbols have room where there is room for two and one more
pub both_fit : (old one two : Bindings) (b d : Binding) → one ≡ also old b → two ≡ also one d → length old.bound + 2 < old.room → length two.bound < two.room
both_fit old one two b d first second fits = let rest = one_fits one two d 0 second (one_fits old one b 1 first fits) in omega (arith, rest)

pub both_forgotten : (old one two : Bindings) (b d : Binding) (k : ℕ) → one ≡ also old b → two ≡ also one d → k ≡ length old.bound →
    record { grid = two.grid; bound = take k two.bound; grid_room = two.grid_room; room = two.room } ≡ old
both_forgotten old one two b d k first second e =
    (λ j. record { grid = two.grid; bound = take (e j) two.bound; grid_room = two.grid_room; room = two.room })
    ∙ kept old two (extends_both old one two (extends_also old one b first) (extends_also one two d second))

-- ---- ends

pub stops_too : (room : ℕ) (x y : Progress) (later : ℤ → Progress → Option Progress) (e : Stop) (whole : Option Progress) →
    EndsIn room (λ (_ : Unit {0}). x) (Err e) whole → GoesOn room y later (Err e) whole
stops_too room x y later Fault whole h = h
stops_too room x y later Full whole h = h

pub ends_too : (room : ℕ) (x y : Progress) (later : ℤ → Progress → Option Progress) (e : Stop) (whole : Option Progress) →
    GoesOn room y later (Err e) whole → EndsIn room (λ (_ : Unit {0}). x) (Err e) whole
ends_too room x y later Fault whole h = h
ends_too room x y later Full whole h = h
