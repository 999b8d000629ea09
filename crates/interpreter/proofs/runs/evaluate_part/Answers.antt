use Rattle.std.proofs.Common.{◌≡◌, ℕ, ◌<◌, ◌≤◌, length, ℤ, List, Some, pos, ◌+ℤ◌, map, sym, ap, ◌∙◌, subst, arith, rules, w64, SFits}
use Rattle.std.specs.Prelude.{All, int_le, string_bytes}
use Rattle.std.proofs.lemmas.Bool.{ltb-false}
use Rattle.std.proofs.lemmas.Int.{ints, to_z-of_z}
use Rattle.plan.specs.Symbols.{bind}
use Rattle.plan.specs.Semantics.Memory.{Memory}
use Rattle.plan.specs.Semantics.Run.{look}
use Rattle.plan.specs.Semantics.Found.{found}
use Rattle.tree.specs.declared.value.Value.{Value}
use Rattle.tree.specs.Meaning.{typed}
use Rattle.tree.specs.Term.{term_of}
use Rattle.meaning.specs.Names.{bound}
use Rattle.numeric.specs.declared.ty.Ty.{Ty}
use Rattle.interpreter.specs.Bindings.{symbols_of, Bindings}
use Rattle.interpreter.specs.Buffers.Blocks.{memory_of}
use Rattle.numeric.specs.Wrap.{wrap}
use Rattle.interpreter.specs.Evaluation.Words.{word_at}
use Rattle.interpreter.specs.Pieces.{around, no_cells}
use Rattle.interpreter.specs.Rows.{Listed}
use Rattle.interpreter.specs.Runs.{numbers_at, IsBut}
use Rattle.interpreter.specs.Targets.{known_number, CoordinateIsNarrow}
use Rattle.interpreter.specs.declared.symbols.Binding.{Binding}
use Rattle.interpreter.proofs.StoreRuns.{both_some, written_back}
use Rattle.interpreter.proofs.FoundRuns.{if_some}
use Rattle.interpreter.proofs.Moving.{numbers_moved}
use Rattle.interpreter.proofs.runs.evaluate_part.Goals as goal

pub numbers_in-requires-clause-narrow : goal.numbers_in-requires-clause-narrow
numbers_in-requires-clause-narrow c =
    let part = c.args.part in
    let s = symbols_of c.args.symbols.now in
    let cs = c.args.line.now.coordinates.now in
    let N : ℤ → Type 0 = λ z. All (CoordinateIsNarrow (bind s part.turns.symbol z (int_le z part.turns.low))) cs in
    let B : Binding → Type 0 = λ b. All (CoordinateIsNarrow (bind s b.symbol b.value b.first)) cs in
    let some : 0 < part.count = omega (arith, ltb-false) in
    let is : c.turn-first.result ≡ record { symbol = part.turns.symbol; value = part.low; first = int_le part.low part.turns.low } = first_of (search rules, search (rules, to_z-of_z)) in
    let same : part.low +ℤ pos 0 ≡ part.low = omega (arith, ints) in
    subst B (sym is) (subst N same (c.requires.narrow 0 some))

pub later_numbers-requires-clause-narrow : goal.later_numbers-requires-clause-narrow
later_numbers-requires-clause-narrow c =
    let part = c.args.part in
    let s = symbols_of c.args.symbols.now in
    let cs = c.args.line.now.coordinates.now in
    let B : Binding → Type 0 = λ b. All (CoordinateIsNarrow (bind s b.symbol b.value b.first)) cs in
    let C : Bindings → Type 0 = λ y. All (CoordinateIsNarrow (bind (symbols_of y) c.turn-second.result.symbol c.turn-second.result.value c.turn-second.result.first)) cs in
    let some : 1 < part.count = omega (arith, ltb-false) in
    let z = part.low +ℤ pos 1 in
    let fits : SFits w64 z = search rules in
    let is : c.turn-second.result ≡ record { symbol = part.turns.symbol; value = z; first = int_le z part.turns.low } = first_of (search rules, search (rules, to_z-of_z)) in
    subst C (sym c.numbers_in.ensures.symbols) (subst B (sym is) (c.requires.narrow 1 some))

pub later_numbers-requires-clause-numbers : goal.later_numbers-requires-clause-numbers
later_numbers-requires-clause-numbers c =
    let b = c.turn-first.result in
    let cs = c.args.line.now.coordinates.now in
    c.as_slice.ensures ∙ ap (λ (r : Listed). r.items) c.numbers_in.ensures.numbers
    ∙ ap (λ (y : Bindings). map (known_number (bind (symbols_of y) b.symbol b.value b.first)) cs) (sym c.numbers_in.ensures.symbols)

pub returns-clause-numbers : goal.returns-clause-numbers
returns-clause-numbers c =
    let part = c.args.part in
    let s = symbols_of c.args.symbols.now in
    let cs = c.args.line.now.coordinates.now in
    let z = part.low +ℤ pos 1 in
    let fits : SFits w64 z = search rules in
    let is : c.turn-first.result ≡ record { symbol = part.turns.symbol; value = part.low; first = int_le part.low part.turns.low } = first_of (search rules, search (rules, to_z-of_z)) in
    let is2 : c.turn-second.result ≡ record { symbol = part.turns.symbol; value = z; first = int_le z part.turns.low } = first_of (search rules, search (rules, to_z-of_z)) in
    let first : c.numbers_in.new.numbers.items ≡ map (known_number (bind s part.turns.symbol part.low (int_le part.low part.turns.low))) cs =
    ap (λ (r : Listed). r.items) c.numbers_in.ensures.numbers ∙ ap (λ (b : Binding). map (known_number (bind s b.symbol b.value b.first)) cs) is in
    let second : c.later_numbers.new.later.items ≡ map (known_number (bind s part.turns.symbol z (int_le z part.turns.low))) cs =
    ap (λ (r : Listed). r.items) c.later_numbers.ensures
    ∙ ap (λ (y : Bindings). map (known_number (bind (symbols_of y) c.turn-second.result.symbol c.turn-second.result.value c.turn-second.result.first)) cs) c.numbers_in.ensures.symbols
    ∙ ap (λ (b : Binding). map (known_number (bind s b.symbol b.value b.first)) cs) is2 in
    if_some c.evaluate_in.result (λ _. part.count ≤ length c.evaluate_in.new.words) _
    (λ t more k. (λ i. numbers_at (first i) (second i) k)
    ∙ sym (numbers_moved cs s part.turns.symbol part.low k (int_le part.low part.turns.low) (int_le z part.turns.low) (int_le (part.low +ℤ pos k) part.turns.low)))
    c.evaluate_in.ensures.count

pub returns-clause-finds : goal.returns-clause-finds
returns-clause-finds c =
    let part = c.args.part in
    let line = c.args.line.now in
    let x = c.args.piece.now in
    let s = symbols_of c.args.symbols.now in
    let cs = line.coordinates.now in
    let z = part.low +ℤ pos 1 in
    let fits : SFits w64 z = search rules in
    let names : List (List ℕ) = map (λ y. string_bytes y.variable) cs in
    let is : c.turn-first.result ≡ record { symbol = part.turns.symbol; value = part.low; first = int_le part.low part.turns.low } = first_of (search rules, search (rules, to_z-of_z)) in
    let is2 : c.turn-second.result ≡ record { symbol = part.turns.symbol; value = z; first = int_le z part.turns.low } = first_of (search rules, search (rules, to_z-of_z)) in
    let first : c.as_slice-2.result.now ≡ map (known_number (bind s part.turns.symbol part.low (int_le part.low part.turns.low))) cs =
    c.as_slice-2.ensures ∙ ap (λ (r : Listed). r.items) c.numbers_in.ensures.numbers ∙ ap (λ (b : Binding). map (known_number (bind s b.symbol b.value b.first)) cs) is in
    let second : c.as_slice-3.result.now ≡ map (known_number (bind s part.turns.symbol z (int_le z part.turns.low))) cs =
    c.as_slice-3.ensures ∙ ap (λ (r : Listed). r.items) c.later_numbers.ensures
    ∙ ap (λ (y : Bindings). map (known_number (bind (symbols_of y) c.turn-second.result.symbol c.turn-second.result.value c.turn-second.result.first)) cs) c.numbers_in.ensures.symbols
    ∙ ap (λ (b : Binding). map (known_number (bind s b.symbol b.value b.first)) cs) is2 in
    let P : Ty → Type 0 = λ t. (m : Memory Value) → IsBut line.buffer (memory_of c.args.state.now.memory) m → (k : ℕ) → k < part.count →
    found (bound names (numbers_at c.as_slice-2.result.now c.as_slice-3.result.now k)) (look (around x no_cells) m) (term_of line.value.now) ≡ Some (typed t (word_at t c.evaluate_in.new.words k)) in
    let C : Ty → Type 0 = λ _. part.count ≤ length c.evaluate_in.new.words in
    both_some c.evaluate_in.result C P _
    (λ t more h m but k lt.
    let inside : k < length c.evaluate_in.new.words = omega (arith, lt, more) in
    ap (λ (l : List ℤ). found (bound names l) (look (around x no_cells) m) (term_of line.value.now))
    (numbers_moved cs s part.turns.symbol part.low k (int_le part.low part.turns.low) (int_le z part.turns.low) (int_le (part.low +ℤ pos k) part.turns.low)
    ∙ (λ i. numbers_at (sym first i) (sym second i) k))
    ∙ h m but k lt ∙ ap (λ (w : ℕ). Some (typed t (wrap t (pos w)))) (sym (written_back c.args.state.now.words.len c.evaluate_in.new.words _ k (omega (arith, inside)) inside)))
    c.evaluate_in.ensures.count c.evaluate_in.ensures.finds
