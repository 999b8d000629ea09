use Rattle.std.proofs.Common.{◌≡◌, ◌+◌, ◌≤◌, List, ℤ, ℕ, ◌++◌, length, sym, ap, ◌∙◌, subst, map, take, drop, arith, Option, Some, None}
use Rattle.std.specs.Prelude.{All}
use Rattle.std.proofs.Math.Seq.{take-append_seam}
use Rattle.std.proofs.lemmas.List.Elements.{All-take}
use Rattle.plan.specs.declared.stmt.Coordinate.{Coordinate}
use Rattle.interpreter.specs.Evaluation.Indices.{indices_in}
use Rattle.std.specs.Prelude.{string_bytes}
use Rattle.tree.specs.declared.value.Value.{Value}
use Rattle.tree.specs.Term.{term_of}
use Rattle.meaning.specs.Names.{bound}
use Rattle.plan.specs.Semantics.Found.{with, found}
use Rattle.plan.specs.Semantics.Run.{found_target, look}
use Rattle.interpreter.specs.Bindings.{symbols_of}
use Rattle.interpreter.specs.Pieces.{around, no_cells, setting}
use Rattle.interpreter.specs.States.{progress_of, EndsIn}
use Rattle.interpreter.specs.Steps.{Progress}
use Rattle.interpreter.specs.Targets.{indices_of_all, target_of, known_number, CoordinateIsNarrow}
use Rattle.interpreter.specs.Rows.{Listed}
use Rattle.interpreter.proofs.Fitting.{indices_of_part, part_short, parts}
use Rattle.interpreter.proofs.Storing.{store_steps, sets}
use Rattle.interpreter.proofs.store.store.Goals as goal

pub find_point-requires-clause-narrow : goal.find_point-requires-clause-narrow
find_point-requires-clause-narrow c =
    let P : Coordinate → Type 0 = CoordinateIsNarrow (symbols_of c.args.symbols.now) in
    subst (λ (l : List Coordinate). All P l) (sym c.of_function-place.ensures) (All-take P c.size_in-count.result c.args.coordinates.now c.requires.narrow)

pub find_point-requires-clause-room : goal.find_point-requires-clause-room
find_point-requires-clause-room c =
    let short = part_short c.args.coordinates.now c.size_in-count.result in
    subst (λ (l : List Coordinate). length l ≤ c.args.state.now.point.room) (sym c.of_function-place.ensures) (omega (arith, short, c.requires.point))

pub find_point-requires-clause-stack : goal.find_point-requires-clause-stack
find_point-requires-clause-stack c =
    let fewer = indices_of_part c.size_in-count.result c.args.coordinates.now in
    subst (λ (r : Listed). length r.items + indices_of_all c.of_function-place.result.now ≤ r.room) (sym c.clear.ensures)
    (subst (λ (l : List Coordinate). 0 + indices_of_all l ≤ c.args.state.now.stack.room) (sym c.of_function-place.ensures) (omega (arith, fewer, c.requires.stack)))

pub append-requires : goal.append-requires
append-requires c =
    let cs = c.args.coordinates.now in
    let n = c.size_in-count.result in
    let s = symbols_of c.args.symbols.now in
    let whole = parts (known_number s) cs n in
    let front : length c.find_point.new.point.items ≡ length (take n cs) = c.in-Some.ensures.count ∙ ap length c.of_function-place.ensures in
    let back : length c.of_reduction.result.now ≡ length (drop n (map (known_number s) cs)) =
    ap length (c.of_reduction.ensures ∙ ap (drop n) (c.as_slice-2.ensures ∙ ap (λ (r : Listed). r.items) c.known_numbers.ensures)) in
    omega (arith, whole, front, back, c.find_point.ensures.room, c.requires.point)

pub line_value-requires-clause-room : goal.line_value-requires-clause-room
line_value-requires-clause-room c =
    let k = indices_in (term_of c.args.value.now) in
    subst (λ (r : Listed). length r.items + k ≤ r.room) (sym (c.find_point.ensures.stack ∙ c.clear.ensures)) (omega (arith, c.requires.stack))

pub returns-in_default-clause-store : goal.returns-in_default-clause-store
returns-in_default-clause-store c = λ k cell.
    let x = c.args.piece.now in
    let p = progress_of c.args.state.now in
    let m = p.memory in
    let cs = c.args.coordinates.now in
    let s = symbols_of c.args.symbols.now in
    let n = c.size_in-count.result in
    let at = c.of_function-place.result.now in
    let names : List (List ℕ) = map (λ y. string_bytes y.variable) cs in
    let ns = c.as_slice.result.now in
    let known : ns ≡ map (known_number s) cs = c.as_slice.ensures ∙ ap (λ (r : Listed). r.items) c.known_numbers.ensures in
    let size : n ≡ (setting x).dimensions c.args.buffer = c.size_in-count.ensures ∙ c.requires.ready.sizes c.args.buffer in
    let find : List ℤ → Option Value = λ l. found (bound names l) (look (around x no_cells) m) (term_of c.args.value.now) in
    let o : Option (List ℤ) = found_target (around x no_cells) (bound names ns) (map (target_of s) at) m in
    let go : List ℤ → Option Progress = λ l. with (find (l ++ drop n ns)) (sets c.args.buffer p l) in
    let head = store_steps x cell c.args.buffer k n cs at ns (term_of c.args.value.now) s p size known c.of_function-place.ensures in
    let none : o ≡ None = c.in_default.ensures.point in
    head ∙ ap (λ (q : Option (List ℤ)). with q go) none

pub returns-in_default-line_value-clause-store : goal.returns-in_default-line_value-clause-store
returns-in_default-line_value-clause-store c = λ k cell.
    let x = c.args.piece.now in
    let p = progress_of c.args.state.now in
    let m = p.memory in
    let cs = c.args.coordinates.now in
    let s = symbols_of c.args.symbols.now in
    let n = c.size_in-count.result in
    let at = c.of_function-place.result.now in
    let names : List (List ℕ) = map (λ y. string_bytes y.variable) cs in
    let ns = c.as_slice.result.now in
    let known : ns ≡ map (known_number s) cs = c.as_slice.ensures ∙ ap (λ (r : Listed). r.items) c.known_numbers.ensures in
    let size : n ≡ (setting x).dimensions c.args.buffer = c.size_in-count.ensures ∙ c.requires.ready.sizes c.args.buffer in
    let find : List ℤ → Option Value = λ l. found (bound names l) (look (around x no_cells) m) (term_of c.args.value.now) in
    let o : Option (List ℤ) = found_target (around x no_cells) (bound names ns) (map (target_of s) at) m in
    let go : List ℤ → Option Progress = λ l. with (find (l ++ drop n ns)) (sets c.args.buffer p l) in
    let head = store_steps x cell c.args.buffer k n cs at ns (term_of c.args.value.now) s p size known c.of_function-place.ensures in
    let q = c.find_point.new.point.items in
    let here : o ≡ Some q = c.in-Some.ensures.point in
    let reduced : c.of_reduction.result.now ≡ drop n ns = c.of_reduction.ensures ∙ ap (drop n) (c.as_slice-2.ensures ∙ sym c.as_slice.ensures) in
    let rest : c.as_slice-3.result.now ≡ q ++ drop n ns = c.as_slice-3.ensures ∙ ap (λ (r : Listed). r.items) c.append.ensures ∙ ap (λ (l : List ℤ). q ++ l) reduced in
    let placed = head ∙ ap (λ (l : Option (List ℤ)). with l go) here ∙ ap (λ (l : List ℤ). with (find l) (sets c.args.buffer p q)) (sym rest) in
    let none : find c.as_slice-3.result.now ≡ None = sym c.line_value.ensures.value ∙ c.in_default-line_value.is in
    placed ∙ ap (λ (l : Option Value). with l (sets c.args.buffer p q)) none

pub returns-clause-store : goal.returns-clause-store
returns-clause-store c = λ k cell.
    let x = c.args.piece.now in
    let p = progress_of c.args.state.now in
    let m = p.memory in
    let cs = c.args.coordinates.now in
    let s = symbols_of c.args.symbols.now in
    let n = c.size_in-count.result in
    let at = c.of_function-place.result.now in
    let names : List (List ℕ) = map (λ y. string_bytes y.variable) cs in
    let ns = c.as_slice.result.now in
    let known : ns ≡ map (known_number s) cs = c.as_slice.ensures ∙ ap (λ (r : Listed). r.items) c.known_numbers.ensures in
    let size : n ≡ (setting x).dimensions c.args.buffer = c.size_in-count.ensures ∙ c.requires.ready.sizes c.args.buffer in
    let find : List ℤ → Option Value = λ l. found (bound names l) (look (around x no_cells) m) (term_of c.args.value.now) in
    let o : Option (List ℤ) = found_target (around x no_cells) (bound names ns) (map (target_of s) at) m in
    let go : List ℤ → Option Progress = λ l. with (find (l ++ drop n ns)) (sets c.args.buffer p l) in
    let head = store_steps x cell c.args.buffer k n cs at ns (term_of c.args.value.now) s p size known c.of_function-place.ensures in
    let q = c.find_point.new.point.items in
    let here : o ≡ Some q = c.in-Some.ensures.point in
    let reduced : c.of_reduction.result.now ≡ drop n ns = c.of_reduction.ensures ∙ ap (drop n) (c.as_slice-2.ensures ∙ sym c.as_slice.ensures) in
    let rest : c.as_slice-3.result.now ≡ q ++ drop n ns = c.as_slice-3.ensures ∙ ap (λ (r : Listed). r.items) c.append.ensures ∙ ap (λ (l : List ℤ). q ++ l) reduced in
    let placed = head ∙ ap (λ (l : Option (List ℤ)). with l go) here ∙ ap (λ (l : List ℤ). with (find l) (sets c.args.buffer p q)) (sym rest) in
    let v = c.in-Some-line_value.found in
    let some : find c.as_slice-3.result.now ≡ Some v = sym c.line_value.ensures.value ∙ c.in-Some-line_value.is in
    let done = placed ∙ ap (λ (l : Option Value). with l (sets c.args.buffer p q)) some in
    let long : length at ≡ length q = sym c.in-Some.ensures.count in
    let behind : c.append.new.self.items ≡ q ++ c.of_reduction.result.now = ap (λ (r : Listed). r.items) c.append.ensures in
    let cut : c.truncate.new.self.items ≡ q =
    ap (λ (r : Listed). r.items) c.truncate.ensures ∙ (λ i. take (long i) (behind i)) ∙ take-append_seam q c.of_reduction.result.now in
    subst (λ (r : Option Progress). EndsIn c.args.state.now.given.room (λ (_ : Unit {0}). progress_of c.set.new.state) c.set.result r) (ap (λ (l : List ℤ). sets c.args.buffer p l v) cut ∙ sym done) c.set.ensures.set
