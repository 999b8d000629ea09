use Rattle.std.proofs.Common.{◌≡◌, ◌+◌, ◌≤◌, ℕ, List, Option, Some, length, map, sym, ap, ◌∙◌, subst}
use Rattle.std.specs.Prelude.{MatchOption, ⊤, string_bytes}
use Rattle.plan.specs.declared.stmt.Coordinate.{Coordinate}
use Rattle.plan.specs.Semantics.Found.{found}
use Rattle.meaning.specs.Names.{bound}
use Rattle.tree.specs.Term.{Term, term_of}
use Rattle.interpreter.specs.declared.code.Code.{Code}
use Rattle.interpreter.specs.Evaluation.Indices.{indices_in}
use Rattle.interpreter.specs.LineCodes.{code_in, IsCodeOf}
use Rattle.interpreter.specs.Pieces.{found_in}
use Rattle.interpreter.proofs.store.line_value.Goals as goal

-- the code that was found is the line's
coded : (names : List (List ℕ)) (e : Term) (o : Option Code) (x : Code) → o ≡ Some x → MatchOption o ⊤ (IsCodeOf names e) → IsCodeOf names e x
coded names e o x is h = subst (λ (p : Option Code). MatchOption p ⊤ (IsCodeOf names e)) is h

pub value_by-requires-clause-placed : goal.value_by-requires-clause-placed
value_by-requires-clause-placed c =
    let r = c.args.reading.now in
    let names = map (λ (x : Coordinate). string_bytes x.variable) r.coordinates.now in
    (coded names (term_of c.args.value.now) (code_in r.piece.now.codes.now c.args.buffer c.args.definition) c.in-Some.code.now c.in-Some.ensures c.requires.code).placed

pub value_by-requires-clause-room : goal.value_by-requires-clause-room
value_by-requires-clause-room c =
    let r = c.args.reading.now in
    let names = map (λ (x : Coordinate). string_bytes x.variable) r.coordinates.now in
    let is = coded names (term_of c.args.value.now) (code_in r.piece.now.codes.now c.args.buffer c.args.definition) c.in-Some.code.now c.in-Some.ensures c.requires.code in
    subst (λ (t : Term). length c.args.stack.now.items + indices_in t ≤ c.args.stack.now.room) (sym is.term) c.requires.room

pub returns-in-Some-clause-value : goal.returns-in-Some-clause-value
returns-in-Some-clause-value c =
    let r = c.args.reading.now in
    let names = map (λ (x : Coordinate). string_bytes x.variable) r.coordinates.now in
    let is = coded names (term_of c.args.value.now) (code_in r.piece.now.codes.now c.args.buffer c.args.definition) c.in-Some.code.now c.in-Some.ensures c.requires.code in
    c.value_by.ensures.value ∙ ap (found (bound names r.numbers.now) (found_in r.piece.now r.memory.now)) is.term
