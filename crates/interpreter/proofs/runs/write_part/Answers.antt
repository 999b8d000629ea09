use Rattle.std.proofs.Common.{◌≡◌, ℕ, ◌<◌, ◌≤◌, length, take, ℤ, List, pos, ◌+ℤ◌, Some, sym, ap, ◌∙◌, subst, arith}
use Rattle.std.proofs.lemmas.List.{take-map}
use Rattle.tree.specs.Meaning.{typed}
use Rattle.tree.specs.Term.{term_of}
use Rattle.plan.specs.Symbols.{bind}
use Rattle.std.specs.Prelude.{int_le}
use Rattle.interpreter.specs.Bindings.{symbols_of}
use Rattle.interpreter.specs.Buffers.Blocks.{memory_of}
use Rattle.interpreter.specs.Buffers.Spots.{set_all, IsSpot}
use Rattle.interpreter.specs.Evaluation.Words.{word_at}
use Rattle.interpreter.specs.Pieces.{setting}
use Rattle.interpreter.specs.Runs.{numbers_of}
use Rattle.interpreter.specs.Targets.{known_number}
use Rattle.interpreter.proofs.SpotRuns.{run_set, finds_taken, take_few, length_taken}
use Rattle.interpreter.proofs.runs.write_part.Goals as goal

pub first_words-words-requires : goal.first_words-words-requires
first_words-words-requires c = subst (λ (zs : List ℕ). c.args.part.count ≤ length zs) (sym c.deref.ensures.value) c.requires.count

pub put_words-requires : goal.put_words-requires
put_words-requires c = λ k lt.
    let words = c.first_words-words.result.now in
    let few : length words ≤ c.args.part.count = subst (λ (zs : List ℕ). length zs ≤ c.args.part.count) (sym c.first_words-words.ensures) (take_few c.args.part.count c.deref.result.now) in
    c.in-Some.ensures.inside k (omega (arith, few, lt))

pub returns-in-Some-clause-run : goal.returns-in-Some-clause-run
returns-in-Some-clause-run c = λ d cell.
    let x = c.args.piece.now in
    let line = c.args.line.now in
    let part = c.args.part in
    let cs = line.coordinates.now in
    let old = c.args.state.now in
    let n = c.size_in-size.result in
    let s = symbols_of c.args.symbols.now in
    let spot = c.in-Some.spot in
    let zs : List ℕ = take part.count old.words.items in
    let words : List ℕ = c.first_words-words.result.now in
    let size : n ≡ (setting x).dimensions line.buffer = c.size_in-size.ensures ∙ c.requires.ready.sizes line.buffer in
    let same : words ≡ zs = c.first_words-words.ensures ∙ ap (take part.count) c.deref.ensures.value in
    let long : length words ≡ part.count = ap length same ∙ length_taken part.count old.words.items c.requires.count in
    let points : ℕ → List ℤ = λ k. numbers_of (take n cs) s part.turns.symbol part.turns.low (part.low +ℤ pos k) in
    let here : (k : ℕ) → k < length words → IsSpot old.memory line.buffer (points k) spot k = λ k lt.
    let z = part.low +ℤ pos k in
    subst (λ (p : List ℤ). IsSpot old.memory line.buffer p spot k)
    (ap (take n) (c.requires.known k) ∙ take-map (known_number (bind s part.turns.symbol z (int_le z part.turns.low))) n cs)
    (c.in-Some.ensures.lies k (omega (arith, lt, long))) in
    let set = c.put_words.ensures.set line.buffer points here in
    let all : set_all (memory_of old.memory) line.buffer points (λ k. typed c.args.ty (word_at c.args.ty zs k)) part.count ≡ Some (memory_of c.put_words.new.self) =
    (λ i. set_all (memory_of old.memory) line.buffer points (λ k. typed c.args.ty (word_at c.args.ty (sym same i) k)) (sym long i)) ∙ set in
    run_set x cell line.buffer d part.count n cs (term_of line.value.now) s part.turns.symbol part.turns.low part.low (memory_of old.memory) old.given.items c.args.ty zs
    c.requires.forms size (finds_taken x line.buffer part.count cs (term_of line.value.now) s part.turns.symbol part.turns.low part.low
    (memory_of old.memory) c.args.ty old.words.items c.requires.finds)
    (memory_of c.put_words.new.self) all
