use Rattle.std.proofs.Common.{◌≡◌, ◌+◌, ◌<◌, ◌++◌, ◌∙◌, ℕ, ℤ, pos, List, get_or, length, ap, sym, subst, arith}
use Rattle.std.specs.Prelude.{slice_index}
use Rattle.std.proofs.lemmas.List.{append_assoc, get_or-drop, get_or-take, length-append, length-map}
use Rattle.board.specs.Layout.{value_at}
use Rattle.board.specs.Seen.{seen_bits}
use Rattle.board.specs.Sheets.{IsPutCell}
use Rattle.board.specs.Words.{bits_of}
use Rattle.crew.specs.Private.{words_at}
use Rattle.crew.proofs.Looking.{told_in_two}
use Rattle.crew.proofs.alone.look_at.Goals as goal

pub look_at_part-requires-clause-put : goal.look_at_part-requires-clause-put
look_at_part-requires-clause-put g c k lt =
    let rest : List ℕ = c.loop-rest.rest.now in
    let n : ℕ = c.min.result in
    let front : List ℕ = c.split_at.result.0.now in
    let here : k < n = omega (arith, lt, c.split_at.ensures.front_len) in
    let same : slice_index rest k ≡ slice_index front k = sym (get_or-take n rest k 0 here) ∙ ap (λ (xs : List ℕ). get_or xs k 0) (sym c.split_at.ensures.front) in
    subst (λ (d : ℕ). IsPutCell g.J.Run.layout g.J.Run.values (seen_bits c.args.seen.now) d) same (c.loop-rest.invariant.put k (omega (arith, lt, c.split_at.ensures.front_len, c.min.ensures)))

pub loop-rest-preserved : goal.loop-rest-preserved
loop-rest-preserved g c =
    let V : List ℤ = g.J.Run.values in
    let rest : List ℕ = c.loop-rest.rest.now in
    let n : ℕ = c.min.result in
    let front : List ℕ = c.split_at.result.0.now in
    let back : List ℕ = c.split_at.result.1.now in
    let items : List ℤ = c.loop-rest.looked.looked.items in
    let long = ap length c.look_at_part.ensures.words ∙ length-append items (words_at V front) in
    let told : length (words_at V front) ≡ length front = length-map front (λ d. pos (bits_of (value_at V d))) in
    record {
      cells = c.look_at_part.ensures.same.0 ∙ c.loop-rest.invariant.cells;
      piece = c.look_at_part.ensures.same.1 ∙ c.loop-rest.invariant.piece;
      words = ap (λ zs. zs ++ words_at V back) c.look_at_part.ensures.words ∙ append_assoc items (words_at V front) (words_at V back)
          ∙ ap (λ zs. items ++ zs) ((λ i. words_at V (c.split_at.ensures.front i) ++ words_at V (c.split_at.ensures.back i)) ∙ told_in_two V n rest) ∙ c.loop-rest.invariant.words;
      left = omega (arith, long, told, c.look_at_part.ensures.room, c.loop-rest.invariant.left, c.split_at.ensures.front_len, c.split_at.ensures.back_len, c.min.ensures);
      room = c.look_at_part.ensures.room ∙ c.loop-rest.invariant.room;
      put = λ k lt.
          let same : slice_index rest (n + k) ≡ slice_index back k = sym (get_or-drop n rest k 0) ∙ ap (λ (xs : List ℕ). get_or xs k 0) (sym c.split_at.ensures.back) in
          subst (λ (d : ℕ). IsPutCell g.J.Run.layout V (seen_bits c.args.seen.now) d) same (c.loop-rest.invariant.put (n + k) (omega (arith, lt, c.split_at.ensures.back_len)));
    }
