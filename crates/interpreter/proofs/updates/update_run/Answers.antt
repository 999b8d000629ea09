use Rattle.std.proofs.Common.{◌≡◌, ◌≤◌, ◌*◌, ◌++◌, ℕ, ℤ, List, drop, take, length, map, sym, ap, ◌∙◌, arith}
use Rattle.std.specs.Prelude.{string_bytes}
use Rattle.std.proofs.Math.Seq.{drop-append_seam, take-append_seam}
use Rattle.std.proofs.Math.Nat.{mul-le-mul_right}
use Rattle.std.proofs.lemmas.Bool.{ltb-false}
use Rattle.std.proofs.lemmas.List.{length-append, length-drop}
use Rattle.tree.specs.Term.{term_of}
use Rattle.meaning.specs.Names.{bound}
use Rattle.plan.specs.Semantics.Found.{found}
use Rattle.plan.specs.Semantics.Run.{look}
use Rattle.interpreter.specs.Evaluation.Lanes.{number_at}
use Rattle.interpreter.specs.Pieces.{around, no_cells}
use Rattle.interpreter.specs.Runs.{numbers_at}
use Rattle.interpreter.specs.Updates.{columns_at, operation_at, update_numbers}
use Rattle.interpreter.specs.declared.evaluation.lanes.Number.{Number}
use Rattle.interpreter.proofs.UpdateNumbers.{numbers_found, update_front}
use Rattle.interpreter.proofs.Updating.{columns_length, columns_same, columns_take, front_number, front_same, numbers_length}
use Rattle.interpreter.proofs.updates.update_run.Goals as goal

pub returns-clause-finds : goal.returns-clause-finds
returns-clause-finds c = λ m but k lt.
    let r = c.args.reader.now in
    let b = r.buffer in
    let L = look (around r.piece.now no_cells) m in
    let n = c.args.count in
    let cs = r.coordinates.now in
    let w = length cs in
    let size = c.args.size in
    let names : List (List ℕ) = map (λ x. string_bytes x.variable) cs in
    let mid : List Number = c.coordinates_run.new.registers in
    let mine : List Number = c.split_at_mut-columns.result.0.now in
    let back : List Number = c.split_at_mut-columns.result.1.now in
    let rest : List Number = c.operation_run.new.registers in
    let start : ℕ = c.in_ok-start.start in
    let wide : length mine ≡ start = c.split_at_mut-columns.ensures.front_len in
    let width : start ≡ w * n = c.in_ok-start.ensures.1 in
    let behind : rest ≡ drop start (mine ++ rest) = sym (drop-append_seam mine rest) ∙ ap (λ (l : ℕ). drop l (mine ++ rest)) wide in
    let whole : mid ≡ mine ++ back = c.split_at_mut-columns.ensures.value in
    let within : size ≤ w = omega (arith, ltb-false) in
    let few : size * n ≤ w * n = mul-le-mul_right n within in
    let kept : columns_at n size (mine ++ rest) k ≡ columns_at n size mid k =
    columns_same n size k mid (mine ++ rest) lt (λ j less. front_same mine rest back j (omega (arith, less, wide, width, few)) ∙ ap (λ (zs : List Number). number_at zs j) (sym whole)) in
    let read : columns_at n size (mine ++ rest) k ≡ columns_at n size mine k =
    columns_same n size k mine (mine ++ rest) lt (λ j less. front_number mine rest j (omega (arith, less, wide, width, few))) in
    let known = numbers_at r.first.now r.second.now k in
    let ys : List ℤ = columns_at n size mid k ++ drop size known in
    let place = c.in_ok-coordinates_run.ensures m but k lt in
    let there : length known ≡ w = numbers_length r.first.now r.second.now k ∙ omega (arith, ltb-false) in
    let long : length (columns_at n size mid k) ≡ size = columns_length n size k mid in
    let all : length ys ≡ length (columns_at n w mine k) =
    omega (arith, length-append (columns_at n size mid k) (drop size known), length-drop size known, long, there, within, columns_length n w k mine) in
    let point : take size ys ≡ columns_at n size mid k = ap (λ (l : ℕ). take l ys) (sym long) ∙ take-append_seam (columns_at n size mid k) (drop size known) in
    let alike : take size ys ≡ take size (columns_at n w mine k) = point ∙ sym kept ∙ read ∙ sym (columns_take n size w k mine within) in
    let told : ys ≡ update_numbers size cs known (columns_at n w mine k) = numbers_found _ L cs size known ys place ∙ update_front size cs known ys (columns_at n w mine k) alike all in
    record {
      numbers = ys;
      place = place;
      point = point ∙ sym kept;
      value =
          ap (λ (l : List ℤ). found (bound names l) L (term_of c.args.value.now)) told
          ∙ c.in_ok-operation.ensures.finds m but k lt
          ∙ ap (λ (zs : List Number). operation_at n c.in_ok-operation.operation zs m b k) behind;
    }
