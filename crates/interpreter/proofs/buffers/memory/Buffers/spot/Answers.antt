use Rattle.std.proofs.Common.{◌≡◌, ◌∷◌, ◌+◌, List, Some, ℤ, get_or, position, sym, ap, ◌∙◌, subst, pos, w64}
use Rattle.std.specs.Prelude.{◌==◌, ◌&&◌, ◌+ℤ◌}
use Rattle.std.proofs.lemmas.Int.{to_z-of_z}
use Rattle.std.proofs.lemmas.List.Quantifiers.{position-Some}
use Rattle.std.proofs.lemmas.Option.{slice_get-get_or}
use Rattle.interpreter.specs.Buffers.Blocks.{Block}
use Rattle.interpreter.specs.Buffers.Raster.{LiesAt}
use Rattle.interpreter.proofs.buffers.memory.Buffers.spot.Goals as goal

pub returns-clause-lies : goal.returns-clause-lies
returns-clause-lies c = λ k lt.
    let blocks : List Block = c.args.self.now in
    let p : Block → _ = λ (block : Block). block.used && (c.args.buffer == block.number) in
    let found : position p blocks ≡ Some c.in_ok-found.found = sym (ap (position p) (c.deref.ensures.value ∙ c.self.view_is)) ∙ sym c.used_position.ensures ∙ c.in_ok-found.was in
    let block : Block = c.index.result.now in
    let is : block ≡ get_or blocks c.in_ok-found.found block = c.index.ensures ∙ ap (λ bs. get_or bs c.in_ok-found.found block) c.self.view_is in
    record {
      first = found;
      block = block;
      there = slice_get-get_or blocks c.in_ok-found.found block (position-Some p blocks c.in_ok-found.found block found).0 ∙ ap Some (sym is);
      lies = subst (λ (z : ℤ). LiesAt block.rooms ((z +ℤ pos k) ∷ c.args.others.now) (c.in_ok-place.place + k)) (to_z-of_z w64 c.args.first c.ranges.first) (c.in_ok-place.ensures.lies k lt);
    }

pub returns-clause-inside : goal.returns-clause-inside
returns-clause-inside c = λ k lt.
    let blocks : List Block = c.args.self.now in
    let p : Block → _ = λ (block : Block). block.used && (c.args.buffer == block.number) in
    let found : position p blocks ≡ Some c.in_ok-found.found = sym (ap (position p) (c.deref.ensures.value ∙ c.self.view_is)) ∙ sym c.used_position.ensures ∙ c.in_ok-found.was in
    let block : Block = c.index.result.now in
    let is : block ≡ get_or blocks c.in_ok-found.found block = c.index.ensures ∙ ap (λ bs. get_or bs c.in_ok-found.found block) c.self.view_is in
    record {
      block = block;
      there = slice_get-get_or blocks c.in_ok-found.found block (position-Some p blocks c.in_ok-found.found block found).0 ∙ ap Some (sym is);
      inside = c.in_ok-place.ensures.inside k lt;
    }
