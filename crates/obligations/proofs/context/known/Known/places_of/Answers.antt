use Rattle.std.proofs.Common.{◌≡◌, ◌+◌, List, ◌++◌, ◌∷◌, [], take, sym, ap, ◌∙◌}
use Rattle.std.specs.Prelude.{option_copied}
use Rattle.std.proofs.lemmas.List.{take_more}
use Rattle.soundness.specs.Obligations.{places_of}
use Rattle.obligations.specs.declared.context.known.Buffer.{Buffer}
use Rattle.obligations.specs.Context.Around.{buffers_of}
use Rattle.obligations.proofs.Bound.{places_here, places_there}
use Rattle.obligations.proofs.context.known.Known.places_of.Goals as goal
use Rattle.obligations.proofs.context.known.Known.places_of.Goals.{then-buffer-one, else-buffer-one}

pub loop-one-preserved : goal.loop-one-preserved
loop-one-preserved c =
    let xs = c.deref-one-items.result.now in
    let i = c.loop-one.one-index in
    let x : Buffer = c.one-item.result in
    let b = c.args.buffer in
    let more : take i xs ++ x ∷ [] ≡ take (i + 1) c.args.self.now.buffers.items =
    sym (take_more xs i x c.loop-one-test.true ∙ ap (λ (y : Buffer). take i xs ++ y ∷ []) (sym c.one-item.is)) ∙ ap (λ (l : List Buffer). take (i + 1) l) c.deref-one-items.ensures.value in
    let old = c.loop-one.invariant ∙ ap (λ (l : List Buffer). places_of (buffers_of (take i l)) b) (sym c.deref-one-items.ensures.value) in
    elim c.if-buffer-one.branch [
      | then-buffer-one w ↦ ap option_copied w.found-is ∙ places_here x (take i xs) b w.if-buffer-one.true ∙ ap (λ (l : List Buffer). places_of (buffers_of l) b) more
      | else-buffer-one w ↦ ap option_copied w.found-is ∙ old ∙ places_there x (take i xs) b w.if-buffer-one.false ∙ ap (λ (l : List Buffer). places_of (buffers_of l) b) more
    ]
