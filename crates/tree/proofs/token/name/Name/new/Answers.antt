use Rattle.std.proofs.Common.{◌≡◌, ◌++◌, ◌-◌, ℕ, List, length, take, drop, sym, ap, subst, ◌∙◌, arith}
use Rattle.std.specs.Prelude.{replicate}
use Rattle.std.specs.Str.{IsAscii}
use Rattle.std.proofs.lemmas.Grind.{common_steps}
use Rattle.std.proofs.lemmas.List.{drop-replicate}
use Rattle.std.proofs.Math.Seq.{take-append_seam, drop-append_seam}
use Rattle.tree.proofs.token.name.Name.new.Goals as goal

kept_front : (text copied rest : List ℕ) → copied ≡ text → take (length text) (copied ++ rest) ≡ text
kept_front text copied rest e = ap (λ (x : List ℕ). take (length text) (x ++ rest)) e ∙ take-append_seam text rest

kept_back : (text copied : List ℕ) → copied ≡ text → drop (length text) (copied ++ drop (length text) (replicate 16 0)) ≡ replicate (16 - length text) 0
kept_back text copied e =
    ap (λ (x : List ℕ). drop (length text) (x ++ drop (length text) (replicate 16 0))) e
    ∙ drop-append_seam text (drop (length text) (replicate 16 0))
    ∙ drop-replicate (length text) 16 0

pub invariant_of-result : goal.invariant_of-result
invariant_of-result c = (
  omega arith,
  grind (arith, common_steps),
  kept_back c.args.text.now c.copy_from_slice.new.self c.copy_from_slice.ensures.after,
  subst IsAscii (sym (kept_front c.args.text.now c.copy_from_slice.new.self _ c.copy_from_slice.ensures.after)) c.requires,
)
