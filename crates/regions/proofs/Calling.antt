-- The calls of an expression, one after another.
-- What crates below need of it stands there: `sched`.
use Rattle.std.proofs.Common.{◌≡◌, List, [], ◌++◌, sym, ap, ◌∙◌, append_assoc}
use Rattle.std.proofs.lemmas.List.{append-nil}
use Rattle.algo.specs.Scoping.Standing.{Written}
use Rattle.sched.proofs.Calling.{behind_three}

-- the calls of an update behind others
pub behind_change : (ws xs ys zs : List Written) → ((ws ++ xs) ++ ys) ++ zs ≡ ws ++ ((xs ++ ys) ++ zs)
behind_change ws xs ys zs = behind_three ws xs ys zs ∙ ap (λ (l : List Written). ws ++ l) (sym (append_assoc xs ys zs))

pub behind_none : (xs : List Written) → xs ≡ xs ++ []
behind_none xs = sym (append-nil xs)
