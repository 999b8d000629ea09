-- Calls that are put in, or not.
use Rattle.std.proofs.Common.{◌≡◌, ℕ, ◌≤◌, Bool, true, false, ◌&&◌, List, Some, Result, Ok, Err, refl, sym, ap, ◌∙◌}
use Rattle.std.proofs.lemmas.Bool.{leb-true, le-leb}
use Rattle.std.specs.Prelude.{nat_le}
use Rattle.tree.specs.Term.{Term, term_of}
use Rattle.tree.specs.Tree.{node_count, depth}
use Rattle.tree.specs.declared.expr.Expr.{Expr}
use Rattle.meaning.specs.Algorithm.{Algorithm}
use Rattle.meaning.specs.Inlining.PutIn.{put_in}
use Rattle.subst.specs.Limits.{IsWithin}
use Rattle.subst.specs.PutIn.{PutsIn}
use Rattle.subst.specs.declared.error.SubstError.{SubstError}
use Rattle.subst.specs.declared.error.SubstError.TheVariants as error
use Rattle.blocks.specs.Stored.{is_small, put, Puts}

small_is : (t : Term) → IsWithin t → is_small t ≡ true
small_is t h = rw (le-leb (node_count t) 4096 h.0, le-leb (depth t) 256 h.1) refl

within : (m n : ℕ) (b d : Bool) → nat_le m 4096 ≡ b → nat_le n 256 ≡ d → b && d ≡ true → (m ≤ 4096) × (n ≤ 256)
within m n true true e f h = (leb-true m 4096 e, leb-true n 256 f)
within m n true false e f h = cc
within m n false d e f h = cc

large_is : (t : Term) → ¬ IsWithin t → (b : Bool) → is_small t ≡ b → b ≡ false
large_is t h true e = absurd (h (within (node_count t) (depth t) (nat_le (node_count t) 4096) (nat_le (depth t) 256) refl refl e))
large_is t h false e = refl

pub puts : (a : Algorithm) (stored : List Bool) (e : Term) (r : Result Expr SubstError) → PutsIn a stored e r → Puts r term_of (put a stored e)
puts a stored e (Ok x) h =
    let small : is_small (put_in a stored e) ≡ true = ap is_small (sym h.0) ∙ small_is (term_of x) h.2 in
    rw (h.1, small) (ap (λ (t : Term). Some t) (sym h.0))
puts a stored e (Err error.Memory) h = tt
puts a stored e (Err error.Updates) h = rw (h) refl
puts a stored e (Err error.TooLarge) h =
    let large : is_small (put_in a stored e) ≡ false = large_is (put_in a stored e) h.1 (is_small (put_in a stored e)) refl in
    rw (h.0, large) refl
