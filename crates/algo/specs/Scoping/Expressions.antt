-- Tests of calls against what can be called.
use Rattle.std.specs.Prelude.{ℕ, ◌==◌, List, Bool, false, Option, Some, None, is_some}
use Rattle.numeric.specs.declared.ty.Ty.{Ty}
use Rattle.tree.specs.Term.{Terms}
use Rattle.tree.specs.Typing.{index_count}

-- whether the call is of what can be called
abbrev pub is_known : (List ℕ → Option (Ty × ℕ)) → List ℕ → Terms → Bool
is_known calls name at = is_some (calls name)

-- whether something takes this many indices
abbrev pub takes : Option (Ty × ℕ) → ℕ → Bool
takes None count = false
takes (Some f) count = f.1 == count

-- whether the call has the right number of indices
abbrev pub takes_count : (List ℕ → Option (Ty × ℕ)) → List ℕ → Terms → Bool
takes_count calls name at = takes (calls name) (index_count at)
