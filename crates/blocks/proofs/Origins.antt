-- Sums of forms within the limits, and the ends of split loops.
use Rattle.std.proofs.Common.{◌≡◌, ℕ, Bool, true, false, List, ◌∷◌, Option, Some, None, sym, ap, ◌∙◌}
use Rattle.std.specs.Prelude.{ℤ, if◌then◌else◌}
use Rattle.meaning.specs.Names.{same_name}
use Rattle.sched.specs.declared.schedule.Split.{Split}
use Rattle.sched.specs.declared.numbers.Numbers.{Numbers}
use Rattle.sched.specs.Numbers.{numbers_named}
use Rattle.blocks.specs.Blocks.{split_end, end_of}
use Rattle.lin.specs.Forms.{Form, plus_multiple, combined, are_within_limits}

abbrev some_or : Form → Option Form → Form
some_or d None = d
some_or d (Some f) = f

by_limits : (t : Bool) (f s : Form) → (if t then Some f else None) ≡ Some s → s ≡ f
by_limits true f s h = sym (ap (some_or s) h)
by_limits false f s h = ap (some_or f) (sym h)

-- a form and a multiple of another, where that is within the limits
pub combined_is : (a b s : Form) (k : ℤ) → combined a k b ≡ Some s → s ≡ plus_multiple a k b
combined_is a b s k h = by_limits (are_within_limits a k b) (plus_multiple a k b) s h

-- ---- halves of splits

pub split_ended : (rs : List Numbers) (x : List ℕ) (all rest : List Split) (c : Split) (own : Numbers) (o i : ℤ) → all ≡ c ∷ rest → same_name c.whole x ≡ true → own ≡ numbers_named rs x
    → o ≡ end_of rs c.outer rest → i ≡ end_of rs c.inner rest → split_end c own o i ≡ end_of rs x all
split_ended rs x all rest c own o i e same own_is o_is i_is =
    let here : split_end c own o i ≡ split_end c (numbers_named rs x) (end_of rs c.outer rest) (end_of rs c.inner rest) = (λ j. split_end c (own_is j) (o_is j) (i_is j)) in
    let there : split_end c (numbers_named rs x) (end_of rs c.outer rest) (end_of rs c.inner rest) ≡ end_of rs x (c ∷ rest) =
    (λ j. if sym same j then split_end c (numbers_named rs x) (end_of rs c.outer rest) (end_of rs c.inner rest) else end_of rs x rest) in
    here ∙ (there ∙ ap (end_of rs x) (sym e))
