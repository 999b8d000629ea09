-- Multiples and blocks of forms, one more behind others.
use Rattle.std.proofs.Common.{◌≡◌, ℕ, ◌-◌, ◌≤◌, Bool, true, List, [], ◌∷◌, ◌++◌, length, take, drop, get_or, Option, Some, None, Result, sym, ap, ◌∙◌, arith}
use Rattle.std.proofs.Math.Seq.{take-length}
use Rattle.std.specs.Prelude.{ℤ, if◌then◌else◌, IfOk}
use Rattle.std.proofs.lemmas.Result.{IfOk-weaker}
use Rattle.lin.specs.Forms.{Form}
use Rattle.lin.specs.declared.form.Multiple.{Multiple}
use Rattle.sched.specs.Standing.{◌>>=◌}
use Rattle.regions.specs.Needs.{is_multiple, plus_part, plus_parts, block_at, add_blocks}

-- a block more, and those of the other forms
pub blocks_more : {E : Type 0} (low n low' n' : ℤ) (f : Form) (rest fs before pushed : List Form) (o : Option Form) (b : Form) (r : Result (Option (List Form)) E) → low' ≡ low → n' ≡ n
    → fs ≡ f ∷ rest → o ≡ block_at low' n' f → o ≡ Some b → pushed ≡ before ++ b ∷ [] → IfOk r (λ blocks. blocks ≡ add_blocks low' n' pushed rest)
    → IfOk r (λ blocks. blocks ≡ add_blocks low n before fs)
blocks_more low n low' n' f rest fs before pushed o b r same_low same_n split found is more all =
    let here : add_blocks low n before fs ≡ add_blocks low' n' pushed rest =
    (λ i. add_blocks (sym same_low i) (sym same_n i) before (split i))
    ∙ (ap (λ (p : Option Form). p >>= λ c. add_blocks low' n' (before ++ c ∷ []) rest) (sym found ∙ is) ∙ ap (λ (l : List Form). add_blocks low' n' l rest) (sym more)) in
    IfOk-weaker r (λ blocks. blocks ≡ add_blocks low' n' pushed rest) (λ blocks. blocks ≡ add_blocks low n before fs) (λ blocks e. e ∙ sym here) all

split_at : (ts : List Multiple) (d : Multiple) → 1 ≤ length ts → ts ≡ get_or ts 0 d ∷ take (length ts - 1) (drop 1 ts)
split_at [] d some = absurd (omega (arith, some))
split_at (y ∷ ys) d some =
    let all : length (y ∷ ys) - 1 ≡ length ys = omega arith in
    λ i. y ∷ sym (ap (λ (n : ℕ). take n ys) all ∙ take-length ys) i

-- one term more, whose factor is divided, and the others
pub parts_more : {E : Type 0} (n n' : ℤ) (f g : Form) (d : Multiple) (ts : List Multiple) (o : Option Form) (r : Result (Option Form) E) → n' ≡ n → 1 ≤ length ts
    → is_multiple n' (get_or ts 0 d) ≡ true → o ≡ plus_part n' f (get_or ts 0 d) → o ≡ Some g → IfOk r (λ made. made ≡ plus_parts n' g (take (length ts - 1) (drop 1 ts)))
    → IfOk r (λ made. made ≡ plus_parts n f ts)
parts_more n n' f g d ts o r same some multiple part is rest =
    let t = get_or ts 0 d in
    let others = take (length ts - 1) (drop 1 ts) in
    let next : Bool → Option Form → Option Form = λ b p. if b then (p >>= λ h. plus_parts n' h others) else None in
    let here : plus_parts n f ts ≡ plus_parts n' g others =
    (λ i. plus_parts (sym same i) f (split_at ts d some i)) ∙ (λ i. next (multiple i) ((sym part ∙ is) i)) in
    IfOk-weaker r (λ made. made ≡ plus_parts n' g others) (λ made. made ≡ plus_parts n f ts) (λ made e. e ∙ sym here) rest
