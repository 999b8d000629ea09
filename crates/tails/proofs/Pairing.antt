-- Guards and the names behind them.
use Rattle.std.proofs.Common.{◌≡◌, ℕ, ◌+◌, ◌<◌, List, [], ◌∷◌, ◌++◌, length, map, take, get_or, reverse, true, false, Some, refl, sym, ap, ◌∙◌, arith}
use Rattle.std.specs.Prelude.{◌≢◌, if◌then◌else◌}
use Rattle.std.proofs.lemmas.List.{map-append, take_more, reverse-append}
use Rattle.lin.specs.Forms.{Form}
use Rattle.plan.specs.declared.stmt.Pick.TheVariants.{Min, Max}
use Rattle.soundness.specs.Obligations.{Binder, Ranged, Picked, Passed}
use Rattle.tails.specs.declared.descent.Step.{Step as StepHeld}
use Rattle.tails.specs.Steps.{Step, along, binder}
use Rattle.tails.specs.View.{step_of}
use Rattle.tails.specs.Moves.{unguarded, then_more, paired, turned}
use Rattle.tails.specs.Held.{is_guard, paired_step}

pub along_more : (xs : List StepHeld) (k : ℕ) (x : StepHeld) → k < length xs → x ≡ get_or xs k x →
    along (map step_of (take (k + 1) xs)) ≡ binder (step_of x) ∷ along (map step_of (take k xs))
along_more xs k x h is =
    ap (λ (l : List StepHeld). along (map step_of l)) (take_more xs k x h ∙ ap (λ y. take k xs ++ y ∷ []) (sym is))
    ∙ ap (λ (l : List Step). reverse (map binder l)) (map-append step_of (take k xs) (x ∷ []))
    ∙ ap reverse (map-append binder (map step_of (take k xs)) (step_of x ∷ []))
    ∙ reverse-append (map binder (map step_of (take k xs))) (binder (step_of x) ∷ [])

unguarded_next : (low high : Form) (b : Binder) (bs : List Binder) → unguarded low high (b ∷ bs) ≡ (if is_guard low high b then Some bs else then_more b (unguarded low high bs))
unguarded_next low high (Ranged i x) bs = refl
unguarded_next low high (Picked i pick ls) bs = refl
unguarded_next low high (Passed l h) bs = refl

pub guard_here : (low high : Form) (b : Binder) (bs : List Binder) → is_guard low high b ≡ true → unguarded low high (b ∷ bs) ≡ Some bs
guard_here low high b bs h = unguarded_next low high b bs ∙ ap (λ v. if v then Some bs else then_more b (unguarded low high bs)) h

pub guard_later : (low high : Form) (b : Binder) (bs : List Binder) → is_guard low high b ≡ false → unguarded low high (b ∷ bs) ≡ then_more b (unguarded low high bs)
guard_later low high b bs h = unguarded_next low high b bs ∙ ap (λ v. if v then Some bs else then_more b (unguarded low high bs)) h

pub alone_many : (i : ℕ) (ls : List Form) (bs : List Binder) → length ls ≢ 2 → paired_step (Picked i Min ls) bs ≡ Picked i Min ls ∷ bs
alone_many i [] bs h = refl
alone_many i (a ∷ []) bs h = refl
alone_many i (a ∷ c ∷ []) bs h = absurd (h refl)
alone_many i (a ∷ c ∷ d ∷ ls) bs h = refl

pub paired_next : (b : Binder) (bs : List Binder) → paired (b ∷ bs) ≡ paired_step b (paired bs)
paired_next (Ranged i x) bs = refl
paired_next (Picked i Max ls) bs = refl
paired_next (Picked i Min []) bs = refl
paired_next (Picked i Min (a ∷ [])) bs = refl
paired_next (Picked i Min (a ∷ c ∷ [])) bs = refl
paired_next (Picked i Min (a ∷ c ∷ d ∷ ls)) bs = refl
paired_next (Passed low high) bs = refl

pub two_forms : (i : ℕ) (ls : List Form) (a c : Form) (bs : List Binder) → length ls ≡ 2 → a ≡ get_or ls 0 a → c ≡ get_or ls 1 c →
    paired_step (Picked i Min ls) bs ≡ turned i a c bs (unguarded a c bs)
two_forms i [] a c bs h p q = absurd (omega arith)
two_forms i (x ∷ []) a c bs h p q = absurd (omega arith)
two_forms i (x ∷ y ∷ []) a c bs h p q = (λ k. turned i (sym p k) (sym q k) bs (unguarded (sym p k) (sym q k) bs))
two_forms i (x ∷ y ∷ z ∷ ls) a c bs h p q = absurd (omega arith)
