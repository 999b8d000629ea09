-- The functions of an algorithm from one on.
-- What crates below need of it stands there: `sched`.
use Rattle.std.proofs.Common.{◌≡◌, ℕ, zero, suc, ◌-◌, ◌<◌, Bool, List, [], ◌∷◌, length, map, take, drop, None, refl, sym, ap, ◌∙◌, arith}
use Rattle.std.proofs.Math.Seq.{take-length}
use Rattle.std.specs.Prelude.{slice_get, get_or}
use Rattle.std.specs.declared.string.String.{String}
use Rattle.std.specs.Global.{Global}
use Rattle.meaning.specs.Algorithm.{Function, Algorithm}
use Rattle.algo.specs.declared.function.Function.{Function as Held}
use Rattle.algo.specs.Parts.{function_of, functions_of}
use Rattle.sched.specs.declared.placing.Subject.{Subject}
use Rattle.sched.specs.declared.placing.Placed.{Placed}
use Rattle.sched.specs.Placing.{SubjectText, PlacedText, subject_of, placed_of}
use Rattle.sched.specs.Stored.{StoredText}
use Rattle.blocks.specs.Stored.{before_stored, stored_among}

found_nowhere : {A B : Type 0} (f : A → B) (xs : List A) (n : ℕ) → slice_get xs n ≡ None → drop n (map f xs) ≡ []
found_nowhere f [] zero h = refl
found_nowhere f [] (suc n) h = refl
found_nowhere f (y ∷ ys) zero h = cc
found_nowhere f (y ∷ ys) (suc n) h = found_nowhere f ys n h

pub function_nowhere : (fs : List Function) (es : List (String Global × Held)) (n : ℕ) → functions_of es ≡ fs → slice_get es n ≡ None → drop n fs ≡ []
function_nowhere fs es n is h = ap (λ (gs : List Function). drop n gs) (sym is) ∙ found_nowhere function_of es n h

-- nothing is known of more functions
pub none_known : (a : Algorithm) (stored : List Bool) (fs : List Function) (us : List Subject) (ps : List PlacedText) → length us < 1 → stored_among a stored fs (map subject_of us) ps ≡ []
none_known a stored [] us ps lt = refl
none_known a stored (f ∷ fs) [] ps lt = refl
none_known a stored (f ∷ fs) (u ∷ us) ps lt = absurd (omega (arith, lt))

pub none_placed : (a : Algorithm) (stored : List Bool) (fs : List Function) (us : List SubjectText) (ps : List Placed) → length ps < 1 → stored_among a stored fs us (map placed_of ps) ≡ []
none_placed a stored [] us ps lt = refl
none_placed a stored (f ∷ fs) [] ps lt = refl
none_placed a stored (f ∷ fs) (u ∷ us) [] lt = refl
none_placed a stored (f ∷ fs) (u ∷ us) (p ∷ ps) lt = absurd (omega (arith, lt))

next_of : {A : Type 0} (x y : A) (xs : List A) → x ≡ get_or (y ∷ xs) 0 x → x ≡ y
next_of x y xs is = is

others_of : {A : Type 0} (x : A) (xs : List A) → take (length (x ∷ xs) - 1) (drop 1 (x ∷ xs)) ≡ xs
others_of x xs =
    let n : length (x ∷ xs) - 1 ≡ length xs = omega arith in
    ap (λ (k : ℕ). take k xs) n ∙ take-length xs

-- the stored ones of the others, and the next one before them
pub stored_next : (a : Algorithm) (stored : List Bool) (fs rest : List Function) (f : Function) (us : List Subject) (u : Subject) (ps : List Placed) (p : Placed) (found : List StoredText)
    → fs ≡ f ∷ rest → 0 < length us → u ≡ get_or us 0 u → 0 < length ps → p ≡ get_or ps 0 p
    → found ≡ stored_among a stored rest (map subject_of (take (length us - 1) (drop 1 us))) (map placed_of (take (length ps - 1) (drop 1 ps)))
    → before_stored a stored f.variables f.value f.changes (subject_of u) (placed_of p) found ≡ stored_among a stored fs (map subject_of us) (map placed_of ps)
stored_next a stored fs rest f [] u ps p found is lt first more second others = absurd (omega (arith, lt))
stored_next a stored fs rest f (v ∷ us) u [] p found is lt first more second others = absurd (omega (arith, more))
stored_next a stored fs rest f (v ∷ us) u (q ∷ ps) p found is lt first more second others =
    let here : u ≡ v = next_of u v us first in
    let there : p ≡ q = next_of p q ps second in
    let known : found ≡ stored_among a stored rest (map subject_of us) (map placed_of ps) =
    others ∙ (λ i. stored_among a stored rest (map subject_of (others_of v us i)) (map placed_of (others_of q ps i))) in
    (λ i. before_stored a stored f.variables f.value f.changes (subject_of (here i)) (placed_of (there i)) (known i))
    ∙ ap (λ (gs : List Function). stored_among a stored gs (subject_of v ∷ map subject_of us) (placed_of q ∷ map placed_of ps)) (sym is)
