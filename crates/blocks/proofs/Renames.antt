-- What is renamed, part by part.
use Rattle.std.specs.Prelude.{take, drop, get_or}
use Rattle.std.proofs.Common.{◌≡◌, ℕ, zero, suc, ◌+◌, ◌-◌, ◌≤◌, ◌<◌, List, [], ◌∷◌, ◌++◌, length, map, Option, Some, refl, ap, sym, ◌∙◌, arith}
use Rattle.std.proofs.lemmas.List.{map-append}
use Rattle.blocks.specs.declared.renaming.Renaming.{Renaming}
use Rattle.lin.specs.Forms.{Form, combined}
use Rattle.lin.specs.declared.form.Multiple.{Multiple}
use Rattle.sched.specs.Standing.{◌>>=◌}
use Rattle.sched.proofs.Claimed.{one_first}
use Rattle.sched.specs.Renamed.{Pairs, value_in, symbol, terms_renamed}
use Rattle.blocks.specs.Renamed.{own_pairs, pair_of}

pub bound : {A B : Type 0} (o : Option A) (f : A → Option B) (x : A) (r : Option B) → o ≡ Some x → f x ≡ r → (o >>= f) ≡ r
bound o f x r e h = ap (λ p. p >>= f) e ∙ h

pub own_none : (n : ℕ) (known : List Renaming) → n < 1 → known ≡ [] → map pair_of known ≡ own_pairs n
own_none zero known h e = ap (map pair_of) e
own_none (suc n) known h e = absurd (omega (arith, h))

pub own_last : (n last : ℕ) (known all : List Renaming) (r : Renaming) → n ≡ last + 1 → map pair_of known ≡ own_pairs last → all ≡ known ++ r ∷ [] → r.symbol ≡ last → r.name ≡ last
    → map pair_of all ≡ own_pairs n
own_last n last known all r e h a s k =
    let next : n ≡ suc last = omega (arith, e) in
    ap (map pair_of) a ∙ (map-append pair_of known (r ∷ []) ∙ ((λ i. h i ++ (s i, k i) ∷ []) ∙ sym (ap own_pairs next)))

-- the first of some multiples, and the others
pub first_there : (ts : List Multiple) (z : Multiple) → 1 ≤ length ts → ts ≡ get_or ts 0 z ∷ take (length ts - 1) (drop 1 ts)
first_there [] z some = absurd (omega (arith, some))
first_there (t ∷ ts) z some = one_first (t ∷ ts) t some refl

pub term_next : (m : Pairs) (t : Multiple) (ts : List Multiple) (made one : Form) (s : ℕ) → value_in m t.symbol ≡ Some s → combined made t.factor (symbol s) ≡ Some one
    → terms_renamed m ts one ≡ terms_renamed m (t ∷ ts) made
term_next m t ts made one s e f =
    sym (bound (value_in m t.symbol) (λ x. combined made t.factor (symbol x) >>= λ y. terms_renamed m ts y) s (terms_renamed m ts one) e
    (bound (combined made t.factor (symbol s)) (λ y. terms_renamed m ts y) one (terms_renamed m ts one) f refl))
